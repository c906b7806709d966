-- `filling::fill_last` meets its contract. Assumes nothing.
use mathlib.Core.Path.{◌≡◌, refl, sym}
use Prim.Native.Nat.{ℕ}
use native.Mathlib.Omega.{arith}
use borrow.Author.Rules.{rules}
use lib.ListN.{length-replicate}
use Rattle.salvage_passes.proofs.Batches.{room-local}
use Rattle.salvage_passes.proofs.Fillings.{filling-stands, local-first, last-clean, last-room, filling-last}
use Rattle.salvage_passes.proofs.filling.fill_last.Goals as goal

pub last-after-requires : goal.last-after-requires
last-after-requires c = filling-stands c.requires.by_index.2

pub gather-requires : goal.gather-requires
gather-requires c = let p = c.requires in
    (p.n_le_most_entries.0, p.n_le_most_entries.1, c.last-after.ensures.0, room-local _ _ p.by_index.2.family (length-replicate {A = ℕ} 69648 0))

pub entry-x-requires : goal.entry-x-requires
entry-x-requires c = let p = c.requires in
    local-first (room-local _ _ p.by_index.2.family (length-replicate {A = ℕ} 69648 0)) c.gather.ensures

pub put_entry-requires : goal.put_entry-requires
put_entry-requires c = let p = c.requires in
    let k = rw c.last-after.ensures.1 at c.gather.ensures in
    let r = last-room p.by_index.2 p.n_le_most_entries.2 k in
    (rw c.entry-x.ensures.value (last-clean p.by_index.2 p.n_le_most_entries.2 k (rw c.entry-x.ensures.value at c.entry-x.ensures.result_bound)), r.0, r.1)

pub returns : goal.returns
returns c v T o = let p = c.requires in
    filling-last o p.n_le_most_entries.2 (rw c.last-after.ensures.1 at c.gather.ensures) _ c.entry-x.ensures.value c.entry-x.ensures.result_bound c.put_entry.ensures
