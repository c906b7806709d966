-- `squeezing::thin_one` meets its contract, where the entry is dropped and where it is kept. Assumes nothing.
use mathlib.Core.Path.{refl, sym, ◌∙◌}
use native.Mathlib.Omega.{arith}
use Rattle.salvage_batch.proofs.Thinnings.{thinning-fits, thinning-clean, thinning-drop, thinning-room, thinning-keep}
use Rattle.salvage_batch.proofs.squeezing.thin_one.Goals as goal

pub entry-x-requires : goal.entry-x-requires
entry-x-requires c = let p = c.requires in thinning-fits p.2 p.3

pub is_in-requires : goal.is_in-requires
is_in-requires c = let p = c.requires in
    (_, p.2.last, thinning-clean p.2 (λ i. omega (arith, c.slice_known-1.given i)) p.3 _ c.entry-x.ensures.value)

pub returns-then-is_in : goal.returns-then-is_in
returns-then-is_in c n v o h = thinning-drop o (λ i. omega (arith, c.slice_known-1.given i)) h _ c.entry-x.ensures.value (sym c.is_in.ensures ∙ c.if-is_in.true)

pub put_entry-requires : goal.put_entry-requires
put_entry-requires c = let p = c.requires in
    let r = thinning-room p.2 (λ i. omega (arith, c.slice_known-1.given i)) p.3 _ c.entry-x.ensures.value in
    (thinning-clean p.2 (λ i. omega (arith, c.slice_known-1.given i)) p.3 _ c.entry-x.ensures.value, r.0, r.1)

pub overflow_add-result : goal.overflow_add-result
overflow_add-result c = let p = c.requires in
    omega (arith, p.2.behind, p.2.few, p.3)

pub returns : goal.returns
returns c n v o h = thinning-keep o (λ i. omega (arith, c.slice_known-1.given i)) h _ c.entry-x.ensures.value _ c.put_entry.ensures (sym c.is_in.ensures ∙ c.if-is_in.false) refl refl
