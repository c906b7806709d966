-- `gathering::take` meets its contract: an entry with a length out of range, one that is not wanted, and one that is held. Assumes nothing.
use mathlib.Core.Path.{sym, ◌∙◌}
use borrow.Author.Tests.{not-true, not-false}
use Rattle.nets.specs.Networks.{net_bits}
use Rattle.salvage_batch.proofs.Thinnings.{kept_same}
use Rattle.salvage_batch.proofs.Holdings.{holds-skip}
use Rattle.salvage_batch.proofs.Takings.{taken-long, taken_in, taken-clean}
use Rattle.salvage_batch.proofs.gathering.take.Goals as goal

pub is_past-requires : goal.is_past-requires
is_past-requires c = let a = c.args in
    let p = c.requires in
    (_, taken-clean a.family a.bytes.now a.i p.holds.room.family c.entry.ensures.value c.entry.ensures.result_bound c.to_network-taken.ensures _ _ c.in-Ok.is, p.i_lt_most_entries.2)

pub returns-then-not-is_past : goal.returns-then-not-is_past
returns-then-not-is_past c = let a = c.args in
    let p = c.requires in
    let joins = taken_in a.family a.bytes.now a.i p.holds.room.family c.entry.ensures.value c.entry.ensures.result_bound c.to_network-taken.ensures _ _ c.in-Ok.is in
    record { kept = kept_same _ _ _; holds_2 = rw joins (holds-skip p.holds (net_bits c.in-Ok.x) (sym c.is_past.ensures ∙ not-true _ c.if-not-is_past.true-raw)) }

pub hold-requires : goal.hold-requires
hold-requires c = let a = c.args in
    let p = c.requires in
    let clean = taken-clean a.family a.bytes.now a.i p.holds.room.family c.entry.ensures.value c.entry.ensures.result_bound c.to_network-taken.ensures _ _ c.in-Ok.is in
    record { holds = (_, _, p.holds); clean = clean }

pub returns-in-Err : goal.returns-in-Err
returns-in-Err c = record { kept = kept_same _ _ _; holds_2 = (rw (taken-long c.args.family c.args.bytes.now c.args.i c.requires.holds.room.family c.entry.ensures.value c.entry.ensures.result_bound c.to_network-taken.ensures _ c.in-Err.is) c.requires.holds) }

pub returns-else-not-is_past : goal.returns-else-not-is_past
returns-else-not-is_past c = let a = c.args in
    let p = c.requires in
    let joins = taken_in a.family a.bytes.now a.i p.holds.room.family c.entry.ensures.value c.entry.ensures.result_bound c.to_network-taken.ensures _ _ c.in-Ok.is in
    record { kept = c.hold.ensures.kept; holds_2 = rw joins (c.hold.ensures.holds_2 _ _ p.holds (sym c.is_past.ensures ∙ not-false _ c.if-not-is_past.false-raw)) }
