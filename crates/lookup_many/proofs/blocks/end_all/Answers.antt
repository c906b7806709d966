-- `blocks::end_all` meets its contract. The loop's invariant: what is written are the answers up to a. Assumes nothing.
use mathlib.Core.Path.{◌≡◌, ap, sym, ◌∙◌}
use Prim.Native.Nat.{◌+◌, ◌-◌, ◌≤◌}
use native.Mathlib.Omega.{arith}
use borrow.Author.Rules.{rules}
use lib.ListN.{length}
use Rattle.nodes.specs.Words.{put}
use Rattle.nodes.proofs.Put.{length-put}
use Rattle.trie_index.specs.Index.{fill}
use Rattle.lookup_many.specs.Rules.{asked_of}
use Rattle.lookup_many.proofs.Rows.{fill_none, fill-two}
use Rattle.lookup_many.proofs.blocks.end_all.Goals as goal

pub loop-a-init : goal.loop-a-init
loop-a-init c = (omega arith, fill_none _ _ _)

pub lane_at-l-requires : goal.lane_at-l-requires
lane_at-l-requires c = let h = c.requires.2 in let lt = c.loop-a-test.true in (omega (arith, lt, h.few), h.wide, (h.each _ lt).on.few)

pub overflow_add-i : goal.overflow_add-i
overflow_add-i c = search (rules, c.loop-a-test.true, c.requires.1.queries)

pub end_at-requires : goal.end_at-requires
end_at-requires c = let h = c.requires in
    let r = ap length c.loop-a.invariant.1 ∙ length-put _ _ _ in
    (h.0, record { queries = omega (arith, h.1.queries, c.loop-a-test.true); answers = omega (arith, h.1.answers, r) }, rw c.lane_at-l.ensures (h.2.each _ c.loop-a-test.true))

pub loop-a-preserved : goal.loop-a-preserved
loop-a-preserved c = (omega (arith, c.loop-a-test.true), fill-two _ _ _ _ _ _ _ c.loop-a.invariant.1 c.end_at.ensures)

pub shape_of-answers : goal.shape_of-answers
shape_of-answers c = ap length c.loop-a.invariant.1 ∙ length-put _ _ _

pub returns : goal.returns
returns c = let i = c.loop-a.invariant in
    let q : c.loop-a.a ≡ c.args.e = omega (arith, i.0, c.loop-a-test.false) in
    rw q at i.1
