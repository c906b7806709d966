-- `contains_all` meets its contract, each return by the tests on the way to it. Assumes nothing.
use mathlib.Core.Path.{ap, ◌∙◌}
use native.Mathlib.Omega.{arith}
use borrow.Author.Rules.{rules}
use lib.ListN.{length}
use Rattle.nodes.proofs.Put.{length-put}
use Rattle.pool_state.proofs.Header.{is_header-header}
use Rattle.lookup.proofs.Asked.{root-header, root-known}
use Rattle.lookup_many.proofs.Rows.{whole_row}
use Rattle.lookup_many.proofs.Calls.{all-refused, all-family, all_short, all-granted}
use Rattle.nets.proofs.Propagated.{propagated}
use Rattle.lookup_many.proofs.contains_all.Goals as goal

pub bounds-pool-1 : goal.bounds-pool-1
bounds-pool-1 c = omega (arith, is_header-header _ (root-header _ _ _ c.root.ensures _ c.in_ok-root.was))

pub returns-then-family-pool : goal.returns-then-family-pool
returns-then-family-pool c = all-family _ _ _ _ _ _ c.root.ensures _ c.in_ok-root.was c.if-family-pool.true

pub returns-then-answers-queries : goal.returns-then-answers-queries
returns-then-answers-queries c = all_short _ _ _ _ _ _ c.root.ensures _ c.in_ok-root.was c.if-family-pool.false c.if-answers-queries.true

pub by_blocks-done-requires : goal.by_blocks-done-requires
by_blocks-done-requires c = let r = c.root.ensures in
    (root-header _ _ _ r _ c.in_ok-root.was, root-known _ _ _ r _ c.in_ok-root.was, c.if-family-pool.false, c.if-answers-queries.false)

pub one_by_one-requires : goal.one_by_one-requires
one_by_one-requires c = let r = c.root.ensures in
    let h = c.by_blocks-done.ensures in
    (root-header _ _ _ r _ c.in_ok-root.was, root-known _ _ _ r _ c.in_ok-root.was, h.0, rw (ap length h.1 ∙ length-put _ _ _) c.if-answers-queries.false)

pub returns-in_err-root : goal.returns-in_err-root
returns-in_err-root c = rw (propagated c.from_residual.ensures) (all-refused _ _ _ _ _ _ c.root.ensures _ c.in_err-root.was)

pub shape_of-answers : goal.shape_of-answers
shape_of-answers c = let h = c.by_blocks-done.ensures in
    ap length (whole_row _ _ _ _ _ _ h.0 h.1 c.one_by_one.ensures) ∙ length-put _ _ _

pub returns : goal.returns
returns c = let h = c.by_blocks-done.ensures in
    all-granted _ _ _ _ _ _ c.root.ensures _ c.in_ok-root.was c.if-family-pool.false c.if-answers-queries.false
    (whole_row _ _ _ _ _ _ h.0 h.1 c.one_by_one.ensures)
