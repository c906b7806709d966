-- `runs::step` meets its contract, by the piece that it finds. Assumes nothing.
use mathlib.Core.Path.{ap, sym, ◌∙◌}
use Rattle.std.specs.Prelude.{Some}
use Prim.Native.Nat.{◌-◌}
use native.Mathlib.Omega.{arith}
use lib.ListN.{drop}
use Rattle.text_ipv6_runs.proofs.Found.{found, goes_on-within}
use Rattle.text_ipv6_runs.proofs.Turns.{quad-room, stepped-full, stepped-none, stepped-quad, stepped-end, stepped-on}
use Rattle.text_ipv6_runs.proofs.runs.step.Goals as goal

pub returns-then-count-ge8 : goal.returns-then-count-ge8
returns-then-count-ge8 c = rw c.stopped.ensures (stepped-full c.args.s.now c.args.r c.requires.0 c.requires.1 c.if-count-ge8.true)

pub ended-requires : goal.ended-requires
ended-requires c = let a = c.args in
    let h = quad-room (8 - a.r.count) (drop a.r.at a.s.now) c.in-Quad.v (drop c.in-Quad.behind a.s.now) (found c.args.s.now (c.in-Some.is ∙ ap Some c.in-Quad.is) c.piece.ensures) in
    omega arith

pub overflow_add-behind : goal.overflow_add-behind
overflow_add-behind c = let a = c.args in
    omega (arith, goes_on-within a.s.now c.in-Group.behind (sym c.goes_on.ensures ∙ c.if-goes_on.true))

pub returns-then-goes_on : goal.returns-then-goes_on
returns-then-goes_on c = rw c.grown.ensures
    (stepped-on c.args.s.now c.args.r c.requires.0 c.requires.1 c.if-count-ge8.false c.in-Group.x c.in-Group.behind (found c.args.s.now (c.in-Some.is ∙ ap Some c.in-Group.is) c.piece.ensures) (sym c.goes_on.ensures ∙ c.if-goes_on.true))

pub returns-in_default : goal.returns-in_default
returns-in_default c = rw c.stopped-in_default.ensures (stepped-none c.args.s.now c.args.r c.requires.0 c.requires.1 c.if-count-ge8.false (found c.args.s.now c.in_default.is c.piece.ensures))

pub returns-in-Quad : goal.returns-in-Quad
returns-in-Quad c = rw c.ended.ensures (stepped-quad c.args.s.now c.args.r c.requires.0 c.requires.1 c.if-count-ge8.false c.in-Quad.v c.in-Quad.behind (found c.args.s.now (c.in-Some.is ∙ ap Some c.in-Quad.is) c.piece.ensures))

pub returns-else-goes_on : goal.returns-else-goes_on
returns-else-goes_on c = rw c.grown-in-Group.ensures
    (stepped-end c.args.s.now c.args.r c.requires.0 c.requires.1 c.if-count-ge8.false c.in-Group.x c.in-Group.behind (found c.args.s.now (c.in-Some.is ∙ ap Some c.in-Group.is) c.piece.ensures) (sym c.goes_on.ensures ∙ c.if-goes_on.false))
