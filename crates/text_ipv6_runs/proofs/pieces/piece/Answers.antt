-- `pieces::piece` meets its contract: a quad comes before a group. Assumes nothing.
use Prim.Native.Nat.{◌-◌}
use native.Mathlib.Omega.{arith}
use lib.ListN.{drop}
use Rattle.text.proofs.Reading.{read_as-is}
use Rattle.text_ipv6_runs.proofs.Groups.{read_group-most}
use Rattle.text_ipv6_runs.proofs.Found.{read_piece-quad, read_piece-group, read_piece-none}
use Rattle.text_ipv6_runs.proofs.pieces.piece.Goals as goal

pub returns-in-Some : goal.returns-in-Some
returns-in-Some c = let a = c.args in
    read_piece-quad (8 - a.count) (drop a.start a.s.now) c.in-Some.v (drop c.in-Some.c.at a.s.now) (read_as-is a.s.now c.in-Some.is c.dotted_in-q.ensures)

pub returns-in_err-x : goal.returns-in_err-x
returns-in_err-x c = let a = c.args in
    rw c.from_residual.ensures (read_piece-none (8 - a.count) (drop a.start a.s.now) (read_as-is a.s.now c.in_default.is c.dotted_in-q.ensures) c.in_err-x.ensures)

pub overflow_cast-result : goal.overflow_cast-result
overflow_cast-result c = let a = c.args in
    omega (arith, read_group-most (drop a.start a.s.now) c.in_ok-x.x (drop c.in_ok-x.c.at a.s.now) c.in_ok-x.ensures)

pub returns : goal.returns
returns c = let a = c.args in
    read_piece-group (8 - a.count) (drop a.start a.s.now) c.in_ok-x.x (drop c.in_ok-x.c.at a.s.now) (read_as-is a.s.now c.in_default.is c.dotted_in-q.ensures) c.in_ok-x.ensures
