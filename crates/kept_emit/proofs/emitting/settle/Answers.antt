-- `emitting::settle` meets its contract, by its test. Assumes nothing.
use native.Mathlib.Omega.{arith}
use mathlib.Core.Path.{sym}
use Rattle.nodes.proofs.Put.{put-nil}
use Rattle.kept_emit.proofs.Answered.{rest-none}
use Rattle.kept_emit.proofs.emitting.settle.Goals as goal

pub write_node-requires : goal.write_node-requires
write_node-requires c = let h = c.requires.0 c.in-Full.is in
    record { one = h.0; fits = h.1; low = omega arith; few = omega arith; near = omega arith }

pub returns-in_default : goal.returns-in_default
returns-in_default c p is le = rw (rest-none c.args.family p c.args.x c.in_default.not-Full) (sym (put-nil _ _))
