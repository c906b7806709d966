-- `write_long` meets its contract: five stores. Assumes nothing.
use native.Mathlib.Omega.{arith}
use lib.ListN.{length-set}
use Rattle.kept_writing.proofs.Stores.{put_five}
use Rattle.kept_writing.proofs.write_long.Goals as goal

pub bounds-w-p-2 : goal.bounds-w-p-2
bounds-w-p-2 c = simp length-set (omega arith)

pub bounds-w-p-3 : goal.bounds-w-p-3
bounds-w-p-3 c = simp length-set (omega arith)

pub bounds-w-p-4 : goal.bounds-w-p-4
bounds-w-p-4 c = simp length-set (omega arith)

pub bounds-w-p-5 : goal.bounds-w-p-5
bounds-w-p-5 c = simp length-set (omega arith)

pub returns : goal.returns
returns c = put_five _ _ _ _ _ _ _
