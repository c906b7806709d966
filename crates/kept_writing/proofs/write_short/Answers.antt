-- `write_short` meets its contract: two stores. Assumes nothing.
use native.Mathlib.Omega.{arith}
use lib.ListN.{length-set}
use Rattle.kept_writing.proofs.Stores.{put_two}
use Rattle.kept_writing.proofs.write_short.Goals as goal

pub bounds-w-p-2 : goal.bounds-w-p-2
bounds-w-p-2 c = simp length-set (omega arith)

pub returns : goal.returns
returns c = put_two _ _ _ _
