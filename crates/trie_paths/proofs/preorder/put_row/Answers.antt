-- `preorder::put_row` meets its contract: three stores are one write. Assumes nothing.
use native.Mathlib.Omega.{arith}
use lib.ListN.{length-set}
use Rattle.trie_paths.proofs.RowForm.{set-row}
use Rattle.trie_paths.proofs.preorder.put_row.Goals as goal

pub bounds-rows-k-2 : goal.bounds-rows-k-2
bounds-rows-k-2 c = simp length-set (omega arith)

pub bounds-rows-k-3 : goal.bounds-rows-k-3
bounds-rows-k-3 c = simp length-set (omega arith)

pub returns : goal.returns
returns c = set-row _ _ _ _ _
