-- `rows::put_address` meets its contract: two stores are one write. Assumes nothing.
use mathlib.Core.Path.{refl}
use native.Mathlib.Omega.{arith}
use lib.ListN.{length-set}
use Rattle.trie_ranges.proofs.Steps.{set-address}
use Rattle.trie_ranges.proofs.rows.put_address.Goals as goal

pub bounds-rows-k-then-k-rows : goal.bounds-rows-k-then-k-rows
bounds-rows-k-then-k-rows c = simp length-set (omega arith)

pub returns-then-k-rows : goal.returns-then-k-rows
returns-then-k-rows c = (simp length-set, λ _. set-address _ _ _ _)

pub returns-else-k-rows : goal.returns-else-k-rows
returns-else-k-rows c = (refl, λ h. absurd (omega arith))
