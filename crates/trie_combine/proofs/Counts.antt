-- The nodes of a result by its halves, with nothing written. Assumes nothing.
use mathlib.Core.Bool.{true, false}
use mathlib.Core.List.{List}
use mathlib.Core.Path.{◌≡◌}
use Prim.Native.Nat.{ℕ, ◌+◌, ◌-◌, ◌≤◌, ◌<◌, ◌^◌}
use native.Mathlib.Omega.{arith}
use Rattle.nets.specs.Tries.{Trie, none, size, glue}
use Rattle.nets.specs.TrieOps.{half}
use Rattle.trie_blocks.specs.Joins.{Apart}
use Rattle.trie_emit.specs.Combine.{joined, op_on}
use Rattle.trie_spans.specs.Extents.{Extents}
use Rattle.trie_spans.proofs.Halving.{Parts, part-few, step}
use Rattle.trie_spans.proofs.Spread.{spread-plain}

-- the result of the halves
module _ {w : List ℕ} {b op a ea c ec o g fuel : ℕ} {t u : Trie} {al el cl fl ar er cr fr : ℕ} (d : Parts w b op a ea c ec o g fuel t u al el cl fl ar er cr fr) (l r : ℕ)
    (first : l ≡ size (op_on op (fuel - 1) (half false t) (half false u))) (second : r ≡ size (op_on op (fuel - 1) (half true t) (half true u))) where
  pub counts-small : l + r < 2 ^ 62
  counts-small = omega (arith, part-few d false, part-few d true)

  pub counted : (n : ℕ) → ((v z : Trie) → l ≡ size v → r ≡ size z → n ≡ size (glue (joined op) v z)) → n ≡ size (op_on op fuel t u)
  counted n f = rw (step d) (f _ _ first second)

-- a part in which nothing joins
pub plain-count : {w : List ℕ} {b i e o g fuel next : ℕ} (t : Trie) → Extents w b i e 0 0 o g fuel t none → Apart w b i e next → e ≤ next → e - i ≡ size (op_on 0 fuel t none)
plain-count t s a le = rw (spread-plain t s a le) (omega (arith, s.first.end))
