-- A step down a path in the used words: what the next bit and the view say of each trie that stands there. Assumes nothing.
use mathlib.Core.Path.{◌≡◌}
use mathlib.Core.Bool.{Bool}
use Prim.Native.Nat.{ℕ, ◌*◌, ◌≤◌, ◌<◌}
use native.Mathlib.Omega.{arith}
use Rattle.nets.specs.Bits.{Bits}
use Rattle.nets.specs.Tries.{Trie, none, leaf, size}
use Rattle.nets.specs.TrieOps.{remove_t}
use Rattle.nets.specs.Networks.{bits_left, next_as, next_of}
use Rattle.nets.specs.declared.PrefixBits.{PrefixBits}
use Rattle.nets.proofs.Handing.{len-next, bits-end, bits-next, length-bits_left}
use Rattle.nodes.specs.Segments.{view_of}
use Rattle.nodes.specs.declared.steps.View.TheVariants.{Nothing, Leaf, Inner}
use Rattle.nodes.proofs.Views.{view-none, view-leaf, view-inner}
use Rattle.trie_remove.specs.declared.Child.{Child}
use Rattle.trie_remove.specs.Removal.{child_of, Inside}
use Rattle.trie_remove.proofs.Remains.{remove_t-end, remove_t-none, size-remove_t-leaf}
use Rattle.std.specs.Prelude.{Some, None}

-- The path ends.
pub nothing-more : (s : PrefixBits) (t : Trie) → s.len ≤ 128 → next_of s ≡ next_as None → remove_t (bits_left s) t ≡ none
nothing-more s t h e = rw (bits-end s h e) (remove_t-end t)

-- It goes on with a bit, and what stands there is seen.
module _ (i : ℕ) (t : Trie) (s later : PrefixBits) (bit : Bool) (k : next_of s ≡ next_as (Some (bit, later))) where
  pub nothing-here : Nothing ≡ view_of i t → remove_t (bits_left s) t ≡ none
  nothing-here v = rw (view-none i t v) (remove_t-none (bits_left s))

  pub full-here : Leaf ≡ view_of i t → (t ≡ leaf) × (0 < s.len)
  full-here v = (view-leaf i t v, omega (arith, len-next s later bit k))

  pub inner-here : (e m : ℕ) (c : Child) → s.len ≤ 128 → Inner m ≡ view_of i t → c ≡ child_of bit i m e → Inside s i e t bit c later
  inner-here e m c h v o = record { m = m; branch = view-inner i m t v; bits = bits-next s later bit h k; fewer = len-next s later bit k; child = o }

-- How many nodes are left where the path ends.
pub size-nothing : (p : Bits) (t : Trie) → remove_t p t ≡ none → 0 ≡ size (remove_t p t)
unfolding size
size-nothing p t e = rw e

pub size-full : (s : PrefixBits) (t : Trie) → t ≡ leaf → s.len ≤ 128 → 2 * s.len ≡ size (remove_t (bits_left s) t)
size-full s t e h = rw (e, size-remove_t-leaf (bits_left s), length-bits_left s h)
