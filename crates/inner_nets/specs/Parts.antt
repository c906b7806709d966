-- The part of a trie that lies inside a network: the road on which overlap is decided. No contract needs to be believed through it; overlaps_one-list_of ties
-- it to the list.
--
--   down q t     the trie below the path q; below a leaf all is full
--   Tests post g  a call whose results are post answers what g is of the bits that it is asked of
use Rattle.std.specs.Prelude.{[], ◌∷◌, Bool, ◌≡◌, ◌≤◌}
use Rattle.nets.specs.Bits.{Bits}
use Rattle.nets.specs.Networks.{bits_left}
use Rattle.nets.specs.declared.PrefixBits.{PrefixBits}
use Rattle.nets.specs.Tries.{Trie}
use Rattle.nets.specs.TrieOps.{half}

unfoldable pub down : Bits → Trie → Trie
down [] t = t
down (b ∷ q) t = down q (half b t)

abbrev pub Tests : (PrefixBits → Bool → Type 0) → (Bits → Bool) → Type 0
Tests post g = (s : PrefixBits) (r : Bool) → s.len ≤ 128 → post s r → r ≡ g (bits_left s)
