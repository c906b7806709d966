-- The network that follows a place in list order, among strings in any order.
--
--   place_at last         before the first network, or behind the last
--   comes_first p c       p comes before the nearest so far
--   own_of f w b k        the string of node k, if it is a member's
--   Nearest f p ms c     c is the first in list order of those among ms that are past p, or none is
--   Looks                node k has a string of the family, and the place is behind a network of the family
use Rattle.std.specs.Prelude.{Bool, true, false, cond, List, [], ◌∷◌, ◌≡◌, ℕ, ◌≤◌, eqb, length, Option, Some, None}
use Rattle.nets.specs.Bits.{Bits, before}
use Rattle.nets.specs.Lists.{member, Place, start, past, is_past}
use Rattle.nets.specs.Networks.{width, net_from, net_bits}
use Rattle.nets.specs.declared.Net.{Net}
use Rattle.setfile_entries.specs.Entries.{Entry}
use Rattle.kept_nodes.specs.Parse.{dist_at, string_at}
use Rattle.kept_list.specs.Listed.{KeptNode}

abbrev pub place_at : Option Net → Place
place_at None = start
place_at (Some n) = past (net_bits n)

abbrev pub comes_first : Bits → Option Net → Bool
comes_first p None = true
comes_first p (Some n) = before p (net_bits n)

abbrev pub own_of : ℕ → List ℕ → ℕ → ℕ → List Bits
own_of f w b k = cond (eqb (dist_at f w b k) 0) (string_at f w b k ∷ []) []

-- m is the first of them
pub record First (f : ℕ) (p : Place) (ms : List Bits) (n : Net) : Type 0 where
  pub bits : Bits
  pub net : n ≡ net_from f bits
  pub short : length bits ≤ width f
  pub among : member bits ms ≡ true
  pub past : is_past p bits ≡ true
  pub least : (q : Bits) → member q ms ≡ true → is_past p q ≡ true → before q bits ≡ false

pub record Nearest (f : ℕ) (p : Place) (ms : List Bits) (c : Option Net) : Type 0 where
  pub none : c ≡ None → (q : Bits) → member q ms ≡ true → is_past p q ≡ false
  pub first : (n : Net) → c ≡ Some n → First f p ms n

pub record Looks (f : ℕ) (w : List ℕ) (b n k : ℕ) (last : Option Net) : Type 0 where
  pub node : KeptNode f w b n k
  pub entry : (y : Net) → last ≡ Some y → Entry f y
