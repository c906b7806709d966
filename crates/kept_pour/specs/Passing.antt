-- The networks of a file into a trie of the second form, or out of it, from a path on: what each pass asks.
--
--   Counts w b n i e x d c s q p u ms t   the numbers i and e mean the trie t, and s is at the networks u of the file d below the same path p
--   Fills f w b n i e g x p u t           what writing before node g what the trie t becomes asks
use Rattle.std.specs.Prelude.{◌≡◌, Bool, List, ℕ, ◌+◌, ◌≤◌, ◌<◌, length}
use Rattle.nets.specs.Bits.{Bits}
use Rattle.nets.specs.Tries.{Trie}
use Rattle.nets.specs.Networks.{width}
use Rattle.branch_points.specs.KeptTries.{kept_size}
use Rattle.trie_pour.specs.Pour.{pour_t, cut_t}
use Rattle.setfile_below.specs.Stream.{At}
use Rattle.setfile_below.specs.declared.Below.{Below}
use Rattle.kept_build.specs.Building.{Before, few}
use Rattle.kept_pour.specs.Parts.{KeptPart}

pub record Counts (w : List ℕ) (b n i e : ℕ) (x : Bool) (d c : List ℕ) (s : Below) (q p : Bits) (u : Trie) (ms : List Bits) (t : Trie) : Type 0 where
  pub part : KeptPart s.family w b n p i e t
  pub at : At d c s q p u ms
  pub file : few u
  pub all : few (pour_t x u t)

-- what is written begins no earlier than what is read; and what is read has been cut, so that this holds of each half too
pub record Fills (f : ℕ) (w : List ℕ) (b n i e g : ℕ) (x : Bool) (p : Bits) (u t : Trie) : Type 0 where
  pub part : KeptPart f w b n p i e t
  pub room : Before f w b g (kept_size (pour_t x u t))
  pub short : length p ≤ width f
  pub file : few u
  pub ahead : i < e → i + kept_size (pour_t x u t) ≤ g
  pub from : Trie
  pub cut : i < e → t ≡ cut_t x u from
