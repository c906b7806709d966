-- The networks of a file into a whole trie of the second form, or out of it.
--
--   Sources f w b n i e d l t      the trie t stands from node i up to node e, and the bytes d are the file of the list l of the family f
--   Pours f w b n i e g d x l t    so, and there is room from node i on for what t becomes, up to node g
--   Refills f w b n i e g d x l t  what cutting left of t stands there, there is room for what t becomes before node g, and it begins no earlier
use Rattle.std.specs.Prelude.{◌≡◌, Bool, List, [], ℕ, suc, ◌+◌, ◌≤◌}
use Rattle.nets.specs.Bits.{Bits}
use Rattle.nets.specs.Tries.{Trie, trie_of}
use Rattle.branch_points.specs.KeptTries.{kept_size}
use Rattle.trie_pour.specs.Pour.{pour_t, cut_t}
use Rattle.setfile_format.specs.Files.{read_file, file}
use Rattle.kept_steps.specs.Segments.{KeptSegment}
use Rattle.kept_build.specs.Building.{Before}

pub record Sources (f : ℕ) (w : List ℕ) (b n i e : ℕ) (d : List ℕ) (l : List Bits) (t : Trie) : Type 0 where
  pub here : KeptSegment f w b n i e e [] t []
  pub reads : read_file d ≡ file f l

pub record Pours (f : ℕ) (w : List ℕ) (b n i e g : ℕ) (d : List ℕ) (x : Bool) (l : List Bits) (t : Trie) : Type 0 where
  pub source : Sources f w b n i e d l t
  pub end : g ≡ i + kept_size (pour_t x (trie_of l) t)
  pub last : g ≤ suc n

pub record Refills (f : ℕ) (w : List ℕ) (b n i e g : ℕ) (d : List ℕ) (x : Bool) (l : List Bits) (t : Trie) : Type 0 where
  pub source : Sources f w b n i e d l (cut_t x (trie_of l) t)
  pub room : Before f w b g (kept_size (pour_t x (trie_of l) t))
  pub ahead : i + kept_size (pour_t x (trie_of l) t) ≤ g
