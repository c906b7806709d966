-- The networks of a file into a trie in words, or out of it.
--
--   Sources w b i e d f l t     the trie t stands from node i up to node e, and the bytes d are the file of the list l of the family f
--   Pours w b i e g d f x l t   so, and there is room from node i on for what t becomes, up to node g
--   Writes w b i e o d f x l t  so, and t stands so far behind node o that what it becomes can be written there
use Rattle.std.specs.Prelude.{◌≡◌, Bool, List, [], ℕ, ◌+◌, ◌≤◌, ◌<◌, length}
use Rattle.nets.specs.Bits.{Bits}
use Rattle.nets.specs.Tries.{Trie, size, trie_of}
use Rattle.nodes.specs.Words.{place}
use Rattle.nodes.specs.Segments.{Segment}
use Rattle.trie_pour.specs.Pour.{pour_t}
use Rattle.setfile_format.specs.Files.{read_file, file}
use Rattle.setfile_passes.specs.Passing.{Fills}

pub record Sources (w : List ℕ) (b i e : ℕ) (d : List ℕ) (f : ℕ) (l : List Bits) (t : Trie) : Type 0 where
  pub here : Segment w b i e e t []
  pub reads : read_file d ≡ file f l

pub record Pours (w : List ℕ) (b i e g : ℕ) (d : List ℕ) (f : ℕ) (x : Bool) (l : List Bits) (t : Trie) : Type 0 where
  pub source : Sources w b i e d f l t
  pub end : g ≡ i + size (pour_t x (trie_of l) t)
  pub room : place b g ≤ length w
  pub few : g < 1073741824

pub record Writes (w : List ℕ) (b i e o : ℕ) (d : List ℕ) (f : ℕ) (x : Bool) (l : List Bits) (t : Trie) : Type 0 where
  pub reads : read_file d ≡ file f l
  pub fills : Fills w b i e o x (trie_of l) t
