-- Cutting a trie of the second form beside the networks of a file.
--
--   Cuts w b n i e d c s q p u ms t       the trie t stands from node i up to node e below the path p, and s is at the networks u of the file d below the
--                                         same path
--   Sighted i u t v                       what is seen of t below the path, where there are networks
--   Left f w v b i p t s r                v is w with the marks of t, of which s is left; r says whether that is anything
--   Closing f v w b n i e a m p t c d     w is v with the marks of the two halves of t, where c is left of the first, at node m, and d of the second, at node a
use Rattle.std.specs.Prelude.{Bool, true, false, not, ◌||◌, List, [], ◌≡◌, ℕ}
use Rattle.nets.specs.Bits.{Bits}
use Rattle.nets.specs.Tries.{Trie, leaf, is_none, is_leaf}
use Rattle.nodes.specs.Words.{put}
use Rattle.trie_paths.specs.Spans.{snoc}
use Rattle.setfile_below.specs.Stream.{At}
use Rattle.setfile_below.specs.declared.Below.{Below}
use Rattle.setfile_passes.specs.Passing.{few}
use Rattle.kept_nodes.specs.Words.{spot}
use Rattle.kept_steps.specs.Segments.{KeptSegment, KeptBranch}
use Rattle.kept_steps.specs.declared.View.{View}
use Rattle.kept_steps.specs.declared.View.TheVariants.{Nothing, Leaf, Inner}
use Rattle.kept_sieve.specs.Marks.{mark_enc}

pub record Cuts (w : List ℕ) (b n i e : ℕ) (d c : List ℕ) (s : Below) (q p : Bits) (u : Trie) (ms : List Bits) (t : Trie) : Type 0 where
  pub here : KeptSegment s.family w b n i e e p t []
  pub at : At d c s q p u ms
  pub few : few leaf u

abbrev pub Sighted : ℕ → Trie → Trie → View → Type 0
Sighted i u t Nothing = (is_leaf u || is_none t) ≡ true
Sighted i u t Leaf = (is_leaf u ≡ false) × (t ≡ leaf)
Sighted i u t (Inner a m) = (is_leaf u ≡ false) × KeptBranch i a m t

pub record Left (f : ℕ) (w v : List ℕ) (b i : ℕ) (p : Bits) (t s : Trie) (r : Bool) : Type 0 where
  pub wrote : v ≡ put w (spot f b i) (mark_enc f p t s)
  pub rest : r ≡ not (is_none s)

pub record Closing (f : ℕ) (v w : List ℕ) (b n i e a m : ℕ) (p : Bits) (t c d : Trie) : Type 0 where
  pub here : KeptSegment f v b n i e e p t []
  pub branch : KeptBranch i a m t
  pub wrote : w ≡ put (put v (spot f b m) (mark_enc f (snoc p false) branch.l c)) (spot f b a) (mark_enc f (snoc p true) branch.r d)
