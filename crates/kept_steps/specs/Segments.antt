-- A trie of the second form in the middle of the used words.
--
--   KeptSegment f w b n i e u p t rest   the trie t below the string p stands from node i up to node e, and rest behind it up to node u
--   KeptSpliced f w v b i r p t rest     v is w with t written from node i on, with rest behind it, and it ends at node r
--   kept_view i t                         what is seen of the trie t at node i: where its second half begins, or would, and where its first half does
--   KeptBranch i a m t                   t is no leaf, its second half begins at node a, or would, and its first half at node m
use Rattle.std.specs.Prelude.{false, cond, List, ◌++◌, ◌≡◌, ℕ, suc, ◌+◌, ◌-◌, ◌*◌, ◌≤◌, length}
use Rattle.nets.specs.Bits.{Bits}
use Rattle.nets.specs.Networks.{width}
use Rattle.nets.specs.Tries.{Trie, none, node, bare, levels}
use Rattle.nodes.specs.Words.{put, Has}
use Rattle.branch_points.specs.KeptTries.{kept, kept_size}
use Rattle.kept_nodes.specs.Words.{stride, kept_enc, spot}
use Rattle.kept_nodes.specs.Parse.{KeptRoom}
use Rattle.kept_steps.specs.declared.View.{View}
use Rattle.kept_steps.specs.declared.View.TheVariants.{Nothing, Leaf, Inner}

pub record KeptSegment (f : ℕ) (w : List ℕ) (b n i e u : ℕ) (p : Bits) (t : Trie) (rest : List ℕ) : Type 0 where
  pub room : KeptRoom f w b n
  pub has : Has w (spot f b i) (kept_enc f p t ++ rest)
  pub deep : length p + levels t ≤ suc (width f)
  pub one : 1 ≤ i
  pub end : e ≡ i + kept_size t
  pub tail : e ≤ u
  pub used : length rest ≡ stride f * (u - e)
  pub last : u ≤ suc n

pub record KeptSpliced (f : ℕ) (w v : List ℕ) (b i r : ℕ) (p : Bits) (t : Trie) (rest : List ℕ) : Type 0 where
  pub wrote : v ≡ put w (spot f b i) (kept_enc f p t ++ rest)
  pub end : r ≡ i + kept_size t

-- the nodes of the root itself: one where it is a branch point, none where it has one half only
abbrev pub own_size : Trie → Trie → ℕ
own_size l r = cond (kept l r) 1 0

unfoldable pub kept_view : ℕ → Trie → View
kept_view i none = Nothing
kept_view i (node l r) = cond (bare l r) Leaf (Inner (i + own_size l r) (i + own_size l r + kept_size r))

pub record KeptBranch (i a m : ℕ) (t : Trie) : Type 0 where
  pub l : Trie
  pub r : Trie
  pub is : t ≡ node l r
  pub inner : bare l r ≡ false
  pub begins : a ≡ i + own_size l r
  pub middle : m ≡ a + kept_size r
