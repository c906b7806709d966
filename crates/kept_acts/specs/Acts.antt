-- What a change writes in the place of a trie.
--
--   Acts f w b n i e u p s t rest m    the trie t stands from node i up to node e, with rest behind it up to node u, and there is room for m nodes in its place
--   Halves                             the same of a branch point with the halves l and r, of which the first begins at node m
--   Became f w v b i r ws m rest       v is w with the words ws of m nodes from node i on, and rest behind them
use Rattle.std.specs.Prelude.{Bool, true, false, cond, ◌&&◌, not, List, ◌++◌, ◌≡◌, ℕ, suc, ◌+◌, ◌-◌, ◌≤◌, ◌<◌, eqb, length}
use Rattle.nets.specs.Bits.{Bits}
use Rattle.nets.specs.Networks.{width}
use Rattle.nets.specs.Tries.{Trie, none, node, side}
use Rattle.nodes.specs.Words.{put}
use Rattle.trie_paths.specs.Spans.{snoc}
use Rattle.branch_points.specs.KeptTries.{kept_size}
use Rattle.kept_nodes.specs.Words.{node_words, kept_enc, spot, stride}
use Rattle.kept_steps.specs.Segments.{KeptSegment}

abbrev pub flat_size : Bool → ℕ
flat_size x = cond x 1 0

pub record Acts (f : ℕ) (w : List ℕ) (b n i e u : ℕ) (p s : Bits) (t : Trie) (rest : List ℕ) (m : ℕ) : Type 0 where
  pub here : KeptSegment f w b n i e u p t rest
  pub short : length p ≤ width f
  pub long : length s ≤ width f
  pub fits : u + m ≤ suc n + kept_size t

pub record Halves (f : ℕ) (w : List ℕ) (b n i m e u : ℕ) (p : Bits) (l r : Trie) (rest : List ℕ) : Type 0 where
  pub here : KeptSegment f w b n i e u p (node l r) rest
  pub first : l ≡ none → ⊥
  pub second : r ≡ none → ⊥
  pub middle : m ≡ i + 1 + kept_size r

pub record Became (f : ℕ) (w v : List ℕ) (b i r : ℕ) (ws : List ℕ) (m : ℕ) (rest : List ℕ) : Type 0 where
  pub wrote : v ≡ put w (spot f b i) (ws ++ rest)
  pub end : r ≡ i + m

-- a branch point over the member s, on the side of the bit, and the trie t
abbrev pub fork_words : Bool → ℕ → Bits → Bits → Trie → List ℕ
fork_words true f p s t = node_words f p 2 ++ (node_words f s 0 ++ kept_enc f p t)
fork_words false f p s t = node_words f p (kept_size t + 1) ++ (kept_enc f p t ++ node_words f s 0)

-- the half on the other side
abbrev pub drop_words : Bool → ℕ → Bits → Trie → Trie → List ℕ
drop_words true f p l r = kept_enc f (snoc p false) l
drop_words false f p l r = kept_enc f (snoc p true) r

abbrev pub drop_size : Bool → Trie → Trie → ℕ
drop_size c l r = kept_size (side c r l)

-- there is a node to be written, where the changed half is the second of a branch point
abbrev pub linkable : Bool → ℕ → ℕ → Bool
linkable c a i = c && not (eqb a i)

abbrev pub relink_end : Bool → ℕ → ℕ → ℕ → ℕ → ℕ → ℕ
relink_end c a i m e z = cond (linkable c a i) (z + (e - m)) z

abbrev pub relinked : ℕ → List ℕ → ℕ → ℕ → ℕ → ℕ → Bool → Bits → List ℕ
relinked f w b i a z c p = cond (linkable c a i) (put w (spot f b i) (node_words f p (z - i))) w

pub record Relinks (f : ℕ) (w : List ℕ) (b i a m e z : ℕ) (c : Bool) : Type 0 where
  pub one : 1 ≤ i
  pub fits : linkable c a i ≡ true → spot f b i + stride f ≤ length w
  pub low : b < 1073741824
  pub order : (i ≤ z) × (m ≤ e) × (e ≤ 4194305) × (z ≤ 4194305)
