-- A trie that is gone through, and what is written of another.
--
--   Part w b i e t           the numbers i and e mean the trie t: it stands from node i up to node e, or it is full and both are 0
--   Says w b i e x y t r     r is what is found of t, where networks come into it (x) or go out of it, and the path itself is one of them (y)
--   TrieWritten w v b o e t  v is w with t written from node o on, up to node e
--   Keeps, Closing           what moving a part, and the node over two halves that are written, ask
use Rattle.std.specs.Prelude.{◌≡◌, Bool, true, false, ◌||◌, List, [], ℕ, ◌+◌, ◌≤◌, ◌<◌, length}
use Rattle.nets.specs.Tries.{Trie, leaf, size, glue}
use Rattle.nets.specs.TrieOps.{half}
use Rattle.nodes.specs.Words.{put, place, enc}
use Rattle.nodes.specs.Segments.{Segment, Branch}
use Rattle.trie_pour.specs.Pour.{is_all, is_flat}
use Rattle.trie_pour.specs.declared.Turn.{Turn}
use Rattle.trie_pour.specs.declared.Turn.TheVariants.{Settled, Halves}

pub data Part (w : List ℕ) (b : ℕ) : ℕ → ℕ → Trie → Type 0 where
  whole : Part w b 0 0 leaf
  standing : {i e : ℕ} {t : Trie} → Segment w b i e e t [] → Part w b i e t

-- the halves stand from a up to m and from there up to z; where any node of them stands, it is one below node i
pub record Split (w : List ℕ) (b i e : ℕ) (t : Trie) (a m z : ℕ) : Type 0 where
  pub left : Part w b a m (half false t)
  pub right : Part w b m z (half true t)
  pub inner : a < z → (a ≡ i + 1) × (z ≡ e) × (is_flat t ≡ false)
  pub order : (a ≤ m) × (m ≤ z)

abbrev pub Says : List ℕ → ℕ → ℕ → ℕ → Bool → Bool → Trie → Turn → Type 0
Says w b i e x y t Settled = (y || is_all x t) ≡ true
Says w b i e x y t (Halves a m z) = ((y || is_all x t) ≡ false) × Split w b i e t a m z

-- r is where the second half begins, if the trie that stands at node i is to be gone into, else 0
pub record Into (i : ℕ) (y : Bool) (t : Trie) (r : ℕ) : Type 0 where
  pub flat : r ≡ 0 → (y || is_flat t) ≡ true
  pub inner : (r ≡ 0 → ⊥) → (y ≡ false) × Branch i r t

pub record TrieWritten (w v : List ℕ) (b o e : ℕ) (t : Trie) : Type 0 where
  pub wrote : v ≡ put w (place b o) (enc t)
  pub end : e ≡ o + size t

-- there is room for n nodes from node o on
pub record Room (w : List ℕ) (b o n : ℕ) : Type 0 where
  pub one : 1 ≤ o
  pub few : o < 2147483648
  pub fits : (n ≡ 0 → ⊥) → (place b (o + n) ≤ length w) × (o + n < 1073741824)

pub record Keeps (w : List ℕ) (b i e o : ℕ) (t : Trie) : Type 0 where
  pub part : Part w b i e t
  pub room : Room w b o (size t)

-- l is written from node o + 1 on up to node m, and r from there on up to node e
pub record Closing (v w : List ℕ) (b o m e : ℕ) (l r : Trie) : Type 0 where
  pub wrote : w ≡ put (put v (place b (o + 1)) (enc l)) (place b m) (enc r)
  pub middle : m ≡ o + 1 + size l
  pub end : e ≡ m + size r
  pub room : Room w b o (size (glue false l r))
