-- A trie of the second form that is gone through, and what is written of another.
--
--   KeptPart f w b n p i e t         the numbers i and e mean the trie t below the path p: it stands from node i up to node e, or it is full and both are 0
--   Says f w b n p e x y t r         r is what is found of t, where networks come into it (x) or go out of it, and the path itself is one of them (y)
--   Keeps, Closing                   what moving a part, and the node over two halves that are written, ask
use Rattle.std.specs.Prelude.{◌≡◌, Bool, true, false, ◌||◌, List, [], ℕ, ◌-◌, ◌≤◌, ◌<◌}
use Rattle.nets.specs.Bits.{Bits}
use Rattle.nets.specs.Tries.{Trie, none, leaf, glue}
use Rattle.nets.specs.TrieOps.{half}
use Rattle.nodes.specs.Words.{put}
use Rattle.trie_paths.specs.Spans.{snoc}
use Rattle.trie_pour.specs.Pour.{is_all, is_flat}
use Rattle.branch_points.specs.KeptTries.{kept_size}
use Rattle.kept_nodes.specs.Words.{kept_enc, spot}
use Rattle.kept_steps.specs.Segments.{KeptSegment}
use Rattle.kept_build.specs.Building.{Before}
use Rattle.kept_pour.specs.declared.parts.Turn.{Turn}
use Rattle.kept_pour.specs.declared.parts.Turn.TheVariants.{Settled, Fresh, Halves}

pub data KeptPart (f : ℕ) (w : List ℕ) (b n : ℕ) (p : Bits) : ℕ → ℕ → Trie → Type 0 where
  whole : KeptPart f w b n p 0 0 leaf
  standing : {i e : ℕ} {t : Trie} → KeptSegment f w b n i e e p t [] → KeptPart f w b n p i e t

-- the second half stands from a up to m, and the first from there up to z; where they have any node, it is one of the trie
pub record Split (f : ℕ) (w : List ℕ) (b n : ℕ) (p : Bits) (e : ℕ) (t : Trie) (a m z : ℕ) : Type 0 where
  pub first : KeptPart f w b n (snoc p false) m z (half false t)
  pub second : KeptPart f w b n (snoc p true) a m (half true t)
  pub inner : a < z → (z ≡ e) × (is_flat t ≡ false)
  pub order : (a ≤ m) × (m ≤ z)

abbrev pub Says : ℕ → List ℕ → ℕ → ℕ → Bits → ℕ → Bool → Bool → Trie → Turn → Type 0
Says f w b n p e x y t Settled = (y || is_all x t) ≡ true
Says f w b n p e x y t Fresh = (y ≡ false) × (x ≡ true) × (t ≡ none)
Says f w b n p e x y t (Halves a m z) = ((y || is_all x t) ≡ false) × Split f w b n p e t a m z

-- it begins no later than where it comes to stand
pub record Keeps (f : ℕ) (w : List ℕ) (b n : ℕ) (p : Bits) (i e g : ℕ) (t : Trie) : Type 0 where
  pub part : KeptPart f w b n p i e t
  pub room : Before f w b g (kept_size t)

-- l is written before node g from node m on, and r before it from node o on
pub record Closing (f : ℕ) (v w : List ℕ) (b g : ℕ) (p : Bits) (o m : ℕ) (l r : Trie) : Type 0 where
  pub wrote : w ≡ put (put v (spot f b m) (kept_enc f (snoc p false) l)) (spot f b o) (kept_enc f (snoc p true) r)
  pub first : m ≡ g - kept_size l
  pub second : o ≡ m - kept_size r
  pub room : Before f v b g (kept_size (glue false l r))
