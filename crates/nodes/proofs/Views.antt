-- What is seen of a trie at its root: by the tests of `look`, what it says of the trie, and an inner node by its child on the side of a bit. Assumes nothing.
use mathlib.Core.Path.{◌≡◌, refl, sym, ap, ◌∙◌}
use mathlib.Core.Bool.{Bool, true, false}
use mathlib.Core.List.{List, [], ◌∷◌, ◌++◌}
use Prim.Native.Nat.{ℕ, ◌+◌, ◌-◌, ◌/◌, ◌≤◌, ◌<◌}
use native.Mathlib.Omega.{arith}
use borrow.Author.Tests.{eq-eqb, ne_eqb}
use lib.ListN.{length}
use Rattle.nets.specs.Tries.{Trie, none, node, leaf, size, bare, side, fork}
use Rattle.nets.proofs.Listing.{leaf-is}
use Rattle.nodes.specs.Words.{put, place, word_at, enc}
use Rattle.nodes.specs.Links.{linked}
use Rattle.nodes.specs.Segments.{Segment, Spliced, middle_of, view_of, Branch}
use Rattle.nodes.specs.declared.steps.View.TheVariants.{Nothing, Leaf, Inner}
use Rattle.nodes.proofs.Tries.{size-node, size-side}
use Rattle.nodes.proofs.Segments.{none_is, segment-fit, segment-leaf, segment-place, segment-middle, segment-left, segment-right, spliced-left, spliced-right}

module _ {w : List ℕ} {b i e u : ℕ} {rest : List ℕ} where
  pub look_none : (t : Trie) → Segment w b i e u t rest → i ≡ e → Nothing ≡ view_of i t
  unfolding view_of
  look_none t g h = rw (none_is t (omega (arith, g.end)))

  pub look-place : (t : Trie) → Segment w b i e u t rest → (i ≡ e → ⊥) → (1 ≤ i) × (place b i < length w)
  unfolding size
  look-place none g f = absurd (f (omega (arith, g.end)))
  look-place (node l r) g f = (g.one, segment-place g)

  pub look-leaf : (t : Trie) → Segment w b i e u t rest → (i ≡ e → ⊥) → word_at w b i ≡ 0 → Leaf ≡ view_of i t
  unfolding view_of size
  look-leaf none g f h = absurd (f (omega (arith, g.end)))
  look-leaf (node l r) g f h = rw (sym (segment-leaf g) ∙ eq-eqb (word_at w b i) 0 h)

  pub look-inner : (t : Trie) → Segment w b i e u t rest → (i ≡ e → ⊥) → (word_at w b i ≡ 0 → ⊥) → Inner (middle_of (word_at w b i / 2) i e) ≡ view_of i t
  unfolding view_of size
  look-inner none g f h = absurd (f (omega (arith, g.end)))
  look-inner (node l r) g f h = rw (sym (segment-leaf g) ∙ ne_eqb (word_at w b i) 0 h) (ap Inner (segment-middle g))

-- What a view says of the trie.
never : {A : Type 0} → ◌≡◌ {A = ℕ} 0 1 → A
never e = absurd (omega arith)

by_bare : {A : Type 0} (l r : Trie) → (bare l r ≡ true → A) → (bare l r ≡ false → A) → A
by_bare {A} l r f g = go (bare l r) f g
  where
    go : (x : Bool) → (x ≡ true → A) → (x ≡ false → A) → A
    go true f g = f refl
    go false f g = g refl

module _ (i : ℕ) where
  pub view-none : (t : Trie) → Nothing ≡ view_of i t → t ≡ none
  unfolding view_of
  view-none none e = refl
  view-none (node l r) e = by_bare l r (λ h. let q = rw h at e in never cc) (λ h. let q = rw h at e in never cc)

  pub view-leaf : (t : Trie) → Leaf ≡ view_of i t → t ≡ leaf
  unfolding view_of
  view-leaf none e = never cc
  view-leaf (node l r) e = by_bare l r (λ h. leaf-is (node l r) h) (λ h. let q = rw h at e in never cc)

  pub view-inner : (m : ℕ) (t : Trie) → Inner m ≡ view_of i t → Branch i m t
  unfolding view_of
  view-inner m none e = never cc
  view-inner m (node l r) e =
      by_bare l r (λ h. let q = rw h at e in never cc) (λ h. record { l = l; r = r; is = refl; inner = h; middle = let q : Inner m ≡ Inner (i + 1 + size l) = rw h at e in cc })

-- An inner node, and by the side d of a bit its child inward, the one beside it, and the words behind the one inward.
module _ {w : List ℕ} {b i e u m : ℕ} {t : Trie} {rest : List ℕ} (g : Segment w b i e u t rest) (n : Branch i m t) where
  here : Segment w b i e u (node n.l n.r) rest
  here = rw n.is at g

  pub branch-fit : (1 ≤ i) × (i + 1 ≤ m) × (m ≤ e) × (e < 1073741824) × (place b i < length w)
  branch-fit = omega (arith, g.one, n.middle, g.end, here.end, size-node n.l n.r, segment-fit g, g.few, segment-place here)

  module _ (d : Bool) where
    abbrev pub inward : Trie
    inward = side d n.l n.r

    abbrev pub beside : Trie
    beside = side d n.r n.l

    abbrev pub behind : List ℕ
    behind = side d (enc n.r ++ rest) rest

    pub branch-size : size t ≡ 1 + size inward + size beside
    branch-size = ap size n.is ∙ size-side d n.l n.r

    pub branch-child : Segment w b (side d (i + 1) m) (side d m e) u inward behind
    branch-child = rw n.middle (go d)
      where
        go : (d : Bool) → let k = i + 1 + size n.l in Segment w b (side d (i + 1) k) (side d k e) u (side d n.l n.r) (side d (enc n.r ++ rest) rest)
        go false = segment-left here
        go true = segment-right here

    -- the child inward is changed to x and ends at y, and the node is linked anew
    pub branch-spliced : (x : Trie) (v₁ v₂ : List ℕ) (y z : ℕ) → Spliced w v₁ b (side d (i + 1) m) y x behind → z ≡ side d (y + (e - m)) y
        → v₂ ≡ put v₁ (place b i) (linked i (side d y m) z ∷ []) → Spliced w v₂ b i z (fork d x beside) rest
    branch-spliced x v₁ v₂ y z f q h = go d (rw n.middle at f) (rw n.middle at q) (rw n.middle at h)
      where
        go : (d : Bool) → let k = i + 1 + size n.l in Spliced w v₁ b (side d (i + 1) k) y x (side d (enc n.r ++ rest) rest) → z ≡ side d (y + (e - k)) y
            → v₂ ≡ put v₁ (place b i) (linked i (side d y k) z ∷ []) → Spliced w v₂ b i z (fork d x (side d n.r n.l)) rest
        go false f q h = spliced-left here x v₁ v₂ y z f (omega (arith, q, here.end, size-node n.l n.r)) h
        go true f q h = spliced-right here x v₁ v₂ z (rw (sym q) at f) h
