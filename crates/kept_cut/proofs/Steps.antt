-- The steps of marking beside the networks of a file: what is seen, what stays, what goes, and the halves. Assumes nothing.
use mathlib.Core.Bool.{Bool, true, false, not, ◌||◌, false≢true, or-true}
use mathlib.Core.List.{List}
use mathlib.Core.Path.{◌≡◌, refl, sym, ap, ◌∙◌}
use Prim.Native.Nat.{ℕ, suc, ◌+◌, ◌≤◌}
use native.Mathlib.Omega.{arith}
use borrow.Author.Tests.{eq-eqb, ne_eqb}
use lib.Dec.{eqb}
use lib.ListN.{length}
use Rattle.nets.specs.Bits.{Bits}
use Rattle.nets.specs.Networks.{width}
use Rattle.nets.specs.Tries.{Trie, none, node, leaf, size, levels, is_none, is_leaf, bare, glue}
use Rattle.nets.proofs.Numbers.{width-le}
use Rattle.nodes.specs.Words.{put}
use Rattle.nodes.proofs.Has.{has_same}
use Rattle.nodes.proofs.Segments.{none_is}
use Rattle.nodes.proofs.Tries.{some}
use Rattle.trie_pour.specs.Pour.{pour_t, shadow}
use Rattle.setfile_below.specs.declared.Below.{Below}
use Rattle.setfile_below.specs.Stream.{Under}
use Rattle.setfile_below.proofs.Streams.{at_some, at-nothing}
use Rattle.kept_steps.specs.Segments.{kept_view}
use Rattle.kept_steps.specs.declared.View.{View}
use Rattle.kept_steps.specs.declared.View.TheVariants.{Nothing, Leaf, Inner}
use Rattle.kept_steps.proofs.Views.{view-none, view-leaf, view-inner}
use Rattle.branch_points.specs.KeptTries.{kept_size}
use Rattle.branch_points.proofs.Sizes.{kept_size-some}
use Rattle.trie_pour.specs.Parts.{whole}
use Rattle.setfile_passes.specs.Passing.{Counts}
use Rattle.kept_nodes.specs.Words.{spot}
use Rattle.kept_sieve.specs.Spare.{spare_t}
use Rattle.kept_sieve.specs.Marks.{mark_enc}
use Rattle.kept_sieve.proofs.Spares.{spare-nothing, spare-whole, spare-flat, spare-halves}
use Rattle.kept_sieve.proofs.Marked.{mark-same}
use Rattle.kept_sieve.proofs.Sieving.{kept_size-zero}
use Rattle.kept_cut.proofs.Closed.{stands}
use Rattle.kept_cut.specs.Cuts.{Cuts, Left, Sighted}

-- What is seen.
pub sight-whole : (u t : Trie) → is_leaf u ≡ true → (is_leaf u || is_none t) ≡ true
sight-whole u t h = rw h

pub sight-view : (i : ℕ) (u t : Trie) {v : View} → is_leaf u ≡ false → v ≡ kept_view i t → Sighted i u t v
sight-view i u t {v} h e = go v e
  where
    go : (v : View) → v ≡ kept_view i t → Sighted i u t v
    go Nothing e = rw (view-none i t e) (or-true (is_leaf u))
    go Leaf e = (h, view-leaf i t e)
    go (Inner a m) e = (h, view-inner i a m t e)

pub depth-few : {s : Below} {q p : Bits} {u : Trie} {ms : List Bits} → Under s q p u ms → is_none u ≡ false → s.depth ≤ 128
unfolding levels
depth-few {s} {p = p} {u = u} h k = go u h.deep k
  where
    go : (u : Trie) → length p + levels u ≤ suc (width s.family) → is_none u ≡ false → s.depth ≤ 128
    go none d e = absurd (false≢true (sym e))
    go (node x y) d e = omega (arith, h.depth, width-le s.family)

-- Where something is, as numbers.
some_is : (i e : ℕ) (t : Trie) → e ≡ i + kept_size t → not (eqb i e) ≡ not (is_none t)
some_is i e none h = ap not (eq-eqb i e (omega (arith, kept_size-zero)))
some_is i e (node l r) h = ap not (ne_eqb i e (λ z. omega (arith, kept_size-some (node l r) (some l r))))

-- What is left.
gone-is : (x : Bool) (u t : Trie) → is_none u ≡ false → (is_leaf u || is_none t) ≡ true → spare_t x u t ≡ none
gone-is x none t k h = absurd (false≢true (sym k))
gone-is x (node l r) t k h = go (bare l r) refl h
  where
    go : (y : Bool) → bare l r ≡ y → (y || is_none t) ≡ true → spare_t x (node l r) t ≡ none
    go true e h = spare-whole x l r t e
    go false e h = let z = is_none-is t h in rw z (spare-flat x l r none e refl)
      where
        is_none-is : (t : Trie) → is_none t ≡ true → t ≡ none
        is_none-is none e = refl
        is_none-is (node a c) e = absurd (false≢true e)

member_is : (x : Bool) (u : Trie) → is_none u ≡ false → is_leaf u ≡ false → spare_t x u leaf ≡ shadow leaf (pour_t x u leaf)
member_is x none k h = absurd (false≢true (sym k))
member_is x (node l r) k h = spare-flat x l r leaf h refl

pub both_is : (x : Bool) (a c l r : Trie) {u t : Trie} → u ≡ node a c → t ≡ node l r → bare a c ≡ false → bare l r ≡ false
    → spare_t x u t ≡ glue false (spare_t x a l) (spare_t x c r)
both_is x a c l r h k e f = rw (h, k) (spare-halves x a c (node l r) e f ∙ rw f)

shadow-none : (u : Trie) {n : ℕ} → n ≡ size u → n ≡ 0 → shadow leaf u ≡ none
shadow-none u h e = rw (none_is u (sym h ∙ e))

shadow-some : (u : Trie) {n : ℕ} → n ≡ size u → (n ≡ 0 → ⊥) → shadow leaf u ≡ leaf
unfolding size
shadow-some none h e = absurd (e h)
shadow-some (node a c) h e = refl

module _ {w : List ℕ} {b n i e : ℕ} {d c : List ℕ} {s : Below} {q p : Bits} {u : Trie} {ms : List Bits} {t : Trie} (g : Cuts w b n i e d c s q p u ms t) where
  -- all is left
  all_left : Left s.family w w b i p t t (not (eqb i e))
  all_left = record { wrote = sym (rw (← mark-same s.family p t) at (has_same (stands g.here))); rest = some_is i e t g.here.end }

  pub stay-left : s.some ≡ false → (x : Bool) → Left s.family w w b i p t (spare_t x u t) (not (eqb i e))
  stay-left h x = rw (at-nothing g.at h, spare-nothing x t) all_left

  pub away-left : s.some ≡ true → (is_leaf u || is_none t) ≡ true → (x : Bool) {v : List ℕ} {r : Bool} → Left s.family w v b i p t none r
      → Left s.family w v b i p t (spare_t x u t) r
  away-left h k x l = rw (gone-is x u t (at_some g.at h) k) l

-- a member
module _ {w : List ℕ} {b n i e : ℕ} {d c : List ℕ} {s : Below} {q p : Bits} {u : Trie} {ms : List Bits} (g : Cuts w b n i e d c s q p u ms leaf) where
  pub member-counts : Counts w b 0 0 d c s q p u ms leaf
  member-counts = record { part = whole; at = g.at; few = g.few }

  module _ (x : Bool) {k : ℕ} (h : k ≡ size (pour_t x u leaf)) where
    pub member-gone : k ≡ 0 → {v : List ℕ} → v ≡ put w (spot s.family b i) (mark_enc s.family p leaf none)
        → Left s.family w v b i p leaf (shadow leaf (pour_t x u leaf)) false
    member-gone z l = rw (shadow-none (pour_t x u leaf) h z) (record { wrote = l; rest = refl })

    pub member-stays : (k ≡ 0 → ⊥) → Left s.family w w b i p leaf (shadow leaf (pour_t x u leaf)) true
    member-stays z =
        rw (shadow-some (pour_t x u leaf) h z) (record { wrote = sym (rw (← mark-same s.family p leaf) at (has_same (stands g.here))); rest = refl })

module _ {w : List ℕ} {b n i e : ℕ} {d c : List ℕ} {s : Below} {q p : Bits} {u : Trie} {ms : List Bits} {t : Trie} (g : Cuts w b n i e d c s q p u ms t)
    (h : (is_leaf u ≡ false) × (t ≡ leaf)) where
  pub as_member : Cuts w b n i e d c s q p u ms leaf
  as_member = rw h.1 at g

  pub member-left : s.some ≡ true → (x : Bool) {v : List ℕ} {r : Bool} → Left s.family w v b i p leaf (shadow leaf (pour_t x u leaf)) r
      → Left s.family w v b i p t (spare_t x u t) r
  member-left k x l = rw (h.1, member_is x u (at_some g.at k) h.0) l
