-- The part of what a number means inside a network: down, bit by bit; and that the number of the part tells whether the network is overlapped. Assumes
-- nothing.
use mathlib.Core.Bool.{Bool, true, false, not}
use mathlib.Core.List.{List, [], ◌∷◌}
use mathlib.Core.Path.{◌≡◌, refl, ap, sym, ◌∙◌}
use Prim.Native.Nat.{ℕ, ◌≤◌}
use native.Mathlib.Omega.{arith}
use borrow.Author.Tests.{eq-eqb, ne_eqb}
use lib.Dec.{eqb}
use Rattle.nets.specs.Bits.{Bits}
use Rattle.nets.specs.Tries.{Trie, none, node, is_none, list_of}
use Rattle.nets.specs.TrieOps.{half}
use Rattle.nodes.specs.Parse.{Room, Stands}
use Rattle.trie_emit.specs.Combine.{Means, nothing, everything, standing}
use Rattle.inner_nets.specs.Inner.{overlaps_one}
use Rattle.inner_nets.specs.Parts.{down}
use Rattle.inner_nets.proofs.Parts.{down-none, down-end, down-half, overlaps_one-list_of}

-- On the way down: from the number `at`, with the bits p still to go, the part inside the network q of whatever the number i means.
pub record Way (w : List ℕ) (b i : ℕ) (q : Bits) (at : ℕ) (p : Bits) : Type 0 where
  pub part : (o g : ℕ) (t : Trie) → Means w b o g i t → (u : Trie) × Means w b o g at u × (down p u ≡ down q t)

pub way-start : (w : List ℕ) (b i : ℕ) (q : Bits) → Way w b i q i q
way-start w b i q = record { part = λ o g t m. (t, m, refl) }

means-zero : {w : List ℕ} {b o g : ℕ} (i : ℕ) (t : Trie) → Means w b o g i t → eqb i 0 ≡ is_none t
means-zero i t nothing = refl
means-zero i t everything = refl
means-zero i t (standing h) = ne_eqb i 0 (λ e. omega (arith, h.one))

pub none_is : (t : Trie) → is_none t ≡ true → t ≡ none
none_is none e = refl
none_is (node l r) e = absurd (let z : ◌≡◌ {A = ℕ} 0 1 = cc in omega arith)

module _ {w : List ℕ} {b i at : ℕ} {q p : Bits} (v : Way w b i q at p) where
  pub way-some : (o g : ℕ) (t : Trie) → Means w b o g i t → (u : Trie) × Means w b o g at u
  way-some o g t m = let (u, n, e) = v.part o g t m in (u, n)

  pub way-nothing : at ≡ 0 → (o g : ℕ) (t : Trie) → Means w b o g i t → Means w b o g 0 (down q t)
  way-nothing z o g t m =
      let (u, n, e) = v.part o g t m in
      let d : down q t ≡ none = sym e ∙ ap (down p) (none_is u (sym (means-zero at u n) ∙ eq-eqb at 0 z)) ∙ down-none p in
      rw d nothing

  pub way_end : p ≡ [] → (o g : ℕ) (t : Trie) → Means w b o g i t → Means w b o g at (down q t)
  way_end z o g t m =
      let (u, n, e) = v.part o g t m in
      rw (sym e ∙ ap (λ x. down x u) z ∙ down-end u) n

  pub way_on : (d : Bool) (rest : Bits) (next : ℕ) → p ≡ d ∷ rest → ((o g : ℕ) (t : Trie) → Means w b o g at t → Means w b o g next (half d t)) → Way w b i q next rest
  way_on d rest next z f = record {
    part = λ o g t m. let (u, n, e) = v.part o g t m in (half d u, f o g u n, sym (ap (λ x. down x u) z ∙ down-half d rest u) ∙ e);
  }

-- The part is nothing exactly where the network is not overlapped.
module _ {w : List ℕ} {b o g r : ℕ} (q : Bits) (t : Trie) (m : Means w b o g r (down q t)) where
  pub part-told : not (eqb r 0) ≡ overlaps_one (list_of t) q
  part-told = ap not (means-zero r (down q t) m) ∙ sym (overlaps_one-list_of t q)

  pub part_none : r ≡ 0 → overlaps_one (list_of t) q ≡ false
  part_none z = sym part-told ∙ ap not (eq-eqb r 0 z)

  pub part-some : (r ≡ 0 → ⊥) → overlaps_one (list_of t) q ≡ true
  part-some z = sym part-told ∙ ap not (ne_eqb r 0 z)

-- A trie that stands among the nodes of a pool.
pub stands-means : {w : List ℕ} {b n f i : ℕ} (t : Trie) → Room w b n → 1 ≤ i → Stands w b n f i t → (t ≡ none → ⊥) → Means w b 0 0 i t
stands-means none room one s z = absurd (z refl)
stands-means (node l r) room one s z = standing (record { has = s.has; one = one; few = omega (arith, s.within, room.few); clear = λ k x y p q. omega arith })
