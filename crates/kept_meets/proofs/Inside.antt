-- The part of what a number means inside a network: down, bit by bit; and that the number of the part tells whether the network is overlapped. Assumes
-- nothing.
use mathlib.Core.Bool.{Bool, true, false, not}
use mathlib.Core.List.{List, [], ◌∷◌, ◌++◌, append-nil, append_assoc}
use mathlib.Core.Logic.{inr}
use mathlib.Core.Path.{◌≡◌, refl, ap, sym, ◌∙◌}
use Prim.Native.Nat.{ℕ, ◌+◌, ◌≤◌}
use native.Mathlib.Omega.{arith}
use borrow.Author.Tests.{eq-eqb, ne_eqb}
use lib.Dec.{eqb}
use lib.ListN.{length}
use Rattle.nets.specs.Bits.{Bits}
use Rattle.nets.specs.Tries.{Trie, none, node, is_none, list_of}
use Rattle.nets.specs.TrieOps.{half}
use Rattle.trie_paths.specs.Spans.{snoc}
use Rattle.trie_paths.proofs.Paths.{length-snoc}
use Rattle.inner_nets.specs.Inner.{overlaps_one}
use Rattle.inner_nets.specs.Parts.{down}
use Rattle.inner_nets.proofs.Parts.{down-none, down-end, down-half, overlaps_one-list_of}
use Rattle.trie_meets.proofs.Inside.{none_is}
use Rattle.kept_nodes.specs.Parse.{KeptStands}
use Rattle.kept_sources.specs.Sources.{KeptMeans, nothing, everything, standing}

means-zero : {f : ℕ} {w : List ℕ} {b n o g : ℕ} {p : Bits} (i : ℕ) (t : Trie) → KeptMeans f w b n o g p i t → eqb i 0 ≡ is_none t
means-zero i t nothing = refl
means-zero i t everything = refl
means-zero i t (standing h) = ne_eqb i 0 (λ e. omega (arith, h.one))

-- On the way down: from the number `at`, d bits gone and the bits p still to go, the part inside the network q of whatever the number i means.
pub record Way (f : ℕ) (w : List ℕ) (b n i : ℕ) (q : Bits) (at d : ℕ) (p : Bits) : Type 0 where
  pub gone : Bits
  pub far : length gone ≡ d
  pub whole : gone ++ p ≡ q
  pub part : (o g : ℕ) (t : Trie) → KeptMeans f w b n o g [] i t → (u : Trie) × KeptMeans f w b n o g gone at u × (down p u ≡ down q t)

pub way-start : (f : ℕ) (w : List ℕ) (b n i : ℕ) (q : Bits) {d : ℕ} → 0 ≡ d → Way f w b n i q i d q
way-start f w b n i q e = record { gone = []; far = e; whole = refl; part = λ o g t m. (t, m, refl) }

module _ {f : ℕ} {w : List ℕ} {b n i at d : ℕ} {q p : Bits} (v : Way f w b n i q at d p) where
  pub way-some : (o g : ℕ) (t : Trie) → KeptMeans f w b n o g [] i t → (u : Trie) × KeptMeans f w b n o g v.gone at u
  way-some o g t m = let (u, k, e) = v.part o g t m in (u, k)

  pub way-nothing : at ≡ 0 → (o g : ℕ) (t : Trie) → KeptMeans f w b n o g [] i t → KeptMeans f w b n o g q 0 (down q t)
  way-nothing z o g t m =
      let (u, k, e) = v.part o g t m in
      let d : down q t ≡ none = sym e ∙ ap (down p) (none_is u (sym (means-zero at u k) ∙ eq-eqb at 0 z)) ∙ down-none p in
      rw d nothing

  pub way_end : p ≡ [] → (o g : ℕ) (t : Trie) → KeptMeans f w b n o g [] i t → KeptMeans f w b n o g q at (down q t)
  way_end z o g t m =
      let (u, k, e) = v.part o g t m in
      let x : v.gone ≡ q = sym (append-nil v.gone) ∙ ap (λ y. v.gone ++ y) (sym z) ∙ v.whole in
      rw (sym e ∙ ap (λ x. down x u) z ∙ down-end u, ← x) k

  pub way_on : (c : Bool) (rest : Bits) (next : ℕ) {d' : ℕ} → p ≡ c ∷ rest → d + 1 ≡ d'
      → ((o g : ℕ) (s : Bits) (t : Trie) → KeptMeans f w b n o g s at t → length s ≡ d → KeptMeans f w b n o g (snoc s c) next (half c t))
      → Way f w b n i q next d' rest
  way_on c rest next z y h = record {
    gone = snoc v.gone c;
    far = length-snoc v.gone c ∙ ap (λ k. k + 1) v.far ∙ y;
    whole = append_assoc v.gone (c ∷ []) rest ∙ ap (λ y. v.gone ++ y) (sym z) ∙ v.whole;
    part = λ o g t m. let (u, k, e) = v.part o g t m in (half c u, h o g v.gone u k v.far, sym (ap (λ x. down x u) z ∙ down-half c rest u) ∙ e);
  }

-- The part is nothing exactly where the network is not overlapped.
module _ {f : ℕ} {w : List ℕ} {b n o g r : ℕ} (q : Bits) (t : Trie) (m : KeptMeans f w b n o g q r (down q t)) where
  pub part-told : not (eqb r 0) ≡ overlaps_one (list_of t) q
  part-told = ap not (means-zero r (down q t) m) ∙ sym (overlaps_one-list_of t q)

  pub part_none : r ≡ 0 → overlaps_one (list_of t) q ≡ false
  part_none z = sym part-told ∙ ap not (eq-eqb r 0 z)

  pub part-some : (r ≡ 0 → ⊥) → overlaps_one (list_of t) q ≡ true
  part-some z = sym part-told ∙ ap not (ne_eqb r 0 z)

-- A trie that stands among the nodes of a pool.
pub stands-means : {f : ℕ} {w : List ℕ} {b n i : ℕ} (t : Trie) → 1 ≤ i → KeptStands f w b n [] i t → (t ≡ none → ⊥) → KeptMeans f w b n 0 0 [] i t
stands-means none one s z = absurd (z refl)
stands-means (node l r) one s z = standing (record { stands = s; one = one; clear = inr (omega arith) })
