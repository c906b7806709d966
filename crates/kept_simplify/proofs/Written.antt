-- What is written of a trie over its halves: nothing where they join, and else the nodes that they left, and the branch point. Assumes nothing.
use mathlib.Core.Bool.{Bool, true, false, ◌&&◌, false≢true}
use mathlib.Core.List.{List, [], ◌++◌}
use mathlib.Core.Path.{◌≡◌, refl, sym, ap, ◌∙◌}
use Prim.Native.Nat.{ℕ, ◌+◌, ◌*◌, ◌≤◌, ◌<◌}
use native.Mathlib.Decide.{ℕ_discrete}
use native.Mathlib.Omega.{arith}
use borrow.Author.Tests.{eq-eqb, ne_eqb}
use lib.Dec.{eqb}
use lib.ListN.{length}
use Rattle.nets.specs.Bits.{Bits}
use Rattle.nets.specs.Networks.{width, net_from}
use Rattle.nets.specs.declared.Net.{Net}
use Rattle.nets.specs.Tries.{Trie, none, node, leaf, is_leaf, glue}
use Rattle.nets.proofs.Strings.{and_left, and_right}
use Rattle.nets.proofs.Listing.{leaf-is}
use Rattle.nets.proofs.Numbers.{width-le}
use Rattle.nodes.specs.Words.{put}
use Rattle.nodes.proofs.Put.{put-nil, put-swap, put-before-at, put-behind-at, length-put}
use Rattle.trie_emit.proofs.Answers.{by-glue}
use Rattle.trie_paths.specs.Spans.{snoc}
use Rattle.trie_paths.proofs.Paths.{path-is, length-snoc}
use Rattle.branch_points.specs.KeptTries.{kept_size}
use Rattle.branch_points.proofs.Sizes.{kept_size-leaf, kept_size-some}
use Rattle.kept_nodes.specs.Words.{stride, node_words, kept_enc, spot}
use Rattle.kept_nodes.proofs.Places.{spot_on, spot-next, spot-le, length-node_words, length-kept_enc}
use Rattle.kept_plan.proofs.Changed.{both_words}
use Rattle.kept_simplify.specs.Shrinks.{body, rest_of, Tops, Shrinks, Half, Pending}

-- what fits does so after a write
pub fits_after : (w : List ℕ) {v : List ℕ} {a : ℕ} (q : ℕ) (xs : List ℕ) → v ≡ put w q xs → a ≤ length w → a ≤ length v
fits_after w q xs e le = rw (e, length-put w q xs) le

-- The words that are written, and the node that is left.
pub body-one : (f : ℕ) (p : Bits) (t : Trie) → kept_size t ≡ 1 → body f p t ≡ []
unfolding body
body-one f p t e = rw (eq-eqb (kept_size t) 1 e)

pub body_more : (f : ℕ) (p : Bits) (t : Trie) → (kept_size t ≡ 1 → ⊥) → body f p t ≡ kept_enc f p t
unfolding body
body_more f p t ne = rw (ne_eqb (kept_size t) 1 ne)

pub rest-one : (f : ℕ) (s : Bits) (k : ℕ) → k ≡ 1 → rest_of f s k ≡ node_words f s 0
unfolding rest_of
rest-one f s k e = rw (eq-eqb k 1 e)

pub rest_more : (f : ℕ) (s : Bits) (k : ℕ) → (k ≡ 1 → ⊥) → rest_of f s k ≡ []
unfolding rest_of
rest_more f s k ne = rw (ne_eqb k 1 ne)

by_one : (P : Type 0) (k : ℕ) → (k ≡ 1 → P) → ((k ≡ 1 → ⊥) → P) → P
by_one P k y n = go (ℕ_discrete k 1)
  where
    go : Dec (k ≡ 1) → P
    go (yes e) = y e
    go (no e) = n e

pub length-body : (f : ℕ) (p : Bits) (t : Trie) → length (body f p t) ≤ stride f * kept_size t
length-body f p t = by_one _ (kept_size t) (λ e. rw (body-one f p t e) (omega arith)) (λ ne. rw (body_more f p t ne) (omega (arith, length-kept_enc f p t)))

length_rest : (f : ℕ) (s : Bits) (k : ℕ) → length (rest_of f s k) ≤ stride f * k
length_rest f s k = by_one _ k (λ e. rw (rest-one f s k e, e) (omega (arith, length-node_words f s 0))) (λ ne. rw (rest_more f s k ne) (omega arith))

-- what was written, with the node that is left, is the whole
pub rest_put : {f : ℕ} {p s : Bits} {t : Trie} → Tops f p s t → (w : List ℕ) (q : ℕ)
    → put (put w q (body f p t)) q (rest_of f s (kept_size t)) ≡ put w q (kept_enc f p t)
rest_put {f} {p} {s} {t} h w q = by_one _ (kept_size t)
    (λ e. rw (body-one f p t e, rest-one f s (kept_size t) e, put-nil w q) (ap (put w q) (sym (h.alone e))))
    (λ n. rw (body_more f p t n, rest_more f s (kept_size t) n) (put-nil (put w q (kept_enc f p t)) q))

-- of both halves, the second first
halves-put : {f : ℕ} {p₀ p₁ s₀ s₁ : Bits} {l r : Trie} → Tops f p₀ s₀ l → Tops f p₁ s₁ r → (v : List ℕ) (a c : ℕ) → c ≡ a + stride f * kept_size r
    → put (put (put (put v a (body f p₁ r)) c (body f p₀ l)) a (rest_of f s₁ (kept_size r))) c (rest_of f s₀ (kept_size l))
    ≡ put v a (kept_enc f p₁ r ++ kept_enc f p₀ l)
halves-put {f} {p₀} {p₁} {s₀} {s₁} {l} {r} hl hr v a c e =
    rw (
      ← put-swap (put v a (body f p₁ r)) a c (rest_of f s₁ (kept_size r)) (body f p₀ l) (omega (arith, length_rest f s₁ (kept_size r))),
      rest_put hr v a,
      rest_put hl (put v a (kept_enc f p₁ r)) c,
    )
    (put-behind-at v a c (kept_enc f p₁ r) (kept_enc f p₀ l) (omega (arith, length-kept_enc f p₁ r)))

-- a half is a leaf exactly where it is one node with one bit more than the branch point has
half_full : {f : ℕ} (p : Bits) (c : Bool) {t : Trie} {s x : Net} {k : ℕ} → s ≡ net_from f p → Half f (snoc p c) t x k
    → (eqb k 1 && eqb x.len (s.len + 1)) ≡ is_leaf t
half_full {f} p c {t} {s} {x} is h =
    let q : s.len + 1 ≡ length (snoc p c) = omega (arith, path-is s f p is, length-snoc p c) in
    rw (h.size, q, (path-is x f h.s h.string).0) (sym h.top.full)

module _ {f : ℕ} {v w : List ℕ} {b o : ℕ} {p : Bits} {s x y : Net} {m k : ℕ} {l r : Trie} (d : Pending f v w b o p s x y m k l r) where
  pub over-short : s.len ≤ 128
  over-short = omega (arith, path-is s f p d.path, d.short, width-le f)

  -- the numbers that the writes ask for
  pub over-fits : (m ≡ kept_size r) × (k ≡ kept_size l) × (1 ≤ m) × (1 ≤ k) × (o + 1 + m + k ≤ 4194305)
      × (spot f b (o + 1) + stride f ≤ length w) × (spot f b (o + 1 + m) + stride f ≤ length w) × (spot f b o + stride f ≤ length w)
  over-fits =
      let em = d.second.size in
      let ek = d.first.size in
      let xm = kept_size-some r d.second.top.some in
      let xk = kept_size-some l d.first.top.some in
      let one = d.one in
      let fit : (j : ℕ) → 1 ≤ j → j < o + 1 + kept_size r + kept_size l → spot f b j + stride f ≤ length w =
      λ j pos lt. omega (arith, spot-next f b j pos, spot-le f b (j + 1) (o + 1 + kept_size r + kept_size l) (omega arith), d.room) in (
        em,
        ek,
        omega arith,
        omega arith,
        omega (arith, d.few),
        fit (o + 1) (omega arith) (omega arith),
        fit (o + 1 + m) (omega arith) (omega arith),
        fit o one (omega arith),
      )

  pub second-left : {w₁ : List ℕ} → ((q : Bits) → x ≡ net_from f q → length q ≤ width f → w₁ ≡ put w (spot f b (o + 1)) (rest_of f q m))
      → w₁ ≡ put w (spot f b (o + 1)) (rest_of f d.second.s m)
  second-left h = h d.second.s d.second.string d.second.top.short

  pub first-left : (w₁ : List ℕ) {w₂ : List ℕ} → ((q : Bits) → y ≡ net_from f q → length q ≤ width f → w₂ ≡ put w₁ (spot f b (o + 1 + m)) (rest_of f q k))
      → w₂ ≡ put w₁ (spot f b (o + 1 + m)) (rest_of f d.first.s k)
  first-left w₁ h = h d.first.s d.first.string d.first.top.short

  module _ (z : Bool) (told : z ≡ ((eqb m 1 && eqb x.len (s.len + 1)) && (eqb k 1 && eqb y.len (s.len + 1)))) where
    leaves : z ≡ (is_leaf r && is_leaf l)
    leaves = rw (← half_full p true d.path d.second, ← half_full p false d.path d.first) told

    pub over-joined : z ≡ true → Shrinks f v w b o 1 p (glue true l r)
    over-joined h =
        let q = sym leaves ∙ h in
        let er = leaf-is r (and_left (is_leaf r) (is_leaf l) q) in
        let el = leaf-is l (and_right (is_leaf r) (is_leaf l) q) in
        rw (er, el) (record {
          size = sym kept_size-leaf;
          wrote = rw (body-one f p leaf kept_size-leaf) (nothing (rw (er, el) at d.wrote) ∙ sym (put-nil v (spot f b o)));
        })
      where
        nothing : w ≡ put (put v (spot f b (o + 1)) (body f (snoc p true) leaf)) (spot f b (o + 1 + kept_size leaf)) (body f (snoc p false) leaf) → w ≡ v
        nothing e =
            let one : (q : Bits) → body f q leaf ≡ [] = λ q. body-one f q leaf kept_size-leaf in
            rw (one (snoc p true), one (snoc p false), put-nil v (spot f b (o + 1)), put-nil v (spot f b (o + 1 + kept_size leaf))) at e

    module _ (h : z ≡ false) where
      apart : glue true l r ≡ node l r
      apart = go l r d.first.top.some d.second.top.some (sym leaves ∙ h)
        where
          go : (l r : Trie) → (l ≡ none → ⊥) → (r ≡ none → ⊥) → (is_leaf r && is_leaf l) ≡ false → glue true l r ≡ node l r
          go = by-glue (λ l r t. (l ≡ none → ⊥) → (r ≡ none → ⊥) → (is_leaf r && is_leaf l) ≡ false → t ≡ node l r) true
              (λ nl nr e. absurd (nl refl)) (λ q nl nr e. absurd (false≢true (sym e))) (λ l r c nl nr e. refl)

      pub over-apart : (w₁ w₂ w₃ : List ℕ) → w₁ ≡ put w (spot f b (o + 1)) (rest_of f d.second.s m)
          → w₂ ≡ put w₁ (spot f b (o + 1 + m)) (rest_of f d.first.s k)
          → w₃ ≡ put w₂ (spot f b o) (node_words f p (1 + m)) → Shrinks f v w₃ b o (1 + m + k) p (glue true l r)
      over-apart w₁ w₂ w₃ e₁ e₂ e₃ =
          let nl = d.first.top.some in
          let nr = d.second.top.some in
          let g = both_words f p l r nl nr in
          let n : kept_size (node l r) ≡ 1 → ⊥ = λ e. omega (arith, kept_size-some l nl) in
          let c = spot_on f b (o + 1) (kept_size r) (omega arith) in
          let q : w₂ ≡ put v (spot f b (o + 1)) (kept_enc f (snoc p true) r ++ kept_enc f (snoc p false) l) =
          rw (e₂, e₁, d.second.size, d.first.size, d.wrote)
          (halves-put d.first.top d.second.top v (spot f b (o + 1)) (spot f b (o + 1 + kept_size r)) (sym c)) in
          rw apart (record {
            size = rw (d.second.size, d.first.size) (omega arith);
            wrote = rw (body_more f p (node l r) n, g.0, e₃, q, d.second.size)
                (put-before-at v (spot f b o) (spot f b (o + 1)) (node_words f p (1 + kept_size r)) (kept_enc f (snoc p true) r ++ kept_enc f (snoc p false) l)
                (rw (length-node_words f p (1 + kept_size r)) (sym (spot-next f b o d.one))));
          })
