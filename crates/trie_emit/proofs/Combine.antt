-- A set operation by its halves: what each call asks, from what the calls before it ensure, and the node over what they answer. Assumes nothing.
use mathlib.Core.Path.{◌≡◌, refl, sym, ◌∙◌}
use mathlib.Core.Bool.{Bool, true, false, cond}
use mathlib.Core.List.{List}
use mathlib.Core.Logic.{◌⊎◌, inl, inr}
use Prim.Native.Nat.{ℕ, zero, suc, ◌+◌, ◌-◌, ◌*◌, ◌≤◌, ◌<◌, ◌^◌}
use native.Mathlib.Omega.{arith}
use lib.ListN.{length}
use Rattle.nets.specs.Tries.{Trie, none, node, leaf, size, glue}
use Rattle.nets.specs.TrieOps.{Kind, flat, mixed, kind_of, verdict, op_t, half, union_t, common_t, except_t, difference_t}
use Rattle.nets.proofs.Strings.{cond_both}
use Rattle.nets.proofs.Glue.{levels-half}
use Rattle.nets.proofs.Operate.{flat≢mixed, verdict-levels, op_half, op_t-flat, op_t-mixed, op_t-step}
use Rattle.nodes.specs.Words.{put, place}
use Rattle.nodes.proofs.Put.{length-put}
use Rattle.nodes.proofs.Has.{has-put}
use Rattle.nodes.proofs.Tries.{length-enc}
use Rattle.trie_emit.specs.Answers.{said, answer, body, Emits, end_of, Both, Pending}
use Rattle.trie_emit.specs.Combine.{op_of, joined, op_on, rank, Means, nothing, everything, standing, Inputs, Gap}
use Rattle.trie_emit.specs.declared.emitting.Emitted.{Emitted}
use Rattle.trie_emit.specs.declared.emitting.Emitted.TheVariants.{Empty, Full}
use Rattle.trie_emit.proofs.Answers.{by_kind, by-glue, end_is, emits-flat, length-body, size-glue}

-- The operations by their numbers.
module _ (k : ℕ) (t u : Trie) where
  pub op_on-union : op_on 0 k t u ≡ union_t k t u
  unfolding op_of union_t
  op_on-union = refl

  pub op_on-common : op_on 1 k t u ≡ common_t k t u
  unfolding op_of common_t
  op_on-common = refl

  pub op_on-difference : op_on 2 k t u ≡ difference_t k t u
  unfolding op_of difference_t
  op_on-difference = refl

  pub op_on-except : op_on 3 k t u ≡ except_t k t u
  unfolding op_of except_t
  op_on-except = refl

-- How large a result is, by what its sources have beside single leaves.
verdict-mixed : (f : Bool → Bool → Bool) (k l : Kind) → verdict f k l ≡ mixed → (k ≡ mixed) ⊎ (l ≡ mixed)
verdict-mixed f (flat x) (flat y) e = absurd (flat≢mixed (f x y) e)
verdict-mixed f (flat x) mixed e = inr refl
verdict-mixed f mixed l e = inl refl

body-halves : (t : Trie) → length (body (half false t)) + length (body (half true t)) ≤ length (body t)
unfolding body size
body-halves = by_kind (λ t. length (body (half false t)) + length (body (half true t)) ≤ length (body t)) (omega arith) (omega arith)
    (λ l r e. rw e (omega (arith, length-body l, length-body r, length-enc (node l r))))

body-mixed : (t : Trie) → kind_of t ≡ mixed → length (body (half false t)) + length (body (half true t)) < length (body t)
unfolding body size
body-mixed = by_kind (λ t. kind_of t ≡ mixed → length (body (half false t)) + length (body (half true t)) < length (body t))
    (λ h. absurd (flat≢mixed false h)) (λ h. absurd (flat≢mixed true h)) (λ l r e. rw e (λ h. omega (arith, length-body l, length-body r, length-enc (node l r))))

pub size-op : (j : Bool) (f : Bool → Bool → Bool) (k : ℕ) (t u : Trie) → size (op_t j f k t u) ≤ 1 + 2 * (length (body t) + length (body u))
unfolding op_t size
size-op j f zero t u = omega arith
size-op j f (suc k) t u =
    let h : (b : Bool) → size (op_half j f k t u b) ≤ 1 + 2 * (length (body (half b t)) + length (body (half b u))) = λ b. size-op j f k (half b t) (half b u) in
    op_t-step j f (λ x. size x ≤ 1 + 2 * (length (body t) + length (body u))) k t u
    (λ v e. cond_both (λ x. size x ≤ 1 + 2 * (length (body t) + length (body u))) v leaf none (omega arith) (omega arith))
    (λ e. elim (verdict-mixed f (kind_of t) (kind_of u) e) [
      | inl m ↦ omega (arith, size-glue j (op_half j f k t u false) (op_half j f k t u true), h false, h true, body-mixed t m, body-halves u)
      | inr m ↦ omega (arith, size-glue j (op_half j f k t u false) (op_half j f k t u true), h false, h true, body-halves t, body-mixed u m)
    ])

-- What a number means is small, and stays where a write is within the gap and the gap is narrowed.
module _ {w : List ℕ} {b o g : ℕ} where
  means-body : (i : ℕ) (t : Trie) → Means w b o g i t → length (body t) ≤ 1073741824
  unfolding body
  means-body i t nothing = omega arith
  means-body i t everything = omega arith
  means-body i t (standing {l = l} {r = r} h) = omega (arith, length-body (node l r), h.few)

  means-later : (o' : ℕ) → o ≤ o' → (i : ℕ) (t : Trie) → Means w b o g i t → Means w b o' g i t
  means-later o' le i t nothing = nothing
  means-later o' le i t everything = everything
  means-later o' le i t (standing h) = standing (record { has = h.has; one = h.one; few = h.few; clear = λ k p q r. h.clear k p q (omega arith) })

  means-put : (q : ℕ) (ys : List ℕ) → 1 ≤ q → o ≤ q → ((k : ℕ) → k < length ys → q + k < g) → (i : ℕ) (t : Trie) → Means w b o g i t → Means (put w (place b q) ys) b o g i t
  means-put q ys one le f i t nothing = nothing
  means-put q ys one le f i t everything = everything
  means-put q ys one le f i t (standing {i = j} {l = l} {r = r} h) = standing (record {
    has = has-put (place b q) ys h.has (λ k p₁ p₂ p₃ p₄. h.clear (k - b + 1) (omega (arith, h.one)) (omega (arith, h.one, length-enc (node l r))) (omega arith) (omega (arith, f (k - place b q) (omega arith))));
    one = h.one;
    few = h.few;
    clear = h.clear;
  })

-- Where a trie fits, if it is no single leaf, its words do, and so do its halves.
abbrev Fits : ℕ → ℕ → Trie → Type 0
Fits o g t = kind_of t ≡ mixed → o + size t ≤ g

fits-body : (o g : ℕ) (t : Trie) → Fits o g t → (k : ℕ) → k < length (body t) → o + k < g
unfolding body
fits-body o g = by_kind (λ t. Fits o g t → (k : ℕ) → k < length (body t) → o + k < g) (λ f k h. absurd (omega arith)) (λ f k h. absurd (omega arith))
    (λ l r b. rw b (λ f k h. omega (arith, f refl, length-enc (node l r))))

fits-glue : (j : Bool) (o g : ℕ) (l r : Trie) → Fits o g (glue j l r) → Fits (o + 1) g l × Fits (o + 1 + size l) g r × (kind_of (glue j l r) ≡ mixed → o + 1 + size l + size r ≤ g)
unfolding size
fits-glue j o g = by-glue (λ l r t. Fits o g t → Fits (o + 1) g l × Fits (o + 1 + size l) g r × (kind_of t ≡ mixed → o + 1 + size l + size r ≤ g)) j
    (λ f. (λ h. absurd (flat≢mixed false h), λ h. absurd (flat≢mixed false h), λ h. absurd (flat≢mixed false h)))
    (λ e f. (λ h. absurd (flat≢mixed true h), λ h. absurd (flat≢mixed true h), λ h. absurd (flat≢mixed true h)))
    (λ l r b. rw b (λ f. let n = f refl in (λ h. omega arith, λ h. omega arith, λ h. omega arith)))

-- One step of the operation.
pub rank-flat : (k : Kind) (x : Bool) → rank k ≡ rank (flat x) → k ≡ flat x
rank-flat (flat false) false e = refl
rank-flat (flat false) true e = absurd (omega arith)
rank-flat (flat true) false e = absurd (omega arith)
rank-flat (flat true) true e = refl
rank-flat mixed false e = absurd (omega arith)
rank-flat mixed true e = absurd (omega arith)

pub rank-mixed : (k : Kind) → (rank k ≡ 0 → ⊥) → (rank k ≡ 2 → ⊥) → k ≡ mixed
rank-mixed (flat false) f n = absurd (f refl)
rank-mixed (flat true) f n = absurd (n refl)
rank-mixed mixed f n = refl

module _ (j : Bool) (f : Bool → Bool → Bool) (t u : Trie) where
  pub step-flat : (n : ℕ) → 1 ≤ n → (x : Bool) → verdict f (kind_of t) (kind_of u) ≡ flat x → op_t j f n t u ≡ cond x leaf none
  step-flat zero h x e = absurd (omega arith)
  step-flat (suc k) h x e = op_t-flat j f k t u x e

  pub step-mixed : (n : ℕ) → 1 ≤ n → verdict f (kind_of t) (kind_of u) ≡ mixed → op_t j f n t u ≡ glue j (op_half j f (n - 1) t u false) (op_half j f (n - 1) t u true)
  step-mixed zero h e = absurd (omega arith)
  step-mixed (suc k) h e = let p : suc k - 1 ≡ k = omega arith in rw p (op_t-mixed j f k t u e)

module _ {w : List ℕ} {b a c o g fuel : ℕ} {t u : Trie} (s : Inputs w b a c o g fuel t u) (op v : ℕ) (told : v ≡ rank (verdict (op_of op) (kind_of t) (kind_of u))) where
  op-flat : (x : Bool) → v ≡ rank (flat x) → Emits w w b o (said (flat x) 0) (op_on op fuel t u)
  op-flat x e = rw (step-flat (joined op) (op_of op) t u fuel s.turn x (rank-flat _ x (sym told ∙ e))) (emits-flat w b o x)

  pub op-none : v ≡ 0 → Emits w w b o Empty (op_on op fuel t u)
  op-none = op-flat false

  pub op-full : v ≡ 2 → Emits w w b o Full (op_on op fuel t u)
  op-full = op-flat true

  pub op-mixed : (v ≡ 0 → ⊥) → (v ≡ 2 → ⊥) → verdict (op_of op) (kind_of t) (kind_of u) ≡ mixed
  op-mixed f n = rank-mixed _ (λ e. f (told ∙ e)) (λ e. n (told ∙ e))

-- An operation that the kinds of its sources do not settle, with the numbers of their halves.
pub record Split (w : List ℕ) (b op a c o g fuel : ℕ) (t u : Trie) (al cl ar cr : ℕ) : Type 0 where
  pub src : Inputs w b a c o g fuel t u
  pub mixes : verdict (op_of op) (kind_of t) (kind_of u) ≡ mixed
  pub left : Means w b o g al (half false t) × Means w b o g cl (half false u)
  pub right : Means w b o g ar (half true t) × Means w b o g cr (half true u)

pub split : {w : List ℕ} {b a c o g fuel : ℕ} {t u : Trie} {al cl ar cr : ℕ} → Inputs w b a c o g fuel t u → (op v : ℕ) → v ≡ rank (verdict (op_of op) (kind_of t) (kind_of u)) → (v ≡ 0 → ⊥) → (v ≡ 2 → ⊥)
    → Means w b o g al (half false t) × Means w b o g cl (half false u) → Means w b o g ar (half true t) × Means w b o g cr (half true u) → Split w b op a c o g fuel t u al cl ar cr
split s op v told f n l r = record { src = s; mixes = op-mixed s op v told f n; left = l; right = r }

module _ {w : List ℕ} {b op a c o g fuel : ℕ} {t u : Trie} {al cl ar cr : ℕ} (d : Split w b op a c o g fuel t u al cl ar cr) where
  deeper : 1 ≤ fuel - 1
  deeper = let turn = d.src.turn in verdict-levels (op_of op) (fuel - 1) t u d.mixes (omega (arith, d.src.deep-t)) (omega (arith, d.src.deep-u))

  abbrev part : Bool → Trie
  part s = op_on op (fuel - 1) (half s t) (half s u)

  step : op_on op fuel t u ≡ glue (joined op) (part false) (part true)
  step = step-mixed (joined op) (op_of op) t u fuel d.src.turn d.mixes

  pub part-size : (s : Bool) (i k : ℕ) → Means w b o g i (half s t) × Means w b o g k (half s u) → size (part s) ≤ 4294967297
  part-size s i k m = omega (arith, size-op (joined op) (op_of op) (fuel - 1) (half s t) (half s u), means-body i (half s t) m.0, means-body k (half s u) m.1)

  pub half-inputs : (w₁ : List ℕ) (s : Bool) (i k o' : ℕ) → o ≤ o' → o' + 2 ^ 33 * (fuel - 1) < 2 ^ 62 → Means w₁ b o g i (half s t) × Means w₁ b o g k (half s u)
      → Inputs w₁ b i k o' g (fuel - 1) (half s t) (half s u)
  half-inputs w₁ s i k o' le few m =
      let turn = d.src.turn in
      record {
        first = means-later o' le i (half s t) m.0;
        second = means-later o' le k (half s u) m.1;
        deep-t = levels-half s t (fuel - 1) (omega (arith, d.src.deep-t)) deeper;
        deep-u = levels-half s u (fuel - 1) (omega (arith, d.src.deep-u)) deeper;
        turn = deeper;
        few = few;
      }

  pub left-inputs : Inputs w b al cl (o + 1) g (fuel - 1) (half false t) (half false u)
  left-inputs = half-inputs w false al cl (o + 1) (omega arith) (omega (arith, d.src.few, d.src.turn)) d.left

  module _ (x : Emitted) (m : ℕ) (said-l : x ≡ answer (o + 1) (part false)) (end : m ≡ end_of x (o + 1)) where
    second : m ≡ o + 1 + size (part false)
    second = end ∙ end_is x (part false) (o + 1) said-l

    next-inputs : (w₁ : List ℕ) → Means w₁ b o g ar (half true t) × Means w₁ b o g cr (half true u) → Inputs w₁ b ar cr m g (fuel - 1) (half true t) (half true u)
    next-inputs w₁ n = half-inputs w₁ true ar cr m (omega (arith, second)) (omega (arith, d.src.few, d.src.turn, second, part-size false al cl d.left)) n

    both-said : (y : Emitted) → y ≡ answer m (part true) → Both o x y (part false) (part true)
    both-said y said-r = record {
      first = said-l;
      second = rw second at said-r;
      small = omega (arith, d.src.few, deeper, part-size false al cl d.left, part-size true ar cr d.right);
    }

  -- with nothing written
  module _ (x : Emitted) (m : ℕ) (hl : (n : ℕ) (v y : Trie) → Inputs w b al cl (o + 1) n (fuel - 1) v y → x ≡ answer (o + 1) (op_on op (fuel - 1) v y)) (end : m ≡ end_of x (o + 1)) where
    said-first : x ≡ answer (o + 1) (part false)
    said-first = hl g (half false t) (half false u) left-inputs

    pub right-inputs : Inputs w b ar cr m g (fuel - 1) (half true t) (half true u)
    right-inputs = next-inputs x m said-first end w d.right

    module _ (y : Emitted) (hr : (n : ℕ) (v z : Trie) → Inputs w b ar cr m n (fuel - 1) v z → y ≡ answer m (op_on op (fuel - 1) v z)) where
      pub foreseen-both : Both o x y (part false) (part true)
      foreseen-both = both-said x m said-first end y (hr g (half true t) (half true u) right-inputs)

      pub foreseen : (z : Emitted) → ((v n : Trie) → Both o x y v n → z ≡ answer o (glue (joined op) v n)) → z ≡ answer o (op_on op fuel t u)
      foreseen z f = rw step (f (part false) (part true) foreseen-both)

  -- where there is room for the result, there is for its halves, and what is written of the first is apart from the sources
  module _ (p : Gap w b o g (op_on op fuel t u)) where
    fits : Fits (o + 1) g (part false) × Fits (o + 1 + size (part false)) g (part true) × (kind_of (glue (joined op) (part false) (part true)) ≡ mixed → o + 1 + size (part false) + size (part true) ≤ g)
    fits = fits-glue (joined op) o g (part false) (part true) (rw (← step) p.fits)

    pub left-gap : Gap w b (o + 1) g (part false)
    left-gap = record { one = omega arith; fits = fits.0; room = p.room; low = p.low }

    module _ (w₁ : List ℕ) (x : Emitted) (m : ℕ) (done : Emits w w₁ b (o + 1) x (part false)) (end : m ≡ end_of x (o + 1)) where
      stays : (i : ℕ) (v : Trie) → Means w b o g i v → Means w₁ b o g i v
      stays i v n = rw done.wrote (means-put (o + 1) (body (part false)) (omega arith) (omega arith) (fits-body (o + 1) g (part false) fits.0) i v n)

      pub rest-inputs : Inputs w₁ b ar cr m g (fuel - 1) (half true t) (half true u)
      rest-inputs = next-inputs x m done.answers end w₁ (stays ar (half true t) d.right.0, stays cr (half true u) d.right.1)

      same : length w₁ ≡ length w
      same = rw done.wrote (length-put w (place b (o + 1)) (body (part false)))

      pub rest-gap : Gap w₁ b m g (part true)
      rest-gap = let e = second x m done.answers end in record { one = omega arith; fits = rw e fits.1; room = rw same p.room; low = p.low }

      module _ (w₂ : List ℕ) (y : Emitted) (rest-done : Emits w₁ w₂ b m y (part true)) where
        pub pending : Pending w w₂ b (joined op) o x y (part false) (part true)
        pending =
            let n : length w₂ ≡ length w = rw rest-done.wrote (length-put w₁ (place b m) (body (part true)) ∙ same) in
            record {
              both = both-said x m done.answers end y rest-done.answers;
              wrote = rw (rest-done.wrote, done.wrote, second x m done.answers end);
              one = p.one;
              room = λ h. let k = fits.2 h in (rw n (omega (arith, p.room)), omega (arith, p.low));
            }

        pub emitted : (w₃ : List ℕ) (z : Emitted) → ((v : List ℕ) (n k : Trie) → Pending v w₂ b (joined op) o x y n k → Emits v w₃ b o z (glue (joined op) n k)) → Emits w w₃ b o z (op_on op fuel t u)
        emitted w₃ z f = rw step (f w (part false) (part true) pending)
