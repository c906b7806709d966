-- Pouring is the set operation with the halves left apart: union into, difference out of. By induction on the trie that is poured. Assumes nothing.
use mathlib.Core.Bool.{Bool, true, false, cond, ◌||◌, false≢true}
use mathlib.Core.Path.{◌≡◌, refl, ap, sym, ◌∙◌}
use Prim.Native.Nat.{ℕ, zero, suc, ◌≤◌}
use native.Mathlib.Omega.{arith}
use Rattle.nets.specs.Tries.{Trie, none, node, leaf, levels, is_none, is_leaf, bare}
use Rattle.nets.specs.TrieOps.{half, flat, mixed, kind_of, agree, verdict, op_t, except_t}
use Rattle.nets.proofs.Listing.{leaf-is}
use Rattle.nets.proofs.Glue.{glue-inner, levels-half}
use Rattle.nets.proofs.Operate.{op_t-flat, op_t-mixed}
use Rattle.trie_emit.proofs.Answers.{by_kind}
use Rattle.trie_pour.specs.Pour.{flat_t, is_all, pouring, pour_t}
use Rattle.trie_pour.proofs.Pour.{pour-nothing, pour-flat, pour-halves}

inner-levels : (l r : Trie) → bare l r ≡ false → (k : ℕ) → levels (node l r) ≤ suc k → 1 ≤ k
unfolding levels
inner-levels none none e k h = absurd (false≢true (sym e))
inner-levels none (node a b) e k h = omega arith
inner-levels (node a b) r e k h = omega arith

module _ (x : Bool) where
  -- with nothing to pour
  keeps : (y : Bool) → pouring x y false ≡ y
  keeps y = go x y
    where
      go : (x y : Bool) → pouring x y false ≡ y
      go true true = refl
      go true false = refl
      go false true = refl
      go false false = refl

  takes : (y : Bool) → pouring x y true ≡ x
  takes y = go x y
    where
      go : (x y : Bool) → pouring x y true ≡ x
      go true true = refl
      go true false = refl
      go false true = refl
      go false false = refl

  abbrev Same : Trie → Type 0
  Same u = (k : ℕ) → levels u ≤ suc k → op_t false (pouring x) (suc k) u none ≡ u

  op-inner : (l r : Trie) (k : ℕ) → bare l r ≡ false → levels (node l r) ≤ suc (suc k) → Same l → Same r → op_t false (pouring x) (suc (suc k)) (node l r) none ≡ node l r
  unfolding levels
  op-inner l r k e h i j =
      op_t-mixed false (pouring x) (suc k) (node l r) none (rw (e, keeps false, keeps true))
      ∙ rw (e, i k (omega arith), j k (omega arith)) (glue-inner l r e)

  op-nothing : (t : Trie) (k : ℕ) → levels t ≤ suc k → op_t false (pouring x) (suc k) t none ≡ t
  op-nothing none k h = op_t-flat false (pouring x) k none none false (ap flat (keeps false))
  op-nothing (node l r) k h = go (bare l r) refl k h (op-nothing l) (op-nothing r)
    where
      go : (y : Bool) → bare l r ≡ y → (k : ℕ) → levels (node l r) ≤ suc k → Same l → Same r → op_t false (pouring x) (suc k) (node l r) none ≡ node l r
      go true e k h i j = op_t-flat false (pouring x) k (node l r) none true (rw (e, keeps true)) ∙ sym (leaf-is (node l r) e)
      go false e zero h i j = absurd (let z = inner-levels l r e zero h in omega arith)
      go false e (suc k) h i j = op-inner l r k e h i j

  -- where the kinds of both settle it
  flat-verdict : (s t : Trie) → is_none s ≡ false → (is_leaf s || is_all x t) ≡ true → verdict (pouring x) (kind_of t) (kind_of s) ≡ flat x
  flat-verdict s t = by_kind (λ s. is_none s ≡ false → (is_leaf s || is_all x t) ≡ true → verdict (pouring x) (kind_of t) (kind_of s) ≡ flat x)
      (λ h e. absurd (false≢true (sym h))) (λ h e. whole t)
      (λ l r b h e. rw b (part x t (rw b at e))) s
    where
      whole : (t : Trie) → verdict (pouring x) (kind_of t) (flat true) ≡ flat x
      whole = by_kind (λ t. verdict (pouring x) (kind_of t) (flat true) ≡ flat x) (ap flat (takes false)) (ap flat (takes true)) (λ l r e. rw (e, takes false, takes true) (twice x))
        where
          twice : (x : Bool) → agree x x ≡ flat x
          twice true = refl
          twice false = refl

      part : (x : Bool) (t : Trie) → is_all x t ≡ true → verdict (pouring x) (kind_of t) mixed ≡ flat x
      part true = by_kind (λ t. is_leaf t ≡ true → verdict (pouring true) (kind_of t) mixed ≡ flat true) (λ e. absurd (false≢true e)) (λ e. refl) (λ l r b e. absurd (false≢true (sym b ∙ e)))
      part false = by_kind (λ t. is_none t ≡ true → verdict (pouring false) (kind_of t) mixed ≡ flat false) (λ e. refl) (λ e. absurd (false≢true e)) (λ l r b e. absurd (false≢true e))

  mixed-verdict : (t : Trie) → is_all x t ≡ false → verdict (pouring x) (kind_of t) mixed ≡ mixed
  mixed-verdict t = go x t
    where
      go : (x : Bool) (t : Trie) → is_all x t ≡ false → verdict (pouring x) (kind_of t) mixed ≡ mixed
      go true = by_kind (λ t. is_leaf t ≡ false → verdict (pouring true) (kind_of t) mixed ≡ mixed) (λ e. refl) (λ e. absurd (false≢true (sym e))) (λ l r b e. rw b)
      go false = by_kind (λ t. is_none t ≡ false → verdict (pouring false) (kind_of t) mixed ≡ mixed) (λ e. absurd (false≢true (sym e))) (λ e. refl) (λ l r b e. rw b)

  abbrev Poured : Trie → Type 0
  Poured s = (t : Trie) (k : ℕ) → levels s ≤ suc k → levels t ≤ suc k → pour_t x s t ≡ op_t false (pouring x) (suc k) t s

  op-halves : (l r t : Trie) (k : ℕ) → bare l r ≡ false → is_all x t ≡ false → levels (node l r) ≤ suc (suc k) → levels t ≤ suc (suc k) → Poured l → Poured r
      → pour_t x (node l r) t ≡ op_t false (pouring x) (suc (suc k)) t (node l r)
  unfolding levels
  op-halves l r t k e f h g i j =
      pour-halves x l r t e f
      ∙ rw (i (half false t) k (omega arith) (levels-half false t (suc k) g (omega arith)), j (half true t) k (omega arith) (levels-half true t (suc k) g (omega arith)))
      (sym (op_t-mixed false (pouring x) (suc k) t (node l r) (rw e (mixed-verdict t f)) ∙ rw e))

  pub pour-op : (s t : Trie) (k : ℕ) → levels s ≤ suc k → levels t ≤ suc k → pour_t x s t ≡ op_t false (pouring x) (suc k) t s
  pour-op none t k h g = pour-nothing x t ∙ sym (op-nothing t k g)
  pour-op (node l r) t k h g = go (bare l r) (is_all x t) refl refl k h g (pour-op l) (pour-op r)
    where
      flat-is : (y : Bool) → cond y leaf none ≡ flat_t y
      flat-is true = refl
      flat-is false = refl

      settled : (k : ℕ) → (bare l r || is_all x t) ≡ true → pour_t x (node l r) t ≡ op_t false (pouring x) (suc k) t (node l r)
      settled k e = pour-flat x (node l r) t refl e ∙ sym (op_t-flat false (pouring x) k t (node l r) x (flat-verdict (node l r) t refl e) ∙ flat-is x)

      go : (y z : Bool) → bare l r ≡ y → is_all x t ≡ z → (k : ℕ) → levels (node l r) ≤ suc k → levels t ≤ suc k → Poured l → Poured r
          → pour_t x (node l r) t ≡ op_t false (pouring x) (suc k) t (node l r)
      go true z e f k h g i j = settled k (rw e)
      go false true e f k h g i j = settled k (rw (e, f))
      go false false e f zero h g i j = absurd (let z = inner-levels l r e zero h in omega arith)
      go false false e f (suc k) h g i j = op-halves l r t k e f h g i j

-- out of a trie: what excluding leaves
pub pour-except : (s t : Trie) (k : ℕ) → levels s ≤ suc k → levels t ≤ suc k → pour_t false s t ≡ except_t (suc k) t s
unfolding except_t
pour-except s t k h g = pour-op false s t k h g
