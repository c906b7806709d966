-- How many nodes of the second form what is poured has, and what has been cut: never more than what it becomes. Assumes nothing.
use mir.Val.{bool_byte}
use mathlib.Core.Bool.{Bool, true, false, cond, ◌||◌, false≢true}
use mathlib.Core.Path.{◌≡◌, refl, sym}
use Prim.Native.Nat.{◌+◌, ◌≤◌}
use native.Mathlib.Omega.{arith}
use Rattle.nets.specs.Tries.{Trie, none, node, leaf, bare, glue}
use Rattle.nets.specs.TrieOps.{half}
use Rattle.nodes.proofs.Tries.{some}
use Rattle.nets.proofs.Glue.{glue-inner}
use Rattle.trie_emit.proofs.Answers.{by_kind, by-glue}
use Rattle.trie_pour.specs.Pour.{flat_t, is_flat, pour_t, shadow, cut_t}
use Rattle.trie_pour.proofs.Pour.{pour-nothing, pour-halves, pour-cut, flat-all}
use Rattle.branch_points.specs.KeptTries.{kept_size}
use Rattle.branch_points.proofs.Sizes.{kept_size-some, kept_size-halves, kept_size-first, kept_size-second, kept_size-both, kept_size-leaf}
use Rattle.kept_sieve.proofs.Spares.{shadow-size}

-- The node over two halves that are left apart.
pub glue-none : kept_size none ≡ 0
unfolding kept_size
glue-none = refl

pub glue-sum : (l r : Trie) → kept_size l + kept_size r ≤ kept_size (glue false l r)
glue-sum = by-glue (λ l r t. kept_size l + kept_size r ≤ kept_size t) false (omega (arith, glue-none)) (λ h. absurd (false≢true h)) (λ l r e. kept_size-halves l r)

pub glue-both : (l r : Trie) → 1 ≤ kept_size l → 1 ≤ kept_size r → kept_size (glue false l r) ≡ 1 + kept_size l + kept_size r
glue-both = by-glue (λ l r t. 1 ≤ kept_size l → 1 ≤ kept_size r → kept_size t ≡ 1 + kept_size l + kept_size r) false
    (λ h k. absurd (omega (arith, glue-none))) (λ h. absurd (false≢true h)) (λ l r e h k. kept_size-both l r (λ z. omega arith) (λ z. omega arith))

pub glue-first : (l r : Trie) → kept_size r ≡ 0 → kept_size (glue false l r) ≡ kept_size l
glue-first none none e = refl
glue-first none (node x y) e = absurd (omega (arith, kept_size-some (node x y) (some x y)))
glue-first (node x y) none e = kept_size-first (node x y) none e (λ z. omega (arith, kept_size-some (node x y) (some x y)))
glue-first (node x y) (node z u) e = absurd (omega (arith, kept_size-some (node z u) (some z u)))

pub glue-second : (l r : Trie) → kept_size l ≡ 0 → kept_size (glue false l r) ≡ kept_size r
glue-second none none e = refl
glue-second none (node x y) e = kept_size-second none (node x y) e (λ z. omega (arith, kept_size-some (node x y) (some x y)))
glue-second (node x y) r e = absurd (omega (arith, kept_size-some (node x y) (some x y)))

-- what larger halves add
pub glue-more : (l r m n : Trie) → kept_size l ≤ kept_size m → kept_size r ≤ kept_size n
    → kept_size (glue false l r) + kept_size m + kept_size n ≤ kept_size (glue false m n) + kept_size l + kept_size r
glue-more none r m n h k = omega (arith, glue-sum m n, glue-second none r glue-none, glue-none)
glue-more (node x y) none m n h k = omega (arith, glue-sum m n, glue-first (node x y) none glue-none, glue-none)
glue-more (node x y) (node z u) m n h k =
    let a = kept_size-some (node x y) (some x y) in
    let c = kept_size-some (node z u) (some z u) in
    omega (arith, glue-both m n (omega arith) (omega arith), glue-both (node x y) (node z u) a c)

-- the halves of a trie that is neither empty nor full
pub halves-inner : (t : Trie) → is_flat t ≡ false → kept_size t ≡ kept_size (glue false (half false t) (half true t))
halves-inner = by_kind (λ t. is_flat t ≡ false → kept_size t ≡ kept_size (glue false (half false t) (half true t)))
    (λ h. absurd (false≢true (sym h))) (λ h. absurd (false≢true (sym h))) (λ l r e h. rw (e, glue-inner l r e))

-- What has been cut is no larger than what it becomes.
or-flat : (y : Bool) (t : Trie) → (y || is_flat t) ≡ false → (y ≡ false) × (is_flat t ≡ false)
or-flat true t e = absurd (false≢true (sym e))
or-flat false t e = (refl, e)

cut-pour-size : (x : Bool) (s t : Trie) → kept_size (cut_t x s t) ≤ kept_size (pour_t x s t)
unfolding cut_t
cut-pour-size x none t = rw (pour-nothing x t) (omega arith)
cut-pour-size x (node l r) t = go (bare l r || is_flat t) refl (cut-pour-size x l (half false t)) (cut-pour-size x r (half true t))
  where
    go : (y : Bool) → (bare l r || is_flat t) ≡ y → kept_size (cut_t x l (half false t)) ≤ kept_size (pour_t x l (half false t))
        → kept_size (cut_t x r (half true t)) ≤ kept_size (pour_t x r (half true t))
        → kept_size (cond y (shadow t (pour_t x (node l r) t)) (glue false (cut_t x l (half false t)) (cut_t x r (half true t)))) ≤ kept_size (pour_t x (node l r) t)
    go true e f g = shadow-size t (pour_t x (node l r) t)
    go false e f g =
        let h = or-flat (bare l r) t e in
        rw (pour-halves x l r t h.0 (flat-all x t h.1))
        (omega (arith, glue-more (cut_t x l (half false t)) (cut_t x r (half true t)) (pour_t x l (half false t)) (pour_t x r (half true t)) f g))

pub cut-grows : (x : Bool) (s t f : Trie) → t ≡ cut_t x s f → kept_size t ≤ kept_size (pour_t x s t)
cut-grows x s t f e = rw (e, pour-cut x s f) (cut-pour-size x s f)

-- What comes into nothing.
pub pour-fresh : (s : Trie) → pour_t true s none ≡ s
unfolding pour_t
pour-fresh none = refl
pour-fresh (node l r) = go (bare l r) refl (pour-fresh l) (pour-fresh r)
  where
    both : (l r : Trie) → bare l r ≡ true → leaf ≡ node l r
    both none none e = refl
    both none (node x y) e = absurd (false≢true e)
    both (node x y) r e = absurd (false≢true e)

    go : (y : Bool) → bare l r ≡ y → pour_t true l none ≡ l → pour_t true r none ≡ r
        → cond (y || false) leaf (glue false (pour_t true l none) (pour_t true r none)) ≡ node l r
    go true e f g = both l r e
    go false e f g = rw (f, g) (glue-inner l r e)

-- A full trie, or none.
pub flat-byte : (x : Bool) → bool_byte x ≡ kept_size (flat_t x)
flat-byte true = sym kept_size-leaf
flat-byte false = sym glue-none
