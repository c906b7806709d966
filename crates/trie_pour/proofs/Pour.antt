-- Pouring one trie into another, or out of it, one step at a time; that what is cut away before makes no difference; and how many nodes there are. By induction on the trie that is poured.
-- Assumes nothing.
use mathlib.Core.Bool.{Bool, true, false, cond, ◌||◌, false≢true, or-true}
use mathlib.Core.Path.{◌≡◌, refl, sym, ◌∙◌}
use Prim.Native.Nat.{◌+◌, ◌*◌, ◌≤◌}
use native.Mathlib.Omega.{arith}
use Rattle.nets.specs.Tries.{Trie, none, node, leaf, size, is_none, is_leaf, bare, side, glue}
use Rattle.nets.specs.TrieOps.{half}
use Rattle.trie_emit.proofs.Answers.{by_kind, by-glue, size-glue}
use Rattle.trie_pour.specs.Pour.{flat_t, is_all, is_flat, pour_t, shadow, cut_t}

-- Halves.
pub halves-size : (t : Trie) → size (half false t) + size (half true t) ≤ size t + 1
unfolding size
halves-size = by_kind (λ t. size (half false t) + size (half true t) ≤ size t + 1) (omega arith) (omega arith) (λ l r e. rw e (omega arith))

pub half-size : (b : Bool) (t : Trie) → size (half b t) ≤ size t
unfolding size
half-size b = by_kind (λ t. size (half b t) ≤ size t) (omega arith) (omega arith) (λ l r e. rw e (go b l r))
  where
    go : (b : Bool) (l r : Trie) → size (side b l r) ≤ size (node l r)
    go false l r = omega arith
    go true l r = omega arith

-- those of a trie that is neither empty nor full
pub halves-inner : (t : Trie) → is_flat t ≡ false → 1 + size (half false t) + size (half true t) ≡ size t
unfolding size
halves-inner = by_kind (λ t. is_flat t ≡ false → 1 + size (half false t) + size (half true t) ≡ size t)
    (λ h. absurd (false≢true (sym h))) (λ h. absurd (false≢true (sym h))) (λ l r e h. rw e (omega arith))

pub flat-all : (x : Bool) (t : Trie) → is_flat t ≡ false → is_all x t ≡ false
flat-all true = by_kind (λ t. is_flat t ≡ false → is_leaf t ≡ false) (λ h. absurd (false≢true (sym h))) (λ h. h) (λ l r e h. h)
flat-all false = by_kind (λ t. is_flat t ≡ false → is_none t ≡ false) (λ h. absurd (false≢true (sym h))) (λ h. refl) (λ l r e h. refl)

-- The node over two halves that are left apart.
pub glue-sum : (l r : Trie) → size l + size r ≤ size (glue false l r)
unfolding size
glue-sum = by-glue (λ l r t. size l + size r ≤ size t) false (omega arith) (λ h. absurd (false≢true h)) (λ l r e. omega arith)

glue-more : (l r m n : Trie) → size l ≤ size m → size r ≤ size n → size (glue false l r) ≤ size (glue false m n)
unfolding size
glue-more l r = by-glue (λ m n t. size l ≤ size m → size r ≤ size n → size (glue false l r) ≤ size t) false
    (λ h g. by-glue (λ l r t. size l ≤ 0 → size r ≤ 0 → size t ≤ 0) false (λ h g. omega arith) (λ e h g. absurd (false≢true e)) (λ l r e h g. absurd (some l r e (omega arith))) l r h g)
    (λ e h g. absurd (false≢true e))
    (λ m n e h g. omega (arith, size-glue false l r))
  where
    some : (l r : Trie) → bare l r ≡ false → size l + size r ≤ 0 → ⊥
    some none none e h = absurd (false≢true (sym e))
    some none (node a b) e h = omega arith
    some (node a b) r e h = omega arith

-- A single leaf where both have something.
pub shadow-left : (t u : Trie) → size (shadow t u) ≤ size t
unfolding size
shadow-left none u = omega arith
shadow-left (node l r) none = omega arith
shadow-left (node l r) (node a b) = omega arith

shadow-right : (t u : Trie) → size (shadow t u) ≤ size u
unfolding size
shadow-right none u = omega arith
shadow-right (node l r) none = omega arith
shadow-right (node l r) (node a b) = omega arith

-- One step.
module _ (x : Bool) where
  pub pour-nothing : (t : Trie) → pour_t x none t ≡ t
  unfolding pour_t
  pour-nothing t = refl

  pub cut-nothing : (t : Trie) → cut_t x none t ≡ t
  unfolding cut_t
  cut-nothing t = refl

  pub pour-flat : (s t : Trie) → is_none s ≡ false → (is_leaf s || is_all x t) ≡ true → pour_t x s t ≡ flat_t x
  unfolding pour_t
  pour-flat none t h e = absurd (false≢true (sym h))
  pour-flat (node l r) t h e = rw e

  pub pour-halves : (l r t : Trie) → bare l r ≡ false → is_all x t ≡ false → pour_t x (node l r) t ≡ glue false (pour_t x l (half false t)) (pour_t x r (half true t))
  unfolding pour_t
  pour-halves l r t h e = rw (h, e)

  pub cut-flat : (s t : Trie) → is_none s ≡ false → (is_leaf s || is_flat t) ≡ true → cut_t x s t ≡ shadow t (pour_t x s t)
  unfolding cut_t
  cut-flat none t h e = absurd (false≢true (sym h))
  cut-flat (node l r) t h e = rw e

  pub cut-halves : (l r t : Trie) → bare l r ≡ false → is_flat t ≡ false → cut_t x (node l r) t ≡ glue false (cut_t x l (half false t)) (cut_t x r (half true t))
  unfolding cut_t
  cut-halves l r t h e = rw (h, e)

  -- How many nodes there are.
  pub pour-size : (s t : Trie) → size (pour_t x s t) ≤ size t + 2 * size s
  unfolding pour_t size
  pour-size none t = omega arith
  pour-size (node l r) t = go (bare l r || is_all x t) (pour-size l (half false t)) (pour-size r (half true t))
    where
      flat-size : (x : Bool) → size (flat_t x) ≤ 1
      flat-size true = omega arith
      flat-size false = omega arith

      go : (y : Bool) → size (pour_t x l (half false t)) ≤ size (half false t) + 2 * size l → size (pour_t x r (half true t)) ≤ size (half true t) + 2 * size r
          → size (cond y (flat_t x) (glue false (pour_t x l (half false t)) (pour_t x r (half true t)))) ≤ size t + 2 * size (node l r)
      go true f g = omega (arith, flat-size x)
      go false f g = omega (arith, size-glue false (pour_t x l (half false t)) (pour_t x r (half true t)), halves-size t)

  or-flat : (y : Bool) (t : Trie) → (y || is_flat t) ≡ false → (y ≡ false) × (is_flat t ≡ false)
  or-flat true t e = absurd (false≢true (sym e))
  or-flat false t e = (refl, e)

  pub cut-size : (s t : Trie) → size (cut_t x s t) ≤ size t
  unfolding cut_t size
  cut-size none t = omega arith
  cut-size (node l r) t = go (bare l r || is_flat t) refl (cut-size l (half false t)) (cut-size r (half true t))
    where
      go : (y : Bool) → (bare l r || is_flat t) ≡ y → size (cut_t x l (half false t)) ≤ size (half false t) → size (cut_t x r (half true t)) ≤ size (half true t)
          → size (cond y (shadow t (pour_t x (node l r) t)) (glue false (cut_t x l (half false t)) (cut_t x r (half true t)))) ≤ size t
      go true e f g = shadow-left t (pour_t x (node l r) t)
      go false e f g = omega (arith, size-glue false (cut_t x l (half false t)) (cut_t x r (half true t)), halves-inner t (or-flat (bare l r) t e).1)

  pub cut-pour-size : (s t : Trie) → size (cut_t x s t) ≤ size (pour_t x s t)
  unfolding cut_t
  cut-pour-size none t = rw (pour-nothing t) (omega arith)
  cut-pour-size (node l r) t = go (bare l r || is_flat t) refl (cut-pour-size l (half false t)) (cut-pour-size r (half true t))
    where
      go : (y : Bool) → (bare l r || is_flat t) ≡ y → size (cut_t x l (half false t)) ≤ size (pour_t x l (half false t)) → size (cut_t x r (half true t)) ≤ size (pour_t x r (half true t))
          → size (cond y (shadow t (pour_t x (node l r) t)) (glue false (cut_t x l (half false t)) (cut_t x r (half true t)))) ≤ size (pour_t x (node l r) t)
      go true e f g = shadow-right t (pour_t x (node l r) t)
      go false e f g =
          let h = or-flat (bare l r) t e in
          rw (pour-halves l r t h.0 (flat-all x t h.1)) (glue-more (cut_t x l (half false t)) (cut_t x r (half true t)) (pour_t x l (half false t)) (pour_t x r (half true t)) f g)

-- Nothing is left of nothing.
pub pour-none : (s : Trie) → pour_t false s none ≡ none
unfolding pour_t
pour-none none = refl
pour-none (node l r) = rw (or-true (bare l r))

-- What is cut away before makes no difference.
cut-leaf : (x : Bool) (s : Trie) → is_none s ≡ false → pour_t x s (shadow leaf (pour_t x s leaf)) ≡ pour_t x s leaf
cut-leaf true s h = let e = pour-flat true s leaf h (or-true (is_leaf s)) in rw (e, e)
cut-leaf false s h = go (is_none (pour_t false s leaf)) refl
  where
    nothing : (t : Trie) → is_none t ≡ true → t ≡ none
    nothing none e = refl
    nothing (node l r) e = absurd (false≢true e)

    go : (y : Bool) → is_none (pour_t false s leaf) ≡ y → pour_t false s (cond y none leaf) ≡ pour_t false s leaf
    go true e = pour-none s ∙ sym (nothing (pour_t false s leaf) e)
    go false e = refl

pub cut_all : (x : Bool) (s t : Trie) → is_none s ≡ false → is_flat t ≡ true → pour_t x s (shadow t (pour_t x s t)) ≡ pour_t x s t
cut_all x s t h = by_kind (λ t. is_flat t ≡ true → pour_t x s (shadow t (pour_t x s t)) ≡ pour_t x s t) (λ e. refl) (λ e. cut-leaf x s h) (λ l r e f. absurd (false≢true (sym e ∙ f))) t

-- with what is left of the halves
pub cut-glue : (x : Bool) (l r c d : Trie) → bare l r ≡ false → pour_t x (node l r) (glue false c d) ≡ glue false (pour_t x l c) (pour_t x r d)
cut-glue x l r c d h = by-glue (λ c d t. pour_t x (node l r) t ≡ glue false (pour_t x l c) (pour_t x r d)) false (nothing x) (λ e. absurd (false≢true e))
    (λ c d e. pour-halves x l r (node c d) h (all x c d e) ∙ rw e) c d
  where
    nothing : (x : Bool) → pour_t x (node l r) none ≡ glue false (pour_t x l none) (pour_t x r none)
    nothing true = pour-halves true l r none h refl
    nothing false = rw (pour-none (node l r), pour-none l, pour-none r)

    all : (x : Bool) (c d : Trie) → bare c d ≡ false → is_all x (node c d) ≡ false
    all true c d e = e
    all false c d e = refl

pub pour-cut : (x : Bool) (s t : Trie) → pour_t x s (cut_t x s t) ≡ pour_t x s t
pour-cut x none t = rw (cut-nothing x t)
pour-cut x (node l r) t = go (bare l r) (is_flat t) refl refl (pour-cut x l (half false t)) (pour-cut x r (half true t))
  where
    go : (y z : Bool) → bare l r ≡ y → is_flat t ≡ z → pour_t x l (cut_t x l (half false t)) ≡ pour_t x l (half false t) → pour_t x r (cut_t x r (half true t)) ≡ pour_t x r (half true t)
        → pour_t x (node l r) (cut_t x (node l r) t) ≡ pour_t x (node l r) t
    go true z e f i j = pour-flat x (node l r) (cut_t x (node l r) t) refl (rw e) ∙ sym (pour-flat x (node l r) t refl (rw e))
    go false true e f i j = rw (cut-flat x (node l r) t refl (rw (e, f))) (cut_all x (node l r) t refl f)
    go false false e f i j =
        rw (cut-halves x l r t e f) (cut-glue x l r (cut_t x l (half false t)) (cut_t x r (half true t)) e ∙ rw (i, j) (sym (pour-halves x l r t e (flat-all x t f))))

-- What has been cut: it is no larger than what it becomes, and its halves have been cut too.
pub cut-grows : (x : Bool) (s t f : Trie) → t ≡ cut_t x s f → size t ≤ size (pour_t x s t)
cut-grows x s t f e = rw (e, pour-cut x s f) (cut-pour-size x s f)

shadow-flat : (t u : Trie) → is_flat (shadow t u) ≡ true
shadow-flat t u = go (is_none t || is_none u)
  where
    go : (y : Bool) → is_flat (cond y none leaf) ≡ true
    go true = refl
    go false = refl

glue-halves : (l r : Trie) → is_flat (glue false l r) ≡ false → (half false (glue false l r) ≡ l) × (half true (glue false l r) ≡ r)
glue-halves = by-glue (λ l r t. is_flat t ≡ false → (half false t ≡ l) × (half true t ≡ r)) false (λ h. absurd (false≢true (sym h))) (λ e h. absurd (false≢true e)) (λ l r e h. (rw e, rw e))

pub cut-inner : (x : Bool) (l r t f : Trie) → bare l r ≡ false → t ≡ cut_t x (node l r) f → is_flat t ≡ false → (half false t ≡ cut_t x l (half false f)) × (half true t ≡ cut_t x r (half true f))
cut-inner x l r t f b e n = go (is_flat f) refl
  where
    go : (y : Bool) → is_flat f ≡ y → (half false t ≡ cut_t x l (half false f)) × (half true t ≡ cut_t x r (half true f))
    go true h =
        let z : t ≡ shadow f (pour_t x (node l r) f) = e ∙ cut-flat x (node l r) f refl (rw (b, h)) in
        absurd (false≢true (sym n ∙ rw z (shadow-flat f (pour_t x (node l r) f))))
    go false h =
        let z : t ≡ glue false (cut_t x l (half false f)) (cut_t x r (half true f)) = e ∙ cut-halves x l r f b h in
        rw z (glue-halves (cut_t x l (half false f)) (cut_t x r (half true f)) (rw z at n))
