-- What is left of a trie: pouring gives the same, it has no more nodes than what it becomes, and its members are among those of the trie. By induction on
-- the trie that is poured. Assumes nothing.
use mathlib.Core.Bool.{Bool, true, false, cond, false≢true, or-true, beq as same}
use mathlib.Core.Path.{◌≡◌, refl, sym, ◌∙◌}
use Prim.Native.Nat.{◌≤◌}
use native.Mathlib.Omega.{arith}
use Rattle.nets.specs.Tries.{Trie, none, node, leaf, is_none, is_leaf, bare, glue}
use Rattle.nets.specs.TrieOps.{half}
use Rattle.nets.proofs.Strings.{and_both}
use Rattle.nets.proofs.Glue.{glue-inner}
use Rattle.nodes.proofs.Tries.{some}
use Rattle.trie_emit.proofs.Answers.{by_kind, by-glue}
use Rattle.trie_pour.specs.Pour.{is_flat, pour_t, shadow, cut_t}
use Rattle.trie_pour.proofs.Pour.{pour-nothing, pour-flat, pour-halves, flat-all, cut-nothing, cut-flat, cut-halves, cut_all, cut-glue}
use Rattle.branch_points.specs.KeptTries.{kept_size}
use Rattle.branch_points.proofs.Sizes.{kept_size-some}
use Rattle.kept_sieve.specs.Spare.{spare_t}
use Rattle.kept_sieve.specs.Marks.{is_among}

-- One step.
module _ (x : Bool) where
  pub spare-nothing : (t : Trie) → spare_t x none t ≡ t
  unfolding spare_t
  spare-nothing t = refl

  pub spare-whole : (l r t : Trie) → bare l r ≡ true → spare_t x (node l r) t ≡ none
  unfolding spare_t
  spare-whole l r t h = rw h

  pub spare-flat : (l r t : Trie) → bare l r ≡ false → is_flat t ≡ true → spare_t x (node l r) t ≡ shadow t (pour_t x (node l r) t)
  unfolding spare_t
  spare-flat l r t h e = rw (h, e)

  pub spare-halves : (l r t : Trie) → bare l r ≡ false → is_flat t ≡ false
      → spare_t x (node l r) t ≡ glue false (spare_t x l (half false t)) (spare_t x r (half true t))
  unfolding spare_t
  spare-halves l r t h e = rw (h, e)

-- By these steps.
pub by-spare : (P : Trie → Trie → Trie → Type 0) (x : Bool) → ((t : Trie) → P none t t) → ((l r t : Trie) → bare l r ≡ true → P (node l r) t none)
    → ((l r t : Trie) → bare l r ≡ false → is_flat t ≡ true → P (node l r) t (shadow t (pour_t x (node l r) t)))
    → ((l r t : Trie) → bare l r ≡ false → is_flat t ≡ false → P l (half false t) (spare_t x l (half false t)) → P r (half true t) (spare_t x r (half true t))
    → P (node l r) t (glue false (spare_t x l (half false t)) (spare_t x r (half true t)))) → (u t : Trie) → P u t (spare_t x u t)
by-spare P x e w f h none t = rw (spare-nothing x t) (e t)
by-spare P x e w f h (node l r) t = go (bare l r) (is_flat t) refl refl (by-spare P x e w f h l (half false t)) (by-spare P x e w f h r (half true t))
  where
    go : (y z : Bool) → bare l r ≡ y → is_flat t ≡ z → P l (half false t) (spare_t x l (half false t)) → P r (half true t) (spare_t x r (half true t))
        → P (node l r) t (spare_t x (node l r) t)
    go true z k m i j = rw (spare-whole x l r t k) (w l r t k)
    go false true k m i j = rw (spare-flat x l r t k m) (f l r t k m)
    go false false k m i j = rw (spare-halves x l r t k m) (h l r t k m i j)

-- What goes before makes no difference.
pub pour-spare : (x : Bool) (u t : Trie) → pour_t x u (spare_t x u t) ≡ pour_t x u t
pour-spare x = by-spare (λ u t s. pour_t x u s ≡ pour_t x u t) x
    (λ t. refl)
    (λ l r t k. pour-flat x (node l r) none refl (rw k) ∙ sym (pour-flat x (node l r) t refl (rw k)))
    (λ l r t k m. cut_all x (node l r) t refl m)
    (λ l r t k m i j. cut-glue x l r (spare_t x l (half false t)) (spare_t x r (half true t)) k ∙ rw (i, j) (sym (pour-halves x l r t k (flat-all x t m))))

-- Cutting takes nothing more away.
cut-shadow : (x : Bool) (u t : Trie) → is_none u ≡ false → is_flat t ≡ true → cut_t x u (shadow t (pour_t x u t)) ≡ shadow t (pour_t x u t)
cut-shadow x u t k = by_kind (λ t. is_flat t ≡ true → cut_t x u (shadow t (pour_t x u t)) ≡ shadow t (pour_t x u t))
    (λ e. cut-flat x u none k (or-true (is_leaf u)))
    (λ e. go (is_none (pour_t x u leaf)) refl)
    (λ l r e f. absurd (false≢true (sym e ∙ f))) t
  where
    go : (y : Bool) → is_none (pour_t x u leaf) ≡ y → cut_t x u (cond y none leaf) ≡ cond y none leaf
    go true e = cut-flat x u none k (or-true (is_leaf u))
    go false e = cut-flat x u leaf k (or-true (is_leaf u)) ∙ rw e

pub cut-spare : (x : Bool) (u t : Trie) → cut_t x u (spare_t x u t) ≡ spare_t x u t
cut-spare x = by-spare (λ u t s. cut_t x u s ≡ s) x
    (λ t. cut-nothing x t)
    (λ l r t k. cut-flat x (node l r) none refl (or-true (bare l r)))
    (λ l r t k m. cut-shadow x (node l r) t refl m)
    (λ l r t k m i j. both l r (spare_t x l (half false t)) (spare_t x r (half true t)) k i j)
  where
    both : (l r a c : Trie) → bare l r ≡ false → cut_t x l a ≡ a → cut_t x r c ≡ c → cut_t x (node l r) (glue false a c) ≡ glue false a c
    both l r a c k = by-glue (λ a c t. cut_t x l a ≡ a → cut_t x r c ≡ c → cut_t x (node l r) t ≡ t) false
        (λ i j. cut-flat x (node l r) none refl (or-true (bare l r)))
        (λ e i j. absurd (false≢true e))
        (λ a c e i j. cut-halves x l r (node a c) k e ∙ rw (e, i, j) (glue-inner a c e)) a c

-- There are no more nodes left than the result has.
pub shadow-size : (t u : Trie) → kept_size (shadow t u) ≤ kept_size u
unfolding kept_size
shadow-size none u = omega arith
shadow-size (node l r) none = omega arith
shadow-size (node l r) (node a b) = omega (arith, kept_size-some (node a b) (some a b))

glue-size : (l r a c : Trie) → kept_size l ≤ kept_size a → kept_size r ≤ kept_size c → kept_size (glue false l r) ≤ kept_size (glue false a c)
unfolding kept_size
glue-size none none a c h g = omega arith
glue-size none (node u v) a none h g = absurd (omega (arith, kept_size-some (node u v) (some u v)))
glue-size none (node u v) none (node y z) h g = omega arith
glue-size none (node u v) (node k m) (node y z) h g = omega arith
glue-size (node u v) none none c h g = absurd (omega (arith, kept_size-some (node u v) (some u v)))
glue-size (node u v) none (node y z) none h g = omega arith
glue-size (node u v) none (node k m) (node y z) h g = omega arith
glue-size (node k m) (node u v) none c h g = absurd (omega (arith, kept_size-some (node k m) (some k m)))
glue-size (node k m) (node u v) (node y z) none h g = absurd (omega (arith, kept_size-some (node u v) (some u v)))
glue-size (node k m) (node u v) (node y z) (node d e) h g = omega arith

pub size-spare : (x : Bool) (u t : Trie) → kept_size (spare_t x u t) ≤ kept_size (pour_t x u t)
unfolding kept_size
size-spare x = by-spare (λ u t s. kept_size s ≤ kept_size (pour_t x u t)) x
    (λ t. rw (pour-nothing x t) (omega arith))
    (λ l r t k. omega arith)
    (λ l r t k m. shadow-size t (pour_t x (node l r) t))
    (λ l r t k m i j. rw (pour-halves x l r t k (flat-all x t m)) (glue-size (spare_t x l (half false t)) (spare_t x r (half true t))
    (pour_t x l (half false t)) (pour_t x r (half true t)) i j))

-- Its members are among those of the trie.
pub among_same : (t : Trie) → is_among t t ≡ true
unfolding is_among
among_same none = refl
among_same (node l r) = and_both (same (bare l r) (bare l r)) _ (go (bare l r)) (and_both (is_among l l) (is_among r r) (among_same l) (among_same r))
  where
    go : (y : Bool) → same y y ≡ true
    go true = refl
    go false = refl

pub among_none : (t : Trie) → is_among none t ≡ true
unfolding is_among
among_none t = refl

among-shadow : (t u : Trie) → is_flat t ≡ true → is_among (shadow t u) t ≡ true
unfolding is_among
among-shadow none u e = refl
among-shadow (node none none) none e = refl
among-shadow (node none none) (node a c) e = refl
among-shadow (node none (node y z)) u e = absurd (false≢true e)
among-shadow (node (node y z) r) u e = absurd (false≢true e)

among-glue : (a c l r : Trie) → bare l r ≡ false → is_among a l ≡ true → is_among c r ≡ true → is_among (glue false a c) (node l r) ≡ true
unfolding is_among
among-glue a c l r h = by-glue (λ a c t. is_among a l ≡ true → is_among c r ≡ true → is_among t (node l r) ≡ true) false (λ i j. refl)
    (λ e i j. absurd (false≢true e))
    (λ a c e i j. and_both (same (bare a c) (bare l r)) _ (rw (e, h)) (and_both (is_among a l) (is_among c r) i j)) a c

pub spare-among : (x : Bool) (u t : Trie) → is_among (spare_t x u t) t ≡ true
spare-among x = by-spare (λ u t s. is_among s t ≡ true) x among_same (λ l r t k. among_none t) (λ l r t k m. among-shadow t (pour_t x (node l r) t) m) both
  where
    both : (l r t : Trie) → bare l r ≡ false → is_flat t ≡ false → is_among (spare_t x l (half false t)) (half false t) ≡ true
        → is_among (spare_t x r (half true t)) (half true t) ≡ true
        → is_among (glue false (spare_t x l (half false t)) (spare_t x r (half true t))) t ≡ true
    both l r t k m i j = by_kind (λ t. is_flat t ≡ false → is_among (spare_t x l (half false t)) (half false t) ≡ true
        → is_among (spare_t x r (half true t)) (half true t) ≡ true
        → is_among (glue false (spare_t x l (half false t)) (spare_t x r (half true t))) t ≡ true)
        (λ e i j. absurd (false≢true (sym e))) (λ e i j. absurd (false≢true (sym e)))
        (λ a c e f. rw e (λ i j. among-glue (spare_t x l a) (spare_t x r c) a c e i j)) t m i j
