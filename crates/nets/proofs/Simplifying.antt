-- Simplifying keeps the addresses, and of all tries with the same addresses one is simple, without two leaves side by side: a simple trie is glued from its halves, which
-- are simple too and one bit nearer to the addresses. The same of lists. Assumes nothing.
use mathlib.Core.Bool.{Bool, true, false, cond, ◌&&◌, ◌||◌, and-false}
use mathlib.Core.List.{List, [], ◌∷◌, ◌++◌}
use mathlib.Core.Path.{◌≡◌, refl, ap, sym, ◌∙◌}
use Prim.Native.Nat.{ℕ, zero, suc, ◌≤◌}
use native.Mathlib.Omega.{arith}
use lib.ListN.{length}
use Rattle.nets.specs.Bits.{Bits}
use Rattle.nets.specs.Tries.{Trie, none, node, leaf, bare, is_leaf, side, glue, member_t, covers_t, levels, list_of, trie_of, simplify_t}
use Rattle.nets.specs.TrieOps.{half}
use Rattle.nets.specs.Lists.{covers, within, is_list, simplify_l, Simplified}
use Rattle.nets.proofs.Strings.{cond_both}
use Rattle.nets.proofs.Levels.{side-each, levels-side}
use Rattle.nets.proofs.Listing.{member-list_of, member_t-end, covers-list_of}
use Rattle.nets.proofs.Glue.{covers_t-half, covers_t-glue, levels-glue, levels-half}
use Rattle.nets.proofs.TrieOf.{covers_t-trie_of, levels-trie_of, is_list-is, is_list-list_of, trie_of-list_of}

pub levels-simplify : (t : Trie) → levels (simplify_t t) ≤ levels t
unfolding levels simplify_t
levels-simplify none = omega arith
levels-simplify (node l r) =
    cond_both (λ x. levels x ≤ levels (node l r)) (bare l r) leaf (glue true (simplify_t l) (simplify_t r)) (omega arith)
    (omega (arith, levels-simplify l, levels-simplify r, levels-glue true (simplify_t l) (simplify_t r)))

-- A trie of one level is empty or full.
pub levels-one : (P : Trie → Type 0) (t : Trie) → levels t ≤ 1 → P none → P leaf → P t
unfolding levels
levels-one P none h x y = x
levels-one P (node none none) h x y = y
levels-one P (node none (node c d)) h x y = absurd (omega arith)
levels-one P (node (node c d) r) h x y = absurd (omega arith)

pub covers_t-simplify : (t : Trie) (a : Bits) → levels t ≤ suc (length a) → covers_t (simplify_t t) a ≡ covers_t t a
unfolding levels simplify_t
covers_t-simplify t [] h = levels-one (λ x. covers_t (simplify_t x) [] ≡ covers_t x []) t h refl refl
covers_t-simplify none (b ∷ a) h = refl
covers_t-simplify (node l r) (b ∷ a) h = go (bare l r) (covers_t-simplify (side b l r) a (omega (arith, levels-side b l r)))
  where
    go : (x : Bool) → covers_t (simplify_t (side b l r)) a ≡ covers_t (side b l r) a → covers_t (cond x leaf (glue true (simplify_t l) (simplify_t r))) (b ∷ a) ≡ (x || covers_t (side b l r) a)
    go true i = refl
    go false i = covers_t-glue true b (simplify_t l) (simplify_t r) a ∙ rw (side-each (λ c. simplify_t (side c l r)) b) i

-- No node has two leaves for children.
abbrev pub Simple : Trie → Type 0
Simple none = Unit {0}
Simple (node l r) = ((is_leaf l && is_leaf r) ≡ false) × Simple l × Simple r

pub simple-glue : (l r : Trie) → Simple l → Simple r → Simple (glue true l r)
simple-glue none none s v = tt
simple-glue none (node c d) s v = (refl, s, v)
simple-glue (node a b) none s v = (and-false (bare a b), s, v)
simple-glue (node a b) (node c d) s v = go (bare a b && bare c d) refl
  where
    go : (x : Bool) → (bare a b && bare c d) ≡ x → Simple (cond x leaf (node (node a b) (node c d)))
    go true e = (refl, tt, tt)
    go false e = (e, s, v)

pub simple-simplify : (t : Trie) → Simple (simplify_t t)
unfolding simplify_t
simple-simplify none = tt
simple-simplify (node l r) = cond_both Simple (bare l r) leaf (glue true (simplify_t l) (simplify_t r)) (refl, tt, tt) (simple-glue (simplify_t l) (simplify_t r) (simple-simplify l) (simple-simplify r))

-- A simple trie is glued from its halves, and they are simple.
simple-side : (b : Bool) (l r : Trie) → Simple (node l r) → Simple (side b l r)
simple-side false l r s = s.1
simple-side true l r s = s.2

pub simple-half : (b : Bool) (t : Trie) → Simple t → Simple (half b t)
simple-half b none s = tt
simple-half b (node l r) s = cond_both Simple (bare l r) leaf (side b l r) (refl, tt, tt) (simple-side b l r s)

glue-halves : (t : Trie) → Simple t → glue true (half false t) (half true t) ≡ t
glue-halves none s = refl
glue-halves (node none none) s = refl
glue-halves (node none (node c d)) s = refl
glue-halves (node (node a b) none) s = refl
glue-halves (node (node a b) (node c d)) s = rw s.0

halves-one : (t u : Trie) → Simple t → Simple u → ((b : Bool) → half b t ≡ half b u) → t ≡ u
halves-one t u s v e = sym (glue-halves t s) ∙ rw (e false, e true) (glue-halves u v)

ends-one : (t : Trie) → levels t ≤ 1 → t ≡ cond (covers_t t []) leaf none
ends-one t h = levels-one (λ x. x ≡ cond (covers_t x []) leaf none) t h refl refl

pub simple-one : (t u : Trie) (w : ℕ) → Simple t → Simple u → levels t ≤ suc w → levels u ≤ suc w → ((a : Bits) → length a ≡ w → covers_t t a ≡ covers_t u a) → t ≡ u
simple-one t u zero s v h k e = ends-one t h ∙ ap (λ x. cond x leaf none) (e [] refl) ∙ sym (ends-one u k)
simple-one t u (suc w) s v h k e =
    halves-one t u s v
    (λ b. simple-one (half b t) (half b u) w (simple-half b t s) (simple-half b u v) (levels-half b t (suc w) h (omega arith)) (levels-half b u (suc w) k (omega arith))
    (λ a n. sym (covers_t-half t b a) ∙ e (b ∷ a) (ap suc n) ∙ covers_t-half u b a))

-- The same, said of the list.
pub simplified-simple : (t : Trie) → Simplified (list_of t) → Simple t
simplified-simple t h = go t (λ p. rw (← member-list_of t (p ++ (false ∷ [])), ← member-list_of t (p ++ (true ∷ []))) (h p))
  where
    go : (t : Trie) → ((p : Bits) → (member_t (p ++ (false ∷ [])) t && member_t (p ++ (true ∷ [])) t) ≡ false) → Simple t
    go none h = tt
    go (node l r) h = (rw (← member_t-end l, ← member_t-end r) (h []), go l (λ p. h (false ∷ p)), go r (λ p. h (true ∷ p)))

pub simple-simplified : (t : Trie) → Simple t → Simplified (list_of t)
simple-simplified t s p = rw (member-list_of t (p ++ (false ∷ [])), member-list_of t (p ++ (true ∷ []))) (go p t s)
  where
    go : (p : Bits) (t : Trie) → Simple t → (member_t (p ++ (false ∷ [])) t && member_t (p ++ (true ∷ [])) t) ≡ false
    go [] none s = refl
    go [] (node l r) s = rw (member_t-end l, member_t-end r) s.0
    go (b ∷ p) none s = refl
    go (b ∷ p) (node l r) s = go p (side b l r) (simple-side b l r s)

-- Lists.
pub covers-simplify : (w : ℕ) (l : List Bits) (a : Bits) → within w l ≡ true → length a ≡ w → covers (simplify_l l) a ≡ covers l a
unfolding simplify_l
covers-simplify w l a h e =
    covers-list_of (simplify_t (trie_of l)) a ∙ covers_t-simplify (trie_of l) a (omega (arith, levels-trie_of w l h)) ∙ covers_t-trie_of l a

pub simplified-simplify : (l : List Bits) → Simplified (simplify_l l)
unfolding simplify_l
simplified-simplify l = simple-simplified (simplify_t (trie_of l)) (simple-simplify (trie_of l))

pub is_list-simplify : (w : ℕ) (l : List Bits) → within w l ≡ true → is_list w (simplify_l l) ≡ true
unfolding simplify_l
is_list-simplify w l h = is_list-list_of w (simplify_t (trie_of l)) (omega (arith, levels-simplify (trie_of l), levels-trie_of w l h))

pub simplified_one : (w : ℕ) (l m : List Bits) → is_list w l ≡ true → is_list w m ≡ true → Simplified l → Simplified m → ((a : Bits) → length a ≡ w → covers l a ≡ covers m a) → l ≡ m
simplified_one w l m i j s v h =
    let (t, e, x) = is_list-is w l i in
    let (u, f, y) = is_list-is w m j in
    sym e ∙ ap list_of (simple-one t u w (simplified-simple t (rw e s)) (simplified-simple u (rw f v)) x y
    (λ a n. sym (covers-list_of t a) ∙ ap (λ z. covers z a) e ∙ h a n ∙ ap (λ z. covers z a) (sym f) ∙ covers-list_of u a)) ∙ f

pub list_of-simplify : (t : Trie) → list_of (simplify_t t) ≡ simplify_l (list_of t)
unfolding simplify_l
list_of-simplify t = rw (trie_of-list_of t)
