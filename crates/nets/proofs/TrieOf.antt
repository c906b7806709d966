-- A list and its trie are each other's: the lists of width w are exactly the lists of the tries of at most suc w levels. What comes before all of a list and neither
-- leads nor is led is added at its front, so that a list is the list of its trie. Every law on lists then goes through the trie (`is_list-is`). Assumes nothing.
use mathlib.Core.Bool.{Bool, true, false, not, ◌&&◌, ◌||◌, or-true, or_comm, false≢true}
use mathlib.Core.List.{List, [], ◌∷◌}
use mathlib.Core.Path.{◌≡◌, refl, sym, ◌∙◌}
use Prim.Native.Nat.{ℕ, suc, ◌≤◌}
use native.Mathlib.Omega.{arith}
use lib.Dec.{leb}
use lib.ListN.{length}
use borrow.Author.Tests.{leb-true, le-leb, not-true}
use Rattle.nets.specs.Bits.{Bits, leads, equal}
use Rattle.nets.specs.Tries.{Trie, member_t, covers_t, levels, list_of, insert_t, trie_of}
use Rattle.nets.specs.Lists.{any_of, member, covers, leads_any, ascending, apart, within, is_list, keep, insert_in, add_l}
use Rattle.nets.proofs.Strings.{and_left, and_right, equal-refl}
use Rattle.nets.proofs.Order.{key, From, lt-before, ascending-from, from-ascending, from-not}
use Rattle.nets.proofs.Members.{any_of-out}
use Rattle.nets.proofs.Listing.{member-list_of, from-list_of, covers_t-none, covers-list_of, member_t-apart, member_t-length, list_of-one}
use Rattle.nets.proofs.Adding.{levels-insert, covers_t-insert, list_of-insert}

-- What a list is.
pub is_list-ascending : (w : ℕ) (l : List Bits) → is_list w l ≡ true → ascending l ≡ true
unfolding is_list
is_list-ascending w l e = and_left (ascending l) (apart l && within w l) e

pub is_list-apart : (w : ℕ) (l : List Bits) → is_list w l ≡ true → apart l ≡ true
unfolding is_list
is_list-apart w l e = and_left (apart l) (within w l) (and_right (ascending l) (apart l && within w l) e)

pub is_list-within : (w : ℕ) (l : List Bits) → is_list w l ≡ true → within w l ≡ true
unfolding is_list
is_list-within w l e = and_right (apart l) (within w l) (and_right (ascending l) (apart l && within w l) e)

-- The trie of a list.
pub covers_t-trie_of : (l : List Bits) (a : Bits) → covers_t (trie_of l) a ≡ covers l a
unfolding trie_of
covers_t-trie_of [] a = covers_t-none a
covers_t-trie_of (p ∷ l) a = covers_t-insert p (trie_of l) a ∙ rw (covers_t-trie_of l a) (or_comm (covers l a) (leads p a))

pub levels-trie_of : (w : ℕ) (l : List Bits) → within w l ≡ true → levels (trie_of l) ≤ suc w
unfolding trie_of levels
levels-trie_of w [] e = omega arith
levels-trie_of w (p ∷ l) e =
    let h = leb-true (length p) w (and_left (leb (length p) w) (within w l) e) in
    omega (arith, levels-insert p (trie_of l), levels-trie_of w l (and_right (leb (length p) w) (within w l) e))

-- What is added at the front.
insert_in-front : (p : Bits) (l : List Bits) → From (suc (key p)) l → insert_in p l ≡ p ∷ l
insert_in-front p [] i = refl
insert_in-front p (m ∷ l) i = rw (lt-before p m i.0)

or-none : (a b : Bool) → (a || b) ≡ false → (a ≡ false) × (b ≡ false)
or-none true b e = absurd (false≢true (sym e))
or-none false b e = (refl, e)

keep_all : (f : Bits → Bool) (l : List Bits) → any_of f l ≡ false → keep (λ m. not (f m)) l ≡ l
keep_all f [] e = refl
keep_all f (m ∷ l) e = let h = or-none (f m) (any_of f l) e in simp (h.0, keep_all f l h.1)

add_l-front : (p : Bits) (l : List Bits) → From (suc (key p)) l → not (covers l p || leads_any p l) ≡ true → add_l l p ≡ p ∷ l
unfolding add_l
add_l-front p l i e =
    let h = or-none (covers l p) (leads_any p l) (not-true (covers l p || leads_any p l) e) in
    rw (h.0, keep_all (leads p) l h.1) (insert_in-front p l i)

list_of-apart : (lo : ℕ) (l : List Bits) → From lo l → apart l ≡ true → list_of (trie_of l) ≡ l
unfolding trie_of list_of levels
list_of-apart lo [] i e = refl
list_of-apart lo (p ∷ l) i e =
    list_of-insert p (trie_of l) ∙ rw (list_of-apart (suc (key p)) l i.1 (and_right (not (covers l p || leads_any p l)) (apart l) e))
    (add_l-front p l i.1 (and_left (not (covers l p || leads_any p l)) (apart l) e))

pub list_of-trie_of : (w : ℕ) (l : List Bits) → is_list w l ≡ true → list_of (trie_of l) ≡ l
list_of-trie_of w l e = list_of-apart 0 l (ascending-from l (is_list-ascending w l e)) (is_list-apart w l e)

-- The list of a trie: of two members one of which leads the other both are the same, and in order each comes once.
abbrev Paths : Trie → List Bits → Type 0
Paths t l = (q : Bits) → member q l ≡ true → member_t q t ≡ true

paths-list_of : (t : Trie) → Paths t (list_of t)
paths-list_of t q e = sym (member-list_of t q) ∙ e

paths-head : (t : Trie) (p : Bits) (l : List Bits) → Paths t (p ∷ l) → member_t p t ≡ true
paths-head t p l h = h p (simp equal-refl)

paths-tail : (t : Trie) (p : Bits) (l : List Bits) → Paths t (p ∷ l) → Paths t l
paths-tail t p l h q e = h q (rw e (or-true (equal q p)))

any_of-once : (f : Bits → Bool) (p : Bits) (l : List Bits) → From (suc (key p)) l → ((q : Bits) → member q l ≡ true → f q ≡ true → q ≡ p) → any_of f l ≡ false
any_of-once f p l i h = go (any_of f l) refl
  where
    go : (b : Bool) → any_of f l ≡ b → any_of f l ≡ false
    go true e = let r = any_of-out f l e in absurd (false≢true (sym (from-not (suc (key p)) p l i (omega arith)) ∙ rw (h r.0 r.1 r.2) at r.1))
    go false e = e

apart-paths : (lo : ℕ) (t : Trie) (l : List Bits) → From lo l → Paths t l → apart l ≡ true
apart-paths lo t [] i h = refl
apart-paths lo t (p ∷ l) i h =
    let x = paths-head t p l h in
    let y = paths-tail t p l h in
    let covered = any_of-once (λ m. leads m p) p l i.1 (λ q k e. member_t-apart q t p (y q k) x e) in
    let leading = any_of-once (leads p) p l i.1 (λ q k e. sym (member_t-apart p t q x (y q k) e)) in
    rw (covered, leading) (apart-paths (suc (key p)) t l i.1 y)

within-paths : (w : ℕ) (t : Trie) (l : List Bits) → levels t ≤ suc w → Paths t l → within w l ≡ true
within-paths w t [] g h = refl
within-paths w t (p ∷ l) g h = rw (le-leb (length p) w (omega (arith, member_t-length p t (paths-head t p l h)))) (within-paths w t l g (paths-tail t p l h))

apart-list_of : (t : Trie) → apart (list_of t) ≡ true
apart-list_of t = apart-paths 0 t (list_of t) (from-list_of t) (paths-list_of t)

pub trie_of-list_of : (t : Trie) → trie_of (list_of t) ≡ t
trie_of-list_of t = list_of-one (trie_of (list_of t)) t (list_of-apart 0 (list_of t) (from-list_of t) (apart-list_of t))

pub is_list-list_of : (w : ℕ) (t : Trie) → levels t ≤ suc w → is_list w (list_of t) ≡ true
unfolding is_list
is_list-list_of w t h = rw (from-ascending 0 (list_of t) (from-list_of t), apart-list_of t) (within-paths w t (list_of t) h (paths-list_of t))

-- Laws on lists, through the trie.
pub is_list-is : (w : ℕ) (l : List Bits) → is_list w l ≡ true → (t : Trie) × (list_of t ≡ l) × (levels t ≤ suc w)
is_list-is w l e = (trie_of l, list_of-trie_of w l e, levels-trie_of w l (is_list-within w l e))

pub is_list-add : (w : ℕ) (l : List Bits) (n : Bits) → is_list w l ≡ true → length n ≤ w → is_list w (add_l l n) ≡ true
is_list-add w l n e h =
    let r = is_list-is w l e in
    rw (← r.1, ← list_of-insert n r.0) (is_list-list_of w (insert_t n r.0) (omega (arith, r.2, levels-insert n r.0)))

pub covers-add : (w : ℕ) (l : List Bits) (n a : Bits) → is_list w l ≡ true → covers (add_l l n) a ≡ (covers l a || leads n a)
covers-add w l n a e =
    let r = is_list-is w l e in
    rw (← r.1, ← list_of-insert n r.0, covers-list_of (insert_t n r.0) a, covers-list_of r.0 a) (covers_t-insert n r.0 a)
