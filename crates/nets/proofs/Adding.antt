-- Insertion of a path is addition to the list. A half of the new trie is that half of the old one, with the rest of the path inserted if the path goes there:
-- this tells what the new trie covers and which paths are its members, and two lists in order with the same members are equal. Assumes nothing.
use mathlib.Core.Bool.{Bool, true, false, not, cond, ◌&&◌, ◌||◌, or-true, or-false, and-true, and-false, beq as same}
use mathlib.Core.List.{List, [], ◌∷◌}
use mathlib.Core.Path.{◌≡◌, refl, sym, ◌∙◌}
use Prim.Native.Nat.{ℕ, suc, ◌≤◌, max}
use native.Mathlib.Omega.{arith}
use lib.ListN.{length}
use Rattle.nets.specs.Bits.{Bits, leads, equal}
use Rattle.nets.specs.Tries.{Trie, none, node, leaf, is_none, bare, is_leaf, side, fork, member_t, covers_t, levels, list_of, insert_t}
use Rattle.nets.specs.TrieOps.{half}
use Rattle.nets.specs.Lists.{member, covers, keep, insert_in, add_l}
use Rattle.nets.proofs.Order.{key, From, from-weaken, unique, member-insert_in, from-insert_in}
use Rattle.nets.proofs.Members.{any_of-cond, member-keep}
use Rattle.nets.proofs.Levels.{levels-side, node_at-none}
use Rattle.nets.proofs.Listing.{member-list_of, from-list_of, covers_t-leaf, covers-list_of, leaf-is, member_t-leaf, member_t-end}
use Rattle.nets.proofs.Glue.{covers_t-half}

-- A node made of two sides.
bare-fork : (b : Bool) (x y : Trie) → is_none x ≡ false → bare (side b x y) (side b y x) ≡ false
bare-fork false x y e = rw e
bare-fork true x y e = rw (e, and-false (is_none y))

levels-fork : (b : Bool) (x y : Trie) → levels (fork b x y) ≡ suc (max (levels x) (levels y))
unfolding levels
levels-fork false x y = refl
levels-fork true x y = omega arith

half-fork : (b c : Bool) (x y : Trie) → is_none x ≡ false → half c (fork b x y) ≡ cond (same b c) x y
half-fork b c x y e = rw (bare-fork b x y e) (go b c)
  where
    go : (b c : Bool) → side c (side b x y) (side b y x) ≡ cond (same b c) x y
    go false false = refl
    go false true = refl
    go true false = refl
    go true true = refl

-- The root, the halves and the levels.
insert_t-some : (n : Bits) (t : Trie) → is_none (insert_t n t) ≡ false
unfolding insert_t
insert_t-some [] t = refl
insert_t-some (b ∷ n) none = refl
insert_t-some (b ∷ n) (node l r) = go (bare l r)
  where
    go : (x : Bool) → is_none (cond x leaf (fork b (insert_t n (side b l r)) (side b r l))) ≡ false
    go true = refl
    go false = refl

insert_t-leaf : (n : Bits) → insert_t n leaf ≡ leaf
unfolding insert_t
insert_t-leaf [] = refl
insert_t-leaf (b ∷ n) = refl

is_leaf-insert : (b : Bool) (n : Bits) (t : Trie) → is_leaf (insert_t (b ∷ n) t) ≡ is_leaf t
unfolding insert_t
is_leaf-insert b n none = bare-fork b (insert_t n none) none (insert_t-some n none)
is_leaf-insert b n (node l r) = go (bare l r)
  where
    go : (x : Bool) → is_leaf (cond x leaf (fork b (insert_t n (side b l r)) (side b r l))) ≡ x
    go true = refl
    go false = bare-fork b (insert_t n (side b l r)) (side b r l) (insert_t-some n (side b l r))

half-insert : (b c : Bool) (n : Bits) (t : Trie) → half c (insert_t (b ∷ n) t) ≡ cond (same b c) (insert_t n (half c t)) (half c t)
unfolding insert_t
half-insert b c n none = half-fork b c (insert_t n none) none (insert_t-some n none)
half-insert b c n (node l r) = go (bare l r)
  where
    full : (s : Bool) → leaf ≡ cond s (insert_t n leaf) leaf
    full true = sym (insert_t-leaf n)
    full false = refl

    sides : (b c : Bool) → cond (same b c) (insert_t n (side b l r)) (side b r l) ≡ cond (same b c) (insert_t n (side c l r)) (side c l r)
    sides false false = refl
    sides false true = refl
    sides true false = refl
    sides true true = refl

    go : (x : Bool) → half c (cond x leaf (fork b (insert_t n (side b l r)) (side b r l))) ≡ cond (same b c) (insert_t n (cond x leaf (side c l r))) (cond x leaf (side c l r))
    go true = full (same b c)
    go false = half-fork b c (insert_t n (side b l r)) (side b r l) (insert_t-some n (side b l r)) ∙ sides b c

pub levels-insert : (n : Bits) (t : Trie) → levels (insert_t n t) ≤ max (suc (length n)) (levels t)
unfolding insert_t levels
levels-insert [] t = omega arith
levels-insert (b ∷ n) none = omega (arith, levels-fork b (insert_t n none) none, levels-insert n none)
levels-insert (b ∷ n) (node l r) = go (bare l r) (levels-insert n (side b l r))
  where
    go : (x : Bool) → levels (insert_t n (side b l r)) ≤ max (suc (length n)) (levels (side b l r)) → levels (cond x leaf (fork b (insert_t n (side b l r)) (side b r l))) ≤ max (suc (length (b ∷ n))) (levels (node l r))
    go true h = omega arith
    go false h = omega (arith, levels-fork b (insert_t n (side b l r)) (side b r l), levels-side b l r, levels-side b r l)

-- What is covered.
covers_t-end : (t : Trie) → covers_t t [] ≡ is_leaf t
covers_t-end none = refl
covers_t-end (node l r) = refl

pub covers_t-insert : (n : Bits) (t : Trie) (a : Bits) → covers_t (insert_t n t) a ≡ (covers_t t a || leads n a)
unfolding insert_t
covers_t-insert [] t a = covers_t-leaf a ∙ sym (or-true (covers_t t a))
covers_t-insert (b ∷ n) t [] = simp (covers_t-end, is_leaf-insert, or-false)
covers_t-insert (b ∷ n) t (c ∷ a) = rw (covers_t-half (insert_t (b ∷ n) t) c a, half-insert b c n t, covers_t-half t c a) (go (same b c) (covers_t-insert n (half c t) a))
  where
    go : (s : Bool) → covers_t (insert_t n (half c t)) a ≡ (covers_t (half c t) a || leads n a) → covers_t (cond s (insert_t n (half c t)) (half c t)) a ≡ (covers_t (half c t) a || (s && leads n a))
    go true ih = ih
    go false ih = sym (or-false (covers_t (half c t) a))

-- Which paths are members: a covered path adds none, and any other takes the place of those that it leads.
member_t-leaf-equal : (q : Bits) → member_t q leaf ≡ equal q []
member_t-leaf-equal [] = refl
member_t-leaf-equal (c ∷ q) = member_t-leaf c q

member_t-half : (c : Bool) (q : Bits) (t : Trie) → is_leaf t ≡ false → member_t (c ∷ q) t ≡ member_t q (half c t)
member_t-half c q none e = sym (node_at-none bare q)
member_t-half c q (node l r) e = rw e

kept : (g x : Bool) → x ≡ cond g x (x && true)
kept true x = refl
kept false x = sym (and-true x)

-- the next law, for its own induction
abbrev Inserted : Bits → Trie → Bits → Type 0
Inserted n t q = member_t q (insert_t n t) ≡ cond (covers_t t n) (member_t q t) (equal q n || (member_t q t && not (leads n q)))

pub member_t-insert : (n : Bits) (t : Trie) (q : Bits) → member_t q (insert_t n t) ≡ cond (covers_t t n) (member_t q t) (equal q n || (member_t q t && not (leads n q)))
unfolding insert_t
member_t-insert [] t q = rw (covers_t-end t) (go (is_leaf t) refl)
  where
    go : (x : Bool) → is_leaf t ≡ x → member_t q leaf ≡ cond x (member_t q t) (equal q [] || (member_t q t && false))
    go true e = rw (leaf-is t e)
    go false e = simp (member_t-leaf-equal, and-false, or-false)
member_t-insert (b ∷ n) t [] = rw (member_t-end (insert_t (b ∷ n) t), member_t-end t, is_leaf-insert b n t) (kept (covers_t t (b ∷ n)) (is_leaf t))
member_t-insert (b ∷ n) t (c ∷ q) = go (is_leaf t) refl (member_t-insert n (half c t) q)
  where
    sides : (b c : Bool) → Inserted n (half c t) q → member_t q (cond (same b c) (insert_t n (half c t)) (half c t))
        ≡ cond (covers_t (half b t) n) (member_t q (half c t)) ((same c b && equal q n) || (member_t q (half c t) && not (same b c && leads n q)))
    sides false false ih = ih
    sides false true ih = kept (covers_t (half false t) n) (member_t q (half true t))
    sides true false ih = kept (covers_t (half true t) n) (member_t q (half false t))
    sides true true ih = ih

    go : (x : Bool) → is_leaf t ≡ x → Inserted n (half c t) q → Inserted (b ∷ n) t (c ∷ q)
    go true e ih = rw (leaf-is t e)
    go false e ih = rw (member_t-half c q (insert_t (b ∷ n) t) (is_leaf-insert b n t ∙ e), half-insert b c n t, member_t-half c q t e, covers_t-half t b n) (sides b c ih)

-- Addition to the list.
pub member-add_l : (q n : Bits) (l : List Bits) → member q (add_l l n) ≡ cond (covers l n) (member q l) (equal q n || (member q l && not (leads n q)))
unfolding add_l
member-add_l q n l = any_of-cond (equal q) (covers l n) l (insert_in n (keep (λ m. not (leads n m)) l)) ∙ simp (member-insert_in, member-keep)

pub from-keep : (lo : ℕ) (f : Bits → Bool) (l : List Bits) → From lo l → From lo (keep f l)
from-keep lo f [] i = tt
from-keep lo f (m ∷ l) i = go (f m) (from-keep (suc (key m)) f l i.1)
  where
    go : (b : Bool) → From (suc (key m)) (keep f l) → From lo (cond b (m ∷ keep f l) (keep f l))
    go true j = (i.0, j)
    go false j = from-weaken lo (suc (key m)) (keep f l) (omega (arith, i)) j

pub from-add_l : (n : Bits) (l : List Bits) → From 0 l → From 0 (add_l l n)
unfolding add_l
from-add_l n l i = go (covers l n)
  where
    go : (b : Bool) → From 0 (cond b l (insert_in n (keep (λ m. not (leads n m)) l)))
    go true = i
    go false = from-insert_in 0 n (keep (λ m. not (leads n m)) l) (omega arith) (from-keep 0 (λ m. not (leads n m)) l i)

pub list_of-insert : (n : Bits) (t : Trie) → list_of (insert_t n t) ≡ add_l (list_of t) n
list_of-insert n t =
    unique 0 0 (list_of (insert_t n t)) (add_l (list_of t) n) (from-list_of (insert_t n t)) (from-add_l n (list_of t) (from-list_of t))
    (λ q. member-list_of (insert_t n t) q ∙ member_t-insert n t q ∙ sym (member-add_l q n (list_of t) ∙ simp (member-list_of t q, covers-list_of t n)))
