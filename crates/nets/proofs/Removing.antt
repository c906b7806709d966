-- Removal of a path is removal from the list: by one test (`stays`) a string is a member of the rest of a trie and of the rest of a list.
-- One that parts from the path at its last bit is a member just if it was covered, any other just if it was one and neither of the two leads the other.
-- Assumes nothing.
use mathlib.Core.Bool.{Bool, true, false, not, cond, ◌&&◌, ◌||◌, or-true, or-false, and-true, and-false, and-or_distrib_right, beq as same}
use mathlib.Core.List.{List, [], ◌∷◌, map}
use mathlib.Core.Path.{◌≡◌, refl, sym, ◌∙◌}
use Prim.Native.Nat.{ℕ, zero, suc, ◌-◌, ◌≤◌}
use native.Mathlib.Nat.{sub-zero, suc-sub-suc}
use native.Mathlib.Omega.{arith}
use lib.ListN.{length}
use Rattle.nets.specs.Bits.{Bits, leads, equal}
use Rattle.nets.specs.Tries.{Trie, none, node, leaf, bare, side, member_t, covers_t, levels, list_of}
use Rattle.nets.specs.Lists.{member, covers, siblings, remains, all_remains, remove_l}
use Rattle.nets.specs.TrieOps.{half, remove_t}
use Rattle.nets.proofs.Strings.{same_refl, same-is}
use Rattle.nets.proofs.Order.{From, unique, member-in_order, from-in_order}
use Rattle.nets.proofs.Members.{any_of-append, member-map-end, member-map}
use Rattle.nets.proofs.Levels.{levels-side, node_at-none}
use Rattle.nets.proofs.Listing.{member-list_of, from-list_of, covers-list_of, member_t-leaf, covers_t-none, side-bare}
use Rattle.nets.proofs.Glue.{covers_t-half, covers_t-glue, covers_t-glue-end, member_t-glue, member_t-glue-end, levels-glue, levels-half}

-- Booleans.
same-comm : (b c : Bool) → same b c ≡ same c b
same-comm false false = refl
same-comm false true = refl
same-comm true false = refl
same-comm true true = refl

same-not-right : (b c : Bool) → same b (not c) ≡ not (same b c)
same-not-right false false = refl
same-not-right false true = refl
same-not-right true false = refl
same-not-right true true = refl

cond_same : (b x : Bool) → cond b x x ≡ x
cond_same true x = refl
cond_same false x = refl

cond-self : (b : Bool) → cond b true false ≡ b
cond-self true = refl
cond-self false = refl

-- The test: q parts from n at its last bit.
abbrev pub parts : Bits → Bits → Bool
parts [] n = false
parts (b ∷ q) [] = false
parts (b ∷ q) (c ∷ n) = cond (same b c) (parts q n) (equal q [])

parts-end : (q : Bits) → parts q [] ≡ false
parts-end [] = refl
parts-end (b ∷ q) = refl

-- q is a member where n has been removed: x says that it was covered, y that it was a member
abbrev stays : Bits → Bits → Bool → Bool → Bool
stays n q x y = cond (parts q n) x (y && not (leads n q || leads q n))

stays-cons : (b c : Bool) (n q : Bits) (x y : Bool) → stays (b ∷ n) (c ∷ q) x y ≡ cond (same c b) (stays n q x y) (cond (equal q []) x y)
stays-cons b c n q x y = rw (same-comm b c) (go (same c b))
  where
    go : (s : Bool) → cond (cond s (parts q n) (equal q [])) x (y && not ((s && leads n q) || (s && leads q n))) ≡ cond s (stays n q x y) (cond (equal q []) x y)
    go true = refl
    go false = rw (and-true y)

stays-end : (n q : Bits) (x y : Bool) → stays n q x (cond (equal q []) x y) ≡ stays n q x y
stays-end n [] x y = rw (or-true (leads n [])) (and-false x ∙ sym (and-false y))
stays-end n (c ∷ q) x y = refl

-- Tries. Of the two halves of the rest one is a rest, the other is as it was.
side-rejoin : (b c : Bool) (f : Trie → Trie) (t : Trie) → side c (side b (f (half b t)) (half (not b) t)) (side b (half (not b) t) (f (half b t))) ≡ cond (same c b) (f (half c t)) (half c t)
side-rejoin false false f t = refl
side-rejoin false true f t = refl
side-rejoin true false f t = refl
side-rejoin true true f t = refl

pub levels-remove : (n : Bits) (t : Trie) (k : ℕ) → levels t ≤ suc k → length n ≤ k → levels (remove_t n t) ≤ suc k
unfolding levels remove_t
levels-remove [] t k h g = omega arith
levels-remove (b ∷ n) t zero h g = absurd (omega arith)
levels-remove (b ∷ n) t (suc k) h g =
    let x = remove_t n (half b t) in
    let y = half (not b) t in
    let i = levels-remove n (half b t) k (levels-half b t (suc k) h (omega arith)) (omega arith) in
    let j = levels-half (not b) t (suc k) h (omega arith) in
    omega (arith, levels-glue false (side b x y) (side b y x), levels-side b x y, levels-side b y x)

pub covers_t-remove : (n : Bits) (t : Trie) (a : Bits) → covers_t (remove_t n t) a ≡ (covers_t t a && not (leads n a || leads a n))
unfolding remove_t
covers_t-remove [] t a = covers_t-none a ∙ sym (and-false (covers_t t a))
covers_t-remove (b ∷ n) t [] = simp (covers_t-glue-end, and-false)
covers_t-remove (b ∷ n) t (c ∷ a) = rw (covers_t-glue, side-rejoin b c (remove_t n) t, covers_t-half t c a, same-comm b c) (go (same c b) (covers_t-remove n (half c t) a))
  where
    go : (s : Bool) → covers_t (remove_t n (half c t)) a ≡ (covers_t (half c t) a && not (leads n a || leads a n)) →
        covers_t (cond s (remove_t n (half c t)) (half c t)) a ≡ (covers_t (half c t) a && not ((s && leads n a) || (s && leads a n)))
    go true ih = ih
    go false ih = sym (and-true (covers_t (half c t) a))

covers_t-end : (t : Trie) → covers_t t [] ≡ member_t [] t
covers_t-end none = refl
covers_t-end (node l r) = refl

-- a half is full where it was, and where the whole is
member_t-half : (b : Bool) (t : Trie) (q : Bits) → member_t q (half b t) ≡ cond (equal q []) (covers_t t (b ∷ q)) (member_t (b ∷ q) t)
member_t-half b t [] = sym (covers_t-half t b [] ∙ covers_t-end (half b t))
member_t-half b none (c ∷ q) = refl
member_t-half b (node l r) (c ∷ q) = go (bare l r) refl
  where
    go : (x : Bool) → bare l r ≡ x → member_t (c ∷ q) (cond x leaf (side b l r)) ≡ member_t (c ∷ q) (side b l r)
    go true e = rw (side-bare b l r e) (member_t-leaf c q)
    go false e = refl

pub member_t-remove : (n : Bits) (t : Trie) (q : Bits) → member_t q (remove_t n t) ≡ cond (parts q n) (covers_t t q) (member_t q t && not (leads n q || leads q n))
unfolding remove_t
member_t-remove [] t q = rw (node_at-none bare q, parts-end q) (sym (and-false (member_t q t)))
member_t-remove (b ∷ n) t [] = simp (member_t-glue-end, and-false)
member_t-remove (b ∷ n) t (c ∷ q) =
    rw (member_t-glue, side-rejoin b c (remove_t n) t) (go (same c b) (member_t-remove n (half c t) q) ∙ sym (stays-cons b c n q (covers_t t (c ∷ q)) (member_t (c ∷ q) t)))
  where
    go : (s : Bool) → member_t q (remove_t n (half c t)) ≡ stays n q (covers_t (half c t) q) (member_t q (half c t)) →
        member_t q (cond s (remove_t n (half c t)) (half c t)) ≡ cond s (stays n q (covers_t t (c ∷ q)) (member_t (c ∷ q) t)) (cond (equal q []) (covers_t t (c ∷ q)) (member_t (c ∷ q) t))
    go true ih = ih ∙ rw (member_t-half c t q, ← covers_t-half t c q) (stays-end n q (covers_t t (c ∷ q)) (member_t (c ∷ q) t))
    go false ih = member_t-half c t q

-- Lists. The siblings along n, of every length, are what parts from n.
siblings-cons : (b : Bool) (n : Bits) (d k : ℕ) → k ≤ length n → siblings (b ∷ n) (suc d) k ≡ map (λ p. b ∷ p) (siblings n d k)
siblings-cons b n d zero h = refl
siblings-cons b [] d (suc k) h = absurd (omega arith)
siblings-cons b (c ∷ n) d (suc k) h = rw (siblings-cons b (c ∷ n) (suc d) k (omega arith))

member-siblings : (n q : Bits) → member q (siblings n 0 (length n)) ≡ parts q n
member-siblings [] q = sym (parts-end q)
member-siblings (b ∷ n) [] = rw (siblings-cons b n 0 (length n) (omega arith)) (member-map-end b (siblings n 0 (length n)))
member-siblings (b ∷ n) (c ∷ q) =
    rw (siblings-cons b n 0 (length n) (omega arith), member-map b c q (siblings n 0 (length n)), member-siblings n q, same-not-right c b) (go (same c b))
  where
    go : (s : Bool) → ((not s && equal q []) || (s && parts q n)) ≡ cond s (parts q n) (equal q [])
    go true = refl
    go false = or-false (equal q [])

-- a member on the other side of the bit stays
remains-cons : (b c : Bool) (n m : Bits) → remains (b ∷ n) (c ∷ m) ≡ map (λ p. c ∷ p) (cond (same c b) (remains n m) (m ∷ []))
remains-cons b c n m = rw (same-comm b c, suc-sub-suc (length n) (length m)) (go (same c b) (leads n m) (leads m n) refl)
  where
    go : (s x y : Bool) → same c b ≡ s → cond (s && x) [] (cond (s && y) (siblings (b ∷ n) (suc (length m)) (length n - length m)) ((c ∷ m) ∷ []))
        ≡ map (λ p. c ∷ p) (cond s (cond x [] (cond y (siblings n (length m) (length n - length m)) (m ∷ []))) (m ∷ []))
    go true true y e = refl
    go true false true e = rw (same-is c b e) (siblings-cons b n (length m) (length n - length m) (omega arith))
    go true false false e = refl
    go false x y e = refl

-- only the empty string leads the empty one
equal-end : (q m : Bits) → equal q m ≡ cond (equal q []) (leads m q) (equal q m)
equal-end [] [] = refl
equal-end [] (b ∷ m) = refl
equal-end (c ∷ q) m = refl

member-remains : (n m q : Bits) → member q (remains n m) ≡ stays n q (leads m q) (equal q m)
member-remains [] m q = rw (parts-end q) (sym (and-false (equal q m)))
member-remains (b ∷ n) [] [] = rw sub-zero (member-siblings (b ∷ n) [])
member-remains (b ∷ n) [] (c ∷ q) = rw sub-zero (member-siblings (b ∷ n) (c ∷ q) ∙ sym (cond-self (parts (c ∷ q) (b ∷ n))))
member-remains (b ∷ n) (c ∷ m) [] = rw (remains-cons b c n m) (member-map-end c (cond (same c b) (remains n m) (m ∷ [])))
member-remains (b ∷ n) (c ∷ m) (d ∷ q) = rw (remains-cons b c n m) (member-map c d q (cond (same c b) (remains n m) (m ∷ [])) ∙ go (same d c) refl (member-remains n m q))
  where
    here : (s : Bool) → member q (remains n m) ≡ stays n q (leads m q) (equal q m) →
        member q (cond s (remains n m) (m ∷ [])) ≡ cond s (stays n q (leads m q) (equal q m)) (cond (equal q []) (leads m q) (equal q m))
    here true ih = ih
    here false ih = or-false (equal q m) ∙ equal-end q m

    go : (s : Bool) → same d c ≡ s → member q (remains n m) ≡ stays n q (leads m q) (equal q m) →
        (s && member q (cond (same c b) (remains n m) (m ∷ []))) ≡ stays (b ∷ n) (d ∷ q) (same c d && leads m q) (s && equal q m)
    go true e ih = rw (same-is d c e, same_refl c) (here (same c b) ih ∙ sym (stays-cons b c n q (leads m q) (equal q m)))
    go false e ih = rw (same-comm c d, e) (sym (cond_same (parts (d ∷ q) (b ∷ n)) false))

member-all_remains : (n q : Bits) (l : List Bits) → member q (all_remains n l) ≡ stays n q (covers l q) (member q l)
member-all_remains n q [] = sym (cond_same (parts q n) false)
member-all_remains n q (m ∷ l) = any_of-append (equal q) (remains n m) (all_remains n l) ∙ rw (member-remains n m q, member-all_remains n q l) (go (parts q n) (not (leads n q || leads q n)))
  where
    go : (s z : Bool) → (cond s (leads m q) (equal q m && z) || cond s (covers l q) (member q l && z)) ≡ cond s (leads m q || covers l q) ((equal q m || member q l) && z)
    go true z = refl
    go false z = sym (and-or_distrib_right (equal q m) (member q l) z)

pub member-remove_l : (n q : Bits) (l : List Bits) → member q (remove_l l n) ≡ cond (parts q n) (covers l q) (member q l && not (leads n q || leads q n))
unfolding remove_l
member-remove_l n q l = member-in_order q (all_remains n l) ∙ member-all_remains n q l

pub from-remove_l : (n : Bits) (l : List Bits) → From 0 (remove_l l n)
unfolding remove_l
from-remove_l n l = from-in_order (all_remains n l)

-- The list of the rest is the rest of the list.
pub list_of-remove : (n : Bits) (t : Trie) → list_of (remove_t n t) ≡ remove_l (list_of t) n
list_of-remove n t =
    unique 0 0 (list_of (remove_t n t)) (remove_l (list_of t) n) (from-list_of (remove_t n t)) (from-remove_l n (list_of t))
    (λ q. member-list_of (remove_t n t) q ∙ member_t-remove n t q ∙ rw (← member-list_of t q, ← covers-list_of t q) (sym (member-remove_l n q (list_of t))))
