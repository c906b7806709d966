-- What the list of a trie says: its members, what it covers, that it is in order and no member lies inside another; and that a trie is its list.
-- Assumes nothing.
use mathlib.Core.Bool.{Bool, true, false, ◌||◌, false≢true}
use mathlib.Core.List.{[], ◌∷◌}
use mathlib.Core.Path.{◌≡◌, refl, ap, sym, ◌∙◌}
use Prim.Native.Nat.{◌<◌}
use native.Mathlib.Omega.{arith}
use lib.ListN.{length}
use Rattle.nets.specs.Bits.{Bits, leads}
use Rattle.nets.specs.Tries.{Trie, none, node, leaf, is_none, bare, is_leaf, side, node_at, any, member_t, covers_t, levels, list_of}
use Rattle.nets.specs.Lists.{member, covers, leads_any}
use Rattle.nets.proofs.Strings.{bool_iff, leads-head, leads-tail, leads-cons}
use Rattle.nets.proofs.Order.{From}
use Rattle.nets.proofs.Members.{any_of-in, any_of-out}
use Rattle.nets.proofs.Levels.{side_same, levels-side, node_at-none, from-below, member-nodes}

pub member-list_of : (t : Trie) (q : Bits) → member q (list_of t) ≡ member_t q t
unfolding list_of
member-list_of t q = member-nodes bare t q

pub from-list_of : (t : Trie) → From 0 (list_of t)
unfolding list_of
from-list_of t = from-below bare (levels t) t

-- Leaves.
pub bare-none : (l r : Trie) → bare l r ≡ true → (l ≡ none) × (r ≡ none)
bare-none none none e = (refl, refl)
bare-none none (node a b) e = absurd (false≢true e)
bare-none (node a b) r e = absurd (false≢true e)

pub leaf-is : (t : Trie) → is_leaf t ≡ true → t ≡ leaf
leaf-is none e = absurd (false≢true e)
leaf-is (node l r) e = let h = bare-none l r e in rw (h.0, h.1)

pub member_t-end : (t : Trie) → member_t [] t ≡ is_leaf t
member_t-end none = refl
member_t-end (node l r) = refl

pub covers_t-none : (q : Bits) → covers_t none q ≡ false
covers_t-none [] = refl
covers_t-none (b ∷ q) = refl

pub covers_t-leaf : (q : Bits) → covers_t leaf q ≡ true
covers_t-leaf [] = refl
covers_t-leaf (b ∷ q) = refl

-- a path in a leaf is the empty one, and no path leaves it
pub member_t-leaf : (b : Bool) (q : Bits) → member_t (b ∷ q) leaf ≡ false
member_t-leaf b q = rw (side_same b none) (node_at-none bare q)

-- below a leaf there is nothing
pub side-bare : (b : Bool) (l r : Trie) → bare l r ≡ true → side b l r ≡ none
side-bare b l r e = let h = bare-none l r e in rw (h.0, h.1) (side_same b none)

-- A trie covers what its list covers: a leaf on the way down is a member that leads there.
covers_t-in : (p : Bits) (t : Trie) (q : Bits) → member_t p t ≡ true → leads p q ≡ true → covers_t t q ≡ true
covers_t-in [] none q h e = absurd (false≢true h)
covers_t-in [] (node l r) [] h e = h
covers_t-in [] (node l r) (c ∷ q) h e = rw h
covers_t-in (b ∷ p) none q h e = absurd (false≢true h)
covers_t-in (b ∷ p) (node l r) [] h e = absurd (false≢true e)
covers_t-in (b ∷ p) (node l r) (c ∷ q) h e = go (bare l r) (covers_t-in p (side c l r) q (rw (← leads-head b c p q e) h) (leads-tail b c p q e))
  where
    go : (x : Bool) → covers_t (side c l r) q ≡ true → (x || covers_t (side c l r) q) ≡ true
    go true k = refl
    go false k = k

covers_t-out : (q : Bits) (t : Trie) → covers_t t q ≡ true → (p : Bits) × (member_t p t ≡ true) × (leads p q ≡ true)
covers_t-out [] none h = absurd (false≢true h)
covers_t-out [] (node l r) h = ([], h, refl)
covers_t-out (b ∷ q) none h = absurd (false≢true h)
covers_t-out (b ∷ q) (node l r) h = go (bare l r) refl (covers_t-out q (side b l r))
  where
    go : (x : Bool) → bare l r ≡ x → (covers_t (side b l r) q ≡ true → (p : Bits) × (member_t p (side b l r) ≡ true) × (leads p q ≡ true)) → (p : Bits) × (member_t p (node l r) ≡ true) × (leads p (b ∷ q) ≡ true)
    go true e ih = ([], e, refl)
    go false e ih = let r = ih (rw e at h) in (b ∷ r.0, r.1, leads-cons b r.0 q r.2)

pub covers-list_of : (t : Trie) (q : Bits) → covers (list_of t) q ≡ covers_t t q
covers-list_of t q =
    bool_iff (covers (list_of t) q) (covers_t t q)
    (λ e. let r = any_of-out (λ m. leads m q) (list_of t) e in covers_t-in r.0 t q (sym (member-list_of t r.0) ∙ r.1) r.2)
    (λ e. let r = covers_t-out q t e in any_of-in (λ m. leads m q) r.0 (list_of t) (member-list_of t r.0 ∙ r.1) r.2)

-- Every node has a leaf below it, and on the way to a leaf there are nodes.
pub some-leaf : (t : Trie) → is_none t ≡ false → (q : Bits) × (member_t q t ≡ true)
some-leaf none e = absurd (false≢true (sym e))
some-leaf (node none none) e = ([], refl)
some-leaf (node none (node a b)) e = let r = some-leaf (node a b) refl in (true ∷ r.0, r.1)
some-leaf (node (node a b) c) e = let r = some-leaf (node a b) refl in (false ∷ r.0, r.1)

node-leaf : (p : Bits) (t : Trie) → node_at any p t ≡ true → (q : Bits) × (member_t q t ≡ true) × (leads p q ≡ true)
node-leaf [] none h = absurd (false≢true h)
node-leaf [] (node l r) h = let s = some-leaf (node l r) refl in (s.0, s.1, refl)
node-leaf (b ∷ p) none h = absurd (false≢true h)
node-leaf (b ∷ p) (node l r) h = let s = node-leaf p (side b l r) h in (b ∷ s.0, s.1, leads-cons b p s.0 s.2)

leaf-node : (p : Bits) (t : Trie) (q : Bits) → member_t q t ≡ true → leads p q ≡ true → node_at any p t ≡ true
leaf-node [] none q h e = absurd (false≢true (sym (node_at-none bare q) ∙ h))
leaf-node [] (node l r) q h e = refl
leaf-node (b ∷ p) none q h e = absurd (false≢true (sym (node_at-none bare q) ∙ h))
leaf-node (b ∷ p) (node l r) [] h e = absurd (false≢true e)
leaf-node (b ∷ p) (node l r) (c ∷ q) h e = leaf-node p (side b l r) q (rw (leads-head b c p q e) h) (leads-tail b c p q e)

pub leads_any-list_of : (t : Trie) (p : Bits) → leads_any p (list_of t) ≡ node_at any p t
leads_any-list_of t p =
    bool_iff (leads_any p (list_of t)) (node_at any p t)
    (λ e. let r = any_of-out (leads p) (list_of t) e in leaf-node p t r.0 (sym (member-list_of t r.0) ∙ r.1) r.2)
    (λ e. let r = node-leaf p t e in any_of-in (leads p) r.0 (list_of t) (member-list_of t r.0 ∙ r.1) r.2)

-- No member leads another.
pub member_t-apart : (p : Bits) (t : Trie) (q : Bits) → member_t p t ≡ true → member_t q t ≡ true → leads p q ≡ true → p ≡ q
member_t-apart [] t [] h k e = refl
member_t-apart [] none (c ∷ q) h k e = absurd (false≢true h)
member_t-apart [] (node l r) (c ∷ q) h k e = absurd (false≢true (sym (node_at-none bare q) ∙ ap (member_t q) (sym (side-bare c l r h)) ∙ k))
member_t-apart (b ∷ p) t [] h k e = absurd (false≢true e)
member_t-apart (b ∷ p) none (c ∷ q) h k e = absurd (false≢true h)
member_t-apart (b ∷ p) (node l r) (c ∷ q) h k e =
    let s = leads-head b c p q e in
    let x = member_t-apart p (side b l r) q h (rw s k) (leads-tail b c p q e) in
    cc

-- A path is as long as the levels allow.
pub member_t-length : (q : Bits) (t : Trie) → member_t q t ≡ true → length q < levels t
unfolding levels
member_t-length [] none h = absurd (false≢true h)
member_t-length [] (node l r) h = omega arith
member_t-length (b ∷ q) none h = absurd (false≢true h)
member_t-length (b ∷ q) (node l r) h = omega (arith, member_t-length q (side b l r) h, levels-side b l r)

-- Two tries with the same members are equal; so a trie is its list.
pub member_t-one : (t u : Trie) → ((q : Bits) → member_t q t ≡ member_t q u) → t ≡ u
member_t-one none none h = refl
member_t-one none (node l r) h = let s = some-leaf (node l r) refl in absurd (false≢true (sym (node_at-none bare s.0) ∙ h s.0 ∙ s.1))
member_t-one (node l r) none h = let s = some-leaf (node l r) refl in absurd (false≢true (sym (node_at-none bare s.0) ∙ sym (h s.0) ∙ s.1))
member_t-one (node l r) (node m s) h =
    let a : l ≡ m = member_t-one l m (λ q. h (false ∷ q)) in
    let b : r ≡ s = member_t-one r s (λ q. h (true ∷ q)) in
    cc

pub list_of-one : (t u : Trie) → list_of t ≡ list_of u → t ≡ u
list_of-one t u e = member_t-one t u (λ q. sym (member-list_of t q) ∙ ap (member q) e ∙ member-list_of u q)
