-- A list put in address order: it has the same members, rises, is that of the list's trie, and has as many nodes. No member lies inside another exactly if none lies inside the
-- one before it: what a network leads stands right behind it. Assumes nothing.
use mathlib.Core.Bool.{Bool, true, false, not, cond, ◌&&◌, ◌||◌, and-false, or-true, false≢true}
use mathlib.Core.List.{List, [], ◌∷◌}
use mathlib.Core.Logic.{◌⊎◌, inl, inr}
use mathlib.Core.Path.{◌≡◌, refl, ap, sym, ◌∙◌, subst}
use Prim.Native.Nat.{ℕ, suc}
use native.Mathlib.Omega.{arith}
use lib.Dec.{leb}
use lib.ListN.{length}
use Rattle.nets.specs.Bits.{Bits, leads, equal}
use Rattle.nets.specs.Tries.{trie_of}
use Rattle.nets.specs.Lists.{any_of, member, covers, leads_any, ascending, apart, within, is_list, nodes_l}
use Rattle.nets.proofs.Order.{key, From, ascending-from, from-not}
use Rattle.nets.proofs.Members.{any_of-out}
use Rattle.nets.proofs.Listing.{member-list_of}
use Rattle.nets.proofs.Nodes.{nodes_l-list_of}
use Rattle.nets.proofs.TrieOf.{is_list-ascending, list_of-trie_of}
use Rattle.address_order.specs.Streams.{flat, earlier, rising, put_in_order, in_address_order, of_length, loose, path_nodes}
use Rattle.address_order.proofs.AddressOrder.{earlier-total, leads-later, leads-between}
use Rattle.address_order.proofs.Rising.{Heads, Rise, heads-cons, member-cons, member-first, member-later, rise-rising, rise_one}
use Rattle.address_order.proofs.Flat.{member-flat, rise-flat}
use Rattle.address_order.proofs.PathNodes.{path_nodes-flat}
use Rattle.address_order.proofs.Lengths.{of_length-one}

-- The members.
pub any_of-put : (f : Bits → Bool) (n : Bits) (l : List Bits) → any_of f (put_in_order n l) ≡ (f n || any_of f l)
unfolding put_in_order
any_of-put f n [] = refl
any_of-put f n (m ∷ l) = go (earlier n m) (any_of-put f n l)
  where
    swap : (x y z : Bool) → (x || (y || z)) ≡ (y || (x || z))
    swap true y z = sym (or-true y)
    swap false y z = refl

    go : (x : Bool) → any_of f (put_in_order n l) ≡ (f n || any_of f l) → any_of f (cond x (n ∷ m ∷ l) (m ∷ put_in_order n l)) ≡ (f n || (f m || any_of f l))
    go true ih = refl
    go false ih = ap (λ z. f m || z) ih ∙ swap (f m) (f n) (any_of f l)

pub any_of-order : (f : Bits → Bool) (l : List Bits) → any_of f (in_address_order l) ≡ any_of f l
unfolding in_address_order
any_of-order f [] = refl
any_of-order f (n ∷ l) = any_of-put f n (in_address_order l) ∙ ap (λ z. f n || z) (any_of-order f l)

pub member-order : (q : Bits) (l : List Bits) → member q (in_address_order l) ≡ member q l
member-order q l = any_of-order (equal q) l

-- Their number, and their lengths.
length-put : (n : Bits) (l : List Bits) → length (put_in_order n l) ≡ suc (length l)
unfolding put_in_order
length-put n [] = refl
length-put n (m ∷ l) = go (earlier n m) (length-put n l)
  where
    go : (x : Bool) → length (put_in_order n l) ≡ suc (length l) → length (cond x (n ∷ m ∷ l) (m ∷ put_in_order n l)) ≡ suc (suc (length l))
    go true ih = refl
    go false ih = ap suc ih

pub length-order : (l : List Bits) → length (in_address_order l) ≡ length l
unfolding in_address_order
length-order [] = refl
length-order (n ∷ l) = length-put n (in_address_order l) ∙ ap suc (length-order l)

and-swap : (x y z : Bool) → (x && (y && z)) ≡ (y && (x && z))
and-swap true y z = refl
and-swap false y z = sym (and-false y)

within-put : (w : ℕ) (n : Bits) (l : List Bits) → within w (put_in_order n l) ≡ within w (n ∷ l)
unfolding put_in_order
within-put w n [] = refl
within-put w n (m ∷ l) = go (earlier n m) (within-put w n l)
  where
    go : (x : Bool) → within w (put_in_order n l) ≡ within w (n ∷ l) → within w (cond x (n ∷ m ∷ l) (m ∷ put_in_order n l)) ≡ within w (n ∷ m ∷ l)
    go true ih = refl
    go false ih = ap (λ z. leb (length m) w && z) ih ∙ and-swap (leb (length m) w) (leb (length n) w) (within w l)

pub within-order : (w : ℕ) (l : List Bits) → within w (in_address_order l) ≡ within w l
unfolding in_address_order
within-order w [] = refl
within-order w (n ∷ l) = within-put w n (in_address_order l) ∙ ap (λ z. leb (length n) w && z) (within-order w l)

-- It rises, where no member comes twice.
heads-put : (m n : Bits) (l : List Bits) → earlier m n ≡ true → Heads m l → Heads m (put_in_order n l)
heads-put m n l e h q k = go (member-cons q n l (sym (any_of-put (equal q) n l) ∙ k))
  where
    go : (q ≡ n) ⊎ (member q l ≡ true) → earlier m q ≡ true
    go (inl x) = rw x e
    go (inr x) = h q x

-- of two different strings of which the one is not earlier the other is
earlier-other : (n m : Bits) → earlier n m ≡ false → (n ≡ m → ⊥) → earlier m n ≡ true
earlier-other n m e h = go (earlier m n) refl
  where
    go : (x : Bool) → earlier m n ≡ x → earlier m n ≡ true
    go true f = f
    go false f = absurd (h (earlier-total n m e f))

rise-put : (n : Bits) (l : List Bits) → Rise l → (member n l ≡ true → ⊥) → Rise (put_in_order n l)
unfolding put_in_order
rise-put n [] r h = (λ q k. absurd (false≢true k), tt)
rise-put n (m ∷ l) r h = go (earlier n m) refl (rise-put n l r.1 (λ k. h (member-later n m l k)))
  where
    go : (x : Bool) → earlier n m ≡ x → Rise (put_in_order n l) → Rise (cond x (n ∷ m ∷ l) (m ∷ put_in_order n l))
    go true e ih = (heads-cons n m l e r.0, r)
    go false e ih = (heads-put m n l (earlier-other n m e (λ x. h (subst (λ z. member z (m ∷ l) ≡ true) (sym x) (member-first m l)))) r.0, ih)

rise-from : (lo : ℕ) (l : List Bits) → From lo l → Rise (in_address_order l)
unfolding in_address_order
rise-from lo [] i = tt
rise-from lo (n ∷ l) i =
    rise-put n (in_address_order l) (rise-from (suc (key n)) l i.1) (λ k. false≢true (sym (from-not (suc (key n)) n l i.1 (omega arith)) ∙ sym (member-order n l) ∙ k))

pub rise-order : (l : List Bits) → ascending l ≡ true → Rise (in_address_order l)
rise-order l e = rise-from 0 l (ascending-from l e)

pub rising-order : (l : List Bits) → ascending l ≡ true → rising (in_address_order l) ≡ true
rising-order l e = rise-rising (in_address_order l) (rise-order l e)

pub of_length-order : (k : ℕ) (l : List Bits) → ascending l ≡ true → of_length k (in_address_order l) ≡ of_length k l
of_length-order k l e = sym (of_length-one k 0 l (in_address_order l) (ascending-from l e) (rise-order l e) (λ q. sym (member-order q l)))

-- It is that of the trie.
pub flat-order : (w : ℕ) (l : List Bits) → is_list w l ≡ true → in_address_order l ≡ flat (trie_of l)
flat-order w l e =
    rise_one (in_address_order l) (flat (trie_of l)) (rise-order l (is_list-ascending w l e)) (rise-flat (trie_of l))
    (λ q. member-order q l ∙ ap (member q) (sym (list_of-trie_of w l e)) ∙ member-list_of (trie_of l) q ∙ sym (member-flat q (trie_of l)))

pub nodes-order : (w : ℕ) (l : List Bits) → is_list w l ≡ true → path_nodes (in_address_order l) ≡ nodes_l l
nodes-order w l e = ap path_nodes (flat-order w l e) ∙ path_nodes-flat (trie_of l) ∙ sym (nodes_l-list_of (trie_of l)) ∙ ap nodes_l (list_of-trie_of w l e)

-- In a rising list only neighbours need comparing.
none_of : (f : Bits → Bool) (l : List Bits) → ((q : Bits) → member q l ≡ true → f q ≡ false) → any_of f l ≡ false
none_of f l h = go (any_of f l) refl
  where
    go : (x : Bool) → any_of f l ≡ x → any_of f l ≡ false
    go true e = let r = any_of-out f l e in absurd (false≢true (sym (h r.0 r.1) ∙ r.2))
    go false e = e

covers-none : (p : Bits) (l : List Bits) → Heads p l → covers l p ≡ false
covers-none p l h = none_of (λ m. leads m p) l (λ q k. leads-later p q (h q k))

leads_any-next : (p q : Bits) (l : List Bits) → earlier p q ≡ true → Heads q l → leads_any p (q ∷ l) ≡ leads p q
leads_any-next p q l e h = go (leads p q) refl
  where
    not-led : leads p q ≡ false → (r : Bits) → member r l ≡ true → (x : Bool) → leads p r ≡ x → leads p r ≡ false
    not-led f r k true g = g ∙ sym (leads-between p q r e (h r k) g) ∙ f
    not-led f r k false g = g

    go : (x : Bool) → leads p q ≡ x → (leads p q || leads_any p l) ≡ leads p q
    go true f = rw f
    go false f = rw (f, none_of (leads p) l (λ r k. not-led f r k (leads p r) refl))

loose-apart : (l : List Bits) → Rise l → loose l ≡ apart l
unfolding loose
loose-apart [] r = refl
loose-apart (p ∷ []) r = refl
loose-apart (p ∷ q ∷ l) r =
    rw (covers-none p (q ∷ l) r.0, leads_any-next p q l (r.0 q (member-first q l)) r.1.0, loose-apart (q ∷ l) r.1)

-- whether members lie apart does not depend on their order
apart-swap : (a b c d e f g : Bool) → (not ((a || c) || (b || d)) && (not (e || f) && g)) ≡ (not ((b || e) || (a || f)) && (not (c || d) && g))
apart-swap true true c d e f g = refl
apart-swap true false c d true f g = refl
apart-swap true false c d false f g = refl
apart-swap false true true d e f g = refl
apart-swap false true false d e f g = refl
apart-swap false false c d e f g = and-swap (not (c || d)) (not (e || f)) g

apart-put : (n : Bits) (l : List Bits) → apart (put_in_order n l) ≡ apart (n ∷ l)
unfolding put_in_order
apart-put n [] = refl
apart-put n (m ∷ l) = go (earlier n m) (apart-put n l)
  where
    go : (x : Bool) → apart (put_in_order n l) ≡ apart (n ∷ l) → apart (cond x (n ∷ m ∷ l) (m ∷ put_in_order n l)) ≡ apart (n ∷ m ∷ l)
    go true ih = refl
    go false ih =
        rw (ih, any_of-put (λ q. leads q m) n l, any_of-put (leads m) n l)
        (apart-swap (leads n m) (leads m n) (covers l m) (leads_any m l) (covers l n) (leads_any n l) (apart l))

apart-order : (l : List Bits) → apart (in_address_order l) ≡ apart l
unfolding in_address_order
apart-order [] = refl
apart-order (n ∷ l) = apart-put n (in_address_order l) ∙ rw (any_of-order (λ m. leads m n) l, any_of-order (leads n) l, apart-order l)

pub loose-order : (l : List Bits) → ascending l ≡ true → loose (in_address_order l) ≡ apart l
loose-order l e = loose-apart (in_address_order l) (rise-order l e) ∙ apart-order l
