-- Removing, excluding and looking up, as laws of the lists of a width: a list is that of a trie (is_list-is), and the tries' laws are carried over. Adding, simplifying,
-- merging and intersecting have theirs in TrieOf, Simplifying and Combining. An address is a bit string of length w. Assumes nothing.
use mathlib.Core.Bool.{Bool, true, false, not, ◌&&◌, ◌||◌}
use mathlib.Core.List.{List}
use mathlib.Core.Path.{◌≡◌, refl, ap, sym, ◌∙◌}
use Prim.Native.Nat.{ℕ, suc, ◌≤◌}
use native.Mathlib.Omega.{arith}
use lib.ListN.{length}
use Rattle.nets.specs.Bits.{Bits, leads}
use Rattle.nets.specs.Tries.{Trie, levels, list_of}
use Rattle.nets.specs.TrieOps.{remove_t, difference_t}
use Rattle.nets.specs.Lists.{found, member, covers, is_list, remove_l, exclude_l, difference_l, supernet_l, Simplified}
use Rattle.nets.proofs.Strings.{leads-refl, leads-all}
use Rattle.nets.proofs.Listing.{covers-list_of}
use Rattle.nets.proofs.Lookups.{supernet_l-one}
use Rattle.nets.proofs.Removing.{levels-remove, covers_t-remove, list_of-remove}
use Rattle.nets.proofs.TrieOf.{is_list-is, is_list-list_of, is_list-within}
use Rattle.nets.proofs.Simplifying.{covers-simplify, simplified-simplify, is_list-simplify}
use Rattle.nets.proofs.Combining.{list_of-op}
use Rattle.nets.proofs.Excluding.{levels-except, list_of-except}
use Rattle.nets.proofs.Excluding as excluding

-- an address is led by a network, and leads none but itself
leads-address : (n a : Bits) → length n ≤ length a → (leads n a || leads a n) ≡ leads n a
leads-address n a h = go (leads n a) refl (leads a n) refl
  where
    go : (x : Bool) → leads n a ≡ x → (y : Bool) → leads a n ≡ y → (x || y) ≡ x
    go true e y f = refl
    go false e true f = sym (leads-refl n) ∙ ap (leads n) (sym (leads-all a n f h)) ∙ e
    go false e false f = refl

pub covers-remove : (w : ℕ) (l : List Bits) (n a : Bits) → is_list w l ≡ true → length n ≤ w → length a ≡ w → covers (remove_l l n) a ≡ (covers l a && not (leads n a))
covers-remove w l n a h k e =
    let r = is_list-is w l h in
    rw (← r.1, ← list_of-remove n r.0, covers-list_of (remove_t n r.0) a, covers-list_of r.0 a, covers_t-remove n r.0 a, leads-address n a (omega arith))

pub is_list-remove : (w : ℕ) (l : List Bits) (n : Bits) → is_list w l ≡ true → length n ≤ w → is_list w (remove_l l n) ≡ true
is_list-remove w l n h k =
    let r = is_list-is w l h in
    rw (← r.1, ← list_of-remove n r.0) (is_list-list_of w _ (levels-remove n r.0 w r.2 k))

pub covers-exclude : (w : ℕ) (l m : List Bits) (a : Bits) → is_list w l ≡ true → is_list w m ≡ true → length a ≡ w → covers (exclude_l l m) a ≡ (covers l a && not (covers m a))
covers-exclude w l m a h k e =
    let r = is_list-is w l h in
    let s = is_list-is w m k in
    let g : levels s.0 ≤ suc (length a) = omega (arith, s.2) in
    rw (← r.1, ← s.1) (excluding.covers-exclude r.0 s.0 a g)

pub is_list-exclude : (w : ℕ) (l m : List Bits) → is_list w l ≡ true → is_list w m ≡ true → is_list w (exclude_l l m) ≡ true
is_list-exclude w l m h k =
    let r = is_list-is w l h in
    let s = is_list-is w m k in
    rw (← r.1, ← s.1, ← list_of-except (suc w) r.0 s.0 r.2 s.2) (is_list-list_of w _ (levels-except (suc w) r.0 s.0))

-- Simplified, a difference covers what it covered, and is done on tries by joining full halves.
module _ (w : ℕ) (l m : List Bits) (h : is_list w l ≡ true) (k : is_list w m ≡ true) where
  pub covers-difference : (a : Bits) → length a ≡ w → covers (difference_l l m) a ≡ (covers l a && not (covers m a))
  unfolding difference_l
  covers-difference a e = covers-simplify w (exclude_l l m) a (is_list-within w (exclude_l l m) (is_list-exclude w l m h k)) e ∙ covers-exclude w l m a h k e

  pub is_list-difference : is_list w (difference_l l m) ≡ true
  unfolding difference_l
  is_list-difference = is_list-simplify w (exclude_l l m) (is_list-within w (exclude_l l m) (is_list-exclude w l m h k))

pub simplified-difference : (l m : List Bits) → Simplified (difference_l l m)
unfolding difference_l
simplified-difference l m = simplified-simplify (exclude_l l m)

pub list_of-difference : (w : ℕ) (t u : Trie) → levels t ≤ suc w → levels u ≤ suc w → list_of (difference_t (suc w) t u) ≡ difference_l (list_of t) (list_of u)
unfolding difference_t
list_of-difference w t u h k =
    let x = is_list-list_of w t h in
    let y = is_list-list_of w u k in
    list_of-op w t u h k _ (difference_l (list_of t) (list_of u)) (is_list-difference w (list_of t) (list_of u) x y) (simplified-difference (list_of t) (list_of u))
    (covers-difference w (list_of t) (list_of u) x y)

-- the member that holds a query is the one that is found
pub supernet_l-is : (w : ℕ) (l : List Bits) (q p : Bits) → is_list w l ≡ true → member p l ≡ true → leads p q ≡ true → supernet_l l q ≡ found p
supernet_l-is w l q p h k e = let r = is_list-is w l h in rw (← r.1) (supernet_l-one r.0 q p (rw r.1 k) e)
