-- Pouring a trie into another, or out of it, is adding or removing its networks one by one, and that is one list in any order. A list is known by the strings of any length that it
-- covers. Assumes nothing.
use mathlib.Core.Bool.{Bool, true, false, not, cond, ◌&&◌, ◌||◌, or_comm, or-true}
use mathlib.Core.List.{List, [], ◌∷◌}
use mathlib.Core.Path.{◌≡◌, refl, ap, ap₂, sym, ◌∙◌}
use Prim.Native.Nat.{ℕ, suc, ◌≤◌}
use native.Mathlib.Omega.{arith}
use lib.Dec.{leb}
use lib.ListN.{length}
use borrow.Author.Tests.{leb-true, not-true}
use Rattle.nets.specs.Bits.{Bits, leads}
use Rattle.nets.specs.Tries.{Trie, none, node, leaf, bare, is_leaf, side, glue, levels, covers_t, list_of, trie_of}
use Rattle.nets.specs.TrieOps.{half}
use Rattle.nets.specs.Lists.{member, covers, within, is_list, add_l, remove_l, exclude_l}
use Rattle.nets.proofs.Strings.{and_left, and_right}
use Rattle.nets.proofs.Members.{any_of-same}
use Rattle.nets.proofs.Listing.{covers_t-none, leaf-is, covers-list_of}
use Rattle.nets.proofs.Glue.{covers_t-half, covers_t-glue, covers_t-glue-end}
use Rattle.nets.proofs.Operate.{levels-op}
use Rattle.nets.proofs.TrieOf.{is_list-within, levels-trie_of, list_of-trie_of, is_list-list_of, covers_t-trie_of}
use Rattle.nets.proofs.Excluding.{touches, list_of-except, covers-exclude-block}
use Rattle.nets.proofs.Laws.{is_list-remove}
use Rattle.inner_nets.specs.Inner.{overlaps, inner, is_public}
use Rattle.inner_nets.proofs.Overlaps.{overlaps-nil, overlaps-cons, overlaps-add}
use Rattle.ranges.specs.Blocks.{add_all}
use Rattle.ranges.proofs.OfRanges.{is_list-add_all, covers-add_all, covers_one, add_all-order}
use Rattle.trie_pour.specs.Pour.{pouring, pour_t}
use Rattle.trie_pour.proofs.Operation.{pour-op, pour-except}
use Rattle.change_many.specs.Calls.{poured_l}

-- What is poured in is covered too.
or-none : (x : Bool) → x ≡ (x || false)
or-none true = refl
or-none false = refl

leaf-covers : (t : Trie) → is_leaf t ≡ covers_t t []
leaf-covers none = refl
leaf-covers (node l r) = refl

covers_t-pour : (s t : Trie) (a : Bits) → covers_t (pour_t true s t) a ≡ (covers_t t a || covers_t s a)
unfolding pour_t
covers_t-pour none t a = rw (covers_t-none a) (or-none (covers_t t a))
covers_t-pour (node l r) t [] = rw (← leaf-covers t) (go (bare l r || is_leaf t) refl)
  where
    go : (x : Bool) → (bare l r || is_leaf t) ≡ x → covers_t (cond x leaf (glue false (pour_t true l (half false t)) (pour_t true r (half true t)))) [] ≡ (is_leaf t || bare l r)
    go true e = sym e ∙ or_comm (bare l r) (is_leaf t)
    go false e = covers_t-glue-end false (pour_t true l (half false t)) (pour_t true r (half true t)) ∙ sym e ∙ or_comm (bare l r) (is_leaf t)
covers_t-pour (node l r) t (b ∷ a) = go (bare l r) (is_leaf t) refl refl (covers_t-pour l (half false t) a) (covers_t-pour r (half true t) a)
  where
    inner : (b : Bool) → covers_t (pour_t true l (half false t)) a ≡ (covers_t (half false t) a || covers_t l a)
        → covers_t (pour_t true r (half true t)) a ≡ (covers_t (half true t) a || covers_t r a)
        → covers_t (side b (pour_t true l (half false t)) (pour_t true r (half true t))) a ≡ (covers_t (half b t) a || covers_t (side b l r) a)
    inner false i j = i
    inner true i j = j

    go : (x y : Bool) → bare l r ≡ x → is_leaf t ≡ y → covers_t (pour_t true l (half false t)) a ≡ (covers_t (half false t) a || covers_t l a)
        → covers_t (pour_t true r (half true t)) a ≡ (covers_t (half true t) a || covers_t r a)
        → covers_t (cond (x || y) leaf (glue false (pour_t true l (half false t)) (pour_t true r (half true t)))) (b ∷ a) ≡ (covers_t t (b ∷ a) || (x || covers_t (side b l r) a))
    go true y e g i j = sym (or-true (covers_t t (b ∷ a)))
    go false true e g i j = sym (ap (λ z. z || covers_t (side b l r) a) (ap (λ u. covers_t u (b ∷ a)) (leaf-is t g)))
    go false false e g i j = covers_t-glue false b (pour_t true l (half false t)) (pour_t true r (half true t)) a ∙ inner b i j ∙ ap (λ z. z || covers_t (side b l r) a) (sym (covers_t-half t b a))

module _ (w : ℕ) (l ns : List Bits) (h : is_list w l ≡ true) (g : is_list w ns ≡ true) where
  abbrev poured : Bool → Trie
  poured x = pour_t x (trie_of ns) (trie_of l)

  deep : (m : List Bits) → is_list w m ≡ true → levels (trie_of m) ≤ suc w
  deep m i = levels-trie_of w m (is_list-within w m i)

  pub levels-poured : (x : Bool) → levels (poured x) ≤ suc w
  levels-poured x = rw (pour-op x (trie_of ns) (trie_of l) w (deep ns g) (deep l h)) (levels-op false (pouring x) (suc w) (trie_of l) (trie_of ns))

  -- the trie with the networks in it, or out of it, has the list of adding or removing them one by one
  pub list_of-poured : (x : Bool) → list_of (poured x) ≡ poured_l x l ns
  list_of-poured true =
      covers_one w (list_of (poured true)) (add_all l ns) (is_list-list_of w (poured true) (levels-poured true)) (is_list-add_all w l ns h (is_list-within w ns g))
      (λ a. covers-list_of (poured true) a ∙ covers_t-pour (trie_of ns) (trie_of l) a ∙ ap₂ ◌||◌ (covers_t-trie_of l a) (covers_t-trie_of ns a) ∙ sym (covers-add_all w l ns a h (is_list-within w ns g)))
  list_of-poured false =
      ap list_of (pour-except (trie_of ns) (trie_of l) w (deep ns g) (deep l h)) ∙ list_of-except (suc w) (trie_of l) (trie_of ns) (deep l h) (deep ns g)
      ∙ ap₂ exclude_l (list_of-trie_of w l h) (list_of-trie_of w ns g)

  pub is_list-poured : (x : Bool) → is_list w (poured_l x l ns) ≡ true
  is_list-poured x = rw (← list_of-poured x) (is_list-list_of w (poured x) (levels-poured x))

-- Removing them is one list in any order too, each once or more often.
module _ (w : ℕ) where
  is_list-remove_all : (l ns : List Bits) → is_list w l ≡ true → within w ns ≡ true → is_list w (exclude_l l ns) ≡ true
  unfolding exclude_l
  is_list-remove_all l [] i h = i
  is_list-remove_all l (n ∷ ns) i h =
      is_list-remove_all (remove_l l n) ns (is_list-remove w l n i (leb-true (length n) w (and_left (leb (length n) w) (within w ns) h))) (and_right (leb (length n) w) (within w ns) h)

  touches-same : (ns ms : List Bits) (a : Bits) → ((q : Bits) → member q ns ≡ member q ms) → touches ns a ≡ touches ms a
  touches-same ns ms a e = ap₂ ◌||◌ (any_of-same (λ m. leads m a) ns ms e) (any_of-same (leads a) ns ms e)

  covers-remove_all : (l ns : List Bits) (a : Bits) → is_list w l ≡ true → covers (exclude_l l ns) a ≡ (covers l a && not (touches ns a))
  covers-remove_all l ns a i = rw (← list_of-trie_of w l i) (covers-exclude-block (trie_of l) ns a)

  pub poured_l-order : (x : Bool) (l ns ms : List Bits) → is_list w l ≡ true → within w ns ≡ true → within w ms ≡ true → ((q : Bits) → member q ns ≡ member q ms) → poured_l x l ns ≡ poured_l x l ms
  poured_l-order true l ns ms i h g e = add_all-order w l ns ms i h g e
  poured_l-order false l ns ms i h g e =
      covers_one w (exclude_l l ns) (exclude_l l ms) (is_list-remove_all l ns i h) (is_list-remove_all l ms i g)
      (λ a. covers-remove_all l ns a i ∙ ap (λ z. covers l a && not z) (touches-same ns ms a e) ∙ sym (covers-remove_all l ms a i))

-- A set that keeps clear of the inner networks keeps so with others exactly if these do, and always without others.
overlaps-add_all : (l ns k : List Bits) → overlaps (add_all l ns) k ≡ (overlaps l k || overlaps ns k)
unfolding add_all
overlaps-add_all l [] k = rw (overlaps-nil k) (or-none (overlaps l k))
overlaps-add_all l (n ∷ ns) k =
    overlaps-add_all (add_l l n) ns k ∙ rw (overlaps-add l n k, overlaps-cons n ns k) (turned (overlaps (n ∷ []) k) (overlaps l k) (overlaps ns k))
  where
    turned : (x y z : Bool) → ((x || y) || z) ≡ (y || (x || z))
    turned true y z = sym (or-true y)
    turned false y z = refl

pub is_public-add_all : (f : ℕ) (l ns : List Bits) → is_public f l ≡ true → is_public f (add_all l ns) ≡ is_public f ns
unfolding is_public
is_public-add_all f l ns e = let z : overlaps l (inner f) ≡ false = not-true (overlaps l (inner f)) e in ap not (overlaps-add_all l ns (inner f) ∙ ap (λ y. y || overlaps ns (inner f)) z)
