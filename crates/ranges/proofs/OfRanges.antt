-- The networks of a range: they cover exactly its addresses, are the fewest that do, and at most 2w - 2. Adding them, in any order, leaves one list
-- (`add_all-order`); the ranges of a list, added to the empty list and simplified, give the simplified list (`round_trip`). A list is known by the strings of
-- any length that it covers. Assumes nothing.
use Rattle.std.proofs.Common.{◌≡◌, ℕ, ◌+◌, ◌-◌, ◌*◌, ◌^◌, ◌<◌, ◌≤◌, Bool, true, false, ◌||◌, leb, List, [], ◌∷◌, length, sym, refl, ap, ◌∙◌, ap₂, arith, lt-ltb, leb-true}
use mathlib.Core.Bool.{or_assoc, or-false, false≢true}
use Rattle.nets.specs.Bits.{Bits, leads, val}
use Rattle.nets.specs.Tries.{Trie, none, node, bare, side, covers_t, list_of}
use Rattle.nets.specs.Lists.{member, covers, within, is_list, add_l, simplify_l, Simplified}
use Rattle.nets.specs.Shortest.{Exactly, Shortest}
use Rattle.nets.proofs.Strings.{and_left, and_right, leads-refl}
use Rattle.nets.proofs.Members.{any_of-in, any_of-same}
use Rattle.nets.proofs.Order.{val-high}
use Rattle.nets.proofs.Numbers.{bits-val}
use Rattle.nets.proofs.Listing.{member-list_of, bare-none, covers_t-none, some-leaf, covers-list_of}
use Rattle.nets.proofs.TrieOf.{is_list-within, is_list-list_of, is_list-is, is_list-add, covers-add, trie_of-list_of}
use Rattle.nets.proofs.Simplifying.{simple-simplified, simplified_one, simplified-simplify, covers-simplify, is_list-simplify}
use Rattle.nets.proofs.Fewest.{covers-same}
use Rattle.nets.proofs.ShortestOne.{shortest-is}
use Rattle.address_order.specs.Streams.{flat}
use Rattle.address_order.proofs.Sorted.{length-order, flat-order}
use Rattle.ranges.specs.Ranges.{Range, holds, in_some, ranges_of}
use Rattle.ranges.specs.Blocks.{range_t, nets_of, add_all, add_range_l, add_ranges}
use Rattle.ranges.proofs.OfLists.{ranges-covering}
use Rattle.ranges.proofs.InBlocks.{levels-range, simple-range, covers-range, count-le}

-- The networks of a range.
module _ (w : ℕ) (r : Range) where
  pub is_list-nets : is_list w (nets_of w r) ≡ true
  unfolding nets_of
  is_list-nets = is_list-list_of w (range_t w 0 r) (levels-range w 0 r)

  pub nets-exactly : Exactly w (λ a. holds r (val a)) (nets_of w r)
  unfolding nets_of
  nets-exactly a n = let z : 0 + val a ≡ val a = omega arith in covers-list_of (range_t w 0 r) a ∙ covers-range w 0 r a n ∙ ap (holds r) z

  pub nets-simplified : Simplified (nets_of w r)
  unfolding nets_of
  nets-simplified = simple-simplified (range_t w 0 r) (simple-range w 0 r)

  pub nets-shortest : Shortest w (λ a. holds r (val a)) (nets_of w r)
  nets-shortest =
      let i = is_list-nets in
      let h = is_list-within w (nets_of w r) i in
      let e : simplify_l (nets_of w r) ≡ nets_of w r =
      simplified_one w (simplify_l (nets_of w r)) (nets_of w r) (is_list-simplify w (nets_of w r) h) i (simplified-simplify (nets_of w r)) nets-simplified
      (λ a n. covers-simplify w (nets_of w r) a h n) in
      let s = (shortest-is w (nets_of w r) i).1 e in
      record { exactly = nets-exactly; fewest = λ m g. s.fewest m (λ a n. g a n ∙ sym (nets-exactly a n)) }

  pub nets-few : 2 ≤ w → length (nets_of w r) ≤ 2 * w - 2
  unfolding nets_of
  nets-few h =
      let t = range_t w 0 r in
      let e : length (list_of t) ≡ length (flat t) =
      sym (length-order (list_of t)) ∙ ap length (flat-order w (list_of t) is_list-nets ∙ ap flat (trie_of-list_of t)) in
      omega (arith, count-le w 0 r)

-- A trie, and so a list, is known by all strings that it covers.
covers-some : (l r : Trie) → (a : Bits) × (covers_t (node l r) a ≡ true)
covers-some l r =
    let t = node l r in
    let (q, h) = some-leaf t refl in
    (q, sym (covers-list_of t q) ∙ any_of-in (λ m. leads m q) q (list_of t) (member-list_of t q ∙ h) (leads-refl q))

covers_t-one : (t u : Trie) → ((a : Bits) → covers_t t a ≡ covers_t u a) → t ≡ u
covers_t-one none none e = refl
covers_t-one none (node l r) e = let (a, h) = covers-some l r in absurd (false≢true (sym (covers_t-none a) ∙ e a ∙ h))
covers_t-one (node l r) none e = let (a, h) = covers-some l r in absurd (false≢true (sym (covers_t-none a) ∙ sym (e a) ∙ h))
covers_t-one (node l r) (node m s) e = go (bare l r) refl (sym (e [])) (covers_t-one l m) (covers_t-one r s)
  where
    inner : (b : Bool) → bare l r ≡ false → bare m s ≡ false → (a : Bits) → covers_t (side b l r) a ≡ covers_t (side b m s) a
    inner b f g a = rw (f, g) at (e (b ∷ a))

    go : (x : Bool) → bare l r ≡ x → bare m s ≡ bare l r → (((a : Bits) → covers_t l a ≡ covers_t m a) → l ≡ m)
        → (((a : Bits) → covers_t r a ≡ covers_t s a) → r ≡ s) → node l r ≡ node m s
    go true f g i j = let h = bare-none l r f in let k = bare-none m s (g ∙ f) in rw (h.0, h.1, k.0, k.1)
    go false f g i j = ap₂ node (i (inner false f (g ∙ f))) (j (inner true f (g ∙ f)))

pub covers_one : (w : ℕ) (l m : List Bits) → is_list w l ≡ true → is_list w m ≡ true → ((a : Bits) → covers l a ≡ covers m a) → l ≡ m
covers_one w l m i j e =
    let (t, f, _) = is_list-is w l i in
    let (u, g, _) = is_list-is w m j in
    sym f ∙ ap list_of (covers_t-one t u (λ a. sym (covers-list_of t a) ∙ ap (λ z. covers z a) f ∙ e a ∙ ap (λ z. covers z a) (sym g) ∙ covers-list_of u a)) ∙ g

-- Adding networks one after the other.
module _ (w : ℕ) where
  pub is_list-add_all : (l ns : List Bits) → is_list w l ≡ true → within w ns ≡ true → is_list w (add_all l ns) ≡ true
  unfolding add_all
  is_list-add_all l [] i h = i
  is_list-add_all l (n ∷ ns) i h =
      is_list-add_all (add_l l n) ns (is_list-add w l n i (leb-true (length n) w (and_left (leb (length n) w) (within w ns) h)))
      (and_right (leb (length n) w) (within w ns) h)

  pub covers-add_all : (l ns : List Bits) (a : Bits) → is_list w l ≡ true → within w ns ≡ true → covers (add_all l ns) a ≡ (covers l a || covers ns a)
  unfolding add_all
  covers-add_all l [] a i h = sym (or-false (covers l a))
  covers-add_all l (n ∷ ns) a i h =
      covers-add_all (add_l l n) ns a (is_list-add w l n i (leb-true (length n) w (and_left (leb (length n) w) (within w ns) h)))
      (and_right (leb (length n) w) (within w ns) h)
      ∙ rw (covers-add w l n a i) (or_assoc (covers l a) (leads n a) (covers ns a))

  -- in any order, each once or more often
  pub add_all-order : (l ns ms : List Bits) → is_list w l ≡ true → within w ns ≡ true → within w ms ≡ true → ((q : Bits) → member q ns ≡ member q ms)
      → add_all l ns ≡ add_all l ms
  add_all-order l ns ms i h g e =
      covers_one w (add_all l ns) (add_all l ms) (is_list-add_all l ns i h) (is_list-add_all l ms i g)
      (λ a. covers-add_all l ns a i h ∙ ap (λ z. covers l a || z) (any_of-same (λ m. leads m a) ns ms e) ∙ sym (covers-add_all l ms a i g))

  pub is_list-add_range : (l : List Bits) (r : Range) → is_list w l ≡ true → is_list w (add_range_l w l r) ≡ true
  unfolding add_range_l
  is_list-add_range l r i = is_list-add_all l (nets_of w r) i (is_list-within w (nets_of w r) (is_list-nets w r))

  pub covers-add_range : (l : List Bits) (r : Range) (a : Bits) → is_list w l ≡ true → length a ≡ w
      → covers (add_range_l w l r) a ≡ (covers l a || holds r (val a))
  unfolding add_range_l
  covers-add_range l r a i n =
      covers-add_all l (nets_of w r) a i (is_list-within w (nets_of w r) (is_list-nets w r)) ∙ ap (λ z. covers l a || z) (nets-exactly w r a n)

  is_list-add_ranges : (rs : List Range) (l : List Bits) → is_list w l ≡ true → is_list w (add_ranges w l rs) ≡ true
  unfolding add_ranges
  is_list-add_ranges [] l i = i
  is_list-add_ranges (r ∷ rs) l i = is_list-add_ranges rs (add_range_l w l r) (is_list-add_range l r i)

  covers-add_ranges : (rs : List Range) (l : List Bits) (a : Bits) → is_list w l ≡ true → length a ≡ w
      → covers (add_ranges w l rs) a ≡ (covers l a || in_some rs (val a))
  unfolding add_ranges
  covers-add_ranges [] l a i n = sym (or-false (covers l a))
  covers-add_ranges (r ∷ rs) l a i n =
      covers-add_ranges rs (add_range_l w l r) a (is_list-add_range l r i) n
      ∙ rw (covers-add_range l r a i n) (or_assoc (covers l a) (holds r (val a)) (in_some rs (val a)))

  -- Out and in again.
  pub round_trip : (l : List Bits) → is_list w l ≡ true → simplify_l (add_ranges w [] (ranges_of w l)) ≡ simplify_l l
  unfolding is_list
  round_trip l i =
      let m = add_ranges w [] (ranges_of w l) in
      let j = is_list-add_ranges (ranges_of w l) [] refl in
      (covers-same w m l (is_list-within w m j) (is_list-within w l i)).0
      (λ a n. covers-add_ranges (ranges_of w l) [] a refl n ∙ ranges-covering w l i (val a)
      ∙ rw (bits-val w a n) (let h : val a < 2 ^ w = rw (← n) (val-high a) in rw (lt-ltb (val a) (2 ^ w) h)))
