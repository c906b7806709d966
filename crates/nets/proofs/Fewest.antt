-- A simplified list is the shortest of all lists that cover its addresses, those with members inside others and with repetitions too. Its members are apart,
-- and are the largest blocks of the addresses: a network that holds an address of a member, and no address that the list does not cover, lies inside it. So
-- each member has a network of its own. Assumes nothing.
use mathlib.Core.Bool.{Bool, true, false, not, ◌&&◌, ◌||◌, or-true, false≢true}
use mathlib.Core.List.{List, [], ◌∷◌, ◌++◌}
use mathlib.Core.Path.{◌≡◌, refl, ap, sym, ◌∙◌}
use Prim.Native.Nat.{ℕ, suc, ◌+◌, ◌-◌, ◌≤◌, ◌<◌}
use native.Mathlib.Decide.{dec_lt}
use native.Mathlib.Omega.{arith}
use lib.ListN.{length, length-append, replicate, length-replicate}
use borrow.Author.Tests.{not-true}
use Rattle.nets.specs.Bits.{Bits, leads, equal}
use Rattle.nets.specs.Tries.{Trie, leaf, member_t, covers_t, levels, list_of}
use Rattle.nets.specs.TrieOps.{half}
use Rattle.nets.specs.Lists.{member, covers, leads_any, apart, within, is_list, keep, simplify_l, merge_l, intersect_l, difference_l, Simplified}
use Rattle.nets.specs.Shortest.{Exactly, Shortest}
use Rattle.nets.proofs.Strings.{and_left, and_right, and_both, equal-refl, leads-append, leads-length, leads-trans, leads-shorter}
use Rattle.nets.proofs.Members.{any_of-in, any_of-out, member-keep, keep-fewer}
use Rattle.nets.proofs.Listing.{member-list_of, covers-list_of, covers_t-leaf, member_t-apart, member_t-length}
use Rattle.nets.proofs.Glue.{covers_t-half, levels-half}
use Rattle.nets.proofs.TrieOf.{is_list-apart, is_list-is}
use Rattle.nets.proofs.Simplifying.{Simple, simple-half, simple-one, simplified-simple}
use Rattle.nets.proofs.Simplifying.{covers-simplify, simplified-simplify, is_list-simplify, simplified_one}
use Rattle.nets.proofs.Combining.{covers-merge, simplified-merge, is_list-merge, covers-intersect, simplified-intersect, is_list-intersect}
use Rattle.nets.proofs.Laws.{covers-difference, simplified-difference, is_list-difference}

-- A list whose members are apart is not longer than m where each member has a network of m inside it: the first member takes one away at least, and none
-- that lies inside another.
apart-both : (p q n : Bits) (l : List Bits) → (covers l p || leads_any p l) ≡ false → member q l ≡ true → leads p n ≡ true → leads q n ≡ true → ⊥
apart-both p q n l e i h k = go (dec_lt (length p) (length q))
  where
    touched : (covers l p || leads_any p l) ≡ true → ⊥
    touched f = false≢true (sym e ∙ f)

    go : Dec (length p < length q) → ⊥
    go (yes x) = touched (rw (any_of-in (leads p) q l i (leads-shorter p q n h k (omega arith))) (or-true (covers l p)))
    go (no x) = touched (rw (any_of-in (λ m. leads m p) q l i (leads-shorter q p n k h (omega arith))))

abbrev outside : Bits → List Bits → List Bits
outside p m = keep (λ n. not (leads p n)) m

apart-outside : (p q : Bits) (l m : List Bits) → (covers l p || leads_any p l) ≡ false → member q l ≡ true → leads_any q m ≡ true
    → leads_any q (outside p m) ≡ true
apart-outside p q l m e i h =
    let (n, j, g) = any_of-out (leads q) m h in
    any_of-in (leads q) n (outside p m) (member-keep (λ n. not (leads p n)) n m ∙ and_both (member n m) (not (leads p n)) j (go n g (leads p n) refl)) g
  where
    go : (n : Bits) → leads q n ≡ true → (x : Bool) → leads p n ≡ x → not x ≡ true
    go n g true f = absurd (apart-both p q n l e i f g)
    go n g false f = refl

apart-fewest : (l m : List Bits) → apart l ≡ true → ((p : Bits) → member p l ≡ true → leads_any p m ≡ true) → length l ≤ length m
apart-fewest [] m h k = omega arith
apart-fewest (p ∷ l) m h k =
    let e = not-true (covers l p || leads_any p l) (and_left (not (covers l p || leads_any p l)) (apart l) h) in
    let a = and_right (not (covers l p || leads_any p l)) (apart l) h in
    let others = apart-fewest l (outside p m) a (λ q i. apart-outside p q l m e i (k q (rw i (or-true (equal q p))))) in
    omega (arith, keep-fewer (leads p) m (k p (simp equal-refl)), others)

-- A block all of whose addresses a simple trie covers lies inside a member: below it the trie is full.
covers_t-block : (k : ℕ) (q : Bits) (t : Trie) → Simple t → levels t ≤ suc (length q + k)
    → ((a : Bits) → length a ≡ k → covers_t t (q ++ a) ≡ true) → covers_t t q ≡ true
unfolding levels
covers_t-block k [] t s h e =
    ap (λ x. covers_t x []) (simple-one t leaf k s (refl, tt, tt) (omega arith) (omega arith) (λ a n. e a n ∙ sym (covers_t-leaf a)))
covers_t-block k (b ∷ q) t s h e =
    let g = levels-half b t (suc (length q + k)) (omega arith) (omega arith) in
    covers_t-half t b q ∙ covers_t-block k q (half b t) (simple-half b t s) g (λ a n. sym (covers_t-half t b (q ++ a)) ∙ e a n)

-- Of a list that covers the same addresses, each member of a simple trie has a network inside it: the one that holds an address of the member is no larger
-- block.
module _ (w : ℕ) (t : Trie) (s : Simple t) (h : levels t ≤ suc w) (m : List Bits) (e : Exactly w (covers_t t) m) where
  member-block : (q : Bits) → member q m ≡ true → length q ≤ w → covers_t t q ≡ true
  member-block q i n = covers_t-block (w - length q) q t s (omega arith) covered
    where
      covered : (a : Bits) → length a ≡ w - length q → covers_t t (q ++ a) ≡ true
      covered a k =
          let g : length (q ++ a) ≡ w = simp length-append (omega arith) in
          sym (e (q ++ a) g) ∙ any_of-in (λ m. leads m (q ++ a)) q m i (leads-append q a)

  member-inside : (p : Bits) → member_t p t ≡ true → leads_any p m ≡ true
  member-inside p i =
      let z = replicate (w - length p) false in
      let a = p ++ z in
      let g : length a ≡ w = simp (length-append, length-replicate) (omega (arith, member_t-length p t i)) in
      let c = e a g ∙ sym (covers-list_of t a) ∙ any_of-in (λ m. leads m a) p (list_of t) (member-list_of t p ∙ i) (leads-append p z) in
      let (q, j, k) = any_of-out (λ m. leads m a) m c in
      go a (leads-append p z) g q j k (dec_lt (length q) (length p))
    where
      go : (a : Bits) → leads p a ≡ true → length a ≡ w → (q : Bits) → member q m ≡ true → leads q a ≡ true → Dec (length q < length p)
          → leads_any p m ≡ true
      go a f g q j k (yes x) =
          let (r, y, z) = any_of-out (λ m. leads m q) (list_of t) (covers-list_of t q ∙ member-block q j (omega (arith, leads-length q a k))) in
          let u = member_t-apart r t p (sym (member-list_of t r) ∙ y) i (leads-trans r q p z (leads-shorter q p a k f (omega arith))) in
          absurd (omega (arith, leads-length r q z, ap length u))
      go a f g q j k (no x) = any_of-in (leads p) q m j (leads-shorter p q a f k (omega arith))

-- Lists.
simplified-fewest : (w : ℕ) (l m : List Bits) → is_list w l ≡ true → Simplified l → Exactly w (covers l) m → length l ≤ length m
simplified-fewest w l m i s e =
    let (t, f, h) = is_list-is w l i in
    let same : Exactly w (covers_t t) m = λ a n. e a n ∙ ap (λ z. covers z a) (sym f) ∙ covers-list_of t a in
    apart-fewest l m (is_list-apart w l i) (λ p j. member-inside w t (simplified-simple t (rw f s)) h m same p (sym (member-list_of t p) ∙ ap (member p) f ∙ j))

simplified-shortest : (w : ℕ) (f : Bits → Bool) (l : List Bits) → is_list w l ≡ true → Simplified l → Exactly w f l → Shortest w f l
simplified-shortest w f l i s e = record { exactly = e; fewest = λ m g. simplified-fewest w l m i s (λ a n. g a n ∙ sym (e a n)) }

pub shortest-simplify : (w : ℕ) (l : List Bits) → within w l ≡ true → Shortest w (covers l) (simplify_l l)
shortest-simplify w l h =
    simplified-shortest w (covers l) (simplify_l l) (is_list-simplify w l h) (simplified-simplify l) (λ a n. covers-simplify w l a h n)

-- "no list of networks, overlapping or not, that covers exactly these addresses is shorter". Nothing else is asked of m: even strings longer than w, which are
-- no networks and hold no address, may stand in it.
pub simplify-fewest : (w : ℕ) (l m : List Bits) → within w l ≡ true → Exactly w (covers l) m → length (simplify_l l) ≤ length m
simplify-fewest w l m h e = (shortest-simplify w l h).fewest m e

-- What merging, intersecting and excluding leave is shortest too.
pub shortest-difference : (w : ℕ) (l m : List Bits) → is_list w l ≡ true → is_list w m ≡ true → Shortest w (λ a. covers l a && not (covers m a)) (difference_l l m)
shortest-difference w l m h k =
    simplified-shortest w _ (difference_l l m) (is_list-difference w l m h k) (simplified-difference l m) (covers-difference w l m h k)

module _ (w : ℕ) (l m : List Bits) (h : within w l ≡ true) (k : within w m ≡ true) where
  pub shortest-merge : Shortest w (λ a. covers l a || covers m a) (merge_l l m)
  shortest-merge = simplified-shortest w _ (merge_l l m) (is_list-merge w l m h k) (simplified-merge l m) (λ a n. covers-merge w l m a h k n)

  pub shortest-intersect : Shortest w (λ a. covers l a && covers m a) (intersect_l l m)
  shortest-intersect =
      simplified-shortest w _ (intersect_l l m) (is_list-intersect w l m h k) (simplified-intersect l m) (λ a n. covers-intersect w l m a h k n)

  -- "two sets cover the same addresses exactly when their simplified lists are equal"
  pub covers-same : (Exactly w (covers m) l → simplify_l l ≡ simplify_l m) × (simplify_l l ≡ simplify_l m → Exactly w (covers m) l)
  covers-same = (there, λ e a n. sym (covers-simplify w l a h n) ∙ ap (λ z. covers z a) e ∙ covers-simplify w m a k n)
    where
      there : Exactly w (covers m) l → simplify_l l ≡ simplify_l m
      there e =
          simplified_one w (simplify_l l) (simplify_l m) (is_list-simplify w l h) (is_list-simplify w m k) (simplified-simplify l) (simplified-simplify m)
          (λ a n. covers-simplify w l a h n ∙ e a n ∙ sym (covers-simplify w m a k n))
