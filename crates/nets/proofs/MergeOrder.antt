-- Merging depends on the addresses alone. So two sets may be merged in either order and three in either grouping, and of any number of sets every order and
-- grouping, each set as often as one likes, gives one list. Assumes nothing.
use mathlib.Core.Bool.{Bool, true, false, ◌&&◌, ◌||◌, or_comm, or_assoc, or_self, or-true, false≢true}
use mathlib.Core.List.{List, [], ◌∷◌, ◌++◌}
use mathlib.Core.Logic.{◌⊎◌, inl, inr}
use mathlib.Core.Path.{◌≡◌, refl, ap, sym, ◌∙◌}
use Prim.Native.Nat.{ℕ}
use lib.Dec.{eqb}
use lib.ListN.{length}
use borrow.Author.Tests.{eqb-true}
use Rattle.nets.specs.Bits.{Bits}
use Rattle.nets.specs.Lists.{covers, within, is_list, merge_l, Simplified}
use Rattle.nets.specs.Groupings.{Grouping, set, both, ends, some_of, every_of, is_in, names, merged_l}
use Rattle.nets.proofs.Strings.{and_left, and_right, or_cases, bool_iff}
use Rattle.nets.proofs.TrieOf.{is_list-within}
use Rattle.nets.proofs.Simplifying.{simplified_one}
use Rattle.nets.proofs.Combining.{covers-merge, simplified-merge, is_list-merge}

-- Two lists, and three.
merge-is : (w : ℕ) (l m n : List Bits) → within w l ≡ true → within w m ≡ true → is_list w n ≡ true → Simplified n
    → ((a : Bits) → length a ≡ w → (covers l a || covers m a) ≡ covers n a) → merge_l l m ≡ n
merge-is w l m n h k i s e = simplified_one w (merge_l l m) n (is_list-merge w l m h k) i (simplified-merge l m) s (λ a x. covers-merge w l m a h k x ∙ e a x)

within-merge : (w : ℕ) (l m : List Bits) → within w l ≡ true → within w m ≡ true → within w (merge_l l m) ≡ true
within-merge w l m h k = is_list-within w (merge_l l m) (is_list-merge w l m h k)

pub merge-comm : (w : ℕ) (l m : List Bits) → within w l ≡ true → within w m ≡ true → merge_l l m ≡ merge_l m l
merge-comm w l m h k =
    merge-is w l m (merge_l m l) h k (is_list-merge w m l k h) (simplified-merge m l)
    (λ a x. or_comm (covers l a) (covers m a) ∙ sym (covers-merge w m l a k h x))

pub merge-assoc : (w : ℕ) (l m n : List Bits) → within w l ≡ true → within w m ≡ true → within w n ≡ true → merge_l (merge_l l m) n ≡ merge_l l (merge_l m n)
merge-assoc w l m n h k j =
    let x = within-merge w l m h k in
    let y = within-merge w m n k j in
    merge-is w (merge_l l m) n (merge_l l (merge_l m n)) x j (is_list-merge w l (merge_l m n) h y) (simplified-merge l (merge_l m n))
    (λ a e.
    rw (covers-merge w l m a h k e, covers-merge w l (merge_l m n) a h y e, covers-merge w m n a k j e) (or_assoc (covers l a) (covers m a) (covers n a)))

pub merge-idem : (w : ℕ) (l : List Bits) → is_list w l ≡ true → Simplified l → merge_l l l ≡ l
merge-idem w l i s = let h = is_list-within w l i in merge-is w l l l h h i s (λ a e. or_self (covers l a))

-- Any number of sets.
some_of-append : (f : ℕ → Bool) (js ks : List ℕ) → some_of f (js ++ ks) ≡ (some_of f js || some_of f ks)
some_of-append f [] ks = refl
some_of-append f (j ∷ js) ks = simp (some_of-append f js ks, or_assoc)

some_of-in : (f : ℕ → Bool) (k : ℕ) (ks : List ℕ) → is_in ks k ≡ true → f k ≡ true → some_of f ks ≡ true
some_of-in f k [] h e = absurd (false≢true h)
some_of-in f k (j ∷ ks) h e = go (or_cases (eqb k j) (is_in ks k) h) (λ i. some_of-in f k ks i e)
  where
    go : (eqb k j ≡ true) ⊎ (is_in ks k ≡ true) → (is_in ks k ≡ true → some_of f ks ≡ true) → (f j || some_of f ks) ≡ true
    go (inl i) ih = rw (← eqb-true k j i, e)
    go (inr i) ih = rw (ih i) (or-true (f j))

some_of-every : (f : ℕ → Bool) (js ks : List ℕ) → every_of (is_in ks) js ≡ true → some_of f js ≡ true → some_of f ks ≡ true
some_of-every f [] ks h e = absurd (false≢true e)
some_of-every f (j ∷ js) ks h e = go (or_cases (f j) (some_of f js) e) (some_of-every f js ks (and_right (is_in ks j) (every_of (is_in ks) js) h))
  where
    go : (f j ≡ true) ⊎ (some_of f js ≡ true) → (some_of f js ≡ true → some_of f ks ≡ true) → some_of f ks ≡ true
    go (inl i) ih = some_of-in f j ks (and_left (is_in ks j) (every_of (is_in ks) js) h) i
    go (inr i) ih = ih i

-- a grouping that names ks has at its ends what ks has
names-some : (g : Grouping) (ks : List ℕ) (f : ℕ → Bool) → names g ks ≡ true → some_of f (ends g) ≡ some_of f ks
names-some g ks f h =
    bool_iff (some_of f (ends g)) (some_of f ks)
    (some_of-every f (ends g) ks (and_right (every_of (is_in (ends g)) ks) (every_of (is_in ks) (ends g)) h))
    (some_of-every f ks (ends g) (and_left (every_of (is_in (ends g)) ks) (every_of (is_in ks) (ends g)) h))

module _ (w : ℕ) (f : ℕ → List Bits) (h : (k : ℕ) → within w (f k) ≡ true) where
  within-merged : (g : Grouping) → within w (merged_l f g) ≡ true
  within-merged (set k) = h k
  within-merged (both a b) = within-merge w (merged_l f a) (merged_l f b) (within-merged a) (within-merged b)

  -- it covers what the sets cover that it names
  covers-merged : (g : Grouping) (x : Bits) → length x ≡ w → covers (merged_l f g) x ≡ some_of (λ k. covers (f k) x) (ends g)
  covers-merged (set k) x n = or_comm false (covers (f k) x)
  covers-merged (both a b) x n =
      covers-merge w (merged_l f a) (merged_l f b) x (within-merged a) (within-merged b) n
      ∙ rw (covers-merged a x n, covers-merged b x n) (sym (some_of-append (λ k. covers (f k) x) (ends a) (ends b)))

  covers-named : (g : Grouping) (ks : List ℕ) (x : Bits) → names g ks ≡ true → length x ≡ w → covers (merged_l f g) x ≡ some_of (λ k. covers (f k) x) ks
  covers-named g ks x i n = covers-merged g x n ∙ names-some g ks (λ k. covers (f k) x) i

  -- "merging three sets gives one list in every order and grouping": so do two groupings that merge the same sets ks, three or any other number.
  pub merge-order : (a b c d : Grouping) (ks : List ℕ) → names (both a b) ks ≡ true → names (both c d) ks ≡ true
      → merged_l f (both a b) ≡ merged_l f (both c d)
  merge-order a b c d ks i j =
      let x = is_list-merge w (merged_l f a) (merged_l f b) (within-merged a) (within-merged b) in
      let y = is_list-merge w (merged_l f c) (merged_l f d) (within-merged c) (within-merged d) in
      simplified_one w _ _ x y (simplified-merge (merged_l f a) (merged_l f b)) (simplified-merge (merged_l f c) (merged_l f d))
      (λ q n. covers-named (both a b) ks q i n ∙ sym (covers-named (both c d) ks q j n))

-- It depends on the lists of the sets that it names.
pub merged_l-same : (f g : ℕ → List Bits) (a : Grouping) (ks : List ℕ) → names a ks ≡ true → ((k : ℕ) → is_in ks k ≡ true → f k ≡ g k)
    → merged_l f a ≡ merged_l g a
merged_l-same f g a ks h e = go a (and_right (every_of (is_in (ends a)) ks) (every_of (is_in ks) (ends a)) h)
  where
    every_of-append : (t : ℕ → Bool) (is js : List ℕ) → every_of t (is ++ js) ≡ true → (every_of t is ≡ true) × (every_of t js ≡ true)
    every_of-append t [] js k = (refl, k)
    every_of-append t (i ∷ is) js k =
        let (x, y) = every_of-append t is js (and_right (t i) (every_of t (is ++ js)) k) in
        (rw (and_left (t i) (every_of t (is ++ js)) k) x, y)

    go : (a : Grouping) → every_of (is_in ks) (ends a) ≡ true → merged_l f a ≡ merged_l g a
    go (set k) i = e k (and_left (is_in ks k) true i)
    go (both a b) i = let (x, y) = every_of-append (is_in ks) (ends a) (ends b) i in rw (go a x, go b y)
