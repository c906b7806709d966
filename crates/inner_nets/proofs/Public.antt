-- What each changing call leaves of a public list. Adding keeps it public exactly if the network is; removing, simplifying and the differences keep it
-- public; a union is public exactly if both lists are. Nothing is asked of lists or lengths. Assumes nothing.
use mathlib.Core.Bool.{Bool, true, false, not, ◌&&◌, ◌||◌}
use mathlib.Core.List.{List, [], ◌∷◌, ◌++◌}
use mathlib.Core.Logic.{inl, inr}
use mathlib.Core.Path.{◌≡◌, refl, ap, sym, ◌∙◌}
use Prim.Native.Nat.{ℕ}
use Rattle.nets.specs.Bits.{Bits, equal}
use Rattle.nets.specs.Lists.{member, covers, keep, add_l, remove_l, simplify_l, merge_l, intersect_l, exclude_l, difference_l}
use Rattle.nets.proofs.Strings.{and_left, and_right, or_cases}
use Rattle.nets.proofs.Members.{any_of-append, member-keep}
use Rattle.inner_nets.specs.Inner.{overlaps, inner, is_public}
use Rattle.inner_nets.proofs.Overlaps.{Under, member-covers, under-remove, overlaps-under, overlaps-same, overlaps-nil, overlaps-append, overlaps-add}
use Rattle.inner_nets.proofs.Parts.{overlaps_one-simplify}

not-or : (a b : Bool) → not (a || b) ≡ (not a && not b)
not-or true b = refl
not-or false b = refl

module _ (f : ℕ) where
  pub is_public-nil : is_public f [] ≡ true
  unfolding is_public
  is_public-nil = rw (overlaps-nil (inner f))

  pub is_public-append : (l m : List Bits) → is_public f (l ++ m) ≡ (is_public f l && is_public f m)
  unfolding is_public
  is_public-append l m = rw (overlaps-append l m (inner f)) (not-or (overlaps l (inner f)) (overlaps m (inner f)))

  pub is_public-cons : (p : Bits) (l : List Bits) → is_public f (p ∷ l) ≡ (is_public f (p ∷ []) && is_public f l)
  is_public-cons p l = is_public-append (p ∷ []) l

  -- what lies inside a public list is public
  pub is_public-under : (l m : List Bits) → Under l m → is_public f m ≡ true → is_public f l ≡ true
  unfolding is_public
  is_public-under l m u h = go (overlaps l (inner f)) (overlaps m (inner f)) (overlaps-under l m (inner f) u) h
    where
      go : (a b : Bool) → (a ≡ true → b ≡ true) → not b ≡ true → not a ≡ true
      go false b g h = refl
      go true true g h = h
      go true false g h = g refl

  pub is_public-add : (l : List Bits) (n : Bits) → is_public f l ≡ true → is_public f (add_l l n) ≡ is_public f (n ∷ [])
  unfolding is_public
  is_public-add l n h = rw (overlaps-add l n (inner f)) (not-or (overlaps (n ∷ []) (inner f)) (overlaps l (inner f)) ∙ rw h (go (not (overlaps (n ∷ []) (inner f)))))
    where
      go : (a : Bool) → (a && true) ≡ a
      go true = refl
      go false = refl

  pub is_public-remove : (l : List Bits) (n : Bits) → is_public f l ≡ true → is_public f (remove_l l n) ≡ true
  is_public-remove l n h = is_public-under (remove_l l n) l (under-remove l n) h

  pub is_public-simplify : (l : List Bits) → is_public f (simplify_l l) ≡ is_public f l
  unfolding is_public
  is_public-simplify l = ap not (overlaps-same (simplify_l l) l (inner f) (overlaps_one-simplify l))

  pub is_public-merge : (l m : List Bits) → is_public f (merge_l l m) ≡ (is_public f l && is_public f m)
  unfolding merge_l
  is_public-merge l m = is_public-simplify (l ++ m) ∙ is_public-append l m

  pub is_public-exclude : (l m : List Bits) → is_public f l ≡ true → is_public f (exclude_l l m) ≡ true
  unfolding exclude_l
  is_public-exclude l [] h = h
  is_public-exclude l (n ∷ m) h = is_public-exclude (remove_l l n) m (is_public-remove l n h)

  pub is_public-difference : (l m : List Bits) → is_public f l ≡ true → is_public f (difference_l l m) ≡ true
  unfolding difference_l
  is_public-difference l m h = is_public-simplify (exclude_l l m) ∙ is_public-exclude l m h

-- Intersecting keeps members that lie inside both lists.
kept : (l m : List Bits) (p : Bits) → member p (keep (covers m) l) ≡ true → (covers l p ≡ true) × (covers m p ≡ true)
kept l m p h =
    let e = sym (member-keep (covers m) p l) ∙ h in
    (member-covers l p (and_left (member p l) (covers m p) e), and_right (member p l) (covers m p) e)

under-both : (l m : List Bits) (p : Bits) → member p (keep (covers m) l ++ keep (covers l) m) ≡ true → (covers l p ≡ true) × (covers m p ≡ true)
under-both l m p h =
    elim (or_cases (member p (keep (covers m) l)) (member p (keep (covers l) m)) (sym (any_of-append (equal p) (keep (covers m) l) (keep (covers l) m)) ∙ h)) [
      | inl x ↦ kept l m p x
      | inr x ↦ let (c, d) = kept m l p x in (d, c)
    ]

module _ (f : ℕ) (l m : List Bits) where
  pub is_public-intersect : is_public f l ≡ true → is_public f (intersect_l l m) ≡ true
  unfolding intersect_l
  is_public-intersect h = is_public-simplify f (keep (covers m) l ++ keep (covers l) m) ∙ is_public-under f (keep (covers m) l ++ keep (covers l) m) l (λ p k. (under-both l m p k).0) h

  pub is_public-intersect-other : is_public f m ≡ true → is_public f (intersect_l l m) ≡ true
  unfolding intersect_l
  is_public-intersect-other h = is_public-simplify f (keep (covers m) l ++ keep (covers l) m) ∙ is_public-under f (keep (covers m) l ++ keep (covers l) m) m (λ p k. (under-both l m p k).1) h
