-- The shortest list is one: of the lists that a set can hold only the simplified one is as short as any. Where both halves of a block are listed, the block in
-- their place covers the same addresses, and is one network less. Assumes nothing.
use mathlib.Core.Bool.{Bool, true, false, not, ◌&&◌, ◌||◌, or-true, false≢true, beq as same}
use mathlib.Core.List.{List, [], ◌∷◌, ◌++◌}
use mathlib.Core.Logic.{◌⊎◌, inl, inr}
use mathlib.Core.Path.{◌≡◌, refl, ap, sym, ◌∙◌}
use Prim.Native.Nat.{ℕ, suc, ◌≤◌, ◌<◌}
use native.Mathlib.Omega.{arith}
use lib.Dec.{leb}
use lib.ListN.{length, length-append}
use borrow.Author.Tests.{leb-true}
use Rattle.nets.specs.Bits.{Bits, leads, equal}
use Rattle.nets.specs.Lists.{member, covers, within, is_list, keep, simplify_l, Simplified}
use Rattle.nets.specs.Shortest.{Exactly, Shortest}
use Rattle.nets.proofs.Strings.{and_left, and_right, and_both, or_cases, bool_iff, same_refl, equal_is}
use Rattle.nets.proofs.Strings.{leads-tail, leads-cons, leads-append, leads-trans}
use Rattle.nets.proofs.Members.{any_of-in, any_of-out, member-keep, keep-fewer}
use Rattle.nets.proofs.TrieOf.{is_list-within}
use Rattle.nets.proofs.Simplifying.{covers-simplify, simplified-simplify, is_list-simplify, simplified_one}
use Rattle.nets.proofs.Fewest.{shortest-simplify}

half-leads : (p a : Bits) → leads p a ≡ true → length p < length a → (b : Bool) × (leads (p ++ (b ∷ [])) a ≡ true)
half-leads [] [] e n = absurd (omega arith)
half-leads [] (c ∷ a) e n = (c, leads-cons c [] a refl)
half-leads (b ∷ p) [] e n = absurd (omega arith)
half-leads (b ∷ p) (c ∷ a) e n =
    let (d, h) = half-leads p a (leads-tail b c p a e) (omega arith) in
    (d, and_both (same b c) (leads (p ++ (d ∷ [])) a) (and_left (same b c) (leads p a) e) h)

halves-apart : (p : Bits) → equal (p ++ (false ∷ [])) (p ++ (true ∷ [])) ≡ false
halves-apart [] = refl
halves-apart (b ∷ p) = simp (same_refl, halves-apart p)

-- a member of a list within the width is within it
pub within-member : (w : ℕ) (l : List Bits) (q : Bits) → within w l ≡ true → member q l ≡ true → length q ≤ w
within-member w [] q h e = absurd (false≢true e)
within-member w (p ∷ l) q h e = go (or_cases (equal q p) (member q l) e) (within-member w l q (and_right (leb (length p) w) (within w l) h))
  where
    go : (equal q p ≡ true) ⊎ (member q l ≡ true) → (member q l ≡ true → length q ≤ w) → length q ≤ w
    go (inl i) ih = omega (arith, ap length (equal_is q p i), leb-true (length p) w (and_left (leb (length p) w) (within w l) h))
    go (inr i) ih = ih i

-- what is listed beside the halves of p, and lies not inside it
abbrev but : (Bits → Bool) → List Bits → List Bits
but f l = keep (λ q. not (f q)) l

others : Bits → List Bits → List Bits
others p l = but (leads p) (but (equal (p ++ (false ∷ []))) l)

member-others : (p : Bits) (l : List Bits) (q : Bits) → member q (others p l) ≡ (member q l && not (equal (p ++ (false ∷ [])) q) && not (leads p q))
unfolding others
member-others p l q =
    let x = p ++ (false ∷ []) in
    member-keep (λ q. not (leads p q)) q (but (equal x) l) ∙ rw (member-keep (λ q. not (equal x q)) q l)

module _ (w : ℕ) (l : List Bits) (h : within w l ≡ true) (p : Bits) (i : (b : Bool) → member (p ++ (b ∷ [])) l ≡ true) where
  others-fewer : suc (length (others p l)) < length l
  unfolding others
  others-fewer =
      let x = p ++ (false ∷ []) in
      let y = p ++ (true ∷ []) in
      let k = member-keep (λ q. not (equal x q)) y l ∙ and_both (member y l) (not (equal x y)) (i true) (rw (halves-apart p)) in
      let g = any_of-in (leads p) y (but (equal x) l) k (leads-append p (true ∷ [])) in
      omega (arith, keep-fewer (equal x) l (i false), keep-fewer (leads p) (but (equal x) l) g)

  covers-joined : Exactly w (covers l) (p ∷ others p l)
  covers-joined a n =
      bool_iff (leads p a || covers (others p l) a) (covers l a) out
      (λ e. let (q, j, g) = any_of-out (λ m. leads m a) l e in back q j g (leads p q) refl)
    where
      out : (leads p a || covers (others p l) a) ≡ true → covers l a ≡ true
      out e =
          elim (or_cases (leads p a) (covers (others p l) a) e) [
            | inl f ↦
                let k : length (p ++ (false ∷ [])) ≤ w = within-member w l (p ++ (false ∷ [])) h (i false) in
                let (b, g) = half-leads p a f (omega (arith, simp length-append at k)) in
                any_of-in (λ m. leads m a) (p ++ (b ∷ [])) l (i b) g
            | inr f ↦
                let (q, j, g) = any_of-out (λ m. leads m a) (others p l) f in
                let x = and_left (member q l && not (equal (p ++ (false ∷ [])) q)) (not (leads p q)) (sym (member-others p l q) ∙ j) in
                any_of-in (λ m. leads m a) q l (and_left (member q l) (not (equal (p ++ (false ∷ [])) q)) x) g
          ]

      unequal : (q : Bits) → leads p q ≡ false → (x : Bool) → equal (p ++ (false ∷ [])) q ≡ x → not x ≡ true
      unequal q f true e = absurd (false≢true (sym f ∙ ap (leads p) (sym (equal_is (p ++ (false ∷ [])) q e)) ∙ leads-append p (false ∷ [])))
      unequal q f false e = refl

      back : (q : Bits) → member q l ≡ true → leads q a ≡ true → (x : Bool) → leads p q ≡ x → (leads p a || covers (others p l) a) ≡ true
      back q j g true f = rw (leads-trans p q a f g)
      back q j g false f =
          let y = unequal q f (equal (p ++ (false ∷ [])) q) refl in
          rw (any_of-in (λ m. leads m a) q (others p l) (member-others p l q ∙ rw (j, y, f)) g) (or-true (leads p a))

shortest-simplified : (w : ℕ) (f : Bits → Bool) (l : List Bits) → within w l ≡ true → Shortest w f l → Simplified l
shortest-simplified w f l h s p = go (member (p ++ (false ∷ [])) l) (member (p ++ (true ∷ [])) l) refl refl
  where
    go : (x y : Bool) → member (p ++ (false ∷ [])) l ≡ x → member (p ++ (true ∷ [])) l ≡ y → (x && y) ≡ false
    go false y d e = refl
    go true false d e = refl
    go true true d e =
        let i : (b : Bool) → member (p ++ (b ∷ [])) l ≡ true = λ b. elim b as (λ k. member (p ++ (k ∷ [])) l ≡ true) [ false ↦ d | true ↦ e ] in
        absurd (omega (arith, others-fewer w l h p i, s.fewest (p ∷ others p l) (λ a n. covers-joined w l h p i a n ∙ s.exactly a n)))

-- a list of a set is the shortest of its addresses exactly if simplifying leaves it
pub shortest-is : (w : ℕ) (l : List Bits) → is_list w l ≡ true → (Shortest w (covers l) l → simplify_l l ≡ l) × (simplify_l l ≡ l → Shortest w (covers l) l)
shortest-is w l i =
    let h = is_list-within w l i in
    let one : Simplified l → simplify_l l ≡ l =
    λ s. simplified_one w (simplify_l l) l (is_list-simplify w l h) i (simplified-simplify l) s (λ a n. covers-simplify w l a h n) in
    (λ s. one (shortest-simplified w (covers l) l h s), λ e. rw e at (shortest-simplify w l h))
