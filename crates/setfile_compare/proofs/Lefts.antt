-- What is left of two files where the addresses that both hold have been taken away from both, from the smallest on. Where only one of them holds the next
-- address, that is the smallest on which they differ; where nothing is left they do not differ. Assumes nothing.
use mathlib.Core.Bool.{Bool, true, false, cond, ◌||◌, false≢true}
use mathlib.Core.List.{List, [], ◌∷◌}
use mathlib.Core.Logic.{◌⊎◌, inl, inr}
use mathlib.Core.Path.{◌≡◌, refl, ap, sym, ◌∙◌}
use Prim.Native.Nat.{ℕ, suc, ◌≤◌, ◌<◌}
use native.Mathlib.Omega.{arith}
use lib.Dec.{ltb}
use lib.ListN.{length}
use borrow.Author.Tests.{ltb-true, ltb-false}
use Rattle.nets.specs.Bits.{Bits}
use Rattle.nets.proofs.Strings.{bool_iff}
use Rattle.setfile_sides.specs.Sides.{last_of, begins, Reaches, passed, from_behind}
use Rattle.setfile_compare.specs.Abreast.{Ahead}
use Rattle.setfile_sides.proofs.Ranges.{between, between_is, is-between, between-not, first-last, Spread, holds, holds-below}

-- what the networks hold, of the first of them from x on
abbrev pub left : ℕ → ℕ → List Bits → ℕ → Bool
left w x [] n = false
left w x (p ∷ ms) n = between x (last_of w p) n || holds w ms n

abbrev pub From : ℕ → ℕ → List Bits → Type 0
From w x [] = Unit {0}
From w x (p ∷ ms) = (x ≤ last_of w p) × Spread w (suc (last_of w p)) ms

from-begins : (w x : ℕ) (ms : List Bits) → Spread w x ms → From w (begins w ms) ms
from-begins w x [] s = tt
from-begins w x (p ∷ ms) s = (first-last w p, s.1)

left-begins : (w : ℕ) (ms : List Bits) (n : ℕ) → left w (begins w ms) ms n ≡ holds w ms n
left-begins w [] n = refl
left-begins w (p ∷ ms) n = refl

left_below : (w x : ℕ) (ms : List Bits) (n : ℕ) → From w x ms → n < x → left w x ms n ≡ false
left_below w x [] n i h = refl
left_below w x (p ∷ ms) n (i, s) h = rw (between-not x (last_of w p) n (λ j. omega (arith, j)), holds-below w (suc (last_of w p)) ms n s (omega arith))

-- The addresses from x to e, which the first of the networks reaches, taken away.
module _ (w x e : ℕ) (p : Bits) (ms : List Bits) (i : From w x (p ∷ ms)) (h : x ≤ e) (k : e ≤ last_of w p) where
  passed-from : From w (from_behind w e (p ∷ ms)) (passed w e (p ∷ ms))
  passed-from = go (ltb e (last_of w p)) refl
    where
      go : (b : Bool) → ltb e (last_of w p) ≡ b → From w (cond b (suc e) (begins w ms)) (cond b (p ∷ ms) ms)
      go true f = (ltb-true e (last_of w p) f, i.1)
      go false f = from-begins w (suc (last_of w p)) ms i.1

  pub passed_later : (q : Bits) (ns : List Bits) → passed w e (p ∷ ms) ≡ q ∷ ns → x < from_behind w e (p ∷ ms)
  passed_later q ns = go (ltb e (last_of w p))
    where
      next : (ms : List Bits) → Spread w (suc (last_of w p)) ms → ms ≡ q ∷ ns → x < begins w ms
      next [] s f = absurd (omega (arith, ap length f))
      next (m ∷ ms) s f = omega (arith, s.0)

      go : (b : Bool) → cond b (p ∷ ms) ms ≡ q ∷ ns → x < cond b (suc e) (begins w ms)
      go true f = omega arith
      go false f = next ms i.1 f

  module _ (n : ℕ) where
    taken : between x e n ≡ true → left w x (p ∷ ms) n ≡ true
    taken j = let (a, b) = is-between x e n j in rw (between_is x (last_of w p) n a (omega arith))

    not_left : between x e n ≡ true → left w (from_behind w e (p ∷ ms)) (passed w e (p ∷ ms)) n ≡ false
    not_left j = go (ltb e (last_of w p)) refl
      where
        go : (b : Bool) → ltb e (last_of w p) ≡ b → left w (cond b (suc e) (begins w ms)) (cond b (p ∷ ms) ms) n ≡ false
        go true f = left_below w (suc e) (p ∷ ms) n (ltb-true e (last_of w p) f, i.1) (omega (arith, is-between x e n j))
        go false f = left-begins w ms n ∙ holds-below w (suc (last_of w p)) ms n i.1 (omega (arith, is-between x e n j))

    still-left : between x e n ≡ false → left w (from_behind w e (p ∷ ms)) (passed w e (p ∷ ms)) n ≡ left w x (p ∷ ms) n
    still-left j = go (ltb e (last_of w p)) refl
      where
        out : x ≤ n → n ≤ e → ⊥
        out a b = false≢true (sym j ∙ between_is x e n a b)

        later : between (suc e) (last_of w p) n ≡ between x (last_of w p) n
        later =
            bool_iff (between (suc e) (last_of w p) n) (between x (last_of w p) n)
            (λ f. let (a, b) = is-between (suc e) (last_of w p) n f in between_is x (last_of w p) n (omega arith) b)
            (λ f. let (a, b) = is-between x (last_of w p) n f in between_is (suc e) (last_of w p) n (omega (arith, out a)) b)

        go : (b : Bool) → ltb e (last_of w p) ≡ b → left w (cond b (suc e) (begins w ms)) (cond b (p ∷ ms) ms) n ≡ left w x (p ∷ ms) n
        go true f = rw later
        go false f = left-begins w ms n ∙ rw (between-not x (last_of w p) n (λ (a, b). out a (omega (arith, ltb-false e (last_of w p) f))))

-- Of each address: both files hold it, and it is taken away from both; or what is left of each holds it exactly if the file does.
abbrev Told : Bool → Bool → Bool → Bool → Type 0
Told a b c d = ((a ≡ true) × (b ≡ true) × (c ≡ false) × (d ≡ false)) ⊎ ((c ≡ a) × (d ≡ b))

pub record Abreast (w : ℕ) (l m : List Bits) (x : ℕ) (ms : List Bits) (y : ℕ) (ns : List Bits) : Type 0 where
  pub first : From w x ms
  pub second : From w y ns
  pub told : (n : ℕ) → Told (holds w l n) (holds w m n) (left w x ms n) (left w y ns n)

pub abreast-begin : (w : ℕ) (l m : List Bits) → Spread w 0 l → Spread w 0 m → Abreast w l m (begins w l) l (begins w m) m
abreast-begin w l m s v = record {
  first = from-begins w 0 l s;
  second = from-begins w 0 m v;
  told = λ n. inr (left-begins w l n, left-begins w m n);
}

pub abreast-swap : {w : ℕ} {l m : List Bits} {x : ℕ} {ms : List Bits} {y : ℕ} {ns : List Bits} → Abreast w l m x ms y ns → Abreast w m l y ns x ms
abreast-swap s = record { first = s.second; second = s.first; told = λ n. elim (s.told n) [ inl (a, b, c, d) ↦ inl (b, a, d, c) | inr (c, d) ↦ inr (d, c) ] }

pub abreast-step : {w : ℕ} {l m : List Bits} {x : ℕ} {ms : List Bits} {y : ℕ} {ns : List Bits} (e : ℕ) → Abreast w l m x ms y ns → x ≡ y → x ≤ e
    → Reaches w e ms → Reaches w e ns
    → Abreast w l m (from_behind w e ms) (passed w e ms) (from_behind w e ns) (passed w e ns)
abreast-step {ms = []} e s q h i j = absurd i
abreast-step {ms = p ∷ ms} {ns = []} e s q h i j = absurd j
abreast-step {w} {l} {m} {x} {ms = p ∷ ms} {y} {ns = r ∷ ns} e s q h i j = record {
  first = passed-from w x e p ms s.first h i;
  second = passed-from w y e r ns s.second k j;
  told = λ n. go n (between x e n) refl;
}
  where
    k : y ≤ e
    k = omega arith

    go : (n : ℕ) (b : Bool) → between x e n ≡ b
        → Told (holds w l n) (holds w m n) (left w (from_behind w e (p ∷ ms)) (passed w e (p ∷ ms)) n) (left w (from_behind w e (r ∷ ns)) (passed w e (r ∷ ns)) n)
    go n true f =
        let g : between y e n ≡ true = rw q at f in
        let a = taken w x e p ms s.first h i n f in
        let b = taken w y e r ns s.second k j n g in
        elim (s.told n) [
          | inl (t, u, c, d) ↦ absurd (false≢true (sym c ∙ a))
          | inr (c, d) ↦ inl (sym c ∙ a, sym d ∙ b, not_left w x e p ms s.first h i n f, not_left w y e r ns s.second k j n g)
        ]
    go n false f =
        let a = still-left w x e p ms s.first h i n f in
        let b = still-left w y e r ns s.second k j n (rw q at f) in
        elim (s.told n) [ inl (t, u, c, d) ↦ inl (t, u, a ∙ c, b ∙ d) | inr (c, d) ↦ inr (a ∙ c, b ∙ d) ]

-- The end: they hold the same.
pub abreast-over : {w : ℕ} {l m : List Bits} {x : ℕ} {ms : List Bits} {y : ℕ} {ns : List Bits} → Abreast w l m x ms y ns → ms ≡ [] → ns ≡ [] → (n : ℕ)
    → holds w l n ≡ holds w m n
abreast-over {x = x} {ms = []} {y = y} {ns = []} s e f n = elim (s.told n) [ inl (a, b, c, d) ↦ a ∙ sym b | inr (c, d) ↦ sym c ∙ d ]
abreast-over {ms = []} {ns = q ∷ ns} s e f n = absurd (omega (arith, ap length f))
abreast-over {ms = p ∷ ms} s e f n = absurd (omega (arith, ap length e))

-- Only the first file holds the next address, x: below it they hold the same.
module _ {w : ℕ} {l m : List Bits} {x : ℕ} {ms : List Bits} {y : ℕ} {ns : List Bits} (s : Abreast w l m x ms y ns) (h : Ahead x ms y ns) where
  here : (left w x ms x ≡ true) × (left w y ns x ≡ false)
  here = go ms ns s.first s.second h
    where
      go : (ms ns : List Bits) → From w x ms → From w y ns → Ahead x ms y ns → (left w x ms x ≡ true) × (left w y ns x ≡ false)
      go [] ns i j k = absurd k
      go (p ∷ ms) [] i j k = (rw (between_is x (last_of w p) x (omega arith) i.0), refl)
      go (p ∷ ms) (q ∷ ns) i j k = (rw (between_is x (last_of w p) x (omega arith) i.0), left_below w y (q ∷ ns) x j k)

  pub ahead-holds : (holds w l x ≡ true) × (holds w m x ≡ false)
  ahead-holds = elim (s.told x) [ inl (a, b, c, d) ↦ absurd (false≢true (sym c ∙ here.0)) | inr (c, d) ↦ (sym c ∙ here.0, sym d ∙ here.1) ]

  pub ahead-below : (n : ℕ) → n < x → holds w l n ≡ holds w m n
  ahead-below n k =
      elim (s.told n) [
        | inl (a, b, c, d) ↦ a ∙ sym b
        | inr (c, d) ↦ sym c ∙ left_below w x ms n s.first k ∙ sym (below ns s.second h) ∙ d
      ]
    where
      below : (ns : List Bits) → From w y ns → Ahead x ms y ns → left w y ns n ≡ false
      below [] j a = refl
      below (q ∷ ns) j a = left_below w y (q ∷ ns) n j (later ms a)
        where
          later : (ms : List Bits) → Ahead x ms y (q ∷ ns) → n < y
          later [] a = absurd a
          later (p ∷ ms) a = omega arith
