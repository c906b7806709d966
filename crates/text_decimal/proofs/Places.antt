-- What stands at a place: a test of the first byte says that the place is within the bytes. Assumes nothing.
use mathlib.Core.Bool.{Bool, true, false, false≢true}
use mathlib.Core.List.{List, [], ◌∷◌}
use mathlib.Core.Path.{◌≡◌, refl, sym, ◌∙◌}
use Prim.Native.Nat.{ℕ, suc, ◌+◌, ◌≤◌, ◌<◌}
use native.Mathlib.Numerals.{add-one}
use lib.Dec.{eqb, ltb}
use lib.ListN.{length, drop, get_or, drop_of_length-le}
use lib.Seq.{drop-cons}
use borrow.Author.Tests.{ltb-true, ltb-false}
use Rattle.text_decimal.specs.Spans.{starts_of}
use Rattle.text_decimal.specs.Decimal.{is_digit}
use Rattle.text_decimal.specs.Places.{starts_digit, starts_byte, starts_zero}
use Rattle.text_decimal.proofs.Numbers.{is_digit-is}

-- A test that fails where there is no byte.
module _ (f : List ℕ → Bool) (none : f [] ≡ false) (s : List ℕ) (at : ℕ) where
  pub starts-past : length s ≤ at → f (drop at s) ≡ false
  starts-past h = rw (drop_of_length-le s h) none

  pub starts-within : f (drop at s) ≡ true → at < length s
  starts-within e = go (ltb at (length s)) refl
    where
      go : (b : Bool) → ltb at (length s) ≡ b → at < length s
      go true h = ltb-true at (length s) h
      go false h = absurd (false≢true (sym (starts-past (ltb-false at (length s) h)) ∙ e))

pub starts_of-at : (f : ℕ → Bool) (s : List ℕ) (at : ℕ) → starts_of f (drop at s) ≡ true → (at < length s) × (f (get_or s at 0) ≡ true)
unfolding starts_of
starts_of-at f s at e = let h = starts-within (starts_of f) refl s at e in (h, rw (drop-cons s at 0 h) at e)

-- What a place holds, by whether there is one.
module _ (s : List ℕ) (at : ℕ) where
  pub got-byte : {x : ℕ} → true ≡ ltb at (length s) → x ≡ get_or s at x → drop at s ≡ x ∷ drop (suc at) s
  got-byte {x = x} h e = let d = drop-cons s at x (ltb-true at (length s) (sym h)) in rw (← e) at d

  pub got-none : (f : List ℕ → Bool) → f [] ≡ false → false ≡ ltb at (length s) → false ≡ f (drop at s)
  got-none f none h = sym (starts-past f none s at (ltb-false at (length s) (sym h)))

pub record Digit (s : List ℕ) (at : ℕ) : Type 0 where
  pub within : at < length s
  pub test : is_digit (get_or s at 0) ≡ true
  pub least : 48 ≤ get_or s at 0
  pub most : get_or s at 0 ≤ 57

pub starts_digit-is : (s : List ℕ) (at : ℕ) → starts_digit (drop at s) ≡ true → Digit s at
starts_digit-is s at e =
    let h = starts_of-at is_digit s at e in
    let b = is_digit-is (get_or s at 0) h.1 in
    record { within = h.0; test = h.1; least = b.0; most = b.1 }

-- A 0 with a digit behind it.
pub starts_zero-other : (s : List ℕ) → starts_byte 48 s ≡ false → starts_zero s ≡ false
unfolding starts_byte starts_zero
starts_zero-other [] e = refl
starts_zero-other (c ∷ s) e = rw e

pub starts_zero-behind : (s : List ℕ) (at : ℕ) → starts_byte 48 (drop at s) ≡ true → starts_digit (drop (at + 1) s) ≡ starts_zero (drop at s)
unfolding starts_byte starts_zero
starts_zero-behind s at e =
    let d = drop-cons s at 0 (starts-within (starts_byte 48) refl s at e) in
    let k : eqb (get_or s at 0) 48 ≡ true = rw d at e in
    rw (add-one at, d, k)
