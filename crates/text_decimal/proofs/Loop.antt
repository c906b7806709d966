-- The loop that reads a number: what is still to be read, behind the digits that were, completes the number. Assumes nothing.
use mathlib.Core.Bool.{Bool, true, false, cond, ◌&&◌}
use mathlib.Core.List.{List, ◌∷◌}
use mathlib.Core.Path.{◌≡◌, refl, sym, ◌∙◌}
use Prim.Native.Nat.{ℕ, suc, ◌+◌, ◌-◌, ◌*◌, ◌≤◌, ◌<◌}
use native.Mathlib.Nat.{zero-add}
use native.Mathlib.Numerals.{add-one}
use native.Mathlib.Omega.{arith}
use lib.Dec.{leb}
use lib.ListN.{length, drop, get_or}
use lib.Seq.{drop-cons}
use borrow.Author.Tests.{le-leb, lt-leb}
use Rattle.text_decimal.specs.Spans.{leading_of, behind_of}
use Rattle.text_decimal.specs.Decimal.{is_digit, all_digits, decimal, decimal_from, plain, is_number, leading, behind, Parsed, parsed, nothing, read_number}
use Rattle.text_decimal.specs.Places.{starts_digit, starts_zero}
use Rattle.text_decimal.proofs.Spans.{all-leading, leading-none, behind-none}
use Rattle.text_decimal.proofs.Numbers.{decimal_from-least, plain-leading}
use Rattle.text_decimal.proofs.Places.{Digit}

-- what is read where n digits that write v stand before s
pub read_on : ℕ → ℕ → ℕ → List ℕ → Parsed
read_on m n v s = cond (leb 1 (n + length (leading s)) && leb (decimal_from v (leading s)) m) (parsed (decimal_from v (leading s)) (behind s)) nothing

read_on-start : (m : ℕ) (s : List ℕ) → starts_zero s ≡ false → read_on m 0 0 s ≡ read_number m s
unfolding read_on read_number is_number
read_on-start m s e = rw (zero-add (length (leading s)), all-leading is_digit s, plain-leading s, e)

read_on-digit : (m n v c : ℕ) (s : List ℕ) → is_digit c ≡ true → read_on m n v (c ∷ s) ≡ read_on m (n + 1) (v * 10 + (c - 48)) s
unfolding read_on leading_of behind_of decimal_from
read_on-digit m n v c s e = let h : n + suc (length (leading s)) ≡ n + 1 + length (leading s) = omega arith in rw (e, h)

-- it ends in nothing where the number is too large
read_on-over : (m n v : ℕ) (s : List ℕ) → m < v → read_on m n v s ≡ nothing
unfolding read_on
read_on-over m n v s h = go (leb 1 (n + length (leading s)))
  where
    go : (a : Bool) → cond (a && leb (decimal_from v (leading s)) m) (parsed (decimal_from v (leading s)) (behind s)) nothing ≡ nothing
    go true = rw (lt-leb (decimal_from v (leading s)) m (omega (arith, decimal_from-least v (leading s))))
    go false = refl

-- and where no digit follows, with the number, if there was one
read_on-none : (m v : ℕ) (s : List ℕ) → starts_digit s ≡ false → read_on m 0 v s ≡ nothing
unfolding read_on
read_on-none m v s e = rw (leading-none is_digit s e)

read_on-end : (m n v : ℕ) (s : List ℕ) → starts_digit s ≡ false → 1 ≤ n → v ≤ m → read_on m n v s ≡ parsed v s
unfolding read_on decimal_from
read_on-end m n v s e h f = let z : n + 0 ≡ n = omega arith in rw (leading-none is_digit s e, behind-none is_digit s e, z, le-leb 1 n h, le-leb v m f)

-- Before the loop: nothing is read where a 0 leads.
pub read_number-zero : (m : ℕ) (s : List ℕ) → starts_zero s ≡ true → nothing ≡ read_number m s
unfolding read_number is_number
read_number-zero m s e = go (all_digits (leading s)) (leb 1 (length (leading s)))
  where
    go : (a b : Bool) → nothing ≡ cond (a && (b && (plain (leading s) && leb (decimal (leading s)) m))) (parsed (decimal (leading s)) (behind s)) nothing
    go true true = rw (plain-leading s, e)
    go true false = refl
    go false b = refl

-- The state between two turns, and what each test makes of it.
pub record Reading (s : List ℕ) (m start at v : ℕ) : Type 0 where
  pub onward : start ≤ at
  pub most : v ≤ m
  pub left : read_on m (at - start) v (drop at s) ≡ read_number m (drop start s)

pub reading-start : (s : List ℕ) (m start : ℕ) → starts_zero (drop start s) ≡ false → Reading s m start start 0
reading-start s m start h =
    let e : start - start ≡ 0 = omega arith in
    record { onward = omega arith; most = omega arith; left = rw e (read_on-start m (drop start s) h) }

module _ {s : List ℕ} {m start at v : ℕ} (r : Reading s m start at v) where
  -- one more digit: the number is too large, or the loop goes on
  onward : Digit s at → read_on m (at + 1 - start) (v * 10 + (get_or s at 0 - 48)) (drop (at + 1) s) ≡ read_number m (drop start s)
  onward d =
      let e : at + 1 - start ≡ at - start + 1 = omega (arith, r.onward) in
      rw (e, add-one at, ← read_on-digit m (at - start) v (get_or s at 0) (drop (suc at) s) d.test, ← drop-cons s at 0 d.within) r.left

  pub reading-over : Digit s at → m < v * 10 + (get_or s at 0 - 48) → nothing ≡ read_number m (drop start s)
  reading-over d h = sym (read_on-over m (at + 1 - start) (v * 10 + (get_or s at 0 - 48)) (drop (at + 1) s) h) ∙ onward d

  pub reading-again : Digit s at → v * 10 + (get_or s at 0 - 48) ≤ m → Reading s m start (at + 1) (v * 10 + (get_or s at 0 - 48))
  reading-again d h = record { onward = omega (arith, r.onward); most = h; left = onward d }

  -- no digit more: there was none, or this is the number
  pub reading-none : starts_digit (drop at s) ≡ false → at ≡ start → nothing ≡ read_number m (drop start s)
  reading-none e h = let z : at - start ≡ 0 = omega arith in sym (read_on-none m v (drop at s) e) ∙ (rw z at r.left)

  pub reading-end : starts_digit (drop at s) ≡ false → (at ≡ start → ⊥) → parsed v (drop at s) ≡ read_number m (drop start s)
  reading-end e h = sym (read_on-end m (at - start) v (drop at s) e (omega (arith, r.onward)) r.most) ∙ r.left
