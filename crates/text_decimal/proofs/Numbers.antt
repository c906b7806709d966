-- Reading a decimal number: bytes are their leading digits and what follows, and a number is read exactly where those digits are one. Assumes nothing.
use mathlib.Core.Bool.{Bool, true, false, not, cond, ◌&&◌, true≢false}
use mathlib.Core.List.{List, [], ◌∷◌, ◌++◌}
use mathlib.Core.Path.{◌≡◌, refl, ap, sym, ◌∙◌}
use Prim.Native.Nat.{ℕ, ◌-◌, ◌+◌, ◌*◌, ◌≤◌}
use native.Mathlib.Omega.{arith}
use lib.Dec.{eqb, leb}
use lib.ListN.{length}
use borrow.Author.Tests.{eqb-true, leb-true, le-leb}
use Rattle.nets.proofs.Strings.{and_left, and_right}
use Rattle.text_decimal.specs.Spans.{starts_of, leading_of}
use Rattle.text_decimal.specs.Decimal.{is_digit, all_digits, decimal, decimal_from, plain, is_number, leading, behind, parsed, nothing, read_number}
use Rattle.text_decimal.specs.Places.{starts_digit, starts_zero}
use Rattle.text_decimal.proofs.Spans.{leading-behind, leading-append, behind-append}

pub is_digit-is : (c : ℕ) → is_digit c ≡ true → (48 ≤ c) × (c ≤ 57)
unfolding is_digit
is_digit-is c e = (leb-true 48 c (and_left (leb 48 c) (leb c 57) e), leb-true c 57 (and_right (leb 48 c) (leb c 57) e))

pub is-is_digit : (c : ℕ) → 48 ≤ c → c ≤ 57 → is_digit c ≡ true
unfolding is_digit
is-is_digit c h g = rw (le-leb 48 c h, le-leb c 57 g)

pub decimal_from-least : (v : ℕ) (s : List ℕ) → v ≤ decimal_from v s
unfolding decimal_from
decimal_from-least v [] = omega arith
decimal_from-least v (c ∷ s) = let h = decimal_from-least (v * 10 + (c - 48)) s in omega arith

-- leading digits have no leading zero exactly where no digit stands behind a first 0
digit-not-zero : (c : ℕ) → is_digit c ≡ false → eqb c 48 ≡ false
unfolding is_digit
digit-not-zero c e = go (eqb c 48) refl
  where
    go : (b : Bool) → eqb c 48 ≡ b → eqb c 48 ≡ false
    go false h = h
    go true h = absurd (true≢false (sym (ap is_digit (eqb-true c 48 h)) ∙ e))

pub plain-leading : (s : List ℕ) → plain (leading s) ≡ not (starts_zero s)
unfolding plain leading_of starts_zero starts_of
plain-leading [] = refl
plain-leading (c ∷ []) = go (is_digit c) (eqb c 48)
  where
    go : (a z : Bool) → plain (cond a (c ∷ []) []) ≡ not (z && false)
    go true true = refl
    go true false = refl
    go false true = refl
    go false false = refl
plain-leading (c ∷ d ∷ s) = go (is_digit c) (is_digit d) (eqb c 48) refl refl
  where
    go : (a b z : Bool) → is_digit c ≡ a → eqb c 48 ≡ z → plain (cond a (c ∷ cond b (d ∷ leading s) []) []) ≡ not (z && b)
    go true true z e h = rw h (go-and z)
      where
        go-and : (z : Bool) → not z ≡ not (z && true)
        go-and true = refl
        go-and false = refl
    go true false true e h = refl
    go true false false e h = refl
    go false b z e h = rw (sym h ∙ digit-not-zero c e)

-- The rule for a number, part by part.
pub record Number (m : ℕ) (s : List ℕ) : Type 0 where
  pub digits : all_digits s ≡ true
  pub some : 1 ≤ length s
  pub plain : plain s ≡ true
  pub most : decimal s ≤ m

pub is_number-is : (m : ℕ) (s : List ℕ) → is_number m s ≡ true → Number m s
unfolding is_number
is_number-is m s e =
    let h = and_right (all_digits s) (leb 1 (length s) && (plain s && leb (decimal s) m)) e in
    let g = and_right (leb 1 (length s)) (plain s && leb (decimal s) m) h in
    record {
      digits = and_left (all_digits s) (leb 1 (length s) && (plain s && leb (decimal s) m)) e;
      some = leb-true 1 (length s) (and_left (leb 1 (length s)) (plain s && leb (decimal s) m) h);
      plain = and_left (plain s) (leb (decimal s) m) g;
      most = leb-true (decimal s) m (and_right (plain s) (leb (decimal s) m) g);
    }

pub is-is_number : (m : ℕ) (s : List ℕ) → Number m s → is_number m s ≡ true
unfolding is_number
is-is_number m s h = rw (h.digits, le-leb 1 (length s) h.some, h.plain, le-leb (decimal s) m h.most)

-- A number is read with any bytes behind it that do not go on with a digit; and what is read is one.
pub read_number-append : (m : ℕ) (s t : List ℕ) → is_number m s ≡ true → starts_digit t ≡ false → read_number m (s ++ t) ≡ parsed (decimal s) t
unfolding read_number
read_number-append m s t h e = let d = (is_number-is m s h).digits in rw (leading-append is_digit s t d e, behind-append is_digit s t d e, h)

pub record ReadNumber (m : ℕ) (s : List ℕ) (v : ℕ) (t : List ℕ) : Type 0 where
  pub digits : List ℕ
  pub rule : is_number m digits ≡ true
  pub value : v ≡ decimal digits
  pub bytes : s ≡ digits ++ t

pub read_number-is : (m : ℕ) (s : List ℕ) (v : ℕ) (t : List ℕ) → read_number m s ≡ parsed v t → ReadNumber m s v t
unfolding read_number
read_number-is m s v t e = go (is_number m (leading s)) refl e
  where
    go : (b : Bool) → is_number m (leading s) ≡ b → cond b (parsed (decimal (leading s)) (behind s)) nothing ≡ parsed v t → ReadNumber m s v t
    go true h e = record { digits = leading s; rule = h; value = cc; bytes = sym (leading-behind is_digit s) ∙ ap (λ u. leading s ++ u) (cc) }
    go false h e = let z : ◌≡◌ {A = ℕ} 0 1 = cc in absurd (omega arith)

pub read_number-most : (m : ℕ) (s : List ℕ) (v : ℕ) (t : List ℕ) → parsed v t ≡ read_number m s → v ≤ m
read_number-most m s v t e = let r = read_number-is m s v t (sym e) in rw r.value (is_number-is m r.digits r.rule).most
