-- The loop that reads a group: what is still to be read, behind the digits that were, completes the group. Assumes nothing.
use mathlib.Core.Bool.{true, false, cond, ◌&&◌}
use mathlib.Core.List.{List, ◌∷◌}
use mathlib.Core.Path.{◌≡◌, sym, ◌∙◌}
use Prim.Native.Nat.{ℕ, suc, ◌+◌, ◌-◌, ◌*◌, ◌^◌, ◌≤◌, ◌<◌}
use native.Mathlib.Nat.{zero-add, pow-suc, pow-le-pow_right}
use native.Mathlib.Numerals.{add-one}
use native.Mathlib.Omega.{arith}
use lib.Dec.{leb}
use lib.ListN.{length, drop, get_or}
use lib.Seq.{drop-cons}
use borrow.Author.Tests.{le-leb, lt-leb}
use Rattle.text_decimal.specs.Spans.{starts_of, leading_of, behind_of}
use Rattle.text_decimal.specs.Decimal.{Parsed, parsed, nothing}
use Rattle.text_decimal.proofs.Spans.{all-leading, leading-none, behind-none}
use Rattle.text_decimal.proofs.Places.{starts_of-at}
use Rattle.text_hex.specs.Hex.{is_hex_digit, hex_value, hex_number_from}
use Rattle.text_hex.proofs.Digits.{hex_value-most}
use Rattle.text_ipv6_runs.specs.Runs.{is_group}
use Rattle.text_ipv6_runs.specs.Runs.{read_group}

-- what is read where n digits that write v stand before s
pub group_on : ℕ → ℕ → List ℕ → Parsed
group_on n v s =
    let d = leading_of is_hex_digit s in
    cond (leb 1 (n + length d) && leb (n + length d) 4) (parsed (hex_number_from v d) (behind_of is_hex_digit s)) nothing

group_on-start : (s : List ℕ) → group_on 0 0 s ≡ read_group s
unfolding group_on read_group is_group
group_on-start s = let d = leading_of is_hex_digit s in rw (zero-add (length d), all-leading is_hex_digit s)

group_on-digit : (n v c : ℕ) (s : List ℕ) → is_hex_digit c ≡ true → group_on n v (c ∷ s) ≡ group_on (n + 1) (v * 16 + hex_value c) s
unfolding group_on leading_of behind_of hex_number_from
group_on-digit n v c s e =
    let d = leading_of is_hex_digit s in
    let h : n + suc (length d) ≡ n + 1 + length d = omega arith in
    rw (e, h)

-- it ends in nothing where there is a fifth digit
group_on-over : (v c : ℕ) (s : List ℕ) → is_hex_digit c ≡ true → group_on 4 v (c ∷ s) ≡ nothing
unfolding group_on leading_of
group_on-over v c s e =
    let d = leading_of is_hex_digit s in
    rw (e, le-leb 1 (4 + suc (length d)) (omega arith), lt-leb (4 + suc (length d)) 4 (omega arith))

-- and where no digit follows, with the group, if there was a digit
group_on-none : (v : ℕ) (s : List ℕ) → starts_of is_hex_digit s ≡ false → group_on 0 v s ≡ nothing
unfolding group_on
group_on-none v s e = rw (leading-none is_hex_digit s e)

group_on-end : (n v : ℕ) (s : List ℕ) → starts_of is_hex_digit s ≡ false → 1 ≤ n → n ≤ 4 → group_on n v s ≡ parsed v s
unfolding group_on hex_number_from
group_on-end n v s e h f = let z : n + 0 ≡ n = omega arith in rw (leading-none is_hex_digit s e, behind-none is_hex_digit s e, z, le-leb 1 n h, le-leb n 4 f)

-- The state between two turns, and what each test makes of it.
pub record Reading (s : List ℕ) (start at v : ℕ) : Type 0 where
  pub onward : start ≤ at
  pub most : at - start ≤ 4
  pub small : v < 16 ^ (at - start)
  pub left : group_on (at - start) v (drop at s) ≡ read_group (drop start s)

pub reading-start : (s : List ℕ) (start : ℕ) → Reading s start start 0
reading-start s start =
    let e : start - start ≡ 0 = omega arith in
    record { onward = omega arith; most = omega arith; small = rw e (omega arith); left = rw e (group_on-start (drop start s)) }

small-next : (n v d : ℕ) → v < 16 ^ n → d < 16 → v * 16 + d < 16 ^ (n + 1)
small-next n v d h g = rw (add-one n, pow-suc 16 n) (omega arith)

module _ {s : List ℕ} {start at v : ℕ} (r : Reading s start at v) where
  pub reading_small : v < 65536
  reading_small = let h : 16 ^ (at - start) ≤ 16 ^ 4 = pow-le-pow_right (omega arith) r.most in omega (arith, r.small)

  first : starts_of is_hex_digit (drop at s) ≡ true → drop at s ≡ get_or s at 0 ∷ drop (suc at) s
  first e = drop-cons s at 0 (starts_of-at is_hex_digit s at e).0

  -- a digit more: it is the fifth, or the loop goes on
  pub reading-over : starts_of is_hex_digit (drop at s) ≡ true → at - start ≡ 4 → nothing ≡ read_group (drop start s)
  reading-over e h = sym (group_on-over v (get_or s at 0) (drop (suc at) s) (starts_of-at is_hex_digit s at e).1) ∙ (rw (h, first e) at r.left)

  pub reading-again : starts_of is_hex_digit (drop at s) ≡ true → (at - start ≡ 4 → ⊥) → Reading s start (at + 1) (v * 16 + hex_value (get_or s at 0))
  reading-again e h =
      let k : at + 1 - start ≡ at - start + 1 = omega (arith, r.onward) in
      record {
        onward = omega (arith, r.onward);
        most = omega (arith, r.most, r.onward);
        small = rw k (small-next (at - start) v (hex_value (get_or s at 0)) r.small (hex_value-most (get_or s at 0)));
        left = rw (k, add-one at, ← group_on-digit (at - start) v (get_or s at 0) (drop (suc at) s) (starts_of-at is_hex_digit s at e).1, ← first e) r.left;
      }

  -- no digit more: there was none, or this is the group
  pub reading-none : starts_of is_hex_digit (drop at s) ≡ false → at ≡ start → nothing ≡ read_group (drop start s)
  reading-none e h = let z : at - start ≡ 0 = omega arith in sym (group_on-none v (drop at s) e) ∙ (rw z at r.left)

  pub reading-end : starts_of is_hex_digit (drop at s) ≡ false → (at ≡ start → ⊥) → parsed v (drop at s) ≡ read_group (drop start s)
  reading-end e h = sym (group_on-end (at - start) v (drop at s) e (omega (arith, r.onward)) r.most) ∙ r.left
