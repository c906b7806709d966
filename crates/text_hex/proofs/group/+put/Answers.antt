-- The proof of the cycle of calls {group::put}: the last digit is stored behind the others. The measure is the number. Assumes nothing.
use mathlib.Core.List.{[], ◌∷◌}
use mathlib.Core.Path.{◌≡◌, ap, ◌∙◌}
use Prim.Native.Nat.{ℕ, ◌+◌, ◌/◌, ◌%◌, ◌≤◌, ◌<◌}
use native.Mathlib.Omega.{arith}
use lib.ListN.{length, length-append}
use Rattle.text_decimal.proofs.Writing.{stored-append}
use Rattle.text_hex.specs.Hex.{hex_byte_of, hex_digits_of}
use Rattle.text_hex.proofs.Written.{hex_digits_of-one, hex_digits_of-last}
use Rattle.text_hex.proofs.group.+put.Goals as goal

-- the others are one digit fewer
length_last : (x : ℕ) → 16 ≤ x → x < 65536 → length (hex_digits_of x) ≡ length (hex_digits_of (x / 16)) + 1
length_last x h l = ap length (hex_digits_of-last x h l) ∙ length-append (hex_digits_of (x / 16)) (hex_byte_of (x % 16) ∷ [])

pub put_digit-requires : goal.put_digit-requires
put_digit-requires τ c = (c.if-x-lt16.true, omega (arith, c.requires, ap length (hex_digits_of-one c.args.x c.if-x-lt16.true)))

pub returns-then-x-lt16 : goal.returns-then-x-lt16
returns-then-x-lt16 τ c = rw (hex_digits_of-one c.args.x c.if-x-lt16.true) c.put_digit.ensures

pub put-next-requires : goal.put-next-requires
put-next-requires τ c = (omega (arith, c.decreases, c.if-x-lt16.false), omega (arith, c.requires, length_last c.args.x c.if-x-lt16.false (omega arith)))

pub put_digit-requires-2 : goal.put_digit-requires-2
put_digit-requires-2 τ c = (omega arith, omega (arith, c.requires, c.put-next.ensures.place, length_last c.args.x c.if-x-lt16.false (omega arith)))

pub returns : goal.returns
returns τ c = rw (hex_digits_of-last c.args.x c.if-x-lt16.false (omega arith)) (stored-append c.put-next.ensures c.put_digit-2.ensures)
