-- `group::length` meets its contract, case by case. Assumes nothing.
use mathlib.Core.Path.{refl}
use native.Mathlib.Omega.{arith}
use Rattle.text_hex.proofs.Written.{hex_digits_of-one, hex_digits_of-two, hex_digits_of-three, hex_digits_of-four}
use Rattle.text_hex.proofs.group.length.Goals as goal

pub returns-then-x-lt16 : goal.returns-then-x-lt16
returns-then-x-lt16 c = rw (hex_digits_of-one c.args.x c.if-x-lt16.true) (record { value = refl; upper_bound = omega arith })

pub returns-then-x-lt256 : goal.returns-then-x-lt256
returns-then-x-lt256 c = rw (hex_digits_of-two c.args.x c.if-x-lt16.false c.if-x-lt256.true) (record { value = refl; upper_bound = omega arith })

pub returns-then-x-lt4096 : goal.returns-then-x-lt4096
returns-then-x-lt4096 c = rw (hex_digits_of-three c.args.x c.if-x-lt256.false c.if-x-lt4096.true) (record { value = refl; upper_bound = omega arith })

pub returns : goal.returns
returns c = rw (hex_digits_of-four c.args.x c.if-x-lt4096.false) (record { value = refl; upper_bound = omega arith })
