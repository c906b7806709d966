-- `decimal::length` meets its contract, case by case. Assumes nothing.
use mathlib.Core.Path.{refl}
use native.Mathlib.Omega.{arith}
use Rattle.text_decimal.proofs.Writing.{digits_of-one, digits_of-two, digits_of-three}
use Rattle.text_decimal.proofs.decimal.length.Goals as goal

pub returns-then-x-ge100 : goal.returns-then-x-ge100
returns-then-x-ge100 c = rw (digits_of-three c.args.x c.if-x-ge100.true) (record { value = refl; upper_bound = omega arith })

pub returns-then-x-ge10 : goal.returns-then-x-ge10
returns-then-x-ge10 c = rw (digits_of-two c.args.x c.if-x-ge10.true c.if-x-ge100.false) (record { value = refl; upper_bound = omega arith })

pub returns : goal.returns
returns c = rw (digits_of-one c.args.x c.if-x-ge10.false) (record { value = refl; upper_bound = omega arith })
