-- `decimal::put` meets its contract: in each case its stores are those of the digits. Assumes nothing.
use mathlib.Core.Path.{ap, refl}
use native.Mathlib.Numerals.{add-one, add-two}
use native.Mathlib.Omega.{arith}
use lib.ListN.{length, length-set}
use Rattle.text_decimal.proofs.Writing.{digits_of-one, digits_of-two, digits_of-three}
use Rattle.text_decimal.proofs.decimal.put.Goals as goal

pub bounds-out-at : goal.bounds-out-at
bounds-out-at c = let e = ap length (digits_of-one c.args.x c.if-x-lt10.true) in omega arith

pub returns-then-x-lt10 : goal.returns-then-x-lt10
returns-then-x-lt10 c = rw (digits_of-one c.args.x c.if-x-lt10.true) (record { place = refl; bytes = refl })

pub bounds-out-at-then-x-lt100 : goal.bounds-out-at-then-x-lt100
bounds-out-at-then-x-lt100 c = let e = ap length (digits_of-two c.args.x c.if-x-lt10.false c.if-x-lt100.true) in omega arith

pub bounds-out-at-then-x-lt100-2 : goal.bounds-out-at-then-x-lt100-2
bounds-out-at-then-x-lt100-2 c = let e = ap length (digits_of-two c.args.x c.if-x-lt10.false c.if-x-lt100.true) in simp length-set (omega arith)

pub returns-then-x-lt100 : goal.returns-then-x-lt100
returns-then-x-lt100 c = rw (digits_of-two c.args.x c.if-x-lt10.false c.if-x-lt100.true) (record { place = refl; bytes = rw add-one })

pub bounds-out-at-2 : goal.bounds-out-at-2
bounds-out-at-2 c = let e = ap length (digits_of-three c.args.x c.if-x-lt100.false) in omega arith

pub bounds-out-at-3 : goal.bounds-out-at-3
bounds-out-at-3 c = let e = ap length (digits_of-three c.args.x c.if-x-lt100.false) in simp length-set (omega arith)

pub bounds-out-at-4 : goal.bounds-out-at-4
bounds-out-at-4 c = let e = ap length (digits_of-three c.args.x c.if-x-lt100.false) in simp length-set (omega arith)

pub returns : goal.returns
returns c = rw (digits_of-three c.args.x c.if-x-lt100.false) (record { place = refl; bytes = rw (add-one, add-two) })
