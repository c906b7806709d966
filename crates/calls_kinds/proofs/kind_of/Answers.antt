-- `kind_of` meets its contract: an arm has one code, or codes that have one kind. Assumes nothing.
use mathlib.Core.Path.{refl}
use Prim.Native.Nat.{zero-le}
use Rattle.calls_kinds.specs.Kinds.{table, kind_in, kind_of}
use Rattle.calls_kinds.proofs.Tables.{whole, kind_of-from, beyond, below_or}
use Rattle.calls_kinds.proofs.kind_of.Goals as goal

pub returns-in-1 : goal.returns-in-1
unfolding kind_of kind_in table whole
returns-in-1 c = rw c.in-1.is

pub returns-in-14 : goal.returns-in-14
unfolding kind_of kind_in table whole
returns-in-14 c = rw c.in-14.is

pub returns-in-15 : goal.returns-in-15
unfolding kind_of kind_in table whole
returns-in-15 c = rw c.in-15.is

pub returns-in-16 : goal.returns-in-16
unfolding kind_of kind_in table whole
returns-in-16 c = rw c.in-16.is

pub returns-in-17 : goal.returns-in-17
unfolding kind_of kind_in table whole
returns-in-17 c = rw c.in-17.is

pub returns-in-18 : goal.returns-in-18
unfolding kind_of kind_in table whole
returns-in-18 c = rw c.in-18.is

pub returns-in-19 : goal.returns-in-19
unfolding kind_of kind_in table whole
returns-in-19 c = rw c.in-19.is

pub returns-in-20 : goal.returns-in-20
unfolding kind_of kind_in table whole
returns-in-20 c = rw c.in-20.is

pub returns-in-21 : goal.returns-in-21
unfolding kind_of kind_in table whole
returns-in-21 c = rw c.in-21.is

pub returns-in-28 : goal.returns-in-28
unfolding kind_of kind_in table whole
returns-in-28 c = rw c.in-28.is

pub returns-in-43 : goal.returns-in-43
unfolding kind_of kind_in table whole
returns-in-43 c = rw c.in-43.is

pub returns-in-44 : goal.returns-in-44
unfolding kind_of kind_in table whole
returns-in-44 c = rw c.in-44.is

pub returns-in-48 : goal.returns-in-48
unfolding kind_of kind_in table whole
returns-in-48 c = rw c.in-48.is

pub returns-in-49 : goal.returns-in-49
unfolding kind_of kind_in table whole
returns-in-49 c = rw c.in-49.is

pub returns-in-2-to-7 : goal.returns-in-2-to-7
unfolding kind_of kind_in table whole
returns-in-2-to-7 c = let r = c.in-2-to-7.in_default-own.rest in
    kind_of-from 2 8 c.args.code refl (beyond c.in-2-to-7.if-code-lt1-own.false r.0.0.0.0.0.0.0.0.0.0.0.0.0.1) c.in-2-to-7.if-code-lt8-own.true

pub returns-in-8-to-13 : goal.returns-in-8-to-13
unfolding kind_of kind_in table whole
returns-in-8-to-13 c = kind_of-from 8 14 c.args.code refl c.in-8-to-13.if-code-lt8-own.false c.in-8-to-13.if-code-lt14-own.true

pub returns-in-22-to-24 : goal.returns-in-22-to-24
unfolding kind_of kind_in table whole
returns-in-22-to-24 c = let r = c.in-22-to-24.in_default-own.rest in
    let a = beyond (beyond c.in-22-to-24.if-code-lt14-own.false r.0.0.0.0.0.0.0.0.0.0.0.0.1) r.0.0.0.0.0.0.0.0.0.0.0.1 in
    let b = beyond (beyond a r.0.0.0.0.0.0.0.0.0.0.1) r.0.0.0.0.0.0.0.0.0.1 in
    let d = beyond (beyond b r.0.0.0.0.0.0.0.0.1) r.0.0.0.0.0.0.0.1 in
    let e = beyond (beyond d r.0.0.0.0.0.0.1) r.0.0.0.0.0.1 in
    kind_of-from 22 25 c.args.code refl e c.in-22-to-24.if-code-lt25-own.true

pub returns-in-25-to-27 : goal.returns-in-25-to-27
unfolding kind_of kind_in table whole
returns-in-25-to-27 c = kind_of-from 25 28 c.args.code refl c.in-25-to-27.if-code-lt25-own.false c.in-25-to-27.if-code-lt28-own.true

pub returns-in-29-to-31 : goal.returns-in-29-to-31
unfolding kind_of kind_in table whole
returns-in-29-to-31 c = let r = c.in-29-to-31.in_default-own.rest in
    kind_of-from 29 32 c.args.code refl (beyond c.in-29-to-31.if-code-lt28-own.false r.0.0.0.0.1) c.in-29-to-31.if-code-lt32-own.true

pub returns-in-32-to-42 : goal.returns-in-32-to-42
unfolding kind_of kind_in table whole
returns-in-32-to-42 c = kind_of-from 32 43 c.args.code refl c.in-32-to-42.if-code-lt32-own.false c.in-32-to-42.if-code-lt43-own.true

pub returns-in_default : goal.returns-in_default
unfolding kind_of kind_in table whole
returns-in_default c = kind_of-from 0 1 c.args.code refl zero-le c.in_default.if-code-lt1-own.true

pub returns-in_default-2 : goal.returns-in_default-2
unfolding kind_of kind_in table whole
returns-in_default-2 c = let r = c.in_default.in_default-own.rest in
    let k = c.args.code in
    let h = beyond (beyond c.in_default.if-code-lt43-own.false r.0.0.0.1) r.0.0.1 in
    below_or 48 k (λ i. kind_of-from 45 48 k refl h i) (λ i. kind_of-from 50 256 k refl (beyond (beyond i r.0.1) r.1) c.ranges.code.fits)
