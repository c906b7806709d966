-- `places::stop_of` meets its contract, test by test. Assumes nothing.
use mathlib.Core.Path.{refl}
use Rattle.calls_kinds.proofs.Judged.{stop-unknown, stop-full, stop-rows, stop-none}
use Rattle.calls_kinds.proofs.places.stop_of.Goals as goal

pub returns-in_default : goal.returns-in_default
returns-in_default c = let a = c.args in stop-unknown a.c a.rows a.room c.in_default.ensures.value refl

pub returns-then-room-asks : goal.returns-then-room-asks
returns-then-room-asks c = let a = c.args in stop-full a.c a.rows a.room c.in-Some.ensures.value refl c.if-room-asks.true

pub returns-then-rows-asks : goal.returns-then-rows-asks
returns-then-rows-asks c = let a = c.args in stop-rows a.c a.rows a.room c.in-Some.ensures.value refl c.if-room-asks.false c.if-rows-asks.true

pub returns : goal.returns
returns c = let a = c.args in stop-none a.c a.rows a.room c.in-Some.ensures.value refl c.if-room-asks.false c.if-rows-asks.false
