-- `packed` meets its contract: no part reaches into the next. Assumes nothing.
use Rattle.calls_packed.specs.Packed.{packed}
use Rattle.calls_packed.proofs.packed.Goals as goal

pub returns : goal.returns
unfolding packed
returns c = rw (c.one_if.ensures.value, c.one_if-2.ensures.value)
