-- `stride_of` meets its contract: the form, and then the family. Assumes nothing.
use Rattle.pool_header.proofs.Strides.{stride-plain, stride-short, stride-long}
use Rattle.pool_header.proofs.stride_of.Goals as goal

pub returns-then-w-eq0 : goal.returns-then-w-eq0
returns-then-w-eq0 c = stride-plain _ c.if-w-eq0.true

pub returns-then-w-eq4 : goal.returns-then-w-eq4
returns-then-w-eq4 c = stride-short _ c.if-w-eq0.false c.if-w-eq4.true

pub returns : goal.returns
returns c = stride-long _ c.if-w-eq0.false c.if-w-eq4.false
