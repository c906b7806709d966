-- `words::fill` meets its contract. Assumes nothing.
use Rattle.std.proofs.Common.{arith, rules}
use Rattle.setfile_sides.proofs.AddressWords.{bit-some, fill-low, fill-all}
use Rattle.setfile_sides.proofs.words.fill.Goals as goal

pub overflow_sub-result : goal.overflow_sub-result
overflow_sub-result c = bit-some _ (omega arith)

pub returns-then-k-lt64 : goal.returns-then-k-lt64
returns-then-k-lt64 c = fill-low _ _ (omega arith)

pub returns-else-k-lt64 : goal.returns-else-k-lt64
returns-else-k-lt64 c = fill-all _ _ (omega arith) (omega arith)
