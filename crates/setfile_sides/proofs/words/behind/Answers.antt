-- `words::behind` meets its contract. Assumes nothing.
use Rattle.std.proofs.Common.{arith, rules}
use Rattle.setfile_sides.proofs.AddressWords.{behind-low, behind-high}
use Rattle.setfile_sides.proofs.words.behind.Goals as goal

pub returns-then-lo-ne0 : goal.returns-then-lo-ne0
returns-then-lo-ne0 c = behind-low _ _ (omega arith) (omega arith) _ c.wrapping_add_u64-lo.ensures.value c.if-lo-ne0.true

pub returns : goal.returns
returns c = behind-high _ _ (omega arith) (omega arith) _ _ c.wrapping_add_u64.ensures.value c.wrapping_add_u64-lo.ensures.value
    c.if-lo-ne0.false
