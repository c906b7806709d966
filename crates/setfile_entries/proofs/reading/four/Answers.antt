-- `reading::four` meets its contract: its bytes are the first of those that are left from the place on. Assumes nothing.
use mathlib.Core.Path.{◌∙◌}
use Rattle.setfile_entries.proofs.Numbers.{big_endian-four}
use Rattle.setfile_entries.proofs.reading.four.Goals as goal

pub returns : goal.returns
returns c = let a = c.args in
    record { value = c.joined.ensures.value ∙ big_endian-four a.at a.bytes.now; upper_bound = c.joined.ensures.upper_bound }
