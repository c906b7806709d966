-- `reading::number` meets its contract. Assumes nothing.
use Rattle.setfile_format.specs.Files.{head_number}
use Rattle.setfile_entries.proofs.reading.number.Goals as goal

pub returns : goal.returns
unfolding head_number
returns c = c.four.ensures.value
