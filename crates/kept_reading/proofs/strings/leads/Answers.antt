-- `strings::leads` meets its contract: p leads q exactly where they share all bits of p. Assumes nothing.
use Rattle.kept_reading.proofs.ByWords.{shared-all}
use Rattle.kept_reading.proofs.strings.leads.Goals as goal

pub returns : goal.returns
returns c = shared-all _ c.requires.first _ c.shared.ensures
