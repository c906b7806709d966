-- `cleared::is_before` meets its contract, by the order of addresses in words. Assumes nothing.
use mathlib.Core.Path.{◌∙◌}
use native.Mathlib.Omega.{arith}
use Rattle.setfile_entries.proofs.Clean.{parts-before}
use Rattle.setfile_entries.proofs.cleared.is_before.Goals as goal

pub returns : goal.returns
returns c = c.lt.ensures ∙ parts-before c.requires.0 c.requires.1 (omega arith) (omega arith)
