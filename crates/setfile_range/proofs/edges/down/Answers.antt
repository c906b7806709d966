-- `edges::down` meets its contract, by the half that the bit names. Assumes nothing.
use mathlib.Core.Path.{sym, ap, ◌∙◌}
use Rattle.nets.specs.Networks.{net_from}
use Rattle.trie_paths.specs.Spans.{snoc}
use Rattle.setfile_range.proofs.edges.down.Goals as goal

pub returns-then-bit : goal.returns-then-bit
returns-then-bit c f p e = c.second.ensures f p e ∙ ap (λ b. net_from f (snoc p b)) (sym c.if-bit.true)

pub returns : goal.returns
returns c f p e = c.first.ensures f p e ∙ ap (λ b. net_from f (snoc p b)) (sym c.if-bit.false)
