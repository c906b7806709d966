-- `order::is_ahead` meets its contract: earlier, and not around. Assumes nothing.
use mathlib.Core.Path.{◌≡◌, sym, ◌∙◌}
use borrow.Author.Rules.{rules}
use borrow.Author.Tests.{not-true, not-false}
use Rattle.nets.specs.Networks.{net_bits}
use Rattle.salvage_lists.proofs.Ahead.{ahead-is}
use Rattle.salvage_batch.proofs.order.is_ahead.Goals as goal

pub is_earlier-requires : goal.is_earlier-requires
is_earlier-requires c = c.requires

pub returns-then-not-is_earlier : goal.returns-then-not-is_earlier
returns-then-not-is_earlier c = let a = c.args in
    sym (ahead-is (net_bits a.x) (net_bits a.y) ∙ rw (sym c.is_earlier.ensures ∙ not-true _ c.if-not-is_earlier.true-raw))

pub is_in-requires : goal.is_in-requires
is_in-requires c = c.requires

pub returns : goal.returns
returns c = let a = c.args in
    rw c.is_in.ensures (sym (ahead-is (net_bits a.x) (net_bits a.y) ∙ rw (sym c.is_earlier.ensures ∙ not-false _ c.if-not-is_earlier.false-raw)))
