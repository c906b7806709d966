-- `node_fits` meets its contract, test by test. Assumes nothing.
use native.Mathlib.Omega.{arith}
use mathlib.Core.Path.{sym, ◌∙◌}
use borrow.Author.Tests.{not-true, not-false}
use Rattle.kept_check.proofs.Fitting.{fits-past, fits_not, fits-root, both_read, read-child}
use Rattle.kept_check.proofs.node_fits.Goals as goal

pub returns-then-n-i : goal.returns-then-n-i
returns-then-n-i c = fits-past _ _ _ _ _ _ _ c.if-n-i.true

pub returns-then-not-is_node : goal.returns-then-not-is_node
returns-then-not-is_node c = fits_not _ _ _ _ _ _ _ c.if-n-i.false (sym c.is_node.ensures ∙ not-true _ c.if-not-is_node.true-raw)

pub returns-then-up-eq0 : goal.returns-then-up-eq0
returns-then-up-eq0 c = fits-root _ _ _ _ _ _ _ c.if-n-i.false (sym c.is_node.ensures
    ∙ not-false _ c.if-not-is_node.false-raw) c.if-up-eq0.true

pub net_at-requires : goal.net_at-requires
net_at-requires c = record { kept_room = c.requires.0; le_i = (omega (arith, c.if-up-eq0.false), c.requires.1.1.within) }

pub extends-requires : goal.extends-requires
extends-requires c = both_read c.requires.0 c.requires.1.1 c.if-up-eq0.false (sym c.is_node.ensures
    ∙ not-false _ c.if-not-is_node.false-raw) c.net_at.ensures c.net_at-2.ensures

pub returns : goal.returns
returns c = read-child c.requires.0 c.requires.1.1 c.if-up-eq0.false (sym c.is_node.ensures
    ∙ not-false _ c.if-not-is_node.false-raw) c.net_at.ensures c.net_at-2.ensures _ _ c.if-n-i.false
    c.extends.ensures
