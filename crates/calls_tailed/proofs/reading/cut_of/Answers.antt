-- `reading::cut_of` meets its contract, by its test. Assumes nothing.
use Rattle.calls_tailed.proofs.Read.{cut_inside, cut-end}
use borrow.Author.Rules.{rules}
use native.Mathlib.Omega.{arith}
use Rattle.calls_tailed.proofs.reading.cut_of.Goals as goal

pub returns-then-s-first : goal.returns-then-s-first
returns-then-s-first c = let a = c.args in cut-end a.s.now a.b c.requires c.if-s-first.true

pub returns : goal.returns
returns c = let a = c.args in cut_inside a.s.now a.b (omega arith)
