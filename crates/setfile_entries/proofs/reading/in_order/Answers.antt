-- `reading::in_order` meets its contract. The loop's invariant: the check of the entries that are left completes that of all. Assumes nothing.
use mathlib.Core.Path.{sym, ◌∙◌}
use native.Mathlib.Nat.{le_trans, pos_of_ne-zero}
use native.Mathlib.Omega.{arith}
use borrow.Author.Tests.{not-true, not-false}
use Rattle.setfile_format.proofs.Written.{file_bytes-mono}
use Rattle.setfile_entries.proofs.Ordered.{ordered-none, ordered-unclean, ordered-start, going_end, going-unclean, going-unordered, going_on, entry-is, entry-pair}
use Rattle.setfile_entries.proofs.reading.in_order.Goals as goal

pub returns-then-n-eq0 : goal.returns-then-n-eq0
returns-then-n-eq0 c = ordered-none _ _ _ c.if-n-eq0.true

pub entry-last-requires : goal.entry-last-requires
entry-last-requires c = (omega arith, le_trans (file_bytes-mono c.args.family (pos_of_ne-zero c.if-n-eq0.false)) c.requires.1)

pub returns-then-not-is_clean : goal.returns-then-not-is_clean
returns-then-not-is_clean c = ordered-unclean _ _ _ c.if-n-eq0.false (rw (← c.entry-last.ensures.value) (sym c.is_clean.ensures ∙ not-true _ c.if-not-is_clean.true-raw))

pub loop-i-init : goal.loop-i-init
loop-i-init c = ordered-start _ _ _ c.if-n-eq0.false c.entry-last.result c.entry-last.ensures.value c.entry-last.ensures.result_bound (sym c.is_clean.ensures ∙ not-false _ c.if-not-is_clean.false-raw)

pub entry-x-requires : goal.entry-x-requires
entry-x-requires c = (omega (arith, c.requires), le_trans (file_bytes-mono c.args.family (omega (arith, c.loop-i-test.true))) c.requires.1)

pub returns-then-not-is_clean-2 : goal.returns-then-not-is_clean-2
returns-then-not-is_clean-2 c = going-unclean c.loop-i.invariant c.loop-i-test.true (rw (← c.entry-x.ensures.value) (sym c.is_clean-in-loop-i.ensures ∙ not-true _ c.if-not-is_clean-2.true-raw))

pub is_before-requires : goal.is_before-requires
is_before-requires c = entry-pair c.loop-i.invariant.entry (entry-is _ _ _ _ c.entry-x.ensures.value c.entry-x.ensures.result_bound (sym c.is_clean-in-loop-i.ensures ∙ not-false _ c.if-not-is_clean-2.false-raw))

pub returns-then-not-is_before : goal.returns-then-not-is_before
returns-then-not-is_before c = going-unordered c.loop-i.invariant c.loop-i-test.true (rw (← c.entry-x.ensures.value) (sym c.is_before.ensures ∙ not-true _ c.if-not-is_before.true-raw))

pub loop-i-preserved : goal.loop-i-preserved
loop-i-preserved c = going_on c.loop-i.invariant c.loop-i-test.true c.entry-x.result c.entry-x.ensures.value c.entry-x.ensures.result_bound
    (sym c.is_clean-in-loop-i.ensures ∙ not-false _ c.if-not-is_clean-2.false-raw) (sym c.is_before.ensures ∙ not-false _ c.if-not-is_before.false-raw)

pub returns : goal.returns
returns c = going_end c.loop-i.invariant c.loop-i-test.false
