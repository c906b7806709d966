-- `places::stop_at` meets its contract, test by test. Assumes nothing.
use mathlib.Core.Path.{sym, ap, ◌∙◌}
use Rattle.calls_bytes.specs.declared.Call.{Call}
use Rattle.calls_kinds.specs.Places.{stop_of}
use Rattle.calls_kinds.proofs.Judged.{stop_at-whole, stop_at-cut, stop_at-tail, stop_at-call}
use borrow.Author.Rules.{rules}
use native.Mathlib.Omega.{arith}
use Rattle.calls_kinds.proofs.places.stop_at.Goals as goal

pub returns-then-left-eq0 : goal.returns-then-left-eq0
returns-then-left-eq0 c = let a = c.args in sym (stop_at-whole a.calls.now a.at a.rows a.room (omega arith))

pub returns-then-left-lt-CALL : goal.returns-then-left-lt-CALL
returns-then-left-lt-CALL c = let a = c.args in sym (stop_at-cut a.calls.now a.at a.rows a.room (omega arith) (omega arith))

pub returns-then-left-c : goal.returns-then-left-c
returns-then-left-c c = let a = c.args in
    sym (stop_at-tail a.calls.now a.at a.rows a.room (omega arith) (omega (arith, ap (λ (x : Call). x.tail) c.call_at-c.ensures)))

pub returns : goal.returns
returns c = let a = c.args in
    c.stop_of.ensures ∙ (ap (λ x. stop_of x a.rows a.room) c.call_at-c.ensures
    ∙ sym (stop_at-call a.calls.now a.at a.rows a.room (omega (arith, ap (λ (x : Call). x.tail) c.call_at-c.ensures))))
