-- `judging::judge` meets its contract, by its tests. Assumes nothing.
use native.Mathlib.Omega.{arith}
use borrow.Author.Rules.{rules}
use borrow.Author.Tests.{not-true, not-false}
use Rattle.pool_state.proofs.Seen.{figures, seen_as}
use Rattle.pool_state.proofs.Judged.{judge-public, judge-limit, judge-room, judge-none}
use Rattle.pool_change.proofs.judging.judge.Goals as goal

pub returns-then-not-clear : goal.returns-then-not-clear
returns-then-not-clear c = record { verdict = λ S l d p e. judge-public (seen_as c.requires S d) l p e (not-true _ c.if-not-clear.true-raw) }

pub bounds-w-set : goal.bounds-w-set
bounds-w-set c = omega (arith, figures c.requires)

pub returns-then-w-set : goal.returns-then-w-set
returns-then-w-set c = record { verdict = λ S l d p e. judge-limit (seen_as c.requires S d) l p e (not-false _ c.if-not-clear.false-raw) c.if-w-set.true }

pub returns-then-room-n : goal.returns-then-room-n
returns-then-room-n c = record {
  verdict = λ S l d p e.
      judge-room (seen_as c.requires S d) l p e (not-false _ c.if-not-clear.false-raw) c.if-w-set.false (c.room.ensures S d) c.if-room-n.true;
}

pub returns : goal.returns
returns c = record {
  verdict = λ S l d p e.
      judge-none (seen_as c.requires S d) l p e (not-false _ c.if-not-clear.false-raw) c.if-w-set.false (c.room.ensures S d) c.if-room-n.false;
}
