-- `counting::alone` meets its contract, by its tests. Assumes nothing.
use native.Mathlib.Omega.{arith}
use Rattle.trie_spans.proofs.Spread.{tidy-apart, tidy-joined, tidy-none, tidy-asks}
use Rattle.trie_combine.proofs.counting.alone.Goals as goal

pub overflow_sub-result : goal.overflow_sub-result
overflow_sub-result c = let (t, s) = c.requires in omega (arith, s.first.end)

pub returns-then-op-eq3 : goal.returns-then-op-eq3
returns-then-op-eq3 c t s = rw (tidy-apart _ t c.if-op-eq3.true) (omega (arith, s.first.end))

pub returns-then-i-e : goal.returns-then-i-e
returns-then-i-e c t s = (tidy-none _ t s c.if-op-eq3.false c.if-i-e.true).counts

pub next_join-next-requires : goal.next_join-next-requires
next_join-next-requires c = let (t, s) = c.requires in tidy-asks _ t s c.if-op-eq3.false c.if-i-e.false

pub returns : goal.returns
returns c t s = rw (tidy-joined _ t s c.if-op-eq3.false) (c.spread.ensures t s)
