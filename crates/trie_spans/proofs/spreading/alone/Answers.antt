-- `spreading::alone` meets its contract, by its tests. Assumes nothing.
use Rattle.trie_spans.proofs.Spread.{tidy-apart, tidy-joined, tidy-none, tidy-asks}
use Rattle.trie_spans.proofs.spreading.alone.Goals as goal

pub block-requires : goal.block-requires
block-requires c = let (g, t, s, p) = c.requires in (g, t, s.first, rw (tidy-apart _ t c.if-op-eq3.true) at p)

pub returns-then-op-eq3 : goal.returns-then-op-eq3
returns-then-op-eq3 c g t s p = let q = tidy-apart _ t c.if-op-eq3.true in
    rw q (c.block.ensures g t s.first (rw q at p))

pub returns-then-i-e : goal.returns-then-i-e
returns-then-i-e c g t s p = tidy-none _ t s c.if-op-eq3.false c.if-i-e.true

pub next_join-next-requires : goal.next_join-next-requires
next_join-next-requires c = let (g, t, s, p) = c.requires in tidy-asks _ t s c.if-op-eq3.false c.if-i-e.false

pub spread-requires : goal.spread-requires
spread-requires c = let (g, t, s, p) = c.requires in
    ((g, t, s, rw (tidy-joined _ t s c.if-op-eq3.false) at p), c.next_join-next.ensures)

pub returns : goal.returns
returns c g t s p = let q = tidy-joined _ t s c.if-op-eq3.false in
    rw q (c.spread.ensures g t s (rw q at p))
