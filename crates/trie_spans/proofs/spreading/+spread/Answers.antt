-- `spreading::spread` meets its contract, by the fuel. Assumes nothing.
use native.Mathlib.Omega.{arith}
use Rattle.trie_spans.proofs.Spans.{fork-fits, fork-middle}
use Rattle.trie_spans.proofs.Halving.{left-extents, left-room, right-extents, right-room, both, combined}
use Rattle.trie_spans.proofs.Spread.{spread-plain, spread-flat, spread-fork, spread-parts, spread-left, spread-right, spread-still}
use Rattle.trie_spans.proofs.spreading.+spread.Goals as goal

pub block-requires : goal.block-requires
block-requires τ c = let ((g, t, s, p), a) = c.requires in (g, t, s.first, rw (spread-plain t s a c.if-e-next.true) at p)

pub returns-then-e-next : goal.returns-then-e-next
returns-then-e-next τ c g t s p = let q = spread-plain t s c.requires.1 c.if-e-next.true in
    rw q (c.block.ensures g t s.first (rw q at p))

pub kind-k-requires : goal.kind-k-requires
kind-k-requires τ c = let (g, t, s, p) = c.requires.0 in (_, g, t, s.first)

pub returns-then-k-ne-MIXED : goal.returns-then-k-ne-MIXED
returns-then-k-ne-MIXED τ c g t s p = spread-flat t s _ (c.kind-k.ensures _ g t s.first) c.if-k-ne-MIXED.true

pub word-requires : goal.word-requires
word-requires τ c = let (g, t, s, p) = c.requires.0 in
    let f = spread-fork t s _ (c.kind-k.ensures _ g t s.first) c.if-k-ne-MIXED.false in
    let n = fork-fits f in (n.0, n.1)

pub middle-m-requires : goal.middle-m-requires
middle-m-requires τ c = let (g, t, s, p) = c.requires.0 in
    let f = spread-fork t s _ (c.kind-k.ensures _ g t s.first) c.if-k-ne-MIXED.false in
    omega (arith, fork-fits f, c.word.ensures.1)

pub overflow_add-i : goal.overflow_add-i
overflow_add-i τ c = let (g, t, s, p) = c.requires.0 in
    let f = spread-fork t s _ (c.kind-k.ensures _ g t s.first) c.if-k-ne-MIXED.false in
    omega (arith, fork-fits f)

pub overflow_add-o : goal.overflow_add-o
overflow_add-o τ c = let (g, t, s, p) = c.requires.0 in omega (arith, s.few)

pub overflow_sub-fuel : goal.overflow_sub-fuel
overflow_sub-fuel τ c = let (g, t, s, p) = c.requires.0 in s.turn

pub spread-l-requires : goal.spread-l-requires
spread-l-requires τ c = let ((g, t, s, p), a) = c.requires in
    let f = spread-fork t s _ (c.kind-k.ensures _ g t s.first) c.if-k-ne-MIXED.false in
    let m = fork-middle f _ (rw c.word.ensures.0 at c.middle-m.ensures) in
    let d = spread-parts t s f _ m in
    (omega (arith, c.decreases, s.turn), ((g, _, left-extents d, left-room d p), spread-left t s f _ m a))

pub join_from-p-requires : goal.join_from-p-requires
join_from-p-requires τ c = let ((g, t, s, p), a) = c.requires in
    let f = spread-fork t s _ (c.kind-k.ensures _ g t s.first) c.if-k-ne-MIXED.false in
    let m = fork-middle f _ (rw c.word.ensures.0 at c.middle-m.ensures) in
    let d = spread-parts t s f _ m in
    let l = c.spread-l.ensures g _ (left-extents d) (left-room d p) in
    record { le_m = spread-still t s f _ m l; apart = spread-right t s f _ m a (right-extents d p _ _ l).first }

pub overflow_add-o-2 : goal.overflow_add-o-2
overflow_add-o-2 τ c = let (g, t, s, p) = c.requires.0 in omega (arith, s.few)

pub overflow_add-o-3 : goal.overflow_add-o-3
overflow_add-o-3 τ c = let (g, t, s, p) = c.requires.0 in
    let f = spread-fork t s _ (c.kind-k.ensures _ g t s.first) c.if-k-ne-MIXED.false in
    let m = fork-middle f _ (rw c.word.ensures.0 at c.middle-m.ensures) in
    let d = spread-parts t s f _ m in
    let l = c.spread-l.ensures g _ (left-extents d) (left-room d p) in
    omega (arith, (right-extents d p _ _ l).few)

pub overflow_sub-fuel-2 : goal.overflow_sub-fuel-2
overflow_sub-fuel-2 τ c = let (g, t, s, p) = c.requires.0 in s.turn

pub spread-r-requires : goal.spread-r-requires
spread-r-requires τ c = let ((g, t, s, p), a) = c.requires in
    let f = spread-fork t s _ (c.kind-k.ensures _ g t s.first) c.if-k-ne-MIXED.false in
    let m = fork-middle f _ (rw c.word.ensures.0 at c.middle-m.ensures) in
    let d = spread-parts t s f _ m in
    let l = c.spread-l.ensures g _ (left-extents d) (left-room d p) in
    (omega (arith, c.decreases, s.turn), ((g, _, right-extents d p _ _ l, right-room d p _ _ l), c.join_from-p.ensures))

pub over_halves-requires : goal.over_halves-requires
over_halves-requires τ c = let (g, t, s, p) = c.requires.0 in
    let f = spread-fork t s _ (c.kind-k.ensures _ g t s.first) c.if-k-ne-MIXED.false in
    let m = fork-middle f _ (rw c.word.ensures.0 at c.middle-m.ensures) in
    let d = spread-parts t s f _ m in
    let l = c.spread-l.ensures g _ (left-extents d) (left-room d p) in
    let h = c.spread-r.ensures g _ (right-extents d p _ _ l) (right-room d p _ _ l) in
    (_, _, _, both d p _ _ l _ _ h)

pub returns : goal.returns
returns τ c g t s p = let f = spread-fork t s _ (c.kind-k.ensures _ g t s.first) c.if-k-ne-MIXED.false in
    let m = fork-middle f _ (rw c.word.ensures.0 at c.middle-m.ensures) in
    let d = spread-parts t s f _ m in
    let l = c.spread-l.ensures g _ (left-extents d) (left-room d p) in
    let h = c.spread-r.ensures g _ (right-extents d p _ _ l) (right-room d p _ _ l) in
    combined d p _ _ l _ _ h _ _ (c.over_halves.ensures _ _ _ (both d p _ _ l _ _ h))
