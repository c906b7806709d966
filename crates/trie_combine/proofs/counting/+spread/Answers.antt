-- `counting::spread` meets its contract, by the fuel. Assumes nothing.
use native.Mathlib.Omega.{arith}
use Rattle.trie_spans.proofs.Spans.{fork-fits, fork-middle, fork-right}
use Rattle.trie_spans.proofs.Halving.{first-extents, second-extents}
use Rattle.trie_spans.proofs.Spread.{spread-flat, spread-fork, spread-parts, spread-left, spread-right, spread-asks}
use Rattle.trie_combine.proofs.Counts.{plain-count, counts-small, counted}
use Rattle.trie_combine.proofs.counting.+spread.Goals as goal

pub overflow_sub-result : goal.overflow_sub-result
overflow_sub-result τ c = let (t, s) = c.requires.0 in omega (arith, s.first.end)

pub returns-then-e-next : goal.returns-then-e-next
returns-then-e-next τ c t s = plain-count t s c.requires.1 c.if-e-next.true

pub kind-k-requires : goal.kind-k-requires
kind-k-requires τ c = let (t, s) = c.requires.0 in (_, _, t, s.first)

pub returns-then-k-ne-MIXED : goal.returns-then-k-ne-MIXED
returns-then-k-ne-MIXED τ c t s = (spread-flat t s _ (c.kind-k.ensures _ _ t s.first) c.if-k-ne-MIXED.true).counts

pub word-requires : goal.word-requires
word-requires τ c = let (t, s) = c.requires.0 in
    let f = spread-fork t s _ (c.kind-k.ensures _ _ t s.first) c.if-k-ne-MIXED.false in
    let n = fork-fits f in (n.0, n.1)

pub middle-m-requires : goal.middle-m-requires
middle-m-requires τ c = let (t, s) = c.requires.0 in
    let f = spread-fork t s _ (c.kind-k.ensures _ _ t s.first) c.if-k-ne-MIXED.false in
    omega (arith, fork-fits f, c.word.ensures.1)

pub join_from-p-requires : goal.join_from-p-requires
join_from-p-requires τ c = let ((t, s), a) = c.requires in
    let f = spread-fork t s _ (c.kind-k.ensures _ _ t s.first) c.if-k-ne-MIXED.false in
    let m = fork-middle f _ (rw c.word.ensures.0 at c.middle-m.ensures) in
    record { le_m = spread-asks t s f _ m; apart = spread-right t s f _ m a (fork-right f _ m) }

pub overflow_add-i : goal.overflow_add-i
overflow_add-i τ c = let (t, s) = c.requires.0 in
    let f = spread-fork t s _ (c.kind-k.ensures _ _ t s.first) c.if-k-ne-MIXED.false in
    omega (arith, fork-fits f)

pub overflow_sub-fuel : goal.overflow_sub-fuel
overflow_sub-fuel τ c = let (t, s) = c.requires.0 in s.turn

pub spread-l-requires : goal.spread-l-requires
spread-l-requires τ c = let ((t, s), a) = c.requires in
    let f = spread-fork t s _ (c.kind-k.ensures _ _ t s.first) c.if-k-ne-MIXED.false in
    let m = fork-middle f _ (rw c.word.ensures.0 at c.middle-m.ensures) in
    let d = spread-parts t s f _ m in
    (omega (arith, c.decreases, s.turn), ((_, first-extents d), spread-left t s f _ m a))

pub overflow_sub-fuel-2 : goal.overflow_sub-fuel-2
overflow_sub-fuel-2 τ c = let (t, s) = c.requires.0 in s.turn

pub spread-r-requires : goal.spread-r-requires
spread-r-requires τ c = let (t, s) = c.requires.0 in
    let f = spread-fork t s _ (c.kind-k.ensures _ _ t s.first) c.if-k-ne-MIXED.false in
    let m = fork-middle f _ (rw c.word.ensures.0 at c.middle-m.ensures) in
    let d = spread-parts t s f _ m in
    (omega (arith, c.decreases, s.turn), ((_, second-extents d), c.join_from-p.ensures))

pub over_nodes-requires : goal.over_nodes-requires
over_nodes-requires τ c = let (t, s) = c.requires.0 in
    let f = spread-fork t s _ (c.kind-k.ensures _ _ t s.first) c.if-k-ne-MIXED.false in
    let m = fork-middle f _ (rw c.word.ensures.0 at c.middle-m.ensures) in
    let d = spread-parts t s f _ m in
    let l = c.spread-l.ensures _ (first-extents d) in
    let r = c.spread-r.ensures _ (second-extents d) in
    counts-small d _ _ l r

pub returns : goal.returns
returns τ c t s = let f = spread-fork t s _ (c.kind-k.ensures _ _ t s.first) c.if-k-ne-MIXED.false in
    let m = fork-middle f _ (rw c.word.ensures.0 at c.middle-m.ensures) in
    let d = spread-parts t s f _ m in
    let l = c.spread-l.ensures _ (first-extents d) in
    let r = c.spread-r.ensures _ (second-extents d) in
    counted d _ _ l r _ c.over_nodes.ensures
