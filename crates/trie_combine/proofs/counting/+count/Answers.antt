-- `counting::count` meets its contract, by the fuel. Assumes nothing.
use native.Mathlib.Omega.{arith}
use borrow.Author.Tests.{not-true, not-false}
use lib.Dec.{eqb}
use Rattle.trie_spans.proofs.Spans.{fork-fits, fork-middle}
use Rattle.trie_spans.proofs.Halving.{first-extents, second-extents}
use Rattle.trie_combine.proofs.Forks.{forks-of, forks-parts, only-extents, only_step, only-few}
use Rattle.trie_combine.proofs.Counts.{counts-small, counted}
use Rattle.trie_combine.proofs.counting.+count.Goals as goal

pub kind-x-requires : goal.kind-x-requires
kind-x-requires τ c = let (t, u, s) = c.requires in (_, _, t, s.first)

pub kind-y-requires : goal.kind-y-requires
kind-y-requires τ c = let (t, u, s) = c.requires in (_, _, u, s.second)

pub flat-requires : goal.flat-requires
flat-requires τ c = let (t, u, s) = c.requires in
    record { extents = (t, u, s, c.kind-x.ensures _ _ t s.first, c.kind-y.ensures _ _ u s.second); fact = c.are_mixed.ensures.1 (not-true _ c.if-not-are_mixed.true-raw) }

pub returns-then-not-are_mixed : goal.returns-then-not-are_mixed
returns-then-not-are_mixed τ c t u s = c.flat.ensures t u s (c.kind-x.ensures _ _ t s.first) (c.kind-y.ensures _ _ u s.second)

pub word-p-requires : goal.word-p-requires
word-p-requires τ c = let (t, u, s) = c.requires in
    let f = forks-of t u s _ _ (c.kind-x.ensures _ _ t s.first) (c.kind-y.ensures _ _ u s.second) (c.are_mixed.ensures.0 (not-false _ c.if-not-are_mixed.false-raw)) in
    let n = fork-fits f.first in (n.0, n.1)

pub word-q-requires : goal.word-q-requires
word-q-requires τ c = let (t, u, s) = c.requires in
    let f = forks-of t u s _ _ (c.kind-x.ensures _ _ t s.first) (c.kind-y.ensures _ _ u s.second) (c.are_mixed.ensures.0 (not-false _ c.if-not-are_mixed.false-raw)) in
    let n = fork-fits f.second in (n.0, n.1)

pub overflow_add-a : goal.overflow_add-a
overflow_add-a τ c = let (t, u, s) = c.requires in
    let f = forks-of t u s _ _ (c.kind-x.ensures _ _ t s.first) (c.kind-y.ensures _ _ u s.second) (c.are_mixed.ensures.0 (not-false _ c.if-not-are_mixed.false-raw)) in
    omega (arith, fork-fits f.first)

pub overflow_add-c : goal.overflow_add-c
overflow_add-c τ c = let (t, u, s) = c.requires in
    let f = forks-of t u s _ _ (c.kind-x.ensures _ _ t s.first) (c.kind-y.ensures _ _ u s.second) (c.are_mixed.ensures.0 (not-false _ c.if-not-are_mixed.false-raw)) in
    omega (arith, fork-fits f.second)

pub overflow_sub-fuel : goal.overflow_sub-fuel
overflow_sub-fuel τ c = let (t, u, s) = c.requires in s.turn

pub count-n-requires : goal.count-n-requires
count-n-requires τ c = let (t, u, s) = c.requires in
    let f = forks-of t u s _ _ (c.kind-x.ensures _ _ t s.first) (c.kind-y.ensures _ _ u s.second) (c.are_mixed.ensures.0 (not-false _ c.if-not-are_mixed.false-raw)) in
    let op = c.args.op in
    (omega (arith, c.decreases, s.turn), (_, _, only-extents f op _ _ c.word-p.ensures.0 c.word-q.ensures.0 (c.is_only.ensures c.if-is_only.true) 0 (omega arith)))

pub above_nodes-requires : goal.above_nodes-requires
above_nodes-requires τ c = let (t, u, s) = c.requires in
    let f = forks-of t u s _ _ (c.kind-x.ensures _ _ t s.first) (c.kind-y.ensures _ _ u s.second) (c.are_mixed.ensures.0 (not-false _ c.if-not-are_mixed.false-raw)) in
    let y = c.word-p.ensures.0 in
    let z = c.word-q.ensures.0 in
    let k = c.is_only.ensures c.if-is_only.true in
    let op = c.args.op in
    omega (arith, c.count-n.ensures _ _ (only-extents f op _ _ y z k 0 (omega arith)), only-few f op _ _ y z k)

pub returns-then-is_only : goal.returns-then-is_only
returns-then-is_only τ c t u s = let f = forks-of t u s _ _ (c.kind-x.ensures _ _ t s.first) (c.kind-y.ensures _ _ u s.second) (c.are_mixed.ensures.0 (not-false _ c.if-not-are_mixed.false-raw)) in
    let y = c.word-p.ensures.0 in
    let z = c.word-q.ensures.0 in
    let k = c.is_only.ensures c.if-is_only.true in
    let op = c.args.op in
    rw (only_step f op _ _ y z k) (c.above_nodes.ensures (eqb c.word-p.result 2) _ (c.count-n.ensures _ _ (only-extents f op _ _ y z k 0 (omega arith))))

pub middle-m-requires : goal.middle-m-requires
middle-m-requires τ c = let (t, u, s) = c.requires in
    let f = forks-of t u s _ _ (c.kind-x.ensures _ _ t s.first) (c.kind-y.ensures _ _ u s.second) (c.are_mixed.ensures.0 (not-false _ c.if-not-are_mixed.false-raw)) in
    omega (arith, fork-fits f.first, c.word-p.ensures.1)

pub middle-k-requires : goal.middle-k-requires
middle-k-requires τ c = let (t, u, s) = c.requires in
    let f = forks-of t u s _ _ (c.kind-x.ensures _ _ t s.first) (c.kind-y.ensures _ _ u s.second) (c.are_mixed.ensures.0 (not-false _ c.if-not-are_mixed.false-raw)) in
    omega (arith, fork-fits f.second, c.word-q.ensures.1)

pub overflow_add-a-2 : goal.overflow_add-a-2
overflow_add-a-2 τ c = let (t, u, s) = c.requires in
    let f = forks-of t u s _ _ (c.kind-x.ensures _ _ t s.first) (c.kind-y.ensures _ _ u s.second) (c.are_mixed.ensures.0 (not-false _ c.if-not-are_mixed.false-raw)) in
    omega (arith, fork-fits f.first)

pub overflow_add-c-2 : goal.overflow_add-c-2
overflow_add-c-2 τ c = let (t, u, s) = c.requires in
    let f = forks-of t u s _ _ (c.kind-x.ensures _ _ t s.first) (c.kind-y.ensures _ _ u s.second) (c.are_mixed.ensures.0 (not-false _ c.if-not-are_mixed.false-raw)) in
    omega (arith, fork-fits f.second)

pub overflow_sub-fuel-2 : goal.overflow_sub-fuel-2
overflow_sub-fuel-2 τ c = let (t, u, s) = c.requires in s.turn

pub count-l-requires : goal.count-l-requires
count-l-requires τ c = let (t, u, s) = c.requires in
    let f = forks-of t u s _ _ (c.kind-x.ensures _ _ t s.first) (c.kind-y.ensures _ _ u s.second) (c.are_mixed.ensures.0 (not-false _ c.if-not-are_mixed.false-raw)) in
    let d = forks-parts f c.args.op _ _ (fork-middle f.first _ (rw c.word-p.ensures.0 at c.middle-m.ensures)) (fork-middle f.second _ (rw c.word-q.ensures.0 at c.middle-k.ensures)) in
    (omega (arith, c.decreases, s.turn), (_, _, first-extents d))

pub overflow_sub-fuel-3 : goal.overflow_sub-fuel-3
overflow_sub-fuel-3 τ c = let (t, u, s) = c.requires in s.turn

pub count-r-requires : goal.count-r-requires
count-r-requires τ c = let (t, u, s) = c.requires in
    let f = forks-of t u s _ _ (c.kind-x.ensures _ _ t s.first) (c.kind-y.ensures _ _ u s.second) (c.are_mixed.ensures.0 (not-false _ c.if-not-are_mixed.false-raw)) in
    let d = forks-parts f c.args.op _ _ (fork-middle f.first _ (rw c.word-p.ensures.0 at c.middle-m.ensures)) (fork-middle f.second _ (rw c.word-q.ensures.0 at c.middle-k.ensures)) in
    (omega (arith, c.decreases, s.turn), (_, _, second-extents d))

pub over_nodes-requires : goal.over_nodes-requires
over_nodes-requires τ c = let (t, u, s) = c.requires in
    let f = forks-of t u s _ _ (c.kind-x.ensures _ _ t s.first) (c.kind-y.ensures _ _ u s.second) (c.are_mixed.ensures.0 (not-false _ c.if-not-are_mixed.false-raw)) in
    let d = forks-parts f c.args.op _ _ (fork-middle f.first _ (rw c.word-p.ensures.0 at c.middle-m.ensures)) (fork-middle f.second _ (rw c.word-q.ensures.0 at c.middle-k.ensures)) in
    let l = c.count-l.ensures _ _ (first-extents d) in
    let r = c.count-r.ensures _ _ (second-extents d) in
    counts-small d _ _ l r

pub returns : goal.returns
returns τ c t u s = let f = forks-of t u s _ _ (c.kind-x.ensures _ _ t s.first) (c.kind-y.ensures _ _ u s.second) (c.are_mixed.ensures.0 (not-false _ c.if-not-are_mixed.false-raw)) in
    let d = forks-parts f c.args.op _ _ (fork-middle f.first _ (rw c.word-p.ensures.0 at c.middle-m.ensures)) (fork-middle f.second _ (rw c.word-q.ensures.0 at c.middle-k.ensures)) in
    let l = c.count-l.ensures _ _ (first-extents d) in
    let r = c.count-r.ensures _ _ (second-extents d) in
    counted d _ _ l r _ c.over_nodes.ensures
