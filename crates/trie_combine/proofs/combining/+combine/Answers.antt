-- `combining::combine` meets its contract, by the fuel. Assumes nothing.
use native.Mathlib.Omega.{arith}
use borrow.Author.Tests.{not-true, not-false}
use Rattle.trie_spans.proofs.Spans.{fork-fits, fork-middle}
use Rattle.trie_spans.proofs.Halving.{left-extents, left-room, right-extents, right-room, both, combined}
use Rattle.trie_combine.proofs.Forks.{forks-of, forks-parts, only-extents, only_step, only-room, only-half}
use Rattle.trie_combine.proofs.combining.+combine.Goals as goal

pub kind-x-requires : goal.kind-x-requires
kind-x-requires τ c = let (g, t, u, s, p) = c.requires in (_, g, t, s.first)

pub kind-y-requires : goal.kind-y-requires
kind-y-requires τ c = let (g, t, u, s, p) = c.requires in (_, g, u, s.second)

pub flat-requires : goal.flat-requires
flat-requires τ c = let (g, t, u, s, p) = c.requires in
    record { by_index = (g, t, u, s, p, c.kind-x.ensures _ g t s.first, c.kind-y.ensures _ g u s.second); fact = c.are_mixed.ensures.1 (not-true _ c.if-not-are_mixed.true-raw) }

pub returns-then-not-are_mixed : goal.returns-then-not-are_mixed
returns-then-not-are_mixed τ c g t u s p = c.flat.ensures g t u s p (c.kind-x.ensures _ g t s.first) (c.kind-y.ensures _ g u s.second)

pub word-p-requires : goal.word-p-requires
word-p-requires τ c = let (g, t, u, s, p) = c.requires in
    let f = forks-of t u s _ _ (c.kind-x.ensures _ g t s.first) (c.kind-y.ensures _ g u s.second) (c.are_mixed.ensures.0 (not-false _ c.if-not-are_mixed.false-raw)) in
    let n = fork-fits f.first in (n.0, n.1)

pub word-q-requires : goal.word-q-requires
word-q-requires τ c = let (g, t, u, s, p) = c.requires in
    let f = forks-of t u s _ _ (c.kind-x.ensures _ g t s.first) (c.kind-y.ensures _ g u s.second) (c.are_mixed.ensures.0 (not-false _ c.if-not-are_mixed.false-raw)) in
    let n = fork-fits f.second in (n.0, n.1)

pub overflow_add-a : goal.overflow_add-a
overflow_add-a τ c = let (g, t, u, s, p) = c.requires in
    let f = forks-of t u s _ _ (c.kind-x.ensures _ g t s.first) (c.kind-y.ensures _ g u s.second) (c.are_mixed.ensures.0 (not-false _ c.if-not-are_mixed.false-raw)) in
    omega (arith, fork-fits f.first)

pub overflow_add-c : goal.overflow_add-c
overflow_add-c τ c = let (g, t, u, s, p) = c.requires in
    let f = forks-of t u s _ _ (c.kind-x.ensures _ g t s.first) (c.kind-y.ensures _ g u s.second) (c.are_mixed.ensures.0 (not-false _ c.if-not-are_mixed.false-raw)) in
    omega (arith, fork-fits f.second)

pub overflow_add-o : goal.overflow_add-o
overflow_add-o τ c = let (g, t, u, s, p) = c.requires in omega (arith, s.few)

pub overflow_sub-fuel : goal.overflow_sub-fuel
overflow_sub-fuel τ c = let (g, t, u, s, p) = c.requires in s.turn

pub combine-n-requires : goal.combine-n-requires
combine-n-requires τ c = let (g, t, u, s, p) = c.requires in
    let f = forks-of t u s _ _ (c.kind-x.ensures _ g t s.first) (c.kind-y.ensures _ g u s.second) (c.are_mixed.ensures.0 (not-false _ c.if-not-are_mixed.false-raw)) in
    let y = c.word-p.ensures.0 in
    let z = c.word-q.ensures.0 in
    let h = c.is_only.ensures c.if-is_only.true in
    let op = c.args.op in
    (omega (arith, c.decreases, s.turn), (g, _, _, only-extents f op _ _ y z h 1 (omega arith), only-room f op _ _ y z h p))

pub above-requires : goal.above-requires
above-requires τ c = let (g, t, u, s, p) = c.requires in
    let f = forks-of t u s _ _ (c.kind-x.ensures _ g t s.first) (c.kind-y.ensures _ g u s.second) (c.are_mixed.ensures.0 (not-false _ c.if-not-are_mixed.false-raw)) in
    let y = c.word-p.ensures.0 in
    let z = c.word-q.ensures.0 in
    let k = c.is_only.ensures c.if-is_only.true in
    let op = c.args.op in
    (_, _, _, only-half f op _ _ y z k p _ _ (c.combine-n.ensures g _ _ (only-extents f op _ _ y z k 1 (omega arith)) (only-room f op _ _ y z k p)))

pub returns-then-is_only : goal.returns-then-is_only
returns-then-is_only τ c g t u s p = let f = forks-of t u s _ _ (c.kind-x.ensures _ g t s.first) (c.kind-y.ensures _ g u s.second) (c.are_mixed.ensures.0 (not-false _ c.if-not-are_mixed.false-raw)) in
    let y = c.word-p.ensures.0 in
    let z = c.word-q.ensures.0 in
    let k = c.is_only.ensures c.if-is_only.true in
    let op = c.args.op in
    rw (only_step f op _ _ y z k) (c.above.ensures _ _ _ (only-half f op _ _ y z k p _ _ (c.combine-n.ensures g _ _ (only-extents f op _ _ y z k 1 (omega arith)) (only-room f op _ _ y z k p))))

pub middle-m-requires : goal.middle-m-requires
middle-m-requires τ c = let (g, t, u, s, p) = c.requires in
    let f = forks-of t u s _ _ (c.kind-x.ensures _ g t s.first) (c.kind-y.ensures _ g u s.second) (c.are_mixed.ensures.0 (not-false _ c.if-not-are_mixed.false-raw)) in
    omega (arith, fork-fits f.first, c.word-p.ensures.1)

pub middle-k-requires : goal.middle-k-requires
middle-k-requires τ c = let (g, t, u, s, p) = c.requires in
    let f = forks-of t u s _ _ (c.kind-x.ensures _ g t s.first) (c.kind-y.ensures _ g u s.second) (c.are_mixed.ensures.0 (not-false _ c.if-not-are_mixed.false-raw)) in
    omega (arith, fork-fits f.second, c.word-q.ensures.1)

pub overflow_add-a-2 : goal.overflow_add-a-2
overflow_add-a-2 τ c = let (g, t, u, s, p) = c.requires in
    let f = forks-of t u s _ _ (c.kind-x.ensures _ g t s.first) (c.kind-y.ensures _ g u s.second) (c.are_mixed.ensures.0 (not-false _ c.if-not-are_mixed.false-raw)) in
    omega (arith, fork-fits f.first)

pub overflow_add-c-2 : goal.overflow_add-c-2
overflow_add-c-2 τ c = let (g, t, u, s, p) = c.requires in
    let f = forks-of t u s _ _ (c.kind-x.ensures _ g t s.first) (c.kind-y.ensures _ g u s.second) (c.are_mixed.ensures.0 (not-false _ c.if-not-are_mixed.false-raw)) in
    omega (arith, fork-fits f.second)

pub overflow_add-o-2 : goal.overflow_add-o-2
overflow_add-o-2 τ c = let (g, t, u, s, p) = c.requires in omega (arith, s.few)

pub overflow_sub-fuel-2 : goal.overflow_sub-fuel-2
overflow_sub-fuel-2 τ c = let (g, t, u, s, p) = c.requires in s.turn

pub combine-l-requires : goal.combine-l-requires
combine-l-requires τ c = let (g, t, u, s, p) = c.requires in
    let f = forks-of t u s _ _ (c.kind-x.ensures _ g t s.first) (c.kind-y.ensures _ g u s.second) (c.are_mixed.ensures.0 (not-false _ c.if-not-are_mixed.false-raw)) in
    let d = forks-parts f c.args.op _ _ (fork-middle f.first _ (rw c.word-p.ensures.0 at c.middle-m.ensures)) (fork-middle f.second _ (rw c.word-q.ensures.0 at c.middle-k.ensures)) in
    (omega (arith, c.decreases, s.turn), (g, _, _, left-extents d, left-room d p))

pub overflow_add-o-3 : goal.overflow_add-o-3
overflow_add-o-3 τ c = let (g, t, u, s, p) = c.requires in omega (arith, s.few)

pub overflow_add-o-4 : goal.overflow_add-o-4
overflow_add-o-4 τ c = let (g, t, u, s, p) = c.requires in
    let f = forks-of t u s _ _ (c.kind-x.ensures _ g t s.first) (c.kind-y.ensures _ g u s.second) (c.are_mixed.ensures.0 (not-false _ c.if-not-are_mixed.false-raw)) in
    let d = forks-parts f c.args.op _ _ (fork-middle f.first _ (rw c.word-p.ensures.0 at c.middle-m.ensures)) (fork-middle f.second _ (rw c.word-q.ensures.0 at c.middle-k.ensures)) in
    let l = c.combine-l.ensures g _ _ (left-extents d) (left-room d p) in
    omega (arith, (right-extents d p _ _ l).few)

pub overflow_sub-fuel-3 : goal.overflow_sub-fuel-3
overflow_sub-fuel-3 τ c = let (g, t, u, s, p) = c.requires in s.turn

pub combine-r-requires : goal.combine-r-requires
combine-r-requires τ c = let (g, t, u, s, p) = c.requires in
    let f = forks-of t u s _ _ (c.kind-x.ensures _ g t s.first) (c.kind-y.ensures _ g u s.second) (c.are_mixed.ensures.0 (not-false _ c.if-not-are_mixed.false-raw)) in
    let d = forks-parts f c.args.op _ _ (fork-middle f.first _ (rw c.word-p.ensures.0 at c.middle-m.ensures)) (fork-middle f.second _ (rw c.word-q.ensures.0 at c.middle-k.ensures)) in
    let l = c.combine-l.ensures g _ _ (left-extents d) (left-room d p) in
    (omega (arith, c.decreases, s.turn), (g, _, _, right-extents d p _ _ l, right-room d p _ _ l))

pub over_halves-requires : goal.over_halves-requires
over_halves-requires τ c = let (g, t, u, s, p) = c.requires in
    let f = forks-of t u s _ _ (c.kind-x.ensures _ g t s.first) (c.kind-y.ensures _ g u s.second) (c.are_mixed.ensures.0 (not-false _ c.if-not-are_mixed.false-raw)) in
    let d = forks-parts f c.args.op _ _ (fork-middle f.first _ (rw c.word-p.ensures.0 at c.middle-m.ensures)) (fork-middle f.second _ (rw c.word-q.ensures.0 at c.middle-k.ensures)) in
    let l = c.combine-l.ensures g _ _ (left-extents d) (left-room d p) in
    let h = c.combine-r.ensures g _ _ (right-extents d p _ _ l) (right-room d p _ _ l) in
    (_, _, _, both d p _ _ l _ _ h)

pub returns : goal.returns
returns τ c g t u s p = let f = forks-of t u s _ _ (c.kind-x.ensures _ g t s.first) (c.kind-y.ensures _ g u s.second) (c.are_mixed.ensures.0 (not-false _ c.if-not-are_mixed.false-raw)) in
    let d = forks-parts f c.args.op _ _ (fork-middle f.first _ (rw c.word-p.ensures.0 at c.middle-m.ensures)) (fork-middle f.second _ (rw c.word-q.ensures.0 at c.middle-k.ensures)) in
    let l = c.combine-l.ensures g _ _ (left-extents d) (left-room d p) in
    let h = c.combine-r.ensures g _ _ (right-extents d p _ _ l) (right-room d p _ _ l) in
    combined d p _ _ l _ _ h _ _ (c.over_halves.ensures _ _ _ (both d p _ _ l _ _ h))
