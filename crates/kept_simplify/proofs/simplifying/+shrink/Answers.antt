-- `simplifying::shrink` meets its contract, by the nodes that it reads. Assumes nothing.
use native.Mathlib.Omega.{arith}
use Rattle.kept_simplify.proofs.Shrinking.{source_fits, shrink-one, block-moves, block-shrinks, fork-fits}
use Rattle.kept_simplify.proofs.Shrinking.{forked, fork-numbers, second-source, second-apart, ends, rest-room, rest-source, rest-apart, pending, shrunk}
use Rattle.kept_simplify.proofs.simplifying.+shrink.Goals as goal

pub overflow_sub-k : goal.overflow_sub-k
overflow_sub-k τ c = let (p, t, s) = c.requires.0 in omega (arith, source_fits s)

pub returns-then-k-eq1 : goal.returns-then-k-eq1
returns-then-k-eq1 τ c p t s = shrink-one s c.if-k-eq1.true

pub block-requires : goal.block-requires
block-requires τ c = let (p, t, s) = c.requires.0 in block-moves s c.if-k-eq1.false

pub returns-then-e-next : goal.returns-then-e-next
returns-then-e-next τ c p t s = block-shrinks s c.if-k-eq1.false c.requires.1 c.if-e-next.true c.block.ensures

pub fork_at-h-requires : goal.fork_at-h-requires
fork_at-h-requires τ c = let (p, t, s) = c.requires.0 in (s.room, (source_fits s).0, fork-fits s c.if-k-eq1.false)

pub overflow_add-i : goal.overflow_add-i
overflow_add-i τ c = let (p, t, s) = c.requires.0 in omega (arith, source_fits s)

pub overflow_add-o : goal.overflow_add-o
overflow_add-o τ c = let (p, t, s) = c.requires.0 in omega (arith, source_fits s)

pub shrink-r-requires : goal.shrink-r-requires
shrink-r-requires τ c = let (p, t, s) = c.requires.0 in
    let d = forked s c.if-k-eq1.false c.fork_at-h.ensures in
    (omega (arith, fork-numbers d, c.decreases), ((_, _, second-source d), second-apart d c.requires.1))

pub overflow_cast-h : goal.overflow_cast-h
overflow_cast-h τ c = let (p, t, s) = c.requires.0 in
    omega (arith, fork-numbers (forked s c.if-k-eq1.false c.fork_at-h.ensures))

pub net_at-first-requires : goal.net_at-first-requires
net_at-first-requires τ c = let (p, t, s) = c.requires.0 in
    let d = forked s c.if-k-eq1.false c.fork_at-h.ensures in
    let g = fork-numbers d in
    record { kept_room = rest-room d _ _ (c.shrink-r.ensures _ _ (second-source d)); le_i = (omega arith, omega arith) }

pub join_from-after-requires : goal.join_from-after-requires
join_from-after-requires τ c = let (p, t, s) = c.requires.0 in
    let d = forked s c.if-k-eq1.false c.fork_at-h.ensures in
    let g = fork-numbers d in
    let h = c.shrink-r.ensures _ _ (second-source d) in
    record { kept_room = rest-room d _ _ h; le_m = (omega arith, omega arith, g.2); apart = rest-apart d _ _ h c.requires.1 }

pub overflow_add-o-2 : goal.overflow_add-o-2
overflow_add-o-2 τ c = let (p, t, s) = c.requires.0 in
    omega (arith, source_fits s)

pub overflow_add-o-3 : goal.overflow_add-o-3
overflow_add-o-3 τ c = let (p, t, s) = c.requires.0 in
    let d = forked s c.if-k-eq1.false c.fork_at-h.ensures in
    omega (arith, fork-numbers d, ends d _ _ (c.shrink-r.ensures _ _ (second-source d)))

pub shrink-l-requires : goal.shrink-l-requires
shrink-l-requires τ c = let (p, t, s) = c.requires.0 in
    let d = forked s c.if-k-eq1.false c.fork_at-h.ensures in (
      omega (arith, fork-numbers d, c.decreases),
      ((_, _, rest-source d _ _ (c.shrink-r.ensures _ _ (second-source d))), c.join_from-after.ensures),
    )

pub write_over-requires : goal.write_over-requires
write_over-requires τ c = let (p, t, s) = c.requires.0 in
    let d = forked s c.if-k-eq1.false c.fork_at-h.ensures in
    let h = c.shrink-r.ensures _ _ (second-source d) in
    (_, _, _, _, pending d _ _ h _ _ _ c.net_at-first.ensures (c.shrink-l.ensures _ _ (rest-source d _ _ h)))

pub returns : goal.returns
returns τ c p t s = let d = forked s c.if-k-eq1.false c.fork_at-h.ensures in
    let h = c.shrink-r.ensures _ _ (second-source d) in
    let g = c.shrink-l.ensures _ _ (rest-source d _ _ h) in
    shrunk d _ _ h _ _ _ c.net_at-first.ensures g _ _ (c.write_over.ensures _ _ _ _ (pending d _ _ h _ _ _ c.net_at-first.ensures g))
