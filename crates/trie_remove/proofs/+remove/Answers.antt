-- The proof of the cycle of calls {remove}. The measure is how many bits are left. Assumes nothing.
use native.Mathlib.Omega.{arith}
use Rattle.trie_remove.proofs.Descent.{size-full}
use Rattle.trie_remove.proofs.Inward.{child-here, gone-here, linked-here, linkable-here, removable-here}
use Rattle.trie_remove.proofs.Splices.{left-nothing, left-full}
use Rattle.trie_remove.proofs.+remove.Goals as goal

pub step_down-n-requires : goal.step_down-n-requires
step_down-n-requires τ c = let p = c.requires in (p.0, (p.1.t, p.1.rest, _, p.1.here))

pub take_out-requires : goal.take_out-requires
take_out-requires τ c = let h = c.requires.1 in ((h.one, omega (arith, h.above, h.here.end)), (_, h.t, h.rest, h.here))

pub split-requires : goal.split-requires
split-requires τ c = let p = c.requires in
    let h = p.1 in
    let e = rw c.in-Full.is at (c.step_down-n.ensures _ _ _ h.here) in
    (p.0, (h.t, h.rest, h.here, omega (arith, h.room, size-full c.args.s h.t e.0 p.0)))

pub remove-y-requires : goal.remove-y-requires
remove-y-requires τ c = let n = rw c.in-Inner.is at (c.step_down-n.ensures _ _ _ c.requires.1.here) in
    (omega (arith, c.decreases, n.fewer), (omega (arith, c.requires.0, n.fewer), rw c.above.ensures (removable-here c.requires.1.here n _ c.requires.1.one c.requires.1.above c.requires.1.room)))

pub returns-then-y-from : goal.returns-then-y-from
returns-then-y-from τ c t' rest g = let n = rw c.in-Inner.is at (c.step_down-n.ensures t' rest _ g) in
    gone-here g n _ _ _ c.requires.1.above (rw c.above.ensures at (c.remove-y.ensures _ _ (child-here g n))) c.if-y-from.true

pub relink-requires : goal.relink-requires
relink-requires τ c = let p = c.requires in
    let g = p.1.here in
    let n = rw c.in-Inner.is at (c.step_down-n.ensures _ _ _ g) in
    linkable-here g n (omega (arith, p.0, n.fewer)) _ _ _ c.remove-y.auto.w (rw c.above.ensures at (c.remove-y.ensures _ _ (child-here g n))) c.if-y-from.false

pub returns-in-Nothing : goal.returns-in-Nothing
returns-in-Nothing τ c t rest g = left-nothing _ _ t (rw c.in-Nothing.is at (c.step_down-n.ensures t rest _ g)) (c.take_out.ensures _ t rest g)

pub returns-in-Full : goal.returns-in-Full
returns-in-Full τ c t rest g = let e = rw c.in-Full.is at (c.step_down-n.ensures t rest _ g) in
    left-full _ _ t c.requires.0 e (c.split.ensures t rest g)

pub returns-else-y-from : goal.returns-else-y-from
returns-else-y-from τ c t' rest g = let r = c.relink.ensures in
    let n = rw c.in-Inner.is at (c.step_down-n.ensures t' rest _ g) in
    linked-here g n _ _ _ _ _ (rw c.above.ensures at (c.remove-y.ensures _ _ (child-here g n))) c.if-y-from.false r.0 r.1
