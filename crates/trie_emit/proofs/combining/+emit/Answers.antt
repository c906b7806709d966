-- `combining::emit` meets its contract, by the fuel. Assumes nothing.
use native.Mathlib.Omega.{arith}
use Rattle.trie_emit.proofs.Combine.{op-none, op-full, split, left-inputs, left-gap, rest-inputs, rest-gap, pending, emitted}
use Rattle.trie_emit.proofs.combining.+emit.Goals as goal

pub outcome-v-requires : goal.outcome-v-requires
outcome-v-requires τ c = let (g, t, u, s, p) = c.requires in (_, g, t, u, s.first, s.second)

pub returns-then-v-eq-EMPTY : goal.returns-then-v-eq-EMPTY
returns-then-v-eq-EMPTY τ c g t u s p = op-none s _ _ (c.outcome-v.ensures _ g t u s.first s.second) c.if-v-eq-EMPTY.true

pub returns-then-v-eq-FULL : goal.returns-then-v-eq-FULL
returns-then-v-eq-FULL τ c g t u s p = op-full s _ _ (c.outcome-v.ensures _ g t u s.first s.second) c.if-v-eq-FULL.true

pub halves-p-requires : goal.halves-p-requires
halves-p-requires τ c = let (g, t, u, s, p) = c.requires in (_, g, t, u, s.first, s.second)

pub halves-q-requires : goal.halves-q-requires
halves-q-requires τ c = let (g, t, u, s, p) = c.requires in (_, g, t, u, s.first, s.second)

pub emit-l-requires : goal.emit-l-requires
emit-l-requires τ c = let (g, t, u, s, p) = c.requires in
    let d = split s c.args.op _ (c.outcome-v.ensures _ g t u s.first s.second) c.if-v-eq-EMPTY.false c.if-v-eq-FULL.false (c.halves-p.ensures _ g t u s.first s.second) (c.halves-q.ensures _ g t u s.first s.second) in
    (omega (arith, c.decreases, s.turn), (g, _, _, left-inputs d, left-gap d p))

pub emit-r-requires : goal.emit-r-requires
emit-r-requires τ c = let (g, t, u, s, p) = c.requires in
    let d = split s c.args.op _ (c.outcome-v.ensures _ g t u s.first s.second) c.if-v-eq-EMPTY.false c.if-v-eq-FULL.false (c.halves-p.ensures _ g t u s.first s.second) (c.halves-q.ensures _ g t u s.first s.second) in
    let l = c.emit-l.ensures g _ _ (left-inputs d) (left-gap d p) in
    let e = c.end_of-m.ensures in
    (omega (arith, c.decreases, s.turn), (g, _, _, rest-inputs d p _ _ _ l e, rest-gap d p _ _ _ l e))

pub finish-requires : goal.finish-requires
finish-requires τ c = let (g, t, u, s, p) = c.requires in
    let d = split s c.args.op _ (c.outcome-v.ensures _ g t u s.first s.second) c.if-v-eq-EMPTY.false c.if-v-eq-FULL.false (c.halves-p.ensures _ g t u s.first s.second) (c.halves-q.ensures _ g t u s.first s.second) in
    let l = c.emit-l.ensures g _ _ (left-inputs d) (left-gap d p) in
    let e = c.end_of-m.ensures in
    (_, _, _, pending d p _ _ _ l e _ _ (c.emit-r.ensures g _ _ (rest-inputs d p _ _ _ l e) (rest-gap d p _ _ _ l e)))

pub returns : goal.returns
returns τ c g t u s p = let d = split s c.args.op _ (c.outcome-v.ensures _ g t u s.first s.second) c.if-v-eq-EMPTY.false c.if-v-eq-FULL.false (c.halves-p.ensures _ g t u s.first s.second) (c.halves-q.ensures _ g t u s.first s.second) in
    let l = c.emit-l.ensures g _ _ (left-inputs d) (left-gap d p) in
    let e = c.end_of-m.ensures in
    emitted d p _ _ _ l e _ _ (c.emit-r.ensures g _ _ (rest-inputs d p _ _ _ l e) (rest-gap d p _ _ _ l e)) _ _ c.finish.ensures
