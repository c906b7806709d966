-- `combining::emit` meets its contract, by the fuel. Assumes nothing.
use mathlib.Core.Path.{◌∙◌}
use mathlib.Core.Bool.{true, false}
use native.Mathlib.Omega.{arith}
use Rattle.trie_paths.specs.Spans.{snoc}
use Rattle.kept_emit.proofs.Answered.{len_of}
use Rattle.kept_emit.proofs.Steps.{op-none, op-full, halving, inside, left-inputs, left-gap, rest-inputs, rest-gap, pending, emitted}
use Rattle.kept_emit.proofs.combining.+emit.Goals as goal

pub outcome-v-requires : goal.outcome-v-requires
outcome-v-requires τ c = let (o, p, t, u, is, s, g) = c.requires in (s.hold, (o, _, p, t, u, len_of _ p is, s.first, s.second))

pub returns-then-v-eq-EMPTY : goal.returns-then-v-eq-EMPTY
returns-then-v-eq-EMPTY τ c o p t u is s g = op-none s _ _ (c.outcome-v.ensures o _ p t u (len_of _ p is) s.first s.second) c.if-v-eq-EMPTY.true

pub returns-then-v-eq-FULL : goal.returns-then-v-eq-FULL
returns-then-v-eq-FULL τ c o p t u is s g = op-full s _ _ (c.outcome-v.ensures o _ p t u (len_of _ p is) s.first s.second) c.if-v-eq-FULL.true

pub halves-p-requires : goal.halves-p-requires
halves-p-requires τ c = let (o, p, t, u, is, s, g) = c.requires in
    (s.hold, (o, _, p, t, u, len_of _ p is, s.first, s.second))

pub halves-q-requires : goal.halves-q-requires
halves-q-requires τ c = let (o, p, t, u, is, s, g) = c.requires in
    (s.hold, (o, _, p, t, u, len_of _ p is, s.first, s.second))

pub child-first-requires : goal.child-first-requires
child-first-requires τ c = let (o, p, t, u, is, s, g) = c.requires in (_, p, is, inside (halving s c.args.op _ (c.outcome-v.ensures o _ p t u (len_of _ p is) s.first s.second) c.if-v-eq-EMPTY.false c.if-v-eq-FULL.false (c.halves-p.ensures o _ p t u (len_of _ p is) s.first s.second) (c.halves-q.ensures o _ p t u (len_of _ p is) s.first s.second)))

pub emit-l-requires : goal.emit-l-requires
emit-l-requires τ c = let (o, p, t, u, is, s, g) = c.requires in
    let d = halving s c.args.op _ (c.outcome-v.ensures o _ p t u (len_of _ p is) s.first s.second) c.if-v-eq-EMPTY.false c.if-v-eq-FULL.false (c.halves-p.ensures o _ p t u (len_of _ p is) s.first s.second) (c.halves-q.ensures o _ p t u (len_of _ p is) s.first s.second) in
    (omega (arith, c.decreases, s.turn), (o, snoc p false, _, _, c.child-first.ensures _ p is, left-inputs d, left-gap d g))

pub child-second-requires : goal.child-second-requires
child-second-requires τ c = let (o, p, t, u, is, s, g) = c.requires in
    (_, p, is, inside (halving s c.args.op _ (c.outcome-v.ensures o _ p t u (len_of _ p is) s.first s.second) c.if-v-eq-EMPTY.false c.if-v-eq-FULL.false (c.halves-p.ensures o _ p t u (len_of _ p is) s.first s.second) (c.halves-q.ensures o _ p t u (len_of _ p is) s.first s.second)))

pub emit-r-requires : goal.emit-r-requires
emit-r-requires τ c = let (o, p, t, u, is, s, g) = c.requires in
    let d = halving s c.args.op _ (c.outcome-v.ensures o _ p t u (len_of _ p is) s.first s.second) c.if-v-eq-EMPTY.false c.if-v-eq-FULL.false (c.halves-p.ensures o _ p t u (len_of _ p is) s.first s.second) (c.halves-q.ensures o _ p t u (len_of _ p is) s.first s.second) in
    let y = c.emit-l.ensures o (snoc p false) _ _
    (c.child-first.ensures _ p is) (left-inputs d) (left-gap d g) in (
      omega (arith, c.decreases, s.turn),
      (
        o,
        snoc p true,
        _,
        _,
        c.child-second.ensures _ p is,
        rest-inputs d g _ _ _ y
            (rw c.size_of.ensures at c.saturating_sub-m.ensures),
        rest-gap d g _ _ _ y (rw c.size_of.ensures at c.saturating_sub-m.ensures),
      ),
    )

pub finish-requires : goal.finish-requires
finish-requires τ c = let (o, p, t, u, is, s, g) = c.requires in
    let d = halving s c.args.op _ (c.outcome-v.ensures o _ p t u (len_of _ p is) s.first s.second) c.if-v-eq-EMPTY.false c.if-v-eq-FULL.false (c.halves-p.ensures o _ p t u (len_of _ p is) s.first s.second) (c.halves-q.ensures o _ p t u (len_of _ p is) s.first s.second) in
    let y = c.emit-l.ensures o (snoc p false) _ _
    (c.child-first.ensures _ p is) (left-inputs d) (left-gap d g) in
    let k = (rw c.size_of.ensures at c.saturating_sub-m.ensures) in
    let x = c.emit-r.ensures o (snoc p true) _ _ (c.child-second.ensures _ p is)
    (rest-inputs d g _ _ _ y k) (rest-gap d g _ _ _ y k) in
    (_, p, _, _, is, pending d g _ _ _ y k _ _ x)

pub returns : goal.returns
returns τ c o p t u is s g = let d = halving s c.args.op _ (c.outcome-v.ensures o _ p t u (len_of _ p is) s.first s.second) c.if-v-eq-EMPTY.false c.if-v-eq-FULL.false (c.halves-p.ensures o _ p t u (len_of _ p is) s.first s.second) (c.halves-q.ensures o _ p t u (len_of _ p is) s.first s.second) in
    let y = c.emit-l.ensures o (snoc p false) _ _
    (c.child-first.ensures _ p is) (left-inputs d)
    (left-gap d g) in
    let k = (rw c.size_of.ensures at c.saturating_sub-m.ensures) in
    let x = c.emit-r.ensures o (snoc p true) _ _
    (c.child-second.ensures _ p is) (rest-inputs d g _ _ _ y k) (rest-gap d g _ _ _ y k) in
    emitted d g _ _ _ y k _ _ x _ _ (λ v q a b r h. c.finish.ensures v q a b (is ∙ r) h)
