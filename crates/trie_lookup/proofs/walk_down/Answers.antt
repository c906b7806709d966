-- `walk_down` meets its contract. The loop's invariant: the walk from here shows what the whole walk shows. Assumes nothing.
use mathlib.Core.Path.{refl, ap, sym, ◌∙◌}
use Prim.Native.Nat.{◌-◌}
use native.Mathlib.Omega.{arith}
use lib.ListN.{get_or}
use Rattle.nets.specs.Networks.{bits_left, next_as}
use Rattle.trie_lookup.specs.Walks.{walk}
use Rattle.trie_lookup.proofs.Turns.{placed-asks, placed-start, Seen, seen-less, seen-leaf, seen-lone, seen-chain, seen-fork}
use Rattle.trie_lookup.proofs.walk_down.Goals as goal

seen : (c : goal.Then-x-eq0) →
    let a = c.args in
    Seen a.w.now a.b a.n (walk a.w.now a.b a.n (a.len - a.bits.len) a.root (bits_left a.bits)) a.len c.loop-bit.p c.loop-bit.left (get_or a.w.now c.loop-bit.p 0)
    c.in-Some.bit c.in-Some.later
seen c = record { placed = c.loop-bit.invariant; is = refl; before = c.if-last-q.false; next = sym c.next-next.ensures ∙ ap next_as c.in-Some.is }

seen-then-x-lone : (c : goal.Then-x-lone) →
    let a = c.args in
    Seen a.w.now a.b a.n (walk a.w.now a.b a.n (a.len - a.bits.len) a.root (bits_left a.bits)) a.len c.loop-bit.p c.loop-bit.left (get_or a.w.now c.loop-bit.p 0)
    c.in-Some.bit c.in-Some.later
seen-then-x-lone c = record { placed = c.loop-bit.invariant; is = refl; before = c.if-last-q.false; next = sym c.next-next.ensures ∙ ap next_as c.in-Some.is }

seen-else-x-lone : (c : goal.Else-x-lone) →
    let a = c.args in
    Seen a.w.now a.b a.n (walk a.w.now a.b a.n (a.len - a.bits.len) a.root (bits_left a.bits)) a.len c.loop-bit.p c.loop-bit.left (get_or a.w.now c.loop-bit.p 0)
    c.in-Some.bit c.in-Some.later
seen-else-x-lone c = record { placed = c.loop-bit.invariant; is = refl; before = c.if-last-q.false; next = sym c.next-next.ensures ∙ ap next_as c.in-Some.is }

seen-child-p : (c : goal.After-child-p) →
    let a = c.args in
    Seen a.w.now a.b a.n (walk a.w.now a.b a.n (a.len - a.bits.len) a.root (bits_left a.bits)) a.len c.loop-bit.p c.loop-bit.left (get_or a.w.now c.loop-bit.p 0)
    c.in-Some.bit c.in-Some.later
seen-child-p c = record { placed = c.loop-bit.invariant; is = refl; before = c.if-last-q.false; next = sym c.next-next.ensures ∙ ap next_as c.in-Some.is }

pub loop-bit-init : goal.loop-bit-init
loop-bit-init c = let h = c.requires in placed-start h.1 h.2 h.3 h.4

pub walk_tested-requires : goal.walk_tested-requires
walk_tested-requires c = placed-asks c.requires.0 c.loop-bit.invariant

pub returns-in-None : goal.returns-in-None
returns-in-None c = c.walk_tested.ensures ∙ c.loop-bit.invariant.down.rest

pub overflow_cast-x : goal.overflow_cast-x
overflow_cast-x c = omega (arith, c.type_inv.w c.loop-bit.p)

pub overflow_add-q : goal.overflow_add-q
overflow_add-q c = omega (arith, c.type_inv.w c.loop-bit.p, placed-asks c.requires.0 c.loop-bit.invariant)

pub walk_tested-requires-then-last-q : goal.walk_tested-requires-then-last-q
walk_tested-requires-then-last-q c = placed-asks c.requires.0 c.loop-bit.invariant

pub returns-then-last-q : goal.returns-then-last-q
returns-then-last-q c = c.walk_tested-then-last-q.ensures ∙ c.loop-bit.invariant.down.rest

pub returns-then-x-eq0 : goal.returns-then-x-eq0
returns-then-x-eq0 c = seen-leaf (seen c) c.if-x-eq0.true

pub returns-then-x-lone : goal.returns-then-x-lone
returns-then-x-lone c = seen-lone (seen-then-x-lone c) c.if-x-eq0.false c.if-x-lt3.true (λ e. c.if-x-lone.true (e ∙ sym c.lone.ensures))

pub walk_tested-requires-then-x-eq0-2 : goal.walk_tested-requires-then-x-eq0-2
walk_tested-requires-then-x-eq0-2 c = placed-asks c.requires.0 c.loop-bit.invariant

pub returns-then-x-eq0-2 : goal.returns-then-x-eq0-2
returns-then-x-eq0-2 c = c.walk_tested-then-x-eq0-2.ensures ∙ c.loop-bit.invariant.down.rest

pub loop-bit-smaller-else-x-lone : goal.loop-bit-smaller-else-x-lone
loop-bit-smaller-else-x-lone c = seen-less (seen-else-x-lone c)

pub loop-bit-preserved-else-x-lone : goal.loop-bit-preserved-else-x-lone
loop-bit-preserved-else-x-lone c = seen-chain (seen-else-x-lone c) c.if-x-eq0.false (c.if-x-lone.false ∙ c.lone.ensures)

pub loop-bit-smaller : goal.loop-bit-smaller
loop-bit-smaller c = seen-less (seen-child-p c)

pub loop-bit-preserved : goal.loop-bit-preserved
loop-bit-preserved c = seen-fork (seen-child-p c) c.if-x-lt3.false c.if-x-eq0-2.false c.child-p.ensures
