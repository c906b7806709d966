-- `walk_tested` meets its contract. The loop's invariant: the walk from here shows what the whole walk shows. Assumes nothing.
use mathlib.Core.Path.{refl, ap, sym, ◌∙◌}
use Prim.Native.Nat.{◌+◌, ◌-◌}
use native.Mathlib.Omega.{arith}
use Rattle.nets.specs.Networks.{bits_left, next_as}
use Rattle.trie_lookup.specs.Walks.{walk}
use Rattle.trie_lookup.specs.declared.Shown.{Shown}
use Rattle.trie_lookup.proofs.Turns.{down-leaf, down-first, down-second, Inner, inner-end, Turned, turned_none, turned-less, turned-within, turned_on}
use Rattle.trie_lookup.proofs.walk_tested.Goals as goal

abbrev target : (c : goal.In-None) → Shown
target c = let a = c.args in walk a.w.now a.b a.n a.above (a.p + 1 - a.b) (bits_left a.bits)

inner : (c : goal.In-None) →
    let a = c.args in
    Inner a.w.now a.b a.n (target c) c.loop-left.i c.loop-left.d c.loop-left.left c.word_at-x.result
inner c = record {
  down = c.loop-left.invariant;
  is = c.word_at-x.ensures;
  no-leaf = c.if-x-eq0.false;
  first = c.if-n-i.false;
  second = c.if-n-i-2.false;
}

abbrev target-then-c-eq0 : (c : goal.Then-c-eq0) → Shown
target-then-c-eq0 c = let a = c.args in walk a.w.now a.b a.n a.above (a.p + 1 - a.b) (bits_left a.bits)

inner-then-c-eq0 : (c : goal.Then-c-eq0) →
    let a = c.args in
    Inner a.w.now a.b a.n (target-then-c-eq0 c) c.loop-left.i c.loop-left.d c.loop-left.left c.word_at-x.result
inner-then-c-eq0 c = record {
  down = c.loop-left.invariant;
  is = c.word_at-x.ensures;
  no-leaf = c.if-x-eq0.false;
  first = c.if-n-i.false;
  second = c.if-n-i-2.false;
}

turned : (c : goal.Then-c-eq0) →
    let a = c.args in
    Turned a.w.now a.b a.n (target-then-c-eq0 c) c.loop-left.i c.loop-left.d c.loop-left.left c.word_at-x.result c.turn-c.result
    c.in-Some.bit c.in-Some.later
turned c = record { inner = inner-then-c-eq0 c; next = sym c.next-next.ensures ∙ ap next_as c.in-Some.is; by = c.turn-c.ensures }

abbrev target-else-c-eq0 : (c : goal.Else-c-eq0) → Shown
target-else-c-eq0 c = let a = c.args in walk a.w.now a.b a.n a.above (a.p + 1 - a.b) (bits_left a.bits)

inner-else-c-eq0 : (c : goal.Else-c-eq0) →
    let a = c.args in
    Inner a.w.now a.b a.n (target-else-c-eq0 c) c.loop-left.i c.loop-left.d c.loop-left.left c.word_at-x.result
inner-else-c-eq0 c = record {
  down = c.loop-left.invariant;
  is = c.word_at-x.ensures;
  no-leaf = c.if-x-eq0.false;
  first = c.if-n-i.false;
  second = c.if-n-i-2.false;
}

turned-else-c-eq0 : (c : goal.Else-c-eq0) →
    let a = c.args in
    Turned a.w.now a.b a.n (target-else-c-eq0 c) c.loop-left.i c.loop-left.d c.loop-left.left c.word_at-x.result c.turn-c.result
    c.in-Some.bit c.in-Some.later
turned-else-c-eq0 c = record { inner = inner-else-c-eq0 c; next = sym c.next-next.ensures ∙ ap next_as c.in-Some.is; by = c.turn-c.ensures }

pub loop-left-init : goal.loop-left-init
loop-left-init c = record { one = omega arith; within = omega arith; few = omega arith; rest = refl }

pub overflow_add-result : goal.overflow_add-result
overflow_add-result c = omega (arith, c.loop-left.invariant.few)

pub returns-then-x-eq0 : goal.returns-then-x-eq0
returns-then-x-eq0 c = down-leaf c.loop-left.invariant c.word_at-x.ensures c.if-x-eq0.true

pub returns-then-n-i : goal.returns-then-n-i
returns-then-n-i c = down-first c.loop-left.invariant c.word_at-x.ensures c.if-x-eq0.false c.if-n-i.true

pub returns-then-n-i-2 : goal.returns-then-n-i-2
returns-then-n-i-2 c = down-second c.loop-left.invariant c.word_at-x.ensures c.if-x-eq0.false c.if-n-i-2.true

pub overflow_add-result-in-None : goal.overflow_add-result-in-None
overflow_add-result-in-None c = omega (arith, (inner c).down.few)

pub returns-in-None : goal.returns-in-None
returns-in-None c = inner-end (inner c) (sym c.next-next.ensures ∙ ap next_as c.in-None.is)

pub overflow_add-result-then-c-eq0 : goal.overflow_add-result-then-c-eq0
overflow_add-result-then-c-eq0 c = omega (arith, turned-less (turned c), (inner-then-c-eq0 c).down.few)

pub returns-then-c-eq0 : goal.returns-then-c-eq0
returns-then-c-eq0 c = turned_none (turned c) c.if-c-eq0.true

pub overflow_add-i-in-Some : goal.overflow_add-i-in-Some
overflow_add-i-in-Some c = omega (arith, turned-within (turned-else-c-eq0 c))

pub overflow_add-d : goal.overflow_add-d
overflow_add-d c = omega (arith, turned-less (turned-else-c-eq0 c))

pub loop-left-smaller : goal.loop-left-smaller
loop-left-smaller c = omega (arith, turned-less (turned-else-c-eq0 c))

pub loop-left-preserved : goal.loop-left-preserved
loop-left-preserved c = turned_on (turned-else-c-eq0 c) c.if-c-eq0.false
