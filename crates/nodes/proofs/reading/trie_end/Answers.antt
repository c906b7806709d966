-- `reading::trie_end` meets its contract. The loop's invariant: what the stack makes of the end of the part now read is the answer. Assumes nothing.
use native.Mathlib.Omega.{arith}
use borrow.Author.Rules.{rules}
use Rattle.nodes.proofs.Check.{known, loop-start, end-dry, end-past, flags-small, gone, done, refused, onward}
use Rattle.nodes.proofs.reading.trie_end.Goals as goal

pub loop-at-init : goal.loop-at-init
loop-at-init c = loop-start c.requires.le_root.0 (search rules)

pub returns-then-limit-at : goal.returns-then-limit-at
returns-then-limit-at c = gone c.loop-at.invariant (end-dry _ _ _ _ _ (omega (arith, c.if-limit-at.true)))

pub returns-then-n-i : goal.returns-then-n-i
returns-then-n-i c = gone c.loop-at.invariant (end-past _ _ _ _ _ c.if-n-i.true)

pub overflow_add-sp : goal.overflow_add-sp
overflow_add-sp c = omega (arith, flags-small {x = c.word_at-x.result} (record { none = c.from-leaf.ensures; both = c.from-two.ensures }))

pub overflow_sub-sp : goal.overflow_sub-sp
overflow_sub-sp c = omega (arith, flags-small {x = c.word_at-x.result} (record { none = c.from-leaf.ensures; both = c.from-two.ensures }))

pub returns-then-sp-eq0 : goal.returns-then-sp-eq0
returns-then-sp-eq0 c = done c.loop-at.invariant (known c.if-limit-at.false c.if-n-i.false c.word_at-x.ensures) (record { none = c.from-leaf.ensures; both = c.from-two.ensures }) c.if-sp-eq0.true

pub returns-then-at-down : goal.returns-then-at-down
returns-then-at-down c = refused c.loop-at.invariant (known c.if-limit-at.false c.if-n-i.false c.word_at-x.ensures) (record { none = c.from-leaf.ensures; both = c.from-two.ensures }) (search rules) c.if-limit-at.false c.if-sp-eq0.false c.either-at.ensures c.if-at-down.true

pub loop-at-preserved : goal.loop-at-preserved
loop-at-preserved c = onward c.loop-at.invariant (known c.if-limit-at.false c.if-n-i.false c.word_at-x.ensures) (record { none = c.from-leaf.ensures; both = c.from-two.ensures }) (search rules) c.if-limit-at.false c.if-sp-eq0.false c.either-at.ensures c.if-at-down.false
