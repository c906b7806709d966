-- `step` meets its contract. Assumes nothing.
use mathlib.Core.List.{[]}
use native.Mathlib.Omega.{arith}
use Rattle.trie_pour.proofs.Parts.{part-stands, says-whole, says-split, says-leaf, says-leaf-split, says_none, says-none-split, says-inner, stands-low}
use Rattle.trie_pour.proofs.step.Goals as goal

pub returns-then-into : goal.returns-then-into
returns-then-into c t p = rw (c.if-whole.false, c.if-into.true) (says-whole t p c.if-i-eq0.true)

pub returns-then-i-eq0 : goal.returns-then-i-eq0
returns-then-i-eq0 c t p = rw (c.if-whole.false, c.if-into.false) (says-split t p c.if-i-eq0.true)

pub look-v-requires : goal.look-v-requires
look-v-requires c = let (t, p) = c.requires in (t, [], _, part-stands t p c.if-i-eq0.false)

pub returns-then-into-2 : goal.returns-then-into-2
returns-then-into-2 c t p = let n = c.if-i-eq0.false in
    rw (c.if-whole.false, c.if-into-2.true)
    (says-none-split t p n (rw c.in-Nothing.is at (c.look-v.ensures t [] _ (part-stands t p n))))

pub returns-then-into-3 : goal.returns-then-into-3
returns-then-into-3 c t p = let n = c.if-i-eq0.false in
    rw (c.if-whole.false, c.if-into-3.true)
    (says-leaf t p (rw c.in-Leaf.is at (c.look-v.ensures t [] _ (part-stands t p n))))

pub overflow_add-result : goal.overflow_add-result
overflow_add-result c = let (t, p) = c.requires in omega (arith, stands-low (part-stands t p c.if-i-eq0.false))

pub returns-else-into-2 : goal.returns-else-into-2
returns-else-into-2 c t p = let n = c.if-i-eq0.false in
    rw (c.if-whole.false, c.if-into-2.false)
    (says_none t p (rw c.in-Nothing.is at (c.look-v.ensures t [] _ (part-stands t p n))))

pub returns-else-into-3 : goal.returns-else-into-3
returns-else-into-3 c t p = let n = c.if-i-eq0.false in
    rw (c.if-whole.false, c.if-into-3.false)
    (says-leaf-split t p (rw c.in-Leaf.is at (c.look-v.ensures t [] _ (part-stands t p n))))

pub returns-in-Inner : goal.returns-in-Inner
returns-in-Inner c t p = let n = c.if-i-eq0.false in
    rw c.if-whole.false
    (says-inner t p n c.args.into _ (rw c.in-Inner.is at (c.look-v.ensures t [] _ (part-stands t p n))))
