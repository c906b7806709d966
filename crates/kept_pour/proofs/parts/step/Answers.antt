-- `parts::step` meets its contract. Assumes nothing.
use native.Mathlib.Omega.{arith}
use Rattle.kept_pour.proofs.Found.{part-stands, stands-short, says-whole, says-split, says-leaf, says-leaf-split, says_none, says-fresh, says-inner}
use Rattle.kept_pour.proofs.parts.step.Goals as goal

pub returns-then-listed : goal.returns-then-listed
returns-then-listed c p t k e = rw c.if-listed.true

pub returns-then-into : goal.returns-then-into
returns-then-into c p t k e = rw (c.if-listed.false, c.if-into.true) (says-whole t k c.if-i-eq0.true)

pub returns-then-i-eq0 : goal.returns-then-i-eq0
returns-then-i-eq0 c p t k e = rw (c.if-listed.false, c.if-into.false) (says-split t k c.if-i-eq0.true)

pub overflow_cast-d : goal.overflow_cast-d
overflow_cast-d c = let (p, t, k, e) = c.requires in record { fits = omega (arith, e, stands-short (part-stands t k c.if-i-eq0.false)) }

pub look-v-requires : goal.look-v-requires
look-v-requires c = let (p, t, k, e) = c.requires in (_, p, t, _, part-stands t k c.if-i-eq0.false, e)

pub returns-then-into-2 : goal.returns-then-into-2
returns-then-into-2 c p t k e = let z = c.if-i-eq0.false in
    rw (c.if-listed.false, c.if-into-2.true)
    (says-fresh t k (rw c.in-Nothing.is at (c.look-v.ensures _ p t _ (part-stands t k z) e)))

pub returns-then-into-3 : goal.returns-then-into-3
returns-then-into-3 c p t k e = let z = c.if-i-eq0.false in
    rw (c.if-listed.false, c.if-into-3.true)
    (says-leaf t k (rw c.in-Leaf.is at (c.look-v.ensures _ p t _ (part-stands t k z) e)))

pub returns-else-into-2 : goal.returns-else-into-2
returns-else-into-2 c p t k e = let z = c.if-i-eq0.false in
    rw (c.if-listed.false, c.if-into-2.false)
    (says_none t k (rw c.in-Nothing.is at (c.look-v.ensures _ p t _ (part-stands t k z) e)))

pub returns-else-into-3 : goal.returns-else-into-3
returns-else-into-3 c p t k e = let z = c.if-i-eq0.false in
    rw (c.if-listed.false, c.if-into-3.false)
    (says-leaf-split t k (rw c.in-Leaf.is at (c.look-v.ensures _ p t _ (part-stands t k z) e)))

pub returns-in-Inner : goal.returns-in-Inner
returns-in-Inner c p t k e = let z = c.if-i-eq0.false in
    rw c.if-listed.false
    (says-inner t k z c.args.into _ _
    (rw c.in-Inner.is at (c.look-v.ensures _ p t _ (part-stands t k z) e)))
