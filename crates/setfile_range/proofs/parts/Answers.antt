-- `parts` meets its contract. Assumes nothing.
use mathlib.Core.Bool.{not, beq as same}
use mathlib.Core.Path.{sym, ap₂, ◌∙◌}
use Rattle.setfile_range.proofs.parts.Goals as goal

pub returns-then-apart : goal.returns-then-apart
returns-then-apart c f p q d e r s o = rw c.if-apart.true

pub bit_of-requires : goal.bit_of-requires
bit_of-requires c = let (f, p, q, d, e, r, s, o) = c.requires in (f, p, d, r, o.left)

pub bit_of-requires-2 : goal.bit_of-requires-2
bit_of-requires-2 c = let (f, p, q, d, e, r, s, o) = c.requires in (f, q, e, s, o.right)

pub returns : goal.returns
returns c f p q d e r s o = ap₂ (λ a b. not (same a b)) (c.bit_of.ensures f p d r o.left) (c.bit_of-2.ensures f q e s o.right) ∙ sym (rw c.if-apart.false)
