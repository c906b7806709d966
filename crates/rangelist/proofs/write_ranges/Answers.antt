-- `write_ranges` meets its contract, in each form by that form's pass. Assumes nothing.
use native.Mathlib.Omega.{arith}
use Rattle.listing.proofs.ByForm.{held_first, held-second, kept-some, kept_small}
use Rattle.rangelist.proofs.write_ranges.Goals as goal

pub write_ranges-requires : goal.write_ranges-requires
write_ranges-requires c = let (t, h) = c.requires in (t, held_first h c.is_first.ensures c.if-is_first.true)

pub returns-then-is_first : goal.returns-then-is_first
returns-then-is_first c t h = c.write_ranges.ensures t (held_first h c.is_first.ensures c.if-is_first.true)

pub overflow_sub-n : goal.overflow_sub-n
overflow_sub-n c = kept-some (held-second c.requires.1 c.is_first.ensures c.if-is_first.false)

pub overflow_cast-n : goal.overflow_cast-n
overflow_cast-n c = omega (arith, kept_small (held-second c.requires.1 c.is_first.ensures c.if-is_first.false))

pub write_ranges-requires-2 : goal.write_ranges-requires-2
write_ranges-requires-2 c = let (t, h) = c.requires in (t, held-second h c.is_first.ensures c.if-is_first.false)

pub returns : goal.returns
returns c t h = c.write_ranges-2.ensures t (held-second h c.is_first.ensures c.if-is_first.false)
