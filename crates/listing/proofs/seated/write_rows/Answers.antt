-- `seated::write_rows` meets its contract, in each form by that form's rows. Assumes nothing.
-- what stands there in the second form
use native.Mathlib.Omega.{arith}
use borrow.Author.Rules.{rules}
use Rattle.nets.specs.Tries.{Trie}
use Rattle.kept_spots.specs.Onward.{KeptStandsIn}
use Rattle.listing.proofs.ByForm.{held-second, kept-some, kept_small, layable-first, layable-second}
use Rattle.listing.proofs.seated.write_rows.Goals as goal

second : (c : goal.After-struct_known-1) → let a = c.args in (t : Trie) × KeptStandsIn a.pool.now a.s t
second c = let (t, h) = c.requires in (t, held-second h.holds c.is_first.ensures c.if-is_first.false)

pub write_rows-requires : goal.write_rows-requires
write_rows-requires c = let (t, h) = c.requires in (t, layable-first h c.is_first.ensures c.if-is_first.true)

pub returns-then-is_first : goal.returns-then-is_first
returns-then-is_first c t h = c.write_rows.ensures t (layable-first h c.is_first.ensures c.if-is_first.true)

pub overflow_sub-n : goal.overflow_sub-n
overflow_sub-n c = let (t, k) = second c in kept-some k

pub overflow_cast-n : goal.overflow_cast-n
overflow_cast-n c = let (t, k) = second c in omega (arith, kept_small k)

pub write_rows-requires-2 : goal.write_rows-requires-2
write_rows-requires-2 c = let (t, h) = c.requires in (t, layable-second h c.is_first.ensures c.if-is_first.false)

pub returns : goal.returns
returns c t h = c.write_rows-2.ensures t (layable-second h c.is_first.ensures c.if-is_first.false)
