-- `seated::tally` meets its contract, in each form by that form's tally. Assumes nothing.
-- what stands there in the second form
use native.Mathlib.Omega.{arith}
use borrow.Author.Rules.{rules}
use Rattle.nets.specs.Tries.{Trie}
use Rattle.kept_spots.specs.Onward.{KeptStandsIn}
use Rattle.listing.proofs.ByForm.{held_first, held-second, kept-some, kept_small}
use Rattle.listing.proofs.seated.tally.Goals as goal

second : (c : goal.After-struct_known-1) → let a = c.args in (t : Trie) × KeptStandsIn a.pool.now a.s t
second c = let (t, h) = c.requires in (t, held-second h c.is_first.ensures c.if-is_first.false)

pub tally-requires : goal.tally-requires
tally-requires c = let (t, h) = c.requires in (_, t, held_first h c.is_first.ensures c.if-is_first.true)

pub returns-then-is_first : goal.returns-then-is_first
returns-then-is_first c t h = c.tally.ensures _ t (held_first h c.is_first.ensures c.if-is_first.true)

pub overflow_sub-n : goal.overflow_sub-n
overflow_sub-n c = let (t, k) = second c in kept-some k

pub overflow_cast-n : goal.overflow_cast-n
overflow_cast-n c = let (t, k) = second c in omega (arith, kept_small k)

pub tally-requires-2 : goal.tally-requires-2
tally-requires-2 c = second c

pub returns : goal.returns
returns c t h = c.tally-2.ensures t (held-second h c.is_first.ensures c.if-is_first.false)
