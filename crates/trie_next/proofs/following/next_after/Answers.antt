-- `following::next_after` meets its contract. Assumes nothing.
use mathlib.Core.List.{[]}
use mathlib.Core.Path.{◌≡◌}
use Prim.Native.Nat.{◌≤◌}
use native.Mathlib.Omega.{arith}
use Rattle.std.specs.Prelude.{Option, Some}
use Rattle.nets.specs.Networks.{bits_left}
use Rattle.nets.specs.declared.PrefixBits.{PrefixBits}
use Rattle.trie_paths.proofs.Paths.{located-root}
use Rattle.nets.proofs.Handing.{length-bits_left}
use Rattle.trie_next.specs.Following.{len_of}
use Rattle.trie_next.proofs.Resuming.{next_start, next-later, next-on}
use Rattle.trie_next.proofs.following.next_after.Goals as goal

short : {place : Option PrefixBits} {s : PrefixBits} → len_of place ≤ 128 → place ≡ Some s → s.len ≤ 128
short h e = rw e at h

pub later-n-requires : goal.later-n-requires
later-n-requires c = let p = c.requires.holds in
    record { len_bound = short c.requires.place_bound c.in-Some.is; by_index = (_, [], p.0, located-root p.1 c.whole.ensures) }

pub from_length-requires-in-None-n : goal.from_length-requires-in-None-n
from_length-requires-in-None-n c = record { k_bound = omega (arith, short c.requires.place_bound c.in-Some.is); holds = c.requires.holds }

pub returns-in-None : goal.returns-in-None
returns-in-None c t o = rw c.in-None.is (next_start o (c.from_length.ensures t o))

pub returns-in-Some-n : goal.returns-in-Some-n
returns-in-Some-n c t o = let s = c.in-Some.s in
    let r = c.later-n.ensures _ _ t (located-root o c.whole.ensures) in
    let h = short c.requires.place_bound c.in-Some.is in
    rw c.in-Some.is (next-later o (bits_left s) s.len (length-bits_left s h) h r c.in-Some-n.is)

pub returns-in-None-n : goal.returns-in-None-n
returns-in-None-n c t o = let s = c.in-Some.s in
    let r = c.later-n.ensures _ _ t (located-root o c.whole.ensures) in
    let h = short c.requires.place_bound c.in-Some.is in
    rw c.in-Some.is (next-on o (bits_left s) s.len (length-bits_left s h) h r c.in-None-n.is (c.from_length-in-None-n.ensures t o))
