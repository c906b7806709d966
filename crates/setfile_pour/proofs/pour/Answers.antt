-- `pour` meets its contract. Assumes nothing.
use mathlib.Core.Path.{refl}
use native.Mathlib.Omega.{arith}
use borrow.Author.Rules.{rules}
use Rattle.setfile_pour.proofs.Pouring.{rest-fits, slide, writes, poured}
use Rattle.setfile_pour.proofs.pour.Goals as goal

pub trim-m-requires : goal.trim-m-requires
trim-m-requires c = let (l, t, p) = c.requires in (l, t, p.source)

pub overflow_sub-a : goal.overflow_sub-a
overflow_sub-a c = let (l, t, p) = c.requires in
    omega (arith, rest-fits p (c.trim-m.ensures l t p.source))

pub overflow_sub-a-2 : goal.overflow_sub-a-2
overflow_sub-a-2 c = let (l, t, p) = c.requires in
    omega (arith, rest-fits p (c.trim-m.ensures l t p.source))

pub keep-requires : goal.keep-requires
keep-requires c = let (l, t, p) = c.requires in
    (_, slide p (c.trim-m.ensures l t p.source) _ refl)

pub write-requires : goal.write-requires
write-requires c = let (l, t, p) = c.requires in
    let m = c.trim-m.ensures l t p.source in
    (l, _, writes p m _ refl (c.keep.ensures _ (slide p m _ refl)))

pub returns : goal.returns
returns c l t p = let m = c.trim-m.ensures l t p.source in
    let h = c.keep.ensures _ (slide p m _ refl) in
    poured p m _ refl h (c.write.ensures l _ (writes p m _ refl h))
