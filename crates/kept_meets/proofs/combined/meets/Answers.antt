-- `combined::meets` meets its contract: the operation on the parts is the part of the operation. Assumes nothing.
use mathlib.Core.Path.{sym}
use Rattle.nets.specs.Networks.{bits_left}
use Rattle.nets.proofs.Handing.{length-bits_left}
use Rattle.trie_meets.proofs.Operation.{meets-down}
use Rattle.kept_meets.proofs.Operation.{down-inputs}
use Rattle.kept_meets.proofs.combined.meets.Goals as goal

pub inside-x-requires : goal.inside-x-requires
inside-x-requires c = let (t, u, s) = c.requires.inputs in (c.requires.len_bound.0, (s.hold, (0, 0, t, s.first)))

pub inside-y-requires : goal.inside-y-requires
inside-y-requires c = let (t, u, s) = c.requires.inputs in (c.requires.len_bound.0, (s.hold, (0, 0, u, s.second)))

pub leaves-requires : goal.leaves-requires
leaves-requires c =
    let a = c.args in
    let (t, u, s) = c.requires.inputs in
    let l = length-bits_left a.s c.requires.len_bound.0 in
    (_, _, _, l, down-inputs s (bits_left a.s) a.s.len (sym l) c.requires.len_bound.1 _ _ (c.inside-x.ensures 0 0 t s.first) (c.inside-y.ensures 0 0 u s.second))

pub returns : goal.returns
returns c t u s = let a = c.args in
    let l = length-bits_left a.s c.requires.len_bound.0 in
    meets-down a.op a.fuel t u (bits_left a.s) a.s.len (sym l) c.requires.len_bound.1 _
    (c.leaves.ensures _ _ _ l (down-inputs s (bits_left a.s) a.s.len (sym l) c.requires.len_bound.1 _ _ (c.inside-x.ensures 0 0 t s.first) (c.inside-y.ensures 0 0 u s.second)))
