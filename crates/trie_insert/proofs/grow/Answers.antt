-- `grow` meets its contract: the words behind move up by the chain. Assumes nothing.
use mathlib.Core.Path.{sym, ap}
use Prim.Native.Nat.{◌+◌}
use native.Mathlib.Omega.{arith}
use Rattle.nodes.proofs.Segments.{segment-fit}
use Rattle.nets.proofs.Handing.{length-bits_left}
use Rattle.trie_insert.proofs.Insertion.{room-none, inserted-none}
use Rattle.trie_insert.proofs.grow.Goals as goal

pub shift-requires : goal.shift-requires
shift-requires c = let h = c.requires.1 in omega (arith, segment-fit h.stands, room-none h, h.stands.one, length-bits_left c.args.s c.requires.0)

pub chain-requires : goal.chain-requires
chain-requires c = let h = c.requires.1 in
    omega (arith, segment-fit h.stands, room-none h, h.stands.one, length-bits_left c.args.s c.requires.0)

pub returns : goal.returns
returns c = inserted-none _ _ _ _ _ _ _ _ (ap (λ n. n + 1) (sym (length-bits_left c.args.s c.requires.0))) c.shift.ensures c.chain.ensures
