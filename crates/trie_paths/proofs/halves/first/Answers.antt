-- `halves::first` meets its contract: the address stays. Assumes nothing.
use Prim.Native.Nat.{◌-◌}
use native.Mathlib.Omega.{arith}
use Rattle.nets.specs.Networks.{width}
use Rattle.nets.proofs.Numbers.{width-le}
use Rattle.trie_paths.proofs.Paths.{first-is}
use Rattle.trie_paths.proofs.halves.first.Goals as goal

pub overflow_add-result : goal.overflow_add-result
overflow_add-result c = omega (arith, width-le c.args.n.family)

pub returns : goal.returns
returns c f p q = let n = c.args.n in first-is n f p (width n.family - 1 - n.len) q (omega arith)
