-- `writing::append` meets its contract: the node where the head leaves the path is linked, and the rest of its own path is written. Assumes nothing.
use native.Mathlib.Omega.{arith}
use borrow.Author.Rules.{rules}
use Rattle.setfile_build.proofs.Chaining.{appends-node, appends-chains, appended}
use Rattle.setfile_build.proofs.writing.append.Goals as goal

pub offset_bounds-path-d : goal.offset_bounds-path-d
offset_bounds-path-d c = omega (arith, appends-node c.requires)

pub bounds-path-d : goal.bounds-path-d
bounds-path-d c = omega (arith, appends-node c.requires)

pub store-requires : goal.store-requires
store-requires c = let n = appends-node c.requires in (omega (arith, n), (omega (arith, n), omega (arith, n)))

pub chain-requires : goal.chain-requires
chain-requires c = appends-chains c.requires _ c.store.ensures

pub returns : goal.returns
returns c = appended c.store.ensures c.chain.ensures
