-- `combining::outcome` meets its contract. Assumes nothing.
use native.Mathlib.Omega.{arith}
use Rattle.nets.specs.TrieOps.{kind_of}
use Rattle.trie_emit.proofs.Sources.{rank-le}
use Rattle.kept_emit.proofs.combining.outcome.Goals as goal

pub settled-requires : goal.settled-requires
settled-requires c = let (o, g, p, t, u, e, m, n) = c.requires.1 in omega (arith, c.kind-y.ensures o g p u n e, rank-le (kind_of u))

pub returns : goal.returns
returns c o g p t u e m n = c.settled.ensures (kind_of t) (kind_of u) (c.kind-x.ensures o g p t m e) (c.kind-y.ensures o g p u n e)
