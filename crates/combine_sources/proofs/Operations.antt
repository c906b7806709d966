-- An operation on lists is done on tries, so one law serves all four. Assumes nothing.
use mathlib.Core.Bool.{Bool, true, false, cond}
use mathlib.Core.Path.{◌≡◌, ap, ◌∙◌}
use Prim.Native.Nat.{ℕ, suc, ◌+◌, ◌*◌, ◌≤◌}
use native.Mathlib.Omega.{arith}
use lib.Dec.{eqb}
use Rattle.nets.specs.Tries.{Trie, size, levels, list_of}
use Rattle.nets.specs.Networks.{width}
use Rattle.nets.proofs.Combining.{list_of-union, list_of-common}
use Rattle.nets.proofs.Excluding.{list_of-except}
use Rattle.nets.proofs.Laws.{list_of-difference}
use Rattle.trie_emit.specs.Combine.{op_of, joined, op_on}
use Rattle.trie_emit.proofs.Answers.{length-body}
use Rattle.trie_emit.proofs.Combine.{op_on-union, op_on-common, op_on-difference, op_on-except, size-op}
use Rattle.combine_sources.specs.Steps.{Operation, merging, intersecting, excluding, excluding_apart, combine_l}

-- What an operation makes of two lists is done on their tries, and how large it can be.
pub list_of-op : {op : ℕ} (w : ℕ) (t u : Trie) → Operation op → levels t ≤ suc w → levels u ≤ suc w → list_of (op_on op (suc w) t u) ≡ combine_l op (list_of t) (list_of u)
list_of-op w t u merging h k = ap list_of (op_on-union (suc w) t u) ∙ list_of-union w t u h k
list_of-op w t u intersecting h k = ap list_of (op_on-common (suc w) t u) ∙ list_of-common w t u h k
list_of-op w t u excluding h k = ap list_of (op_on-difference (suc w) t u) ∙ list_of-difference w t u h k
list_of-op w t u excluding_apart h k = ap list_of (op_on-except (suc w) t u) ∙ list_of-except (suc w) t u h k

pub size-op_on : (op k : ℕ) (t u : Trie) → size (op_on op k t u) ≤ 1 + 2 * (size t + size u)
size-op_on op k t u = omega (arith, size-op (joined op) (op_of op) k t u, length-body t, length-body u)

pub few-levels : (f : ℕ) → suc (width f) ≤ 129
unfolding width
few-levels f = go (eqb f 4)
  where
    go : (b : Bool) → suc (cond b 32 128) ≤ 129
    go true = omega arith
    go false = omega arith
