-- What simplifying makes of the list of a trie, and how many nodes that takes: no more than before. Assumes nothing.
use mathlib.Core.Path.{◌≡◌, sym, ap, ◌∙◌}
use Prim.Native.Nat.{◌≤◌}
use native.Mathlib.Omega.{arith}
use Rattle.nets.specs.Lists.{simplify_l}
use Rattle.nets.specs.Tries.{Trie, list_of, simplify_t}
use Rattle.nets.proofs.Simplifying.{list_of-simplify}
use Rattle.branch_points.specs.BranchPoints.{kept_nodes_l}
use Rattle.branch_points.specs.KeptTries.{kept_size}
use Rattle.branch_points.proofs.Counts.{kept_nodes_l-list_of}
use Rattle.kept_simplify.proofs.Tops.{kept_size-simplify}

pub simplified-nodes : (t : Trie) → kept_size (simplify_t t) ≡ kept_nodes_l (simplify_l (list_of t))
simplified-nodes t = sym (kept_nodes_l-list_of (simplify_t t)) ∙ ap kept_nodes_l (list_of-simplify t)

pub simplified-fewer : (t : Trie) → kept_nodes_l (simplify_l (list_of t)) ≤ kept_nodes_l (list_of t)
simplified-fewer t = omega (arith, simplified-nodes t, kept_size-simplify t, kept_nodes_l-list_of t)
