-- What a change makes of the list of a trie, and how many nodes that takes: add and remove. Assumes nothing.
use mathlib.Core.Bool.{Bool, true, false, cond}
use mathlib.Core.Path.{◌≡◌, sym, ap, ◌∙◌}
use Rattle.nets.specs.Bits.{Bits}
use Rattle.nets.specs.Lists.{add_l, remove_l}
use Rattle.nets.specs.Tries.{Trie, list_of}
use Rattle.nets.proofs.Adding.{list_of-insert}
use Rattle.nets.proofs.Removing.{list_of-remove}
use Rattle.branch_points.specs.BranchPoints.{kept_nodes_l}
use Rattle.branch_points.specs.KeptTries.{kept_size}
use Rattle.branch_points.proofs.Counts.{kept_nodes_l-list_of}
use Rattle.kept_plan.specs.Change.{change_t}

pub changed-list : (x : Bool) (q : Bits) (t : Trie) → list_of (change_t x q t) ≡ cond x (add_l (list_of t) q) (remove_l (list_of t) q)
changed-list true q t = list_of-insert q t
changed-list false q t = list_of-remove q t

pub changed-nodes : (x : Bool) (q : Bits) (t : Trie) → kept_size (change_t x q t) ≡ kept_nodes_l (cond x (add_l (list_of t) q) (remove_l (list_of t) q))
changed-nodes x q t = sym (kept_nodes_l-list_of (change_t x q t)) ∙ ap kept_nodes_l (changed-list x q t)
