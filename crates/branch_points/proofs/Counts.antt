-- A list of m members has 2m - 1 members and branch points, none if it is empty, and never more than different leading strings. Assumes nothing.
use mathlib.Core.List.{List, []}
use mathlib.Core.Bool.{true}
use mathlib.Core.Path.{◌≡◌, refl, ap, sym, ◌∙◌}
use Prim.Native.Nat.{ℕ, ◌+◌, ◌-◌, ◌*◌, ◌≤◌}
use native.Mathlib.Omega.{arith}
use lib.ListN.{length}
use Rattle.nets.specs.Bits.{Bits}
use Rattle.nets.specs.Tries.{Trie, none, node, bare, size, levels, below, list_of, trie_of}
use Rattle.nets.specs.Lists.{is_list, nodes_l, in_order, all_leadings}
use Rattle.nets.proofs.Members.{length-keep}
use Rattle.nets.proofs.Order.{unique}
use Rattle.nets.proofs.Levels.{from-below, member-nodes}
use Rattle.nets.proofs.Nodes.{nodes_l-list_of}
use Rattle.nets.proofs.TrieOf.{list_of-trie_of}
use Rattle.nodes.proofs.Tries.{some}
use Rattle.branch_points.specs.BranchPoints.{is_kept, kept_l, kept_nodes_l}
use Rattle.branch_points.specs.KeptTries.{kept, kept_size}
use Rattle.branch_points.proofs.Members.{kept_l-from, member-kept_l, is_kept-list_of}
use Rattle.branch_points.proofs.Sizes.{count, count-below, kept_size-count, kept_size-leaves, leaves-list_of}

-- the kept strings are the paths to the kept nodes of the trie, level by level
pub kept_l-list_of : (t : Trie) → kept_l (list_of t) ≡ below kept (levels t) t
kept_l-list_of t =
    unique 0 0 (kept_l (list_of t)) (below kept (levels t) t) (kept_l-from (list_of t)) (from-below kept (levels t) t)
    (λ p. member-kept_l (list_of t) p ∙ is_kept-list_of t p ∙ sym (member-nodes kept t p))

pub kept_nodes_l-list_of : (t : Trie) → kept_nodes_l (list_of t) ≡ kept_size t
unfolding kept_nodes_l
kept_nodes_l-list_of t = rw (kept_l-list_of t, kept_size-count t) (count-below kept t (levels t) (omega arith))

-- twice the members less one
kept_size-twice : (t : Trie) → kept_size t ≡ 2 * length (list_of t) - 1
unfolding count kept_size
kept_size-twice none = omega (arith, leaves-list_of none)
kept_size-twice (node l r) = omega (arith, kept_size-leaves (node l r) (some l r), leaves-list_of (node l r))

pub kept_nodes_l-twice : (w : ℕ) (l : List Bits) → is_list w l ≡ true → kept_nodes_l l ≡ 2 * length l - 1
kept_nodes_l-twice w l e = rw (list_of-trie_of w l e) at (kept_nodes_l-list_of (trie_of l) ∙ kept_size-twice (trie_of l))

pub kept_nodes_l-empty : kept_nodes_l [] ≡ 0
unfolding kept_nodes_l kept_l
kept_nodes_l-empty = refl

-- never more than all leading strings: the first form's count
pub kept_nodes_l-le : (l : List Bits) → kept_nodes_l l ≤ nodes_l l
unfolding kept_nodes_l kept_l nodes_l
kept_nodes_l-le l = length-keep (is_kept l) (in_order (all_leadings l))

-- a trie keeps no more nodes than it has
pub kept_size-le : (t : Trie) → kept_size t ≤ size t
kept_size-le t = omega (arith, kept_nodes_l-list_of t, nodes_l-list_of t, kept_nodes_l-le (list_of t))
