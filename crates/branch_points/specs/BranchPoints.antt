-- The members and the branch points of a list: the strings that the second form keeps.
--
--   is_branch l p       p is followed by 0 in one member and by 1 in another
--   kept_l l            the members and branch points, in order, each once
--   kept_nodes_l l       how many they are
--   kept_steps_l l q     how many of them lead q: the nodes that a lookup of q counts
use Rattle.std.specs.Prelude.{Bool, true, false, ◌&&◌, ◌||◌, List, ℕ, length}
use Rattle.nets.specs.Bits.{Bits}
use Rattle.nets.specs.Lists.{member, leads_any, keep, leadings, all_leadings, in_order}
use Rattle.trie_paths.specs.Spans.{snoc}

abbrev pub is_branch : List Bits → Bits → Bool
is_branch l p = leads_any (snoc p false) l && leads_any (snoc p true) l

abbrev pub is_kept : List Bits → Bits → Bool
is_kept l p = member p l || is_branch l p

unfoldable pub kept_l : List Bits → List Bits
kept_l l = keep (is_kept l) (in_order (all_leadings l))

unfoldable pub kept_nodes_l : List Bits → ℕ
kept_nodes_l l = length (kept_l l)

unfoldable pub kept_steps_l : List Bits → Bits → ℕ
kept_steps_l l q = length (keep (is_kept l) (leadings q))
