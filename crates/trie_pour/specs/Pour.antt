-- The networks of one trie into another, or out of it. Halves are left apart, as adding and removing one by one leave them.
--
--   flat_t x, is_all x t    the full trie (x) or the empty one; t is that
--   is_flat t              t is empty or full
--   pouring x             the set operation: union, or difference
--   pour_t x s t           the networks of s into t (x), or out of t: where s has one, all of t becomes full or empty, and where s has nothing t stays
--   shadow t u            a single leaf where both t and u have something
--   cut_t x s t            those nodes of t that pour_t x s t has too: pouring s into it gives the same
use Rattle.std.specs.Prelude.{Bool, true, false, not, cond, ◌&&◌, ◌||◌}
use Rattle.nets.specs.Tries.{Trie, none, node, leaf, is_none, is_leaf, bare, glue}
use Rattle.nets.specs.TrieOps.{half}

abbrev pub flat_t : Bool → Trie
flat_t true = leaf
flat_t false = none

abbrev pub is_all : Bool → Trie → Bool
is_all true t = is_leaf t
is_all false t = is_none t

abbrev pub is_flat : Trie → Bool
is_flat none = true
is_flat (node l r) = bare l r

abbrev pub pouring : Bool → Bool → Bool → Bool
pouring true y z = y || z
pouring false y z = y && not z

unfoldable pub pour_t : Bool → Trie → Trie → Trie
pour_t x none t = t
pour_t x (node l r) t = cond (bare l r || is_all x t) (flat_t x) (glue false (pour_t x l (half false t)) (pour_t x r (half true t)))

abbrev pub shadow : Trie → Trie → Trie
shadow t u = cond (is_none t || is_none u) none leaf

unfoldable pub cut_t : Bool → Trie → Trie → Trie
cut_t x none t = t
cut_t x (node l r) t = cond (bare l r || is_flat t) (shadow t (pour_t x (node l r) t)) (glue false (cut_t x l (half false t)) (cut_t x r (half true t)))
