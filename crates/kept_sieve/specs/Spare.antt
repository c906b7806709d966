-- What is left of a trie, before networks are poured into it or out of it, in the second form. Only whole members go, so each that is left has its own string.
--
--   spare_t x u t      t without the members that a network of u leads or is; and, where networks go out, without those of which nothing is left
use Rattle.std.specs.Prelude.{Bool, true, false, cond}
use Rattle.nets.specs.Tries.{Trie, none, node, bare, glue}
use Rattle.nets.specs.TrieOps.{half}
use Rattle.trie_pour.specs.Pour.{is_flat, pour_t, shadow}

unfoldable pub spare_t : Bool → Trie → Trie → Trie
spare_t x none t = t
spare_t x (node l r) t =
    cond (bare l r) none (cond (is_flat t) (shadow t (pour_t x (node l r) t)) (glue false (spare_t x l (half false t)) (spare_t x r (half true t))))
