-- A set of a pool in the first form: what the walk from its root shows where the words hold a list. Assumes nothing.
use mathlib.Core.List.{List, [], ◌∷◌}
use mathlib.Core.Path.{◌≡◌, refl, sym, ◌∙◌}
use Prim.Native.Nat.{ℕ, ◌≤◌}
use native.Mathlib.Omega.{arith}
use Rattle.nets.specs.Bits.{Bits}
use Rattle.nets.specs.Tries.{insert_t, trie_of}
use Rattle.nets.specs.TrieOps.{search_t, steps_t}
use Rattle.nodes.specs.Parse.{Stands}
use Rattle.pool_state.specs.Decode.{root_at}
use Rattle.trie_lookup.specs.Walks.{walk_from}
use Rattle.trie_lookup.proofs.Turns.{walk_from-none, walk_from-node}
use Rattle.trie_lookup.proofs.Searched.{shown, search-none, walk-search, insert_t-some, size-some}

pub walk_from-search : {w : List ℕ} {b n f i : ℕ} → 1 ≤ i → (l : List Bits) (q : Bits) → Stands w b n f i (trie_of l) → walk_from w b n q (root_at i l) ≡ shown 0 (search_t q (trie_of l)) (steps_t q (trie_of l))
unfolding trie_of
walk_from-search {w} {b} {n} pos [] q s = sym (walk_from-none w b n q 0 refl) ∙ rw ((search-none q).0, (search-none q).1)
walk_from-search {w} {b} {n} {f} {i} pos (p ∷ l) q s =
    let t = insert_t p (trie_of l) in
    sym (walk_from-node w b n q i 0 refl (omega arith) (omega (arith, s.within, size-some t (insert_t-some p (trie_of l)))))
    ∙ walk-search w b n q t 0 i (insert_t-some p (trie_of l)) (record { one = pos; within = s.within; has = s.has })
