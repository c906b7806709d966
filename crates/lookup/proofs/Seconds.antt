-- A set of a pool in the second form: what its walk asks of the words, and what it shows where they hold a list. Assumes nothing.
use mathlib.Core.Bool.{true}
use mathlib.Core.List.{List, [], ◌∷◌}
use mathlib.Core.Path.{◌≡◌, refl, ap, ◌∙◌}
use Prim.Native.Nat.{ℕ, ◌≤◌, ◌<◌, ◌^◌}
use native.Mathlib.Nat.{zero-add}
use lib.ListN.{length, get_or}
use Rattle.nets.specs.Bits.{Bits}
use Rattle.nets.specs.Tries.{trie_of}
use Rattle.nets.specs.Lists.{Found, found, missing, supernet_l, is_list}
use Rattle.nets.specs.Networks.{width, net_bits, refusal_of}
use Rattle.nets.specs.declared.Net.{Net}
use Rattle.branch_points.specs.BranchPoints.{kept_steps_l}
use Rattle.kept_nodes.specs.Parse.{KeptRoom, KeptStands}
use Rattle.kept_lookup.specs.Walks.{kept_walk_from, shown_as, Query}
use Rattle.kept_lookup.specs.declared.Shown as kept-shown
use Rattle.kept_lookup.proofs.Searched.{walk-empty, walk-list}
use Rattle.pool_state.specs.Kept.{second}
use Rattle.pool_state.specs.Decode.{record_at, base, root_at, is_header}
use Rattle.pool_state.proofs.Header.{is_header-header, header-rooms}
use Rattle.pool_state.proofs.Kept.{room-second}
use Rattle.lookup.specs.Rules.{shown_of, path_of}
use Rattle.trie_lookup.specs.declared.Shown.{Shown}
use Rattle.trie_lookup.proofs.Searched.{shown, insert_t-some}

-- The call: the nodes and the root of the set, and a network of the pool's family.
module _ (w : List ℕ) (k : ℕ) {b n r : ℕ} (g : (b ≡ base (get_or w 2 0)) × (n ≡ get_or w 3 0) × (r ≡ get_or w (record_at k) 0)) (q : Net) (same : q.family ≡ get_or w 1 0) where
  pub kept-asks : is_header w ≡ true → refusal_of q ≡ 0 → q.lo < 2 ^ 64 → KeptRoom q.family w b n × Query q.family q
  kept-asks h e lo = (rw (same, g.0, g.1) (room-second (header-rooms (is_header-header w h))), record { family = refl; is = record { net = e; low = lo } })

  pub kept-shows : {s : kept-shown.Shown} {x : Shown} → s ≡ kept_walk_from q.family w b n (net_bits q) r → x ≡ shown_of s → x ≡ path_of second w k (net_bits q)
  unfolding path_of
  kept-shows e f = f ∙ ap shown_of e ∙ rw (same, g.0, g.1, g.2)

-- Words that hold a list.
kept-list : {f : ℕ} {w : List ℕ} {b n i : ℕ} → 1 ≤ i → (l : List Bits) (q : Bits) → is_list (width f) l ≡ true → KeptStands f w b n [] i (trie_of l)
    → kept_walk_from f w b n q (root_at i l) ≡ shown_as (supernet_l l q) (kept_steps_l l q)
unfolding trie_of
kept-list {f} {w} {b} {n} pos [] q e s = walk-empty f w b n q
kept-list {f} {w} {b} {n} {i} pos (p ∷ l) q e s = walk-list f w b n (p ∷ l) q i pos e (insert_t-some p (trie_of l)) s

shown-kept : (x : Found) (k : ℕ) → shown_of (shown_as x k) ≡ shown 0 x k
shown-kept (found p) k = rw (zero-add (length p), zero-add k)
shown-kept missing k = rw (zero-add k)

pub kept-search : {f : ℕ} {w : List ℕ} {b n i : ℕ} → 1 ≤ i → (l : List Bits) (q : Bits) → is_list (width f) l ≡ true → KeptStands f w b n [] i (trie_of l)
    → shown_of (kept_walk_from f w b n q (root_at i l)) ≡ shown 0 (supernet_l l q) (kept_steps_l l q)
kept-search pos l q e s = ap shown_of (kept-list pos l q e s) ∙ shown-kept (supernet_l l q) (kept_steps_l l q)
