-- A law for each return of ranges, by the tests on the way to it. Assumes nothing.
use mathlib.Core.Path.{◌≡◌, ap, ◌∙◌}
use mathlib.Core.Bool.{true}
use mathlib.Core.List.{List}
use Prim.Native.Nat.{ℕ, ◌*◌, ◌≤◌, ◌<◌}
use lib.ListN.{length}
use Rattle.nets.specs.Lists.{is_list}
use Rattle.nets.specs.Networks.{width}
use Rattle.nets.specs.Refusals.{number}
use Rattle.nets.specs.declared.Refusal.{Refusal}
use Rattle.nets.specs.declared.Refusal.TheVariants.{ShortBuffer}
use Rattle.nets.proofs.TrieOf.{is_list-list_of}
use Rattle.address_order.proofs.Sorted.{flat-order}
use Rattle.ranges.specs.Ranges.{ranges_of}
use Rattle.ranges.specs.Addresses.{range_rows}
use Rattle.nodes.specs.Words.{put}
use Rattle.nodes.specs.declared.seats.Seat.{Seat}
use Rattle.pool_state.specs.States.{State}
use Rattle.pool_state.specs.Decode.{decode}
use Rattle.pool_state.specs.Changes.{list_at}
use Rattle.pool_state.specs.Steps.{Refuses}
use Rattle.pool_state.proofs.Filled.{Filled, fill-refused, fill-short, fill-granted}
use Rattle.pool_state.proofs.OnTries.{trie_at}
use Rattle.listing.proofs.Seats.{Sits}
use Rattle.listing.proofs.ByForm.{held-deep}
use Rattle.trie_ranges.specs.Opening.{ranges_t, Ranged}
use Rattle.rangelist.specs.Calls.{ranges_at, ranges_rules, ranges_rule, rows_after, Ranges}
use Rattle.std.specs.Prelude.{Result, Ok, Err}

abbrev Fills : List ℕ → ℕ → List ℕ → Result ℕ Refusal → List ℕ → Type 0
Fills w k v r u = Filled (decode w) k (length v) (λ S. 4 * length (ranges_at S k)) (λ S. length (ranges_at S k)) v (λ S. put v 0 (range_rows (ranges_at S k))) r u

module _ {w v u : List ℕ} {k : ℕ} {r : (Result ℕ Refusal)} where
  pub ranges-fills : Ranges w k v r u → Fills w k v r u
  unfolding ranges_rule rows_after ranges_rules
  ranges-fills h = record { answer = h.answer; left = h.rows }

  ranged : Fills w k v r u → Ranges w k v r u
  unfolding ranges_rule rows_after ranges_rules
  ranged h = record { answer = h.answer; rows = h.left }

pub ranges-refused : {w v : List ℕ} {k : ℕ} (x : Refusal) → Refuses (decode w) k (number x) → Ranges w k v (Err x) v
ranges-refused {w} {v} {k} x e = ranged (fill-refused (decode w) k (length v) _ _ v _ x e)

module _ {w : List ℕ} {k : ℕ} {S : State} {s : Seat} (h : Sits w k S s) where
  pub sits-is_list : is_list (width S.family) (list_at S k) ≡ true
  sits-is_list = rw (← h.family) (rw h.list at (is_list-list_of (width s.family) (trie_at S k) (held-deep h.holds)))

  -- the ranges of the trie are those of the list
  ranges-are : ranges_t s.family (trie_at S k) ≡ ranges_at S k
  unfolding ranges_t ranges_at ranges_of
  ranges-are =
      rw (h.family, flat-order (width S.family) (list_at S k) sits-is_list)

  module _ {n : ℕ} (c : n ≡ length (ranges_t s.family (trie_at S k))) where
    counted : n ≡ length (ranges_at S k)
    counted = c ∙ ap length ranges-are

    pub ranges-short : {v : List ℕ} → length v < 4 * n → Ranges w k v (Err ShortBuffer) v
    ranges-short {v} lt = ranged (fill-short (decode w) k (length v) _ _ v _ S h.decoded h.known (rw counted at lt))

    pub ranges-granted : {v u : List ℕ} {m : ℕ} → 4 * n ≤ length v → Ranged s.family (trie_at S k) v u m → Ranges w k v (Ok n) u
    ranges-granted {v} {u} le r =
        let g : u ≡ put v 0 (range_rows (ranges_at S k)) = r.rows (rw (← c) le) ∙ ap (λ z. put v 0 (range_rows z)) ranges-are in
        rw (counted, g) (ranged (fill-granted (decode w) k (length v) _ _ v _ S h.decoded h.known (rw counted at le)))
