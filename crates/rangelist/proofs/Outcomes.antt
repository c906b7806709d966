-- The outcomes of ranges: the call has one, and on a sound pool the rows are the fewest ranges of the set, ascending and apart, and the only such ones.
-- Assumes nothing.
use mathlib.Core.Path.{◌≡◌, ap, ◌∙◌}
use mathlib.Core.Bool.{true}
use mathlib.Core.List.{List}
use Prim.Native.Nat.{ℕ, ◌*◌, ◌≤◌, ◌<◌}
use native.Mathlib.Nat.{zero-add}
use native.Mathlib.Omega.{arith}
use lib.ListN.{length, get_or}
use Rattle.nets.specs.Lists.{is_list}
use Rattle.nets.specs.Networks.{width}
use Rattle.nets.specs.declared.Refusal.TheVariants.{Damaged, NoSet, ShortBuffer}
use Rattle.ranges.specs.Ranges.{Range, spaced, Covering}
use Rattle.ranges.specs.Addresses.{range_rows}
use Rattle.ranges.proofs.OfLists.{ranges-covering, ranges-spaced, ranges-fewest, ranges-one}
use Rattle.nodes.specs.Words.{put}
use Rattle.nodes.proofs.Put.{length-put, get_or-put-in, get_or-put-behind}
use Rattle.pool_state.specs.States.{State}
use Rattle.pool_state.specs.Decode.{damaged, sound, decode}
use Rattle.pool_state.specs.Changes.{list_at}
use Rattle.pool_state.proofs.Filled.{filled-one, filled-damaged, filled-noset, filled-short, filled-whole}
use Rattle.listing.proofs.Seats.{sits-at}
use Rattle.trie_ranges.proofs.Standing.{length-range_rows}
use Rattle.rangelist.specs.Calls.{ranges_at, Ranges}
use Rattle.rangelist.proofs.Calls.{ranges-fills, sits-is_list}
use Rattle.std.specs.Prelude.{Result, Ok, Err}
use Rattle.nets.specs.declared.Refusal.{Refusal}

pub ranges-determined : {w v u x : List ℕ} {k : ℕ} {r s : (Result ℕ Refusal)} → Ranges w k v r u → Ranges w k v s x → (r ≡ s) × (u ≡ x)
ranges-determined g h = filled-one (ranges-fills g) (ranges-fills h)

-- What the ranges of a set are, in every state that words hold.
module _ (w : List ℕ) (S : State) (k : ℕ) (d : decode w ≡ sound S) (lt : k < length S.sets) where
  own-list : is_list (width S.family) (list_at S k) ≡ true
  own-list = sits-is_list (sits-at w S k d lt)

  pub own-covering : Covering (width S.family) (list_at S k) (ranges_at S k)
  unfolding ranges_at
  own-covering = ranges-covering (width S.family) (list_at S k) own-list

  pub own-spaced : spaced (ranges_at S k) ≡ true
  unfolding ranges_at
  own-spaced = ranges-spaced (width S.family) (list_at S k) own-list

  pub own-fewest : (ms : List Range) → Covering (width S.family) (list_at S k) ms → length (ranges_at S k) ≤ length ms
  unfolding ranges_at
  own-fewest = ranges-fewest (width S.family) (list_at S k) own-list

  pub own-one : (ms : List Range) → Covering (width S.family) (list_at S k) ms → spaced ms ≡ true → ms ≡ ranges_at S k
  unfolding ranges_at
  own-one = ranges-one (width S.family) (list_at S k) own-list

-- Damaged words, a set that is not there and a short buffer are refused, and the rows stay; else they begin with the ranges.
module _ {w v u : List ℕ} {k : ℕ} {r : (Result ℕ Refusal)} (h : Ranges w k v r u) where
  pub ranges-damaged : decode w ≡ damaged → (r ≡ Err Damaged) × (u ≡ v)
  ranges-damaged = filled-damaged (ranges-fills h)

  module _ (S : State) (d : decode w ≡ sound S) where
    pub ranges-noset : length S.sets ≤ k → (r ≡ Err NoSet) × (u ≡ v)
    ranges-noset = filled-noset (ranges-fills h) S d

    module _ (lt : k < length S.sets) where
      pub ranges-small : length v < 4 * length (ranges_at S k) → (r ≡ Err ShortBuffer) × (u ≡ v)
      ranges-small = filled-short (ranges-fills h) S d lt

      pub ranges-rows : 4 * length (ranges_at S k) ≤ length v → (r ≡ Ok (length (ranges_at S k))) × (u ≡ put v 0 (range_rows (ranges_at S k)))
      ranges-rows = filled-whole (ranges-fills h) S d lt

      -- number by number: no row is lost, the ranges come first, and what is past them stays
      module _ (le : 4 * length (ranges_at S k) ≤ length v) where
        pub ranges-length : length u ≡ length v
        ranges-length = ap length (ranges-rows le).1 ∙ length-put v 0 (range_rows (ranges_at S k))

        pub ranges-entry : (i : ℕ) → i < 4 * length (ranges_at S k) → get_or u i 0 ≡ get_or (range_rows (ranges_at S k)) i 0
        ranges-entry i less =
            let rows = range_rows (ranges_at S k) in
            rw (ranges-rows le).1 (rw (zero-add i) at (get_or-put-in v 0 rows i (omega (arith, length-range_rows (ranges_at S k))) (omega arith)))

        pub ranges-past : (i : ℕ) → 4 * length (ranges_at S k) ≤ i → get_or u i 0 ≡ get_or v i 0
        ranges-past i more = rw (ranges-rows le).1 (get_or-put-behind v 0 (range_rows (ranges_at S k)) i (omega (arith, length-range_rows (ranges_at S k))))
