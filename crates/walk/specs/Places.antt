-- The networks at a place and at the end of a list: the answers as functions of the words.
--
--   nth_l l i         the member of l at place i, counted from 0
--   last_l l          the last member of l
--   place_rule f d k  the answer: 2 damaged, 3 no such set, else the network that f finds in its list, if there is one
--   nth_rule, last_rule            the same for these two
--   spot_after n l s  the spot n steps behind s in the list l
--   stage_in d k n    where a walk through set k is behind n networks and one step more
use Rattle.std.specs.Prelude.{Bool, List, [], ◌∷◌, ℕ, zero, suc}
use Rattle.nets.specs.Bits.{Bits}
use Rattle.nets.specs.Lists.{Found, found, missing}
use Rattle.nets.specs.declared.Net.{Net}
use Rattle.pool_state.specs.Decode.{Decoded}
use Rattle.pool_state.specs.Rules.{answer_on, unknown}
use Rattle.pool_state.specs.Changes.{list_at}
use Rattle.listing.specs.Calls.{nothing, found_as}
use Rattle.trie_spots.specs.Spots.{before_all, gone_on}
use Rattle.trie_spots.specs.declared.spots.Spot.{Spot}
use Rattle.walk.specs.Walks.{walk_no, list_in, seat_in}
use Rattle.walk.specs.declared.beginning.Stage.{Stage}

unfoldable pub nth_l : List Bits → ℕ → Found
nth_l [] i = missing
nth_l (p ∷ l) zero = found p
nth_l (p ∷ l) (suc i) = nth_l l i

unfoldable pub last_l : List Bits → Found
last_l [] = missing
last_l (p ∷ []) = found p
last_l (p ∷ q ∷ l) = last_l (q ∷ l)

unfoldable pub place_rule : (List Bits → Found) → Decoded → ℕ → ℕ × (Bool × Net)
place_rule f d k = answer_on d (λ S. unknown S k ∷ []) nothing (λ S. found_as S.family (f (list_at S k)))

abbrev pub nth_rule : Decoded → ℕ → ℕ → ℕ × (Bool × Net)
nth_rule d k i = place_rule (λ l. nth_l l i) d k

abbrev pub last_rule : Decoded → ℕ → ℕ × (Bool × Net)
last_rule d k = place_rule last_l d k

unfoldable pub spot_after : ℕ → List Bits → Spot → Spot
spot_after zero l s = s
spot_after (suc n) l s = spot_after n l (gone_on l s)

abbrev pub stage_in : Decoded → ℕ → ℕ → Stage
stage_in d k n = record { spot = spot_after (suc n) (list_in d k) (before_all (seat_in d k)); no = walk_no d k }
