-- The spots from which one can go on: before the first network, and behind each step. Assumes nothing.
use mathlib.Core.Bool.{Bool, true, false, cond, false≢true}
use mathlib.Core.List.{List}
use mathlib.Core.Path.{◌≡◌, refl, sym, ◌∙◌}
use Prim.Native.Nat.{ℕ, ◌-◌, ◌≤◌}
use native.Mathlib.Nat.{mul-le-mul_left}
use native.Mathlib.Omega.{arith}
use Rattle.nets.specs.Bits.{Bits}
use Rattle.std.specs.Prelude.{Option, Some}
use Rattle.std.specs.Bool.{then_some}
use Rattle.nets.specs.Lists.{start, past, Found, found, missing, next_l}
use Rattle.nets.specs.Networks.{net_bits}
use Rattle.nets.specs.declared.Net.{Net}
use Rattle.nets.specs.Tries.{Trie, none, levels}
use Rattle.nets.proofs.Lookups.{next_l-found}
use Rattle.nodes.specs.declared.seats.Seat.{Seat}
use Rattle.trie_spots.specs.Spots.{nowhere, before_all, place_in, landed, gone_on}
use Rattle.trie_spots.specs.declared.spots.Spot.{Spot}
use Rattle.trie_spots.proofs.Onward.{Lists}
use Rattle.branch_points.specs.KeptTries.{kept_size}
use Rattle.kept_nodes.specs.Words.{stride, kept_enc, spot}
use Rattle.setfile_entries.specs.Entries.{Entry}
use Rattle.kept_list.specs.Listed.{KeptHolds}
use Rattle.kept_next.specs.Nearest.{place_at}
use Rattle.kept_next.proofs.Nearer.{entry_of}
use Rattle.kept_spots.specs.Onward.{KeptStandsIn, KeptRight}

-- the place behind which the next network is looked for
pub place_is : (s : Spot) {last : Option Net} → last ≡ then_some s.begun s.net → place_at last ≡ place_in s
unfolding place_in
place_is s e = rw e (go s.begun)
  where
    go : (x : Bool) → place_at (then_some x s.net) ≡ cond x (past (net_bits s.net)) start
    go true = refl
    go false = refl

-- and it is a network of the seat's family
pub entry_is : (s : Spot) {last : Option Net} → KeptRight s → last ≡ then_some s.begun s.net → (y : Net) → last ≡ Some y → Entry s.seat.family y
entry_is s h e y i = go s.begun refl (sym e ∙ i)
  where
    go : (x : Bool) → s.begun ≡ x → then_some x s.net ≡ Some y → Entry s.seat.family y
    go true b k = let n : s.net ≡ y = cc k in rw n at (h b)
    go false b k = absurd (cc k)

-- no node behind the trie is read
pub holds-own : {f : ℕ} {w : List ℕ} {b n i e : ℕ} {t : Trie} → KeptHolds f w b n i e t → KeptHolds f w b (e - 1) i e t
holds-own {f} {n = n} {e = e} h =
    let le : e - 1 ≤ n = omega (arith, h.one, h.end, h.stands.within) in
    record {
      room = record {
        family = h.room.family;
        low = h.room.low;
        few = omega (arith, h.room.few);
        long = omega (arith, mul-le-mul_left (stride f) le, h.room.long);
      };
      stands = record { deep = h.stands.deep; within = omega (arith, h.one, h.end); has = h.stands.has };
      one = h.one;
      end = h.end;
    }

-- Nothing stands nowhere.
pub stands-nowhere : (w : List ℕ) → KeptStandsIn w nowhere none
unfolding kept_size levels kept_enc stride spot
stands-nowhere w = record {
  room = record { family = refl; low = omega arith; few = omega arith; long = omega arith };
  stands = record { deep = omega arith; within = omega arith; has = record { fits = omega arith; at = λ k h. absurd (omega arith) } };
  one = omega arith;
  end = refl;
}

pub right-before : (s : Seat) → KeptRight (before_all s)
right-before s e = absurd (false≢true e)

pub right-gone : (l : List Bits) (s : Spot) → Lists s.seat.family l → KeptRight s → KeptRight (gone_on l s)
unfolding gone_on
right-gone l s h g = go (next_l l (place_in s)) refl
  where
    go : (y : Found) → next_l l (place_in s) ≡ y → KeptRight (landed s y)
    go (found q) k _ = entry_of s.seat.family q h.family (h.short q (next_l-found l (place_in s) q h.order k).0)
    go missing k e = g e
