-- A place as an argument: the spot that `place_of` makes of it in a seat.
use Rattle.std.specs.Prelude.{true, ◌≡◌, ℕ, Result, Option, Ok, Err}
use Rattle.nets.specs.Refusals.{number, first_no}
use Rattle.pool_state.specs.States.{State}
use Rattle.nets.specs.Networks.{is_family}
use Rattle.nodes.specs.declared.seats.Seat.{Seat}
use Rattle.trie_spots.specs.Spots.{place_in}
use Rattle.trie_spots.specs.declared.spots.Spot.{Spot}
use Rattle.kept_spots.specs.Onward.{KeptRight}
use Rattle.listing.specs.Calls.{from_rules, place_from}
use Rattle.nets.specs.declared.Net.{Net}
use Rattle.nets.specs.declared.Refusal.{Refusal}

-- the number that it gets in every pool of the family
abbrev pub Numbers : ℕ → Option Net → ℕ → Type 0
Numbers f x n = (S : State) → is_family S.family ≡ true → f ≡ S.family → first_no (from_rules x S) ≡ n

pub record Right (s : Seat) (x : Option Net) (p : Spot) : Type 0 where
  pub right : Numbers s.family x 0
  pub seat : p.seat ≡ s
  pub place : place_in p ≡ place_from x
  pub entry : KeptRight p

abbrev pub Places : Seat → Option Net → Result Spot Refusal → Type 0
Places s x (Ok p) = Right s x p
Places s x (Err r) = Numbers s.family x (number r)
