-- One step of going through a set: a law for each return of `place_in` and `go_on`, and what a step keeps. Assumes nothing.
use mathlib.Core.Path.{◌≡◌, refl, sym, ap, ◌∙◌}
use mathlib.Core.Bool.{true, false, true≢false}
use mathlib.Core.List.{List, [], ◌∷◌}
use Prim.Native.Nat.{ℕ, suc, ◌≤◌}
use native.Mathlib.Omega.{arith}
use lib.ListN.{length}
use Rattle.nets.specs.Bits.{Bits}
use Rattle.nets.specs.Tries.{Trie, none, size, levels, list_of}
use Rattle.nodes.specs.Words.{enc}
use Rattle.nets.specs.Lists as lists
use Rattle.nets.specs.Lists.{member, keep, past, is_past, Found, found, missing, next_l}
use Rattle.nets.specs.Networks.{is_family, width, net_from, refusal_of, start_of, no_bits, prefix_as}
use Rattle.nets.specs.Refusals.{answered}
use Rattle.nets.specs.declared.Net.{Net}
use Rattle.nets.specs.declared.PrefixBits.{PrefixBits}
use Rattle.nets.specs.declared.Refusal.{Refusal}
use Rattle.nets.proofs.Order.{From}
use Rattle.nets.proofs.Listing.{from-list_of, member-list_of, member_t-length}
use Rattle.nets.proofs.Lookups.{keep-start, next_l-step, next_l-end, next_l-found}
use Rattle.nets.proofs.Numbers.{bits_left-start, start_of-few, net_bits-net_from, refusal_of-net_from}
use Rattle.nets.proofs.Answers.{number-some, prefix-bits, prefix-refused}
use Rattle.trie_next.specs.Following.{place_of, len_of, next_as}
use Rattle.nodes.specs.declared.seats.Seat.{Seat}
use Rattle.trie_spots.specs.Spots.{nowhere, before_all, place_in, Right, landed, gone_on, StandsIn}
use Rattle.trie_spots.specs.declared.spots.Spot.{Spot}
use Rattle.std.specs.Prelude.{Result, Option, Ok, Err, Some, None}
use Rattle.std.specs.Result.{result_ok}

-- The returns of `place_in`.
pub place-start : (s : Spot) → s.begun ≡ false → (place_of None ≡ place_in s) × (len_of None ≤ 128)
unfolding place_in
place-start s e = (rw e, omega arith)

module _ (s : Spot) (right : Right s) (b : s.begun ≡ true) (p : Result PrefixBits Refusal) (g : prefix_as p ≡ answered (refusal_of s.net) no_bits (start_of s.net)) where
  pub place-past : (x : PrefixBits) → p ≡ Ok x → (place_of (Some x) ≡ place_in s) × (len_of (Some x) ≤ 128)
  unfolding place_in
  place-past x e =
      let y = prefix-bits s.net p x g e in
      (rw (b, y.1) (ap past (bits_left-start s.net y.0)), rw y.1 (start_of-few s.net y.0))

  pub place-never : {X : Type 0} (r : Refusal) → p ≡ Err r → X
  place-never r e = absurd (number-some r (sym (prefix-refused s.net p r g e) ∙ right b))

  pub place-of : (place_of (result_ok p) ≡ place_in s) × (len_of (result_ok p) ≤ 128)
  place-of = go p refl
    where
      go : (q : Result PrefixBits Refusal) → p ≡ q → (place_of (result_ok q) ≡ place_in s) × (len_of (result_ok q) ≤ 128)
      go (Ok x) e = place-past x e
      go (Err r) e = place-never r e

-- The returns of `arrive`, and of `go_on`, in the same seat.
pub seat-gone : (l : List Bits) (s : Spot) → (gone_on l s).seat ≡ s.seat
unfolding gone_on
seat-gone l s = go (next_l l (place_in s))
  where
    go : (y : Found) → (landed s y).seat ≡ s.seat
    go (found p) = refl
    go missing = refl

module _ (s : Spot) (x : Option Net) where
  pub arrive-network : (n : Net) → x ≡ Some n → (y : Found) → x ≡ next_as s.seat.family y → record { seat = s.seat; begun = true; more = true; net = n } ≡ landed s y
  arrive-network n h (found z) e = let m : net_from s.seat.family z ≡ n = cc in rw m
  arrive-network n h missing e = let z : ◌≡◌ {A = ℕ} 0 1 = cc in absurd (omega arith)

  pub arrive-end : x ≡ None → (y : Found) → x ≡ next_as s.seat.family y → record { seat = s.seat; begun = s.begun; more = false; net = s.net } ≡ landed s y
  arrive-end h (found z) e = let z : ◌≡◌ {A = ℕ} 0 1 = cc in absurd (omega arith)
  arrive-end h missing e = refl

pub gone-on : (l : List Bits) (s r : Spot) (x : Option Net) (p : lists.Place) → p ≡ place_in s → x ≡ next_as s.seat.family (next_l l p)
    → ((y : Found) → x ≡ next_as s.seat.family y → r ≡ landed s y) → r ≡ gone_on l s
unfolding gone_on
gone-on l s r x p q e h = rw (← q) (h (next_l l p) e)

-- Nothing stands nowhere.
pub stands-nowhere : (w : List ℕ) → StandsIn w nowhere none
unfolding size levels enc
stands-nowhere w =
    record {
      stands = record { u = 1; rest = []; is = record { has = record { fits = omega arith; at = λ k h. absurd (omega arith) }; one = omega arith; end = refl; used = refl; few = omega arith; low = omega arith } };
      deep = omega arith;
    }

-- A list in order, whose members are networks of the family f.
pub record Lists (f : ℕ) (l : List Bits) : Type 0 where
  pub order : From 0 l
  pub short : (q : Bits) → member q l ≡ true → length q ≤ width f
  pub family : is_family f ≡ true

pub lists-trie : (f : ℕ) (t : Trie) → levels t ≤ suc (width f) → is_family f ≡ true → Lists f (list_of t)
lists-trie f t deep is = record { order = from-list_of t; short = λ q e. omega (arith, member_t-length q t (sym (member-list_of t q) ∙ e)); family = is }

-- What is still to come: all of the list at first, and a step takes the first of it, until nothing is left.
abbrev pub ahead : List Bits → Spot → List Bits
ahead l s = keep (is_past (place_in s)) l

pub ahead-all : (l : List Bits) (s : Seat) → ahead l (before_all s) ≡ l
unfolding place_in
ahead-all l s = keep-start l

-- the network at which a step arrives is the first of what was ahead
pub record Arrives (l : List Bits) (s r : Spot) : Type 0 where
  pub bits : Bits
  pub net : r.net ≡ net_from s.seat.family bits
  pub taken : ahead l s ≡ bits ∷ ahead l r
  pub right : refusal_of r.net ≡ 0

module _ (l : List Bits) (s : Spot) (h : Lists s.seat.family l) where
  pub gone-more : (r : Spot) → r ≡ gone_on l s → r.more ≡ true → Arrives l s r
  unfolding gone_on place_in
  gone-more r e m = go (next_l l (place_in s)) refl e
    where
      go : (y : Found) → next_l l (place_in s) ≡ y → r ≡ landed s y → Arrives l s r
      go (found q) k g =
          let f = s.seat.family in
          let i = (next_l-found l (place_in s) q h.order k).0 in
          rw g
          (record {
            bits = q;
            net = refl;
            taken = next_l-step l (place_in s) q h.order k ∙ ap (λ p. q ∷ keep (is_past (past p)) l) (sym (net_bits-net_from f q (h.short q i)));
            right = refusal_of-net_from f q h.family (h.short q i);
          })
      go missing k g = absurd (true≢false (sym m ∙ ap (λ (x : Spot). x.more) g))

  pub gone-last : (r : Spot) → r ≡ gone_on l s → r.more ≡ false → ahead l s ≡ []
  unfolding gone_on
  gone-last r e m = go (next_l l (place_in s)) refl e
    where
      go : (y : Found) → next_l l (place_in s) ≡ y → r ≡ landed s y → ahead l s ≡ []
      go (found q) k g = absurd (true≢false (sym (ap (λ (x : Spot). x.more) g) ∙ m))
      go missing k g = next_l-end l (place_in s) k

  pub right-gone : Right s → Right (gone_on l s)
  unfolding gone_on
  right-gone g = go (next_l l (place_in s)) refl
    where
      go : (y : Found) → next_l l (place_in s) ≡ y → Right (landed s y)
      go (found q) k _ = let i = (next_l-found l (place_in s) q h.order k).0 in refusal_of-net_from s.seat.family q h.family (h.short q i)
      go missing k e = g e
