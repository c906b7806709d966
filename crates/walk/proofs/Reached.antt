-- Going to a place of the list: the steps of `reach`, and what the spots that it reaches say of the list. Nothing here is about memory. Assumes nothing.
use mathlib.Core.Path.{◌≡◌, refl, sym, ap, ◌∙◌}
use mathlib.Core.Bool.{Bool, true, false, cond, true≢false}
use mathlib.Core.List.{List, [], ◌∷◌}
use mathlib.Core.Logic.{inl, inr}
use Prim.Native.Nat.{ℕ, zero, suc, ◌≤◌}
use native.Mathlib.Omega.{arith}
use denote.Ref.{Bor}
use lib.Dec.{leb}
use lib.ListN.{length}
use Rattle.nets.specs.Bits.{Bits}
use Rattle.nets.specs.Lists.{Found, found, missing, next_l}
use Rattle.nets.specs.Networks.{net_from}
use Rattle.nets.specs.Refusals.{answered}
use Rattle.nets.specs.declared.Net.{Net}
use Rattle.pool_state.specs.Decode.{Decoded, damaged, sound, decode}
use Rattle.pool_state.specs.Rules.{answer_on}
use Rattle.listing.specs.Calls.{nothing, found_as, follower_as}
use Rattle.nodes.specs.declared.seats.Seat.{Seat}
use Rattle.trie_spots.specs.Spots.{place_in, landed, gone_on}
use Rattle.trie_spots.specs.declared.spots.Spot.{Spot}
use Rattle.trie_spots.proofs.Onward.{ahead, ahead-all}
use Rattle.walk.specs.Walks.{walk_no, list_in, seat_in, walk_start, walk_on, Walking}
use Rattle.walk_turns.specs.Turns.{IsNo, told_of}
use Rattle.walk.specs.Places.{nth_l, last_l, place_rule, spot_after, stage_in}
use Rattle.walk.specs.declared.beginning.Stage.{Stage}
use Rattle.walk.specs.declared.walking.Walk.{Walk}
use Rattle.walk.proofs.Steps.{list_on, list-small, on-more, on-end, on-seat, walking-from, walking_on}
use Rattle.std.specs.Prelude.{Result, Option}
use Rattle.nets.specs.declared.Refusal.{Refusal}

-- The number of a walk, and the rule by the list that it goes through.
is-no : (d : Decoded) (k : ℕ) → IsNo (walk_no d k)
unfolding walk_no
is-no damaged k = inr (inl refl)
is-no (sound S) k = go (leb (length S.sets) k)
  where
    go : (b : Bool) → IsNo (cond b 3 0)
    go true = inr (inr refl)
    go false = inl refl

rule-is : (f : List Bits → Found) (d : Decoded) (k : ℕ) → place_rule f d k ≡ answered (walk_no d k) nothing (found_as (seat_in d k).family (f (list_in d k)))
unfolding place_rule answer_on walk_no seat_in list_in
rule-is f damaged k = refl
rule-is f (sound S) k = go (leb (length S.sets) k) refl
  where
    go : (b : Bool) → leb (length S.sets) k ≡ b → place_rule f (sound S) k ≡ answered (walk_no (sound S) k) nothing (found_as (seat_in (sound S) k).family (f (list_in (sound S) k)))
    go true e = rw e
    go false e = rw e

-- At its end a walk stays.
gone-stays : (l : List Bits) (s : Spot) → (gone_on l s).more ≡ false → gone_on l (gone_on l s) ≡ gone_on l s
unfolding gone_on place_in
gone-stays l s m = go (next_l l (place_in s)) refl m
  where
    go : (y : Found) → next_l l (place_in s) ≡ y → (landed s y).more ≡ false → landed (landed s y) (next_l l (place_in (landed s y))) ≡ landed s y
    go (found p) k e = absurd (true≢false e)
    go missing k e = rw k

after-stays : (n : ℕ) (l : List Bits) (s : Spot) → (gone_on l s).more ≡ false → spot_after n l (gone_on l s) ≡ gone_on l s
unfolding spot_after
after-stays zero l s m = refl
after-stays (suc n) l s m = ap (spot_after n l) (gone-stays l s m) ∙ after-stays n l s m

-- The walk w on the way of `reach`, whose number stays x: n steps more come to the spot z.
pub record Going (z : Spot) (x n : ℕ) (w : Walk) : Type 0 where
  pub no : w.no ≡ x
  pub walking : Walking w
  pub comes : spot_after n (list_on w) w.spot ≡ z

pub starts : (p : Bor (List ℕ)) (k i n : ℕ) → n ≡ suc i → Going (stage_in (decode p.now) k i).spot (walk_no (decode p.now) k) n (walk_start p k)
starts p k i n e = record { no = refl; walking = walking-from p k; comes = rw e }

module _ {z : Spot} {x n : ℕ} {w : Walk} (h : Going z x n w) where
  pub done : n ≡ 0 → ◌≡◌ {A = Stage} record { spot = w.spot; no = w.no } record { spot = z; no = x }
  unfolding spot_after
  done e = let q : w.spot ≡ z = rw e at h.comes in λ i. record { spot = q i; no = h.no i }

  module _ (m : ℕ) (e : n ≡ suc m) where
    pub steps : Going z x m (walk_on w)
    unfolding spot_after
    steps = record { no = h.no; walking = walking_on w h.walking; comes = rw e at h.comes }

    pub stops : (walk_on w).spot.more ≡ false → ◌≡◌ {A = Stage} record { spot = (walk_on w).spot; no = w.no } record { spot = z; no = x }
    stops b = let q : (walk_on w).spot ≡ z = sym (after-stays m (list_on w) w.spot b) ∙ steps.comes in λ i. record { spot = q i; no = h.no i }

-- What is told of a spot: the network that it is at, and the last that it has been at.
abbrev here : Spot → Bool × Net
here s = cond s.more (true, s.net) nothing

abbrev kept : Spot → Bool × Net
kept s = cond s.begun (true, s.net) nothing

kept-gone : (l : List Bits) (s : Spot) → kept (gone_on l s) ≡ cond (gone_on l s).more (true, (gone_on l s).net) (kept s)
unfolding gone_on
kept-gone l s = go (next_l l (place_in s))
  where
    go : (y : Found) → kept (landed s y) ≡ cond (landed s y).more (true, (landed s y).net) (kept s)
    go (found p) = refl
    go missing = refl

-- behind i networks and one step more: at place i of what was ahead
abbrev HereAfter : ℕ → Walk → Type 0
HereAfter i w = here (spot_after (suc i) (list_on w) w.spot) ≡ found_as w.spot.seat.family (nth_l (ahead (list_on w) w.spot) i)

here_end : (i : ℕ) (w : Walk) → Walking w → (walk_on w).spot.more ≡ false → HereAfter i w
unfolding spot_after nth_l
here_end i w h b = ap here (after-stays i (list_on w) w.spot b) ∙ rw (b, on-end w h b)

here-after : (i : ℕ) (w : Walk) → Walking w → HereAfter i w
unfolding spot_after nth_l
here-after zero w h = go (walk_on w).spot.more refl
  where
    go : (b : Bool) → (walk_on w).spot.more ≡ b → HereAfter 0 w
    go true b = let p = on-more w h b in rw (p.taken, b) (ap (λ (x : Net). (true, x)) p.net)
    go false b = here_end 0 w h b
here-after (suc i) w h = go (walk_on w).spot.more refl (here-after i (walk_on w) (walking_on w h))
  where
    f : ℕ
    f = w.spot.seat.family

    go : (b : Bool) → (walk_on w).spot.more ≡ b → HereAfter i (walk_on w) → HereAfter (suc i) w
    go true b ih = ih ∙ ap (λ (s : Seat). found_as s.family (nth_l (ahead (list_on w) (walk_on w).spot) i)) (on-seat w h) ∙ ap (λ l. found_as f (nth_l l (suc i))) (sym (on-more w h b).taken)
    go false b ih = here_end (suc i) w h b

-- behind all that was ahead: the last of it, or what was kept before
unfoldable last_from : ℕ → Bool × Net → List Bits → Bool × Net
last_from f z [] = z
last_from f z (p ∷ l) = last_from f (true, net_from f p) l

last_from-last : (f : ℕ) (z : Bool × Net) (p : Bits) (l : List Bits) → last_from f z (p ∷ l) ≡ found_as f (last_l (p ∷ l))
unfolding last_from last_l
last_from-last f z p [] = refl
last_from-last f z p (q ∷ l) = last_from-last f (true, net_from f p) q l

last_from-nothing : (f : ℕ) (l : List Bits) → last_from f nothing l ≡ found_as f (last_l l)
unfolding last_from last_l
last_from-nothing f [] = refl
last_from-nothing f (p ∷ l) = last_from-last f nothing p l

abbrev KeptAfter : ℕ → Walk → Type 0
KeptAfter n w = kept (spot_after n (list_on w) w.spot) ≡ last_from w.spot.seat.family (kept w.spot) (ahead (list_on w) w.spot)

kept-after : (n : ℕ) (w : Walk) → Walking w → length (ahead (list_on w) w.spot) ≤ n → KeptAfter n w
unfolding spot_after last_from
kept-after zero w h le = go (ahead (list_on w) w.spot) le
  where
    go : (l : List Bits) → length l ≤ 0 → kept w.spot ≡ last_from w.spot.seat.family (kept w.spot) l
    go [] _ = refl
    go (p ∷ l) le = absurd (omega arith)
kept-after (suc n) w h le = go (walk_on w).spot.more refl (kept-after n (walk_on w) (walking_on w h))
  where
    f : ℕ
    f = w.spot.seat.family

    go : (b : Bool) → (walk_on w).spot.more ≡ b → (length (ahead (list_on w) (walk_on w).spot) ≤ n → KeptAfter n (walk_on w)) → KeptAfter (suc n) w
    go true b ih =
        let p = on-more w h b in
        let g : kept (walk_on w).spot ≡ (true, net_from f p.bits) = kept-gone (list_on w) w.spot ∙ rw b (ap (λ (x : Net). (true, x)) p.net) in
        ih (omega (arith, ap length p.taken))
        ∙ ap (λ (s : Seat). last_from s.family (kept (walk_on w).spot) (ahead (list_on w) (walk_on w).spot)) (on-seat w h)
        ∙ ap (λ z. last_from f z (ahead (list_on w) (walk_on w).spot)) g
        ∙ ap (last_from f (kept w.spot)) (sym p.taken)
    go false b ih =
        let g : kept (walk_on w).spot ≡ kept w.spot = kept-gone (list_on w) w.spot ∙ rw b in
        ap kept (after-stays n (list_on w) w.spot b) ∙ g ∙ ap (last_from f (kept w.spot)) (sym (on-end w h b))

-- The answers of `nth` and `last`: what is told at the spot that is reached is the rule's.
module _ (p : Bor (List ℕ)) (k : ℕ) (g : Stage) (r : Result (Option Net) Refusal) where
  abbrev d : Decoded
  d = decode p.now

  tells : (f : List Bits → Found) (b : Bool) → g.no ≡ walk_no d k → (IsNo g.no → follower_as r ≡ told_of b g.spot.net g.no) → cond b (true, g.spot.net) nothing ≡ found_as (seat_in d k).family (f (list_in d k))
      → follower_as r ≡ place_rule f d k
  tells f b n h e = rw n at h (is-no d k) ∙ ap (λ (x : Bool × Net). answered (walk_no d k) nothing x) e ∙ sym (rule-is f d k)

  pub tells-nth : (i : ℕ) → g ≡ stage_in d k i → (IsNo g.no → follower_as r ≡ told_of g.spot.more g.spot.net g.no) → follower_as r ≡ place_rule (λ l. nth_l l i) d k
  tells-nth i e h = tells (λ l. nth_l l i) g.spot.more (ap (λ (x : Stage). x.no) e) h
      (ap (λ (x : Stage). here x.spot) e ∙ here-after i (walk_start p k) (walking-from p k) ∙ ap (λ l. found_as (seat_in d k).family (nth_l l i)) (ahead-all (list_in d k) (seat_in d k)))

  pub tells-last : (n : ℕ) → g ≡ stage_in d k n → 1073741824 ≤ n → (IsNo g.no → follower_as r ≡ told_of g.spot.begun g.spot.net g.no) → follower_as r ≡ place_rule last_l d k
  tells-last n e le h =
      let a = ahead-all (list_in d k) (seat_in d k) in
      tells last_l g.spot.begun (ap (λ (x : Stage). x.no) e) h
      (ap (λ (x : Stage). kept x.spot) e ∙ kept-after (suc n) (walk_start p k) (walking-from p k) (omega (arith, ap length a, list-small p.now k))
      ∙ ap (last_from (seat_in d k).family nothing) a ∙ last_from-nothing (seat_in d k).family (list_in d k))
