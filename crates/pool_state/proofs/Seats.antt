-- The seat of a set: what `seat_of` answers by its tests, and what its answer says to every call on the set. Assumes nothing.
use mathlib.Core.Path.{◌≡◌, refl, sym, ap, ◌∙◌}
use mathlib.Core.Bool.{Bool, true, false}
use mathlib.Core.List.{List, [], ◌∷◌}
use Prim.Native.Nat.{ℕ, ◌≤◌}
use native.Mathlib.Omega.{arith}
use lib.Dec.{leb}
use lib.ListN.{length, get_or}
use borrow.Author.Tests.{leb-true, leb-false, lt-leb}
use Rattle.nets.specs.Refusals.{number, Rule}
use Rattle.nets.specs.declared.Refusal.{Refusal}
use Rattle.nets.proofs.Answers.{number-one, number-some}
use Rattle.nets.proofs.Numbers.{family-few}
use Rattle.nets.proofs.Refused.{first_no-zero}
use Rattle.nodes.specs.declared.seats.Seat.{Seat}
use Rattle.pool_state.specs.States.{State, SetState}
use Rattle.pool_state.specs.Decode.{Decoded, damaged, sound, base, decode}
use Rattle.pool_state.specs.Rules.{answer_on, unknown, on_set, no_survey, survey_of, found_of, seat_at, seat_of, no_seat, seated_as, seated_rule}
use Rattle.pool_state.specs.Steps.{Refuses, Surveyed}
use Rattle.pool_state.specs.declared.Survey.{Survey}
use Rattle.pool_state.proofs.Answered.{owes-granted, owes-seat, answer_on-granted}
use Rattle.pool_state.proofs.Decoded.{decode-header}
use Rattle.pool_state.proofs.Header.{is_header-header}
use Rattle.pool_state.proofs.Seen.{Seen, seen, seen-header, survey-is}
use Rattle.std.specs.Prelude.{Some, Result, Ok, Err}

-- no set, and so neither survey nor seat
abbrev none : Survey × Seat
none = (no_survey, no_seat)

abbrev known : ℕ → State → List Rule
known k S = unknown S k ∷ []

-- The answers of `seat_of`, by its tests.
pub seat-refused : (w : List ℕ) (k : ℕ) {x : ℕ} → Refuses (decode w) k x → (x, none) ≡ seated_rule (decode w) k
unfolding seated_rule
seat-refused w k h = (owes-seat {A = Survey × Seat} (λ S. []) none _ w (λ S. w) (decode w) k h).0

pub seat-is : {w : List ℕ} {S : State} {k : ℕ} {v : Survey} → Seen w S k v → seat_of w v ≡ seat_at S k
seat-is h = rw ((seen-header h).family, (seen-header h).sets, h.at, h.held)

seen_at : {w : List ℕ} {S : State} {k : ℕ} {v : Survey} → Seen w S k v → v ≡ survey_of (decode w) k → (0, (v, seat_of w v)) ≡ seated_rule (decode w) k
unfolding seated_rule
seen_at {w} {S} {k} {v} h e =
    let a = seat-is h in
    let b : v ≡ survey_of (sound S) k = rw h.decoded at e in
    let p : ◌≡◌ {A = Survey × Seat} (v, seat_of w v) (survey_of (sound S) k, seat_at S k) = cc in
    rw p (owes-granted {A = Survey × Seat} (known k) none _ w (λ T. w) h.decoded (rw (lt-leb (length S.sets) k h.known))).0

module _ {w : List ℕ} {k : ℕ} {v : Survey} (h : Surveyed w k v) where
  pub seat-family : get_or w 1 0 ≤ 6
  seat-family = family-few (get_or w 1 0) (is_header-header w (seen-header (seen h).1).known).family

  pub seat-at : (0, (v, seat_of w v)) ≡ seated_rule (decode w) k
  seat-at = seen_at (seen h).1 (survey-is w k v h.found)

-- What an answer says: the refusal of every call on the set, or what a pass over the pool found for it, and its seat.
pub record Seats (w : List ℕ) (k : ℕ) (v : Survey) (s : Seat) : Type 0 where
  pub surveyed : Surveyed w k v
  pub seat : s ≡ seat_of w v

module _ {w : List ℕ} {k : ℕ} {v : Survey} {s : Seat} (h : Seats w k v s) where
  pub seats-family : s.family ≡ get_or w 1 0
  seats-family = ap (λ (x : Seat). x.family) h.seat

  pub seats-base : s.base ≡ base (get_or w 2 0)
  seats-base = ap (λ (x : Seat). x.base) h.seat

on_set-refused : {A : Type 0} (d : Decoded) (k : ℕ) (z : A) (f : State → SetState → A) (x : Refusal) → (number x, z) ≡ on_set d k z f → Refuses d k (number x)
unfolding answer_on
on_set-refused damaged k z f x e = ap (λ p. p.0) e
on_set-refused (sound S) k z f x e = go (leb (length S.sets) k) refl
  where
    go : (b : Bool) → leb (length S.sets) k ≡ b → (length S.sets ≤ k) × (number x ≡ 3)
    go true q = (leb-true (length S.sets) k q, rw q at (ap (λ p. p.0) e))
    go false q = absurd (number-some x (rw q at (ap (λ p. p.0) e)))

module _ (w : List ℕ) (k : ℕ) {r : (Result (Survey × Seat) Refusal)} (e : seated_as r ≡ seated_rule (decode w) k) where
  pub seated-refused : (x : Refusal) → r ≡ Err x → Refuses (decode w) k (number x)
  unfolding seated_rule
  seated-refused x q = on_set-refused {A = Survey × Seat} (decode w) k none (λ S s. (survey_of (sound S) k, seat_at S k)) x (sym (ap seated_as q) ∙ e)

  module _ (v : Survey) (s : Seat) (q : r ≡ Ok (v, s)) where
    surveyed : Surveyed w k v
    unfolding seated_rule survey_of found_of
    surveyed =
        let (S, d, z, i) = answer_on-granted {A = Survey × Seat} (known k) none (λ S. (survey_of (sound S) k, seat_at S k)) w (λ S. w) (decode w) (v, s) (sym (ap seated_as q) ∙ e) in
        let f : v ≡ survey_of (sound S) k = ap (λ p. p.0) i in
        record {
          found = rw d (ap Some f);
          known = omega (arith, leb-false (length S.sets) k (first_no-zero (known k S) z).0, (decode-header w S d).sets);
        }

    pub seated-at : Seats w k v s
    seated-at = record { surveyed = surveyed; seat = ap (λ p. p.1.1) (sym (ap seated_as q) ∙ e ∙ sym (seat-at surveyed)) }

-- One answer.
pub seated_as-one : (r s : Result (Survey × Seat) Refusal) → seated_as r ≡ seated_as s → r ≡ s
seated_as-one (Ok (u, a)) (Ok (v, b)) e = let p : u ≡ v = ap (λ x. x.1.0) e in let q : a ≡ b = ap (λ x. x.1.1) e in cc
seated_as-one (Ok (u, a)) (Err y) e = absurd (number-some y (sym (ap (λ p. p.0) e)))
seated_as-one (Err x) (Ok (v, b)) e = absurd (number-some x (ap (λ p. p.0) e))
seated_as-one (Err x) (Err y) e = ap Err (number-one x y (ap (λ p. p.0) e))

pub seat-determined : (w : List ℕ) (k : ℕ) (r s : Result (Survey × Seat) Refusal) → seated_as r ≡ seated_rule (decode w) k → seated_as s ≡ seated_rule (decode w) k → r ≡ s
seat-determined w k r s e f = seated_as-one r s (e ∙ sym f)
