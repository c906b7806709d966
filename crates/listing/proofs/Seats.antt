-- The trie of a set in its seat (`Sits`), by the answer of `seat_of` and in every state that words hold. Assumes nothing.
use mathlib.Core.Path.{◌≡◌, refl, sym, ◌∙◌}
use mathlib.Core.List.{List}
use Prim.Native.Nat.{ℕ, ◌+◌, ◌<◌}
use native.Mathlib.Omega.{arith}
use lib.ListN.{length}
use Rattle.nets.specs.Tries.{trie_of, list_of}
use Rattle.nodes.specs.declared.seats.Seat.{Seat}
use Rattle.pool_state.specs.States.{State}
use Rattle.pool_state.specs.Decode.{sound, decode}
use Rattle.pool_state.specs.Rules.{survey_of, seat_at, seat_of, seated_as, seated_rule}
use Rattle.pool_state.specs.Changes.{list_at}
use Rattle.pool_state.specs.declared.Survey.{Survey}
use Rattle.pool_state.proofs.Decoded.{decode-header}
use Rattle.pool_state.proofs.Seats.{seat-is, seated-at}
use Rattle.pool_state.proofs.Seen.{Seen, behind, survey-seen, seen, seen-header, seen-figures, seen-form}
use Rattle.pool_state.proofs.OnTries.{decode-at, seen-segment, seen-list}
use Rattle.pool_state.proofs.OnKept.{kept-room, kept_at, kept-size}
use Rattle.kept_spots.proofs.Onward.{holds-own}
use Rattle.listing.specs.Seated.{HeldIn}
use Rattle.std.specs.Prelude.{Result, Ok}
use Rattle.nets.specs.declared.Refusal.{Refusal}

-- the words w hold the state S, and the trie of its set k stands in the seat s
pub record Sits (w : List ℕ) (k : ℕ) (S : State) (s : Seat) : Type 0 where
  pub decoded : decode w ≡ sound S
  pub known : k < length S.sets
  pub seat : s ≡ seat_at S k
  pub family : s.family ≡ S.family
  pub list : list_of (trie_of (list_at S k)) ≡ list_at S k
  pub holds : HeldIn w s (trie_of (list_at S k))

seen-sits : {w : List ℕ} {S : State} {k : ℕ} {v : Survey} {s : Seat} → Seen w S k v → s ≡ seat_of w v → Sits w k S s
seen-sits {w} {S} {k} {v} h e =
    rw e
    (record {
      decoded = h.decoded;
      known = h.known;
      seat = seat-is h;
      family = (seen-header h).family;
      list = seen-list h;
      holds = record {
        stands = λ e. let F = sym (seen-form h) ∙ e in record {
          stands = record { u = v.used + 1; rest = behind S k; is = seen-segment h F };
          deep = rw (seen-header h).family (decode-at w S h.decoded F k h.known).deep;
        };
        kept = λ e. let F = sym (seen-form h) ∙ e in
            holds-own (record { room = kept-room h F; stands = kept_at h F; one = (seen-figures h).first; end = omega (arith, kept-size h F) });
      };
    })

pub seated-sits : (w : List ℕ) (k : ℕ) {r : (Result (Survey × Seat) Refusal)} → seated_as r ≡ seated_rule (decode w) k → (v : Survey) (s : Seat) → r ≡ Ok (v, s) → (S : State) × Sits w k S s
seated-sits w k e v s q =
    let h = seated-at w k e v s q in
    let (S, g) = seen h.surveyed in
    (S, seen-sits g h.seat)

pub sits-at : (w : List ℕ) (S : State) (k : ℕ) → decode w ≡ sound S → k < length S.sets → Sits w k S (seat_at S k)
sits-at w S k d lt =
    let h = survey-seen w k (survey_of (decode w) k) refl S d (rw (decode-header w S d).sets lt) in
    seen-sits h (sym (seat-is h))
