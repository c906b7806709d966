-- What the listing is called for: a law for each return of `list` but the loop's, by the tests on the way to it. Assumes nothing.
use mathlib.Core.Path.{◌≡◌, ap, ◌∙◌}
use mathlib.Core.List.{List}
use Prim.Native.Nat.{ℕ, ◌≤◌, ◌<◌}
use native.Mathlib.Omega.{arith}
use lib.ListN.{length}
use Rattle.nets.specs.Tries.{Trie, list_of}
use Rattle.nets.specs.Refusals.{number}
use Rattle.nets.specs.declared.Net.{Net}
use Rattle.nets.specs.declared.Refusal.{Refusal}
use Rattle.nets.specs.declared.Refusal.TheVariants.{ShortBuffer}
use Rattle.pool_state.specs.States.{State}
use Rattle.pool_state.specs.Decode.{decode}
use Rattle.pool_state.specs.Changes.{list_at}
use Rattle.pool_state.specs.Steps.{Refuses}
use Rattle.pool_state.proofs.Filled.{Filled, fill-refused, fill-short, fill-granted}
use Rattle.pool_state.proofs.OnTries.{trie_at}
use Rattle.listing.specs.Seated.{HeldIn}
use Rattle.listing.proofs.Seats.{Sits}
use Rattle.nodes.specs.declared.seats.Seat.{Seat}
use Rattle.netrows.specs.Rows.{filled, row_rules, row_rule, row_after, Listed}
use Rattle.std.specs.Prelude.{Result, Ok, Err}

-- A listing fills the row.
abbrev Fills : List ℕ → ℕ → List Net → Result ℕ Refusal → List Net → Type 0
Fills w k v r u = Filled (decode w) k (length v) (λ S. length (list_at S k)) (λ S. length (list_at S k)) v (λ S. filled S.family (list_at S k) v) r u

module _ {w : List ℕ} {v u : List Net} {k : ℕ} {r : (Result ℕ Refusal)} where
  pub list-fills : Listed w k v r u → Fills w k v r u
  unfolding row_rule row_after row_rules
  list-fills h = record { answer = h.answer; left = h.row }

  listed : Fills w k v r u → Listed w k v r u
  unfolding row_rule row_after row_rules
  listed h = record { answer = h.answer; row = h.left }

pub lists-refused : {w : List ℕ} {k : ℕ} {v : List Net} (x : Refusal) → Refuses (decode w) k (number x) → Listed w k v (Err x) v
lists-refused {w} {k} {v} x e = listed (fill-refused (decode w) k (length v) _ _ v _ x e)

module _ {w : List ℕ} {k : ℕ} {S : State} {s : Seat} (h : Sits w k S s) {m : ℕ} (c : m ≡ length (list_at S k)) {v : List Net} where
  pub lists-short : length v < m → Listed w k v (Err ShortBuffer) v
  lists-short lt =
      let less : length v < length (list_at S k) = omega (arith, c) in
      listed (fill-short (decode w) k (length v) _ _ v _ S h.decoded h.known less)

  pub lists-granted : m ≤ length v → Listed w k v (Ok m) (filled s.family (list_at S k) v)
  lists-granted le =
      let room : length (list_at S k) ≤ length v = omega (arith, c) in
      rw (c, h.family) (listed (fill-granted (decode w) k (length v) _ _ v _ S h.decoded h.known room))

-- how many networks are counted
pub counted : {w : List ℕ} {k : ℕ} {S : State} {s : Seat} → Sits w k S s → {m : ℕ} → ((t : Trie) → HeldIn w s t → m ≡ length (list_of t)) → m ≡ length (list_at S k)
counted {k = k} {S = S} h c = c (trie_at S k) h.holds ∙ ap length h.list
