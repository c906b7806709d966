-- A law for each return of list and next, by the tests on the way to it. Assumes nothing.
use mathlib.Core.Path.{◌≡◌, refl, sym, ap, ◌∙◌}
use mathlib.Core.Bool.{Bool, true, false, cond}
use mathlib.Core.List.{List}
use Prim.Native.Nat.{ℕ, ◌*◌, ◌≤◌, ◌<◌}
use native.Mathlib.Omega.{arith}
use lib.ListN.{length}
use borrow.Author.Tests.{lt-leb}
use Rattle.nets.specs.Bits.{Bits}
use Rattle.nets.specs.Lists.{past, Found, found, missing, next_l}
use Rattle.nets.specs.Networks.{is_family, width, refusal_of, net_bits, cleared, has_bit_past, no_entry, entered_as, entered}
use Rattle.nets.specs.Refusals.{number, first_no}
use Rattle.nets.specs.Tries.{Trie, list_of}
use Rattle.nets.specs.declared.Net.{Net}
use Rattle.nets.specs.declared.Refusal.{Refusal}
use Rattle.nets.specs.declared.Refusal.TheVariants.{ShortBuffer}
use Rattle.nets.proofs.Numbers.{refusal_of-is, length-net_bits, net_bits-cleared}
use Rattle.nets.proofs.Answers.{number-some, answered-granted}
use Rattle.nodes.specs.Words.{put}
use Rattle.nodes.specs.declared.seats.Seat.{Seat}
use Rattle.pool_state.specs.States.{State}
use Rattle.pool_state.specs.Decode.{Decoded, decode}
use Rattle.pool_state.specs.Changes.{list_at}
use Rattle.pool_state.specs.Steps.{Refuses}
use Rattle.pool_state.proofs.Answered.{owes-refused, owes-granted, owes-seat}
use Rattle.pool_state.proofs.Claims.{is_state-family}
use Rattle.pool_state.proofs.Decoded.{decode-state}
use Rattle.pool_state.proofs.Filled.{Filled, fill-refused, fill-short, fill-granted}
use Rattle.pool_state.proofs.OnTries.{trie_at}
use Rattle.pool_state.proofs.Returns.{net_rules-own, net_rules-other}
use Rattle.trie_paths.specs.Rows.{rows_of}
use Rattle.trie_paths.specs.Laying.{row_form, tallied, clear, Starts, laid}
use Rattle.trie_paths.proofs.RowForm.{rows-laid}
use Rattle.trie_spots.specs.Spots.{before_all, place_in, landed, gone_on}
use Rattle.trie_spots.specs.declared.spots.Spot.{Spot}
use Rattle.kept_next.proofs.Nearer.{entry_of}
use Rattle.kept_spots.proofs.Onward.{right-before}
use Rattle.listing.specs.Calls.{list_rules, list_rule, rows_after, Listed, from_rules, place_from, nothing, found_as, next_rules, next_rule}
use Rattle.listing.specs.Places.{Numbers, Right}
use Rattle.listing.specs.Seated.{HeldIn, LayableIn, GoesIn}
use Rattle.listing.proofs.Seats.{Sits}
use Rattle.listing.proofs.ByForm.{held-few}
use Rattle.std.specs.Prelude.{Result, Option, Ok, Err, Some, None}

-- The returns of list.
abbrev Fills : List ℕ → ℕ → List ℕ → Result ℕ Refusal → List ℕ → Type 0
Fills w k v r u = Filled (decode w) k (length v) (λ S. 3 * length (list_at S k)) (λ S. length (list_at S k)) v (λ S. put v 0 (rows_of S.family (list_at S k))) r u

module _ {w v u : List ℕ} {k : ℕ} {r : (Result ℕ Refusal)} where
  pub list-fills : Listed w k v r u → Fills w k v r u
  unfolding list_rule rows_after list_rules
  list-fills h = record { answer = h.answer; left = h.rows }

  listed : Fills w k v r u → Listed w k v r u
  unfolding list_rule rows_after list_rules
  listed h = record { answer = h.answer; rows = h.left }

pub list-refused : {w v : List ℕ} {k : ℕ} (x : Refusal) → Refuses (decode w) k (number x) → Listed w k v (Err x) v
list-refused {w} {v} {k} x e = listed (fill-refused (decode w) k (length v) _ _ v _ x e)

module _ {w : List ℕ} {k : ℕ} {S : State} {s : Seat} (h : Sits w k S s) {n : ℕ} (c : n ≡ length (list_of (trie_at S k))) where
  counted : n ≡ length (list_at S k)
  counted = c ∙ ap length h.list

  pub list-few : n < 1073741824
  list-few = omega (arith, held-few h.holds)

  pub list-layable : {m : ℕ} {c₀ c₁ : List ℕ} → c₀ ≡ tallied 0 (trie_at S k) clear → Starts c₀ c₁ → 3 * n ≤ m → LayableIn w s c₁ m (trie_at S k)
  list-layable e q le = record { holds = h.holds; starts = rw e at q; fits = omega arith }

  pub list-short : {v : List ℕ} → length v < 3 * n → Listed w k v (Err ShortBuffer) v
  list-short {v} lt = listed (fill-short (decode w) k (length v) _ _ v _ S h.decoded h.known (rw counted at lt))

  pub list-granted : {v u : List ℕ} → 3 * n ≤ length v → u ≡ laid (row_form s.family) v (trie_at S k) → Listed w k v (Ok n) u
  list-granted {v} {u} le f =
      let g : u ≡ put v 0 (rows_of S.family (list_at S k)) = rw (h.list, h.family) at (f ∙ rows-laid s.family (trie_at S k) v) in
      rw (counted, g) (listed (fill-granted (decode w) k (length v) _ _ v _ S h.decoded h.known (rw counted at le)))

-- A place as an argument.
pub place-start : {s : Seat} {x : (Option Net)} {p : Spot} → x ≡ None → p ≡ before_all s → Right s x p
unfolding place_in
place-start {s} e q = rw (e, q) (record { right = λ S o z. refl; seat = refl; place = refl; entry = right-before s })

module _ {x : (Option Net)} (n : Net) (e : x ≡ Some n) where
  pub place-family : {f : ℕ} → (n.family ≡ f → ⊥) → Numbers f x 6
  place-family ne S o q = rw e (net_rules-other n S (λ z. ne (z ∙ sym q)))

  module _ (t : Result (Net × Bool) Refusal) (g : entered_as t ≡ entered n) where
    pub place-refused : {f : ℕ} → n.family ≡ f → (r : Refusal) → t ≡ Err r → Numbers f x (number r)
    place-refused own r h S o q = rw e (net_rules-own n S o (own ∙ q) ∙ ap (λ y. y.0) (sym g ∙ ap entered_as h))

    pub place-past : {s : Seat} → n.family ≡ s.family → (m : Net) (b : Bool) → t ≡ Ok (m, b)
        → Right s x (record { seat = s; begun = true; more = true; net = m })
    unfolding place_in cleared
    place-past own m b h =
        let y = answered-granted (refusal_of n) no_entry (cleared n, has_bit_past n) (m, b) (sym (ap entered_as h) ∙ g) in
        let i = refusal_of-is n y.0 in
        let c : m ≡ cleared n = ap (λ z. z.0) y.1 in
        let le : length (net_bits n) ≤ width n.family = rw (length-net_bits n y.0) i.len in
        rw e
        (record {
          right = λ S o q. net_rules-own n S o (own ∙ q) ∙ y.0;
          seat = refl;
          place = ap past (ap net_bits c ∙ net_bits-cleared n y.0);
          entry = λ _. rw (c, ← own) (entry_of n.family (net_bits n) i.family le);
        })

-- The returns of next.
pub next-refused : (d : Decoded) (k x : ℕ) (y : Option Net) → Refuses d k x → (x, nothing) ≡ next_rule d k y
unfolding next_rule next_rules
next-refused d k x y e = (owes-seat _ nothing _ d (λ S. d) d k e).0

-- what is found from a spot on, as a value of the answer
pub found_as-gone : (l : List Bits) (s : Spot) → found_as s.seat.family (next_l l (place_in s)) ≡ cond (gone_on l s).more (true, (gone_on l s).net) nothing
unfolding gone_on
found_as-gone l s = go (next_l l (place_in s))
  where
    go : (y : Found) → found_as s.seat.family y ≡ cond (landed s y).more (true, (landed s y).net) nothing
    go (found p) = refl
    go missing = refl

module _ {w : List ℕ} {k : ℕ} {S : State} {s : Seat} (h : Sits w k S s) (x : Option Net) where
  abbrev d : Decoded
  d = decode w

  family : is_family S.family ≡ true
  family = is_state-family S (decode-state w S h.decoded)

  pub numbered : {n : ℕ} → first_no (from_rules x S) ≡ n → first_no (next_rules k x S) ≡ n
  unfolding next_rules
  numbered e = rw (lt-leb (length S.sets) k h.known) e

  pub next-misplaced : (r : Refusal) → Numbers s.family x (number r) → (number r, nothing) ≡ next_rule (decode w) k x
  unfolding next_rule
  next-misplaced r e = (owes-refused _ nothing _ d (λ T. d) h.decoded (numbered (e S family h.family)) (number-some r)).0

  module _ {p : Spot} (q : Right s x p) where
    holds : HeldIn w p.seat (trie_at S k)
    holds = rw q.seat h.holds

    pub next-goes : GoesIn w p
    next-goes = record { trie = trie_at S k; holds = holds; family = rw (q.seat, h.family) family; right = q.entry }

    module _ {z : Spot} (g : (t : Trie) → HeldIn w p.seat t → z ≡ gone_on (list_of t) p) where
      nexts : z ≡ gone_on (list_at S k) p
      nexts = rw h.list at (g (trie_at S k) holds)

      granted : next_rule (decode w) k x ≡ (0, cond z.more (true, z.net) nothing)
      unfolding next_rule
      granted =
          let l = list_at S k in
          let f : p.seat.family ≡ S.family = ap (λ (y : Seat). y.family) q.seat ∙ h.family in
          sym (owes-granted _ nothing _ d (λ T. d) h.decoded (numbered (q.right S family h.family))).0
          ∙ ap (λ y. (0, y))
          (sym (ap (λ y. found_as y (next_l l (place_from x))) f) ∙ sym (ap (λ y. found_as p.seat.family (next_l l y)) q.place)
          ∙ found_as-gone l p ∙ ap (λ (y : Spot). cond y.more (true, y.net) nothing) (sym nexts))

      pub next-network : z.more ≡ true → (0, (true, z.net)) ≡ next_rule (decode w) k x
      next-network e = sym (granted ∙ rw e)

      pub next-end : z.more ≡ false → (0, nothing) ≡ next_rule (decode w) k x
      next-end e = sym (granted ∙ rw e)
