-- What stands in a seat, in either form: a law for each return of `seated`'s functions by the form, and what holds of the trie in both. Assumes nothing.
use mathlib.Core.Bool.{Bool, true, false, not}
use mathlib.Core.List.{List}
use mathlib.Core.Path.{◌≡◌, refl, sym, ap}
use Prim.Native.Nat.{ℕ, zero, suc, ◌-◌, ◌≤◌, ◌<◌}
use native.Mathlib.Omega.{arith}
use borrow.Author.Tests.{leb-true}
use lib.Dec.{eqb, leb, eqb-suc-zero}
use lib.ListN.{length, get_or, get_or-eq_default}
use Rattle.nets.specs.Networks.{is_family, width, has_bit_past, refusal_of}
use Rattle.nets.specs.Tries.{Trie, none, levels, list_of}
use Rattle.nets.specs.declared.Net.{Net}
use Rattle.nets.proofs.Numbers.{is-refusal_of}
use Rattle.nets.proofs.Strings.{and_left}
use Rattle.nodes.specs.declared.seats.Seat.{Seat}
use Rattle.pool_state.specs.Kept.{Form, first, second, form_of, same_form}
use Rattle.pool_state.specs.Decode.{form_in}
use Rattle.trie_paths.specs.Laying.{row_form, Layable}
use Rattle.trie_paths.specs.Spans.{Holds}
use Rattle.trie_paths.proofs.Counting.{list_of-size}
use Rattle.trie_paths.proofs.Reading.{spans-small}
use Rattle.trie_spots.specs.Spots.{nowhere, StandsIn, Goes}
use Rattle.trie_spots.specs.declared.spots.Spot.{Spot}
use Rattle.trie_spots.proofs.Onward as tries
use Rattle.setfile_format.specs.Files.{is_clean}
use Rattle.setfile_entries.specs.Entries.{Entry}
use Rattle.kept_list.specs.Listed.{KeptLayable}
use Rattle.kept_list.proofs.Scanned.{holds-first}
use Rattle.kept_spots.specs.Onward.{KeptStandsIn, KeptGoes}
use Rattle.kept_spots.proofs.Onward as kept
use Rattle.listing.specs.Seated.{HeldIn, LayableIn, GoesIn}
use Rattle.pool_state.proofs.Kept.{is-first, is-second}

-- The returns of `is_first`.
pub first-few : (w : List ℕ) → length w ≤ 5 → true ≡ same_form (form_in w) first
first-few w le = let e : get_or w 5 0 ≡ 0 = get_or-eq_default w 0 le in sym (ap (λ x. same_form (form_of x) first) e)

pub first_said : (x : ℕ) → eqb x 0 ≡ same_form (form_of x) first
first_said zero = refl
first_said (suc x) = eqb-suc-zero x

-- What is held there, by its answer.
module _ {w : List ℕ} {s : Seat} {t : Trie} (h : HeldIn w s t) {r : Bool} (e : r ≡ same_form (form_in w) first) where
  pub held_first : r ≡ true → StandsIn w s t
  held_first q = h.stands (is-first (form_in w) e q)

  pub held-second : r ≡ false → KeptStandsIn w s t
  held-second q = h.kept (is-second (form_in w) e q)

by_form : {X : Type 0} (F : Form) → (F ≡ first → X) → (F ≡ second → X) → X
by_form first a b = a refl
by_form second a b = b refl

-- What the functions of the second form ask.
module _ {w : List ℕ} {s : Seat} {t : Trie} (h : KeptStandsIn w s t) where
  pub kept-some : 1 ≤ s.end
  kept-some = omega (arith, h.one, h.end)

  pub kept_small : s.end < 4294967296
  kept_small = omega (arith, h.room.few)

-- The trie, as one that is read in the first form stands in some words: so what holds of such a trie holds in either form.
pub record Somewhere (f : ℕ) (t : Trie) : Type 0 where
  pub words : List ℕ
  pub base : ℕ
  pub first : ℕ
  pub end : ℕ
  pub holds : Holds words base first end f t

module _ {w : List ℕ} {s : Seat} {t : Trie} (h : HeldIn w s t) where
  pub held-somewhere : Somewhere s.family t
  held-somewhere = by_form (form_in w) (λ e. record { words = _; base = _; first = _; end = _; holds = h.stands e })
      (λ e. record { words = _; base = _; first = _; end = _; holds = holds-first (h.kept e) })

  pub held-deep : levels t ≤ suc (width s.family)
  held-deep = held-somewhere.holds.deep

  pub held-few : length (list_of t) < 1073741824
  held-few = let o = held-somewhere.holds.stands in omega (arith, list_of-size t, o.is.end, spans-small o)

-- Nothing stands nowhere.
pub held-nowhere : (w : List ℕ) → HeldIn w nowhere none
held-nowhere w = record { stands = λ _. tries.stands-nowhere w; kept = λ _. kept.stands-nowhere w }

-- The rows.
module _ {w : List ℕ} {s : Seat} {c : List ℕ} {m : ℕ} {t : Trie} (h : LayableIn w s c m t) {r : Bool} (e : r ≡ same_form (form_in w) first) where
  pub layable-first : r ≡ true → Layable (row_form s.family) w s.base s.first s.end s.family c m t
  layable-first q = record { holds = held_first h.holds e q; starts = h.starts; fits = omega (arith, h.fits) }

  pub layable-second : r ≡ false → KeptLayable (row_form s.family) s.family w s.base (s.end - 1) s.first s.end c m t
  layable-second q = record { holds = held-second h.holds e q; starts = h.starts; fits = omega (arith, h.fits) }

-- One can go on.
entry-right : {f : ℕ} {n : Net} → is_family f ≡ true → Entry f n → refusal_of n ≡ 0
unfolding is_clean
entry-right {f} {n} fam h = is-refusal_of n (record {
  family = rw h.family fam;
  len = leb-true n.len (width n.family) (and_left (leb n.len (width n.family)) (not (has_bit_past n)) h.clean);
  address = rw h.family h.range;
})

module _ {w : List ℕ} {s : Spot} (h : GoesIn w s) {r : Bool} (e : r ≡ same_form (form_in w) first) where
  pub goes_first : r ≡ true → Goes w s
  goes_first q = record { trie = h.trie; stands = held_first h.holds e q; right = λ b. entry-right h.family (h.right b) }

  pub goes-second : r ≡ false → KeptGoes w s
  goes-second q = record { trie = h.trie; stands = held-second h.holds e q; right = h.right }
