-- The loop that finds the end of a first line, the family that the line tells, and that a part of an input that is long enough tells it too. Assumes nothing.
use mathlib.Core.Bool.{Bool, true, false, cond}
use mathlib.Core.List.{List, [], ◌∷◌, ◌++◌}
use mathlib.Core.Path.{◌≡◌, refl, ap, sym, ◌∙◌}
use Prim.Native.Nat.{ℕ, zero, suc, ◌+◌, ◌≤◌, ◌<◌}
use native.Mathlib.Numerals.{add-one}
use native.Mathlib.Omega.{arith}
use lib.Dec.{leb}
use lib.ListN.{length, take, drop, get_or, drop_of_length-le}
use lib.Seq.{take-suc, take_all, drop-cons, append_snoc, length-take-le}
use borrow.Author.Tests.{eq-eqb, ne_eqb, leb-true, leb-false}
use mathlib.Core.List.{append-nil}
use Rattle.nets.proofs.Answers.{number-some}
use Rattle.nets.proofs.Numbers.{family-cleared}
use Rattle.nets.specs.Networks.{entered_as}
use Rattle.nets.specs.Refusals.{number}
use Rattle.nets.specs.declared.Net.{Net}
use Rattle.nets.specs.declared.Refusal.{Refusal}
use Rattle.text_decimal.specs.Spans.{leading_of}
use Rattle.text_either.specs.Either.{read_either, entered_either}
use Rattle.text_either.specs.First.{in_line, first_line, family_in, first_family}
use Rattle.text_either.proofs.Reading.{entered_either-no, read_either-long}
use Rattle.text_either.proofs.RoundTrip.{took}
use Rattle.std.specs.Prelude.{Result, Ok, Err}

-- What was passed, with what is left, is the first line.
pub Passed : List ℕ → ℕ → Type 0
Passed s at = (at ≤ length s) × (take at s ++ first_line (drop at s) ≡ first_line s)

pub passed_start : (s : List ℕ) → Passed s 0
unfolding Passed
passed_start s = (omega arith, refl)

pub passed-step : (s : List ℕ) (at : ℕ) → at < length s → (get_or s at 0 ≡ 10 → ⊥) → Passed s at → Passed s (at + 1)
unfolding Passed leading_of
passed-step s at h ne p =
    let e : first_line (drop at s) ≡ get_or s at 0 ∷ first_line (drop (suc at) s) = rw (drop-cons s at 0 h, ne_eqb (get_or s at 0) 10 ne) in
    (omega arith, rw (add-one at, take-suc s at 0 h, append_snoc (take at s) (get_or s at 0) (first_line (drop (suc at) s)), ← e) p.1)

pub passed-feed : (s : List ℕ) (at : ℕ) → at < length s → get_or s at 0 ≡ 10 → Passed s at → (at ≤ length s) × (take at s ≡ first_line s)
unfolding Passed leading_of
passed-feed s at h e p =
    let f : first_line (drop at s) ≡ [] = rw (drop-cons s at 0 h, eq-eqb (get_or s at 0) 10 e) in
    (p.0, sym (append-nil (take at s)) ∙ (rw f at p.1))

pub passed-end : (s : List ℕ) (at : ℕ) → length s ≤ at → Passed s at → (at ≤ length s) × (take at s ≡ first_line s)
unfolding Passed leading_of
passed-end s at h p =
    let f : first_line (drop at s) ≡ [] = rw (drop_of_length-le s h) in
    (p.0, sym (append-nil (take at s)) ∙ (rw f at p.1))

-- The family of a line, by what it is taken in as.
pub family-network : {t : (Result (Net × Bool) Refusal)} {n : Net} {b : Bool} (l : List ℕ) → t ≡ Ok (n, b) → entered_as t ≡ entered_either l → n.family ≡ family_in l
unfolding family_in
family-network {t} {n} {b} l e h =
    let x = took l n b (sym h ∙ ap entered_as e) in
    rw x.reads (ap (λ m. m.family) x.network ∙ family-cleared x.read)

pub family-refused : {t : (Result (Net × Bool) Refusal)} {x : Refusal} (l : List ℕ) → t ≡ Err x → entered_as t ≡ entered_either l → 4 ≡ family_in l
unfolding family_in
family-refused {t} {x} l e h =
    let q : (read_either l).0 ≡ number x = sym (entered_either-no l) ∙ ap (λ p. p.0) (sym h ∙ ap entered_as e) in
    rw (q, ne_eqb (number x) 0 (number-some x))

-- Fifty bytes of an input tell the family that all of it does.
first_line-take : (n : ℕ) (s : List ℕ) → first_line (take n s) ≡ take n (first_line s)
unfolding leading_of
first_line-take zero s = refl
first_line-take (suc n) [] = refl
first_line-take (suc n) (b ∷ s) = go (in_line b) (first_line-take n s)
  where
    go : (c : Bool) → first_line (take n s) ≡ take n (first_line s) → cond c (b ∷ first_line (take n s)) [] ≡ take (suc n) (cond c (b ∷ first_line s) [])
    go true e = ap (λ t. b ∷ t) e
    go false e = refl

pub read_either-kept : (t : List ℕ) → read_either (take 50 t) ≡ read_either t
read_either-kept t = go (leb (length t) 50) refl
  where
    go : (x : Bool) → leb (length t) 50 ≡ x → read_either (take 50 t) ≡ read_either t
    go true h = ap read_either (take_all 50 t (leb-true (length t) 50 h))
    go false h =
        let k = leb-false (length t) 50 h in
        let l : length (take 50 t) ≡ 50 = length-take-le 50 t (omega arith) in
        read_either-long (take 50 t) (omega arith) ∙ sym (read_either-long t (omega arith))

pub first_family-take : (s : List ℕ) → first_family (take 50 s) ≡ first_family s
unfolding first_family family_in
first_family-take s = rw (first_line-take 50 s, read_either-kept (first_line s))
