-- The answers: which refusal each test of writing gives, what a refusal and a grant leave, and that each call has one answer. Assumes nothing.
use mathlib.Core.Bool.{Bool, true, false, cond}
use mathlib.Core.List.{List}
use mathlib.Core.Path.{◌≡◌, refl, ap, sym, ◌∙◌}
use Prim.Native.Nat.{ℕ, ◌≤◌, ◌<◌}
use native.Mathlib.Nat.{zero-add}
use native.Mathlib.Omega.{arith}
use lib.ListN.{length, take, drop}
use lib.Seq.{sets-eq, take-append_seam}
use borrow.Author.Tests.{eq-eqb, ne_eqb, le-leb, lt-leb}
use Rattle.nets.proofs.Answers.{number-one, number-some, answered-granted, entered_as-one}
use Rattle.nets.specs.Networks.{in_range, refusal_of, cleared, has_bit_past, no_net, taken_as, no_entry, entered_as, taken_in, entered}
use Rattle.nets.specs.Refusals.{number}
use Rattle.nets.specs.declared.Net.{Net}
use Rattle.nets.specs.declared.Refusal.{Refusal}
use Rattle.nets.specs.declared.Refusal.TheVariants.{WrongFamily, BadNetwork, ShortBuffer}
use Rattle.text.specs.Ipv4.{line_of}
use Rattle.text_decimal.specs.Places.{Stored}
use Rattle.text.specs.Answers.{entered_line, none_written, written_as, line_refusal, over_bytes, WroteOver, Wrote}
use Rattle.std.specs.Prelude.{Result, Ok, Err}

-- What `to_network` says by its answer.
pub entered-granted : {t : (Result (Net × Bool) Refusal)} {m : Net} {b : Bool} (n : Net) → t ≡ Ok (m, b) → entered_as t ≡ entered n → (refusal_of n ≡ 0) × (m ≡ cleared n) × (b ≡ has_bit_past n)
entered-granted {t} {m} {b} n e h =
    let g = answered-granted (refusal_of n) no_entry (cleared n, has_bit_past n) (m, b) (sym (ap entered_as e) ∙ h) in
    (g.0, ap (λ p. p.0) g.1, ap (λ p. p.1) g.1)

pub entered-refused : {t : (Result (Net × Bool) Refusal)} {r : Refusal} (n : Net) → t ≡ Err r → entered_as t ≡ entered n → number r ≡ refusal_of n
entered-refused {t} {r} n e h = ap (λ p. p.0) (sym (ap entered_as e) ∙ h)

-- What is read is taken in, where it is a network, and what is refused is refused.
pub taken_in-network : {t : (Result Net Refusal)} {n : Net} (p : ℕ × Net) (r : Result (Net × Bool) Refusal) → t ≡ Ok n → taken_as t ≡ p → refusal_of n ≡ 0 → entered_as r ≡ entered n → entered_as r ≡ taken_in p.0 p.1
taken_in-network {t} {n} p r e h g k = let q : p ≡ (0, n) = sym h ∙ ap taken_as e in rw q (rw g at k)

pub taken_in-refused : {t : (Result Net Refusal)} {x : Refusal} (p : ℕ × Net) → t ≡ Err x → taken_as t ≡ p → (number x, no_entry) ≡ taken_in p.0 p.1
taken_in-refused {t} {x} p e h = let q : p ≡ (number x, no_net) = sym h ∙ ap taken_as e in rw (q, ne_eqb (number x) 0 (number-some x))

-- The refusal of each test.
pub line_refusal-family : (n : Net) (room : ℕ) → (n.family ≡ 4 → ⊥) → line_refusal n room ≡ number WrongFamily
unfolding line_refusal
line_refusal-family n room e = rw (ne_eqb n.family 4 e)

-- of family 4, what is refused is what is not in range
refusal_of-4 : (n : Net) → n.family ≡ 4 → refusal_of n ≡ cond (in_range n) 0 7
unfolding refusal_of
refusal_of-4 n e = rw (eq-eqb n.family 4 e)

pub in_range-granted : (n : Net) → n.family ≡ 4 → refusal_of n ≡ 0 → in_range n ≡ true
in_range-granted n e h = go (in_range n) (sym (refusal_of-4 n e) ∙ h)
  where
    go : (b : Bool) → ◌≡◌ {A = ℕ} (cond b 0 7) 0 → b ≡ true
    go true k = refl
    go false k = absurd (omega arith)

in_range-refused : (n : Net) → n.family ≡ 4 → (refusal_of n ≡ 0 → ⊥) → in_range n ≡ false
in_range-refused n e h = go (in_range n) (refusal_of-4 n e)
  where
    go : (b : Bool) → refusal_of n ≡ cond b 0 7 → b ≡ false
    go true k = absurd (h k)
    go false k = refl

pub line_refusal-range : (n : Net) (room : ℕ) → n.family ≡ 4 → (refusal_of n ≡ 0 → ⊥) → line_refusal n room ≡ number BadNetwork
unfolding line_refusal
line_refusal-range n room e h = rw (eq-eqb n.family 4 e, in_range-refused n e h)

pub line_refusal-entered : (n : Net) (room : ℕ) (r : Refusal) → n.family ≡ 4 → number r ≡ refusal_of n → line_refusal n room ≡ number r
line_refusal-entered n room r e h =
    let z : refusal_of n ≡ 0 → ⊥ = λ k. number-some r (h ∙ k) in
    line_refusal-range n room e z ∙ sym (h ∙ (rw (in_range-refused n e z) at (refusal_of-4 n e)))

pub line_refusal-short : (n : Net) (room : ℕ) → n.family ≡ 4 → refusal_of n ≡ 0 → room < length (line_of n) → line_refusal n room ≡ number ShortBuffer
unfolding line_refusal
line_refusal-short n room e h k = rw (eq-eqb n.family 4 e, in_range-granted n e h, lt-leb (length (line_of n)) room k)

pub line_refusal-granted : (n : Net) (room : ℕ) → n.family ≡ 4 → refusal_of n ≡ 0 → length (line_of n) ≤ room → line_refusal n room ≡ 0
unfolding line_refusal
line_refusal-granted n room e h k = rw (eq-eqb n.family 4 e, in_range-granted n e h, le-leb (length (line_of n)) room k)

-- A refusal leaves the bytes; a grant writes the line.
pub over-refused : (k : ℕ) (s : List ℕ) (b : Bool) (old : List ℕ) (r : Refusal) → k ≡ number r → WroteOver k s b old old (Err r)
over-refused k s b old r e = let h = ne_eqb (number r) 0 (number-some r) in record { answer = rw (e, h); bytes = rw (e, h) }

pub over-line : (k : ℕ) (s old new : List ℕ) (q : ℕ) (b c : Bool) → k ≡ 0 → length s ≤ length old → Stored old 0 s new q → c ≡ b → WroteOver k s b old new (Ok (q, c))
over-line k s old new q b c e h t d =
    let z = zero-add (length s) in
    record { answer = rw (e, d) (ap (λ x. (0, (x, b))) (t.place ∙ z)); bytes = rw e (t.bytes ∙ sets-eq s old 0 (rw z h) ∙ rw z) }

pub over-granted : (k : ℕ) (s : List ℕ) (b : Bool) (old new : List ℕ) (q : ℕ) (c : Bool) → WroteOver k s b old new (Ok (q, c)) → (k ≡ 0) × (q ≡ length s) × (take q new ≡ s) × (c ≡ b)
over-granted k s b old new q c w =
    let a = answered-granted k none_written (length s, b) (q, c) w.answer in
    let e : new ≡ over_bytes s old = rw a.0 at w.bytes in
    let l : q ≡ length s = ap (λ p. p.0) a.1 in
    (a.0, l, rw (e, l) (take-append_seam s (drop (length s) old)), ap (λ p. p.1) a.1)

-- Two answers that a contract allows are equal, and so are the bytes that they leave.
written_as-one : (r t : Result (ℕ × Bool) Refusal) → written_as r ≡ written_as t → r ≡ t
written_as-one (Ok (j, a)) (Ok (k, b)) e = let x = ap (λ p. p.1.0) e in let y = ap (λ p. p.1.1) e in cc
written_as-one (Ok (j, a)) (Err y) e = absurd (number-some y (sym (ap (λ p. p.0) e)))
written_as-one (Err x) (Ok (k, b)) e = absurd (number-some x (ap (λ p. p.0) e))
written_as-one (Err x) (Err y) e = ap Err (number-one x y (ap (λ p. p.0) e))

pub read-determined : (s : List ℕ) (r t : Result (Net × Bool) Refusal) → entered_as r ≡ entered_line s → entered_as t ≡ entered_line s → r ≡ t
read-determined s r t e f = entered_as-one r t (e ∙ sym f)

pub over-determined : {k : ℕ} {s : List ℕ} {b : Bool} {old new last : List ℕ} {r t : (Result (ℕ × Bool) Refusal)} → WroteOver k s b old new r → WroteOver k s b old last t → (r ≡ t) × (new ≡ last)
over-determined {r = r} {t = t} h g = (written_as-one r t (h.answer ∙ sym g.answer), h.bytes ∙ sym g.bytes)

pub write-determined : (n : Net) (old new last : List ℕ) (r t : Result (ℕ × Bool) Refusal) → Wrote n old new r → Wrote n old last t → (r ≡ t) × (new ≡ last)
write-determined n old new last r t h k = over-determined h k
