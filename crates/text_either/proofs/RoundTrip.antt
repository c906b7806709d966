-- What is written, in either family, reads back to the cleared network and reports no; and networks of one family with the same bits are written alike, so
-- every line of a network, read and written again, is one line. Assumes nothing.
use mathlib.Core.Bool.{Bool, true, false, cond, true≢false}
use mathlib.Core.List.{List}
use mathlib.Core.Logic.{◌⊎◌, inl, inr, ⊎_elim}
use mathlib.Core.Path.{◌≡◌, refl, ap, sym, ◌∙◌}
use Prim.Native.Nat.{ℕ, ◌^◌, ◌≤◌, ◌<◌}
use native.Mathlib.Omega.{arith}
use lib.Dec.{eqb, leb}
use lib.ListN.{length, take}
use borrow.Author.Tests.{eqb-true, eqb-false, eq-eqb, ne_eqb, leb-true, le-leb, lt-leb}
use Rattle.nets.proofs.Answers.{answered-granted}
use Rattle.nets.proofs.Numbers.{refusal_of-is, refusal_of-cleared, cleared-cleared, family-cleared}
use Rattle.nets.proofs.Strings.{or_cases}
use Rattle.nets.proofs.TwoWords.{has_bit_past-cleared}
use Rattle.nets.specs.Networks.{refusal_of, net_bits, net_from, cleared, has_bit_past, no_entry}
use Rattle.nets.specs.Refusals.{number}
use Rattle.nets.specs.declared.Net.{Net}
use Rattle.nets.specs.declared.Refusal.{Refusal}
use Rattle.nets.specs.declared.Refusal.TheVariants.{ShortBuffer}
use Rattle.text.specs.Ipv4.{line_as, line_of}
use Rattle.text.proofs.Answers.{over-granted, over-determined}
use Rattle.text.proofs.RoundTrip.{line_as-is, line_as-short, line_of-one}
use Rattle.text_ipv6_write.specs.Ipv6.{line_as6, line_of6}
use Rattle.text_ipv6_write.proofs.Lines.{length-line_of6, line_of6-one}
use Rattle.text_either.specs.Either.{IsEither, read_either, entered_either, either_as, line_either, either_refusal, WroteEither}
use Rattle.text_either.proofs.Reading.{read_either-accepts, read_either-granted}
use Rattle.text_either.proofs.Written6.{line_as6-is}
use Rattle.std.specs.Prelude.{Result, Ok}

-- The families of networks.
pub families : (n : Net) → refusal_of n ≡ 0 → (n.family ≡ 4) ⊎ (n.family ≡ 6)
families n e =
    ⊎_elim (λ h. inl (eqb-true n.family 4 h)) (λ h. inr (eqb-true n.family 6 h)) (or_cases (eqb n.family 4) (eqb n.family 6) (refusal_of-is n e).family)

pub line_either-4 : (n : Net) → n.family ≡ 4 → line_either n ≡ line_of n
unfolding line_either either_as line_of
line_either-4 n f = rw (family-cleared n, eq-eqb n.family 4 f)

pub line_either-6 : (n : Net) → (n.family ≡ 4 → ⊥) → line_either n ≡ line_of6 n
unfolding line_either either_as line_of6
line_either-6 n f = rw (family-cleared n, ne_eqb n.family 4 f)

not-four : (n : Net) → n.family ≡ 6 → n.family ≡ 4 → ⊥
not-four n f g = omega arith

-- The written line is one of the cleared network.
low : (n : Net) → (cleared n).lo < 2 ^ 64
unfolding cleared net_from
low n = omega arith

module _ (n : Net) (e : refusal_of n ≡ 0) where
  line_either-is : IsEither (line_either n) (cleared n)
  unfolding line_of line_of6
  line_either-is = ⊎_elim four six (families n e)
    where
      four : n.family ≡ 4 → IsEither (line_either n) (cleared n)
      four f = rw (line_either-4 n f) (inl (line_as-is (cleared n) (family-cleared n ∙ f) (refusal_of-cleared n e)))

      six : n.family ≡ 6 → IsEither (line_either n) (cleared n)
      six f = rw (line_either-6 n (not-four n f)) (inr (line_as6-is (cleared n) (family-cleared n ∙ f) (refusal_of-cleared n e) (low n)))

  -- it reads back to the cleared network, and reports no
  pub entered_either-line : entered_either (line_either n) ≡ (0, (cleared n, false))
  unfolding entered_either
  entered_either-line = rw ((read_either-accepts (line_either n) (cleared n)).1 line_either-is, cleared-cleared n e, has_bit_past-cleared n e)

-- The refusal of each test of writing.
pub either_refusal-refused : (n : Net) (room : ℕ) (k : ℕ) → refusal_of n ≡ k → (k ≡ 0 → ⊥) → either_refusal n room ≡ k
unfolding either_refusal
either_refusal-refused n room k e h = rw (e, ne_eqb k 0 h)

pub either_refusal-short : (n : Net) (room : ℕ) → refusal_of n ≡ 0 → room < length (line_either n) → either_refusal n room ≡ number ShortBuffer
unfolding either_refusal
either_refusal-short n room e h = rw (e, lt-leb (length (line_either n)) room h)

pub either_refusal-granted : (n : Net) (room : ℕ) → refusal_of n ≡ 0 → length (line_either n) ≤ room → either_refusal n room ≡ 0
unfolding either_refusal
either_refusal-granted n room e h = rw (e, le-leb (length (line_either n)) room h)

pub either_refusal-zero : (n : Net) (room : ℕ) → either_refusal n room ≡ 0 → (refusal_of n ≡ 0) × (length (line_either n) ≤ room)
unfolding either_refusal
either_refusal-zero n room e = go (eqb (refusal_of n) 0) (leb (length (line_either n)) room) refl refl e
  where
    go : (a b : Bool) → eqb (refusal_of n) 0 ≡ a → leb (length (line_either n)) room ≡ b → cond a (cond b 0 11) (refusal_of n) ≡ 0
        → (refusal_of n ≡ 0) × (length (line_either n) ≤ room)
    go true true h g e = (eqb-true (refusal_of n) 0 h, leb-true (length (line_either n)) room g)
    go true false h g e = absurd (omega arith)
    go false b h g e = absurd (true≢false (sym (eq-eqb (refusal_of n) 0 e) ∙ h))

-- the bytes that a call has written read back, and its report says whether a bit was cut
pub written-reads : (n : Net) (old new : List ℕ) (k : ℕ) (b : Bool) → WroteEither n old new (Ok (k, b))
    → (entered_either (take k new) ≡ (0, (cleared n, false))) × (b ≡ has_bit_past n)
written-reads n old new k b w =
    let a = over-granted (either_refusal n (length old)) (line_either n) (has_bit_past n) old new k b w in
    (ap entered_either a.2 ∙ entered_either-line n (either_refusal-zero n (length old) a.0).0, a.3)

pub write-determined : (n : Net) (old new last : List ℕ) (r t : Result (ℕ × Bool) Refusal) → WroteEither n old new r → WroteEither n old last t → (r ≡ t) × (new ≡ last)
write-determined n old new last r t h k = over-determined h k

-- Networks of one family with the same bits are written alike.
pub line_either-one : (m n : Net) → m.family ≡ n.family → net_bits m ≡ net_bits n → line_either m ≡ line_either n
line_either-one m n f e = go (eqb n.family 4) refl
  where
    go : (b : Bool) → eqb n.family 4 ≡ b → line_either m ≡ line_either n
    go true h = let g = eqb-true n.family 4 h in line_either-4 m (f ∙ g) ∙ line_of-one m n f e ∙ sym (line_either-4 n g)
    go false h = let g = eqb-false n.family 4 h in line_either-6 m (λ k. g (sym f ∙ k)) ∙ line_of6-one m n f e ∙ sym (line_either-6 n g)

-- so every reading of one network is written alike
pub readings-alike : (s t : List ℕ) (m n : Net) (a b : Bool) → entered_either s ≡ (0, (m, a)) → entered_either t ≡ (0, (n, b)) → m.family ≡ n.family
    → net_bits m ≡ net_bits n
    → line_either m ≡ line_either n
readings-alike s t m n a b e f g h = line_either-one m n g h

-- What a line that is taken in reads as.
pub record Took (s : List ℕ) (m : Net) (b : Bool) : Type 0 where
  pub read : Net
  pub reads : read_either s ≡ (0, read)
  pub granted : refusal_of read ≡ 0
  pub network : m ≡ cleared read
  pub report : b ≡ has_bit_past read

pub took : (s : List ℕ) (m : Net) (b : Bool) → entered_either s ≡ (0, (m, b)) → Took s m b
unfolding entered_either
took s m b e =
    let n = (read_either s).1 in
    let a = answered-granted (read_either s).0 no_entry (cleared n, has_bit_past n) (m, b) (sym e) in
    let q : read_either s ≡ (0, n) = ap (λ k. (k, n)) a.0 in
    record { read = n; reads = q; granted = read_either-granted s n q; network = ap (λ p. p.0) a.1; report = ap (λ p. p.1) a.1 }

-- once written, it reads as the same network and reports no
pub reading-again : (s : List ℕ) (m : Net) (a : Bool) → entered_either s ≡ (0, (m, a)) → entered_either (line_either m) ≡ (0, (m, false))
reading-again s m a e =
    let t = took s m a e in
    let n = t.read in
    rw t.network (entered_either-line (cleared n) (refusal_of-cleared n t.granted) ∙ ap (λ x. (0, (x, false))) (cleared-cleared n t.granted))

-- No line that is written has more than 43 bytes.
pub length-line_either : (n : Net) → refusal_of n ≡ 0 → length (line_either n) ≤ 43
unfolding line_of
length-line_either n e = ⊎_elim four six (families n e)
  where
    four : n.family ≡ 4 → length (line_either n) ≤ 43
    four f = rw (line_either-4 n f) (omega (arith, line_as-short (cleared n) (family-cleared n ∙ f) (refusal_of-cleared n e)))

    six : n.family ≡ 6 → length (line_either n) ≤ 43
    six f = rw (line_either-6 n (not-four n f)) (length-line_of6 n)

-- The line of the numbers as they stand, by the family.
pub either_as-4 : (n : Net) → n.family ≡ 4 → either_as n ≡ line_as n
unfolding either_as
either_as-4 n f = rw (eq-eqb n.family 4 f)

pub either_as-6 : (n : Net) → (n.family ≡ 4 → ⊥) → either_as n ≡ line_as6 n
unfolding either_as
either_as-6 n f = rw (ne_eqb n.family 4 f)
