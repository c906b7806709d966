-- What is read is what the grammar says: a line is accepted exactly if it is one, with the network of its groups. No line is one of both families. Assumes
-- nothing.
use mathlib.Core.Bool.{Bool, true, false, not, cond, ◌&&◌, true≢false}
use mathlib.Core.List.{List, [], ◌∷◌, ◌++◌, append_assoc, append-nil}
use mathlib.Core.Logic.{◌↔◌, ◌⊎◌, inl, inr, ⊎_elim}
use mathlib.Core.Path.{◌≡◌, refl, ap, sym, ◌∙◌}
use Prim.Native.Nat.{ℕ, ◌+◌, ◌-◌, ◌≤◌}
use native.Mathlib.Omega.{arith}
use lib.Dec.{eqb}
use lib.ListN.{length, drop, length-append}
use lib.Seq.{take-length, drop-length, take-append_seam, drop-append_seam}
use borrow.Author.Tests.{eqb-true, eq-eqb, leb-true, le-leb}
use Rattle.nets.proofs.Strings.{and_left, and_right}
use Rattle.nets.specs.declared.Net.{Net}
use Rattle.text_decimal.specs.Spans.{starts_of}
use Rattle.text_decimal.specs.Decimal.{decimal, is_number, Parsed, parsed, nothing, read_number}
use Rattle.text.specs.Ipv4.{slash, joined, bad_text, read_line}
use Rattle.text_decimal.specs.Places.{starts_byte}
use Rattle.text_decimal.proofs.Numbers.{read_number-is}
use Rattle.text.proofs.Grammar.{read_number-all, bad_text-some, read_line-accepts}
use Rattle.text_hex.specs.Hex.{is_hex_digit, colon}
use Rattle.text_ipv6_read.specs.Ipv6.{dotted, Pieces, quad, Side, empty, pieces, around, IsAddress, full, shortened, ipv6, IsLine6}
use Rattle.text_ipv6_runs.specs.Runs.{run_from}
use Rattle.text_ipv6_read.specs.Reader.{Outline, outline, starts_double, behind_run, whole_run, read_address, is_outline, laid, with_length6, line_from, read_line6}
use Rattle.text_ipv6_read.proofs.Joined.{stops-slash, stops-double, run-pieces, run-side, run-went}

-- Groups laid out.
laid-full : (xs : List ℕ) → length xs ≡ 8 → laid xs (length xs) ≡ xs
unfolding laid
laid-full xs e =
    let z : 8 - length xs ≡ 0 = omega arith in
    rw (take-length xs, drop-length xs, z) (append-nil xs)

laid-around : (xs ys : List ℕ) → laid (xs ++ ys) (length xs) ≡ around xs ys
unfolding laid
laid-around xs ys = rw (take-append_seam xs ys, drop-append_seam xs ys, length-append xs ys)

-- A line of the grammar is read: its address first.
address-full : {q : Bool} (s t xs : List ℕ) → Pieces q s xs → length xs ≡ 8 → read_address (s ++ (slash ∷ t)) ≡ outline xs false (length xs) (slash ∷ t)
unfolding read_address starts_double starts_byte
address-full s t xs p l = rw (run-pieces p 8 [] (slash ∷ t) (omega arith) (stops-slash t))

address-short : {q : Bool} (s t u xs ys : List ℕ) → Side false s xs → Side q u ys → length xs + length ys ≤ 7
    → read_address (s ++ (colon ∷ colon ∷ (u ++ (slash ∷ t)))) ≡ outline (xs ++ ys) true (length xs) (slash ∷ t)
unfolding read_address starts_double starts_byte
address-short s t u xs ys f b l =
    rw (
      run-side f 8 [] (colon ∷ colon ∷ (u ++ (slash ∷ t))) (omega arith) (stops-double (u ++ (slash ∷ t))),
      run-side b (8 - length xs) xs (slash ∷ t) (omega arith) (stops-slash t),
    )

-- then its length
line_read : (o : Outline) (xs t : List ℕ) → is_outline o ≡ true → o.rest ≡ slash ∷ t → laid o.groups o.gap ≡ xs → is_number 128 t ≡ true
    → line_from o ≡ (0, ipv6 xs (decimal t))
unfolding starts_byte
line_read o xs t h e g k = rw (h, e, g, read_number-all 128 t k)

is-read_line6 : (s : List ℕ) (n : Net) → IsLine6 s n → read_line6 s ≡ (0, n)
unfolding read_line6 is_outline
is-read_line6 s n l = ap read_line6 l.bytes ∙ go l.address ∙ ap (λ m. (0, m)) (sym l.network)
  where
    go : {a xs : List ℕ} → IsAddress a xs → read_line6 (a ++ (slash ∷ l.len)) ≡ (0, ipv6 xs (decimal l.len))
    go (full {s = a} {xs = xs} p h) =
        ap line_from (address-full a l.len xs p h)
        ∙ line_read (outline xs false (length xs) (slash ∷ l.len)) xs l.len (eq-eqb (length xs) 8 h) refl (laid-full xs h) l.len-rule
    go (shortened {s = a} {t = u} {xs = xs} {ys = ys} f b h) =
        ap read_line6 (append_assoc a (colon ∷ colon ∷ u) (slash ∷ l.len))
        ∙ ap line_from (address-short a l.len u xs ys f b h)
        ∙ line_read (outline (xs ++ ys) true (length xs) (slash ∷ l.len)) (around xs ys) l.len (rw (length-append xs ys) (le-leb (length xs + length ys) 7 h)) refl (laid-around xs ys) l.len-rule

-- What is read is a line of the grammar.
starts_first : (b : ℕ) (t : List ℕ) → starts_byte b t ≡ true → t ≡ b ∷ drop 1 t
unfolding starts_byte
starts_first b [] e = absurd (true≢false (sym e))
starts_first b (c ∷ t) e = ap (λ x. x ∷ t) (eqb-true c b e)

slash-apart : (t : List ℕ) → starts_byte slash t ≡ true → starts_of is_hex_digit t ≡ false
unfolding starts_of is_hex_digit
slash-apart t e = rw (starts_first slash t e)

colon-apart : (t : List ℕ) → starts_byte colon t ≡ true → starts_of is_hex_digit t ≡ false
unfolding starts_of is_hex_digit
colon-apart t e = rw (starts_first colon t e)

double-first : (t : List ℕ) → starts_double t ≡ true → t ≡ colon ∷ colon ∷ drop 2 t
unfolding starts_double starts_byte
double-first [] e = absurd (true≢false (sym e))
double-first (c ∷ []) e = absurd (true≢false (sym (and_right (eqb c colon) false e)))
double-first (c ∷ d ∷ t) e =
    let x = eqb-true c colon (and_left (eqb c colon) (eqb d colon) e) in
    let y = eqb-true d colon (and_right (eqb c colon) (eqb d colon) e) in
    cc

-- an address, with the slash behind it
pub record AddressIs (s : List ℕ) (o : Outline) : Type 0 where
  pub text : List ℕ
  pub address : IsAddress text (laid o.groups o.gap)
  pub bytes : s ≡ text ++ o.rest

full_is : (s : List ℕ) → let f = run_from 8 [] s in is_outline (whole_run f) ≡ true → starts_byte slash f.rest ≡ true → AddressIs s (whole_run f)
unfolding is_outline
full_is s h e =
    let f = run_from 8 [] s in
    let w = run-went 8 [] s (slash-apart f.rest e) in
    let l : length f.groups ≡ 8 = eqb-true (length f.groups) 8 h in
    go w.side (ap length (sym w.joined) ∙ l) (rw (laid-full f.groups l) w.joined) w.bytes
  where
    go : {q : Bool} {a ys : List ℕ} → Side q a ys → length ys ≡ 8 → laid (run_from 8 [] s).groups (length (run_from 8 [] s).groups) ≡ ys
        → s ≡ a ++ (run_from 8 [] s).rest → AddressIs s (whole_run (run_from 8 [] s))
    go empty l j b = absurd (omega arith)
    go (pieces {s = a} p) l j b = record { text = a; address = rw j (full p l); bytes = b }

short-is : (s : List ℕ) → let f = run_from 8 [] s in let b = run_from (8 - length f.groups) f.groups (drop 2 f.rest) in f.quad ≡ false
    → starts_double f.rest ≡ true
    → is_outline (behind_run f b) ≡ true → starts_byte slash b.rest ≡ true → AddressIs s (behind_run f b)
unfolding is_outline starts_double
short-is s q d h e =
    let f = run_from 8 [] s in
    let b = run_from (8 - length f.groups) f.groups (drop 2 f.rest) in
    let v = run-went 8 [] s (colon-apart f.rest (and_left (starts_byte colon f.rest) (starts_byte colon (drop 1 f.rest)) d)) in
    let w = run-went (8 - length f.groups) f.groups (drop 2 f.rest) (slash-apart b.rest e) in
    let l = leb-true (length b.groups) 7 h in
    let m : length f.groups + length w.groups ≤ 7 = omega (arith, sym (ap length w.joined), length-append f.groups w.groups) in
    let j : laid b.groups (length f.groups) ≡ around f.groups w.groups = ap (λ u. laid u (length f.groups)) w.joined ∙ laid-around f.groups w.groups in
    let x : Side false v.text f.groups = rw (v.joined, ← q) v.side in
    record {
      text = v.text ++ (colon ∷ colon ∷ w.text);
      address = rw j (shortened x w.side m);
      bytes = v.bytes ∙ ap (λ u. v.text ++ u) (double-first f.rest d ∙ ap (λ u. colon ∷ colon ∷ u) w.bytes) ∙ sym (append_assoc v.text (colon ∷ colon ∷ w.text) b.rest);
    }

line-is : (s : List ℕ) (n : Net) (o : Outline) → (is_outline o ≡ true → starts_byte slash o.rest ≡ true → AddressIs s o) → line_from o ≡ (0, n) → IsLine6 s n
line-is s n o a e = go (is_outline o) (starts_byte slash o.rest) refl refl e
  where
    length-read : AddressIs s o → starts_byte slash o.rest ≡ true → (r : Parsed) → read_number 128 (drop 1 o.rest) ≡ r
        → with_length6 (laid o.groups o.gap) r ≡ (0, n) → IsLine6 s n
    length-read d g nothing k e = absurd (bad_text-some n e)
    length-read d g (parsed v (c ∷ t)) k e = absurd (bad_text-some n e)
    length-read d g (parsed v []) k e =
        let m = read_number-is 128 (drop 1 o.rest) v [] k in
        let f : drop 1 o.rest ≡ m.digits = m.bytes ∙ append-nil m.digits in
        record {
          text = d.text;
          groups = laid o.groups o.gap;
          len = m.digits;
          address = d.address;
          len-rule = m.rule;
          bytes = d.bytes ∙ ap (λ u. d.text ++ u) (starts_first slash o.rest g ∙ ap (λ u. slash ∷ u) f);
          network = sym (ap (λ p. p.1) e) ∙ ap (ipv6 (laid o.groups o.gap)) m.value;
        }

    go : (b c : Bool) → is_outline o ≡ b → starts_byte slash o.rest ≡ c
        → cond (b && c) (with_length6 (laid o.groups o.gap) (read_number 128 (drop 1 o.rest))) bad_text ≡ (0, n) → IsLine6 s n
    go true true h g e = length-read (a h g) g (read_number 128 (drop 1 o.rest)) refl e
    go true false h g e = absurd (bad_text-some n e)
    go false c h g e = absurd (bad_text-some n e)

read_line6-is : (s : List ℕ) (n : Net) → read_line6 s ≡ (0, n) → IsLine6 s n
unfolding read_line6 read_address
read_line6-is s n e = go (starts_double (run_from 8 [] s).rest) (run_from 8 [] s).quad refl refl e
  where
    go : (d q : Bool) → starts_double (run_from 8 [] s).rest ≡ d → (run_from 8 [] s).quad ≡ q
        → line_from (cond (d && not q) (behind_run (run_from 8 [] s) (run_from (8 - length (run_from 8 [] s).groups) (run_from 8 [] s).groups (drop 2 (run_from 8 [] s).rest))) (whole_run (run_from 8 [] s))) ≡ (0, n)
        → IsLine6 s n
    go true false d q e = line-is s n (behind_run (run_from 8 [] s) (run_from (8 - length (run_from 8 [] s).groups) (run_from 8 [] s).groups (drop 2 (run_from 8 [] s).rest))) (λ h g. short-is s q d h g) e
    go true true d q e = line-is s n (whole_run (run_from 8 [] s)) (λ h g. full_is s h g) e
    go false x d q e = line-is s n (whole_run (run_from 8 [] s)) (λ h g. full_is s h g) e

-- A line is accepted exactly if it is one of the grammar, with the network of the grammar, and refused otherwise.
pub read_line6-accepts : (s : List ℕ) (n : Net) → (read_line6 s ≡ (0, n)) ↔ IsLine6 s n
read_line6-accepts s n = (read_line6-is s n, is-read_line6 s n)

line_from-answers : (o : Outline) → (line_from o ≡ bad_text) ⊎ ((n : Net) × (line_from o ≡ (0, n)))
line_from-answers o = go (is_outline o && starts_byte slash o.rest) (read_number 128 (drop 1 o.rest))
  where
    go : (b : Bool) (r : Parsed) → let x = cond b (with_length6 (laid o.groups o.gap) r) bad_text in (x ≡ bad_text) ⊎ ((n : Net) × (x ≡ (0, n)))
    go true (parsed k []) = inr (ipv6 (laid o.groups o.gap) k, refl)
    go true (parsed k (c ∷ t)) = inl refl
    go true nothing = inl refl
    go false r = inl refl

pub read_line6-answers : (s : List ℕ) → (read_line6 s ≡ bad_text) ⊎ ((n : Net) × (read_line6 s ≡ (0, n)))
unfolding read_line6
read_line6-answers s = line_from-answers (read_address s)

pub read_line6-refuses : (s : List ℕ) → ((n : Net) → IsLine6 s n → ⊥) → read_line6 s ≡ bad_text
read_line6-refuses s h = ⊎_elim (λ e. e) (λ p. absurd (h p.0 (read_line6-is s p.0 p.1))) (read_line6-answers s)

-- A line of an IPv4 network is none: its quad is all there is, and stands for two groups.
joined-dotted : (a b c d t : List ℕ) → joined a b c d t ≡ dotted a b c d ++ (slash ∷ t)
unfolding joined dotted
joined-dotted a b c d t = simp append_assoc

pub read_line6-other : (s : List ℕ) (n : Net) → read_line s ≡ (0, n) → read_line6 s ≡ bad_text
unfolding read_line6 read_address is_outline starts_double starts_byte
read_line6-other s n e =
    let l = (read_line-accepts s n).0 e in
    let p = quad l.a l.b l.c l.d l.a-rule l.b-rule l.c-rule l.d-rule in
    let b : s ≡ dotted l.a l.b l.c l.d ++ (slash ∷ l.len) = l.bytes ∙ joined-dotted l.a l.b l.c l.d l.len in
    ap read_line6 b ∙ rw (run-pieces p 8 [] (slash ∷ l.len) (omega arith) (stops-slash l.len))
