-- What is read is what the grammar says: a line is accepted exactly if it is one, with the network of its numbers. Assumes nothing.
use mathlib.Core.Bool.{Bool, true, false, cond}
use mathlib.Core.List.{List, [], ◌∷◌, ◌++◌, append-nil}
use mathlib.Core.Logic.{◌↔◌, ◌⊎◌, inl, inr, ⊎_elim}
use mathlib.Core.Path.{◌≡◌, refl, ap, ◌∙◌}
use Prim.Native.Nat.{ℕ, ◌+◌, ◌*◌, ◌≤◌, ◌<◌}
use native.Mathlib.Omega.{arith}
use lib.Dec.{eqb}
use lib.ListN.{length}
use borrow.Author.Tests.{eqb-true, eq-eqb}
use Rattle.nets.specs.declared.Net.{Net}
use Rattle.text_decimal.specs.Spans.{starts_of}
use Rattle.text_decimal.specs.Decimal.{is_digit, decimal, is_number, Parsed, parsed, nothing, and_then, read_number}
use Rattle.text.specs.Ipv4.{dot, slash, address, ipv4, joined, IsLine, ended_by, read_next, read_quad, bad_text, with_length, with_address, read_line}
use Rattle.text_decimal.proofs.Numbers.{read_number-append, read_number-is}
use Rattle.text.proofs.Writing.{length-joined}
use Rattle.text.proofs.Digits.{length-number, length-number-two}
use Rattle.text.proofs.DecOctet.{octet-number, number-octet}

-- A line of the grammar is read.
pub read_next-append : (e v : ℕ) (s t : List ℕ) → is_digit e ≡ false → is_number 255 s ≡ true → read_next e (parsed v (s ++ (e ∷ t))) ≡ parsed (v * 256 + decimal s) t
unfolding read_next starts_of
read_next-append e v s t d h = rw (read_number-append 255 s (e ∷ t) h d, eq-eqb e e refl)

pub read_number-all : (m : ℕ) (s : List ℕ) → is_number m s ≡ true → read_number m s ≡ parsed (decimal s) []
unfolding starts_of
read_number-all m s h = rw (append-nil s) at (read_number-append m s [] h refl)

is-read_line : (s : List ℕ) (n : Net) → IsLine s n → read_line s ≡ (0, n)
unfolding read_line read_quad joined is_digit
is-read_line s n l =
    let t = l.d ++ (slash ∷ l.len) in
    let u = l.c ++ (dot ∷ t) in
    let z : 0 * 256 + decimal l.a ≡ decimal l.a = omega arith in
    rw (
      l.bytes,
      l.network,
      read_next-append dot 0 l.a (l.b ++ (dot ∷ u)) refl (octet-number l.a l.a-rule),
      z,
      read_next-append dot (decimal l.a) l.b u refl (octet-number l.b l.b-rule),
      read_next-append dot (decimal l.a * 256 + decimal l.b) l.c t refl (octet-number l.c l.c-rule),
      read_next-append slash ((decimal l.a * 256 + decimal l.b) * 256 + decimal l.c) l.d l.len refl (octet-number l.d l.d-rule),
      read_number-all 32 l.len l.len-rule,
    )

-- What is read is a line of the grammar.
pub parsed-one : (v w : ℕ) (s t : List ℕ) → parsed v s ≡ parsed w t → (v ≡ w) × (s ≡ t)
parsed-one v w s t e = (cc, cc)

pub parsed-some : (v : ℕ) (s : List ℕ) → nothing ≡ parsed v s → ⊥
parsed-some v s e = let z : ◌≡◌ {A = ℕ} 0 1 = cc in absurd (omega arith)

ended_by-is : (e v : ℕ) (u : List ℕ) (w : ℕ) (t : List ℕ) → ended_by e v u ≡ parsed w t → (v ≡ w) × (u ≡ e ∷ t)
ended_by-is e v [] w t h = absurd (parsed-some w t h)
ended_by-is e v (c ∷ u) w t h = go (eqb c e) refl h
  where
    go : (b : Bool) → eqb c e ≡ b → cond b (parsed v u) nothing ≡ parsed w t → (v ≡ w) × (c ∷ u ≡ e ∷ t)
    go true k g = let p = parsed-one v w u t g in let q = eqb-true c e k in (p.0, cc)
    go false k g = absurd (parsed-some w t g)

pub record ReadNext (e : ℕ) (p : Parsed) (w : ℕ) (t : List ℕ) : Type 0 where
  pub value : ℕ
  pub rest : List ℕ
  pub digits : List ℕ
  pub before : p ≡ parsed value rest
  pub rule : is_number 255 digits ≡ true
  pub number : value * 256 + decimal digits ≡ w
  pub bytes : rest ≡ digits ++ (e ∷ t)

pub read_next-is : (e : ℕ) (p : Parsed) (w : ℕ) (t : List ℕ) → read_next e p ≡ parsed w t → ReadNext e p w t
unfolding read_next
read_next-is e nothing w t h = absurd (parsed-some w t h)
read_next-is e (parsed v s) w t h = go (read_number 255 s) refl h
  where
    go : (r : Parsed) → read_number 255 s ≡ r → and_then r (λ x u. ended_by e (v * 256 + x) u) ≡ parsed w t → ReadNext e (parsed v s) w t
    go nothing k g = absurd (parsed-some w t g)
    go (parsed x u) k g =
        let n = read_number-is 255 s x u k in
        let b = ended_by-is e (v * 256 + x) u w t g in
        record { value = v; rest = s; digits = n.digits; before = refl; rule = n.rule; number = rw n.value at b.0; bytes = n.bytes ∙ ap (λ y. n.digits ++ y) b.1 }

read_quad-line : (s : List ℕ) (v : ℕ) (t : List ℕ) (k : ℕ) → read_quad s ≡ parsed v t → read_number 32 t ≡ parsed k [] → IsLine s (ipv4 v k)
unfolding read_quad joined
read_quad-line s v t k h g =
    let q = read_next-is slash (read_next dot (read_next dot (read_next dot (parsed 0 s)))) v t h in
    let r = read_next-is dot (read_next dot (read_next dot (parsed 0 s))) q.value q.rest q.before in
    let o = read_next-is dot (read_next dot (parsed 0 s)) r.value r.rest r.before in
    let p = read_next-is dot (parsed 0 s) o.value o.rest o.before in
    let m = read_number-is 32 t k [] g in
    let z = parsed-one 0 p.value s p.rest p.before in
    let e : v ≡ address (decimal p.digits) (decimal o.digits) (decimal r.digits) (decimal q.digits) = omega arith in
    let f : t ≡ m.digits = m.bytes ∙ append-nil m.digits in
    record {
      a = p.digits;
      b = o.digits;
      c = r.digits;
      d = q.digits;
      len = m.digits;
      a-rule = number-octet p.digits p.rule;
      b-rule = number-octet o.digits o.rule;
      c-rule = number-octet r.digits r.rule;
      d-rule = number-octet q.digits q.rule;
      len-rule = m.rule;
      bytes = cc;
      network = cc;
    }

pub bad_text-some : (n : Net) → bad_text ≡ (0, n) → ⊥
bad_text-some n e = let z : ◌≡◌ {A = ℕ} 4 0 = ap (λ p. p.0) e in absurd (omega arith)

read_line-is : (s : List ℕ) (n : Net) → read_line s ≡ (0, n) → IsLine s n
unfolding read_line
read_line-is s n e = go (read_quad s) refl e
  where
    length-read : (v : ℕ) (t : List ℕ) → read_quad s ≡ parsed v t → (r : Parsed) → read_number 32 t ≡ r → with_length v r ≡ (0, n) → IsLine s n
    length-read v t h (parsed k []) g e = rw (← ap (λ p. p.1) e) (read_quad-line s v t k h g)
    length-read v t h (parsed k (c ∷ u)) g e = absurd (bad_text-some n e)
    length-read v t h nothing g e = absurd (bad_text-some n e)

    go : (q : Parsed) → read_quad s ≡ q → with_address q ≡ (0, n) → IsLine s n
    go (parsed v t) h e = length-read v t h (read_number 32 t) refl e
    go nothing h e = absurd (bad_text-some n e)

-- A line is accepted exactly if it is one of the grammar, with the network of the grammar, and refused otherwise.
pub read_line-accepts : (s : List ℕ) (n : Net) → (read_line s ≡ (0, n)) ↔ IsLine s n
read_line-accepts s n = (read_line-is s n, is-read_line s n)

with_length-answers : (v : ℕ) (r : Parsed) → (with_length v r ≡ bad_text) ⊎ ((n : Net) × (with_length v r ≡ (0, n)))
with_length-answers v (parsed k []) = inr (ipv4 v k, refl)
with_length-answers v (parsed k (c ∷ u)) = inl refl
with_length-answers v nothing = inl refl

with_address-answers : (q : Parsed) → (with_address q ≡ bad_text) ⊎ ((n : Net) × (with_address q ≡ (0, n)))
with_address-answers (parsed v t) = with_length-answers v (read_number 32 t)
with_address-answers nothing = inl refl

pub read_line-refuses : (s : List ℕ) → ((n : Net) → IsLine s n → ⊥) → read_line s ≡ bad_text
unfolding read_line
read_line-refuses s h = ⊎_elim (λ e. e) (λ p. absurd (h p.0 (read_line-is s p.0 p.1))) (with_address-answers (read_quad s))

-- No line has more than 18 bytes.
is_line-short : (s : List ℕ) (n : Net) → IsLine s n → length s ≤ 18
is_line-short s n l =
    rw l.bytes (
    omega (
      arith,
      length-joined l.a l.b l.c l.d l.len,
      length-number 255 l.a (omega arith) (octet-number l.a l.a-rule),
      length-number 255 l.b (omega arith) (octet-number l.b l.b-rule),
      length-number 255 l.c (omega arith) (octet-number l.c l.c-rule),
      length-number 255 l.d (omega arith) (octet-number l.d l.d-rule),
      length-number-two 32 l.len (omega arith) l.len-rule,
    )
    )

pub read_line-long : (s : List ℕ) → 18 < length s → read_line s ≡ bad_text
read_line-long s h = read_line-refuses s (λ n l. omega (arith, is_line-short s n l))
