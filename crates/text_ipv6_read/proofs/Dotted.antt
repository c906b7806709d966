-- Reading a quad: four dec-octets joined by dots are read with whatever does not go on with a digit behind them, and what is read is such four. Hexadecimal
-- digits that no dot follows are no quad. Assumes nothing.
use mathlib.Core.Bool.{Bool, true, false, cond, true≢false}
use mathlib.Core.List.{List, [], ◌∷◌, ◌++◌, append_assoc}
use mathlib.Core.Logic.{⊎_elim}
use mathlib.Core.Path.{◌≡◌, refl, sym, ◌∙◌}
use Prim.Native.Nat.{ℕ, ◌+◌, ◌*◌, ◌/◌, ◌%◌, ◌≤◌}
use native.Mathlib.Omega.{arith}
use lib.Dec.{eqb}
use borrow.Author.Tests.{ne_eqb}
use Rattle.nets.proofs.Strings.{and_left, and_right}
use Rattle.text_decimal.specs.Spans.{all_of, starts_of, behind_of}
use Rattle.text_decimal.specs.Decimal.{is_digit, decimal, is_number, leading, behind, Parsed, parsed, nothing, and_then, read_number}
use Rattle.text.specs.DecOctet.{is_dec_octet}
use Rattle.text.specs.Ipv4.{dot, address, ended_by, read_next}
use Rattle.text_decimal.specs.Places.{starts_byte, starts_digit}
use Rattle.text_decimal.proofs.Spans.{behind-none}
use Rattle.text_decimal.proofs.Numbers.{is_number-is, is_digit-is, read_number-append, read_number-is}
use Rattle.text.proofs.DecOctet.{octet-number, number-octet}
use Rattle.text.proofs.Reading.{ended_by-other}
use Rattle.text.proofs.Grammar.{read_next-append, read_next-is, parsed-one, parsed-some}
use Rattle.text_hex.specs.Hex.{is_hex_digit}
use Rattle.text_hex.proofs.Digits.{within-le, is_hex_digit-is}
use Rattle.text_ipv6_read.specs.Ipv6.{dotted, pair}
use Rattle.text_ipv6_runs.specs.Runs.{read_dotted}
use Rattle.text_ipv6_runs.proofs.Found.{three}

-- A quad is read.
pub octet-most : (s : List ℕ) → is_dec_octet s ≡ true → decimal s ≤ 255
octet-most s h = (is_number-is 255 s (octet-number s h)).most

pub read_dotted-append : (a b c d t : List ℕ) → is_dec_octet a ≡ true → is_dec_octet b ≡ true → is_dec_octet c ≡ true → is_dec_octet d ≡ true → starts_digit t ≡ false
    → read_dotted (dotted a b c d ++ t) ≡ parsed (address (decimal a) (decimal b) (decimal c) (decimal d)) t
unfolding read_dotted dotted is_digit
read_dotted-append a b c d t h i j k e =
    let u = d ++ t in
    let v = c ++ (dot ∷ u) in
    let z : 0 * 256 + decimal a ≡ decimal a = omega arith in
    rw (
      append_assoc a (dot ∷ (b ++ (dot ∷ (c ++ (dot ∷ d))))) t,
      append_assoc b (dot ∷ (c ++ (dot ∷ d))) t,
      append_assoc c (dot ∷ d) t,
      read_next-append dot 0 a (b ++ (dot ∷ v)) refl (octet-number a h),
      z,
      read_next-append dot (decimal a) b v refl (octet-number b i),
      read_next-append dot (decimal a * 256 + decimal b) c u refl (octet-number c j),
      read_number-append 255 d t (octet-number d k) e,
    )

-- the two groups of its number
pub pair-address : (a b c d : ℕ) → a ≤ 255 → b ≤ 255 → c ≤ 255 → d ≤ 255 → address a b c d / 65536 ∷ address a b c d % 65536 ∷ [] ≡ pair a b c d
pair-address a b c d h i j k =
    let e : address a b c d / 65536 ≡ a * 256 + b = omega arith in
    let f : address a b c d % 65536 ≡ c * 256 + d = omega arith in
    rw (e, f)

-- What is read is a quad.
pub record Quad (s : List ℕ) (v : ℕ) (t : List ℕ) : Type 0 where
  pub a : List ℕ
  pub b : List ℕ
  pub c : List ℕ
  pub d : List ℕ
  pub a-rule : is_dec_octet a ≡ true
  pub b-rule : is_dec_octet b ≡ true
  pub c-rule : is_dec_octet c ≡ true
  pub d-rule : is_dec_octet d ≡ true
  pub value : v ≡ address (decimal a) (decimal b) (decimal c) (decimal d)
  pub bytes : s ≡ dotted a b c d ++ t

read_dotted-quad : (s : List ℕ) (v : ℕ) (t : List ℕ) (w : ℕ) (u : List ℕ) → three s ≡ parsed w u → (x : ℕ) → read_number 255 u ≡ parsed x t → w * 256 + x ≡ v
    → Quad s v t
unfolding dotted
read_dotted-quad s v t w u h x g e =
    let r = read_next-is dot (read_next dot (read_next dot (parsed 0 s))) w u h in
    let o = read_next-is dot (read_next dot (parsed 0 s)) r.value r.rest r.before in
    let p = read_next-is dot (parsed 0 s) o.value o.rest o.before in
    let n = read_number-is 255 u x t g in
    let z = parsed-one 0 p.value s p.rest p.before in
    record {
      a = p.digits;
      b = o.digits;
      c = r.digits;
      d = n.digits;
      a-rule = number-octet p.digits p.rule;
      b-rule = number-octet o.digits o.rule;
      c-rule = number-octet r.digits r.rule;
      d-rule = number-octet n.digits n.rule;
      value = omega (arith, n.value, p.number, o.number, r.number);
      bytes = simp append_assoc (cc);
    }

pub read_dotted-is : (s : List ℕ) (v : ℕ) (t : List ℕ) → read_dotted s ≡ parsed v t → Quad s v t
unfolding read_dotted
read_dotted-is s v t e = go (three s) refl e
  where
    last : (w : ℕ) (u : List ℕ) → three s ≡ parsed w u → (q : Parsed) → read_number 255 u ≡ q → and_then q (λ x y. parsed (w * 256 + x) y) ≡ parsed v t
        → Quad s v t
    last w u h nothing g e = absurd (parsed-some v t e)
    last w u h (parsed x y) g e =
        let p = parsed-one (w * 256 + x) v y t e in
        read_dotted-quad s v t w u h x (rw p.1 at g) p.0

    go : (p : Parsed) → three s ≡ p → and_then p (λ w u. and_then (read_number 255 u) (λ x y. parsed (w * 256 + x) y)) ≡ parsed v t → Quad s v t
    go nothing h e = absurd (parsed-some v t e)
    go (parsed w u) h e = last w u h (read_number 255 u) refl e

-- Without a dot behind the first digits there is none.
pub read_dotted-none : (s : List ℕ) → starts_byte dot (behind s) ≡ false → read_dotted s ≡ nothing
unfolding read_dotted read_next read_number
read_dotted-none s e = go (is_number 255 (leading s))
  where
    go : (b : Bool) → let r = and_then (cond b (parsed (decimal (leading s)) (behind s)) nothing) (λ x t. ended_by dot (0 * 256 + x) t) in
        and_then (read_next dot (read_next dot r)) (λ v t. and_then (read_number 255 t) (λ x u. parsed (v * 256 + x) u)) ≡ nothing
    go true = rw (ended_by-other dot (0 * 256 + decimal (leading s)) (behind s) e)
    go false = refl

-- a digit is a hexadecimal one, and none of these is a dot
pub is_digit-hex : (c : ℕ) → is_digit c ≡ true → is_hex_digit c ≡ true
unfolding is_hex_digit
is_digit-hex c e = let h = is_digit-is c e in rw (within-le 48 57 c h.0 h.1)

hex-not-dot : (c : ℕ) → is_hex_digit c ≡ true → eqb c dot ≡ false
hex-not-dot c e = ne_eqb c dot (λ h. ⊎_elim (λ k. omega arith) (λ k. ⊎_elim (λ m. omega arith) (λ m. omega arith) k) (is_hex_digit-is c e))

pub starts_digit-hex : (s : List ℕ) → starts_of is_hex_digit s ≡ false → starts_digit s ≡ false
unfolding starts_of
starts_digit-hex [] e = refl
starts_digit-hex (c ∷ s) e = go (is_digit c) refl
  where
    go : (b : Bool) → is_digit c ≡ b → is_digit c ≡ false
    go true h = absurd (true≢false (sym (is_digit-hex c h) ∙ e))
    go false h = h

hex-behind : (g t : List ℕ) → all_of is_hex_digit g ≡ true → starts_byte dot (behind t) ≡ false → starts_byte dot (behind (g ++ t)) ≡ false
unfolding all_of behind_of starts_byte
hex-behind [] t h e = e
hex-behind (c ∷ g) t h e = go (is_digit c) (hex-behind g t (and_right (is_hex_digit c) (all_of is_hex_digit g) h) e)
  where
    go : (b : Bool) → starts_byte dot (behind (g ++ t)) ≡ false → starts_byte dot (cond b (behind (g ++ t)) (c ∷ (g ++ t))) ≡ false
    go true k = k
    go false k = hex-not-dot c (and_left (is_hex_digit c) (all_of is_hex_digit g) h)

pub hex-no-quad : (g t : List ℕ) → all_of is_hex_digit g ≡ true → starts_of is_hex_digit t ≡ false → starts_byte dot t ≡ false → read_dotted (g ++ t) ≡ nothing
hex-no-quad g t h e k = read_dotted-none (g ++ t) (hex-behind g t h (rw (behind-none is_digit t (starts_digit-hex t e)) k))
