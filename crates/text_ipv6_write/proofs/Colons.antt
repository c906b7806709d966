-- Groups joined by colons: one group after another, how long that is, and stores that write it. Assumes nothing.
use mathlib.Core.List.{List, [], ◌∷◌, ◌++◌, append_assoc, append-nil}
use mathlib.Core.Path.{◌≡◌, refl, ap, sym, ◌∙◌}
use Prim.Native.Nat.{ℕ, ◌+◌, ◌*◌, ◌≤◌, ◌<◌}
use native.Mathlib.Numerals.{add-one}
use native.Mathlib.Omega.{arith}
use lib.ListN.{length, take, get_or, length-append, drop_of_length-le}
use lib.Seq.{slice, slice-cons, length-take-le, length-sets}
use Rattle.text_decimal.specs.Places.{Stored}
use Rattle.text_decimal.proofs.Writing.{stored-append}
use Rattle.text_hex.specs.Hex.{hex_digits_of, colon}
use Rattle.text_hex.proofs.Written.{length-hex_digits_of}
use Rattle.text_ipv6_write.specs.Ipv6.{led, joined, digits}

-- the digits of the groups from one place up to another
abbrev pub part : ℕ → ℕ → List ℕ → List (List ℕ)
part from to g = digits (slice from to g)

part_none : (g : List ℕ) (from to : ℕ) → to ≤ from → to ≤ length g → part from to g ≡ []
part_none g from to h l = let k : length (take to g) ≤ from = omega (arith, length-take-le to g l) in ap digits (drop_of_length-le (take to g) k)

part-cons : (g : List ℕ) (from to : ℕ) → from < to → to ≤ length g → part from to g ≡ hex_digits_of (get_or g from 0) ∷ part (from + 1) to g
part-cons g from to h l = rw add-one (ap digits (slice-cons from to g 0 h l))

pub joined-none : (g : List ℕ) (from to : ℕ) → to ≤ from → to ≤ length g → joined (part from to g) ≡ []
unfolding joined
joined-none g from to h l = rw (part_none g from to h l)

pub joined-cons : (g : List ℕ) (from to : ℕ) → from < to → to ≤ length g → joined (part from to g) ≡ hex_digits_of (get_or g from 0) ++ led (part (from + 1) to g)
unfolding joined
joined-cons g from to h l = rw (part-cons g from to h l)

led-none : (g : List ℕ) (i to : ℕ) → to ≤ i → to ≤ length g → led (part i to g) ≡ []
unfolding led
led-none g i to h l = rw (part_none g i to h l)

led-cons : (g : List ℕ) (i to : ℕ) → i < to → to ≤ length g → led (part i to g) ≡ colon ∷ (hex_digits_of (get_or g i 0) ++ led (part (i + 1) to g))
unfolding led
led-cons g i to h l = rw (part-cons g i to h l)

-- How long: n bytes up to the group i, and what is left.
pub record Counted (g : List ℕ) (from to n i : ℕ) : Type 0 where
  pub within : i ≤ to
  pub few : n + 1 ≤ 5 * i
  pub rest : n + length (led (part i to g)) ≡ length (joined (part from to g))

module _ (g : List ℕ) (from to : ℕ) (l : to ≤ length g) where
  pub counted_start : (n : ℕ) → from < to → n ≡ length (hex_digits_of (get_or g from 0)) → Counted g from to n (from + 1)
  counted_start n h e =
      let d = hex_digits_of (get_or g from 0) in
      record {
        within = omega arith;
        few = omega (arith, length-hex_digits_of (get_or g from 0));
        rest = omega (arith, ap length (joined-cons g from to h l), length-append d (led (part (from + 1) to g)));
      }

  pub counted_step : (n i k m : ℕ) → i < to → Counted g from to n i → k ≡ length (hex_digits_of (get_or g i 0)) → m ≡ n + (1 + k) → Counted g from to m (i + 1)
  counted_step n i k m h c e f =
      let d = hex_digits_of (get_or g i 0) in
      record {
        within = omega arith;
        few = omega (arith, c.few, length-hex_digits_of (get_or g i 0));
        rest = omega (arith, c.rest, ap length (led-cons g i to h l), length-append d (led (part (i + 1) to g)));
      }

  pub counted-all : (n i : ℕ) → to ≤ i → Counted g from to n i → n ≡ length (joined (part from to g))
  counted-all n i h c = omega (arith, c.rest, ap length (led-none g i to h l))

-- What is written behind the first group: a text up to the group i, and what is left of the groups from k on.
pub record Put (old : List ℕ) (at : ℕ) (g : List ℕ) (k to i : ℕ) (new : List ℕ) (next : ℕ) : Type 0 where
  pub within : i ≤ to
  pub text : List ℕ
  pub stored : Stored old at text new next
  pub rest : text ++ led (part i to g) ≡ led (part k to g)

pub put-start : (old : List ℕ) (at : ℕ) (g : List ℕ) (k to : ℕ) → k ≤ to → Put old at g k to k old at
put-start old at g k to h = record { within = h; text = []; stored = record { place = omega arith; bytes = refl }; rest = refl }

module _ (old : List ℕ) (at : ℕ) (g : List ℕ) (k to : ℕ) (l : to ≤ length g) where
  -- the next group and its colon find room
  pub put-room : (i : ℕ) (new : List ℕ) (next : ℕ) → i < to → Put old at g k to i new next
      → next + (1 + length (hex_digits_of (get_or g i 0))) ≤ at + length (led (part k to g))
  put-room i new next h p =
      omega (
        arith,
        p.stored.place,
        ap length (sym p.rest),
        length-append p.text (led (part i to g)),
        ap length (led-cons g i to h l),
        length-append (hex_digits_of (get_or g i 0)) (led (part (i + 1) to g)),
      )

  pub put-length : (i : ℕ) (new : List ℕ) (next : ℕ) → Put old at g k to i new next → length new ≡ length old
  put-length i new next p = ap length p.stored.bytes ∙ length-sets old at p.text

  pub put_step : (i : ℕ) (new : List ℕ) (next : ℕ) (new' : List ℕ) (next' : ℕ) → i < to → Put old at g k to i new next
      → Stored new next (colon ∷ hex_digits_of (get_or g i 0)) new' next' → Put old at g k to (i + 1) new' next'
  put_step i new next new' next' h p s =
      record {
        within = omega arith;
        text = p.text ++ (colon ∷ hex_digits_of (get_or g i 0));
        stored = stored-append p.stored s;
        rest = append_assoc p.text (colon ∷ hex_digits_of (get_or g i 0)) (led (part (i + 1) to g)) ∙ rw (← led-cons g i to h l) p.rest;
      }

  pub put_all : (i : ℕ) (new : List ℕ) (next : ℕ) → to ≤ i → Put old at g k to i new next → Stored old at (led (part k to g)) new next
  put_all i new next h p =
      let e : p.text ≡ led (part k to g) = sym (append-nil p.text) ∙ rw (← led-none g i to h l) p.rest in
      rw e at p.stored

-- A group has at most four digits.
length-led : (gs : List ℕ) → length (led (digits gs)) ≤ 5 * length gs
unfolding led
length-led [] = omega arith
length-led (g ∷ gs) = simp length-append (omega (arith, length-hex_digits_of g, length-led gs))

pub length-joined : (gs : List ℕ) → length (joined (digits gs)) ≤ 5 * length gs
unfolding joined
length-joined [] = omega arith
length-joined (g ∷ gs) = simp length-append (omega (arith, length-hex_digits_of g, length-led gs))

-- and one colon fewer than groups
pub length-joined-some : (g : ℕ) (gs : List ℕ) → length (joined (digits (g ∷ gs))) ≤ 4 + 5 * length gs
unfolding joined
length-joined-some g gs = simp length-append (omega (arith, length-hex_digits_of g, length-led gs))
