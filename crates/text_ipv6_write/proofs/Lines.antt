-- What holds of the line that is written for a network: it follows RFC 5952 and no other text of its address does; it has at most 43 bytes; networks with the
-- same bits have one line. Then what reading it needs: which groups stand where, and that they give the address back. Assumes nothing.
use mathlib.Core.Bool.{Bool, true, false, cond}
use mathlib.Core.List.{List, [], ◌∷◌, ◌++◌, append-nil}
use mathlib.Core.Path.{◌≡◌, refl, ap, sym, ◌∙◌}
use Prim.Native.Nat.{ℕ, zero, suc, ◌+◌, ◌/◌, ◌%◌, ◌^◌, ◌≤◌, ◌<◌}
use native.Mathlib.Nat.{div-add-mod', div-lt_iff_lt-mul}
use native.Mathlib.Omega.{arith}
use lib.Dec.{eqb, ltb}
use lib.ListN.{length, take, drop, replicate, length-drop, length-append, take-append-drop}
use lib.Seq.{length-take-le, drop-drop}
use borrow.Author.Tests.{lt-ltb, ltb-true, ltb-false, eqb-true}
use Rattle.nets.specs.Networks.{value, net_bits, address, cleared, big_endian}
use Rattle.nets.specs.declared.Net.{Net}
use Rattle.nets.proofs.Numbers.{cleared-one}
use Rattle.text_decimal.specs.Spans.{all_of}
use Rattle.text_decimal.proofs.Writing.{length-digits_of}
use Rattle.text_ipv6_write.specs.Ipv6.{groups_of, zeros, longest, led, joined, digits, both_sides, text_of, line_as6, line_of6}
use Rattle.text_hex.specs.Hex.{colon}
use Rattle.text_ipv6_write.specs.Rfc5952.{Recommended}
use Rattle.text_ipv6_write.proofs.Words.{big_endian-groups_of}
use Rattle.text_ipv6_write.proofs.Longest.{is-zeros, longest-within, longest-shortens}
use Rattle.text_ipv6_write.proofs.Colons.{length-joined, length-joined-some}
use Rattle.text_ipv6_write.proofs.Texts.{text_of-whole, text_of-shortened, length-line_as6}
use Rattle.text_ipv6_write.proofs.Plain.{is16}
use Rattle.text_ipv6_write.proofs.Recommended.{recommended, recommended-only}

-- The groups of an address are eight, of 16 bits each.
pub length-groups_of : (a : ℕ) → length (groups_of a) ≡ 8
unfolding groups_of
length-groups_of a = refl

is16-group_of : (x : ℕ) → is16 (x % 65536) ≡ true
is16-group_of x = lt-ltb (x % 65536) 65536 (omega arith)

pub all-groups_of : (a : ℕ) → all_of is16 (groups_of a) ≡ true
unfolding groups_of all_of
all-groups_of a =
    rw (
      is16-group_of (a / 2 ^ 112),
      is16-group_of (a / 2 ^ 96),
      is16-group_of (a / 2 ^ 80),
      is16-group_of (a / 2 ^ 64),
      is16-group_of (a / 2 ^ 48),
      is16-group_of (a / 2 ^ 32),
      is16-group_of (a / 2 ^ 16),
      is16-group_of (a / 2 ^ 0),
    )

-- The text of an address is the one that RFC 5952 asks for.
pub address-recommended : (a : ℕ) → Recommended (groups_of a) (text_of (groups_of a))
address-recommended a = recommended (groups_of a) (all-groups_of a)

pub address-only : (a : ℕ) (s : List ℕ) → Recommended (groups_of a) s → s ≡ text_of (groups_of a)
address-only a s r = recommended-only (groups_of a) s (all-groups_of a) r

-- One line for all networks with the same bits.
pub line_of6-one : (m n : Net) → m.family ≡ n.family → net_bits m ≡ net_bits n → line_of6 m ≡ line_of6 n
unfolding line_of6
line_of6-one m n f e = ap line_as6 (cleared-one m n f e)

-- The longest line: eight groups of four digits and seven colons, a slash, three digits. proofs/Examples has one.
length_whole : (gs : List ℕ) → length gs ≡ 8 → length (joined (digits gs)) ≤ 39
length_whole [] e = absurd (omega arith)
length_whole (g ∷ gs) e = omega (arith, length-joined-some g gs)

length-short : (gs : List ℕ) (k n : ℕ) → length gs ≡ 8 → k + n ≤ 8 → 2 ≤ n → length (both_sides (digits (take k gs)) (digits (drop (k + n) gs))) ≤ 39
unfolding both_sides
length-short gs k n e h l =
    omega (
      arith,
      length-append (joined (digits (take k gs))) (colon ∷ colon ∷ joined (digits (drop (k + n) gs))),
      length-joined (take k gs),
      length-joined (drop (k + n) gs),
      length-take-le k gs (omega arith),
      length-drop (k + n) gs,
    )

pub length-text_of : (gs : List ℕ) → length gs ≡ 8 → length (text_of gs) ≤ 39
length-text_of gs e = go (ltb (longest gs).1 2) refl
  where
    go : (b : Bool) → ltb (longest gs).1 2 ≡ b → length (text_of gs) ≤ 39
    go true t = rw (text_of-whole gs (ltb-true (longest gs).1 2 t)) (length_whole gs e)
    go false t =
        let l = ltb-false (longest gs).1 2 t in
        rw (text_of-shortened gs l) (length-short gs (longest gs).0 (longest gs).1 e (omega (arith, longest-within gs)) l)

pub length-line_of6 : (n : Net) → length (line_of6 n) ≤ 43
unfolding line_of6
length-line_of6 n =
    let c = cleared n in
    omega (arith, length-line_as6 c, length-text_of (groups_of (address c)) (length-groups_of (address c)), length-digits_of c.len)

-- For a reader: the groups give the address back.
some : 0 < 2 ^ 64
some = omega arith

low : (a : ℕ) → a % 2 ^ 64 < 2 ^ 64
low a = omega arith

pub address-back : (a : ℕ) → a < 2 ^ 128 → big_endian 65536 (groups_of a) 8 ≡ a
address-back a h =
    let e : value (a / 2 ^ 64) (a % 2 ^ 64) ≡ a = div-add-mod' a (2 ^ 64) in
    rw e at (big_endian-groups_of (a / 2 ^ 64) (a % 2 ^ 64) ((div-lt_iff_lt-mul {k = 2 ^ 64} {x = a} {y = 2 ^ 64} some).1 h) (low a))

-- The text is its groups joined by colons, all of them, or those before and behind a double colon, which stands for zeros.
pub data Outline (gs s : List ℕ) : Type 0 where
  all : s ≡ joined (digits gs) → Outline gs s
  apart : (left right : List ℕ) (n : ℕ) → 2 ≤ n
      → gs ≡ left ++ (replicate n 0 ++ right) → s ≡ joined (digits left) ++ (colon ∷ colon ∷ joined (digits right)) → Outline gs s

pub joined-one : (d : List ℕ) → joined (d ∷ []) ≡ d
unfolding joined led
joined-one d = append-nil d

pub joined-more : (d e : List ℕ) (ds : List (List ℕ)) → joined (d ∷ e ∷ ds) ≡ d ++ (colon ∷ joined (e ∷ ds))
unfolding joined led
joined-more d e ds = refl

zeros-replicate : (gs : List ℕ) (n : ℕ) → n ≤ zeros gs → gs ≡ replicate n 0 ++ drop n gs
unfolding zeros
zeros-replicate gs zero h = refl
zeros-replicate [] (suc n) h = absurd (omega arith)
zeros-replicate (g ∷ gs) (suc n) h = go (eqb g 0) refl h (zeros-replicate gs n)
  where
    go : (b : Bool) → eqb g 0 ≡ b → suc n ≤ cond b (suc (zeros gs)) 0
        → (n ≤ zeros gs → gs ≡ replicate n 0 ++ drop n gs) → g ∷ gs ≡ 0 ∷ (replicate n 0 ++ drop n gs)
    go true e h rest = cc (eqb-true g 0 e, rest (omega arith))
    go false e h rest = absurd (omega arith)

pub outline : (gs : List ℕ) → Outline gs (text_of gs)
unfolding both_sides
outline gs = go (ltb (longest gs).1 2) refl
  where
    go : (b : Bool) → ltb (longest gs).1 2 ≡ b → Outline gs (text_of gs)
    go true t = all (text_of-whole gs (ltb-true (longest gs).1 2 t))
    go false t =
        let l = ltb-false (longest gs).1 2 t in
        let k = (longest gs).0 in
        let n = (longest gs).1 in
        let z = zeros-replicate (drop k gs) n (is-zeros gs k n (longest-shortens gs l).zeros) in
        apart (take k gs) (drop (k + n) gs) n l (sym (take-append-drop k gs) ∙ ap (λ t. take k gs ++ t) (z ∙ ap (λ t. replicate n 0 ++ t) (drop-drop n k gs)))
        (text_of-shortened gs l)
