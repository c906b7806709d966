-- The text of eight groups and the line of a network, as the code puts them together. Assumes nothing.
use mathlib.Core.List.{List, [], ◌∷◌, ◌++◌}
use mathlib.Core.Path.{◌≡◌, refl, ap, sym, ◌∙◌}
use Prim.Native.Nat.{ℕ, ◌+◌, ◌≤◌, ◌<◌}
use native.Mathlib.Numerals.{add-one}
use native.Mathlib.Omega.{arith}
use lib.ListN.{length, take, drop, set, length-append}
use lib.Seq.{take_all}
use borrow.Author.Tests.{lt-ltb, le-ltb}
use Rattle.nets.specs.Networks.{address}
use Rattle.nets.specs.declared.Net.{Net}
use Rattle.text_decimal.specs.Decimal.{digits_of}
use Rattle.text.specs.Ipv4.{slash}
use Rattle.text_decimal.specs.Places.{Stored}
use Rattle.text_ipv6_write.specs.Ipv6.{longest, joined, digits, both_sides, text_with, text_of, groups_of, line_as6}
use Rattle.text_hex.specs.Hex.{colon}
use Rattle.text_ipv6_write.proofs.Longest.{longest-within}
use Rattle.text_ipv6_write.proofs.Colons.{part}

-- The text by the number of groups in the longest run.
pub text_of-whole : (gs : List ℕ) → (longest gs).1 < 2 → text_of gs ≡ joined (digits gs)
unfolding text_of text_with
text_of-whole gs h = rw (lt-ltb (longest gs).1 2 h)

pub text_of-shortened : (gs : List ℕ) → 2 ≤ (longest gs).1
    → text_of gs ≡ both_sides (digits (take (longest gs).0 gs)) (digits (drop ((longest gs).0 + (longest gs).1) gs))
unfolding text_of text_with
text_of-shortened gs h = rw (le-ltb (longest gs).1 2 h)

-- the groups up to the last
part-behind : (g : List ℕ) (k n : ℕ) → length g ≤ n → part k n g ≡ digits (drop k g)
part-behind g k n h = rw (take_all n g h)

pub within : (g : List ℕ) (k n : ℕ) → length g ≡ 8 → (k, n) ≡ longest g → k + n ≤ 8
within g k n eight e = omega (arith, longest-within g, ap (λ r. r.0) e, ap (λ r. r.1) e)

pub whole : (g : List ℕ) (k n : ℕ) → length g ≡ 8 → (k, n) ≡ longest g → n < 2 → text_of g ≡ joined (part 0 8 g)
whole g k n eight e h =
    text_of-whole g (omega (arith, ap (λ r. r.1) e)) ∙ ap joined (sym (part-behind g 0 8 (omega arith)))

-- the text around a run that is left out: the code writes the groups before it, two colons, and those behind it
abbrev pub sides : List ℕ → ℕ → ℕ → List ℕ
sides g k n = joined (part 0 k g) ++ ((colon ∷ colon ∷ []) ++ joined (part (k + n) 8 g))

pub around : (g : List ℕ) (k n : ℕ) → length g ≡ 8 → (k, n) ≡ longest g → 2 ≤ n → text_of g ≡ sides g k n
unfolding both_sides
around g k n eight e h =
    let a : (longest g).0 ≡ k = sym (ap (λ r. r.0) e) in
    let b : (longest g).1 ≡ n = sym (ap (λ r. r.1) e) in
    text_of-shortened g (omega arith) ∙ rw (a, b, part-behind g (k + n) 8 (omega arith))

pub length-sides : (g : List ℕ) (k n : ℕ) → length (sides g k n) ≡ length (joined (part 0 k g)) + 2 + length (joined (part (k + n) 8 g))
length-sides g k n = omega (arith, length-append (joined (part 0 k g)) (colon ∷ colon ∷ joined (part (k + n) 8 g)))

pub stored-colons : (w : List ℕ) (p : ℕ) → Stored w p (colon ∷ colon ∷ []) (set (set w p colon) (p + 1) colon) (p + 2)
stored-colons w p = record { place = refl; bytes = rw add-one }

-- The line: the text of the groups, a slash, and the length in digits.
pub length-line_as6 : (n : Net) → length (line_as6 n) ≡ length (text_of (groups_of (address n))) + 1 + length (digits_of n.len)
unfolding line_as6
length-line_as6 n = omega (arith, length-append (text_of (groups_of (address n))) (slash ∷ digits_of n.len))

pub stored-line_as6 : {w v : List ℕ} {q : ℕ} (n : Net)
    → Stored w 0 (text_of (groups_of (address n)) ++ ((slash ∷ []) ++ digits_of n.len)) v q → Stored w 0 (line_as6 n) v q
unfolding line_as6
stored-line_as6 n h = h
