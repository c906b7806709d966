-- What is written of a line: its numbers, each with the byte that ends it, and how many bytes they are. Assumes nothing.
use mathlib.Core.List.{List, [], ◌∷◌, ◌++◌, append_assoc}
use mathlib.Core.Path.{◌≡◌}
use Prim.Native.Nat.{ℕ, ◌+◌, ◌/◌, ◌%◌, ◌^◌, ◌≤◌}
use native.Mathlib.Omega.{arith}
use lib.ListN.{length, length-append}
use Rattle.nets.specs.declared.Net.{Net}
use Rattle.text_decimal.proofs.Writing.{length-digits_of}
use Rattle.text_decimal.specs.Decimal.{digits_of}
use Rattle.text_decimal.specs.Places.{Stored}
use Rattle.text.specs.Ipv4.{dot, slash, joined, octet_of, line_as}

-- The four numbers, each with the byte that ends it, and the length make the line.
joined-fields : (a b c d n : List ℕ) → (a ++ (dot ∷ [])) ++ ((b ++ (dot ∷ [])) ++ ((c ++ (dot ∷ [])) ++ ((d ++ (slash ∷ [])) ++ n))) ≡ joined a b c d n
unfolding joined
joined-fields a b c d n = simp append_assoc

pub stored-line : {w v : List ℕ} {q : ℕ} (n : Net)
    → Stored w 0 ((octet_of n.lo 3 ++ (dot ∷ [])) ++ ((octet_of n.lo 2 ++ (dot ∷ [])) ++ ((octet_of n.lo 1 ++ (dot ∷ [])) ++ ((octet_of n.lo 0 ++ (slash ∷ [])) ++ digits_of n.len)))) v q
    → Stored w 0 (line_as n) v q
unfolding line_as
stored-line n h = rw (joined-fields (octet_of n.lo 3) (octet_of n.lo 2) (octet_of n.lo 1) (octet_of n.lo 0) (digits_of n.len)) at h

pub length-joined : (a b c d n : List ℕ) → length (joined a b c d n) ≡ length a + length b + length c + length d + length n + 4
unfolding joined
length-joined a b c d n = simp length-append (omega arith)

length-ended : (s : List ℕ) (e : ℕ) → length (s ++ (e ∷ [])) ≡ length s + 1
length-ended s e = length-append s (e ∷ [])

-- how many bytes the line of a network has, and each of its numbers with the byte that ends it
pub record Lengths (n : Net) : Type 0 where
  pub line : length (line_as n) ≡ length (octet_of n.lo 3) + length (octet_of n.lo 2) + length (octet_of n.lo 1) + length (octet_of n.lo 0) + length (digits_of n.len) + 4
  pub third : length (octet_of n.lo 3 ++ (dot ∷ [])) ≡ length (octet_of n.lo 3) + 1
  pub second : length (octet_of n.lo 2 ++ (dot ∷ [])) ≡ length (octet_of n.lo 2) + 1
  pub first : length (octet_of n.lo 1 ++ (dot ∷ [])) ≡ length (octet_of n.lo 1) + 1
  pub last : length (octet_of n.lo 0 ++ (slash ∷ [])) ≡ length (octet_of n.lo 0) + 1

pub lengths : (n : Net) → Lengths n
unfolding line_as
lengths n =
    record {
      line = length-joined (octet_of n.lo 3) (octet_of n.lo 2) (octet_of n.lo 1) (octet_of n.lo 0) (digits_of n.len);
      third = length-ended (octet_of n.lo 3) dot;
      second = length-ended (octet_of n.lo 2) dot;
      first = length-ended (octet_of n.lo 1) dot;
      last = length-ended (octet_of n.lo 0) slash;
    }

pub length-line_as : (n : Net) → length (line_as n) ≤ 16 + length (digits_of n.len)
length-line_as n =
    omega (
      arith,
      lengths n,
      length-digits_of (n.lo / 2 ^ 24 % 256),
      length-digits_of (n.lo / 2 ^ 16 % 256),
      length-digits_of (n.lo / 2 ^ 8 % 256),
      length-digits_of (n.lo / 2 ^ 0 % 256),
    )
