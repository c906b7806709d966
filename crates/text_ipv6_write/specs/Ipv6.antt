-- The line that is written for an IPv6 network: its address in the one form that RFC 5952 recommends (sections 4.1 to 4.3), then a slash and the length.
-- A dotted quad is never written.
--
--   group_of a k       group k of an address, from its lowest on: 16 bits
--   groups_of a        the eight groups of an address, the highest first
--   zeros gs          how many groups of zero gs begins with
--   longest gs        the longest run of groups of zero, the first of equal ones: its place and how many they are;  longest_from k gs: gs stands from k on
--   led ds, joined ds groups of digits with a colon before each, and with a colon between each two
--   digits gs         the digits of each group
--   text_of gs         the text of groups: a run of two or more, the longest, the first of equal ones, is left out between two colons
--   line_as6 n         the line of the numbers of n as they stand
--   line_of6 n         the line that is written for n: its bits past the length are cleared
use Rattle.std.specs.Prelude.{cond, List, [], ◌∷◌, ◌++◌, map, ℕ, suc, ◌+◌, ◌*◌, ◌/◌, ◌%◌, ◌^◌, eqb, leb, ltb, take, drop}
use Rattle.nets.specs.Networks.{address, cleared}
use Rattle.nets.specs.declared.Net.{Net}
use Rattle.text_decimal.specs.Decimal.{digits_of}
use Rattle.text.specs.Ipv4.{slash}
use Rattle.text_hex.specs.Hex.{colon, hex_digits_of}

abbrev pub group_of : ℕ → ℕ → ℕ
group_of a k = a / 2 ^ (16 * k) % 65536

unfoldable pub groups_of : ℕ → List ℕ
groups_of a = group_of a 7 ∷ group_of a 6 ∷ group_of a 5 ∷ group_of a 4 ∷ group_of a 3 ∷ group_of a 2 ∷ group_of a 1 ∷ group_of a 0 ∷ []

unfoldable pub zeros : List ℕ → ℕ
zeros [] = 0
zeros (g ∷ gs) = cond (eqb g 0) (suc (zeros gs)) 0

-- of two runs the first, unless the second is longer
abbrev pub better : ℕ × ℕ → ℕ × ℕ → ℕ × ℕ
better a b = cond (leb b.1 a.1) a b

unfoldable pub longest_from : ℕ → List ℕ → ℕ × ℕ
longest_from k [] = (k, 0)
longest_from k (g ∷ gs) = better (k, zeros (g ∷ gs)) (longest_from (suc k) gs)

abbrev pub longest : List ℕ → ℕ × ℕ
longest gs = longest_from 0 gs

unfoldable pub led : List (List ℕ) → List ℕ
led [] = []
led (d ∷ ds) = colon ∷ (d ++ led ds)

unfoldable pub joined : List (List ℕ) → List ℕ
joined [] = []
joined (d ∷ ds) = d ++ led ds

abbrev pub digits : List ℕ → List (List ℕ)
digits gs = map hex_digits_of gs

-- the groups before and behind a run that is left out
unfoldable pub both_sides : List (List ℕ) → List (List ℕ) → List ℕ
both_sides left right = joined left ++ (colon ∷ colon ∷ joined right)

-- the text with the run r left out, where it has two groups or more
unfoldable pub text_with : ℕ × ℕ → List ℕ → List ℕ
text_with r gs = cond (ltb r.1 2) (joined (digits gs)) (both_sides (digits (take r.0 gs)) (digits (drop (r.0 + r.1) gs)))

unfoldable pub text_of : List ℕ → List ℕ
text_of gs = text_with (longest gs) gs

unfoldable pub line_as6 : Net → List ℕ
line_as6 n = text_of (groups_of (address n)) ++ (slash ∷ digits_of n.len)

unfoldable pub line_of6 : Net → List ℕ
line_of6 n = line_as6 (cleared n)
