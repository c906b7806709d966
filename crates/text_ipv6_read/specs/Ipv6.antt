-- The line of an IPv6 network: an address in one of the three forms of RFC 4291 section 2.2, then a slash and a length, a number up to 128 without a leading
-- zero.
--
--   dotted a b c d     four numbers joined by dots
--   Pieces q s xs      s has the groups xs, joined by colons (form 1); where q is true, a quad of four dec-octets stands for the last two of them (form 3)
--   Side q s xs        such pieces, or nothing at all
--   IsAddress s xs     s has the eight groups xs: all of them, or with one double colon for one or more that are zero (form 2)
--   IsLine6 s n        s is a line of the network n: the grammar
use Rattle.std.specs.Prelude.{Bool, true, false, List, [], ◌∷◌, ◌++◌, ◌≡◌, ℕ, ◌+◌, ◌-◌, ◌*◌, ◌≤◌, length, replicate}
use Rattle.nets.specs.Networks.{net_of, big_endian}
use Rattle.nets.specs.declared.Net.{Net}
use Rattle.text_decimal.specs.Decimal.{decimal, is_number}
use Rattle.text.specs.DecOctet.{is_dec_octet}
use Rattle.text.specs.Ipv4.{dot, slash}
use Rattle.text_hex.specs.Hex.{colon, hex_number}
use Rattle.text_ipv6_runs.specs.Runs.{is_group}

unfoldable pub dotted : List ℕ → List ℕ → List ℕ → List ℕ → List ℕ
dotted a b c d = a ++ (dot ∷ (b ++ (dot ∷ (c ++ (dot ∷ d)))))

-- the two groups of four bytes
abbrev pub pair : ℕ → ℕ → ℕ → ℕ → List ℕ
pair a b c d = (a * 256 + b) ∷ (c * 256 + d) ∷ []

pub data Pieces : Bool → List ℕ → List ℕ → Type 0 where
  group : (g : List ℕ) → is_group g ≡ true → Pieces false g (hex_number g ∷ [])
  quad : (a b c d : List ℕ) → is_dec_octet a ≡ true → is_dec_octet b ≡ true → is_dec_octet c ≡ true → is_dec_octet d ≡ true
      → Pieces true (dotted a b c d) (pair (decimal a) (decimal b) (decimal c) (decimal d))
  more : {q : Bool} {s xs : List ℕ} (g : List ℕ) → is_group g ≡ true → Pieces q s xs → Pieces q (g ++ (colon ∷ s)) (hex_number g ∷ xs)

pub data Side : Bool → List ℕ → List ℕ → Type 0 where
  empty : Side false [] []
  pieces : {q : Bool} {s xs : List ℕ} → Pieces q s xs → Side q s xs

-- groups with zeros between them, eight in all
abbrev pub around : List ℕ → List ℕ → List ℕ
around xs ys = xs ++ (replicate (8 - (length xs + length ys)) 0 ++ ys)

pub data IsAddress : List ℕ → List ℕ → Type 0 where
  full : {q : Bool} {s xs : List ℕ} → Pieces q s xs → length xs ≡ 8 → IsAddress s xs
  shortened : {q : Bool} {s t xs ys : List ℕ} → Side false s xs → Side q t ys → length xs + length ys ≤ 7
      → IsAddress (s ++ (colon ∷ colon ∷ t)) (around xs ys)

-- the network of eight groups and a length
abbrev pub ipv6 : List ℕ → ℕ → Net
ipv6 xs n = net_of 6 (big_endian 65536 xs 8) n

pub record IsLine6 (s : List ℕ) (n : Net) : Type 0 where
  pub text : List ℕ
  pub groups : List ℕ
  pub len : List ℕ
  pub address : IsAddress text groups
  pub len-rule : is_number 128 len ≡ true
  pub bytes : s ≡ text ++ (slash ∷ len)
  pub network : n ≡ ipv6 groups (decimal len)
