-- The line of an IPv4 network: four numbers, each a dec-octet of RFC 3986, joined by dots, then a slash and a length, a number up to 32. 0 alone is the only
-- number that begins with 0.
--
--   joined a b c d n   four numbers and a length, as a line joins their digits
--   Line o k s n       s is a line of the network n, where o is the rule for one of the four numbers and k that for the length
--   IsLine s n         s is a line of the network n by the rules above: the grammar
--   read_next e p       what p has read with one more of the four numbers behind it, and the byte e that ends that number
--   read_quad s         the address that the four numbers write, the last of them ended by the slash
--   read_line s         the network of the line s, or the refusal of bytes that are none
--   line_as n           the line of the numbers of n as they stand
--   line_of n           the line that is written for n: its bits past the length are cleared
use Rattle.std.specs.Prelude.{Bool, true, cond, List, [], ◌∷◌, ◌++◌, ◌≡◌, ℕ, ◌+◌, ◌*◌, ◌/◌, ◌%◌, ◌^◌, eqb}
use Rattle.nets.specs.Networks.{net_words, no_net, cleared}
use Rattle.nets.specs.Refusals.{number}
use Rattle.nets.specs.declared.Net.{Net}
use Rattle.nets.specs.declared.Refusal.TheVariants.{BadText}
use Rattle.text_decimal.specs.Decimal.{Parsed, parsed, nothing, and_then, decimal, is_number, read_number, digits_of}
use Rattle.text.specs.DecOctet.{is_dec_octet}

abbrev pub dot : ℕ
dot = 46

abbrev pub slash : ℕ
slash = 47

-- the address of four bytes, and the network of it
abbrev pub address : ℕ → ℕ → ℕ → ℕ → ℕ
address a b c d = ((a * 256 + b) * 256 + c) * 256 + d

abbrev pub ipv4 : ℕ → ℕ → Net
ipv4 a n = net_words 4 0 a n

unfoldable pub joined : List ℕ → List ℕ → List ℕ → List ℕ → List ℕ → List ℕ
joined a b c d n = a ++ (dot ∷ (b ++ (dot ∷ (c ++ (dot ∷ (d ++ (slash ∷ n)))))))

pub record Line (octet size : List ℕ → Bool) (s : List ℕ) (n : Net) : Type 0 where
  pub a : List ℕ
  pub b : List ℕ
  pub c : List ℕ
  pub d : List ℕ
  pub len : List ℕ
  pub a-rule : octet a ≡ true
  pub b-rule : octet b ≡ true
  pub c-rule : octet c ≡ true
  pub d-rule : octet d ≡ true
  pub len-rule : size len ≡ true
  pub bytes : s ≡ joined a b c d len
  pub network : n ≡ ipv4 (address (decimal a) (decimal b) (decimal c) (decimal d)) (decimal len)

abbrev pub IsLine : List ℕ → Net → Type 0
IsLine s n = Line is_dec_octet (is_number 32) s n

abbrev pub ended_by : ℕ → ℕ → List ℕ → Parsed
ended_by e v [] = nothing
ended_by e v (c ∷ s) = cond (eqb c e) (parsed v s) nothing

unfoldable pub read_next : ℕ → Parsed → Parsed
read_next e p = and_then p (λ v s. and_then (read_number 255 s) (λ x t. ended_by e (v * 256 + x) t))

unfoldable pub read_quad : List ℕ → Parsed
read_quad s = read_next slash (read_next dot (read_next dot (read_next dot (parsed 0 s))))

abbrev pub bad_text : ℕ × Net
bad_text = (number BadText, no_net)

-- the network of an address and the length that was read, if nothing follows
abbrev pub with_length : ℕ → Parsed → ℕ × Net
with_length a (parsed n []) = (0, ipv4 a n)
with_length a (parsed n (c ∷ s)) = bad_text
with_length a nothing = bad_text

abbrev pub with_address : Parsed → ℕ × Net
with_address (parsed a s) = with_length a (read_number 32 s)
with_address nothing = bad_text

unfoldable pub read_line : List ℕ → ℕ × Net
read_line s = with_address (read_quad s)

-- byte k of an address from its lowest on, in decimal
abbrev pub octet_of : ℕ → ℕ → List ℕ
octet_of a k = digits_of (a / 2 ^ (8 * k) % 256)

unfoldable pub line_as : Net → List ℕ
line_as n = joined (octet_of n.lo 3) (octet_of n.lo 2) (octet_of n.lo 1) (octet_of n.lo 0) (digits_of n.len)

unfoldable pub line_of : Net → List ℕ
line_of n = line_as (cleared n)
