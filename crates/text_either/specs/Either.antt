-- Lines of networks of either family: a line is one of IPv4 by its grammar, or one of IPv6 by its own, and no line is both.
--
--   IsEither s n       s is a line of the network n
--   read_either s       the network of the line s, or the refusal of bytes that are none
--   entered_either s    the line s taken in: its refusal, or the cleared network and whether a bit was cut
--   either_as n         the line of the numbers of n as they stand, by its family
--   line_either n       the line that is written for n: its bits past the length are cleared
--   either_refusal n k  why n cannot be written to k bytes: 6 or 7 where it is no network, 11 where there is no room, else 0
--   WroteEither n old new r   the answer r and the bytes new, where n is written over the bytes old
use Rattle.std.specs.Prelude.{Bool, cond, List, ◌⊎◌, ℕ, eqb, leb, length, Result}
use Rattle.nets.specs.Networks.{taken_in, refusal_of, cleared, has_bit_past}
use Rattle.nets.specs.Refusals.{number}
use Rattle.nets.specs.declared.Net.{Net}
use Rattle.nets.specs.declared.Refusal.TheVariants.{ShortBuffer}
use Rattle.text.specs.Ipv4.{IsLine, read_line, line_as}
use Rattle.text.specs.Answers.{WroteOver}
use Rattle.text_ipv6_read.specs.Ipv6.{IsLine6}
use Rattle.text_ipv6_read.specs.Reader.{read_line6}
use Rattle.text_ipv6_write.specs.Ipv6.{line_as6}
use Rattle.nets.specs.declared.Refusal.{Refusal}

abbrev pub IsEither : List ℕ → Net → Type 0
IsEither s n = IsLine s n ⊎ IsLine6 s n

unfoldable pub read_either : List ℕ → ℕ × Net
read_either s = cond (eqb (read_line s).0 0) (read_line s) (read_line6 s)

unfoldable pub entered_either : List ℕ → ℕ × (Net × Bool)
entered_either s = taken_in (read_either s).0 (read_either s).1

-- writing: the line of the network's family, and why it cannot be written to room bytes, or 0
unfoldable pub either_as : Net → List ℕ
either_as n = cond (eqb n.family 4) (line_as n) (line_as6 n)

unfoldable pub line_either : Net → List ℕ
line_either n = either_as (cleared n)

unfoldable pub either_refusal : Net → ℕ → ℕ
either_refusal n room = cond (eqb (refusal_of n) 0) (cond (leb (length (line_either n)) room) 0 (number ShortBuffer)) (refusal_of n)

abbrev pub WroteEither : Net → List ℕ → List ℕ → Result (ℕ × Bool) Refusal → Type 0
WroteEither n old new r = WroteOver (either_refusal n (length old)) (line_either n) (has_bit_past n) old new r
