-- What the calls without a pool answer, by their codes: 17, 32 to 42. s are the bytes of the call, c its fixed part.
--
--   network_of s c       the answer; made_of: those from 37 on
use Rattle.std.specs.Prelude.{cond, List, [], ◌∷◌, ℕ, ◌%◌, eqb, drop}
use Rattle.nets.specs.Refusals.{answered}
use Rattle.nets.specs.Networks.{width, net_words, net_of, no_net, judged, refusal_of, with_len, with_len_no, cleared, entered, big_endian, start_of, no_bits, bits_words, next_of}
use Rattle.nets.specs.declared.Net.{Net}
use Rattle.text.specs.Answers.{entered_line}
use Rattle.text_ipv6_read.specs.Reader.{entered_line6}
use Rattle.text_either.specs.Either.{entered_either}
use Rattle.calls_bytes.specs.Bytes.{u16_at}
use Rattle.calls_bytes.specs.Tails.{words_from}
use Rattle.calls_bytes.specs.declared.Call.{Call}
use Rattle.calls_bytes.specs.declared.Reply.{Reply}
use Rattle.calls_replies.specs.Replies.{net_reply, enter_reply, bits_reply, bit_reply}

-- addresses as bytes: those of a, those of hi and lo, and these by two
unfoldable pub octets_of : List ℕ → Net
octets_of s = net_of 4 (big_endian 256 (words_from s 1 4) 4) 32

unfoldable pub bytes_of : List ℕ → Net
bytes_of s = net_of 6 (big_endian 256 (words_from s 14 16) 16) 128

unfoldable pub groups_of : List ℕ → Net
groups_of s =
    net_of 6
    (big_endian 65536 (u16_at s 14 ∷ u16_at s 16 ∷ u16_at s 18 ∷ u16_at s 20 ∷ u16_at s 22 ∷ u16_at s 24 ∷ u16_at s 26 ∷ u16_at s 28 ∷ []) 8)
    128

unfoldable pub made_of : List ℕ → Call → Reply
made_of s c =
    cond (eqb c.code 37) (net_reply (0, octets_of s))
    (cond (eqb c.code 38) (net_reply (0, bytes_of s))
    (cond (eqb c.code 39) (net_reply (0, groups_of s))
    (net_reply (judged (net_words c.net.family c.net.hi c.net.lo (width c.net.family))))))

unfoldable pub network_of : List ℕ → Call → Reply
network_of s c =
    cond (eqb c.code 17) (enter_reply (entered_line (drop 35 s)))
    (cond (eqb c.code 32) (net_reply (judged c.net))
    (cond (eqb c.code 33) (enter_reply (entered c.net))
    (cond (eqb c.code 34) (net_reply (answered (with_len_no c.net (c.a % 256)) no_net (cleared (with_len c.net (c.a % 256)))))
    (cond (eqb c.code 35) (bits_reply (answered (refusal_of c.net) no_bits (start_of c.net)))
    (cond (eqb c.code 36) (bit_reply (next_of (bits_words c.net.hi c.net.lo c.net.len)))
    (cond (eqb c.code 41) (enter_reply (entered_line6 (drop 35 s)))
    (cond (eqb c.code 42) (enter_reply (entered_either (drop 35 s)))
    (made_of s c))))))))
