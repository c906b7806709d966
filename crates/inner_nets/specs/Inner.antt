-- The inner networks, which a public-only set keeps clear of, and what it is to keep clear.
--
--   overlap p q        the networks p and q have an address in common: one leads the other
--   overlaps l m       a member of l and one of m have one
--   inner_nets f        the inner networks of the family f, in list order
--   inner f            their bits
--   is_public f l       no member of l overlaps an inner network of the family f
use Rattle.std.specs.Prelude.{Bool, not, cond, ◌||◌, List, [], ◌∷◌, map, ℕ, eqb}
use Rattle.nets.specs.Bits.{Bits, leads}
use Rattle.nets.specs.Lists.{any_of}
use Rattle.nets.specs.Networks.{net_words, net_bits}
use Rattle.nets.specs.declared.Net.{Net}

abbrev pub overlap : Bits → Bits → Bool
overlap p q = leads p q || leads q p

-- a member of l overlaps q
abbrev pub overlaps_one : List Bits → Bits → Bool
overlaps_one l q = any_of (λ p. overlap p q) l

unfoldable pub overlaps : List Bits → List Bits → Bool
overlaps l m = any_of (overlaps_one l) m

unfoldable pub inner_nets4 : List Net
inner_nets4 =
    net_words 4 0 0x0a000000 8  -- 10.0.0.0/8, RFC 1918
    ∷ net_words 4 0 0x7f000000 8  -- 127.0.0.0/8, RFC 1122
    ∷ net_words 4 0 0x64400000 10  -- 100.64.0.0/10, RFC 6598
    ∷ net_words 4 0 0xac100000 12  -- 172.16.0.0/12, RFC 1918
    ∷ net_words 4 0 0xa9fe0000 16  -- 169.254.0.0/16, RFC 3927
    ∷ net_words 4 0 0xc0a80000 16  -- 192.168.0.0/16, RFC 1918
    ∷ []

unfoldable pub inner_nets6 : List Net
inner_nets6 =
    net_words 6 0xfc00000000000000 0 7  -- fc00::/7, RFC 4193
    ∷ net_words 6 0xfe80000000000000 0 10  -- fe80::/10, RFC 4291
    ∷ net_words 6 0 0x0000ffff00000000 96  -- ::ffff:0:0/96, RFC 4291
    ∷ net_words 6 0 1 128  -- ::1/128, RFC 4291
    ∷ []

unfoldable pub inner_nets : ℕ → List Net
inner_nets f = cond (eqb f 4) inner_nets4 inner_nets6

unfoldable pub inner : ℕ → List Bits
inner f = map net_bits (inner_nets f)

unfoldable pub is_public : ℕ → List Bits → Bool
is_public f l = not (overlaps l (inner f))
