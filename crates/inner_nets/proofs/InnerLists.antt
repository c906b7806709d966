-- The inner networks of a family are a list of its width: ascending, none inside another. Each is the one that its text names, a.b.c.d/n or eight groups of
-- four digits, and the numbers of each are those of a network with nothing past its length. By computation. Assumes nothing.
use mathlib.Core.Bool.{Bool, true, false, cond}
use mathlib.Core.List.{[], ◌∷◌, map}
use mathlib.Core.Path.{◌≡◌, refl}
use Prim.Native.Nat.{ℕ, ◌+◌, ◌*◌}
use lib.Dec.{eqb}
use lib.ListN.{take}
use Rattle.nets.specs.Bits.{Bits, bits, before}
use Rattle.nets.specs.Lists.{is_list}
use Rattle.nets.specs.Networks.{width, net_bits}
use Rattle.nets.proofs.Worked.{ip}
use Rattle.inner_nets.specs.Inner.{inner_nets4, inner_nets6, inner_nets, inner}

pub is_list-inner : (f : ℕ) → is_list (width f) (inner f) ≡ true
unfolding width is_list inner inner_nets inner_nets4 inner_nets6 net_bits bits before
is_list-inner f = go (eqb f 4)
  where
    go : (x : Bool) → is_list (cond x 32 128) (map net_bits (cond x inner_nets4 inner_nets6)) ≡ true
    go true = refl
    go false = refl

-- a:b:c:d:e:g:h:i/n
abbrev pub ip6 : ℕ → ℕ → ℕ → ℕ → ℕ → ℕ → ℕ → ℕ → ℕ → Bits
ip6 a b c d e g h i n = take n (bits 128 (((((((a * 65536 + b) * 65536 + c) * 65536 + d) * 65536 + e) * 65536 + g) * 65536 + h) * 65536 + i))

pub inner-4 : inner 4 ≡ (ip 10 0 0 0 8 ∷ ip 127 0 0 0 8 ∷ ip 100 64 0 0 10 ∷ ip 172 16 0 0 12 ∷ ip 169 254 0 0 16 ∷ ip 192 168 0 0 16 ∷ [])
unfolding inner inner_nets inner_nets4 net_bits bits width
inner-4 = refl

pub inner-6 : inner 6 ≡ (ip6 0xfc00 0 0 0 0 0 0 0 7 ∷ ip6 0xfe80 0 0 0 0 0 0 0 10 ∷ ip6 0 0 0 0 0 0xffff 0 0 96 ∷ ip6 0 0 0 0 0 0 0 1 128 ∷ [])
unfolding inner inner_nets inner_nets6 net_bits bits width
inner-6 = refl
