-- Public or not, worked by hand from the RFCs: around each inner network the address before it, its first, its last and the one behind it; members that
-- hold one; and a list from which exactly the inner part is taken away. Each row holds, by computation. Assumes nothing.
use mathlib.Core.Bool.{Bool, true, false, ◌&&◌, beq as same}
use mathlib.Core.List.{List, [], ◌∷◌}
use mathlib.Core.Path.{◌≡◌, refl}
use Prim.Native.Nat.{ℕ}
use Rattle.nets.specs.Bits.{Bits, bits, before}
use Rattle.nets.specs.Lists.{remove_l, exclude_l}
use Rattle.nets.specs.Networks.{width, net_bits}
use Rattle.nets.proofs.Worked.{ip}
use Rattle.inner_nets.specs.Inner.{overlaps, inner_nets4, inner_nets6, inner_nets, inner, is_public}
use Rattle.inner_nets.proofs.InnerLists.{ip6}

-- the family, a list, and whether it is public
pub data Row : Type 0 where
  row : ℕ → List Bits → Bool → Row

abbrev all_hold : List Row → Bool
all_hold [] = true
all_hold (row f l x ∷ t) = same (is_public f l) x && all_hold t

-- an address of family 4, of family 6, and a network of family 4
abbrev four : ℕ → ℕ → ℕ → ℕ → Bool → Row
four a b c d x = row 4 (ip a b c d 32 ∷ []) x

abbrev six : ℕ → ℕ → ℕ → ℕ → ℕ → ℕ → ℕ → ℕ → Bool → Row
six a b c d e g h i x = row 6 (ip6 a b c d e g h i 128 ∷ []) x

abbrev net : ℕ → ℕ → ℕ → ℕ → ℕ → Bool → Row
net a b c d n x = row 4 (ip a b c d n ∷ []) x

pub table : List Row
table =
    four 9 255 255 255 true
    ∷ four 10 0 0 0 false
    ∷ four 10 255 255 255 false
    ∷ four 11 0 0 0 true
    ∷ four 126 255 255 255 true
    ∷ four 127 0 0 0 false
    ∷ four 127 255 255 255 false
    ∷ four 128 0 0 0 true
    ∷ four 100 63 255 255 true
    ∷ four 100 64 0 0 false
    ∷ four 100 127 255 255 false
    ∷ four 100 128 0 0 true
    ∷ four 172 15 255 255 true
    ∷ four 172 16 0 0 false
    ∷ four 172 31 255 255 false
    ∷ four 172 32 0 0 true
    ∷ four 169 253 255 255 true
    ∷ four 169 254 0 0 false
    ∷ four 169 254 255 255 false
    ∷ four 169 255 0 0 true
    ∷ four 192 167 255 255 true
    ∷ four 192 168 0 0 false
    ∷ four 192 168 255 255 false
    ∷ four 192 169 0 0 true
    ∷ six 0xfbff 0xffff 0xffff 0xffff 0xffff 0xffff 0xffff 0xffff true
    ∷ six 0xfc00 0 0 0 0 0 0 0 false
    ∷ six 0xfdff 0xffff 0xffff 0xffff 0xffff 0xffff 0xffff 0xffff false
    ∷ six 0xfe00 0 0 0 0 0 0 0 true
    ∷ six 0xfe7f 0xffff 0xffff 0xffff 0xffff 0xffff 0xffff 0xffff true
    ∷ six 0xfe80 0 0 0 0 0 0 0 false
    ∷ six 0xfebf 0xffff 0xffff 0xffff 0xffff 0xffff 0xffff 0xffff false
    ∷ six 0xfec0 0 0 0 0 0 0 0 true
    ∷ six 0 0 0 0 0 0xfffe 0xffff 0xffff true
    ∷ six 0 0 0 0 0 0xffff 0 0 false
    ∷ six 0 0 0 0 0 0xffff 0xffff 0xffff false
    ∷ six 0 0 0 0 1 0 0 0 true
    ∷ six 0 0 0 0 0 0 0 0 true
    ∷ six 0 0 0 0 0 0 0 1 false
    ∷ six 0 0 0 0 0 0 0 2 true
    ∷ net 0 0 0 0 0 false
    ∷ net 8 0 0 0 5 false
    ∷ net 8 0 0 0 7 true
    ∷ net 172 16 0 0 11 false
    ∷ net 10 1 0 0 16 false
    ∷ row 6 (ip6 0 0 0 0 0 0 0 0 0 ∷ []) false
    ∷ row 6 (ip6 0x2001 0xdb8 0 0 0 0 0 0 32 ∷ []) true
    ∷ row 4 (exclude_l (ip 8 0 0 0 5 ∷ []) (ip 10 0 0 0 8 ∷ [])) true
    ∷ row 4 (exclude_l (ip 8 0 0 0 5 ∷ []) (ip 10 0 0 0 9 ∷ [])) false
    ∷ []

pub table-holds : all_hold table ≡ true
unfolding table width bits before net_bits remove_l exclude_l overlaps inner_nets4 inner_nets6 inner_nets inner is_public
table-holds = refl
