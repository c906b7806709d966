-- The groups of an address in two words are the four of each word; they give the address back, and eight groups of 16 bits are those of their address.
-- Assumes nothing.
use mathlib.Core.List.{List, [], ◌∷◌, ◌++◌}
use mathlib.Core.Path.{◌≡◌, refl, ◌∙◌}
use Prim.Native.Nat.{ℕ, ◌+◌, ◌*◌, ◌/◌, ◌%◌, ◌^◌, ◌<◌}
use native.Mathlib.Nat.{div-div-eq-div-mul}
use native.Mathlib.Omega.{arith}
use Rattle.nets.specs.Networks.{value, big_endian}
use Rattle.addresses.proofs.Words.{big_endian-groups}
use Rattle.text_ipv6_write.specs.Ipv6.{group_of, groups_of}

-- the four groups of a word, the highest first
abbrev pub word_groups : ℕ → List ℕ
word_groups w = group_of w 3 ∷ group_of w 2 ∷ group_of w 1 ∷ group_of w 0 ∷ []

high : (hi lo d : ℕ) → lo < 2 ^ 64 → value hi lo / (2 ^ 64 * d) % 65536 ≡ hi / d % 65536
high hi lo d h = let e : value hi lo / 2 ^ 64 ≡ hi = omega arith in rw (← div-div-eq-div-mul (value hi lo) (2 ^ 64) d, e)

low-3 : (hi lo : ℕ) → group_of (value hi lo) 3 ≡ group_of lo 3
low-3 hi lo = omega arith

low-2 : (hi lo : ℕ) → group_of (value hi lo) 2 ≡ group_of lo 2
low-2 hi lo = omega arith

low-1 : (hi lo : ℕ) → group_of (value hi lo) 1 ≡ group_of lo 1
low-1 hi lo = omega arith

low-0 : (hi lo : ℕ) → group_of (value hi lo) 0 ≡ group_of lo 0
low-0 hi lo = omega arith

pub groups_of-words : (hi lo : ℕ) → lo < 2 ^ 64 → groups_of (value hi lo) ≡ word_groups hi ++ word_groups lo
unfolding groups_of
groups_of-words hi lo h =
    rw (high hi lo (2 ^ 48) h, high hi lo (2 ^ 32) h, high hi lo (2 ^ 16) h, high hi lo 1 h, low-3 hi lo, low-2 hi lo, low-1 hi lo, low-0 hi lo)

-- The number of the groups is the address.
word-parts : (w a b : ℕ) → a ≡ w / 65536 → b ≡ a / 65536 → b < 2 ^ 32 → b / 65536 % 65536 * 2 ^ 48 + b % 65536 * 2 ^ 32 + a % 65536 * 2 ^ 16 + w / 1 % 65536 ≡ w
word-parts w a b e f h = omega arith

word_back : (w : ℕ) → w < 2 ^ 64 → group_of w 3 * 2 ^ 48 + group_of w 2 * 2 ^ 32 + group_of w 1 * 2 ^ 16 + group_of w 0 ≡ w
word_back w h =
    rw (← div-div-eq-div-mul w (2 ^ 32) 65536, ← div-div-eq-div-mul w 65536 65536)
    (word-parts w (w / 65536) (w / 65536 / 65536) refl refl (omega arith))

pub big_endian-groups_of : (hi lo : ℕ) → hi < 2 ^ 64 → lo < 2 ^ 64 → big_endian 65536 (groups_of (value hi lo)) 8 ≡ value hi lo
big_endian-groups_of hi lo h l = rw (groups_of-words hi lo l) (big_endian-groups (word_groups hi ++ word_groups lo) ∙ rw (word_back hi h, word_back lo l))
