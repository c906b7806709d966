-- Bytes to groups to words: the number that they write. Assumes nothing.
use mathlib.Core.List.{List, [], ◌∷◌}
use mathlib.Core.Path.{◌≡◌}
use Prim.Native.Nat.{ℕ, ◌+◌, ◌*◌, ◌^◌}
use native.Mathlib.Omega.{arith}
use lib.ListN.{get_or}
use Rattle.nets.specs.Networks.{value, big_endian}

abbrev group_at : List ℕ → ℕ → ℕ
group_at a i = get_or a (2 * i) 0 * 2 ^ 8 + get_or a (2 * i + 1) 0

abbrev word : ℕ → ℕ → ℕ → ℕ → ℕ
word a b c d = a * 2 ^ 48 + b * 2 ^ 32 + c * 2 ^ 16 + d

pub big_endian-octets : (a : List ℕ) → big_endian 256 a 4 ≡ value 0 (word 0 0 (group_at a 0) (group_at a 1))
unfolding big_endian
big_endian-octets a = omega arith

pub big_endian-groups : (a : List ℕ) → big_endian 65536 a 8 ≡ value (word (get_or a 0 0) (get_or a 1 0) (get_or a 2 0) (get_or a 3 0)) (word (get_or a 4 0) (get_or a 5 0) (get_or a 6 0) (get_or a 7 0))
unfolding big_endian
big_endian-groups a = omega arith

pub big_endian-bytes : (a : List ℕ) → big_endian 256 a 16 ≡ big_endian 65536 (group_at a 0 ∷ group_at a 1 ∷ group_at a 2 ∷ group_at a 3 ∷ group_at a 4 ∷ group_at a 5 ∷ group_at a 6 ∷ group_at a 7 ∷ []) 8
unfolding big_endian
big_endian-bytes a = omega arith
