-- Numbers of two, four and eight bytes, the lowest byte first.
--
--   u16_at s p, u32_at, u64_at     the number that stands in the bytes s from p on; bytes past the end are 0
--   u16_bytes x, u32_bytes, u64_bytes     the bytes of x
use Rattle.std.specs.Prelude.{List, [], ◌∷◌, ◌++◌, ℕ, ◌+◌, ◌*◌, ◌/◌, ◌%◌, get_or}

unfoldable pub u16_at : List ℕ → ℕ → ℕ
u16_at s p = get_or s p 0 + 256 * get_or s (p + 1) 0

unfoldable pub u32_at : List ℕ → ℕ → ℕ
u32_at s p = u16_at s p + 65536 * u16_at s (p + 2)

unfoldable pub u64_at : List ℕ → ℕ → ℕ
u64_at s p = u32_at s p + 4294967296 * u32_at s (p + 4)

unfoldable pub u16_bytes : ℕ → List ℕ
u16_bytes x = x % 256 ∷ x / 256 ∷ []

unfoldable pub u32_bytes : ℕ → List ℕ
u32_bytes x = u16_bytes (x % 65536) ++ u16_bytes (x / 65536)

unfoldable pub u64_bytes : ℕ → List ℕ
u64_bytes x = u32_bytes (x % 4294967296) ++ u32_bytes (x / 4294967296)
