-- Bit strings, the highest bit first. A network is one of length 0 to the width of its family, an address one of that width.
--
--   leads p q     p is a leading bit string of q: the network p holds the address q, or the network q lies inside p
--   equal p q     p and q are the same string
--   val p         the number that p writes
--   before p q    p comes before q in a list: the shorter first, then the smaller number
--   bits w a      the w bits of the number a: bit k is a / 2^(w-1-k) % 2
use Rattle.std.specs.Prelude.{Bool, true, false, ◌&&◌, ◌||◌, List, [], ◌∷◌, ℕ, zero, suc, ◌+◌, ◌*◌, ◌/◌, ◌%◌, ◌^◌, length, eqb, ltb}
use Rattle.std.specs.Bool.{beq as same}

abbrev pub Bits : Type 0
Bits = List Bool

abbrev pub leads : Bits → Bits → Bool
leads [] q = true
leads (b ∷ p) [] = false
leads (b ∷ p) (c ∷ q) = same b c && leads p q

abbrev pub equal : Bits → Bits → Bool
equal [] [] = true
equal [] (c ∷ q) = false
equal (b ∷ p) [] = false
equal (b ∷ p) (c ∷ q) = same b c && equal p q

abbrev pub digit : Bool → ℕ
digit false = 0
digit true = 1

abbrev pub val : Bits → ℕ
val [] = 0
val (b ∷ p) = digit b * 2 ^ length p + val p

unfoldable pub before : Bits → Bits → Bool
before p q = ltb (length p) (length q) || (eqb (length p) (length q) && ltb (val p) (val q))

unfoldable pub bits : ℕ → ℕ → Bits
bits zero a = []
bits (suc w) a = eqb (a / 2 ^ w % 2) 1 ∷ bits w a
