-- One number tells an answer's refusal, value, flag and report apart: a value has 32 bits, and no number of the table has more than 16.
use mathlib.Core.Bool.{Bool, true, false, not}
use mathlib.Core.Path.{◌≡◌, refl}
use Prim.Native.Nat.{ℕ, ◌+◌, ◌*◌, ◌≤◌, ◌<◌}
use native.Mathlib.Omega.{arith}
use lib.Dec.{eqb}
use Rattle.nets.proofs.Strings.{cond_both}
use Rattle.calls_bytes.specs.declared.Reply.{Reply}
use Rattle.calls_packed.specs.Packed.{bit, packed}

bit_le : (b : Bool) → bit b ≤ 1
bit_le b = cond_both (λ n. n ≤ 1) b 1 0 (omega arith) (omega arith)

bit-one : (a b : Bool) → bit a ≡ bit b → a ≡ b
bit-one true true e = refl
bit-one true false e = absurd (omega arith)
bit-one false true e = absurd (omega arith)
bit-one false false e = refl

parts : {x y k l f g s t : ℕ} → x < 4294967296 → y < 4294967296 → k < 65536 → l < 65536 → f ≤ 1 → g ≤ 1
    → x + 4294967296 * k + 281474976710656 * f + 562949953421312 * s ≡ y + 4294967296 * l + 281474976710656 * g + 562949953421312 * t
    → (x ≡ y) × (k ≡ l) × (f ≡ g) × (s ≡ t)
parts a b c d p q e = (omega arith, omega arith, omega arith, omega arith)

-- the parts of one number are those of one answer
pub packed-apart : (r s : Reply) → r.x < 4294967296 → s.x < 4294967296 → r.no < 65536 → s.no < 65536 → packed r ≡ packed s
    → (r.x ≡ s.x) × (r.no ≡ s.no) × (r.flag ≡ s.flag) × (not (eqb r.y 0) ≡ not (eqb s.y 0))
unfolding packed
packed-apart r s a b c d e =
    let h = parts {s = bit (not (eqb r.y 0))} {t = bit (not (eqb s.y 0))} a b c d (bit_le r.flag) (bit_le s.flag) e in
    (h.0, h.1, bit-one r.flag s.flag h.2, bit-one (not (eqb r.y 0)) (not (eqb s.y 0)) h.3)
