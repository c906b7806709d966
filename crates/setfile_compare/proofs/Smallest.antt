-- The smallest address of which a test holds: `least` finds it, or there is none (`is-least`), and nothing else is it (`least-is`). Assumes nothing.
use mathlib.Core.Bool.{Bool, true, false, cond, false≢true}
use mathlib.Core.List.{[], ◌∷◌}
use mathlib.Core.Path.{◌≡◌, refl, ap, sym, ◌∙◌}
use Prim.Native.Nat.{ℕ, zero, suc, ◌<◌}
use native.Mathlib.Decide.{dec_lt}
use native.Mathlib.Omega.{arith}
use lib.ListN.{length}
use Rattle.nets.specs.Bits.{Bits, val}
use Rattle.nets.specs.Lists.{Found, found, missing}
use Rattle.nets.proofs.Numbers.{bits-val}
use Rattle.nets.proofs.Order.{val-high}
use Rattle.setfile_compare.specs.Comparing.{behind, first_found, least}

-- f holds of the address a and of none before it; or of none
abbrev pub IsLeast : ℕ → (Bits → Bool) → Found → Type 0
IsLeast w f (found a) = (length a ≡ w) × (f a ≡ true) × ((b : Bits) → length b ≡ w → val b < val a → f b ≡ false)
IsLeast w f missing = (b : Bits) → length b ≡ w → f b ≡ false

ends : (f : Bits → Bool) (x : Bool) → f [] ≡ x → IsLeast 0 f (cond x (found []) missing)
ends f true e = (refl, e, λ b n h. absurd (omega arith))
ends f false e = λ b n. go b n
  where
    go : (b : Bits) → length b ≡ 0 → f b ≡ false
    go [] n = e
    go (c ∷ b) n = absurd (omega arith)

-- of those that begin with 0 first
halves : (w : ℕ) (f : Bits → Bool) (x y : Found) → IsLeast w (λ a. f (false ∷ a)) x → IsLeast w (λ a. f (true ∷ a)) y
    → IsLeast (suc w) f (first_found (behind false x) (behind true y))
halves w f (found a) y (n, e, h) j = (ap suc n, e, go)
  where
    go : (b : Bits) → length b ≡ suc w → val b < val (false ∷ a) → f b ≡ false
    go [] i k = absurd (omega arith)
    go (false ∷ b) i k = h b (omega arith) (omega arith)
    go (true ∷ b) i k = let z = val-high a in let s : length b ≡ length a = omega arith in absurd (omega (arith, rw s at k))
halves w f missing (found a) i (n, e, h) = (ap suc n, e, go)
  where
    go : (b : Bits) → length b ≡ suc w → val b < val (true ∷ a) → f b ≡ false
    go [] j k = absurd (omega arith)
    go (false ∷ b) j k = i b (omega arith)
    go (true ∷ b) j k = let s : length b ≡ length a = omega arith in h b (omega arith) (omega (arith, rw s at k))
halves w f missing missing i j = go
  where
    go : (b : Bits) → length b ≡ suc w → f b ≡ false
    go [] n = absurd (omega arith)
    go (false ∷ b) n = i b (omega arith)
    go (true ∷ b) n = j b (omega arith)

pub is-least : (w : ℕ) (f : Bits → Bool) → IsLeast w f (least w f)
unfolding least
is-least zero f = ends f (f []) refl
is-least (suc w) f = halves w f (least w (λ a. f (false ∷ a))) (least w (λ a. f (true ∷ a))) (is-least w (λ a. f (false ∷ a))) (is-least w (λ a. f (true ∷ a)))

-- Two that are the smallest are one.
pub val-one : (w : ℕ) (a b : Bits) → length a ≡ w → length b ≡ w → val a ≡ val b → a ≡ b
val-one w a b m n e = sym (bits-val w a m) ∙ rw e (bits-val w b n)

one : (w : ℕ) (f : Bits → Bool) (x y : Found) → IsLeast w f x → IsLeast w f y → x ≡ y
one w f (found a) (found b) (m, e, h) (n, g, k) = go (dec_lt (val a) (val b)) (dec_lt (val b) (val a))
  where
    go : Dec (val a < val b) → Dec (val b < val a) → found a ≡ found b
    go (yes i) j = absurd (false≢true (sym (k a m i) ∙ e))
    go (no i) (yes j) = absurd (false≢true (sym (h b n j) ∙ g))
    go (no i) (no j) = ap found (val-one w a b m n (omega arith))
one w f (found a) missing (m, e, h) k = absurd (false≢true (sym (k a m) ∙ e))
one w f missing (found b) h (n, g, k) = absurd (false≢true (sym (h b n) ∙ g))
one w f missing missing h k = refl

pub least-is : (w : ℕ) (f : Bits → Bool) (x : Found) → IsLeast w f x → least w f ≡ x
least-is w f x i = one w f (least w f) x (is-least w f) i
