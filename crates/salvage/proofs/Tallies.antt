-- Strays counted entry by entry. Assumes nothing.
use mathlib.Core.Bool.{Bool, true, false, not, ◌&&◌}
use mathlib.Core.List.{List}
use mathlib.Core.Path.{◌≡◌, refl, ap, sym, ◌∙◌}
use Prim.Native.Nat.{ℕ, zero, suc, ◌+◌, ◌≤◌, ◌<◌}
use native.Mathlib.Nat.{zero-add, add-zero}
use native.Mathlib.Omega.{arith}
use borrow.Author.Tests.{lt-ltb, le-ltb}
use Rattle.nets.specs.Bits.{digit}
use Rattle.nets.specs.Networks.{width, has_bit_past}
use Rattle.nets.specs.declared.Net.{Net}
use Rattle.setfile_format.specs.Files.{entry_net}
use Rattle.salvage_lists.specs.Salvaging.{is_long, long_in, trimmed_in}
use Rattle.salvage_lists.proofs.Counts.{long_in-append, trimmed_in-append, length-in_range_in}

module _ (x : Net) where
  abbrev Stray : ℕ → ℕ → Type 0
  Stray t l = (t ≡ digit (not (is_long x) && has_bit_past x)) × (l ≡ digit (is_long x))

  pub stray-long : {w : ℕ} → w ≡ width x.family → w < x.len → Stray 0 1
  unfolding is_long
  stray-long e h = rw (lt-ltb (width x.family) x.len (omega (arith, e))) (refl, refl)

  pub stray-trimmed : {w : ℕ} {b : Bool} → w ≡ width x.family → x.len ≤ w → b ≡ has_bit_past x → b ≡ true → Stray 1 0
  unfolding is_long
  stray-trimmed e h p q = rw (le-ltb (width x.family) x.len (omega (arith, e)), sym p ∙ q) (refl, refl)

  pub stray-none : {w : ℕ} {b : Bool} → w ≡ width x.family → x.len ≤ w → b ≡ has_bit_past x → b ≡ false → Stray 0 0
  unfolding is_long
  stray-none e h p q = rw (le-ltb (width x.family) x.len (omega (arith, e)), sym p ∙ q) (refl, refl)

module _ (f : ℕ) (d : List ℕ) (i : ℕ) {x : Net} (e : x ≡ entry_net f d i) where
  pub trimmed-next : {a b : ℕ} → a ≡ trimmed_in f d 0 i → b ≡ digit (not (is_long x) && has_bit_past x) → a + b ≡ trimmed_in f d 0 (i + 1)
  unfolding trimmed_in
  trimmed-next p q = rw (p, q, e) (sym (trimmed_in-append f d 0 i 1 ∙ rw (zero-add i) (ap (λ n. trimmed_in f d 0 i + n) (add-zero (digit (not (is_long (entry_net f d i)) && has_bit_past (entry_net f d i)))))))

  pub long-next : {a b : ℕ} → a ≡ long_in f d 0 i → b ≡ digit (is_long x) → a + b ≡ long_in f d 0 (i + 1)
  unfolding long_in
  long-next p q = rw (p, q, e) (sym (long_in-append f d 0 i 1 ∙ rw (zero-add i) (ap (λ n. long_in f d 0 i + n) (add-zero (digit (is_long (entry_net f d i)))))))

digit-le : (b : Bool) → digit b ≤ 1
digit-le true = omega arith
digit-le false = omega arith

-- no more than there are entries
pub trimmed-few : (f : ℕ) (d : List ℕ) (i k : ℕ) → trimmed_in f d i k ≤ k
unfolding trimmed_in
trimmed-few f d i zero = omega arith
trimmed-few f d i (suc k) = omega (arith, digit-le (not (is_long (entry_net f d i)) && has_bit_past (entry_net f d i)), trimmed-few f d (suc i) k)

pub long-few : (f : ℕ) (d : List ℕ) (i k : ℕ) → long_in f d i k ≤ k
long-few f d i k = omega (arith, length-in_range_in f d i k)
