-- What an answer of `check` says of the file; and two answers of one file are one. Assumes nothing.
use mathlib.Core.List.{List}
use mathlib.Core.Path.{◌≡◌, refl, sym, ap, ◌∙◌}
use Prim.Native.Nat.{ℕ}
use native.Mathlib.Omega.{arith}
use Rattle.nets.specs.Bits.{Bits}
use Rattle.nets.specs.Lists.{nodes_l}
use Rattle.setfile_format.specs.Files.{File, broken, file, read_file}
use Rattle.setfile_order.specs.Flow.{checked_as, check_rule}
use Rattle.std.specs.Prelude.{Option, Some, None}

pub checked-broken : (x : File) {r : (Option (ℕ × ℕ))} → checked_as r ≡ check_rule x → r ≡ None → x ≡ broken
unfolding check_rule
checked-broken broken e q = refl
checked-broken (file f l) e q = let z : ◌≡◌ {A = ℕ} 5 0 = ap (λ p. p.0) (sym (ap checked_as q) ∙ e) in absurd (omega arith)

pub checked-file : (x : File) {r : (Option (ℕ × ℕ))} {f n : ℕ} → checked_as r ≡ check_rule x → r ≡ Some (f, n) → (l : List Bits) × (x ≡ file f l) × (n ≡ nodes_l l)
unfolding check_rule
checked-file broken e q = let z : ◌≡◌ {A = ℕ} 0 5 = ap (λ p. p.0) (sym (ap checked_as q) ∙ e) in absurd (omega arith)
checked-file (file g l) e q = let z = sym (ap checked_as q) ∙ e in (l, ap (λ h. file h l) (sym (ap (λ p. p.1.0) z)), ap (λ p. p.1.1) z)

checked_as-one : (r s : Option (ℕ × ℕ)) → checked_as r ≡ checked_as s → r ≡ s
checked_as-one (Some (f, n)) (Some (g, m)) e = let p : f ≡ g = ap (λ x. x.1.0) e in let q : n ≡ m = ap (λ x. x.1.1) e in cc
checked_as-one (Some (f, n)) None e = let z : ◌≡◌ {A = ℕ} 0 5 = ap (λ p. p.0) e in absurd (omega arith)
checked_as-one None (Some (g, m)) e = let z : ◌≡◌ {A = ℕ} 5 0 = ap (λ p. p.0) e in absurd (omega arith)
checked_as-one None None e = refl

pub check-determined : (d : List ℕ) (r s : Option (ℕ × ℕ)) → checked_as r ≡ check_rule (read_file d) → checked_as s ≡ check_rule (read_file d) → r ≡ s
check-determined d r s e f = checked_as-one r s (e ∙ sym f)
