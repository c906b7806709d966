-- The answer for two files, test by test: what `check` says of each, and whether their families are one. Assumes nothing.
use mathlib.Core.List.{List}
use mathlib.Core.Path.{◌≡◌, refl}
use Prim.Native.Nat.{ℕ}
use borrow.Author.Tests.{eq-eqb, ne_eqb}
use Rattle.std.specs.Prelude.{Err}
use Rattle.nets.specs.Bits.{Bits}
use Rattle.nets.specs.declared.Refusal.TheVariants.{BadFile, WrongFamily}
use Rattle.setfile_format.specs.Files.{File, broken, file}
use Rattle.setfile_compare.specs.Comparing.{Values, compared_as, verdict, compare_rules, compared}

pub refuse-first : (x y : File) → x ≡ broken → compared_as (Err BadFile) ≡ compared x y
unfolding compared compare_rules
refuse-first x y e = rw e

pub refuse-second : (x y : File) → y ≡ broken → compared_as (Err BadFile) ≡ compared x y
unfolding compared compare_rules
refuse-second broken y e = refl
refuse-second (file f l) y e = rw e

module _ (x y : File) (f g : ℕ) (l m : List Bits) (h : x ≡ file f l) (k : y ≡ file g m) where
  pub refuse-family : (f ≡ g → ⊥) → compared_as (Err WrongFamily) ≡ compared x y
  unfolding compared compare_rules
  refuse-family n = rw (h, k, ne_eqb f g n)

pub same-family : {x : File} {f g : ℕ} {m : List Bits} → f ≡ g → x ≡ file g m → x ≡ file f m
same-family e k = cc

pub answer : (x y : File) (f : ℕ) (l m : List Bits) (z : ℕ × Values) → x ≡ file f l → y ≡ file f m → z ≡ (0, verdict f l m) → z ≡ compared x y
unfolding compared compare_rules
answer x y f l m z h k e = rw (h, k, eq-eqb f f refl) e
