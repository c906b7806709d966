-- The networks of a range are what lies between its edges: the address in front of the first, and the one behind the last, which is zero where the range ends at the last address. Assumes nothing.
use mathlib.Core.Bool.{Bool, true, false, not, cond, ◌&&◌, ◌||◌, and-true, false≢true}
use mathlib.Core.List.{List, [], ◌∷◌, ◌++◌, append-nil}
use mathlib.Core.Path.{◌≡◌, refl, ap, ap₂, sym, ◌∙◌}
use Prim.Native.Nat.{ℕ, zero, suc, ◌+◌, ◌-◌, ◌%◌, ◌^◌, ◌≤◌, ◌<◌}
use native.Mathlib.Decide.{ℕ_discrete, dec_lt}
use native.Mathlib.Nat.{mod-eq_of_lt, mod_self}
use native.Mathlib.Omega.{arith}
use lib.Dec.{eqb, leb, ltb}
use lib.ListN.{length}
use borrow.Author.Tests.{lt-ltb, le-ltb, le-leb, lt-leb, eq-eqb, ne_eqb}
use Rattle.nets.specs.Bits.{Bits, equal, val, bits}
use Rattle.nets.specs.Tries.{Trie, bare, levels, level, covers_t}
use Rattle.nets.proofs.Order.{val-high}
use Rattle.nets.proofs.Numbers.{length-bits, val-bits}
use Rattle.nets.proofs.Simplifying.{Simple, simple-one}
use Rattle.ranges.specs.Ranges.{range, holds}
use Rattle.ranges.specs.Blocks.{range_t}
use Rattle.ranges.proofs.InBlocks.{levels-range, simple-range, covers-range, range-whole}
use Rattle.setfile_range.specs.Edges.{beyond, between, opened, aside, aside_of, asides, parted}
use Rattle.setfile_range.proofs.Asides.{level-leaf, level-zero, leaf-beyond, leaf-between, level-beyond, level-between, covers-beyond, covers-between, simple-beyond, simple-between, levels-beyond, levels-between}

apart-both : (z : Bool) (l m : List Bits) → cond z (l ++ m) [] ≡ cond z l [] ++ cond z m []
apart-both true l m = refl
apart-both false l m = refl

-- A level of what lies between the edges.
pub level-opened : (l r : Bool) (p q : Bits) (c d : Bool) (x y : Bits) → length p ≡ length q → length x ≡ length y
    → (l ≡ true → r ≡ true → ltb (val (p ++ (c ∷ x))) (val (q ++ (d ∷ y))) ≡ true)
    → level bare (suc (length p)) (opened l r (p ++ (c ∷ x)) (q ++ (d ∷ y))) ≡ asides (parted l r p q) l r p q c d
unfolding asides aside_of
level-opened false false p q c d x y e g h = level-leaf (length p)
level-opened false true p q c d x y e g h = ap (λ k. level bare (suc k) (beyond true (q ++ (d ∷ y)))) e ∙ level-beyond true q d y
level-opened true false p q c d x y e g h = level-beyond false p c x ∙ sym (append-nil (aside false p c))
level-opened true true p q c d x y e g h = level-between p q c d x y e g (h refl refl) ∙ apart-both (not (equal p q)) (aside false p c) (aside true q d)

-- the one of no bits: only where no edge is there
pub level-start : (l r : Bool) (p q : Bits) → level bare zero (opened l r p q) ≡ cond (l || r) [] ([] ∷ [])
level-start false false p q = refl
level-start false true p q = level-zero (beyond true q) (leaf-beyond true q)
level-start true false p q = level-zero (beyond false p) (leaf-beyond false p)
level-start true true p q = level-zero (between p q) (leaf-between p q)

pub levels-opened : (l r : Bool) (p q : Bits) → length p ≡ length q → levels (opened l r p q) ≤ suc (length p)
unfolding levels
levels-opened false false p q e = omega arith
levels-opened false true p q e = omega (arith, levels-beyond true q)
levels-opened true false p q e = levels-beyond false p
levels-opened true true p q e = levels-between p q e

-- The edges of the range from a to b in w bits.
module _ (w a b : ℕ) (le : a ≤ b) (high : b < 2 ^ w) where
  abbrev left_of : Bits
  left_of = bits w (a - 1)

  abbrev right_of : Bits
  right_of = bits w ((b + 1) % 2 ^ w)

  left-val : val left_of ≡ a - 1
  left-val = val-bits w (a - 1) ∙ mod-eq_of_lt (omega arith)

  right-val : b + 1 < 2 ^ w → val right_of ≡ b + 1
  right-val h = let e : (b + 1) % 2 ^ w ≡ b + 1 = mod-eq_of_lt h in val-bits w ((b + 1) % 2 ^ w) ∙ rw e e

  wraps : b + 1 ≡ 2 ^ w → (b + 1) % 2 ^ w ≡ 0
  wraps h = rw h (mod_self (2 ^ w))

  -- what they say of an address of the width
  module _ (x : Bits) (n : length x ≡ w) where
    below : val x < 2 ^ w
    below = rw n at (val-high x)

    from : (a ≡ 0 → ⊥) → ltb (val left_of) (val x) ≡ leb a (val x)
    from h = rw left-val (go (dec_lt (val x) a))
      where
        go : Dec (val x < a) → ltb (a - 1) (val x) ≡ leb a (val x)
        go (yes k) = le-ltb (a - 1) (val x) (omega arith) ∙ sym (lt-leb a (val x) k)
        go (no k) = lt-ltb (a - 1) (val x) (omega arith) ∙ sym (le-leb a (val x) (omega arith))

    to : b + 1 < 2 ^ w → ltb (val x) (val right_of) ≡ leb (val x) b
    to h = rw (right-val h) (go (dec_lt b (val x)))
      where
        go : Dec (b < val x) → ltb (val x) (b + 1) ≡ leb (val x) b
        go (yes k) = le-ltb (val x) (b + 1) (omega arith) ∙ sym (lt-leb (val x) b k)
        go (no k) = lt-ltb (val x) (b + 1) (omega arith) ∙ sym (le-leb (val x) b (omega arith))

  -- the networks are what lies between them
  simply : (t : Trie) → Simple t → levels t ≤ suc w → ((x : Bits) → length x ≡ w → covers_t t x ≡ holds (range a b) (val x)) → range_t w 0 (range a b) ≡ t
  simply t s h e =
      simple-one (range_t w 0 (range a b)) t w (simple-range w 0 (range a b)) s (levels-range w 0 (range a b)) h
      (λ x n. let z : 0 + val x ≡ val x = omega arith in covers-range w 0 (range a b) x n ∙ ap (holds (range a b)) z ∙ sym (e x n))

  left-length : length left_of ≡ w
  left-length = length-bits w (a - 1)

  right-length : length right_of ≡ w
  right-length = length-bits w ((b + 1) % 2 ^ w)

  range-left : (a ≡ 0 → ⊥) → b + 1 ≡ 2 ^ w → range_t w 0 (range a b) ≡ beyond false left_of
  range-left h g =
      simply (beyond false left_of) (simple-beyond false left_of) (omega (arith, levels-beyond false left_of, left-length))
      (λ x n. covers-beyond false left_of x (left-length ∙ sym n) ∙ from x n h ∙ sym (ap (λ z. leb a (val x) && z) (le-leb (val x) b (omega (arith, below x n))) ∙ and-true (leb a (val x))))

  range-right : a ≡ 0 → b + 1 < 2 ^ w → range_t w 0 (range a b) ≡ beyond true right_of
  range-right h g =
      simply (beyond true right_of) (simple-beyond true right_of) (omega (arith, levels-beyond true right_of, right-length))
      (λ x n. covers-beyond true right_of x (right-length ∙ sym n) ∙ to x n g ∙ sym (ap (λ z. z && leb (val x) b) (le-leb a (val x) (omega arith))))

  range-both : (a ≡ 0 → ⊥) → b + 1 < 2 ^ w → range_t w 0 (range a b) ≡ between left_of right_of
  range-both h g =
      simply (between left_of right_of) (simple-between left_of right_of) (omega (arith, levels-between left_of right_of (left-length ∙ sym right-length), left-length))
      (λ x n. covers-between left_of right_of x (left-length ∙ sym n) (right-length ∙ sym n) ∙ ap₂ ◌&&◌ (from x n h) (to x n g))

  pub range-opened : range_t w 0 (range a b) ≡ opened (not (eqb a 0)) (not (eqb ((b + 1) % 2 ^ w) 0)) left_of right_of
  range-opened = go (ℕ_discrete a 0) (dec_lt (b + 1) (2 ^ w))
    where
      go : Dec (a ≡ 0) → Dec (b + 1 < 2 ^ w) → range_t w 0 (range a b) ≡ opened (not (eqb a 0)) (not (eqb ((b + 1) % 2 ^ w) 0)) left_of right_of
      go (yes h) (yes g) =
          let e : (b + 1) % 2 ^ w ≡ b + 1 = mod-eq_of_lt g in
          range-right h g ∙ rw (eq-eqb a 0 h, ne_eqb ((b + 1) % 2 ^ w) 0 (omega arith))
      go (yes h) (no g) = range-whole w 0 (range a b) (record { begins = omega arith; ends = omega arith }) ∙ rw (eq-eqb a 0 h, eq-eqb ((b + 1) % 2 ^ w) 0 (wraps (omega arith)))
      go (no h) (yes g) =
          let e : (b + 1) % 2 ^ w ≡ b + 1 = mod-eq_of_lt g in
          range-both h g ∙ rw (ne_eqb a 0 h, ne_eqb ((b + 1) % 2 ^ w) 0 (omega arith))
      go (no h) (no g) = range-left h (omega arith) ∙ rw (ne_eqb a 0 h, eq-eqb ((b + 1) % 2 ^ w) 0 (wraps (omega arith)))

  -- where both are there the left one is the smaller
  pub edges-apart : not (eqb a 0) ≡ true → not (eqb ((b + 1) % 2 ^ w) 0) ≡ true → ltb (val left_of) (val right_of) ≡ true
  edges-apart h g = rw left-val (go (dec_lt (b + 1) (2 ^ w)))
    where
      go : Dec (b + 1 < 2 ^ w) → ltb (a - 1) (val right_of) ≡ true
      go (yes k) = rw (right-val k) (lt-ltb (a - 1) (b + 1) (omega arith))
      go (no k) = absurd (false≢true (sym (ap not (eq-eqb ((b + 1) % 2 ^ w) 0 (wraps (omega arith)))) ∙ g))
