-- Words that agree, counted and in blocks: one word more, and one block behind another. Assumes nothing.
use mathlib.Core.Bool.{Bool, true, false, cond, not}
use mathlib.Core.List.{List}
use mathlib.Core.Path.{◌≡◌, refl, ap, sym, ◌∙◌}
use Prim.Native.Nat.{ℕ, ◌+◌, ◌-◌, ◌*◌, ◌≤◌}
use native.Mathlib.Nat.{mul-add, mul-le-mul_right}
use native.Mathlib.Decide.{ℕ_discrete}
use native.Mathlib.Omega.{arith}
use lib.Dec.{eqb, ltb}
use lib.ListN.{length, get_or}
use borrow.Author.Count.{below_more}
use borrow.Author.Tests.{eq-eqb, ne_eqb, ltb-true, ltb-false}
use Rattle.std.specs.Int.{from_bool}
use Rattle.pool_state.specs.Steps.{spot_by}
use Rattle.compare.specs.Rules.{Agree, Nodes}

-- the number of a test that two words differ
pub from-other : (t : Bool) {c : ℕ} → c ≡ from_bool (not t) → c ≡ cond t 0 1
from-other true e = e
from-other false e = e

pub few : (t : Bool) {c : ℕ} → c ≡ cond t 0 1 → c ≤ 1
few true e = omega arith
few false e = omega arith

module _ (w : List ℕ) (p q : ℕ) where
  -- count tells of k words, and c of the next
  pub counted : (k count : ℕ) {c : ℕ} → c ≡ cond (eqb (get_or w (p + k) 0) (get_or w (q + k) 0)) 0 1 → Agree w p q k (eqb count 0) → Agree w p q (k + 1) (eqb (count + c) 0)
  counted k count {c} e h = go (ℕ_discrete count 0) (ℕ_discrete (get_or w (p + k) 0) (get_or w (q + k) 0))
    where
      go : Dec (count ≡ 0) → Dec (get_or w (p + k) 0 ≡ get_or w (q + k) 0) → Agree w p q (k + 1) (eqb (count + c) 0)
      go (yes z) (yes s) =
          let r = rw (eq-eqb (get_or w (p + k) 0) (get_or w (q + k) 0) s) at e in
          rw (eq-eqb (count + c) 0 (omega arith)) (below_more _ _ (rw (eq-eqb count 0 z) at h) s)
      go (yes z) (no s) =
          let r = rw (ne_eqb (get_or w (p + k) 0) (get_or w (q + k) 0) s) at e in
          rw (ne_eqb (count + c) 0 (omega arith)) (k, omega arith, s)
      go (no nz) s =
          let (j, l, ne) = rw (ne_eqb count 0 nz) at h in
          rw (ne_eqb (count + c) 0 (omega arith)) (j, omega arith, ne)

  moved : (o k j : ℕ) → get_or w (o + k + j) 0 ≡ get_or w (o + (k + j)) 0
  moved o k j = let e : o + k + j ≡ o + (k + j) = omega arith in ap (λ y. get_or w y 0) e

  -- k words agree, and the m behind them do or do not
  pub joined : (k m : ℕ) → Agree w p q k true → Agree w (p + k) (q + k) m true → Agree w p q (k + m) true
  joined k m f g j l = go (ltb j k) refl
    where
      go : (t : Bool) → ltb j k ≡ t → get_or w (p + j) 0 ≡ get_or w (q + j) 0
      go true e = f j (ltb-true j k e)
      go false e =
          let le = ltb-false j k e in
          let at : k + (j - k) ≡ j = omega arith in
          rw at at (sym (moved p k (j - k)) ∙ g (j - k) (omega arith) ∙ moved q k (j - k))

  pub apart : (k m n : ℕ) → k + m ≤ n → Agree w (p + k) (q + k) m false → Agree w p q n false
  apart k m n le (j, l, ne) = (k + j, omega arith, λ e. ne (moved p k j ∙ e ∙ sym (moved q k j)))

  pub whole : (k n : ℕ) → k ≤ n → Agree w p q k true → (t : Bool) → Agree w (p + k) (q + k) (n - k) t → Agree w p q n t
  whole k n le f true g = let e : k + (n - k) ≡ n = omega arith in rw e at (joined k (n - k) f g)
  whole k n le f false g = apart k (n - k) n (omega arith) g

-- The words of n nodes from node i on, of s words each, are there where eight for each are, and they are few.
pub nodes-fit : (b i n : ℕ) {s m : ℕ} → s ≤ 8 → b + 8 * (i - 1 + n) ≤ m → spot_by s b i + s * n ≤ m
nodes-fit b i n {s} c le = omega (arith, mul-add s (i - 1) n, mul-le-mul_right (i - 1 + n) c)

pub nodes-few : (i n : ℕ) {s : ℕ} → s ≤ 8 → i - 1 + n ≤ 4194304 → s * (i - 1) + s * n ≤ 33554432
nodes-few i n {s} c le = omega (arith, mul-add s (i - 1) n, mul-le-mul_right (i - 1 + n) c)

module _ {w : List ℕ} {b s i j n : ℕ} (h : Nodes w b s i j n) where
  pub nodes-first : (spot_by s b i + s * n ≤ length w) × (s * (i - 1) + s * n ≤ 33554432)
  nodes-first = (nodes-fit b i n h.few h.fits, nodes-few i n h.few h.small)

  pub nodes-other : (spot_by s b j + s * n ≤ length w) × (s * (j - 1) + s * n ≤ 33554432)
  nodes-other = (nodes-fit b j n h.few h.within, nodes-few j n h.few h.little)
