-- Networks with no bits past their lengths: their bits and their order, by numbers. Assumes nothing.
use mathlib.Core.Bool.{Bool, true, false, or-false}
use mathlib.Core.Path.{◌≡◌, refl, sym, ◌∙◌}
use Prim.Native.Nat.{ℕ, ◌+◌, ◌-◌, ◌*◌, ◌^◌, ◌≤◌, ◌<◌}
use native.Mathlib.Nat.{mul-lt-mul_of_pos_right, mul-le-mul_right}
use native.Mathlib.Omega.{arith}
use native.Mathlib.Decide.{ℕ_discrete, dec_lt}
use lib.Dec.{ltb}
use lib.ListN.{length}
use lib.Pow.{pow_pos}
use borrow.Author.Tests.{eq-eqb, ne_eqb, lt-ltb, le-ltb, ltb-true, ltb-false}
use Rattle.std.specs.Prelude.{Option, Some}
use Rattle.std.specs.declared.cmp.Ordering.{Ordering}
use Rattle.std.specs.Ordering.{is_lt, is_some_and, nat_cmp, partial_ordering_then}
use Rattle.nets.specs.Bits.{val, before}
use Rattle.nets.specs.Networks.{width, value, address, net_bits}
use Rattle.nets.specs.declared.Net.{Net}
use Rattle.setfile_format.proofs.RoundTrip.{clean-len, clean-length, clean-high}
use Rattle.setfile_entries.specs.Entries.{Entry}

-- The bits of an entry, by its numbers.
module _ {f : ℕ} {n : Net} (h : Entry f n) where
  entry-range : address n < 2 ^ width n.family
  entry-range = rw h.family h.range

  entry-len : n.len ≤ width f
  entry-len = rw (← h.family) (clean-len n h.clean entry-range)

  entry_length : length (net_bits n) ≡ n.len
  entry_length = clean-length n h.clean entry-range

  entry-high : (k : ℕ) → n.len + k ≡ width f → val (net_bits n) * 2 ^ k ≡ address n
  entry-high k p = clean-high n h.clean entry-range k (rw h.family p)

-- The order of numbers that have no low bits.
ltb-high : (a b m : ℕ) → 0 < m → ltb a b ≡ ltb (a * m) (b * m)
ltb-high a b m z = go (ltb a b) refl
  where
    go : (t : Bool) → ltb a b ≡ t → ltb a b ≡ ltb (a * m) (b * m)
    go true e = e ∙ sym (lt-ltb (a * m) (b * m) (mul-lt-mul_of_pos_right (ltb-true a b e) z))
    go false e = e ∙ sym (le-ltb (a * m) (b * m) (mul-le-mul_right m (ltb-false a b e)))

-- The order of a list: the shorter first, then the smaller address.
module _ {f : ℕ} {x y : Net} (h : Entry f x) (g : Entry f y) where
  pub before-other : (x.len ≡ y.len → ⊥) → ltb x.len y.len ≡ before (net_bits x) (net_bits y)
  unfolding before
  before-other e = rw (entry_length h, entry_length g, ne_eqb x.len y.len e) (sym (or-false (ltb x.len y.len)))

  pub before_same : x.len ≡ y.len → ltb (address x) (address y) ≡ before (net_bits x) (net_bits y)
  unfolding before
  before_same e =
      let k = width f - x.len in
      let p = entry-high h k (omega (arith, entry-len h)) in
      let q = entry-high g k (omega (arith, entry-len h)) in
      rw (entry_length h, entry_length g, le-ltb x.len y.len (omega arith), eq-eqb x.len y.len e, ← p, ← q)
      (sym (ltb-high (val (net_bits x)) (val (net_bits y)) (2 ^ k) (pow_pos k)))

-- Addresses by their words.
module _ (hi lo hi' lo' : ℕ) (g : lo < 2 ^ 64) (l : lo' < 2 ^ 64) where
  pub value-other : (hi ≡ hi' → ⊥) → ltb hi hi' ≡ ltb (value hi lo) (value hi' lo')
  value-other e = go (ltb hi hi') refl
    where
      go : (t : Bool) → ltb hi hi' ≡ t → ltb hi hi' ≡ ltb (value hi lo) (value hi' lo')
      go true h = h ∙ sym (lt-ltb (value hi lo) (value hi' lo') (omega (arith, ltb-true hi hi' h)))
      go false h = h ∙ sym (le-ltb (value hi lo) (value hi' lo') (let z : hi' < hi = omega (arith, e, ltb-false hi hi' h) in omega arith))

  pub value_same : hi ≡ hi' → ltb lo lo' ≡ ltb (value hi lo) (value hi' lo')
  value_same e = go (ltb lo lo') refl
    where
      go : (t : Bool) → ltb lo lo' ≡ t → ltb lo lo' ≡ ltb (value hi lo) (value hi' lo')
      go true h = h ∙ sym (lt-ltb (value hi lo) (value hi' lo') (omega (arith, ltb-true lo lo' h)))
      go false h = h ∙ sym (le-ltb (value hi lo) (value hi' lo') (omega (arith, ltb-false lo lo' h)))

-- Numbers compared as parts of a tuple: those before decide, or else those behind.
module _ (a b : ℕ) where
  first-differs : (p : Option Ordering) → (a ≡ b → ⊥) → is_some_and is_lt (partial_ordering_then (Some (nat_cmp a b)) p) ≡ ltb a b
  first-differs p ne = go (dec_lt a b)
    where
      go : Dec (a < b) → is_some_and is_lt (partial_ordering_then (Some (nat_cmp a b)) p) ≡ ltb a b
      go (yes l) = rw (lt-ltb a b l)
      go (no g) = rw (le-ltb a b (omega arith), ne_eqb a b ne)

  firsts-differ : (p q : Option Ordering) → (a ≡ b → ⊥) → is_some_and is_lt (partial_ordering_then (partial_ordering_then (Some (nat_cmp a b)) p) q) ≡ ltb a b
  firsts-differ p q ne = go (dec_lt a b)
    where
      go : Dec (a < b) → is_some_and is_lt (partial_ordering_then (partial_ordering_then (Some (nat_cmp a b)) p) q) ≡ ltb a b
      go (yes l) = rw (lt-ltb a b l)
      go (no g) = rw (le-ltb a b (omega arith), ne_eqb a b ne)

  first-same : (p : Option Ordering) → a ≡ b → partial_ordering_then (Some (nat_cmp a b)) p ≡ p
  first-same p e = rw (le-ltb a b (omega arith), eq-eqb a b e)

  last-less : is_some_and is_lt (Some (nat_cmp a b)) ≡ ltb a b
  last-less = go (dec_lt a b)
    where
      go : Dec (a < b) → is_some_and is_lt (Some (nat_cmp a b)) ≡ ltb a b
      go (yes l) = rw (lt-ltb a b l)
      go (no g) = go' (ℕ_discrete a b)
        where
          go' : Dec (a ≡ b) → is_some_and is_lt (Some (nat_cmp a b)) ≡ ltb a b
          go' (yes e) = rw (le-ltb a b (omega arith), eq-eqb a b e)
          go' (no ne) = rw (le-ltb a b (omega arith), ne_eqb a b ne)

module _ {f : ℕ} {x y : Net} (h : Entry f x) (g : Entry f y) (s : x.lo < 2 ^ 64) (t : y.lo < 2 ^ 64) where
  abbrev by_parts : Bool
  by_parts = is_some_and is_lt (partial_ordering_then (partial_ordering_then (Some (nat_cmp x.len y.len)) (Some (nat_cmp x.hi y.hi))) (Some (nat_cmp x.lo y.lo)))

  pub parts-before : by_parts ≡ before (net_bits x) (net_bits y)
  parts-before = go (ℕ_discrete x.len y.len) (ℕ_discrete x.hi y.hi)
    where
      go : Dec (x.len ≡ y.len) → Dec (x.hi ≡ y.hi) → by_parts ≡ before (net_bits x) (net_bits y)
      go (no n) e = firsts-differ x.len y.len (Some (nat_cmp x.hi y.hi)) (Some (nat_cmp x.lo y.lo)) n ∙ before-other h g n
      go (yes e) (no n) = rw (first-same x.len y.len (Some (nat_cmp x.hi y.hi)) e)
          (first-differs x.hi y.hi (Some (nat_cmp x.lo y.lo)) n ∙ value-other x.hi x.lo y.hi y.lo s t n ∙ before_same h g e)
      go (yes e) (yes i) = rw (first-same x.len y.len (Some (nat_cmp x.hi y.hi)) e, first-same x.hi y.hi (Some (nat_cmp x.lo y.lo)) i)
          (last-less x.lo y.lo ∙ value_same x.hi x.lo y.hi y.lo s t i ∙ before_same h g e)
