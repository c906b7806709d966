-- Walks in a row of numbers, three for each, and the row of those that go on. Assumes nothing.
use mathlib.Core.List.{List}
use mathlib.Core.Path.{◌≡◌, ap, sym, ◌∙◌, subst}
use Prim.Native.Nat.{ℕ, ◌+◌, ◌-◌, ◌*◌, ◌<◌}
use native.Mathlib.Decide.{ℕ_discrete}
use native.Mathlib.Omega.{arith}
use lib.ListN.{length, get_or, set, length-set}
use lib.Seq.{get_or-set_same, get_or-set_other}
use Rattle.trie_lanes.specs.Lanes.{Goes, lane_at, keep_at, Wide, AllOn, AllGo, Moved, Live}
use Rattle.trie_lanes.specs.declared.Lane.{Lane}
use Rattle.trie_lanes.proofs.Going.{goes-stay, goes_twice}

-- Of three stores behind each other: what is read elsewhere, and there.
module _ (xs : List ℕ) (i j k x y z : ℕ) where
  abbrev three : List ℕ
  three = set (set (set xs i x) j y) k z

  length_three : length three ≡ length xs
  length_three = length-set (set (set xs i x) j y) k z ∙ length-set (set xs i x) j y ∙ length-set xs i x

  three-other : (m : ℕ) → (m ≡ i → ⊥) → (m ≡ j → ⊥) → (m ≡ k → ⊥) → get_or three m 0 ≡ get_or xs m 0
  three-other m p q r = get_or-set_other (set (set xs i x) j y) k m z 0 r ∙ get_or-set_other (set xs i x) j m y 0 q ∙ get_or-set_other xs i m x 0 p

  module _ (p : i < length xs) (q : j < length xs) (r : k < length xs) (ij : i < j) (jk : j < k) where
    three-first : get_or three i 0 ≡ x
    three-first = get_or-set_other (set (set xs i x) j y) k i z 0 (λ e. omega arith) ∙ get_or-set_other (set xs i x) j i y 0 (λ e. omega arith) ∙ get_or-set_same xs i x 0 p

    three-second : get_or three j 0 ≡ y
    three-second = get_or-set_other (set (set xs i x) j y) k j z 0 (λ e. omega arith) ∙ get_or-set_same (set xs i x) j y 0 (rw (length-set xs i x) q)

    three_third : get_or three k 0 ≡ z
    three_third = get_or-set_same (set (set xs i x) j y) k z 0 (rw (length-set (set xs i x) j y, length-set xs i x) r)

module _ (xs : List ℕ) (a : ℕ) (l : Lane) where
  pub wide-keep : Wide xs → Wide (keep_at xs a l)
  wide-keep h = record { is = length_three xs (3 * a) (3 * a + 1) (3 * a + 2) l.p l.word l.left ∙ h.is }

  pub keep_same : Wide xs → a < 32 → lane_at (keep_at xs a l) a ≡ l
  keep_same h lt =
      let p : 3 * a < length xs = omega (arith, h.is) in
      let q : 3 * a + 1 < length xs = omega (arith, h.is) in
      let r : 3 * a + 2 < length xs = omega (arith, h.is) in
      let ij : 3 * a < 3 * a + 1 = omega arith in
      let jk : 3 * a + 1 < 3 * a + 2 = omega arith in
      rw (
        three-first xs (3 * a) (3 * a + 1) (3 * a + 2) l.p l.word l.left p q r ij jk,
        three-second xs (3 * a) (3 * a + 1) (3 * a + 2) l.p l.word l.left p q r ij jk,
        three_third xs (3 * a) (3 * a + 1) (3 * a + 2) l.p l.word l.left p q r ij jk,
      )

  pub keep-other : (j : ℕ) → (j ≡ a → ⊥) → lane_at (keep_at xs a l) j ≡ lane_at xs j
  keep-other j ne =
      let o = three-other xs (3 * a) (3 * a + 1) (3 * a + 2) l.p l.word l.left in
      rw (
        o (3 * j) (λ e. ne (omega arith)) (λ e. omega arith) (λ e. omega arith),
        o (3 * j + 1) (λ e. omega arith) (λ e. ne (omega arith)) (λ e. omega arith),
        o (3 * j + 2) (λ e. omega arith) (λ e. omega arith) (λ e. ne (omega arith)),
      )

-- One walk goes on.
module _ (w : List ℕ) (b n : ℕ) where
  pub moved : (xs ys : List ℕ) (a : ℕ) (l m r : Lane) → Wide xs → a < 32 → l ≡ lane_at xs a → Goes w b n l m → Goes w b n m r → ys ≡ keep_at xs a r → Moved w b n a xs ys
  moved xs ys a l m r h lt e g k f = record {
    wide = subst Wide (sym f) (wide-keep xs a r h);
    goes = subst (Goes w b n (lane_at xs a)) (sym (ap (λ t. lane_at t a) f ∙ keep_same xs a r h lt)) (goes_twice w b n (lane_at xs a) m r (subst (λ t. Goes w b n t m) e g) k);
    others = λ j ne. ap (λ t. lane_at t j) f ∙ keep-other xs a r j ne;
  }

  pub all_stay : (e : ℕ) (xs : List ℕ) → AllOn b n e xs → AllGo w b n e xs xs
  all_stay e xs h = record { wide = h.wide; each = λ a lt. goes-stay w b n (lane_at xs a) (h.each a lt) }

  pub all-on : (e : ℕ) (xs ys : List ℕ) → AllOn b n e xs → AllGo w b n e xs ys → AllOn b n e ys
  all-on e xs ys h g = record { wide = g.wide; few = h.few; each = λ a lt. (g.each a lt).on }

  pub all-twice : (e : ℕ) (xs ys zs : List ℕ) → AllGo w b n e xs ys → AllGo w b n e ys zs → AllGo w b n e xs zs
  all-twice e xs ys zs g h = record { wide = h.wide; each = λ a lt. goes_twice w b n (lane_at xs a) (lane_at ys a) (lane_at zs a) (g.each a lt) (h.each a lt) }

  pub all_moved : (e : ℕ) (xs ys zs : List ℕ) (a : ℕ) → AllGo w b n e xs ys → Moved w b n a ys zs → AllGo w b n e xs zs
  all_moved e xs ys zs a g h = record { wide = h.wide; each = λ j lt. go j lt (ℕ_discrete j a) }
    where
      go : (j : ℕ) → j < e → Dec (j ≡ a) → Goes w b n (lane_at xs j) (lane_at zs j)
      go j lt (yes q) = goes_twice w b n (lane_at xs j) (lane_at ys j) (lane_at zs j) (g.each j lt) (subst (λ t. Goes w b n (lane_at ys t) (lane_at zs t)) (sym q) h.goes)
      go j lt (no q) = subst (Goes w b n (lane_at xs j)) (sym (h.others j q)) (g.each j lt)

-- The row of those that go on.
pub live-leave : (e k j : ℕ) (ys : List ℕ) → Live e k ys → j < k → Live e (k - 1) (set ys j (get_or ys (k - 1) 0))
live-leave e k j ys h lt = record { wide = length-set ys j (get_or ys (k - 1) 0) ∙ h.wide; few = omega (arith, h.few); each = λ i l. go i l (ℕ_discrete i j) }
  where
    go : (i : ℕ) → i < k - 1 → Dec (i ≡ j) → get_or (set ys j (get_or ys (k - 1) 0)) i 0 < e
    go i l (yes q) = rw (q, get_or-set_same ys j (get_or ys (k - 1) 0) 0 (omega (arith, h.wide, h.few))) (h.each (k - 1) (omega arith))
    go i l (no q) = rw (get_or-set_other ys j i (get_or ys (k - 1) 0) 0 q) (h.each i (omega arith))
