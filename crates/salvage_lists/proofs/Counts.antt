-- The counts of a salvage: what is left and what is dropped as covered are all entries in range; those and the ones with a length out of range are all entries. Assumes nothing.
use mathlib.Core.Bool.{Bool, true, false, not, cond, ◌&&◌, ◌||◌, and-true}
use mathlib.Core.List.{List, [], ◌∷◌, ◌++◌, append_assoc}
use mathlib.Core.Path.{◌≡◌, refl, ap, sym, ◌∙◌}
use Prim.Native.Nat.{ℕ, zero, suc, ◌+◌, ◌≤◌}
use native.Mathlib.Nat.{zero-add, add-zero, suc-add}
use native.Mathlib.Omega.{arith}
use borrow.Author.Tests.{le-leb, leb-true, le-ltb, not-true}
use lib.Dec.{leb}
use lib.ListN.{length, length-append}
use Rattle.nets.specs.Bits.{Bits, equal, before, digit}
use Rattle.nets.specs.Lists.{any_of, member, within, keep, insert_in, in_order, is_list}
use Rattle.nets.specs.Networks.{width, net_bits, has_bit_past}
use Rattle.nets.proofs.Strings.{and_left, and_right, equal-refl, equal_is}
use Rattle.nets.proofs.Order.{key, From, equal-not, before-lt, from-not, from-in_order, member-in_order, unique}
use Rattle.nets.proofs.Members.{any_of-append, member-keep}
use Rattle.setfile_format.specs.Files.{entry_net, is_clean, are_clean, networks_in}
use Rattle.setfile_format.proofs.FileOrder.{network_at-within}
use Rattle.salvage_lists.specs.Salvaging.{is_long, in_range_in, long_in, trimmed_in, is_inside, covered_of, covered_in, outermost}
use Rattle.salvage_lists.proofs.Left.{within-members, outermost-list}

-- One more, unless it is there.
length-insert_in : (lo : ℕ) (n : Bits) (l : List Bits) → From lo l → length (insert_in n l) + digit (member n l) ≡ suc (length l)
length-insert_in lo n [] i = refl
length-insert_in lo n (m ∷ l) i = go (before n m) refl (equal n m) refl (length-insert_in (suc (key m)) n l i.1)
  where
    go : (b : Bool) → before n m ≡ b → (c : Bool) → equal n m ≡ c → length (insert_in n l) + digit (member n l) ≡ suc (length l)
        → length (cond b (n ∷ m ∷ l) (cond c (m ∷ l) (m ∷ insert_in n l))) + digit (c || member n l) ≡ suc (suc (length l))
    go true e c f ih =
        let h = before-lt n m e in
        let z : c ≡ false = sym f ∙ equal-not n m (omega arith) in
        rw (z, from-not (suc (key m)) n l i.1 (omega arith)) (omega arith)
    go false e true f ih = omega arith
    go false e false f ih = omega arith

length-in_order : (n : Bits) (l : List Bits) → length (in_order (n ∷ l)) + digit (member n l) ≡ suc (length (in_order l))
length-in_order n l = ap (λ b. length (insert_in n (in_order l)) + digit b) (sym (member-in_order n l)) ∙ length-insert_in 0 n (in_order l) (from-in_order l)

-- Entry by entry: those kept of the ones seen, and of all.
acc : List Bits → List Bits → List Bits
acc [] seen = seen
acc (p ∷ l) seen = acc l (p ∷ seen)

member-acc : (q : Bits) (l seen : List Bits) → member q (acc l seen) ≡ (member q l || member q seen)
unfolding acc
member-acc q [] seen = refl
member-acc q (p ∷ l) seen = member-acc q l (p ∷ seen) ∙ swap (member q l) (equal q p) (member q seen)
  where
    swap : (x y z : Bool) → (x || (y || z)) ≡ ((y || x) || z)
    swap true true z = refl
    swap true false z = refl
    swap false true z = refl
    swap false false z = refl

module _ (all : List Bits) where
  abbrev outer : Bits → Bool
  outer p = not (is_inside all p)

  covered-length : (l seen : List Bits) → length (in_order (keep outer (acc l seen))) + covered_of all seen l ≡ length (in_order (keep outer seen)) + length l
  unfolding covered_of acc
  covered-length [] seen = refl
  covered-length (p ∷ l) seen = go (is_inside all p) refl (covered-length l (p ∷ seen))
    where
      go : (b : Bool) → is_inside all p ≡ b
          → length (in_order (keep outer (acc l (p ∷ seen)))) + covered_of all (p ∷ seen) l ≡ length (in_order (cond (not b) (p ∷ keep outer seen) (keep outer seen))) + length l
          → length (in_order (keep outer (acc l (p ∷ seen)))) + (digit (b || member p seen) + covered_of all (p ∷ seen) l) ≡ length (in_order (keep outer seen)) + suc (length l)
      go true e ih = omega arith
      go false e ih =
          let k : member p (keep outer seen) ≡ member p seen = member-keep outer p seen ∙ rw e (and-true (member p seen)) in
          let n = rw k at (length-in_order p (keep outer seen)) in
          omega (arith, ih, n)

pub covered-outermost : (l : List Bits) → length (outermost l) + covered_in l ≡ length l
unfolding outermost covered_in
covered-outermost l =
    let f : Bits → Bool = λ p. not (is_inside l p) in
    let e : in_order (keep f (acc l [])) ≡ in_order (keep f l) =
    unique 0 0 (in_order (keep f (acc l []))) (in_order (keep f l)) (from-in_order (keep f (acc l []))) (from-in_order (keep f l))
    (λ q. member-in_order q (keep f (acc l [])) ∙ member-keep f q (acc l []) ∙ rw (member-acc q l [], or-none (member q l)) (sym (member-keep f q l) ∙ sym (member-in_order q (keep f l)))) in
    omega (arith, rw e at (covered-length l l []))
  where
    or-none : (b : Bool) → (b || false) ≡ b
    or-none true = refl
    or-none false = refl

pub covered-list : (w : ℕ) (l : List Bits) → is_list w l ≡ true → covered_in l ≡ 0
covered-list w l e = omega (arith, covered-outermost l, ap length (outermost-list w l e))

-- The entries of a run in two parts.
module _ (f : ℕ) (d : List ℕ) where
  pub in_range_in-append : (i j k : ℕ) → in_range_in f d i (j + k) ≡ in_range_in f d i j ++ in_range_in f d (i + j) k
  unfolding in_range_in
  in_range_in-append i zero k = rw (zero-add k, add-zero i)
  in_range_in-append i (suc j) k = let e : i + suc j ≡ suc i + j = omega arith in rw (suc-add j k, e, in_range_in-append (suc i) j k) (go (is_long (entry_net f d i)))
    where
      go : (b : Bool) → cond b (in_range_in f d (suc i) j ++ in_range_in f d (suc i + j) k) (net_bits (entry_net f d i) ∷ (in_range_in f d (suc i) j ++ in_range_in f d (suc i + j) k))
          ≡ cond b (in_range_in f d (suc i) j) (net_bits (entry_net f d i) ∷ in_range_in f d (suc i) j) ++ in_range_in f d (suc i + j) k
      go true = refl
      go false = refl

  pub long_in-append : (i j k : ℕ) → long_in f d i (j + k) ≡ long_in f d i j + long_in f d (i + j) k
  unfolding long_in
  long_in-append i zero k = rw (zero-add k, add-zero i) (sym (zero-add (long_in f d i k)))
  long_in-append i (suc j) k = let e : i + suc j ≡ suc i + j = omega arith in rw (suc-add j k, e, long_in-append (suc i) j k) (omega arith)

  pub trimmed_in-append : (i j k : ℕ) → trimmed_in f d i (j + k) ≡ trimmed_in f d i j + trimmed_in f d (i + j) k
  unfolding trimmed_in
  trimmed_in-append i zero k = rw (zero-add k, add-zero i) (sym (zero-add (trimmed_in f d i k)))
  trimmed_in-append i (suc j) k = let e : i + suc j ≡ suc i + j = omega arith in rw (suc-add j k, e, trimmed_in-append (suc i) j k) (omega arith)

  -- in range, or not
  pub length-in_range_in : (i k : ℕ) → length (in_range_in f d i k) + long_in f d i k ≡ k
  unfolding in_range_in long_in
  length-in_range_in i zero = refl
  length-in_range_in i (suc k) = go (is_long (entry_net f d i)) (length-in_range_in (suc i) k)
    where
      go : (b : Bool) → length (in_range_in f d (suc i) k) + long_in f d (suc i) k ≡ k
          → length (cond b (in_range_in f d (suc i) k) (net_bits (entry_net f d i) ∷ in_range_in f d (suc i) k)) + (digit b + long_in f d (suc i) k) ≡ suc k
      go true ih = omega arith
      go false ih = omega arith

  pub within-in_range_in : (i k : ℕ) → within (width f) (in_range_in f d i k) ≡ true
  unfolding in_range_in
  within-in_range_in i zero = refl
  within-in_range_in i (suc k) = go (is_long (entry_net f d i)) (within-in_range_in (suc i) k)
    where
      go : (b : Bool) → within (width f) (in_range_in f d (suc i) k) ≡ true → within (width f) (cond b (in_range_in f d (suc i) k) (net_bits (entry_net f d i) ∷ in_range_in f d (suc i) k)) ≡ true
      go true ih = ih
      go false ih = rw (le-leb (length (net_bits (entry_net f d i))) (width f) (network_at-within f d i)) ih

  -- Where all are clean none is long and none is trimmed.
  clean-long : (i : ℕ) → is_clean (entry_net f d i) ≡ true → (is_long (entry_net f d i) ≡ false) × (has_bit_past (entry_net f d i) ≡ false)
  unfolding is_clean is_long
  clean-long i e =
      let n = entry_net f d i in
      let a = leb n.len (width n.family) in (
        le-ltb (width n.family) n.len (leb-true n.len (width n.family) (and_left a (not (has_bit_past n)) e)),
        not-true (has_bit_past n) (and_right a (not (has_bit_past n)) e),
      )

  pub clean-in_range_in : (i k : ℕ) → are_clean f d i k ≡ true → (in_range_in f d i k ≡ networks_in f d i k) × (long_in f d i k ≡ 0) × (trimmed_in f d i k ≡ 0)
  unfolding in_range_in long_in trimmed_in networks_in are_clean
  clean-in_range_in i zero e = (refl, refl, refl)
  clean-in_range_in i (suc k) e =
      let c = clean-long i (and_left (is_clean (entry_net f d i)) (are_clean f d (suc i) k) e) in
      let r = clean-in_range_in (suc i) k (and_right (is_clean (entry_net f d i)) (are_clean f d (suc i) k) e) in
      (rw (c.0, r.0), rw (c.0, r.1), rw (c.0, c.1, r.2))
