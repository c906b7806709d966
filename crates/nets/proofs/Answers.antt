-- Answers by the table: the number says which refusal it is, so an answer's number and values say which answer it is. Assumes nothing.
use mathlib.Core.Bool.{Bool, true, false, cond, ◌&&◌}
use mathlib.Core.List.{[], ◌∷◌}
use mathlib.Core.Path.{◌≡◌, refl, ap, sym, ◌∙◌}
use Prim.Native.Nat.{ℕ}
use native.Mathlib.Omega.{arith}
use lib.ListN.{get_or}
use borrow.Author.Tests.{ne_eqb}
use Rattle.nets.specs.Refusals.{number, answered}
use Rattle.nets.specs.Networks.{is_family, in_range, refusal_of, no_net, taken_as, judged, with_len, with_len_no, entered_as, no_bits, start_of, prefix_as, next_as, next_of}
use Rattle.nets.specs.declared.Refusal.{Refusal}
use Rattle.nets.specs.declared.Refusal.TheVariants.{BadSetup, Damaged, NoSet, BadText, BadFile, WrongFamily, BadNetwork, Occupied, OverLimit, NoRoom, ShortBuffer, BadRange, BadShare, NotPublic}
use Rattle.nets.specs.declared.Net.{Net}
use Rattle.nets.specs.declared.PrefixBits.{PrefixBits}
use Rattle.std.specs.Prelude.{Result, Option, Ok, Err, Some, None}

-- the refusal of a number: none is numbered 0
named : ℕ → Option Refusal
named n =
    get_or
    (None ∷ Some BadSetup ∷ Some Damaged ∷ Some NoSet ∷ Some BadText ∷ Some BadFile ∷ Some WrongFamily ∷ Some BadNetwork ∷ Some Occupied ∷ Some OverLimit ∷ Some NoRoom ∷ Some ShortBuffer ∷ Some BadRange ∷ Some BadShare ∷ Some NotPublic ∷ [])
    n
    None

named-number : (r : Refusal) → named (number r) ≡ Some r
unfolding named
named-number BadSetup = refl
named-number Damaged = refl
named-number NoSet = refl
named-number BadText = refl
named-number BadFile = refl
named-number WrongFamily = refl
named-number BadNetwork = refl
named-number Occupied = refl
named-number OverLimit = refl
named-number NoRoom = refl
named-number ShortBuffer = refl
named-number BadRange = refl
named-number BadShare = refl
named-number NotPublic = refl

pub number-one : (r s : Refusal) → number r ≡ number s → r ≡ s
number-one r s e = let h = named-number r in let k = named-number s in cc

pub number-some : (r : Refusal) → number r ≡ 0 → ⊥
unfolding named
number-some r e = let h : None ≡ Some r = ap named (sym e) ∙ named-number r in let z : ◌≡◌ {A = ℕ} 0 1 = cc in omega arith

-- What is granted, a network or bits that are, and a refusal, which is the same with any value.
pub answered-granted : {A : Type 0} (k : ℕ) (z v a : A) → (0, a) ≡ answered k z v → (k ≡ 0) × (a ≡ v)
answered-granted k z v a e = let h : k ≡ 0 = sym (ap (λ p. p.0) e) in (h, rw h at (ap (λ p. p.1) e))

pub taken-network : (t : Result Net Refusal) (k : ℕ) (v m : Net) → taken_as t ≡ answered k no_net v → t ≡ Ok m → (k ≡ 0) × (m ≡ v)
taken-network t k v m e h = answered-granted k no_net v m (sym (ap taken_as h) ∙ e)

pub taken_refused : {A : Type 0} (t : Result Net Refusal) (k : ℕ) (v : Net) (r : Refusal) (z a : A) → taken_as t ≡ answered k no_net v → t ≡ Err r → (number r, z) ≡ answered k z a
taken_refused t k v r z a e h =
    let q : k ≡ number r = ap (λ p. p.0) (sym e ∙ ap taken_as h) in
    rw (q, ne_eqb (number r) 0 (number-some r))

pub judged-network : (t : Result Net Refusal) (n m : Net) → taken_as t ≡ judged n → t ≡ Ok m → (refusal_of n ≡ 0) × (m ≡ n)
judged-network t n m e h = taken-network t (refusal_of n) n m e h

pub judged-refused : {A : Type 0} (t : Result Net Refusal) (n : Net) (r : Refusal) (z v : A) → taken_as t ≡ judged n → t ≡ Err r → (number r, z) ≡ answered (refusal_of n) z v
judged-refused t n r z v e h = taken_refused t (refusal_of n) n r z v e h

-- Another length: of a network it is refused as its result is, and what is no network is refused as it is.
pub with_len_no-net : (n : Net) (k : ℕ) → refusal_of n ≡ 0 → with_len_no n k ≡ refusal_of (with_len n k)
unfolding with_len_no refusal_of
with_len_no-net n k e = go (is_family n.family) (in_range n) e
  where
    go : (f r : Bool) → ◌≡◌ {A = ℕ} (cond f (cond r 0 7) 6) 0
        → ◌≡◌ {A = ℕ} (cond f (cond (r && in_range (with_len n k)) 0 7) 6) (cond f (cond (in_range (with_len n k)) 0 7) 6)
    go true true q = refl
    go true false q = absurd (omega arith)
    go false r q = refl

pub with_len_no-none : (n : Net) (k : ℕ) → (refusal_of n ≡ 0 → ⊥) → with_len_no n k ≡ refusal_of n
unfolding with_len_no refusal_of
with_len_no-none n k e = go (is_family n.family) (in_range n) e
  where
    go : (f r : Bool) → (◌≡◌ {A = ℕ} (cond f (cond r 0 7) 6) 0 → ⊥)
        → ◌≡◌ {A = ℕ} (cond f (cond (r && in_range (with_len n k)) 0 7) 6) (cond f (cond r 0 7) 6)
    go true true q = absurd (q refl)
    go true false q = refl
    go false r q = refl

pub prefix-bits : (n : Net) (p : Result PrefixBits Refusal) (s : PrefixBits) → prefix_as p ≡ answered (refusal_of n) no_bits (start_of n) → p ≡ Ok s → (refusal_of n ≡ 0) × (s ≡ start_of n)
prefix-bits n p s e h = answered-granted (refusal_of n) no_bits (start_of n) s (sym (ap prefix_as h) ∙ e)

pub prefix-refused : (n : Net) (p : Result PrefixBits Refusal) (x : Refusal) → prefix_as p ≡ answered (refusal_of n) no_bits (start_of n) → p ≡ Err x → refusal_of n ≡ number x
prefix-refused n p x e h = ap (λ y. y.0) (sym e ∙ ap prefix_as h)

pub taken_as-one : (r s : Result Net Refusal) → taken_as r ≡ taken_as s → r ≡ s
taken_as-one (Ok m) (Ok n) e = ap Ok (ap (λ p. p.1) e)
taken_as-one (Ok m) (Err y) e = absurd (number-some y (sym (ap (λ p. p.0) e)))
taken_as-one (Err x) (Ok n) e = absurd (number-some x (ap (λ p. p.0) e))
taken_as-one (Err x) (Err y) e = ap Err (number-one x y (ap (λ p. p.0) e))

pub entered_as-one : (r s : Result (Net × Bool) Refusal) → entered_as r ≡ entered_as s → r ≡ s
entered_as-one (Ok (m, a)) (Ok (n, b)) e = let x = ap (λ p. p.1.0) e in let y = ap (λ p. p.1.1) e in cc
entered_as-one (Ok (m, a)) (Err y) e = absurd (number-some y (sym (ap (λ p. p.0) e)))
entered_as-one (Err x) (Ok (n, b)) e = absurd (number-some x (ap (λ p. p.0) e))
entered_as-one (Err x) (Err y) e = ap Err (number-one x y (ap (λ p. p.0) e))

pub prefix_as-one : (r s : Result PrefixBits Refusal) → prefix_as r ≡ prefix_as s → r ≡ s
prefix_as-one (Ok m) (Ok n) e = ap Ok (ap (λ p. p.1) e)
prefix_as-one (Ok m) (Err y) e = absurd (number-some y (sym (ap (λ p. p.0) e)))
prefix_as-one (Err x) (Ok n) e = absurd (number-some x (ap (λ p. p.0) e))
prefix_as-one (Err x) (Err y) e = ap Err (number-one x y (ap (λ p. p.0) e))

pub next_as-one : (r s : Option (Bool × PrefixBits)) → next_as r ≡ next_as s → r ≡ s
next_as-one (Some (b, p)) (Some (d, q)) e = let x = ap (λ a. a.1.1.0) e in let y = ap (λ a. a.1.1.1) e in cc
next_as-one (Some (b, p)) None e = let h : true ≡ false = ap (λ a. a.1.0) e in let z : ◌≡◌ {A = ℕ} 0 1 = cc in absurd (omega arith)
next_as-one None (Some (d, q)) e = let h : false ≡ true = ap (λ a. a.1.0) e in let z : ◌≡◌ {A = ℕ} 0 1 = cc in absurd (omega arith)
next_as-one None None e = refl

pub next-determined : (s : PrefixBits) (r q : Option (Bool × PrefixBits)) → next_as r ≡ next_of s → next_as q ≡ next_of s → r ≡ q
next-determined s r q e h = next_as-one r q (e ∙ sym h)
