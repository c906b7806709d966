-- An answer's number and values say which answer it is: so each rule, a function of the words and the arguments, determines the answer. Assumes nothing.
use mathlib.Core.Bool.{false≢true, true≢false}
use mathlib.Core.List.{List}
use mathlib.Core.Path.{◌≡◌, refl, ap, sym, ◌∙◌}
use Prim.Native.Nat.{ℕ}
use Rattle.nets.specs.declared.Net.{Net}
use Rattle.nets.proofs.Answers.{number-one, number-some}
use Rattle.pool_state.specs.Rules.{told_as}
use Rattle.pool_state.proofs.Determined.{told_as-one}
use Rattle.lookup.specs.Rules.{lookup, sought, supernet_as, contains_as, member_of, is_member, supernet_rule, contains_rule, empty_rule}
use Rattle.trie_lookup.specs.declared.Shown.{Shown}
use Rattle.trie_lookup.specs.declared.Shown.TheVariants.{Member, Nothing, Refused}
use Rattle.lookup.specs.declared.Covering.{Covering}
use Rattle.lookup.specs.declared.Contained.{Contained}
use Rattle.std.specs.Prelude.{Result, Ok, Err, Option, Some, None, Bool}
use Rattle.nets.specs.declared.Refusal.{Refusal}

sought-one : (x y : Option Net) (s r : ℕ) (t u : Bool) → sought x s t ≡ sought y r u → (x ≡ y) × (s ≡ r) × (t ≡ u)
sought-one (Some m) (Some n) s r t u e = (ap Some (ap (λ p. p.1.0) e), ap (λ p. p.1.1.0) e, ap (λ p. p.1.1.1) e)
sought-one (Some m) None s r t u e = absurd (true≢false (ap (λ p. p.0) e))
sought-one None (Some n) s r t u e = absurd (false≢true (ap (λ p. p.0) e))
sought-one None None s r t u e = (refl, ap (λ p. p.1.1.0) e, ap (λ p. p.1.1.1) e)

abbrev covering-of : Option Net → ℕ → Bool → Covering
covering-of m s t = record { member = m; steps = s; cut = t }

same-covering : (a b : Covering) → sought a.member a.steps a.cut ≡ sought b.member b.steps b.cut → a ≡ b
same-covering a b e = let h = sought-one a.member b.member a.steps b.steps a.cut b.cut e in
    ap (λ z. covering-of z a.steps a.cut) h.0 ∙ ap (λ z. covering-of b.member z a.cut) h.1 ∙ ap (covering-of b.member b.steps) h.2

pub supernet_as-one : (r s : Result Covering Refusal) → supernet_as r ≡ supernet_as s → r ≡ s
supernet_as-one (Ok a) (Ok b) e = ap Ok (same-covering a b (ap (λ p. p.1) e))
supernet_as-one (Ok a) (Err y) e = absurd (number-some y (sym (ap (λ p. p.0) e)))
supernet_as-one (Err x) (Ok b) e = absurd (number-some x (ap (λ p. p.0) e))
supernet_as-one (Err x) (Err y) e = ap Err (number-one x y (ap (λ p. p.0) e))

abbrev contained-of : Bool → ℕ → Bool → Contained
contained-of m s t = record { is_member = m; steps = s; cut = t }

same-contained : (a b : Contained) → a.is_member ≡ b.is_member → a.steps ≡ b.steps → a.cut ≡ b.cut → a ≡ b
same-contained a b p q r = ap (λ z. contained-of z a.steps a.cut) p ∙ ap (λ z. contained-of b.is_member z a.cut) q ∙ ap (contained-of b.is_member b.steps) r

pub contains_as-one : (r s : Result Contained Refusal) → contains_as r ≡ contains_as s → r ≡ s
contains_as-one (Ok a) (Ok b) e = ap Ok (same-contained a b (ap (λ p. p.1.0) e) (ap (λ p. p.1.1.0) e) (ap (λ p. p.1.1.1) e))
contains_as-one (Ok a) (Err y) e = absurd (number-some y (sym (ap (λ p. p.0) e)))
contains_as-one (Err x) (Ok b) e = absurd (number-some x (ap (λ p. p.0) e))
contains_as-one (Err x) (Err y) e = ap Err (number-one x y (ap (λ p. p.0) e))

-- Two answers that a contract allows are one.
module _ (w : List ℕ) (k : ℕ) (n : Net) where
  pub supernet-one : (r s : Result Covering Refusal) → supernet_as r ≡ supernet_rule w k n → supernet_as s ≡ supernet_rule w k n → r ≡ s
  supernet-one r s e f = supernet_as-one r s (e ∙ sym f)

  pub contains-one : (r s : Result Contained Refusal) → contains_as r ≡ contains_rule w k n → contains_as s ≡ contains_rule w k n → r ≡ s
  contains-one r s e f = contains_as-one r s (e ∙ sym f)

pub empty-one : (w : List ℕ) (k : ℕ) (r s : Result Bool Refusal) → told_as r ≡ empty_rule w k → told_as s ≡ empty_rule w k → r ≡ s
empty-one w k r s e f = told_as-one r s (e ∙ sym f)

-- `contains` tells whether `supernet` finds a member, its steps and its report, on any words.
pub contains-supernet : (w : List ℕ) (k : ℕ) (n : Net) → contains_rule w k n ≡ ((supernet_rule w k n).0, ((supernet_rule w k n).1.0, (supernet_rule w k n).1.1.1))
unfolding contains_rule supernet_rule
contains-supernet w k n = go (lookup w k n)
  where
    go : (s : Shown) → is_member n s ≡ ((member_of n s).0, ((member_of n s).1.0, (member_of n s).1.1.1))
    go (Member d s) = refl
    go (Nothing s) = refl
    go (Refused r) = refl
