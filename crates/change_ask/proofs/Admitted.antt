-- What a set may have as far as its mark goes: a network is added exactly if it is clear itself, and what is left after removing or simplifying is clear as the set was. So
-- neither of these two is ever refused as 14. Assumes nothing.
use mathlib.Core.Path.{◌≡◌, refl, ◌∙◌}
use mathlib.Core.Bool.{Bool, true, false, not, ◌||◌}
use mathlib.Core.List.{List, [], ◌∷◌}
use Prim.Native.Nat.{ℕ}
use Rattle.nets.specs.Bits.{Bits}
use Rattle.nets.specs.Lists.{add_l, remove_l, simplify_l}
use Rattle.inner_nets.specs.Inner.{is_public}
use Rattle.inner_nets.proofs.Public.{is_public-add, is_public-remove, is_public-simplify}
use Rattle.pool_state.specs.States.{State, admits, is_state}
use Rattle.pool_state.specs.Changes.{set_at, list_at}
use Rattle.pool_state.proofs.Claims.{admits-list_at}

-- of a mark that is set
admits-under : (p : Bool) (x y : Bool) → (not p || x) ≡ true → (x ≡ true → y ≡ true) → (not p || y) ≡ true
admits-under false x y e g = refl
admits-under true x y e g = g e

admits-same : (p : Bool) (x y z : Bool) → (not p || x) ≡ true → (x ≡ true → y ≡ z) → (not p || y) ≡ (not p || z)
admits-same false x y z e g = refl
admits-same true x y z e g = g e

module _ (S : State) (k : ℕ) (e : is_state S ≡ true) where
  abbrev f : ℕ
  f = S.family

  abbrev l : List Bits
  l = list_at S k

  pub admits-add : (n : Bits) → admits f (set_at S k) (add_l l n) ≡ admits f (set_at S k) (n ∷ [])
  admits-add n = admits-same (set_at S k).public (is_public f l) (is_public f (add_l l n)) (is_public f (n ∷ [])) (admits-list_at S k e) (is_public-add f l n)

  pub admits-remove : (n : Bits) → admits f (set_at S k) (remove_l l n) ≡ true
  admits-remove n = admits-under (set_at S k).public (is_public f l) (is_public f (remove_l l n)) (admits-list_at S k e) (is_public-remove f l n)

  pub admits-simplify : admits f (set_at S k) (simplify_l l) ≡ true
  admits-simplify = admits-under (set_at S k).public (is_public f l) (is_public f (simplify_l l)) (admits-list_at S k e) (λ q. is_public-simplify f l ∙ q)
