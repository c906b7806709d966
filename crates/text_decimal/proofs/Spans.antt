-- Bytes are those that they begin with, for as long as a test holds, and what follows. Assumes nothing.
use mathlib.Core.Bool.{Bool, true, false, cond}
use mathlib.Core.List.{List, [], ◌∷◌, ◌++◌}
use mathlib.Core.Path.{◌≡◌, refl, ap}
use Prim.Native.Nat.{ℕ}
use Rattle.nets.proofs.Strings.{and_left, and_right, and_both}
use Rattle.text_decimal.specs.Spans.{all_of, starts_of, leading_of, behind_of}

module _ (f : ℕ → Bool) where
  pub leading-behind : (s : List ℕ) → leading_of f s ++ behind_of f s ≡ s
  unfolding leading_of behind_of
  leading-behind [] = refl
  leading-behind (c ∷ s) = go (f c) (leading-behind s)
    where
      go : (b : Bool) → leading_of f s ++ behind_of f s ≡ s → cond b (c ∷ leading_of f s) [] ++ cond b (behind_of f s) (c ∷ s) ≡ c ∷ s
      go true e = ap (λ t. c ∷ t) e
      go false e = refl

  pub all-leading : (s : List ℕ) → all_of f (leading_of f s) ≡ true
  unfolding leading_of all_of
  all-leading [] = refl
  all-leading (c ∷ s) = go (f c) refl (all-leading s)
    where
      go : (b : Bool) → f c ≡ b → all_of f (leading_of f s) ≡ true → all_of f (cond b (c ∷ leading_of f s) []) ≡ true
      go true e h = and_both (f c) (all_of f (leading_of f s)) e h
      go false e h = refl

  pub leading-none : (s : List ℕ) → starts_of f s ≡ false → leading_of f s ≡ []
  unfolding leading_of starts_of
  leading-none [] e = refl
  leading-none (c ∷ s) e = rw e

  pub behind-none : (s : List ℕ) → starts_of f s ≡ false → behind_of f s ≡ s
  unfolding behind_of starts_of
  behind-none [] e = refl
  behind-none (c ∷ s) e = rw e

  pub leading-append : (s t : List ℕ) → all_of f s ≡ true → starts_of f t ≡ false → leading_of f (s ++ t) ≡ s
  unfolding leading_of all_of
  leading-append [] t h e = leading-none t e
  leading-append (c ∷ s) t h e = rw (and_left (f c) (all_of f s) h) (ap (λ u. c ∷ u) (leading-append s t (and_right (f c) (all_of f s) h) e))

  pub behind-append : (s t : List ℕ) → all_of f s ≡ true → starts_of f t ≡ false → behind_of f (s ++ t) ≡ t
  unfolding behind_of all_of
  behind-append [] t h e = behind-none t e
  behind-append (c ∷ s) t h e = rw (and_left (f c) (all_of f s) h) (behind-append s t (and_right (f c) (all_of f s) h) e)

-- what holds of every byte of which another test holds
pub all-weaken : (f g : ℕ → Bool) → ((c : ℕ) → f c ≡ true → g c ≡ true) → (s : List ℕ) → all_of f s ≡ true → all_of g s ≡ true
unfolding all_of
all-weaken f g h [] e = refl
all-weaken f g h (c ∷ s) e = and_both (g c) (all_of g s) (h c (and_left (f c) (all_of f s) e)) (all-weaken f g h s (and_right (f c) (all_of f s) e))

-- of a joined list it holds where it holds of both parts
pub all_append : (f : ℕ → Bool) (s t : List ℕ) → all_of f (s ++ t) ≡ true → (all_of f s ≡ true) × (all_of f t ≡ true)
unfolding all_of
all_append f [] t e = (refl, e)
all_append f (c ∷ s) t e =
    let h = all_append f s t (and_right (f c) (all_of f (s ++ t)) e) in
    (and_both (f c) (all_of f s) (and_left (f c) (all_of f (s ++ t)) e) h.0, h.1)
