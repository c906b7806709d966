-- Joining ranges that touch: the addresses stay, and what ascends is apart afterwards (`joined-spaced`, `joined_in`). Whoever goes through ranges from the
-- first to the last keeps one open: the next one goes on from it (`join-touching`) or opens anew (`join_apart`). Assumes nothing.
use Rattle.std.proofs.Common.{◌≡◌, ℕ, suc, ◌<◌, ◌≤◌, Bool, true, false, cond, ◌||◌, eqb, List, [], ◌∷◌, ◌++◌, refl, ap, ◌∙◌, arith, eq-eqb, ne_eqb, eqb-true}
use mathlib.Core.Bool.{or_assoc}
use native.Mathlib.Decide.{dec_lt}
use borrow.Author.Tests.{eqb-false}
use Rattle.ranges.specs.Ranges.{Range, range, holds, in_some, join, joined}
use Rattle.ranges.proofs.Spaced.{is-holds, holds_not, Spaced}

-- The ranges ascend from lo on and end before hi; they may touch.
abbrev pub Chain : ℕ → ℕ → List Range → Type 0
Chain lo hi [] = lo ≤ hi
Chain lo hi (r ∷ rs) = (lo ≤ r.first) × (r.first ≤ r.last) × Chain (suc r.last) hi rs

pub chain-append : (lo mid hi : ℕ) (rs ms : List Range) → Chain lo mid rs → Chain mid hi ms → Chain lo hi (rs ++ ms)
chain-append lo mid hi [] [] c d = omega arith
chain-append lo mid hi [] (m ∷ ms) c d = (omega (arith, d.0), d.1, d.2)
chain-append lo mid hi (r ∷ rs) ms c d = (c.0, c.1, chain-append (suc r.last) mid hi rs ms c.2 d)

pub chain-le : (lo hi : ℕ) (rs : List Range) → Chain lo hi rs → lo ≤ hi
chain-le lo hi [] c = c
chain-le lo hi (r ∷ rs) c = omega (arith, chain-le (suc r.last) hi rs c.2, c.0, c.1)

pub chain-past : (lo hi : ℕ) (rs : List Range) (a : ℕ) → Chain lo hi rs → hi ≤ a → in_some rs a ≡ false
chain-past lo hi [] a c h = refl
chain-past lo hi (r ∷ rs) a c h =
    rw (holds_not r a (λ _ g. omega (arith, chain-le (suc r.last) hi rs c.2))) (chain-past (suc r.last) hi rs a c.2 h)

-- Two that touch are one.
holds-join : (f l s m a : ℕ) → f ≤ l → suc l ≡ s → s ≤ m → holds (range f m) a ≡ (holds (range f l) a || holds (range s m) a)
holds-join f l s m a h e g = go (dec_lt l a)
  where
    low : Dec (a < f) → (l < a → ⊥) → holds (range f m) a ≡ (holds (range f l) a || holds (range s m) a)
    low (yes j) k =
        rw (holds_not (range f m) a (λ u _. omega arith), holds_not (range f l) a (λ u _. omega arith), holds_not (range s m) a (λ u _. omega arith))
    low (no j) k = rw (is-holds (range f m) a (omega arith) (omega arith), is-holds (range f l) a (omega arith) (omega arith))

    high : Dec (m < a) → l < a → holds (range f m) a ≡ (holds (range f l) a || holds (range s m) a)
    high (yes j) k =
        rw (holds_not (range f m) a (λ _ u. omega arith), holds_not (range f l) a (λ _ u. omega arith), holds_not (range s m) a (λ _ u. omega arith))
    high (no j) k =
        rw (is-holds (range f m) a (omega arith) (omega arith), holds_not (range f l) a (λ _ u. omega arith), is-holds (range s m) a (omega arith) (omega arith))

    go : Dec (l < a) → holds (range f m) a ≡ (holds (range f l) a || holds (range s m) a)
    go (yes k) = high (dec_lt m a) k
    go (no k) = low (dec_lt a f) k

module _ (r : Range) (h : r.first ≤ r.last) where
  join-in : (rs : List Range) (a : ℕ) → Spaced (suc r.last) rs → in_some (join r rs) a ≡ in_some (r ∷ rs) a
  join-in [] a s = refl
  join-in (t ∷ rs) a s = go (eqb (suc r.last) t.first) refl
    where
      go : (x : Bool) → eqb (suc r.last) t.first ≡ x → in_some (cond x (range r.first t.last ∷ rs) (r ∷ t ∷ rs)) a ≡ in_some (r ∷ t ∷ rs) a
      go true e =
          ap (λ z. z || in_some rs a) (holds-join r.first r.last t.first t.last a h (eqb-true (suc r.last) t.first e) s.1)
          ∙ or_assoc (holds r a) (holds t a) (in_some rs a)
      go false e = refl

  join-spaced : (lo : ℕ) (rs : List Range) → lo ≤ r.first → Spaced (suc r.last) rs → Spaced lo (join r rs)
  join-spaced lo [] g s = (g, h, tt)
  join-spaced lo (t ∷ rs) g s = go (eqb (suc r.last) t.first) refl
    where
      go : (x : Bool) → eqb (suc r.last) t.first ≡ x → Spaced lo (cond x (range r.first t.last ∷ rs) (r ∷ t ∷ rs))
      go true e = (g, omega (arith, s.0, s.1), s.2)
      go false e = let n : suc r.last ≡ t.first → ⊥ = eqb-false (suc r.last) t.first e in (g, h, (omega (arith, s.0), s.1, s.2))

pub joined-spaced : (lo hi : ℕ) (rs : List Range) → Chain lo hi rs → Spaced lo (joined rs)
unfolding joined
joined-spaced lo hi [] c = tt
joined-spaced lo hi (r ∷ rs) c = join-spaced r c.1 lo (joined rs) c.0 (joined-spaced (suc r.last) hi rs c.2)

pub joined_in : (lo hi : ℕ) (rs : List Range) (a : ℕ) → Chain lo hi rs → in_some (joined rs) a ≡ in_some rs a
unfolding joined
joined_in lo hi [] a c = refl
joined_in lo hi (r ∷ rs) a c =
    join-in r c.1 (joined rs) a (joined-spaced (suc r.last) hi rs c.2) ∙ ap (λ z. holds r a || z) (joined_in (suc r.last) hi rs a c.2)

-- One open range, from f to l, and the next.
module _ (f l : ℕ) (s : Range) where
  pub join-touching : (rs : List Range) → suc l ≡ s.first → join (range f l) (join s rs) ≡ join (range f s.last) rs
  join-touching [] e = rw (eq-eqb (suc l) s.first e)
  join-touching (t ∷ rs) e = go (eqb (suc s.last) t.first)
    where
      go : (x : Bool)
          → join (range f l) (cond x (range s.first t.last ∷ rs) (s ∷ t ∷ rs)) ≡ cond x (range f t.last ∷ rs) (range f s.last ∷ t ∷ rs)
      go true = rw (eq-eqb (suc l) s.first e)
      go false = rw (eq-eqb (suc l) s.first e)

  pub join_apart : (rs : List Range) → (suc l ≡ s.first → ⊥) → join (range f l) (join s rs) ≡ range f l ∷ join s rs
  join_apart [] n = rw (ne_eqb (suc l) s.first n)
  join_apart (t ∷ rs) n = go (eqb (suc s.last) t.first)
    where
      go : (x : Bool)
          → join (range f l) (cond x (range s.first t.last ∷ rs) (s ∷ t ∷ rs)) ≡ range f l ∷ cond x (range s.first t.last ∷ rs) (s ∷ t ∷ rs)
      go true = rw (ne_eqb (suc l) s.first n)
      go false = rw (ne_eqb (suc l) s.first n)
