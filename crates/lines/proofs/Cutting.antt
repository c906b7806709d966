-- The lines of an input, where bytes that are no line feed stand in front of it. Assumes nothing.
use Rattle.std.proofs.Common.{◌≡◌, ℕ, Bool, true, false, cond, not, eqb, List, [], ◌∷◌, ◌++◌, map, refl, ap}
use Rattle.text_decimal.specs.Spans.{leading_of}
use Rattle.text_either.specs.First.{first_line}
use Rattle.lines_take.specs.Lines.{line_feed, in_front, lines_of}

-- no byte of it is a line feed
abbrev pub Plain : List ℕ → Type 0
Plain [] = Unit
Plain (c ∷ t) = (eqb c line_feed ≡ false) × Plain t

pub plain_more : (t : List ℕ) (b : ℕ) → Plain t → eqb b line_feed ≡ false → Plain (t ++ (b ∷ []))
plain_more [] b p e = (e, tt)
plain_more (c ∷ t) b p e = (p.0, plain_more t b p.1 e)

pub lines_of-feed : (t s : List ℕ) → Plain t → lines_of (t ++ (line_feed ∷ s)) ≡ t ∷ lines_of s
unfolding lines_of
lines_of-feed [] s p = refl
lines_of-feed (c ∷ t) s p = rw p.0 (ap (in_front c) (lines_of-feed t s p.1))

pub lines_of-rest : (c : ℕ) (t : List ℕ) → Plain (c ∷ t) → lines_of (c ∷ t) ≡ (c ∷ t) ∷ []
unfolding lines_of
lines_of-rest c [] p = rw p.0
lines_of-rest c (d ∷ t) p = rw p.0 (ap (in_front c) (lines_of-rest d t p.1))

-- The first of them, which tells the family of an input.
abbrev pub head_of : List (List ℕ) → List ℕ
head_of [] = []
head_of (l ∷ ls) = l

pub first_line-lines : (s : List ℕ) → first_line s ≡ head_of (lines_of s)
unfolding lines_of leading_of
first_line-lines [] = refl
first_line-lines (b ∷ s) = go (eqb b line_feed) (lines_of s) (first_line-lines s)
  where
    go : (c : Bool) (ls : List (List ℕ)) → first_line s ≡ head_of ls → cond (not c) (b ∷ first_line s) [] ≡ head_of (cond c ([] ∷ ls) (in_front b ls))
    go true ls e = refl
    go false [] e = ap (λ t. b ∷ t) e
    go false (l ∷ ls) e = ap (λ t. b ∷ t) e

-- No line, an empty one, one without and one with its line feed, two, and an empty one in front.
pub lines_cut : map lines_of ([] ∷ (10 ∷ []) ∷ (97 ∷ []) ∷ (97 ∷ 10 ∷ []) ∷ (97 ∷ 10 ∷ 98 ∷ []) ∷ (10 ∷ 97 ∷ 10 ∷ []) ∷ [])
    ≡ [] ∷ ([] ∷ []) ∷ ((97 ∷ []) ∷ []) ∷ ((97 ∷ []) ∷ []) ∷ ((97 ∷ []) ∷ (98 ∷ []) ∷ []) ∷ ([] ∷ (97 ∷ []) ∷ []) ∷ []
unfolding lines_of
lines_cut = refl
