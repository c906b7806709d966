-- Ranges that ascend and are apart (`spaced`): no ranges with the same addresses are fewer (`spaced-fewest`), and no others ascend and are apart
-- (`spaced-one`). Each range needs one of its own among any ranges with the same addresses, since none of those can reach over the address behind it. Assumes
-- nothing.
use Rattle.std.proofs.Common.{◌≡◌, ℕ, suc, ◌<◌, ◌≤◌, Bool, true, false, cond, ◌&&◌, ltb, leb, ◌⊎◌, List, [], ◌∷◌, length, sym, refl, ◌∙◌, inl, inr, arith, ltb-false, ltb-true, lt-ltb, le-leb, leb-true}
use mathlib.Core.Bool.{or-true, false≢true}
use native.Mathlib.Decide.{dec_lt}
use Rattle.nets.proofs.Strings.{and_left, and_right, and_both, or_cases, bool_iff}
use Rattle.ranges.specs.Ranges.{Range, holds, in_some, spaced}

-- An address in a range, and out of one.
module _ (r : Range) (a : ℕ) where
  pub holds-is : holds r a ≡ true → (r.first ≤ a) × (a ≤ r.last)
  holds-is e =
      (leb-true r.first a (and_left (leb r.first a) (leb a r.last) e), leb-true a r.last (and_right (leb r.first a) (leb a r.last) e))

  pub is-holds : r.first ≤ a → a ≤ r.last → holds r a ≡ true
  is-holds h g = and_both (leb r.first a) (leb a r.last) (le-leb r.first a h) (le-leb a r.last g)

  pub holds_not : (r.first ≤ a → a ≤ r.last → ⊥) → holds r a ≡ false
  holds_not n = go (holds r a) refl
    where
      go : (x : Bool) → holds r a ≡ x → holds r a ≡ false
      go true e = absurd (n (holds-is e).0 (holds-is e).1)
      go false e = e

-- in the first of them or in another; only in another
in-cases : (r : Range) (rs : List Range) (a : ℕ) → in_some (r ∷ rs) a ≡ true → (holds r a ≡ true) ⊎ (in_some rs a ≡ true)
in-cases r rs a e = or_cases (holds r a) (in_some rs a) e

in-first : (r : Range) (rs : List Range) (a : ℕ) → holds r a ≡ true → in_some (r ∷ rs) a ≡ true
in-first r rs a e = rw e

in-later : (r : Range) (rs : List Range) (a : ℕ) → in_some rs a ≡ true → in_some (r ∷ rs) a ≡ true
in-later r rs a e = rw (e, or-true (holds r a))

in_rest : (r : Range) (rs : List Range) (a : ℕ) → (r.first ≤ a → a ≤ r.last → ⊥) → in_some (r ∷ rs) a ≡ in_some rs a
in_rest r rs a n = rw (holds_not r a n)

-- The ranges ascend from lo on and are apart.
abbrev pub Spaced : ℕ → List Range → Type 0
Spaced lo [] = Unit {0}
Spaced lo (r ∷ rs) = (lo ≤ r.first) × (r.first ≤ r.last) × Spaced (suc (suc r.last)) rs

pub spaced-from : (rs : List Range) → spaced rs ≡ true → Spaced 0 rs
unfolding spaced
spaced-from [] e = tt
spaced-from (r ∷ []) e = (omega arith, leb-true r.first r.last e, tt)
spaced-from (r ∷ s ∷ rs) e =
    let h = and_right (leb r.first r.last) (ltb (suc r.last) s.first && spaced (s ∷ rs)) e in
    let g = ltb-true (suc r.last) s.first (and_left (ltb (suc r.last) s.first) (spaced (s ∷ rs)) h) in
    let t = spaced-from (s ∷ rs) (and_right (ltb (suc r.last) s.first) (spaced (s ∷ rs)) h) in (
      omega arith,
      leb-true r.first r.last (and_left (leb r.first r.last) (ltb (suc r.last) s.first && spaced (s ∷ rs)) e),
      (g, t.1, t.2),
    )

pub from-spaced : (lo : ℕ) (rs : List Range) → Spaced lo rs → spaced rs ≡ true
unfolding spaced
from-spaced lo [] s = refl
from-spaced lo (r ∷ []) s = le-leb r.first r.last s.1
from-spaced lo (r ∷ t ∷ rs) s =
    rw (le-leb r.first r.last s.1, lt-ltb (suc r.last) t.first s.2.0) (from-spaced (suc (suc r.last)) (t ∷ rs) s.2)

-- none has an address below the first, and none of the others one up to the address behind the first range
pub spaced-before : (lo : ℕ) (rs : List Range) (a : ℕ) → Spaced lo rs → a < lo → in_some rs a ≡ false
spaced-before lo [] a s h = refl
spaced-before lo (r ∷ rs) a s h = in_rest r rs a (λ g _. omega (arith, s.0)) ∙ spaced-before (suc (suc r.last)) rs a s.2 (omega (arith, s.0, s.1))

spaced-past : (lo : ℕ) (rs : List Range) (a : ℕ) → Spaced lo rs → in_some rs a ≡ true → lo ≤ a
spaced-past lo rs a s e = go (dec_lt a lo)
  where
    go : Dec (a < lo) → lo ≤ a
    go (yes h) = absurd (false≢true (sym (spaced-before lo rs a s h) ∙ e))
    go (no h) = omega arith

module _ (lo : ℕ) (r : Range) (rs : List Range) (s : Spaced lo (r ∷ rs)) where
  spaced-gap : in_some (r ∷ rs) (suc r.last) ≡ false
  spaced-gap = in_rest r rs (suc r.last) (λ _ g. omega arith) ∙ spaced-before (suc (suc r.last)) rs (suc r.last) s.2 (omega arith)

  spaced-first : (a : ℕ) → in_some (r ∷ rs) a ≡ true → r.first ≤ a
  spaced-first a e = spaced-past r.first (r ∷ rs) a (omega arith, s.1, s.2) e

  spaced-rest : (a : ℕ) → in_some rs a ≡ true → suc (suc r.last) ≤ a
  spaced-rest a e = spaced-past (suc (suc r.last)) rs a s.2 e

-- The fewest: the ranges that begin past b are fewer, and have all that the others do behind b, where none has the address right behind b.
past : ℕ → List Range → List Range
past b [] = []
past b (m ∷ ms) = cond (ltb b m.first) (m ∷ past b ms) (past b ms)

length-past : (b : ℕ) (ms : List Range) → length (past b ms) ≤ length ms
unfolding past
length-past b [] = omega arith
length-past b (m ∷ ms) = go (ltb b m.first) (length-past b ms)
  where
    go : (x : Bool) → length (past b ms) ≤ length ms → length (cond x (m ∷ past b ms) (past b ms)) ≤ length (m ∷ ms)
    go true ih = omega arith
    go false ih = omega arith

past-fewer : (b a : ℕ) (ms : List Range) → a ≤ b → in_some ms a ≡ true → length (past b ms) < length ms
unfolding past
past-fewer b a [] h e = absurd (false≢true e)
past-fewer b a (m ∷ ms) h e = go (ltb b m.first) refl (past-fewer b a ms h)
  where
    go : (x : Bool) → ltb b m.first ≡ x → (in_some ms a ≡ true → length (past b ms) < length ms)
        → length (cond x (m ∷ past b ms) (past b ms)) < length (m ∷ ms)
    go true k ih = let g = ltb-true b m.first k in let i = ih (sym (in_rest m ms a (λ u _. omega arith)) ∙ e) in omega arith
    go false k ih = omega (arith, length-past b ms)

past-out : (b a : ℕ) (ms : List Range) → in_some (past b ms) a ≡ true → (b < a) × (in_some ms a ≡ true)
unfolding past
past-out b a [] e = absurd (false≢true e)
past-out b a (m ∷ ms) e = go (ltb b m.first) refl e (past-out b a ms)
  where
    later : (in_some (past b ms) a ≡ true → (b < a) × (in_some ms a ≡ true)) → in_some (past b ms) a ≡ true → (b < a) × (in_some (m ∷ ms) a ≡ true)
    later ih q = ((ih q).0, in-later m ms a (ih q).1)

    one : b < m.first → (in_some (past b ms) a ≡ true → (b < a) × (in_some ms a ≡ true)) → (holds m a ≡ true) ⊎ (in_some (past b ms) a ≡ true)
        → (b < a) × (in_some (m ∷ ms) a ≡ true)
    one k ih (inl h) = (omega (arith, holds-is m a h), in-first m ms a h)
    one k ih (inr q) = later ih q

    go : (x : Bool) → ltb b m.first ≡ x → in_some (cond x (m ∷ past b ms) (past b ms)) a ≡ true
        → (in_some (past b ms) a ≡ true → (b < a) × (in_some ms a ≡ true)) → (b < a) × (in_some (m ∷ ms) a ≡ true)
    go true k q ih = one (ltb-true b m.first k) ih (in-cases m (past b ms) a q)
    go false k q ih = later ih q

past-in : (b a : ℕ) (ms : List Range) → b < a → in_some ms (suc b) ≡ false → in_some ms a ≡ true → in_some (past b ms) a ≡ true
unfolding past
past-in b a [] h g e = absurd (false≢true e)
past-in b a (m ∷ ms) h g e = go (ltb b m.first) refl (in-cases m ms a e) (λ q. past-in b a ms h rest q)
  where
    rest : in_some ms (suc b) ≡ false
    rest = off (in_some ms (suc b)) refl
      where
        off : (x : Bool) → in_some ms (suc b) ≡ x → in_some ms (suc b) ≡ false
        off true q = absurd (false≢true (sym g ∙ in-later m ms (suc b) q))
        off false q = q

    go : (x : Bool) → ltb b m.first ≡ x → (holds m a ≡ true) ⊎ (in_some ms a ≡ true) → (in_some ms a ≡ true → in_some (past b ms) a ≡ true)
        → in_some (cond x (m ∷ past b ms) (past b ms)) a ≡ true
    go true k (inl q) ih = in-first m (past b ms) a q
    go true k (inr q) ih = in-later m (past b ms) a (ih q)
    go false k (inl q) ih =
        let o = holds-is m a q in
        let f = ltb-false b m.first k in
        absurd (false≢true (sym g ∙ in-first m ms (suc b) (is-holds m (suc b) (omega arith) (omega arith))))
    go false k (inr q) ih = ih q

abbrev Same : List Range → List Range → Type 0
Same ms rs = (a : ℕ) → in_some ms a ≡ in_some rs a

past_same : (lo : ℕ) (r : Range) (rs ms : List Range) → Spaced lo (r ∷ rs) → Same ms (r ∷ rs) → Same (past r.last ms) rs
past_same lo r rs ms s e a = bool_iff (in_some (past r.last ms) a) (in_some rs a) there back
  where
    there : in_some (past r.last ms) a ≡ true → in_some rs a ≡ true
    there q = let o = past-out r.last a ms q in sym (in_rest r rs a (λ _ g. omega (arith, o.0))) ∙ sym (e a) ∙ o.1

    back : in_some rs a ≡ true → in_some (past r.last ms) a ≡ true
    back q = past-in r.last a ms (omega (arith, spaced-rest lo r rs s a q)) (e (suc r.last) ∙ spaced-gap lo r rs s) (e a ∙ in-later r rs a q)

pub spaced-fewest : (lo : ℕ) (rs ms : List Range) → Spaced lo rs → Same ms rs → length rs ≤ length ms
spaced-fewest lo [] ms s e = omega arith
spaced-fewest lo (r ∷ rs) ms s e =
    let i = spaced-fewest (suc (suc r.last)) rs (past r.last ms) s.2 (past_same lo r rs ms s e) in
    let f = past-fewer r.last r.first ms s.1 (e r.first ∙ in-first r rs r.first (is-holds r r.first (omega arith) s.1)) in
    omega arith

-- The only ones.
range-one : (r m : Range) → r.first ≡ m.first → r.last ≡ m.last → r ≡ m
range-one r m e f = λ i. record { first = e i; last = f i }

module _ (lo : ℕ) (r m : Range) (rs ms : List Range) (s : Spaced lo (r ∷ rs)) (t : Spaced lo (m ∷ ms)) (e : Same (m ∷ ms) (r ∷ rs)) where
  first-le : r.first ≤ m.first
  first-le = spaced-first lo r rs s m.first (sym (e m.first) ∙ in-first m ms m.first (is-holds m m.first (omega arith) t.1))

  last-le : m.first ≤ r.first → m.last ≤ r.last
  last-le h = go (dec_lt r.last m.last)
    where
      go : Dec (r.last < m.last) → m.last ≤ r.last
      go (yes k) =
          absurd (false≢true (sym (spaced-gap lo r rs s) ∙ sym (e (suc r.last)) ∙ in-first m ms (suc r.last) (is-holds m (suc r.last) (omega (arith, s.1)) k)))
      go (no k) = omega arith

  rest_in : r.last ≡ m.last → (a : ℕ) → in_some ms a ≡ true → in_some rs a ≡ true
  rest_in h a q = sym (in_rest r rs a (λ _ g. omega (arith, spaced-rest lo m ms t a q))) ∙ sym (e a) ∙ in-later m ms a q

pub spaced-one : (lo : ℕ) (rs ms : List Range) → Spaced lo rs → Spaced lo ms → Same ms rs → ms ≡ rs
spaced-one lo [] [] s t e = refl
spaced-one lo [] (m ∷ ms) s t e = absurd (false≢true (sym (e m.first) ∙ in-first m ms m.first (is-holds m m.first (omega arith) t.1)))
spaced-one lo (r ∷ rs) [] s t e = absurd (false≢true (e r.first ∙ in-first r rs r.first (is-holds r r.first (omega arith) s.1)))
spaced-one lo (r ∷ rs) (m ∷ ms) s t e =
    let back : Same (r ∷ rs) (m ∷ ms) = λ a. sym (e a) in
    let f : r.first ≡ m.first = omega (arith, first-le lo r m rs ms s t e, first-le lo m r ms rs t s back) in
    let l : r.last ≡ m.last = omega (arith, last-le lo r m rs ms s t e (omega arith), last-le lo m r ms rs t s back (omega arith)) in
    let u : Spaced (suc (suc r.last)) ms = rw l t.2 in
    let i =
    spaced-one (suc (suc r.last)) rs ms s.2 u
    (λ a. bool_iff (in_some ms a) (in_some rs a) (rest_in lo r m rs ms s t e l a) (rest_in lo m r ms rs t s back (sym l) a)) in
    rw (range-one m r (sym f) (sym l), i)
