-- Which of two networks ends before the other begins: of any two one is ahead of the other or one leads the other (`compare`). What lies inside a network is ahead of what it is
-- ahead of, and behind what is ahead of it. Assumes nothing.
use mathlib.Core.Bool.{Bool, true, false, not, cond, ◌&&◌, false≢true, beq as same}
use mathlib.Core.List.{[], ◌∷◌}
use mathlib.Core.Logic.{◌⊎◌, inl, inr}
use mathlib.Core.Path.{◌≡◌, refl, sym, ◌∙◌}
use Rattle.nets.specs.Bits.{Bits, leads}
use Rattle.address_order.specs.Streams.{earlier}
use Rattle.salvage_lists.specs.Ahead.{ahead}

pub ahead-trans : (p q r : Bits) → ahead p q ≡ true → ahead q r ≡ true → ahead p r ≡ true
ahead-trans [] q r e f = absurd (false≢true e)
ahead-trans (b ∷ p) [] r e f = absurd (false≢true e)
ahead-trans (b ∷ p) (c ∷ q) [] e f = absurd (false≢true f)
ahead-trans (false ∷ p) (false ∷ q) (false ∷ r) e f = ahead-trans p q r e f
ahead-trans (false ∷ p) (false ∷ q) (true ∷ r) e f = refl
ahead-trans (false ∷ p) (true ∷ q) (false ∷ r) e f = absurd (false≢true f)
ahead-trans (false ∷ p) (true ∷ q) (true ∷ r) e f = refl
ahead-trans (true ∷ p) (false ∷ q) (d ∷ r) e f = absurd (false≢true e)
ahead-trans (true ∷ p) (true ∷ q) (false ∷ r) e f = f
ahead-trans (true ∷ p) (true ∷ q) (true ∷ r) e f = ahead-trans p q r e f

pub ahead-self : (p : Bits) → ahead p p ≡ false
ahead-self [] = refl
ahead-self (false ∷ p) = ahead-self p
ahead-self (true ∷ p) = ahead-self p

-- what lies inside the later one, and inside the earlier one
pub ahead-inside : (p q r : Bits) → ahead p q ≡ true → leads q r ≡ true → ahead p r ≡ true
ahead-inside [] q r e f = absurd (false≢true e)
ahead-inside (b ∷ p) [] r e f = absurd (false≢true e)
ahead-inside (b ∷ p) (c ∷ q) [] e f = absurd (false≢true f)
ahead-inside (false ∷ p) (false ∷ q) (false ∷ r) e f = ahead-inside p q r e f
ahead-inside (false ∷ p) (false ∷ q) (true ∷ r) e f = refl
ahead-inside (false ∷ p) (true ∷ q) (false ∷ r) e f = absurd (false≢true f)
ahead-inside (false ∷ p) (true ∷ q) (true ∷ r) e f = refl
ahead-inside (true ∷ p) (false ∷ q) (d ∷ r) e f = absurd (false≢true e)
ahead-inside (true ∷ p) (true ∷ q) (false ∷ r) e f = absurd (false≢true f)
ahead-inside (true ∷ p) (true ∷ q) (true ∷ r) e f = ahead-inside p q r e f

-- neither leads the other
pub ahead-leads : (p q : Bits) → ahead p q ≡ true → leads p q ≡ false
ahead-leads [] q e = absurd (false≢true e)
ahead-leads (b ∷ p) [] e = absurd (false≢true e)
ahead-leads (false ∷ p) (false ∷ q) e = ahead-leads p q e
ahead-leads (false ∷ p) (true ∷ q) e = refl
ahead-leads (true ∷ p) (false ∷ q) e = refl
ahead-leads (true ∷ p) (true ∷ q) e = ahead-leads p q e

pub ahead-led : (p q : Bits) → ahead p q ≡ true → leads q p ≡ false
ahead-led [] q e = absurd (false≢true e)
ahead-led (b ∷ p) [] e = absurd (false≢true e)
ahead-led (false ∷ p) (false ∷ q) e = ahead-led p q e
ahead-led (false ∷ p) (true ∷ q) e = refl
ahead-led (true ∷ p) (false ∷ q) e = refl
ahead-led (true ∷ p) (true ∷ q) e = ahead-led p q e

pub data Compared (p q : Bits) : Type 0 where
  first : ahead p q ≡ true → Compared p q
  second : ahead q p ≡ true → Compared p q
  outer : leads p q ≡ true → Compared p q
  inner : leads q p ≡ true → Compared p q

pub compare : (p q : Bits) → Compared p q
compare [] q = outer refl
compare (b ∷ p) [] = inner refl
compare (false ∷ p) (false ∷ q) = go (compare p q)
  where
    go : Compared p q → Compared (false ∷ p) (false ∷ q)
    go (first e) = first e
    go (second e) = second e
    go (outer e) = outer e
    go (inner e) = inner e
compare (false ∷ p) (true ∷ q) = first refl
compare (true ∷ p) (false ∷ q) = second refl
compare (true ∷ p) (true ∷ q) = go (compare p q)
  where
    go : Compared p q → Compared (true ∷ p) (true ∷ q)
    go (first e) = first e
    go (second e) = second e
    go (outer e) = outer e
    go (inner e) = inner e

-- In the order of addresses: earlier, and does not lead.
pub ahead-is : (p q : Bits) → ahead p q ≡ (earlier p q && not (leads p q))
ahead-is [] [] = refl
ahead-is [] (c ∷ q) = refl
ahead-is (b ∷ p) [] = refl
ahead-is (false ∷ p) (false ∷ q) = ahead-is p q
ahead-is (false ∷ p) (true ∷ q) = refl
ahead-is (true ∷ p) (false ∷ q) = refl
ahead-is (true ∷ p) (true ∷ q) = ahead-is p q
