-- Networks apart in the order of addresses: the road on which what is left is found. No public contract speaks of it.
--
--   ahead p q         p ends before q begins: at the first bit in which they differ p has 0 and q has 1
--   Chain l           each member is ahead of all behind it
--   is_past a q        q begins behind the place a: anywhere, or where a network ends
--   Part S a l        l is what is left of S up to the place a;  Whole S l: what is left of all of S
--   Batch S a l more  l is what is left of S from the place a on, up to the end of its last member where there may be more
use Rattle.std.specs.Prelude.{Bool, true, false, cond, List, [], ◌∷◌, ◌⊎◌, ◌≡◌}
use Rattle.std.specs.Bool.{beq as same}
use Rattle.nets.specs.Bits.{Bits, leads}
use Rattle.nets.specs.Lists.{member, covers, Place, start, past}
use Rattle.address_order.specs.Streams.{earlier}

abbrev pub ahead : Bits → Bits → Bool
ahead [] q = false
ahead (b ∷ p) [] = false
ahead (b ∷ p) (c ∷ q) = cond (same b c) (ahead p q) c

-- p is ahead of all members of l; all members of l are ahead of q
abbrev pub Leads : Bits → List Bits → Type 0
Leads p l = (q : Bits) → member q l ≡ true → ahead p q ≡ true

abbrev pub AllAhead : List Bits → Bits → Type 0
AllAhead l q = (p : Bits) → member p l ≡ true → ahead p q ≡ true

abbrev pub Chain : List Bits → Type 0
Chain [] = Unit {0}
Chain (p ∷ l) = Leads p l × Chain l

abbrev pub is_past : Place → Bits → Bool
is_past start q = true
is_past (past p) q = ahead p q

pub record Part (S : List Bits) (a : Place) (l : List Bits) : Type 0 where
  pub chain : Chain l
  pub inside : (q : Bits) → member q l ≡ true → member q S ≡ true
  pub reach : (q : Bits) → member q S ≡ true → (covers l q ≡ true) ⊎ (is_past a q ≡ true)
  pub ends : (q r : Bits) → member q l ≡ true → is_past a r ≡ true → ahead q r ≡ true

pub record Whole (S : List Bits) (l : List Bits) : Type 0 where
  pub chain : Chain l
  pub inside : (q : Bits) → member q l ≡ true → member q S ≡ true
  pub reach : (q : Bits) → member q S ≡ true → covers l q ≡ true

pub record Batch (S : List Bits) (a : Place) (l : List Bits) (more : Bool) : Type 0 where
  pub chain : Chain l
  pub inside : (q : Bits) → member q l ≡ true → (member q S ≡ true) × (is_past a q ≡ true)
  pub reach : (q : Bits) → member q S ≡ true → is_past a q ≡ true → (covers l q ≡ true) ⊎ ((more ≡ true) × AllAhead l q)

-- q begins behind the bound e of a batch: nowhere where there is none
abbrev pub is_beyond : Place → Bits → Bool
is_beyond start q = false
is_beyond (past b) q = ahead b q

abbrev pub is_bound : Place → Bool
is_bound start = false
is_bound (past b) = true

-- the entries m, held for a batch from the place a on, cover what S has there, up to the bound e
pub record Held (S : List Bits) (a : Place) (m : List Bits) (e : Place) : Type 0 where
  pub inside : (q : Bits) → member q m ≡ true → (member q S ≡ true) × (is_past a q ≡ true) × (is_beyond e q ≡ false)
  pub reach : (q : Bits) → member q S ≡ true → is_past a q ≡ true → (covers m q ≡ true) ⊎ (is_beyond e q ≡ true)

-- l is a chain of members of m that covers m
pub record Squeezed (m l : List Bits) : Type 0 where
  pub chain : Chain l
  pub inside : (q : Bits) → member q l ≡ true → member q m ≡ true
  pub reach : (q : Bits) → member q m ≡ true → covers l q ≡ true

-- l without what lies inside the one kept before it or is equal to it, behind p and from the start
unfoldable pub thin_behind : Bits → List Bits → List Bits
thin_behind p [] = []
thin_behind p (q ∷ l) = cond (leads p q) (thin_behind p l) (q ∷ thin_behind q l)

unfoldable pub thinned : List Bits → List Bits
thinned [] = []
thinned (p ∷ l) = p ∷ thin_behind p l

-- in address order, equal ones side by side
abbrev pub Sorted : List Bits → Type 0
Sorted [] = Unit {0}
Sorted (p ∷ l) = ((q : Bits) → member q l ≡ true → earlier q p ≡ false) × Sorted l
