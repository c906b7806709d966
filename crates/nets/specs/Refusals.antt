-- The table of refusals, of the scope document and of the requests: the number of each, what an answer says by it, and the rules of a call in the order in which they are asked.
use Rattle.std.specs.Prelude.{Bool, cond, List, [], ◌∷◌, ℕ, eqb}
use Rattle.nets.specs.declared.Refusal.{Refusal}
use Rattle.nets.specs.declared.Refusal.TheVariants.{BadSetup, Damaged, NoSet, BadText, BadFile, WrongFamily, BadNetwork, Occupied, OverLimit, NoRoom, ShortBuffer, BadRange, BadShare, NotPublic}

abbrev pub number : Refusal → ℕ
number BadSetup = 1
number Damaged = 2
number NoSet = 3
number BadText = 4
number BadFile = 5
number WrongFamily = 6
number BadNetwork = 7
number Occupied = 8
number OverLimit = 9
number NoRoom = 10
number ShortBuffer = 11
number BadRange = 12
number BadShare = 13
number NotPublic = 14

-- an answer by the table: its number, 0 where it is granted, and its value v, which is z where it is refused
abbrev pub answered : {A : Type 0} → ℕ → A → A → ℕ × A
answered k z v = (k, cond (eqb k 0) v z)

-- a rule of a call: the condition under which it is refused, and the refusal
abbrev pub Rule : Type 0
Rule = Bool × Refusal

-- the number of the first rule that applies, 0 where none does
abbrev pub first_no : List Rule → ℕ
first_no [] = 0
first_no (r ∷ rs) = cond r.0 (number r.1) (first_no rs)
