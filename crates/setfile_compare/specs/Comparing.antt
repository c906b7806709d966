-- Comparing two set files: whether they cover the same addresses, and whether the second is then the shortest list that covers them.
--
--   least w f           the smallest address of w bits of which f holds: one that begins with 0, or else one that begins with 1
--   differ l m a        one of the lists l and m covers the address a, and the other does not
--   is_shortest m        m is no longer than simplified, and so the shortest of all lists that cover the same
--   compared_as r        an answer's number and values: 1 or 2 where they differ, the file that holds the address, and the address as a network; 3 where
--                       they cover the same, 4 where the second is the shortest too
--   verdict f l m       the values that are due of the lists l and m of the family f
--   compared x y        what is due of what two files read as
use Rattle.std.specs.Prelude.{Bool, true, false, not, cond, ◌||◌, List, [], ◌∷◌, ℕ, zero, suc, eqb, leb, length, Result, Ok, Err}
use Rattle.std.specs.Bool.{beq as same}
use Rattle.nets.specs.Bits.{Bits}
use Rattle.nets.specs.Lists.{Found, found, missing, covers, simplify_l}
use Rattle.nets.specs.Networks.{width, net_from, no_net}
use Rattle.nets.specs.Refusals.{number, answered, Rule, first_no}
use Rattle.nets.specs.declared.Net.{Net}
use Rattle.nets.specs.declared.Refusal.{Refusal}
use Rattle.nets.specs.declared.Refusal.TheVariants.{BadFile, WrongFamily}
use Rattle.setfile_format.specs.Files.{File, broken, file}
use Rattle.setfile_compare.specs.declared.Holder.{Holder}
use Rattle.setfile_compare.specs.declared.Holder.TheVariants as holder
use Rattle.setfile_compare.specs.declared.Compared.{Compared}
use Rattle.setfile_compare.specs.declared.Compared.TheVariants as compare

-- the same with a bit in front, and the first of two that is found
abbrev pub behind : Bool → Found → Found
behind b (found a) = found (b ∷ a)
behind b missing = missing

abbrev pub first_found : Found → Found → Found
first_found (found a) y = found a
first_found missing y = y

unfoldable pub least : ℕ → (Bits → Bool) → Found
least zero f = cond (f []) (found []) missing
least (suc w) f = first_found (behind false (least w (λ a. f (false ∷ a)))) (behind true (least w (λ a. f (true ∷ a))))

abbrev pub differ : List Bits → List Bits → Bits → Bool
differ l m a = not (same (covers l a) (covers m a))

unfoldable pub is_shortest : List Bits → Bool
is_shortest m = leb (length m) (length (simplify_l m))

-- the answers
abbrev pub Values : Type 0
Values = ℕ × Net

abbrev pub holder_as : Holder → ℕ
holder_as holder.First = 1
holder_as holder.Second = 2

abbrev pub none : Values
none = (0, no_net)

abbrev pub compared_as : Result Compared Refusal → ℕ × Values
compared_as (Ok (compare.Differs x n)) = (0, (holder_as x, n))
compared_as (Ok compare.Longer) = (0, (3, no_net))
compared_as (Ok compare.Shortest) = (0, (4, no_net))
compared_as (Err r) = (number r, none)

-- what is due: by the smallest address on which the lists differ, if there is one
abbrev pub by_address : ℕ → List Bits → List Bits → Found → Values
by_address f l m (found a) = (cond (covers l a) 1 2, net_from f a)
by_address f l m missing = (cond (is_shortest m) 4 3, no_net)

unfoldable pub verdict : ℕ → List Bits → List Bits → Values
verdict f l m = by_address f l m (least (width f) (differ l m))

abbrev pub is_broken : File → Bool
is_broken broken = true
is_broken (file f l) = false

abbrev pub family_in : File → ℕ
family_in broken = 0
family_in (file f l) = f

abbrev pub list_in : File → List Bits
list_in broken = []
list_in (file f l) = l

unfoldable pub compare_rules : File → File → List Rule
compare_rules x y = (is_broken x || is_broken y, BadFile) ∷ (not (eqb (family_in x) (family_in y)), WrongFamily) ∷ []

unfoldable pub compared : File → File → ℕ × Values
compared x y = answered (first_no (compare_rules x y)) none (verdict (family_in x) (list_in x) (list_in y))
