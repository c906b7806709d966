-- A file gone through in address order, in numbers: a network is the addresses from its first to its last one.
--
--   kept x k, ones k    the number x without its k low bits; the k low bits of a word
--   first_of, last_of     the first and the last address of a network, of w bits
--   pairs p ms          p and the first of ms are the halves of one block;  tight ms: no two neighbours are
--   begins w ms         the first address of ms
--   Stands f s x ms     the file of the side s has the networks ms of the family f still to give, of the first of them the addresses from x on
--   Along d f c s t x ms    so, by the cursors c of the file d; and t says whether all networks of the file are tight
--   Reaches w e ms      e is an address of the first of ms, or one before it
--   passed, from_behind  what is left of ms behind the address e, and the first of it
use Rattle.std.specs.Prelude.{◌≡◌, ℕ, suc, ◌+◌, ◌-◌, ◌*◌, ◌/◌, ◌^◌, ◌≤◌, Bool, true, false, cond, not, ◌&&◌, List, [], ◌∷◌, length, ◌==◌, nat_lt}
use Rattle.nets.specs.Bits.{Bits, val}
use Rattle.nets.specs.Lists.{within}
use Rattle.nets.specs.Networks.{width, value}
use Rattle.address_order.specs.Streams.{shared}
use Rattle.setfile_order.specs.Flow.{head_as, Flow}
use Rattle.setfile_sides.specs.declared.sides.Side.{Side}

unfoldable pub kept : ℕ → ℕ → ℕ
kept x k = x / 2 ^ k * 2 ^ k

unfoldable pub ones : ℕ → ℕ
ones k = 2 ^ cond (nat_lt k 64) k 64 - 1

unfoldable pub first_of : ℕ → Bits → ℕ
first_of w p = val p * 2 ^ (w - length p)

unfoldable pub last_of : ℕ → Bits → ℕ
last_of w p = first_of w p + (2 ^ (w - length p) - 1)

unfoldable pub pairs : Bits → List Bits → Bool
pairs p [] = false
pairs p (q ∷ ms) = suc (shared p q) == length q && length q == length p

unfoldable pub tight : List Bits → Bool
tight [] = true
tight (p ∷ ms) = not (pairs p ms) && tight ms

abbrev pub begins : ℕ → List Bits → ℕ
begins w [] = 0
begins w (p ∷ ms) = first_of w p

abbrev pub Begun : ℕ → Side → ℕ → List Bits → Type 0
Begun w s x [] = Unit
Begun w s x (p ∷ ms) = (x ≤ last_of w p) × (value s.last.hi s.last.lo ≡ last_of w p)

pub record Stands (f : ℕ) (s : Side) (x : ℕ) (ms : List Bits) : Type 0 where
  pub before : Bits
  pub head : s.head ≡ head_as f before ms
  pub from : value s.from.hi s.from.lo ≡ x
  pub begun : Begun (width f) s x ms
  pub within : within (width f) ms ≡ true

pub record Along (d : List ℕ) (f : ℕ) (c : List ℕ) (s : Side) (t : Bool) (x : ℕ) (ms : List Bits) : Type 0 where
  pub flow : Flow d f c ms
  pub stands : Stands f s x ms
  pub short : (s.short && tight ms) ≡ t

abbrev pub Reaches : ℕ → ℕ → List Bits → Type 0
Reaches w e [] = ⊥
Reaches w e (p ∷ ms) = e ≤ last_of w p

abbrev pub passed : ℕ → ℕ → List Bits → List Bits
passed w e [] = []
passed w e (p ∷ ms) = cond (nat_lt e (last_of w p)) (p ∷ ms) ms

abbrev pub from_behind : ℕ → ℕ → List Bits → ℕ
from_behind w e [] = 0
from_behind w e (p ∷ ms) = cond (nat_lt e (last_of w p)) (suc e) (begins w ms)
