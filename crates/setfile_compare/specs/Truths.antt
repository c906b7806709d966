-- When each of the three answers is true, said of all addresses and of all lists. An address is a string as long as the width.
--
--   Holds h l m a         of the lists l and m only the one of the file h covers a
--   FirstAt w h l m a     a is the smallest address of w bits on which l and m differ, and the file h holds it
--   Truth f l m r         the answer r is true of the lists l and m of the family f
use Rattle.std.specs.Prelude.{true, false, List, ◌≡◌, ℕ, ◌<◌, length, Result, Ok, Err}
use Rattle.nets.specs.Bits.{Bits, val}
use Rattle.nets.specs.Lists.{covers}
use Rattle.nets.specs.Networks.{width, net_from}
use Rattle.nets.specs.Shortest.{Exactly, Shortest}
use Rattle.nets.specs.declared.Refusal.{Refusal}
use Rattle.setfile_compare.specs.declared.Holder.{Holder}
use Rattle.setfile_compare.specs.declared.Holder.TheVariants as holder
use Rattle.setfile_compare.specs.declared.Compared.{Compared}
use Rattle.setfile_compare.specs.declared.Compared.TheVariants as compare

abbrev pub Holds : Holder → List Bits → List Bits → Bits → Type 0
Holds holder.First l m a = (covers l a ≡ true) × (covers m a ≡ false)
Holds holder.Second l m a = (covers l a ≡ false) × (covers m a ≡ true)

pub record FirstAt (w : ℕ) (h : Holder) (l m : List Bits) (a : Bits) : Type 0 where
  pub address : length a ≡ w
  pub held : Holds h l m a
  pub before : (b : Bits) → length b ≡ w → val b < val a → covers l b ≡ covers m b

abbrev pub Truth : ℕ → List Bits → List Bits → Result Compared Refusal → Type 0
Truth f l m (Ok (compare.Differs h n)) = (a : Bits) × FirstAt (width f) h l m a × (n ≡ net_from f a)
Truth f l m (Ok compare.Longer) = Exactly (width f) (covers l) m × (Shortest (width f) (covers l) m → ⊥)
Truth f l m (Ok compare.Shortest) = Shortest (width f) (covers l) m
Truth f l m (Err r) = ⊥
