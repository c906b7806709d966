-- When a list is a shortest one of some addresses. An address is a string as long as the width.
--
--   Exactly w f l     of the addresses of width w the list l covers those of which f holds, and no others. l is any list: its members may stand in any order,
--                     inside others, and several times
--   Shortest w f l    l does so, and no list that does is shorter
use Rattle.std.specs.Prelude.{Bool, List, ◌≡◌, ℕ, ◌≤◌, length}
use Rattle.nets.specs.Bits.{Bits}
use Rattle.nets.specs.Lists.{covers}

abbrev pub Exactly : ℕ → (Bits → Bool) → List Bits → Type 0
Exactly w f l = (a : Bits) → length a ≡ w → covers l a ≡ f a

pub record Shortest (w : ℕ) (f : Bits → Bool) (l : List Bits) : Type 0 where
  pub exactly : Exactly w f l
  pub fewest : (m : List Bits) → Exactly w f m → length l ≤ length m
