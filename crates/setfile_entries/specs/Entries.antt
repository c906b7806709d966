-- A network of the family f with no bits past its length, as an entry that is right.
use Rattle.std.specs.Prelude.{true, ◌≡◌, ℕ, ◌<◌, ◌^◌}
use Rattle.nets.specs.Networks.{width, address}
use Rattle.nets.specs.declared.Net.{Net}
use Rattle.setfile_format.specs.Files.{is_clean}

pub record Entry (f : ℕ) (n : Net) : Type 0 where
  pub family : n.family ≡ f
  pub clean : is_clean n ≡ true
  pub range : address n < 2 ^ width f
