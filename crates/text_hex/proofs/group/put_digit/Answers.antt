-- `group::put_digit` meets its contract. Assumes nothing.
use mathlib.Core.Path.{refl, sym}
use Rattle.text_hex.proofs.group.put_digit.Goals as goal

pub returns : goal.returns
returns c = rw (sym c.byte.ensures) (record { place = refl; bytes = refl })
