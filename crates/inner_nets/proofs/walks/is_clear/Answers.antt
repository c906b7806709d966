-- `walks::is_clear` meets its contract, by the test of its closure. Assumes nothing.
use mathlib.Core.List.{[], ◌∷◌}
use borrow.Author.Rules.{rules}
use Rattle.nets.specs.Networks.{bits_left}
use Rattle.inner_nets.specs.Inner.{overlaps_one}
use Rattle.inner_nets.proofs.Numbered.{is_public-none, overlaps_one-of}
use Rattle.inner_nets.proofs.walks.is_clear.Goals as goal

pub returns : goal.returns
returns c = is_public-none _ _ _ (c.none_meets.ensures (overlaps_one (bits_left c.args.s ∷ [])) (λ q r few k. overlaps_one-of (bits_left c.args.s) (bits_left q) r (search rules)))
