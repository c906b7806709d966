-- `first::family` meets its contract. Assumes nothing.
-- what was read is the first line
use mathlib.Core.Path.{◌≡◌, ap, sym, ◌∙◌}
use lib.Seq.{length-take-le}
use Rattle.text_either.specs.Either.{entered_either}
use Rattle.text_either.specs.First.{first_family, first_line}
use Rattle.text_either.proofs.Firsts.{family-network, family-refused}
use Rattle.nets.specs.Networks.{entered_as}
use Rattle.text_either.proofs.first.family.Goals as goal

line : (c : goal.In-Ok) → let s = c.args.input.now in entered_as c.read_line.result ≡ entered_either (first_line s)
line c = c.read_line.ensures ∙ ap entered_either c.end-at.ensures.1

line-in-refused : (c : goal.In-Err) → let s = c.args.input.now in entered_as c.read_line.result ≡ entered_either (first_line s)
line-in-refused c = c.read_line.ensures ∙ ap entered_either c.end-at.ensures.1

pub slice_bounds-read_line-end : goal.slice_bounds-read_line-end
unfolding first_family
slice_bounds-read_line-end c = sym (length-take-le c.end-at.result c.args.input.now c.end-at.ensures.0)

pub returns-in-Ok : goal.returns-in-Ok
unfolding first_family
returns-in-Ok c = family-network (first_line c.args.input.now) c.in-Ok.is (line c)

pub returns-in-Err : goal.returns-in-Err
unfolding first_family
returns-in-Err c = family-refused (first_line c.args.input.now) c.in-Err.is (line-in-refused c)
