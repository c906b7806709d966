-- `ipv4::quad` meets its contract: what its four calls read is what `read_quad` reads. Assumes nothing.
use mathlib.Core.Path.{ap, ◌∙◌}
use Rattle.text.specs.Ipv4.{dot, slash, read_next, read_quad}
use Rattle.text.proofs.ipv4.quad.Goals as goal

pub returns : goal.returns
unfolding read_quad
returns c = let d = c.next.ensures.result_value in
    let e = c.next-c.ensures.result_value in
    let f = c.next-b.ensures.result_value in
    let g = c.next-a.ensures.result_value in
    d ∙ ap (read_next slash) (e ∙ ap (read_next dot) (f ∙ ap (read_next dot) g))
