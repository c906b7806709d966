-- `outlines::read` meets its contract: a run, and another behind a double colon. Assumes nothing.
-- a double colon ends the first run
use mathlib.Core.Bool.{true}
use mathlib.Core.Path.{◌≡◌, sym, ◌∙◌}
use native.Mathlib.Omega.{arith}
use lib.ListN.{drop}
use Rattle.text_ipv6_read.specs.Reader.{starts_double}
use Rattle.text_ipv6_runs.specs.Places.{ran_as}
use Rattle.text_ipv6_read.proofs.Laying.{starts_double-within, address-quad, address-other, outline-whole, outline-behind}
use Rattle.text_ipv6_read.proofs.outlines.read.Goals as goal

double : (c : goal.After-groups-1) → starts_double (drop c.read-front.result.at c.args.s.now) ≡ true
double c = sym c.double_at.ensures ∙ c.if-not-double_at.false

double-behind : (c : goal.After-behind) → starts_double (drop c.read-front.result.at c.args.s.now) ≡ true
double-behind c = sym c.double_at.ensures ∙ c.if-not-double_at.false

pub returns-then-is_quad : goal.returns-then-is_quad
returns-then-is_quad c = let s = c.args.s.now in
    let f = c.read-front.result in
    rw c.whole.ensures (outline-whole s f c.read-front.ensures.0 (address-quad s (ran_as s f) c.read-front.ensures.1 (sym c.is_quad.ensures ∙ c.if-is_quad.true)))

pub returns-then-not-double_at : goal.returns-then-not-double_at
returns-then-not-double_at c = let s = c.args.s.now in
    let f = c.read-front.result in
    rw c.whole-then-not-double_at.ensures
    (outline-whole s f c.read-front.ensures.0 (address-other s (ran_as s f) c.read-front.ensures.1 (sym c.double_at.ensures ∙ c.if-not-double_at.true)))

pub overflow_add-at : goal.overflow_add-at
overflow_add-at c = omega (arith, starts_double-within c.args.s.now c.read-front.result.at (double c))

pub read-requires : goal.read-requires
read-requires c = let f = c.read-front.ensures.0 in (f.places, f.within)

pub returns : goal.returns
returns c = rw c.behind.ensures
    (outline-behind c.args.s.now c.read-front.result c.read.result c.read-front.ensures.0 c.read.ensures.0 (sym c.is_quad.ensures ∙ c.if-is_quad.false) c.read-front.ensures.1 (double-behind c) c.read.ensures.1)
