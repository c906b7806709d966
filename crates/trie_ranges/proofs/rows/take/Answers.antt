-- `rows::take` meets its contract, by its test: one address is written, or two. Assumes nothing.
use mathlib.Core.Path.{refl, sym, ◌∙◌}
use Prim.Native.Nat.{◌-◌, ◌*◌}
use native.Mathlib.Omega.{arith}
use Rattle.trie_ranges.proofs.Steps.{take-joins, take-opens}
use Rattle.trie_ranges.proofs.rows.take.Goals as goal

pub overflow_sub-at : goal.overflow_sub-at
overflow_sub-at c = omega (arith, c.requires.n_bound.1 (sym c.goes_on.ensures ∙ c.if-goes_on.true))

pub returns-then-goes_on : goal.returns-then-goes_on
returns-then-goes_on c f p e h = let on = sym c.if-goes_on.true ∙ c.goes_on.ensures in
    take-joins f p c.args.at c.args.x c.last_of-last.result c.after-next.result c.args.rows.now e (c.last_of-last.ensures f p e h)
    c.after-next.ensures c.put_address.new.rows
    (2 * c.args.at.n - 1) refl (c.requires.n_bound.1 (sym on)) on c.put_address.ensures.0 c.put_address.ensures.1

pub returns : goal.returns
returns c f p e h = let on = sym c.if-goes_on.false ∙ c.goes_on.ensures in
    take-opens f p c.args.at c.args.x c.last_of-last.result c.after-next.result c.args.rows.now e (c.last_of-last.ensures f p e h)
    c.after-next.ensures c.put_address-2.new.rows
    c.put_address-3.new.rows on c.put_address-2.ensures.0 c.put_address-3.ensures.0 c.put_address-2.ensures.1 c.put_address-3.ensures.1
