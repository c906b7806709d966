-- `walks::none_of` meets its contract, one inner network at a time. Assumes nothing.
use mathlib.Core.Path.{sym, ◌∙◌}
use Rattle.inner_nets.proofs.Numbered.{left-start, left-done, left-found, left-next, turn, turn-ok}
use Rattle.inner_nets.proofs.walks.none_of.Goals as goal

pub loop-net-init : goal.loop-net-init
loop-net-init g c = λ t h. left-start _ _

pub unwrap-requires : goal.unwrap-requires
unwrap-requires g c = turn-ok _ _ _ _ _ c.requires.inner c.loop-net-test.true c.prefix_bits.ensures

pub meets-requires : goal.meets-requires
meets-requires g c =
    let u = turn _ _ _ _ _ c.requires.inner c.loop-net-test.true c.prefix_bits.ensures _ c.unwrap.ensures in
    c.requires.callable _ u.few u.fits

pub returns-then-meets : goal.returns-then-meets
returns-then-meets g c = λ t h.
    let u = turn _ _ _ _ _ c.requires.inner c.loop-net-test.true c.prefix_bits.ensures _ c.unwrap.ensures in
    left-found (c.loop-net.invariant t h) u (sym (h _ _ u.few c.meets.ensures) ∙ c.if-meets.true)

pub loop-net-preserved : goal.loop-net-preserved
loop-net-preserved g c = λ t h.
    let u = turn _ _ _ _ _ c.requires.inner c.loop-net-test.true c.prefix_bits.ensures _ c.unwrap.ensures in
    left-next (c.loop-net.invariant t h) u (sym (h _ _ u.few c.meets.ensures) ∙ c.if-meets.false)

pub returns : goal.returns
returns g c = λ t h. left-done (c.loop-net.invariant t h) c.requires.inner c.loop-net-test.false
