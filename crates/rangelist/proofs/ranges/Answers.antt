-- `ranges` meets its contract, each return by the tests on the way to it. Assumes nothing.
use mathlib.Core.Path.{◌≡◌}
use native.Mathlib.Omega.{arith}
use lib.ListN.{length}
use Rattle.pool_state.proofs.OnTries.{trie_at}
use Rattle.pool_state.proofs.Seats.{seated-refused}
use Rattle.listing.proofs.Seats.{seated-sits}
use Rattle.trie_ranges.specs.Opening.{ranges_t}
use Rattle.rangelist.proofs.Calls.{ranges-refused, ranges-short, ranges-granted}
use Rattle.nets.proofs.Propagated.{propagated}
use Rattle.rangelist.proofs.ranges.Goals as goal

pub write_ranges-n-requires : goal.write_ranges-n-requires
write_ranges-n-requires c =
    let h = seated-sits c.args.pool.now c.args.set c.seat_of.ensures _ c.in_ok-s.s c.in_ok-s.was in
    (_, h.1.holds)

pub overflow_mul-n : goal.overflow_mul-n
overflow_mul-n c =
    let h = seated-sits c.args.pool.now c.args.set c.seat_of.ensures _ c.in_ok-s.s c.in_ok-s.was in
    omega (arith, (c.write_ranges-n.ensures _ h.1.holds).few)

pub returns-then-rows-n : goal.returns-then-rows-n
returns-then-rows-n c =
    let h = seated-sits c.args.pool.now c.args.set c.seat_of.ensures _ c.in_ok-s.s c.in_ok-s.was in
    let n : c.write_ranges-n.result ≡ length (ranges_t c.in_ok-s.s.family (trie_at h.0 c.args.set)) = (c.write_ranges-n.ensures _ h.1.holds).count in
    ranges-short h.1 n c.if-rows-n.true

pub write_ranges-requires : goal.write_ranges-requires
write_ranges-requires c =
    let h = seated-sits c.args.pool.now c.args.set c.seat_of.ensures _ c.in_ok-s.s c.in_ok-s.was in
    (_, h.1.holds)

pub overflow_cast-result : goal.overflow_cast-result
overflow_cast-result c =
    let h = seated-sits c.args.pool.now c.args.set c.seat_of.ensures _ c.in_ok-s.s c.in_ok-s.was in
    omega (arith, (c.write_ranges-n.ensures _ h.1.holds).few)

pub returns-in_err-s : goal.returns-in_err-s
returns-in_err-s c = rw (propagated c.from_residual.ensures) (ranges-refused _ (seated-refused _ _ c.seat_of.ensures _ c.in_err-s.was))

pub returns : goal.returns
returns c =
    let h = seated-sits c.args.pool.now c.args.set c.seat_of.ensures _ c.in_ok-s.s c.in_ok-s.was in
    let n : c.write_ranges-n.result ≡ length (ranges_t c.in_ok-s.s.family (trie_at h.0 c.args.set)) = (c.write_ranges-n.ensures _ h.1.holds).count in
    ranges-granted h.1 n c.if-rows-n.false (c.write_ranges.ensures _ h.1.holds)
