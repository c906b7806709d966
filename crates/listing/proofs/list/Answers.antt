-- `list` meets its contract, each return by the tests on the way to it. Assumes nothing.
use mathlib.Core.Path.{◌≡◌, ◌∙◌}
use native.Mathlib.Omega.{arith}
use borrow.Author.Rules.{rules}
use lib.ListN.{length}
use Rattle.nets.specs.Tries.{list_of}
use Rattle.pool_state.proofs.OnTries.{trie_at}
use Rattle.pool_state.proofs.Seats.{seated-refused}
use Rattle.trie_paths.proofs.Placing.{total-is, counts-fit}
use Rattle.listing.proofs.Seats.{seated-sits}
use Rattle.listing.proofs.ByForm.{held-somewhere}
use Rattle.listing.proofs.Calls.{list-refused, list-few, list-layable, list-short, list-granted}
use Rattle.nets.proofs.Propagated.{propagated}
use Rattle.listing.proofs.list.Goals as goal

pub tally-next-requires : goal.tally-next-requires
tally-next-requires c =
    let h = seated-sits c.args.pool.now c.args.set c.seat_of.ensures _ c.in_ok-s.s c.in_ok-s.was in
    (_, h.1.holds)

pub starts-n-requires : goal.starts-n-requires
starts-n-requires c =
    let h = seated-sits c.args.pool.now c.args.set c.seat_of.ensures _ c.in_ok-s.s c.in_ok-s.was in
    counts-fit (held-somewhere h.1.holds).holds (c.tally-next.ensures _ h.1.holds)

pub overflow_mul-n : goal.overflow_mul-n
overflow_mul-n c =
    let h = seated-sits c.args.pool.now c.args.set c.seat_of.ensures _ c.in_ok-s.s c.in_ok-s.was in
    let n : c.starts-n.result ≡ length (list_of (trie_at h.0 c.args.set)) = c.starts-n.ensures.1 ∙ total-is (held-somewhere h.1.holds).holds (c.tally-next.ensures _ h.1.holds) in
    omega (arith, list-few h.1 n)

pub returns-then-rows-n : goal.returns-then-rows-n
returns-then-rows-n c =
    let h = seated-sits c.args.pool.now c.args.set c.seat_of.ensures _ c.in_ok-s.s c.in_ok-s.was in
    let n : c.starts-n.result ≡ length (list_of (trie_at h.0 c.args.set)) = c.starts-n.ensures.1 ∙ total-is (held-somewhere h.1.holds).holds (c.tally-next.ensures _ h.1.holds) in
    list-short h.1 n c.if-rows-n.true

pub write_rows-requires : goal.write_rows-requires
write_rows-requires c =
    let h = seated-sits c.args.pool.now c.args.set c.seat_of.ensures _ c.in_ok-s.s c.in_ok-s.was in
    let n : c.starts-n.result ≡ length (list_of (trie_at h.0 c.args.set)) = c.starts-n.ensures.1 ∙ total-is (held-somewhere h.1.holds).holds (c.tally-next.ensures _ h.1.holds) in
    (_, list-layable h.1 n (c.tally-next.ensures _ h.1.holds) c.starts-n.ensures.0 c.if-rows-n.false)

pub overflow_cast-result : goal.overflow_cast-result
overflow_cast-result c =
    let h = seated-sits c.args.pool.now c.args.set c.seat_of.ensures _ c.in_ok-s.s c.in_ok-s.was in
    let n : c.starts-n.result ≡ length (list_of (trie_at h.0 c.args.set)) = c.starts-n.ensures.1 ∙ total-is (held-somewhere h.1.holds).holds (c.tally-next.ensures _ h.1.holds) in
    omega (arith, list-few h.1 n)

pub returns-in_err-s : goal.returns-in_err-s
returns-in_err-s c = rw (propagated c.from_residual.ensures) (list-refused _ (seated-refused _ _ c.seat_of.ensures _ c.in_err-s.was))

pub returns : goal.returns
returns c =
    let h = seated-sits c.args.pool.now c.args.set c.seat_of.ensures _ c.in_ok-s.s c.in_ok-s.was in
    let n : c.starts-n.result ≡ length (list_of (trie_at h.0 c.args.set)) = c.starts-n.ensures.1 ∙ total-is (held-somewhere h.1.holds).holds (c.tally-next.ensures _ h.1.holds) in
    list-granted h.1 n c.if-rows-n.false (c.write_rows.ensures _ (list-layable h.1 n (c.tally-next.ensures _ h.1.holds) c.starts-n.ensures.0 c.if-rows-n.false))
