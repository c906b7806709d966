-- `save` meets its contract, each return by the tests on the way to it. Assumes nothing.
use mathlib.Core.Path.{◌≡◌, ◌∙◌}
use native.Mathlib.Omega.{arith}
use lib.ListN.{length}
use Prim.Native.Nat.{ℕ}
use mathlib.Core.List.{List}
use Rattle.nets.specs.Tries.{Trie, list_of}
use Rattle.nodes.specs.declared.seats.Seat.{Seat}
use Rattle.trie_paths.specs.Laying.{tallied, clear, sum_to}
use Rattle.listing.specs.Seated.{HeldIn}
use Rattle.pool_state.proofs.Seats.{seated-refused}
use Rattle.listing.proofs.Seats.{seated-sits}
use Rattle.listing.proofs.ByForm.{held-somewhere}
use Rattle.trie_paths.proofs.Placing.{total-is, counts-fit}
use Rattle.setfile_save.proofs.Returns.{save-refused, save-few, save-fits, save-savable, save-short, save-granted}
use Rattle.nets.proofs.Propagated.{propagated}
use Rattle.setfile_save.proofs.save.Goals as goal

-- the number of its networks
counted : {w : List ℕ} {s : Seat} {t : Trie} {c : List ℕ} {n : ℕ} → HeldIn w s t → c ≡ tallied 0 t clear → n ≡ sum_to 129 c → n ≡ length (list_of t)
counted h e f = f ∙ total-is (held-somewhere h).holds e

pub tally-next-requires : goal.tally-next-requires
tally-next-requires c = (_, (seated-sits _ _ c.seat_of.ensures _ _ c.in_ok-s.was).1.holds)

pub starts-n-requires : goal.starts-n-requires
starts-n-requires c = let h = (seated-sits _ _ c.seat_of.ensures _ _ c.in_ok-s.was).1.holds in counts-fit (held-somewhere h).holds (c.tally-next.ensures _ h)

pub file_bytes-size-requires : goal.file_bytes-size-requires
file_bytes-size-requires c = let h = (seated-sits _ _ c.seat_of.ensures _ _ c.in_ok-s.was).1 in
    save-few h (counted h.holds (c.tally-next.ensures _ h.holds) c.starts-n.ensures.1)

pub returns-then-out-size : goal.returns-then-out-size
returns-then-out-size c = let h = (seated-sits _ _ c.seat_of.ensures _ _ c.in_ok-s.was).1 in
    save-short h (counted h.holds (c.tally-next.ensures _ h.holds) c.starts-n.ensures.1) c.file_bytes-size.ensures c.if-out-size.true

pub write_seated-requires : goal.write_seated-requires
write_seated-requires c = let h = (seated-sits _ _ c.seat_of.ensures _ _ c.in_ok-s.was).1 in
    (_, save-savable h (counted h.holds (c.tally-next.ensures _ h.holds) c.starts-n.ensures.1) c.file_bytes-size.ensures (c.tally-next.ensures _ h.holds) c.starts-n.ensures.0 c.if-out-size.false)

pub overflow_cast-result : goal.overflow_cast-result
overflow_cast-result c = let h = (seated-sits _ _ c.seat_of.ensures _ _ c.in_ok-s.was).1 in
    omega (arith, save-fits h (counted h.holds (c.tally-next.ensures _ h.holds) c.starts-n.ensures.1) c.file_bytes-size.ensures)

pub returns-in_err-s : goal.returns-in_err-s
returns-in_err-s c = rw (propagated c.from_residual.ensures) (save-refused _ (seated-refused _ _ c.seat_of.ensures _ c.in_err-s.was))

pub returns : goal.returns
returns c = let h = (seated-sits _ _ c.seat_of.ensures _ _ c.in_ok-s.was).1 in
    let n = counted h.holds (c.tally-next.ensures _ h.holds) c.starts-n.ensures.1 in
    let q = c.file_bytes-size.ensures in
    save-granted h n q c.if-out-size.false (c.write_seated.ensures _ (save-savable h n q (c.tally-next.ensures _ h.holds) c.starts-n.ensures.0 c.if-out-size.false))
