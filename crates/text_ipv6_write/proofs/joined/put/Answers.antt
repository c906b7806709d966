-- `joined::put` meets its contract. The loop's invariant: a text behind the first group, up to the group i, and what is left. Assumes nothing.
use mathlib.Core.List.{[], ◌∷◌}
use mathlib.Core.Path.{◌≡◌, refl, ap, ◌∙◌}
use Prim.Native.Nat.{◌+◌, ◌-◌, ◌≤◌}
use native.Mathlib.Omega.{arith}
use lib.ListN.{length, length-append, length-set, get_or}
use lib.Seq.{length-sets}
use Rattle.text_decimal.proofs.Writing.{stored-append}
use Rattle.text_hex.specs.Hex.{hex_digits_of, colon}
use Rattle.text_ipv6_write.specs.Ipv6.{led}
use Rattle.text_ipv6_write.proofs.Colons.{part, put-start, put-room, put-length, put_step, put_all, joined-none, joined-cons}
use Rattle.text_ipv6_write.proofs.joined.put.Goals as goal

eight : (c : goal.Then-to-from) → c.args.to ≤ length c.args.g
eight c = omega (arith, c.well_formed.1.1.0.1.0.1)

eight-put-arg-1 : (c : goal.After-put-arg-1) → c.args.to ≤ length c.args.g
eight-put-arg-1 c = omega (arith, c.well_formed.1.1.0.1.0.1)

eight-in-loop-i : (c : goal.In-loop-i) → c.args.to ≤ length c.args.g
eight-in-loop-i c = omega (arith, c.well_formed.1.1.0.1.0.1)

-- what is left behind the first group finds room, and so does each group of it
room : (c : goal.In-loop-i) → let a = c.args in
    c.put-next.result + length (led (part (a.from + 1) a.to a.g)) ≤ length a.out.now
room c = let a = c.args in
    omega (
      arith,
      c.requires.1,
      c.put-next.ensures.place,
      ap length (joined-cons a.g a.from a.to c.if-to-from.false (eight-in-loop-i c)),
      length-append (hex_digits_of (get_or a.g a.from 0)) (led (part (a.from + 1) a.to a.g)),
    )

-- as many bytes as there were: behind the first group, and in the loop
same : (c : goal.In-loop-i) → length c.put-next.new.out ≡ length c.args.out.now
same c = let a = c.args in
    ap length c.put-next.ensures.bytes ∙ length-sets a.out.now a.at (hex_digits_of (get_or a.g a.from 0))

same-still : (c : goal.In-loop-i) → length c.loop-i.out ≡ length c.args.out.now
same-still c = let l = c.loop-i in
    let a = c.args in
    put-length c.put-next.new.out c.put-next.result a.g (a.from + 1) a.to (eight-in-loop-i c) l.i l.out l.next l.invariant ∙ same c

fits : (c : goal.In-loop-i) → let l = c.loop-i in let a = c.args in
    l.next + (1 + length (hex_digits_of (get_or a.g l.i 0))) ≤ length l.out
fits c = let l = c.loop-i in
    let a = c.args in
    omega (
      arith,
      room c,
      same-still c,
      put-room c.put-next.new.out c.put-next.result a.g (a.from + 1) a.to (eight-in-loop-i c) l.i l.out l.next c.loop-i-test.true l.invariant,
    )

eight-put-arg-in-loop-i-1-unread : (c : goal.After-put-arg-in-loop-i-1-unread) → c.args.to ≤ length c.args.g
eight-put-arg-in-loop-i-1-unread c = omega (arith, c.well_formed.1.1.0.1.0.1)

-- what is left behind the first group finds room, and so does each group of it
room-put-arg-in-loop-i-1-unread : (c : goal.After-put-arg-in-loop-i-1-unread) → let a = c.args in
    c.put-next.result + length (led (part (a.from + 1) a.to a.g)) ≤ length a.out.now
room-put-arg-in-loop-i-1-unread c = let a = c.args in
    omega (
      arith,
      c.requires.1,
      c.put-next.ensures.place,
      ap length (joined-cons a.g a.from a.to c.if-to-from.false (eight-put-arg-in-loop-i-1-unread c)),
      length-append (hex_digits_of (get_or a.g a.from 0)) (led (part (a.from + 1) a.to a.g)),
    )

-- as many bytes as there were: behind the first group, and in the loop
same-put-arg-in-loop-i-1-unread : (c : goal.After-put-arg-in-loop-i-1-unread) → length c.put-next.new.out ≡ length c.args.out.now
same-put-arg-in-loop-i-1-unread c = let a = c.args in
    ap length c.put-next.ensures.bytes ∙ length-sets a.out.now a.at (hex_digits_of (get_or a.g a.from 0))

same-still-put-arg-in-loop-i-1-unread : (c : goal.After-put-arg-in-loop-i-1-unread) → length c.loop-i.out ≡ length c.args.out.now
same-still-put-arg-in-loop-i-1-unread c = let l = c.loop-i in
    let a = c.args in
    put-length c.put-next.new.out c.put-next.result a.g (a.from + 1) a.to (eight-put-arg-in-loop-i-1-unread c) l.i l.out l.next l.invariant ∙ same-put-arg-in-loop-i-1-unread c

fits-put-arg-in-loop-i-1-unread : (c : goal.After-put-arg-in-loop-i-1-unread) → let l = c.loop-i in let a = c.args in
    l.next + (1 + length (hex_digits_of (get_or a.g l.i 0))) ≤ length l.out
fits-put-arg-in-loop-i-1-unread c = let l = c.loop-i in
    let a = c.args in
    omega (
      arith,
      room-put-arg-in-loop-i-1-unread c,
      same-still-put-arg-in-loop-i-1-unread c,
      put-room c.put-next.new.out c.put-next.result a.g (a.from + 1) a.to (eight-put-arg-in-loop-i-1-unread c) l.i l.out l.next c.loop-i-test.true l.invariant,
    )

eight-put-arg-in-loop-i-1 : (c : goal.After-put-arg-in-loop-i-1) → c.args.to ≤ length c.args.g
eight-put-arg-in-loop-i-1 c = omega (arith, c.well_formed.1.1.0.1.0.1)

-- what is left behind the first group finds room, and so does each group of it
room-put-arg-in-loop-i-1 : (c : goal.After-put-arg-in-loop-i-1) → let a = c.args in
    c.put-next.result + length (led (part (a.from + 1) a.to a.g)) ≤ length a.out.now
room-put-arg-in-loop-i-1 c = let a = c.args in
    omega (
      arith,
      c.requires.1,
      c.put-next.ensures.place,
      ap length (joined-cons a.g a.from a.to c.if-to-from.false (eight-put-arg-in-loop-i-1 c)),
      length-append (hex_digits_of (get_or a.g a.from 0)) (led (part (a.from + 1) a.to a.g)),
    )

-- as many bytes as there were: behind the first group, and in the loop
same-put-arg-in-loop-i-1 : (c : goal.After-put-arg-in-loop-i-1) → length c.put-next.new.out ≡ length c.args.out.now
same-put-arg-in-loop-i-1 c = let a = c.args in
    ap length c.put-next.ensures.bytes ∙ length-sets a.out.now a.at (hex_digits_of (get_or a.g a.from 0))

same-still-put-arg-in-loop-i-1 : (c : goal.After-put-arg-in-loop-i-1) → length c.loop-i.out ≡ length c.args.out.now
same-still-put-arg-in-loop-i-1 c = let l = c.loop-i in
    let a = c.args in
    put-length c.put-next.new.out c.put-next.result a.g (a.from + 1) a.to (eight-put-arg-in-loop-i-1 c) l.i l.out l.next l.invariant ∙ same-put-arg-in-loop-i-1 c

fits-put-arg-in-loop-i-1 : (c : goal.After-put-arg-in-loop-i-1) → let l = c.loop-i in let a = c.args in
    l.next + (1 + length (hex_digits_of (get_or a.g l.i 0))) ≤ length l.out
fits-put-arg-in-loop-i-1 c = let l = c.loop-i in
    let a = c.args in
    omega (
      arith,
      room-put-arg-in-loop-i-1 c,
      same-still-put-arg-in-loop-i-1 c,
      put-room c.put-next.new.out c.put-next.result a.g (a.from + 1) a.to (eight-put-arg-in-loop-i-1 c) l.i l.out l.next c.loop-i-test.true l.invariant,
    )

eight-slice_known-in-loop-i-1 : (c : goal.After-slice_known-in-loop-i-1) → c.args.to ≤ length c.args.g
eight-slice_known-in-loop-i-1 c = omega (arith, c.well_formed.1.1.0.1.0.1)

eight-loop-i : (c : goal.After-loop-i) → c.args.to ≤ length c.args.g
eight-loop-i c = omega (arith, c.well_formed.1.1.0.1.0.1)

-- as many bytes as there were: behind the first group, and in the loop
same-loop-i : (c : goal.After-loop-i) → length c.put-next.new.out ≡ length c.args.out.now
same-loop-i c = let a = c.args in
    ap length c.put-next.ensures.bytes ∙ length-sets a.out.now a.at (hex_digits_of (get_or a.g a.from 0))

same-still-loop-i : (c : goal.After-loop-i) → length c.loop-i.out ≡ length c.args.out.now
same-still-loop-i c = let l = c.loop-i in
    let a = c.args in
    put-length c.put-next.new.out c.put-next.result a.g (a.from + 1) a.to (eight-loop-i c) l.i l.out l.next l.invariant ∙ same-loop-i c

pub returns-then-to-from : goal.returns-then-to-from
returns-then-to-from c = rw (joined-none c.args.g c.args.from c.args.to c.if-to-from.true (eight c)) (record { place = omega arith; bytes = refl })

pub put-next-requires : goal.put-next-requires
put-next-requires c = let a = c.args in
    omega (
      arith,
      c.requires.1,
      ap length (joined-cons a.g a.from a.to c.if-to-from.false (eight-put-arg-1 c)),
      length-append (hex_digits_of (get_or a.g a.from 0)) (led (part (a.from + 1) a.to a.g)),
    )

pub loop-i-init : goal.loop-i-init
loop-i-init c = let a = c.args in
    put-start c.put-next.new.out c.put-next.result a.g (a.from + 1) a.to (omega arith)

pub bounds-out-next : goal.bounds-out-next
bounds-out-next c = omega (arith, fits c)

pub overflow_add-next : goal.overflow_add-next
overflow_add-next c = omega (arith, fits-put-arg-in-loop-i-1-unread c, same-still-put-arg-in-loop-i-1-unread c)

pub offset_bounds-g-i : goal.offset_bounds-g-i
offset_bounds-g-i c = omega (arith, c.loop-i.invariant.within)

pub bounds-g-i : goal.bounds-g-i
bounds-g-i c = omega (arith, c.loop-i.invariant.within)

pub put-next-requires-in-loop-i : goal.put-next-requires-in-loop-i
put-next-requires-in-loop-i c = simp length-set (omega (arith, fits-put-arg-in-loop-i-1 c))

pub loop-i-preserved : goal.loop-i-preserved
loop-i-preserved c = let l = c.loop-i in
    let a = c.args in
    put_step c.put-next.new.out c.put-next.result a.g (a.from + 1) a.to (eight-slice_known-in-loop-i-1 c) l.i l.out l.next c.put-next-in-loop-i.new.out
    c.put-next-in-loop-i.result c.loop-i-test.true l.invariant
    (stored-append {s = colon ∷ []} (record { place = refl; bytes = refl }) c.put-next-in-loop-i.ensures)

pub shape_of-out : goal.shape_of-out
shape_of-out c = same-still-loop-i c

pub returns : goal.returns
returns c = let l = c.loop-i in
    let a = c.args in
    rw (joined-cons a.g a.from a.to c.if-to-from.false (eight-loop-i c))
    (stored-append c.put-next.ensures
    (put_all c.put-next.new.out c.put-next.result a.g (a.from + 1) a.to (eight-loop-i c) l.i l.out l.next c.loop-i-test.false l.invariant))
