-- `ipv6::put_text` meets its contract: each call stores behind the one before it, and what they store makes the text. Assumes nothing.
use mathlib.Core.Path.{◌≡◌, ap, ◌∙◌}
use Prim.Native.Nat.{◌+◌, ◌≤◌}
use native.Mathlib.Omega.{arith}
use lib.ListN.{length, length-set}
use lib.Seq.{length-sets}
use Rattle.text_decimal.proofs.Writing.{stored-append}
use Rattle.text_ipv6_write.specs.Ipv6.{joined}
use Rattle.text_ipv6_write.proofs.Colons.{part}
use Rattle.text_ipv6_write.proofs.Texts.{within, whole, around, length-sides, stored-colons}
use Rattle.text_ipv6_write.proofs.ipv6.put_text.Goals as goal

eight : (c : goal.After-put-arg-1) → length c.args.g ≡ 8
eight c = c.well_formed.1.0.1.0.1

eight-slice_known-then-r-lt-shortest-1 : (c : goal.After-slice_known-then-r-lt-SHORTEST-1) → length c.args.g ≡ 8
eight-slice_known-then-r-lt-shortest-1 c = c.well_formed.1.0.1.0.1

eight-put-arg-2-1 : (c : goal.After-put-arg-2-1) → length c.args.g ≡ 8
eight-put-arg-2-1 c = c.well_formed.1.0.1.0.1

room : (c : goal.After-put-arg-2-1) → c.longest-r.result.at + c.longest-r.result.count ≤ 8
room c = within c.args.g c.longest-r.result.at c.longest-r.result.count (eight-put-arg-2-1 c) c.longest-r.ensures

-- both sides and the colons between them find room
fits : (c : goal.After-put-arg-2-1) → let r = c.longest-r.result in let a = c.args in
    length (joined (part 0 r.at a.g)) + 2 + length (joined (part (r.at + r.count) 8 a.g)) ≤ length a.out.now
fits c = let r = c.longest-r.result in
    omega (
      arith,
      c.requires,
      ap length (around c.args.g r.at r.count (eight-put-arg-2-1 c) c.longest-r.ensures c.if-r-lt-SHORTEST.false),
      length-sides c.args.g r.at r.count,
    )

eight-slice_known-2-1 : (c : goal.After-slice_known-2-1) → length c.args.g ≡ 8
eight-slice_known-2-1 c = c.well_formed.1.0.1.0.1

-- both sides and the colons between them find room
fits-slice_known-2-1 : (c : goal.After-slice_known-2-1) → let r = c.longest-r.result in let a = c.args in
    length (joined (part 0 r.at a.g)) + 2 + length (joined (part (r.at + r.count) 8 a.g)) ≤ length a.out.now
fits-slice_known-2-1 c = let r = c.longest-r.result in
    omega (
      arith,
      c.requires,
      ap length (around c.args.g r.at r.count (eight-slice_known-2-1 c) c.longest-r.ensures c.if-r-lt-SHORTEST.false),
      length-sides c.args.g r.at r.count,
    )

-- as many bytes as there were
same : (c : goal.After-slice_known-2-1) → length c.put-left.new.out ≡ length c.args.out.now
same c = let a = c.args in
    ap length c.put-left.ensures.bytes ∙ length-sets a.out.now 0 (joined (part 0 c.longest-r.result.at a.g))

eight-put-arg-3-1 : (c : goal.After-put-arg-3-1) → length c.args.g ≡ 8
eight-put-arg-3-1 c = c.well_formed.1.0.1.0.1

-- both sides and the colons between them find room
fits-put-arg-3-1 : (c : goal.After-put-arg-3-1) → let r = c.longest-r.result in let a = c.args in
    length (joined (part 0 r.at a.g)) + 2 + length (joined (part (r.at + r.count) 8 a.g)) ≤ length a.out.now
fits-put-arg-3-1 c = let r = c.longest-r.result in
    omega (
      arith,
      c.requires,
      ap length (around c.args.g r.at r.count (eight-put-arg-3-1 c) c.longest-r.ensures c.if-r-lt-SHORTEST.false),
      length-sides c.args.g r.at r.count,
    )

-- as many bytes as there were
same-put-arg-3-1 : (c : goal.After-put-arg-3-1) → length c.put-left.new.out ≡ length c.args.out.now
same-put-arg-3-1 c = let a = c.args in
    ap length c.put-left.ensures.bytes ∙ length-sets a.out.now 0 (joined (part 0 c.longest-r.result.at a.g))

eight-struct_known-2-1 : (c : goal.After-struct_known-2-1) → length c.args.g ≡ 8
eight-struct_known-2-1 c = c.well_formed.1.0.1.0.1

room-struct_known-2-1 : (c : goal.After-struct_known-2-1) → c.longest-r.result.at + c.longest-r.result.count ≤ 8
room-struct_known-2-1 c = within c.args.g c.longest-r.result.at c.longest-r.result.count (eight-struct_known-2-1 c) c.longest-r.ensures

-- both sides and the colons between them find room
fits-struct_known-2-1 : (c : goal.After-struct_known-2-1) → let r = c.longest-r.result in let a = c.args in
    length (joined (part 0 r.at a.g)) + 2 + length (joined (part (r.at + r.count) 8 a.g)) ≤ length a.out.now
fits-struct_known-2-1 c = let r = c.longest-r.result in
    omega (
      arith,
      c.requires,
      ap length (around c.args.g r.at r.count (eight-struct_known-2-1 c) c.longest-r.ensures c.if-r-lt-SHORTEST.false),
      length-sides c.args.g r.at r.count,
    )

-- as many bytes as there were
same-struct_known-2-1 : (c : goal.After-struct_known-2-1) → length c.put-left.new.out ≡ length c.args.out.now
same-struct_known-2-1 c = let a = c.args in
    ap length c.put-left.ensures.bytes ∙ length-sets a.out.now 0 (joined (part 0 c.longest-r.result.at a.g))

-- as many bytes as there were
same-slice_known-3-1 : (c : goal.After-slice_known-3-1) → length c.put-left.new.out ≡ length c.args.out.now
same-slice_known-3-1 c = let a = c.args in
    ap length c.put-left.ensures.bytes ∙ length-sets a.out.now 0 (joined (part 0 c.longest-r.result.at a.g))

eight-slice_known-3-1 : (c : goal.After-slice_known-3-1) → length c.args.g ≡ 8
eight-slice_known-3-1 c = c.well_formed.1.0.1.0.1

pub put-requires : goal.put-requires
put-requires c = let r = c.longest-r.result in
    (omega arith, omega (arith, c.requires, ap length (whole c.args.g r.at r.count (eight c) c.longest-r.ensures c.if-r-lt-SHORTEST.true)))

pub returns-then-r-lt-SHORTEST : goal.returns-then-r-lt-SHORTEST
returns-then-r-lt-SHORTEST c = let r = c.longest-r.result in
    rw (whole c.args.g r.at r.count (eight-slice_known-then-r-lt-shortest-1 c) c.longest-r.ensures c.if-r-lt-SHORTEST.true) c.put.ensures

pub put-left-requires : goal.put-left-requires
put-left-requires c = (omega (arith, room c), omega (arith, fits c))

pub bounds-out-left : goal.bounds-out-left
bounds-out-left c = omega (arith, fits-slice_known-2-1 c, same c, c.put-left.ensures.place)

pub overflow_add-out : goal.overflow_add-out
overflow_add-out c = omega (arith, fits-slice_known-2-1 c, same c, c.put-left.ensures.place)

pub bounds-out-left-2 : goal.bounds-out-left-2
bounds-out-left-2 c = simp length-set (omega (arith, fits-slice_known-2-1 c, same c, c.put-left.ensures.place))

pub overflow_add-left : goal.overflow_add-left
overflow_add-left c = omega (arith, fits-put-arg-3-1 c, same-put-arg-3-1 c, c.put-left.ensures.place)

pub overflow_add-r : goal.overflow_add-r
overflow_add-r c = omega (arith, room-struct_known-2-1 c)

pub put-requires-2 : goal.put-requires-2
put-requires-2 c = (omega arith, simp length-set (omega (arith, fits-struct_known-2-1 c, same-struct_known-2-1 c, c.put-left.ensures.place)))

pub shape_of-out : goal.shape_of-out
shape_of-out c = ap length c.put-2.ensures.bytes ∙ simp (length-sets, length-set) (same-slice_known-3-1 c)

pub returns : goal.returns
returns c = let r = c.longest-r.result in
    rw (around c.args.g r.at r.count (eight-slice_known-3-1 c) c.longest-r.ensures c.if-r-lt-SHORTEST.false)
    (stored-append c.put-left.ensures (stored-append (stored-colons c.put-left.new.out c.put-left.result) c.put-2.ensures))
