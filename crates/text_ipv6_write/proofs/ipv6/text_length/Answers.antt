-- `ipv6::text_length` meets its contract. Assumes nothing.
use mathlib.Core.Path.{◌≡◌, ap, sym, ◌∙◌}
use Prim.Native.Nat.{◌+◌, ◌≤◌}
use native.Mathlib.Omega.{arith}
use lib.ListN.{length}
use Rattle.text_ipv6_write.proofs.Texts.{within, whole, around, length-sides}
use Rattle.text_ipv6_write.proofs.ipv6.text_length.Goals as goal

eight : (c : goal.After-length) → length c.args.g ≡ 8
eight c = c.well_formed.0.1.0.1

eight-else-r-lt-shortest : (c : goal.Else-r-lt-SHORTEST) → length c.args.g ≡ 8
eight-else-r-lt-shortest c = c.well_formed.0.1.0.1

room : (c : goal.Else-r-lt-SHORTEST) → c.longest-r.result.at + c.longest-r.result.count ≤ 8
room c = within c.args.g c.longest-r.result.at c.longest-r.result.count (eight-else-r-lt-shortest c) c.longest-r.ensures

eight-struct_known-2-1 : (c : goal.After-struct_known-2-1) → length c.args.g ≡ 8
eight-struct_known-2-1 c = c.well_formed.0.1.0.1

room-struct_known-2-1 : (c : goal.After-struct_known-2-1) → c.longest-r.result.at + c.longest-r.result.count ≤ 8
room-struct_known-2-1 c = within c.args.g c.longest-r.result.at c.longest-r.result.count (eight-struct_known-2-1 c) c.longest-r.ensures

eight-length-3 : (c : goal.After-length-3) → length c.args.g ≡ 8
eight-length-3 c = c.well_formed.0.1.0.1

pub returns-then-r-lt-SHORTEST : goal.returns-then-r-lt-SHORTEST
returns-then-r-lt-SHORTEST c = let r = c.longest-r.result in
    record { value = c.length.ensures.value ∙ ap length (sym (whole c.args.g r.at r.count (eight c) c.longest-r.ensures c.if-r-lt-SHORTEST.true)); upper_bound = (omega (arith, c.length.ensures.upper_bound)) }

pub length-requires-2 : goal.length-requires-2
length-requires-2 c = omega (arith, room c)

pub overflow_add-r : goal.overflow_add-r
overflow_add-r c = omega (arith, room-struct_known-2-1 c)

pub returns : goal.returns
returns c = let g = c.args.g in
    let r = c.longest-r.result in
    record {
      value = omega (
        arith,
        c.length-3.ensures.value,
        c.length-2.ensures.value,
        ap length (around g r.at r.count (eight-length-3 c) c.longest-r.ensures c.if-r-lt-SHORTEST.false),
        length-sides g r.at r.count,
      );
      upper_bound = (omega (arith, c.length-3.ensures.upper_bound, c.length-2.ensures.upper_bound));
    }
