-- `ipv6::write` meets its contract: the slash and the length are stored behind the text. Assumes nothing.
-- the text is stored, and leaves as many bytes as there were
use mathlib.Core.List.{[], ◌∷◌}
use mathlib.Core.Path.{◌≡◌, refl, ap, ◌∙◌}
use Prim.Native.Nat.{◌+◌, ◌≤◌}
use native.Mathlib.Omega.{arith}
use lib.ListN.{length, length-set}
use lib.Seq.{length-sets}
use Rattle.nets.specs.Networks.{address}
use Rattle.text_decimal.specs.Decimal.{digits_of}
use Rattle.text.specs.Ipv4.{slash}
use Rattle.text_decimal.specs.Places.{Stored}
use Rattle.text_decimal.proofs.Writing.{stored-append}
use Rattle.text_ipv6_write.specs.Ipv6.{groups_of, text_of}
use Rattle.text_ipv6_write.proofs.Texts.{length-line_as6, stored-line_as6}
use Rattle.text_ipv6_write.proofs.ipv6.write.Goals as goal

text : (c : goal.After-slice_known-2-1) → let a = c.args in
    Stored a.out.now 0 (text_of (groups_of (address a.net))) c.put_text-end.new.out c.put_text-end.result
text c = rw c.of.ensures at c.put_text-end.ensures

same : (c : goal.After-slice_known-2-1) → length c.put_text-end.new.out ≡ length c.args.out.now
same c = let a = c.args in ap length (text c).bytes ∙ length-sets a.out.now 0 (text_of (groups_of (address a.net)))

-- the slash and the length find room
fits : (c : goal.After-slice_known-2-1)
    → c.put_text-end.result + (1 + length (digits_of c.args.net.len)) ≤ length c.put_text-end.new.out
fits c = omega (arith, c.requires, (text c).place, same c, length-line_as6 c.args.net)

text-put-arg-1 : (c : goal.After-put-arg-1) → let a = c.args in
    Stored a.out.now 0 (text_of (groups_of (address a.net))) c.put_text-end.new.out c.put_text-end.result
text-put-arg-1 c = rw c.of.ensures at c.put_text-end.ensures

same-put-arg-1 : (c : goal.After-put-arg-1) → length c.put_text-end.new.out ≡ length c.args.out.now
same-put-arg-1 c = let a = c.args in ap length (text-put-arg-1 c).bytes ∙ length-sets a.out.now 0 (text_of (groups_of (address a.net)))

-- the slash and the length find room
fits-put-arg-1 : (c : goal.After-put-arg-1)
    → c.put_text-end.result + (1 + length (digits_of c.args.net.len)) ≤ length c.put_text-end.new.out
fits-put-arg-1 c = omega (arith, c.requires, (text-put-arg-1 c).place, same-put-arg-1 c, length-line_as6 c.args.net)

text-slice_known-3-1 : (c : goal.After-slice_known-3-1) → let a = c.args in
    Stored a.out.now 0 (text_of (groups_of (address a.net))) c.put_text-end.new.out c.put_text-end.result
text-slice_known-3-1 c = rw c.of.ensures at c.put_text-end.ensures

same-slice_known-3-1 : (c : goal.After-slice_known-3-1) → length c.put_text-end.new.out ≡ length c.args.out.now
same-slice_known-3-1 c = let a = c.args in ap length (text-slice_known-3-1 c).bytes ∙ length-sets a.out.now 0 (text_of (groups_of (address a.net)))

pub put_text-end-requires : goal.put_text-end-requires
put_text-end-requires c = omega (arith, c.requires, ap (λ g. length (text_of g)) c.of.ensures, length-line_as6 c.args.net)

pub bounds-out-end : goal.bounds-out-end
bounds-out-end c = omega (arith, fits c)

pub overflow_add-end : goal.overflow_add-end
overflow_add-end c = omega (arith, fits-put-arg-1 c, same-put-arg-1 c)

pub put-requires : goal.put-requires
put-requires c = simp length-set (omega (arith, fits-put-arg-1 c))

pub shape_of-out : goal.shape_of-out
shape_of-out c = ap length c.put.ensures.bytes ∙ simp (length-sets, length-set) (same-slice_known-3-1 c)

pub returns : goal.returns
returns c = stored-line_as6 c.args.net
    (stored-append (text-slice_known-3-1 c) (stored-append {s = slash ∷ []} (record { place = refl; bytes = refl }) c.put.ensures))
