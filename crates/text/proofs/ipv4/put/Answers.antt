-- `ipv4::put` meets its contract: the byte is stored behind the digits. Assumes nothing.
-- the digits are stored
use mathlib.Core.Path.{refl, ap}
use native.Mathlib.Omega.{arith}
use lib.ListN.{length}
use Rattle.text_decimal.specs.Decimal.{digits_of}
use Rattle.text.specs.Ipv4.{octet_of}
use Rattle.text_decimal.specs.Places.{Stored}
use Rattle.text_decimal.proofs.Writing.{stored-append}
use Rattle.text.proofs.ipv4.put.Goals as goal

digits : (c : goal.After-slice_known-2-1) → let a = c.args in Stored a.out.now a.at (octet_of a.address a.k) c.put-next.new.out c.put-next.result
digits c = rw c.octet.ensures at c.put-next.ensures

pub put-next-requires : goal.put-next-requires
put-next-requires c = let e = ap (λ x. length (digits_of x)) c.octet.ensures in omega arith

pub bounds-out-next : goal.bounds-out-next
bounds-out-next c = omega (arith, (digits c).place)

pub overflow_add-result : goal.overflow_add-result
overflow_add-result c = omega (arith, (digits c).place)

pub returns : goal.returns
returns c = stored-append (digits c) (record { place = refl; bytes = refl })
