-- `ipv6::read` meets its contract: the address is whole, a slash follows it, and then the length. Assumes nothing.
use mathlib.Core.Bool.{Bool}
use mathlib.Core.List.{List}
use mathlib.Core.Path.{◌≡◌, refl, ap, sym, ◌∙◌}
use Prim.Native.Nat.{ℕ, ◌+◌}
use native.Mathlib.Omega.{arith}
use lib.Dec.{eqb, leb}
use lib.ListN.{drop}
use mathlib.Core.Bool.{cond}
use Rattle.std.specs.Prelude.{is_some}
use Rattle.nets.proofs.Propagated.{propagated}
use Rattle.text.specs.Ipv4.{slash}
use Rattle.text_decimal.specs.Places.{starts_byte}
use Rattle.text_decimal.proofs.Numbers.{read_number-most}
use Rattle.text_decimal.proofs.Places.{starts-within}
use Rattle.text.proofs.Reading.{read_as-ok, read_as-err}
use Rattle.text_ipv6_read.specs.Reader.{is_outline, read_address}
use Rattle.text_ipv6_read.specs.Places.{outline_as, Sized}
use Rattle.text_ipv6_read.specs.declared.outlines.Outline as declared
use Rattle.text_ipv6_read.proofs.Laying.{is_outline-placed}
use Rattle.text_ipv6_read.proofs.Reading.{line-part, line_other, line-unread, line-more, line-whole}
use Rattle.text_ipv6_read.proofs.ipv6.read.Goals as goal

-- whether the address is whole, by the answer
shaped : (s : List ℕ) (o : declared.Outline) {b d : Bool} → Sized o × (outline_as s o ≡ read_address s)
    → b ≡ cond (is_some o.gap) (leb o.count 7) (eqb o.count 8) → b ≡ d → is_outline (outline_as s o) ≡ d
shaped s o z e h = sym (e ∙ is_outline-placed s o z.0) ∙ h

pub returns-then-not-is_whole : goal.returns-then-not-is_whole
returns-then-not-is_whole c = let s = c.args.line.now in
    let o = c.read-o.result in
    line-part s o c.read-o.ensures.1 (shaped s o c.read-o.ensures c.is_whole.ensures c.if-not-is_whole.true)

pub returns-then-not-byte_at : goal.returns-then-not-byte_at
returns-then-not-byte_at c = let s = c.args.line.now in
    let o = c.read-o.result in
    line_other s o c.read-o.ensures.1 (shaped s o c.read-o.ensures c.is_whole.ensures c.if-not-is_whole.false) (sym c.byte_at.ensures ∙ c.if-not-byte_at.true)

pub overflow_add-at : goal.overflow_add-at
unfolding starts_byte
overflow_add-at c = let s = c.args.line.now in
    omega (arith, starts-within (starts_byte slash) refl s c.read-o.result.at (sym c.byte_at.ensures ∙ c.if-not-byte_at.false))

pub returns-in_err-len : goal.returns-in_err-len
returns-in_err-len c = let s = c.args.line.now in
    let o = c.read-o.result in
    let h = read_as-err s c.number.result c.ok_or.ensures.value c.in_err-len.was c.number.ensures in
    rw (propagated c.from_residual.ensures, h.0)
    (line-unread s o c.read-o.ensures.1 (shaped s o c.read-o.ensures c.is_whole.ensures c.if-not-is_whole.false) (sym c.byte_at.ensures ∙ c.if-not-byte_at.false) h.1)

pub returns-then-end-line : goal.returns-then-end-line
returns-then-end-line c = let s = c.args.line.now in
    let o = c.read-o.result in
    let n = read_as-ok s c.number.result c.ok_or.ensures.value c.in_ok-len.was c.number.ensures in
    line-more s o c.read-o.ensures.1 (shaped s o c.read-o.ensures c.is_whole.ensures c.if-not-is_whole.false) (sym c.byte_at.ensures ∙ c.if-not-byte_at.false)
    c.in_ok-len.len c.in_ok-len.end.at n c.if-end-line.true

pub overflow_cast-len : goal.overflow_cast-len
overflow_cast-len c = let s = c.args.line.now in
    let n = read_as-ok s c.number.result c.ok_or.ensures.value c.in_ok-len.was c.number.ensures in
    omega (arith, read_number-most 128 (drop (c.read-o.result.at + 1) s) c.in_ok-len.len (drop c.in_ok-len.end.at s) n)

pub network-requires : goal.network-requires
network-requires c = c.read-o.ensures.0

pub returns : goal.returns
returns c = let s = c.args.line.now in
    let o = c.read-o.result in
    let n = read_as-ok s c.number.result c.ok_or.ensures.value c.in_ok-len.was c.number.ensures in
    ap (λ m. (0, m)) c.network.ensures
    ∙ line-whole s o c.read-o.ensures.1 (shaped s o c.read-o.ensures c.is_whole.ensures c.if-not-is_whole.false) (sym c.byte_at.ensures ∙ c.if-not-byte_at.false)
    c.in_ok-len.len c.in_ok-len.end.at n c.if-end-line.false
