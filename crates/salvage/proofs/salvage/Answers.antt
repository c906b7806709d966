-- `salvage` meets its contract: one rule after the other is tested. Assumes nothing.
use mathlib.Core.Path.{◌≡◌, sym, ◌∙◌}
use native.Mathlib.Omega.{arith}
use borrow.Author.Tests.{not-true, not-false}
use mathlib.Core.Bool.{true}
use Rattle.nets.specs.Networks.{is_family}
use Rattle.nets.proofs.Numbers.{family-few}
use Rattle.setfile_format.specs.Files.{head_number}
use Rattle.salvage.proofs.Returns.{refused-header, refused-family, refused-many, entry-some, whole_is, whole-fits}
use Rattle.salvage.proofs.salvage.Goals as goal

pub returns-then-bytes-lt-HEADER : goal.returns-then-bytes-lt-HEADER
returns-then-bytes-lt-HEADER c = refused-header c.if-bytes-lt-HEADER.true

pub returns-then-not-is_family : goal.returns-then-not-is_family
returns-then-not-is_family c = refused-family (omega (arith, c.if-bytes-lt-HEADER.false)) (rw (← c.number-family.ensures) (sym c.is_family.ensures ∙ not-true _ c.if-not-is_family.true-raw))

pub overflow_cast-family : goal.overflow_cast-family
overflow_cast-family c = omega (arith, family-few c.number-family.result (sym c.is_family.ensures ∙ not-false _ c.if-not-is_family.false-raw))

pub nonzero_div-n : goal.nonzero_div-n
nonzero_div-n c = omega (arith, entry-some c.args.bytes.now c.number-family.result c.entry_bytes.ensures)

pub returns-then-n-gt-MOST_ENTRIES : goal.returns-then-n-gt-MOST_ENTRIES
returns-then-n-gt-MOST_ENTRIES c = let d = c.args.bytes.now in
    let k : is_family (head_number d 0) ≡ true = rw (← c.number-family.ensures) (sym c.is_family.ensures ∙ not-false _ c.if-not-is_family.false-raw) in
    refused-many (omega (arith, c.if-bytes-lt-HEADER.false)) k (rw (← c.number-family.ensures, ← whole_is d c.number-family.result c.entry_bytes.ensures) c.if-n-gt-MOST_ENTRIES.true)

pub overflow_cast-family-2 : goal.overflow_cast-family-2
overflow_cast-family-2 c = omega (arith, family-few c.number-family.result (sym c.is_family.ensures ∙ not-false _ c.if-not-is_family.false-raw))

pub write-requires : goal.write-requires
write-requires c = let d = c.args.bytes.now in
    let f = c.number-family.result in
    record {
      family = c.number-family.ensures;
      known = sym c.is_family.ensures ∙ not-false _ c.if-not-is_family.false-raw;
      whole = whole_is d f c.entry_bytes.ensures;
      few = omega (arith, c.if-n-gt-MOST_ENTRIES.false);
      fits = whole-fits d f c.entry_bytes.ensures (omega (arith, c.if-bytes-lt-HEADER.false));
      long = omega (arith, c.if-bytes-lt-HEADER.false);
    }

pub returns : goal.returns
returns c = c.write.ensures
