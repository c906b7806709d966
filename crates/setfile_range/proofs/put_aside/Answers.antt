-- `put_aside` meets its contract, each return by the tests on the way to it. Assumes nothing.
use mathlib.Core.Bool.{beq as same}
use mathlib.Core.Path.{sym, ap, ◌∙◌}
use native.Mathlib.Omega.{arith}
use borrow.Author.Tests.{not-true}
use Rattle.setfile_format.specs.Files.{file_bytes, entry_bytes}
use Rattle.trie_paths.proofs.Paths.{path-is}
use Rattle.setfile_range.proofs.Walking.{goes_on}
use Rattle.setfile_range.proofs.Laying.{lays-none, lays_one, one-fits, snoc-within, aside-early, aside-missing, aside-other, aside-left}
use Rattle.setfile_range.proofs.put_aside.Goals as goal

pub returns-then-not-apart : goal.returns-then-not-apart
returns-then-not-apart c f p d q o = lays-none f _ _ (aside-early _ _ p d (not-true _ c.if-not-apart.true-raw))

pub returns-then-not-x : goal.returns-then-not-x
returns-then-not-x c f p d q o = lays-none f _ _ (aside-missing _ _ p d (not-true _ c.if-not-x.true))

pub bit_of-requires : goal.bit_of-requires
bit_of-requires c = let (f, p, d, q, o, h) = c.requires in (f, p, d, q, o)

pub returns-then-bit_of-bit : goal.returns-then-bit_of-bit
returns-then-bit_of-bit c f p d q o = lays-none f _ _ (aside-other _ _ _ p d (ap (λ e. same e c.args.bit) (sym (c.bit_of.ensures f p d q o)) ∙ not-true _ c.if-bit_of-bit.true))

pub down-y-requires : goal.down-y-requires
down-y-requires c = let (f, p, d, q, o, h) = c.requires in (f, p, o.path, goes_on o)

pub file_bytes-requires : goal.file_bytes-requires
file_bytes-requires c = let (f, p, d, q, o, h) = c.requires in omega (arith, one-fits f _ _ _ (aside-left c.args.apart c.args.x.there c.args.bit p c.if-not-apart.false-raw c.if-not-x.false (c.bit_of.ensures f p d q o) c.if-bit_of-bit.false) h)

pub put_at-requires : goal.put_at-requires
put_at-requires c = let (f, p, d, q, o, h) = c.requires in
    let e = (path-is _ f _ (c.down-y.ensures f p o.path)).1 in
    ((f, _, c.down-y.ensures f p o.path, snoc-within o _), omega (arith, one-fits f _ _ _ (aside-left c.args.apart c.args.x.there c.args.bit p c.if-not-apart.false-raw c.if-not-x.false (c.bit_of.ensures f p d q o) c.if-bit_of-bit.false) h, c.file_bytes.ensures, ap (λ k. file_bytes k c.args.n) e, ap entry_bytes e))

pub overflow_add-result : goal.overflow_add-result
overflow_add-result c = let (f, p, d, q, o, h) = c.requires in omega (arith, one-fits f _ _ _ (aside-left c.args.apart c.args.x.there c.args.bit p c.if-not-apart.false-raw c.if-not-x.false (c.bit_of.ensures f p d q o) c.if-bit_of-bit.false) h)

pub returns : goal.returns
returns c f p d q o = lays_one f _ _ _ _ (aside-left c.args.apart c.args.x.there c.args.bit p c.if-not-apart.false-raw c.if-not-x.false (c.bit_of.ensures f p d q o) c.if-bit_of-bit.false) (c.file_bytes.ensures ∙ ap (λ k. file_bytes k c.args.n) ((path-is _ f _ (c.down-y.ensures f p o.path)).1))
    (c.put_at.ensures f _ (c.down-y.ensures f p o.path) (snoc-within o _))
