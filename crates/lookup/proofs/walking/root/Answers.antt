-- `walking::root` meets its contract, by its tests. Assumes nothing.
use mathlib.Core.Bool.{true}
use mathlib.Core.Path.{◌≡◌, sym, ◌∙◌}
use native.Mathlib.Omega.{arith}
use borrow.Author.Rules.{rules}
use borrow.Author.Tests.{not-true, not-false}
use Rattle.pool_state.specs.Decode.{is_header}
use Rattle.pool_state.proofs.Header.{is_header-header}
use Rattle.lookup.proofs.Asked.{on_root-damaged, on_root-none, on_root-at}
use Rattle.lookup.proofs.walking.root.Goals as goal

header : (c : goal.After-shared_slice_known-2-1-unread) → is_header c.args.w.now ≡ true
header c = sym c.is_header.ensures ∙ not-false _ c.if-not-is_header.false-raw

header-then-w-set : (c : goal.Then-w-set) → is_header c.args.w.now ≡ true
header-then-w-set c = sym c.is_header.ensures ∙ not-false _ c.if-not-is_header.false-raw

header-shared_slice_known-3-1-unread : (c : goal.After-shared_slice_known-3-1-unread) → is_header c.args.w.now ≡ true
header-shared_slice_known-3-1-unread c = sym c.is_header.ensures ∙ not-false _ c.if-not-is_header.false-raw

header-shared_slice_known-3-1 : (c : goal.After-shared_slice_known-3-1) → is_header c.args.w.now ≡ true
header-shared_slice_known-3-1 c = sym c.is_header.ensures ∙ not-false _ c.if-not-is_header.false-raw

pub returns-then-not-is_header : goal.returns-then-not-is_header
returns-then-not-is_header c = on_root-damaged _ _ _ _ (sym c.is_header.ensures ∙ not-true _ c.if-not-is_header.true-raw)

pub bounds-w-2 : goal.bounds-w-2
bounds-w-2 c = omega (arith, is_header-header _ (header c))

pub returns-then-w-set : goal.returns-then-w-set
returns-then-w-set c = on_root-none _ _ _ _ (header-then-w-set c) c.if-w-set.true

pub bounds-w-set : goal.bounds-w-set
bounds-w-set c = omega (arith, is_header-header _ (header-shared_slice_known-3-1-unread c))

pub returns : goal.returns
returns c = on_root-at _ _ _ _ (header-shared_slice_known-3-1 c) c.if-w-set.false
