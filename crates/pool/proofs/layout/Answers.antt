-- `layout` meets its contract: each answer is a law over the test and what the writes ensure. Assumes nothing.
use mathlib.Core.Bool.{true}
use mathlib.Core.Path.{◌≡◌, ◌∙◌, sym}
use native.Mathlib.Omega.{arith}
use lib.ListN.{length}
use borrow.Author.Tests.{not-true, not-false}
use Rattle.pool_state.specs.Rules.{setup, is_setup}
use Rattle.pool_state.proofs.Claims.{is_size-is}
use Rattle.pool_state.proofs.Setups.{Kept, is_setup-kept, layout-refused}
use Rattle.pool.proofs.Needed.{layout-done}
use Rattle.pool.proofs.layout.Goals as goal

tested : (c : goal.After-least_words) → let a = c.args in
    is_setup (length a.pool.now) (setup a.family a.form a.sets a.nodes a.shares.now a.limits.now a.indexed) ≡ true
tested c = sym c.is_setup.ensures ∙ not-false _ c.if-not-is_setup.false-raw

kept : (c : goal.After-least_words) → let a = c.args in
    Kept (length a.pool.now) (setup a.family a.form a.sets a.nodes a.shares.now a.limits.now a.indexed)
kept c = is_setup-kept _ _ (tested c)

tested-header-arg-1 : (c : goal.After-header-arg-1) → let a = c.args in
    is_setup (length a.pool.now) (setup a.family a.form a.sets a.nodes a.shares.now a.limits.now a.indexed) ≡ true
tested-header-arg-1 c = sym c.is_setup.ensures ∙ not-false _ c.if-not-is_setup.false-raw

kept-header-arg-1 : (c : goal.After-header-arg-1) → let a = c.args in
    Kept (length a.pool.now) (setup a.family a.form a.sets a.nodes a.shares.now a.limits.now a.indexed)
kept-header-arg-1 c = is_setup-kept _ _ (tested-header-arg-1 c)

tested-records-arg-1 : (c : goal.After-records-arg-1) → let a = c.args in
    is_setup (length a.pool.now) (setup a.family a.form a.sets a.nodes a.shares.now a.limits.now a.indexed) ≡ true
tested-records-arg-1 c = sym c.is_setup.ensures ∙ not-false _ c.if-not-is_setup.false-raw

kept-records-arg-1 : (c : goal.After-records-arg-1) → let a = c.args in
    Kept (length a.pool.now) (setup a.family a.form a.sets a.nodes a.shares.now a.limits.now a.indexed)
kept-records-arg-1 c = is_setup-kept _ _ (tested-records-arg-1 c)

tested-least_words-2 : (c : goal.After-least_words-2) → let a = c.args in
    is_setup (length a.pool.now) (setup a.family a.form a.sets a.nodes a.shares.now a.limits.now a.indexed) ≡ true
tested-least_words-2 c = sym c.is_setup.ensures ∙ not-false _ c.if-not-is_setup.false-raw

kept-least_words-2 : (c : goal.After-least_words-2) → let a = c.args in
    Kept (length a.pool.now) (setup a.family a.form a.sets a.nodes a.shares.now a.limits.now a.indexed)
kept-least_words-2 c = is_setup-kept _ _ (tested-least_words-2 c)

tested-slice_known-5-1 : (c : goal.After-slice_known-5-1) → let a = c.args in
    is_setup (length a.pool.now) (setup a.family a.form a.sets a.nodes a.shares.now a.limits.now a.indexed) ≡ true
tested-slice_known-5-1 c = sym c.is_setup.ensures ∙ not-false _ c.if-not-is_setup.false-raw

pub returns-then-not-is_setup : goal.returns-then-not-is_setup
returns-then-not-is_setup c = layout-refused _ _ (sym c.is_setup.ensures ∙ not-true _ c.if-not-is_setup.true-raw)

pub clear-requires : goal.clear-requires
clear-requires c = omega (arith, kept c, c.least_words.ensures, c.count_marks.ensures)

pub header-requires : goal.header-requires
header-requires c = omega (arith, kept-header-arg-1 c)

pub records-requires : goal.records-requires
records-requires c = record { shares_len = omega (arith, kept-records-arg-1 c); shares_in_bounds = omega (arith, kept-records-arg-1 c) }

pub indexes-requires : goal.indexes-requires
indexes-requires c = let k = kept-least_words-2 c in
    let a = c.args in
    let z = is_size-is a.sets a.nodes k.size in
    (omega (arith, z), omega (arith, c.least_words-2.ensures), omega (arith, c.least_words-2.ensures, z), omega (arith, c.least_words-2.ensures, k.room))

pub returns : goal.returns
returns c = layout-done _ _ (tested-slice_known-5-1 c) c.count_marks.ensures c.least_words.ensures c.clear.ensures c.header.ensures c.records.ensures
    c.least_words-2.ensures c.indexes.ensures
