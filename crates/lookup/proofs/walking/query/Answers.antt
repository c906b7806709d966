-- `walking::query` meets its contract, by its tests. Assumes nothing.
-- the bits are there, and the form is read
use native.Mathlib.Omega.{arith}
use borrow.Author.Rules.{rules}
use Rattle.pool_state.proofs.Header.{is_header-header}
use Rattle.lookup.proofs.Asked.{prefix-bits, prefix-few, query-family, query-refused, query-path, query-kept}
use Rattle.lookup.proofs.walking.query.Goals as goal

pub bounds-w-1 : goal.bounds-w-1
bounds-w-1 c = omega (arith, is_header-header _ c.requires.0)

pub returns-then-net-w : goal.returns-then-net-w
returns-then-net-w c = query-family _ _ _ c.if-net-w.true

pub bounds-w-5 : goal.bounds-w-5
bounds-w-5 c = omega (arith, is_header-header _ c.requires.0)

pub path-requires : goal.path-requires
path-requires c = let s = c.requires in
    (s.0, s.1, prefix-few _ _ _ c.prefix_bits-p.ensures c.in-Ok.is)

pub returns-then-w-eq0 : goal.returns-then-w-eq0
returns-then-w-eq0 c = query-path _ _ _ c.if-net-w.false _ c.prefix_bits-p.ensures _ _ c.in-Ok.is c.if-w-eq0.true c.path.ensures

pub kept_path-requires : goal.kept_path-requires
kept_path-requires c = let s = c.requires in
    (s.0, s.1, c.if-net-w.false, (prefix-bits _ _ _ c.prefix_bits-p.ensures c.in-Ok.is).0)

pub returns-else-w-eq0 : goal.returns-else-w-eq0
returns-else-w-eq0 c = query-kept _ _ _ c.if-net-w.false _ c.prefix_bits-p.ensures _ _ c.in-Ok.is c.if-w-eq0.false c.kept_path.ensures

pub returns-in-Err : goal.returns-in-Err
returns-in-Err c = query-refused _ _ _ c.if-net-w.false _ c.prefix_bits-p.ensures _ c.in-Err.is
