-- `pass` meets its contract and ends. Each turn passes what is left of a line, and what is left of the piece completes what is passed. Assumes nothing.
use Rattle.std.proofs.Common.{◌≡◌, ◌+◌, ◌-◌, ◌<◌, ◌≤◌, length, drop, refl, ◌∙◌, arith, length-drop, rules}
use Rattle.pool_state.specs.Steps.{Surveyed}
use Rattle.lines.specs.Reading.{passed}
use Rattle.lines.proofs.Steps.{passed-refused}
use Rattle.lines.proofs.Passing.{Line, line_at, passed-last, passed-next}
use Rattle.lines.proofs.pass.Goals as goal

-- the bytes of a turn, and that they stand in the piece
line : (c : goal.Then-to-piece) → Line (drop c.loop-g.i c.args.piece.now) c.end.result
line c = line_at c.args.piece.now c.loop-g.i c.end.result c.loop-g.invariant.0 c.end.ensures

-- the bytes of a turn, and that they stand in the piece
line-slice_known-in-loop-g-1 : (c : goal.After-slice_known-in-loop-g-1) → Line (drop c.loop-g.i c.args.piece.now) c.end.result
line-slice_known-in-loop-g-1 c = line_at c.args.piece.now c.loop-g.i c.end.result c.loop-g.invariant.0 c.end.ensures

within : (c : goal.After-slice_known-in-loop-g-1) → c.loop-g.i + c.end.result ≤ length c.args.piece.now
within c = omega (arith, c.loop-g.invariant.0, (line-slice_known-in-loop-g-1 c).within, length-drop c.loop-g.i c.args.piece.now)

-- behind them stands another, which is their line feed
before-feed : (c : goal.After-slice_known-in-loop-g-1) → c.loop-g.i + c.end.result < length c.args.piece.now
before-feed c = omega (arith, within c, c.if-to-piece.false)

pub loop-g-init : goal.loop-g-init
loop-g-init c = (omega arith, refl, refl, c.requires)

pub returns-then-to-piece : goal.returns-then-to-piece
returns-then-to-piece c = let x = c.loop-g in
    let s = c.args.piece.now in
    passed-last x.pool x.g.reader s x.i c.end.result c.loop-g-test.true (line c) c.push_all-reader.ensures c.if-to-piece.true ∙ x.invariant.1

pub end-g-requires : goal.end-g-requires
end-g-requires c = c.loop-g.invariant.3

pub overflow_add-i : goal.overflow_add-i
overflow_add-i c = let h = before-feed c in omega arith

pub loop-g-preserved : goal.loop-g-preserved
loop-g-preserved c = let x = c.loop-g in
    let s = c.args.piece.now in
    let lt : x.i + c.end.result < length s = before-feed c in (
      omega (arith, lt),
      passed-next x.pool x.g.reader s x.i c.end.result c.loop-g-test.true (line-slice_known-in-loop-g-1 c) c.push_all-reader.ensures lt c.end-g.ensures.comes ∙ x.invariant.1,
      omega (arith, c.end-g.auto.pool),
      c.end-g.ensures.found,
    )

pub returns : goal.returns
returns c = let x = c.loop-g in
    passed-refused x.pool x.g.reader (drop x.i c.args.piece.now) c.loop-g-test.false ∙ x.invariant.1
