-- `blocks::shown` meets its contract, each return by the tests on the way to it. Assumes nothing.
use mathlib.Core.Path.{◌≡◌, refl, sym, ap, ◌∙◌}
use native.Mathlib.Omega.{arith}
use borrow.Author.Rules.{rules}
use Rattle.nets.specs.Networks.{next_as, next_of, bits_words}
use Rattle.lookup_many.proofs.Ending.{seat-room, ending-first, first-few, shown-leaf, shown-second, shown-none}
use Rattle.lookup_many.proofs.blocks.shown.Goals as goal

bits-next : (c : goal.Then-turn-eq0) → let l = c.args.l in next_of (bits_words l.word 0 l.left) ≡ next_as c.next-next.result
bits-next c = sym (c.next-next.ensures ∙ ap next_of c.of_word.ensures)

bits-next-walk_down : (c : goal.After-walk_down) → let l = c.args.l in next_of (bits_words l.word 0 l.left) ≡ next_as c.next-next.result
bits-next-walk_down c = sym (c.next-next.ensures ∙ ap next_of c.of_word.ensures)

pub offset_bounds-w-p : goal.offset_bounds-w-p
offset_bounds-w-p c = let h = c.requires in let r = seat-room h.0 in omega (arith, r.low, r.few, h.1.on.within)

pub bounds-w-p : goal.bounds-w-p
bounds-w-p c = let h = c.requires in let r = seat-room h.0 in omega (arith, r.long, h.1.on.within)

pub overflow_add-result : goal.overflow_add-result
overflow_add-result c = omega (arith, first-few c.args.bits.len _ c.first-f.ensures)

pub returns-then-x-eq0 : goal.returns-then-x-eq0
returns-then-x-eq0 c = rw c.first-f.ensures (shown-leaf c.requires.1 c.if-x-eq0.true)

pub overflow_add-p : goal.overflow_add-p
overflow_add-p c = let h = c.requires in let r = seat-room h.0 in omega (arith, r.low, r.few, h.1.on.within)

pub overflow_sub-bits : goal.overflow_sub-bits
overflow_sub-bits c = rw c.first-f.ensures (ending-first c.requires.1)

pub walk_down-requires : goal.walk_down-requires
walk_down-requires c = let h = c.requires in
    let o = h.1.on in
    (seat-room h.0, omega (arith, o.low), omega (arith, o.low, o.within), rw c.of_word-in-None.ensures (omega arith), h.1.few)

pub overflow_add-b : goal.overflow_add-b
overflow_add-b c = let r = seat-room c.requires.0 in omega (arith, r.low, r.few)

pub overflow_cast-x : goal.overflow_cast-x
overflow_cast-x c = omega (arith, c.type_inv.w c.args.l.p)

pub overflow_add-p-in-Some : goal.overflow_add-p-in-Some
overflow_add-p-in-Some c = let r = seat-room c.requires.0 in
    omega (arith, r.low, r.few, c.requires.1.on.within, c.type_inv.w c.args.l.p)

pub overflow_add-result-then-turn-eq0 : goal.overflow_add-result-then-turn-eq0
overflow_add-result-then-turn-eq0 c = omega (arith, first-few c.args.bits.len _ c.first-f.ensures)

pub returns-then-turn-eq0 : goal.returns-then-turn-eq0
returns-then-turn-eq0 c = rw c.first-f.ensures
    (shown-none c.requires.1 _ _ _ (bits-next c ∙ ap next_as c.in-Some.is) c.if-x-eq0.false c.if-b-n.false c.turn.ensures c.if-turn-eq0.true)

pub returns-in-None : goal.returns-in-None
returns-in-None c = shown-second c.requires.1 _ (bits-next-walk_down c ∙ ap next_as c.in-None.is)
    (rw (c.of_word-in-None.ensures, c.first-f.ensures) at c.walk_down.ensures)
