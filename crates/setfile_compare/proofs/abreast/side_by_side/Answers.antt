-- `abreast::side_by_side` meets its contract. The loop's invariant: the files are on their way side by side; with each turn less is left of the first.
-- Assumes nothing.
use native.Mathlib.Omega.{arith}
use borrow.Author.Rules.{rules}
use Rattle.setfile_compare.proofs.Going.{going-begin, going-shortest, going-longer, going-differs, going-alike, going-again, going_less}
use Rattle.setfile_compare.proofs.abreast.side_by_side.Goals as goal

pub begin-a-requires : goal.begin-a-requires
begin-a-requires c = let p = c.requires in (p.0, p.2)

pub begin-b-requires : goal.begin-b-requires
begin-b-requires c = let p = c.requires in (p.1, p.3)

pub loop-holder-init : goal.loop-holder-init
loop-holder-init c l m i j = going-begin _ _ i j (c.begin-a.ensures l i) (c.begin-b.ensures m j)

pub meeting-m-requires : goal.meeting-m-requires
meeting-m-requires c = search rules

pub enum_told-1 : goal.enum_told-1
enum_told-1 c = search rules

pub returns-then-b : goal.returns-then-b
returns-then-b c l m i j = let g = c.loop-holder.invariant l m i j in
    going-shortest g _ (c.meeting-m.ensures _ _ _ _ _ g.one.stands g.two.stands) c.in-Over.is c.if-b.true

pub returns-in-Over : goal.returns-in-Over
returns-in-Over c l m i j = let g = c.loop-holder.invariant l m i j in
    going-longer g _ (c.meeting-m.ensures _ _ _ _ _ g.one.stands g.two.stands) c.in-Over.is c.if-b.false

pub enum_known-m : goal.enum_known-m
enum_known-m c = search rules

pub width-requires : goal.width-requires
width-requires c = search rules

pub returns-in-Differ : goal.returns-in-Differ
returns-in-Differ c l m i j = let g = c.loop-holder.invariant l m i j in
    going-differs g _ c.in-Differ.holder c.in-Differ.x _ (c.meeting-m.ensures _ _ _ _ _ g.one.stands g.two.stands) c.in-Differ.is c.width.ensures
    (omega (arith, c.in-Differ.known_told-1-own.given))

pub enum_known-m-in-Alike-1 : goal.enum_known-m-in-Alike-1
enum_known-m-in-Alike-1 c = search rules

pub pass-a-requires : goal.pass-a-requires
pass-a-requires c = let p = c.requires in
    let g = c.loop-holder.invariant p.0 p.1 p.2 p.3 in
    let k = going-alike g _ _ (c.meeting-m.ensures _ _ _ _ _ g.one.stands g.two.stands) c.in-Alike.is in
    (_, _, _, g.one, k.2)

pub pass-b-requires : goal.pass-b-requires
pass-b-requires c = let p = c.requires in
    let g = c.loop-holder.invariant p.0 p.1 p.2 p.3 in
    let k = going-alike g _ _ (c.meeting-m.ensures _ _ _ _ _ g.one.stands g.two.stands) c.in-Alike.is in
    (_, _, _, g.two, k.3)

pub loop-holder-smaller : goal.loop-holder-smaller
loop-holder-smaller c = let p = c.requires in
    let g = c.loop-holder.invariant p.0 p.1 p.2 p.3 in
    let k = going-alike g _ _ (c.meeting-m.ensures _ _ _ _ _ g.one.stands g.two.stands) c.in-Alike.is in
    going_less g _ k (c.pass-a.ensures _ _ _ g.one k.2)

pub loop-holder-preserved : goal.loop-holder-preserved
loop-holder-preserved c l m i j = let g = c.loop-holder.invariant l m i j in
    let k = going-alike g _ _ (c.meeting-m.ensures _ _ _ _ _ g.one.stands g.two.stands) c.in-Alike.is in
    going-again g _ k (c.pass-a.ensures _ _ _ g.one k.2) (c.pass-b.ensures _ _ _ g.two k.3)
