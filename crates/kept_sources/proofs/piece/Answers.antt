-- `piece` meets its contract, by its tests. Assumes nothing.
use native.Mathlib.Omega.{arith}
use mathlib.Core.Path.{◌≡◌}
use mathlib.Core.Bool.{Bool, true, false}
use Prim.Native.Nat.{ℕ, ◌+◌, ◌≤◌}
use Rattle.nets.specs.Tries.{side}
use Rattle.kept_sources.proofs.Meaning.{piece-none, piece-all, piece-place, at-is, edge-string, edge_on, edge-off}
use Rattle.kept_sources.proofs.piece.Goals as goal

toward-le : (s : Bool) (d : ℕ) {x : ℕ} → x ≡ side s d 1 → x ≤ 1 + d
toward-le true d e = omega arith
toward-le false d e = omega arith

place : (c : goal.Else-k-eq-FULL) → let a = c.args in (1 ≤ a.i) × (a.i ≤ a.n)
place c = let (o, g, p, t, m, e) = c.requires.1 in piece-place c.args.second _ t m _ (c.kind-k.ensures o g p t m e)
    c.if-k-eq-EMPTY.false c.if-k-eq-FULL.false

place-toward : (c : goal.After-toward) → let a = c.args in (1 ≤ a.i) × (a.i ≤ a.n)
place-toward c = let (o, g, p, t, m, e) = c.requires.1 in piece-place c.args.second _ t m _ (c.kind-k.ensures o g p t m e)
    c.if-k-eq-EMPTY.false c.if-k-eq-FULL.false

place-else-x-d : (c : goal.Else-x-d) → let a = c.args in (1 ≤ a.i) × (a.i ≤ a.n)
place-else-x-d c = let (o, g, p, t, m, e) = c.requires.1 in piece-place c.args.second _ t m _ (c.kind-k.ensures o g p t m e)
    c.if-k-eq-EMPTY.false c.if-k-eq-FULL.false

pub returns-then-k-eq-EMPTY : goal.returns-then-k-eq-EMPTY
returns-then-k-eq-EMPTY c o g p t m e = piece-none _ _ t m _ (c.kind-k.ensures o g p t m e) c.if-k-eq-EMPTY.true

pub returns-then-k-eq-FULL : goal.returns-then-k-eq-FULL
returns-then-k-eq-FULL c o g p t m e = piece-all _ _ t m _ (c.kind-k.ensures o g p t m e) c.if-k-eq-FULL.true

pub overflow_cast-i : goal.overflow_cast-i
overflow_cast-i c = omega (arith, place c, c.requires.0.few)

pub head-x-requires : goal.head-x-requires
head-x-requires c = record { kept_room = c.requires.0; le_i = place c }

pub overflow_add-result : goal.overflow_add-result
overflow_add-result c = omega (arith, place-toward c, c.requires.0.few, toward-le c.args.second _ c.toward.ensures)

pub returns-then-x-d : goal.returns-then-x-d
returns-then-x-d c o g p t m e = at-is _ _ t m _ (c.kind-k.ensures o g p t m e) c.if-k-eq-EMPTY.false c.if-k-eq-FULL.false _ _ c.head-x.ensures e
    c.if-x-d.true _ c.toward.ensures

pub overflow_cast-i-2 : goal.overflow_cast-i-2
overflow_cast-i-2 c = omega (arith, place-else-x-d c, c.requires.0.few)

pub net_at-s-requires : goal.net_at-s-requires
net_at-s-requires c = record { kept_room = c.requires.0; le_i = place-else-x-d c }

pub bit_at-requires : goal.bit_at-requires
bit_at-requires c = let (o, g, p, t, m, e) = c.requires.1 in
    edge-string c.args.second _ t m _ (c.kind-k.ensures o g p t m e) c.if-k-eq-EMPTY.false c.if-k-eq-FULL.false _ _ c.head-x.ensures e
    c.if-x-d.false c.requires.0 _ c.net_at-s.ensures

pub returns-then-bit_at-second : goal.returns-then-bit_at-second
returns-then-bit_at-second c o g p t m e = edge_on _ _ t m _ (c.kind-k.ensures o g p t m e) c.if-k-eq-EMPTY.false c.if-k-eq-FULL.false _ _ c.head-x.ensures e c.if-x-d.false
    c.requires.0 _ c.net_at-s.ensures _ c.bit_at.ensures c.if-bit_at-second.true

pub returns : goal.returns
returns c o g p t m e = edge-off _ _ t m _ (c.kind-k.ensures o g p t m e) c.if-k-eq-EMPTY.false c.if-k-eq-FULL.false _ _ c.head-x.ensures e c.if-x-d.false
    c.requires.0 _ c.net_at-s.ensures _ c.bit_at.ensures c.if-bit_at-second.false
