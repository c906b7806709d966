-- `sieve` meets its contract, by the nodes that are left. Assumes nothing.
use mathlib.Core.Path.{ap}
use Prim.Native.Nat.{ℕ, ◌+◌, ◌/◌}
use native.Mathlib.Omega.{arith}
use Rattle.kept_sieve.proofs.Sieving.{place, step-inner, done-gone, member-moves, done-member}
use Rattle.kept_sieve.proofs.Branches.{middle, from_is, from_le, go-second, link-asks, string-is, go-first, done-inner}
use Rattle.kept_sieve.proofs.+sieve.Goals as goal

pub overflow_cast-i : goal.overflow_cast-i
overflow_cast-i τ c = let (p, t, s, g) = c.requires in omega (arith, place g, g.room.few)

pub head-x-requires : goal.head-x-requires
head-x-requires τ c = let (p, t, s, g) = c.requires in
    let x = place g in
    record { kept_room = g.room; le_i = (x.0, x.1) }

pub clear_mark-requires : goal.clear_mark-requires
clear_mark-requires τ c = let (p, t, s, g) = c.requires in
    let x = place g in
    (g.room, x.0, x.1, rw c.head-x.ensures at c.if-x-ge-MARK.true)

pub returns-then-x-ge-MARK : goal.returns-then-x-ge-MARK
returns-then-x-ge-MARK τ c p t s g = done-gone g (rw c.head-x.ensures at c.if-x-ge-MARK.true)
    c.clear_mark.ensures

pub move_nodes-requires : goal.move_nodes-requires
move_nodes-requires τ c = let (p, t, s, g) = c.requires in
    member-moves g (rw c.head-x.ensures at c.if-x-lt256.true)

pub overflow_add-result : goal.overflow_add-result
overflow_add-result τ c = let (p, t, s, g) = c.requires in omega
    (arith, place g, g.behind, g.room.few)

pub returns-then-x-lt256 : goal.returns-then-x-lt256
returns-then-x-lt256 τ c p t s g = done-member g
    (rw c.head-x.ensures at c.if-x-lt256.true) c.move_nodes.ensures

pub overflow_add-m : goal.overflow_add-m
overflow_add-m τ c = let (p, t, s, g) = c.requires in omega (arith, middle g (step-inner g (rw c.head-x.ensures at c.if-x-lt256.false) (rw c.head-x.ensures at c.if-x-ge-MARK.false)) _ (ap (λ (x : ℕ). c.args.i + x / 256) c.head-x.ensures))

pub overflow_cast-i-2 : goal.overflow_cast-i-2
overflow_cast-i-2 τ c = let (p, t, s, g) = c.requires in omega (arith, place g, g.room.few)

pub net_at-s-requires : goal.net_at-s-requires
net_at-s-requires τ c = let (p, t, s, g) = c.requires in
    let x = place g in
    record { kept_room = g.room; le_i = (x.0, x.1) }

pub overflow_add-i : goal.overflow_add-i
overflow_add-i τ c = let (p, t, s, g) = c.requires in omega (arith, place g, g.room.few)

pub own_size-requires : goal.own_size-requires
own_size-requires τ c = let (p, t, s, g) = c.requires in
    let d = middle g (step-inner g (rw c.head-x.ensures at c.if-x-lt256.false) (rw c.head-x.ensures at c.if-x-ge-MARK.false)) _ (ap (λ (x : ℕ). c.args.i + x / 256) c.head-x.ensures) in
    (g.room, omega arith, omega (arith, d), omega (arith, d), omega (arith, d))

pub overflow_add-from : goal.overflow_add-from
overflow_add-from τ c = let (p, t, s, g) = c.requires in
    let h = step-inner g (rw c.head-x.ensures at c.if-x-lt256.false) (rw c.head-x.ensures at c.if-x-ge-MARK.false) in
    let m = ap (λ (x : ℕ). c.args.i + x / 256) c.head-x.ensures in
    omega (arith, from_le g h _ m (from_is g h _ m c.own_size.ensures), place g, g.room.few)

pub overflow_add-i-2 : goal.overflow_add-i-2
overflow_add-i-2 τ c = let (p, t, s, g) = c.requires in omega (arith, place g, g.room.few)

pub sieve-k-requires : goal.sieve-k-requires
sieve-k-requires τ c = let (p, t, s, g) = c.requires in
    let h = step-inner g (rw c.head-x.ensures at c.if-x-lt256.false) (rw c.head-x.ensures at c.if-x-ge-MARK.false) in
    let m = ap (λ (x : ℕ). c.args.i + x / 256) c.head-x.ensures in (
      omega (arith, middle g h _ m, c.decreases),
      (_, _, _, go-second g h _ m (from_is g h _ m c.own_size.ensures)),
    )

pub link-requires : goal.link-requires
link-requires τ c = let (p, t, s, g) = c.requires in
    let h = step-inner g (rw c.head-x.ensures at c.if-x-lt256.false) (rw c.head-x.ensures at c.if-x-ge-MARK.false) in
    let m = ap (λ (x : ℕ). c.args.i + x / 256) c.head-x.ensures in
    let e = from_is g h _ m c.own_size.ensures in
    link-asks g h _ m e (c.sieve-k.ensures _ _ _ (go-second g h _ m e))

pub sieve-requires : goal.sieve-requires
sieve-requires τ c = let (p, t, s, g) = c.requires in
    let h = step-inner g (rw c.head-x.ensures at c.if-x-lt256.false) (rw c.head-x.ensures at c.if-x-ge-MARK.false) in
    let m = ap (λ (x : ℕ). c.args.i + x / 256) c.head-x.ensures in
    let e = from_is g h _ m c.own_size.ensures in
    let d = c.sieve-k.ensures _ _ _ (go-second g h _ m e) in
    let x = string-is g h _ m e d _ c.net_at-s.ensures in (
      omega (arith, middle g h _ m, c.decreases),
      (_, _, _, go-first g h _ m e d (c.link.ensures h.q x.0 x.1)),
    )

pub returns : goal.returns
returns τ c p t s g = let h = step-inner g (rw c.head-x.ensures at c.if-x-lt256.false) (rw c.head-x.ensures at c.if-x-ge-MARK.false) in
    let m = ap (λ (x : ℕ). c.args.i + x / 256) c.head-x.ensures in
    let e = from_is g h _ m c.own_size.ensures in
    let d = c.sieve-k.ensures _ _ _ (go-second g h _ m e) in
    let x = string-is g h _ m e d _ c.net_at-s.ensures in
    let l = c.link.ensures h.q x.0 x.1 in
    done-inner g h _ m e d l (c.sieve.ensures _ _ _ (go-first g h _ m e d l))
