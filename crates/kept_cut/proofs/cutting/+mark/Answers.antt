-- `cutting::mark` meets its contract, by the depth that is left. Assumes nothing.
use mathlib.Core.Bool.{true}
use mathlib.Core.List.{List}
use mathlib.Core.Path.{◌≡◌, subst}
use Prim.Native.Nat.{ℕ}
use native.Mathlib.Omega.{arith}
use borrow.Author.Tests.{not-true, not-false}
use Rattle.nets.specs.Bits.{Bits}
use Rattle.nets.specs.Tries.{Trie}
use Rattle.setfile_below.proofs.Streams.{at_some, pass-nothing, part-under, first-falls, second-falls, pass-both}
use Rattle.kept_cut.specs.Cuts.{Cuts, Sighted}
use Rattle.kept_cut.proofs.Steps.{stay-left, away-left, as_member, member-left}
use Rattle.kept_cut.proofs.Forks.{Fork, fork, first-cuts, second-cuts, closing, fork-left}
use Rattle.kept_cut.proofs.cutting.+mark.Goals as goal

abbrev Given : (τ : ℕ) → goal.After-member-arg-in-Leaf-1 τ → Bits → Bits → Trie → List Bits → Trie → Type 0
Given τ c q p u ms t = let a = c.args in Cuts a.w.now a.b a.n a.i a.e a.bytes.now a.cursors.now a.s q p u ms t

some : (τ : ℕ) → (c : goal.After-member-arg-in-Leaf-1 τ) → c.args.s.some ≡ true
some τ c = not-false _ c.if-not-s.false

sighted : (τ : ℕ) → (c : goal.After-member-arg-in-Leaf-1 τ) (q p : Bits) (u : Trie) (ms : List Bits) (t : Trie) → Given τ c q p u ms t → Sighted c.args.i u t c.sight-v.result
sighted τ c q p u ms t g = c.sight-v.ensures q p u ms t g.here g.at.under (at_some g.at (some τ c))

abbrev Given-mark-arg-in-inner-1 : (τ : ℕ) → goal.After-mark-arg-in-Inner-1 τ → Bits → Bits → Trie → List Bits → Trie → Type 0
Given-mark-arg-in-inner-1 τ c q p u ms t = let a = c.args in Cuts a.w.now a.b a.n a.i a.e a.bytes.now a.cursors.now a.s q p u ms t

some-mark-arg-in-inner-1 : (τ : ℕ) → (c : goal.After-mark-arg-in-Inner-1 τ) → c.args.s.some ≡ true
some-mark-arg-in-inner-1 τ c = not-false _ c.if-not-s.false

sighted-mark-arg-in-inner-1 : (τ : ℕ) → (c : goal.After-mark-arg-in-Inner-1 τ) (q p : Bits) (u : Trie) (ms : List Bits) (t : Trie) → Given-mark-arg-in-inner-1 τ c q p u ms t → Sighted c.args.i u t c.sight-v.result
sighted-mark-arg-in-inner-1 τ c q p u ms t g = c.sight-v.ensures q p u ms t g.here g.at.under (at_some g.at (some-mark-arg-in-inner-1 τ c))

forked : (τ : ℕ) → (c : goal.After-mark-arg-in-Inner-1 τ) (q p : Bits) (u : Trie) (ms : List Bits) (t : Trie) → Given-mark-arg-in-inner-1 τ c q p u ms t
    → let a = c.args in Fork a.w.now a.b a.n a.i a.e a.bytes.now a.cursors.now
    a.s q p u ms t c.in-Inner.a c.in-Inner.m
forked τ c q p u ms t g = fork g (some-mark-arg-in-inner-1 τ c) (subst (λ z. Sighted c.args.i u t z) c.in-Inner.is (sighted-mark-arg-in-inner-1 τ c q p u ms t g))

abbrev here : (τ : ℕ) → (c : goal.After-mark-arg-in-Inner-1 τ) → let a = c.args in let (q, p, u, ms, t, g) = c.requires in
    Fork a.w.now a.b a.n a.i a.e a.bytes.now a.cursors.now a.s q p u ms t c.in-Inner.a c.in-Inner.m
here τ c = let (q, p, u, ms, t, g) = c.requires in forked τ c q p u ms t g

abbrev Given-first : (τ : ℕ) → goal.After-first τ → Bits → Bits → Trie → List Bits → Trie → Type 0
Given-first τ c q p u ms t = let a = c.args in Cuts a.w.now a.b a.n a.i a.e a.bytes.now a.cursors.now a.s q p u ms t

some-first : (τ : ℕ) → (c : goal.After-first τ) → c.args.s.some ≡ true
some-first τ c = not-false _ c.if-not-s.false

sighted-first : (τ : ℕ) → (c : goal.After-first τ) (q p : Bits) (u : Trie) (ms : List Bits) (t : Trie) → Given-first τ c q p u ms t → Sighted c.args.i u t c.sight-v.result
sighted-first τ c q p u ms t g = c.sight-v.ensures q p u ms t g.here g.at.under (at_some g.at (some-first τ c))

forked-first : (τ : ℕ) → (c : goal.After-first τ) (q p : Bits) (u : Trie) (ms : List Bits) (t : Trie) → Given-first τ c q p u ms t
    → let a = c.args in Fork a.w.now a.b a.n a.i a.e a.bytes.now a.cursors.now
    a.s q p u ms t c.in-Inner.a c.in-Inner.m
forked-first τ c q p u ms t g = fork g (some-first τ c) (subst (λ z. Sighted c.args.i u t z) c.in-Inner.is (sighted-first τ c q p u ms t g))

abbrev here-first : (τ : ℕ) → (c : goal.After-first τ) → let a = c.args in let (q, p, u, ms, t, g) = c.requires in
    Fork a.w.now a.b a.n a.i a.e a.bytes.now a.cursors.now a.s q p u ms t c.in-Inner.a c.in-Inner.m
here-first τ c = let (q, p, u, ms, t, g) = c.requires in forked-first τ c q p u ms t g

abbrev Given-mark-arg-in-inner-3-1 : (τ : ℕ) → goal.After-mark-arg-in-Inner-3-1 τ → Bits → Bits → Trie → List Bits → Trie → Type 0
Given-mark-arg-in-inner-3-1 τ c q p u ms t = let a = c.args in Cuts a.w.now a.b a.n a.i a.e a.bytes.now a.cursors.now a.s q p u ms t

some-mark-arg-in-inner-3-1 : (τ : ℕ) → (c : goal.After-mark-arg-in-Inner-3-1 τ) → c.args.s.some ≡ true
some-mark-arg-in-inner-3-1 τ c = not-false _ c.if-not-s.false

sighted-mark-arg-in-inner-3-1 : (τ : ℕ) → (c : goal.After-mark-arg-in-Inner-3-1 τ) (q p : Bits) (u : Trie) (ms : List Bits) (t : Trie) → Given-mark-arg-in-inner-3-1 τ c q p u ms t → Sighted c.args.i u t c.sight-v.result
sighted-mark-arg-in-inner-3-1 τ c q p u ms t g = c.sight-v.ensures q p u ms t g.here g.at.under (at_some g.at (some-mark-arg-in-inner-3-1 τ c))

forked-mark-arg-in-inner-3-1 : (τ : ℕ) → (c : goal.After-mark-arg-in-Inner-3-1 τ) (q p : Bits) (u : Trie) (ms : List Bits) (t : Trie) → Given-mark-arg-in-inner-3-1 τ c q p u ms t
    → let a = c.args in Fork a.w.now a.b a.n a.i a.e a.bytes.now a.cursors.now
    a.s q p u ms t c.in-Inner.a c.in-Inner.m
forked-mark-arg-in-inner-3-1 τ c q p u ms t g = fork g (some-mark-arg-in-inner-3-1 τ c) (subst (λ z. Sighted c.args.i u t z) c.in-Inner.is (sighted-mark-arg-in-inner-3-1 τ c q p u ms t g))

abbrev here-mark-arg-in-inner-3-1 : (τ : ℕ) → (c : goal.After-mark-arg-in-Inner-3-1 τ) → let a = c.args in let (q, p, u, ms, t, g) = c.requires in
    Fork a.w.now a.b a.n a.i a.e a.bytes.now a.cursors.now a.s q p u ms t c.in-Inner.a c.in-Inner.m
here-mark-arg-in-inner-3-1 τ c = let (q, p, u, ms, t, g) = c.requires in forked-mark-arg-in-inner-3-1 τ c q p u ms t g

abbrev Given-second : (τ : ℕ) → goal.After-second τ → Bits → Bits → Trie → List Bits → Trie → Type 0
Given-second τ c q p u ms t = let a = c.args in Cuts a.w.now a.b a.n a.i a.e a.bytes.now a.cursors.now a.s q p u ms t

some-second : (τ : ℕ) → (c : goal.After-second τ) → c.args.s.some ≡ true
some-second τ c = not-false _ c.if-not-s.false

sighted-second : (τ : ℕ) → (c : goal.After-second τ) (q p : Bits) (u : Trie) (ms : List Bits) (t : Trie) → Given-second τ c q p u ms t → Sighted c.args.i u t c.sight-v.result
sighted-second τ c q p u ms t g = c.sight-v.ensures q p u ms t g.here g.at.under (at_some g.at (some-second τ c))

forked-second : (τ : ℕ) → (c : goal.After-second τ) (q p : Bits) (u : Trie) (ms : List Bits) (t : Trie) → Given-second τ c q p u ms t
    → let a = c.args in Fork a.w.now a.b a.n a.i a.e a.bytes.now a.cursors.now
    a.s q p u ms t c.in-Inner.a c.in-Inner.m
forked-second τ c q p u ms t g = fork g (some-second τ c) (subst (λ z. Sighted c.args.i u t z) c.in-Inner.is (sighted-second τ c q p u ms t g))

abbrev here-second : (τ : ℕ) → (c : goal.After-second τ) → let a = c.args in let (q, p, u, ms, t, g) = c.requires in
    Fork a.w.now a.b a.n a.i a.e a.bytes.now a.cursors.now a.s q p u ms t c.in-Inner.a c.in-Inner.m
here-second τ c = let (q, p, u, ms, t, g) = c.requires in forked-second τ c q p u ms t g

abbrev Given-settle-arg-1 : (τ : ℕ) → goal.After-settle-arg-1 τ → Bits → Bits → Trie → List Bits → Trie → Type 0
Given-settle-arg-1 τ c q p u ms t = let a = c.args in Cuts a.w.now a.b a.n a.i a.e a.bytes.now a.cursors.now a.s q p u ms t

some-settle-arg-1 : (τ : ℕ) → (c : goal.After-settle-arg-1 τ) → c.args.s.some ≡ true
some-settle-arg-1 τ c = not-false _ c.if-not-s.false

sighted-settle-arg-1 : (τ : ℕ) → (c : goal.After-settle-arg-1 τ) (q p : Bits) (u : Trie) (ms : List Bits) (t : Trie) → Given-settle-arg-1 τ c q p u ms t → Sighted c.args.i u t c.sight-v.result
sighted-settle-arg-1 τ c q p u ms t g = c.sight-v.ensures q p u ms t g.here g.at.under (at_some g.at (some-settle-arg-1 τ c))

forked-settle-arg-1 : (τ : ℕ) → (c : goal.After-settle-arg-1 τ) (q p : Bits) (u : Trie) (ms : List Bits) (t : Trie) → Given-settle-arg-1 τ c q p u ms t
    → let a = c.args in Fork a.w.now a.b a.n a.i a.e a.bytes.now a.cursors.now
    a.s q p u ms t c.in-Inner.a c.in-Inner.m
forked-settle-arg-1 τ c q p u ms t g = fork g (some-settle-arg-1 τ c) (subst (λ z. Sighted c.args.i u t z) c.in-Inner.is (sighted-settle-arg-1 τ c q p u ms t g))

abbrev here-settle-arg-1 : (τ : ℕ) → (c : goal.After-settle-arg-1 τ) → let a = c.args in let (q, p, u, ms, t, g) = c.requires in
    Fork a.w.now a.b a.n a.i a.e a.bytes.now a.cursors.now a.s q p u ms t c.in-Inner.a c.in-Inner.m
here-settle-arg-1 τ c = let (q, p, u, ms, t, g) = c.requires in forked-settle-arg-1 τ c q p u ms t g

some-slice_known-in-nothing-1 : (τ : ℕ) → (c : goal.After-slice_known-in-Nothing-1 τ) → c.args.s.some ≡ true
some-slice_known-in-nothing-1 τ c = not-false _ c.if-not-s.false

abbrev Given-slice_known-in-nothing-1 : (τ : ℕ) → goal.After-slice_known-in-Nothing-1 τ → Bits → Bits → Trie → List Bits → Trie → Type 0
Given-slice_known-in-nothing-1 τ c q p u ms t = let a = c.args in Cuts a.w.now a.b a.n a.i a.e a.bytes.now a.cursors.now a.s q p u ms t

sighted-slice_known-in-nothing-1 : (τ : ℕ) → (c : goal.After-slice_known-in-Nothing-1 τ) (q p : Bits) (u : Trie) (ms : List Bits) (t : Trie) → Given-slice_known-in-nothing-1 τ c q p u ms t → Sighted c.args.i u t c.sight-v.result
sighted-slice_known-in-nothing-1 τ c q p u ms t g = c.sight-v.ensures q p u ms t g.here g.at.under (at_some g.at (some-slice_known-in-nothing-1 τ c))

abbrev Given-slice_known-in-leaf-1 : (τ : ℕ) → goal.After-slice_known-in-Leaf-1 τ → Bits → Bits → Trie → List Bits → Trie → Type 0
Given-slice_known-in-leaf-1 τ c q p u ms t = let a = c.args in Cuts a.w.now a.b a.n a.i a.e a.bytes.now a.cursors.now a.s q p u ms t

some-slice_known-in-leaf-1 : (τ : ℕ) → (c : goal.After-slice_known-in-Leaf-1 τ) → c.args.s.some ≡ true
some-slice_known-in-leaf-1 τ c = not-false _ c.if-not-s.false

sighted-slice_known-in-leaf-1 : (τ : ℕ) → (c : goal.After-slice_known-in-Leaf-1 τ) (q p : Bits) (u : Trie) (ms : List Bits) (t : Trie) → Given-slice_known-in-leaf-1 τ c q p u ms t → Sighted c.args.i u t c.sight-v.result
sighted-slice_known-in-leaf-1 τ c q p u ms t g = c.sight-v.ensures q p u ms t g.here g.at.under (at_some g.at (some-slice_known-in-leaf-1 τ c))

abbrev Given-slice_known-in-inner-3-1 : (τ : ℕ) → goal.After-slice_known-in-Inner-3-1 τ → Bits → Bits → Trie → List Bits → Trie → Type 0
Given-slice_known-in-inner-3-1 τ c q p u ms t = let a = c.args in Cuts a.w.now a.b a.n a.i a.e a.bytes.now a.cursors.now a.s q p u ms t

some-slice_known-in-inner-3-1 : (τ : ℕ) → (c : goal.After-slice_known-in-Inner-3-1 τ) → c.args.s.some ≡ true
some-slice_known-in-inner-3-1 τ c = not-false _ c.if-not-s.false

sighted-slice_known-in-inner-3-1 : (τ : ℕ) → (c : goal.After-slice_known-in-Inner-3-1 τ) (q p : Bits) (u : Trie) (ms : List Bits) (t : Trie) → Given-slice_known-in-inner-3-1 τ c q p u ms t → Sighted c.args.i u t c.sight-v.result
sighted-slice_known-in-inner-3-1 τ c q p u ms t g = c.sight-v.ensures q p u ms t g.here g.at.under (at_some g.at (some-slice_known-in-inner-3-1 τ c))

forked-slice_known-in-inner-3-1 : (τ : ℕ) → (c : goal.After-slice_known-in-Inner-3-1 τ) (q p : Bits) (u : Trie) (ms : List Bits) (t : Trie) → Given-slice_known-in-inner-3-1 τ c q p u ms t
    → let a = c.args in Fork a.w.now a.b a.n a.i a.e a.bytes.now a.cursors.now
    a.s q p u ms t c.in-Inner.a c.in-Inner.m
forked-slice_known-in-inner-3-1 τ c q p u ms t g = fork g (some-slice_known-in-inner-3-1 τ c) (subst (λ z. Sighted c.args.i u t z) c.in-Inner.is (sighted-slice_known-in-inner-3-1 τ c q p u ms t g))

pub returns-then-not-s : goal.returns-then-not-s
returns-then-not-s τ c q p u ms t g = let h = not-true _ c.if-not-s.true in (stay-left g h _, pass-nothing g.at h)

pub sight-v-requires : goal.sight-v-requires
sight-v-requires τ c = let (q, p, u, ms, t, g) = c.requires in
    (q, p, u, ms, t, g.here, g.at.under, at_some g.at (not-false _ c.if-not-s.false))

pub away-requires : goal.away-requires
away-requires τ c = c.requires

pub member-requires : goal.member-requires
member-requires τ c = let (q, p, u, ms, t, g) = c.requires in
    let z = subst (λ z. Sighted c.args.i u t z) c.in-Leaf.is (sighted τ c q p u ms t g) in
    (q, p, u, ms, as_member g z)

pub first-requires : goal.first-requires
first-requires τ c = part-under (here τ c).part

pub mark-l-requires : goal.mark-l-requires
mark-l-requires τ c = let k = here-first τ c in
    (omega (arith, first-falls k.part _ c.first.ensures, c.decreases), (_, _, _, _, _, first-cuts k _ c.first.ensures))

pub second-requires : goal.second-requires
second-requires τ c = part-under (here-mark-arg-in-inner-3-1 τ c).part

pub mark-r-requires : goal.mark-r-requires
mark-r-requires τ c = let k = here-second τ c in
    let f = c.first.ensures in
    let l = c.mark-l.ensures _ _ _ _ _ (first-cuts k _ f) in (
      omega (arith, second-falls k.part _ f.0 l.1 _ c.second.ensures, c.decreases),
      (_, _, _, _, _, second-cuts k _ f.0 l.0 l.1 _ c.second.ensures),
    )

pub settle-rest-requires : goal.settle-rest-requires
settle-rest-requires τ c = let k = here-settle-arg-1 τ c in
    let f = c.first.ensures in
    let l = c.mark-l.ensures _ _ _ _ _ (first-cuts k _ f) in
    let v = c.second.ensures in
    let r = c.mark-r.ensures _ _ _ _ _ (second-cuts k _ f.0 l.0 l.1 _ v) in
    (_, _, _, _, _, _, closing k _ f.0 l.0 v.0 r.0, l.0.rest, r.0.rest)

pub returns-in-Nothing : goal.returns-in-Nothing
returns-in-Nothing τ c q p u ms t g = let k = c.away.ensures q p u ms t g in
    (away-left g (some-slice_known-in-nothing-1 τ c) (subst (λ z. Sighted c.args.i u t z) c.in-Nothing.is (sighted-slice_known-in-nothing-1 τ c q p u ms t g)) _ k.0, k.1)

pub returns-in-Leaf : goal.returns-in-Leaf
returns-in-Leaf τ c q p u ms t g = let h = subst (λ z. Sighted c.args.i u t z) c.in-Leaf.is (sighted-slice_known-in-leaf-1 τ c q p u ms t g) in
    let k = c.member.ensures q p u ms (as_member g h) in
    (member-left g h (some-slice_known-in-leaf-1 τ c) _ k.0, k.1)

pub returns-in-Inner : goal.returns-in-Inner
returns-in-Inner τ c q p u ms t g = let k = forked-slice_known-in-inner-3-1 τ c q p u ms t g in
    let f = c.first.ensures in
    let l = c.mark-l.ensures _ _ _ _ _ (first-cuts k _ f) in
    let v = c.second.ensures in
    let r = c.mark-r.ensures _ _ _ _ _ (second-cuts k _ f.0 l.0 l.1 _ v) in
    let h = c.settle-rest.ensures _ _ _ _ _ _ (closing k _ f.0 l.0 v.0 r.0) l.0.rest r.0.rest in
    (fork-left k _ f.0 l.0 v.0 r.0 h, pass-both k.part _ v.0 r.1)
