-- `following::first_at` meets its contract. The measure is the number of nodes. Assumes nothing.
use mathlib.Core.Bool.{true, false}
use mathlib.Core.Path.{refl}
use Prim.Native.Nat.{ℕ}
use native.Mathlib.Omega.{arith}
use Rattle.nets.specs.Tries.{Trie}
use Rattle.trie_paths.specs.Spans.{snoc, Spans}
use Rattle.trie_paths.proofs.Reading.{Root, Forked, spans-small, spans-none, spans-place, root, root-leaf, forked, forked-falls}
use Rattle.trie_paths.proofs.Paths.{path-goes-on, located-left, located-right}
use Rattle.trie_next.proofs.Resuming.{first-empty, first-here, first_above, first_inner, first-left, first-right}
use Rattle.trie_next.proofs.following.+first_at.Goals as goal

-- what the tests say, of any trie that stands there
node : (τ : ℕ) → (c : goal.Then-k-eq0 τ) {u : Trie} → let a = c.args in
    Spans a.w.now a.b a.i a.e u → Root a.w.now a.b a.i a.e c.word-y.result u
node τ c s = root _ s c.if-i-e.false c.word-y.ensures.0

-- what the tests say, of any trie that stands there
node-else-k-eq0 : (τ : ℕ) → (c : goal.Else-k-eq0 τ) {u : Trie} → let a = c.args in
    Spans a.w.now a.b a.i a.e u → Root a.w.now a.b a.i a.e c.word-y.result u
node-else-k-eq0 τ c s = root _ s c.if-i-e.false c.word-y.ensures.0

-- what the tests say, of any trie that stands there
node-then-k-eq0-2 : (τ : ℕ) → (c : goal.Then-k-eq0-2 τ) {u : Trie} → let a = c.args in
    Spans a.w.now a.b a.i a.e u → Root a.w.now a.b a.i a.e c.word-y.result u
node-then-k-eq0-2 τ c s = root _ s c.if-i-e.false c.word-y.ensures.0

-- what the tests say, of any trie that stands there
node-middle-m : (τ : ℕ) → (c : goal.After-middle-m τ) {u : Trie} → let a = c.args in
    Spans a.w.now a.b a.i a.e u → Root a.w.now a.b a.i a.e c.word-y.result u
node-middle-m τ c s = root _ s c.if-i-e.false c.word-y.ensures.0

halves : (τ : ℕ) → (c : goal.After-middle-m τ) {u : Trie} → let a = c.args in
    Spans a.w.now a.b a.i a.e u → Forked a.w.now a.b a.i a.e c.middle-m.result u
halves τ c s = forked (node-middle-m τ c s) c.if-y-eq0.false c.middle-m.ensures

-- what the tests say, of any trie that stands there
node-first : (τ : ℕ) → (c : goal.After-first τ) {u : Trie} → let a = c.args in
    Spans a.w.now a.b a.i a.e u → Root a.w.now a.b a.i a.e c.word-y.result u
node-first τ c s = root _ s c.if-i-e.false c.word-y.ensures.0

halves-first : (τ : ℕ) → (c : goal.After-first τ) {u : Trie} → let a = c.args in
    Spans a.w.now a.b a.i a.e u → Forked a.w.now a.b a.i a.e c.middle-m.result u
halves-first τ c s = forked (node-first τ c s) c.if-y-eq0.false c.middle-m.ensures

-- what the tests say, of any trie that stands there
node-in-end : (τ : ℕ) → (c : goal.In-None τ) {u : Trie} → let a = c.args in
    Spans a.w.now a.b a.i a.e u → Root a.w.now a.b a.i a.e c.word-y.result u
node-in-end τ c s = root _ s c.if-i-e.false c.word-y.ensures.0

halves-in-end : (τ : ℕ) → (c : goal.In-None τ) {u : Trie} → let a = c.args in
    Spans a.w.now a.b a.i a.e u → Forked a.w.now a.b a.i a.e c.middle-m.result u
halves-in-end τ c s = forked (node-in-end τ c s) c.if-y-eq0.false c.middle-m.ensures

-- what the tests say, of any trie that stands there
node-second : (τ : ℕ) → (c : goal.After-second τ) {u : Trie} → let a = c.args in
    Spans a.w.now a.b a.i a.e u → Root a.w.now a.b a.i a.e c.word-y.result u
node-second τ c s = root _ s c.if-i-e.false c.word-y.ensures.0

halves-second : (τ : ℕ) → (c : goal.After-second τ) {u : Trie} → let a = c.args in
    Spans a.w.now a.b a.i a.e u → Forked a.w.now a.b a.i a.e c.middle-m.result u
halves-second τ c s = forked (node-second τ c s) c.if-y-eq0.false c.middle-m.ensures

-- what the tests say, of any trie that stands there
node-in-network : (τ : ℕ) → (c : goal.In-Some τ) {u : Trie} → let a = c.args in
    Spans a.w.now a.b a.i a.e u → Root a.w.now a.b a.i a.e c.word-y.result u
node-in-network τ c s = root _ s c.if-i-e.false c.word-y.ensures.0

halves-in-network : (τ : ℕ) → (c : goal.In-Some τ) {u : Trie} → let a = c.args in
    Spans a.w.now a.b a.i a.e u → Forked a.w.now a.b a.i a.e c.middle-m.result u
halves-in-network τ c s = forked (node-in-network τ c s) c.if-y-eq0.false c.middle-m.ensures

-- what the tests say, of any trie that stands there
node-first_at : (τ : ℕ) → (c : goal.After-first_at τ) {u : Trie} → let a = c.args in
    Spans a.w.now a.b a.i a.e u → Root a.w.now a.b a.i a.e c.word-y.result u
node-first_at τ c s = root _ s c.if-i-e.false c.word-y.ensures.0

halves-first_at : (τ : ℕ) → (c : goal.After-first_at τ) {u : Trie} → let a = c.args in
    Spans a.w.now a.b a.i a.e u → Forked a.w.now a.b a.i a.e c.middle-m.result u
halves-first_at τ c s = forked (node-first_at τ c s) c.if-y-eq0.false c.middle-m.ensures

pub returns-then-i-e : goal.returns-then-i-e
returns-then-i-e τ c f p u o = first-empty f p u c.args.k (spans-none u o.stands c.if-i-e.true)

pub word-y-requires : goal.word-y-requires
word-y-requires τ c = let o = c.requires in spans-place o.2 o.3.stands c.if-i-e.false

pub returns-then-k-eq0 : goal.returns-then-k-eq0
returns-then-k-eq0 τ c f p u o = first-here f p u c.args.k _ (root-leaf (node τ c o.stands) c.if-y-eq0.true) c.if-k-eq0.true o.path

pub returns-then-y-eq0 : goal.returns-then-y-eq0
returns-then-y-eq0 τ c f p u o = first_above f p u c.args.k (root-leaf (node-else-k-eq0 τ c o.stands) c.if-y-eq0.true) c.if-k-eq0.false

pub returns-then-k-eq0-2 : goal.returns-then-k-eq0-2
returns-then-k-eq0-2 τ c f p u o = first_inner f p (forked (node-then-k-eq0-2 τ c o.stands) c.if-y-eq0.false refl) c.args.k c.if-k-eq0-2.true

pub middle-m-requires : goal.middle-m-requires
middle-m-requires τ c = omega (arith, spans-small c.requires.3.stands)

pub overflow_add-i : goal.overflow_add-i
overflow_add-i τ c = omega (arith, spans-small c.requires.3.stands)

pub first-requires : goal.first-requires
first-requires τ c = let o = c.requires.3 in path-goes-on o (halves τ c o.stands)

pub overflow_sub-k : goal.overflow_sub-k
overflow_sub-k τ c = omega (arith, c.if-k-eq0-2.false)

pub first_at-n-requires : goal.first_at-n-requires
first_at-n-requires τ c = let k = halves-first τ c c.requires.3.stands in
    ((forked-falls k c.decreases).0, (c.requires.0, snoc c.requires.1 false, k.l, located-left c.requires.3 k (c.first.ensures _ _ c.requires.3.path)))

pub second-requires : goal.second-requires
second-requires τ c = let o = c.requires in
    record { len_bound = path-goes-on o.3 (halves-in-end τ c o.3.stands); by_index = (o.0, o.1, o.3.path) }

pub overflow_sub-k-in-None : goal.overflow_sub-k-in-None
overflow_sub-k-in-None τ c = omega (arith, c.if-k-eq0-2.false)

pub first_at-requires : goal.first_at-requires
first_at-requires τ c = let k = halves-second τ c c.requires.3.stands in
    ((forked-falls k c.decreases).1, (c.requires.0, snoc c.requires.1 true, k.r, located-right c.requires.3 k (c.second.ensures _ _ c.requires.3.path)))

pub returns-in-Some : goal.returns-in-Some
returns-in-Some τ c f p u o = let k = halves-in-network τ c o.stands in
    let n = c.args.k in
    let l = c.first_at-n.ensures _ _ _ (located-left o k (c.first.ensures _ _ o.path)) in
    first-left f p k n c.if-k-eq0-2.false l c.in-Some.is

pub returns-in-None : goal.returns-in-None
returns-in-None τ c f p u o = let k = halves-first_at τ c o.stands in
    let n = c.args.k in
    let l = c.first_at-n.ensures _ _ _ (located-left o k (c.first.ensures _ _ o.path)) in
    let r = c.first_at.ensures _ _ _ (located-right o k (c.second.ensures _ _ o.path)) in
    first-right f p k n c.if-k-eq0-2.false l c.in-None.is r
