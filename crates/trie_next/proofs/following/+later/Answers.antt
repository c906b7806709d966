-- `following::later` meets its contract. The measure is the number of nodes. Assumes nothing.
use mathlib.Core.Bool.{Bool, true, false}
use mathlib.Core.List.{◌∷◌}
use mathlib.Core.Path.{◌≡◌, ap, ◌∙◌}
use Prim.Native.Nat.{ℕ}
use native.Mathlib.Omega.{arith}
use Rattle.nets.specs.Tries.{Trie}
use Rattle.nets.specs.Networks.{bits_left}
use Rattle.trie_paths.specs.Spans.{snoc, Spans}
use Rattle.trie_paths.proofs.Reading.{Root, Forked, spans-small, spans-none, spans-place, root, root-leaf, forked, forked-falls}
use Rattle.trie_paths.proofs.Paths.{path-goes-on, located-left, located-right}
use Rattle.nets.proofs.Handing.{Hands, hands, hands_end, length-bits_left}
use Rattle.trie_next.proofs.Resuming.{later-empty, later-here, later-inner, later_second, later-left, later-right}
use Rattle.trie_next.proofs.following.+later.Goals as goal

-- what the tests say, of any trie that stands there
node : (τ : ℕ) → (c : goal.Then-y-eq0 τ) {u : Trie} → let a = c.args in
    Spans a.w.now a.b a.i a.e u → Root a.w.now a.b a.i a.e c.word-y.result u
node τ c s = root _ s c.if-i-e.false c.word-y.ensures.0

-- what the tests say, of any trie that stands there
node-then-bit : (τ : ℕ) → (c : goal.Then-bit τ) {u : Trie} → let a = c.args in
    Spans a.w.now a.b a.i a.e u → Root a.w.now a.b a.i a.e c.word-y.result u
node-then-bit τ c s = root _ s c.if-i-e.false c.word-y.ensures.0

halves : (τ : ℕ) → (c : goal.Then-bit τ) {u : Trie} → let a = c.args in Spans a.w.now a.b a.i a.e u → Forked a.w.now a.b a.i a.e c.middle-m.result u
halves τ c s = forked (node-then-bit τ c s) c.if-y-eq0.false c.middle-m.ensures

-- what the tests say, of any trie that stands there
node-second : (τ : ℕ) → (c : goal.After-second τ) {u : Trie} → let a = c.args in
    Spans a.w.now a.b a.i a.e u → Root a.w.now a.b a.i a.e c.word-y.result u
node-second τ c s = root _ s c.if-i-e.false c.word-y.ensures.0

halves-second : (τ : ℕ) → (c : goal.After-second τ) {u : Trie} → let a = c.args in Spans a.w.now a.b a.i a.e u → Forked a.w.now a.b a.i a.e c.middle-m.result u
halves-second τ c s = forked (node-second τ c s) c.if-y-eq0.false c.middle-m.ensures

-- the bit that is handed out
more : (τ : ℕ) → (c : goal.After-second τ) → Hands c.args.s c.in-Some.bit c.in-Some.rest
more τ c = hands _ _ _ _ c.requires.len_bound c.next-bits.ensures c.in-Some.is

-- what the tests say, of any trie that stands there
node-later : (τ : ℕ) → (c : goal.After-later τ) {u : Trie} → let a = c.args in
    Spans a.w.now a.b a.i a.e u → Root a.w.now a.b a.i a.e c.word-y.result u
node-later τ c s = root _ s c.if-i-e.false c.word-y.ensures.0

halves-later : (τ : ℕ) → (c : goal.After-later τ) {u : Trie} → let a = c.args in Spans a.w.now a.b a.i a.e u → Forked a.w.now a.b a.i a.e c.middle-m.result u
halves-later τ c s = forked (node-later τ c s) c.if-y-eq0.false c.middle-m.ensures

-- the bit that is handed out
more-later : (τ : ℕ) → (c : goal.After-later τ) → Hands c.args.s c.in-Some.bit c.in-Some.rest
more-later τ c = hands _ _ _ _ c.requires.len_bound c.next-bits.ensures c.in-Some.is

-- and that it is a zero or a one
bits_are : (τ : ℕ) → (c : goal.After-later τ) {b : Bool} → c.in-Some.bit ≡ b → bits_left c.args.s ≡ b ∷ bits_left c.in-Some.rest
bits_are τ c e = (more-later τ c).bits ∙ ap (λ b. b ∷ bits_left c.in-Some.rest) e

-- what the tests say, of any trie that stands there
node-else-bit : (τ : ℕ) → (c : goal.Else-bit τ) {u : Trie} → let a = c.args in
    Spans a.w.now a.b a.i a.e u → Root a.w.now a.b a.i a.e c.word-y.result u
node-else-bit τ c s = root _ s c.if-i-e.false c.word-y.ensures.0

halves-else-bit : (τ : ℕ) → (c : goal.Else-bit τ) {u : Trie} → let a = c.args in Spans a.w.now a.b a.i a.e u → Forked a.w.now a.b a.i a.e c.middle-m.result u
halves-else-bit τ c s = forked (node-else-bit τ c s) c.if-y-eq0.false c.middle-m.ensures

-- what the tests say, of any trie that stands there
node-first : (τ : ℕ) → (c : goal.After-first τ) {u : Trie} → let a = c.args in
    Spans a.w.now a.b a.i a.e u → Root a.w.now a.b a.i a.e c.word-y.result u
node-first τ c s = root _ s c.if-i-e.false c.word-y.ensures.0

halves-first : (τ : ℕ) → (c : goal.After-first τ) {u : Trie} → let a = c.args in Spans a.w.now a.b a.i a.e u → Forked a.w.now a.b a.i a.e c.middle-m.result u
halves-first τ c s = forked (node-first τ c s) c.if-y-eq0.false c.middle-m.ensures

-- the bit that is handed out
more-first : (τ : ℕ) → (c : goal.After-first τ) → Hands c.args.s c.in-Some.bit c.in-Some.rest
more-first τ c = hands _ _ _ _ c.requires.len_bound c.next-bits.ensures c.in-Some.is

-- what the tests say, of any trie that stands there
node-in-end-n : (τ : ℕ) → (c : goal.In-None-n τ) {u : Trie} → let a = c.args in
    Spans a.w.now a.b a.i a.e u → Root a.w.now a.b a.i a.e c.word-y.result u
node-in-end-n τ c s = root _ s c.if-i-e.false c.word-y.ensures.0

halves-in-end-n : (τ : ℕ) → (c : goal.In-None-n τ) {u : Trie} → let a = c.args in Spans a.w.now a.b a.i a.e u → Forked a.w.now a.b a.i a.e c.middle-m.result u
halves-in-end-n τ c s = forked (node-in-end-n τ c s) c.if-y-eq0.false c.middle-m.ensures

-- what the tests say, of any trie that stands there
node-struct_known-1 : (τ : ℕ) → (c : goal.After-struct_known-1 τ) {u : Trie} → let a = c.args in
    Spans a.w.now a.b a.i a.e u → Root a.w.now a.b a.i a.e c.word-y.result u
node-struct_known-1 τ c s = root _ s c.if-i-e.false c.word-y.ensures.0

halves-struct_known-1 : (τ : ℕ) → (c : goal.After-struct_known-1 τ) {u : Trie} → let a = c.args in Spans a.w.now a.b a.i a.e u → Forked a.w.now a.b a.i a.e c.middle-m.result u
halves-struct_known-1 τ c s = forked (node-struct_known-1 τ c s) c.if-y-eq0.false c.middle-m.ensures

-- what the tests say, of any trie that stands there
node-in-end : (τ : ℕ) → (c : goal.In-None τ) {u : Trie} → let a = c.args in
    Spans a.w.now a.b a.i a.e u → Root a.w.now a.b a.i a.e c.word-y.result u
node-in-end τ c s = root _ s c.if-i-e.false c.word-y.ensures.0

halves-in-end : (τ : ℕ) → (c : goal.In-None τ) {u : Trie} → let a = c.args in Spans a.w.now a.b a.i a.e u → Forked a.w.now a.b a.i a.e c.middle-m.result u
halves-in-end τ c s = forked (node-in-end τ c s) c.if-y-eq0.false c.middle-m.ensures

-- what the tests say, of any trie that stands there
node-in-network : (τ : ℕ) → (c : goal.In-Some-n τ) {u : Trie} → let a = c.args in
    Spans a.w.now a.b a.i a.e u → Root a.w.now a.b a.i a.e c.word-y.result u
node-in-network τ c s = root _ s c.if-i-e.false c.word-y.ensures.0

halves-in-network : (τ : ℕ) → (c : goal.In-Some-n τ) {u : Trie} → let a = c.args in Spans a.w.now a.b a.i a.e u → Forked a.w.now a.b a.i a.e c.middle-m.result u
halves-in-network τ c s = forked (node-in-network τ c s) c.if-y-eq0.false c.middle-m.ensures

-- the bit that is handed out
more-in-network : (τ : ℕ) → (c : goal.In-Some-n τ) → Hands c.args.s c.in-Some.bit c.in-Some.rest
more-in-network τ c = hands _ _ _ _ c.requires.len_bound c.next-bits.ensures c.in-Some.is

-- and that it is a zero or a one
bits_are-in-network : (τ : ℕ) → (c : goal.In-Some-n τ) {b : Bool} → c.in-Some.bit ≡ b → bits_left c.args.s ≡ b ∷ bits_left c.in-Some.rest
bits_are-in-network τ c e = (more-in-network τ c).bits ∙ ap (λ b. b ∷ bits_left c.in-Some.rest) e

-- what the tests say, of any trie that stands there
node-first_at : (τ : ℕ) → (c : goal.After-first_at τ) {u : Trie} → let a = c.args in
    Spans a.w.now a.b a.i a.e u → Root a.w.now a.b a.i a.e c.word-y.result u
node-first_at τ c s = root _ s c.if-i-e.false c.word-y.ensures.0

halves-first_at : (τ : ℕ) → (c : goal.After-first_at τ) {u : Trie} → let a = c.args in Spans a.w.now a.b a.i a.e u → Forked a.w.now a.b a.i a.e c.middle-m.result u
halves-first_at τ c s = forked (node-first_at τ c s) c.if-y-eq0.false c.middle-m.ensures

-- the bit that is handed out
more-first_at : (τ : ℕ) → (c : goal.After-first_at τ) → Hands c.args.s c.in-Some.bit c.in-Some.rest
more-first_at τ c = hands _ _ _ _ c.requires.len_bound c.next-bits.ensures c.in-Some.is

-- and that it is a zero or a one
bits_are-first_at : (τ : ℕ) → (c : goal.After-first_at τ) {b : Bool} → c.in-Some.bit ≡ b → bits_left c.args.s ≡ b ∷ bits_left c.in-Some.rest
bits_are-first_at τ c e = (more-first_at τ c).bits ∙ ap (λ b. b ∷ bits_left c.in-Some.rest) e

pub returns-then-i-e : goal.returns-then-i-e
returns-then-i-e τ c f p u o = later-empty f p u (bits_left c.args.s) (spans-none u o.stands c.if-i-e.true)

pub word-y-requires : goal.word-y-requires
word-y-requires τ c = let o = c.requires.by_index in spans-place o.2 o.3.stands c.if-i-e.false

pub returns-then-y-eq0 : goal.returns-then-y-eq0
returns-then-y-eq0 τ c f p u o = later-here f p u (bits_left c.args.s) (root-leaf (node τ c o.stands) c.if-y-eq0.true)

pub middle-m-requires : goal.middle-m-requires
middle-m-requires τ c = omega (arith, spans-small c.requires.by_index.3.stands)

pub second-requires : goal.second-requires
second-requires τ c = let o = c.requires.by_index in
    record { len_bound = path-goes-on o.3 (halves τ c o.3.stands); by_index = (o.0, o.1, o.3.path) }

pub later-requires : goal.later-requires
later-requires τ c = let o = c.requires.by_index.3 in
    let k = halves-second τ c o.stands in
    ((forked-falls k c.decreases).1, (omega (arith, (more τ c).len, c.requires.len_bound), (c.requires.by_index.0, snoc c.requires.by_index.1 true, k.r, located-right o k (c.second.ensures _ _ o.path))))

pub returns-then-bit : goal.returns-then-bit
returns-then-bit τ c f p u o = let k = halves-later τ c o.stands in
    later_second f p k _ _ (bits_are τ c c.if-bit.true) (c.later.ensures _ _ _ (located-right o k (c.second.ensures _ _ o.path)))

pub overflow_add-i : goal.overflow_add-i
overflow_add-i τ c = omega (arith, spans-small c.requires.by_index.3.stands)

pub first-requires : goal.first-requires
first-requires τ c = let o = c.requires.by_index.3 in path-goes-on o (halves-else-bit τ c o.stands)

pub later-n-requires : goal.later-n-requires
later-n-requires τ c = let o = c.requires.by_index.3 in
    let k = halves-first τ c o.stands in
    ((forked-falls k c.decreases).0, (omega (arith, (more-first τ c).len, c.requires.len_bound), (c.requires.by_index.0, snoc c.requires.by_index.1 false, k.l, located-left o k (c.first.ensures _ _ o.path))))

pub second-requires-in-None-n : goal.second-requires-in-None-n
second-requires-in-None-n τ c = let o = c.requires.by_index in
    record { len_bound = path-goes-on o.3 (halves-in-end-n τ c o.3.stands); by_index = (o.0, o.1, o.3.path) }

pub first_at-requires : goal.first_at-requires
first_at-requires τ c = let o = c.requires.by_index in
    let k = halves-struct_known-1 τ c o.3.stands in
    (o.0, snoc o.1 true, k.r, located-right o.3 k (c.second-in-None-n.ensures _ _ o.3.path))

pub returns-in-None : goal.returns-in-None
returns-in-None τ c f p u o = later-inner f p (halves-in-end τ c o.stands) _ (hands_end _ _ c.requires.len_bound c.next-bits.ensures c.in-None.is)

pub returns-in-Some-n : goal.returns-in-Some-n
returns-in-Some-n τ c f p u o = let k = halves-in-network τ c o.stands in
    later-left f p k _ _ (bits_are-in-network τ c c.if-bit.false) (c.later-n.ensures _ _ _ (located-left o k (c.first.ensures _ _ o.path))) c.in-Some-n.is

pub returns-in-None-n : goal.returns-in-None-n
returns-in-None-n τ c f p u o = let k = halves-first_at τ c o.stands in
    let r = c.first_at.ensures _ _ _ (located-right o k (c.second-in-None-n.ensures _ _ o.path)) in
    let z = c.in-Some.rest in
    later-right f p k _ _ (bits_are-first_at τ c c.if-bit.false) (c.later-n.ensures _ _ _ (located-left o k (c.first.ensures _ _ o.path))) c.in-None-n.is
    (rw (length-bits_left z (omega (arith, (more-first_at τ c).len, c.requires.len_bound))) r)
