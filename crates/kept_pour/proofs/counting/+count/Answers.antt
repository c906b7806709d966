-- `counting::count` meets its contract, by the depth that is left. Assumes nothing.
use mathlib.Core.List.{List}
use mathlib.Core.Bool.{true}
use mathlib.Core.Path.{◌≡◌, sym, ap, ◌∙◌}
use Prim.Native.Nat.{ℕ, ◌-◌}
use native.Mathlib.Omega.{arith}
use borrow.Author.Tests.{not-true, not-false}
use Rattle.nets.specs.Bits.{Bits}
use Rattle.nets.specs.Tries.{Trie}
use Rattle.branch_points.specs.KeptTries.{kept_size}
use Rattle.setfile_below.proofs.Streams.{at_some, pass-nothing, part-under, first-falls, second-falls, pass-both}
use Rattle.setfile_passes.proofs.Passes.{settled, kept}
use Rattle.kept_build.proofs.Filling.{at-runs}
use Rattle.kept_pour.specs.Parts.{Says}
use Rattle.kept_pour.specs.Passing.{Counts}
use Rattle.kept_pour.proofs.Passes.{fresh, Opened, opened, opened-pour, opened-sum, count-first, count-second}
use Rattle.kept_pour.proofs.counting.+count.Goals as goal

abbrev some : (τ : ℕ) → (c : goal.After-tally-arg-1 τ) → c.args.s.some ≡ true
some τ c = not-false _ c.if-not-s.false

abbrev some-tally-arg-in-fresh-1 : (τ : ℕ) → (c : goal.After-tally-arg-in-Fresh-1 τ) → c.args.s.some ≡ true
some-tally-arg-in-fresh-1 τ c = not-false _ c.if-not-s.false

abbrev Given : (τ : ℕ) → goal.In-Halves τ → Bits → Bits → Trie → List Bits → Trie → Type 0
Given τ c q p u ms t = let a = c.args in Counts a.w.now a.b a.n a.i a.e a.into a.bytes.now a.cursors.now a.s q p u ms t

abbrev some-in-halves : (τ : ℕ) → (c : goal.In-Halves τ) → c.args.s.some ≡ true
some-in-halves τ c = not-false _ c.if-not-s.false

said : (τ : ℕ) → (c : goal.In-Halves τ) (q p : Bits) (u : Trie) (ms : List Bits) (t : Trie) → Given τ c q p u ms t
    → let a = c.args in Says a.s.family a.w.now a.b a.n p a.e a.into c.is_whole.result t c.step-x.result
said τ c q p u ms t g = c.step-x.ensures p t g.part (sym g.at.under.depth)

inside : (τ : ℕ) → (c : goal.In-Halves τ) (q p : Bits) (u : Trie) (ms : List Bits) (t : Trie) → Given τ c q p u ms t
    → let a = c.args in Opened a.w.now a.b a.n a.e a.into a.bytes.now a.cursors.now a.s q p u ms t c.in-Halves.a c.in-Halves.m c.in-Halves.z
inside τ c q p u ms t g = let h = some-in-halves τ c in
    opened g.at h (c.is_whole.ensures q p u ms g.at.under (at_some g.at h))
    (rw c.in-Halves.is at (said τ c q p u ms t g))

abbrev here : (τ : ℕ) → (c : goal.In-Halves τ) → let (q, p, u, ms, t, g) = c.requires in
    let a = c.args in Opened a.w.now a.b a.n a.e a.into a.bytes.now a.cursors.now a.s q p u ms t c.in-Halves.a c.in-Halves.m c.in-Halves.z
here τ c = let (q, p, u, ms, t, g) = c.requires in inside τ c q p u ms t g

abbrev Given-count-arg-1 : (τ : ℕ) → goal.After-count-arg-1 τ → Bits → Bits → Trie → List Bits → Trie → Type 0
Given-count-arg-1 τ c q p u ms t = let a = c.args in Counts a.w.now a.b a.n a.i a.e a.into a.bytes.now a.cursors.now a.s q p u ms t

abbrev some-count-arg-1 : (τ : ℕ) → (c : goal.After-count-arg-1 τ) → c.args.s.some ≡ true
some-count-arg-1 τ c = not-false _ c.if-not-s.false

said-count-arg-1 : (τ : ℕ) → (c : goal.After-count-arg-1 τ) (q p : Bits) (u : Trie) (ms : List Bits) (t : Trie) → Given-count-arg-1 τ c q p u ms t
    → let a = c.args in Says a.s.family a.w.now a.b a.n p a.e a.into c.is_whole.result t c.step-x.result
said-count-arg-1 τ c q p u ms t g = c.step-x.ensures p t g.part (sym g.at.under.depth)

inside-count-arg-1 : (τ : ℕ) → (c : goal.After-count-arg-1 τ) (q p : Bits) (u : Trie) (ms : List Bits) (t : Trie) → Given-count-arg-1 τ c q p u ms t
    → let a = c.args in Opened a.w.now a.b a.n a.e a.into a.bytes.now a.cursors.now a.s q p u ms t c.in-Halves.a c.in-Halves.m c.in-Halves.z
inside-count-arg-1 τ c q p u ms t g = let h = some-count-arg-1 τ c in
    opened g.at h (c.is_whole.ensures q p u ms g.at.under (at_some g.at h))
    (rw c.in-Halves.is at (said-count-arg-1 τ c q p u ms t g))

abbrev here-count-arg-1 : (τ : ℕ) → (c : goal.After-count-arg-1 τ) → let (q, p, u, ms, t, g) = c.requires in
    let a = c.args in Opened a.w.now a.b a.n a.e a.into a.bytes.now a.cursors.now a.s q p u ms t c.in-Halves.a c.in-Halves.m c.in-Halves.z
here-count-arg-1 τ c = let (q, p, u, ms, t, g) = c.requires in inside-count-arg-1 τ c q p u ms t g

abbrev Given-h-1 : (τ : ℕ) → goal.After-h-1 τ → Bits → Bits → Trie → List Bits → Trie → Type 0
Given-h-1 τ c q p u ms t = let a = c.args in Counts a.w.now a.b a.n a.i a.e a.into a.bytes.now a.cursors.now a.s q p u ms t

abbrev some-h-1 : (τ : ℕ) → (c : goal.After-h-1 τ) → c.args.s.some ≡ true
some-h-1 τ c = not-false _ c.if-not-s.false

said-h-1 : (τ : ℕ) → (c : goal.After-h-1 τ) (q p : Bits) (u : Trie) (ms : List Bits) (t : Trie) → Given-h-1 τ c q p u ms t
    → let a = c.args in Says a.s.family a.w.now a.b a.n p a.e a.into c.is_whole.result t c.step-x.result
said-h-1 τ c q p u ms t g = c.step-x.ensures p t g.part (sym g.at.under.depth)

inside-h-1 : (τ : ℕ) → (c : goal.After-h-1 τ) (q p : Bits) (u : Trie) (ms : List Bits) (t : Trie) → Given-h-1 τ c q p u ms t
    → let a = c.args in Opened a.w.now a.b a.n a.e a.into a.bytes.now a.cursors.now a.s q p u ms t c.in-Halves.a c.in-Halves.m c.in-Halves.z
inside-h-1 τ c q p u ms t g = let h = some-h-1 τ c in
    opened g.at h (c.is_whole.ensures q p u ms g.at.under (at_some g.at h))
    (rw c.in-Halves.is at (said-h-1 τ c q p u ms t g))

abbrev here-h-1 : (τ : ℕ) → (c : goal.After-h-1 τ) → let (q, p, u, ms, t, g) = c.requires in
    let a = c.args in Opened a.w.now a.b a.n a.e a.into a.bytes.now a.cursors.now a.s q p u ms t c.in-Halves.a c.in-Halves.m c.in-Halves.z
here-h-1 τ c = let (q, p, u, ms, t, g) = c.requires in inside-h-1 τ c q p u ms t g

abbrev Given-count-arg-in-halves-1 : (τ : ℕ) → goal.After-count-arg-in-Halves-1 τ → Bits → Bits → Trie → List Bits → Trie → Type 0
Given-count-arg-in-halves-1 τ c q p u ms t = let a = c.args in Counts a.w.now a.b a.n a.i a.e a.into a.bytes.now a.cursors.now a.s q p u ms t

abbrev some-count-arg-in-halves-1 : (τ : ℕ) → (c : goal.After-count-arg-in-Halves-1 τ) → c.args.s.some ≡ true
some-count-arg-in-halves-1 τ c = not-false _ c.if-not-s.false

said-count-arg-in-halves-1 : (τ : ℕ) → (c : goal.After-count-arg-in-Halves-1 τ) (q p : Bits) (u : Trie) (ms : List Bits) (t : Trie) → Given-count-arg-in-halves-1 τ c q p u ms t
    → let a = c.args in Says a.s.family a.w.now a.b a.n p a.e a.into c.is_whole.result t c.step-x.result
said-count-arg-in-halves-1 τ c q p u ms t g = c.step-x.ensures p t g.part (sym g.at.under.depth)

inside-count-arg-in-halves-1 : (τ : ℕ) → (c : goal.After-count-arg-in-Halves-1 τ) (q p : Bits) (u : Trie) (ms : List Bits) (t : Trie) → Given-count-arg-in-halves-1 τ c q p u ms t
    → let a = c.args in Opened a.w.now a.b a.n a.e a.into a.bytes.now a.cursors.now a.s q p u ms t c.in-Halves.a c.in-Halves.m c.in-Halves.z
inside-count-arg-in-halves-1 τ c q p u ms t g = let h = some-count-arg-in-halves-1 τ c in
    opened g.at h (c.is_whole.ensures q p u ms g.at.under (at_some g.at h))
    (rw c.in-Halves.is at (said-count-arg-in-halves-1 τ c q p u ms t g))

abbrev here-count-arg-in-halves-1 : (τ : ℕ) → (c : goal.After-count-arg-in-Halves-1 τ) → let (q, p, u, ms, t, g) = c.requires in
    let a = c.args in Opened a.w.now a.b a.n a.e a.into a.bytes.now a.cursors.now a.s q p u ms t c.in-Halves.a c.in-Halves.m c.in-Halves.z
here-count-arg-in-halves-1 τ c = let (q, p, u, ms, t, g) = c.requires in inside-count-arg-in-halves-1 τ c q p u ms t g

abbrev Given-behind-in-halves-1 : (τ : ℕ) → goal.After-behind-in-Halves-1 τ → Bits → Bits → Trie → List Bits → Trie → Type 0
Given-behind-in-halves-1 τ c q p u ms t = let a = c.args in Counts a.w.now a.b a.n a.i a.e a.into a.bytes.now a.cursors.now a.s q p u ms t

abbrev some-behind-in-halves-1 : (τ : ℕ) → (c : goal.After-behind-in-Halves-1 τ) → c.args.s.some ≡ true
some-behind-in-halves-1 τ c = not-false _ c.if-not-s.false

said-behind-in-halves-1 : (τ : ℕ) → (c : goal.After-behind-in-Halves-1 τ) (q p : Bits) (u : Trie) (ms : List Bits) (t : Trie) → Given-behind-in-halves-1 τ c q p u ms t
    → let a = c.args in Says a.s.family a.w.now a.b a.n p a.e a.into c.is_whole.result t c.step-x.result
said-behind-in-halves-1 τ c q p u ms t g = c.step-x.ensures p t g.part (sym g.at.under.depth)

inside-behind-in-halves-1 : (τ : ℕ) → (c : goal.After-behind-in-Halves-1 τ) (q p : Bits) (u : Trie) (ms : List Bits) (t : Trie) → Given-behind-in-halves-1 τ c q p u ms t
    → let a = c.args in Opened a.w.now a.b a.n a.e a.into a.bytes.now a.cursors.now a.s q p u ms t c.in-Halves.a c.in-Halves.m c.in-Halves.z
inside-behind-in-halves-1 τ c q p u ms t g = let h = some-behind-in-halves-1 τ c in
    opened g.at h (c.is_whole.ensures q p u ms g.at.under (at_some g.at h))
    (rw c.in-Halves.is at (said-behind-in-halves-1 τ c q p u ms t g))

abbrev here-behind-in-halves-1 : (τ : ℕ) → (c : goal.After-behind-in-Halves-1 τ) → let (q, p, u, ms, t, g) = c.requires in
    let a = c.args in Opened a.w.now a.b a.n a.e a.into a.bytes.now a.cursors.now a.s q p u ms t c.in-Halves.a c.in-Halves.m c.in-Halves.z
here-behind-in-halves-1 τ c = let (q, p, u, ms, t, g) = c.requires in inside-behind-in-halves-1 τ c q p u ms t g

abbrev some-behind-1 : (τ : ℕ) → (c : goal.After-behind-1 τ) → c.args.s.some ≡ true
some-behind-1 τ c = not-false _ c.if-not-s.false

abbrev Given-behind-1 : (τ : ℕ) → goal.After-behind-1 τ → Bits → Bits → Trie → List Bits → Trie → Type 0
Given-behind-1 τ c q p u ms t = let a = c.args in Counts a.w.now a.b a.n a.i a.e a.into a.bytes.now a.cursors.now a.s q p u ms t

said-behind-1 : (τ : ℕ) → (c : goal.After-behind-1 τ) (q p : Bits) (u : Trie) (ms : List Bits) (t : Trie) → Given-behind-1 τ c q p u ms t
    → let a = c.args in Says a.s.family a.w.now a.b a.n p a.e a.into c.is_whole.result t c.step-x.result
said-behind-1 τ c q p u ms t g = c.step-x.ensures p t g.part (sym g.at.under.depth)

abbrev some-tally : (τ : ℕ) → (c : goal.After-tally τ) → c.args.s.some ≡ true
some-tally τ c = not-false _ c.if-not-s.false

abbrev Given-tally : (τ : ℕ) → goal.After-tally τ → Bits → Bits → Trie → List Bits → Trie → Type 0
Given-tally τ c q p u ms t = let a = c.args in Counts a.w.now a.b a.n a.i a.e a.into a.bytes.now a.cursors.now a.s q p u ms t

said-tally : (τ : ℕ) → (c : goal.After-tally τ) (q p : Bits) (u : Trie) (ms : List Bits) (t : Trie) → Given-tally τ c q p u ms t
    → let a = c.args in Says a.s.family a.w.now a.b a.n p a.e a.into c.is_whole.result t c.step-x.result
said-tally τ c q p u ms t g = c.step-x.ensures p t g.part (sym g.at.under.depth)

abbrev Given-nodes_over-nodes : (τ : ℕ) → goal.After-nodes_over-nodes τ → Bits → Bits → Trie → List Bits → Trie → Type 0
Given-nodes_over-nodes τ c q p u ms t = let a = c.args in Counts a.w.now a.b a.n a.i a.e a.into a.bytes.now a.cursors.now a.s q p u ms t

abbrev some-nodes_over-nodes : (τ : ℕ) → (c : goal.After-nodes_over-nodes τ) → c.args.s.some ≡ true
some-nodes_over-nodes τ c = not-false _ c.if-not-s.false

said-nodes_over-nodes : (τ : ℕ) → (c : goal.After-nodes_over-nodes τ) (q p : Bits) (u : Trie) (ms : List Bits) (t : Trie) → Given-nodes_over-nodes τ c q p u ms t
    → let a = c.args in Says a.s.family a.w.now a.b a.n p a.e a.into c.is_whole.result t c.step-x.result
said-nodes_over-nodes τ c q p u ms t g = c.step-x.ensures p t g.part (sym g.at.under.depth)

inside-nodes_over-nodes : (τ : ℕ) → (c : goal.After-nodes_over-nodes τ) (q p : Bits) (u : Trie) (ms : List Bits) (t : Trie) → Given-nodes_over-nodes τ c q p u ms t
    → let a = c.args in Opened a.w.now a.b a.n a.e a.into a.bytes.now a.cursors.now a.s q p u ms t c.in-Halves.a c.in-Halves.m c.in-Halves.z
inside-nodes_over-nodes τ c q p u ms t g = let h = some-nodes_over-nodes τ c in
    opened g.at h (c.is_whole.ensures q p u ms g.at.under (at_some g.at h))
    (rw c.in-Halves.is at (said-nodes_over-nodes τ c q p u ms t g))

pub nodes_of-nodes-requires : goal.nodes_of-nodes-requires
nodes_of-nodes-requires τ c = let (q, p, u, ms, t, g) = c.requires in (_, _, _, _, p, t, g.part)

pub returns-then-not-s : goal.returns-then-not-s
returns-then-not-s τ c q p u ms t g = let h = not-true _ c.if-not-s.true in
    (c.nodes_of-nodes.ensures _ _ _ _ p t g.part ∙ rw (kept g.at h _ t), pass-nothing g.at h)

pub is_whole-requires : goal.is_whole-requires
is_whole-requires τ c = tt

pub step-x-requires : goal.step-x-requires
step-x-requires τ c = let (q, p, u, ms, t, g) = c.requires in (p, t, g.part, sym g.at.under.depth)

pub flat_size-nodes-requires : goal.flat_size-nodes-requires
flat_size-nodes-requires τ c = tt

pub tally-r-requires : goal.tally-r-requires
tally-r-requires τ c = let (q, p, u, ms, t, g) = c.requires in
    (q, p, u, ms, at-runs g.at (some τ c), g.file)

pub tally-requires : goal.tally-requires
tally-requires τ c = let (q, p, u, ms, t, g) = c.requires in
    (q, p, u, ms, at-runs g.at (some-tally-arg-in-fresh-1 τ c), g.file)

pub first-f-requires : goal.first-f-requires
first-f-requires τ c = part-under (here τ c).part

pub count-l-requires : goal.count-l-requires
count-l-requires τ c = let o = here-count-arg-1 τ c in
    let y = c.requires.5 in
    let f = c.first-f.ensures in
    (omega (arith, first-falls o.part _ f, c.decreases), (_, _, _, _, _, count-first o y.file y.all _ f))

pub second-g-requires : goal.second-g-requires
second-g-requires τ c = part-under (here-h-1 τ c).part

pub count-r-requires : goal.count-r-requires
count-r-requires τ c = let o = here-count-arg-in-halves-1 τ c in
    let y = c.requires.5 in
    let f = c.first-f.ensures in
    let l = (c.count-l.ensures _ _ _ _ _ (count-first o y.file y.all _ f)).1 in
    let z = c.second-g.ensures in
    (omega (arith, second-falls o.part _ f.0 l _ z, c.decreases), (_, _, _, _, _, count-second o y.file y.all _ f.0 l _ z))

pub nodes_over-nodes-requires : goal.nodes_over-nodes-requires
nodes_over-nodes-requires τ c = let o = here-behind-in-halves-1 τ c in
    let y = c.requires.5 in
    let f = c.first-f.ensures in
    let l = c.count-l.ensures _ _ _ _ _ (count-first o y.file y.all _ f) in
    let r = c.count-r.ensures _ _ _ _ _ (count-second o y.file y.all _ f.0 l.1 _ c.second-g.ensures) in
    omega (arith, l.0, r.0, opened-sum o, y.all)

pub returns-in-Settled : goal.returns-in-Settled
returns-in-Settled τ c q p u ms t g = let h = some-behind-1 τ c in
    let v = rw c.in-Settled.is at (said-behind-1 τ c q p u ms t g) in
    let e = settled g.at h _ (c.is_whole.ensures q p u ms g.at.under (at_some g.at h)) _ t v in
    (c.flat_size-nodes.ensures ∙ sym (ap kept_size e), (c.tally-r.ensures q p u ms (at-runs g.at h) g.file).1)

pub returns-in-Fresh : goal.returns-in-Fresh
returns-in-Fresh τ c q p u ms t g = let r = c.tally.ensures q p u ms (at-runs g.at (some-tally τ c)) g.file in
    let v = rw c.in-Fresh.is at (said-tally τ c q p u ms t g) in
    (r.0 ∙ sym (ap kept_size (fresh u (v.1, v.2))), r.1)

pub returns-in-Halves : goal.returns-in-Halves
returns-in-Halves τ c q p u ms t y = let o = inside-nodes_over-nodes τ c q p u ms t y in
    let f = c.first-f.ensures in
    let l = c.count-l.ensures _ _ _ _ _ (count-first o y.file y.all _ f) in
    let z = c.second-g.ensures in
    let r = c.count-r.ensures _ _ _ _ _ (count-second o y.file y.all _ f.0 l.1 _ z) in
    (c.nodes_over-nodes.ensures _ _ l.0 r.0 ∙ sym (ap kept_size (opened-pour o)), pass-both o.part _ z.0 r.1)
