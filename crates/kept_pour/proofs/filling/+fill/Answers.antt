-- `filling::fill` meets its contract, by the depth that is left. Assumes nothing.
use mathlib.Core.Bool.{true, false}
use mathlib.Core.List.{List}
use mathlib.Core.Path.{◌≡◌, sym}
use Prim.Native.Nat.{ℕ, ◌-◌}
use native.Mathlib.Omega.{arith}
use borrow.Author.Tests.{not-true, not-false}
use Rattle.nets.specs.Bits.{Bits}
use Rattle.nets.specs.Tries.{Trie}
use Rattle.trie_paths.specs.Spans.{snoc}
use Rattle.setfile_below.specs.Stream.{At}
use Rattle.setfile_below.proofs.Streams.{at_some, pass-nothing, part-under, at_first, first-falls, at_second, second-falls, pass-both}
use Rattle.setfile_passes.proofs.Passes.{settled, kept}
use Rattle.kept_build.proofs.Filling.{at-runs}
use Rattle.kept_pour.specs.Parts.{Says}
use Rattle.kept_pour.specs.Passing.{Fills}
use Rattle.kept_pour.proofs.Passes.{fresh, Opened, opened, opened-pour, opened-short}
use Rattle.kept_pour.proofs.Fills.{fill-keeps, fill-room, fill-grows, fill-as, of-family, path-of, fill-first, fill-second, fill-closing}
use Rattle.kept_pour.proofs.filling.+fill.Goals as goal

abbrev Given : (τ : ℕ) → goal.After-flat-arg-1 τ → Bits → Bits → Trie → List Bits → Trie → Type 0
Given τ c q p u ms t = let a = c.args in
    At a.bytes.now a.cursors.now a.s q p u ms × Fills a.s.family a.w.now a.b a.n a.i a.e a.g a.into p u t

said : (τ : ℕ) → (c : goal.After-flat-arg-1 τ) (q p : Bits) (u : Trie) (ms : List Bits) (t : Trie) → Given τ c q p u ms t
    → let a = c.args in Says a.s.family a.w.now a.b a.n p a.e a.into c.is_whole.result t c.step-x.result
said τ c q p u ms t (g, f) = c.step-x.ensures p t f.part (sym g.under.depth)

abbrev some : (τ : ℕ) → (c : goal.After-flat-arg-1 τ) → c.args.s.some ≡ true
some τ c = not-false _ c.if-not-s.false

abbrev some-tally-arg-1 : (τ : ℕ) → (c : goal.After-tally-arg-1 τ) → c.args.s.some ≡ true
some-tally-arg-1 τ c = not-false _ c.if-not-s.false

abbrev Given-grow-arg-in-fresh-1 : (τ : ℕ) → goal.After-grow-arg-in-Fresh-1 τ → Bits → Bits → Trie → List Bits → Trie → Type 0
Given-grow-arg-in-fresh-1 τ c q p u ms t = let a = c.args in
    At a.bytes.now a.cursors.now a.s q p u ms × Fills a.s.family a.w.now a.b a.n a.i a.e a.g a.into p u t

said-grow-arg-in-fresh-1 : (τ : ℕ) → (c : goal.After-grow-arg-in-Fresh-1 τ) (q p : Bits) (u : Trie) (ms : List Bits) (t : Trie) → Given-grow-arg-in-fresh-1 τ c q p u ms t
    → let a = c.args in Says a.s.family a.w.now a.b a.n p a.e a.into c.is_whole.result t c.step-x.result
said-grow-arg-in-fresh-1 τ c q p u ms t (g, f) = c.step-x.ensures p t f.part (sym g.under.depth)

abbrev some-grow-arg-in-fresh-1 : (τ : ℕ) → (c : goal.After-grow-arg-in-Fresh-1 τ) → c.args.s.some ≡ true
some-grow-arg-in-fresh-1 τ c = not-false _ c.if-not-s.false

abbrev Given-in-halves : (τ : ℕ) → goal.In-Halves τ → Bits → Bits → Trie → List Bits → Trie → Type 0
Given-in-halves τ c q p u ms t = let a = c.args in
    At a.bytes.now a.cursors.now a.s q p u ms × Fills a.s.family a.w.now a.b a.n a.i a.e a.g a.into p u t

abbrev some-in-halves : (τ : ℕ) → (c : goal.In-Halves τ) → c.args.s.some ≡ true
some-in-halves τ c = not-false _ c.if-not-s.false

said-in-halves : (τ : ℕ) → (c : goal.In-Halves τ) (q p : Bits) (u : Trie) (ms : List Bits) (t : Trie) → Given-in-halves τ c q p u ms t
    → let a = c.args in Says a.s.family a.w.now a.b a.n p a.e a.into c.is_whole.result t c.step-x.result
said-in-halves τ c q p u ms t (g, f) = c.step-x.ensures p t f.part (sym g.under.depth)

inside : (τ : ℕ) → (c : goal.In-Halves τ) (q p : Bits) (u : Trie) (ms : List Bits) (t : Trie) → Given-in-halves τ c q p u ms t
    → let a = c.args in Opened a.w.now a.b a.n a.e a.into a.bytes.now a.cursors.now a.s q p u ms t c.in-Halves.a c.in-Halves.m c.in-Halves.z
inside τ c q p u ms t (g, f) = let h = some-in-halves τ c in
    opened g h (c.is_whole.ensures q p u ms g.under (at_some g h)) (rw c.in-Halves.is at (said-in-halves τ c q p u ms t (g, f)))

abbrev here : (τ : ℕ) → (c : goal.In-Halves τ) → let (q, p, u, ms, t, is, g, f) = c.requires in
    let a = c.args in Opened a.w.now a.b a.n a.e a.into a.bytes.now a.cursors.now a.s q p u ms t c.in-Halves.a c.in-Halves.m c.in-Halves.z
here τ c = let (q, p, u, ms, t, is, g, f) = c.requires in inside τ c q p u ms t (g, f)

abbrev Given-first-s0 : (τ : ℕ) → goal.After-first-s0 τ → Bits → Bits → Trie → List Bits → Trie → Type 0
Given-first-s0 τ c q p u ms t = let a = c.args in
    At a.bytes.now a.cursors.now a.s q p u ms × Fills a.s.family a.w.now a.b a.n a.i a.e a.g a.into p u t

abbrev some-first-s0 : (τ : ℕ) → (c : goal.After-first-s0 τ) → c.args.s.some ≡ true
some-first-s0 τ c = not-false _ c.if-not-s.false

said-first-s0 : (τ : ℕ) → (c : goal.After-first-s0 τ) (q p : Bits) (u : Trie) (ms : List Bits) (t : Trie) → Given-first-s0 τ c q p u ms t
    → let a = c.args in Says a.s.family a.w.now a.b a.n p a.e a.into c.is_whole.result t c.step-x.result
said-first-s0 τ c q p u ms t (g, f) = c.step-x.ensures p t f.part (sym g.under.depth)

inside-first-s0 : (τ : ℕ) → (c : goal.After-first-s0 τ) (q p : Bits) (u : Trie) (ms : List Bits) (t : Trie) → Given-first-s0 τ c q p u ms t
    → let a = c.args in Opened a.w.now a.b a.n a.e a.into a.bytes.now a.cursors.now a.s q p u ms t c.in-Halves.a c.in-Halves.m c.in-Halves.z
inside-first-s0 τ c q p u ms t (g, f) = let h = some-first-s0 τ c in
    opened g h (c.is_whole.ensures q p u ms g.under (at_some g h)) (rw c.in-Halves.is at (said-first-s0 τ c q p u ms t (g, f)))

abbrev here-first-s0 : (τ : ℕ) → (c : goal.After-first-s0 τ) → let (q, p, u, ms, t, is, g, f) = c.requires in
    let a = c.args in Opened a.w.now a.b a.n a.e a.into a.bytes.now a.cursors.now a.s q p u ms t c.in-Halves.a c.in-Halves.m c.in-Halves.z
here-first-s0 τ c = let (q, p, u, ms, t, is, g, f) = c.requires in inside-first-s0 τ c q p u ms t (g, f)

abbrev Given-fill-arg-in-halves-1 : (τ : ℕ) → goal.After-fill-arg-in-Halves-1 τ → Bits → Bits → Trie → List Bits → Trie → Type 0
Given-fill-arg-in-halves-1 τ c q p u ms t = let a = c.args in
    At a.bytes.now a.cursors.now a.s q p u ms × Fills a.s.family a.w.now a.b a.n a.i a.e a.g a.into p u t

abbrev some-fill-arg-in-halves-1 : (τ : ℕ) → (c : goal.After-fill-arg-in-Halves-1 τ) → c.args.s.some ≡ true
some-fill-arg-in-halves-1 τ c = not-false _ c.if-not-s.false

said-fill-arg-in-halves-1 : (τ : ℕ) → (c : goal.After-fill-arg-in-Halves-1 τ) (q p : Bits) (u : Trie) (ms : List Bits) (t : Trie) → Given-fill-arg-in-halves-1 τ c q p u ms t
    → let a = c.args in Says a.s.family a.w.now a.b a.n p a.e a.into c.is_whole.result t c.step-x.result
said-fill-arg-in-halves-1 τ c q p u ms t (g, f) = c.step-x.ensures p t f.part (sym g.under.depth)

inside-fill-arg-in-halves-1 : (τ : ℕ) → (c : goal.After-fill-arg-in-Halves-1 τ) (q p : Bits) (u : Trie) (ms : List Bits) (t : Trie) → Given-fill-arg-in-halves-1 τ c q p u ms t
    → let a = c.args in Opened a.w.now a.b a.n a.e a.into a.bytes.now a.cursors.now a.s q p u ms t c.in-Halves.a c.in-Halves.m c.in-Halves.z
inside-fill-arg-in-halves-1 τ c q p u ms t (g, f) = let h = some-fill-arg-in-halves-1 τ c in
    opened g h (c.is_whole.ensures q p u ms g.under (at_some g h)) (rw c.in-Halves.is at (said-fill-arg-in-halves-1 τ c q p u ms t (g, f)))

abbrev here-fill-arg-in-halves-1 : (τ : ℕ) → (c : goal.After-fill-arg-in-Halves-1 τ) → let (q, p, u, ms, t, is, g, f) = c.requires in
    let a = c.args in Opened a.w.now a.b a.n a.e a.into a.bytes.now a.cursors.now a.s q p u ms t c.in-Halves.a c.in-Halves.m c.in-Halves.z
here-fill-arg-in-halves-1 τ c = let (q, p, u, ms, t, is, g, f) = c.requires in inside-fill-arg-in-halves-1 τ c q p u ms t (g, f)

abbrev Given-second-arg-1 : (τ : ℕ) → goal.After-second-arg-1 τ → Bits → Bits → Trie → List Bits → Trie → Type 0
Given-second-arg-1 τ c q p u ms t = let a = c.args in
    At a.bytes.now a.cursors.now a.s q p u ms × Fills a.s.family a.w.now a.b a.n a.i a.e a.g a.into p u t

abbrev some-second-arg-1 : (τ : ℕ) → (c : goal.After-second-arg-1 τ) → c.args.s.some ≡ true
some-second-arg-1 τ c = not-false _ c.if-not-s.false

said-second-arg-1 : (τ : ℕ) → (c : goal.After-second-arg-1 τ) (q p : Bits) (u : Trie) (ms : List Bits) (t : Trie) → Given-second-arg-1 τ c q p u ms t
    → let a = c.args in Says a.s.family a.w.now a.b a.n p a.e a.into c.is_whole.result t c.step-x.result
said-second-arg-1 τ c q p u ms t (g, f) = c.step-x.ensures p t f.part (sym g.under.depth)

inside-second-arg-1 : (τ : ℕ) → (c : goal.After-second-arg-1 τ) (q p : Bits) (u : Trie) (ms : List Bits) (t : Trie) → Given-second-arg-1 τ c q p u ms t
    → let a = c.args in Opened a.w.now a.b a.n a.e a.into a.bytes.now a.cursors.now a.s q p u ms t c.in-Halves.a c.in-Halves.m c.in-Halves.z
inside-second-arg-1 τ c q p u ms t (g, f) = let h = some-second-arg-1 τ c in
    opened g h (c.is_whole.ensures q p u ms g.under (at_some g h)) (rw c.in-Halves.is at (said-second-arg-1 τ c q p u ms t (g, f)))

abbrev here-second-arg-1 : (τ : ℕ) → (c : goal.After-second-arg-1 τ) → let (q, p, u, ms, t, is, g, f) = c.requires in
    let a = c.args in Opened a.w.now a.b a.n a.e a.into a.bytes.now a.cursors.now a.s q p u ms t c.in-Halves.a c.in-Halves.m c.in-Halves.z
here-second-arg-1 τ c = let (q, p, u, ms, t, is, g, f) = c.requires in inside-second-arg-1 τ c q p u ms t (g, f)

abbrev Given-second-s1 : (τ : ℕ) → goal.After-second-s1 τ → Bits → Bits → Trie → List Bits → Trie → Type 0
Given-second-s1 τ c q p u ms t = let a = c.args in
    At a.bytes.now a.cursors.now a.s q p u ms × Fills a.s.family a.w.now a.b a.n a.i a.e a.g a.into p u t

abbrev some-second-s1 : (τ : ℕ) → (c : goal.After-second-s1 τ) → c.args.s.some ≡ true
some-second-s1 τ c = not-false _ c.if-not-s.false

said-second-s1 : (τ : ℕ) → (c : goal.After-second-s1 τ) (q p : Bits) (u : Trie) (ms : List Bits) (t : Trie) → Given-second-s1 τ c q p u ms t
    → let a = c.args in Says a.s.family a.w.now a.b a.n p a.e a.into c.is_whole.result t c.step-x.result
said-second-s1 τ c q p u ms t (g, f) = c.step-x.ensures p t f.part (sym g.under.depth)

inside-second-s1 : (τ : ℕ) → (c : goal.After-second-s1 τ) (q p : Bits) (u : Trie) (ms : List Bits) (t : Trie) → Given-second-s1 τ c q p u ms t
    → let a = c.args in Opened a.w.now a.b a.n a.e a.into a.bytes.now a.cursors.now a.s q p u ms t c.in-Halves.a c.in-Halves.m c.in-Halves.z
inside-second-s1 τ c q p u ms t (g, f) = let h = some-second-s1 τ c in
    opened g h (c.is_whole.ensures q p u ms g.under (at_some g h)) (rw c.in-Halves.is at (said-second-s1 τ c q p u ms t (g, f)))

abbrev here-second-s1 : (τ : ℕ) → (c : goal.After-second-s1 τ) → let (q, p, u, ms, t, is, g, f) = c.requires in
    let a = c.args in Opened a.w.now a.b a.n a.e a.into a.bytes.now a.cursors.now a.s q p u ms t c.in-Halves.a c.in-Halves.m c.in-Halves.z
here-second-s1 τ c = let (q, p, u, ms, t, is, g, f) = c.requires in inside-second-s1 τ c q p u ms t (g, f)

abbrev Given-fill-arg-in-halves-3-1 : (τ : ℕ) → goal.After-fill-arg-in-Halves-3-1 τ → Bits → Bits → Trie → List Bits → Trie → Type 0
Given-fill-arg-in-halves-3-1 τ c q p u ms t = let a = c.args in
    At a.bytes.now a.cursors.now a.s q p u ms × Fills a.s.family a.w.now a.b a.n a.i a.e a.g a.into p u t

abbrev some-fill-arg-in-halves-3-1 : (τ : ℕ) → (c : goal.After-fill-arg-in-Halves-3-1 τ) → c.args.s.some ≡ true
some-fill-arg-in-halves-3-1 τ c = not-false _ c.if-not-s.false

said-fill-arg-in-halves-3-1 : (τ : ℕ) → (c : goal.After-fill-arg-in-Halves-3-1 τ) (q p : Bits) (u : Trie) (ms : List Bits) (t : Trie) → Given-fill-arg-in-halves-3-1 τ c q p u ms t
    → let a = c.args in Says a.s.family a.w.now a.b a.n p a.e a.into c.is_whole.result t c.step-x.result
said-fill-arg-in-halves-3-1 τ c q p u ms t (g, f) = c.step-x.ensures p t f.part (sym g.under.depth)

inside-fill-arg-in-halves-3-1 : (τ : ℕ) → (c : goal.After-fill-arg-in-Halves-3-1 τ) (q p : Bits) (u : Trie) (ms : List Bits) (t : Trie) → Given-fill-arg-in-halves-3-1 τ c q p u ms t
    → let a = c.args in Opened a.w.now a.b a.n a.e a.into a.bytes.now a.cursors.now a.s q p u ms t c.in-Halves.a c.in-Halves.m c.in-Halves.z
inside-fill-arg-in-halves-3-1 τ c q p u ms t (g, f) = let h = some-fill-arg-in-halves-3-1 τ c in
    opened g h (c.is_whole.ensures q p u ms g.under (at_some g h)) (rw c.in-Halves.is at (said-fill-arg-in-halves-3-1 τ c q p u ms t (g, f)))

abbrev here-fill-arg-in-halves-3-1 : (τ : ℕ) → (c : goal.After-fill-arg-in-Halves-3-1 τ) → let (q, p, u, ms, t, is, g, f) = c.requires in
    let a = c.args in Opened a.w.now a.b a.n a.e a.into a.bytes.now a.cursors.now a.s q p u ms t c.in-Halves.a c.in-Halves.m c.in-Halves.z
here-fill-arg-in-halves-3-1 τ c = let (q, p, u, ms, t, is, g, f) = c.requires in inside-fill-arg-in-halves-3-1 τ c q p u ms t (g, f)

abbrev Given-close-arg-1 : (τ : ℕ) → goal.After-close-arg-1 τ → Bits → Bits → Trie → List Bits → Trie → Type 0
Given-close-arg-1 τ c q p u ms t = let a = c.args in
    At a.bytes.now a.cursors.now a.s q p u ms × Fills a.s.family a.w.now a.b a.n a.i a.e a.g a.into p u t

abbrev some-close-arg-1 : (τ : ℕ) → (c : goal.After-close-arg-1 τ) → c.args.s.some ≡ true
some-close-arg-1 τ c = not-false _ c.if-not-s.false

said-close-arg-1 : (τ : ℕ) → (c : goal.After-close-arg-1 τ) (q p : Bits) (u : Trie) (ms : List Bits) (t : Trie) → Given-close-arg-1 τ c q p u ms t
    → let a = c.args in Says a.s.family a.w.now a.b a.n p a.e a.into c.is_whole.result t c.step-x.result
said-close-arg-1 τ c q p u ms t (g, f) = c.step-x.ensures p t f.part (sym g.under.depth)

inside-close-arg-1 : (τ : ℕ) → (c : goal.After-close-arg-1 τ) (q p : Bits) (u : Trie) (ms : List Bits) (t : Trie) → Given-close-arg-1 τ c q p u ms t
    → let a = c.args in Opened a.w.now a.b a.n a.e a.into a.bytes.now a.cursors.now a.s q p u ms t c.in-Halves.a c.in-Halves.m c.in-Halves.z
inside-close-arg-1 τ c q p u ms t (g, f) = let h = some-close-arg-1 τ c in
    opened g h (c.is_whole.ensures q p u ms g.under (at_some g h)) (rw c.in-Halves.is at (said-close-arg-1 τ c q p u ms t (g, f)))

abbrev here-close-arg-1 : (τ : ℕ) → (c : goal.After-close-arg-1 τ) → let (q, p, u, ms, t, is, g, f) = c.requires in
    let a = c.args in Opened a.w.now a.b a.n a.e a.into a.bytes.now a.cursors.now a.s q p u ms t c.in-Halves.a c.in-Halves.m c.in-Halves.z
here-close-arg-1 τ c = let (q, p, u, ms, t, is, g, f) = c.requires in inside-close-arg-1 τ c q p u ms t (g, f)

abbrev some-behind-1 : (τ : ℕ) → (c : goal.After-behind-1 τ) → c.args.s.some ≡ true
some-behind-1 τ c = not-false _ c.if-not-s.false

abbrev Given-behind-1 : (τ : ℕ) → goal.After-behind-1 τ → Bits → Bits → Trie → List Bits → Trie → Type 0
Given-behind-1 τ c q p u ms t = let a = c.args in
    At a.bytes.now a.cursors.now a.s q p u ms × Fills a.s.family a.w.now a.b a.n a.i a.e a.g a.into p u t

said-behind-1 : (τ : ℕ) → (c : goal.After-behind-1 τ) (q p : Bits) (u : Trie) (ms : List Bits) (t : Trie) → Given-behind-1 τ c q p u ms t
    → let a = c.args in Says a.s.family a.w.now a.b a.n p a.e a.into c.is_whole.result t c.step-x.result
said-behind-1 τ c q p u ms t (g, f) = c.step-x.ensures p t f.part (sym g.under.depth)

abbrev Given-slice_known-in-fresh-1 : (τ : ℕ) → goal.After-slice_known-in-Fresh-1 τ → Bits → Bits → Trie → List Bits → Trie → Type 0
Given-slice_known-in-fresh-1 τ c q p u ms t = let a = c.args in
    At a.bytes.now a.cursors.now a.s q p u ms × Fills a.s.family a.w.now a.b a.n a.i a.e a.g a.into p u t

said-slice_known-in-fresh-1 : (τ : ℕ) → (c : goal.After-slice_known-in-Fresh-1 τ) (q p : Bits) (u : Trie) (ms : List Bits) (t : Trie) → Given-slice_known-in-fresh-1 τ c q p u ms t
    → let a = c.args in Says a.s.family a.w.now a.b a.n p a.e a.into c.is_whole.result t c.step-x.result
said-slice_known-in-fresh-1 τ c q p u ms t (g, f) = c.step-x.ensures p t f.part (sym g.under.depth)

abbrev some-slice_known-in-fresh-1 : (τ : ℕ) → (c : goal.After-slice_known-in-Fresh-1 τ) → c.args.s.some ≡ true
some-slice_known-in-fresh-1 τ c = not-false _ c.if-not-s.false

abbrev Given-slice_known-in-halves-3-1 : (τ : ℕ) → goal.After-slice_known-in-Halves-3-1 τ → Bits → Bits → Trie → List Bits → Trie → Type 0
Given-slice_known-in-halves-3-1 τ c q p u ms t = let a = c.args in
    At a.bytes.now a.cursors.now a.s q p u ms × Fills a.s.family a.w.now a.b a.n a.i a.e a.g a.into p u t

abbrev some-slice_known-in-halves-3-1 : (τ : ℕ) → (c : goal.After-slice_known-in-Halves-3-1 τ) → c.args.s.some ≡ true
some-slice_known-in-halves-3-1 τ c = not-false _ c.if-not-s.false

said-slice_known-in-halves-3-1 : (τ : ℕ) → (c : goal.After-slice_known-in-Halves-3-1 τ) (q p : Bits) (u : Trie) (ms : List Bits) (t : Trie) → Given-slice_known-in-halves-3-1 τ c q p u ms t
    → let a = c.args in Says a.s.family a.w.now a.b a.n p a.e a.into c.is_whole.result t c.step-x.result
said-slice_known-in-halves-3-1 τ c q p u ms t (g, f) = c.step-x.ensures p t f.part (sym g.under.depth)

inside-slice_known-in-halves-3-1 : (τ : ℕ) → (c : goal.After-slice_known-in-Halves-3-1 τ) (q p : Bits) (u : Trie) (ms : List Bits) (t : Trie) → Given-slice_known-in-halves-3-1 τ c q p u ms t
    → let a = c.args in Opened a.w.now a.b a.n a.e a.into a.bytes.now a.cursors.now a.s q p u ms t c.in-Halves.a c.in-Halves.m c.in-Halves.z
inside-slice_known-in-halves-3-1 τ c q p u ms t (g, f) = let h = some-slice_known-in-halves-3-1 τ c in
    opened g h (c.is_whole.ensures q p u ms g.under (at_some g h)) (rw c.in-Halves.is at (said-slice_known-in-halves-3-1 τ c q p u ms t (g, f)))

pub keep-start-requires : goal.keep-start-requires
keep-start-requires τ c = let (q, p, u, ms, t, is, g, f) = c.requires in
    (_, p, t, fill-keeps f (kept g (not-true _ c.if-not-s.true) _ t))

pub returns-then-not-s : goal.returns-then-not-s
returns-then-not-s τ c q p u ms t is g f = let h = not-true _ c.if-not-s.true in
    let e = kept g h _ t in
    (fill-as e (c.keep-start.ensures _ p t is f.short (fill-keeps f e)), pass-nothing g h)

pub is_whole-requires : goal.is_whole-requires
is_whole-requires τ c = tt

pub step-x-requires : goal.step-x-requires
step-x-requires τ c = let (q, p, u, ms, t, is, g, f) = c.requires in (p, t, f.part, sym g.under.depth)

pub flat-start-requires : goal.flat-start-requires
flat-start-requires τ c = let (q, p, u, ms, t, is, g, f) = c.requires in
    let v = rw c.in-Settled.is at (said τ c q p u ms t (g, f)) in
    fill-room f (settled g (some τ c) _ (c.is_whole.ensures q p u ms g.under (at_some g (some τ c))) _ t v)

pub tally-r-requires : goal.tally-r-requires
tally-r-requires τ c = let (q, p, u, ms, t, is, g, f) = c.requires in
    (q, p, u, ms, at-runs g (some-tally-arg-1 τ c), f.file)

pub grow-requires : goal.grow-requires
grow-requires τ c = let (q, p, u, ms, t, is, g, f) = c.requires in
    let v = rw c.in-Fresh.is at (said-grow-arg-in-fresh-1 τ c q p u ms t (g, f)) in
    (q, p, u, ms, fill-grows f (fresh u (v.1, v.2)) g (some-grow-arg-in-fresh-1 τ c))

pub first-s0-requires : goal.first-s0-requires
first-s0-requires τ c = part-under (here τ c).part

pub child-p0-requires : goal.child-p0-requires
child-p0-requires τ c = let (q, p, u, ms, t, is, g, f) = c.requires in
    (_, p, is, opened-short (here-first-s0 τ c))

pub fill-l-requires : goal.fill-l-requires
fill-l-requires τ c = let (q, p, u, ms, t, is, g, v) = c.requires in
    let o = here-fill-arg-in-halves-1 τ c in
    let f = c.first-s0.ensures in (
      omega (arith, first-falls o.part _ f, c.decreases),
      (_, _, _, _, _, path-of (snoc p false) f.0 (c.child-p0.ensures _ p is), at_first o.part _ f, fill-first v o _ f.0),
    )

pub second-s1-requires : goal.second-s1-requires
second-s1-requires τ c = part-under (here-second-arg-1 τ c).part

pub child-p1-requires : goal.child-p1-requires
child-p1-requires τ c = let (q, p, u, ms, t, is, g, f) = c.requires in
    (_, p, is, opened-short (here-second-s1 τ c))

pub fill-r-requires : goal.fill-r-requires
fill-r-requires τ c = let (q, p, u, ms, t, is, g, v) = c.requires in
    let o = here-fill-arg-in-halves-3-1 τ c in
    let f = c.first-s0.ensures in
    let p0 = path-of (snoc p false) f.0 (c.child-p0.ensures _ p is) in
    let l = c.fill-l.ensures _ _ _ _ _ p0 (at_first o.part _ f) (fill-first v o _ f.0) in
    let s = c.second-s1.ensures in
    let p1 = path-of (snoc p true) s.0 (c.child-p1.ensures _ p is) in
    let k = of-family f.0 l.0 in (
      omega (arith, second-falls o.part _ f.0 l.1 _ s, c.decreases),
      (_, _, _, _, _, p1, at_second o.part _ f.0 l.1 _ s, fill-second v o k _ s.0),
    )

pub close-start-requires : goal.close-start-requires
close-start-requires τ c = let (q, p, u, ms, t, is, g, v) = c.requires in
    let o = here-close-arg-1 τ c in
    let f = c.first-s0.ensures in
    let p0 = path-of (snoc p false) f.0 (c.child-p0.ensures _ p is) in
    let l = c.fill-l.ensures _ _ _ _ _ p0 (at_first o.part _ f) (fill-first v o _ f.0) in
    let s = c.second-s1.ensures in
    let k = of-family f.0 l.0 in
    let p1 = path-of (snoc p true) s.0 (c.child-p1.ensures _ p is) in
    let r = c.fill-r.ensures _ _ _ _ _ p1 (at_second o.part _ f.0 l.1 _ s) (fill-second v o k _ s.0) in
    (_, p, _, _, fill-closing v o k (of-family s.0 r.0))

pub returns-in-Settled : goal.returns-in-Settled
returns-in-Settled τ c q p u ms t is g f = let h = some-behind-1 τ c in
    let v = rw c.in-Settled.is at (said-behind-1 τ c q p u ms t (g, f)) in (
      fill-as (settled g h _ (c.is_whole.ensures q p u ms g.under (at_some g h)) _ t v)
          (c.flat-start.ensures p is f.short),
      (c.tally-r.ensures q p u ms (at-runs g h) f.file).1,
    )

pub returns-in-Fresh : goal.returns-in-Fresh
returns-in-Fresh τ c q p u ms t is g f = let v = rw c.in-Fresh.is at (said-slice_known-in-fresh-1 τ c q p u ms t (g, f)) in
    let e = fresh u (v.1, v.2) in
    let r = c.grow.ensures q p u ms (fill-grows f e g (some-slice_known-in-fresh-1 τ c)) in
    (fill-as e r.0, r.1)

pub returns-in-Halves : goal.returns-in-Halves
returns-in-Halves τ c q p u ms t is g v = let o = inside-slice_known-in-halves-3-1 τ c q p u ms t (g, v) in
    let f = c.first-s0.ensures in
    let p0 = path-of (snoc p false) f.0 (c.child-p0.ensures _ p is) in
    let l = c.fill-l.ensures _ _ _ _ _ p0 (at_first o.part _ f) (fill-first v o _ f.0) in
    let s = c.second-s1.ensures in
    let k = of-family f.0 l.0 in
    let p1 = path-of (snoc p true) s.0 (c.child-p1.ensures _ p is) in
    let r = c.fill-r.ensures _ _ _ _ _ p1 (at_second o.part _ f.0 l.1 _ s) (fill-second v o k _ s.0) in
    let y = c.close-start.ensures _ p _ _ is v.short (fill-closing v o k (of-family s.0 r.0)) in
    (fill-as (opened-pour o) y, pass-both o.part _ s.0 r.1)
