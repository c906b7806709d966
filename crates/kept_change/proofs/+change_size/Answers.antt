-- `change_size` meets its contract, by the bits that are left. Assumes nothing.
use mathlib.Core.List.{List}
use mathlib.Core.Path.{◌≡◌, sym, ap, subst, ◌∙◌}
use Prim.Native.Nat.{ℕ, ◌+◌, ◌-◌, ◌≤◌, ◌<◌}
use native.Mathlib.Omega.{arith}
use lib.ListN.{length}
use Rattle.nets.specs.Bits.{Bits}
use Rattle.nets.specs.Tries.{Trie}
use Rattle.trie_paths.proofs.Paths.{length-snoc}
use Rattle.branch_points.specs.KeptTries.{kept_size}
use Rattle.kept_steps.specs.Segments.{KeptSegment}
use Rattle.kept_plan.specs.Change.{Way, Planned, Downs}
use Rattle.kept_plan.specs.declared.Plan.{Plan}
use Rattle.kept_plan.specs.declared.Plan.TheVariants.{Halve}
use Rattle.kept_change.proofs.Results.{half, made, half-here}
use Rattle.kept_change.proofs.Whole.{segment-at, size-stay, size-halve, size-fork, drop-fits, size-drop, down-half, down-path, down-falls, size-down, made-few}
use Rattle.kept_change.proofs.+change_size.Goals as goal

abbrev Stands : (τ : ℕ) → goal.After-struct_known-1 τ → ℕ → Bits → Trie → List ℕ → Type 0
Stands τ c u p t rest = let a = c.args in KeptSegment a.family a.w.now a.b a.n a.i a.e u p t rest

planned : (τ : ℕ) → (c : goal.After-struct_known-1 τ) (u : ℕ) (p r : Bits) (t : Trie) (rest : List ℕ) → Stands τ c u p t rest → Way c.args.family p r c.args.q
    → length p ≡ c.args.d → {x : Plan} → c.plan_for-x.result ≡ x → let a = c.args in Planned a.family a.i p r a.into t x
planned τ c u p r t rest g h d e = let a = c.args in
    subst (λ x. Planned a.family a.i p r a.into t x) e (c.plan_for-x.ensures u p r t rest g h d)

halves : (τ : ℕ) → (c : goal.After-struct_known-1 τ) → c.plan_for-x.result ≡ Halve → (c.args.d < c.args.q.len) × (c.args.q.len ≤ 128)
halves τ c e = let (u, p, r, t, rest, g, h, d) = c.requires in
    let x = planned τ c u p r t rest g h d e in
    let s = size-halve g h d (x.0, x.2) in
    (s.0, s.1)

abbrev Stands-in-drop : (τ : ℕ) → goal.In-Drop τ → ℕ → Bits → Trie → List ℕ → Type 0
Stands-in-drop τ c u p t rest = let a = c.args in KeptSegment a.family a.w.now a.b a.n a.i a.e u p t rest

planned-in-drop : (τ : ℕ) → (c : goal.In-Drop τ) (u : ℕ) (p r : Bits) (t : Trie) (rest : List ℕ) → Stands-in-drop τ c u p t rest → Way c.args.family p r c.args.q
    → length p ≡ c.args.d → {x : Plan} → c.plan_for-x.result ≡ x → let a = c.args in Planned a.family a.i p r a.into t x
planned-in-drop τ c u p r t rest g h d e = let a = c.args in
    subst (λ x. Planned a.family a.i p r a.into t x) e (c.plan_for-x.ensures u p r t rest g h d)

abbrev Stands-half_of-h : (τ : ℕ) → goal.After-half_of-h τ → ℕ → Bits → Trie → List ℕ → Type 0
Stands-half_of-h τ c u p t rest = let a = c.args in KeptSegment a.family a.w.now a.b a.n a.i a.e u p t rest

planned-half_of-h : (τ : ℕ) → (c : goal.After-half_of-h τ) (u : ℕ) (p r : Bits) (t : Trie) (rest : List ℕ) → Stands-half_of-h τ c u p t rest → Way c.args.family p r c.args.q
    → length p ≡ c.args.d → {x : Plan} → c.plan_for-x.result ≡ x → let a = c.args in Planned a.family a.i p r a.into t x
planned-half_of-h τ c u p r t rest g h d e = let a = c.args in
    subst (λ x. Planned a.family a.i p r a.into t x) e (c.plan_for-x.ensures u p r t rest g h d)

downs : (τ : ℕ) → (c : goal.After-half_of-h τ) (u : ℕ) (p r : Bits) (t : Trie) (rest : List ℕ) → Stands-half_of-h τ c u p t rest → Way c.args.family p r c.args.q
    → length p ≡ c.args.d → let a = c.args in Downs a.i c.in-Down.a c.in-Down.m c.in-Down.bit r a.into t
downs τ c u p r t rest g h d = planned-half_of-h τ c u p r t rest g h d c.in-Down.is

abbrev Stands-change_size-k : (τ : ℕ) → goal.After-change_size-k τ → ℕ → Bits → Trie → List ℕ → Type 0
Stands-change_size-k τ c u p t rest = let a = c.args in KeptSegment a.family a.w.now a.b a.n a.i a.e u p t rest

planned-change_size-k : (τ : ℕ) → (c : goal.After-change_size-k τ) (u : ℕ) (p r : Bits) (t : Trie) (rest : List ℕ) → Stands-change_size-k τ c u p t rest → Way c.args.family p r c.args.q
    → length p ≡ c.args.d → {x : Plan} → c.plan_for-x.result ≡ x → let a = c.args in Planned a.family a.i p r a.into t x
planned-change_size-k τ c u p r t rest g h d e = let a = c.args in
    subst (λ x. Planned a.family a.i p r a.into t x) e (c.plan_for-x.ensures u p r t rest g h d)

downs-change_size-k : (τ : ℕ) → (c : goal.After-change_size-k τ) (u : ℕ) (p r : Bits) (t : Trie) (rest : List ℕ) → Stands-change_size-k τ c u p t rest → Way c.args.family p r c.args.q
    → length p ≡ c.args.d → let a = c.args in Downs a.i c.in-Down.a c.in-Down.m c.in-Down.bit r a.into t
downs-change_size-k τ c u p r t rest g h d = planned-change_size-k τ c u p r t rest g h d c.in-Down.is

called : (τ : ℕ) → (c : goal.After-change_size-k τ) (u : ℕ) (p r : Bits) (t : Trie) (rest : List ℕ) (g : Stands-change_size-k τ c u p t rest) (h : Way c.args.family p r c.args.q)
    (d : length p ≡ c.args.d) → let o = downs-change_size-k τ c u p r t rest g h d in
    (c.change_size-k.result ≡ kept_size (made g o)) × (c.half_of-h.result.to - c.half_of-h.result.from ≡ kept_size (half g o))
    × (c.half_of-h.result.from ≤ c.half_of-h.result.to)
called τ c u p r t rest g h d = let o = downs-change_size-k τ c u p r t rest g h d in
    let e = c.half_of-h.ensures in
    let f = down-half g o in (
      c.change_size-k.ensures u _ _ _ _ (segment-at e.0 e.1 (half-here g o)) (down-path g o h) (length-snoc p _ ∙ ap (λ (z : ℕ). z + 1) d),
      omega (arith, e, f),
      omega (arith, e, f),
    )

abbrev Stands-struct_known-in-down-1 : (τ : ℕ) → goal.After-struct_known-in-Down-1 τ → ℕ → Bits → Trie → List ℕ → Type 0
Stands-struct_known-in-down-1 τ c u p t rest = let a = c.args in KeptSegment a.family a.w.now a.b a.n a.i a.e u p t rest

planned-struct_known-in-down-1 : (τ : ℕ) → (c : goal.After-struct_known-in-Down-1 τ) (u : ℕ) (p r : Bits) (t : Trie) (rest : List ℕ) → Stands-struct_known-in-down-1 τ c u p t rest → Way c.args.family p r c.args.q
    → length p ≡ c.args.d → {x : Plan} → c.plan_for-x.result ≡ x → let a = c.args in Planned a.family a.i p r a.into t x
planned-struct_known-in-down-1 τ c u p r t rest g h d e = let a = c.args in
    subst (λ x. Planned a.family a.i p r a.into t x) e (c.plan_for-x.ensures u p r t rest g h d)

downs-struct_known-in-down-1 : (τ : ℕ) → (c : goal.After-struct_known-in-Down-1 τ) (u : ℕ) (p r : Bits) (t : Trie) (rest : List ℕ) → Stands-struct_known-in-down-1 τ c u p t rest → Way c.args.family p r c.args.q
    → length p ≡ c.args.d → let a = c.args in Downs a.i c.in-Down.a c.in-Down.m c.in-Down.bit r a.into t
downs-struct_known-in-down-1 τ c u p r t rest g h d = planned-struct_known-in-down-1 τ c u p r t rest g h d c.in-Down.is

called-struct_known-in-down-1 : (τ : ℕ) → (c : goal.After-struct_known-in-Down-1 τ) (u : ℕ) (p r : Bits) (t : Trie) (rest : List ℕ) (g : Stands-struct_known-in-down-1 τ c u p t rest) (h : Way c.args.family p r c.args.q)
    (d : length p ≡ c.args.d) → let o = downs-struct_known-in-down-1 τ c u p r t rest g h d in
    (c.change_size-k.result ≡ kept_size (made g o)) × (c.half_of-h.result.to - c.half_of-h.result.from ≡ kept_size (half g o))
    × (c.half_of-h.result.from ≤ c.half_of-h.result.to)
called-struct_known-in-down-1 τ c u p r t rest g h d = let o = downs-struct_known-in-down-1 τ c u p r t rest g h d in
    let e = c.half_of-h.ensures in
    let f = down-half g o in (
      c.change_size-k.ensures u _ _ _ _ (segment-at e.0 e.1 (half-here g o)) (down-path g o h) (length-snoc p _ ∙ ap (λ (z : ℕ). z + 1) d),
      omega (arith, e, f),
      omega (arith, e, f),
    )

abbrev Stands-in-stay : (τ : ℕ) → goal.In-Stay τ → ℕ → Bits → Trie → List ℕ → Type 0
Stands-in-stay τ c u p t rest = let a = c.args in KeptSegment a.family a.w.now a.b a.n a.i a.e u p t rest

planned-in-stay : (τ : ℕ) → (c : goal.In-Stay τ) (u : ℕ) (p r : Bits) (t : Trie) (rest : List ℕ) → Stands-in-stay τ c u p t rest → Way c.args.family p r c.args.q
    → length p ≡ c.args.d → {x : Plan} → c.plan_for-x.result ≡ x → let a = c.args in Planned a.family a.i p r a.into t x
planned-in-stay τ c u p r t rest g h d e = let a = c.args in
    subst (λ x. Planned a.family a.i p r a.into t x) e (c.plan_for-x.ensures u p r t rest g h d)

abbrev Stands-flat_size : (τ : ℕ) → goal.After-flat_size τ → ℕ → Bits → Trie → List ℕ → Type 0
Stands-flat_size τ c u p t rest = let a = c.args in KeptSegment a.family a.w.now a.b a.n a.i a.e u p t rest

planned-flat_size : (τ : ℕ) → (c : goal.After-flat_size τ) (u : ℕ) (p r : Bits) (t : Trie) (rest : List ℕ) → Stands-flat_size τ c u p t rest → Way c.args.family p r c.args.q
    → length p ≡ c.args.d → {x : Plan} → c.plan_for-x.result ≡ x → let a = c.args in Planned a.family a.i p r a.into t x
planned-flat_size τ c u p r t rest g h d e = let a = c.args in
    subst (λ x. Planned a.family a.i p r a.into t x) e (c.plan_for-x.ensures u p r t rest g h d)

abbrev Stands-in-fork : (τ : ℕ) → goal.In-Fork τ → ℕ → Bits → Trie → List ℕ → Type 0
Stands-in-fork τ c u p t rest = let a = c.args in KeptSegment a.family a.w.now a.b a.n a.i a.e u p t rest

planned-in-fork : (τ : ℕ) → (c : goal.In-Fork τ) (u : ℕ) (p r : Bits) (t : Trie) (rest : List ℕ) → Stands-in-fork τ c u p t rest → Way c.args.family p r c.args.q
    → length p ≡ c.args.d → {x : Plan} → c.plan_for-x.result ≡ x → let a = c.args in Planned a.family a.i p r a.into t x
planned-in-fork τ c u p r t rest g h d e = let a = c.args in
    subst (λ x. Planned a.family a.i p r a.into t x) e (c.plan_for-x.ensures u p r t rest g h d)

abbrev Stands-other_size : (τ : ℕ) → goal.After-other_size τ → ℕ → Bits → Trie → List ℕ → Type 0
Stands-other_size τ c u p t rest = let a = c.args in KeptSegment a.family a.w.now a.b a.n a.i a.e u p t rest

planned-other_size : (τ : ℕ) → (c : goal.After-other_size τ) (u : ℕ) (p r : Bits) (t : Trie) (rest : List ℕ) → Stands-other_size τ c u p t rest → Way c.args.family p r c.args.q
    → length p ≡ c.args.d → {x : Plan} → c.plan_for-x.result ≡ x → let a = c.args in Planned a.family a.i p r a.into t x
planned-other_size τ c u p r t rest g h d e = let a = c.args in
    subst (λ x. Planned a.family a.i p r a.into t x) e (c.plan_for-x.ensures u p r t rest g h d)

pub plan_for-x-requires : goal.plan_for-x-requires
plan_for-x-requires τ c = c.requires

pub overflow_sub-result : goal.overflow_sub-result
overflow_sub-result τ c = let (u, p, r, t, rest, g, h, d) = c.requires in omega (arith, g.end)

pub overflow_sub-result-in-Halve : goal.overflow_sub-result-in-Halve
overflow_sub-result-in-Halve τ c = omega (arith, halves τ c c.in-Halve.is)

pub overflow_cast-result : goal.overflow_cast-result
overflow_cast-result τ c = omega (arith, halves τ c c.in-Halve.is)

pub overflow_mul-result : goal.overflow_mul-result
overflow_mul-result τ c = omega (arith, halves τ c c.in-Halve.is)

pub overflow_sub-result-in-Halve-2 : goal.overflow_sub-result-in-Halve-2
overflow_sub-result-in-Halve-2 τ c = omega (arith, halves τ c c.in-Halve.is)

pub overflow_sub-result-in-Fork : goal.overflow_sub-result-in-Fork
overflow_sub-result-in-Fork τ c = let (u, p, r, t, rest, g, h, d) = c.requires in omega (arith, g.end)

pub overflow_add-result : goal.overflow_add-result
overflow_add-result τ c = let (u, p, r, t, rest, g, h, d) = c.requires in omega (arith, g.end, g.tail, g.last, g.room.few)

pub other_size-requires : goal.other_size-requires
other_size-requires τ c = let (u, p, r, t, rest, g, h, d) = c.requires in
    let x = planned-in-drop τ c u p r t rest g h d c.in-Drop.is in
    drop-fits g x.1

pub overflow_add-d : goal.overflow_add-d
overflow_add-d τ c = let (u, p, r, t, rest, g, h, d) = c.requires in
    omega (arith, down-falls g (downs τ c u p r t rest g h d) h _ d)

pub change_size-k-requires : goal.change_size-k-requires
change_size-k-requires τ c = let (u, p, r, t, rest, g, h, d) = c.requires in
    let o = downs τ c u p r t rest g h d in
    let e = c.half_of-h.ensures in (
      omega (arith, c.decreases, down-falls g o h _ d),
      (u, _, _, _, _, segment-at e.0 e.1 (half-here g o), down-path g o h, length-snoc p _ ∙ ap (λ (z : ℕ). z + 1) d),
    )

pub overflow_sub-result-in-Down : goal.overflow_sub-result-in-Down
overflow_sub-result-in-Down τ c = let (u, p, r, t, rest, g, h, d) = c.requires in omega (arith, g.end)

pub overflow_add-result-in-Down : goal.overflow_add-result-in-Down
overflow_add-result-in-Down τ c = let (u, p, r, t, rest, g, h, d) = c.requires in
    omega (arith, called τ c u p r t rest g h d, made-few g h (downs-change_size-k τ c u p r t rest g h d), down-half g (downs-change_size-k τ c u p r t rest g h d), g.room.few)

pub overflow_sub-result-in-Down-2 : goal.overflow_sub-result-in-Down-2
overflow_sub-result-in-Down-2 τ c = let (u, p, r, t, rest, g, h, d) = c.requires in omega (arith, called-struct_known-in-down-1 τ c u p r t rest g h d)

pub overflow_sub-result-in-Down-3 : goal.overflow_sub-result-in-Down-3
overflow_sub-result-in-Down-3 τ c = let (u, p, r, t, rest, g, h, d) = c.requires in
    omega (arith, called-struct_known-in-down-1 τ c u p r t rest g h d, down-half g (downs-struct_known-in-down-1 τ c u p r t rest g h d))

pub returns-in-Stay : goal.returns-in-Stay
returns-in-Stay τ c u p r t rest g h d = size-stay c.args.into r g (planned-in-stay τ c u p r t rest g h d c.in-Stay.is)

pub returns-in-Flat : goal.returns-in-Flat
returns-in-Flat τ c u p r t rest g h d = let x = planned-flat_size τ c u p r t rest g h d c.in-Flat.is in
    c.flat_size.ensures ∙ sym x.size

pub returns-in-Halve : goal.returns-in-Halve
returns-in-Halve τ c u p r t rest g h d = let x = planned τ c u p r t rest g h d c.in-Halve.is in
    rw x.1 (size-halve g h d (x.0, x.2)).2

pub returns-in-Fork : goal.returns-in-Fork
returns-in-Fork τ c u p r t rest g h d = let x = planned-in-fork τ c u p r t rest g h d c.in-Fork.is in
    rw x.0 (size-fork g x.1)

pub returns-in-Drop : goal.returns-in-Drop
returns-in-Drop τ c u p r t rest g h d = let x = planned-other_size τ c u p r t rest g h d c.in-Drop.is in
    c.other_size.ensures ∙ rw x.0 (size-drop g x.1)

pub returns-in-Down : goal.returns-in-Down
returns-in-Down τ c u p r t rest g h d = let y = called-struct_known-in-down-1 τ c u p r t rest g h d in
    size-down g (downs-struct_known-in-down-1 τ c u p r t rest g h d) _ _ y.0 y.1
