-- `change` meets its contract, by the bits that are left. Assumes nothing.
use mathlib.Core.List.{List, ◌++◌}
use mathlib.Core.Path.{◌≡◌, sym, subst}
use Prim.Native.Nat.{ℕ}
use native.Mathlib.Omega.{arith}
use Rattle.nets.specs.Bits.{Bits}
use Rattle.nets.specs.Networks.{net_from}
use Rattle.nets.specs.Tries.{Trie, side}
use Rattle.trie_paths.specs.Spans.{snoc}
use Rattle.trie_paths.proofs.Paths.{path-is, length-snoc}
use Rattle.kept_steps.specs.Segments.{KeptSpliced}
use Rattle.kept_steps.proofs.Halves.{behind}
use Rattle.kept_plan.specs.Change.{Changes, Planned, Downs}
use Rattle.kept_plan.specs.declared.Plan.{Plan}
use Rattle.kept_change.proofs.Results.{made}
use Rattle.kept_change.proofs.Whole.{way-path, changes-at, spliced-at, stay-spliced, flat-acts, flat-spliced, halve-acts, halve-spliced, fork-acts, fork-spliced, drop-halves, drop-spliced, down-changes, down-short, down-falls, down-relinks, down-done}
use Rattle.kept_change.proofs.+change.Goals as goal

abbrev Given : (τ : ℕ) → goal.After-flat-arg-1 τ → Bits → Bits → Trie → List ℕ → Type 0
Given τ c p r t rest = let a = c.args in Changes a.family a.w.now a.b a.n a.i a.e a.u p r a.q a.into t rest

planned : (τ : ℕ) → (c : goal.After-flat-arg-1 τ) (p r : Bits) (t : Trie) (rest : List ℕ) → c.args.path ≡ net_from c.args.family p → Given τ c p r t rest
    → {x : Plan} → c.plan_for-x.result ≡ x → let a = c.args in Planned a.family a.i p r a.into t x
planned τ c p r t rest is g e = let a = c.args in
    subst (λ x. Planned a.family a.i p r a.into t x) e (c.plan_for-x.ensures _ p r t rest g.here g.way (sym (path-is _ _ p is).0))

abbrev Given-halve-arg-1 : (τ : ℕ) → goal.After-halve-arg-1 τ → Bits → Bits → Trie → List ℕ → Type 0
Given-halve-arg-1 τ c p r t rest = let a = c.args in Changes a.family a.w.now a.b a.n a.i a.e a.u p r a.q a.into t rest

planned-halve-arg-1 : (τ : ℕ) → (c : goal.After-halve-arg-1 τ) (p r : Bits) (t : Trie) (rest : List ℕ) → c.args.path ≡ net_from c.args.family p → Given-halve-arg-1 τ c p r t rest
    → {x : Plan} → c.plan_for-x.result ≡ x → let a = c.args in Planned a.family a.i p r a.into t x
planned-halve-arg-1 τ c p r t rest is g e = let a = c.args in
    subst (λ x. Planned a.family a.i p r a.into t x) e (c.plan_for-x.ensures _ p r t rest g.here g.way (sym (path-is _ _ p is).0))

abbrev Given-fork-arg-1 : (τ : ℕ) → goal.After-fork-arg-1 τ → Bits → Bits → Trie → List ℕ → Type 0
Given-fork-arg-1 τ c p r t rest = let a = c.args in Changes a.family a.w.now a.b a.n a.i a.e a.u p r a.q a.into t rest

planned-fork-arg-1 : (τ : ℕ) → (c : goal.After-fork-arg-1 τ) (p r : Bits) (t : Trie) (rest : List ℕ) → c.args.path ≡ net_from c.args.family p → Given-fork-arg-1 τ c p r t rest
    → {x : Plan} → c.plan_for-x.result ≡ x → let a = c.args in Planned a.family a.i p r a.into t x
planned-fork-arg-1 τ c p r t rest is g e = let a = c.args in
    subst (λ x. Planned a.family a.i p r a.into t x) e (c.plan_for-x.ensures _ p r t rest g.here g.way (sym (path-is _ _ p is).0))

abbrev Given-drop_half-arg-1 : (τ : ℕ) → goal.After-drop_half-arg-1 τ → Bits → Bits → Trie → List ℕ → Type 0
Given-drop_half-arg-1 τ c p r t rest = let a = c.args in Changes a.family a.w.now a.b a.n a.i a.e a.u p r a.q a.into t rest

planned-drop_half-arg-1 : (τ : ℕ) → (c : goal.After-drop_half-arg-1 τ) (p r : Bits) (t : Trie) (rest : List ℕ) → c.args.path ≡ net_from c.args.family p → Given-drop_half-arg-1 τ c p r t rest
    → {x : Plan} → c.plan_for-x.result ≡ x → let a = c.args in Planned a.family a.i p r a.into t x
planned-drop_half-arg-1 τ c p r t rest is g e = let a = c.args in
    subst (λ x. Planned a.family a.i p r a.into t x) e (c.plan_for-x.ensures _ p r t rest g.here g.way (sym (path-is _ _ p is).0))

abbrev Given-change-arg-1 : (τ : ℕ) → goal.After-change-arg-1 τ → Bits → Bits → Trie → List ℕ → Type 0
Given-change-arg-1 τ c p r t rest = let a = c.args in Changes a.family a.w.now a.b a.n a.i a.e a.u p r a.q a.into t rest

planned-change-arg-1 : (τ : ℕ) → (c : goal.After-change-arg-1 τ) (p r : Bits) (t : Trie) (rest : List ℕ) → c.args.path ≡ net_from c.args.family p → Given-change-arg-1 τ c p r t rest
    → {x : Plan} → c.plan_for-x.result ≡ x → let a = c.args in Planned a.family a.i p r a.into t x
planned-change-arg-1 τ c p r t rest is g e = let a = c.args in
    subst (λ x. Planned a.family a.i p r a.into t x) e (c.plan_for-x.ensures _ p r t rest g.here g.way (sym (path-is _ _ p is).0))

downs : (τ : ℕ) → (c : goal.After-change-arg-1 τ) (p r : Bits) (t : Trie) (rest : List ℕ) → c.args.path ≡ net_from c.args.family p → Given-change-arg-1 τ c p r t rest
    → let a = c.args in Downs a.i c.in-Down.a c.in-Down.m c.in-Down.bit r a.into t
downs τ c p r t rest is g = planned-change-arg-1 τ c p r t rest is g c.in-Down.is

abbrev Given-child : (τ : ℕ) → goal.After-child τ → Bits → Bits → Trie → List ℕ → Type 0
Given-child τ c p r t rest = let a = c.args in Changes a.family a.w.now a.b a.n a.i a.e a.u p r a.q a.into t rest

planned-child : (τ : ℕ) → (c : goal.After-child τ) (p r : Bits) (t : Trie) (rest : List ℕ) → c.args.path ≡ net_from c.args.family p → Given-child τ c p r t rest
    → {x : Plan} → c.plan_for-x.result ≡ x → let a = c.args in Planned a.family a.i p r a.into t x
planned-child τ c p r t rest is g e = let a = c.args in
    subst (λ x. Planned a.family a.i p r a.into t x) e (c.plan_for-x.ensures _ p r t rest g.here g.way (sym (path-is _ _ p is).0))

downs-child : (τ : ℕ) → (c : goal.After-child τ) (p r : Bits) (t : Trie) (rest : List ℕ) → c.args.path ≡ net_from c.args.family p → Given-child τ c p r t rest
    → let a = c.args in Downs a.i c.in-Down.a c.in-Down.m c.in-Down.bit r a.into t
downs-child τ c p r t rest is g = planned-child τ c p r t rest is g c.in-Down.is

abbrev Given-relink-arg-1 : (τ : ℕ) → goal.After-relink-arg-1 τ → Bits → Bits → Trie → List ℕ → Type 0
Given-relink-arg-1 τ c p r t rest = let a = c.args in Changes a.family a.w.now a.b a.n a.i a.e a.u p r a.q a.into t rest

planned-relink-arg-1 : (τ : ℕ) → (c : goal.After-relink-arg-1 τ) (p r : Bits) (t : Trie) (rest : List ℕ) → c.args.path ≡ net_from c.args.family p → Given-relink-arg-1 τ c p r t rest
    → {x : Plan} → c.plan_for-x.result ≡ x → let a = c.args in Planned a.family a.i p r a.into t x
planned-relink-arg-1 τ c p r t rest is g e = let a = c.args in
    subst (λ x. Planned a.family a.i p r a.into t x) e (c.plan_for-x.ensures _ p r t rest g.here g.way (sym (path-is _ _ p is).0))

downs-relink-arg-1 : (τ : ℕ) → (c : goal.After-relink-arg-1 τ) (p r : Bits) (t : Trie) (rest : List ℕ) → c.args.path ≡ net_from c.args.family p → Given-relink-arg-1 τ c p r t rest
    → let a = c.args in Downs a.i c.in-Down.a c.in-Down.m c.in-Down.bit r a.into t
downs-relink-arg-1 τ c p r t rest is g = planned-relink-arg-1 τ c p r t rest is g c.in-Down.is

called : (τ : ℕ) → (c : goal.After-relink-arg-1 τ) (p r : Bits) (t : Trie) (rest : List ℕ) (is : c.args.path ≡ net_from c.args.family p)
    (g : Given-relink-arg-1 τ c p r t rest) → let a = c.args in let d = downs-relink-arg-1 τ c p r t rest is g in
    KeptSpliced a.family a.w.now c.change-z.new.w a.b (side c.in-Down.bit c.in-Down.m c.in-Down.a) c.change-z.result (snoc p c.in-Down.bit) (made g.here d)
    (behind g.here d.inside.branch c.in-Down.bit)
called τ c p r t rest is g = let d = downs-relink-arg-1 τ c p r t rest is g in
    let h = c.half_of-h.ensures in
    spliced-at h.0 (c.change-z.ensures _ _ _ _ (c.child.ensures _ p is) (changes-at h.0 h.1 (down-changes g d)))

abbrev Given-in-stay : (τ : ℕ) → goal.In-Stay τ → Bits → Bits → Trie → List ℕ → Type 0
Given-in-stay τ c p r t rest = let a = c.args in Changes a.family a.w.now a.b a.n a.i a.e a.u p r a.q a.into t rest

planned-in-stay : (τ : ℕ) → (c : goal.In-Stay τ) (p r : Bits) (t : Trie) (rest : List ℕ) → c.args.path ≡ net_from c.args.family p → Given-in-stay τ c p r t rest
    → {x : Plan} → c.plan_for-x.result ≡ x → let a = c.args in Planned a.family a.i p r a.into t x
planned-in-stay τ c p r t rest is g e = let a = c.args in
    subst (λ x. Planned a.family a.i p r a.into t x) e (c.plan_for-x.ensures _ p r t rest g.here g.way (sym (path-is _ _ p is).0))

abbrev Given-slice_known-in-flat-1 : (τ : ℕ) → goal.After-slice_known-in-Flat-1 τ → Bits → Bits → Trie → List ℕ → Type 0
Given-slice_known-in-flat-1 τ c p r t rest = let a = c.args in Changes a.family a.w.now a.b a.n a.i a.e a.u p r a.q a.into t rest

planned-slice_known-in-flat-1 : (τ : ℕ) → (c : goal.After-slice_known-in-Flat-1 τ) (p r : Bits) (t : Trie) (rest : List ℕ) → c.args.path ≡ net_from c.args.family p → Given-slice_known-in-flat-1 τ c p r t rest
    → {x : Plan} → c.plan_for-x.result ≡ x → let a = c.args in Planned a.family a.i p r a.into t x
planned-slice_known-in-flat-1 τ c p r t rest is g e = let a = c.args in
    subst (λ x. Planned a.family a.i p r a.into t x) e (c.plan_for-x.ensures _ p r t rest g.here g.way (sym (path-is _ _ p is).0))

abbrev Given-slice_known-in-halve-1 : (τ : ℕ) → goal.After-slice_known-in-Halve-1 τ → Bits → Bits → Trie → List ℕ → Type 0
Given-slice_known-in-halve-1 τ c p r t rest = let a = c.args in Changes a.family a.w.now a.b a.n a.i a.e a.u p r a.q a.into t rest

planned-slice_known-in-halve-1 : (τ : ℕ) → (c : goal.After-slice_known-in-Halve-1 τ) (p r : Bits) (t : Trie) (rest : List ℕ) → c.args.path ≡ net_from c.args.family p → Given-slice_known-in-halve-1 τ c p r t rest
    → {x : Plan} → c.plan_for-x.result ≡ x → let a = c.args in Planned a.family a.i p r a.into t x
planned-slice_known-in-halve-1 τ c p r t rest is g e = let a = c.args in
    subst (λ x. Planned a.family a.i p r a.into t x) e (c.plan_for-x.ensures _ p r t rest g.here g.way (sym (path-is _ _ p is).0))

abbrev Given-slice_known-in-fork-1 : (τ : ℕ) → goal.After-slice_known-in-Fork-1 τ → Bits → Bits → Trie → List ℕ → Type 0
Given-slice_known-in-fork-1 τ c p r t rest = let a = c.args in Changes a.family a.w.now a.b a.n a.i a.e a.u p r a.q a.into t rest

planned-slice_known-in-fork-1 : (τ : ℕ) → (c : goal.After-slice_known-in-Fork-1 τ) (p r : Bits) (t : Trie) (rest : List ℕ) → c.args.path ≡ net_from c.args.family p → Given-slice_known-in-fork-1 τ c p r t rest
    → {x : Plan} → c.plan_for-x.result ≡ x → let a = c.args in Planned a.family a.i p r a.into t x
planned-slice_known-in-fork-1 τ c p r t rest is g e = let a = c.args in
    subst (λ x. Planned a.family a.i p r a.into t x) e (c.plan_for-x.ensures _ p r t rest g.here g.way (sym (path-is _ _ p is).0))

abbrev Given-slice_known-in-drop-1 : (τ : ℕ) → goal.After-slice_known-in-Drop-1 τ → Bits → Bits → Trie → List ℕ → Type 0
Given-slice_known-in-drop-1 τ c p r t rest = let a = c.args in Changes a.family a.w.now a.b a.n a.i a.e a.u p r a.q a.into t rest

planned-slice_known-in-drop-1 : (τ : ℕ) → (c : goal.After-slice_known-in-Drop-1 τ) (p r : Bits) (t : Trie) (rest : List ℕ) → c.args.path ≡ net_from c.args.family p → Given-slice_known-in-drop-1 τ c p r t rest
    → {x : Plan} → c.plan_for-x.result ≡ x → let a = c.args in Planned a.family a.i p r a.into t x
planned-slice_known-in-drop-1 τ c p r t rest is g e = let a = c.args in
    subst (λ x. Planned a.family a.i p r a.into t x) e (c.plan_for-x.ensures _ p r t rest g.here g.way (sym (path-is _ _ p is).0))

abbrev Given-slice_known-in-down-2-1 : (τ : ℕ) → goal.After-slice_known-in-Down-2-1 τ → Bits → Bits → Trie → List ℕ → Type 0
Given-slice_known-in-down-2-1 τ c p r t rest = let a = c.args in Changes a.family a.w.now a.b a.n a.i a.e a.u p r a.q a.into t rest

planned-slice_known-in-down-2-1 : (τ : ℕ) → (c : goal.After-slice_known-in-Down-2-1 τ) (p r : Bits) (t : Trie) (rest : List ℕ) → c.args.path ≡ net_from c.args.family p → Given-slice_known-in-down-2-1 τ c p r t rest
    → {x : Plan} → c.plan_for-x.result ≡ x → let a = c.args in Planned a.family a.i p r a.into t x
planned-slice_known-in-down-2-1 τ c p r t rest is g e = let a = c.args in
    subst (λ x. Planned a.family a.i p r a.into t x) e (c.plan_for-x.ensures _ p r t rest g.here g.way (sym (path-is _ _ p is).0))

downs-slice_known-in-down-2-1 : (τ : ℕ) → (c : goal.After-slice_known-in-Down-2-1 τ) (p r : Bits) (t : Trie) (rest : List ℕ) → c.args.path ≡ net_from c.args.family p → Given-slice_known-in-down-2-1 τ c p r t rest
    → let a = c.args in Downs a.i c.in-Down.a c.in-Down.m c.in-Down.bit r a.into t
downs-slice_known-in-down-2-1 τ c p r t rest is g = planned-slice_known-in-down-2-1 τ c p r t rest is g c.in-Down.is

called-slice_known-in-down-2-1 : (τ : ℕ) → (c : goal.After-slice_known-in-Down-2-1 τ) (p r : Bits) (t : Trie) (rest : List ℕ) (is : c.args.path ≡ net_from c.args.family p)
    (g : Given-slice_known-in-down-2-1 τ c p r t rest) → let a = c.args in let d = downs-slice_known-in-down-2-1 τ c p r t rest is g in
    KeptSpliced a.family a.w.now c.change-z.new.w a.b (side c.in-Down.bit c.in-Down.m c.in-Down.a) c.change-z.result (snoc p c.in-Down.bit) (made g.here d)
    (behind g.here d.inside.branch c.in-Down.bit)
called-slice_known-in-down-2-1 τ c p r t rest is g = let d = downs-slice_known-in-down-2-1 τ c p r t rest is g in
    let h = c.half_of-h.ensures in
    spliced-at h.0 (c.change-z.ensures _ _ _ _ (c.child.ensures _ p is) (changes-at h.0 h.1 (down-changes g d)))

pub plan_for-x-requires : goal.plan_for-x-requires
plan_for-x-requires τ c = let (p, r, t, rest, is, g) = c.requires in (_, p, r, t, rest, g.here, g.way, sym (path-is _ _ p is).0)

pub flat-requires : goal.flat-requires
flat-requires τ c = let (p, r, t, rest, is, g) = c.requires in
    (_, p, p ++ r, t, rest, g.way.net, flat-acts g (planned τ c p r t rest is g c.in-Flat.is))

pub halve-requires : goal.halve-requires
halve-requires τ c = let (p, r, t, rest, is, g) = c.requires in
    let d = planned-halve-arg-1 τ c p r t rest is g c.in-Halve.is in
    (_, p, r, p ++ r, t, rest, is, g.way, d.2, halve-acts g d)

pub fork-requires : goal.fork-requires
fork-requires τ c = let (p, r, t, rest, is, g) = c.requires in
    let d = planned-fork-arg-1 τ c p r t rest is g c.in-Fork.is in
    (_, p, p ++ r, t, rest, is, g.way.net, fork-acts g d)

pub drop_half-requires : goal.drop_half-requires
drop_half-requires τ c = let (p, r, t, rest, is, g) = c.requires in
    let d = planned-drop_half-arg-1 τ c p r t rest is g c.in-Drop.is in
    (_, p, _, _, rest, drop-halves g d)

pub child-requires : goal.child-requires
child-requires τ c = let (p, r, t, rest, is, g) = c.requires in
    (_, p, is, down-short g.here (downs τ c p r t rest is g) g.way)

pub change-z-requires : goal.change-z-requires
change-z-requires τ c = let (p, r, t, rest, is, g) = c.requires in
    let d = downs-child τ c p r t rest is g in
    let h = c.half_of-h.ensures in
    let y = c.child.ensures _ p is in
    let f = down-falls g.here d g.way _ (sym (path-is _ _ p is).0) in (
      omega (arith, c.decreases, f, (path-is _ _ (snoc p _) y).0, (path-is _ _ p is).0, length-snoc p c.in-Down.bit),
      (_, _, _, _, y, changes-at h.0 h.1 (down-changes g d)),
    )

pub relink-requires : goal.relink-requires
relink-requires τ c = let (p, r, t, rest, is, g) = c.requires in
    down-relinks g (downs-relink-arg-1 τ c p r t rest is g) (called τ c p r t rest is g)

pub returns-in-Stay : goal.returns-in-Stay
returns-in-Stay τ c p r t rest is g = stay-spliced g (planned-in-stay τ c p r t rest is g c.in-Stay.is)

pub returns-in-Flat : goal.returns-in-Flat
returns-in-Flat τ c p r t rest is g = let d = planned-slice_known-in-flat-1 τ c p r t rest is g c.in-Flat.is in
    flat-spliced g d (c.flat.ensures _ p (p ++ r) t rest g.way.net (flat-acts g d))

pub returns-in-Halve : goal.returns-in-Halve
returns-in-Halve τ c p r t rest is g = let d = planned-slice_known-in-halve-1 τ c p r t rest is g c.in-Halve.is in
    halve-spliced g d (c.halve.ensures _ p r (p ++ r) t rest is g.way d.2 (halve-acts g d))

pub returns-in-Fork : goal.returns-in-Fork
returns-in-Fork τ c p r t rest is g = let d = planned-slice_known-in-fork-1 τ c p r t rest is g c.in-Fork.is in
    fork-spliced g d (c.fork.ensures _ p (p ++ r) t rest is g.way.net (fork-acts g d))

pub returns-in-Drop : goal.returns-in-Drop
returns-in-Drop τ c p r t rest is g = let d = planned-slice_known-in-drop-1 τ c p r t rest is g c.in-Drop.is in
    drop-spliced g d (c.drop_half.ensures _ p _ _ rest (drop-halves g d))

pub returns-in-Down : goal.returns-in-Down
returns-in-Down τ c p r t rest is g = let q = c.relink.ensures in
    down-done g (downs-slice_known-in-down-2-1 τ c p r t rest is g) (called-slice_known-in-down-2-1 τ c p r t rest is g) q.0 (q.1 p is (way-path g.way))
