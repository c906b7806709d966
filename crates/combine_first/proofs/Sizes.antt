-- How many nodes a result has at most: each is one of its sources', or, where something is excluded from a whole block, the sibling of one of the second's. Assumes nothing.
use mathlib.Core.Bool.{Bool, true, false, not, cond, ◌&&◌, ◌||◌, true≢false}
use mathlib.Core.Path.{◌≡◌}
use Prim.Native.Nat.{ℕ, zero, suc, ◌+◌, ◌*◌, ◌≤◌}
use native.Mathlib.Omega.{arith}
use borrow.Author.Tests.{le-ltb}
use Rattle.nets.specs.Tries.{Trie, none, node, leaf, size, is_none, is_leaf, bare}
use Rattle.nets.specs.TrieOps.{Kind, flat, mixed, kind_of, verdict, half, op_t}
use Rattle.nets.proofs.Operate.{op_half, op_t-step}
use Rattle.trie_emit.specs.Combine.{op_of, joined, op_on}
use Rattle.trie_emit.proofs.Answers.{by_kind, size-glue}
use Rattle.combine_first.specs.Steps.{most_nodes}

-- m bounds an operation on t and u: a node where they settle it as full, and one over the bounds of the halves where they do not.
abbrev bound : Kind → ℕ → ℕ → Type 0
bound (flat false) m n = Unit {0}
bound (flat true) m n = 1 ≤ m
bound mixed m n = 1 + n ≤ m

abbrev Bounds : (Bool → Bool → Bool) → (Trie → Trie → ℕ) → Trie → Trie → Type 0
Bounds f m t u = bound (verdict f (kind_of t) (kind_of u)) (m t u) (m (half false t) (half false u) + m (half true t) (half true u))

bound-flat : (v : Bool) (k : Kind) (m n : ℕ) → bound k m n → k ≡ flat v → size (cond v leaf none) ≤ m
unfolding size
bound-flat true k m n h e = rw e at h
bound-flat false k m n h e = omega arith

size-bound : (j : Bool) (f : Bool → Bool → Bool) (m : Trie → Trie → ℕ) → ((t u : Trie) → Bounds f m t u) → (k : ℕ) (t u : Trie) → size (op_t j f k t u) ≤ m t u
unfolding op_t size
size-bound j f m h zero t u = omega arith
size-bound j f m h (suc k) t u =
    let g : (b : Bool) → size (op_half j f k t u b) ≤ m (half b t) (half b u) = λ b. size-bound j f m h k (half b t) (half b u) in
    let n = m (half false t) (half false u) + m (half true t) (half true u) in
    op_t-step j f (λ x. size x ≤ m t u) k t u
    (λ v e. bound-flat v (verdict f (kind_of t) (kind_of u)) (m t u) n (h t u) e)
    (λ e. let b : 1 + n ≤ m t u = rw e at (h t u) in omega (arith, size-glue j (op_half j f k t u false) (op_half j f k t u true), g false, g true))

-- Two tries by their kinds.
by-kinds : (P : Trie → Trie → Type 0) → P none none → P none leaf → ((l r : Trie) → bare l r ≡ false → P none (node l r))
    → P leaf none → P leaf leaf → ((l r : Trie) → bare l r ≡ false → P leaf (node l r))
    → ((l r : Trie) → bare l r ≡ false → P (node l r) none) → ((l r : Trie) → bare l r ≡ false → P (node l r) leaf)
    → ((a b c d : Trie) → bare a b ≡ false → bare c d ≡ false → P (node a b) (node c d)) → (t u : Trie) → P t u
by-kinds P p₁ p₂ p₃ p₄ p₅ p₆ p₇ p₈ p₉ =
    by_kind (λ t. (u : Trie) → P t u) (by_kind (P none) p₁ p₂ p₃) (by_kind (P leaf) p₄ p₅ p₆) (λ a b e. by_kind (P (node a b)) (p₇ a b e) (p₈ a b e) (λ c d g. p₉ a b c d e g))

-- The bounds of the three operations.
abbrev for_union : Trie → Trie → ℕ
for_union t u = size t + size u

abbrev for_common : Trie → Trie → ℕ
for_common t u = cond (is_leaf t) (size u) (cond (is_leaf u) (size t) (size t + size u))

abbrev for_but : Trie → Trie → ℕ
for_but t u = cond (is_leaf t) (cond (is_none u) 1 (2 * size u)) (size t + 2 * size u)

common-le : (t u : Trie) → for_common t u ≤ size t + size u
unfolding size
common-le = by-kinds (λ t u. for_common t u ≤ size t + size u) (omega arith) (omega arith) (λ l r e. rw e (omega arith)) (omega arith) (omega arith)
    (λ l r e. omega arith) (λ l r e. rw e (omega arith)) (λ l r e. rw e (omega arith)) (λ a b c d e g. rw (e, g) (omega arith))

common-leaf : (t : Trie) → for_common t leaf ≤ size t
unfolding size
common-leaf = by_kind (λ t. for_common t leaf ≤ size t) (omega arith) (omega arith) (λ l r e. rw e (omega arith))

but-le : (t u : Trie) → for_but t u ≤ size t + 2 * size u
unfolding size
but-le = by-kinds (λ t u. for_but t u ≤ size t + 2 * size u) (omega arith) (omega arith) (λ l r e. omega arith) (omega arith) (omega arith)
    (λ l r e. omega arith) (λ l r e. rw e (omega arith)) (λ l r e. rw e (omega arith)) (λ a b c d e g. rw e (omega arith))

but-none : (t : Trie) → for_but t none ≤ size t
unfolding size
but-none = by_kind (λ t. for_but t none ≤ size t) (omega arith) (omega arith) (λ l r e. rw e (omega arith))

-- what is left of a whole block
but-leaf : (l r : Trie) → bare l r ≡ false → 1 + (for_but leaf l + for_but leaf r) ≤ 2 * (1 + size l + size r)
unfolding size
but-leaf none none e = absurd (true≢false e)
but-leaf none (node c d) e = omega arith
but-leaf (node a b) none e = omega arith
but-leaf (node a b) (node c d) e = omega arith

bounds-union : (t u : Trie) → Bounds ◌||◌ for_union t u
unfolding size
bounds-union = by-kinds (Bounds ◌||◌ for_union) tt (omega arith) (λ l r e. rw e (omega arith)) (omega arith) (omega arith) (λ l r e. rw e (omega arith))
    (λ l r e. rw e (omega arith)) (λ l r e. rw e (omega arith)) (λ a b c d e g. rw (e, g) (omega arith))

bounds-common : (t u : Trie) → Bounds ◌&&◌ for_common t u
unfolding size
bounds-common = by-kinds (Bounds ◌&&◌ for_common) tt tt (λ l r e. rw e tt) tt (omega arith) (λ l r e. rw e (omega arith))
    (λ l r e. rw e tt) (λ l r e. rw e (omega (arith, common-leaf l, common-leaf r))) (λ a b c d e g. rw (e, g) (omega (arith, common-le a c, common-le b d)))

bounds-but : (t u : Trie) → Bounds (λ x y. x && not y) for_but t u
unfolding size
bounds-but = by-kinds (Bounds (λ x y. x && not y) for_but) tt tt (λ l r e. rw e tt) (omega arith) tt (λ l r e. rw e (but-leaf l r e))
    (λ l r e. rw e (omega (arith, but-none l, but-none r))) (λ l r e. rw e tt) (λ a b c d e g. rw (e, g) (omega (arith, but-le a c, but-le b d)))

pub size-most : (op k : ℕ) (t u : Trie) → size (op_on op k t u) ≤ most_nodes op (size t) (size u)
unfolding op_of
size-most zero k t u = size-bound true ◌||◌ for_union bounds-union k t u
size-most (suc zero) k t u = omega (arith, size-bound true ◌&&◌ for_common bounds-common k t u, common-le t u)
size-most (suc (suc n)) k t u =
    let h : size (op_on (suc (suc n)) k t u) ≤ for_but t u = size-bound (joined (suc (suc n))) (λ x y. x && not y) for_but bounds-but k t u in
    let e : most_nodes (suc (suc n)) (size t) (size u) ≡ size t + 2 * size u = rw (le-ltb (suc (suc n)) 2 (omega arith)) in
    omega (arith, but-le t u)
