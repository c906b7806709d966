-- What an operation makes of a trie and a flat one, where that isn't flat: the trie itself, its halves joined or not. Assumes nothing.
use mathlib.Core.Bool.{Bool, true, false, ◌||◌, true≢false}
use mathlib.Core.Path.{◌≡◌, refl, sym, ◌∙◌}
use Prim.Native.Nat.{ℕ, zero, suc, ◌≤◌, ◌<◌}
use native.Mathlib.Omega.{arith}
use Rattle.nets.specs.Tries.{Trie, none, node, leaf, bare, levels, glue, simplify_t}
use Rattle.nets.specs.TrieOps.{Kind, flat, mixed, kind_of, agree, verdict, half, op_t}
use Rattle.nets.proofs.Operate.{flat≢mixed, op_half, op_t-flat, op_t-mixed}
use Rattle.trie_emit.specs.Combine.{op_of, joined, op_on}
use Rattle.trie_emit.proofs.Answers.{by_kind, by-glue}
use Rattle.trie_spans.specs.Extents.{tidy}

-- The sources change places.
abbrev back : (Bool → Bool → Bool) → Bool → Bool → Bool
back f x y = f y x

verdict-swap : (f : Bool → Bool → Bool) (k l : Kind) → verdict f k l ≡ verdict (back f) l k
verdict-swap f (flat x) (flat y) = refl
verdict-swap f (flat x) mixed = refl
verdict-swap f mixed (flat y) = refl
verdict-swap f mixed mixed = refl

op_t-swap : (j : Bool) (f : Bool → Bool → Bool) (k : ℕ) (t u : Trie) → op_t j f k t u ≡ op_t j (back f) k u t
unfolding op_t
op_t-swap j f zero t u = refl
op_t-swap j f (suc k) t u = go (verdict f (kind_of t) (kind_of u)) refl (op_t-swap j f k (half false t) (half false u)) (op_t-swap j f k (half true t) (half true u))
  where
    go : (v : Kind) → verdict f (kind_of t) (kind_of u) ≡ v → op_half j f k t u false ≡ op_half j (back f) k u t false → op_half j f k t u true ≡ op_half j (back f) k u t true
        → op_t j f (suc k) t u ≡ op_t j (back f) (suc k) u t
    go (flat x) e p q = op_t-flat j f k t u x e ∙ sym (op_t-flat j (back f) k u t x (sym (verdict-swap f (kind_of t) (kind_of u)) ∙ e))
    go mixed e p q = op_t-mixed j f k t u e ∙ rw (p, q) (sym (op_t-mixed j (back f) k u t (sym (verdict-swap f (kind_of t) (kind_of u)) ∙ e)))

-- The second source is flat, and leaves what is in the first.
half-flat : (y s : Bool) (u : Trie) → kind_of u ≡ flat y → half s u ≡ u
half-flat y s = by_kind (λ u. kind_of u ≡ flat y → half s u ≡ u) (λ e. refl) (λ e. refl) (λ l r b. rw b (λ e. absurd (flat≢mixed y (sym e))))

levels-none : (t : Trie) → levels t ≤ 0 → t ≡ none
unfolding levels
levels-none none h = refl
levels-none (node l r) h = absurd (omega arith)

tidy-none : (j : Bool) → none ≡ tidy j none
unfolding simplify_t
tidy-none true = refl
tidy-none false = refl

tidy-leaf : (j : Bool) → leaf ≡ tidy j leaf
unfolding simplify_t
tidy-leaf true = refl
tidy-leaf false = refl

tidy-node : (j : Bool) (l r : Trie) → bare l r ≡ false → glue j (tidy j l) (tidy j r) ≡ tidy j (node l r)
unfolding simplify_t
tidy-node true l r b = rw b
tidy-node false l r b = by-glue (λ l r t. bare l r ≡ false → t ≡ node l r) false (λ e. absurd (true≢false e)) (λ h e. absurd (true≢false (sym h))) (λ l r b e. refl) l r b

fits : (l r : Trie) (k : ℕ) → levels (node l r) ≤ suc k → (levels l ≤ k) × (levels r ≤ k)
unfolding levels
fits l r k h = omega arith

keep-first : (j : Bool) (f : Bool → Bool → Bool) (y : Bool) → f false y ≡ false → f true y ≡ true → (k : ℕ) (t u : Trie) → kind_of u ≡ flat y → levels t ≤ k → op_t j f k t u ≡ tidy j t
unfolding op_t
keep-first j f y p q zero t u e h = rw (levels-none t h) (tidy-none j)
keep-first j f y p q (suc k) t u e h₀ = by_kind (λ t. levels t ≤ suc k → op_t j f (suc k) t u ≡ tidy j t)
    (λ h. op_t-flat j f k none u false (rw (e, p)) ∙ tidy-none j)
    (λ h. op_t-flat j f k leaf u true (rw (e, q)) ∙ tidy-leaf j)
    (λ l r b h. op_t-mixed j f k (node l r) u (rw (b, e, p, q)) ∙ rw (b, half-flat y false u e, half-flat y true u e, keep-first j f y p q k l u e (fits l r k h).0, keep-first j f y p q k r u e (fits l r k h).1) (tidy-node j l r b)) t h₀

-- The operations.
keeps-first : (op : ℕ) (y : Bool) → agree (op_of op false y) (op_of op true y) ≡ mixed → (op_of op false y ≡ false) × (op_of op true y ≡ true)
unfolding op_of
keeps-first zero false e = (refl, refl)
keeps-first zero true e = absurd (flat≢mixed true e)
keeps-first (suc zero) false e = absurd (flat≢mixed false e)
keeps-first (suc zero) true e = (refl, refl)
keeps-first (suc (suc n)) false e = (refl, refl)
keeps-first (suc (suc n)) true e = absurd (flat≢mixed false e)

keeps-second : (op : ℕ) (x : Bool) → op < 2 → agree (op_of op x false) (op_of op x true) ≡ mixed → (op_of op x false ≡ false) × (op_of op x true ≡ true)
unfolding op_of
keeps-second zero false h e = (refl, refl)
keeps-second zero true h e = absurd (flat≢mixed true e)
keeps-second (suc zero) false h e = absurd (flat≢mixed false e)
keeps-second (suc zero) true h e = (refl, refl)
keeps-second (suc (suc n)) x h e = absurd (omega arith)

flat-second : (f : Bool → Bool → Bool) (k l : Kind) → verdict f k l ≡ mixed → (l ≡ mixed → ⊥) → (y : Bool) × (l ≡ flat y) × (agree (f false y) (f true y) ≡ mixed)
flat-second f (flat x) (flat y) e n = absurd (flat≢mixed (f x y) e)
flat-second f mixed (flat y) e n = (y, refl, e)
flat-second f k mixed e n = absurd (n refl)

module _ (op k : ℕ) (t u : Trie) (mix : verdict (op_of op) (kind_of t) (kind_of u) ≡ mixed) where
  pub alone-first : (kind_of u ≡ mixed → ⊥) → levels t ≤ k → op_on op k t u ≡ tidy (joined op) t
  alone-first n h =
      let (y, e, a) = flat-second (op_of op) (kind_of t) (kind_of u) mix n in
      let (p, q) = keeps-first op y a in
      keep-first (joined op) (op_of op) y p q k t u e h

  pub alone-second : op < 2 → (kind_of t ≡ mixed → ⊥) → levels u ≤ k → op_on op k t u ≡ tidy (joined op) u
  alone-second lt n h =
      let (x, e, a) = flat-second (back (op_of op)) (kind_of u) (kind_of t) (sym (verdict-swap (op_of op) (kind_of t) (kind_of u)) ∙ mix) n in
      let (p, q) = keeps-second op x lt a in
      op_t-swap (joined op) (op_of op) k t u ∙ keep-first (joined op) (back (op_of op)) x p q k u t e h

pub union-none : (k : ℕ) (t : Trie) → levels t ≤ k → op_on 0 k t none ≡ simplify_t t
unfolding op_of
union-none k t h = keep-first true ◌||◌ false refl refl k t none refl h
