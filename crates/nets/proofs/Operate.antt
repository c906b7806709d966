-- A set operation on two tries, one step at a time: what it gives where the kinds of the two settle it, and that it goes on with the halves where they do not.
-- Assumes nothing.
use mathlib.Core.Bool.{Bool, true, false, cond}
use mathlib.Core.Path.{◌≡◌, refl, sym}
use Prim.Native.Nat.{ℕ, zero, suc, ◌≤◌}
use native.Mathlib.Omega.{arith}
use Rattle.nets.specs.Bits.{Bits}
use Rattle.nets.specs.Tries.{Trie, none, node, leaf, glue, covers_t, levels}
use Rattle.nets.specs.TrieOps.{half, Kind, flat, mixed, kind_of, agree, verdict, op_t}
use Rattle.nets.proofs.Strings.{cond_both}
use Rattle.nets.proofs.Listing.{covers_t-none, covers_t-leaf}
use Rattle.nets.proofs.Glue.{levels-glue}

pub flat≢mixed : (v : Bool) → flat v ≡ mixed → ⊥
flat≢mixed v e = let z : ◌≡◌ {A = ℕ} 0 1 = cc in omega arith

mixed-levels : (t : Trie) → kind_of t ≡ mixed → 2 ≤ levels t
unfolding levels
mixed-levels none e = absurd (flat≢mixed false e)
mixed-levels (node none none) e = absurd (flat≢mixed true e)
mixed-levels (node none (node c d)) e = omega arith
mixed-levels (node (node c d) r) e = omega arith

-- What a kind says of a test on its trie: its value where the trie is empty or full, else nothing.
abbrev pub Fits : Kind → Bool → Type 0
Fits (flat x) c = c ≡ x
Fits mixed c = Unit {0}

pub covers_t-fits : (t : Trie) (a : Bits) → Fits (kind_of t) (covers_t t a)
covers_t-fits none a = covers_t-none a
covers_t-fits (node none none) a = covers_t-leaf a
covers_t-fits (node none (node c d)) a = tt
covers_t-fits (node (node c d) r) a = tt

-- The verdict.
agree-flat : (x y v : Bool) → agree x y ≡ flat v → (x ≡ v) × (y ≡ v)
agree-flat true true v e = (cc, cc)
agree-flat true false v e = absurd (flat≢mixed v (sym e))
agree-flat false true v e = absurd (flat≢mixed v (sym e))
agree-flat false false v e = (cc, cc)

module _ (f : Bool → Bool → Bool) where
  pub verdict-flat : (k l : Kind) (c d v : Bool) → Fits k c → Fits l d → verdict f k l ≡ flat v → f c d ≡ v
  verdict-flat (flat x) (flat y) c d v h g e = rw (h, g) (cc)
  verdict-flat (flat x) mixed c false v h g e = rw h (agree-flat (f x false) (f x true) v e).0
  verdict-flat (flat x) mixed c true v h g e = rw h (agree-flat (f x false) (f x true) v e).1
  verdict-flat mixed (flat y) false d v h g e = rw g (agree-flat (f false y) (f true y) v e).0
  verdict-flat mixed (flat y) true d v h g e = rw g (agree-flat (f false y) (f true y) v e).1
  verdict-flat mixed mixed c d v h g e = absurd (flat≢mixed v (sym e))

  -- where nothing is settled there is a level below
  pub verdict-levels : (k : ℕ) (t u : Trie) → verdict f (kind_of t) (kind_of u) ≡ mixed → levels t ≤ suc k → levels u ≤ suc k → 1 ≤ k
  verdict-levels k t u e h g = go (kind_of t) (kind_of u) refl refl e
    where
      go : (x y : Kind) → kind_of t ≡ x → kind_of u ≡ y → verdict f x y ≡ mixed → 1 ≤ k
      go (flat x) (flat y) m n e = absurd (flat≢mixed (f x y) e)
      go (flat x) mixed m n e = omega (arith, mixed-levels u n)
      go mixed y m n e = omega (arith, mixed-levels t m)

-- One step of the operation, and what follows of all.
module _ (j : Bool) (f : Bool → Bool → Bool) where
  -- on the halves of one side
  abbrev pub op_half : ℕ → Trie → Trie → Bool → Trie
  op_half k t u b = op_t j f k (half b t) (half b u)

  pub op_t-flat : (k : ℕ) (t u : Trie) (v : Bool) → verdict f (kind_of t) (kind_of u) ≡ flat v → op_t j f (suc k) t u ≡ cond v leaf none
  unfolding op_t
  op_t-flat k t u true e = rw (op_t, e)
  op_t-flat k t u false e = rw (op_t, e)

  pub op_t-mixed : (k : ℕ) (t u : Trie) → verdict f (kind_of t) (kind_of u) ≡ mixed → op_t j f (suc k) t u ≡ glue j (op_half k t u false) (op_half k t u true)
  unfolding op_t
  op_t-mixed k t u e = rw (op_t, e)

  -- what holds of the flat tries and of the glued one holds of the result
  pub op_t-step : (P : Trie → Type 0) (k : ℕ) (t u : Trie) → ((v : Bool) → verdict f (kind_of t) (kind_of u) ≡ flat v → P (cond v leaf none))
      → (verdict f (kind_of t) (kind_of u) ≡ mixed → P (glue j (op_half k t u false) (op_half k t u true))) → P (op_t j f (suc k) t u)
  op_t-step P k t u x y = go (verdict f (kind_of t) (kind_of u)) refl
    where
      go : (z : Kind) → verdict f (kind_of t) (kind_of u) ≡ z → P (op_t j f (suc k) t u)
      go (flat v) e = rw (op_t-flat k t u v e) (x v e)
      go mixed e = rw (op_t-mixed k t u e) (y e)

  pub levels-op : (k : ℕ) (t u : Trie) → levels (op_t j f k t u) ≤ k
  unfolding levels op_t
  levels-op zero t u = omega arith
  levels-op (suc k) t u =
      let h : (b : Bool) → levels (op_half k t u b) ≤ k = λ b. levels-op k (half b t) (half b u) in
      op_t-step (λ x. levels x ≤ suc k) k t u (λ v e. cond_both (λ x. levels x ≤ suc k) v leaf none (omega arith) (omega arith))
      (λ e. omega (arith, levels-glue j (op_half k t u false) (op_half k t u true), h false, h true))
