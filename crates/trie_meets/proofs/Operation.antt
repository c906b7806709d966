-- A set operation on the parts of its two sources inside a network: what it leaves of them is the part of what it leaves. It leaves something where it does
-- of one of the halves. Assumes nothing.
use mathlib.Core.Bool.{Bool, true, false, not, ◌&&◌, ◌||◌}
use mathlib.Core.List.{List, [], ◌∷◌}
use mathlib.Core.Path.{◌≡◌, refl, ap, sym, ◌∙◌}
use Prim.Native.Nat.{ℕ, zero, suc, ◌-◌, ◌≤◌, ◌<◌}
use native.Mathlib.Omega.{arith}
use lib.ListN.{length}
use Rattle.nets.specs.Bits.{Bits}
use Rattle.nets.specs.Tries.{Trie, none, node, is_none, levels, list_of}
use Rattle.nets.specs.TrieOps.{mixed, kind_of, verdict, half}
use Rattle.nets.proofs.Glue.{levels-half}
use Rattle.nets.proofs.Operate.{verdict-levels, op_half, op_t-mixed}
use Rattle.trie_emit.specs.Answers.{answer}
use Rattle.trie_emit.specs.Combine.{op_of, joined, op_on, rank, Means, Inputs}
use Rattle.trie_emit.specs.declared.emitting.Emitted.TheVariants.{Empty, Full}
use Rattle.trie_emit.proofs.Combine.{op-none, op-full, op-mixed}
use Rattle.inner_nets.specs.Inner.{overlaps_one}
use Rattle.inner_nets.specs.Parts.{down}
use Rattle.inner_nets.proofs.Parts.{is_none-glue, down-op, overlaps_one-list_of}

-- What an answer says of a trie.
answer-empty : (o : ℕ) (t : Trie) → Empty ≡ answer o t → is_none t ≡ true
unfolding answer
answer-empty o none e = refl
answer-empty o (node none none) e = let z : ◌≡◌ {A = ℕ} 0 1 = cc in absurd (omega arith)
answer-empty o (node none (node c d)) e = let z : ◌≡◌ {A = ℕ} 0 1 = cc in absurd (omega arith)
answer-empty o (node (node c d) r) e = let z : ◌≡◌ {A = ℕ} 0 1 = cc in absurd (omega arith)

answer-full : (o : ℕ) (t : Trie) → Full ≡ answer o t → is_none t ≡ false
unfolding answer
answer-full o none e = let z : ◌≡◌ {A = ℕ} 0 1 = cc in absurd (omega arith)
answer-full o (node l r) e = refl

-- One step of the operation: where the kinds do not settle it, it leaves something where it does of one of the halves.
abbrev pub half_leaves : ℕ → ℕ → Trie → Trie → Bool → Bool
half_leaves op fuel t u d = not (is_none (op_on op (fuel - 1) (half d t) (half d u)))

module _ (op fuel : ℕ) (t u : Trie) (turn : 1 ≤ fuel) (mixes : verdict (op_of op) (kind_of t) (kind_of u) ≡ mixed) where
  step : not (is_none (op_on op fuel t u)) ≡ (half_leaves op fuel t u false || half_leaves op fuel t u true)
  step = go fuel turn
    where
      either : (x y : Bool) → not (x && y) ≡ (not x || not y)
      either true y = refl
      either false y = refl

      go : (k : ℕ) → 1 ≤ k → not (is_none (op_on op k t u)) ≡ (half_leaves op k t u false || half_leaves op k t u true)
      go zero h = absurd (omega arith)
      go (suc k) h =
          let p : suc k - 1 ≡ k = omega arith in
          let x = op_half (joined op) (op_of op) k t u in
          rw (p, op_t-mixed (joined op) (op_of op) k t u mixes)
          (ap not (is_none-glue (joined op) (x false) (x true)) ∙ either (is_none (x false)) (is_none (x true)))

  pub step-first : (r : Bool) → r ≡ half_leaves op fuel t u false → r ≡ true → true ≡ not (is_none (op_on op fuel t u))
  step-first r e k = sym (step ∙ rw (← e, k))

  pub step-second : (r x : Bool) → r ≡ half_leaves op fuel t u false → r ≡ false → x ≡ half_leaves op fuel t u true → x ≡ not (is_none (op_on op fuel t u))
  step-second r x e k h = h ∙ sym (step ∙ rw (← e, k))

module _ {w : List ℕ} {b a c fuel : ℕ} {t u : Trie} (s : Inputs w b a c 0 0 fuel t u) (op v : ℕ) (told : v ≡ rank (verdict (op_of op) (kind_of t) (kind_of u))) where
  pub leaves_none : v ≡ 0 → false ≡ not (is_none (op_on op fuel t u))
  leaves_none e = rw (answer-empty 0 (op_on op fuel t u) (op-none s op v told e).answers)

  pub leaves-full : v ≡ 2 → true ≡ not (is_none (op_on op fuel t u))
  leaves-full e = rw (answer-full 0 (op_on op fuel t u) (op-full s op v told e).answers)

  module _ (f : v ≡ 0 → ⊥) (n : v ≡ 2 → ⊥) where
    mixes : verdict (op_of op) (kind_of t) (kind_of u) ≡ mixed
    mixes = op-mixed s op v told f n

    pub half-inputs : (d : Bool) (i k : ℕ) → Means w b 0 0 i (half d t) × Means w b 0 0 k (half d u) → Inputs w b i k 0 0 (fuel - 1) (half d t) (half d u)
    half-inputs d i k m =
        let turn = s.turn in
        let deeper : 1 ≤ fuel - 1 = verdict-levels (op_of op) (fuel - 1) t u mixes (omega (arith, s.deep-t)) (omega (arith, s.deep-u)) in
        record {
          first = m.0;
          second = m.1;
          deep-t = levels-half d t (fuel - 1) (omega (arith, s.deep-t)) deeper;
          deep-u = levels-half d u (fuel - 1) (omega (arith, s.deep-u)) deeper;
          turn = deeper;
          few = omega (arith, s.few);
        }

    pub leaves-first : (r : Bool) → r ≡ half_leaves op fuel t u false → r ≡ true → true ≡ not (is_none (op_on op fuel t u))
    leaves-first = step-first op fuel t u s.turn mixes

    pub leaves-second : (r x : Bool) → r ≡ half_leaves op fuel t u false → r ≡ false → x ≡ half_leaves op fuel t u true → x ≡ not (is_none (op_on op fuel t u))
    leaves-second = step-second op fuel t u s.turn mixes

-- The parts of the sources inside the network q.
pub levels-down : (q : Bits) (t : Trie) (k : ℕ) → length q < k → levels t ≤ k → levels (down q t) ≤ k - length q
unfolding down
levels-down [] t k h g = omega arith
levels-down (b ∷ q) t zero h g = absurd (omega arith)
levels-down (b ∷ q) t (suc k) h g = let i = levels-down q (half b t) k (omega arith) (levels-half b t k g (omega arith)) in omega arith

-- what the operation leaves of them is the part of what it leaves
pub meets-down : (op fuel : ℕ) (t u : Trie) (q : Bits) (n : ℕ) → n ≡ length q → n < fuel → (r : Bool)
    → r ≡ not (is_none (op_on op (fuel - n) (down q t) (down q u))) → r ≡ overlaps_one (list_of (op_on op fuel t u)) q
meets-down op fuel t u q n en h r e = e ∙ sym (overlaps_one-list_of (op_on op fuel t u) q ∙ rw (down-op (op_of op) (joined op) q fuel t u (omega arith), en))

module _ {w : List ℕ} {b a c fuel : ℕ} {t u : Trie} (s : Inputs w b a c 0 0 fuel t u) (q : Bits) (n : ℕ) (en : n ≡ length q) (h : n < fuel) where
  pub down-inputs : (x y : ℕ) → Means w b 0 0 x (down q t) → Means w b 0 0 y (down q u) → Inputs w b x y 0 0 (fuel - n) (down q t) (down q u)
  down-inputs x y m k = record {
    first = m;
    second = k;
    deep-t = rw en (levels-down q t fuel (omega arith) s.deep-t);
    deep-u = rw en (levels-down q u fuel (omega arith) s.deep-u);
    turn = omega arith;
    few = omega (arith, s.few);
  }
