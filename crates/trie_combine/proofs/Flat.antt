-- An operation on two tries of which one is flat: it is settled, or the other one is left, or all but the second. Assumes nothing.
use mathlib.Core.Bool.{false}
use mathlib.Core.List.{List}
use mathlib.Core.Path.{◌≡◌, refl, ◌∙◌}
use Prim.Native.Nat.{ℕ, zero, suc, ◌/◌, ◌≤◌, ◌<◌}
use native.Mathlib.Omega.{arith}
use Rattle.nets.specs.Tries.{Trie, none, node, is_none, levels}
use Rattle.nets.specs.TrieOps.{Kind, flat, mixed, kind_of, verdict}
use Rattle.nets.proofs.Operate.{flat≢mixed}
use Rattle.trie_emit.specs.Combine.{op_of, joined, op_on, rank, Inputs}
use Rattle.trie_emit.specs.declared.emitting.Emitted.TheVariants.{Empty, Full}
use Rattle.trie_emit.proofs.Answers.{end_is}
use Rattle.trie_emit.proofs.Combine.{op-none, op-full, rank-mixed}
use Rattle.trie_emit.proofs.Sources.{rank-le}
use Rattle.trie_spans.specs.Extents.{Extents, Writes, tidy}
use Rattle.trie_spans.proofs.Alone.{alone-first, alone-second}
use Rattle.trie_spans.proofs.Answered.{writes}
use Rattle.trie_spans.proofs.Halving.{extents-inputs}
use Rattle.trie_spans.proofs.Spread.{nowhere}

-- one source by itself
levels-nothing : (k : ℕ) → levels none ≤ k
unfolding levels
levels-nothing k = omega arith

module _ {w : List ℕ} {b a ea c ec o g fuel : ℕ} {t u : Trie} (s : Extents w b a ea c ec o g fuel t u) where
  pub first_alone : Extents w b a ea 0 0 o g fuel t none
  first_alone = record { first = s.first; second = nowhere w b o g; deep-t = s.deep-t; deep-u = levels-nothing fuel; turn = s.turn; few = s.few }

  pub second-alone : Extents w b c ec 0 0 o g fuel u none
  second-alone = record { first = s.second; second = nowhere w b o g; deep-t = s.deep-u; deep-u = levels-nothing fuel; turn = s.turn; few = s.few }

-- sources that are not empty
some_first : (op : ℕ) (t : Trie) (k : Kind) → 2 ≤ op → verdict (op_of op) (kind_of t) k ≡ mixed → is_none t ≡ false
unfolding op_of
some_first op (node l r) k n e = refl
some_first zero none k n e = absurd (omega arith)
some_first (suc zero) none k n e = absurd (omega arith)
some_first (suc (suc i)) none (flat y) n e = absurd (flat≢mixed false e)
some_first (suc (suc i)) none mixed n e = absurd (flat≢mixed false e)

pub some-mixed : (u : Trie) → kind_of u ≡ mixed → is_none u ≡ false
some-mixed none e = absurd (flat≢mixed false e)
some-mixed (node l r) e = refl

module _ {w : List ℕ} {b a ea c ec o g fuel : ℕ} (op : ℕ) (t u : Trie) (s : Extents w b a ea c ec o g fuel t u) (v : ℕ) (told : v ≡ rank (verdict (op_of op) (kind_of t) (kind_of u))) where
  pub flat-settled : (v ≡ 1 → ⊥) → Writes w w b o (v / 2) (op_on op fuel t u)
  flat-settled f = go v told f (rank-le (verdict (op_of op) (kind_of t) (kind_of u)))
    where
      go : (n : ℕ) → n ≡ rank (verdict (op_of op) (kind_of t) (kind_of u)) → (n ≡ 1 → ⊥) → rank (verdict (op_of op) (kind_of t) (kind_of u)) ≤ 2 → Writes w w b o (n / 2) (op_on op fuel t u)
      go zero q f h = let m = op-none (extents-inputs t u s) op zero q refl in writes m (omega (arith, end_is Empty (op_on op fuel t u) o m.answers))
      go (suc zero) q f h = absurd (f refl)
      go (suc (suc zero)) q f h = let m = op-full (extents-inputs t u s) op 2 q refl in writes m (omega (arith, end_is Full (op_on op fuel t u) o m.answers))
      go (suc (suc (suc n))) q f h = absurd (omega arith)

  module _ (one : v ≡ 1) where
    mixes : verdict (op_of op) (kind_of t) (kind_of u) ≡ mixed
    mixes = rank-mixed (verdict (op_of op) (kind_of t) (kind_of u)) (λ e. omega arith) (λ e. omega arith)

    module _ (y : ℕ) (ey : y ≡ rank (kind_of u)) where
      pub flat-first : (y ≡ 1 → ⊥) → op_on op fuel t u ≡ tidy (joined op) t
      flat-first f = alone-first op fuel t u mixes (λ k. f (ey ∙ rw k)) s.deep-t

      module _ (more : y ≡ 1) where
        pub flat-second : (x : ℕ) → x ≡ rank (kind_of t) → (x ≡ 1 → y ≡ 1 → ⊥) → op < 2 → op_on op fuel t u ≡ tidy (joined op) u
        flat-second x ex f lt = alone-second op fuel t u mixes lt (λ k. f (ex ∙ rw k) more) s.deep-u

        pub flat-rest : 2 ≤ op → Inputs w b a c o g fuel t u
        flat-rest n =
            let p = some_first op t (kind_of u) n mixes in
            let q = some-mixed u (rank-mixed (kind_of u) (λ e. omega arith) (λ e. omega arith)) in
            rw (p, q) at (extents-inputs t u s)
