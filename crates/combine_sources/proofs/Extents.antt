-- The nodes of a set by the roots behind it: empty sets between have none, so the next root is where its nodes end. Assumes nothing.
use mathlib.Core.List.{List, [], ◌∷◌}
use mathlib.Core.Path.{◌≡◌, refl, sym, ◌∙◌}
use Prim.Native.Nat.{ℕ, zero, suc, ◌+◌, ◌-◌, ◌≤◌, ◌<◌}
use native.Mathlib.Numerals.{add-one}
use native.Mathlib.Omega.{arith}
use lib.ListN.{length, get_or, take}
use Rattle.nets.specs.Bits.{Bits}
use Rattle.pool_state.specs.Kept.{Form, held_l}
use Rattle.pool_state.specs.States.{SetState, State, held, used}
use Rattle.pool_state.specs.Decode.{record_at, root_at, sound, decode}
use Rattle.pool_state.specs.Rules.{no_set, first_node, survey_of}
use Rattle.pool_state.specs.Changes.{set_at, list_at}
use Rattle.pool_state.specs.Steps.{Surveyed}
use Rattle.pool_state.specs.declared.Survey.{Survey}
use Rattle.pool_state.proofs.Decoded.{decode-header}
use Rattle.pool_state.proofs.Seen.{Seen, seen_as, seen-figures}
use Rattle.pool_state.proofs.Kept.{held_l-nil}
use Rattle.pool_state.proofs.Beside.{its, beside-seen, beside-root}

-- Where a set begins: behind what the sets before it use.
used_step : (s : ℕ) (ss : List SetState) → s < length ss → used (take (suc s) ss) ≡ used (take s ss) + held (get_or ss s no_set)
unfolding used
used_step s [] lt = absurd (omega arith)
used_step zero (x ∷ ss) lt = omega arith
used_step (suc s) (x ∷ ss) lt = omega (arith, used_step s ss (omega arith))

used_all : (s : ℕ) (ss : List SetState) → length ss ≤ s → used (take s ss) ≡ used ss
unfolding used
used_all zero [] le = refl
used_all (suc s) [] le = refl
used_all zero (x ∷ ss) le = absurd (omega arith)
used_all (suc s) (x ∷ ss) le = omega (arith, used_all s ss (omega arith))

start-used : (s i : ℕ) (ss : List SetState) → s < length ss → first_node s i ss ≡ i + used (take s ss)
unfolding used
start-used s i [] lt = absurd (omega arith)
start-used zero i (x ∷ ss) lt = omega arith
start-used (suc s) i (x ∷ ss) lt = omega (arith, start-used s (i + held x) ss (omega arith))

-- A root by the list.
root_none : (F : Form) (i : ℕ) (l : List Bits) → 1 ≤ i → root_at i l ≡ 0 → held_l F l ≡ 0
root_none F i [] le e = held_l-nil F
root_none F i (p ∷ l) le e = absurd (omega arith)

root-some : (i : ℕ) (l : List Bits) → (root_at i l ≡ 0 → ⊥) → root_at i l ≡ i
root-some i [] ne = absurd (ne refl)
root-some i (p ∷ l) ne = refl

-- the sets from set j up to set s use no more nodes than set j
pub record Turn (S : State) (j s : ℕ) : Type 0 where
  pub past : j < s
  pub within : s ≤ length S.sets
  pub only : used (take s S.sets) ≡ used (take j S.sets) + held (set_at S j)

module _ {w : List ℕ} {k : ℕ} {v : Survey} (h : Surveyed w k v) (S : State) (d : decode w ≡ sound S) where
  one : Seen w S k v
  one = seen_as h S d

  sets-are : get_or w 2 0 ≡ length S.sets
  sets-are = (decode-header w S d).sets

  -- the root of a set that is there
  module _ (s : ℕ) (lt : s < get_or w 2 0) where
    its_own : Seen w S s (its one s lt)
    its_own = beside-seen one s lt

    root-empty : get_or w (record_at s) 0 ≡ 0 → held (set_at S s) ≡ 0
    root-empty z =
        root_none (set_at S s).form (its one s lt).at (list_at S s) (seen-figures its_own).first (sym (beside-root one s lt) ∙ z)

    root-begins : (get_or w (record_at s) 0 ≡ 0 → ⊥) → get_or w (record_at s) 0 ≡ 1 + used (take s S.sets)
    root-begins ne =
        let r = beside-root one s lt in
        r ∙ root-some (its one s lt).at (list_at S s) (λ z. ne (r ∙ z)) ∙ its_own.at ∙ start-used s 1 S.sets its_own.known

  module _ (j : ℕ) (lt : j < get_or w 2 0) where
    nodes-is : {n : ℕ} → n ≡ held (set_at S j) → n ≡ (survey_of (decode w) j).held
    nodes-is e = e ∙ sym (its_own j lt).held

    pub nodes-none : get_or w (record_at j) 0 ≡ 0 → 0 ≡ (survey_of (decode w) j).held
    nodes-none z = nodes-is (sym (root-empty j lt z))

    pub turn-first : Turn S j (j + 1)
    turn-first = record { past = omega arith; within = omega (arith, (its_own j lt).known); only = rw (add-one) (used_step j S.sets (its_own j lt).known) }

    module _ (root : get_or w (record_at j) 0 ≡ 0 → ⊥) {s : ℕ} (t : Turn S j s) where
      pub turn_end : get_or w 2 0 ≤ s → (get_or w (record_at j) 0 ≤ v.used + 1) × (v.used + 1 - get_or w (record_at j) 0 ≡ (survey_of (decode w) j).held)
      turn_end le =
          let e = used_all s S.sets (omega (arith, sets-are)) in
          (omega (arith, root-begins j lt root, t.only, one.used), nodes-is (omega (arith, root-begins j lt root, t.only, one.used)))

      module _ (ls : s < get_or w 2 0) where
        pub turn-next : get_or w (record_at s) 0 ≡ 0 → Turn S j (s + 1)
        turn-next z =
            record {
              past = omega (arith, t.past);
              within = omega (arith, sets-are);
              only = rw (add-one) (used_step s S.sets (omega (arith, sets-are)) ∙ rw (root-empty s ls z, t.only) (omega arith));
            }

        pub turn-found : (get_or w (record_at s) 0 ≡ 0 → ⊥)
            → (get_or w (record_at j) 0 ≤ get_or w (record_at s) 0) × (get_or w (record_at s) 0 - get_or w (record_at j) 0 ≡ (survey_of (decode w) j).held)
        turn-found ne =
            let a = root-begins j lt root in
            let b = root-begins s ls ne in
            (omega (arith, t.only), nodes-is (omega (arith, t.only)))
