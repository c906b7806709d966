-- The returns of a changing call, one law for each, by the tests on the way to it. Assumes nothing.
use mathlib.Core.Path.{◌≡◌, refl, sym, ap, ◌∙◌}
use mathlib.Core.Bool.{Bool, true, false, not, cond}
use mathlib.Core.List.{List, [], ◌∷◌, ◌++◌}
use mathlib.Core.Logic.{◌⊎◌, inl, inr}
use Prim.Native.Nat.{ℕ, ◌*◌, ◌≤◌}
use native.Mathlib.Omega.{arith}
use lib.Dec.{eqb}
use lib.ListN.{length}
use borrow.Author.Tests.{eq-eqb, ne_eqb}
use Rattle.nets.specs.Bits.{Bits}
use Rattle.nets.specs.Networks.{is_family, in_range, refusal_of}
use Rattle.nets.specs.Refusals.{Rule, first_no}
use Rattle.nets.specs.declared.Net.{Net}
use Rattle.pool_state.specs.Kept.{held_l}
use Rattle.pool_state.specs.States.{SetState, State, room_of}
use Rattle.pool_state.specs.Decode.{over, sound, decode}
use Rattle.pool_state.specs.Changes.{set_at, with_set, change_rules, change_no, change_rule, words_after, Changed, set_with, grant_rules, relist_rules, relist_set, Relisted, relist_no, net_rules, is_empty}
use Rattle.pool_state.specs.Steps.{Refuses, Settled}
use Rattle.pool_state.specs.declared.Survey.{Survey}
use Rattle.pool_state.proofs.Answered.{owes-refused, owes-granted, owes-seat}
use Rattle.pool_state.proofs.Seen.{Seen, words_l, stride_s}
use Rattle.pool_state.proofs.Judged.{relist_no-known, grant-within}
use Rattle.pool_state.proofs.Changed.{with_words, written_has, over-change}

-- The number that a network gets in a pool of its family, and in another. In a pool's family a network is refused as 7 or not at all.
pub refusal_of-known : (n : Net) → is_family n.family ≡ true → (refusal_of n ≡ 0) ⊎ (refusal_of n ≡ 7)
unfolding refusal_of
refusal_of-known n e = go (in_range n) refl
  where
    go : (b : Bool) → in_range n ≡ b → (refusal_of n ≡ 0) ⊎ (refusal_of n ≡ 7)
    go true h = inl (rw (e, h))
    go false h = inr (rw (e, h))

pub net_rules-own : (n : Net) (S : State) → is_family S.family ≡ true → n.family ≡ S.family → first_no (net_rules n S) ≡ refusal_of n
unfolding net_rules
net_rules-own n S f e = rw (eq-eqb n.family S.family e) (go (refusal_of-known n (rw e f)))
  where
    go : (refusal_of n ≡ 0) ⊎ (refusal_of n ≡ 7) → cond (not (eqb (refusal_of n) 0)) 7 0 ≡ refusal_of n
    go (inl r) = rw r
    go (inr r) = rw r

pub net_rules-other : (n : Net) (S : State) → (n.family ≡ S.family → ⊥) → first_no (net_rules n S) ≡ 6
unfolding net_rules
net_rules-other n S ne = rw (ne_eqb n.family S.family ne)

-- a set that is occupied
pub is_empty-some : (l : List Bits) → (l ≡ [] → ⊥) → is_empty l ≡ false
is_empty-some [] ne = absurd (ne refl)
is_empty-some (p ∷ l) ne = refl

-- what a changing call on set k owes: its answer r, and the words u that it leaves
abbrev pub Owes : List ℕ → ℕ → (State → List Rule) → (State → SetState) → ℕ × ℕ → List ℕ → Type 0
Owes w k rs f r u = (r ≡ change_rule (decode w) k rs f) × (u ≡ words_after w (decode w) k rs f)

pub changed : {w v : List ℕ} {k : ℕ} {rs : State → List Rule} {f : State → SetState} {r : ℕ × ℕ} → Owes w k rs f r v → Changed w k rs f r v
changed h = record { answer = h.0; words = h.1 }

module _ (rs : State → List Rule) (f : State → SetState) where
  pub refused : (w : List ℕ) (S : State) (k : ℕ) {x : ℕ} → decode w ≡ sound S → change_no S k (rs S) ≡ x → (x ≡ 0 → ⊥) → Owes w k rs f (x, 0) w
  unfolding change_rule words_after
  refused w S k d e ne = owes-refused _ 0 _ w _ d e ne

  pub seat : (w : List ℕ) (k : ℕ) {x : ℕ} → Refuses (decode w) k x → Owes w k rs f (x, 0) w
  unfolding change_rule words_after change_rules
  seat w k h = owes-seat _ 0 _ w _ (decode w) k h

-- a call that gives the set a list
module _ (a : State → List Rule) (f : State → List Bits) where
  abbrev OwesRelist : List ℕ → ℕ → ℕ × ℕ → List ℕ → Type 0
  OwesRelist w k r u = Owes w k (relist_rules k a f) (relist_set k f) r u

  pub change-seat : (w : List ℕ) (k : ℕ) {x : ℕ} → Refuses (decode w) k x → OwesRelist w k (x, 0) w
  change-seat w k h = seat (relist_rules k a f) (relist_set k f) w k h

  module _ {w : List ℕ} {S : State} {k : ℕ} {v : Survey} (h : Seen w S k v) where
    no : {x : ℕ} → relist_no S k (a S) (f S) ≡ x → (x ≡ 0 → ⊥) → OwesRelist w k (x, 0) w
    unfolding relist_rules
    no e ne = refused (relist_rules k a f) (relist_set k f) w S k h.decoded e ne

    pub change-args : {x : ℕ} → first_no (a S) ≡ x → (x ≡ 0 → ⊥) → OwesRelist w k (x, 0) w
    change-args {x} e ne = no (relist_no-known S k (a S) (f S) h.known ∙ rw (e, ne_eqb x 0 ne)) ne

    -- the arguments are right, and the result is judged
    module _ {x : ℕ} (z : first_no (a S) ≡ 0) (j : x ≡ first_no (grant_rules S k (f S))) where
      judged : relist_no S k (a S) (f S) ≡ x
      judged = relist_no-known S k (a S) (f S) h.known ∙ rw z (sym j)

      pub change-judged : (x ≡ 0 → ⊥) → OwesRelist w k (x, 0) w
      change-judged ne = no judged ne

      pub relist-granted : {n : ℕ} {u y : List ℕ} → x ≡ 0 → held_l (set_at S k).form (f S) ≡ n → length (words_l S (f S)) ≡ stride_s S * n → u ≡ with_words w S k v (words_l S (f S)) → Settled u k v.at v.held n y → OwesRelist w k (0, n) y
      unfolding change_rule words_after relist_rules relist_set
      relist-granted {n} {u} {y} q i b p g =
          let le : n ≤ room_of S k = omega (arith, i, (grant-within S k (f S) (sym j ∙ q)).1) in
          let (s, t) = written_has h (f S) p b le in
          let o : y ≡ over w (with_set S k (set_with (set_at S k) (f S))) = g.words (f S) s t ∙ (rw i at (over-change h (f S) p b le)) in
          rw (o, ← i) (owes-granted _ 0 _ w _ h.decoded (judged ∙ q))
