-- A call whose arguments are right, and whose result has been counted, in whichever form: it is judged, written in the place of the set's words, and granted. Assumes nothing.
use mathlib.Core.Path.{◌≡◌, refl, sym, ap, ◌∙◌}
use mathlib.Core.Bool.{Bool, true}
use mathlib.Core.List.{List}
use Prim.Native.Nat.{ℕ, ◌*◌, ◌≤◌}
use native.Mathlib.Omega.{arith}
use lib.ListN.{length}
use Rattle.nets.specs.Bits.{Bits}
use Rattle.nets.specs.Refusals.{number, Rule, first_no}
use Rattle.nets.specs.Tries.{Trie, size}
use Rattle.nets.specs.declared.Refusal.{Refusal}
use Rattle.nets.proofs.Answers.{number-some}
use Rattle.nodes.specs.Words.{enc}
use Rattle.pool_state.specs.Kept.{held_l}
use Rattle.pool_state.specs.States.{State, room_of, admits}
use Rattle.pool_state.specs.Rules.{verdict_as}
use Rattle.pool_state.specs.Changes.{set_at, grant_rules, Relisted}
use Rattle.pool_state.specs.Steps.{Judges, Settle, Settled}
use Rattle.pool_state.specs.declared.Survey.{Survey}
use Rattle.pool_state.proofs.Seen.{Seen, words_l, stride_s}
use Rattle.pool_state.proofs.Judged.{grant-within}
use Rattle.pool_state.proofs.Changed.{with_words, settle-asks}
use Rattle.pool_state.proofs.Returns.{changed, change-judged, relist-granted}
use Rattle.std.specs.Prelude.{Result, Ok, Err}

-- its result has the words xs and m nodes; c says whether the set may have it as far as its mark goes; where the set is indexed, the words are a trie's
pub record Counted (w : List ℕ) (S : State) (k : ℕ) (v : Survey) (a : State → List Rule) (f : State → List Bits) (xs : List ℕ) (c : Bool) (m : ℕ) : Type 0 where
  pub seen : Seen w S k v
  pub right : first_no (a S) ≡ 0
  pub public : admits S.family (set_at S k) (f S) ≡ c
  pub held : held_l (set_at S k).form (f S) ≡ m
  pub words : xs ≡ words_l S (f S)
  pub long : length xs ≡ stride_s S * m
  pub trie : (set_at S k).indexed ≡ true → (t : Trie) × (xs ≡ enc t) × (size t ≡ m)

module _ {w : List ℕ} {S : State} {k : ℕ} {v : Survey} {a : State → List Rule} {f : State → List Bits} {xs : List ℕ} {c : Bool} {m : ℕ} {r : (Result Unit Refusal)} (h : Counted w S k v a f xs c m)
    (j : Judges w k c m r) where
  says : verdict_as r ≡ first_no (grant_rules S k (f S))
  says = j.verdict S (f S) h.seen.decoded h.public h.held

  pub counted-refused : (x : Refusal) → r ≡ Err x → Relisted w k a f (number x, 0) w
  counted-refused x e = changed (change-judged a f h.seen h.right (ap verdict_as (sym e) ∙ says) (number-some x))

  -- it is granted, and written
  module _ (z : r ≡ (Ok tt)) where
    fits : 0 ≡ first_no (grant_rules S k (f S))
    fits = ap verdict_as (sym z) ∙ says

    pub counted-fits : m ≤ room_of S k
    counted-fits = let g = (grant-within S k (f S) (sym fits)).1 in omega (arith, h.held)

    module _ {u : List ℕ} (e : u ≡ with_words w S k v xs) where
      pub counted-settles : Settle u k v.at v.held m
      counted-settles = settle-asks h.seen h.long counted-fits h.trie e

      pub counted-granted : {x : ℕ × ℕ} {y : List ℕ} → x ≡ (0, m) → Settled u k v.at v.held m y → Relisted w k a f x y
      counted-granted q p =
          changed (rw q (relist-granted a f h.seen h.right fits refl h.held (ap length (sym h.words) ∙ h.long) (e ∙ ap (with_words w S k v) h.words) p))
