-- Many lookups in one call after histories: contains_all answers each query as contains does, so its row is that of the set's list, and the same after two
-- histories from states that agree on the set. Assumes nothing.
use mathlib.Core.Bool.{Bool, true, false, not, cond}
use mathlib.Core.List.{List, ◌∷◌}
use mathlib.Core.Path.{◌≡◌, refl, ap, sym, ◌∙◌}
use Prim.Native.Nat.{ℕ, ◌/◌}
use lib.Dec.{eqb, leb, ltb}
use lib.ListN.{length}
use borrow.Author.Tests.{leb-true, leb-false, le-ltb, lt-ltb}
use Rattle.nets.specs.Lists.{contains_l}
use Rattle.nets.specs.Networks.{net_bits, has_bit_past}
use Rattle.nets.specs.Refusals.{answered, Rule, first_no}
use Rattle.nets.specs.declared.Net.{Net}
use Rattle.nodes.specs.Words.{put}
use Rattle.trie_index.specs.Index.{fill}
use Rattle.trie_index.proofs.Fill.{fill-same}
use Rattle.pool_state.specs.States.{State}
use Rattle.pool_state.specs.Decode.{sound, decode}
use Rattle.pool_state.specs.Rules.{unknown}
use Rattle.pool_state.specs.Changes.{list_at}
use Rattle.pool_state.proofs.Decoded.{decode-header}
use Rattle.lookup.specs.Rules.{on_root, Held, contains_rule, lookup_no, unheld, steps_of}
use Rattle.lookup_many.specs.Rules.{query_at, in_one, answers_of, all_rules, all_no, answers_after}
use Rattle.histories.specs.Calls.{Call}
use Rattle.histories.specs.Histories.{state_from, History, calls_on, AllAlone, SameAt, SameList}
use Rattle.histories.proofs.Step.{same_at-list}
use Rattle.histories.proofs.Histories.{history-sound}
use Rattle.histories.proofs.TwoHistories.{same_after}
use Rattle.histories.proofs.Readings.{history-contains}
use Rattle.histories.proofs.TwoReadings.{two-contains}

-- the rules on a sound pool: 3 no such set, then those of the call
abbrev pub rules_in : State → ℕ → ℕ → List ℕ → ℕ → List Rule
rules_in S k f qs n = unknown S k ∷ all_rules S.family f qs n

-- the test of a set, turned round
ltb-leb : (m n : ℕ) → ltb m n ≡ not (leb n m)
ltb-leb m n = go (leb n m) refl
  where
    go : (b : Bool) → leb n m ≡ b → ltb m n ≡ not b
    go true e = le-ltb m n (leb-true n m e)
    go false e = lt-ltb m n (leb-false n m e)

all_no-sound : (w : List ℕ) (S : State) → decode w ≡ sound S → (k f : ℕ) (qs : List ℕ) (n : ℕ) → all_no w k f qs n ≡ first_no (rules_in S k f qs n)
unfolding all_no on_root
all_no-sound w S d k f qs n =
    let h = decode-header w S d in
    rw (h.known, h.sets, h.family, ltb-leb k (length S.sets)) (go (leb (length S.sets) k) (first_no (all_rules S.family f qs n)))
  where
    go : (a : Bool) (x : ℕ) → cond (not a) x 3 ≡ cond a 3 x
    go true x = refl
    go false x = refl

pub all_no-same : (w v : List ℕ) {S T : State} → decode w ≡ sound S → decode v ≡ sound T → {k : ℕ} → SameList k S T → (f : ℕ) (qs : List ℕ) (n : ℕ) → all_no w k f qs n ≡ all_no v k f qs n
all_no-same w v {S} {T} d q {k} s f qs n =
    let r : first_no (rules_in S k f qs n) ≡ first_no (rules_in T k f qs n) = rw (s.known, s.family) in
    all_no-sound w S d k f qs n ∙ r ∙ sym (all_no-sound v T q k f qs n)

-- what contains answers, query by query
abbrev held_in : State → ℕ → Net → ℕ × Held
held_in S k n = let l = list_at S k in answered (lookup_no S k n) unheld (contains_l l (net_bits n), (steps_of S.form l (net_bits n), has_bit_past n))

module _ {w : List ℕ} {S : State} (d : decode w ≡ sound S) {cs : List Call} {rs : List (ℕ × ℕ)} {v : List ℕ} (h : History w cs rs v) (k f : ℕ)
    (qs u : List ℕ) where
  pub history-contains-all : (all_no v k f qs (length u) ≡ first_no (rules_in (state_from S cs) k f qs (length u)))
      × (answers_after u v k f qs ≡ cond (eqb (first_no (rules_in (state_from S cs) k f qs (length u))) 0)
      (put u 0 (fill (λ i. in_one (held_in (state_from S cs) k (query_at f qs i))) 0 (length qs / 3))) u)
  unfolding answers_after answers_of
  history-contains-all =
      let e = all_no-sound v (state_from S cs) (history-sound d h) k f qs (length u) in
      let each : ℕ → ℕ = λ i. in_one (held_in (state_from S cs) k (query_at f qs i)) in
      (e, rw (e, fill-same _ each (λ i. ap in_one (history-contains d h k (query_at f qs i))) (length qs / 3) 0))

module _ {w z : List ℕ} {S T : State} {cs ds : List Call} {rs ss : List (ℕ × ℕ)} {u v : List ℕ} (d : decode w ≡ sound S) (q : decode z ≡ sound T) (k : ℕ)
    (same_at : SameAt k S T) (h : History w cs rs u) (g : History z ds ss v) (a : AllAlone S k cs) (e : calls_on k cs ≡ calls_on k ds) (f : ℕ)
    (qs x : List ℕ) where
  pub two-contains-all : (all_no u k f qs (length x) ≡ all_no v k f qs (length x)) × (answers_after x u k f qs ≡ answers_after x v k f qs)
  unfolding answers_after answers_of
  two-contains-all =
      let o = all_no-same u v (history-sound d h) (history-sound q g) (same_at-list (same_after d q k same_at h g a e)) f qs (length x) in
      let each : ℕ → ℕ = λ i. in_one (contains_rule v k (query_at f qs i)) in
      (o, rw (o, fill-same _ each (λ i. ap in_one (two-contains d q k same_at h g a e (query_at f qs i))) (length qs / 3) 0))
