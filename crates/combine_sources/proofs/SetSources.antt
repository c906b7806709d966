-- A set as a source: its root means its trie, which lists what the set has. The trie stands wholly before a place where another set begins, or wholly behind it, as sets stand
-- one behind the other. Assumes nothing.
use mathlib.Core.Bool.{cond}
use mathlib.Core.List.{List, []}
use mathlib.Core.Logic.{inr}
use mathlib.Core.Path.{◌≡◌, refl, sym, ap}
use Prim.Native.Nat.{ℕ, suc, ◌+◌, ◌≤◌, ◌<◌}
use native.Mathlib.Decide.{dec_lt}
use native.Mathlib.Omega.{arith}
use lib.ListN.{get_or}
use Rattle.nets.specs.Tries.{Trie, none, node, size, levels, is_none, list_of}
use Rattle.nets.specs.Networks.{width}
use Rattle.trie_emit.specs.Combine.{Here, Means}
use Rattle.trie_emit.proofs.Sources.{means-here}
use Rattle.branch_points.specs.KeptTries.{kept_size}
use Rattle.kept_sources.specs.Sources.{KeptHere, KeptMeans, nothing, standing}
use Rattle.pool_state.specs.Kept.{first, second}
use Rattle.pool_state.specs.States.{State}
use Rattle.pool_state.specs.Decode.{record_at, base, decode}
use Rattle.pool_state.specs.Rules.{first_node, survey_of}
use Rattle.pool_state.specs.Changes.{list_at}
use Rattle.pool_state.specs.declared.Survey.{Survey}
use Rattle.pool_state.proofs.Decoded.{decode-header}
use Rattle.pool_state.proofs.OnTries.{trie-has, trie-root, decode-at, trie_at, seen-list, seen_size}
use Rattle.pool_state.proofs.OnKept.{kept_at, kept-size}
use Rattle.pool_state.proofs.Seen.{Seen, seen-figures}
use Rattle.pool_state.proofs.Changed.{first_node-behind}
use Rattle.pool_state.proofs.Beside.{its, beside-seen}
use Rattle.combine_sources.specs.Steps.{Whole}

whole-root : (o e i n : ℕ) (t : Trie) → (t ≡ none → n ≡ 0) → (i < o → i + n ≤ o) → i + n ≤ e → Whole o e (cond (is_none t) 0 i) n
whole-root o e i n none z f le = let q = z refl in record { before = λ l. omega arith; within = omega arith }
whole-root o e i n (node l r) z f le = record { before = f; within = le }

means-root : {f : ℕ} {w : List ℕ} {b n i : ℕ} (t : Trie) → KeptHere f w b n 0 0 [] i t → KeptMeans f w b n 0 0 [] (cond (is_none t) 0 i) t
means-root none h = nothing
means-root (node l r) h = standing h

-- The set j as a source, beside what a pass found for another: all that an operation asks of it in the first form,
pub record Source (w : List ℕ) (S : State) (v : Survey) (j : ℕ) : Type 0 where
  pub means : Means w (base (get_or w 2 0)) 0 0 (get_or w (record_at j) 0) (trie_at S j)
  pub whole : Whole v.at (v.used + 1) (get_or w (record_at j) 0) (size (trie_at S j))
  pub deep : levels (trie_at S j) ≤ suc (width (get_or w 1 0))
  pub list : list_of (trie_at S j) ≡ list_at S j
  pub few : size (trie_at S j) ≤ 4194304
  pub nodes : (survey_of (decode w) j).held ≡ size (trie_at S j)

-- and in the second
pub record KeptSource (w : List ℕ) (S : State) (v : Survey) (j : ℕ) : Type 0 where
  pub means : KeptMeans (get_or w 1 0) w (base (get_or w 2 0)) (get_or w 3 0) 0 0 [] (get_or w (record_at j) 0) (trie_at S j)
  pub whole : Whole v.at (v.used + 1) (get_or w (record_at j) 0) (kept_size (trie_at S j))
  pub deep : levels (trie_at S j) ≤ suc (width (get_or w 1 0))
  pub list : list_of (trie_at S j) ≡ list_at S j
  pub few : kept_size (trie_at S j) ≤ 4194304

module _ {w : List ℕ} {S : State} {k : ℕ} {v : Survey} (h : Seen w S k v) (j : ℕ) (lt : j < get_or w 2 0) where
  source-before : (its h j lt).at < v.at → (its h j lt).at + (its h j lt).held ≤ v.at
  source-before l = go (beside-seen h j lt) (dec_lt j k) (dec_lt k j)
    where
      go : Seen w S j (its h j lt) → Dec (j < k) → Dec (k < j) → (its h j lt).at + (its h j lt).held ≤ v.at
      go g (yes a) b = omega (arith, first_node-behind j k 1 S.sets a h.known, g.held)
      go g (no a) (yes b) = absurd (omega (arith, first_node-behind k j 1 S.sets b g.known))
      go g (no a) (no b) = let e : j ≡ k = omega arith in absurd (omega (arith, ap (λ n. first_node n 1 S.sets) e))

  -- its nodes, n of them, lie all on one side of where the other begins
  source-whole : {n : ℕ} → n ≡ (its h j lt).held → (trie_at S j ≡ none → n ≡ 0) → Whole v.at (v.used + 1) (get_or w (record_at j) 0) n
  source-whole {n} e z =
      let g = beside-seen h j lt in
      rw (trie-root h j lt (seen-list g))
      (whole-root v.at (v.used + 1) (its h j lt).at n (trie_at S j) z (λ l. omega (arith, source-before l)) (omega (arith, (seen-figures g).last, g.used, h.used)))

  pub source : S.form ≡ first → Source w S v j
  unfolding size
  source F =
      let g = beside-seen h j lt in
      let f = seen-figures g in
      let here : Here w (base (get_or w 2 0)) 0 0 (its h j lt).at (trie_at S j) =
      record { has = trie-has g F; one = f.first; few = omega (arith, seen_size g F); clear = λ n a b c d. omega arith } in
      record {
        means = rw (trie-root h j lt (seen-list g)) (means-here (trie_at S j) here);
        whole = source-whole (seen_size g F) (ap size);
        deep = rw (decode-header w S h.decoded).family (decode-at w S h.decoded F j g.known).deep;
        list = seen-list g;
        few = omega (arith, seen_size g F);
        nodes = sym (seen_size g F);
      }

  pub kept-source : S.form ≡ second → KeptSource w S v j
  unfolding kept_size
  kept-source F =
      let g = beside-seen h j lt in
      let f = seen-figures g in
      let stands = kept_at g F in
      record {
        means = rw (trie-root h j lt (seen-list g)) (means-root (trie_at S j) (record { stands = stands; one = f.first; clear = inr (omega arith) }));
        whole = source-whole (kept-size g F) (ap kept_size);
        deep = omega (arith, stands.deep);
        list = seen-list g;
        few = omega (arith, kept-size g F);
      }
