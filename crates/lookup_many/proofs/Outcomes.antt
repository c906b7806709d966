-- The outcomes of contains_all: the call has one; where it is granted, each entry is what contains answers to that query, and the entries past the queries are as they were.
-- Assumes nothing.
use mathlib.Core.List.{List}
use mathlib.Core.Path.{◌≡◌, refl, sym, ap, ◌∙◌}
use Prim.Native.Nat.{ℕ, zero, suc, ◌+◌, ◌/◌, ◌≤◌, ◌<◌}
use native.Mathlib.Nat.{zero-add, add-zero}
use native.Mathlib.Omega.{arith}
use lib.Dec.{eqb}
use lib.ListN.{length, get_or}
use Rattle.nodes.specs.Words.{put}
use Rattle.nodes.proofs.Put.{length-put, get_or-put-in, get_or-put-behind}
use Rattle.pool_state.proofs.Determined.{answer_as-one}
use Rattle.lookup.specs.Rules.{contains_rule}
use Rattle.lookup_many.specs.Rules.{query_at, in_one, answers_of, all_no, answers_after, ContainsAll}
use Rattle.trie_index.specs.Index.{fill}
use Rattle.trie_index.proofs.Fill.{length-fill, get_or-fill}
use Rattle.std.specs.Prelude.{Result}
use Rattle.nets.specs.declared.Refusal.{Refusal}

pub contains-all-determined : {w qs v u t : List ℕ} {k f : ℕ} {r s : (Result ℕ Refusal)} → ContainsAll w k f qs v r u → ContainsAll w k f qs v s t → (r ≡ s) × (u ≡ t)
contains-all-determined {r = r} {s = s} g h = (answer_as-one r s (g.answer ∙ sym h.answer), g.rows ∙ sym h.rows)

-- number by number
module _ {w qs v u : List ℕ} {k f : ℕ} {r : (Result ℕ Refusal)} (h : ContainsAll w k f qs v r u) (z : all_no w k f qs (length v) ≡ 0) where
  granted-rows : u ≡ put v 0 (answers_of w k f qs)
  unfolding answers_after
  granted-rows = rw z at h.rows

  pub all-length : length u ≡ length v
  all-length = ap length granted-rows ∙ length-put v 0 (answers_of w k f qs)

  pub all-entry : length qs / 3 ≤ length v → (i : ℕ) → i < length qs / 3 → get_or u i 0 ≡ in_one (contains_rule w k (query_at f qs i))
  unfolding answers_of
  all-entry le i lt =
      let g : ℕ → ℕ = λ j. in_one (contains_rule w k (query_at f qs j)) in
      let xs = fill g 0 (length qs / 3) in
      rw granted-rows ((rw (zero-add i) at (get_or-put-in v 0 xs i (omega (arith, length-fill g (length qs / 3) 0)) (omega arith))) ∙ get_or-fill g (length qs / 3) 0 i lt ∙ ap g (zero-add i))

  pub all_past : (i : ℕ) → length qs / 3 ≤ i → get_or u i 0 ≡ get_or v i 0
  unfolding answers_of
  all_past i le =
      let g : ℕ → ℕ = λ j. in_one (contains_rule w k (query_at f qs j)) in
      rw granted-rows (get_or-put-behind v 0 (fill g 0 (length qs / 3)) i (omega (arith, length-fill g (length qs / 3) 0)))
