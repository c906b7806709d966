-- One node on the way to the ranges of a trie in the second form.
--
--   Takable f w b n k q        node k has a string of the family f, and the state q has room for one range more
--   NodeTakes f w b k q v s u  from the state q and the rows v node k leads to the state s and the rows u: a member is taken, a branch point passed
use Rattle.std.specs.Prelude.{true, List, ◌≡◌, ℕ, ◌≤◌, ◌<◌}
use Rattle.kept_nodes.specs.Parse.{dist_at, string_at}
use Rattle.kept_list.specs.Listed.{KeptNode}
use Rattle.trie_ranges.specs.declared.Open.{Open}
use Rattle.trie_ranges.specs.Opening.{goes_on, Takes}

pub record Takable (f : ℕ) (w : List ℕ) (b n k : ℕ) (q : Open) : Type 0 where
  pub node : KeptNode f w b n k
  pub few : q.n < 1073741824
  pub some : (a : ℕ) → goes_on q a ≡ true → 1 ≤ q.n

pub record NodeTakes (f : ℕ) (w : List ℕ) (b k : ℕ) (q : Open) (v : List ℕ) (s : Open) (u : List ℕ) : Type 0 where
  pub member : dist_at f w b k ≡ 0 → Takes f (string_at f w b k) q v s u
  pub branch : (dist_at f w b k ≡ 0 → ⊥) → (s ≡ q) × (u ≡ v)
