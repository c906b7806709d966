-- The result of a combination in the first form: what writing it asks, and what it leaves.
--
--   Reads w s v t u              the sources of a combination are the tries t and u
--   is_copy op s                  the operation leaves its first source as it is
--   ResultFits, with_result       what writing the result asks, and the words that it leaves;  Last: it goes behind all nodes
use Rattle.std.specs.Prelude.{Bool, ◌&&◌, List, ◌≡◌, ℕ, ◌+◌, ◌≤◌, eqb}
use Rattle.nets.specs.Tries.{Trie, size}
use Rattle.nodes.specs.Words.{put, place, enc}
use Rattle.nodes.specs.Parse.{Room}
use Rattle.trie_emit.specs.Combine.{op_on, Inputs}
use Rattle.pool_state.specs.Steps.{behind_at, Shiftable, spot_by}
use Rattle.pool_state.specs.declared.Survey.{Survey}
use Rattle.combine_sources.specs.declared.Sources.{Sources}
use Rattle.combine_sources.specs.Steps.{Whole}

-- the sources are the tries t and u, which stand in the nodes in use
pub record Reads (w : List ℕ) (s : Sources) (v : Survey) (t u : Trie) : Type 0 where
  pub inputs : Inputs w s.base s.first s.second 0 0 s.levels t u
  pub whole-t : Whole v.at (v.used + 1) s.first (size t)
  pub whole-u : Whole v.at (v.used + 1) s.second (size u)
  pub nodes-t : s.nodes ≡ size t
  pub nodes-u : s.others ≡ size u
  pub room : Room w s.base v.used
  pub levels : s.levels ≤ 129

-- nothing is excluded
abbrev pub is_copy : ℕ → Sources → Bool
is_copy op s = eqb op 3 && eqb s.second 0

-- the result has n nodes, and there is room for them
pub record ResultFits (w : List ℕ) (op : ℕ) (s : Sources) (v : Survey) (n : ℕ) (t u : Trie) : Type 0 where
  pub reads : Reads w s v t u
  pub size : size (op_on op s.levels t u) ≡ n
  pub empty : v.held ≡ 0
  pub gap : Shiftable 1 w s.base v n
  pub few : v.used + 1 + n ≤ 1073741824

pub record Last (w : List ℕ) (op : ℕ) (s : Sources) (v : Survey) (t u : Trie) : Type 0 where
  pub last : v.at ≡ v.used + 1
  pub writable : ResultFits w op s v (size (op_on op s.levels t u)) t u

-- the sets behind the gap moved, and the result in it
abbrev pub with_result : List ℕ → ℕ → Sources → Survey → ℕ → Trie → Trie → List ℕ
with_result w op s v n t u = put (put w (spot_by 1 s.base (v.at + n)) (behind_at 1 w s.base v)) (place s.base v.at) (enc (op_on op s.levels t u))
