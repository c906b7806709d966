-- The steps of a combination in the second form: what they ask, and what they leave, as in the first.
--
--   KeptReads w s v t u          its sources are the tries t and u
--   KeptAdmits w op to s v c     c says whether the set `to` may have what the operation makes of the sources, as far as its mark goes
--   KeptFits, with_kept           what writing the result asks, and the words that it leaves
use Rattle.std.specs.Prelude.{Bool, List, [], ◌≡◌, ℕ, ◌+◌, ◌≤◌, ◌<◌, length, get_or}
use Rattle.nets.specs.Tries.{Trie}
use Rattle.nets.specs.Networks.{width}
use Rattle.nodes.specs.Words.{put}
use Rattle.trie_emit.specs.Combine.{op_on}
use Rattle.branch_points.specs.KeptTries.{kept_size}
use Rattle.kept_nodes.specs.Words.{stride, spot, kept_enc}
use Rattle.kept_emit.specs.Combine.{Inputs as KeptInputs}
use Rattle.pool_state.specs.Steps.{behind_at, Shiftable, spot_by, stride_in}
use Rattle.pool_state.specs.declared.Survey.{Survey}
use Rattle.combine_sources.specs.declared.Sources.{Sources}
use Rattle.combine_sources.specs.Steps.{Whole, AdmitsBy}

-- the sources are the tries t and u, which stand in the nodes in use
pub record KeptReads (w : List ℕ) (s : Sources) (v : Survey) (t u : Trie) : Type 0 where
  pub inputs : KeptInputs (get_or w 1 0) w s.base (get_or w 3 0) s.first s.second 0 0 [] s.levels t u
  pub whole-t : Whole v.at (v.used + 1) s.first (kept_size t)
  pub whole-u : Whole v.at (v.used + 1) s.second (kept_size u)
  pub levels : width (get_or w 1 0) < s.levels
  pub family : get_or w 1 0 ≤ 6
  pub long : 64 ≤ length w

abbrev pub KeptAdmits : List ℕ → ℕ → ℕ → Sources → Survey → Bool → Type 0
KeptAdmits = AdmitsBy KeptReads

pub record KeptFits (w : List ℕ) (op : ℕ) (s : Sources) (v : Survey) (n : ℕ) (t u : Trie) : Type 0 where
  pub reads : KeptReads w s v t u
  pub size : kept_size (op_on op s.levels t u) ≡ n
  pub empty : v.held ≡ 0
  pub gap : Shiftable (stride_in w) w s.base v n
  pub few : v.used + n ≤ get_or w 3 0
  pub stride : stride_in w ≡ stride (get_or w 1 0)

abbrev pub with_kept : List ℕ → ℕ → Sources → Survey → ℕ → Trie → Trie → List ℕ
with_kept w op s v n t u =
    put (put w (spot_by (stride_in w) s.base (v.at + n)) (behind_at (stride_in w) w s.base v)) (spot (get_or w 1 0) s.base v.at)
    (kept_enc (get_or w 1 0) [] (op_on op s.levels t u))
