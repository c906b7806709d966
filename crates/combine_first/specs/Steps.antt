-- The steps of a combination in the first form: what they ask, and what they leave.
--
--   Admits w op to s v c         c says whether the set `to` may have what the operation makes of the sources, as far as its mark goes
--   most_nodes op x y             the most nodes that the operation makes of sources of x and y nodes
--   Begun, Sure                  a combination that goes on; its result surely fits, and goes behind all nodes
use Rattle.std.specs.Prelude.{Bool, cond, List, ◌≡◌, ℕ, ◌+◌, ◌*◌, ◌≤◌, ltb, get_or}
use Rattle.pool_state.specs.States.{State, room_of}
use Rattle.pool_state.specs.Decode.{sound, decode}
use Rattle.pool_state.specs.Rules.{limit_in}
use Rattle.pool_state.specs.declared.Survey.{Survey}
use Rattle.combine_sources.specs.declared.Sources.{Sources}
use Rattle.combine_sources.specs.Steps.{AdmitsBy, Started}
use Rattle.combine_write.specs.Steps.{Reads}

abbrev pub Admits : List ℕ → ℕ → ℕ → Sources → Survey → Bool → Type 0
Admits = AdmitsBy Reads

-- the most nodes that an operation makes of sources of x and y nodes
abbrev pub most_nodes : ℕ → ℕ → ℕ → ℕ
most_nodes op x y = cond (ltb op 2) (x + y) (x + 2 * y)

-- c says whether the destination may have the result as far as its mark goes
pub record Begun (op : ℕ) (w : List ℕ) (to first second : ℕ) (v : Survey) (s : Sources) (c : Bool) : Type 0 where
  pub started : Started op w to first second v s
  pub form : get_or w 5 0 ≡ 0
  pub clear : Admits w op to s v c

-- its result goes behind all nodes and fits, however many of them it has
pub record Sure (w : List ℕ) (op to : ℕ) (s : Sources) (v : Survey) : Type 0 where
  pub last : v.at ≡ v.used + 1
  pub limit : most_nodes op s.nodes s.others ≤ limit_in w to
  pub room : (S : State) → decode w ≡ sound S → most_nodes op s.nodes s.others ≤ room_of S to
