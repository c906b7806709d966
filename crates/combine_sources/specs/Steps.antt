-- The steps of a combination in either form: what they ask, and what they leave.
--
--   Operation op, combine_l op    the numbers of the operations, and what each makes of two lists
--   Ready w to first second v    a combination can go on: v is what a pass over the pool found for its empty destination;  Asks: that, or its refusal
--   sources_of w first second     what a combination reads
--   moved_to o n i                the number of node i after n nodes were put in before node o
--   AdmitsBy R w op to s v c     c says whether the set `to` may have what the operation makes of the sources, as far as its mark goes
--   Started                      a combination that goes on
use Rattle.std.specs.Prelude.{Bool, cond, List, ◌≡◌, ℕ, zero, suc, ◌+◌, ◌≤◌, ◌<◌, ltb, get_or, Result, Ok, Err}
use Rattle.nets.specs.Bits.{Bits}
use Rattle.nets.specs.Lists.{merge_l, intersect_l, difference_l, exclude_l}
use Rattle.nets.specs.Tries.{Trie, list_of}
use Rattle.nets.specs.Networks.{width}
use Rattle.nets.specs.Refusals.{number}
use Rattle.trie_emit.specs.Combine.{op_on}
use Rattle.pool_state.specs.States.{State, admits}
use Rattle.pool_state.specs.Decode.{record_at, base, sound, decode}
use Rattle.pool_state.specs.Rules.{survey_of}
use Rattle.pool_state.specs.Changes.{set_at, Relisted}
use Rattle.pool_state.specs.Steps.{Surveyed}
use Rattle.pool_state.specs.declared.Survey.{Survey}
use Rattle.combine_sources.specs.Rules.{combine_rules}
use Rattle.combine_sources.specs.declared.Sources.{Sources}
use Rattle.nets.specs.declared.Refusal.{Refusal}

pub data Operation : ℕ → Type 0 where
  merging : Operation 0
  intersecting : Operation 1
  excluding : Operation 2
  excluding_apart : Operation 3

abbrev pub combine_l : ℕ → List Bits → List Bits → List Bits
combine_l zero l m = merge_l l m
combine_l (suc zero) l m = intersect_l l m
combine_l (suc (suc zero)) l m = difference_l l m
combine_l (suc (suc (suc n))) l m = exclude_l l m

pub record Ready (w : List ℕ) (to first second : ℕ) (v : Survey) : Type 0 where
  pub surveyed : Surveyed w to v
  pub known : (first < get_or w 2 0) × (second < get_or w 2 0)
  pub empty : v.held ≡ 0

-- a refusal is that of every operation
abbrev pub Asks : List ℕ → ℕ → ℕ → ℕ → Result Survey Refusal → Type 0
Asks w to first second (Ok v) = Ready w to first second v
Asks w to first second (Err x) = (f : State → List Bits) → Relisted w to (combine_rules to first second) f (number x, 0) w

abbrev pub sources_of : List ℕ → ℕ → ℕ → Sources
sources_of w first second =
    record {
      base = base (get_or w 2 0);
      first = get_or w (record_at first) 0;
      nodes = (survey_of (decode w) first).held;
      second = get_or w (record_at second) 0;
      others = (survey_of (decode w) second).held;
      levels = suc (width (get_or w 1 0));
    }

abbrev pub moved_to : ℕ → ℕ → ℕ → ℕ
moved_to o n i = cond (ltb i o) i (i + n)

-- the n nodes from node i on lie all before node o or all behind it, and before node e
pub record Whole (o e i n : ℕ) : Type 0 where
  pub before : i < o → i + n ≤ o
  pub within : i + n ≤ e

-- R says how the sources are read
abbrev pub AdmitsBy : (List ℕ → Sources → Survey → Trie → Trie → Type 0) → List ℕ → ℕ → ℕ → Sources → Survey → Bool → Type 0
AdmitsBy R w op to s v c = (S : State) (t u : Trie) → decode w ≡ sound S → R w s v t u → c ≡ admits S.family (set_at S to) (list_of (op_on op s.levels t u))

-- a combination that goes on, and its sources
pub record Started (op : ℕ) (w : List ℕ) (to first second : ℕ) (v : Survey) (s : Sources) : Type 0 where
  pub operation : Operation op
  pub ready : Ready w to first second v
  pub sources : s ≡ sources_of w first second
