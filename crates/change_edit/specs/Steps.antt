-- A network into the list of a set, or out of it: the nodes of the result, and its words.
--
--   list_by x k n S       the list of set k with the network n in it (x), or out of it
--   Counts w k x n m     m is how many nodes that list has
--   Edits, Edited        there is room for it; u is w with it in the place of the set's, and the sets behind it
use Rattle.std.specs.Prelude.{◌≡◌, Bool, true, false, List, ◌++◌, ℕ, ◌≤◌, get_or}
use Rattle.nets.specs.Bits.{Bits}
use Rattle.nets.specs.declared.Net.{Net}
use Rattle.nets.specs.declared.PrefixBits.{PrefixBits}
use Rattle.nodes.specs.Words.{put}
use Rattle.pool_state.specs.Kept.{held_l}
use Rattle.pool_state.specs.States.{State, room_of}
use Rattle.pool_state.specs.Decode.{base, sound, decode}
use Rattle.pool_state.specs.Changes.{set_at}
use Rattle.pool_state.specs.Steps.{behind_at, stride_in, spot_in, enc_in}
use Rattle.pool_state.specs.declared.Survey.{Survey}
use Rattle.change_ask.specs.Steps.{Ready}
use Rattle.change_ask.specs.Calls.{list_with, list_without}

abbrev pub list_by : Bool → ℕ → Net → State → List Bits
list_by true = list_with
list_by false = list_without

pub record Counts (w : List ℕ) (k : ℕ) (x : Bool) (n : Net) (m : ℕ) : Type 0 where
  pub nodes : (S : State) → decode w ≡ sound S → held_l (set_at S k).form (list_by x k n S) ≡ m

pub record Edits (w : List ℕ) (k : ℕ) (x : Bool) (n : Net) (v : Survey) (s : PrefixBits) : Type 0 where
  pub ready : Ready w k n v s
  pub fits : (S : State) → decode w ≡ sound S → held_l (set_at S k).form (list_by x k n S) ≤ room_of S k

pub record Edited (w : List ℕ) (k : ℕ) (x : Bool) (n : Net) (v : Survey) (u : List ℕ) : Type 0 where
  pub words : (S : State) → decode w ≡ sound S → u ≡ put w (spot_in w v.at) (enc_in w (list_by x k n S) ++ behind_at (stride_in w) w (base (get_or w 2 0)) v)
