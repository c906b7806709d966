-- The call that simplifies a set, and its step in place.
--
--   Simplifies w k r v      from the words w the call on set k answers r and leaves the words v
--   Shrunk w k v n u        the list of set k, of which a pass found v, is simplified where it stands: u is w with its n nodes
--   ShrunkTrie w v b i t n  the same of the trie t of the first form, which stands from node i on
use Rattle.std.specs.Prelude.{List, [], ◌≡◌, ℕ}
use Rattle.nets.specs.Bits.{Bits}
use Rattle.nets.specs.Lists.{simplify_l}
use Rattle.nets.specs.Refusals.{Rule}
use Rattle.nets.specs.Tries.{Trie, size, simplify_t}
use Rattle.nodes.specs.Words.{put, place, enc}
use Rattle.pool_state.specs.Kept.{held_l}
use Rattle.pool_state.specs.States.{State}
use Rattle.pool_state.specs.Decode.{sound, decode}
use Rattle.pool_state.specs.Changes.{set_at, list_at, Relisted}
use Rattle.pool_state.specs.Steps.{spot_in, enc_in}
use Rattle.pool_state.specs.declared.Survey.{Survey}

-- the list of set k, simplified; and no argument but the set, so no rule for any
abbrev pub list_simple : ℕ → State → List Bits
list_simple k S = simplify_l (list_at S k)

abbrev pub no_args : State → List Rule
no_args S = []

abbrev pub Simplifies : List ℕ → ℕ → ℕ × ℕ → List ℕ → Type 0
Simplifies w k r v = Relisted w k no_args (list_simple k) r v

pub record Shrunk (w : List ℕ) (k : ℕ) (v : Survey) (n : ℕ) (u : List ℕ) : Type 0 where
  pub nodes : (S : State) → decode w ≡ sound S → held_l (set_at S k).form (list_simple k S) ≡ n
  pub words : (S : State) → decode w ≡ sound S → u ≡ put w (spot_in w v.at) (enc_in w (list_simple k S))

pub record ShrunkTrie (w v : List ℕ) (b i : ℕ) (t : Trie) (n : ℕ) : Type 0 where
  pub nodes : n ≡ size (simplify_t t)
  pub wrote : v ≡ put w (place b i) (enc (simplify_t t))
