-- The steps that every changing call shares: what they ask, and what they leave. The laws of proofs/Changed.antt tie them to the state afterwards.
--
--   Refuses d k x                x is the number of every call on set k: 2 damaged, 3 no such set
--   Surveyed w k v               v is what a pass over the sound pool found out for its set k
--   survey_with x v n             what a pass finds where v was found, once the set, whose share is x, has n nodes
--   Judges w k c n r             r is the verdict on a result of n nodes for set k, where c says whether the set may have it as far as its mark goes
--   spot_by s b i                 where node i begins in words whose nodes begin at b and take s words each
--   behind_at s w b v             the words of the sets behind that set in such words;  Shiftable s w b v n: what it takes to move them to where they stand behind n nodes
--   spot_in w i, enc_in w l, stride_in w      the same for node i, a list and a node of the pool w, by its form and family
--   relinked w k i old new       the words with the roots right after set k, which begins at node i, went from old nodes to new ones
--   Relink w k old new           what it takes to write them
--   reindexed w k l              the words with the index of set k right, whose list is l
--   Settle w k i old new         what it takes to put the roots and the index right;  Settled: v is what that leaves of the words w, whatever list stands there
use Rattle.std.specs.Prelude.{◌≡◌, Bool, true, cond, List, [], ◌∷◌, ℕ, zero, suc, ◌+◌, ◌-◌, ◌*◌, ◌≤◌, ◌<◌, max, eqb, length, get_or, take, drop, Some, Result}
use Rattle.nets.specs.Bits.{Bits}
use Rattle.nets.specs.Refusals.{first_no}
use Rattle.nets.specs.Tries.{Trie, size}
use Rattle.nodes.specs.Words.{put, Has, place, enc}
use Rattle.pool_state.specs.Kept.{first, held_l, enc_l, stride_l, spot_l, index_l}
use Rattle.pool_state.specs.States.{State, admits}
use Rattle.pool_state.specs.Decode.{Decoded, damaged, sound, record_at, base, least_words, form_in, decode}
use Rattle.pool_state.specs.Rules.{verdict_as, found_of, tag_in}
use Rattle.pool_state.specs.Changes.{set_at, grant_rules}
use Rattle.pool_state.specs.declared.Survey.{Survey}
use Rattle.nets.specs.declared.Refusal.{Refusal}

abbrev pub Refuses : Decoded → ℕ → ℕ → Type 0
Refuses damaged k x = x ≡ 2
Refuses (sound S) k x = (length S.sets ≤ k) × (x ≡ 3)

pub record Surveyed (w : List ℕ) (k : ℕ) (v : Survey) : Type 0 where
  pub found : Some v ≡ found_of (decode w) k
  pub known : k < get_or w 2 0

abbrev pub survey_with : ℕ → Survey → ℕ → Survey
survey_with x v n = record { used = v.used - v.held + n; claimed = v.claimed - max x v.held + max x n; at = v.at; held = n }

pub record Judges (w : List ℕ) (k : ℕ) (c : Bool) (n : ℕ) (r : Result Unit Refusal) : Type 0 where
  pub verdict : (S : State) (l : List Bits) → decode w ≡ sound S → admits S.family (set_at S k) l ≡ c → held_l (set_at S k).form l ≡ n → verdict_as r ≡ first_no (grant_rules S k l)

abbrev pub spot_by : ℕ → ℕ → ℕ → ℕ
spot_by s b i = b + s * (i - 1)

unfoldable pub behind_at : ℕ → List ℕ → ℕ → Survey → List ℕ
behind_at s w b v = take (s * (v.used + 1 - (v.at + v.held))) (drop (spot_by s b (v.at + v.held)) w)

pub record Shiftable (s : ℕ) (w : List ℕ) (b : ℕ) (v : Survey) (n : ℕ) : Type 0 where
  pub first : 1 ≤ v.at
  pub last : v.at + v.held ≤ v.used + 1
  pub few : s ≤ 8
  pub long : b + 8 * v.used ≤ length w
  pub room : b + 8 * (v.used + n) ≤ length w + 8 * v.held

unfoldable pub stride_in : List ℕ → ℕ
stride_in w = stride_l (form_in w) (get_or w 1 0)

abbrev pub spot_in : List ℕ → ℕ → ℕ
spot_in w i = spot_l (form_in w) (get_or w 1 0) (base (get_or w 2 0)) i

abbrev pub enc_in : List ℕ → List Bits → List ℕ
enc_in w l = enc_l (form_in w) (get_or w 1 0) l

-- the root of the set that changed, and a root behind it
abbrev pub own_root : ℕ → ℕ → ℕ
own_root i new = cond (eqb new 0) 0 i

abbrev pub moved_root : ℕ → ℕ → ℕ → ℕ
moved_root old new r = cond (eqb r 0) 0 (r + new - old)

-- the roots of m sets from set s on
unfoldable pub moved_roots : List ℕ → ℕ → ℕ → ℕ → ℕ → List ℕ
moved_roots w old new zero s = w
moved_roots w old new (suc m) s = moved_roots (put w (record_at s) (moved_root old new (get_or w (record_at s) 0) ∷ [])) old new m (s + 1)

unfoldable pub relinked : List ℕ → ℕ → ℕ → ℕ → ℕ → List ℕ
relinked w k i old new = moved_roots (put w (record_at k) (own_root i new ∷ [])) old new (get_or w 2 0 - suc k) (k + 1)

-- a root can move; the records are there, and the roots behind set k can move
abbrev pub Movable : ℕ → ℕ → ℕ → Type 0
Movable old new r = (r ≡ 0 → ⊥) → (old ≤ r) × (r + new < 4294967296)

pub record Relink (w : List ℕ) (k old new : ℕ) : Type 0 where
  pub known : k < get_or w 2 0
  pub long : base (get_or w 2 0) ≤ length w
  pub roots : (s : ℕ) → k < s → s < get_or w 2 0 → Movable old new (get_or w (record_at s) 0)

-- where the index of set k stands, by its tag
abbrev pub index_in : List ℕ → ℕ → ℕ
index_in w k = least_words (get_or w 2 0) (get_or w 3 0) (tag_in w k - 1)

unfoldable pub reindexed : List ℕ → ℕ → List Bits → List ℕ
reindexed w k l = cond (eqb (tag_in w k) 0) w (put w (index_in w k) (index_l l))

-- so many nodes stand at node i, among those of the pool, and the index of set k has its words; where there is one, they are those of a trie in the first form
pub record Indexable (w : List ℕ) (k i new : ℕ) : Type 0 where
  pub known : k < get_or w 2 0
  pub sets : get_or w 2 0 ≤ 64
  pub nodes : get_or w 3 0 ≤ 4194304
  pub tagged : tag_in w k ≤ get_or w 4 0
  pub long : least_words (get_or w 2 0) (get_or w 3 0) (get_or w 4 0) ≤ length w
  pub one : 1 ≤ i
  pub within : i + new ≤ suc (get_or w 3 0)
  pub form : (tag_in w k ≡ 0 → ⊥) → form_in w ≡ first
  pub stands : (tag_in w k ≡ 0 → ⊥) → (t : Trie) × Has w (place (base (get_or w 2 0)) i) (enc t) × (size t ≡ new)

pub record Settle (w : List ℕ) (k i old new : ℕ) : Type 0 where
  pub relink : Relink w k old new
  pub index : Indexable w k i new

abbrev pub Reindexed : List ℕ → ℕ → ℕ → ℕ → List ℕ → Type 0
Reindexed w k i new v = (l : List Bits) → Has w (spot_in w i) (enc_in w l) → length (enc_in w l) ≡ stride_in w * new → v ≡ reindexed w k l

pub record Settled (w : List ℕ) (k i old new : ℕ) (v : List ℕ) : Type 0 where
  pub words : (l : List Bits) → Has w (spot_in w i) (enc_in w l) → length (enc_in w l) ≡ stride_in w * new → v ≡ reindexed (relinked w k i old new) k l
