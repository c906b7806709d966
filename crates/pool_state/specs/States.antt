-- The state of a pool: its family, its form, its nodes, and for each set its share, its limit, whether it is public-only, whether it is indexed, the form in which its list is kept, and
-- the list.
--
--   held s            the nodes of a set's list, in its form
--   claim s           the larger of share and held nodes; used, claimed: the sums over sets of held nodes and of claims
--   indexed_of ss      how many sets are indexed
--   free_of S          the pool's nodes less the nodes of all lists
--   room_of S k        the pool's nodes less, for every other set than k, its claim
--   admits f s l      the set s of a pool of the family f may have the list l, as far as its mark goes: a public-only set keeps clear of the inner networks
--   is_state S         the rules: a family, 1 to 64 sets, 1 to 4,194,304 nodes, each list kept in the pool's form, a list of the family's width within its
--                     limit, an indexed one in the first form, each share at most its limit, each public-only set clear of the inner networks, the claims at most the nodes
use Rattle.std.specs.Prelude.{Bool, true, not, ◌&&◌, ◌||◌, List, [], ◌∷◌, ℕ, zero, suc, ◌+◌, ◌-◌, max, leb, length}
use Rattle.nets.specs.Bits.{Bits, digit}
use Rattle.nets.specs.Lists.{is_list}
use Rattle.nets.specs.Networks.{is_family, width}
use Rattle.inner_nets.specs.Inner.{is_public}
use Rattle.pool_state.specs.Kept.{Form, first, same_form, held_l}

pub record SetState : Type 0 where
  pub share : ℕ
  pub limit : ℕ
  pub public : Bool
  pub indexed : Bool
  pub form : Form
  pub list : List Bits

pub record State : Type 0 where
  pub family : ℕ
  pub form : Form
  pub nodes : ℕ
  pub sets : List SetState

abbrev pub held : SetState → ℕ
held s = held_l s.form s.list

abbrev pub claim : SetState → ℕ
claim s = max s.share (held s)

unfoldable pub used : List SetState → ℕ
used [] = 0
used (s ∷ ss) = held s + used ss

unfoldable pub claimed : List SetState → ℕ
claimed [] = 0
claimed (s ∷ ss) = claim s + claimed ss

unfoldable pub indexed_of : List SetState → ℕ
indexed_of [] = 0
indexed_of (s ∷ ss) = digit s.indexed + indexed_of ss

-- the claims of all sets but the one with the number k
unfoldable pub claimed_but : ℕ → List SetState → ℕ
claimed_but k [] = 0
claimed_but zero (s ∷ ss) = claimed ss
claimed_but (suc k) (s ∷ ss) = claim s + claimed_but k ss

abbrev pub free_of : State → ℕ
free_of S = S.nodes - used S.sets

abbrev pub room_of : State → ℕ → ℕ
room_of S k = S.nodes - claimed_but k S.sets

abbrev pub admits : ℕ → SetState → List Bits → Bool
admits f s l = not s.public || is_public f l

-- an indexed set is kept in the first form
abbrev pub indexable : SetState → Bool
indexable s = same_form s.form first || not s.indexed

-- the rules of one set in a pool of the family f: those beside its list's own, and all
abbrev pub keeps_rules : ℕ → SetState → Bool
keeps_rules f s = indexable s && (leb s.share s.limit && (leb (held s) s.limit && admits f s s.list))

abbrev pub is_set : ℕ → SetState → Bool
is_set f s = is_list (width f) s.list && keeps_rules f s

abbrev pub are_sets : Form → ℕ → List SetState → Bool
are_sets F f [] = true
are_sets F f (s ∷ ss) = (same_form s.form F && is_set f s) && are_sets F f ss

-- how many sets and nodes there may be
abbrev pub is_size : ℕ → ℕ → Bool
is_size sets nodes = (leb 1 sets && leb sets 64) && (leb 1 nodes && leb nodes 4194304)

unfoldable pub is_state : State → Bool
is_state S =
    (is_family S.family && is_size (length S.sets) S.nodes)
    && (are_sets S.form S.family S.sets && leb (claimed S.sets) S.nodes)
