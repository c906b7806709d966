-- Words and states. Words 0 to 5 of a pool are a mark, the family, the sets, the nodes, how many sets are indexed, and the form. The record of set s stands at 64 + 8 s: the number of its
-- root (0: the list is empty), its share, its limit, 1 where it is public-only, else 0, and its tag: 0, or where it is indexed one more than how many indexed sets stand before it.
-- The nodes stand from 64 + 8 sets on, each in one word in the first form, in two or five in the second: the lists of the sets one behind the other. Behind the words for them stand the
-- indexes, 256 words each.
--
--   over_sets w S, over_indexes w m s j xs     the words w with the header, records and lists of S written over them; with tags and indexes, from set s and index j on, the first at m
--   over w S                                 both
--   read_pool w, are_indexes w m s j xs        the state that header, records and lists hold, or damaged; the tags and indexes are those of the sets
--   decode w                                 the state that the words hold, or damaged
use Rattle.std.specs.Prelude.{Bool, not, cond, ◌&&◌, List, [], ◌∷◌, ◌++◌, ℕ, zero, suc, ◌+◌, ◌*◌, eqb, leb, length, get_or}
use Rattle.nets.specs.Bits.{Bits, digit}
use Rattle.nets.specs.Networks.{is_family}
use Rattle.nodes.specs.Words.{put}
use Rattle.trie_index.specs.Index.{is_at}
use Rattle.pool_state.specs.Kept.{Form, form_no, form_of, held_l, enc_l, index_l, ReadList, bad_list, ok_list, read_l}
use Rattle.pool_state.specs.States.{SetState, State, held, claimed, indexed_of, keeps_rules, is_size}

abbrev pub mark : ℕ
mark = 1296126540

abbrev pub record_at : ℕ → ℕ
record_at s = 64 + 8 * s

-- where the nodes begin, and the words that a pool needs: the index of an indexed set begins where those of a pool with the indexed sets before it alone end
abbrev pub base : ℕ → ℕ
base sets = 64 + 8 * sets

abbrev pub least_words : ℕ → ℕ → ℕ → ℕ
least_words sets nodes indexed = 64 + 8 * sets + 8 * nodes + 256 * indexed

-- the number of the root of a list that stands at node i
abbrev pub root_at : ℕ → List Bits → ℕ
root_at i [] = 0
root_at i (p ∷ l) = i

-- the records from set s on, the first of them with its nodes from number i on
unfoldable pub over_records : List ℕ → ℕ → ℕ → List SetState → List ℕ
over_records w s i [] = w
over_records w s i (x ∷ xs) = over_records (put w (record_at s) (root_at i x.list ∷ x.share ∷ x.limit ∷ digit x.public ∷ [])) (s + 1) (i + held x) xs

unfoldable pub node_words : ℕ → List SetState → List ℕ
node_words v [] = []
node_words v (x ∷ xs) = enc_l x.form v x.list ++ node_words v xs

unfoldable pub over_sets : List ℕ → State → List ℕ
over_sets w S =
    put (over_records (put (put w 0 (mark ∷ S.family ∷ length S.sets ∷ S.nodes ∷ [])) 5 (form_no S.form ∷ [])) 0 1 S.sets) (base (length S.sets)) (node_words S.family S.sets)

-- the tag of a set with j indexed sets before it, and the words of its index
abbrev pub tag_of : Bool → ℕ → ℕ
tag_of c j = cond c (suc j) 0

abbrev pub index_words : SetState → List ℕ
index_words x = cond x.indexed (index_l x.list) []

unfoldable pub over_indexes : List ℕ → ℕ → ℕ → ℕ → List SetState → List ℕ
over_indexes w m s j [] = put w 4 (j ∷ [])
over_indexes w m s j (x ∷ xs) =
    over_indexes (put (put w (record_at s + 4) (tag_of x.indexed j ∷ [])) (m + 256 * j) (index_words x)) m (s + 1) (j + digit x.indexed) xs

-- the smallest buffer of a state, and where its indexes begin
abbrev pub least_of : State → ℕ
least_of S = least_words (length S.sets) S.nodes (indexed_of S.sets)

abbrev pub indexes_at : State → ℕ
indexes_at S = least_words (length S.sets) S.nodes 0

unfoldable pub over : List ℕ → State → List ℕ
over w S = over_indexes (over_sets w S) (indexes_at S) 0 0 S.sets

pub data Decoded : Type 0 where
  damaged : Decoded
  sound : State → Decoded

pub data ReadSets : Type 0 where
  bad_sets : ReadSets
  ok_sets : List SetState → ReadSets

-- the form of a pool, and whether a word is that of a form
abbrev pub form_in : List ℕ → Form
form_in w = form_of (get_or w 5 0)

unfoldable pub is_form : ℕ → Bool
is_form x = eqb x (form_no (form_of x))

unfoldable pub is_header : List ℕ → Bool
is_header w =
    (eqb (get_or w 0 0) mark && (is_family (get_or w 1 0) && is_form (get_or w 5 0)))
    && (is_size (get_or w 2 0) (get_or w 3 0) && (leb (get_or w 4 0) (get_or w 2 0) && leb (least_words (get_or w 2 0) (get_or w 3 0) (get_or w 4 0)) (length w)))

-- the list of set s, of the family v, where the next number that is not placed is i, and the nodes of a set begin there or nowhere
unfoldable pub read_set : List ℕ → ℕ → ℕ → ℕ → ℕ → ℕ → ReadList
read_set w b n v s i = cond (eqb (get_or w (record_at s) 0) 0) (ok_list []) (cond (eqb (get_or w (record_at s) 0) i) (read_l (form_in w) v w b n i) bad_list)

abbrev pub set_of : List ℕ → ℕ → List Bits → SetState
set_of w s l =
    record {
      share = get_or w (record_at s + 1) 0;
      limit = get_or w (record_at s + 2) 0;
      public = eqb (get_or w (record_at s + 3) 0) 1;
      indexed = not (eqb (get_or w (record_at s + 4) 0) 0);
      form = form_in w;
      list = l;
    }

-- the word that says whether it is public-only is one of the two, and the set is within its rules
abbrev pub is_right : List ℕ → ℕ → ℕ → List Bits → Bool
is_right w f s l = leb (get_or w (record_at s + 3) 0) 1 && keeps_rules f (set_of w s l)

-- the set before the others, where c says that it is right
abbrev pub set_before : Bool → SetState → ReadSets → ReadSets
set_before c x bad_sets = bad_sets
set_before c x (ok_sets xs) = cond c (ok_sets (x ∷ xs)) bad_sets

-- m sets of the family f, from set s and number i on
unfoldable pub read_sets : List ℕ → ℕ → ℕ → ℕ → ℕ → ℕ → ℕ → ReadSets
read_sets w b n f zero s i = ok_sets []
read_sets w b n f (suc m) s i =
    elim (read_set w b n f s i) [
      | bad_list ↦ bad_sets
      | ok_list l ↦ set_before (is_right w f s l) (set_of w s l) (read_sets w b n f m (s + 1) (i + held_l (form_in w) l))
    ]

abbrev pub judged : List ℕ → ReadSets → Decoded
judged w bad_sets = damaged
judged w (ok_sets xs) = cond (leb (claimed xs) (get_or w 3 0)) (sound (record { family = get_or w 1 0; form = form_in w; nodes = get_or w 3 0; sets = xs })) damaged

unfoldable pub read_pool : List ℕ → Decoded
read_pool w = cond (is_header w) (judged w (read_sets w (base (get_or w 2 0)) (get_or w 3 0) (get_or w 1 0) (get_or w 2 0) 0 1)) damaged

unfoldable pub are_indexes : List ℕ → ℕ → ℕ → ℕ → List SetState → Bool
are_indexes w m s j [] = eqb (get_or w 4 0) j
are_indexes w m s j (x ∷ xs) =
    (eqb (get_or w (record_at s + 4) 0) (tag_of x.indexed j) && is_at w (m + 256 * j) (index_words x)) && are_indexes w m (s + 1) (j + digit x.indexed) xs

abbrev pub where_indexed : List ℕ → Decoded → Decoded
where_indexed w damaged = damaged
where_indexed w (sound S) = cond (are_indexes w (indexes_at S) 0 0 S.sets) (sound S) damaged

unfoldable pub decode : List ℕ → Decoded
decode w = where_indexed w (read_pool w)
