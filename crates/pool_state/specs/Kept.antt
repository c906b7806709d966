-- How a pool keeps a list, in the first form or in the second: the nodes that it takes, its words, its index, and what arbitrary words are read as. All that is said of a pool in words
-- speaks of lists through these; that they are those of the list's trie is said here alone. The first form has a node for each different leading bit string of the members, the
-- second only for members and branch points.
--
--   held_l F l          the nodes of the list
--   enc_l F v l         its words, in a pool of the family v;  stride_l F v: so many a node
--   spot_l F v b i      where the words of node i begin, in words whose nodes begin at b
--   read_l F v w b n i  the list that the words w hold at node i, within n nodes, which stand from b on
--   end_l F i x         the number after what is read at node i, or 0
--   index_l l           the 256 words of its index by the first eight bits
use Rattle.std.specs.Prelude.{Bool, true, false, List, [], ◌≡◌, ℕ, zero, suc, ◌+◌, ◌-◌, ◌*◌, ◌≤◌, length}
use Rattle.nets.specs.Bits.{Bits}
use Rattle.nets.specs.Lists.{nodes_l}
use Rattle.nets.specs.Networks.{is_family, width}
use Rattle.nets.specs.Tries.{list_of, trie_of}
use Rattle.nodes.specs.Words.{enc}
use Rattle.nodes.specs.Parse.{Read, bad, ok, parse}
use Rattle.trie_index.specs.Index.{index_t}
use Rattle.branch_points.specs.BranchPoints.{kept_nodes_l}
use Rattle.kept_nodes.specs.Words.{stride, kept_enc}
use Rattle.kept_nodes.specs.Parse.{kept_parse}

pub data Form : Type 0 where
  first : Form
  second : Form

-- its number in words
abbrev pub form_no : Form → ℕ
form_no first = 0
form_no second = 1

abbrev pub form_of : ℕ → Form
form_of zero = first
form_of (suc x) = second

abbrev pub same_form : Form → Form → Bool
same_form first first = true
same_form first second = false
same_form second first = false
same_form second second = true

unfoldable pub held_l : Form → List Bits → ℕ
held_l first l = nodes_l l
held_l second l = kept_nodes_l l

unfoldable pub enc_l : Form → ℕ → List Bits → List ℕ
enc_l first v l = enc (trie_of l)
enc_l second v l = kept_enc v [] (trie_of l)

unfoldable pub stride_l : Form → ℕ → ℕ
stride_l first v = 1
stride_l second v = stride v

unfoldable pub spot_l : Form → ℕ → ℕ → ℕ → ℕ
spot_l F v b i = b + stride_l F v * (i - 1)

-- the words w have room for the nodes 1..n of the family v from b on, in either form
pub record RoomL (v : ℕ) (w : List ℕ) (b n : ℕ) : Type 0 where
  pub family : is_family v ≡ true
  pub low : b ≤ 576
  pub few : n ≤ 4194304
  pub long : b + 8 * n ≤ length w

unfoldable pub index_l : List Bits → List ℕ
index_l l = index_t (trie_of l)

pub data ReadList : Type 0 where
  bad_list : ReadList
  ok_list : List Bits → ReadList

abbrev pub list_read : Read → ReadList
list_read bad = bad_list
list_read (ok t) = ok_list (list_of t)

unfoldable pub read_l : Form → ℕ → List ℕ → ℕ → ℕ → ℕ → ReadList
read_l first v w b n i = list_read (parse w b n (suc (width v)) i)
read_l second v w b n i = list_read (kept_parse v w b n (suc (width v)) [] i)

unfoldable pub end_l : Form → ℕ → ReadList → ℕ
end_l F i bad_list = 0
end_l F i (ok_list l) = i + held_l F l
