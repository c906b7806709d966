-- The trie of networks that come one by one in address order, written in preorder: it grows at its right end.
--
--   word_from n k      the bits of a network's address from bit k on, as far as the word goes that has it: bit k is the highest of 64
--   Along p v d n e   the path v has the node numbers of p above depth d, and those from e on from depth d down to depth n
--   Chains, Chained   what writing the nodes of a network's path from depth d on asks: room from node e on, and in the path p for their numbers; and what it leaves
--   Appends, Appended what putting a network behind those that end at node e asks: p is the path to the last one, and the node where the head leaves it is known; and what it leaves
--   Due w b o h x f c t    the cursors c of the file x are at the networks of the trie t, the head is the first of them, and there is room for t from node o on
--   Fillable w b o d f l   what writing the trie of a file's list asks
use Rattle.std.specs.Prelude.{◌≡◌, false, cond, List, [], ◌∷◌, ℕ, suc, ◌+◌, ◌-◌, ◌*◌, ◌%◌, ◌^◌, ◌≤◌, ◌<◌, ltb, length, get_or, drop}
use Rattle.nets.specs.Bits.{Bits}
use Rattle.nets.specs.Lists.{nodes_l}
use Rattle.nets.specs.Tries.{Trie, is_none, size, levels}
use Rattle.nets.specs.Networks.{width, net_bits}
use Rattle.nets.specs.declared.Net.{Net}
use Rattle.nodes.specs.Words.{put, place, enc, chain}
use Rattle.address_order.specs.Streams.{flat}
use Rattle.setfile_format.specs.Files.{file, read_file}
use Rattle.setfile_order.specs.Flow.{head_as, Flow}
use Rattle.setfile_order.specs.declared.Head.{Head}

unfoldable pub word_from : Net → ℕ → ℕ
word_from n k = cond (ltb (width n.family - 1 - k) 64) (n.lo * 2 ^ (63 - (width n.family - 1 - k)) % 2 ^ 64) (n.hi * 2 ^ (127 - (width n.family - 1 - k)) % 2 ^ 64)

pub record Chains (w : List ℕ) (b e : ℕ) (n : Net) (d : ℕ) (p : List ℕ) : Type 0 where
  pub one : 1 ≤ e
  pub few : e ≤ 1073741824
  pub from : d ≤ n.len
  pub short : n.len ≤ width n.family
  pub room : place b e + (n.len - d) < length w
  pub wide : length p ≡ 129

pub record Along (p v : List ℕ) (d n e : ℕ) : Type 0 where
  pub wide : length v ≡ length p
  pub old : (k : ℕ) → k < d → get_or v k 0 ≡ get_or p k 0
  pub new : (k : ℕ) → d ≤ k → k ≤ n → get_or v k 0 ≡ e + (k - d)

pub record Chained (w v : List ℕ) (b e : ℕ) (n : Net) (d : ℕ) (p z : List ℕ) : Type 0 where
  pub wrote : v ≡ put w (place b e) (enc (chain (drop d (net_bits n))))
  pub along : Along p z d n.len e

-- the node of depth d - 1 gets its second child at e
pub record Appends (w : List ℕ) (b e : ℕ) (h : Head) (p : List ℕ) : Type 0 where
  pub deep : 1 ≤ h.deep
  pub one : 1 ≤ get_or p (h.deep - 1) 0
  pub before : get_or p (h.deep - 1) 0 ≤ e
  pub chains : Chains w b e h.net h.deep p

pub record Appended (w v : List ℕ) (b e : ℕ) (h : Head) (p z : List ℕ) : Type 0 where
  pub wrote : v ≡ put (put w (place b (get_or p (h.deep - 1) 0)) ((1 + 2 * (e - get_or p (h.deep - 1) 0)) ∷ [])) (place b e) (enc (chain (drop h.deep (net_bits h.net))))
  pub along : Along p z h.deep h.net.len e

pub record Due (w : List ℕ) (b o : ℕ) (h : Head) (x : List ℕ) (f : ℕ) (c : List ℕ) (t : Trie) : Type 0 where
  pub some : is_none t ≡ false
  pub deep : levels t ≤ suc (width f)
  pub flow : Flow x f c (flat t)
  pub head : h ≡ head_as f [] (flat t)
  pub one : 1 ≤ o
  pub few : o + size t ≤ 1073741824
  pub room : place b o + size t ≤ length w

-- the bytes are the file of the list l, and there is room for its trie from node o on
pub record Fillable (w : List ℕ) (b o : ℕ) (d : List ℕ) (f : ℕ) (l : List Bits) : Type 0 where
  pub reads : read_file d ≡ file f l
  pub one : 1 ≤ o
  pub few : o + nodes_l l ≤ 1073741824
  pub room : place b o + nodes_l l ≤ length w
