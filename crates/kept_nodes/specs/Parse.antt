-- The trie that arbitrary words hold at a node number, in the second form.
use Rattle.std.specs.Prelude.{Bool, true, false, cond, ◌&&◌, ◌≡◌, List, [], ◌∷◌, ℕ, zero, suc, ◌+◌, ◌*◌, ◌/◌, ◌%◌, ◌^◌, ◌≤◌, ◌<◌, length, get_or, drop, leb, eqb}
use Rattle.nets.specs.Bits.{Bits, leads}
use Rattle.nets.specs.Tries.{Trie, none, node, leaf, fork, levels}
use Rattle.nets.specs.Networks.{is_family, width, net_words, net_bits}
use Rattle.nets.specs.declared.Net.{Net}
use Rattle.nodes.specs.Words.{Has}
use Rattle.nodes.specs.Parse.{Read, bad, ok, bind}
use Rattle.trie_paths.specs.Spans.{snoc}
use Rattle.branch_points.specs.KeptTries.{kept_size}
use Rattle.kept_nodes.specs.Words.{stride, node_words, kept_enc, spot}

-- the words hold the nodes 1..n of the family f from b on, and the numbers are small
pub record KeptRoom (f : ℕ) (w : List ℕ) (b n : ℕ) : Type 0 where
  pub family : is_family f ≡ true
  pub low : b ≤ 576
  pub few : n ≤ 4194304
  pub long : b + stride f * n ≤ length w

-- what the words of node i say: the length of its string, the distance to its first child, the two words of the address, the string
abbrev pub head_at : ℕ → List ℕ → ℕ → ℕ → ℕ
head_at f w b i = get_or w (spot f b i) 0

abbrev pub len_at : ℕ → List ℕ → ℕ → ℕ → ℕ
len_at f w b i = head_at f w b i % 256

abbrev pub dist_at : ℕ → List ℕ → ℕ → ℕ → ℕ
dist_at f w b i = head_at f w b i / 256

-- the number of the two words from p on
abbrev pub pair_at : List ℕ → ℕ → ℕ
pair_at w p = get_or w p 0 * 2 ^ 32 + get_or w (p + 1) 0

-- the network of the length n whose address words stand from p on
unfoldable pub net_found : ℕ → List ℕ → ℕ → ℕ → Net
net_found f w p n = cond (eqb f 4) (net_words f 0 (get_or w p 0) n) (net_words f (pair_at w p) (pair_at w (p + 2)) n)

abbrev pub net_at : ℕ → List ℕ → ℕ → ℕ → Net
net_at f w b i = net_found f w (spot f b i + 1) (len_at f w b i)

unfoldable pub string_at : ℕ → List ℕ → ℕ → ℕ → Bits
string_at f w b i = net_bits (net_at f w b i)

-- xs stands in w from p on, as a test
unfoldable pub matches : List ℕ → ℕ → List ℕ → Bool
matches w p [] = true
matches w p (x ∷ xs) = eqb (get_or w p 0) x && matches w (p + 1) xs

-- the words of node i are those of a string of the family
unfoldable pub is_node : ℕ → List ℕ → ℕ → ℕ → Bool
is_node f w b i = leb (len_at f w b i) (width f) && matches w (spot f b i) (node_words f (string_at f w b i) (dist_at f w b i))

-- node i is there, and its string begins with p
unfoldable pub fits : ℕ → List ℕ → ℕ → ℕ → Bits → ℕ → Bool
fits f w b n p i = leb i n && (is_node f w b i && leads p (string_at f w b i))

-- the trie t below the string q
abbrev pub hung : Bits → Trie → Trie
hung [] t = t
hung (c ∷ q) t = fork c (hung q t) none

abbrev pub lift : Bits → Read → Read
lift q bad = bad
lift q (ok t) = ok (hung q t)

-- the first child x, where the distance d says that it stands right behind the second
abbrev pub first : ℕ → Trie → Read → Read
first d r x = cond (eqb d (1 + kept_size r)) x bad

-- the trie that starts at node i, below the string p, with at most k kept nodes on a path and within n nodes
unfoldable pub kept_parse : ℕ → List ℕ → ℕ → ℕ → ℕ → Bits → ℕ → Read
kept_parse f w b n zero p i = bad
kept_parse f w b n (suc k) p i =
    cond (fits f w b n p i)
    (lift (drop (length p) (string_at f w b i))
    (cond (eqb (dist_at f w b i) 0) (ok leaf)
    (bind (kept_parse f w b n k (snoc (string_at f w b i) true) (i + 1))
    (λ r. bind (first (dist_at f w b i) r (kept_parse f w b n k (snoc (string_at f w b i) false) (i + 1 + kept_size r))) (λ l. ok (node l r))))))
    bad

-- the number after the trie that starts at node i, or 0
unfoldable pub kept_after : ℕ → Read → ℕ
kept_after i bad = 0
kept_after i (ok t) = i + kept_size t

-- the words hold the trie t at node i, below the string p, within n nodes
pub record KeptStands (f : ℕ) (w : List ℕ) (b n : ℕ) (p : Bits) (i : ℕ) (t : Trie) : Type 0 where
  pub deep : length p + levels t ≤ suc (width f)
  pub within : i + kept_size t ≤ suc n
  pub has : Has w (spot f b i) (kept_enc f p t)

-- the address words from p on are of 32 bits: one in family 4, four in the other
pub record Halved (w : List ℕ) (p : ℕ) : Type 0 where
  pub one : get_or w p 0 < 2 ^ 32
  pub two : get_or w (p + 1) 0 < 2 ^ 32
  pub three : get_or w (p + 2) 0 < 2 ^ 32
  pub four : get_or w (p + 3) 0 < 2 ^ 32

pub record Small (f : ℕ) (w : List ℕ) (p : ℕ) : Type 0 where
  pub short : f ≡ 4 → get_or w p 0 < 2 ^ 32
  pub long : (f ≡ 4 → ⊥) → Halved w p
