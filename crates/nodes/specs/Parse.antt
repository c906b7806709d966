-- The trie that arbitrary words hold at a node number.
use Rattle.std.specs.Prelude.{cond, List, ℕ, zero, suc, ◌+◌, ◌/◌, ◌%◌, ◌≤◌, length, leb, eqb}
use Rattle.nets.specs.Tries.{Trie, none, node, size, levels}
use Rattle.nodes.specs.Words.{Has, place, word_at, enc}

-- the words hold the nodes 1..n from b on, and the numbers are small
pub record Room (w : List ℕ) (b n : ℕ) : Type 0 where
  pub low : b ≤ 576
  pub few : n ≤ 4194304
  pub long : b + n ≤ length w

pub data Read : Type 0 where
  bad : Read
  ok : Trie → Read

abbrev pub bind : Read → (Trie → Read) → Read
bind bad k = bad
bind (ok t) k = k t

-- the children by the word x, where p is what stands where the child has to: the first follows at once, the second behind the first
abbrev pub first : ℕ → Read → Read
first x p = cond (eqb (x % 2) 0) (ok none) p

abbrev pub second : ℕ → Trie → Read → Read
second x l p = cond (eqb (x / 2) 0) (ok none) (cond (eqb (x / 2) (1 + size l)) p bad)

-- the trie that starts at node i, with at most f levels and within n nodes
unfoldable pub parse : List ℕ → ℕ → ℕ → ℕ → ℕ → Read
parse w b n zero i = bad
parse w b n (suc f) i =
    cond (leb i n)
    (bind (first (word_at w b i) (parse w b n f (i + 1)))
    (λ l. bind (second (word_at w b i) l (parse w b n f (i + 1 + size l))) (λ r. ok (node l r))))
    bad

-- the number after the trie that starts at node i, or 0
unfoldable pub after : ℕ → Read → ℕ
after i bad = 0
after i (ok t) = i + size t

-- the words hold the trie t at node i, within n nodes, and t has at most f levels
pub record Stands (w : List ℕ) (b n f i : ℕ) (t : Trie) : Type 0 where
  pub deep : levels t ≤ f
  pub within : i + size t ≤ suc n
  pub has : Has w (place b i) (enc t)
