-- A set operation by its number, and what it reads.
--
--   op_on op k t u            0 union, 1 what is common, 2 difference, 3 difference with full halves left apart, on tries of at most k levels
--   Means w b o g i t        the number i means the trie t: 0 nothing, `all` everything, else the trie that stands at node i, apart from the nodes from o up to g
use Rattle.std.specs.Prelude.{◌≡◌, Bool, true, false, not, ◌&&◌, ◌||◌, List, ℕ, zero, suc, ◌+◌, ◌*◌, ◌≤◌, ◌<◌, ◌^◌, eqb, length}
use Rattle.nets.specs.Tries.{Trie, none, node, leaf, size, levels}
use Rattle.nets.specs.TrieOps.{Kind, flat, mixed, kind_of, op_t}
use Rattle.nodes.specs.Words.{Has, place, enc}

unfoldable pub op_of : ℕ → Bool → Bool → Bool
op_of zero = ◌||◌
op_of (suc zero) = ◌&&◌
op_of (suc (suc n)) = λ x y. x && not y

abbrev pub joined : ℕ → Bool
joined op = not (eqb op 3)

abbrev pub op_on : ℕ → ℕ → Trie → Trie → Trie
op_on op k t u = op_t (joined op) (op_of op) k t u

-- the kinds as truth values: false, unknown, true
abbrev pub rank : Kind → ℕ
rank (flat false) = 0
rank mixed = 1
rank (flat true) = 2

abbrev pub all : ℕ
all = 4294967295

-- the trie t stands at node i, apart from the nodes from o up to g
pub record Here (w : List ℕ) (b o g i : ℕ) (t : Trie) : Type 0 where
  pub has : Has w (place b i) (enc t)
  pub one : 1 ≤ i
  pub few : i + size t ≤ 1073741824
  pub clear : (k : ℕ) → i ≤ k → k < i + size t → o ≤ k → k < g → ⊥

pub data Means (w : List ℕ) (b o g : ℕ) : ℕ → Trie → Type 0 where
  nothing : Means w b o g 0 none
  everything : Means w b o g all leaf
  standing : {i : ℕ} {l r : Trie} → Here w b o g i (node l r) → Means w b o g i (node l r)

-- a and c mean t and u, of at most fuel levels; few: a half of a result has less than 2 ^ 33 nodes, so no number of a node wraps
pub record Inputs (w : List ℕ) (b a c o g fuel : ℕ) (t u : Trie) : Type 0 where
  pub first : Means w b o g a t
  pub second : Means w b o g c u
  pub deep-t : levels t ≤ fuel
  pub deep-u : levels u ≤ fuel
  pub turn : 1 ≤ fuel
  pub few : o + 2 ^ 33 * fuel < 2 ^ 62

-- the nodes from o up to g are there for the trie x, if it is no single leaf
pub record Gap (w : List ℕ) (b o g : ℕ) (x : Trie) : Type 0 where
  pub one : 1 ≤ o
  pub fits : kind_of x ≡ mixed → o + size x ≤ g
  pub room : place b g ≤ length w
  pub low : g ≤ 1073741824
