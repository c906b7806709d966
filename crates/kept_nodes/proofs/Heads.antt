-- The first node of a trie that stands below a string, and what it says of the trie: that it is a leaf, a branch point, or goes on with one bit only. Assumes nothing.
use mathlib.Core.Bool.{Bool, true, false, beq as same}
use mathlib.Core.List.{List, [], ◌∷◌}
use mathlib.Core.Path.{◌≡◌, refl, sym}
use Prim.Native.Nat.{ℕ, ◌+◌, ◌*◌, ◌≤◌, ◌<◌}
use native.Mathlib.Omega.{arith}
use lib.ListN.{length, get_or}
use Rattle.nets.specs.Bits.{Bits, leads}
use Rattle.nets.specs.Networks.{width}
use Rattle.nets.specs.Tries.{Trie, none, node, leaf, fork, levels}
use Rattle.nets.proofs.Strings.{leads-refl, leads-length, same-is, and_left, and_right}
use Rattle.nodes.proofs.Tries.{some}
use Rattle.trie_paths.specs.Spans.{snoc}
use Rattle.trie_paths.proofs.Paths.{length-snoc}
use Rattle.branch_points.specs.KeptTries.{kept_size}
use Rattle.branch_points.proofs.Members.{leads-snoc}
use Rattle.branch_points.proofs.Sizes.{kept_size-some}
use Rattle.kept_nodes.specs.Parse.{head_at, len_at, dist_at, string_at, KeptStands}
use Rattle.kept_nodes.proofs.NodeWords.{Says, len_is, dist-is, string-is}
use Rattle.kept_nodes.proofs.Parsed.{Split, leaf-says, branch-split, fork-stands}

-- its numbers are nodes', and its string begins with p.
pub record Head (f : ℕ) (w : List ℕ) (b n : ℕ) (p : Bits) (i : ℕ) : Type 0 where
  pub near : i + dist_at f w b i ≤ n
  pub begins : leads p (string_at f w b i) ≡ true
  pub len : len_at f w b i ≡ length (string_at f w b i)

module _ (f : ℕ) (w : List ℕ) (b n : ℕ) where
  says-head : {p : Bits} {i d : ℕ} → i + d ≤ n → Says f w b i p d → Head f w b n p i
  says-head {p} {i} {d} le s = record { near = rw (dist-is s) le; begins = rw (string-is s) (leads-refl p); len = rw (string-is s) (len_is s) }

  pub head_of : (t : Trie) (p : Bits) (i : ℕ) → 1 ≤ i → (t ≡ none → ⊥) → KeptStands f w b n p i t → Head f w b n p i
  unfolding kept_size
  head_of none p i pos ne s = absurd (ne refl)
  head_of (node none none) p i pos ne s = says-head (omega (arith, s.within)) (leaf-says pos s)
  head_of (node none (node x y)) p i pos ne s =
      let h = head_of (node x y) (snoc p true) i pos (some x y) (fork-stands pos true (node x y) (some x y) s) in
      record { near = h.near; begins = leads-snoc p true (string_at f w b i) h.begins; len = h.len }
  head_of (node (node x y) none) p i pos ne s =
      let h = head_of (node x y) (snoc p false) i pos (some x y) (fork-stands pos false (node x y) (some x y) s) in
      record { near = h.near; begins = leads-snoc p false (string_at f w b i) h.begins; len = h.len }
  head_of (node (node x y) (node z u)) p i pos ne s =
      let d = branch-split pos s in
      says-head (omega (arith, d.left.within, kept_size-some (node x y) (some x y))) d.root

  pub head-short : (t : Trie) (p : Bits) (i : ℕ) → 1 ≤ i → (t ≡ none → ⊥) → KeptStands f w b n p i t → len_at f w b i ≤ width f
  unfolding levels
  head-short none p i pos ne s = absurd (ne refl)
  head-short (node none none) p i pos ne s = omega (arith, len_is (leaf-says pos s), s.deep)
  head-short (node none (node x y)) p i pos ne s = head-short (node x y) (snoc p true) i pos (some x y) (fork-stands pos true (node x y) (some x y) s)
  head-short (node (node x y) none) p i pos ne s = head-short (node x y) (snoc p false) i pos (some x y) (fork-stands pos false (node x y) (some x y) s)
  head-short (node (node x y) (node z u)) p i pos ne s = omega (arith, len_is (branch-split pos s).root, s.deep)

-- the head of a node by what it says
pub head-is : {f : ℕ} {w : List ℕ} {b i d : ℕ} {s : Bits} → Says f w b i s d → head_at f w b i ≡ length s + 256 * d
head-is h = omega (arith, len_is h, dist-is h)

-- A trie below p is a leaf, a branch point, or one that goes on with one bit only.
pub by_shape : {f : ℕ} {w : List ℕ} {b n : ℕ} {p : Bits} {i : ℕ} (P : Trie → Type 0) → 1 ≤ i
    → (Says f w b i p 0 → P leaf)
    → ((x y z u : Trie) → Split f w b n p i (node x y) (node z u) → P (node (node x y) (node z u)))
    → ((c : Bool) (x y : Trie) → KeptStands f w b n (snoc p c) i (node x y) → P (fork c (node x y) none))
    → (l r : Trie) → KeptStands f w b n p i (node l r) → P (node l r)
by_shape P pos lf br ed none none s = lf (leaf-says pos s)
by_shape P pos lf br ed none (node x y) s = ed true x y (fork-stands pos true (node x y) (some x y) s)
by_shape P pos lf br ed (node x y) none s = ed false x y (fork-stands pos false (node x y) (some x y) s)
by_shape P pos lf br ed (node x y) (node z u) s = br x y z u (branch-split pos s)

-- the bit behind p in a string that begins with p and that bit
pub bit-behind : (p : Bits) (c : Bool) (s : Bits) → leads (snoc p c) s ≡ true → get_or s (length p) false ≡ c
bit-behind [] c [] e = let z : ◌≡◌ {A = ℕ} 0 1 = cc in absurd (omega arith)
bit-behind [] c (d ∷ s) e = sym (same-is c d (and_left (same c d) true e))
bit-behind (a ∷ p) c [] e = let z : ◌≡◌ {A = ℕ} 0 1 = cc in absurd (omega arith)
bit-behind (a ∷ p) c (d ∷ s) e = bit-behind p c s (and_right (same a d) (leads (snoc p c) s) e)

-- a trie that goes on with one bit only
module _ {f : ℕ} {w : List ℕ} {b n : ℕ} (p : Bits) {i : ℕ} (pos : 1 ≤ i) where
  pub edge-head : (c : Bool) {x y : Trie} → KeptStands f w b n (snoc p c) i (node x y) → Head f w b n (snoc p c) i
  edge-head c {x} {y} s = head_of f w b n (node x y) (snoc p c) i pos (some x y) s

  pub edge-len : (c : Bool) {x y : Trie} → KeptStands f w b n (snoc p c) i (node x y) → length p < len_at f w b i
  edge-len c s = let h = edge-head c s in omega (arith, h.len, leads-length (snoc p c) (string_at f w b i) h.begins, length-snoc p c)
