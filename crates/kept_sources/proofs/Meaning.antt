-- What a number means below a string: its kind, and the numbers of its halves, which stand below one bit more. Assumes nothing.
use mathlib.Core.Path.{◌≡◌, refl, sym, ap, ◌∙◌}
use mathlib.Core.Bool.{Bool, true, false, beq as same}
use mathlib.Core.List.{List}
use mathlib.Core.Logic.{inl, inr, ⊎_elim}
use Prim.Native.Nat.{ℕ, ◌+◌, ◌/◌, ◌%◌, ◌≤◌, ◌<◌}
use native.Mathlib.Omega.{arith}
use lib.ListN.{length, get_or}
use Rattle.nets.specs.Bits.{Bits}
use Rattle.nets.specs.Tries.{Trie, none, node, side, fork}
use Rattle.nets.specs.TrieOps.{Kind, flat, mixed, kind_of, half}
use Rattle.nets.specs.Networks.{net_bits, width}
use Rattle.nets.specs.declared.Net.{Net}
use Rattle.nets.proofs.Strings.{same-is, same_refl}
use Rattle.nodes.proofs.Tries.{some}
use Rattle.trie_emit.specs.Combine.{rank, all}
use Rattle.trie_emit.proofs.Sources.{rank-none, rank-leaf}
use Rattle.trie_paths.specs.Spans.{snoc}
use Rattle.branch_points.specs.KeptTries.{kept_size}
use Rattle.branch_points.proofs.Sizes.{kept_size-some}
use Rattle.kept_nodes.specs.Parse.{KeptRoom, head_at, len_at, dist_at, net_at, string_at, KeptStands}
use Rattle.kept_nodes.proofs.Hung.{kept_size-fork}
use Rattle.kept_nodes.proofs.NodeWords.{len_is, dist-is}
use Rattle.kept_nodes.proofs.Parsed.{Split}
use Rattle.kept_nodes.proofs.Heads.{head-is, by_shape, bit-behind, edge-head, edge-len, head-short}
use Rattle.kept_reading.specs.NodeStrings.{IsString, ReadAs}
use Rattle.kept_reading.proofs.Found.{read-len, read-string}
use Rattle.kept_sources.specs.Sources.{KeptHere, KeptMeans, nothing, everything, standing}

fork-mixed : (c : Bool) (x y : Trie) → kind_of (fork c (node x y) none) ≡ mixed
fork-mixed false x y = refl
fork-mixed true x y = refl

module _ {f : ℕ} {w : List ℕ} {b n : ℕ} (p : Bits) {i : ℕ} (pos : 1 ≤ i) where
  leaf-test : (l r : Trie) → KeptStands f w b n p i (node l r) → head_at f w b i ≡ length p → 2 ≡ rank (kind_of (node l r))
  leaf-test l r s = by_shape (λ t. head_at f w b i ≡ length p → 2 ≡ rank (kind_of t)) pos (λ y e. refl)
      (λ x y z u d e. absurd (omega (arith, head-is d.root)))
      (λ c x y d e. absurd (omega (arith, edge-len p pos c d))) l r s

  inner-test : (l r : Trie) → KeptStands f w b n p i (node l r) → (head_at f w b i ≡ length p → ⊥) → 1 ≡ rank (kind_of (node l r))
  inner-test l r s = by_shape (λ t. (head_at f w b i ≡ length p → ⊥) → 1 ≡ rank (kind_of t)) pos (λ y e. absurd (e (head-is y ∙ omega arith)))
      (λ x y z u d e. refl) (λ c x y d e. rw (fork-mixed c x y)) l r s

-- What a number means.
module _ {f : ℕ} {w : List ℕ} {b n o g : ℕ} {p : Bits} where
  pub kind-none : (i : ℕ) (t : Trie) → KeptMeans f w b n o g p i t → i ≡ 0 → 0 ≡ rank (kind_of t)
  kind-none i t nothing e = refl
  kind-none i t everything e = absurd (omega arith)
  kind-none i t (standing h) e = absurd (omega (arith, h.one))

  pub kind-all : n ≤ 4194304 → (i : ℕ) (t : Trie) → KeptMeans f w b n o g p i t → i ≡ all → 2 ≡ rank (kind_of t)
  kind-all few i t nothing e = absurd (omega arith)
  kind-all few i t everything e = refl
  kind-all few i t (standing h) e = absurd (omega (arith, h.stands.within))

  by-node : (P : ℕ → Trie → Type 0) → ((i : ℕ) (l r : Trie) → KeptHere f w b n o g p i (node l r) → P i (node l r)) → (i : ℕ) (t : Trie)
      → KeptMeans f w b n o g p i t → (i ≡ 0 → ⊥) → (i ≡ all → ⊥) → P i t
  by-node P c i t nothing nz na = absurd (nz refl)
  by-node P c i t everything nz na = absurd (na refl)
  by-node P c i t (standing {i = j} {l = l} {r = r} h) nz na = c j l r h

  pub kind-place : (i : ℕ) (t : Trie) → KeptMeans f w b n o g p i t → (i ≡ 0 → ⊥) → (i ≡ all → ⊥) → (1 ≤ i) × (i ≤ n)
  kind-place = by-node (λ i t. (1 ≤ i) × (i ≤ n)) (λ i l r h. (h.one, omega (arith, h.stands.within, kept_size-some (node l r) (some l r))))

  pub kind-leaf : (i : ℕ) (t : Trie) → KeptMeans f w b n o g p i t → (i ≡ 0 → ⊥) → (i ≡ all → ⊥) → head_at f w b i ≡ length p → 2 ≡ rank (kind_of t)
  kind-leaf = by-node (λ i t. head_at f w b i ≡ length p → 2 ≡ rank (kind_of t)) (λ i l r h. leaf-test p h.one l r h.stands)

  pub kind-inner : (i : ℕ) (t : Trie) → KeptMeans f w b n o g p i t → (i ≡ 0 → ⊥) → (i ≡ all → ⊥) → (head_at f w b i ≡ length p → ⊥) → 1 ≡ rank (kind_of t)
  kind-inner = by-node (λ i t. (head_at f w b i ≡ length p → ⊥) → 1 ≡ rank (kind_of t)) (λ i l r h. inner-test p h.one l r h.stands)

-- The halves.
inside : {f : ℕ} {w : List ℕ} {b n o g i j : ℕ} {p q : Bits} {l r x y : Trie} → KeptHere f w b n o g p i (node l r) → KeptStands f w b n q j (node x y) → i ≤ j
    → j + kept_size (node x y) ≤ i + kept_size (node l r) → KeptMeans f w b n o g q j (node x y)
inside h s le fit = standing (record { stands = s; one = omega (arith, h.one); clear = ⊎_elim (λ q. inl (omega arith)) (λ q. inr (omega arith)) h.clear })

module _ {f : ℕ} {w : List ℕ} {b n o g : ℕ} (p : Bits) where
  branch-piece : (s : Bool) (i : ℕ) (x y z u : Trie) → KeptHere f w b n o g p i (node (node x y) (node z u)) → Split f w b n p i (node x y) (node z u)
      → KeptMeans f w b n o g (snoc p s) (i + side s (dist_at f w b i) 1) (side s (node x y) (node z u))
  unfolding kept_size
  branch-piece true i x y z u h d = inside h d.right (omega arith) (omega arith)
  branch-piece false i x y z u h d =
      let e : i + 1 + kept_size (node z u) ≡ i + (1 + kept_size (node z u)) = omega arith in
      rw (dist-is d.root, ← e) (inside h d.left (omega arith) (omega arith))

  -- the node's own string is p
  at_piece : (s : Bool) (i : ℕ) (l r : Trie) → KeptHere f w b n o g p i (node l r) → 1 ≡ rank (kind_of (node l r)) → len_at f w b i ≡ length p
      → KeptMeans f w b n o g (snoc p s) (i + side s (dist_at f w b i) 1) (half s (node l r))
  at_piece s i l r h = by_shape (λ t. KeptHere f w b n o g p i t → 1 ≡ rank (kind_of t) → len_at f w b i ≡ length p
      → KeptMeans f w b n o g (snoc p s) (i + side s (dist_at f w b i) 1) (half s t)) h.one
      (λ y n k e. absurd (omega arith)) (λ x y z u d n k e. branch-piece s i x y z u n d) (λ c x y d n k e. absurd (omega (arith, edge-len p h.one c d))) l r
      h.stands h

  -- p ends in the middle of the node's edge
  edge-piece : (s : Bool) (i : ℕ) (l r : Trie) → KeptHere f w b n o g p i (node l r) → 1 ≡ rank (kind_of (node l r)) → (len_at f w b i ≡ length p → ⊥)
      → (get_or (string_at f w b i) (length p) false ≡ s → KeptMeans f w b n o g (snoc p s) i (half s (node l r))) × ((get_or (string_at f w b i) (length p) false ≡ s → ⊥)
      → KeptMeans f w b n o g (snoc p s) 0 (half s (node l r)))
  edge-piece s i l r h = by_shape
      (λ t. KeptHere f w b n o g p i t → 1 ≡ rank (kind_of t) → (len_at f w b i ≡ length p → ⊥) → (get_or (string_at f w b i) (length p) false ≡ s
      → KeptMeans f w b n o g (snoc p s) i (half s t)) × ((get_or (string_at f w b i) (length p) false ≡ s → ⊥)
      → KeptMeans f w b n o g (snoc p s) 0 (half s t))) h.one
      (λ y n k e. absurd (omega arith)) (λ x y z u d n k e. absurd (e (len_is d.root))) (λ c x y d n k e. one c s i x y d n (bit-behind p c (string_at f w b i)
      (edge-head p h.one c d).begins)) l r h.stands h
    where
      one : (c s : Bool) (i : ℕ) (x y : Trie) → KeptStands f w b n (snoc p c) i (node x y) → KeptHere f w b n o g p i (fork c (node x y) none)
          → get_or (string_at f w b i) (length p) false ≡ c
          → (get_or (string_at f w b i) (length p) false ≡ s → KeptMeans f w b n o g (snoc p s) i (half s (fork c (node x y) none))) × ((get_or (string_at f w b i)
          (length p) false ≡ s → ⊥) → KeptMeans f w b n o g (snoc p s) 0 (half s (fork c (node x y) none)))
      one false false i x y d n e = ((λ q. inside n d (omega arith) (omega (arith, kept_size-fork false (node x y) (some x y)))), λ q. absurd (q e))
      one true true i x y d n e = ((λ q. inside n d (omega arith) (omega (arith, kept_size-fork true (node x y) (some x y)))), λ q. absurd (q e))
      one false true i x y d n e = ((λ q. let z : ◌≡◌ {A = ℕ} 0 1 = cc in absurd (omega arith)), λ q. nothing)
      one true false i x y d n e = ((λ q. let z : ◌≡◌ {A = ℕ} 0 1 = cc in absurd (omega arith)), λ q. nothing)

-- by the code's numbers
module _ {f : ℕ} {w : List ℕ} {b n o g : ℕ} {p : Bits} (s : Bool) (i : ℕ) (t : Trie) (m : KeptMeans f w b n o g p i t) (k : ℕ) (ek : k ≡ rank (kind_of t)) where
  pub piece-none : k ≡ 0 → KeptMeans f w b n o g (snoc p s) 0 (half s t)
  piece-none e = rw (rank-none t (sym ek ∙ e)) nothing

  pub piece-all : k ≡ 2 → KeptMeans f w b n o g (snoc p s) all (half s t)
  piece-all e = rw (rank-leaf t (sym ek ∙ e)) everything

  module _ (nz : k ≡ 0 → ⊥) (nf : k ≡ 2 → ⊥) where
    by-fork : (P : ℕ → Trie → Type 0) → ((i : ℕ) (l r : Trie) → KeptHere f w b n o g p i (node l r) → 1 ≡ rank (kind_of (node l r)) → P i (node l r)) → P i t
    by-fork P c = go i t m ek
      where
        one : (x : Kind) → k ≡ rank x → 1 ≡ rank x
        one (flat false) e = absurd (nz e)
        one (flat true) e = absurd (nf e)
        one mixed e = refl

        go : (i : ℕ) (t : Trie) → KeptMeans f w b n o g p i t → k ≡ rank (kind_of t) → P i t
        go i t nothing e = absurd (nz e)
        go i t everything e = absurd (nf e)
        go i t (standing {i = j} {l = l} {r = r} h) e = c j l r h (one (kind_of (node l r)) e)

    pub piece-place : (1 ≤ i) × (i ≤ n)
    piece-place = by-fork (λ i t. (1 ≤ i) × (i ≤ n)) (λ i l r h e. (h.one, omega (arith, h.stands.within, kept_size-some (node l r) (some l r))))

    piece-at : len_at f w b i ≡ length p → KeptMeans f w b n o g (snoc p s) (i + side s (dist_at f w b i) 1) (half s t)
    piece-at = by-fork (λ i t. len_at f w b i ≡ length p → KeptMeans f w b n o g (snoc p s) (i + side s (dist_at f w b i) 1) (half s t))
        (λ i l r h e. at_piece p s i l r h e)

    piece-edge : (len_at f w b i ≡ length p → ⊥)
        → (get_or (string_at f w b i) (length p) false ≡ s → KeptMeans f w b n o g (snoc p s) i (half s t)) × ((get_or (string_at f w b i) (length p) false ≡ s → ⊥)
        → KeptMeans f w b n o g (snoc p s) 0 (half s t))
    piece-edge = by-fork (λ i t. (len_at f w b i ≡ length p → ⊥)
        → (get_or (string_at f w b i) (length p) false ≡ s → KeptMeans f w b n o g (snoc p s) i (half s t)) × ((get_or (string_at f w b i) (length p) false ≡ s → ⊥)
        → KeptMeans f w b n o g (snoc p s) 0 (half s t)))
        (λ i l r h e. edge-piece p s i l r h e)

    edge-room : (len_at f w b i ≡ length p → ⊥) → (length p < len_at f w b i) × (len_at f w b i ≤ width f)
    edge-room = by-fork (λ i t. (len_at f w b i ≡ length p → ⊥) → (length p < len_at f w b i) × (len_at f w b i ≤ width f)) (λ i l r h e. go i l r h e)
      where
        go : (i : ℕ) (l r : Trie) → KeptHere f w b n o g p i (node l r) → 1 ≡ rank (kind_of (node l r)) → (len_at f w b i ≡ length p → ⊥)
            → (length p < len_at f w b i) × (len_at f w b i ≤ width f)
        go i l r h = by_shape (λ t. 1 ≡ rank (kind_of t) → (len_at f w b i ≡ length p → ⊥) → (length p < len_at f w b i) × (len_at f w b i ≤ width f)) h.one
            (λ y k e. absurd (omega arith)) (λ x y z u d k e. absurd (e (len_is d.root)))
            (λ c x y d k e. (edge-len p h.one c d, head-short f w b n (node x y) (snoc p c) i h.one (some x y) d)) l r h.stands

    -- the head x of node i is read, and p has d bits
    module _ (x d : ℕ) (ex : x ≡ head_at f w b i) (ed : length p ≡ d) where
      pub at-is : x % 256 ≡ d → (y : ℕ) → y ≡ side s (x / 256) 1 → KeptMeans f w b n o g (snoc p s) (i + y) (half s t)
      at-is e y ey = rw (ey, ex) (piece-at (rw (← ex) (e ∙ sym ed)))

      module _ (ne : x % 256 ≡ d → ⊥) where
        off-node : len_at f w b i ≡ length p → ⊥
        off-node q = ne (rw ex (q ∙ ed))

        -- and its string z
        module _ (room : KeptRoom f w b n) (z : Net) (gz : ReadAs f w b i z) where
          pub edge-string : IsString z × (d < z.len)
          edge-string = let r = edge-room off-node in (read-string room gz (omega (arith, read-len room gz, r.1)), omega (arith, read-len room gz, r.0))

          module _ (r : Bool) (er : r ≡ get_or (net_bits z) d false) where
            bit_is : r ≡ get_or (string_at f w b i) (length p) false
            unfolding string_at
            bit_is = er ∙ ap (λ q. get_or (net_bits q) d false) gz.is ∙ ap (λ q. get_or (net_bits (net_at f w b i)) q false) (sym ed)

            pub edge_on : same r s ≡ true → KeptMeans f w b n o g (snoc p s) i (half s t)
            edge_on e = (piece-edge off-node).0 (sym bit_is ∙ same-is r s e)

            pub edge-off : same r s ≡ false → KeptMeans f w b n o g (snoc p s) 0 (half s t)
            edge-off e = (piece-edge off-node).1 (λ q. unlike (rw (bit_is ∙ q) at e))
              where
                unlike : same s s ≡ false → ⊥
                unlike h = let k : ◌≡◌ {A = ℕ} 0 1 = cc (same_refl s) in omega arith
