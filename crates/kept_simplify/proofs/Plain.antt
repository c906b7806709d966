-- A trie in which no branch point is one over two members with one bit more is simplified as it stands. Assumes nothing.
use mathlib.Core.Bool.{true, false, false≢true}
use mathlib.Core.List.{List}
use mathlib.Core.Path.{◌≡◌, refl, sym, ap, ◌∙◌}
use Prim.Native.Nat.{ℕ, ◌+◌, ◌/◌, ◌%◌, ◌≤◌}
use native.Mathlib.Omega.{arith}
use borrow.Author.Tests.{eq-eqb, ne_eqb}
use lib.Dec.{eqb}
use lib.ListN.{length}
use Rattle.nets.specs.Bits.{Bits}
use Rattle.nets.specs.Tries.{Trie, none, node, leaf, glue, simplify_t}
use Rattle.nets.proofs.Strings.{and_both}
use Rattle.nodes.specs.Words.{put}
use Rattle.nodes.proofs.Put.{get_or-put-behind}
use Rattle.nodes.proofs.Tries.{some}
use Rattle.trie_emit.proofs.Answers.{by-glue}
use Rattle.trie_paths.specs.Spans.{snoc}
use Rattle.trie_paths.proofs.Paths.{length-snoc}
use Rattle.branch_points.specs.KeptTries.{kept_size}
use Rattle.branch_points.proofs.Sizes.{kept_size-leaf, kept_size-some}
use Rattle.kept_nodes.specs.Words.{spot}
use Rattle.kept_nodes.specs.Parse.{KeptStands, head_at, len_at, dist_at}
use Rattle.kept_nodes.proofs.Places.{spot-le}
use Rattle.kept_nodes.proofs.Hung.{kept_size-fork}
use Rattle.kept_nodes.proofs.NodeWords.{len_is, dist-is}
use Rattle.kept_nodes.proofs.Heads.{head-is}
use Rattle.kept_nodes.proofs.Parsed.{Split, leaf-says, branch-split, fork-stands}
use Rattle.kept_simplify.specs.Joins.{is_join, Apart}
use Rattle.kept_simplify.proofs.Tops.{simplify-edge}

-- The test by the heads that are read: x, y and z.
module _ (f : ℕ) (w : List ℕ) (b j : ℕ) {x : ℕ} (ex : x ≡ head_at f w b j) where
  pub join-far : (x / 256 ≡ 2 → ⊥) → false ≡ is_join f w b j
  unfolding is_join
  join-far ne = rw (ne_eqb (dist_at f w b j) 2 (λ e. ne (rw ex e)))

  module _ (near : x / 256 ≡ 2) where
    pub join-second : {y : ℕ} → y ≡ head_at f w b (j + 1) → (y ≡ x % 256 + 1 → ⊥) → false ≡ is_join f w b j
    unfolding is_join
    join-second ey ne = rw (eq-eqb (dist_at f w b j) 2 (rw (← ex) near), ne_eqb (head_at f w b (j + 1)) (len_at f w b j + 1) (λ e. ne (rw (ey, ex) e)))

    pub join_first : {y z : ℕ} → y ≡ head_at f w b (j + 1) → y ≡ x % 256 + 1 → z ≡ head_at f w b (j + 2) → eqb z (x % 256 + 1) ≡ is_join f w b j
    unfolding is_join
    join_first ey e ez = rw (eq-eqb (dist_at f w b j) 2 (rw (← ex) near), eq-eqb (head_at f w b (j + 1)) (len_at f w b j + 1) (rw (← ey, ← ex) e), ez, ex)

-- What is known of some nodes: of fewer, and where words are written before them.
pub apart-within : {f : ℕ} {w : List ℕ} {b k e r k' e' r' : ℕ} → Apart f w b k e r → k ≤ k' → e' ≤ e → (r' ≤ r) → Apart f w b k' e' r'
apart-within a le end up = record { no = λ j l t fit. a.no j (omega arith) (omega arith) (omega arith) }

pub apart-put : {f : ℕ} {w : List ℕ} {b m e r : ℕ} (q : ℕ) (ys : List ℕ) → q + length ys ≤ spot f b m → Apart f w b m e r → Apart f (put w q ys) b m e r
unfolding is_join
apart-put {f} {w} {b} {m} q ys before a = record { no = λ j le lt fit. same j le ∙ a.no j le lt fit }
  where
    head : (j : ℕ) → m ≤ j → head_at f (put w q ys) b j ≡ head_at f w b j
    head j le = get_or-put-behind w q ys (spot f b j) (omega (arith, spot-le f b m j le))

    same : (j : ℕ) → m ≤ j → is_join f (put w q ys) b j ≡ is_join f w b j
    same j le = rw (head j le, head (j + 1) (omega arith), head (j + 2) (omega arith))

-- Two leaves below a branch point join.
pair-joins : {f : ℕ} {w : List ℕ} {b n i : ℕ} {p : Bits} → 1 ≤ i → Split f w b n p i leaf leaf → is_join f w b i ≡ true
unfolding is_join
pair-joins {f} {w} {b} {n} {i} {p} pos d =
    let g = kept_size-leaf in
    let q : i + 1 + kept_size leaf ≡ i + 2 = omega arith in
    let s = leaf-says {n = n} (omega arith) d.right in
    let t = leaf-says {n = n} {i = i + 2} (omega arith) (rw q at d.left) in
    and_both _ _ (eq-eqb (dist_at f w b i) 2 (dist-is d.root ∙ omega arith))
    (and_both _ _ (eq-eqb (head_at f w b (i + 1)) (len_at f w b i + 1) (omega (arith, head-is s, len_is d.root, length-snoc p true)))
    (eq-eqb (head_at f w b (i + 2)) (len_at f w b i + 1) (omega (arith, head-is t, len_is d.root, length-snoc p false))))

glue-apart : {f : ℕ} {w : List ℕ} {b n i : ℕ} {p : Bits} → 1 ≤ i → (l r : Trie) → (l ≡ none → ⊥) → Split f w b n p i l r → is_join f w b i ≡ false
    → glue true l r ≡ node l r
glue-apart {f} {w} {b} {n} {i} {p} pos = by-glue (λ l r t. (l ≡ none → ⊥) → Split f w b n p i l r → is_join f w b i ≡ false → t ≡ node l r) true
    (λ ne d h. absurd (ne refl)) (λ q ne d h. absurd (false≢true (sym h ∙ pair-joins pos d))) (λ l r bare ne d h. refl)

module _ {f : ℕ} {w : List ℕ} {b n : ℕ} where
  both-simple : (l r : Trie) (p : Bits) (i : ℕ) → 1 ≤ i → (l ≡ none → ⊥) → (r ≡ none → ⊥) → Split f w b n p i l r → (k : ℕ)
      → k ≡ i + (1 + kept_size l + kept_size r) → Apart f w b i k k
      → (Apart f w b (i + 1 + kept_size r) (i + 1 + kept_size r + kept_size l) (i + 1 + kept_size r + kept_size l) → simplify_t l ≡ l)
      → (Apart f w b (i + 1) (i + 1 + kept_size r) (i + 1 + kept_size r) → simplify_t r ≡ r) → glue true (simplify_t l) (simplify_t r) ≡ node l r
  both-simple l r p i pos nl nr d k e a hl hr =
      let x = kept_size-some l nl in
      let y = kept_size-some r nr in
      rw (hl (apart-within a (omega arith) (omega arith) (omega arith)), hr (apart-within a (omega arith) (omega arith) (omega arith)))
      (glue-apart pos l r nl d (a.no i (omega arith) (omega arith) (omega arith)))

  pub apart-simple : (t : Trie) (p : Bits) (i : ℕ) → 1 ≤ i → KeptStands f w b n p i t → Apart f w b i (i + kept_size t) (i + kept_size t) → simplify_t t ≡ t
  unfolding simplify_t kept_size
  apart-simple none p i pos s a = refl
  apart-simple (node none none) p i pos s a = refl
  apart-simple (node none (node x y)) p i pos s a =
      simplify-edge true x y ∙ ap (λ z. node none z)
      (apart-simple (node x y) (snoc p true) i pos (fork-stands pos true (node x y) (some x y) s) (rw (kept_size-fork true (node x y) (some x y)) at a))
  apart-simple (node (node x y) none) p i pos s a =
      simplify-edge false x y ∙ ap (λ z. node z none)
      (apart-simple (node x y) (snoc p false) i pos (fork-stands pos false (node x y) (some x y) s) (rw (kept_size-fork false (node x y) (some x y)) at a))
  apart-simple (node (node x y) (node z u)) p i pos s a =
      let d = branch-split pos s in
      both-simple (node x y) (node z u) p i pos (some x y) (some z u) d _ refl a
      (apart-simple (node x y) (snoc p false) (i + 1 + kept_size (node z u)) (omega arith) d.left)
      (apart-simple (node z u) (snoc p true) (i + 1) (omega arith) d.right)
