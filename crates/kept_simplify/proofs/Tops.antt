-- What simplifying does to the parts of a trie: the string of the first kept node stays, and a trie of one node is that node. Assumes nothing.
use mathlib.Core.Bool.{Bool, true, false, cond, ◌&&◌}
use mathlib.Core.List.{List, [], ◌∷◌, ◌++◌, append-nil, append_assoc}
use mathlib.Core.Path.{◌≡◌, refl, sym, ap, ◌∙◌}
use Prim.Native.Nat.{ℕ, ◌+◌, ◌≤◌}
use native.Mathlib.Omega.{arith}
use borrow.Author.Tests.{eq-eqb, ne_eqb}
use lib.Dec.{eqb}
use lib.ListN.{length, length-append}
use Rattle.nets.specs.Bits.{Bits}
use Rattle.nets.specs.Networks.{width}
use Rattle.nets.specs.Tries.{Trie, none, node, leaf, fork, is_leaf, side, glue, simplify_t}
use Rattle.nodes.proofs.Tries.{some}
use Rattle.trie_emit.proofs.Answers.{by-glue}
use Rattle.trie_paths.specs.Spans.{snoc}
use Rattle.trie_paths.proofs.Paths.{length-snoc}
use Rattle.branch_points.specs.KeptTries.{kept, kept_size}
use Rattle.branch_points.proofs.Sizes.{kept_size-leaf, kept_size-some}
use Rattle.kept_nodes.specs.Words.{node_words, kept_enc}
use Rattle.kept_nodes.specs.Parse.{KeptStands}
use Rattle.kept_nodes.proofs.Places.{kept_enc-leaf}
use Rattle.kept_nodes.proofs.Hung.{kept_size-fork, kept_enc-fork}
use Rattle.kept_nodes.proofs.NodeWords.{Says}
use Rattle.kept_nodes.proofs.Parsed.{Split, leaf-says, branch-split, fork-stands}
use Rattle.kept_plan.proofs.Changed.{top_of}
use Rattle.kept_simplify.specs.Shrinks.{Tops}

-- A trie that is not empty: a leaf, one that goes on with one bit only, or a branch point.
pub by-top : (P : Bits → Trie → Type 0) → ((p : Bits) → P p leaf)
    → ((p : Bits) (c : Bool) (x y : Trie) → P (snoc p c) (node x y) → P p (fork c (node x y) none))
    → ((p : Bits) (x y z u : Trie) → P p (node (node x y) (node z u))) → (p : Bits) (t : Trie) → (t ≡ none → ⊥) → P p t
by-top P lf ed br p none ne = absurd (ne refl)
by-top P lf ed br p (node none none) ne = lf p
by-top P lf ed br p (node none (node x y)) ne = ed p true x y (by-top P lf ed br (snoc p true) (node x y) (some x y))
by-top P lf ed br p (node (node x y) none) ne = ed p false x y (by-top P lf ed br (snoc p false) (node x y) (some x y))
by-top P lf ed br p (node (node x y) (node z u)) ne = br p x y z u

-- Simplified: nothing is left empty, an edge stays, and the halves of a branch point are glued.
glue-some : (l r : Trie) → (l ≡ none → r ≡ none → ⊥) → glue true l r ≡ none → ⊥
glue-some = by-glue (λ l r t. (l ≡ none → r ≡ none → ⊥) → t ≡ none → ⊥) true (λ h e. h refl refl) (λ q h e. some none none e) (λ l r b h e. some l r e)

pub simplify-some : (t : Trie) → (t ≡ none → ⊥) → simplify_t t ≡ none → ⊥
unfolding simplify_t
simplify-some none ne e = ne refl
simplify-some (node none none) ne e = some none none e
simplify-some (node none (node x y)) ne e = glue-some none (simplify_t (node x y)) (λ a b. simplify-some (node x y) (some x y) b) e
simplify-some (node (node x y) r) ne e = glue-some (simplify_t (node x y)) (simplify_t r) (λ a b. simplify-some (node x y) (some x y) a) e

simplify-node : (x y : Trie) → simplify_t (node x y) ≡ none → ⊥
simplify-node x y = simplify-some (node x y) (some x y)

glue-edge : (c : Bool) (t : Trie) → (t ≡ none → ⊥) → glue true (side c t none) (side c none t) ≡ fork c t none
glue-edge c none ne = absurd (ne refl)
glue-edge false (node x y) ne = refl
glue-edge true (node x y) ne = refl

pub simplify-edge : (c : Bool) (x y : Trie) → simplify_t (fork c (node x y) none) ≡ fork c (simplify_t (node x y)) none
unfolding simplify_t
simplify-edge false x y = glue-edge false (simplify_t (node x y)) (simplify-node x y)
simplify-edge true x y = glue-edge true (simplify_t (node x y)) (simplify-node x y)

pub simplify-leaf : simplify_t leaf ≡ leaf
unfolding simplify_t
simplify-leaf = refl

pub simplify-both : (x y z u : Trie) → simplify_t (node (node x y) (node z u)) ≡ glue true (simplify_t (node x y)) (simplify_t (node z u))
unfolding simplify_t
simplify-both x y z u = refl

kept_size-glue : (l r : Trie) → kept_size (glue true l r) ≤ 1 + kept_size l + kept_size r
unfolding kept_size
kept_size-glue = by-glue (λ l r t. kept_size t ≤ 1 + kept_size l + kept_size r) true (omega arith) (λ q. omega arith) (λ l r b. go (kept l r) l r)
  where
    go : (k : Bool) (l r : Trie) → cond k 1 0 + kept_size l + kept_size r ≤ 1 + kept_size l + kept_size r
    go true l r = omega arith
    go false l r = omega arith

pub kept_size-simplify : (t : Trie) → kept_size (simplify_t t) ≤ kept_size t
unfolding kept_size simplify_t
kept_size-simplify none = omega arith
kept_size-simplify (node none none) = omega arith
kept_size-simplify (node none (node x y)) =
    rw (simplify-edge true x y) (omega (arith, kept_size-fork true (simplify_t (node x y)) (simplify-node x y), kept_size-simplify (node x y)))
kept_size-simplify (node (node x y) none) =
    rw (simplify-edge false x y) (omega (arith, kept_size-fork false (simplify_t (node x y)) (simplify-node x y), kept_size-simplify (node x y)))
kept_size-simplify (node (node x y) (node z u)) =
    omega (arith, kept_size-glue (simplify_t (node x y)) (simplify_t (node z u)), kept_size-simplify (node x y), kept_size-simplify (node z u))

-- The string of the first kept node of the trie t below p.
unfoldable pub own_of : Bits → Trie → Bits
own_of p t = p ++ top_of t

own-leaf : (p : Bits) → own_of p leaf ≡ p
unfolding own_of top_of
own-leaf p = append-nil p

own-both : (p : Bits) (l r : Trie) → (l ≡ none → ⊥) → (r ≡ none → ⊥) → own_of p (node l r) ≡ p
unfolding own_of top_of
own-both p none r nl nr = absurd (nl refl)
own-both p (node x y) none nl nr = absurd (nr refl)
own-both p (node x y) (node z u) nl nr = append-nil p

own-edge : (p : Bits) (c : Bool) (t : Trie) → (t ≡ none → ⊥) → own_of p (fork c t none) ≡ own_of (snoc p c) t
unfolding own_of top_of
own-edge p c none ne = absurd (ne refl)
own-edge p false (node x y) ne = sym (append_assoc p (false ∷ []) (top_of (node x y)))
own-edge p true (node x y) ne = sym (append_assoc p (true ∷ []) (top_of (node x y)))

own-glue : (p : Bits) (l r : Trie) → (l ≡ none → ⊥) → (r ≡ none → ⊥) → own_of p (glue true l r) ≡ p
own-glue p = by-glue (λ l r t. (l ≡ none → ⊥) → (r ≡ none → ⊥) → own_of p t ≡ p) true
    (λ nl nr. absurd (nl refl)) (λ q nl nr. own-leaf p) (λ l r b nl nr. own-both p l r nl nr)

own-longer : (p : Bits) (t : Trie) → length p ≤ length (own_of p t)
unfolding own_of
own-longer p t = omega (arith, length-append p (top_of t))

own-simplify : (p : Bits) (t : Trie) → (t ≡ none → ⊥) → own_of p (simplify_t t) ≡ own_of p t
own-simplify = by-top (λ p t. own_of p (simplify_t t) ≡ own_of p t)
    (λ p. ap (own_of p) simplify-leaf)
    (λ p c x y ih. rw (simplify-edge c x y) (own-edge p c (simplify_t (node x y)) (simplify-node x y) ∙ ih ∙ sym (own-edge p c (node x y) (some x y))))
    (λ p x y z u.
    rw (simplify-both x y z u) (own-glue p (simplify_t (node x y)) (simplify_t (node z u)) (simplify-node x y) (simplify-node z u))
    ∙ sym (own-both p (node x y) (node z u) (some x y) (some z u)))

two-nodes : (x y z u : Trie) → 3 ≤ kept_size (node (node x y) (node z u))
unfolding kept_size
two-nodes x y z u =
    omega (arith, kept_size-some (node x y) (some x y), kept_size-some (node z u) (some z u))

-- a trie of one node is that node, and a leaf has it at the string itself
alone-words : (f : ℕ) (p : Bits) (t : Trie) → (t ≡ none → ⊥) → kept_size t ≡ 1 → kept_enc f p t ≡ node_words f (own_of p t) 0
alone-words f = by-top (λ p t. kept_size t ≡ 1 → kept_enc f p t ≡ node_words f (own_of p t) 0)
    (λ p e. rw (own-leaf p) (kept_enc-leaf f p))
    (λ p c x y ih e. rw (own-edge p c (node x y) (some x y)) (kept_enc-fork f p c (node x y) (some x y) ∙ ih (sym (kept_size-fork c (node x y) (some x y)) ∙ e)))
    (λ p x y z u e. absurd (omega (arith, two-nodes x y z u)))

leaf-edge : (c : Bool) (x y : Trie) → is_leaf (fork c (node x y) none) ≡ false
leaf-edge false x y = refl
leaf-edge true x y = refl

and-false : (x y : Bool) → y ≡ false → (x && y) ≡ false
and-false true y e = e
and-false false y e = refl

leaf-test : (p : Bits) (t : Trie) → (t ≡ none → ⊥) → is_leaf t ≡ (eqb (kept_size t) 1 && eqb (length (own_of p t)) (length p))
unfolding kept_size
leaf-test = by-top (λ p t. is_leaf t ≡ (eqb (kept_size t) 1 && eqb (length (own_of p t)) (length p)))
    (λ p. rw (own-leaf p) (sym (eq-eqb (length p) (length p) refl)))
    (λ p c x y ih.
    let t = fork c (node x y) none in
    let far : length (own_of p t) ≡ length p → ⊥ =
    λ e. omega (arith, own-longer (snoc p c) (node x y), length-snoc p c, ap length (own-edge p c (node x y) (some x y))) in
    leaf-edge c x y ∙ sym (and-false (eqb (kept_size t) 1) (eqb (length (own_of p t)) (length p)) (ne_eqb (length (own_of p t)) (length p) far)))
    (λ p x y z u. rw (ne_eqb (kept_size (node (node x y) (node z u))) 1 (λ e. omega (arith, two-nodes x y z u))))

pub tops-simplify : (f : ℕ) (p : Bits) (t : Trie) → (t ≡ none → ⊥) → length (own_of p t) ≤ width f → Tops f p (own_of p t) (simplify_t t)
tops-simplify f p t ne short =
    let some = simplify-some t ne in
    rw (← own-simplify p t ne) (record {
      some = some;
      short = rw (own-simplify p t ne) short;
      alone = alone-words f p (simplify_t t) some;
      full = leaf-test p (simplify_t t) some;
    })

-- What is written of the first kept node is what its string and some distance say.
module _ {f : ℕ} {w : List ℕ} {b n i : ℕ} (pos : 1 ≤ i) where
  pub top-says : (p : Bits) (t : Trie) → (t ≡ none → ⊥) → KeptStands f w b n p i t → (d : ℕ) × Says f w b i (own_of p t) d
  top-says = by-top (λ p t. KeptStands f w b n p i t → (d : ℕ) × Says f w b i (own_of p t) d)
      (λ p s. (0, rw (own-leaf p) (leaf-says pos s)))
      (λ p c x y ih s. rw (own-edge p c (node x y) (some x y)) (ih (fork-stands pos c (node x y) (some x y) s)))
      (λ p x y z u s. (1 + kept_size (node z u), rw (own-both p (node x y) (node z u) (some x y) (some z u)) (branch-split pos s).root))

-- The first branch point of a trie of several nodes, and what the trie is simplified to.
pub record Root (f : ℕ) (w : List ℕ) (b n i : ℕ) (p : Bits) (t : Trie) : Type 0 where
  pub l : Trie
  pub r : Trie
  pub first : l ≡ none → ⊥
  pub second : r ≡ none → ⊥
  pub split : Split f w b n (own_of p t) i l r
  pub size : kept_size t ≡ 1 + kept_size r + kept_size l
  pub glued : kept_size (simplify_t t) ≡ kept_size (glue true (simplify_t l) (simplify_t r))
  pub words : kept_enc f p (simplify_t t) ≡ kept_enc f (own_of p t) (glue true (simplify_t l) (simplify_t r))

module _ {f : ℕ} {w : List ℕ} {b n i : ℕ} (pos : 1 ≤ i) where
  pub root-of : (p : Bits) (t : Trie) → (t ≡ none → ⊥) → (kept_size t ≡ 1 → ⊥) → KeptStands f w b n p i t → Root f w b n i p t
  unfolding kept_size
  root-of = by-top (λ p t. (kept_size t ≡ 1 → ⊥) → KeptStands f w b n p i t → Root f w b n i p t)
      (λ p ne s. absurd (ne kept_size-leaf))
      (λ p c x y ih ne s.
      let v = node x y in
      let g = kept_size-fork c v (some x y) in
      let k = ih (λ e. ne (g ∙ e)) (fork-stands pos c v (some x y) s) in
      let q = simplify-node x y in
      record {
        l = k.l;
        r = k.r;
        first = k.first;
        second = k.second;
        split = rw (own-edge p c v (some x y)) k.split;
        size = g ∙ k.size;
        glued = ap kept_size (simplify-edge c x y) ∙ kept_size-fork c (simplify_t v) q ∙ k.glued;
        words = rw (own-edge p c v (some x y)) (ap (kept_enc f p) (simplify-edge c x y) ∙ kept_enc-fork f p c (simplify_t v) q ∙ k.words);
      })
      (λ p x y z u ne s. record {
        l = node x y;
        r = node z u;
        first = some x y;
        second = some z u;
        split = rw (own-both p (node x y) (node z u) (some x y) (some z u)) (branch-split pos s);
        size = omega arith;
        glued = ap kept_size (simplify-both x y z u);
        words = rw (own-both p (node x y) (node z u) (some x y) (some z u)) (ap (kept_enc f p) (simplify-both x y z u));
      })
