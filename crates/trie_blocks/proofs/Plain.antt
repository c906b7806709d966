-- A trie in which no node is one over two leaves is simplified as it stands; in the words such a node shows by two of them. Assumes nothing.
use mathlib.Core.Bool.{Bool, true, false, cond, true≢false}
use mathlib.Core.List.{List, ◌++◌}
use mathlib.Core.Path.{◌≡◌, refl, sym, ◌∙◌}
use Prim.Native.Nat.{ℕ, suc, ◌+◌, ◌-◌, ◌≤◌, ◌<◌}
use native.Mathlib.Omega.{arith}
use lib.ListN.{get_or, get_or-append}
use lib.Seq.{get_or-append-add}
use Rattle.nets.specs.Tries.{Trie, none, node, leaf, size, bare, glue, simplify_t}
use Rattle.nets.proofs.Listing.{leaf-is}
use Rattle.nodes.specs.Words.{Has, place, word_at, enc, word, link0, link1}
use Rattle.nodes.proofs.Tries.{length-enc}
use Rattle.trie_emit.proofs.Answers.{by-glue}
use Rattle.trie_blocks.specs.Joins.{Apart}

-- none of the nodes of t is one over two leaves
unfoldable Plain : Trie → Type 0
Plain t = (j : ℕ) → j + 2 < size t → get_or (enc t) j 0 ≡ 5 → get_or (enc t) (j + 2) 0 ≡ 0 → ⊥

plain-left : (l r : Trie) → Plain (node l r) → Plain l
unfolding Plain enc size
plain-left l r h j lt a b =
    let e : suc j + 2 ≡ suc (j + 2) = omega arith in
    h (suc j) (omega arith)
    (get_or-append (enc l) (enc r) 0 j (omega (arith, length-enc l)) ∙ a)
    (rw e (get_or-append (enc l) (enc r) 0 (j + 2) (omega (arith, length-enc l)) ∙ b))

behind-first : (l r : Trie) (k : ℕ) → get_or (enc l ++ enc r) (size l + k) 0 ≡ get_or (enc r) k 0
behind-first l r k = rw (← length-enc l) (get_or-append-add (enc l) (enc r) k 0)

plain-right : (l r : Trie) → Plain (node l r) → Plain r
unfolding Plain enc size
plain-right l r h j lt a b =
    let e : suc (size l + j) + 2 ≡ suc (size l + (j + 2)) = omega arith in
    h (suc (size l + j)) (omega arith) (behind-first l r j ∙ a) (rw e (behind-first l r (j + 2) ∙ b))

plain-pair : Plain (node leaf leaf) → ⊥
unfolding Plain enc word link0 link1 size
plain-pair h = h 0 (omega arith) refl refl

glue-plain : (l r : Trie) → bare l r ≡ false → Plain (node l r) → glue true l r ≡ node l r
glue-plain = by-glue (λ l r t. bare l r ≡ false → Plain (node l r) → t ≡ node l r) true (λ e h. absurd (true≢false e)) (λ q e h. absurd (plain-pair h)) (λ l r b e h. refl)

plain-simple : (t : Trie) → Plain t → simplify_t t ≡ t
unfolding simplify_t
plain-simple none h = refl
plain-simple (node l r) h = go (bare l r) refl (plain-simple l (plain-left l r h)) (plain-simple r (plain-right l r h))
  where
    go : (x : Bool) → bare l r ≡ x → simplify_t l ≡ l → simplify_t r ≡ r → cond x leaf (glue true (simplify_t l) (simplify_t r)) ≡ node l r
    go true e p q = sym (leaf-is (node l r) e)
    go false e p q = rw (p, q) (glue-plain l r e h)

-- by the words, where t stands from node i up to node e
pub record Block (w : List ℕ) (b i e : ℕ) (t : Trie) : Type 0 where
  pub has : Has w (place b i) (enc t)
  pub one : 1 ≤ i
  pub end : e ≡ i + size t

module _ {w : List ℕ} {b i e : ℕ} {t : Trie} (g : Block w b i e t) where
  word_in : (j : ℕ) → j < size t → word_at w b (i + j) ≡ get_or (enc t) j 0
  word_in j lt =
      let q : place b (i + j) ≡ place b i + j = omega (arith, g.one) in
      rw q (g.has.at j (omega (arith, length-enc t)))

  plain-words : Apart w b i e e → Plain t
  unfolding Plain
  plain-words h j lt a c =
      let q : i + j + 2 ≡ i + (j + 2) = omega arith in
      h.no (i + j) (omega arith) (omega (arith, g.end)) (omega (arith, g.end)) (word_in j (omega arith) ∙ a) (rw q (word_in (j + 2) lt ∙ c))

  pub apart-simple : Apart w b i e e → simplify_t t ≡ t
  apart-simple h = plain-simple t (plain-words h)

-- what is known of the words stays where they do
pub apart-kept : {w v : List ℕ} {b m e n : ℕ} {t : Trie} → Block w b m e t → Block v b m e t → Apart w b m e n → Apart v b m e n
apart-kept {w} {v} {b} {m} {e} g k h = record { no = λ j le lt fit a c. h.no j le lt fit (same j le (omega arith) ∙ a) (same (j + 2) (omega arith) fit ∙ c) }
  where
    same : (j : ℕ) → m ≤ j → j < e → word_at w b j ≡ word_at v b j
    same j p q =
        let o : m + (j - m) ≡ j = omega arith in
        rw o at (word_in g (j - m) (omega (arith, g.end)) ∙ sym (word_in k (j - m) (omega (arith, g.end))))
