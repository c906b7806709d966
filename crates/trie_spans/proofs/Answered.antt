-- What was written of a trie, told by its nodes: the same as its answer, a block as it stands, and a node over one half or both. Assumes nothing.
use mathlib.Core.Bool.{Bool, true, false, true≢false}
use mathlib.Core.List.{List, [], ◌∷◌, append-nil}
use mathlib.Core.Path.{◌≡◌, refl, sym, ap, ◌∙◌}
use Prim.Native.Nat.{ℕ, zero, suc, ◌+◌, ◌-◌, ◌≤◌, ◌<◌}
use native.Mathlib.Omega.{arith}
use borrow.Author.Tests.{ne_eqb}
use lib.ListN.{length, take, drop}
use Rattle.nets.specs.Tries.{Trie, none, node, size, is_none, side, glue}
use Rattle.nets.specs.TrieOps.{mixed, kind_of, rejoin}
use Rattle.nodes.specs.Words.{put, place, word, link0, link1, enc}
use Rattle.nodes.proofs.Has.{has-seg}
use Rattle.nodes.proofs.Put.{put-nil, put-before-at, length-put}
use Rattle.nodes.proofs.Segments.{none_is}
use Rattle.nodes.specs.Links.{linked}
use Rattle.nodes.proofs.Tries.{length-enc, size-leaf, size-node}
use Rattle.trie_emit.specs.Answers.{answer, body, Emits, rest_of}
use Rattle.trie_emit.specs.Combine.{Here, Gap}
use Rattle.trie_emit.specs.declared.emitting.Emitted.{Emitted}
use Rattle.trie_emit.specs.declared.emitting.Emitted.TheVariants.{Empty, Full, Node}
use Rattle.trie_emit.proofs.Answers.{by_kind, by-glue, end_is, settled, Empty≢Node, Full≢Node, finish-flat, finish-node}
use Rattle.trie_blocks.proofs.Blocks.{some-child, size-one, size-more, answer-mixed, body-mixed}
use Rattle.trie_spans.specs.Extents.{Span, Writes, Halves, Only, leaf_of}
use Rattle.trie_spans.proofs.Spans.{size_none}

-- The answer by the nodes.
module _ (o : ℕ) (t : Trie) where
  pub answer-none : size t ≡ 0 → Empty ≡ answer o t
  unfolding answer
  answer-none e = rw (none_is t e)

  pub answer-leaf : size t ≡ 1 → Full ≡ answer o t
  unfolding answer
  answer-leaf e = rw (size-one t e)

  pub answer-more : (n : ℕ) → n ≡ size t → (n ≡ 0 → ⊥) → (n ≡ 1 → ⊥) → Node (o + n) ≡ answer o t
  answer-more n e f h = rw e (sym (answer-mixed o t (size-more t (omega arith))))

pub emits : {w v : List ℕ} {b o n : ℕ} {t : Trie} → Writes w v b o n t → Emits w v b o (answer o t) t
emits h = record { answers = refl; wrote = h.wrote }

pub writes : {w v : List ℕ} {b o n : ℕ} {x : Emitted} {t : Trie} → Emits w v b o x t → n ≡ size t → Writes w v b o n t
writes h e = record { counts = e; wrote = h.wrote }

-- Nothing is written of few nodes.
body-few : (t : Trie) → size t < 2 → body t ≡ []
unfolding body size
body-few none h = refl
body-few (node none none) h = refl
body-few (node none (node x y)) h = absurd (omega arith)
body-few (node (node x y) r) h = absurd (omega arith)

pub writes-few : (w : List ℕ) (b o n : ℕ) (t : Trie) → n ≡ size t → n < 2 → Writes w w b o n t
writes-few w b o n t e h = record { counts = e; wrote = sym (rw (body-few t (omega arith)) (put-nil w (place b o))) }

-- A block.
module _ {w : List ℕ} {b i e o g : ℕ} (t : Trie) (s : Span w b o g i e t) (p : Gap w b o g t) where
  pub block-nodes : e - i ≡ size t
  block-nodes = omega (arith, s.end)

  module _ (n : ℕ) (q : n ≡ e - i) (more : 2 ≤ n) where
    there : (t : Trie) → 2 ≤ size t → (is_none t ≡ false → Here w b o g i t) → Here w b o g i t
    unfolding size
    there none h f = absurd (omega arith)
    there (node l r) h f = f refl

    block_here : Here w b o g i t
    block_here = there t (omega (arith, block-nodes)) s.here

    block-kind : kind_of t ≡ mixed
    block-kind = size-more t (omega (arith, block-nodes))

    pub block-fits : (1 ≤ i) × (1 ≤ o) × (place b i + n ≤ length w) × (place b o + n ≤ length w)
    block-fits =
        let h = block_here in
        let f = p.fits block-kind in
        (h.one, p.one, omega (arith, h.has.fits, length-enc t, block-nodes), omega (arith, p.room, p.one, block-nodes))

    pub block-put : (v : List ℕ) → v ≡ put w (place b o) (take n (drop (place b i) w)) → Writes w v b o n t
    block-put v h =
        let m : n ≡ length (enc t) = omega (arith, length-enc t, block-nodes) in
        record { counts = omega (arith, block-nodes); wrote = h ∙ rw (body-mixed t block-kind) (rw m (rw (has-seg block_here.has))) }

-- A leaf that is left to write.
leaf-rest : (n i : ℕ) (t : Trie) → n ≡ size t → leaf_of n ≡ rest_of (answer i t)
unfolding answer size
leaf-rest n i = by_kind (λ t. n ≡ size t → leaf_of n ≡ rest_of (answer i t)) (λ e. rw e) (λ e. rw e) (λ l r b e. rw (b, ne_eqb n 1 (λ q. omega (arith, some-child l r b))))

-- A node over one half.
pub is_some : (t : Trie) → (size t ≡ 0 → ⊥) → is_none t ≡ false
unfolding size
is_some none f = absurd (f refl)
is_some (node l r) f = refl

pub only-node : (d : Bool) (t : Trie) → is_none t ≡ false → (size (rejoin d t none) ≡ 1 + size t) × (body (rejoin d t none) ≡ side d 1 2 ∷ enc t) × (kind_of (rejoin d t none) ≡ mixed)
unfolding size body enc word link0 link1
only-node d none e = absurd (true≢false e)
only-node false (node x y) e = (omega arith, ap (λ z. 1 ∷ z) (append-nil (enc (node x y))), refl)
only-node true (node x y) e = (omega arith, refl, refl)

module _ {v w : List ℕ} {b o x n : ℕ} {d : Bool} {t : Trie} (h : Only v w b o x n d t) where
  pub above-none : n ≡ 0 → Writes v w b o 0 (rejoin d t none)
  unfolding body size
  above-none e = go d (none_is t (omega (arith, h.counts))) h.wrote
    where
      go : (d : Bool) → t ≡ none → w ≡ put v (place b (o + 1)) (body t) → Writes v w b o 0 (rejoin d t none)
      go false q p = rw q (record { counts = refl; wrote = rw q at p ∙ put-nil v (place b (o + 1)) ∙ sym (put-nil v (place b o)) })
      go true q p = rw q (record { counts = refl; wrote = rw q at p ∙ put-nil v (place b (o + 1)) ∙ sym (put-nil v (place b o)) })

  pub above_word : x < 4294967296
  above_word = go d h.word
    where
      go : (d : Bool) → x ≡ side d 1 2 → x < 4294967296
      go false e = omega arith
      go true e = omega arith

  module _ (f : n ≡ 0 → ⊥) where
    some-t : is_none t ≡ false
    some-t = is_some t (λ e. f (omega (arith, h.counts)))

    pub above-fits : (place b (o + 1) < length w) × (place b o < length w)
    above-fits = omega (arith, h.room some-t, h.one, h.counts)

    pub above-stays : (w₁ xs : List ℕ) → w₁ ≡ put w (place b (o + 1)) xs → place b o < length w₁
    above-stays w₁ xs e = rw (e, length-put w (place b (o + 1)) xs) above-fits.1

    pub above-put : (w₁ w₂ : List ℕ) → w₁ ≡ put w (place b (o + 1)) (leaf_of n) → w₂ ≡ put w₁ (place b o) (x ∷ []) → Writes v w₂ b o (n + 1) (rejoin d t none)
    above-put w₁ w₂ e₁ e₂ =
        let k = only-node d t some-t in
        let all = settled {x = answer (o + 1) t} (record { answers = refl; wrote = h.wrote }) (rw (leaf-rest n (o + 1) t h.counts) at e₁) in
        record {
          counts = omega (arith, k.0, h.counts);
          wrote = rw (k.1, e₂, all, h.word) (put-before-at v (place b o) (place b (o + 1)) (side d 1 2 ∷ []) (enc t) (omega (arith, h.one)));
        }

-- The nodes over both halves.
module _ (j : Bool) (l r : ℕ) (t u : Trie) (first : l ≡ size t) (second : r ≡ size u) where
  pub over-nodes-none : l + r ≡ 0 → 0 ≡ size (glue j t u)
  unfolding size
  over-nodes-none e = rw (none_is t (omega arith), none_is u (omega arith))

  pub over-nodes-leaf : j ≡ true → l ≡ 1 → r ≡ 1 → 1 ≡ size (glue j t u)
  over-nodes-leaf e p q = rw (e, size-one t (sym first ∙ p), size-one u (sym second ∙ q)) (sym size-leaf)

  pub over-nodes-some : (l + r ≡ 0 → ⊥) → (j ≡ true → l ≡ 1 → r ≡ 1 → ⊥) → l + r + 1 ≡ size (glue j t u)
  over-nodes-some f h = by-glue (λ t u z. l ≡ size t → r ≡ size u → l + r + 1 ≡ size z) j (λ p q. absurd (f (nothing p q))) (λ e p q. absurd (h e (p ∙ size-leaf) (q ∙ size-leaf)))
      (λ t u b p q. omega (arith, size-node t u)) t u first second
    where
      nothing : l ≡ size none → r ≡ size none → l + r ≡ 0
      nothing p q = omega (arith, p ∙ size_none, q ∙ size_none)

-- The nodes over one half.
pub above-nodes-none : (n : ℕ) (d : Bool) (t : Trie) → n ≡ size t → n ≡ 0 → 0 ≡ size (rejoin d t none)
unfolding size
above-nodes-none n false t e q = rw (none_is t (omega arith))
above-nodes-none n true t e q = rw (none_is t (omega arith))

pub above-nodes-some : (n : ℕ) (d : Bool) (t : Trie) → n ≡ size t → (n ≡ 0 → ⊥) → n + 1 ≡ size (rejoin d t none)
above-nodes-some n d t e f = omega (arith, (only-node d t (is_some t (λ q. f (e ∙ q)))).0)

-- A node over both.
glue-more : (j : Bool) (t u : Trie) → 2 ≤ size (glue j t u) → size (glue j t u) ≡ 1 + size t + size u
glue-more j = by-glue (λ t u z. 2 ≤ size z → size z ≡ 1 + size t + size u) j (λ h. absurd (omega (arith, size_none))) (λ e h. absurd (omega (arith, size-leaf))) (λ t u b h. size-node t u)

module _ {v w : List ℕ} {b : ℕ} {j : Bool} {o l r : ℕ} {t u : Trie} (h : Halves v w b j o l r t u) (n : ℕ) (counts : n ≡ size (glue j t u)) where
  pub over-few : n < 2 → Writes v w b o n (glue j t u)
  over-few lt = writes (finish-flat h.pending (answer o (glue j t u)) refl flat) counts
    where
      flat : (e : ℕ) → answer o (glue j t u) ≡ Node e → ⊥
      flat e q = go n counts lt
        where
          go : (n : ℕ) → n ≡ size (glue j t u) → n < 2 → ⊥
          go zero p k = Empty≢Node e (answer-none o (glue j t u) (sym p) ∙ q)
          go (suc zero) p k = Full≢Node e (answer-leaf o (glue j t u) (sym p) ∙ q)
          go (suc (suc i)) p k = omega arith

  module _ (more : 2 ≤ n) (m : ℕ) (middle : m ≡ o + 1 + l) where
    whole : n ≡ 1 + l + r
    whole = omega (arith, glue-more j t u (rw counts at more), h.first, h.second)

    is-node : answer o (glue j t u) ≡ Node (m + r)
    is-node = let q : o + n ≡ m + r = omega (arith, whole) in rw (← q) (sym (answer-more o (glue j t u) n counts (λ e. omega arith) (λ e. omega arith)))

    pub over-fits : (1 ≤ o) × (o < m) × (m < 2147483648) × (place b (m + r) ≤ length w)
    over-fits =
        let k = h.pending.room (size-more (glue j t u) (rw counts at more)) in
        let f = h.first in
        let s = h.second in
        (h.pending.one, omega arith, omega (arith, k.1), omega (arith, k.0))

    pub over-put : (w₁ w₂ w₃ : List ℕ) → w₁ ≡ put w (place b (o + 1)) (leaf_of l) → w₂ ≡ put w₁ (place b m) (leaf_of r) → w₃ ≡ put w₂ (place b o) (linked o m (m + r) ∷ []) → Writes v w₃ b o n (glue j t u)
    over-put w₁ w₂ w₃ e₁ e₂ e₃ =
        writes (finish-node h.pending (answer o (glue j t u)) refl m (m + r) is-node (middle ∙ rw h.first (sym (end_is (answer (o + 1) t) t (o + 1) refl)))
        w₁ w₂ w₃ (rw (leaf-rest l (o + 1) t h.first) at e₁) (rw (leaf-rest r (o + 1 + size t) u h.second) at e₂) e₃) counts

    pub over-stays : (w₁ xs : List ℕ) (q : ℕ) → w₁ ≡ put w q xs → place b (m + r) ≤ length w₁
    over-stays w₁ xs q e = rw (e, length-put w q xs) over-fits.3

    pub over-stays-two : (w₁ w₂ xs ys : List ℕ) (q s : ℕ) → w₁ ≡ put w q xs → w₂ ≡ put w₁ s ys → place b (m + r) ≤ length w₂
    over-stays-two w₁ w₂ xs ys q s e f = rw (f, length-put w₁ s ys) (over-stays w₁ xs q e)
