-- What an answer says of its trie, and the node over two answers: nothing over nothing, a leaf over two leaves, or a node that has both under it. Assumes nothing.
use mathlib.Core.Path.{◌≡◌, refl, sym, ap, ◌∙◌}
use mathlib.Core.Bool.{Bool, true, false, cond, ◌&&◌, false≢true}
use mathlib.Core.List.{List, [], ◌∷◌, ◌++◌}
use Prim.Native.Nat.{ℕ, ◌+◌, ◌≤◌, ◌<◌}
use native.Mathlib.Omega.{arith}
use lib.ListN.{length}
use Rattle.nets.specs.Tries.{Trie, none, node, leaf, size, bare, is_leaf, glue}
use Rattle.nets.specs.TrieOps.{flat, mixed, kind_of}
use Rattle.nets.proofs.Strings.{and_left, and_right}
use Rattle.nets.proofs.Listing.{leaf-is}
use Rattle.nodes.specs.Words.{put, place, word, link0, link1, enc}
use Rattle.nodes.specs.Links.{linked}
use Rattle.nodes.proofs.Put.{put-nil, put-swap, put-behind-at, put-before-at}
use Rattle.nodes.proofs.Tries.{length-enc}
use Rattle.nodes.proofs.Linked.{linked-is}
use Rattle.nodes.proofs.Segments.{none_is}
use Rattle.trie_emit.specs.Answers.{said, answer, body, Emits, end_of, rest_of, is_full, Both, Pending}
use Rattle.trie_emit.specs.declared.emitting.Emitted.{Emitted}
use Rattle.trie_emit.specs.declared.emitting.Emitted.TheVariants.{Empty, Full, Node}

-- A trie is empty, a leaf, or a node with a child.
pub by_kind : (P : Trie → Type 0) → P none → P leaf → ((l r : Trie) → bare l r ≡ false → P (node l r)) → (t : Trie) → P t
by_kind P x y z none = x
by_kind P x y z (node none none) = y
by_kind P x y z (node none (node a b)) = z none (node a b) refl
by_kind P x y z (node (node a b) r) = z (node a b) r refl

-- Two halves are glued to nothing, to a leaf, or to the node over them.
pub by-glue : (P : Trie → Trie → Trie → Type 0) (j : Bool) → P none none none → (j ≡ true → P leaf leaf leaf) → ((l r : Trie) → bare l r ≡ false → P l r (node l r))
    → (l r : Trie) → P l r (glue j l r)
by-glue P j x y z none none = x
by-glue P j x y z none (node c d) = z none (node c d) refl
by-glue P j x y z (node a b) none = z (node a b) none refl
by-glue P j x y z (node a b) (node c d) = go (j && (bare a b && bare c d)) refl
  where
    go : (k : Bool) → (j && (bare a b && bare c d)) ≡ k → P (node a b) (node c d) (cond k leaf (node (node a b) (node c d)))
    go true e =
        let h = and_right j (bare a b && bare c d) e in
        rw (leaf-is (node a b) (and_left (bare a b) (bare c d) h), leaf-is (node c d) (and_right (bare a b) (bare c d) h)) (y (and_left j (bare a b && bare c d) e))
    go false e = z (node a b) (node c d) refl

-- What an answer says of the trie.
module _ (i : ℕ) where
  answer-node : (l r : Trie) → bare l r ≡ false → answer i (node l r) ≡ Node (i + size (node l r))
  unfolding answer
  answer-node l r e = rw e

  end-answer : (t : Trie) → end_of (answer i t) i ≡ i + size t
  unfolding answer size
  end-answer = by_kind (λ t. end_of (answer i t) i ≡ i + size t) (omega arith) (omega arith) (λ l r e. rw (answer-node l r e))

  full-answer : (t : Trie) → is_full (answer i t) ≡ is_leaf t
  unfolding answer
  full-answer = by_kind (λ t. is_full (answer i t) ≡ is_leaf t) refl refl (λ l r e. rw (answer-node l r e, e))

  -- a leaf is left to write, or nothing
  rest-answer : (t : Trie) → length (rest_of (answer i t)) ≤ size t
  unfolding answer size
  rest-answer = by_kind (λ t. length (rest_of (answer i t)) ≤ size t) (omega arith) (omega arith) (λ l r e. rw (answer-node l r e) (omega arith))

  -- what was written, with what the answer left to write, is the whole
  rest_put : (t : Trie) (w : List ℕ) (p : ℕ) → put (put w p (body t)) p (rest_of (answer i t)) ≡ put w p (enc t)
  unfolding answer body enc word link0 link1
  rest_put t w p = by_kind (λ t. put (put w p (body t)) p (rest_of (answer i t)) ≡ put w p (enc t))
      (rw (put-nil w p) (put-nil w p)) (rw (put-nil w p)) (λ l r e. rw (answer-node l r e, e) (put-nil (put w p (enc (node l r))) p)) t

pub end_is : (x : Emitted) (t : Trie) (i : ℕ) → x ≡ answer i t → end_of x i ≡ i + size t
end_is x t i e = rw e (end-answer i t)

pub full_size : (x : Emitted) (t : Trie) (i : ℕ) → x ≡ answer i t → x ≡ Full → 1 ≤ size t
full_size x t i e h = rw (← e, h) at (rest-answer i t)

-- no answer but a leaf's leaves a word to write
pub rest-none : (x : Emitted) → (x ≡ Full → ⊥) → rest_of x ≡ []
rest-none Empty f = refl
rest-none Full f = absurd (f refl)
rest-none (Node e) f = refl

pub settled : {w v z : List ℕ} {b o : ℕ} {x : Emitted} {t : Trie} → Emits w v b o x t → z ≡ put v (place b o) (rest_of x) → z ≡ put w (place b o) (enc t)
settled {w} {v} {z} {b} {o} {x} {t} h e = e ∙ rw (h.wrote, h.answers) (rest_put o t w (place b o))

-- The answer of node o, by those of its children.
pub Empty≢Node : (e : ℕ) → Empty ≡ Node e → ⊥
Empty≢Node e q = let z : ◌≡◌ {A = ℕ} 0 1 = cc in omega arith

pub Full≢Node : (e : ℕ) → Full ≡ Node e → ⊥
Full≢Node e q = let z : ◌≡◌ {A = ℕ} 0 1 = cc in omega arith

module _ (j : Bool) (o : ℕ) where
  node-answer : (l r : Trie) → (size l + size r ≡ 0 → ⊥) → (j && (is_leaf l && is_leaf r)) ≡ false → answer o (glue j l r) ≡ Node (o + 1 + size l + size r)
  unfolding size
  node-answer = by-glue (λ l r t. (size l + size r ≡ 0 → ⊥) → (j && (is_leaf l && is_leaf r)) ≡ false → answer o t ≡ Node (o + 1 + size l + size r)) j
      (λ f e. absurd (f refl)) (λ h f e. absurd (false≢true (sym e ∙ rw h))) (λ l r b f e. answer-node o l r b ∙ ap Node (omega arith))

  -- where it is a node, it is the one over both
  answer-glue : (e : ℕ) (l r : Trie) → answer o (glue j l r) ≡ Node e → (glue j l r ≡ node l r) × (kind_of (node l r) ≡ mixed) × (e ≡ o + 1 + size l + size r)
  unfolding answer size
  answer-glue e = by-glue (λ l r t. answer o t ≡ Node e → (t ≡ node l r) × (kind_of (node l r) ≡ mixed) × (e ≡ o + 1 + size l + size r)) j
      (λ q. absurd (Empty≢Node e q)) (λ h q. absurd (Full≢Node e q))
      (λ l r b q. let n : e ≡ o + size (node l r) = cc (answer-node o l r b) in (refl, rw b, omega arith))

  module _ {x y : Emitted} {l r : Trie} (d : Both o x y l r) (m e : ℕ) (middle : m ≡ end_of x (o + 1)) (end : e ≡ end_of y m) where
    over-end : e ≡ o + 1 + size l + size r
    over-end = end ∙ rw (middle, end_is x l (o + 1) d.first) (end_is y r (o + 1 + size l) d.second)

    pub over_none : e ≡ o + 1 → Empty ≡ answer o (glue j l r)
    unfolding answer
    over_none h = rw (none_is l (omega (arith, over-end)), none_is r (omega (arith, over-end)))

    module _ (z : Bool) (full : z ≡ (j && (is_full x && is_full y))) where
      leaves : z ≡ (j && (is_leaf l && is_leaf r))
      leaves = rw (← full-answer (o + 1) l, ← full-answer (o + 1 + size l) r, ← d.first, ← d.second) full

      pub over-leaf : z ≡ true → Full ≡ answer o (glue j l r)
      unfolding answer
      over-leaf h =
          let q = sym leaves ∙ h in
          let k = and_right j (is_leaf l && is_leaf r) q in
          rw (and_left j (is_leaf l && is_leaf r) q, leaf-is l (and_left (is_leaf l) (is_leaf r) k), leaf-is r (and_right (is_leaf l) (is_leaf r) k))

      pub over-node : (e ≡ o + 1 → ⊥) → z ≡ false → Node e ≡ answer o (glue j l r)
      over-node f h = rw over-end (sym (node-answer l r (λ s. f (omega (arith, over-end))) (sym leaves ∙ h)))

-- What is written of node o, by what was written of its children.
still : (j : Bool) (o : ℕ) (w : List ℕ) (p q s : ℕ) (l r : Trie) → ((e : ℕ) → answer o (glue j l r) ≡ Node e → ⊥) → put (put w q (body l)) s (body r) ≡ put w p (body (glue j l r))
unfolding body
still j o w p q s = by-glue (λ l r t. ((e : ℕ) → answer o t ≡ Node e → ⊥) → put (put w q (body l)) s (body r) ≡ put w p (body t)) j
    (λ f. put-nil (put w q []) s ∙ put-nil w q ∙ sym (put-nil w p)) (λ h f. put-nil (put w q []) s ∙ put-nil w q ∙ sym (put-nil w p))
    (λ l r b f. absurd (f (o + size (node l r)) (answer-node o l r b)))

node-put : (w : List ℕ) (p q s i k : ℕ) (l r : Trie) → q ≡ p + 1 → s ≡ q + size l
    → put (put (put (put (put w q (body l)) s (body r)) q (rest_of (answer i l))) s (rest_of (answer k r))) p (word l r ∷ []) ≡ put w p (enc (node l r))
unfolding enc
node-put w p q s i k l r eq es =
    let a : put (put (put w q (body l)) s (body r)) q (rest_of (answer i l)) ≡ put (put w q (enc l)) s (body r) =
    sym (put-swap (put w q (body l)) q s (rest_of (answer i l)) (body r) (omega (arith, rest-answer i l))) ∙ ap (λ v. put v s (body r)) (rest_put i l w q) in
    rw (a, rest_put k r (put w q (enc l)) s, put-behind-at w q s (enc l) (enc r) (omega (arith, length-enc l)))
    (put-before-at w p q (word l r ∷ []) (enc l ++ enc r) eq)

-- the numbers that the writes ask for
pub record Numbers (n b o m e : ℕ) (x y : Emitted) : Type 0 where
  pub middle : m ≤ 1073741824
  pub first : o < m
  pub last : m ≤ e
  pub all : place b e ≤ n
  pub full-l : x ≡ Full → o + 1 < m
  pub full-r : y ≡ Full → m < e

module _ {v w : List ℕ} {b : ℕ} {j : Bool} {o : ℕ} {x y : Emitted} {l r : Trie} (p : Pending v w b j o x y l r) (a : Emitted) (answers : a ≡ answer o (glue j l r)) where
  pub finish-flat : ((e : ℕ) → a ≡ Node e → ⊥) → Emits v w b o a (glue j l r)
  finish-flat f = record { answers = answers; wrote = p.wrote ∙ still j o v (place b o) (place b (o + 1)) (place b (o + 1 + size l)) l r (λ e q. f e (answers ∙ q)) }

  module _ (m e : ℕ) (is : a ≡ Node e) (middle : m ≡ end_of x (o + 1)) where
    over-both : (glue j l r ≡ node l r) × (kind_of (node l r) ≡ mixed) × (e ≡ o + 1 + size l + size r)
    over-both = answer-glue j o e l r (sym answers ∙ is)

    middle-is : m ≡ o + 1 + size l
    middle-is = middle ∙ end_is x l (o + 1) p.both.first

    pub numbers : Numbers (length w) b o m e x y
    unfolding size
    numbers =
        let q = over-both in
        let n = p.room (rw q.0 q.1) in
        let s = middle-is in
        record {
          middle = omega arith;
          first = omega arith;
          last = omega arith;
          all = omega arith;
          full-l = λ h. omega (arith, full_size x l (o + 1) p.both.first h);
          full-r = λ h. omega (arith, full_size y r (o + 1 + size l) p.both.second h);
        }

    pub finish-node : (w₁ w₂ w₃ : List ℕ) → w₁ ≡ put w (place b (o + 1)) (rest_of x) → w₂ ≡ put w₁ (place b m) (rest_of y) → w₃ ≡ put w₂ (place b o) (linked o m e ∷ [])
        → Emits v w₃ b o (Node e) (glue j l r)
    unfolding body
    finish-node w₁ w₂ w₃ e₁ e₂ e₃ =
        let q = over-both in
        let one = p.one in
        record {
          answers = sym is ∙ answers;
          wrote = rw (q.0, q.1, e₃, e₂, e₁, p.wrote, linked-is l r o m e middle-is (omega (arith, q.2, middle-is)), middle-is, p.both.first, p.both.second)
              (node-put v (place b o) (place b (o + 1)) (place b (o + 1 + size l)) (o + 1) (o + 1 + size l) l r (omega arith) (omega arith));
        }

-- What is written of a flat trie, and how much of any.
pub emits-flat : (w : List ℕ) (b o : ℕ) (x : Bool) → Emits w w b o (said (flat x) 0) (cond x leaf none)
unfolding answer body
emits-flat w b o true = record { answers = refl; wrote = sym (put-nil w (place b o)) }
emits-flat w b o false = record { answers = refl; wrote = sym (put-nil w (place b o)) }

pub length-body : (t : Trie) → length (body t) ≤ size t
unfolding body size
length-body = by_kind (λ t. length (body t) ≤ size t) (omega arith) (omega arith) (λ l r e. rw e (omega (arith, length-enc (node l r))))

pub size-glue : (j : Bool) (l r : Trie) → size (glue j l r) ≤ 1 + size l + size r
unfolding size
size-glue j = by-glue (λ l r t. size t ≤ 1 + size l + size r) j (omega arith) (λ h. omega arith) (λ l r b. omega arith)
