-- What an answer says of its trie, and the answer over two: nothing over nothing, a leaf over two leaves, or the sizes with one more for a branch point. Assumes
-- nothing.
use mathlib.Core.Path.{◌≡◌, refl, sym, ap, ◌∙◌}
use mathlib.Core.Bool.{Bool, true, false, ◌&&◌, false≢true}
use mathlib.Core.List.{List, [], ◌++◌}
use Prim.Native.Nat.{ℕ, suc, ◌+◌, ◌-◌, ◌*◌, ◌≤◌, ◌<◌}
use native.Mathlib.Omega.{arith}
use lib.ListN.{length}
use borrow.Author.Tests.{lt-ltb, le-ltb}
use Rattle.nets.specs.Bits.{Bits}
use Rattle.nets.specs.Tries.{Trie, none, node, leaf, bare, is_leaf, glue}
use Rattle.nets.specs.TrieOps.{mixed, kind_of}
use Rattle.nets.specs.Networks.{width, net_from}
use Rattle.nets.specs.declared.Net.{Net}
use Rattle.nets.proofs.Strings.{and_left, and_right}
use Rattle.nets.proofs.Listing.{leaf-is}
use Rattle.nodes.specs.Words.{put}
use Rattle.nodes.proofs.Put.{put-nil, put-swap, put-before-at}
use Rattle.nodes.proofs.Tries.{some}
use Rattle.trie_emit.specs.Answers.{is_full}
use Rattle.trie_emit.proofs.Answers.{by_kind, by-glue}
use Rattle.trie_paths.specs.Spans.{snoc}
use Rattle.trie_paths.proofs.Paths.{path-is, length-snoc}
use Rattle.branch_points.specs.KeptTries.{kept_size}
use Rattle.branch_points.proofs.Sizes.{kept_size-some, kept_size-none, kept_size-halves, kept_size-second, kept_size-first, kept_size-both}
use Rattle.kept_nodes.specs.Parse.{KeptRoom}
use Rattle.kept_nodes.specs.Words.{stride, node_words, distance, kept_enc, spot}
use Rattle.kept_nodes.proofs.Places.{spot_on, spot-next, spot-within, spot-before, room-put, length-node_words, length-kept_enc, kept_enc-leaf, kept_enc-none}
use Rattle.kept_emit.specs.Answers.{answer, body, Emits, size_of, rest_of, Both, Pending, top_words}
use Rattle.trie_emit.specs.declared.emitting.Emitted.{Emitted}
use Rattle.trie_emit.specs.declared.emitting.Emitted.TheVariants.{Empty, Full, Node}

answer-node : (l r : Trie) → bare l r ≡ false → answer (node l r) ≡ Node (kept_size (node l r))
unfolding answer
answer-node l r e = rw e

size-answer : (t : Trie) → size_of (answer t) ≡ kept_size t
unfolding answer kept_size
size-answer = by_kind (λ t. size_of (answer t) ≡ kept_size t) refl refl (λ l r e. rw (answer-node l r e))

full-answer : (t : Trie) → is_full (answer t) ≡ is_leaf t
unfolding answer
full-answer = by_kind (λ t. is_full (answer t) ≡ is_leaf t) refl refl (λ l r e. rw (answer-node l r e, e))

-- no answer but a leaf's leaves words to write
pub rest-none : (f : ℕ) (p : Bits) (x : Emitted) → (x ≡ Full → ⊥) → rest_of f p x ≡ []
rest-none f p Empty n = refl
rest-none f p Full n = absurd (n refl)
rest-none f p (Node k) n = refl

pub size_is : (x : Emitted) (t : Trie) → x ≡ answer t → size_of x ≡ kept_size t
size_is x t e = rw e (size-answer t)

-- over two answers
module _ (j : Bool) {x y : Emitted} {l r : Trie} (d : Both x y l r) (a c : ℕ) (ea : a ≡ size_of x) (ec : c ≡ size_of y) where
  pub sizes : (a ≡ kept_size l) × (c ≡ kept_size r)
  sizes = (ea ∙ size_is x l d.first, ec ∙ size_is y r d.second)

  pub over_none : a + c ≡ 0 → Empty ≡ answer (glue j l r)
  unfolding answer
  over_none h = rw (kept_size-none l (omega (arith, sizes)), kept_size-none r (omega (arith, sizes)))

  module _ (z : Bool) (full : z ≡ (j && (is_full x && is_full y))) where
    leaves : z ≡ (j && (is_leaf l && is_leaf r))
    leaves = rw (← full-answer l, ← full-answer r, ← d.first, ← d.second) full

    pub over-leaf : z ≡ true → Full ≡ answer (glue j l r)
    unfolding answer
    over-leaf h =
        let q = sym leaves ∙ h in
        let k = and_right j (is_leaf l && is_leaf r) q in
        rw (and_left j (is_leaf l && is_leaf r) q, leaf-is l (and_left (is_leaf l) (is_leaf r) k), leaf-is r (and_right (is_leaf l) (is_leaf r) k))

    glue-node : (l r : Trie) → (kept_size l + kept_size r ≡ 0 → ⊥) → (j && (is_leaf l && is_leaf r)) ≡ false → answer (glue j l r) ≡ Node (kept_size (node l r))
    unfolding kept_size
    glue-node = by-glue (λ l r t. (kept_size l + kept_size r ≡ 0 → ⊥) → (j && (is_leaf l && is_leaf r)) ≡ false → answer t ≡ Node (kept_size (node l r))) j
        (λ f e. absurd (f refl)) (λ h f e. absurd (false≢true (sym e ∙ rw h))) (λ l r b f e. answer-node l r b)

    module _ (nz : a + c ≡ 0 → ⊥) (apart : z ≡ false) where
      over-is : answer (glue j l r) ≡ Node (kept_size (node l r))
      over-is = glue-node l r (λ e. nz (omega (arith, sizes))) (sym leaves ∙ apart)

      pub over-second : a ≡ 0 → Node (c) ≡ answer (glue j l r)
      over-second e = sym (over-is ∙ ap Node (kept_size-second l r (omega (arith, sizes)) (λ h. nz (omega (arith, sizes))) ∙ sym sizes.1))

      pub over_first : c ≡ 0 → Node (a) ≡ answer (glue j l r)
      over_first e = sym (over-is ∙ ap Node (kept_size-first l r (omega (arith, sizes)) (λ h. nz (omega (arith, sizes))) ∙ sym sizes.0))

      pub over-both : (a ≡ 0 → ⊥) → (c ≡ 0 → ⊥) → Node (1 + a + c) ≡ answer (glue j l r)
      over-both f g = sym (over-is ∙ ap Node (kept_size-both l r (λ h. f (omega (arith, sizes))) (λ h. g (omega (arith, sizes))) ∙ rw (sizes.0, sizes.1)))

-- What was written, with what the answer left to write, is the whole.
rest_put : (f : ℕ) (p : Bits) (t : Trie) (w : List ℕ) (q : ℕ) → put (put w q (body f p t)) q (rest_of f p (answer t)) ≡ put w q (kept_enc f p t)
unfolding answer body
rest_put f p t w q = by_kind (λ t. put (put w q (body f p t)) q (rest_of f p (answer t)) ≡ put w q (kept_enc f p t))
    (rest-none f p w q) (rw (put-nil w q, kept_enc-leaf f p)) (λ l r e. rw (answer-node l r e, e) (put-nil (put w q (kept_enc f p (node l r))) q)) t
  where
    rest-none : (f : ℕ) (p : Bits) (w : List ℕ) (q : ℕ) → put (put w q []) q [] ≡ put w q (kept_enc f p none)
    rest-none f p w q = rw (put-nil w q) (ap (put w q) (sym (kept_enc-none f p)))

length-body : (f : ℕ) (p : Bits) (t : Trie) → length (body f p t) ≤ stride f * kept_size t
unfolding body
length-body f p = by_kind (λ t. length (body f p t) ≤ stride f * kept_size t) (omega arith) (omega arith) (λ l r e. rw e (omega (
  arith,
  length-kept_enc f p
      (node l r),
)))

halves-put : (f : ℕ) (v : List ℕ) (q s : ℕ) (p₀ p₁ : Bits) (l r : Trie) → s ≡ q + stride f * kept_size r
    → put (put (put (put v s (body f p₀ l)) q (body f p₁ r)) s (rest_of f p₀ (answer l))) q (rest_of f p₁ (answer r)) ≡ put v q (kept_enc f p₁ r ++ kept_enc f p₀ l)
halves-put f v q s p₀ p₁ l r e =
    rw (
      put-swap (put v s (body f p₀ l)) q s (body f p₁ r) (rest_of f p₀ (answer l)) (omega (arith, length-body f p₁ r)),
      rest_put f p₀ l v s,
      rest_put f p₁ r
          (put v s (kept_enc f p₀ l)) q,
    )
    (put-before-at v q s (kept_enc f p₁ r) (kept_enc f p₀ l) (omega (arith, length-kept_enc f p₁ r)))

-- the node over both, where it is a branch point
module _ (f : ℕ) (v w : List ℕ) (b : ℕ) (p : Bits) (o m e : ℕ) where
  top-put : (l r : Trie) → bare l r ≡ false → m + kept_size l ≡ e → o + kept_size r ≡ m → kept_size (node l r) < e
      → w ≡ put v (spot f b o) (kept_enc f (snoc p true) r ++ kept_enc f (snoc p false) l)
      → put w (spot f b (o - 1)) (top_words f p o m e) ≡ put v (spot f b (e - kept_size (node l r))) (kept_enc f p (node l r))
  unfolding top_words kept_enc distance kept_size node_words
  top-put none none h em eo lt ew = let z : ◌≡◌ {A = ℕ} 0 1 = cc in absurd (omega arith)
  top-put none (node x y) h em eo lt ew =
      let k : e - (0 + 0 + kept_size (node x y)) ≡ o = omega arith in
      rw (lt-ltb o m (omega (arith, kept_size-some (node x y) (some x y))), le-ltb m e (omega arith), k) (put-nil w (spot f b (o - 1)) ∙ ew)
  top-put (node x y) none h em eo lt ew =
      let k : e - (0 + kept_size (node x y) + 0) ≡ o = omega arith in
      rw (le-ltb o m (omega arith), k) (put-nil w (spot f b (o - 1)) ∙ ew)
  top-put (node x y) (node z u) h em eo lt ew =
      let k : e - (1 + kept_size (node x y) + kept_size (node z u)) ≡ o - 1 = omega arith in
      let d : m - (o - 1) ≡ 1 + kept_size (node z u) = omega arith in
      let q : o - 1 + 1 ≡ o = omega arith in
      rw (lt-ltb o m (omega (arith, kept_size-some (node z u) (some z u))), lt-ltb m e (omega (arith, kept_size-some (node x y) (some x y))), k, d, ew)
      (put-before-at v (spot f b (o - 1)) (spot f b o) (node_words f p (1 + kept_size (node z u))) (kept_enc f (snoc p true) (node z u) ++ kept_enc f (snoc p false)
      (node x y))
      (rw (length-node_words f p (1 + kept_size (node z u)), spot-next f b (o - 1) (omega arith), q)))

module _ (f : ℕ) (p : Bits) (o m e : ℕ) where
  pub top-low : m ≤ o → top_words f p o m e ≡ []
  unfolding top_words
  top-low le = rw (le-ltb o m le)

  pub top-high : o < m → e ≤ m → top_words f p o m e ≡ []
  unfolding top_words
  top-high lt le = rw (lt-ltb o m lt, le-ltb m e le)

  pub top-both : o < m → m < e → top_words f p o m e ≡ node_words f p (m - (o - 1))
  unfolding top_words
  top-both lt g = rw (lt-ltb o m lt, lt-ltb m e g)

-- What is written of a trie over its halves.
pub Node≢ : (k : ℕ) → (Empty ≡ Node k → ⊥) × (Full ≡ Node k → ⊥)
Node≢ k = (λ q. let z : ◌≡◌ {A = ℕ} 0 1 = cc in omega arith, λ q. let z : ◌≡◌ {A = ℕ} 0 1 = cc in omega arith)

still : (f : ℕ) (j : Bool) (b : ℕ) (v : List ℕ) (p p₀ p₁ : Bits) (e s q : ℕ) (l r : Trie) → ((k : ℕ) → answer (glue j l r) ≡ Node k → ⊥)
    → put (put v s (body f p₀ l)) q (body f p₁ r) ≡ put v (spot f b (e - kept_size (glue j l r))) (body f p (glue j l r))
unfolding body
still f j b v p p₀ p₁ e s q = by-glue (λ l r t. ((k : ℕ) → answer t ≡ Node k → ⊥)
    → put (put v s (body f p₀ l)) q (body f p₁ r) ≡ put v (spot f b (e - kept_size t)) (body f p t)) j
    (λ g. put-nil (put v s []) q ∙ put-nil v s ∙ sym (put-nil v (spot f b (e - kept_size none)))) (λ h g. put-nil (put v s []) q ∙ put-nil v s
    ∙ sym (put-nil v (spot f b (e - kept_size leaf))))
    (λ l r h g. absurd (g (kept_size (node l r)) (answer-node l r h)))

answer-glue : (j : Bool) (k : ℕ) (l r : Trie) → answer (glue j l r) ≡ Node k → (glue j l r ≡ node l r) × (bare l r ≡ false)
unfolding answer
answer-glue j k = by-glue (λ l r t. answer t ≡ Node k → (t ≡ node l r) × (bare l r ≡ false)) j (λ q. absurd ((Node≢ k).0 q)) (λ h q. absurd ((Node≢ k).1 q))
    (λ l r h q. (refl, h))

bare-mixed : (l r : Trie) → bare l r ≡ false → kind_of (node l r) ≡ mixed
bare-mixed l r e = rw e

-- the numbers that the writes ask for
pub record Numbers (f n b o m e : ℕ) (x y : Emitted) : Type 0 where
  pub first : o ≤ m
  pub second : m ≤ e
  pub full-l : x ≡ Full → (1 ≤ m) × (spot f b m + stride f ≤ n)
  pub full-r : y ≡ Full → (1 ≤ o) × (spot f b o + stride f ≤ n)
  pub top-room : o < m → m < e → (1 < o) × (spot f b (o - 1) + stride f ≤ n)
  pub few : e ≤ 4194305
  pub low : b < 1073741824

module _ {f : ℕ} {v w : List ℕ} {b : ℕ} {j : Bool} {p : Bits} {e : ℕ} {x y : Emitted} {l r : Trie} (h : Pending f v w b j p e x y l r) (a : Emitted)
    (answers : a ≡ answer (glue j l r)) where
  pub finish-flat : ((k : ℕ) → a ≡ Node k → ⊥) → Emits f v w b p e a (glue j l r)
  finish-flat nn = record {
    answers = answers;
    wrote = h.wrote ∙ still f j b v p (snoc p false) (snoc p true) e (spot f b (e - kept_size l)) (spot f b
        (e - kept_size l - kept_size r)) l r (λ k q. nn k (answers ∙ q));
  }

  module _ (k : ℕ) (is : a ≡ Node k) (m o : ℕ) (em : m ≡ e - size_of x) (eo : o ≡ m - size_of y) where
    whole : (glue j l r ≡ node l r) × (bare l r ≡ false)
    whole = answer-glue j k l r (sym answers ∙ is)

    enough : (spot f b e ≤ length w) × (kept_size (node l r) < e) × (e ≤ 4194305) × (b < 1073741824)
    enough = let q = whole in rw q.0 at (h.room (rw q.0 (bare-mixed l r q.1)))

    ends : (m + kept_size l ≡ e) × (o + kept_size r ≡ m) × (1 ≤ o)
    ends = omega (arith, em, eo, size_is x l h.both.first, size_is y r h.both.second, kept_size-halves l r, enough)

    full-one : (z : Emitted) (t : Trie) → z ≡ answer t → z ≡ Full → 1 ≤ kept_size t
    full-one z t q full = let g : size_of z ≡ 1 = rw full in omega (arith, size_is z t q)

    two : (l r : Trie) → kept_size (node l r) < e → (kept_size l ≡ 0 → ⊥) → (kept_size r ≡ 0 → ⊥) → 1 + kept_size l + kept_size r < e
    two l r lt nl nr = omega (arith, kept_size-both l r nl nr)

    pub numbers : Numbers f (length w) b o m e x y
    numbers =
        let d = ends in
        let n = enough in
        record {
          first = omega arith;
          second = omega arith;
          full-l = λ z. let k = full-one x l h.both.first z in (omega arith, omega (arith, n.0, spot-before f b m e (omega arith) (omega arith)));
          full-r = λ z. let k = full-one y r h.both.second z in (omega arith, omega (arith, n.0, spot-before f b o e (omega arith) (omega arith)));
          top-room = λ p q. let k = two l r n.1 (λ z. omega arith) (λ z. omega arith) in
              (omega arith, omega (arith, n.0, spot-before f b (o - 1) e (omega arith) (omega arith)));
          few = n.2;
          low = n.3;
        }

    pub finish-node : (w₁ w₂ w₃ : List ℕ) → w₁ ≡ put w (spot f b m) (rest_of f (snoc p false) x) → w₂ ≡ put w₁ (spot f b o) (rest_of f (snoc p true) y)
        → w₃ ≡ put w₂ (spot f b (o - 1)) (top_words f p o m e) → Emits f v w₃ b p e a (glue j l r)
    unfolding body
    finish-node w₁ w₂ w₃ e₁ e₂ e₃ =
        let d = ends in
        let g = whole in
        let pm : e - kept_size l ≡ m = omega arith in
        let po : m - kept_size r ≡ o = omega arith in
        let z : w₂ ≡ put v (spot f b o) (kept_enc f (snoc p true) r ++ kept_enc f (snoc p false) l) =
        rw (e₂, e₁, h.wrote, h.both.first, h.both.second, pm, po) (halves-put f v (spot f b o) (spot f b m) (snoc p false) (snoc p true) l r (rw (← d.1) (sym
        (spot_on f b o (kept_size r) d.2)))) in
        record {
          answers = answers;
          wrote = rw (g.0, bare-mixed l r g.1) (e₃ ∙ top-put f v w₂ b p o m e l r g.1 d.0 d.1 enough.1 z);
        }

-- the strings of the node and of its halves are not too long
module _ {f : ℕ} {v w : List ℕ} {b : ℕ} {j : Bool} {p : Bits} {e : ℕ} {x y : Emitted} {l r : Trie} (h : Pending f v w b j p e x y l r) where
  pub path-within : length p ≤ width f
  path-within = omega (arith, h.short)

  pub half-within : (c : Bool) → length (snoc p c) ≤ width f
  half-within c = omega (arith, h.short, length-snoc p c)

-- the length of a string's network
pub len_of : {n : Net} (f : ℕ) (q : Bits) → n ≡ net_from f q → length q ≡ n.len
len_of {n} f q is = sym (path-is n f q is).0

-- A whole result, which begins at node o: the leaf that its answer may leave has its place, and once it is written all is.
module _ {f : ℕ} {w v : List ℕ} {b : ℕ} {p : Bits} {e : ℕ} {x : Emitted} {t : Trie} (h : Emits f w v b p e x t) (o : ℕ) (q : o + kept_size t ≡ e) where
  pub leaf-place : {n : ℕ} → KeptRoom f w b n → 1 ≤ o → e ≤ suc n → x ≡ Full → (1 ≤ o) × (spot f b o + stride f ≤ length v)
  leaf-place r one le z =
      let k : size_of x ≡ 1 = rw z refl in
      (one, rw h.wrote (spot-within o (room-put (spot f b (e - kept_size t)) (body f p t) r) one (omega (arith, size_is x t h.answers))))

  pub all-written : {z : List ℕ} → z ≡ put v (spot f b o) (rest_of f p x) → z ≡ put w (spot f b o) (kept_enc f p t)
  all-written d =
      let k : e - kept_size t ≡ o = omega arith in
      d ∙ rw (h.wrote, h.answers, k) (rest_put f p t w (spot f b o))
