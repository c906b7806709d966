-- A trie in which nothing joins, moved as a block: what is answered and written of it. Assumes nothing.
use mathlib.Core.Bool.{false, true, true≢false}
use mathlib.Core.List.{List}
use mathlib.Core.Path.{◌≡◌, refl, sym, ◌∙◌}
use Prim.Native.Nat.{ℕ, ◌+◌, ◌-◌, ◌≤◌, ◌<◌}
use native.Mathlib.Omega.{arith}
use lib.ListN.{length, take, drop}
use Rattle.nets.specs.Tries.{Trie, none, node, leaf, size, bare, simplify_t}
use Rattle.nets.specs.TrieOps.{mixed, kind_of}
use Rattle.nodes.specs.Words.{put, Has, place, enc}
use Rattle.nodes.specs.Segments.{Segment}
use Rattle.nodes.proofs.Has.{has-front, has-seg, has_same}
use Rattle.nodes.proofs.Segments.{none_is, segment-fit, segment-right}
use Rattle.nodes.proofs.Tries.{length-enc}
use Rattle.trie_emit.specs.Answers.{answer, body, Emits}
use Rattle.trie_blocks.specs.Simplify.{Source}
use Rattle.trie_emit.specs.declared.emitting.Emitted.TheVariants.{Empty, Full, Node}
use Rattle.trie_emit.proofs.Answers.{by_kind, emits-flat}
use Rattle.trie_blocks.proofs.Simplify.{Fork}
use Rattle.trie_blocks.specs.Joins.{Apart}
use Rattle.trie_blocks.proofs.Plain.{Block, apart-simple, apart-kept}

segment-block : {w : List ℕ} {b i e u : ℕ} {t : Trie} {rest : List ℕ} → Segment w b i e u t rest → Block w b i e t
segment-block {t = t} {rest = rest} g = record { has = has-front (enc t) rest g.has; one = g.one; end = g.end }

-- A trie by its nodes.
pub some-child : (l r : Trie) → bare l r ≡ false → 1 ≤ size l + size r
unfolding size
some-child none none e = absurd (true≢false e)
some-child none (node c d) e = omega arith
some-child (node a b) r e = omega arith

pub size-one : (t : Trie) → size t ≡ 1 → t ≡ leaf
unfolding size
size-one = by_kind (λ t. size t ≡ 1 → t ≡ leaf) (λ e. absurd (omega arith)) (λ e. refl) (λ l r b e. absurd (omega (arith, some-child l r b)))

pub size-more : (t : Trie) → 2 ≤ size t → kind_of t ≡ mixed
unfolding size
size-more = by_kind (λ t. 2 ≤ size t → kind_of t ≡ mixed) (λ e. absurd (omega arith)) (λ e. absurd (omega arith)) (λ l r b e. rw b)

pub answer-mixed : (o : ℕ) (t : Trie) → kind_of t ≡ mixed → answer o t ≡ Node (o + size t)
unfolding answer
answer-mixed o t k = rw k

pub body-mixed : (t : Trie) → kind_of t ≡ mixed → body t ≡ enc t
unfolding body
body-mixed t k = rw k

module _ {w : List ℕ} {b i e o fuel : ℕ} {t : Trie} (s : Source w b i e o fuel t) (a : Apart w b i e e) where
  simple : simplify_t t ≡ t
  simple = apart-simple (segment-block s.here) a

  stands : Has w (place b i) (enc t)
  stands = (segment-block s.here).has

  pub moved_none : i ≡ e → Emits w w b o Empty (simplify_t t)
  unfolding simplify_t
  moved_none q = rw (none_is t (omega (arith, s.here.end))) (emits-flat w b o false)

  pub moved-leaf : i + 1 ≡ e → Emits w w b o Full (simplify_t t)
  unfolding simplify_t
  moved-leaf q = rw (size-one t (omega (arith, s.here.end))) (emits-flat w b o true)

  module _ (some : i ≡ e → ⊥) (more : i + 1 ≡ e → ⊥) where
    big : kind_of t ≡ mixed
    big = size-more t (omega (arith, s.here.end))

    block : {v : List ℕ} {n : ℕ} → n ≡ o + size t → v ≡ put w (place b o) (enc t) → Emits w v b o (Node n) (simplify_t t)
    block q p = rw simple (record { answers = rw q (sym (answer-mixed o t big)); wrote = rw (body-mixed t big) p })

    pub moved_same : i ≡ o → Emits w w b o (Node e) (simplify_t t)
    moved_same q = block (omega (arith, s.here.end)) (rw (← q) (sym (has_same stands)))

    pub moved-fits : (1 ≤ i) × (1 ≤ o) × (i ≤ e) × (place b i + (e - i) ≤ length w) × (place b o + (e - i) ≤ length w) × (e < 1073741824) × (o ≤ i) × (b < 1073741824)
    moved-fits =
        let f = segment-fit s.here in
        let n = s.here.end in
        let x = s.here.one in
        let y = s.one in
        let z = s.behind in
        (x, y, omega arith, omega arith, omega arith, omega (arith, s.here.few), z, s.here.low)

    pub moved-put : {v : List ℕ} → v ≡ put w (place b o) (take (e - i) (drop (place b i) w)) → Emits w v b o (Node (o + (e - i))) (simplify_t t)
    moved-put p =
        let n : e - i ≡ length (enc t) = omega (arith, s.here.end, length-enc t) in
        block (omega (arith, s.here.end)) (p ∙ rw n (rw (has-seg stands)))

-- Going down: what is known of a node is known of its children, and of the second also once something is written of the first.
pub segment-asks : {w : List ℕ} {b m e u : ℕ} {t : Trie} {rest : List ℕ} → Segment w b m e u t rest
    → (1 ≤ m) × (m ≤ 1073741824) × (place b e ≤ length w) × (e ≤ 1073741824)
segment-asks g =
    let f = segment-fit g in
    let x = g.one in
    let y = g.few in
    let z = g.end in
    (x, omega arith, omega arith, omega arith)

module _ {w : List ℕ} {b i e o fuel m next : ℕ} {l r : Trie} (d : Fork w b i e o fuel m l r) (a : Apart w b i e next) where
  pub left-apart : Apart w b (i + 1) m next
  unfolding size
  left-apart = record { no = λ j le lt fit. a.no j (omega arith) lt (omega (arith, d.middle, d.src.here.end)) }

  pub right-apart : {v : List ℕ} {u : ℕ} {rest : List ℕ} → Segment v b m e u r rest → Apart v b m e next
  right-apart k =
      let g = segment-right d.src.here in
      let h : Apart w b (i + 1 + size l) e next = record { no = λ j le lt fit. a.no j (omega arith) lt fit } in
      apart-kept (segment-block (rw (← d.middle) at g)) (segment-block k) (rw (← d.middle) at h)

pub whole_apart : {w : List ℕ} {b i e next : ℕ} → Apart w b i e next → e ≤ next → Apart w b i e e
whole_apart a q = record { no = λ j le lt fit. a.no j le (omega arith) fit }
