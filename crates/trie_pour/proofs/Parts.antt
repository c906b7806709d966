-- What is found of a part, its halves, and what is written: a part at another place, and the node over two halves. Assumes nothing.
use mir.Val.{bool_byte}
use mathlib.Core.Bool.{Bool, true, false, ◌||◌, false≢true}
use mathlib.Core.List.{List, [], ◌∷◌, ◌++◌, append-nil}
use mathlib.Core.Path.{◌≡◌, refl, sym, ◌∙◌}
use Prim.Native.Nat.{ℕ, ◌+◌, ◌-◌, ◌≤◌, ◌<◌}
use native.Mathlib.Omega.{arith}
use lib.ListN.{length, take, drop}
use Rattle.nets.specs.Tries.{Trie, none, node, leaf, size, bare, glue}
use Rattle.nodes.specs.Words.{put, Has, place, enc}
use Rattle.nodes.specs.Links.{linked}
use Rattle.nodes.specs.Segments.{Segment, view_of}
use Rattle.nodes.specs.declared.steps.View.TheVariants.{Nothing, Leaf, Inner}
use Rattle.nodes.proofs.Put.{put-nil, put-behind-at, put-before-at}
use Rattle.nodes.proofs.Has.{has-front, has-put, has-seg, has_same}
use Rattle.nodes.proofs.Tries.{length-enc, size-node, enc-leaf}
use Rattle.nodes.proofs.Linked.{linked-is}
use Rattle.nodes.proofs.Segments.{none_is, segment-fit, segment-left, segment-right}
use Rattle.nodes.proofs.Views.{view-none, view-leaf, view-inner}
use Rattle.trie_emit.proofs.Answers.{by-glue}
use Rattle.trie_pour.specs.declared.Turn.TheVariants.{Settled, Halves}
use Rattle.trie_pour.specs.Pour.{flat_t, is_all, is_flat}
use Rattle.trie_pour.specs.Parts.{Part, whole, standing, Split, Says, Into, TrieWritten, Room, Keeps, Closing}

-- A trie by itself, without what stands behind it.
pub narrow : {w : List ℕ} {b i e u : ℕ} {t : Trie} {rest : List ℕ} → Segment w b i e u t rest → Segment w b i e e t []
narrow {e = e} {t = t} {rest = rest} g = record {
  has = rw (append-nil (enc t)) (has-front (enc t) rest g.has);
  one = g.one;
  end = g.end;
  used = omega arith;
  few = omega (arith, g.few, segment-fit g);
  low = g.low;
}

pub words : {w : List ℕ} {b i e : ℕ} {t : Trie} → Segment w b i e e t [] → Has w (place b i) (enc t)
words {t = t} g = rw (append-nil (enc t)) at g.has

pub stands-low : {w : List ℕ} {b i e : ℕ} {t : Trie} → Segment w b i e e t [] → i < 1073741824
stands-low g = omega (arith, g.end, g.few)

module _ {w : List ℕ} {b : ℕ} where
  pub part-stands : {i e : ℕ} (t : Trie) → Part w b i e t → (i ≡ 0 → ⊥) → Segment w b i e e t []
  part-stands t whole n = absurd (n refl)
  part-stands t (standing g) n = g

  pub part-whole : {i e : ℕ} (t : Trie) → Part w b i e t → i ≡ 0 → (t ≡ leaf) × (e ≡ 0)
  part-whole t whole n = (refl, refl)
  part-whole t (standing g) n = absurd (omega (arith, g.one))

-- The children of a node, each by itself.
module _ {w : List ℕ} {b i e : ℕ} (l r : Trie) (m : ℕ) (q : m ≡ i + 1 + size l) (g : Segment w b i e e (node l r) []) where
  pub child-left : Segment w b (i + 1) m m l []
  child-left = rw q (narrow (segment-left g))

  pub child-right : Segment w b m e e r []
  child-right = rw q (narrow (segment-right g))

-- What is found.
split-inner : {w : List ℕ} {b i e : ℕ} (l r : Trie) (m : ℕ) → m ≡ i + 1 + size l → bare l r ≡ false → Segment w b i e e (node l r) [] → Split w b i e (node l r) (i + 1) m e
split-inner l r m q f g = record {
  left = rw f (standing (child-left l r m q g));
  right = rw f (standing (child-right l r m q g));
  inner = λ h. (refl, refl, f);
  order = (omega (arith, q), omega (arith, (child-right l r m q g).end));
}

module _ {w : List ℕ} {b i e : ℕ} (t : Trie) (p : Part w b i e t) where
  split-whole : t ≡ leaf → Split w b i e t 0 0 0
  split-whole q = rw q (record { left = whole; right = whole; inner = λ h. absurd (omega arith); order = (omega arith, omega arith) })

  pub says-whole : i ≡ 0 → Says w b i e true false t Settled
  says-whole n = rw (part-whole t p n).0

  pub says-split : i ≡ 0 → Says w b i e false false t (Halves 0 0 0)
  says-split n = let q = (part-whole t p n).0 in (rw q, split-whole q)

  pub says-leaf : Leaf ≡ view_of i t → Says w b i e true false t Settled
  says-leaf v = rw (view-leaf i t v)

  pub says-leaf-split : Leaf ≡ view_of i t → Says w b i e false false t (Halves 0 0 0)
  says-leaf-split v = let q = view-leaf i t v in (rw q, split-whole q)

  pub says_none : Nothing ≡ view_of i t → Says w b i e false false t Settled
  says_none v = rw (view-none i t v)

  module _ (n : i ≡ 0 → ⊥) where
    nothing : t ≡ none → Segment w b i i i none []
    unfolding size
    nothing q = let g : Segment w b i e e none [] = rw q at (part-stands t p n) in let z : e ≡ i = omega (arith, g.end) in rw z at g

    pub says-none-split : Nothing ≡ view_of i t → Says w b i e true false t (Halves i i i)
    says-none-split v =
        let q = view-none i t v in
        let g = nothing q in
        (rw q, rw q (record { left = standing g; right = standing g; inner = λ h. absurd (omega arith); order = (omega arith, omega arith) }))

    pub says-inner : (x : Bool) (m : ℕ) → Inner m ≡ view_of i t → Says w b i e x false t (Halves (i + 1) m e)
    says-inner x m v =
        let k = view-inner i m t v in
        let g : Segment w b i e e (node k.l k.r) [] = rw k.is at (part-stands t p n) in
        rw k.is (closed x k.l k.r k.inner, split-inner k.l k.r m k.middle k.inner g)
      where
        closed : (x : Bool) (l r : Trie) → bare l r ≡ false → is_all x (node l r) ≡ false
        closed true l r e = e
        closed false l r e = refl

-- Whether it is gone into.
module _ (i : ℕ) (t : Trie) where
  pub into-flat : (y : Bool) → (y || is_flat t) ≡ true → Into i y t 0
  into-flat y h = record { flat = λ e. h; inner = λ n. absurd (n refl) }

  pub into-whole : Into i true t 0
  into-whole = into-flat true refl

  pub into-none : Nothing ≡ view_of i t → Into i false t 0
  into-none v = into-flat false (rw (view-none i t v))

  pub into-leaf : Leaf ≡ view_of i t → Into i false t 0
  into-leaf v = into-flat false (rw (view-leaf i t v))

  pub into-inner : (m : ℕ) → Inner m ≡ view_of i t → Into i false t m
  into-inner m v = let k = view-inner i m t v in record { flat = λ e. absurd (omega (arith, k.middle)); inner = λ n. (refl, k) }

-- Writing.
pub flat-full : {w v : List ℕ} {b o : ℕ} → v ≡ put w (place b o) (0 ∷ []) → TrieWritten w v b o (o + 1) leaf
unfolding size
flat-full e = record { wrote = rw enc-leaf e; end = omega arith }

pub flat-none : (w : List ℕ) (b o : ℕ) → TrieWritten w w b o o none
unfolding enc size
flat-none w b o = record { wrote = sym (put-nil w (place b o)); end = omega arith }

pub flat-fits : {w : List ℕ} {b o : ℕ} → Room w b o (size leaf) → (1 ≤ o) × (place b o < length w)
unfolding size
flat-fits r = let f = r.fits (λ e. omega arith) in (r.one, omega (arith, r.one))

-- A part at another place.
module _ {w : List ℕ} {b i e o : ℕ} {t : Trie} (k : Keeps w b i e o t) where
  pub keep-room : i ≡ 0 → Room w b o (size leaf)
  keep-room n = rw (part-whole t k.part n).0 at k.room

  pub keep-whole : i ≡ 0 → {v : List ℕ} {r : ℕ} → TrieWritten w v b o r leaf → TrieWritten w v b o r t
  keep-whole n h = rw (part-whole t k.part n).0 h

  module _ (n : i ≡ 0 → ⊥) where
    abbrev stands : Segment w b i e e t []
    stands = part-stands t k.part n

    pub keep-none : i ≡ e → TrieWritten w w b o o t
    keep-none q = rw (none_is t (omega (arith, stands.end))) (flat-none w b o)

    pub keep_same : i ≡ o → TrieWritten w w b o e t
    keep_same q = record { wrote = rw (← q) (sym (has_same (words stands))); end = rw (← q) stands.end }

    pub keep-fits : (i ≡ e → ⊥) → (1 ≤ i) × (i ≤ e) × (e < 1073741824) × (place b i + (e - i) ≤ length w) × (1 ≤ o) × (place b o + (e - i) ≤ length w) × (o + (e - i) < 1073741824) × (b < 1073741824)
    keep-fits q =
        let g = stands in
        let f = k.room.fits (λ z. q (omega (arith, g.end))) in
        let h = (words g).fits in
        let s = g.end in
        let o1 = k.room.one in
        let i1 = g.one in
        (i1, omega arith, g.few, omega (arith, length-enc t), o1, omega arith, omega arith, g.low)

    pub keep-moved : {v : List ℕ} → v ≡ put w (b + (o - 1)) (take (e - i) (drop (b + (i - 1)) w)) → TrieWritten w v b o (o + (e - i)) t
    keep-moved h =
        let g = stands in
        let s : e - i ≡ length (enc t) = omega (arith, g.end, length-enc t) in
        record { wrote = h ∙ rw (s, has-seg (words g)); end = omega (arith, g.end) }

-- The node over two halves.
pub glue-node : (l r : Trie) → (size l + size r ≡ 0 → ⊥) → glue false l r ≡ node l r
unfolding size
glue-node = by-glue (λ l r t. (size l + size r ≡ 0 → ⊥) → t ≡ node l r) false (λ n. absurd (n refl)) (λ h n. absurd (false≢true h)) (λ l r e n. refl)

module _ {v w : List ℕ} {b o m e : ℕ} {l r : Trie} (k : Closing v w b o m e l r) where
  pub close-none : e ≡ o + 1 → TrieWritten v w b o o (glue false l r)
  unfolding enc
  close-none q =
      let a = none_is l (omega (arith, k.middle, k.end)) in
      let c = none_is r (omega (arith, k.middle, k.end)) in
      rw (a, c) (record { wrote = k.wrote ∙ rw (a, c) (put-nil (put v (place b (o + 1)) []) (place b m) ∙ put-nil v (place b (o + 1)) ∙ sym (put-nil v (place b o))); end = (flat-none v b o).end })

  module _ (n : e ≡ o + 1 → ⊥) where
    glued : glue false l r ≡ node l r
    glued = glue-node l r (λ z. n (omega (arith, k.middle, k.end)))

    whole-size : size (glue false l r) ≡ 1 + size l + size r
    whole-size = rw glued (size-node l r)

    pub close-fits : (1 ≤ o) × ((o ≤ m) × ((m < 2147483648) × (place b o < length w)))
    close-fits =
        let f = k.room.fits (λ z. omega (arith, whole-size)) in
        let one = k.room.one in
        let s = whole-size in
        (one, (omega (arith, k.middle), (omega (arith, k.middle), omega arith)))

    pub close-node : {u : List ℕ} → u ≡ put w (place b o) (linked o m e ∷ []) → TrieWritten v u b o e (glue false l r)
    unfolding enc
    close-node h =
        let one = k.room.one in
        record {
          wrote = rw glued (h ∙ rw (linked-is l r o m e k.middle k.end, k.wrote, k.middle, put-behind-at v (place b (o + 1)) (place b (o + 1 + size l)) (enc l) (enc r) (omega (arith, length-enc l)))
              (put-before-at v (place b o) (place b (o + 1)) _ (enc l ++ enc r) (omega arith)));
          end = omega (arith, whole-size, k.middle, k.end);
        }

-- How many nodes there are.
pub part-size : {w : List ℕ} {b i e : ℕ} {t : Trie} → Part w b i e t → (i ≡ 0 → ⊥) → (i ≤ e) × (e - i ≡ size t)
part-size {t = t} p n = let g = part-stands t p n in (omega (arith, g.end), omega (arith, g.end))

pub whole-nodes : {w : List ℕ} {b i e : ℕ} {t : Trie} → Part w b i e t → i ≡ 0 → 1 ≡ size t
unfolding size
whole-nodes {t = t} p n = rw (part-whole t p n).0

pub flat-byte : (x : Bool) → bool_byte x ≡ size (flat_t x)
unfolding size
flat-byte true = refl
flat-byte false = refl

pub over_none : (n : ℕ) → n ≡ 0 → (l r : Trie) → n ≡ size l + size r → 0 ≡ size (glue false l r)
unfolding size
over_none n e l r h = rw (none_is l (omega arith), none_is r (omega arith))

pub over-some : (n : ℕ) → (n ≡ 0 → ⊥) → (l r : Trie) → n ≡ size l + size r → n + 1 ≡ size (glue false l r)
over-some n e l r h = rw (glue-node l r (λ z. e (h ∙ z)), size-node l r) (omega arith)

-- What stands behind what is written stays.
pub segment-put : {w : List ℕ} {b i e : ℕ} {t : Trie} → Segment w b i e e t [] → (o : ℕ) (v : Trie) → 1 ≤ o → (i < e → o + size v ≤ i) → Segment (put w (place b o) (enc v)) b i e e t []
segment-put {w} {b} {i} {e} {t} g o v one h = record {
  has = rw (append-nil (enc t)) (has-put (place b o) (enc v) (words g)
      (λ k a c f n. let z = h (omega (arith, g.end, length-enc t)) in omega (arith, length-enc v, g.one)));
  one = g.one;
  end = g.end;
  used = g.used;
  few = g.few;
  low = g.low;
}

pub part-put : {w : List ℕ} {b i e : ℕ} {t : Trie} → Part w b i e t → (o : ℕ) (v : Trie) → 1 ≤ o → (i < e → o + size v ≤ i) → Part (put w (place b o) (enc v)) b i e t
part-put whole o v one h = whole
part-put (standing g) o v one h = standing (segment-put g o v one h)

-- The nodes of two halves, and of the node over them.
pub glue-left : (l r : Trie) → (size l ≡ 0 → ⊥) → size (glue false l r) ≡ 1 + size l + size r
glue-left l r n = rw (glue-node l r (λ z. n (omega arith))) (size-node l r)

pub glue-right : (l r : Trie) → (size r ≡ 0 → ⊥) → size (glue false l r) ≡ 1 + size l + size r
glue-right l r n = rw (glue-node l r (λ z. n (omega arith))) (size-node l r)
