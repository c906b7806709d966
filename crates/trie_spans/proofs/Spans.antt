-- Tries by where they begin and end: what stands there, its kind, its halves, and the same as the number of a source. Assumes nothing.
use mathlib.Core.Bool.{Bool, true, false, cond, true≢false}
use mathlib.Core.List.{List}
use mathlib.Core.Path.{◌≡◌, refl, sym, ap, ◌∙◌}
use Prim.Native.Nat.{ℕ, ◌+◌, ◌/◌, ◌≤◌, ◌<◌}
use native.Mathlib.Numerals.{one-add}
use native.Mathlib.Omega.{arith}
use borrow.Author.Tests.{ltb-false, le-ltb}
use lib.Dec.{ltb}
use lib.ListN.{length}
use Rattle.nets.specs.Tries.{Trie, none, node, size, is_none, bare, side}
use Rattle.nets.specs.TrieOps.{flat, mixed, kind_of, half}
use Rattle.nets.proofs.Operate.{flat≢mixed}
use Rattle.nodes.specs.Words.{place, word_at, word, link0, link1}
use Rattle.nodes.specs.Segments.{middle_of}
use Rattle.nodes.proofs.Segments.{none_is}
use Rattle.nodes.proofs.Tries.{length-enc, size-node, word-second}
use Rattle.trie_emit.specs.Combine.{rank, Here, Means, nothing, everything, standing}
use Rattle.trie_emit.proofs.Sources.{kind-place, kind-leaf, kind-inner, parts, inside}
use Rattle.trie_spans.specs.Extents.{Span, last_ahead}

pub size_none : size none ≡ 0
unfolding size
size_none = refl

-- A span as the number of a source, and back.
module _ {w : List ℕ} {b o g i e : ℕ} where
  pub span-means : (t : Trie) → Span w b o g i e t → Means w b o g (cond (is_none t) 0 i) t
  span-means none s = nothing
  span-means (node l r) s = standing (s.here refl)

  pub some-means : (t : Trie) → Span w b o g i e t → (i ≡ e → ⊥) → Means w b o g i t
  unfolding size
  some-means none s f = absurd (f (omega (arith, s.end)))
  some-means (node l r) s f = standing (s.here refl)

  some-few : (t : Trie) → Span w b o g i e t → (i ≡ e → ⊥) → (1 ≤ i) × (i < 4294967295)
  unfolding size
  some-few none s f = absurd (f (omega (arith, s.end)))
  some-few (node l r) s f = let h = s.here refl in (h.one, omega (arith, h.few))

here_of : {w : List ℕ} {b o g : ℕ} (i : ℕ) (t : Trie) → Means w b o g i t → i < 4294967295 → is_none t ≡ false → Here w b o g i t
here_of i t nothing lt e = absurd (true≢false e)
here_of i t everything lt e = absurd (omega arith)
here_of i t (standing h) lt e = h

pub means-span : {w : List ℕ} {b o g i e : ℕ} (t : Trie) → Means w b o g (cond (is_none t) 0 i) t → i < 4294967295 → e ≡ i + size t → Span w b o g i e t
means-span {w} {b} {o} {g} {i} t m lt q = record { here = λ n. go (rw n at m) n; end = q }
  where
    go : Means w b o g i t → is_none t ≡ false → Here w b o g i t
    go m n = here_of i t m lt n

pub number-span : {w : List ℕ} {b o g e : ℕ} (i : ℕ) (t : Trie) → Means w b o g i t → i < 4294967295 → e ≡ i + size t → Span w b o g i e t
number-span i t m lt q = record { here = here_of i t m lt; end = q }

-- Where it ends: the last children lead to the last leaf.
pub record Last (w : List ℕ) (b o g k e : ℕ) : Type 0 where
  pub l : Trie
  pub r : Trie
  pub here : Here w b o g k (node l r)
  pub end : k + size (node l r) ≡ e

pub last-start : {w : List ℕ} {b o g : ℕ} (i : ℕ) (t : Trie) → Means w b o g i t → i < 4294967295 → (i ≡ 0 → ⊥) → Last w b o g i (i + size t)
last-start i t nothing lt f = absurd (f refl)
last-start i t everything lt f = absurd (omega arith)
last-start i t (standing {l = l} {r = r} h) lt f = record { l = l; r = r; here = h; end = refl }

pub last_none : {w : List ℕ} {b o g : ℕ} (i : ℕ) (t : Trie) → Means w b o g i t → i ≡ 0 → 0 ≡ i + size t
unfolding size
last_none i t nothing e = refl
last_none i t everything e = absurd (omega arith)
last_none i t (standing h) e = absurd (omega (arith, h.one))

leaf-size : (l r : Trie) → word l r ≡ 0 → size (node l r) ≡ 1
unfolding word link0 link1 size
leaf-size none none e = refl
leaf-size none (node x y) e = absurd (omega arith)
leaf-size (node x y) r e = absurd (omega arith)

last_step : {w : List ℕ} {b o g k e : ℕ} (l r : Trie) → Here w b o g k (node l r) → (x : ℕ) → x ≡ word l r → (x ≡ 0 → ⊥) → k + size (node l r) ≡ e → Last w b o g (k + last_ahead x) e
unfolding size word link0 link1
last_step none none h x q f p = absurd (f q)
last_step {k = k} (node y z) none h x q f p =
    let one : x ≡ 1 = omega arith in
    rw one (record { l = y; r = z; here = inside h (k + 1) (node y z) (parts h).left (omega arith) (omega arith); end = omega arith })
last_step {k = k} l (node y z) h x q f p =
    let two : x / 2 ≡ 1 + size l = ap (λ n. n / 2) q ∙ word-second l (node y z) in
    let far : k + (1 + size l) ≡ k + 1 + size l = omega arith in
    rw (le-ltb x 2 (omega arith), two, far) (record { l = y; r = z; here = inside h (k + 1 + size l) (node y z) (parts h).right (omega arith) (omega arith); end = omega arith })

pub ahead-some : (x : ℕ) → 1 ≤ last_ahead x
ahead-some x = go (ltb x 2) refl
  where
    go : (b : Bool) → ltb x 2 ≡ b → 1 ≤ cond b 1 (x / 2)
    go true e = omega arith
    go false e = omega (arith, ltb-false x 2 e)

module _ {w : List ℕ} {b o g k e : ℕ} (h : Last w b o g k e) where
  pub last_fits : (1 ≤ k) × (place b k < length w) × (k < 1073741824)
  last_fits =
      let n = size-node h.l h.r in
      let q = length-enc (node h.l h.r) in
      (h.here.one, omega (arith, h.here.has.fits), omega (arith, h.here.few))

  module _ (x : ℕ) (ex : x ≡ word_at w b k) where
    root : x ≡ word h.l h.r
    root = ex ∙ (parts h.here).root

    pub last_leaf : x ≡ 0 → k + 1 ≡ e
    last_leaf q = omega (arith, h.end, leaf-size h.l h.r (sym root ∙ q))

    pub last_on : (x ≡ 0 → ⊥) → Last w b o g (k + last_ahead x) e
    last_on f = last_step h.l h.r h.here x root f h.end

-- Its kind.
module _ {w : List ℕ} {b o g i e : ℕ} (t : Trie) (s : Span w b o g i e t) where
  pub span_none : i ≡ e → t ≡ none
  span_none q = none_is t (omega (arith, s.end))

  pub span-empty : i ≡ e → 0 ≡ rank (kind_of t)
  span-empty q = rw (span_none q)

  module _ (f : i ≡ e → ⊥) where
    pub span-place : (1 ≤ i) × (place b i < length w)
    span-place = let n = some-few t s f in kind-place i t (some-means t s f) (λ q. omega arith) (λ q. omega arith)

    pub span-leaf : word_at w b i ≡ 0 → 2 ≡ rank (kind_of t)
    span-leaf = let n = some-few t s f in kind-leaf i t (some-means t s f) (λ q. omega arith) (λ q. omega arith)

    pub span-inner : (word_at w b i ≡ 0 → ⊥) → 1 ≡ rank (kind_of t)
    span-inner = let n = some-few t s f in kind-inner i t (some-means t s f) (λ q. omega arith) (λ q. omega arith)

-- A node with a child: its children, and where the second begins.
pub record Fork (w : List ℕ) (b o g i e : ℕ) (t : Trie) : Type 0 where
  pub l : Trie
  pub r : Trie
  pub is : t ≡ node l r
  pub inner : bare l r ≡ false
  pub here : Here w b o g i (node l r)
  pub end : e ≡ i + size (node l r)

mixed-inner : (l r : Trie) → kind_of (node l r) ≡ mixed → bare l r ≡ false
mixed-inner l r = go (bare l r)
  where
    go : (x : Bool) → cond x (flat true) mixed ≡ mixed → x ≡ false
    go true e = absurd (flat≢mixed true e)
    go false e = refl

pub fork-of : {w : List ℕ} {b o g i e : ℕ} (t : Trie) → Span w b o g i e t → kind_of t ≡ mixed → Fork w b o g i e t
fork-of none s k = absurd (flat≢mixed false k)
fork-of (node l r) s k = record { l = l; r = r; is = refl; inner = mixed-inner l r k; here = s.here refl; end = s.end }

middle-is : (l r : Trie) (i e : ℕ) → e ≡ i + 1 + size l + size r → middle_of (link1 l r) i e ≡ i + 1 + size l
unfolding link1 size
middle-is l none i e h = omega arith
middle-is l (node x y) i e h = more (size l)
  where
    more : (s : ℕ) → middle_of (1 + s) i e ≡ i + 1 + s
    more s = rw (one-add s) (omega arith)

module _ {w : List ℕ} {b o g i e : ℕ} {t : Trie} (f : Fork w b o g i e t) where
  pub fork-word : word_at w b i ≡ word f.l f.r
  fork-word = (parts f.here).root

  -- the numbers are small
  pub fork-fits : (1 ≤ i) × (place b i < length w) × (e ≤ 1073741824) × (i < e) × (place b e ≤ length w)
  fork-fits =
      let h = f.here in
      let n = size-node f.l f.r in
      let q = length-enc (node f.l f.r) in
      (h.one, omega (arith, h.has.fits), omega (arith, h.few, f.end), omega (arith, f.end), omega (arith, h.has.fits, h.one, f.end))

  pub fork-middle : (m : ℕ) → m ≡ middle_of (word_at w b i / 2) i e → m ≡ i + 1 + size f.l
  fork-middle m q = q ∙ rw (fork-word, word-second f.l f.r) (middle-is f.l f.r i e (omega (arith, f.end, size-node f.l f.r)))

  pub fork-half : (s : Bool) → half s t ≡ side s f.l f.r
  fork-half s = rw (f.is, f.inner)

  left_here : Here w b o g (i + 1) f.l
  left_here = inside f.here (i + 1) f.l (parts f.here).left (omega arith) (omega (arith, size-node f.l f.r))

  right-here : Here w b o g (i + 1 + size f.l) f.r
  right-here = inside f.here (i + 1 + size f.l) f.r (parts f.here).right (omega arith) (omega (arith, size-node f.l f.r))

  module _ (m : ℕ) (q : m ≡ i + 1 + size f.l) where
    pub fork-left : Span w b o g (i + 1) m (half false t)
    fork-left = rw (fork-half false, q) (record { here = λ n. left_here; end = refl })

    pub fork-right : Span w b o g m e (half true t)
    fork-right = rw (fork-half true, q) (record { here = λ n. right-here; end = omega (arith, f.end, size-node f.l f.r) })
