-- What is found of a part, its halves, and what is written: a part at another place, and the node over two halves. Assumes nothing.
use mathlib.Core.Bool.{Bool, true, false}
use mathlib.Core.List.{List, [], append-nil}
use mathlib.Core.Path.{◌≡◌, refl, sym, ◌∙◌}
use Prim.Native.Nat.{ℕ, zero, suc, ◌+◌, ◌-◌, ◌*◌, ◌≤◌, ◌<◌}
use native.Mathlib.Omega.{arith}
use lib.ListN.{length, take, drop}
use Rattle.nets.specs.Bits.{Bits}
use Rattle.nets.specs.Tries.{Trie, none, node, leaf, is_none, bare, glue}
use Rattle.nets.specs.Networks.{width, net_from}
use Rattle.nets.specs.declared.Net.{Net}
use Rattle.nets.proofs.Glue.{glue-inner}
use Rattle.nets.proofs.Numbers.{width-le}
use Rattle.nodes.specs.Words.{put, Has}
use Rattle.nodes.proofs.Put.{put-nil}
use Rattle.nodes.proofs.Has.{has-front, has-put, has-seg, has_same}
use Rattle.nodes.proofs.Tries.{some}
use Rattle.trie_paths.specs.Spans.{snoc}
use Rattle.trie_pour.specs.Pour.{is_all}
use Rattle.branch_points.specs.KeptTries.{kept_size}
use Rattle.branch_points.proofs.Sizes.{kept_size-none, kept_size-leaf}
use Rattle.kept_nodes.specs.Words.{stride, kept_enc, spot}
use Rattle.kept_nodes.proofs.Places.{spot_on, spot-le, length-kept_enc, kept_enc-leaf, kept_enc-none, room-put}
use Rattle.kept_nodes.proofs.Hung.{kept_enc-fork}
use Rattle.kept_writing.specs.Writes.{Writable, Writes, Movable}
use Rattle.kept_steps.specs.Segments.{KeptSegment, kept_view}
use Rattle.kept_steps.specs.declared.View.TheVariants.{Nothing, Leaf, Inner}
use Rattle.kept_steps.proofs.Views.{view-none, view-leaf, view-inner}
use Rattle.kept_steps.proofs.Halves.{half-segment}
use Rattle.kept_build.specs.Building.{Before, Grown}
use Rattle.kept_build.proofs.Growing.{put_both, before-put, before-writable}
use Rattle.kept_pour.specs.declared.parts.Turn.TheVariants.{Settled, Fresh, Halves}
use Rattle.kept_pour.specs.Parts.{KeptPart, whole, standing, Split, Says, Keeps, Closing}
use Rattle.kept_pour.proofs.Sizes.{glue-none, glue-sum, glue-both, glue-first, glue-second}

-- A trie by itself, without what stands behind it.
narrow : {f : ℕ} {w : List ℕ} {b n i e u : ℕ} {p : Bits} {t : Trie} {rest : List ℕ} → KeptSegment f w b n i e u p t rest → KeptSegment f w b n i e e p t []
narrow {f} {e = e} {p = p} {t = t} {rest = rest} g = record {
  room = g.room;
  has = rw (append-nil (kept_enc f p t)) (has-front (kept_enc f p t) rest g.has);
  deep = g.deep;
  one = g.one;
  end = g.end;
  tail = omega arith;
  used = let z : e - e ≡ 0 = omega arith in rw z (omega arith);
  last = omega (arith, g.tail, g.last);
}

words : {f : ℕ} {w : List ℕ} {b n i e : ℕ} {p : Bits} {t : Trie} → KeptSegment f w b n i e e p t [] → Has w (spot f b i) (kept_enc f p t)
words {f} {p = p} {t = t} g = rw (append-nil (kept_enc f p t)) at g.has

module _ {f : ℕ} {w : List ℕ} {b n : ℕ} {p : Bits} where
  pub part-stands : {i e : ℕ} (t : Trie) → KeptPart f w b n p i e t → (i ≡ 0 → ⊥) → KeptSegment f w b n i e e p t []
  part-stands t whole k = absurd (k refl)
  part-stands t (standing g) k = g

  pub part-whole : {i e : ℕ} (t : Trie) → KeptPart f w b n p i e t → i ≡ 0 → (t ≡ leaf) × (e ≡ 0)
  part-whole t whole k = (refl, refl)
  part-whole t (standing g) k = absurd (omega (arith, g.one))

  pub stands-short : {i e : ℕ} {t : Trie} → KeptSegment f w b n i e e p t [] → length p ≤ 129
  stands-short g = omega (arith, g.deep, width-le f)

-- What is found.
module _ {f : ℕ} {w : List ℕ} {b n : ℕ} {p : Bits} {i e : ℕ} (t : Trie) (k : KeptPart f w b n p i e t) where
  split-whole : t ≡ leaf → Split f w b n p e t 0 0 0
  split-whole q = rw q (record { first = whole; second = whole; inner = λ h. absurd (omega arith); order = (omega arith, omega arith) })

  pub says-whole : i ≡ 0 → Says f w b n p e true false t Settled
  says-whole z = rw (part-whole t k z).0

  pub says-split : i ≡ 0 → Says f w b n p e false false t (Halves 0 0 0)
  says-split z = let q = (part-whole t k z).0 in (rw q, split-whole q)

  pub says-leaf : Leaf ≡ kept_view i t → Says f w b n p e true false t Settled
  says-leaf v = rw (view-leaf i t v)

  pub says-leaf-split : Leaf ≡ kept_view i t → Says f w b n p e false false t (Halves 0 0 0)
  says-leaf-split v = let q = view-leaf i t v in (rw q, split-whole q)

  pub says_none : Nothing ≡ kept_view i t → Says f w b n p e false false t Settled
  says_none v = rw (view-none i t v)

  pub says-fresh : Nothing ≡ kept_view i t → Says f w b n p e true false t Fresh
  says-fresh v = (refl, refl, view-none i t v)

  pub says-inner : (i ≡ 0 → ⊥) → (x : Bool) (a m : ℕ) → Inner a m ≡ kept_view i t → Says f w b n p e x false t (Halves a m e)
  says-inner z x a m v =
      let j = view-inner i a m t v in
      let g = part-stands t k z in
      let y = narrow (half-segment g j false) in
      let s = narrow (half-segment g j true) in
      let c : bare j.l j.r ≡ false = j.inner in (
        rw j.is (closed x j.l j.r c),
        record {
          first = rw (j.is, c) (standing y);
          second = rw (j.is, c) (standing s);
          inner = λ h. (refl, rw j.is c);
          order = (omega (arith, s.end), omega (arith, y.end));
        },
      )
    where
      closed : (x : Bool) (l r : Trie) → bare l r ≡ false → is_all x (node l r) ≡ false
      closed true l r e = e
      closed false l r e = refl

-- How many nodes there are.
pub part-size : {f : ℕ} {w : List ℕ} {b n : ℕ} {p : Bits} {i e : ℕ} (t : Trie) → KeptPart f w b n p i e t → (i ≡ 0 → ⊥) → (i ≤ e) × (e - i ≡ kept_size t)
part-size t k z = let g = part-stands t k z in (omega (arith, g.end), omega (arith, g.end))

pub whole-nodes : {f : ℕ} {w : List ℕ} {b n : ℕ} {p : Bits} {i e : ℕ} (t : Trie) → KeptPart f w b n p i e t → i ≡ 0 → 1 ≡ kept_size t
whole-nodes t k z = rw (part-whole t k z).0 (sym kept_size-leaf)

-- Writing.
module _ {f : ℕ} {w : List ℕ} {b g : ℕ} where
  pub flat-full : {v : List ℕ} {s : Net} (p : Bits) → s ≡ net_from f p → length p ≤ width f → Writes f w v b (g - 1) s 0 → Grown f w v b g p leaf (g - 1)
  flat-full p is le h = record { start = rw kept_size-leaf; wrote = rw (kept_size-leaf, kept_enc-leaf f p) (h p is le) }

  pub flat-none : (p : Bits) → Grown f w w b g p none g
  flat-none p = record { start = rw glue-none (omega arith); wrote = rw (kept_enc-none f p) (sym (put-nil w (spot f b (g - kept_size none)))) }

  pub flat-writable : Before f w b g (kept_size leaf) → Writable f w b (g - 1) 0
  flat-writable r = let q = r.fits in let z = kept_size-leaf in before-writable (g - 1) 0 r (omega arith) (omega arith) (omega arith)

-- A part at another place.
module _ {f : ℕ} {w : List ℕ} {b n : ℕ} {p : Bits} {i e g : ℕ} {t : Trie} (k : Keeps f w b n p i e g t) where
  pub keep-room : i ≡ 0 → Before f w b g (kept_size leaf)
  keep-room z = rw (part-whole t k.part z).0 at k.room

  pub keep-whole : i ≡ 0 → {v : List ℕ} {r : ℕ} → Grown f w v b g p leaf r → Grown f w v b g p t r
  keep-whole z h = rw (part-whole t k.part z).0 h

  module _ (z : i ≡ 0 → ⊥) where
    abbrev stands : KeptSegment f w b n i e e p t []
    stands = part-stands t k.part z

    pub keep-fits : (i ≤ e) × (e - i < g) × (e - i ≡ kept_size t)
    keep-fits = omega (arith, part-size t k.part z, k.room.fits)

    start : g - (e - i) ≡ g - kept_size t
    start = rw keep-fits.2

    pub keep_same : i ≡ g - (e - i) → Grown f w w b g p t (g - (e - i))
    keep_same q = record { start = start; wrote = let y : g - kept_size t ≡ i = sym (q ∙ start) in rw y (sym (has_same (words stands))) }

    pub keep-movable : Movable f w b i (g - (e - i)) (e - i)
    keep-movable =
        let s = stands in
        let q = keep-fits in
        let y : g - (e - i) + (e - i) ≡ g = omega arith in
        record {
          one = s.one;
          to_one = omega arith;
          fits = rw (q.2, ← length-kept_enc f p t) (words s).fits;
          to-fits = rw (spot_on f b (g - (e - i)) (e - i) (omega arith), y) k.room.long;
          low = omega (arith, k.room.low);
          few = omega (arith, s.last, s.room.few);
          to-few = omega (arith, k.room.few);
          some = omega (arith, k.room.few);
        }

    pub keep-moved : {v : List ℕ} → v ≡ put w (spot f b (g - (e - i))) (take (stride f * (e - i)) (drop (spot f b i) w)) → Grown f w v b g p t (g - (e - i))
    keep-moved {v} h =
        let x : take (stride f * kept_size t) (drop (spot f b i) w) ≡ kept_enc f p t = rw (← length-kept_enc f p t) (has-seg (words stands)) in
        record { start = start; wrote = rw (keep-fits.2, x) at h }

-- What stands before what is written stays.
segment-put : {f : ℕ} {w : List ℕ} {b n i e : ℕ} {p : Bits} {t : Trie} → KeptSegment f w b n i e e p t [] → (o : ℕ) (xs : List ℕ) → (i < e → e ≤ o)
    → KeptSegment f (put w (spot f b o) xs) b n i e e p t []
segment-put {f} {w} {b} {n} {i} {e} {p} {t} g o xs h = record {
  room = room-put (spot f b o) xs g.room;
  has = rw (append-nil (kept_enc f p t)) (has-put (spot f b o) xs (words g) (λ k a c d y. before (kept_size t) refl k a (rw (length-kept_enc f p t) at c) d));
  deep = g.deep;
  one = g.one;
  end = g.end;
  tail = g.tail;
  used = g.used;
  last = g.last;
}
  where
    before : (j : ℕ) → kept_size t ≡ j → (k : ℕ) → spot f b i ≤ k → k < spot f b i + stride f * j → spot f b o ≤ k → ⊥
    before zero q k a c d = omega arith
    before (suc j) q k a c d =
        let x : i + suc j ≡ e = omega (arith, g.end) in
        omega (arith, rw x at (spot_on f b i (suc j) g.one), spot-le f b e o (h (omega arith)))

pub part-put : {f : ℕ} {w : List ℕ} {b n : ℕ} {p : Bits} {i e : ℕ} {t : Trie} → KeptPart f w b n p i e t → (o : ℕ) (xs : List ℕ) → (i < e → e ≤ o)
    → KeptPart f (put w (spot f b o) xs) b n p i e t
part-put whole o xs h = whole
part-put (standing g) o xs h = standing (segment-put g o xs h)

has-nodes : (t : Trie) → 1 ≤ kept_size t → is_none t ≡ false
has-nodes none h = absurd (omega (arith, glue-none))
has-nodes (node l r) h = refl

-- The node over two halves.
no_words : (f : ℕ) (p : Bits) (t : Trie) → kept_size t ≡ 0 → kept_enc f p t ≡ []
no_words f p t e = rw (kept_size-none t e) (kept_enc-none f p)

one-half : (f : ℕ) (p : Bits) (l r : Trie) → kept_size r ≡ 0 → kept_enc f p (glue false l r) ≡ kept_enc f (snoc p false) l
one-half f p none r e = rw (kept_size-none r e, kept_enc-none f p, kept_enc-none f (snoc p false))
one-half f p (node x y) r e = rw (kept_size-none r e) (kept_enc-fork f p false (node x y) (some x y))

other_half : (f : ℕ) (p : Bits) (l r : Trie) → kept_size l ≡ 0 → kept_enc f p (glue false l r) ≡ kept_enc f (snoc p true) r
other_half f p l none e = rw (kept_size-none l e, kept_enc-none f p, kept_enc-none f (snoc p true))
other_half f p l (node x y) e = rw (kept_size-none l e) (kept_enc-fork f p true (node x y) (some x y))

module _ {f : ℕ} {v w : List ℕ} {b g : ℕ} {p : Bits} {o m : ℕ} {l r : Trie} (k : Closing f v w b g p o m l r) where
  ends : (o + kept_size r ≡ m) × (m + kept_size l ≡ g) × (1 ≤ o)
  ends = omega (arith, k.first, k.second, k.room.fits, glue-sum l r)

  pub close-first : m ≤ o → Grown f v w b g p (glue false l r) o
  close-first h =
      let x = ends in
      let z : kept_size r ≡ 0 = omega arith in
      let y : g - kept_size (glue false l r) ≡ o = omega (arith, glue-first l r z) in
      let n : m ≡ o = omega arith in
      record {
        start = sym y;
        wrote = k.wrote ∙ rw (no_words f (snoc p true) r z, one-half f p l r z, y, n) (put-nil (put v (spot f b o) (kept_enc f (snoc p false) l)) (spot f b o));
      }

  pub close-second : g ≤ m → Grown f v w b g p (glue false l r) o
  close-second h =
      let x = ends in
      let z : kept_size l ≡ 0 = omega arith in
      let y : g - kept_size (glue false l r) ≡ o = omega (arith, glue-second l r z) in
      record {
        start = sym y;
        wrote = k.wrote ∙ rw (no_words f (snoc p false) l z, other_half f p l r z, y, put-nil v (spot f b m));
      }

  module _ (h : o < m) (j : m < g) where
    size : kept_size (glue false l r) ≡ 1 + kept_size l + kept_size r
    size = let x = ends in glue-both l r (omega arith) (omega arith)

    pub close-two : 2 ≤ o
    close-two = omega (arith, ends, size, k.room.fits)

    pub close-writable : Writable f w b (o - 1) (m - (o - 1))
    close-writable =
        let x = ends in
        let two = close-two in
        let y = before-put (spot f b m) (kept_enc f (snoc p false) l) g 0 k.room (omega arith) (omega arith) in
        let q = before-put (spot f b o) (kept_enc f (snoc p true) r) g 0 y (omega arith) (omega arith) in
        rw k.wrote (before-writable (o - 1) (m - (o - 1)) q (omega arith) (omega arith) (omega arith))

    pub close-both : {u : List ℕ} {s : Net} → s ≡ net_from f p → length p ≤ width f → Writes f w u b (o - 1) s (m - (o - 1))
        → Grown f v u b g p (glue false l r) (o - 1)
    close-both is le a =
        let x = ends in
        let y : g - kept_size (glue false l r) ≡ o - 1 = omega (arith, size) in
        let n : m - kept_size r ≡ o = omega arith in
        let i = has-nodes l (omega arith) in
        let z = rw n at (put_both f v b (o - 1) m p l r i (has-nodes r (omega arith)) (omega (arith, close-two)) (omega (arith, close-two))) in
        record { start = sym y; wrote = rw k.wrote at (a p is le) ∙ z ∙ rw (y, glue-inner l r (rw i)) }
