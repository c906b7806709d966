-- Cutting a trie, step by step: what stays as it is, what becomes a single leaf or nothing, and the halves. Assumes nothing.
use mathlib.Core.Bool.{Bool, true, false, not}
use mathlib.Core.List.{List, []}
use mathlib.Core.Path.{◌≡◌, refl, ap, sym, ◌∙◌}
use Prim.Native.Nat.{ℕ, ◌+◌, ◌*◌, ◌≤◌, ◌<◌}
use native.Mathlib.Omega.{arith}
use borrow.Author.Tests.{eqb-true}
use lib.Dec.{eqb}
use lib.ListN.{length}
use Rattle.nets.specs.Bits.{Bits}
use Rattle.nets.specs.Tries.{Trie, none, node, leaf, size, is_leaf, bare, glue}
use Rattle.nodes.specs.Words.{put, place, enc}
use Rattle.nodes.specs.Segments.{Segment, Branch}
use Rattle.nodes.proofs.Put.{length-put}
use Rattle.nodes.proofs.Tries.{length-enc, size-node}
use Rattle.nodes.proofs.Segments.{none_is}
use Rattle.trie_paths.specs.Spans.{snoc}
use Rattle.trie_pour.specs.Pour.{flat_t, pour_t, shadow, cut_t}
use Rattle.trie_pour.specs.Parts.{standing, Into, TrieWritten, Room, Keeps, Closing}
use Rattle.trie_pour.proofs.Pour.{shadow-left, cut-nothing, cut-flat, cut-halves, cut-size}
use Rattle.trie_pour.proofs.Parts.{words, child-left, child-right, segment-put}
use Rattle.setfile_order.specs.declared.Head.{Head}
use Rattle.setfile_below.specs.declared.Below.{Below}
use Rattle.setfile_below.specs.Stream.{Comes}
use Rattle.setfile_below.proofs.Streams.{at_some, at-nothing, Parted, parted, onto, later, Halved, Seconded, at_first, at_second}
use Rattle.setfile_passes.specs.Passing.{Counts, Cuts}
use Rattle.setfile_passes.proofs.Passes.{room_of}

-- Both have something.
pub both-none : (i e n : ℕ) → i ≡ e → (t u : Trie) → e ≡ i + size t → n ≡ size u → none ≡ shadow t u
both-none i e n q t u h k = rw (none_is t (omega arith))

pub both_some : (i e n : ℕ) → (i ≡ e → ⊥) → (x : Bool) → x ≡ not (eqb n 0) → (t u : Trie) → e ≡ i + size t → n ≡ size u → flat_t x ≡ shadow t u
unfolding size
both_some i e n q x f none u h k = absurd (q (omega arith))
both_some i e n q x f (node l r) none h k = rw (f, k)
both_some i e n q x f (node l r) (node a b) h k = rw f (go (eqb n 0) refl)
  where
    go : (y : Bool) → eqb n 0 ≡ y → flat_t (not y) ≡ leaf
    go true z = absurd (omega (arith, eqb-true n 0 z))
    go false z = refl

cut-both : (x : Bool) (a c l r : Trie) {u t : Trie} → u ≡ node a c → t ≡ node l r → bare a c ≡ false → bare l r ≡ false → cut_t x u t ≡ glue false (cut_t x a l) (cut_t x c r)
cut-both x a c l r h k e f = rw (h, k) (cut-halves x a c (node l r) e f ∙ rw f)

-- The halves are gone into.
pub record Fork (w : List ℕ) (b i e o : ℕ) (d c : List ℕ) (s : Below) (q p : Bits) (u : Trie) (ms : List Bits) (t : Trie) (m : ℕ) : Type 0 where
  pub cuts : Cuts w b i e o d c s q p u ms t
  pub part : Parted d c s q p u ms
  pub branch : Branch i m t

module _ {w : List ℕ} {b i e o : ℕ} {d c : List ℕ} {s : Below} {q p : Bits} {u : Trie} {ms : List Bits} {t : Trie} (g : Cuts w b i e o d c s q p u ms t) where
  -- there is room at node o for as many nodes as the trie has
  pub cut-room : (v : Trie) → size v ≤ size t → Room w b o (size v)
  cut-room v h =
      let n = (words g.here).fits in
      let f = g.here.few in
      let k = g.here.end in
      record {
        one = g.one;
        few = omega (arith, g.behind);
        fits = λ z. (omega (arith, g.behind, g.one, length-enc t), omega (arith, g.behind));
      }

  pub cut-counts : Counts w b i e d c s q p u ms t
  cut-counts = record { part = standing g.here; at = g.at; few = g.few }

  pub cut_keeps : Keeps w b i e o t
  cut_keeps = record { part = standing g.here; room = cut-room t (omega arith) }

  pub cut-kept : s.some ≡ false → {v : List ℕ} {r : ℕ} (x : Bool) → TrieWritten w v b o r t → TrieWritten w v b o r (cut_t x u t)
  cut-kept h x k = rw (at-nothing g.at h, cut-nothing x t) k

  pub shade-room : (y : Bool) (v : Trie) → flat_t y ≡ shadow t v → Room w b o (size (flat_t y))
  shade-room y v h = rw h (cut-room (shadow t v) (shadow-left t v))

  pub shade-done : (y : Bool) (v : Trie) → flat_t y ≡ shadow t v → {x : List ℕ} {r : ℕ} → TrieWritten w x b o r (flat_t y) → TrieWritten w x b o r (shadow t v)
  shade-done y v h k = rw h at k

  module _ (h : s.some ≡ true) (y : Bool) (k : y ≡ is_leaf u) (m : ℕ) (n : Into i y t m) where
    pub cut-shade : m ≡ 0 → (x : Bool) → cut_t x u t ≡ shadow t (pour_t x u t)
    cut-shade z x = cut-flat x u t (at_some g.at h) (rw k at (n.flat z))

    pub cut-fork : (m ≡ 0 → ⊥) → Fork w b i e o d c s q p u ms t m
    cut-fork z = let (f, j) = n.inner z in record { cuts = g; part = parted g.at h (sym k ∙ f); branch = j }

module _ {w : List ℕ} {b i e o : ℕ} {d c : List ℕ} {s : Below} {q p : Bits} {u : Trie} {ms : List Bits} {t : Trie} {m : ℕ} (g : Fork w b i e o d c s q p u ms t m) where
  abbrev pub l : Trie
  l = g.branch.l

  abbrev pub r : Trie
  r = g.branch.r

  here : Segment w b i e e (node l r) []
  here = rw g.branch.is at g.cuts.here

  left : Segment w b (i + 1) m m l []
  left = child-left l r m g.branch.middle here

  right : Segment w b m e e r []
  right = child-right l r m g.branch.middle here

  few-halves : (size l + 2 * size g.part.l < 4611686018427387904) × (size r + 2 * size g.part.r < 4611686018427387904)
  few-halves =
      let a : size t ≡ 1 + size l + size r = ap size g.branch.is ∙ size-node l r in
      let k : size u ≡ 1 + size g.part.l + size g.part.r = ap size g.part.is ∙ size-node g.part.l g.part.r in
      (omega (arith, g.cuts.few), omega (arith, g.cuts.few))

  pub fork-low : (i + 1 < 1073741824) × (o + 1 < 1073741824)
  fork-low = (omega (arith, left.end, left.few), omega (arith, left.end, left.few, g.cuts.behind))

  pub cut_left : (f : Below) → Halved s f → Cuts w b (i + 1) m (o + 1) d c f q (snoc p false) g.part.l (later p g.part.r ms) l
  cut_left f k = record { here = left; one = omega arith; behind = omega (arith, g.cuts.behind); at = at_first g.part f k; few = few-halves.0 }

  module _ (x : Bool) {w₁ : List ℕ} {k : ℕ} (a : TrieWritten w w₁ b (o + 1) k (cut_t x g.part.l l)) where
    abbrev first : Trie
    first = cut_t x g.part.l l

    ends : k ≤ m
    ends = omega (arith, a.end, cut-size x g.part.l l, left.end, g.cuts.behind)

    stays : Segment w₁ b m e e r []
    stays = rw a.wrote (segment-put right (o + 1) first (omega arith) (λ h. omega (arith, a.end, ends)))

    module _ (f : ℕ) (same : f ≡ s.family) {c' : List ℕ} {h : Head} (j : Comes d f c' h (onto q p g.part.l) (later p g.part.r ms)) where
      pub cut_right : (y : Below) → Seconded s h y → Cuts w₁ b m e k d c' y (onto q p g.part.l) (snoc p true) g.part.r ms r
      cut_right y v = record { here = stays; one = omega (arith, a.end); behind = ends; at = at_second g.part f same j y v; few = few-halves.1 }

    module _ {w₂ : List ℕ} {z : ℕ} (j : TrieWritten w₁ w₂ b k z (cut_t x g.part.r r)) where
      abbrev second : Trie
      second = cut_t x g.part.r r

      cut-is : cut_t x u t ≡ glue false first second
      cut-is = cut-both x g.part.l g.part.r l r g.part.is g.branch.is g.part.inner g.branch.inner

      same_length : length w₂ ≡ length w
      same_length = rw (j.wrote, a.wrote) (length-put (put w (place b (o + 1)) (enc first)) (place b k) (enc second) ∙ length-put w (place b (o + 1)) (enc first))

      pub cut-closing : Closing w w₂ b o k z first second
      cut-closing = record {
        wrote = rw (j.wrote, a.wrote);
        middle = a.end;
        end = j.end;
        room = rw (← cut-is) (room_of same_length (cut-room g.cuts (cut_t x u t) (cut-size x u t)));
      }

      pub cut-done : {w₃ : List ℕ} {y : ℕ} → TrieWritten w w₃ b o y (glue false first second) → TrieWritten w w₃ b o y (cut_t x u t)
      cut-done k = rw cut-is k
