-- A trie in the middle of the used words: its word, its children, and the whole after a change of one of them. Assumes nothing.
use mathlib.Core.Path.{◌≡◌, refl, sym, ap, ◌∙◌}
use mathlib.Core.List.{List, [], ◌∷◌, ◌++◌, append_assoc}
use Prim.Native.Nat.{ℕ, ◌+◌, ◌-◌, ◌/◌, ◌≤◌, ◌<◌}
use native.Mathlib.Numerals.{one-add}
use native.Mathlib.Omega.{arith}
use lib.Dec.{eqb}
use lib.ListN.{length, take, drop, length-append}
use Rattle.nets.specs.Tries.{Trie, none, node, leaf, size, is_leaf}
use Rattle.nodes.specs.Words.{put, Has, place, word_at, link1, word, enc}
use Rattle.nodes.specs.Links.{linked}
use Rattle.nodes.proofs.Put.{put-behind-at, put-before-at}
use Rattle.nodes.proofs.Has.{has-front, has-back, has-head, has-tail, has-at, has-seg, has_same}
use Rattle.nodes.proofs.Tries.{length-enc, size-node, enc-leaf, word-second, word-leaf}
use Rattle.nodes.proofs.Linked.{linked-is}
use Rattle.nodes.specs.Segments.{Segment, Spliced, middle_of}

pub none_is : (t : Trie) → size t ≡ 0 → t ≡ none
unfolding size
none_is none e = refl
none_is (node l r) e = absurd (omega arith)

-- Words of a trie with what stands behind it.
pub leaf-words : (rest : List ℕ) → enc leaf ++ rest ≡ 0 ∷ rest
leaf-words rest = rw enc-leaf

node-words : (l r : Trie) (rest : List ℕ) → enc (node l r) ++ rest ≡ word l r ∷ (enc l ++ (enc r ++ rest))
unfolding enc
node-words l r rest = rw (append_assoc (enc l) (enc r) rest)

middle-is : (l r : Trie) (i e : ℕ) → e ≡ i + 1 + size l + size r → middle_of (link1 l r) i e ≡ i + 1 + size l
unfolding link1 size
middle-is l none i e h = omega arith
middle-is l (node x y) i e h = more (size l)
  where
    more : (s : ℕ) → middle_of (1 + s) i e ≡ i + 1 + s
    more s = rw (one-add s) (omega arith)

module _ {w : List ℕ} {b i e u : ℕ} {t : Trie} {rest : List ℕ} (g : Segment w b i e u t rest) where
  pub segment-fit : (e ≤ u) × (b + (u - 1) ≤ length w)
  segment-fit = go g.has.fits g.one g.end g.used
    where
      go : place b i + length (enc t ++ rest) ≤ length w → 1 ≤ i → e ≡ i + size t → u ≡ e + length rest → (e ≤ u) × (b + (u - 1) ≤ length w)
      go f o q k = omega (arith, length-append (enc t) rest, length-enc t)

  -- what stands behind the trie, as the words that a move takes
  pub segment-rest : take (u - e) (drop (b + (e - 1)) w) ≡ rest
  segment-rest =
      let n : u - e ≡ length rest = omega (arith, g.used) in
      let q : b + (e - 1) ≡ place b i + length (enc t) = omega (arith, g.one, g.end, length-enc t) in
      rw (n, q) (has-seg (has-back (enc t) rest g.has))

  -- nothing is changed
  pub spliced-same : Spliced w w b i e t rest
  spliced-same = record { wrote = sym (has_same g.has); end = g.end }

module _ {w : List ℕ} {b i e u : ℕ} {l r : Trie} {rest : List ℕ} (g : Segment w b i e u (node l r) rest) where
  words : Has w (place b i) (word l r ∷ (enc l ++ (enc r ++ rest)))
  words = rw (node-words l r rest) at g.has

  pub segment-word : word_at w b i ≡ word l r
  segment-word = has-head words

  pub segment-leaf : eqb (word_at w b i) 0 ≡ is_leaf (node l r)
  segment-leaf = rw segment-word (word-leaf l r)

  pub segment-place : place b i < length w
  segment-place = omega (arith, words.fits)

  pub segment-middle : middle_of (word_at w b i / 2) i e ≡ i + 1 + size l
  segment-middle = rw (segment-word, word-second l r) (middle-is l r i e (omega (arith, g.end, size-node l r)))

  below : Has w (place b (i + 1)) (enc l ++ (enc r ++ rest))
  below = let one = g.one in has-at (omega arith) (has-tail words)

  -- the children
  pub segment-left : Segment w b (i + 1) (i + 1 + size l) u l (enc r ++ rest)
  segment-left = record {
    has = below;
    one = omega arith;
    end = refl;
    used = omega (arith, g.used, g.end, size-node l r, length-append (enc r) rest, length-enc r);
    few = g.few;
    low = g.low;
  }

  pub segment-right : Segment w b (i + 1 + size l) e u r rest
  segment-right = record {
    has = has-at (omega (arith, g.one, length-enc l)) (has-back (enc l) (enc r ++ rest) below);
    one = omega arith;
    end = omega (arith, g.end, size-node l r);
    used = g.used;
    few = g.few;
    low = g.low;
  }

  -- a child is changed, and the node is linked anew
  pub spliced-left : (l' : Trie) (v₁ v₂ : List ℕ) (y z : ℕ) → Spliced w v₁ b (i + 1) y l' (enc r ++ rest) → z ≡ y + size r → v₂ ≡ put v₁ (place b i) (linked i y z ∷ []) → Spliced w v₂ b i z (node l' r) rest
  spliced-left l' v₁ v₂ y z d ez e₂ =
      let one = g.one in
      record {
        wrote = rw (node-words l' r rest, e₂, d.wrote, linked-is l' r i y z d.end ez)
            (put-before-at w (place b i) (place b (i + 1)) (_ ∷ []) (enc l' ++ (enc r ++ rest)) (omega arith));
        end = omega (arith, size-node l' r, d.end);
      }

  pub spliced-right : (r' : Trie) (v₁ v₂ : List ℕ) (z : ℕ) → Spliced w v₁ b (i + 1 + size l) z r' rest → v₂ ≡ put v₁ (place b i) (linked i (i + 1 + size l) z ∷ []) → Spliced w v₂ b i z (node l r') rest
  spliced-right r' v₁ v₂ z d e₂ =
      let one = g.one in
      let e₁ : v₁ ≡ put w (place b (i + 1)) (enc l ++ (enc r' ++ rest)) =
      d.wrote ∙ sym (ap (λ v. put v (place b (i + 1 + size l)) (enc r' ++ rest)) (has_same (has-front (enc l) (enc r ++ rest) below)))
      ∙ put-behind-at w (place b (i + 1)) (place b (i + 1 + size l)) (enc l) (enc r' ++ rest) (omega (arith, length-enc l)) in
      record {
        wrote = rw (node-words l r' rest, e₂, e₁, linked-is l r' i (i + 1 + size l) z refl d.end)
            (put-before-at w (place b i) (place b (i + 1)) (_ ∷ []) (enc l ++ (enc r' ++ rest)) (omega arith));
        end = omega (arith, size-node l r', d.end);
      }
