-- A turn of going through a trie for its ranges: the blocks of the members still to come are those of what stands on the stack, in their order. Assumes
-- nothing.
use mathlib.Core.Bool.{true, false, cond}
use mathlib.Core.List.{List, [], ◌∷◌, ◌++◌, map, append-nil, append_assoc, map-append}
use mathlib.Core.Path.{◌≡◌, refl, ap, sym, ◌∙◌}
use Prim.Native.Nat.{ℕ, suc, ◌+◌, ◌-◌, ◌*◌, ◌≤◌, ◌<◌}
use native.Mathlib.Omega.{arith}
use lib.Dec.{ltb}
use lib.ListN.{length, replicate}
use borrow.Author.Tests.{eq-eqb, ne_eqb}
use Rattle.nets.specs.Bits.{Bits}
use Rattle.nets.specs.Tries.{Trie, none, node, bare, levels}
use Rattle.nets.specs.Networks.{width, net_from}
use Rattle.nets.specs.declared.Net.{Net}
use Rattle.nets.proofs.Numbers.{width-le}
use Rattle.nets.proofs.Listing.{bare-none}
use Rattle.address_order.specs.Streams.{flat}
use Rattle.ranges.specs.Ranges.{Range, block_of}
use Rattle.nodes.specs.Words.{word_at, word}
use Rattle.nodes.proofs.Put.{length-put}
use Rattle.nodes.proofs.Tries.{word-leaf}
use Rattle.trie_paths.specs.Rows.{row_of}
use Rattle.trie_paths.specs.Spans.{snoc, Holds}
use Rattle.trie_paths.specs.Preorder.{net_at, Goes}
use Rattle.trie_paths.proofs.Reading.{forked-levels}
use Rattle.trie_paths.proofs.Paths.{path-is}
use Rattle.trie_paths.proofs.Levels.{map-node}
use Rattle.trie_paths.proofs.Stacks.{Stack, done, more, words, onto, opened, Ahead, ahead-start, ahead-word, ahead-on, Deep, deep-onto, deep-opened}
use Rattle.trie_paths.proofs.Turns.{Top, top_start, top-pop, top-down}
use Rattle.trie_ranges.proofs.Standing.{Stands, stands-start, stands-end, stands-open, takes-few, stands-take}
use Rattle.trie_ranges.specs.declared.Open.{Open}
use Rattle.trie_ranges.specs.Opening.{ranges_t, goes_on, Takes, Ranged}

-- the blocks of the members still to come
unfoldable pub blocks : ℕ → Stack → List Range
blocks f done = []
blocks f (more p l r S) = map (block_of (width f)) (map (λ q. p ++ q) (flat (node l r))) ++ blocks f S

blocks-onto : (f : ℕ) (p : Bits) (t : Trie) (S : Stack) → blocks f (onto p t S) ≡ map (block_of (width f)) (map (λ q. p ++ q) (flat t)) ++ blocks f S
unfolding blocks flat
blocks-onto f p none S = refl
blocks-onto f p (node l r) S = refl

blocks-opened : (f : ℕ) (p : Bits) (l r : Trie) (S : Stack) → bare l r ≡ false → blocks f (opened p l r S) ≡ blocks f (more p l r S)
unfolding blocks flat
blocks-opened f p l r S e =
    blocks-onto f (snoc p false) l (onto (snoc p true) r S)
    ∙ rw (blocks-onto f (snoc p true) r S, e, map-node p (flat l) (flat r), map-append, append_assoc)

blocks-leaf : (f : ℕ) (p : Bits) (S : Stack) → blocks f (more p none none S) ≡ block_of (width f) p ∷ blocks f S
unfolding blocks flat
blocks-leaf f p S = rw (append-nil p)

map_same : (l : List Bits) → map (λ q. q) l ≡ l
map_same [] = refl
map_same (p ∷ l) = ap (λ z. p ∷ z) (map_same l)

-- What holds at the head of the loop.
pub record Ranging (w : List ℕ) (b e f : ℕ) (t : Trie) (v₀ : List ℕ) (x : Net) (s : List ℕ) (sp : ℕ) (q : Open) (v : List ℕ) (k : ℕ)
    (S : Stack) : Type 0 where
  pub ahead : Ahead w b k e S
  pub deep : Deep (suc (width f)) S
  pub top : Top f x s sp S
  pub wide : length s ≡ 387
  pub few : q.n < k
  pub stands : Stands f q v₀ v (blocks f S) (ranges_t f t)

module _ {w : List ℕ} {b e f : ℕ} {t : Trie} where
  pub ranging-start : {i : ℕ} {v : List ℕ} {x : Net} → Holds w b i e f t → x ≡ net_from f []
      → Ranging w b e f t v x (replicate 387 0) 1 (record { n = 0; hi = 0; lo = 0 }) v i (onto [] t done)
  unfolding ranges_t blocks
  ranging-start {i} {v} {x} o h =
      let a : blocks f (onto [] t done) ≡ map (block_of (width f)) (flat t) =
      blocks-onto f [] t done ∙ append-nil (map (block_of (width f)) (map (λ q. q) (flat t))) ∙ ap (map (block_of (width f))) (map_same (flat t)) in
      record {
        ahead = ahead-start o.stands;
        deep = deep-onto (suc (width f)) [] t done (omega (arith, o.deep)) (omega arith) tt;
        top = top_start t f x (replicate 387 0) h;
        wide = refl;
        few = o.stands.is.one;
        stands = rw a (stands-start f v (map (block_of (width f)) (flat t)));
      }

  module _ {v₀ s v : List ℕ} {x : Net} {q : Open} {sp k : ℕ} where
    -- a leaf is read, or a node with children
    pub reads-leaf : (S : Stack) → Ranging w b e f t v₀ x s sp q v k S → k < e → {y : ℕ} → y ≡ word_at w b k → y ≡ 0
        → (p : Bits) × (U : Stack) × Ranging w b e f t v₀ x s sp q v k (more p none none U)
    unfolding words
    reads-leaf done o l g z = absurd (omega (arith, o.ahead.end))
    reads-leaf (more p a r U) o l g z =
        let n = bare-none a r (sym (word-leaf a r) ∙ eq-eqb (word a r) 0 (sym (ahead-word o.ahead) ∙ sym g ∙ z)) in
        (p, U, rw (n.0, n.1) at o)

    pub reads-inner : (S : Stack) → Ranging w b e f t v₀ x s sp q v k S → k < e → {y : ℕ} → y ≡ word_at w b k → (y ≡ 0 → ⊥)
        → (p : Bits) × (l : Trie) × (r : Trie) × (U : Stack) × (y ≡ word l r) × (bare l r ≡ false) × Ranging w b e f t v₀ x s sp q v k (more p l r U)
    unfolding words
    reads-inner done o l g z = absurd (omega (arith, o.ahead.end))
    reads-inner (more p a r U) o l {y} g z =
        let n : y ≡ word a r = g ∙ ahead-word o.ahead in
        (p, a, r, U, n, sym (word-leaf a r) ∙ ne_eqb (word a r) 0 (λ h. z (n ∙ h)), o)

    pub ranging-end : (S : Stack) → Ranging w b e f t v₀ x s sp q v k S → e ≤ k → Ranged f t v₀ v q.n
    unfolding words blocks Rattle.nodes.specs.Words.enc
    ranging-end done o l =
        let h =
        stands-end o.stands in record { count = h.0; few = omega (arith, o.few, o.ahead.end, o.ahead.few); kept = o.stands.kept; rows = h.1 }
    ranging-end (more p a r S) o l = absurd (omega (arith, o.ahead.end))

    module _ {p : Bits} {U : Stack} (o : Ranging w b e f t v₀ x s sp q v k (more p none none U)) where
      pub leaf-path : x ≡ net_from f p
      leaf-path = o.top.1.0

      pub leaf-within : length p ≤ width f
      unfolding levels
      leaf-within = omega (arith, o.deep.0)

      pub leaf-height : (1 ≤ sp) × (sp ≤ 129)
      leaf-height = omega (arith, o.top.0, o.deep.1.0, leaf-within, width-le f)

      pub leaf-asks : (a : ℕ) → (q.n < 1073741824) × (goes_on q a ≡ true → 1 ≤ q.n)
      leaf-asks a = (omega (arith, o.few, o.ahead.end, o.ahead.few), stands-open o.stands a)

      pub leaf-taken : {q' : Open} {u : List ℕ} {z : Net} → Takes f p q v q' u → z ≡ net_at f s (sp - 1) → Ranging w b e f t v₀ z s (sp - 1) q' u (k + 1) U
      leaf-taken g h = record {
        ahead = ahead-on o.ahead;
        deep = o.deep.1.1;
        top = rw h (top-pop f s sp U o.top.0 o.top.1.1);
        wide = o.wide;
        few = omega (arith, o.few, takes-few g);
        stands = stands-take (rw (blocks-leaf f p U) at o.stands) leaf-within g;
      }

    module _ {p : Bits} {l r : Trie} {U : Stack} (o : Ranging w b e f t v₀ x s sp q v k (more p l r U)) (inner : bare l r ≡ false) where
      goes_down : length p < width f
      goes_down = omega (arith, o.deep.0, forked-levels l r inner)

      pub inner-path : x ≡ net_from f p
      inner-path = o.top.1.0

      pub inner-asks : (x.len < width x.family) × (sp ≤ 128) × (3 * (sp + 1) ≤ length s)
      inner-asks =
          let i = path-is x f p inner-path in
          let h : sp ≤ 128 = omega (arith, goes_down, width-le f, o.top.0, o.deep.1.0) in
          (rw (i.0, i.1) goes_down, h, omega (arith, o.wide))

      pub inner-passed : {y fork : ℕ} {u : List ℕ} {z : Net} → y ≡ word l r → Goes f p y sp s u z → fork ≡ cond (ltb 2 y) 1 0
          → Ranging w b e f t v₀ z u (sp + fork) q v (k + 1) (opened p l r U)
      inner-passed {u = u} n g h = record {
        ahead = ahead-on o.ahead;
        deep = deep-opened (suc (width f)) p l r U o.deep;
        top = rw h (top-down g (omega (arith, inner-asks)) (omega (arith, goes_down, width-le f)) l r U n inner o.top.0 o.top.1.1);
        wide = rw g.wrote (length-put s (3 * sp) (row_of (net_from f (snoc p true)))) ∙ o.wide;
        few = omega (arith, o.few);
        stands = rw (blocks-opened f p l r U inner) o.stands;
      }
