-- The part of a trie inside a network: it is empty exactly where no member overlaps the network. Halving goes through gluing, simplifying and the set
-- operations, so taking the part does too. Assumes nothing.
use mathlib.Core.Bool.{Bool, true, false, not, cond, ◌&&◌, ◌||◌}
use mathlib.Core.List.{List, [], ◌∷◌}
use mathlib.Core.Path.{◌≡◌, refl, ap, sym, ◌∙◌}
use Prim.Native.Nat.{ℕ, zero, suc, ◌-◌, ◌≤◌, ◌<◌}
use native.Mathlib.Omega.{arith}
use lib.ListN.{length}
use Rattle.nets.specs.Bits.{Bits}
use Rattle.nets.specs.Tries.{Trie, none, node, leaf, is_none, bare, side, glue, node_at, any, covers_t, list_of, trie_of, simplify_t}
use Rattle.nets.specs.TrieOps.{half, Kind, flat, mixed, kind_of, agree, verdict, op_t}
use Rattle.nets.specs.Lists.{simplify_l}
use Rattle.nets.proofs.Strings.{and_left, and_right}
use Rattle.nets.proofs.Levels.{side_same, side-each, node_at-none}
use Rattle.nets.proofs.Listing.{covers-list_of, leads_any-list_of, covers_t-none, covers_t-leaf, leaf-is}
use Rattle.nets.proofs.Adding.{list_of-insert}
use Rattle.nets.proofs.Operate.{flat≢mixed, op_half, op_t-flat, op_t-mixed}
use Rattle.inner_nets.specs.Inner.{overlaps_one}
use Rattle.inner_nets.specs.Parts.{down}
use Rattle.inner_nets.proofs.Overlaps.{overlaps_one-covers, overlaps_one-add}

-- The part of the empty trie, of a full one, and of any by its half.
pub down-none : (q : Bits) → down q none ≡ none
unfolding down
down-none [] = refl
down-none (b ∷ q) = down-none q

pub down-leaf : (q : Bits) → down q leaf ≡ leaf
unfolding down
down-leaf [] = refl
down-leaf (b ∷ q) = down-leaf q

pub down-end : (t : Trie) → down [] t ≡ t
unfolding down
down-end t = refl

pub down-half : (b : Bool) (q : Bits) (t : Trie) → down (b ∷ q) t ≡ down q (half b t)
unfolding down
down-half b q t = refl

-- A member overlaps q: the way down q meets a leaf or ends at a node.
touches-half : (t : Trie) (b : Bool) (q : Bits) → (covers_t t (b ∷ q) || node_at any (b ∷ q) t) ≡ (covers_t (half b t) q || node_at any q (half b t))
touches-half none b q = simp (covers_t-none, node_at-none)
touches-half (node l r) b q = go (bare l r)
  where
    go : (x : Bool) → ((x || covers_t (side b l r) q) || node_at any q (side b l r)) ≡ (covers_t (cond x leaf (side b l r)) q || node_at any q (cond x leaf (side b l r)))
    go true = rw (covers_t-leaf q)
    go false = refl

touches-down : (q : Bits) (t : Trie) → (covers_t t q || node_at any q t) ≡ not (is_none (down q t))
unfolding down
touches-down [] none = refl
touches-down [] (node none none) = refl
touches-down [] (node none (node c d)) = refl
touches-down [] (node (node c d) r) = refl
touches-down (b ∷ q) t = touches-half t b q ∙ touches-down q (half b t)

pub overlaps_one-list_of : (t : Trie) (q : Bits) → overlaps_one (list_of t) q ≡ not (is_none (down q t))
overlaps_one-list_of t q = overlaps_one-covers (list_of t) q ∙ rw (covers-list_of t q, leads_any-list_of t q) (touches-down q t)

-- Halves of a trie that is glued.
pub half-glue : (b j : Bool) (l r : Trie) → half b (glue j l r) ≡ side b l r
half-glue b j none none = sym (side_same b none)
half-glue b j none (node c d) = refl
half-glue b j (node c d) none = refl
half-glue b j (node c d) (node e f) = go (j && (bare c d && bare e f)) refl
  where
    go : (x : Bool) → (j && (bare c d && bare e f)) ≡ x → half b (cond x leaf (node (node c d) (node e f))) ≡ side b (node c d) (node e f)
    go true h =
        let k = and_right j (bare c d && bare e f) h in
        rw (leaf-is (node c d) (and_left (bare c d) (bare e f) k), leaf-is (node e f) (and_right (bare c d) (bare e f) k)) (sym (side_same b leaf))
    go false h = refl

-- Simplifying.
half-simplify : (b : Bool) (t : Trie) → half b (simplify_t t) ≡ simplify_t (half b t)
unfolding simplify_t
half-simplify b none = refl
half-simplify b (node l r) = go (bare l r)
  where
    go : (x : Bool) → half b (cond x leaf (glue true (simplify_t l) (simplify_t r))) ≡ simplify_t (cond x leaf (side b l r))
    go true = refl
    go false = half-glue b true (simplify_t l) (simplify_t r) ∙ sides b
      where
        sides : (b : Bool) → side b (simplify_t l) (simplify_t r) ≡ simplify_t (side b l r)
        sides false = refl
        sides true = refl

pub is_none-glue : (j : Bool) (l r : Trie) → is_none (glue j l r) ≡ bare l r
is_none-glue j none none = refl
is_none-glue j none (node c d) = refl
is_none-glue j (node c d) none = refl
is_none-glue j (node c d) (node e f) = go (j && (bare c d && bare e f))
  where
    go : (x : Bool) → is_none (cond x leaf (node (node c d) (node e f))) ≡ false
    go true = refl
    go false = refl

is_none-simplify : (t : Trie) → is_none (simplify_t t) ≡ is_none t
unfolding simplify_t
is_none-simplify none = refl
is_none-simplify (node l r) = go (bare l r) (is_none-glue true (simplify_t l) (simplify_t r) ∙ rw (is_none-simplify l, is_none-simplify r))
  where
    go : (x : Bool) → is_none (glue true (simplify_t l) (simplify_t r)) ≡ x → is_none (cond x leaf (glue true (simplify_t l) (simplify_t r))) ≡ false
    go true e = refl
    go false e = e

down-simplify : (q : Bits) (t : Trie) → down q (simplify_t t) ≡ simplify_t (down q t)
unfolding down
down-simplify [] t = refl
down-simplify (b ∷ q) t = rw (half-simplify b t) (down-simplify q (half b t))

overlaps_one-trie_of : (l : List Bits) (q : Bits) → overlaps_one (list_of (trie_of l)) q ≡ overlaps_one l q
unfolding trie_of
overlaps_one-trie_of [] q = overlaps_one-list_of none q ∙ rw (down-none q)
overlaps_one-trie_of (p ∷ l) q = rw (list_of-insert p (trie_of l), overlaps_one-add (list_of (trie_of l)) p q, overlaps_one-trie_of l q)

pub overlaps_one-simplify : (l : List Bits) (q : Bits) → overlaps_one (simplify_l l) q ≡ overlaps_one l q
unfolding simplify_l
overlaps_one-simplify l q =
    let t = trie_of l in
    overlaps_one-list_of (simplify_t t) q ∙ rw (down-simplify q t, is_none-simplify (down q t)) (sym (overlaps_one-list_of t q) ∙ overlaps_one-trie_of l q)

-- The set operations: what is settled of two tries is settled of their halves.
agree-each : (g : Bool → Bool) (v : Bool) → agree (g false) (g true) ≡ flat v → (y : Bool) → g y ≡ v
agree-each g v e y = go (g false) (g true) refl refl e y
  where
    go : (a b : Bool) → g false ≡ a → g true ≡ b → agree a b ≡ flat v → (y : Bool) → g y ≡ v
    go true true m n e true = cc
    go true true m n e false = cc
    go true false m n e y = absurd (flat≢mixed v (sym e))
    go false true m n e y = absurd (flat≢mixed v (sym e))
    go false false m n e true = cc
    go false false m n e false = cc

-- the kind l is that of a half of what has the kind k: where k is flat it is the same
abbrev Part : Kind → Kind → Type 0
Part (flat x) l = l ≡ flat x
Part mixed l = Unit {0}

part-half : (b : Bool) (t : Trie) → Part (kind_of t) (kind_of (half b t))
part-half b none = refl
part-half b (node l r) = go (bare l r)
  where
    go : (x : Bool) → Part (cond x (flat true) mixed) (kind_of (cond x leaf (side b l r)))
    go true = refl
    go false = tt

module _ (f : Bool → Bool → Bool) where
  verdict-part : (k l m n : Kind) (v : Bool) → Part k m → Part l n → verdict f k l ≡ flat v → verdict f m n ≡ flat v
  verdict-part (flat x) (flat y) m n v h g e = rw (h, g) e
  verdict-part (flat x) mixed m (flat y) v h g e = rw h (ap flat (agree-each (f x) v e y))
  verdict-part (flat x) mixed m mixed v h g e = rw h e
  verdict-part mixed (flat y) (flat x) n v h g e = rw g (ap flat (agree-each (λ z. f z y) v e x))
  verdict-part mixed (flat y) mixed n v h g e = rw g e
  verdict-part mixed mixed m n v h g e = absurd (flat≢mixed v (sym e))

  half-op : (j : Bool) (k : ℕ) (t u : Trie) (b : Bool) → 1 ≤ k → half b (op_t j f (suc k) t u) ≡ op_t j f k (half b t) (half b u)
  half-op j zero t u b h = absurd (omega arith)
  half-op j (suc k) t u b h = go (verdict f (kind_of t) (kind_of u)) refl
    where
      flat-half : (v : Bool) → half b (cond v leaf none) ≡ cond v leaf none
      flat-half true = refl
      flat-half false = refl

      go : (z : Kind) → verdict f (kind_of t) (kind_of u) ≡ z → half b (op_t j f (suc (suc k)) t u) ≡ op_t j f (suc k) (half b t) (half b u)
      go (flat v) e =
          rw (op_t-flat j f (suc k) t u v e, op_t-flat j f k (half b t) (half b u) v (verdict-part (kind_of t) (kind_of u) (kind_of (half b t)) (kind_of (half b u)) v (part-half b t) (part-half b u) e))
          (flat-half v)
      go mixed e =
          rw (op_t-mixed j f (suc k) t u e) (half-glue b j (op_half j f (suc k) t u false) (op_half j f (suc k) t u true) ∙ side-each (op_half j f (suc k) t u) b)

  pub down-op : (j : Bool) (q : Bits) (k : ℕ) (t u : Trie) → length q < k → down q (op_t j f k t u) ≡ op_t j f (k - length q) (down q t) (down q u)
  unfolding down
  down-op j [] k t u h = let e : k - 0 ≡ k = omega arith in rw e
  down-op j (b ∷ q) zero t u h = absurd (omega arith)
  down-op j (b ∷ q) (suc k) t u h =
      let e : suc k - suc (length q) ≡ k - length q = omega arith in
      rw (half-op j k t u b (omega arith), e) (down-op j q k (half b t) (half b u) (omega arith))
