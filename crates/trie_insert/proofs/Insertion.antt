-- A path put into a trie in the used words: the sizes, and the words that each way through `insert` leaves.
-- Laws of a child speak of the side d of the bit. Assumes nothing.
use mathlib.Core.Path.{◌≡◌, refl, ap, ◌∙◌}
use mathlib.Core.Bool.{Bool, true, false, cond}
use mathlib.Core.List.{List, [], ◌∷◌}
use Prim.Native.Nat.{ℕ, suc, ◌+◌, ◌-◌, ◌≤◌, ◌<◌}
use native.Mathlib.Omega.{arith}
use Rattle.std.specs.Prelude.{Option, Some}
use lib.ListN.{length, take, drop}
use Rattle.nets.specs.Bits.{Bits}
use Rattle.nets.specs.Tries.{Trie, none, node, leaf, size, bare, side, fork, insert_t}
use Rattle.nets.specs.Networks.{bits_left, next_as, next_of}
use Rattle.nets.specs.declared.PrefixBits.{PrefixBits}
use Rattle.nodes.specs.Words.{put, place, enc, chain}
use Rattle.nodes.specs.Links.{linked}
use Rattle.nodes.specs.Segments.{Segment, Spliced, Views, Branch}
use Rattle.nodes.specs.declared.steps.View.TheVariants.{Nothing, Leaf, Inner}
use Rattle.nodes.proofs.Put.{put-before-at}
use Rattle.nodes.proofs.Tries.{length-enc, size-leaf, size-fork, size-side}
use Rattle.nodes.proofs.Chains.{size-chain}
use Rattle.nodes.proofs.Segments.{none_is, leaf-words, segment-rest, spliced-same}
use Rattle.nodes.proofs.Views.{view-none, view-leaf, view-inner, inward, beside, behind, branch-fit, branch-size, branch-child, branch-spliced}
use Rattle.trie_insert.specs.Insert.{Insertable, Inserted}
use Rattle.nets.proofs.Handing.{length-bits_left, Hands, hands, hands-bit}

-- The bit that the path hands out, told by a test of it.
pub handed : {s q : PrefixBits} {d x : Bool} {r : Option (Bool × PrefixBits)} → s.len ≤ 128 → next_as r ≡ next_of s → r ≡ Some (d, q) → d ≡ x → Hands s x q
handed h n e b = hands-bit b (hands _ _ _ _ h n e)

-- Sizes.
pub size-insert : (p : Bits) (t : Trie) → size (insert_t p t) ≤ size t + length p + 1
unfolding insert_t
size-insert [] t = omega (arith, size-leaf)
size-insert (d ∷ p) none = omega (arith, size-chain (d ∷ p))
size-insert (d ∷ p) (node l r) = go (bare l r) (size-insert p (side d l r))
  where
    go : (x : Bool) → size (insert_t p (side d l r)) ≤ size (side d l r) + length p + 1 → size (cond x leaf (fork d (insert_t p (side d l r)) (side d r l))) ≤ size (node l r) + suc (length p) + 1
    go true h = omega (arith, size-leaf)
    go false h = omega (arith, size-fork d (insert_t p (side d l r)) (side d r l), size-side d l r)

-- The ways through `insert`. The path ends.
pub inserted-end : (w v₁ v₂ : List ℕ) (b i e u : ℕ) → v₁ ≡ put w (b + i) (take (u - e) (drop (b + (e - 1)) w)) → v₂ ≡ put v₁ (place b i) (0 ∷ []) → Inserted w v₂ b i e u [] (i + 1)
unfolding insert_t
inserted-end w v₁ v₂ b i e u e₁ e₂ t rest g =
    let one = g.one in
    record {
      wrote = rw (e₂, e₁, segment-rest g, leaf-words rest) (put-before-at w (place b i) (b + i) (0 ∷ []) rest (omega arith));
      end = rw size-leaf;
    }

pub room-end : {w : List ℕ} {b i e u : ℕ} (h : Insertable w b i e u []) → b + (u - 1) + 1 ≤ length w + size h.t
unfolding insert_t
room-end h = omega (arith, h.room, size-leaf)

-- There is no trie.
segment-none : {w : List ℕ} {b i u : ℕ} {t : Trie} {rest : List ℕ} → Segment w b i i u t rest → t ≡ none
segment-none {t = t} g = none_is t (omega (arith, g.end))

pub empty-end : {w : List ℕ} {b i e u : ℕ} {t : Trie} {rest : List ℕ} → Views w b i e Nothing → Segment w b i e u t rest → i ≡ e
unfolding size
empty-end {i = i} {u = u} {t = t} {rest = rest} k g = omega (arith, g.end, ap size (view-none i t (k t rest u g)))

pub inserted-none : (w v₁ v₂ : List ℕ) (b i u n : ℕ) (p : Bits) → n ≡ length p + 1 → v₁ ≡ put w (b + (i - 1) + n) (take (u - i) (drop (b + (i - 1)) w)) → v₂ ≡ put v₁ (place b i) (enc (chain p))
    → Inserted w v₂ b i i u p (i + n)
inserted-none w v₁ v₂ b i u n p q e₁ e₂ t rest g =
    record {
      wrote = rw (segment-none g, e₂, e₁, segment-rest g) (put-before-at w (place b i) (b + (i - 1) + n) (enc (chain p)) rest (omega (arith, length-enc (chain p), size-chain p)));
      end = rw (segment-none g, size-chain p, q);
    }

pub room-none : {w : List ℕ} {b i u : ℕ} {p : Bits} → Insertable w b i i u p → b + (u - 1) + length p < length w
room-none {p = p} h =
    let z : h.t ≡ none = segment-none h.stands in
    let k : size (insert_t p h.t) ≡ length p + 1 = rw z (size-chain p) in
    omega (arith, h.room, h.stands.end)

-- A leaf stands there.
insert_t-leaf : (d : Bool) (p : Bits) → insert_t (d ∷ p) leaf ≡ leaf
unfolding insert_t
insert_t-leaf d p = refl

pub inserted-leaf : {w : List ℕ} {b i e : ℕ} → Views w b i e Leaf → (u : ℕ) (d : Bool) (p : Bits) → Inserted w w b i e u (d ∷ p) e
inserted-leaf {i = i} k u d p t rest g = let q = view-leaf i t (k t rest u g) in rw (q, insert_t-leaf d p) (rw q at (spliced-same g))

-- An inner node stands there, whose second child begins at node m.
module _ {w : List ℕ} {b i e u m : ℕ} {t : Trie} {rest : List ℕ} (g : Segment w b i e u t rest) (n : Branch i m t) (d : Bool) (p : Bits) where
  insert_t-branch : insert_t (d ∷ p) t ≡ fork d (insert_t p (inward g n d)) (beside g n d)
  unfolding insert_t
  insert_t-branch = rw (n.is, n.inner)

  pub inserted-size : size (insert_t (d ∷ p) t) ≡ 1 + size (insert_t p (inward g n d)) + size (beside g n d)
  inserted-size = ap size insert_t-branch ∙ size-fork d (insert_t p (inward g n d)) (beside g n d)

  inserted-branch : (v₁ v₂ : List ℕ) (y z : ℕ) → Inserted w v₁ b (side d (i + 1) m) (side d m e) u p y → z ≡ side d (y + (e - m)) y
      → v₂ ≡ put v₁ (place b i) (linked i (side d y m) z ∷ []) → Spliced w v₂ b i z (insert_t (d ∷ p) t) rest
  inserted-branch v₁ v₂ y z f q h =
      rw insert_t-branch (branch-spliced g n d (insert_t p (inward g n d)) v₁ v₂ y z (f (inward g n d) (behind g n d) (branch-child g n d)) q h)

module _ {w : List ℕ} {b i e m : ℕ} (k : Views w b i e (Inner m)) where
  pub branch : {u : ℕ} {t : Trie} {rest : List ℕ} → Segment w b i e u t rest → Branch i m t
  branch {u} {t} {rest} g = view-inner i m t (k t rest u g)

  -- what the call for the child asks, and what it says of the node
  pub insertable-side : {u : ℕ} {p : Bits} (d : Bool) → Insertable w b i e u (d ∷ p) → Insertable w b (side d (i + 1) m) (side d m e) u p
  insertable-side {p = p} d h =
      let g = h.stands in
      let n = branch g in
      record { t = inward g n d; rest = behind g n d; stands = branch-child g n d; room = omega (arith, h.room, inserted-size g n d p, branch-size g n d) }

  pub inserted-side : (d : Bool) (p : Bits) (v₁ v₂ : List ℕ) (u y z : ℕ) → Inserted w v₁ b (side d (i + 1) m) (side d m e) u p y → z ≡ side d (y + (e - m)) y
      → v₂ ≡ put v₁ (place b i) (linked i (side d y m) z ∷ []) → Inserted w v₂ b i e u (d ∷ p) z
  inserted-side d p v₁ v₂ u y z f q h t rest g = inserted-branch g (branch g) d p v₁ v₂ y z f q h

  -- the numbers: the node and its middle, and the end of the changed child
  pub inner-fit : {u : ℕ} {t : Trie} {rest : List ℕ} → Segment w b i e u t rest → (1 ≤ i) × (i + 1 ≤ m) × (m ≤ e) × (e < 1073741824) × (place b i < length w)
  inner-fit g = branch-fit g (branch g)

  pub inserted-fit : {u : ℕ} {t : Trie} {rest : List ℕ} (d : Bool) (q : PrefixBits) (v : List ℕ) (y : ℕ) → q.len ≤ 128 → Segment w b i e u t rest
      → Inserted w v b (side d (i + 1) m) (side d m e) u (bits_left q) y → (side d (i + 1) m ≤ y) × (y ≤ side d m e + 129)
  inserted-fit d q v y o g f =
      let n = branch g in
      let c = branch-child g n d in
      omega (arith, c.end, (f (inward g n d) (behind g n d) c).end, size-insert (bits_left q) (inward g n d), length-bits_left q o)
