-- What takes the place of a trie in the used words: nothing, or what is left of a full block without a path, for each bit a node and, on the other side, a leaf. Assumes nothing.
use mathlib.Core.Path.{◌≡◌, refl, sym, ap, ◌∙◌}
use mathlib.Core.Bool.{Bool, true, false}
use mathlib.Core.List.{List, [], ◌∷◌}
use Prim.Native.Nat.{ℕ, ◌+◌, ◌-◌, ◌*◌, ◌≤◌, ◌<◌}
use native.Mathlib.Omega.{arith}
use lib.ListN.{length, take, drop}
use Rattle.nets.specs.Bits.{Bits}
use Rattle.nets.specs.Tries.{Trie, none, node, leaf, size, fork}
use Rattle.nets.specs.TrieOps.{remove_t}
use Rattle.nets.specs.Networks.{bits_left, next_as, next_of}
use Rattle.nets.specs.declared.PrefixBits.{PrefixBits}
use Rattle.nodes.specs.Words.{put, place, word, enc}
use Rattle.nodes.specs.Links.{linked}
use Rattle.nodes.specs.Segments.{Segment, Spliced}
use Rattle.nodes.proofs.Put.{put-nil, put-behind-at, put-before-at}
use Rattle.nodes.proofs.Has.{has-back, has-at, has_same}
use Rattle.nodes.proofs.Tries.{length-enc, size-leaf, enc-leaf, enc-node}
use Rattle.nodes.proofs.Linked.{linked-is}
use Rattle.nodes.proofs.Segments.{segment-rest}
use Rattle.trie_remove.specs.Removal.{begin}
use Rattle.trie_remove.proofs.Remains.{remove_t-end, remove_t-leaf, size-remove_t-leaf}
use Rattle.nets.proofs.Handing.{len-next, bits-end, bits-next, length-bits_left}
use Rattle.trie_remove.proofs.Descent.{size-full}
use Rattle.std.specs.Prelude.{Some, None}

-- The nodes from `from` up to the trie's end go.
module _ {w : List ℕ} {b i e u : ℕ} {t : Trie} {rest : List ℕ} (g : Segment w b i e u t rest) (from : ℕ) where
  pub take_none : from ≡ e → Spliced w w b from from none rest
  unfolding enc size
  take_none q = record {
    wrote = sym (has_same (has-at (omega (arith, q, g.one, g.end, length-enc t)) (has-back (enc t) rest g.has)));
    end = omega arith;
  }

  pub take-some : (v : List ℕ) → v ≡ put w (b + (from - 1)) (take (u - e) (drop (b + (e - 1)) w)) → Spliced w v b from from none rest
  unfolding enc size
  take-some v q = record { wrote = rw (q, segment-rest g); end = omega arith }

-- The node and its leaf are written, the trie x of n nodes on the side of the bit is not yet.
pub halve-second : (w v₁ v₂ : List ℕ) (b i n : ℕ) → 1 ≤ i → v₁ ≡ put w (place b (i + 1)) (0 ∷ []) → v₂ ≡ put v₁ (place b i) (linked i (i + 2) (i + 2 + n) ∷ [])
    → (x : Trie) → size x ≡ n → put v₂ (place b (i + 2)) (enc x) ≡ put w (place b i) (enc (fork true x leaf))
halve-second w v₁ v₂ b i n o p q x m =
    let k : v₂ ≡ put w (place b i) (word leaf x ∷ (0 ∷ [])) =
    rw (q, p, linked-is leaf x i (i + 2) (i + 2 + n) (omega (arith, size-leaf)) (omega arith)) (put-before-at w (place b i) (place b (i + 1)) (_ ∷ []) (0 ∷ []) (omega arith)) in
    rw (enc-node leaf x, enc-leaf, k) (put-behind-at w (place b i) (place b (i + 2)) (_ ∷ (0 ∷ [])) (enc x) (omega arith))

pub halve-first : (w v₁ v₂ : List ℕ) (b i n : ℕ) → 1 ≤ i → v₁ ≡ put w (place b (i + 1 + n)) (0 ∷ []) → v₂ ≡ put v₁ (place b i) (linked i (i + 1 + n) (i + 2 + n) ∷ [])
    → (x : Trie) → size x ≡ n → put v₂ (place b (i + 1)) (enc x) ≡ put w (place b i) (enc (fork false x leaf))
halve-first w v₁ v₂ b i n o p q x m =
    let k : put v₂ (place b (i + 1)) (enc x) ≡ put v₁ (place b i) (word x leaf ∷ enc x) =
    rw (q, linked-is x leaf i (i + 1 + n) (i + 2 + n) (omega arith) (omega (arith, size-leaf))) (put-behind-at v₁ (place b i) (place b (i + 1)) (_ ∷ []) (enc x) (omega arith)) in
    rw (enc-node x leaf, enc-leaf, k, p) (put-before-at w (place b i) (place b (i + 1 + n)) (_ ∷ enc x) (0 ∷ []) (omega (arith, length-enc x)))

-- The chain of s from node i on, where that of the bits left is still to be written from node k on.
pub record Chain (w₀ : List ℕ) (b i : ℕ) (s : PrefixBits) (w : List ℕ) (k : ℕ) (left : PrefixBits) : Type 0 where
  pub one : 1 ≤ k
  pub within : k + 2 * left.len ≤ i + 2 * s.len
  pub few : left.len ≤ 128
  pub long : length w ≡ length w₀
  pub rest : put w (place b k) (enc (remove_t (bits_left left) leaf)) ≡ put w₀ (place b i) (enc (remove_t (bits_left s) leaf))

module _ {w₀ : List ℕ} {b i : ℕ} {s : PrefixBits} {w : List ℕ} {k : ℕ} {left : PrefixBits} (c : Chain w₀ b i s w k left) where
  pub chain-turn : (later : PrefixBits) (bit : Bool) (v : List ℕ) (j : ℕ) → next_of left ≡ next_as (Some (bit, later)) → length v ≡ length w → (k < j) × (j ≤ k + 2)
      → ((x : Trie) → size x ≡ 2 * later.len → put v (place b j) (enc x) ≡ put w (place b k) (enc (fork bit x leaf))) → Chain w₀ b i s v j later
  chain-turn later bit v j e l h f =
      let q = len-next left later bit e in
      record {
        one = omega arith;
        within = omega (arith, q, c.within);
        few = omega (arith, q, c.few);
        long = l ∙ c.long;
        rest =
            f (remove_t (bits_left later) leaf) (size-remove_t-leaf (bits_left later) ∙ ap (λ n. 2 * n) (length-bits_left later (omega (arith, q, c.few))))
            ∙ (rw (bits-next left later bit c.few e, remove_t-leaf bit (bits_left later)) at c.rest);
      }

  pub chain-less : (later : PrefixBits) (bit : Bool) → next_of left ≡ next_as (Some (bit, later)) → (later.len < left.len) × (later.len < 128)
  chain-less later bit e = omega (arith, len-next left later bit e, c.few)

  pub chain-end : next_of left ≡ next_as None → w ≡ put w₀ (place b i) (enc (remove_t (bits_left s) leaf))
  unfolding enc
  chain-end e = sym (put-nil w (place b k)) ∙ (rw (bits-end left c.few e, remove_t-end leaf) at c.rest)

  -- there is room for the next node and its leaf
  pub chain-room : (later : PrefixBits) (bit : Bool) → next_of left ≡ next_as (Some (bit, later)) → 1 ≤ i → i < 1073741824 → s.len ≤ 128 → place b i + 2 * s.len ≤ length w₀
      → ((1 ≤ k) × (k + 2 * later.len < 2147483646)) × (place b k + 2 * later.len + 1 < length w)
  chain-room later bit e o h n m = let q = len-next left later bit e in omega (arith, c.one, c.within, c.long)

-- The words behind are moved, and the chain takes the place of the trie.
pub spliced-split : {w : List ℕ} {b i e u : ℕ} {t : Trie} {rest : List ℕ} → Segment w b i e u t rest → (s : PrefixBits) (v₁ v₂ : List ℕ) → s.len ≤ 128
    → v₁ ≡ put w (b + (i - 1) + 2 * s.len) (take (u - e) (drop (b + (e - 1)) w)) → v₂ ≡ put v₁ (place b i) (enc (remove_t (bits_left s) leaf))
    → Spliced w v₂ b i (i + 2 * s.len) (remove_t (bits_left s) leaf) rest
spliced-split {w} {b} {i} g s v₁ v₂ h p q =
    let n = size-remove_t-leaf (bits_left s) in
    let m = length-bits_left s h in
    record {
      wrote = rw (q, p, segment-rest g) (put-before-at w (place b i) (b + (i - 1) + 2 * s.len) (enc (remove_t (bits_left s) leaf)) _ (omega (arith, length-enc (remove_t (bits_left s) leaf))));
      end = omega arith;
    }

-- What is left of a trie begins at its node, or where nothing is left at `from`.
pub begin-none : (from i : ℕ) → begin from i none ≡ from
unfolding begin
begin-none from i = refl

pub begin-node : (from i : ℕ) (l r : Trie) → begin from i (node l r) ≡ i
unfolding begin
begin-node from i l r = refl

begin-some : (from i : ℕ) (x : Trie) → 0 < size x → begin from i x ≡ i
unfolding begin size
begin-some from i none h = absurd (omega arith)
begin-some from i (node l r) h = refl

begin-same : (i : ℕ) (x : Trie) → begin i i x ≡ i
unfolding begin
begin-same i none = refl
begin-same i (node l r) = refl

pub left-nothing : {w v : List ℕ} {b from y : ℕ} {rest : List ℕ} (i : ℕ) (p : Bits) (t : Trie) → remove_t p t ≡ none → Spliced w v b from y none rest
    → Spliced w v b (begin from i (remove_t p t)) y (remove_t p t) rest
left-nothing {from = from} i p t e d = rw (e, begin-none from i) d

pub left-full : {w v : List ℕ} {b i y : ℕ} {rest : List ℕ} (from : ℕ) (s : PrefixBits) (t : Trie) → s.len ≤ 128 → (t ≡ leaf) × (0 < s.len)
    → Spliced w v b i y (remove_t (bits_left s) leaf) rest → Spliced w v b (begin from i (remove_t (bits_left s) t)) y (remove_t (bits_left s) t) rest
left-full {i = i} from s t h e d = rw (begin-some from i (remove_t (bits_left s) t) (omega (arith, size-full s t e.0 h, e.1)), e.0) d

-- from the root on nothing stands above
pub left-root : {w v : List ℕ} {b y : ℕ} {x : Trie} {rest : List ℕ} (i : ℕ) → Spliced w v b (begin i i x) y x rest → Spliced w v b i y x rest
left-root {x = x} i d = rw (begin-same i x) at d
