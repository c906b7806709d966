-- The trie of one path: its size, its words, and how they are written one by one. Assumes nothing.
use mathlib.Core.Path.{◌≡◌, refl, sym}
use mathlib.Core.Bool.{Bool, true, false, false≢true}
use mathlib.Core.List.{List, [], ◌∷◌, ◌++◌, append-nil}
use mir.Val.{bool_byte}
use Prim.Native.Nat.{ℕ, ◌+◌, ◌≤◌}
use native.Mathlib.Omega.{arith}
use lib.ListN.{length}
use Rattle.nets.specs.Bits.{Bits}
use Rattle.nets.specs.Tries.{Trie, none, node, size, is_none, side, insert_t}
use Rattle.nodes.specs.Words.{put, place, link0, link1, word, enc, chain}
use Rattle.nodes.proofs.Put.{put-behind-at}
use Rattle.nodes.proofs.Tries.{enc-leaf}

pub chain-some : (p : Bits) → is_none (chain p) ≡ false
unfolding insert_t
chain-some [] = refl
chain-some (d ∷ p) = refl

pub size-chain : (p : Bits) → size (chain p) ≡ length p + 1
unfolding insert_t size
size-chain [] = refl
size-chain (false ∷ p) = omega (arith, size-chain p)
size-chain (true ∷ p) = omega (arith, size-chain p)

-- A node with one child, on the side d.
pub bool_byte-le : (d : Bool) → bool_byte d ≤ 1
bool_byte-le false = omega arith
bool_byte-le true = omega arith

pub word-only : (d : Bool) (t : Trie) → is_none t ≡ false → word (side d t none) (side d none t) ≡ 1 + bool_byte d
unfolding word link0 link1 size
word-only d none e = absurd (false≢true (sym e))
word-only false (node l r) e = refl
word-only true (node l r) e = refl

enc-only : (d : Bool) (t : Trie) → enc (side d t none) ++ enc (side d none t) ≡ enc t
unfolding enc
enc-only false t = append-nil (enc t)
enc-only true t = refl

pub enc-chain : (d : Bool) (p : Bits) → enc (chain (d ∷ p)) ≡ (1 + bool_byte d) ∷ enc (chain p)
unfolding insert_t enc
enc-chain d p = rw (word-only d (chain p) (chain-some p), enc-only d (chain p))

-- A turn of a loop that writes the chain, and its end.
pub chain-step : (w v : List ℕ) (b k : ℕ) (d : Bool) (p : Bits) → 1 ≤ k → v ≡ put w (place b k) ((1 + bool_byte d) ∷ []) → put v (place b (k + 1)) (enc (chain p)) ≡ put w (place b k) (enc (chain (d ∷ p)))
chain-step w v b k d p one e = rw (enc-chain d p, e) (put-behind-at w (place b k) (place b (k + 1)) ((1 + bool_byte d) ∷ []) (enc (chain p)) (omega arith))

pub chain-end : (w v : List ℕ) (k : ℕ) {p : Bits} → p ≡ [] → v ≡ put w k (0 ∷ []) → v ≡ put w k (enc (chain p))
unfolding insert_t
chain-end w v k z e = rw (z, enc-leaf) e
