-- The zeros among words: one by one, as the code counts them, and in the words of a trie, where they are the members of its list. Assumes nothing.
use mathlib.Core.Path.{◌≡◌, refl, ◌∙◌}
use mathlib.Core.Bool.{Bool, true, false, cond}
use mathlib.Core.List.{List, [], ◌∷◌, ◌++◌}
use Prim.Native.Nat.{ℕ, zero, suc, ◌+◌, ◌≤◌, ◌<◌}
use native.Mathlib.Omega.{arith}
use native.Mathlib.Numerals.{add-one}
use lib.Dec.{eqb}
use Rattle.std.specs.Int.{from_bool}
use lib.ListN.{length, get_or, take, length-append, length-map}
use lib.Seq.{length-take-le}
use Rattle.nets.specs.Bits.{Bits}
use Rattle.nets.specs.Tries.{Trie, none, node, bare, levels, level, below, list_of}
use Rattle.nodes.specs.Words.{enc, zeros}
use Rattle.nodes.proofs.Tries.{word-leaf}

bit_le : (b : Bool) → cond b 1 0 ≤ 1
bit_le true = omega arith
bit_le false = omega arith

zeros-append : (xs ys : List ℕ) → zeros (xs ++ ys) ≡ zeros xs + zeros ys
unfolding zeros
zeros-append [] ys = omega arith
zeros-append (x ∷ xs) ys = omega (arith, zeros-append xs ys)

pub zeros-le : (xs : List ℕ) → zeros xs ≤ length xs
unfolding zeros
zeros-le [] = omega arith
zeros-le (x ∷ xs) = omega (arith, bit_le (eqb x 0), zeros-le xs)

-- The leaves of a trie, in its words and in its list.
unfoldable leaves : Trie → ℕ
leaves none = 0
leaves (node l r) = cond (bare l r) 1 0 + leaves l + leaves r

zeros-leaves : (t : Trie) → zeros (enc t) ≡ leaves t
unfolding zeros enc leaves
zeros-leaves none = refl
zeros-leaves (node l r) = rw (word-leaf l r) (omega (arith, zeros-append (enc l) (enc r), zeros-leaves l, zeros-leaves r))

pub level-none : (k : ℕ) → level bare k none ≡ []
level-none zero = refl
level-none (suc k) = refl

below_none : (k : ℕ) → below bare k none ≡ []
below_none zero = refl
below_none (suc k) = simp (below_none k, level-none)

length-below : (k : ℕ) (l r : Trie) → length (below bare (suc k) (node l r)) ≡ cond (bare l r) 1 0 + length (below bare k l) + length (below bare k r)
length-below zero l r = go (bare l r)
  where
    go : (b : Bool) → length (cond {A = List Bits} b ([] ∷ []) []) ≡ cond b 1 0 + 0 + 0
    go true = refl
    go false = refl
length-below (suc k) l r = simp (length-append, length-map) (omega (arith, simp length-append at (length-below k l r)))

leaves-below : (t : Trie) (k : ℕ) → levels t ≤ k → leaves t ≡ length (below bare k t)
unfolding leaves levels
leaves-below none k h = rw (below_none k)
leaves-below (node l r) zero h = absurd (omega arith)
leaves-below (node l r) (suc k) h = omega (arith, length-below k l r, leaves-below l k (omega arith), leaves-below r k (omega arith))

pub zeros-enc : (t : Trie) → zeros (enc t) ≡ length (list_of t)
unfolding list_of
zeros-enc t = zeros-leaves t ∙ leaves-below t (levels t) (omega arith)

byte-bit : (b : Bool) → from_bool b ≡ cond b 1 0
byte-bit true = refl
byte-bit false = refl

zeros-next : (xs : List ℕ) (k : ℕ) → k < length xs → zeros (take k xs) + cond (eqb (get_or xs k 0) 0) 1 0 ≡ zeros (take (k + 1) xs)
unfolding zeros
zeros-next [] k h = absurd (omega arith)
zeros-next (x ∷ xs) zero h = omega arith
zeros-next (x ∷ xs) (suc k) h = rw add-one (omega (arith, rw add-one at (zeros-next xs k (omega arith))))

-- one word more, as the code counts: x is its flag
pub zeros-more : (xs : List ℕ) (k x : ℕ) → k < length xs → x ≡ from_bool (eqb (get_or xs k 0) 0) → (zeros (take k xs) + x ≡ zeros (take (k + 1) xs)) × (zeros (take k xs) + x ≤ length xs)
zeros-more xs k x h e =
    let n = zeros-next xs k h in
    let q : x ≡ cond (eqb (get_or xs k 0) 0) 1 0 = e ∙ byte-bit _ in
    (omega arith, omega (arith, zeros-le (take (k + 1) xs), length-take-le (k + 1) xs (omega arith)))
