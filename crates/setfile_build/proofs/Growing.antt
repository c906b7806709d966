-- A trie that grows at its right end, network by network in address order: Cut t u q ms says that u has the networks of the trie t up to q, and that ms are those behind. Behind q the trie grows by the
-- rest of the next network's path, from the node on where it leaves the path to q, and of the words only that node's changes. Assumes nothing.
use mathlib.Core.Path.{◌≡◌, refl, sym, ap, ◌∙◌}
use mathlib.Core.Bool.{true, false, false≢true}
use mathlib.Core.List.{List, [], ◌∷◌, ◌++◌, append-nil, append_assoc}
use Prim.Native.Nat.{ℕ, zero, suc, ◌+◌, ◌*◌, ◌≤◌, ◌<◌}
use native.Mathlib.Nat.{zero-add}
use native.Mathlib.Omega.{arith}
use lib.ListN.{length, drop}
use Rattle.nets.specs.Bits.{Bits}
use Rattle.nets.specs.Tries.{Trie, none, node, leaf, is_none, size, levels, insert_t}
use Rattle.nodes.specs.Words.{put, enc, word, link0, link1, chain}
use Rattle.nodes.proofs.Put.{put-nil, length-put, put-behind-at}
use Rattle.nodes.proofs.Tries.{length-enc}
use Rattle.nodes.proofs.Chains.{chain-some, size-chain, word-only}
use Rattle.address_order.specs.Streams.{flat, shared}
use Rattle.address_order.proofs.Flat.{halves}

-- The word of a node with a first child alone, with a second child that changes, and with both.
word-left : (l : Trie) → is_none l ≡ false → word l none ≡ 1
word-left l e = word-only false l e

word_same : (l r u : Trie) → is_none r ≡ false → is_none u ≡ false → word l r ≡ word l u
unfolding word link1
word_same l none u e i = absurd (false≢true (sym e))
word_same l (node x y) none e i = absurd (false≢true (sym i))
word_same l (node x y) (node z v) e i = refl

word-both : (l r : Trie) → is_none l ≡ false → is_none r ≡ false → word l r ≡ 1 + 2 * (1 + size l)
unfolding word link0 link1
word-both none r e i = absurd (false≢true (sym e))
word-both (node x y) none e i = absurd (false≢true (sym i))
word-both (node x y) (node z v) e i = refl

-- The nodes before the one of depth k on the path q.
unfoldable pub offset : Bits → Trie → ℕ → ℕ
offset [] t k = 0
offset (b ∷ q) none k = 0
offset (b ∷ q) (node l r) zero = 0
offset (false ∷ q) (node l r) (suc k) = suc (offset q l k)
offset (true ∷ q) (node l r) (suc k) = suc (size l + offset q r k)

pub offset-chain : (m : Bits) (k : ℕ) → k ≤ length m → offset m (chain m) k ≡ k
unfolding offset insert_t size
offset-chain [] k h = omega arith
offset-chain (false ∷ m) zero h = refl
offset-chain (true ∷ m) zero h = refl
offset-chain (false ∷ m) (suc k) h = ap suc (offset-chain m k (omega arith))
offset-chain (true ∷ m) (suc k) h = ap suc (omega (arith, offset-chain m k (omega arith)))

-- Behind its last network q the trie t grows by m, which shares s bits with q, and is then u.
pub data Grow : Trie → Bits → Bits → ℕ → Trie → Type 0 where
  turn : {l : Trie} {q m : Bits} → is_none l ≡ false → Grow (node l none) (false ∷ q) (true ∷ m) 0 (node l (chain m))
  left : {t : Trie} {q m : Bits} {s : ℕ} {u : Trie} → Grow t q m s u → Grow (node t none) (false ∷ q) (false ∷ m) (suc s) (node u none)
  right : {l t : Trie} {q m : Bits} {s : ℕ} {u : Trie} → Grow t q m s u → Grow (node l t) (true ∷ q) (true ∷ m) (suc s) (node l u)

grow-some : {t : Trie} {q m : Bits} {s : ℕ} {u : Trie} → Grow t q m s u → (is_none t ≡ false) × (is_none u ≡ false)
grow-some (turn e) = (refl, refl)
grow-some (left g) = (refl, refl)
grow-some (right g) = (refl, refl)

pub grow-deep : {t : Trie} {q m : Bits} {s : ℕ} {u : Trie} → Grow t q m s u → (s < length q) × (s < length m)
grow-deep (turn e) = (omega arith, omega arith)
grow-deep (left g) = (omega (arith, grow-deep g), omega (arith, grow-deep g))
grow-deep (right g) = (omega (arith, grow-deep g), omega (arith, grow-deep g))

pub grow-size : {t : Trie} {q m : Bits} {s : ℕ} {u : Trie} → Grow t q m s u → size u + s ≡ size t + length m
unfolding size
grow-size (turn {l} {q} {m} e) = omega (arith, size-chain m)
grow-size (left g) = omega (arith, grow-size g)
grow-size (right g) = omega (arith, grow-size g)

-- the nodes up to depth s stay where they are, and the deeper ones come behind all
pub grow-at : {t : Trie} {q m : Bits} {s : ℕ} {u : Trie} → Grow t q m s u → offset q t s < size t
unfolding offset size
grow-at (turn e) = omega arith
grow-at (left g) = omega (arith, grow-at g)
grow-at (right g) = omega (arith, grow-at g)

pub grow-old : {t : Trie} {q m : Bits} {s : ℕ} {u : Trie} → Grow t q m s u → (k : ℕ) → k ≤ s → offset m u k ≡ offset q t k
unfolding offset
grow-old (turn e) zero h = refl
grow-old (turn e) (suc k) h = absurd (omega arith)
grow-old (left g) zero h = refl
grow-old (left g) (suc k) h = ap suc (grow-old g k (omega arith))
grow-old (right g) zero h = refl
grow-old (right {l} g) (suc k) h = ap (λ n. suc (size l + n)) (grow-old g k (omega arith))

pub grow-new : {t : Trie} {q m : Bits} {s : ℕ} {u : Trie} → Grow t q m s u → (k : ℕ) → s < k → k ≤ length m → offset m u k + suc s ≡ size t + k
unfolding offset size
grow-new (turn e) zero h i = absurd (omega arith)
grow-new (turn {l} {q} {m} e) (suc k) h i = omega (arith, offset-chain m k (omega arith))
grow-new (left g) zero h i = absurd (omega arith)
grow-new (left g) (suc k) h i = omega (arith, grow-new g k (omega arith) (omega arith))
grow-new (right g) zero h i = absurd (omega arith)
grow-new (right g) (suc k) h i = omega (arith, grow-new g k (omega arith) (omega arith))

-- A write into the back of two lists, and into a list that was written.
put_back : (a b : List ℕ) (k i : ℕ) (xs : List ℕ) → k ≡ length a + i → put (a ++ b) k xs ≡ a ++ put b i xs
unfolding put
put_back [] b k i xs e = ap (λ n. put b n xs) (e ∙ zero-add i)
put_back (y ∷ a) b zero i xs e = absurd (omega arith)
put_back (y ∷ a) b (suc k) i xs e = ap (λ l. y ∷ l) (put_back a b k i xs (omega arith))

put-inside : (w : List ℕ) (p : ℕ) (xs : List ℕ) (k i x : ℕ) → k ≡ p + i → i < length xs → put (put w p xs) k (x ∷ []) ≡ put w p (put xs i (x ∷ []))
unfolding put
put-inside [] p xs k i x e h = refl
put-inside (y ∷ w) (suc p) xs zero i x e h = absurd (omega arith)
put-inside (y ∷ w) (suc p) xs (suc k) i x e h = ap (λ l. y ∷ l) (put-inside w p xs k i x (omega arith) h)
put-inside (y ∷ w) zero [] k i x e h = absurd (omega arith)
put-inside (y ∷ w) zero (z ∷ xs) zero zero x e h = rw (put-nil (put w zero xs) zero, put-nil xs zero)
put-inside (y ∷ w) zero (z ∷ xs) zero (suc i) x e h = absurd (omega arith)
put-inside (y ∷ w) zero (z ∷ xs) (suc k) zero x e h = absurd (omega arith)
put-inside (y ∷ w) zero (z ∷ xs) (suc k) (suc i) x e h = ap (λ l. z ∷ l) (put-inside w zero xs k i x (omega arith) (omega arith))

-- The words: x is the word of the node of depth s, which gets its second child behind all.
grow-enc : {t : Trie} {q m : Bits} {s : ℕ} {u : Trie} → Grow t q m s u → (x : ℕ) → x + 2 * offset q t s ≡ 1 + 2 * size t
    → enc u ≡ put (enc t) (offset q t s) (x ∷ []) ++ enc (chain (drop (suc s) m))
unfolding offset size enc put
grow-enc (turn {l} {q} {m} e) x h =
    let i : word l (chain m) ≡ x = omega (arith, word-both l (chain m) e (chain-some m)) in
    rw (i, append-nil (enc l), put-nil (enc l) zero)
grow-enc (left {t} {q} {m} {s} {u} g) x h =
    let n = grow-some g in
    rw (word-left t n.0, word-left u n.1, append-nil (enc u), append-nil (enc t)) (ap (λ z. 1 ∷ z) (grow-enc g x (omega arith)))
grow-enc (right {l} {t} {q} {m} {s} {u} g) x h =
    let n = grow-some g in
    rw (word_same l t u n.0 n.1, put_back (enc l) (enc t) (size l + offset q t s) (offset q t s) (x ∷ []) (omega (arith, length-enc l)), append_assoc (enc l) (put (enc t) (offset q t s) (x ∷ [])) (enc (chain (drop (suc s) m))))
    (ap (λ z. word l u ∷ (enc l ++ z)) (grow-enc g x (omega arith)))

pub grow-put : {t : Trie} {q m : Bits} {s : ℕ} {u : Trie} → Grow t q m s u → (w : List ℕ) (p i e x : ℕ) → i ≡ p + offset q t s → e ≡ p + size t → x + 2 * offset q t s ≡ 1 + 2 * size t
    → put (put (put w p (enc t)) i (x ∷ [])) e (enc (chain (drop (suc s) m))) ≡ put w p (enc u)
grow-put {t} {q} {m} {s} {u} g w p i e x hi he hx =
    rw (
      put-inside w p (enc t) i (offset q t s) x hi (omega (arith, length-enc t, grow-at g)),
      put-behind-at w p e (put (enc t) (offset q t s) (x ∷ [])) (enc (chain (drop (suc s) m))) (omega (arith, length-put (enc t) (offset q t s) (x ∷ []), length-enc t)),
    )
    (ap (put w p) (sym (grow-enc g x hx)))

-- u has the networks of t up to q, and ms are those behind.
pub data Cut : Trie → Trie → Bits → List Bits → Type 0 where
  here : Cut leaf leaf [] []
  left : {l u r : Trie} {q : Bits} {ms : List Bits} → Cut l u q ms → Cut (node l r) (node u none) (false ∷ q) (halves ms (flat r))
  right : {l r u : Trie} {q : Bits} {ms : List Bits} → Cut r u q ms → Cut (node l r) (node l u) (true ∷ q) (halves [] ms)

pub cut-size : {t u : Trie} {q : Bits} {ms : List Bits} → Cut t u q ms → size u ≤ size t
unfolding size
cut-size here = omega arith
cut-size (left c) = omega (arith, cut-size c)
cut-size (right c) = omega (arith, cut-size c)

pub cut-levels : {t u : Trie} {q : Bits} {ms : List Bits} → Cut t u q ms → suc (length q) ≤ levels t
unfolding levels
cut-levels here = omega arith
cut-levels (left c) = omega (arith, cut-levels c)
cut-levels (right c) = omega (arith, cut-levels c)

cut-some : {t u : Trie} {q : Bits} {ms : List Bits} → Cut t u q ms → is_none t ≡ false
cut-some here = refl
cut-some (left c) = refl
cut-some (right c) = refl

-- Up to the first network.
pub cut-first : (t : Trie) → is_none t ≡ false → (q : Bits) × (ms : List Bits) × Cut t (chain q) q ms × (flat t ≡ q ∷ ms)
unfolding flat insert_t
cut-first none e = absurd (false≢true (sym e))
cut-first (node none none) e = ([], [], here, refl)
cut-first (node none (node x y)) e = let (q, ms, c, i) = cut-first (node x y) refl in (true ∷ q, halves [] ms, right c, rw i)
cut-first (node (node x y) r) e = let (q, ms, c, i) = cut-first (node x y) refl in (false ∷ q, halves ms (flat r), left c, rw i)

-- Up to the next one; behind the last the trie is whole.
pub record Next (t u : Trie) (q m : Bits) (ms : List Bits) : Type 0 where
  pub grown : Trie
  pub cut : Cut t grown m ms
  pub grows : Grow u q m (shared q m) grown

abbrev pub Onward : Trie → Trie → Bits → List Bits → Type 0
Onward t u q [] = u ≡ t
Onward t u q (m ∷ ms) = Next t u q m ms

onward-second : (l r : Trie) (q : Bits) → is_none l ≡ false → Onward (node l r) (node l none) (false ∷ q) (halves [] (flat r))
unfolding flat shared
onward-second l none q e = refl
onward-second l (node x y) q e = let (m, ms, c, i) = cut-first (node x y) refl in rw i (record { grown = node l (chain m); cut = right c; grows = turn e })

onward-left : (l u r : Trie) (q : Bits) (ms : List Bits) → is_none l ≡ false → Onward l u q ms → Onward (node l r) (node u none) (false ∷ q) (halves ms (flat r))
unfolding shared
onward-left l u r q [] e k = rw k (onward-second l r q e)
onward-left l u r q (m ∷ ms) e k = record { grown = node k.grown none; cut = left k.cut; grows = left k.grows }

onward-right : (l r u : Trie) (q : Bits) (ms : List Bits) → Onward r u q ms → Onward (node l r) (node l u) (true ∷ q) (halves [] ms)
unfolding shared
onward-right l r u q [] k = ap (node l) k
onward-right l r u q (m ∷ ms) k = record { grown = node l k.grown; cut = right k.cut; grows = right k.grows }

pub onward : {t u : Trie} {q : Bits} {ms : List Bits} → Cut t u q ms → Onward t u q ms
onward here = refl
onward (left {l} {u} {r} {q} {ms} c) = onward-left l u r q ms (cut-some c) (onward c)
onward (right {l} {r} {u} {q} {ms} c) = onward-right l r u q ms (onward c)
