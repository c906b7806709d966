-- The words of the strings of at most eight bits, level by level: where the walk of a string stands decides its word, and those of the two strings with a bit
-- more. Assumes nothing.
--
--   Under w b root s x       x is the word of the node where the walk with the word s stands, 0 where it stands at none
--   onward_of s x k           the walk's word after a bit more, with the child on the bit's side k nodes on
--   Toward c l r k           k is the distance from a node to its child on the side c, of its children l and r
--   At w b n i t             the trie t, which has a node, stands at node i of n
--   Seen w b n root d r s u  the walk with the word s stands at the trie u, d bits down and r nodes behind the root
--   Spot w b n root t j s    the same of the walk through t of the string with the key j; how it goes on is a matter of u alone
use mathlib.Core.Bool.{Bool, true, false, cond}
use mathlib.Core.List.{List, [], ◌∷◌, ◌++◌, append_assoc, append-nil}
use mathlib.Core.Path.{◌≡◌, refl, ap, sym, ◌∙◌}
use Prim.Native.Nat.{ℕ, suc, ◌+◌, ◌*◌, ◌/◌, ◌%◌, ◌≤◌, ◌<◌, ◌^◌}
use native.Mathlib.Nat.{add-zero, add_assoc, pow-suc}
use native.Mathlib.Numerals.{add-one}
use native.Mathlib.Decide.{dec_lt}
use native.Mathlib.Omega.{arith}
use lib.Dec.{eqb}
use lib.ListN.{length, length-append}
use lib.Pow.{pow_mono}
use borrow.Author.Tests.{eq-eqb, ne_eqb, eqb-true, eqb-false}
use Rattle.nets.specs.Bits.{Bits, bits, digit, val}
use Rattle.nets.specs.Tries.{Trie, none, node, size, bare, side}
use Rattle.nets.proofs.Levels.{side_same}
use Rattle.nets.proofs.Numbers.{length-bits, val-bits}
use Rattle.nets.proofs.Order.{key, key_one}
use Rattle.nodes.specs.Words.{Has, link0, link1, word, enc, place, word_at}
use Rattle.nodes.proofs.Has.{has-at}
use Rattle.nodes.proofs.Tries.{size-node, word_first, word-second, word-leaf, apart}
use Rattle.trie_index.specs.Index.{node_at, absent_at, standing, Rooted}

-- What a turn of the code reads and makes.
abbrev pub Under : List ℕ → ℕ → ℕ → ℕ → ℕ → Type 0
Under w b root s x = (s % 32 < 16 → x ≡ word_at w b (root + s / 32)) × (16 ≤ s % 32 → x ≡ 0)

abbrev pub onward_of : ℕ → ℕ → ℕ → ℕ
onward_of s x k = cond (eqb x 0) s (cond (eqb k 0) (17 + s % 32) (s + 32 * k + 1))

-- A bit more behind a string: its number and its key.
length_last : (p : Bits) (b : Bool) → length (p ++ (b ∷ [])) ≡ suc (length p)
length_last p b = omega (arith, length-append p (b ∷ []))

pub val-last : (p : Bits) (b : Bool) → val (p ++ (b ∷ [])) ≡ val p + val p + digit b
val-last [] false = refl
val-last [] true = refl
val-last (false ∷ p) b = omega (arith, val-last p b)
val-last (true ∷ p) b = omega (arith, val-last p b, pow-suc 2 (length p), ap (λ k. 2 ^ k) (length_last p b))

key-last : (p : Bits) (b : Bool) → key (p ++ (b ∷ [])) ≡ 2 * key p + digit b
key-last p b = omega (arith, val-last p b, pow-suc 2 (length p), ap (λ k. 2 ^ k) (length_last p b))

-- The child on the side of a bit.
abbrev step : Bool → Trie → ℕ
step c l = side c 1 (1 + size l)

step-some : (c : Bool) (l : Trie) → step c l ≡ 0 → ⊥
step-some false l e = omega arith
step-some true l e = omega arith

data Toward (c : Bool) (l r : Trie) (k : ℕ) : Type 0 where
  nothing : k ≡ 0 → side c l r ≡ none → Toward c l r k
  child : (x y : Trie) → k ≡ step c l → side c l r ≡ node x y → Toward c l r k

toward : (c : Bool) (l r : Trie) → Toward c l r (side c (word l r % 2) (word l r / 2))
unfolding link0 link1
toward false none r = nothing (word_first none r) refl
toward false (node x y) r = child x y (word_first (node x y) r) refl
toward true l none = nothing (word-second l none) refl
toward true l (node x y) = child x y (word-second l (node x y)) refl

record At (w : List ℕ) (b n i : ℕ) (t : Trie) : Type 0 where
  one : 1 ≤ i
  within : i + size t ≤ suc n
  has : Has w (place b i) (enc t)

at-child : {w : List ℕ} {b n i : ℕ} {l r : Trie} (c : Bool) → At w b n i (node l r) → At w b n (i + step c l) (side c l r)
at-child {l} {r} false h = record { one = omega arith; within = omega (arith, size-node l r); has = (apart l r h.one h.has).left }
at-child {l} {r} true h = record { one = omega arith; within = omega (arith, size-node l r); has = has-at (omega arith) (apart l r h.one h.has).right }

-- A walk that has come to an absence or to a leaf stays, and at an inner node it goes on.
standing-none : (c : Bool) (q : Bits) (d r : ℕ) → standing (c ∷ q) d r none ≡ standing q d r none
unfolding standing
standing-none c [] d r = refl
standing-none c (b ∷ q) d r = refl

standing-leaf : (c : Bool) (q : Bits) (d n : ℕ) (l r : Trie) → bare l r ≡ true → standing (c ∷ q) d n (node l r) ≡ standing q d n (node l r)
unfolding standing
standing-leaf c [] d n l r e = rw e
standing-leaf c (b ∷ q) d n l r e = rw e

standing_on : (c : Bool) (p : Bits) (d n : ℕ) (l r : Trie) → bare l r ≡ false → standing (c ∷ p) d n (node l r) ≡ standing p (d + 1) (n + step c l) (side c l r)
unfolding standing
standing_on c p d n l r e = rw e

data Seen (w : List ℕ) (b n root d r s : ℕ) : Trie → Type 0 where
  absent : s ≡ absent_at d → Seen w b n root d r s none
  there : (x y : Trie) → s ≡ node_at d r → At w b n (root + r) (node x y) → Seen w b n root d r s (node x y)

seen-word : {w : List ℕ} {b n root d r s : ℕ} {u : Trie} → Seen w b n root d r s u → s ≡ standing [] d r u
unfolding standing
seen-word (absent e) = e
seen-word (there x y e a) = e

seen-small : {w : List ℕ} {b n root d r s : ℕ} {u : Trie} → d < 8 → n ≤ 4194304 → Seen w b n root d r s u → s < 4294967295
seen-small l few (absent e) = omega arith
seen-small l few (there x y e a) = omega (arith, size-node x y)

seen-in : {w : List ℕ} {b n root d r s : ℕ} {u : Trie} → d < 8 → s % 32 < 16 → Seen w b n root d r s u → (1 ≤ root + s / 32) × (root + s / 32 ≤ n)
seen-in l lt (absent e) = absurd (omega arith)
seen-in l lt (there x y e a) = omega (arith, size-node x y)

seen-root : {w : List ℕ} {b n root : ℕ} (t : Trie) → Rooted w b n root t → Seen w b n root 0 0 (cond (eqb root 0) 16 0) t
seen-root {w} {b} {n} {root} t h = go (eqb root 0) refl t h
  where
    go : (z : Bool) → eqb root 0 ≡ z → (t : Trie) → Rooted w b n root t → Seen w b n root 0 0 (cond z 16 0) t
    go true e t h = rw (h.empty (eqb-true root 0 e)) (absent refl)
    go false e none h = absurd ((h.some (eqb-false root 0 e)).2 refl)
    go false e (node x y) h =
        let (f, s, ne) = h.some (eqb-false root 0 e) in
        there x y refl (rw (add-zero root) (record { one = omega (arith, eqb-false root 0 e); within = s.within; has = s.has }))

pub record Spot (w : List ℕ) (b n root : ℕ) (t : Trie) (j s : ℕ) : Type 0 where
  p : Bits
  d : ℕ
  r : ℕ
  u : Trie
  key-is : key p ≡ j
  deep : 2 ^ d ≤ j
  on : (q : Bits) → standing (p ++ q) 0 0 t ≡ standing q d r u
  seen : Seen w b n root d r s u

-- Before the first bit, and after eight.
pub spot-start : {w : List ℕ} {b n root : ℕ} {t : Trie} → Rooted w b n root t → Spot w b n root t 1 (cond (eqb root 0) 16 0)
spot-start {t} h = record { p = []; d = 0; r = 0; u = t; key-is = refl; deep = omega arith; on = λ q. refl; seen = seen-root t h }

pub spot-byte : {w : List ℕ} {b n root : ℕ} {t : Trie} {v s : ℕ} → v < 256 → Spot w b n root t (256 + v) s → s ≡ standing (bits 8 v) 0 0 t
spot-byte {t} {v} lt h =
    let e : key h.p ≡ key (bits 8 v) = omega (arith, h.key-is, ap (λ m. 2 ^ m) (length-bits 8 v), val-bits 8 v) in
    seen-word h.seen ∙ sym (h.on []) ∙ rw (append-nil h.p, key_one h.p (bits 8 v) e)

module _ {w : List ℕ} {b n root : ℕ} {t : Trie} {j s : ℕ} (h : Spot w b n root t j s) (low : j < 256) where
  shallow : h.d < 8
  shallow = go (dec_lt h.d 8)
    where
      go : Dec (h.d < 8) → h.d < 8
      go (yes l) = l
      go (no l) = absurd (omega (arith, h.deep, let g : 8 ≤ h.d = omega arith in pow_mono g))

  pub spot_in : s % 32 < 16 → (1 ≤ root + s / 32) × (root + s / 32 ≤ n)
  spot_in lt = seen-in shallow lt h.seen

  -- A bit c more, by the word x of the node where the walk stands and the distance k on the side of c.
  module _ {x : ℕ} (x-is : Under w b root s x) (c : Bool) {k : ℕ} (k-is : k ≡ side c (x % 2) (x / 2)) where
    abbrev after : ℕ
    after = onward_of s x k

    -- what follows the bit c is a matter of v
    abbrev Ahead : ℕ → ℕ → Trie → Type 0
    Ahead d r v = (q : Bits) → standing (h.p ++ (c ∷ q)) 0 0 t ≡ standing q d r v

    -- the sum that the code makes is small, and the string with c behind it has its word
    abbrev Next : Type 0
    Next = (n ≤ 4194304 → s + 32 * k < 4294967295) × Spot w b n root t (2 * j + digit c) after

    spot : (d r : ℕ) (v : Trie) → 2 ^ d ≤ 2 * j → Ahead d r v → Seen w b n root d r after v → Spot w b n root t (2 * j + digit c) after
    spot d r v deep on seen = record {
      p = h.p ++ (c ∷ []);
      d = d;
      r = r;
      u = v;
      key-is = key-last h.p c ∙ ap (λ m. 2 * m + digit c) h.key-is;
      deep = omega arith;
      on = λ q. ap (λ z. standing z 0 0 t) (append_assoc h.p (c ∷ []) q) ∙ on q;
      seen = seen;
    }

    stays : {u : Trie} → x ≡ 0 → Ahead h.d h.r u → Seen w b n root h.d h.r s u → Next
    stays {u} z on seen =
        let o : k ≡ 0 = k-is ∙ ap (λ y. side c (y % 2) (y / 2)) z ∙ side_same c 0 in
        (λ few. omega (arith, seen-small shallow few seen), spot h.d h.r u (omega (arith, h.deep)) on (rw (eq-eqb x 0 z) seen))

    module _ {l m : Trie} (e : s ≡ node_at h.d h.r) (a : At w b n (root + h.r) (node l m)) where
      goes : (x ≡ 0 → ⊥) → Ahead (h.d + 1) (h.r + step c l) (side c l m) → Toward c l m k → Next
      goes ne on = go
        where
          deeper : (v : Trie) → side c l m ≡ v → Seen w b n root (h.d + 1) (h.r + step c l) after v → Spot w b n root t (2 * j + digit c) after
          deeper v z = spot (h.d + 1) (h.r + step c l) v (omega (arith, h.deep, pow-suc 2 h.d, ap (λ i. 2 ^ i) (add-one h.d))) (λ q. rw z at (on q))

          go : Toward c l m k → Next
          go (nothing o z) = (
            λ few. omega (arith, shallow, size-node l m),
            deeper none z (rw (ne_eqb x 0 ne, eq-eqb k 0 o) (absent (omega (arith, shallow)))),
          )
          go (child f g o z) =
              let y : At w b n (root + (h.r + step c l)) (node f g) = rw (← add_assoc root h.r (step c l), ← z) (at-child c a) in (
                λ few. omega (arith, shallow, size-node f g),
                deeper (node f g) z (rw (ne_eqb x 0 ne, ne_eqb k 0 (λ i. step-some c l (sym o ∙ i))) (there f g (omega (arith, shallow)) y)),
              )

      word-is : x ≡ word l m
      word-is =
          let i : s / 32 ≡ h.r = omega (arith, shallow) in
          x-is.0 (omega (arith, shallow)) ∙ ap (λ y. word_at w b (root + y)) i ∙ (apart l m a.one a.has).root

      next : ((q : Bits) → standing (h.p ++ q) 0 0 t ≡ standing q h.d h.r (node l m)) → Next
      next on = go (bare l m) refl
        where
          go : (z : Bool) → bare l m ≡ z → Next
          go true z = stays (word-is ∙ eqb-true (word l m) 0 (word-leaf l m ∙ z)) (λ q. on (c ∷ q) ∙ standing-leaf c q h.d h.r l m z) (there l m e a)
          go false z =
              goes (λ y. eqb-false (word l m) 0 (word-leaf l m ∙ z) (sym word-is ∙ y)) (λ q. on (c ∷ q) ∙ standing_on c q h.d h.r l m z)
              (rw (k-is, word-is) (toward c l m))

    pub spot_on : Next
    spot_on = go h.on h.seen
      where
        go : {u : Trie} → ((q : Bits) → standing (h.p ++ q) 0 0 t ≡ standing q h.d h.r u) → Seen w b n root h.d h.r s u → Next
        go on (absent e) = stays (x-is.1 (omega (arith, shallow))) (λ q. on (c ∷ q) ∙ standing-none c q h.d h.r) (absent e)
        go on (there l m e a) = next e a on
