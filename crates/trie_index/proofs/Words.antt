-- The words of the strings of at most eight bits, filled in by their keys; then the 256 of eight bits, compared or written one by one: what is left of them
-- completes the whole, whatever trie stands there. Assumes nothing.
use mathlib.Core.Bool.{Bool, true, false, cond}
use mathlib.Core.List.{List}
use mathlib.Core.Path.{◌≡◌, refl, sym, ◌∙◌}
use Prim.Native.Nat.{ℕ, ◌+◌, ◌-◌, ◌*◌, ◌/◌, ◌%◌, ◌≤◌, ◌<◌}
use native.Mathlib.Nat.{add-zero}
use native.Mathlib.Decide.{ℕ_discrete}
use native.Mathlib.Omega.{arith}
use lib.Dec.{eqb}
use lib.ListN.{length, get_or, set, replicate, length-set, length-replicate}
use lib.Seq.{get_or-set_same, get_or-set_other}
use Rattle.nets.specs.Bits.{bits, digit}
use Rattle.nets.specs.Tries.{Trie, side}
use Rattle.nodes.specs.Words.{put}
use Rattle.nodes.proofs.Put.{put-nil}
use Rattle.trie_index.specs.Index.{standing, fill, index_t, is_at, Rooted}
use Rattle.trie_index.proofs.Fill.{set_rest, at_off, at_on, at-end}
use Rattle.trie_index.proofs.Ways.{Under, onward_of, Spot, spot-start, spot-byte, spot_in, spot_on}

-- whatever trie stands there, x is the word of the string with the key j
abbrev Word : List ℕ → ℕ → ℕ → ℕ → ℕ → ℕ → Type 0
Word w b n root j x = (t : Trie) → Rooted w b n root t → Spot w b n root t j x

-- Filled in: the words of the keys below m.
pub record Filled (w : List ℕ) (b n root : ℕ) (words : List ℕ) (m : ℕ) : Type 0 where
  pub long : length words ≡ 512
  pub at : (j : ℕ) → 1 ≤ j → j < m → Word w b n root j (get_or words j 0)

filled_more : {w : List ℕ} {b n root : ℕ} {words : List ℕ} {m x : ℕ} → Filled w b n root words m → m < 512 → Word w b n root m x
    → Filled w b n root (set words m x) (m + 1)
filled_more {w} {b} {n} {root} {words} {m} {x} h lt is = record { long = length-set words m x ∙ h.long; at = λ j l k. go j l k (ℕ_discrete j m) }
  where
    go : (j : ℕ) → 1 ≤ j → j < m + 1 → Dec (j ≡ m) → Word w b n root j (get_or (set words m x) j 0)
    go j l k (yes e) = rw (e, get_or-set_same words m x 0 (omega (arith, h.long))) is
    go j l k (no ne) = rw (get_or-set_other words m j x 0 ne) (h.at j l (omega (arith, ne)))

pub filled-start : (w : List ℕ) (b n root : ℕ) {x : ℕ} → x ≡ cond (eqb root 0) 16 0 → Filled w b n root (set (replicate 512 0) 1 x) 2
filled-start w b n root e =
    let h : Filled w b n root (replicate 512 0) 1 = record { long = length-replicate {A = ℕ} 512 0; at = λ j l k. absurd (omega arith) } in
    filled_more h (omega arith) (λ t g. rw e (spot-start g))

pub filled-end : {w : List ℕ} {b n root : ℕ} {words : List ℕ} {m : ℕ} → Filled w b n root words m → 512 ≤ m
    → (t : Trie) → Rooted w b n root t → (v : ℕ) → v < 256 → get_or words (256 + v) 0 ≡ standing (bits 8 v) 0 0 t
filled-end h le t g v lt = spot-byte lt (h.at (256 + v) (omega arith) (omega arith) t g)

-- A turn at the key k, whose word is s: by the word x of the node where its walk stands.
pub record Turn (w : List ℕ) (b n root : ℕ) (words : List ℕ) (k : ℕ) : Type 0 where
  pub one : 1 ≤ k
  pub low : k < 256
  pub filled : Filled w b n root words (2 * k)

pub turn-at : {w : List ℕ} {b n root : ℕ} {words : List ℕ} {k : ℕ} → 1 ≤ k → k < 256 → Filled w b n root words (2 * k) → Turn w b n root words k
turn-at one low filled = record { one = one; low = low; filled = filled }

module _ {w : List ℕ} {b n root : ℕ} {words : List ℕ} {k s : ℕ} (h : Turn w b n root words k) (s-is : s ≡ get_or words k 0) where
  here : Word w b n root k s
  here = rw s-is (h.filled.at k h.one (omega arith))

  pub turn_in : ((t : Trie) × Rooted w b n root t) → s % 32 < 16 → (1 ≤ root + s / 32) × (root + s / 32 ≤ n)
  turn_in (t, g) = spot_in (here t g) h.low

  module _ {x : ℕ} (x-is : Under w b root s x) where
    pub turn_small : ((t : Trie) × Rooted w b n root t) → n ≤ 4194304 → (c : Bool) {m : ℕ} → m ≡ side c (x % 2) (x / 2) → s + 32 * m < 4294967295
    turn_small (t, g) few c e = (spot_on (here t g) h.low x-is c e).0 few

    next : (c : Bool) {m y : ℕ} → m ≡ side c (x % 2) (x / 2) → y ≡ onward_of s x m → Word w b n root (2 * k + digit c) y
    next c e o t g = rw o (spot_on (here t g) h.low x-is c e).1

    pub turn_on : {l m y z : ℕ} → l ≡ side false (x % 2) (x / 2) → y ≡ onward_of s x l → m ≡ side true (x % 2) (x / 2) → z ≡ onward_of s x m
        → Filled w b n root (set (set words (2 * k) y) (2 * k + 1) z) (2 * (k + 1))
    turn_on p e q f =
        let i : 2 * (k + 1) ≡ 2 * k + 1 + 1 = omega arith in
        rw i (filled_more (filled_more h.filled (omega arith) (rw (add-zero (2 * k)) at (next false p e))) (omega arith) (next true q f))

-- the word of the byte v
abbrev word_of : Trie → ℕ → ℕ
word_of t v = standing (bits 8 v) 0 0 t

-- Compared: the words from byte v on decide.
pub record Left (w : List ℕ) (b n root p v : ℕ) : Type 0 where
  pub part : (t : Trie) → Rooted w b n root t → is_at w (p + v) (fill (word_of t) v (256 - v)) ≡ is_at w p (index_t t)

pub left-start : (w : List ℕ) (b n root p : ℕ) → Left w b n root p 0
unfolding index_t
left-start w b n root p = record { part = λ t g. rw (add-zero p) }

module _ {w : List ℕ} {b n root p v : ℕ} (h : Left w b n root p v) where
  pub left_end : 256 ≤ v → (t : Trie) → Rooted w b n root t → true ≡ is_at w p (index_t t)
  left_end le t g = sym (at-end (word_of t) w (p + v) v 256 le) ∙ h.part t g

  module _ (lt : v < 256) {x : ℕ} (is : (t : Trie) → Rooted w b n root t → x ≡ word_of t v) where
    pub left-off : (get_or w (p + v) 0 ≡ x → ⊥) → (t : Trie) → Rooted w b n root t → false ≡ is_at w p (index_t t)
    left-off ne t g = sym (at_off (word_of t) w p v 256 lt (λ z. ne (z ∙ sym (is t g)))) ∙ h.part t g

    pub left-on : get_or w (p + v) 0 ≡ x → Left w b n root p (v + 1)
    left-on z = record { part = λ t g. sym (at_on (word_of t) w p v 256 lt (z ∙ is t g)) ∙ h.part t g }

-- Written: what is left to write from byte v on completes the index.
pub record Writing (w₀ : List ℕ) (b n root p : ℕ) (w : List ℕ) (v : ℕ) : Type 0 where
  pub long : length w ≡ length w₀
  pub part : (t : Trie) → Rooted w₀ b n root t → put w (p + v) (fill (word_of t) v (256 - v)) ≡ put w₀ p (index_t t)

pub writing_start : (w : List ℕ) (b n root p : ℕ) → Writing w b n root p w 0
unfolding index_t
writing_start w b n root p = record { long = refl; part = λ t g. rw (add-zero p) }

module _ {w₀ : List ℕ} {b n root p : ℕ} {w : List ℕ} {v : ℕ} (h : Writing w₀ b n root p w v) where
  pub writing-end : 256 ≤ v → (t : Trie) → Rooted w₀ b n root t → w ≡ put w₀ p (index_t t)
  unfolding fill
  writing-end le t g = let e : 256 - v ≡ 0 = omega arith in sym (put-nil w (p + v)) ∙ rw e at (h.part t g)

  pub writing-on : v < 256 → {x : ℕ} → ((t : Trie) → Rooted w₀ b n root t → x ≡ word_of t v) → Writing w₀ b n root p (set w (p + v) x) (v + 1)
  writing-on lt {x} is = record { long = length-set w (p + v) x ∙ h.long; part = λ t g. set_rest (word_of t) w p v 256 x lt (is t g) ∙ h.part t g }
