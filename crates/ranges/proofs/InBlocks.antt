-- The trie of a range, over the width of the block that it is cut to: what it covers, that it is simple, and how many leaves it has. A range that begins
-- before the block, or ends behind it, leaves at most one leaf for each bit: the half that it has whole, and what it has of the other. Assumes nothing.
use Rattle.std.proofs.Common.{◌≡◌, ℕ, zero, suc, ◌+◌, ◌-◌, ◌*◌, ◌^◌, ◌<◌, ◌≤◌, max, Bool, true, false, cond, ◌&&◌, ◌||◌, ltb, leb, ◌⊎◌, [], ◌∷◌, length, sym, refl, ap, ◌∙◌, inl, inr, pow-suc, arith, length-append, pow_pos, ltb-true, lt-ltb, le-leb, leb-true}
use mathlib.Core.Bool.{or-true, false≢true}
use native.Mathlib.Decide.{dec_lt, dec_le}
use lib.ListN.{length-map}
use Rattle.nets.specs.Bits.{Bits, digit, val}
use Rattle.nets.specs.Tries.{Trie, none, node, leaf, bare, side, glue, levels, covers_t}
use Rattle.nets.specs.TrieOps.{Kind, flat, mixed}
use Rattle.nets.proofs.Strings.{and_left, and_right, and_both, or_cases, cond_both}
use Rattle.nets.proofs.Order.{val-high}
use Rattle.nets.proofs.Listing.{bare-none, covers_t-none, covers_t-leaf}
use Rattle.nets.proofs.Glue.{covers_t-glue, levels-glue}
use Rattle.nets.proofs.Simplifying.{Simple, simple-glue}
use Rattle.address_order.specs.Streams.{flat as leaves}
use Rattle.ranges.specs.Ranges.{Range, holds}
use Rattle.ranges.specs.Blocks.{part_of, range_t}
use Rattle.ranges.proofs.Spaced.{is-holds, holds_not}

-- How a block of 2^w addresses from x on lies to a range, and that `part_of` tells it.
pub record Inside (w x : ℕ) (r : Range) : Type 0 where
  pub begins : r.first ≤ x
  pub ends : x + 2 ^ w ≤ suc r.last

abbrev pub Outside : ℕ → ℕ → Range → Type 0
Outside w x r = (r.last < x) ⊎ (x + 2 ^ w ≤ r.first)

abbrev Told : ℕ → ℕ → Range → Kind → Type 0
Told w x r (flat true) = Inside w x r
Told w x r (flat false) = Outside w x r
Told w x r mixed = (Inside w x r → ⊥) × (Outside w x r → ⊥)

part-told : (w x : ℕ) (r : Range) → Told w x r (part_of w x r)
unfolding part_of
part-told w x r = go (leb r.first x && leb (x + 2 ^ w) (suc r.last)) refl (ltb r.last x || leb (x + 2 ^ w) r.first) refl
  where
    out : (ltb r.last x ≡ true) ⊎ (leb (x + 2 ^ w) r.first ≡ true) → Outside w x r
    out (inl e) = inl (ltb-true r.last x e)
    out (inr e) = inr (leb-true (x + 2 ^ w) r.first e)

    test : Outside w x r → (ltb r.last x || leb (x + 2 ^ w) r.first) ≡ true
    test (inl h) = rw (lt-ltb r.last x h)
    test (inr h) = rw (le-leb (x + 2 ^ w) r.first h, or-true (ltb r.last x))

    go : (y : Bool) → (leb r.first x && leb (x + 2 ^ w) (suc r.last)) ≡ y → (z : Bool) → (ltb r.last x || leb (x + 2 ^ w) r.first) ≡ z
        → Told w x r (cond y (flat true) (cond z (flat false) mixed))
    go true e z f = record {
      begins = leb-true r.first x (and_left (leb r.first x) (leb (x + 2 ^ w) (suc r.last)) e);
      ends = leb-true (x + 2 ^ w) (suc r.last) (and_right (leb r.first x) (leb (x + 2 ^ w) (suc r.last)) e);
    }
    go false e true f = out (or_cases (ltb r.last x) (leb (x + 2 ^ w) r.first) f)
    go false e false f = (
      λ i. false≢true (sym e ∙ and_both (leb r.first x) (leb (x + 2 ^ w) (suc r.last)) (le-leb r.first x i.begins) (le-leb (x + 2 ^ w) (suc r.last) i.ends)),
      λ o. false≢true (sym f ∙ test o),
    )

-- what holds in the three cases holds of the trie of a range
pub range-step : (P : Trie → Type 0) (w x : ℕ) (r : Range) → (Inside (suc w) x r → P leaf) → (Outside (suc w) x r → P none)
    → ((Inside (suc w) x r → ⊥) → (Outside (suc w) x r → ⊥) → P (glue true (range_t w x r) (range_t w (x + 2 ^ w) r))) → P (range_t (suc w) x r)
unfolding range_t
range-step P w x r a b c = go (part_of (suc w) x r) refl (part-told (suc w) x r)
  where
    go : (k : Kind) → part_of (suc w) x r ≡ k → Told (suc w) x r k → P (range_t (suc w) x r)
    go (flat true) e t = rw (range_t, e) (a t)
    go (flat false) e t = rw (range_t, e) (b t)
    go mixed e t = rw (range_t, e) (c t.0 t.1)

-- all of it, and none of it
inside-outside : (w x : ℕ) (r : Range) → Inside w x r → Outside w x r → ⊥
inside-outside w x r i (inl h) = omega (arith, i.ends, pow_pos w)
inside-outside w x r i (inr h) = omega (arith, i.begins, pow_pos w)

pub range-whole : (w x : ℕ) (r : Range) → Inside w x r → range_t w x r ≡ leaf
unfolding range_t
range-whole zero x r i = rw (is-holds r x i.begins (omega (arith, i.ends)))
range-whole (suc w) x r i = range-step (λ t. t ≡ leaf) w x r (λ _. refl) (λ o. absurd (inside-outside (suc w) x r i o)) (λ n _. absurd (n i))

pub range_none : (w x : ℕ) (r : Range) → Outside w x r → range_t w x r ≡ none
unfolding range_t
range_none zero x r (inl h) = rw (holds_not r x (λ _ g. omega arith))
range_none zero x r (inr h) = rw (holds_not r x (λ g _. omega arith))
range_none (suc w) x r o = range-step (λ t. t ≡ none) w x r (λ i. absurd (inside-outside (suc w) x r i o)) (λ _. refl) (λ _ n. absurd (n o))

-- It has at most w levels below its root, is simple, and covers what the range has of the block.
pub levels-range : (w x : ℕ) (r : Range) → levels (range_t w x r) ≤ suc w
unfolding range_t levels
levels-range zero x r = cond_both (λ t. levels t ≤ 1) (holds r x) leaf none (omega arith) (omega arith)
levels-range (suc w) x r =
    range-step (λ t. levels t ≤ suc (suc w)) w x r (λ _. omega arith) (λ _. omega arith)
    (λ _ _. omega (arith, levels-glue true (range_t w x r) (range_t w (x + 2 ^ w) r), levels-range w x r, levels-range w (x + 2 ^ w) r))

pub simple-range : (w x : ℕ) (r : Range) → Simple (range_t w x r)
unfolding range_t
simple-range zero x r = cond_both Simple (holds r x) leaf none (refl, tt, tt) tt
simple-range (suc w) x r =
    range-step Simple w x r (λ _. (refl, tt, tt)) (λ _. tt)
    (λ _ _. simple-glue (range_t w x r) (range_t w (x + 2 ^ w) r) (simple-range w x r) (simple-range w (x + 2 ^ w) r))

covers-inside : (x : ℕ) (r : Range) (a : Bits) → Inside (length a) x r → covers_t leaf a ≡ holds r (x + val a)
covers-inside x r a i = covers_t-leaf a ∙ sym (is-holds r (x + val a) (omega (arith, i.begins)) (omega (arith, i.ends, val-high a)))

covers-outside : (x : ℕ) (r : Range) (a : Bits) → Outside (length a) x r → covers_t none a ≡ holds r (x + val a)
covers-outside x r a (inl h) = covers_t-none a ∙ sym (holds_not r (x + val a) (λ _ g. omega arith))
covers-outside x r a (inr h) = covers_t-none a ∙ sym (holds_not r (x + val a) (λ g _. omega (arith, val-high a)))

pub covers-range : (w x : ℕ) (r : Range) (a : Bits) → length a ≡ w → covers_t (range_t w x r) a ≡ holds r (x + val a)
unfolding range_t
covers-range zero x r [] e = let z : x + 0 ≡ x = omega arith in go (holds r x) (ap (holds r) z)
  where
    go : (y : Bool) → holds r (x + 0) ≡ y → covers_t (cond y leaf none) [] ≡ holds r (x + 0)
    go true f = sym f
    go false f = sym f
covers-range zero x r (b ∷ a) e = absurd (omega arith)
covers-range (suc w) x r [] e = absurd (omega arith)
covers-range (suc w) x r (b ∷ a) e =
    let n : length a ≡ w = omega arith in
    range-step (λ t. covers_t t (b ∷ a) ≡ holds r (x + val (b ∷ a))) w x r (λ i. covers-inside x r (b ∷ a) (rw e i)) (λ o. covers-outside x r (b ∷ a) (rw e o))
    (λ _ _. covers_t-glue true b (range_t w x r) (range_t w (x + 2 ^ w) r) a ∙ halves b n (covers-range w x r a n) (covers-range w (x + 2 ^ w) r a n))
  where
    halves : (c : Bool) → length a ≡ w → covers_t (range_t w x r) a ≡ holds r (x + val a) → covers_t (range_t w (x + 2 ^ w) r) a ≡ holds r (x + 2 ^ w + val a)
        → covers_t (side c (range_t w x r) (range_t w (x + 2 ^ w) r)) a ≡ holds r (x + (digit c * 2 ^ length a + val a))
    halves false n i j = let q : x + (0 * 2 ^ length a + val a) ≡ x + val a = omega arith in rw q i
    halves true n i j = let q : x + (1 * 2 ^ length a + val a) ≡ x + 2 ^ w + val a = rw n (omega arith) in rw q j

-- How many leaves.
abbrev count : ℕ → ℕ → Range → ℕ
count w x r = length (leaves (range_t w x r))

leaves-node : (l r : Trie) → bare l r ≡ false → length (leaves (node l r)) ≡ length (leaves l) + length (leaves r)
unfolding leaves
leaves-node l r e = rw e (simp (length-append, length-map))

leaves-glue : (l r : Trie) → length (leaves (glue true l r)) ≤ length (leaves l) + length (leaves r)
unfolding leaves
leaves-glue none none = omega arith
leaves-glue none (node c d) = omega (arith, leaves-node none (node c d) refl)
leaves-glue (node a b) none = omega (arith, leaves-node (node a b) none refl)
leaves-glue (node a b) (node c d) = go (bare a b && bare c d) refl
  where
    go : (x : Bool) → (bare a b && bare c d) ≡ x
        → length (leaves (cond x leaf (node (node a b) (node c d)))) ≤ length (leaves (node a b)) + length (leaves (node c d))
    go true e =
        let f = bare-none a b (and_left (bare a b) (bare c d) e) in
        rw (f.0, f.1) (omega arith)
    go false e = omega (arith, leaves-node (node a b) (node c d) refl)

count-leaf : (w x : ℕ) (r : Range) → Inside w x r → count w x r ≡ 1
unfolding leaves
count-leaf w x r i = rw (range-whole w x r i)

count_none : (w x : ℕ) (r : Range) → Outside w x r → count w x r ≡ 0
unfolding leaves
count_none w x r o = rw (range_none w x r o)

count-halves : (w x : ℕ) (r : Range) → (Inside (suc w) x r → ⊥) → count (suc w) x r ≤ count w x r + count w (x + 2 ^ w) r
unfolding leaves
count-halves w x r n =
    range-step (λ t. length (leaves t) ≤ count w x r + count w (x + 2 ^ w) r) w x r (λ i. absurd (n i)) (λ _. omega arith)
    (λ _ _. leaves-glue (range_t w x r) (range_t w (x + 2 ^ w) r))

-- a range that begins before the block and ends in it; that begins in it and ends behind it
count-begun : (w x : ℕ) (r : Range) → r.first ≤ x → suc r.last < x + 2 ^ w → count w x r ≤ w
count-begun zero x r h g = omega (arith, count_none zero x r (inl (omega arith)))
count-begun (suc w) x r h g = go (λ y. count-begun w y r) (dec_lt (suc r.last) (x + 2 ^ w))
  where
    halves : count (suc w) x r ≤ count w x r + count w (x + 2 ^ w) r
    halves = count-halves w x r (λ i. omega (arith, i.ends))

    go : ((y : ℕ) → r.first ≤ y → suc r.last < y + 2 ^ w → count w y r ≤ w) → Dec (suc r.last < x + 2 ^ w) → count (suc w) x r ≤ suc w
    go ih (yes k) = omega (arith, halves, ih x h k, count_none w (x + 2 ^ w) r (inl (omega arith)))
    go ih (no k) =
        omega (arith, halves, count-leaf w x r (record { begins = h; ends = omega arith }), ih (x + 2 ^ w) (omega arith) (omega (arith, pow-suc 2 w)))

count-ended : (w x : ℕ) (r : Range) → x < r.first → x + 2 ^ w ≤ suc r.last → count w x r ≤ w
count-ended zero x r h g = omega (arith, count_none zero x r (inr (omega arith)))
count-ended (suc w) x r h g = go (λ y. count-ended w y r) (dec_lt (x + 2 ^ w) r.first)
  where
    halves : count (suc w) x r ≤ count w x r + count w (x + 2 ^ w) r
    halves = count-halves w x r (λ i. omega (arith, i.begins))

    go : ((y : ℕ) → y < r.first → y + 2 ^ w ≤ suc r.last → count w y r ≤ w) → Dec (x + 2 ^ w < r.first) → count (suc w) x r ≤ suc w
    go ih (yes k) = omega (arith, halves, count_none w x r (inr (omega arith)), ih (x + 2 ^ w) k (omega (arith, pow-suc 2 w)))
    go ih (no k) =
        omega (arith, halves, count-leaf w (x + 2 ^ w) r (record { begins = omega arith; ends = omega (arith, pow-suc 2 w) }), ih x h (omega (arith, pow-suc 2 w)))

-- any range: two halves, each met from one side, or one half
pub count-le : (w x : ℕ) (r : Range) → count w x r ≤ max 1 (2 * w - 2)
unfolding range_t leaves
count-le zero x r = cond_both (λ t. length (leaves t) ≤ max 1 (2 * 0 - 2)) (holds r x) leaf none (omega arith) (omega arith)
count-le (suc w) x r = whole (λ y. count-le w y r) (dec_lt x r.first) (dec_lt (suc r.last) (x + 2 ^ suc w))
  where
    both : ((y : ℕ) → count w y r ≤ max 1 (2 * w - 2)) → x < r.first → suc r.last < x + 2 ^ suc w → Dec (r.last < x + 2 ^ w)
        → Dec (x + 2 ^ w ≤ r.first) → count (suc w) x r ≤ max 1 (2 * suc w - 2)
    both ih h g (yes k) j = omega (arith, count-halves w x r (λ i. omega (arith, i.begins)), count_none w (x + 2 ^ w) r (inl k), ih x)
    both ih h g (no k) (yes j) = omega (arith, count-halves w x r (λ i. omega (arith, i.begins)), count_none w x r (inr j), ih (x + 2 ^ w))
    both ih h g (no k) (no j) =
        omega (arith, count-halves w x r (λ i. omega (arith, i.begins)), count-ended w x r h (omega arith), count-begun w (x + 2 ^ w) r (omega arith) (omega (arith, pow-suc 2 w)))

    whole : ((y : ℕ) → count w y r ≤ max 1 (2 * w - 2)) → Dec (x < r.first) → Dec (suc r.last < x + 2 ^ suc w) → count (suc w) x r ≤ max 1 (2 * suc w - 2)
    whole ih (yes h) (yes g) = both ih h g (dec_lt r.last (x + 2 ^ w)) (dec_le (x + 2 ^ w) r.first)
    whole ih (yes h) (no g) = omega (arith, count-ended (suc w) x r h (omega arith))
    whole ih (no h) (yes g) = omega (arith, count-begun (suc w) x r (omega arith) g)
    whole ih (no h) (no g) = omega (arith, count-leaf (suc w) x r (record { begins = omega arith; ends = omega arith }))
