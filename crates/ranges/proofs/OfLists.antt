-- The ranges of a list: they have exactly its addresses, ascend and are apart; no ranges with these addresses are fewer, and no others ascend and are apart.
-- A network's block is the range of the addresses that it leads, and the blocks of a trie's members ascend, half by half. Assumes nothing.
use Rattle.std.proofs.Common.{◌≡◌, ℕ, zero, suc, ◌+◌, ◌-◌, ◌*◌, ◌/◌, ◌%◌, ◌^◌, ◌<◌, ◌≤◌, Bool, true, false, cond, eqb, leb, List, [], ◌∷◌, ◌++◌, map, length, sym, refl, ap, ◌∙◌, mod-lt, pow-suc, arith, pow_pos, pow-add, le-ltb, lt-ltb, eq-eqb, eqb-true, leb-true}
use mathlib.Core.List.{map-append}
use native.Mathlib.Decide.{dec_lt}
use lib.Arith.{digits_lt}
use lib.Pow.{ones_lt, split, high}
use Rattle.nets.specs.Bits.{Bits, leads, digit, val, bits}
use Rattle.nets.specs.Tries.{Trie, none, node, bare, levels, trie_of, list_of}
use Rattle.nets.specs.Lists.{covers, within, is_list}
use Rattle.nets.proofs.Strings.{and_left, and_right, bool_iff}
use Rattle.nets.proofs.Order.{val-high}
use Rattle.nets.proofs.Numbers.{bits-val, leads-number}
use Rattle.nets.proofs.Simplifying.{levels-one}
use Rattle.nets.proofs.TrieOf.{is_list-within, levels-trie_of, is_list-list_of, trie_of-list_of}
use Rattle.address_order.specs.Streams.{flat, in_address_order}
use Rattle.address_order.proofs.AddressOrder.{number-cons}
use Rattle.address_order.proofs.Sorted.{any_of-order, within-order, flat-order}
use Rattle.ranges.specs.Ranges.{Range, range, holds, in_some, spaced, block_of, ranges_of, address_in, Covering}
use Rattle.ranges.proofs.Spaced.{holds-is, is-holds, Spaced, spaced-from, from-spaced, spaced-fewest, spaced-one}
use Rattle.ranges.proofs.Joined.{Chain, chain-append, chain-past, joined-spaced, joined_in}

-- The block of a network has the addresses that it leads.
holds-quotient : (k y a : ℕ) → eqb y (a / 2 ^ k) ≡ holds (range (y * 2 ^ k) (y * 2 ^ k + (2 ^ k - 1))) a
holds-quotient k y a = bool_iff (eqb y (a / 2 ^ k)) (holds r a) there back
  where
    r : Range
    r = range (y * 2 ^ k) (y * 2 ^ k + (2 ^ k - 1))

    there : eqb y (a / 2 ^ k) ≡ true → holds r a ≡ true
    there e =
        let q : y * 2 ^ k + a % 2 ^ k ≡ a = rw (eqb-true y (a / 2 ^ k) e) (split a k) in
        let l = mod-lt a (pow_pos k) in
        is-holds r a (omega arith) (omega arith)

    back : holds r a ≡ true → eqb y (a / 2 ^ k) ≡ true
    back e =
        let h = holds-is r a e in
        let q : y * 2 ^ k + (a - y * 2 ^ k) ≡ a = omega arith in
        let l : a - y * 2 ^ k < 2 ^ k = omega (arith, pow_pos k) in
        eq-eqb y (a / 2 ^ k) (sym (high y k l) ∙ ap (λ n. n / 2 ^ k) q)

pub leads-block : (w : ℕ) (p : Bits) (a : ℕ) → length p ≤ w → a < 2 ^ w → leads p (bits w a) ≡ holds (block_of w p) a
unfolding block_of
leads-block w p a h g =
    let k = w - length p in
    let e : length p + k ≡ w = omega arith in
    let l : leads (bits (length p) (val p)) (bits (length p + k) a) ≡ eqb (val p) (a / 2 ^ k) = leads-number (length p) k (val p) a (val-high p) (rw e g) in
    (rw (bits-val (length p) p refl, e) at l) ∙ holds-quotient k (val p) a

covers-blocks : (w : ℕ) (ps : List Bits) (a : ℕ) → within w ps ≡ true → a < 2 ^ w → covers ps (bits w a) ≡ in_some (map (block_of w) ps) a
covers-blocks w [] a i g = refl
covers-blocks w (p ∷ ps) a i g =
    rw (leads-block w p a (leb-true (length p) w (and_left (leb (length p) w) (within w ps) i)) g, covers-blocks w ps a (and_right (leb (length p) w) (within w ps) i) g)

-- The block lies in the width.
module _ (w : ℕ) (p : Bits) where
  pub block-proper : (block_of w p).first ≤ (block_of w p).last
  unfolding block_of
  block-proper = omega arith

  pub block-high : length p ≤ w → (block_of w p).last < 2 ^ w
  unfolding block_of
  block-high h =
      let k = w - length p in
      let e : length p + k ≡ w = omega arith in
      let d : val p * 2 ^ k + (2 ^ k - 1) < 2 ^ length p * 2 ^ k = digits_lt (val-high p) (ones_lt k) in
      rw (← pow-add 2 (length p) k, e) at d

-- One bit more in front moves a block.
moved : ℕ → Range → Range
moved x r = range (x + r.first) (x + r.last)

block-cons : (w : ℕ) (b : Bool) (p : Bits) → length p ≤ w → block_of (suc w) (b ∷ p) ≡ moved (digit b * 2 ^ w) (block_of w p)
unfolding block_of moved
block-cons w b p h =
    let k = w - length p in
    let e : suc w - suc (length p) ≡ k = omega arith in
    let n : (digit b * 2 ^ length p + val p) * 2 ^ k ≡ digit b * 2 ^ w + val p * 2 ^ k = rw e at (number-cons w b p h) in
    rw (e, n) (ap (λ m. range (digit b * 2 ^ w + val p * 2 ^ k) m) (omega arith))

blocks-cons : (w : ℕ) (b : Bool) (ps : List Bits) → within w ps ≡ true
    → map (block_of (suc w)) (map (λ p. b ∷ p) ps) ≡ map (moved (digit b * 2 ^ w)) (map (block_of w) ps)
blocks-cons w b [] i = refl
blocks-cons w b (p ∷ ps) i =
    rw (block-cons w b p (leb-true (length p) w (and_left (leb (length p) w) (within w ps) i)), blocks-cons w b ps (and_right (leb (length p) w) (within w ps) i))

chain-moved : (x lo hi : ℕ) (rs : List Range) → Chain lo hi rs → Chain (x + lo) (x + hi) (map (moved x) rs)
unfolding moved
chain-moved x lo hi [] c = omega arith
chain-moved x lo hi (r ∷ rs) c =
    let i : Chain (x + suc r.last) (x + hi) (map (moved x) rs) = chain-moved x (suc r.last) hi rs c.2 in
    let e : x + suc r.last ≡ suc (x + r.last) = omega arith in
    (omega (arith, c.0), omega (arith, c.1), rw e at i)

-- The blocks of a trie's members ascend.
flat-within : (w : ℕ) (t : Trie) → levels t ≤ suc w → within w (flat t) ≡ true
flat-within w t h =
    let i = is_list-list_of w t h in
    let e : in_address_order (list_of t) ≡ flat t = flat-order w (list_of t) i ∙ ap flat (trie_of-list_of t) in
    rw e at (within-order w (list_of t) ∙ is_list-within w (list_of t) i)

chain-block : (w : ℕ) → Chain 0 (2 ^ w) (map (block_of w) ([] ∷ []))
unfolding block_of
chain-block w = let e : w - 0 ≡ w = omega arith in rw e (omega (arith, pow_pos w))

chain-halves : (w : ℕ) (ps qs : List Bits) → within w ps ≡ true → within w qs ≡ true → Chain 0 (2 ^ w) (map (block_of w) ps)
    → Chain 0 (2 ^ w) (map (block_of w) qs)
    → Chain 0 (2 ^ suc w) (map (block_of (suc w)) (map (λ p. false ∷ p) ps ++ map (λ p. true ∷ p) qs))
chain-halves w ps qs i j c d =
    let z : 0 * 2 ^ w + 0 ≡ 0 = omega arith in
    let m : 0 * 2 ^ w + 2 ^ w ≡ 2 ^ w = omega arith in
    let n : 1 * 2 ^ w + 0 ≡ 2 ^ w = omega arith in
    let e : 1 * 2 ^ w + 2 ^ w ≡ 2 ^ suc w = omega (arith, pow-suc 2 w) in
    let low : Chain 0 (2 ^ w) (map (moved (0 * 2 ^ w)) (map (block_of w) ps)) = rw (z, m) at (chain-moved (0 * 2 ^ w) 0 (2 ^ w) (map (block_of w) ps) c) in
    let up : Chain (2 ^ w) (2 ^ suc w) (map (moved (1 * 2 ^ w)) (map (block_of w) qs)) =
    rw (n, e) at (chain-moved (1 * 2 ^ w) 0 (2 ^ w) (map (block_of w) qs) d) in
    rw (map-append, blocks-cons w false ps i, blocks-cons w true qs j)
    (chain-append 0 (2 ^ w) (2 ^ suc w) (map (moved (0 * 2 ^ w)) (map (block_of w) ps)) (map (moved (1 * 2 ^ w)) (map (block_of w) qs)) low up)

pub chain-flat : (w : ℕ) (t : Trie) → levels t ≤ suc w → Chain 0 (2 ^ w) (map (block_of w) (flat t))
unfolding flat levels
chain-flat zero t h = levels-one (λ x. Chain 0 (2 ^ 0) (map (block_of 0) (flat x))) t h (omega arith) (chain-block 0)
chain-flat (suc w) none h = omega arith
chain-flat (suc w) (node l r) h = go (bare l r) (chain-flat w l (omega arith)) (chain-flat w r (omega arith))
  where
    go : (x : Bool) → Chain 0 (2 ^ w) (map (block_of w) (flat l)) → Chain 0 (2 ^ w) (map (block_of w) (flat r))
        → Chain 0 (2 ^ suc w) (map (block_of (suc w)) (cond x ([] ∷ []) (map (λ p. false ∷ p) (flat l) ++ map (λ p. true ∷ p) (flat r))))
    go true c d = chain-block (suc w)
    go false c d = chain-halves w (flat l) (flat r) (flat-within w l (omega arith)) (flat-within w r (omega arith)) c d

-- The theorems.
module _ (w : ℕ) (l : List Bits) (i : is_list w l ≡ true) where
  chain-list : Chain 0 (2 ^ w) (map (block_of w) (in_address_order l))
  chain-list = rw (flat-order w l i) (chain-flat w (trie_of l) (levels-trie_of w l (is_list-within w l i)))

  spaced-list : Spaced 0 (ranges_of w l)
  unfolding ranges_of
  spaced-list = joined-spaced 0 (2 ^ w) (map (block_of w) (in_address_order l)) chain-list

  pub ranges-covering : Covering w l (ranges_of w l)
  unfolding ranges_of
  ranges-covering a = joined_in 0 (2 ^ w) (map (block_of w) (in_address_order l)) a chain-list ∙ go (dec_lt a (2 ^ w))
    where
      go : Dec (a < 2 ^ w) → in_some (map (block_of w) (in_address_order l)) a ≡ address_in w l a
      go (yes h) =
          sym (covers-blocks w (in_address_order l) a (within-order w l ∙ is_list-within w l i) h) ∙ any_of-order (λ m. leads m (bits w a)) l
          ∙ rw (lt-ltb a (2 ^ w) h)
      go (no h) = chain-past 0 (2 ^ w) (map (block_of w) (in_address_order l)) a chain-list (omega arith) ∙ rw (le-ltb a (2 ^ w) (omega arith))

  pub ranges-spaced : spaced (ranges_of w l) ≡ true
  ranges-spaced = from-spaced 0 (ranges_of w l) spaced-list

  pub ranges-fewest : (ms : List Range) → Covering w l ms → length (ranges_of w l) ≤ length ms
  ranges-fewest ms c = spaced-fewest 0 (ranges_of w l) ms spaced-list (λ a. c a ∙ sym (ranges-covering a))

  pub ranges-one : (ms : List Range) → Covering w l ms → spaced ms ≡ true → ms ≡ ranges_of w l
  ranges-one ms c s = spaced-one 0 (ranges_of w l) ms spaced-list (spaced-from ms s) (λ a. c a ∙ sym (ranges-covering a))
