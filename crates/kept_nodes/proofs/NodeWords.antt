-- The words of a node: what they say is its string and its distance. Assumes nothing.
use mathlib.Core.Path.{◌≡◌, refl, sym, ap}
use mathlib.Core.Bool.{Bool, true, false, cond}
use mathlib.Core.List.{List, [], ◌∷◌}
use Prim.Native.Nat.{ℕ, ◌+◌, ◌-◌, ◌*◌, ◌^◌, ◌≤◌, ◌<◌}
use native.Mathlib.Decide.{ℕ_discrete}
use native.Mathlib.Nat.{div-eq_of_lt}
use native.Mathlib.Omega.{arith}
use borrow.Author.Tests.{eq-eqb, ne_eqb, eqb-true, le-leb, leb-true}
use lib.Dec.{eqb, leb}
use lib.ListN.{length, get_or}
use lib.Pow.{shl_lt}
use lib.Seq.{length-take-le}
use Rattle.nets.specs.Bits.{Bits, val, bits}
use Rattle.nets.specs.Networks.{net_from, net_bits, net_words, address, width}
use Rattle.nets.proofs.Strings.{and_left, and_right, and_both}
use Rattle.nets.proofs.Order.{val-high}
use Rattle.nets.proofs.Numbers.{net_bits-net_from, length-bits, width-4, width-le}
use Rattle.nodes.specs.Words.{Has}
use Rattle.nodes.proofs.Has.{has-head, has-tail, has-cons, has-at}
use Rattle.kept_nodes.specs.Words.{stride, four_words, address_words, node_words, spot}
use Rattle.kept_nodes.specs.Parse.{len_at, dist_at, pair_at, net_found, net_at, string_at, matches, is_node}
use Rattle.kept_nodes.proofs.Places.{length-node_words}

-- the test, and the fact
pub has-matches : {w : List ℕ} {p : ℕ} (xs : List ℕ) → Has w p xs → matches w p xs ≡ true
unfolding matches
has-matches [] h = refl
has-matches {w} {p} (x ∷ xs) h = and_both (eqb (get_or w p 0) x) (matches w (p + 1) xs) (eq-eqb (get_or w p 0) x (has-head h)) (has-matches {p = p + 1} xs (has-tail h))

pub matches-has : (w : List ℕ) (p : ℕ) (xs : List ℕ) → p + length xs ≤ length w → matches w p xs ≡ true → Has w p xs
unfolding matches
matches-has w p [] le e = record { fits = le; at = λ k l. absurd (omega arith) }
matches-has w p (x ∷ xs) le e =
    has-cons (eqb-true (get_or w p 0) x (and_left (eqb (get_or w p 0) x) (matches w (p + 1) xs) e))
    (matches-has w (p + 1) xs (omega arith) (and_right (eqb (get_or w p 0) x) (matches w (p + 1) xs) e))

-- the numbers of a string
pub net_from-words : (f : ℕ) (s : Bits) → net_from f s ≡ net_words f (net_from f s).hi (net_from f s).lo (length s)
unfolding net_from
net_from-words f s = refl

pub net_from-short : (f : ℕ) (s : Bits) → f ≡ 4 → length s ≤ width f → (net_from f s).hi ≡ 0
unfolding net_from
net_from-short f s e le =
    let x = width-4 f e in
    let k = width f - length s in
    let g : length s + k ≡ 32 = omega arith in
    let h : val s * 2 ^ k < 2 ^ 32 = rw g at (shl_lt (length s) k (val-high s)) in
    div-eq_of_lt (omega arith)

-- the address words of a string, read
found-is : (f : ℕ) {w : List ℕ} {p : ℕ} (s : Bits) → length s ≤ width f → Has w p (address_words (net_from f s)) → net_found f w p (length s) ≡ net_from f s
unfolding net_found address_words
found-is f {w} {p} s le h = go (ℕ_discrete f 4)
  where
    family-is : (net_from f s).family ≡ f
    family-is = ap (λ n. n.family) (net_from-words f s)

    short : f ≡ 4 → Has w p ((net_from f s).lo ∷ [])
    short e = rw (family-is, eq-eqb f 4 e) at h

    long : (f ≡ 4 → ⊥) → Has w p (four_words (net_from f s).hi (net_from f s).lo)
    long e = rw (family-is, ne_eqb f 4 e) at h

    go : Dec (f ≡ 4) → cond (eqb f 4) (net_words f 0 (get_or w p 0) (length s)) (net_words f (pair_at w p) (pair_at w (p + 2)) (length s)) ≡ net_from f s
    go (yes e) = rw (eq-eqb f 4 e, has-head (short e), net_from-words f s, net_from-short f s e le)
    go (no e) =
        let a = long e in
        let c = has-tail a in
        let d = has-at {q = p + 2} (omega arith) (has-tail c) in
        let u : pair_at w p ≡ (net_from f s).hi = rw (has-head a, has-head c) (omega arith) in
        let v : pair_at w (p + 2) ≡ (net_from f s).lo = rw (has-head d, has-head (has-tail d)) (omega arith) in
        rw (ne_eqb f 4 e, u, v) (sym (net_from-words f s))

-- the words of node i are those of the string s and the distance d
pub record Says (f : ℕ) (w : List ℕ) (b i : ℕ) (s : Bits) (d : ℕ) : Type 0 where
  pub short : length s ≤ width f
  pub has : Has w (spot f b i) (node_words f s d)

-- what a node's words say
module _ {f : ℕ} {w : List ℕ} {b i d : ℕ} {s : Bits} (h : Says f w b i s d) where
  words : Has w (spot f b i) ((length s + 256 * d) ∷ address_words (net_from f s))
  unfolding node_words
  words = h.has

  few : length s < 256
  few = omega (arith, h.short, width-le f)

  pub len_is : len_at f w b i ≡ length s
  len_is = rw (has-head words) (omega (arith, few))

  pub dist-is : dist_at f w b i ≡ d
  dist-is = rw (has-head words) (omega (arith, few))

  pub net-is : net_at f w b i ≡ net_from f s
  net-is = rw len_is (found-is f s h.short (has-tail words))

  pub string-is : string_at f w b i ≡ s
  unfolding string_at
  string-is = rw net-is (net_bits-net_from f s h.short)

  pub is-node : is_node f w b i ≡ true
  unfolding is_node
  is-node = rw (string-is, dist-is, len_is) (and_both (leb (length s) (width f)) _ (le-leb (length s) (width f) h.short) (has-matches (node_words f s d) h.has))

-- a network found has as many bits as its length says
found-family : (f : ℕ) (w : List ℕ) (p n : ℕ) → ((net_found f w p n).family ≡ f) × ((net_found f w p n).len ≡ n)
unfolding net_found
found-family f w p n = go (eqb f 4)
  where
    go : (x : Bool) → let m = cond x (net_words f 0 (get_or w p 0) n) (net_words f (pair_at w p) (pair_at w (p + 2)) n) in (m.family ≡ f) × (m.len ≡ n)
    go true = (refl, refl)
    go false = (refl, refl)

module _ (f : ℕ) (w : List ℕ) (b i : ℕ) where
  pub family-at : (net_at f w b i).family ≡ f
  family-at = (found-family f w (spot f b i + 1) (len_at f w b i)).0

  pub len-at : (net_at f w b i).len ≡ len_at f w b i
  len-at = (found-family f w (spot f b i + 1) (len_at f w b i)).1

  pub length_at : len_at f w b i ≤ width f → length (string_at f w b i) ≡ len_at f w b i
  unfolding string_at net_bits
  length_at le =
      rw (len-at, family-at) (length-take-le (len_at f w b i) (bits (width f) (address (net_at f w b i))) (rw (length-bits (width f) (address (net_at f w b i))) le))

  -- and a node that passes the test has its words
  module _ (e : is_node f w b i ≡ true) where
    node-len : len_at f w b i ≤ width f
    unfolding is_node
    node-len = leb-true (len_at f w b i) (width f) (and_left (leb (len_at f w b i) (width f)) _ e)

    pub node-length : len_at f w b i ≡ length (string_at f w b i)
    node-length = sym (length_at node-len)

    pub node-short : length (string_at f w b i) ≤ width f
    node-short = omega (arith, node-len, node-length)

    pub node-says : spot f b i + stride f ≤ length w → Says f w b i (string_at f w b i) (dist_at f w b i)
    unfolding is_node
    node-says le = record {
      short = node-short;
      has = matches-has w (spot f b i) _ (rw (length-node_words f (string_at f w b i) (dist_at f w b i)) le) (and_right (leb (len_at f w b i) (width f)) _ e);
    }
