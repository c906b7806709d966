-- What is read of a node: its string is one of the family where its length is, and the node's words are those of a string exactly where no bit past the length is
-- set. Assumes nothing.
use mathlib.Core.Path.{◌≡◌, refl, sym, ap, ◌∙◌}
use mathlib.Core.Bool.{true, false, not}
use mathlib.Core.List.{List, [], ◌∷◌}
use Prim.Native.Nat.{ℕ, ◌+◌, ◌-◌, ◌*◌, ◌/◌, ◌%◌, ◌^◌, ◌≤◌, ◌<◌}
use native.Mathlib.Decide.{ℕ_discrete}
use native.Mathlib.Omega.{arith}
use lib.Arith.{digits_lt}
use lib.Dec.{eqb, leb}
use lib.ListN.{length, get_or}
use borrow.Author.Tests.{eq-eqb, ne_eqb, le-leb, lt-leb, not-true}
use Rattle.nets.specs.Networks.{width, net_words, net_bits, net_from, cleared, has_bit_past, address}
use Rattle.nets.specs.declared.Net.{Net}
use Rattle.nets.proofs.Strings.{and_both, bool_iff}
use Rattle.nets.proofs.Numbers.{is-refusal_of, width-4, width-6}
use Rattle.nets.proofs.TwoWords.{cleared-same, same-cleared}
use Rattle.kept_nodes.specs.Words.{four_words, address_words, node_words, spot}
use Rattle.kept_nodes.specs.Parse.{KeptRoom, head_at, len_at, dist_at, pair_at, net_found, net_at, string_at, matches, is_node, Halved, Small}
use Rattle.kept_nodes.proofs.Places.{stride-4, stride-6, spot-4, spot-6, spot-within}
use Rattle.kept_nodes.proofs.NodeWords.{family-at, len-at, length_at, net-is, node-says}
use Rattle.kept_reading.specs.NodeStrings.{IsString, FoundAs, ReadAs}

-- the room by words
module _ {f : ℕ} {w : List ℕ} {b n : ℕ} (room : KeptRoom f w b n) where
  pub room-4 : f ≡ 4 → b + 2 * n ≤ length w
  room-4 e = rw (← stride-4 f e) room.long

  pub room-6 : (f ≡ 4 → ⊥) → b + 5 * n ≤ length w
  room-6 e = rw (← stride-6 f e) room.long

  pub head-4 : (i : ℕ) → f ≡ 4 → get_or w (b + 2 * (i - 1)) 0 ≡ head_at f w b i
  head-4 i e = rw (spot-4 f b i e)

  pub head-6 : (i : ℕ) → (f ≡ 4 → ⊥) → get_or w (b + 5 * (i - 1)) 0 ≡ head_at f w b i
  head-6 i e = rw (spot-6 f b i e)

-- the words that the code reads
pub found-short : {f : ℕ} {w : List ℕ} {p : ℕ} (lo len : ℕ) → f ≡ 4 → (lo ≡ get_or w (p + 1) 0) × (lo < 2 ^ 32) → len ≡ get_or w p 0 % 256
    → FoundAs f w p (net_words f 0 lo len)
unfolding net_found
found-short lo len e g h = record {
  is = rw (eq-eqb _ 4 e, g.0, h);
  small = record { short = λ _. rw (← g.0) g.1; long = λ ne. absurd (ne e) };
}

-- x is the word at p, one of 32 bits
abbrev pub Word : List ℕ → ℕ → ℕ → Type 0
Word w p x = (x ≡ get_or w p 0) × (x < 2 ^ 32)

pub found-long : {f : ℕ} {w : List ℕ} {p : ℕ} (a b c d hi lo len : ℕ) → (f ≡ 4 → ⊥) → Word w (p + 1) a → Word w (p + 2) b → Word w (p + 3) c → Word w (p + 4) d
    → hi ≡ a * 2 ^ 32 + b → lo ≡ c * 2 ^ 32 + d → len ≡ get_or w p 0 % 256 → FoundAs f w p (net_words f hi lo len)
unfolding net_found
found-long {f} {w} {p} a b c d hi lo len ne ga gb gc gd eh el h =
    let e2 : p + 1 + 1 ≡ p + 2 = omega arith in
    let e3 : p + 1 + 2 ≡ p + 3 = omega arith in
    let e4 : p + 1 + 3 ≡ p + 4 = omega arith in
    let e5 : p + 3 + 1 ≡ p + 4 = omega arith in
    record {
      is = rw (ne_eqb f 4 ne, e2, e3, e5, eh, el, ga.0, gb.0, gc.0, gd.0, h);
      small = record {
        short = λ e. absurd (ne e);
        long = λ _. record { one = rw (← ga.0) ga.1; two = rw (e2, ← gb.0) gb.1; three = rw (e3, ← gc.0) gc.1; four = rw (e4, ← gd.0) gd.1 };
      };
    }

pub read_short : {f : ℕ} {w : List ℕ} {b i : ℕ} {r : Net} → f ≡ 4 → FoundAs f w (b + 2 * (i - 1)) r → ReadAs f w b i r
read_short {f} {w} {b} {i} e g = let h = rw (spot-4 f b i e) at g in record { is = h.is; small = h.small }

pub read-long : {f : ℕ} {w : List ℕ} {b i : ℕ} {r : Net} → (f ≡ 4 → ⊥) → FoundAs f w (b + 5 * (i - 1)) r → ReadAs f w b i r
read-long {f} {w} {b} {i} e g = let h = rw (spot-6 f b i e) at g in record { is = h.is; small = h.small }

-- a network found and its words, by the family
module _ (f : ℕ) (w : List ℕ) (p n : ℕ) where
  found-4 : f ≡ 4 → net_found f w p n ≡ net_words f 0 (get_or w p 0) n
  unfolding net_found
  found-4 e = rw (eq-eqb f 4 e)

  found-6 : (f ≡ 4 → ⊥) → net_found f w p n ≡ net_words f (pair_at w p) (pair_at w (p + 2)) n
  unfolding net_found
  found-6 e = rw (ne_eqb f 4 e)

words-4 : (f h l n : ℕ) → f ≡ 4 → address_words (net_words f h l n) ≡ l ∷ []
unfolding address_words
words-4 f h l n e = rw (eq-eqb f 4 e)

words-6 : (f h l n : ℕ) → (f ≡ 4 → ⊥) → address_words (net_words f h l n) ≡ four_words h l
unfolding address_words
words-6 f h l n e = rw (ne_eqb f 4 e)

-- four words match the two numbers that they make
matches-four : (w : List ℕ) (p : ℕ) → Halved w p → matches w p (four_words (pair_at w p) (pair_at w (p + 2))) ≡ true
unfolding matches
matches-four w p h =
    let q2 : p + 1 + 1 ≡ p + 2 = omega arith in
    let q3 : p + 2 + 1 ≡ p + 3 = omega arith in
    rw (q2, q3)
    (and_both _ _ (eq-eqb (get_or w p 0) (pair_at w p / 2 ^ 32) (omega (arith, h.two)))
    (and_both _ _ (eq-eqb (get_or w (p + 1) 0) (pair_at w p % 2 ^ 32) (omega (arith, h.two)))
    (and_both _ _ (eq-eqb (get_or w (p + 2) 0) ((get_or w (p + 2) 0 * 2 ^ 32 + get_or w (p + 3) 0) / 2 ^ 32) (omega (arith, h.four)))
    (and_both _ _ (eq-eqb (get_or w (p + 3) 0) ((get_or w (p + 2) 0 * 2 ^ 32 + get_or w (p + 3) 0) % 2 ^ 32) (omega (arith, h.four))) refl))))

matches-one : (w : List ℕ) (p : ℕ) → matches w p (get_or w p 0 ∷ []) ≡ true
unfolding matches
matches-one w p = and_both _ _ (eq-eqb (get_or w p 0) (get_or w p 0) refl) refl

-- the address that words of 32 bits give
module _ (f : ℕ) (w : List ℕ) (p n : ℕ) (s : Small f w p) where
  low_half : (f ≡ 4 → ⊥) → pair_at w (p + 2) < 2 ^ 64
  low_half e = let h = s.long e in let q : p + 2 + 1 ≡ p + 3 = omega arith in rw q (omega (arith, h.three, h.four))

  found-low : (net_found f w p n).lo < 2 ^ 64
  found-low = go (ℕ_discrete f 4)
    where
      go : Dec (f ≡ 4) → (net_found f w p n).lo < 2 ^ 64
      go (yes e) = rw (found-4 f w p n e) (omega (arith, s.short e))
      go (no e) = rw (found-6 f w p n e) (low_half e)

  found-address : address (net_found f w p n) < 2 ^ width f
  found-address = go (ℕ_discrete f 4)
    where
      go : Dec (f ≡ 4) → address (net_found f w p n) < 2 ^ width f
      go (yes e) = rw (found-4 f w p n e, width-4 f e) (omega (arith, s.short e))
      go (no e) =
          let h : pair_at w p < 2 ^ 64 = omega (arith, (s.long e).one, (s.long e).two) in
          rw (found-6 f w p n e, width-6 f e) (digits_lt h (low_half e))

  -- and the words are those of the address
  matches-found : matches w p (address_words (net_found f w p n)) ≡ true
  matches-found = go (ℕ_discrete f 4)
    where
      go : Dec (f ≡ 4) → matches w p (address_words (net_found f w p n)) ≡ true
      go (yes e) = rw (found-4 f w p n e, words-4 f 0 (get_or w p 0) n e) (matches-one w p)
      go (no e) = rw (found-6 f w p n e, words-6 f (pair_at w p) (pair_at w (p + 2)) n e) (matches-four w p (s.long e))

-- A network that is read: a string, and the test of its node.
module _ {f : ℕ} {w : List ℕ} {b n : ℕ} (room : KeptRoom f w b n) {i : ℕ} {r : Net} (g : ReadAs f w b i r) where
  pub read-family : r.family ≡ f
  read-family = rw g.is (family-at f w b i)

  pub read-len : r.len ≡ len_at f w b i
  read-len = rw g.is (len-at f w b i)

  pub read-string : r.len ≤ width f → IsString r
  read-string le = record {
    net = is-refusal_of r (record {
      family = rw read-family room.family;
      len = rw read-family le;
      address = rw (read-family, g.is) (found-address f w (spot f b i + 1) (len_at f w b i) g.small);
    });
    low = rw g.is (found-low f w (spot f b i + 1) (len_at f w b i) g.small);
  }

  pub read-longer : width f < r.len → false ≡ is_node f w b i
  unfolding is_node
  read-longer lt = rw (lt-leb (len_at f w b i) (width f) (omega (arith, read-len)))

  module _ (pos : 1 ≤ i) (within : i ≤ n) (le : r.len ≤ width f) where
    cleared-is : cleared r ≡ net_from f (string_at f w b i)
    unfolding cleared string_at
    cleared-is = ap (λ z. net_from z.family (net_bits z)) g.is ∙ ap (λ k. net_from k (net_bits (net_at f w b i))) (family-at f w b i)

    there : not (has_bit_past r) ≡ true → is_node f w b i ≡ true
    unfolding is_node node_words matches
    there e =
        let s = string_at f w b i in
        let k : len_at f w b i ≤ width f = omega (arith, read-len) in
        let z : net_from f s ≡ net_at f w b i = sym cleared-is ∙ cleared-same r (read-string le).net (read-string le).low (not-true (has_bit_past r) e) ∙ g.is in
        let h : head_at f w b i ≡ length s + 256 * dist_at f w b i = omega (arith, length_at f w b i k) in
        and_both (leb (len_at f w b i) (width f)) _ (le-leb (len_at f w b i) (width f) k)
        (and_both (eqb (head_at f w b i) (length s + 256 * dist_at f w b i)) _ (eq-eqb (head_at f w b i) (length s + 256 * dist_at f w b i) h)
        (rw z (matches-found f w (spot f b i + 1) (len_at f w b i) g.small)))

    back : is_node f w b i ≡ true → not (has_bit_past r) ≡ true
    back e =
        let s = node-says f w b i e (spot-within i room pos within) in
        let z : cleared r ≡ r = cleared-is ∙ sym (g.is ∙ net-is s) in
        rw (same-cleared r (read-string le).net z)

    pub read-node : not (has_bit_past r) ≡ is_node f w b i
    read-node = bool_iff (not (has_bit_past r)) (is_node f w b i) there back
