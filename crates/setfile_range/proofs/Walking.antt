-- Edges on the way down: the addresses in front of a range and behind it, and one bit further. Assumes nothing.
use mathlib.Core.Bool.{Bool, true, not}
use mathlib.Core.List.{List, [], ◌∷◌, append_assoc}
use mathlib.Core.Path.{◌≡◌, ap, sym, ◌∙◌}
use Prim.Native.Nat.{ℕ, suc, ◌+◌, ◌-◌, ◌^◌, ◌<◌}
use native.Mathlib.Nat.{mod-lt}
use native.Mathlib.Omega.{arith}
use lib.Dec.{eqb}
use lib.ListN.{length, take, length-append}
use lib.Pow.{pow_pos, split}
use lib.Seq.{take-length}
use borrow.Author.Tests.{ne_eqb}
use Rattle.nets.specs.Bits.{Bits, bits}
use Rattle.nets.specs.Networks.{is_family, width, value, net_words, net_bits, net_from, refusal_of, bits_left, start_of, no_bits, prefix_as, next_as, next_of}
use Rattle.nets.specs.Refusals.{answered}
use Rattle.nets.specs.declared.Net.{Net}
use Rattle.nets.specs.declared.PrefixBits.{PrefixBits}
use Rattle.nets.specs.declared.Refusal.{Refusal}
use Rattle.nets.proofs.Answers.{number-some, prefix-bits, prefix-refused}
use Rattle.nets.proofs.Handing.{Hands, hands, hands_end}
use Rattle.nets.proofs.Numbers.{length-bits, is-refusal_of, bits_left-start, start_of-few}
use Rattle.ranges.specs.Addresses.{address_of, words_of, after_of}
use Rattle.ranges.specs.declared.addresses.Address.{Address}
use Rattle.ranges.proofs.Words.{words-value}
use Rattle.trie_paths.specs.Spans.{snoc}
use Rattle.trie_paths.proofs.Paths.{path-is}
use Rattle.setfile_range.specs.Edges.{On}
use Rattle.setfile_range.specs.declared.edges.Edge.{Edge}
use Rattle.std.specs.Prelude.{Result, Option, Ok, Err, Some, None}

-- The address in front.
abbrev words : ℕ → ℕ → Address
words h l = record { hi = h; lo = l }

module _ (h l : ℕ) where
  pub before-low : l < 2 ^ 64 → (l ≡ 0 → ⊥) → words h (l - 1) ≡ words_of (value h l - 1)
  before-low k e = let v : value h (l - 1) ≡ value h l - 1 = omega arith in words-value h (l - 1) (omega arith) ∙ ap words_of v

  pub before-high : l ≡ 0 → (h ≡ 0 → ⊥) → words (h - 1) (2 ^ 64 - 1) ≡ words_of (value h l - 1)
  before-high e k = let v : value (h - 1) (2 ^ 64 - 1) ≡ value h l - 1 = omega arith in words-value (h - 1) (2 ^ 64 - 1) (omega arith) ∙ ap words_of v

  pub before-none : l ≡ 0 → h ≡ 0 → words h l ≡ words_of (value h l - 1)
  before-none e k = rw (e, k)

  -- an address is zero where both its words are
  pub some-high : (h ≡ 0 → ⊥) → true ≡ not (eqb (value h l) 0)
  some-high k = rw (ne_eqb (value h l) 0 (omega arith))

  pub some-low : h ≡ 0 → not (eqb l 0) ≡ not (eqb (value h l) 0)
  some-low k = let v : l ≡ value h l = omega arith in ap (λ n. not (eqb n 0)) v

-- an address is the number of its words
pub address-words : (n : ℕ) → address_of (words_of n) ≡ n
address-words n = split n 64

pub told-address : {a : Address} {n : ℕ} → a ≡ words_of n → address_of a ≡ n
told-address {n = n} e = ap address_of e ∙ address-words n

pub front_low : {a : Address} {n m : ℕ} → a ≡ words_of (n - 1) → n < m → address_of a < m
front_low e h = rw (told-address e) (omega arith)

pub after-low : (f n : ℕ) {a : Address} → a ≡ words_of (after_of f n) → address_of a < 2 ^ width f
unfolding after_of
after-low f n e = rw (told-address e) (mod-lt (n + 1) (pow_pos (width f)))

-- An edge before its first bit.
module _ (f : ℕ) (a : Address) (fam : is_family f ≡ true) (low : address_of a < 2 ^ width f) {m : ℕ} (long : m ≡ width f) where
  abbrev host : Net
  host = net_words f a.hi a.lo m

  is-net : refusal_of host ≡ 0
  is-net = is-refusal_of host (record { family = fam; len = omega (arith, long); address = low })

  host-bits : net_bits host ≡ bits (width f) (address_of a)
  unfolding net_bits
  host-bits = rw long (sym (ap (λ k. take k (bits (width f) (address_of a))) (length-bits (width f) (address_of a))) ∙ take-length (bits (width f) (address_of a)))

  module _ (p : Result PrefixBits Refusal) (e : prefix_as p ≡ answered (refusal_of host) no_bits (start_of host)) where
    pub edge-refused : (x : Refusal) → p ≡ Err x → ⊥
    edge-refused x g = number-some x (sym (prefix-refused host p x e g) ∙ is-net)

    pub edge-starts : (s : PrefixBits) (b : Bool) (n : Net) → n ≡ net_from f [] → p ≡ Ok s → On f (record { there = b; path = n; ahead = s }) [] (bits (width f) (address_of a))
    edge-starts s b n o g =
        let q = (prefix-bits host p s e g).1 in
        record { path = o; ahead = rw q (bits_left-start host is-net ∙ host-bits); few = rw q (start_of-few host is-net); whole = length-bits (width f) (address_of a) }

-- One bit further.
module _ {f : ℕ} {x : Edge} {p : Bits} {c : Bool} {q : Bits} (o : On f x p (c ∷ q)) where
  -- there are bits to come
  pub goes_on : x.path.len < width x.path.family
  goes_on = let i = path-is x.path f p o.path in omega (arith, i.0, ap width i.1, o.whole, length-append p (c ∷ q))

  module _ (n : Option (Bool × PrefixBits)) (e : next_as n ≡ next_of x.ahead) where
    pub bit-none : n ≡ None → ⊥
    bit-none g = let z : ◌≡◌ {A = ℕ} 0 (suc (length q)) = ap length (sym (hands_end x.ahead n o.few e g) ∙ o.ahead) in omega arith

    module _ (b : Bool) (s : PrefixBits) (g : n ≡ Some (b, s)) where
      handed : Hands x.ahead b s
      handed = hands x.ahead b s n o.few e g

      taken : ◌≡◌ {A = List Bool} (b ∷ bits_left s) (c ∷ q)
      taken = sym handed.bits ∙ o.ahead

      pub bit_is : b ≡ c
      bit_is = let t = taken in cc

      pub edge-onward : {t : Bool} {y : Net} → ((k : ℕ) (r : Bits) → x.path ≡ net_from k r → y ≡ net_from k (snoc r b)) → On f (record { there = t; path = y; ahead = s }) (snoc p c) q
      edge-onward h =
          record {
            path = h f p o.path ∙ ap (λ d. net_from f (snoc p d)) bit_is;
            ahead = let t = taken in cc;
            few = omega (arith, handed.len, o.few);
            whole = ap length (append_assoc p (c ∷ []) q) ∙ o.whole;
          }
