-- Where a walk stands by an index, by the tests of the code: the first eight bits of a query, and what their word shows. Assumes nothing.
use mathlib.Core.Bool.{Bool, true, false, ◌&&◌, and-false}
use mathlib.Core.List.{List, [], ◌∷◌, ◌++◌}
use mathlib.Core.Path.{◌≡◌, refl, ap, sym, ◌∙◌}
use Prim.Native.Nat.{ℕ, zero, suc, ◌+◌, ◌-◌, ◌/◌, ◌%◌, ◌^◌, ◌≤◌, ◌<◌}
use native.Mathlib.Nat.{pow-suc}
use native.Mathlib.Numerals.{add-one}
use native.Mathlib.Omega.{arith}
use lib.Dec.{leb}
use lib.ListN.{length, get_or, take, drop}
use lib.Seq.{take-suc, drop-cons}
use borrow.Author.Tests.{le-leb, lt-leb, leb-true, eq-eqb, ne_eqb}
use Rattle.nets.specs.Bits.{Bits, digit, val}
use Rattle.nets.specs.Networks.{bits_left}
use Rattle.nets.specs.declared.PrefixBits.{PrefixBits}
use Rattle.nets.specs.declared.Refusal.TheVariants.{Damaged}
use Rattle.nets.proofs.Handing.{Hands}
use Rattle.nodes.specs.Words.{word_at}
use Rattle.trie_index.proofs.Ways.{val-last}
use Rattle.trie_lookup.specs.Walks.{walk, node_shows, stands_on}
use Rattle.trie_lookup.specs.declared.Shown.TheVariants.{Member, Nothing, Refused}

-- The loop: k bits of the query q are taken, as the number byte, and those in left are still to come.
pub record Taken (q : Bits) (all k byte : ℕ) (left : PrefixBits) : Type 0 where
  pub few : k ≤ 8
  pub long : left.len + k ≡ all
  pub number : byte ≡ val (take k q)
  pub small : byte < 2 ^ k
  pub rest : bits_left left ≡ drop k q

pub taken_start : (s : PrefixBits) → Taken (bits_left s) s.len 0 0 s
taken_start s = record { few = omega arith; long = omega arith; number = refl; small = omega arith; rest = refl }

module _ {q : Bits} {all k byte : ℕ} {left : PrefixBits} (h : Taken q all k byte left) (enough : length q ≡ all) (eight : 8 ≤ all) (within : all ≤ 128) where
  module _ (more : k < 8) where
    here : k < length q
    here = omega arith

    next : bits_left left ≡ get_or q k false ∷ drop (suc k) q
    next = h.rest ∙ drop-cons q k false here

    pub taken-low : byte < 128
    taken-low = omega (arith, h.small, low k more)
      where
        low : (k : ℕ) → k < 8 → 2 ^ k ≤ 128
        low zero l = omega arith
        low (suc zero) l = omega arith
        low (suc (suc zero)) l = omega arith
        low (suc (suc (suc zero))) l = omega arith
        low (suc (suc (suc (suc zero)))) l = omega arith
        low (suc (suc (suc (suc (suc zero))))) l = omega arith
        low (suc (suc (suc (suc (suc (suc zero)))))) l = omega arith
        low (suc (suc (suc (suc (suc (suc (suc zero))))))) l = omega arith
        low (suc (suc (suc (suc (suc (suc (suc (suc k)))))))) l = absurd (omega arith)

    pub taken-some : bits_left left ≡ [] → ⊥
    taken-some e = let z : ◌≡◌ {A = List Bool} (get_or q k false ∷ drop (suc k) q) [] = sym next ∙ e in let y : ◌≡◌ {A = ℕ} 0 1 = cc in omega arith

    module _ (bit : Bool) (later : PrefixBits) (g : Hands left bit later) where
      same : (bit ≡ get_or q k false) × (bits_left later ≡ drop (suc k) q)
      same = let z = sym g.bits ∙ next in (cc, cc)

      pub taken-on : {n : ℕ} → n ≡ byte + byte + digit bit → Taken q all (k + 1) n later
      taken-on {n} e =
          let t : take (suc k) q ≡ take k q ++ (bit ∷ []) = take-suc q k false here ∙ ap (λ b. take k q ++ (b ∷ [])) (sym same.0) in
          let v : val (take (suc k) q) ≡ val (take k q) + val (take k q) + digit bit = ap val t ∙ val-last (take k q) bit in
          rw (add-one k)
          (record {
            few = omega arith;
            long = omega (arith, h.long, g.len);
            number = omega (arith, e, h.number, v);
            small = omega (arith, e, h.small, pow-suc 2 k, bit-few bit);
            rest = same.1;
          })
        where
          bit-few : (b : Bool) → digit b ≤ 1
          bit-few true = omega arith
          bit-few false = omega arith

  pub taken-end : 8 ≤ k → (byte ≡ val (take 8 q)) × (byte < 256) × (left.len + 8 ≡ all) × (bits_left left ≡ drop 8 q)
  taken-end le =
      let e : k ≡ 8 = omega (arith, h.few) in
      (rw e at h.number, rw e at h.small, rw e at h.long, rw e at h.rest)

-- The tests of a node that an index names.
module _ (w : List ℕ) (b n d i : ℕ) (q : Bits) where
  pub node-walk : d ≡ 8 → {m : ℕ} → m ≡ 8 → walk w b n m i q ≡ node_shows w b n d i q
  unfolding node_shows
  node-walk e f = rw (f, eq-eqb d 8 e)

  pub node-member : (d ≡ 8 → ⊥) → word_at w b i ≡ 0 → Member d (d + 1) ≡ node_shows w b n d i q
  unfolding node_shows
  node-member ne z = rw (ne_eqb d 8 ne, eq-eqb (word_at w b i) 0 z)

  pub node-damaged : (d ≡ 8 → ⊥) → (word_at w b i ≡ 0 → ⊥) → Refused Damaged ≡ node_shows w b n d i q
  unfolding node_shows
  node-damaged ne z = rw (ne_eqb d 8 ne, ne_eqb (word_at w b i) 0 z)

-- The tests of a word.
module _ (w : List ℕ) (b n r x : ℕ) (q : Bits) where
  no-absence : (16 ≤ x → x ≤ 24 → ⊥) → (leb 16 x && leb x 24) ≡ false
  no-absence f = go (leb 16 x) refl
    where
      go : (c : Bool) → leb 16 x ≡ c → (c && leb x 24) ≡ false
      go false e = refl
      go true e = up (leb x 24) refl
        where
          up : (d : Bool) → leb x 24 ≡ d → d ≡ false
          up false z = refl
          up true z = absurd (f (leb-true 16 x e) (leb-true x 24 z))

  module _ (le : x % 32 ≤ 8) where
    off : (leb 16 x && leb x 24) ≡ false
    off = no-absence (λ a c. omega arith)

    pub word-under : r + x / 32 < 1 → Refused Damaged ≡ stands_on w b n r x q
    unfolding stands_on
    word-under lt = rw (off, lt-leb 1 (r + x / 32) lt, and-false)

    pub word_over : n < r + x / 32 → Refused Damaged ≡ stands_on w b n r x q
    unfolding stands_on
    word_over lt = rw (off, lt-leb (r + x / 32) n lt, and-false, and-false)

    pub word-node : 1 ≤ r + x / 32 → r + x / 32 ≤ n → node_shows w b n (x % 32) (r + x / 32) q ≡ stands_on w b n r x q
    unfolding stands_on
    word-node one up = rw (off, le-leb (x % 32) 8 le, le-leb 1 (r + x / 32) one, le-leb (r + x / 32) n up)

  module _ (lt : 8 < x % 32) where
    neither : (16 ≤ x → x ≤ 24 → ⊥) → Refused Damaged ≡ stands_on w b n r x q
    unfolding stands_on
    neither f = rw (no-absence f, lt-leb (x % 32) 8 lt)

    pub word_low : x < 16 → Refused Damaged ≡ stands_on w b n r x q
    word_low l = neither (λ a c. omega arith)

    pub word-high : 24 < x → Refused Damaged ≡ stands_on w b n r x q
    word-high l = neither (λ a c. omega arith)

    pub word-absent : 16 ≤ x → x ≤ 24 → Nothing (x - 16) ≡ stands_on w b n r x q
    unfolding stands_on
    word-absent a c = rw (le-leb 16 x a, le-leb x 24 c)
