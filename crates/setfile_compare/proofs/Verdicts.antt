-- What is due, by the numbers of addresses: where two files hold the same, and where they differ first. Assumes nothing.
use mathlib.Core.Bool.{true, false, not, cond, beq as same}
use mathlib.Core.List.{List}
use mathlib.Core.Path.{◌≡◌, sym, ◌∙◌}
use Prim.Native.Nat.{ℕ, ◌-◌, ◌^◌, ◌<◌}
use native.Mathlib.Nat.{mul-one}
use native.Mathlib.Omega.{arith}
use lib.ListN.{length}
use Rattle.nets.specs.Bits.{Bits, val, bits}
use Rattle.nets.specs.Lists.{found, missing, covers, is_list}
use Rattle.nets.specs.Networks.{width, value, net_words, net_from, no_net}
use Rattle.nets.specs.Tries.{trie_of}
use Rattle.nets.proofs.Numbers.{length-bits}
use Rattle.nets.proofs.Strings.{same_refl}
use Rattle.nets.proofs.TwoWords.{net_of-value}
use Rattle.address_order.specs.Streams.{flat}
use Rattle.setfile_compare.specs.Comparing.{differ, is_shortest, verdict}
use Rattle.setfile_compare.proofs.Smallest.{least-is}
use Rattle.setfile_sides.proofs.Ranges.{address-of, holds}
use Rattle.setfile_sides.proofs.Opened.{covers-flat}

-- An address by its words, as a network.
pub net-address : (f hi lo : ℕ) → lo < 2 ^ 64 → value hi lo < 2 ^ width f → net_words f hi lo (width f) ≡ net_from f (bits (width f) (value hi lo))
unfolding net_from
net-address f hi lo h k =
    let z : width f - width f ≡ 0 = omega arith in
    rw (address-of (width f) (value hi lo) k, length-bits (width f) (value hi lo), z, mul-one (value hi lo)) (sym (net_of-value f hi lo (width f) h))

module _ (f : ℕ) (l m : List Bits) (i : is_list (width f) l ≡ true) (j : is_list (width f) m ≡ true) where
  differ-holds : (a : Bits) → length a ≡ width f
      → differ l m a ≡ not (same (holds (width f) (flat (trie_of l)) (val a)) (holds (width f) (flat (trie_of m)) (val a)))
  differ-holds a e = rw (covers-flat (width f) l i a e, covers-flat (width f) m j a e)

  alike : (a : Bits) → length a ≡ width f → holds (width f) (flat (trie_of l)) (val a) ≡ holds (width f) (flat (trie_of m)) (val a) → differ l m a ≡ false
  alike a e g = differ-holds a e ∙ rw (g, same_refl (holds (width f) (flat (trie_of m)) (val a)))

  pub verdict-same : ((n : ℕ) → holds (width f) (flat (trie_of l)) n ≡ holds (width f) (flat (trie_of m)) n) → verdict f l m ≡ (cond (is_shortest m) 4 3, no_net)
  unfolding verdict
  verdict-same h = rw (least-is (width f) (differ l m) missing (λ b n. alike b n (h (val b))))

  pub verdict-at : (x : ℕ) → x < 2 ^ width f → not (same (holds (width f) (flat (trie_of l)) x) (holds (width f) (flat (trie_of m)) x)) ≡ true
      → ((n : ℕ) → n < x → holds (width f) (flat (trie_of l)) n ≡ holds (width f) (flat (trie_of m)) n)
      → verdict f l m ≡ (cond (holds (width f) (flat (trie_of l)) x) 1 2, net_from f (bits (width f) x))
  unfolding verdict
  verdict-at x h d s =
      let a = bits (width f) x in
      let e = length-bits (width f) x in
      let v : val a ≡ x = address-of (width f) x h in
      let g : differ l m a ≡ true = differ-holds a e ∙ rw v d in
      let c : covers l a ≡ holds (width f) (flat (trie_of l)) x = covers-flat (width f) l i a e ∙ rw v in
      rw (least-is (width f) (differ l m) (found a) (e, g, λ b n k. alike b n (s (val b) (rw v at k))), c)
