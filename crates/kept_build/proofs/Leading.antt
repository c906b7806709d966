-- The network of the first bits of a network: it is granted, and clearing leaves just those bits. Assumes nothing.
use mathlib.Core.List.{◌++◌}
use mathlib.Core.Path.{◌≡◌, refl, sym, ap, ◌∙◌}
use Prim.Native.Nat.{ℕ, ◌≤◌}
use native.Mathlib.Omega.{arith}
use lib.ListN.{length, take, length-append}
use lib.Seq.{take-take, take_at}
use Rattle.nets.specs.Bits.{Bits, bits}
use Rattle.nets.specs.Networks.{width, address, net_bits, net_from, refusal_of, no_net, taken_as, with_len, with_len_no, cleared}
use Rattle.nets.specs.Refusals.{answered}
use Rattle.nets.specs.declared.Net.{Net}
use Rattle.nets.specs.declared.Refusal.{Refusal}
use Rattle.nets.proofs.Numbers.{net_bits-net_from, refusal_of-net_from, refusal_of-is, is-refusal_of, width-le}
use Rattle.nets.proofs.Answers.{number-some, taken-network, with_len_no-net}
use Rattle.trie_paths.proofs.Paths.{path-is}
use Rattle.kept_build.specs.Building.{Begins}
use Rattle.std.specs.Prelude.{Result, Ok, Err}
use Rattle.std.specs.Result.{result_unwrap_or}

net_bits-with : (n : Net) (k : ℕ) → k ≤ n.len → net_bits (with_len n k) ≡ take k (net_bits n)
unfolding net_bits
net_bits-with n k h = sym (take-take k n.len (bits (width n.family) (address n)) h)

module _ {f : ℕ} {n : Net} {s : Bits} (g : Begins f n s) where
  pub begins-within : length s ≤ width f
  begins-within = omega (arith, g.short, length-append s g.behind)

  pub begins-few : length s ≤ 128
  begins-few = omega (arith, begins-within, width-le f)

  module _ {k : ℕ} (e : k ≡ length s) where
    few : k ≤ n.len
    few = omega (arith, (path-is n f (s ++ g.behind) g.net).0, length-append s g.behind)

    granted : with_len_no n k ≡ 0
    granted =
        let r : refusal_of n ≡ 0 = rw g.net (refusal_of-net_from f (s ++ g.behind) g.family g.short) in
        let i = refusal_of-is n r in
        with_len_no-net n k r ∙ is-refusal_of (with_len n k) (record { family = i.family; len = omega (arith, i.len, few); address = i.address })

    cleared-is : cleared (with_len n k) ≡ net_from f s
    unfolding cleared
    cleared-is =
        let b = ap net_bits g.net ∙ net_bits-net_from f (s ++ g.behind) g.short in
        let x : net_bits (with_len n k) ≡ s = net_bits-with n k few ∙ ap (take k) b ∙ take_at s g.behind k (sym e) in
        rw (x, (path-is n f (s ++ g.behind) g.net).1)

    module _ (t : Result Net Refusal) (a : taken_as t ≡ answered (with_len_no n k) no_net (cleared (with_len n k))) where
      begins-taken : (m : Net) → t ≡ Ok m → m ≡ net_from f s
      begins-taken m h = (taken-network t (with_len_no n k) (cleared (with_len n k)) m a h).1 ∙ cleared-is

      begins-refused : (x : Refusal) → t ≡ Err x → ⊥
      begins-refused x h = number-some x (ap (λ p. p.0) (sym (ap taken_as h) ∙ a) ∙ granted)

      pub begins-or : result_unwrap_or t n ≡ net_from f s
      begins-or = go t refl
        where
          go : (r : Result Net Refusal) → t ≡ r → result_unwrap_or t n ≡ net_from f s
          go (Ok m) h = rw h (begins-taken m h)
          go (Err x) h = absurd (begins-refused x h)
