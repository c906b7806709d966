-- An entry taken in: its length is out of range, or it is one more network of those in range, with the bits past its length cleared. Assumes nothing.
use mathlib.Core.Bool.{Bool, true, false, ◌||◌}
use mathlib.Core.List.{List, [], ◌∷◌, ◌++◌, append-nil}
use mathlib.Core.Path.{◌≡◌, ap, sym, ◌∙◌}
use Prim.Native.Nat.{ℕ, ◌+◌, ◌^◌, ◌≤◌, ◌<◌}
use native.Mathlib.Nat.{zero-add}
use native.Mathlib.Decide.{dec_le}
use native.Mathlib.Omega.{arith}
use borrow.Author.Tests.{le-ltb, lt-ltb}
use Rattle.nets.specs.Refusals.{number}
use Rattle.nets.specs.Networks.{is_family, width, address, net_bits, net_from, refusal_of, cleared, has_bit_past, no_entry, entered_as, entered}
use Rattle.nets.specs.declared.Net.{Net}
use Rattle.nets.specs.declared.Refusal.{Refusal}
use Rattle.nets.proofs.Answers.{number-some, answered-granted}
use Rattle.nets.proofs.Numbers.{refusal_of-is, is-refusal_of, net_bits-cleared}
use Rattle.setfile_format.specs.Files.{entry_net}
use Rattle.setfile_format.proofs.FileOrder.{network_at-within}
use Rattle.salvage_lists.specs.Salvaging.{is_long, in_range_in}
use Rattle.salvage_lists.proofs.Counts.{in_range_in-append}
use Rattle.salvage_batch.specs.Buffers.{Clean}
use Rattle.salvage_batch.proofs.Orders.{clean-net_from}
use Rattle.std.specs.Prelude.{Result, Ok, Err}

module _ (f : ℕ) (d : List ℕ) (i : ℕ) (family : is_family f ≡ true) {n : Net} (e : n ≡ entry_net f d i) (range : address n < 2 ^ width f) where
  entry-family : n.family ≡ f
  unfolding entry_net
  entry-family = ap (λ (x : Net). x.family) e

  within : n.len ≤ width n.family → refusal_of n ≡ 0
  within h = is-refusal_of n (record { family = rw entry-family family; len = h; address = rw entry-family range })

  -- refused for its length alone
  entry-long : (refusal_of n ≡ 0 → ⊥) → is_long (entry_net f d i) ≡ true
  unfolding is_long
  entry-long h = ap is_long (sym e) ∙ lt-ltb (width n.family) n.len (go (dec_le n.len (width n.family)))
    where
      go : Dec (n.len ≤ width n.family) → width n.family < n.len
      go (yes l) = absurd (h (within l))
      go (no l) = omega arith

  entry-short : refusal_of n ≡ 0 → is_long (entry_net f d i) ≡ false
  unfolding is_long
  entry-short h = ap is_long (sym e) ∙ le-ltb (width n.family) n.len (refusal_of-is n h).len

  -- the entries in range with this one
  in_range-long : is_long (entry_net f d i) ≡ true → in_range_in f d 0 (i + 1) ≡ in_range_in f d 0 i
  unfolding in_range_in
  in_range-long h = in_range_in-append f d 0 i 1 ∙ rw (zero-add i, h) (append-nil (in_range_in f d 0 i))

  in_range-short : is_long (entry_net f d i) ≡ false → in_range_in f d 0 (i + 1) ≡ in_range_in f d 0 i ++ (net_bits (entry_net f d i) ∷ [])
  unfolding in_range_in
  in_range-short h = in_range_in-append f d 0 i 1 ∙ rw (zero-add i, h)

  module _ {r : (Result (Net × Bool) Refusal)} (a : entered_as r ≡ entered n) where
    pub taken-long : (x : Refusal) → r ≡ Err x → in_range_in f d 0 (i + 1) ≡ in_range_in f d 0 i
    taken-long x q =
        let p : number x ≡ refusal_of n = ap (λ y. y.0) (sym (ap entered_as q) ∙ a) in
        in_range-long (entry-long (λ z. number-some x (p ∙ z)))

    module _ (x : Net) (b : Bool) (q : r ≡ Ok (x, b)) where
      granted : (refusal_of n ≡ 0) × (◌≡◌ {A = Net × Bool} (x, b) (cleared n, has_bit_past n))
      granted = answered-granted (refusal_of n) no_entry (cleared n, has_bit_past n) (x, b) (sym (ap entered_as q) ∙ a)

      taken-bits : net_bits x ≡ net_bits (entry_net f d i)
      taken-bits = ap net_bits (ap (λ p. p.0) granted.1) ∙ net_bits-cleared n granted.0 ∙ ap net_bits e

      pub taken_in : in_range_in f d 0 (i + 1) ≡ in_range_in f d 0 i ++ (net_bits x ∷ [])
      taken_in = in_range-short (entry-short granted.0) ∙ ap (λ p. in_range_in f d 0 i ++ (p ∷ [])) (sym taken-bits)

      pub taken-clean : Clean f x
      unfolding cleared
      taken-clean =
          let z : x ≡ net_from f (net_bits n) = ap (λ p. p.0) granted.1 ∙ ap (λ g. net_from g (net_bits n)) entry-family in
          rw z (clean-net_from f (net_bits n) family (rw e (network_at-within f d i)))
