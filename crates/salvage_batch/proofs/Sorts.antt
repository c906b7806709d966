-- What sorting leaves of networks: the same, each as often (`sorts-times`), all clean where they were, in address order or in the order of a list. Assumes nothing.
use mathlib.Core.Bool.{Bool, true, false, not, cond, ◌&&◌, ◌||◌, false≢true}
use mathlib.Core.List.{List, [], ◌∷◌}
use mathlib.Core.Logic.{◌⊎◌, inl, inr}
use mathlib.Core.Path.{◌≡◌, refl, ap, sym, ◌∙◌}
use Prim.Native.Nat.{ℕ, zero, suc, ◌+◌, ◌-◌, ◌*◌, ◌/◌, ◌%◌, ◌^◌, ◌≤◌, ◌<◌}
use native.Mathlib.Nat.{zero-add}
use native.Mathlib.Decide.{dec_lt}
use native.Mathlib.Omega.{arith}
use lib.Dec.{eqb, ltb}
use lib.ListN.{length}
use lib.Pow.{split}
use borrow.Author.Tests.{lt-ltb, le-ltb, ltb-true, eq-eqb, ne_eqb, eqb-true, not-true}
use Rattle.nets.specs.Bits.{Bits, equal, digit, val, before}
use Rattle.nets.specs.Lists.{member, any_of}
use Rattle.nets.specs.Networks.{width, address, net_bits, net_of}
use Rattle.nets.specs.declared.Net.{Net}
use Rattle.nets.proofs.Strings.{and_left, and_right, equal-refl, equal_is}
use Rattle.nets.proofs.Order.{key, From, key_one, before-le, lt-before}
use Rattle.setfile_format.specs.Files.{entry_net, is_clean, are_clean, networks_in}
use Rattle.setfile_format.proofs.Bytes.{Bytes}
use Rattle.setfile_format.proofs.FileOrder.{network_at, are_clean-at, entry_length, entry-number, network_at-within}
use Rattle.address_order.specs.Streams.{earlier}
use Rattle.address_order.proofs.AddressOrder.{number, earlier-number}
use Rattle.address_order.proofs.Rising.{Rise, Heads, member-cons, member-first, member-later}
use Rattle.setfile_sort.specs.Sorting.{entry_number, entries_in, count, key_of, Sorts}
use Rattle.setfile_sort.proofs.KeyBits.{entry_number-address, entry_number-length}
use Rattle.salvage_lists.specs.Ahead.{Sorted}

-- how often q is listed
unfoldable pub times : Bits → List Bits → ℕ
times q [] = 0
times q (p ∷ l) = digit (equal q p) + times q l

pub member-times : (q : Bits) (l : List Bits) → member q l ≡ ltb 0 (times q l)
unfolding times
member-times q [] = refl
member-times q (p ∷ l) = go (equal q p) (member-times q l)
  where
    go : (b : Bool) → member q l ≡ ltb 0 (times q l) → (b || member q l) ≡ ltb 0 (digit b + times q l)
    go true ih = sym (lt-ltb 0 (1 + times q l) (omega arith))
    go false ih = rw (zero-add (times q l)) ih

-- The network of an entry, by its number.
number_net : ℕ → ℕ → Net
number_net f x = net_of f (x / 256) (x % 256)

module _ (f : ℕ) (d : List ℕ) (bytes : Bytes d) where
  entry-net : (i : ℕ) → entry_net f d i ≡ number_net f (entry_number f d i)
  unfolding entry_net number_net
  entry-net i = rw (entry_number-address f d bytes i, entry_number-length f d bytes i)

  count-times : (q : Bits) (i k : ℕ) → count (λ x. equal q (net_bits (number_net f x))) (entries_in f d i k) ≡ times q (networks_in f d i k)
  unfolding count entries_in networks_in times
  count-times q i zero = refl
  count-times q i (suc k) = rw (entry-net i, count-times q (suc i) k)

  count-clean : (i k : ℕ) → are_clean f d i k ≡ eqb (count (λ x. not (is_clean (number_net f x))) (entries_in f d i k)) 0
  unfolding count entries_in are_clean
  count-clean i zero = refl
  count-clean i (suc k) = rw (entry-net i) (go (is_clean (number_net f (entry_number f d i))) (count-clean (suc i) k))
    where
      go : (b : Bool) → are_clean f d (suc i) k ≡ eqb (count (λ x. not (is_clean (number_net f x))) (entries_in f d (suc i) k)) 0
          → (b && are_clean f d (suc i) k) ≡ eqb (digit (not b) + count (λ x. not (is_clean (number_net f x))) (entries_in f d (suc i) k)) 0
      go true ih = rw (zero-add (count (λ x. not (is_clean (number_net f x))) (entries_in f d (suc i) k))) ih
      go false ih = sym (ne_eqb (1 + count (λ x. not (is_clean (number_net f x))) (entries_in f d (suc i) k)) 0 (omega arith))

  -- the entry of a member
  pub member-at : (q : Bits) (i k : ℕ) → member q (networks_in f d i k) ≡ true → (j : ℕ) × (i ≤ j) × (j < i + k) × (network_at f d j ≡ q)
  unfolding networks_in
  member-at q i zero h = absurd (false≢true h)
  member-at q i (suc k) h = go (member-cons q (network_at f d i) (networks_in f d (suc i) k) h) (member-at q (suc i) k)
    where
      go : (q ≡ network_at f d i) ⊎ (member q (networks_in f d (suc i) k) ≡ true)
          → (member q (networks_in f d (suc i) k) ≡ true → (j : ℕ) × (suc i ≤ j) × (j < suc i + k) × (network_at f d j ≡ q))
          → (j : ℕ) × (i ≤ j) × (j < i + suc k) × (network_at f d j ≡ q)
      go (inl e) ih = (i, omega arith, omega arith, sym e)
      go (inr e) ih = let r = ih e in (r.0, omega (arith, r.1), omega (arith, r.2), r.3)

  -- Of two clean entries the one with the larger number is not earlier.
  module _ (n : ℕ) (clean : are_clean f d 0 n ≡ true) where
    clean_at : (i : ℕ) → i < n → is_clean (entry_net f d i) ≡ true
    clean_at i h = are_clean-at f d 0 n i clean (omega arith) (omega arith)

    pub address-at : (i : ℕ) → i < n → (number (width f) (network_at f d i) ≡ entry_number f d i / 256) × (length (network_at f d i) ≡ entry_number f d i % 256)
    unfolding number_net
    address-at i h =
        let e = entry-net i in (
          entry-number d bytes f i (clean_at i h) ∙ ap address e ∙ split (entry_number f d i / 256) 64,
          entry_length d bytes f i (clean_at i h) ∙ ap (λ (m : Net). m.len) e,
        )

    not_earlier : (i j : ℕ) → i < n → j < n → entry_number f d i ≤ entry_number f d j → earlier (network_at f d j) (network_at f d i) ≡ false
    not_earlier i j h g l =
        let x = address-at i h in
        let y = address-at j g in
        earlier-number (width f) (network_at f d j) (network_at f d i) (network_at-within f d j) (network_at-within f d i)
        ∙ rw (x.0, x.1, y.0, y.1) (not-less (entry_number f d i) (entry_number f d j) l)
      where
        not-less : (a b : ℕ) → a ≤ b → (ltb (b / 256) (a / 256) || (eqb (b / 256) (a / 256) && ltb (b % 256) (a % 256))) ≡ false
        not-less a b l = go (dec_lt (a / 256) (b / 256))
          where
            go : Dec (a / 256 < b / 256) → (ltb (b / 256) (a / 256) || (eqb (b / 256) (a / 256) && ltb (b % 256) (a % 256))) ≡ false
            go (yes h) = rw (le-ltb (b / 256) (a / 256) (omega arith), ne_eqb (b / 256) (a / 256) (omega arith))
            go (no h) = rw (le-ltb (b / 256) (a / 256) (omega arith), eq-eqb (b / 256) (a / 256) (omega arith), le-ltb (b % 256) (a % 256) (omega arith))

    -- so entries in the order of their numbers are in address order
    pub entries_sorted : ((i j : ℕ) → i < j → j < n → entry_number f d i ≤ entry_number f d j) → (i k : ℕ) → i + k ≤ n → Sorted (networks_in f d i k)
    unfolding networks_in
    entries_sorted up i zero h = tt
    entries_sorted up i (suc k) h = (
      λ q m. let r = member-at q (suc i) k m in rw (← r.3) (not_earlier i r.0 (omega arith) (omega (arith, r.2)) (up i r.0 (omega (arith, r.1)) (omega (arith, r.2)))),
      entries_sorted up (suc i) k (omega arith),
    )

module _ {f n : ℕ} {d e : List ℕ} (before : Bytes d) (after : Bytes e) where
  pub sorts-times : {b : Bool} → Sorts b f n d e → (q : Bits) → times q (networks_in f e 0 n) ≡ times q (networks_in f d 0 n)
  sorts-times s q = sym (count-times f e after q 0 n) ∙ s.counts (λ x. equal q (net_bits (number_net f x))) ∙ count-times f d before q 0 n

  pub sorts-member : {b : Bool} → Sorts b f n d e → (q : Bits) → member q (networks_in f e 0 n) ≡ member q (networks_in f d 0 n)
  sorts-member s q = member-times q (networks_in f e 0 n) ∙ rw (sorts-times s q) (sym (member-times q (networks_in f d 0 n)))

  pub sorts-clean : {b : Bool} → Sorts b f n d e → are_clean f d 0 n ≡ true → are_clean f e 0 n ≡ true
  sorts-clean s c =
      count-clean f e after 0 n ∙ rw (s.counts (λ x. not (is_clean (number_net f x)))) (sym (count-clean f d before 0 n) ∙ c)

  pub sorts-sorted : Sorts false f n d e → are_clean f d 0 n ≡ true → Sorted (networks_in f e 0 n)
  unfolding key_of
  sorts-sorted s c = entries_sorted f e after n (sorts-clean s c) s.ascends 0 n (omega arith)
