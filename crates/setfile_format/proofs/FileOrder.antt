-- The entries of a file by their numbers: the networks of a run taken apart at its front and at its end, what is known of entry j from what the whole run was found to be, and that
-- a clean entry is the numbers of its network. Assumes nothing.
use mathlib.Core.Bool.{true}
use mathlib.Core.List.{List, [], ◌∷◌, ◌++◌}
use mathlib.Core.Logic.{◌⊎◌, inl, inr}
use mathlib.Core.Path.{◌≡◌, refl}
use Prim.Native.Nat.{ℕ, zero, suc, ◌+◌, ◌-◌, ◌≤◌, ◌<◌}
use native.Mathlib.Nat.{zero-add, add-zero, suc-add}
use native.Mathlib.Decide.{dec_lt}
use native.Mathlib.Omega.{arith}
use lib.ListN.{length, drop, length-take}
use lib.Pow.{split}
use borrow.Author.Tests.{le-leb}
use Rattle.nets.specs.Bits.{Bits, before, bits}
use Rattle.nets.specs.Lists.{ascending, within}
use Rattle.nets.specs.Networks.{width, address, net_bits, net_from, big_endian}
use Rattle.nets.proofs.Strings.{and_left, and_right}
use Rattle.nets.proofs.Order.{key-shorter, before-lt}
use Rattle.nets.proofs.Numbers.{length-bits}
use Rattle.setfile_format.specs.Files.{address_bytes, entry_at, entry_net, is_clean, are_clean, networks_in}
use Rattle.setfile_format.proofs.Bytes.{Bytes}
use Rattle.setfile_format.proofs.RoundTrip.{clean-length, clean-number, entry-low}
use Rattle.address_order.proofs.AddressOrder.{number}

-- at the front, or behind it
front : (i j : ℕ) → i ≤ j → (j ≡ i) ⊎ (suc i ≤ j)
front i j h = go (dec_lt i j)
  where
    go : Dec (i < j) → (j ≡ i) ⊎ (suc i ≤ j)
    go (yes k) = inr k
    go (no k) = inl (omega arith)

module _ (f : ℕ) (d : List ℕ) where
  -- the network of entry j
  abbrev pub network_at : ℕ → Bits
  network_at j = net_bits (entry_net f d j)

  -- Runs from entry i on, and from there to the end e.
  pub networks_in-append : (i j k : ℕ) → networks_in f d i (j + k) ≡ networks_in f d i j ++ networks_in f d (i + j) k
  unfolding networks_in
  networks_in-append i zero k = rw (zero-add k, add-zero i)
  networks_in-append i (suc j) k = let e : i + suc j ≡ suc i + j = omega arith in rw (suc-add j k, e, networks_in-append (suc i) j k)

  pub networks_in-first : (i e : ℕ) → i < e → networks_in f d i (e - i) ≡ network_at i ∷ networks_in f d (suc i) (e - suc i)
  unfolding networks_in
  networks_in-first i e h = let k : e - i ≡ suc (e - suc i) = omega arith in rw k

  pub networks_in-last : (i e : ℕ) → i ≤ e → networks_in f d i (suc e - i) ≡ networks_in f d i (e - i) ++ (network_at e ∷ [])
  unfolding networks_in
  networks_in-last i e h =
      let k : suc e - i ≡ (e - i) + 1 = omega arith in
      let g : i + (e - i) ≡ e = omega arith in
      rw (k, networks_in-append i (e - i) 1, g)

  -- a run that is not empty begins with its first entry
  pub networks_in-cons : (i e : ℕ) (q : Bits) (ms : List Bits) → networks_in f d i (e - i) ≡ q ∷ ms → (i < e) × (network_at i ≡ q) × (networks_in f d (suc i) (e - suc i) ≡ ms)
  unfolding networks_in
  networks_in-cons i e q ms x = go (dec_lt i e)
    where
      go : Dec (i < e) → (i < e) × (network_at i ≡ q) × (networks_in f d (suc i) (e - suc i) ≡ ms)
      go (yes h) = let y = networks_in-first i e h in (h, cc, cc)
      go (no h) = let k : e - i ≡ 0 = omega arith in let y : [] ≡ q ∷ ms = rw k at x in let z : ◌≡◌ {A = ℕ} 0 1 = cc in absurd (omega arith)

  -- Of entry j, from what was found of the run.
  pub are_clean-at : (i k j : ℕ) → are_clean f d i k ≡ true → i ≤ j → j < i + k → is_clean (entry_net f d j) ≡ true
  unfolding are_clean
  are_clean-at i zero j e h g = absurd (omega arith)
  are_clean-at i (suc k) j e h g =
      go (front i j h) (λ l. are_clean-at (suc i) k j (and_right (is_clean (entry_net f d i)) (are_clean f d (suc i) k) e) l (omega arith))
    where
      go : (j ≡ i) ⊎ (suc i ≤ j) → (suc i ≤ j → is_clean (entry_net f d j) ≡ true) → is_clean (entry_net f d j) ≡ true
      go (inl x) ih = rw x (and_left (is_clean (entry_net f d i)) (are_clean f d (suc i) k) e)
      go (inr l) ih = ih l

  pub ascending-at : (i k j : ℕ) → ascending (networks_in f d i k) ≡ true → i ≤ j → suc j < i + k → before (network_at j) (network_at (suc j)) ≡ true
  unfolding networks_in
  ascending-at i zero j e h g = absurd (omega arith)
  ascending-at i (suc zero) j e h g = absurd (omega arith)
  ascending-at i (suc (suc k)) j e h g =
      go (front i j h) (λ l. ascending-at (suc i) (suc k) j (and_right (before (network_at i) (network_at (suc i))) (ascending (networks_in f d (suc i) (suc k))) e) l (omega arith))
    where
      go : (j ≡ i) ⊎ (suc i ≤ j) → (suc i ≤ j → before (network_at j) (network_at (suc j)) ≡ true) → before (network_at j) (network_at (suc j)) ≡ true
      go (inl x) ih = rw x (and_left (before (network_at i) (network_at (suc i))) (ascending (networks_in f d (suc i) (suc k))) e)
      go (inr l) ih = ih l

  -- no network is wider than the family
  pub network_at-within : (i : ℕ) → length (network_at i) ≤ width f
  unfolding net_bits entry_net
  network_at-within i =
      let n = entry_net f d i in
      omega (arith, length-take n.len (bits (width f) (address n)), length-bits (width f) (address n))

  pub within-networks_in : (i k : ℕ) → within (width f) (networks_in f d i k) ≡ true
  unfolding networks_in
  within-networks_in i zero = refl
  within-networks_in i (suc k) = rw (le-leb (length (network_at i)) (width f) (network_at-within i)) (within-networks_in (suc i) k)

-- The shorter comes first.
pub before-length : (p q : Bits) → before p q ≡ true → length p ≤ length q
before-length p q e = go (dec_lt (length q) (length p))
  where
    go : Dec (length q < length p) → length p ≤ length q
    go (yes h) = absurd (omega (arith, key-shorter q p h, before-lt p q e))
    go (no h) = omega arith

-- A clean entry: its numbers are those of its network.
module _ (d : List ℕ) (bytes : Bytes d) (f : ℕ) (i : ℕ) (clean : is_clean (entry_net f d i) ≡ true) where
  pub entry_length : length (network_at f d i) ≡ (entry_net f d i).len
  unfolding entry_net
  entry_length = clean-length (entry_net f d i) clean (entry-low d bytes f i)

  pub entry-number : number (width f) (network_at f d i) ≡ address (entry_net f d i)
  unfolding entry_net
  entry-number = clean-number (entry_net f d i) clean (entry-low d bytes f i)

  pub entry-net_from : net_from f (network_at f d i) ≡ entry_net f d i
  unfolding entry_net net_from
  entry-net_from = rw (entry-number, entry_length, split (big_endian 256 (drop (entry_at f i) d) (address_bytes f)) 64)
