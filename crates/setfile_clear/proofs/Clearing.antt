-- The entries of a file one by one: where those before entry i are clear of the inner networks, the list is exactly if those from it on are (`Going`). Assumes nothing.
use mathlib.Core.Path.{◌≡◌, sym, ap, ◌∙◌}
use mathlib.Core.Bool.{Bool, true, false, not, ◌&&◌}
use mathlib.Core.List.{List, [], ◌∷◌}
use Prim.Native.Nat.{ℕ, suc, ◌+◌, ◌-◌, ◌≤◌, ◌<◌, ◌^◌}
use native.Mathlib.Nat.{le_trans}
use native.Mathlib.Numerals.{add-one}
use native.Mathlib.Omega.{arith}
use lib.Dec.{eqb}
use lib.ListN.{length}
use borrow.Author.Tests.{not-true, not-false}
use Rattle.nets.specs.Bits.{Bits}
use Rattle.nets.specs.Networks.{is_family, width, address, net_bits, refusal_of}
use Rattle.nets.specs.declared.Net.{Net}
use Rattle.nets.proofs.Numbers.{is-refusal_of}
use Rattle.inner_nets.specs.Inner.{is_public}
use Rattle.inner_nets.proofs.Numbered.{is_public-net}
use Rattle.inner_nets.proofs.Public.{is_public-nil, is_public-cons}
use Rattle.setfile_format.specs.Files.{head_number, file_bytes, most_entries, entry_net, is_clean, are_clean, networks_in, read_file, file}
use Rattle.setfile_format.proofs.Written.{file_bytes-mono}
use Rattle.setfile_format.proofs.FileOrder.{networks_in-first, are_clean-at}
use Rattle.setfile_format.proofs.RoundTrip.{read_file-is, clean-len}

pub record Going (d : List ℕ) (f n i : ℕ) : Type 0 where
  pub count : n ≡ head_number d 1
  pub few : n ≤ most_entries
  pub long : file_bytes f n ≤ length d
  pub family : is_family f ≡ true
  pub clean : are_clean f d 0 n ≡ true
  pub past : i ≤ n
  pub is : is_public f (networks_in f d i (n - i)) ≡ is_public f (networks_in f d 0 n)

-- a header that is there
pub file-header : (d : List ℕ) (f : ℕ) (l : List Bits) → read_file d ≡ file f l → 16 ≤ length d
unfolding file_bytes
file-header d f l e = omega (arith, (read_file-is d f l e).long)

pub going_start : (d : List ℕ) (f : ℕ) (l : List Bits) (n : ℕ) → read_file d ≡ file f l → n ≡ head_number d 1 → Going d f n 0
going_start d f l n e q =
    let h = read_file-is d f l e in
    let z : n ≡ length l = q ∙ h.numbers.1 in
    let m : n - 0 ≡ n = omega arith in
    record {
      count = q;
      few = rw z h.few;
      long = rw z (omega (arith, h.long));
      family = h.family;
      clean = rw z h.clean;
      past = omega arith;
      is = rw m;
    }

module _ {d : List ℕ} {f n i : ℕ} (g : Going d f n i) where
  all : (l : List Bits) → read_file d ≡ file f l → is_public f (networks_in f d 0 n) ≡ is_public f l
  all l e = let h = read_file-is d f l e in ap (λ k. is_public f (networks_in f d 0 k)) (g.count ∙ h.numbers.1) ∙ ap (is_public f) h.networks

  pub going_end : n ≤ i → (l : List Bits) → read_file d ≡ file f l → true ≡ is_public f l
  unfolding networks_in
  going_end le l e =
      let z : n - i ≡ 0 = omega (arith, g.past) in
      let s : is_public f [] ≡ is_public f (networks_in f d 0 n) = rw z at g.is in
      sym (is_public-nil f) ∙ s ∙ all l e

  module _ (lt : i < n) where
    pub going-there : (i ≤ 4194304) × (file_bytes f (i + 1) ≤ length d)
    going-there = (omega (arith, g.few), le_trans (file_bytes-mono f (omega arith)) g.long)

    abbrev rest : Bool
    rest = is_public f (networks_in f d (suc i) (n - suc i))

    here : (is_public f (net_bits (entry_net f d i) ∷ []) && rest) ≡ is_public f (networks_in f d 0 n)
    here = sym (is_public-cons f (net_bits (entry_net f d i)) (networks_in f d (suc i) (n - suc i))) ∙ ap (is_public f) (sym (networks_in-first f d i n lt)) ∙ g.is

    -- the entry as a network, and what is asked of it
    module _ {x : Net} (e : x ≡ entry_net f d i) (low : address x < 2 ^ width f) {r : Bool} (c : r ≡ (eqb (refusal_of x) 0 && is_public x.family (net_bits x ∷ []))) where
      own : x.family ≡ f
      unfolding entry_net
      own = ap (λ (y : Net). y.family) e

      in-width : address x < 2 ^ width x.family
      in-width = rw own low

      is-net : refusal_of x ≡ 0
      is-net =
          let y : is_clean x ≡ true = ap is_clean e ∙ are_clean-at f d 0 n i g.clean (omega arith) (omega arith) in
          is-refusal_of x (record { family = rw own g.family; len = clean-len x y in-width; address = in-width })

      clear : r ≡ is_public f (net_bits (entry_net f d i) ∷ [])
      clear = is_public-net x r is-net c ∙ ap (λ k. is_public k (net_bits x ∷ [])) own ∙ ap (λ y. is_public f (net_bits y ∷ [])) e

      left : (r && rest) ≡ is_public f (networks_in f d 0 n)
      left = ap (λ b. b && rest) clear ∙ here

      pub going-out : not r ≡ true → (l : List Bits) → read_file d ≡ file f l → false ≡ is_public f l
      going-out o l q = rw (not-true r o) at left ∙ all l q

      pub going_on : not r ≡ false → Going d f n (i + 1)
      going_on o = record {
        count = g.count;
        few = g.few;
        long = g.long;
        family = g.family;
        clean = g.clean;
        past = omega arith;
        is = rw (add-one i) (rw (not-false r o) at left);
      }
