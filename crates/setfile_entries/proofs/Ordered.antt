-- The entries in the order of the file: the check of those that are left completes that of all. Assumes nothing.
use mathlib.Core.Bool.{Bool, true, false, ◌&&◌, and-false}
use mathlib.Core.Path.{◌≡◌, ap, sym, ◌∙◌, subst}
use mathlib.Core.List.{List, ◌∷◌}
use Prim.Native.Nat.{ℕ, suc, ◌+◌, ◌-◌, ◌≤◌, ◌<◌, ◌^◌}
use native.Mathlib.Numerals.{add-one}
use native.Mathlib.Omega.{arith}
use Rattle.nets.specs.Bits.{before}
use Rattle.nets.specs.Lists.{ascending}
use Rattle.nets.specs.Networks.{width, address, net_bits}
use Rattle.nets.specs.declared.Net.{Net}
use Rattle.setfile_format.specs.Files.{entry_net, is_clean, are_clean, networks_in}
use Rattle.setfile_entries.specs.Entries.{Entry}

-- the answer for n entries
abbrev pub Ordered : ℕ → List ℕ → ℕ → Bool
Ordered f d n = are_clean f d 0 n && ascending (networks_in f d 0 n)

-- where the entries before entry i are right, and `last` is the one before it
pub record Going (d : List ℕ) (f n : ℕ) (last : Net) (i : ℕ) : Type 0 where
  pub entry : Entry f last
  pub least : 1 ≤ i
  pub most : i ≤ n
  pub goes : (are_clean f d i (n - i) && ascending (net_bits last ∷ networks_in f d i (n - i))) ≡ Ordered f d n

pub entry-is : (d : List ℕ) (f i : ℕ) (x : Net) → x ≡ entry_net f d i → address x < 2 ^ width f → is_clean x ≡ true → Entry f x
unfolding entry_net
entry-is d f i x e h g = record { family = ap (λ n. n.family) e; clean = g; range = h }

pub entry-pair : {f : ℕ} {x y : Net} → Entry f x → Entry f y → Entry x.family x × Entry x.family y
entry-pair {f} {x} {y} h g = subst (λ k. Entry k x × Entry k y) (sym h.family) (h, g)

module _ (d : List ℕ) (f n : ℕ) where
  pub ordered-none : n ≡ 0 → true ≡ Ordered f d n
  unfolding are_clean networks_in
  ordered-none e = rw e

  pub ordered-unclean : (n ≡ 0 → ⊥) → is_clean (entry_net f d 0) ≡ false → false ≡ Ordered f d n
  unfolding are_clean
  ordered-unclean e g = let p : suc (n - 1) ≡ n = omega arith in rw (← p, g)

  pub ordered-start : (n ≡ 0 → ⊥) → (x : Net) → x ≡ entry_net f d 0 → address x < 2 ^ width f → is_clean x ≡ true → Going d f n x 1
  unfolding are_clean networks_in
  ordered-start e x q h g =
      let p : suc (n - 1) ≡ n = omega arith in
      let r : is_clean (entry_net f d 0) ≡ true = ap is_clean (sym q) ∙ g in
      record { entry = entry-is d f 0 x q h g; least = omega arith; most = omega arith; goes = sym (ap (Ordered f d) (sym p) ∙ rw (r, ← q)) }

module _ {d : List ℕ} {f n : ℕ} {last : Net} {i : ℕ} (s : Going d f n last i) where
  -- the check from entry i on, where there is one
  onward : i < n → (is_clean (entry_net f d i) && are_clean f d (suc i) (n - suc i)) && (before (net_bits last) (net_bits (entry_net f d i)) && ascending (net_bits (entry_net f d i) ∷ networks_in f d (suc i) (n - suc i))) ≡ Ordered f d n
  unfolding are_clean networks_in
  onward h = let p : suc (n - suc i) ≡ n - i = omega arith in rw (← p) at s.goes

  pub going_end : n ≤ i → true ≡ Ordered f d n
  unfolding are_clean networks_in
  going_end h = let p : n - i ≡ 0 = omega (arith, s.most) in rw p at s.goes

  pub going-unclean : i < n → is_clean (entry_net f d i) ≡ false → false ≡ Ordered f d n
  going-unclean h g = rw g at (onward h)

  pub going-unordered : i < n → before (net_bits last) (net_bits (entry_net f d i)) ≡ false → false ≡ Ordered f d n
  going-unordered h g = sym (and-false (is_clean (entry_net f d i) && are_clean f d (suc i) (n - suc i))) ∙ (rw g at (onward h))

  pub going_on : i < n → (x : Net) → x ≡ entry_net f d i → address x < 2 ^ width f → is_clean x ≡ true → before (net_bits last) (net_bits x) ≡ true → Going d f n x (i + 1)
  going_on h x q l g b =
      record {
        entry = entry-is d f i x q l g;
        least = omega arith;
        most = omega arith;
        goes = let c = ap is_clean (sym q) ∙ g in let e = ap (λ y. before (net_bits last) (net_bits y)) (sym q) ∙ b in rw (add-one i, q) (rw (c, e) at (onward h));
      }
