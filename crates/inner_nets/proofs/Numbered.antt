-- The inner networks by their numbers: each of them is a network, past the last there is none, and a search through them ends where none is left. Assumes
-- nothing.
use mathlib.Core.Bool.{Bool, true, false, cond, not, ◌&&◌, ◌||◌, or-false}
use mathlib.Core.List.{List, [], ◌∷◌}
use mathlib.Core.Path.{◌≡◌, refl, ap, sym, ◌∙◌}
use Prim.Native.Nat.{ℕ, zero, suc, ◌+◌, ◌≤◌, ◌<◌}
use native.Mathlib.Numerals.{add-one}
use native.Mathlib.Omega.{arith}
use borrow.Author.Tests.{eqb-true, eq-eqb, ne_eqb, leb-true}
use lib.Dec.{eqb, leb}
use lib.ListN.{length, drop, get_or, length-map, drop_of_length-le, get_or-map}
use lib.Seq.{drop-cons}
use Rattle.std.proofs.lemmas.List.{get_or_default}
use Rattle.nets.specs.Bits.{Bits}
use Rattle.nets.specs.Lists.{any_of, within}
use Rattle.nets.specs.Networks.{width, net_bits, no_net, in_range, refusal_of, bits_left, no_bits, start_of, prefix_as}
use Rattle.nets.specs.Refusals.{number, answered}
use Rattle.nets.specs.declared.Net.{Net}
use Rattle.nets.specs.declared.PrefixBits.{PrefixBits}
use Rattle.nets.specs.declared.Refusal.{Refusal}
use Rattle.nets.proofs.Strings.{and_left, and_right}
use Rattle.nets.proofs.TrieOf.{is_list-within}
use Rattle.nets.proofs.Handing.{length-bits_left}
use Rattle.inner_nets.proofs.InnerLists.{is_list-inner}
use Rattle.nets.proofs.Numbers.{start_of-few, bits_left-start}
use Rattle.nets.proofs.Answers.{number-some, prefix-bits, prefix-refused}
use Rattle.inner_nets.specs.Inner.{overlap, overlaps_one, overlaps, inner_nets4, inner_nets6, inner_nets, inner, is_public}
use Rattle.std.specs.Prelude.{Result, Ok, Err, IsOk}
use borrow.Author.Rules.{rules}

module _ (f : ℕ) where
  pub inner_nets-4 : f ≡ 4 → inner_nets f ≡ inner_nets4
  unfolding inner_nets
  inner_nets-4 e = rw (eq-eqb f 4 e)

  pub inner_nets-6 : (f ≡ 4 → ⊥) → inner_nets f ≡ inner_nets6
  unfolding inner_nets
  inner_nets-6 e = rw (ne_eqb f 4 e)

-- Each is a network.
every : List Net → Bool
every [] = true
every (n ∷ l) = eqb (refusal_of n) 0 && every l

every-at : (l : List Net) (i : ℕ) → every l ≡ true → i < length l → refusal_of (get_or l i no_net) ≡ 0
unfolding every
every-at [] i h g = absurd (omega arith)
every-at (n ∷ l) zero h g = eqb-true (refusal_of n) 0 (and_left (eqb (refusal_of n) 0) (every l) h)
every-at (n ∷ l) (suc i) h g = every-at l i (and_right (eqb (refusal_of n) 0) (every l) h) (omega arith)

every-inner : (f : ℕ) → every (inner_nets f) ≡ true
unfolding every inner_nets inner_nets4 inner_nets6 refusal_of in_range width
every-inner f = go (eqb f 4)
  where
    go : (x : Bool) → every (cond x inner_nets4 inner_nets6) ≡ true
    go true = refl
    go false = refl

within-at : (w : ℕ) (l : List Bits) (i : ℕ) → within w l ≡ true → length (get_or l i []) ≤ w
within-at w [] i h = omega arith
within-at w (p ∷ l) zero h = leb-true (length p) w (and_left (leb (length p) w) (within w l) h)
within-at w (p ∷ l) (suc i) h = within-at w l i (and_right (leb (length p) w) (within w l) h)

short : (f i : ℕ) (s : PrefixBits) → s.len ≤ 128 → bits_left s ≡ get_or (inner f) i [] → s.len ≤ width f
short f i s h e = omega (arith, length-bits_left s h, ap length e, within-at (width f) (inner f) i (is_list-within (width f) (inner f) (is_list-inner f)))

-- The network at number k, whose bits are asked for: it has some, s.
pub record Turn (f k : ℕ) (s : PrefixBits) : Type 0 where
  pub within : k < length (inner_nets f)
  pub few : s.len ≤ 128
  pub fits : s.len ≤ width f
  pub here : bits_left s ≡ get_or (inner f) k []

IsOk-some : (p : Result PrefixBits Refusal) → ((x : Refusal) → p ≡ Err x → ⊥) → IsOk p
IsOk-some (Ok s) h = search rules
IsOk-some (Err x) h = absurd (h x refl)

module _ (f k : ℕ) (xs : List Net) (d : Net) (p : Result PrefixBits Refusal) (eq : xs ≡ inner_nets f) (lt : k < length xs)
    (e : prefix_as p ≡ answered (refusal_of (get_or xs k d)) no_bits (start_of (get_or xs k d))) where
  same : get_or xs k d ≡ get_or (inner_nets f) k no_net
  same = get_or_default xs k d no_net lt ∙ ap (λ l. get_or l k no_net) eq

  inside : k < length (inner_nets f)
  inside = rw eq at lt

  some : (x : Refusal) → p ≡ Err x → ⊥
  some x h = number-some x (sym (prefix-refused _ p x e h) ∙ ap refusal_of same ∙ every-at (inner_nets f) k (every-inner f) inside)

  pub turn-ok : IsOk p
  turn-ok = IsOk-some p some

  pub turn : (s : PrefixBits) → p ≡ Ok s → Turn f k s
  unfolding inner net_bits
  turn s h =
      let n = get_or xs k d in
      let (z, q) = prefix-bits n p s e h in
      let few : s.len ≤ 128 = rw q (start_of-few n z) in
      let here : bits_left s ≡ get_or (inner f) k [] = rw q (bits_left-start n z ∙ ap net_bits same ∙ sym (get_or-map net_bits (inner_nets f) k no_net)) in
      record { within = inside; few = few; fits = short f k s few here; here = here }

-- A search through the inner networks for one of which g holds: those from number k on are left.
pub record Left (f : ℕ) (g : Bits → Bool) (k : ℕ) : Type 0 where
  pub same : any_of g (inner f) ≡ any_of g (drop k (inner f))

pub left-start : (f : ℕ) (g : Bits → Bool) → Left f g 0
left-start f g = record { same = refl }

count : (f : ℕ) → length (inner f) ≡ length (inner_nets f)
unfolding inner
count f = length-map (inner_nets f) net_bits

module _ {f : ℕ} {g : Bits → Bool} {k : ℕ} (o : Left f g k) where
  pub left-done : {xs : List Net} → xs ≡ inner_nets f → length xs ≤ k → true ≡ not (any_of g (inner f))
  left-done e h =
      let past : length (inner f) ≤ k = omega (arith, count f, ap length e) in
      rw (o.same, drop_of_length-le (inner f) {i = k} past)

  module _ {s : PrefixBits} (u : Turn f k s) where
    next : any_of g (inner f) ≡ (g (bits_left s) || any_of g (drop (suc k) (inner f)))
    next = o.same ∙ rw (drop-cons (inner f) k [] (omega (arith, count f, u.within)), u.here)

    pub left-found : g (bits_left s) ≡ true → false ≡ not (any_of g (inner f))
    left-found e = rw (next, e)

    pub left-next : g (bits_left s) ≡ false → Left f g (k + 1)
    left-next e = record { same = rw add-one (next ∙ rw e) }

-- Whether a list is public, by such a search.
pub is_public-none : (f : ℕ) (l : List Bits) (r : Bool) → r ≡ not (any_of (overlaps_one l) (inner f)) → r ≡ is_public f l
unfolding is_public overlaps
is_public-none f l r e = e

pub overlaps_one-of : (p q : Bits) (r : Bool) → r ≡ overlap p q → r ≡ overlaps_one (p ∷ []) q
overlaps_one-of p q r e = e ∙ sym (or-false (overlap p q))

-- Of a network.
module _ (n : Net) (p : Result PrefixBits Refusal) (e : prefix_as p ≡ answered (refusal_of n) no_bits (start_of n)) where
  pub net-few : (s : PrefixBits) → p ≡ Ok s → s.len ≤ 128
  net-few s h = let (z, q) = prefix-bits n p s e h in rw q (start_of-few n z)

  pub net-clear : (s : PrefixBits) → p ≡ Ok s → (r : Bool) → r ≡ is_public n.family (bits_left s ∷ []) → r ≡ (eqb (refusal_of n) 0 && is_public n.family (net_bits n ∷ []))
  net-clear s h r k = let (z, q) = prefix-bits n p s e h in k ∙ rw (eq-eqb (refusal_of n) 0 z, q, bits_left-start n z)

  pub net-refused : (x : Refusal) → p ≡ Err x → false ≡ (eqb (refusal_of n) 0 && is_public n.family (net_bits n ∷ []))
  net-refused x h = rw (prefix-refused n p x e h, ne_eqb (number x) 0 (number-some x))

-- and where the numbers are known to be a network
pub is_public-net : (n : Net) (r : Bool) → refusal_of n ≡ 0 → r ≡ (eqb (refusal_of n) 0 && is_public n.family (net_bits n ∷ [])) → r ≡ is_public n.family (net_bits n ∷ [])
is_public-net n r z e = e ∙ rw (eq-eqb (refusal_of n) 0 z)
