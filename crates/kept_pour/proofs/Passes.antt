-- A trie of the second form and the networks of a file below the same path, and below its halves: what the trie becomes is made of what its halves become.
-- Assumes nothing.
use mathlib.Core.Bool.{Bool, true, false, ◌||◌, false≢true}
use mathlib.Core.List.{List}
use mathlib.Core.Path.{◌≡◌, refl, sym, ◌∙◌}
use Prim.Native.Nat.{ℕ, ◌+◌, ◌≤◌, ◌<◌}
use native.Mathlib.Omega.{arith}
use lib.ListN.{length}
use Rattle.nets.specs.Bits.{Bits}
use Rattle.nets.specs.Tries.{Trie, none, node, bare, is_leaf, glue, levels}
use Rattle.nets.specs.TrieOps.{half}
use Rattle.nets.specs.Networks.{width}
use Rattle.trie_paths.specs.Spans.{snoc}
use Rattle.trie_pour.specs.Pour.{is_all, pour_t}
use Rattle.trie_pour.proofs.Pour.{pour-halves}
use Rattle.branch_points.specs.KeptTries.{kept_size}
use Rattle.branch_points.proofs.Sizes.{kept_size-halves}
use Rattle.setfile_order.specs.declared.Head.{Head}
use Rattle.setfile_below.specs.declared.Below.{Below}
use Rattle.setfile_below.specs.Stream.{Comes, At}
use Rattle.setfile_below.proofs.Streams.{Parted, parted, onto, later, Halved, Seconded, at_first, at_second}
use Rattle.kept_build.specs.Building.{few}
use Rattle.kept_pour.specs.declared.parts.Turn.TheVariants.{Halves}
use Rattle.kept_pour.specs.Parts.{Split, Says}
use Rattle.kept_pour.specs.Passing.{Counts}
use Rattle.kept_pour.proofs.Sizes.{glue-sum, pour-fresh}

or-none : (y z : Bool) → (y || z) ≡ false → (y ≡ false) × (z ≡ false)
or-none true z e = absurd (false≢true (sym e))
or-none false z e = (refl, e)

-- Networks come into an empty trie.
pub fresh : {x : Bool} {t : Trie} (u : Trie) → (x ≡ true) × (t ≡ none) → pour_t x u t ≡ u
fresh u k = rw (k.0, k.1) (pour-fresh u)

-- Both halves are gone into.
pub record Opened (w : List ℕ) (b n e : ℕ) (x : Bool) (d c : List ℕ) (s : Below) (q p : Bits) (u : Trie) (ms : List Bits) (t : Trie) (a m z : ℕ) : Type 0 where
  pub part : Parted d c s q p u ms
  pub split : Split s.family w b n p e t a m z
  pub apart : is_all x t ≡ false

pub opened : {d c : List ℕ} {s : Below} {q p : Bits} {u : Trie} {ms : List Bits} → At d c s q p u ms → s.some ≡ true → {y : Bool} → y ≡ is_leaf u
    → {w : List ℕ} {b n e : ℕ} {x : Bool} {t : Trie} {a m z : ℕ} → Says s.family w b n p e x y t (Halves a m z)
    → Opened w b n e x d c s q p u ms t a m z
opened g h {y} k {x = x} {t = t} v = let o = or-none y (is_all x t) v.0 in record { part = parted g h (sym k ∙ o.0); split = v.1; apart = o.1 }

levels-two : (l r : Trie) → bare l r ≡ false → 2 ≤ levels (node l r)
unfolding levels
levels-two none none e = absurd (false≢true (sym e))
levels-two none (node x y) e = omega arith
levels-two (node x y) r e = omega arith

module _ {w : List ℕ} {b n e : ℕ} {x : Bool} {d c : List ℕ} {s : Below} {q p : Bits} {u : Trie} {ms : List Bits} {t : Trie} {a m z : ℕ}
    (o : Opened w b n e x d c s q p u ms t a m z) where
  -- the first and the second half of the result
  abbrev pub one : Trie
  one = pour_t x o.part.l (half false t)

  abbrev pub two : Trie
  two = pour_t x o.part.r (half true t)

  pub opened-pour : pour_t x u t ≡ glue false one two
  opened-pour = rw o.part.is (pour-halves x o.part.l o.part.r t o.part.inner o.apart)

  pub opened-sum : kept_size one + kept_size two ≤ kept_size (pour_t x u t)
  opened-sum = rw opened-pour (glue-sum one two)

  pub opened-few : kept_size o.part.l + kept_size o.part.r ≤ kept_size u
  opened-few = rw o.part.is (kept_size-halves o.part.l o.part.r)

  pub opened-short : length p < width s.family
  opened-short = omega (arith, o.part.at.under.deep, levels-two o.part.l o.part.r o.part.inner)

  module _ (file : few u) (all : few (pour_t x u t)) where
    pub count-first : (f : Below) → Halved s f → Counts w b n m z x d c f q (snoc p false) o.part.l (later p o.part.r ms) (half false t)
    count-first f k = record {
      part = rw k.0 o.split.first;
      at = at_first o.part f k;
      file = omega (arith, opened-few);
      all = omega (arith, opened-sum);
    }

    pub count-second : (f : ℕ) → f ≡ s.family → {c' : List ℕ} {h : Head} → Comes d f c' h (onto q p o.part.l) (later p o.part.r ms)
        → (y : Below) → Seconded s h y → Counts w b n a m x d c' y (onto q p o.part.l) (snoc p true) o.part.r ms (half true t)
    count-second f same k y j = record {
      part = rw j.0 o.split.second;
      at = at_second o.part f same k y j;
      file = omega (arith, opened-few);
      all = omega (arith, opened-sum);
    }
