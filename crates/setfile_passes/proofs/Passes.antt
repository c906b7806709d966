-- A trie and the networks of a file below the same path, and below its halves: what the trie becomes is made of what its halves become. Assumes nothing.
use mathlib.Core.Bool.{Bool, true, false, ◌||◌, false≢true}
use mathlib.Core.List.{List}
use mathlib.Core.Path.{◌≡◌, refl, ap, sym, ◌∙◌}
use Prim.Native.Nat.{ℕ, ◌+◌, ◌*◌, ◌<◌}
use native.Mathlib.Omega.{arith}
use lib.ListN.{length}
use Rattle.nets.specs.Bits.{Bits}
use Rattle.nets.specs.Tries.{Trie, size, is_leaf, glue}
use Rattle.nets.specs.TrieOps.{half}
use Rattle.trie_paths.specs.Spans.{snoc}
use Rattle.trie_pour.specs.Pour.{flat_t, is_all, pour_t}
use Rattle.trie_pour.specs.Parts.{Split, Says, Room}
use Rattle.trie_pour.specs.declared.Turn.TheVariants.{Halves}
use Rattle.trie_pour.proofs.Pour.{pour-nothing, pour-flat, pour-halves, pour-size, half-size, glue-sum}
use Rattle.setfile_order.specs.declared.Head.{Head}
use Rattle.setfile_below.specs.declared.Below.{Below}
use Rattle.setfile_below.specs.Stream.{Comes, At}
use Rattle.setfile_below.proofs.Streams.{at_some, at-nothing, Parted, parted, onto, later, Halved, Seconded, at_first, at_second}
use Rattle.setfile_passes.specs.Passing.{Counts}

or-none : (y z : Bool) → (y || z) ≡ false → (y ≡ false) × (z ≡ false)
or-none true z e = absurd (false≢true (sym e))
or-none false z e = (refl, e)

-- Both halves are gone into.
pub record Opened (w : List ℕ) (b i e : ℕ) (x : Bool) (d c : List ℕ) (s : Below) (q p : Bits) (u : Trie) (ms : List Bits) (t : Trie) (a m z : ℕ) : Type 0 where
  pub part : Parted d c s q p u ms
  pub split : Split w b i e t a m z
  pub apart : is_all x t ≡ false

module _ {d c : List ℕ} {s : Below} {q p : Bits} {u : Trie} {ms : List Bits} (g : At d c s q p u ms) (h : s.some ≡ true) (y : Bool) (k : y ≡ is_leaf u) where
  pub opened : {w : List ℕ} {b i e : ℕ} (x : Bool) (t : Trie) (a m z : ℕ) → Says w b i e x y t (Halves a m z) → Opened w b i e x d c s q p u ms t a m z
  opened x t a m z v = let o = or-none y (is_all x t) v.0 in record { part = parted g h (sym k ∙ o.0); split = v.1; apart = o.1 }

  pub settled : (x : Bool) (t : Trie) → (y || is_all x t) ≡ true → pour_t x u t ≡ flat_t x
  settled x t v = pour-flat x u t (at_some g h) (rw k at v)

module _ {w : List ℕ} {b i e : ℕ} {x : Bool} {d c : List ℕ} {s : Below} {q p : Bits} {u : Trie} {ms : List Bits} {t : Trie} {a m z : ℕ} (o : Opened w b i e x d c s q p u ms t a m z) where
  -- the first and the second half of the result
  abbrev pub one : Trie
  one = pour_t x o.part.l (half false t)

  abbrev pub two : Trie
  two = pour_t x o.part.r (half true t)

  pub opened-pour : pour_t x u t ≡ glue false one two
  opened-pour = rw o.part.is (pour-halves x o.part.l o.part.r t o.part.inner o.apart)

  pub opened-size : size u ≡ 1 + size o.part.l + size o.part.r
  unfolding size
  opened-size = rw o.part.is

  module _ (few : size t + 2 * size u < 4611686018427387904) where
    few-left : size (half false t) + 2 * size o.part.l < 4611686018427387904
    few-left = omega (arith, half-size false t, opened-size)

    few-right : size (half true t) + 2 * size o.part.r < 4611686018427387904
    few-right = omega (arith, half-size true t, opened-size)

    pub count-sum : size one + size two < 4611686018427387904
    count-sum = omega (arith, glue-sum one two, ap size opened-pour, pour-size x u t)

    pub count_left : (f : Below) → Halved s f → Counts w b a m d c f q (snoc p false) o.part.l (later p o.part.r ms) (half false t)
    count_left f k = record { part = o.split.left; at = at_first o.part f k; few = few-left }

    module _ (f : ℕ) (same : f ≡ s.family) {c' : List ℕ} {h : Head} (k : Comes d f c' h (onto q p o.part.l) (later p o.part.r ms)) where
      pub count-right : (y : Below) → Seconded s h y → Counts w b m z d c' y (onto q p o.part.l) (snoc p true) o.part.r ms (half true t)
      count-right y j = record { part = o.split.right; at = at_second o.part f same k y j; few = few-right }

-- Where nothing of the file is below the path, the trie stays.
pub kept : {d c : List ℕ} {s : Below} {q p : Bits} {u : Trie} {ms : List Bits} → At d c s q p u ms → s.some ≡ false → (x : Bool) (t : Trie) → pour_t x u t ≡ t
kept a h x t = rw (at-nothing a h) (pour-nothing x t)

-- Room does not depend on the words but on how many they are.
pub room_of : {w v : List ℕ} {b o n : ℕ} → length v ≡ length w → Room w b o n → Room v b o n
room_of h a = record { one = a.one; few = a.few; fits = λ z. let f = a.fits z in (rw h f.0, f.1) }
