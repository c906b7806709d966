-- The halves of a trie that is no leaf, each where it stands, on the side of a bit. Assumes nothing.
use mathlib.Core.Bool.{Bool, true, false}
use mathlib.Core.List.{List, ◌++◌, append_assoc}
use mathlib.Core.Path.{◌≡◌, ap, ◌∙◌}
use Prim.Native.Nat.{ℕ, ◌+◌, ◌-◌, ◌*◌, ◌≤◌}
use native.Mathlib.Nat.{mul-add}
use native.Mathlib.Omega.{arith}
use lib.ListN.{length, length-append}
use Rattle.nets.specs.Bits.{Bits}
use Rattle.nets.specs.Tries.{Trie, side, levels}
use Rattle.nodes.specs.Words.{Has}
use Rattle.nodes.proofs.Has.{has-back, has-at}
use Rattle.trie_paths.specs.Spans.{snoc}
use Rattle.trie_paths.proofs.Paths.{length-snoc}
use Rattle.branch_points.specs.KeptTries.{kept, kept_size}
use Rattle.kept_nodes.specs.Words.{stride, distance, own_words, kept_enc, spot}
use Rattle.kept_nodes.proofs.Places.{spot_on, length-own, length-kept_enc}
use Rattle.kept_steps.specs.Segments.{KeptSegment, own_size, KeptBranch}

module _ {f : ℕ} {w : List ℕ} {b n i e u a m : ℕ} {p : Bits} {t : Trie} {rest : List ℕ} (g : KeptSegment f w b n i e u p t rest) (k : KeptBranch i a m t) where
  abbrev pub own : List ℕ
  own = own_words (kept k.l k.r) f p (distance k.l k.r)

  abbrev pub first_words : List ℕ
  first_words = kept_enc f (snoc p false) k.l

  abbrev pub second_words : List ℕ
  second_words = kept_enc f (snoc p true) k.r

  pub words_are : kept_enc f p t ++ rest ≡ own ++ (second_words ++ (first_words ++ rest))
  unfolding kept_enc
  words_are = rw k.is (append_assoc own (second_words ++ first_words) rest ∙ ap (λ x. own ++ x) (append_assoc second_words first_words rest))

  pub size_is : kept_size t ≡ own_size k.l k.r + kept_size k.l + kept_size k.r
  unfolding kept_size
  size_is = rw k.is

  -- the second half, with the first behind it
  has-second : Has w (spot f b a) (second_words ++ (first_words ++ rest))
  has-second =
      let h = has-back own (second_words ++ (first_words ++ rest)) (rw words_are at g.has) in
      has-at (rw (length-own (kept k.l k.r) f p (distance k.l k.r), k.begins) (spot_on f b i (own_size k.l k.r) g.one)) h

  has_first : Has w (spot f b m) (first_words ++ rest)
  has_first = has-at (rw (length-kept_enc f (snoc p true) k.r, k.middle) (spot_on f b a (kept_size k.r) (omega (arith, k.begins, g.one)))) (has-back second_words (first_words ++ rest) has-second)

  levels-both : (levels k.l + 1 ≤ levels t) × (levels k.r + 1 ≤ levels t)
  unfolding levels
  levels-both = rw k.is (omega arith, omega arith)

  rest-first : length (first_words ++ rest) ≡ stride f * (u - m)
  rest-first =
      let q : u - m ≡ kept_size k.l + (u - e) = omega (arith, g.end, g.tail, k.begins, k.middle, size_is) in
      rw (q, mul-add (stride f) (kept_size k.l) (u - e)) (length-append first_words rest ∙ rw (length-kept_enc f (snoc p false) k.l, g.used))

  -- The half on the side of the bit c, what is beside it, and what stands behind it.
  abbrev pub inward : Bool → Trie
  inward c = side c k.l k.r

  abbrev pub beside : Bool → Trie
  beside c = side c k.r k.l

  abbrev pub behind : Bool → List ℕ
  behind c = side c rest (first_words ++ rest)

  pub half-segment : (c : Bool) → KeptSegment f w b n (side c m a) (side c e m) u (snoc p c) (inward c) (behind c)
  half-segment false = record {
    room = g.room;
    has = has_first;
    deep = omega (arith, g.deep, levels-both, length-snoc p false);
    one = omega (arith, k.begins, k.middle, g.one);
    end = omega (arith, g.end, k.begins, k.middle, size_is);
    tail = g.tail;
    used = g.used;
    last = g.last;
  }
  half-segment true = record {
    room = g.room;
    has = has-second;
    deep = omega (arith, g.deep, levels-both, length-snoc p true);
    one = omega (arith, k.begins, g.one);
    end = k.middle;
    tail = omega (arith, g.end, g.tail, k.begins, k.middle, size_is);
    used = rest-first;
    last = g.last;
  }
