-- A file poured into a whole trie of the second form, in place: what cutting left of it stands at the low end, and what it becomes is written over all of
-- that. Assumes nothing.
use mathlib.Core.Bool.{Bool, true, ◌&&◌, false≢true, beq as same}
use mathlib.Core.List.{List, [], append-nil}
use mathlib.Core.Path.{◌≡◌, ◌∙◌}
use Prim.Native.Nat.{ℕ, ◌+◌, ◌-◌, ◌*◌, ◌≤◌}
use native.Mathlib.Nat.{mul-le-mul_left}
use native.Mathlib.Omega.{arith}
use lib.ListN.{length}
use Rattle.nets.specs.Bits.{Bits}
use Rattle.nets.specs.Tries.{Trie, none, node, trie_of, bare, levels}
use Rattle.nets.proofs.Strings.{and_left, and_right}
use Rattle.nodes.specs.Words.{put}
use Rattle.nodes.proofs.Has.{put_has}
use Rattle.branch_points.specs.KeptTries.{kept_size}
use Rattle.kept_nodes.specs.Words.{stride, kept_enc, spot}
use Rattle.kept_nodes.specs.Parse.{KeptRoom}
use Rattle.kept_nodes.proofs.Places.{spot_on, spot-end, length-kept_enc, room-put}
use Rattle.kept_steps.specs.Segments.{KeptSegment, KeptSpliced}
use Rattle.trie_pour.specs.Pour.{pour_t}
use Rattle.kept_sieve.specs.Spare.{spare_t}
use Rattle.kept_sieve.specs.Marks.{is_among}
use Rattle.kept_sieve.proofs.Spares.{pour-spare, cut-spare, size-spare, spare-among}
use Rattle.setfile_pour.proofs.Pouring.{put-inside}
use Rattle.kept_build.specs.Building.{Grown}
use Rattle.kept_pour.specs.Pouring.{Refills, Pours}

pub spliced : {f h : ℕ} {w v : List ℕ} {b i r : ℕ} {p : Bits} {t : Trie} → h ≡ f → KeptSpliced h w v b i r p t [] → KeptSpliced f w v b i r p t []
spliced e k = rw e at k

-- What is left is no deeper.
levels-among : (t s : Trie) → is_among s t ≡ true → levels s ≤ levels t
unfolding is_among levels
levels-among t none e = omega arith
levels-among none (node a c) e = absurd (false≢true e)
levels-among (node l r) (node a c) e =
    let h = and_right (same (bare a c) (bare l r)) (is_among a l && is_among c r) e in
    omega (arith, levels-among l a (and_left (is_among a l) (is_among c r) h), levels-among r c (and_right (is_among a l) (is_among c r) h))

module _ {f : ℕ} {w : List ℕ} {b n i e g : ℕ} {d : List ℕ} {x : Bool} {l : List Bits} {t : Trie} (k : Pours f w b n i e g d x l t) {w₁ : List ℕ} {m : ℕ}
    (c : KeptSpliced f w w₁ b i m [] (spare_t x (trie_of l) t) []) where
  abbrev rest : Trie
  rest = spare_t x (trie_of l) t

  abbrev result : Trie
  result = pour_t x (trie_of l) t

  abbrev here : KeptSegment f w b n i e e [] t []
  here = k.source.here

  fits : spot f b i + stride f * kept_size result ≤ length w
  fits = rw (spot_on f b i (kept_size result) here.one, ← k.end) (omega (arith, spot-end f b n g k.last, here.room.long))

  less : stride f * kept_size rest ≤ stride f * kept_size result
  less = mul-le-mul_left (stride f) (size-spare x (trie_of l) t)

  wrote : w₁ ≡ put w (spot f b i) (kept_enc f [] rest)
  wrote = rw (append-nil (kept_enc f [] rest)) at c.wrote

  room : KeptRoom f w₁ b n
  room = rw wrote (room-put (spot f b i) (kept_enc f [] rest) here.room)

  left : KeptSegment f w₁ b n i m m [] rest []
  left = record {
    room = room;
    has = rw (append-nil (kept_enc f [] rest), wrote) (put_has w (spot f b i) (kept_enc f [] rest) (omega (arith, length-kept_enc f [] rest, fits, less)));
    deep = omega (arith, here.deep, levels-among t rest (spare-among x (trie_of l) t));
    one = here.one;
    end = c.end;
    tail = omega arith;
    used = let z : m - m ≡ 0 = omega arith in rw z (omega arith);
    last = omega (arith, c.end, k.end, k.last, size-spare x (trie_of l) t);
  }

  pub pour-refills : Refills f w₁ b n i m g d x l rest
  pour-refills = record {
    source = record { here = rw (cut-spare x (trie_of l) t) left; reads = k.source.reads };
    room = rw (pour-spare x (trie_of l) t) (record {
      family = room.family;
      low = room.low;
      few = omega (arith, k.last, room.few);
      long = omega (arith, spot-end f b n g k.last, room.long);
      fits = omega (arith, k.end, here.one);
    });
    ahead = rw (pour-spare x (trie_of l) t) (omega (arith, k.end));
  }

  pub poured : {v : List ℕ} {r : ℕ} → Grown f w₁ v b g [] (pour_t x (trie_of l) rest) r → v ≡ put w (spot f b i) (kept_enc f [] result)
  poured a =
      let y : g - kept_size result ≡ i = omega (arith, k.end) in
      rw (pour-spare x (trie_of l) t, y, wrote) at a.wrote
      ∙ put-inside w (spot f b i) (spot f b i) (kept_enc f [] result) (kept_enc f [] rest) (omega arith)
      (omega (arith, length-kept_enc f [] rest, length-kept_enc f [] result, less))
