-- Both halves are gone into, the first before the second, as the stream has them: what is asked of each, and that what is left of them makes what is left of
-- the whole. Assumes nothing.
use mathlib.Core.Bool.{Bool, true, false}
use mathlib.Core.List.{List, [], ◌++◌, append-nil}
use mathlib.Core.Path.{◌≡◌, sym, ap, ◌∙◌}
use Prim.Native.Nat.{ℕ, ◌+◌, ◌*◌, ◌≤◌, ◌<◌}
use native.Mathlib.Omega.{arith}
use lib.ListN.{length}
use Rattle.nets.specs.Bits.{Bits}
use Rattle.nets.specs.Tries.{Trie, none, leaf, size, is_leaf, glue}
use Rattle.nodes.specs.Words.{put}
use Rattle.nodes.proofs.Has.{has-put, put_has, has_same}
use Rattle.nodes.proofs.Tries.{size-node}
use Rattle.trie_paths.specs.Spans.{snoc}
use Rattle.trie_paths.proofs.RowForm.{put-over}
use Rattle.branch_points.specs.KeptTries.{kept_size}
use Rattle.branch_points.proofs.Sizes.{kept_size-none}
use Rattle.kept_nodes.specs.Words.{kept_enc, spot}
use Rattle.kept_nodes.proofs.Places.{spot_on, spot-le, room-put, length-kept_enc, kept_enc-none}
use Rattle.kept_steps.specs.Segments.{KeptSegment, KeptSpliced, KeptBranch}
use Rattle.kept_steps.proofs.Halves.{half-segment}
use Rattle.setfile_below.specs.declared.Below.{Below}
use Rattle.setfile_below.specs.Stream.{Comes}
use Rattle.setfile_below.proofs.Streams.{Parted, parted, onto, later, Halved, Seconded, at_first, at_second}
use Rattle.setfile_order.specs.declared.Head.{Head}
use Rattle.kept_sieve.specs.Spare.{spare_t}
use Rattle.kept_sieve.specs.Marks.{mark_enc, Sieves, Sieved}
use Rattle.kept_sieve.proofs.Spares.{spare-among}
use Rattle.kept_sieve.proofs.Marked.{length-mark, among-size}
use Rattle.kept_sieve.proofs.Sieving.{kept_size-zero}
use Rattle.kept_cut.specs.Cuts.{Cuts, Left, Closing}
use Rattle.kept_cut.proofs.Closed.{alone, stands, none-at, some_at}
use Rattle.kept_cut.proofs.Steps.{both_is}

-- A trie stays where something is written behind it.
segment-put : {f : ℕ} {w : List ℕ} {b n i e : ℕ} {p : Bits} {t : Trie} (k : ℕ) (ws : List ℕ) → KeptSegment f w b n i e e p t [] → e ≤ k
    → KeptSegment f (put w (spot f b k) ws) b n i e e p t []
segment-put {f} {w} {b} {n} {i} {e} {p} {t} k ws g le = record {
  room = room-put (spot f b k) ws g.room;
  has = has-put (spot f b k) ws g.has (λ j x1 x2 x3 x4. omega (arith, ends, spot-le f b e k le));
  deep = g.deep;
  one = g.one;
  end = g.end;
  tail = g.tail;
  used = g.used;
  last = g.last;
}
  where
    ends : spot f b i + length (kept_enc f p t ++ []) ≡ spot f b e
    ends = rw (append-nil (kept_enc f p t), length-kept_enc f p t, g.end) (spot_on f b i (kept_size t) g.one)

-- by the family of the stream
segment-of : {f h : ℕ} {w : List ℕ} {b n i e : ℕ} {p : Bits} {t : Trie} → h ≡ f → KeptSegment f w b n i e e p t [] → KeptSegment h w b n i e e p t []
segment-of e g = rw e g

left-of : {f h : ℕ} {w v : List ℕ} {b i : ℕ} {p : Bits} {t s : Trie} {r : Bool} → f ≡ h → Left f w v b i p t s r → Left h w v b i p t s r
left-of e g = rw e at g

pub record Fork (w : List ℕ) (b n i e : ℕ) (d c : List ℕ) (s : Below) (q p : Bits) (u : Trie) (ms : List Bits) (t : Trie) (a m : ℕ) : Type 0 where
  pub cuts : Cuts w b n i e d c s q p u ms t
  pub part : Parted d c s q p u ms
  pub branch : KeptBranch i a m t

pub fork : {w : List ℕ} {b n i e : ℕ} {d c : List ℕ} {s : Below} {q p : Bits} {u : Trie} {ms : List Bits} {t : Trie} {a m : ℕ}
    → Cuts w b n i e d c s q p u ms t → s.some ≡ true
    → (is_leaf u ≡ false) × KeptBranch i a m t → Fork w b n i e d c s q p u ms t a m
fork g h k = record { cuts = g; part = parted g.at h k.0; branch = k.1 }

module _ {w : List ℕ} {b n i e : ℕ} {d c : List ℕ} {s : Below} {q p : Bits} {u : Trie} {ms : List Bits} {t : Trie} {a m : ℕ}
    (g : Fork w b n i e d c s q p u ms t a m) where
  few-halves : (size leaf + 2 * size g.part.l < 4611686018427387904) × (size leaf + 2 * size g.part.r < 4611686018427387904)
  few-halves =
      let k : size u ≡ 1 + size g.part.l + size g.part.r = ap size g.part.is ∙ size-node g.part.l g.part.r in
      (omega (arith, g.cuts.few), omega (arith, g.cuts.few))

  pub first-cuts : (f : Below) → Halved s f → Cuts w b n m e d c f q (snoc p false) g.part.l (later p g.part.r ms) g.branch.l
  first-cuts f k = record { here = segment-of k.0 (half-segment g.cuts.here g.branch false); at = at_first g.part f k; few = few-halves.0 }

  module _ (x : Bool) {k₁ : ℕ} (e₁ : k₁ ≡ s.family) {w₁ : List ℕ} {r₁ : Bool}
      (l : Left k₁ w w₁ b m (snoc p false) g.branch.l (spare_t x g.part.l g.branch.l) r₁) where
    first-left : Left s.family w w₁ b m (snoc p false) g.branch.l (spare_t x g.part.l g.branch.l) r₁
    first-left = left-of e₁ l

    second-here : KeptSegment s.family w₁ b n a m m (snoc p true) g.branch.r []
    second-here = rw first-left.wrote (segment-put m _ (alone (half-segment g.cuts.here g.branch true)) (omega arith))

    pub second-cuts : {c' : List ℕ} {h : Head} → Comes d k₁ c' h (onto q p g.part.l) (later p g.part.r ms) → (y : Below) → Seconded s h y
        → Cuts w₁ b n a m d c' y (onto q p g.part.l) (snoc p true) g.part.r ms g.branch.r
    second-cuts j y v = record { here = segment-of v.0 second-here; at = at_second g.part k₁ e₁ j y v; few = few-halves.1 }

    module _ {k₂ : ℕ} (e₂ : k₂ ≡ s.family) {w₂ : List ℕ} {r₂ : Bool} (z : Left k₂ w₁ w₂ b a (snoc p true) g.branch.r
        (spare_t x g.part.r g.branch.r) r₂) where
      pub closing : Closing s.family w w₂ b n i e a m p t (spare_t x g.part.l g.branch.l) (spare_t x g.part.r g.branch.r)
      closing = record {
        here = g.cuts.here;
        branch = g.branch;
        wrote = (left-of e₂ z).wrote
            ∙ ap (λ y. put y (spot s.family b a) (mark_enc s.family (snoc p true) g.branch.r (spare_t x g.part.r g.branch.r)))
            first-left.wrote;
      }

      pub fork-left : {v : List ℕ} {y : Bool} → Left s.family w v b i p t
          (glue false (spare_t x g.part.l g.branch.l) (spare_t x g.part.r g.branch.r)) y
          → Left s.family w v b i p t (spare_t x u t) y
      fork-left j = rw (both_is x g.part.l g.part.r g.branch.l g.branch.r g.part.is g.branch.is g.part.inner g.branch.inner) j

-- The two passes together.
module _ {w : List ℕ} {b n i e : ℕ} {d c : List ℕ} {s : Below} {q p : Bits} {u : Trie} {ms : List Bits} {t : Trie} (g : Cuts w b n i e d c s q p u ms t)
    (x : Bool) where
  abbrev f : ℕ
  f = s.family

  module _ {v : List ℕ} {r : Bool} (l : Left f w v b i p t (spare_t x u t) r) where
    pub empty-spliced : i ≡ e → KeptSpliced f w v b i e p (spare_t x u t) []
    unfolding mark_enc
    empty-spliced z =
        let k = none-at g.here z in
        let y : spare_t x u t ≡ none = kept_size-none (spare_t x u t) (omega
        (arith, among-size t (spare_t x u t) (spare-among x u t), ap kept_size k, kept_size-zero)) in
        let j : mark_enc f p t (spare_t x u t) ≡ [] = ap (λ t. mark_enc f p t (spare_t x u t)) k in
        let h : kept_enc f p (spare_t x u t) ++ [] ≡ [] = append-nil (kept_enc f p (spare_t x u t)) ∙ ap (kept_enc f p) y ∙ kept_enc-none f p in
        record { wrote = l.wrote ∙ ap (put w (spot f b i)) (j ∙ sym h); end = omega (arith, g.here.end, ap kept_size k, ap kept_size y) }

    pub sieve-asks : (i ≡ e → ⊥) → Sieves f v b n i e i p t (spare_t x u t)
    sieve-asks ne = rw l.wrote (record {
      room = room-put (spot f b i) _ g.here.room;
      has = put_has w (spot f b i) _ (rw (length-mark f p t (spare_t x u t)) (stands g.here).fits);
      deep = g.here.deep;
      some = some_at g.here ne;
      among = spare-among x u t;
      one = g.here.one;
      behind = omega arith;
      end = g.here.end;
      last = g.here.last;
    })

    pub sieved-spliced : {y : List ℕ} {z : ℕ} → Sieved f v y b i i z p t (spare_t x u t) → KeptSpliced f w y b i z p (spare_t x u t) []
    sieved-spliced h =
        let k : put v (spot f b i) (kept_enc f p t) ≡ w =
        rw l.wrote (put-over w (spot f b i) (mark_enc f p t (spare_t x u t)) (kept_enc f p t) (length-mark f p t (spare_t x u t))
        ∙ has_same (stands g.here)) in
        record { wrote = h.wrote ∙ rw (k, append-nil (kept_enc f p (spare_t x u t))); end = h.end }
