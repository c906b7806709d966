-- Writing what a trie of the second form becomes, step by step. It has been cut, so that no part of it is larger than what it becomes: what is written never
-- begins before what is still to be read. Assumes nothing.
use mathlib.Core.Bool.{Bool, true, false, false≢true}
use mathlib.Core.List.{List, []}
use mathlib.Core.Path.{◌≡◌, ap, sym, ◌∙◌}
use Prim.Native.Nat.{ℕ, ◌+◌, ◌-◌, ◌≤◌, ◌<◌}
use native.Mathlib.Omega.{arith}
use Rattle.nets.specs.Bits.{Bits}
use Rattle.nets.specs.Tries.{Trie, node, glue}
use Rattle.nets.specs.TrieOps.{half}
use Rattle.nets.specs.Networks.{net_from}
use Rattle.nets.specs.declared.Net.{Net}
use Rattle.nodes.proofs.Put.{put-nil}
use Rattle.trie_paths.specs.Spans.{snoc}
use Rattle.trie_paths.proofs.Paths.{length-snoc}
use Rattle.trie_pour.specs.Pour.{flat_t, pour_t, cut_t}
use Rattle.trie_pour.proofs.Pour.{cut-inner}
use Rattle.branch_points.specs.KeptTries.{kept_size}
use Rattle.kept_nodes.specs.Words.{kept_enc, spot}
use Rattle.setfile_below.specs.declared.Below.{Below}
use Rattle.setfile_below.specs.Stream.{At}
use Rattle.kept_build.specs.Building.{Before, Grows, Grown}
use Rattle.kept_build.proofs.Growing.{before-put}
use Rattle.kept_build.proofs.Filling.{at-runs}
use Rattle.kept_pour.specs.Parts.{Keeps, Closing}
use Rattle.kept_pour.specs.Passing.{Fills}
use Rattle.kept_pour.proofs.Sizes.{glue-sum, glue-more, halves-inner, cut-grows}
use Rattle.kept_pour.proofs.Found.{part-stands, part-whole, part-put}
use Rattle.kept_pour.proofs.Passes.{Opened, one, two, opened-pour, opened-sum, opened-few, opened-short}

-- Where nothing of the file is below, where all becomes full or empty, and where the trie is empty.
module _ {f : ℕ} {w : List ℕ} {b n i e g : ℕ} {x : Bool} {p : Bits} {u t : Trie} (k : Fills f w b n i e g x p u t) where
  pub fill-keeps : pour_t x u t ≡ t → Keeps f w b n p i e g t
  fill-keeps h = record { part = k.part; room = rw (ap kept_size h) at k.room }

  pub fill-room : pour_t x u t ≡ flat_t x → Before f w b g (kept_size (flat_t x))
  fill-room h = rw (ap kept_size h) at k.room

pub fill-grows : {w : List ℕ} {b n i e g : ℕ} {x : Bool} {d c : List ℕ} {s : Below} {q p : Bits} {u : Trie} {ms : List Bits} {t : Trie}
    → Fills s.family w b n i e g x p u t → pour_t x u t ≡ u → At d c s q p u ms → s.some ≡ true → Grows s.family w b g s.head s.depth d c q p u ms
fill-grows k h a z = record { runs = at-runs a z; room = rw (ap kept_size h) at k.room }

pub fill-as : {f : ℕ} {w v : List ℕ} {b g r : ℕ} {p : Bits} {y z : Trie} → y ≡ z → Grown f w v b g p z r → Grown f w v b g p y r
fill-as h k = rw h k

before-less : {f : ℕ} {w : List ℕ} {b e k : ℕ} (o m : ℕ) → Before f w b e k → o ≤ e → m < o → Before f w b o m
before-less {f} {w} {b} o m g le lt = rw (put-nil w 0) at (before-put 0 [] o m g le lt)

-- The same family by another name.
pub of-family : {f h : ℕ} {w v : List ℕ} {b g r : ℕ} {p : Bits} {t : Trie} → f ≡ h → Grown f w v b g p t r → Grown h w v b g p t r
of-family e k = rw e at k

pub path-of : {f h : ℕ} {s : Net} (p : Bits) → h ≡ f → s ≡ net_from f p → s ≡ net_from h p
path-of p e k = rw (← e) at k

-- The halves.
module _ {w : List ℕ} {b n i e g : ℕ} {x : Bool} {d c : List ℕ} {s : Below} {q p : Bits} {u : Trie} {ms : List Bits} {t : Trie} {a m z : ℕ}
    (k : Fills s.family w b n i e g x p u t) (o : Opened w b n e x d c s q p u ms t a m z) where
  abbrev f : ℕ
  f = s.family

  abbrev l : Trie
  l = o.part.l

  abbrev r : Trie
  r = o.part.r

  all : kept_size (pour_t x u t) ≡ kept_size (glue false (one o) (two o))
  all = ap kept_size (opened-pour o)

  sum : kept_size (one o) + kept_size (two o) < g
  sum = omega (arith, opened-sum o, k.room.fits)

  -- where the halves have any node
  record Inner : Type 0 where
    first : half false t ≡ cut_t x l (half false k.from)
    second : half true t ≡ cut_t x r (half true k.from)
    placed : (m + kept_size (one o) ≤ g) × (a + kept_size (one o) + kept_size (two o) ≤ g)

  inner : a < z → Inner
  inner h =
      let (q, nf) = o.split.inner h in
      let none-whole : m ≡ 0 → z ≡ 0 = λ v. (part-whole (half false t) o.split.first v).1 in
      let y = part-stands (half false t) o.split.first (λ v. omega (arith, none-whole v)) in
      let v = part-stands (half true t) o.split.second (λ v. omega (arith, none-whole (part-whole (half true t) o.split.second v).1)) in
      let j = part-stands t k.part (λ v. false≢true (sym nf ∙ rw (part-whole t k.part v).0)) in
      let size = halves-inner t nf in
      let lt : i < e = omega (arith, j.end, glue-sum (half false t) (half true t), y.end, v.end) in
      let c = cut-inner x l r t k.from o.part.inner (k.cut lt ∙ ap (λ y. cut_t x y k.from) o.part.is) nf in
      let more-l = cut-grows x l (half false t) (half false k.from) c.0 in
      let more-r = cut-grows x r (half true t) (half true k.from) c.1 in
      let more = glue-more (half false t) (half true t) (one o) (two o) more-l more-r in
      record { first = c.0; second = c.1; placed = omega (arith, k.ahead lt, all, j.end, y.end, v.end) }

  pub fill-first : (y : ℕ) → y ≡ f → Fills y w b n m z g x (snoc p false) l (half false t)
  fill-first y same = rw same (record {
    part = o.split.first;
    room = before-less g (kept_size (one o)) k.room (omega arith) (omega (arith, sum));
    short = omega (arith, opened-short o, length-snoc p false);
    file = omega (arith, opened-few o, k.file);
    ahead = λ h. (inner (omega (arith, o.split.order))).placed.0;
    from = half false k.from;
    cut = λ h. (inner (omega (arith, o.split.order))).first;
  })

  module _ {w₁ : List ℕ} {j : ℕ} (v : Grown f w w₁ b g (snoc p false) (one o) j) where
    abbrev new : List ℕ
    new = kept_enc f (snoc p false) (one o)

    pub fill-second : (y : ℕ) → y ≡ f → Fills y w₁ b n a m j x (snoc p true) r (half true t)
    fill-second y same = rw same (record {
      part = rw v.wrote (part-put o.split.second (g - kept_size (one o)) new (λ h. omega (arith, (inner (omega (arith, o.split.order))).placed)));
      room = rw v.wrote
          (before-put (spot f b (g - kept_size (one o))) new j (kept_size (two o)) k.room (omega (arith, v.start)) (omega (arith, v.start, sum)));
      short = omega (arith, opened-short o, length-snoc p true);
      file = omega (arith, opened-few o, k.file);
      ahead = λ h. omega (arith, v.start, (inner (omega (arith, o.split.order))).placed);
      from = half true k.from;
      cut = λ h. (inner (omega (arith, o.split.order))).second;
    })

    pub fill-closing : {w₂ : List ℕ} {y : ℕ} → Grown f w₁ w₂ b j (snoc p true) (two o) y → Closing f w w₂ b g p y j (one o) (two o)
    fill-closing h = record {
      wrote = rw (v.wrote, ← v.start, ← h.start) at h.wrote;
      first = v.start;
      second = h.start;
      room = rw (← opened-pour o) k.room;
    }
