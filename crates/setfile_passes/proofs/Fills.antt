-- Writing what a trie becomes, step by step. It has been cut, so that no part of it is larger than what it becomes: what is written never comes before what is still to be read. Assumes nothing.
use mathlib.Core.Bool.{Bool, true, false}
use mathlib.Core.List.{List}
use mathlib.Core.Path.{◌≡◌, refl, ap, ◌∙◌}
use Prim.Native.Nat.{ℕ, zero, suc, ◌+◌, ◌≤◌, ◌<◌}
use native.Mathlib.Omega.{arith}
use lib.ListN.{length}
use Rattle.nets.specs.Bits.{Bits}
use Rattle.nets.specs.Tries.{Trie, node, size, levels, glue}
use Rattle.nets.specs.TrieOps.{half}
use Rattle.nets.proofs.Numbers.{width-le}
use Rattle.nodes.specs.Words.{place, enc}
use Rattle.nodes.proofs.Put.{length-put}
use Rattle.trie_pour.specs.Pour.{flat_t, pour_t, cut_t}
use Rattle.trie_pour.specs.Parts.{TrieWritten, Room, Keeps, Closing}
use Rattle.trie_pour.proofs.Pour.{cut-grows, cut-inner}
use Rattle.trie_pour.proofs.Parts.{part-stands, part-put, glue-left, glue-right}
use Rattle.setfile_below.specs.declared.Below.{Below}
use Rattle.setfile_below.specs.Stream.{At}
use Rattle.setfile_passes.specs.Passing.{Fills}
use Rattle.setfile_passes.proofs.Passes.{Opened, one, two, opened-pour, room_of}

pub at-short : {d c : List ℕ} {s : Below} {q p : Bits} {u : Trie} {ms : List Bits} → At d c s q p u ms → levels u ≤ 129
at-short {s = s} a = omega (arith, a.under.deep, width-le s.family)

-- Where nothing of the file is below, and where all becomes full or empty.
module _ {w : List ℕ} {b i e o : ℕ} {x : Bool} {u t : Trie} (g : Fills w b i e o x u t) where
  pub fill-keeps : pour_t x u t ≡ t → Keeps w b i e o t
  fill-keeps h = record { part = g.part; room = rw (ap size h) at g.room }

  pub fill-room : pour_t x u t ≡ flat_t x → Room w b o (size (flat_t x))
  fill-room h = rw (ap size h) at g.room

pub fill-as : {w v : List ℕ} {b o r : ℕ} {y z : Trie} → y ≡ z → TrieWritten w v b o r z → TrieWritten w v b o r y
fill-as h k = rw h k

-- The halves.
levels-node : (l r : Trie) {u : Trie} → u ≡ node l r → (levels l + 1 ≤ levels u) × (levels r + 1 ≤ levels u)
unfolding levels
levels-node l r h = rw h (omega arith, omega arith)

module _ {w : List ℕ} {b i e o : ℕ} {x : Bool} {d c : List ℕ} {s : Below} {q p : Bits} {u : Trie} {ms : List Bits} {t : Trie} {a m z : ℕ}
    (g : Fills w b i e o x u t) (n : Opened w b i e x d c s q p u ms t a m z) where
  abbrev l : Trie
  l = n.part.l

  abbrev r : Trie
  r = n.part.r

  all : size (pour_t x u t) ≡ size (glue false (one n) (two n))
  all = ap size (opened-pour n)

  left-some : (size (one n) ≡ 0 → ⊥) → size (pour_t x u t) ≡ 1 + size (one n) + size (two n)
  left-some h = all ∙ glue-left (one n) (two n) h

  right-some : (size (two n) ≡ 0 → ⊥) → size (pour_t x u t) ≡ 1 + size (one n) + size (two n)
  right-some h = all ∙ glue-right (one n) (two n) h

  -- the nodes of the trie, where there are any below node i
  record Inner : Type 0 where
    first : m ≡ i + 1 + size (half false t)
    last : e ≡ m + size (half true t)
    same : z ≡ e
    left : half false t ≡ cut_t x l (half false g.from)
    right : half true t ≡ cut_t x r (half true g.from)
    ahead : o + size (pour_t x u t) ≤ e

  inner : a < z → Inner
  inner h =
      let k = n.split.inner h in
      let v : i < e = omega (arith, k.0, k.1) in
      let c = cut-inner x l r t g.from n.part.inner (g.cut v ∙ ap (λ y. cut_t x y g.from) n.part.is) k.2 in
      let y = part-stands (half false t) n.split.left (λ q. omega (arith, k.0)) in
      let f = part-stands (half true t) n.split.right (λ q. omega (arith, k.0, n.split.order)) in
      record { first = omega (arith, y.end, k.0); last = omega (arith, f.end, k.1); same = k.1; left = c.0; right = c.1; ahead = g.ahead v }

  grown : (k : Inner) → (size (half false t) ≤ size (one n)) × (size (half true t) ≤ size (two n))
  grown k = (cut-grows x l (half false t) (half false g.from) k.left, cut-grows x r (half true t) (half true g.from) k.right)

  left-ends : a < m → o + 1 + size (one n) ≤ m
  left-ends h =
      let k = inner (omega (arith, n.split.order)) in
      let f = grown k in
      let y = n.split.inner (omega (arith, n.split.order)) in
      let v = left-some (λ q. omega (arith, k.first, y.0)) in
      omega (arith, k.first, k.last, k.ahead)

  right-some-ends : m < z → Inner × (size (pour_t x u t) ≡ 1 + size (one n) + size (two n))
  right-some-ends h =
      let k = inner (omega (arith, n.split.order)) in
      let f = grown k in
      (k, right-some (λ q. omega (arith, k.last, k.same)))

  right-clear : m < z → o + 1 + size (one n) ≤ m
  right-clear h = let (k, v) = right-some-ends h in omega (arith, k.last, k.ahead, grown k)

  right-ends : m < z → o + 1 + size (one n) + size (two n) ≤ z
  right-ends h = let (k, v) = right-some-ends h in omega (arith, k.same, k.ahead)

  pub fill-low : o + 1 < 2147483648
  fill-low = omega (arith, g.low, levels-node l r n.part.is)

  pub fill-left : Fills w b a m (o + 1) x l (half false t)
  fill-left = record {
    part = n.split.left;
    room = record {
      one = omega arith;
      few = fill-low;
      fits = λ h. let v = left-some h in let f = g.room.fits (λ q. omega arith) in (omega (arith, g.room.one), omega arith);
    };
    low = omega (arith, g.low, levels-node l r n.part.is);
    ahead = left-ends;
    from = half false g.from;
    cut = λ h. (inner (omega (arith, n.split.order))).left;
  }

  module _ (short : levels u ≤ 129) {w₁ : List ℕ} {k : ℕ} (v : TrieWritten w w₁ b (o + 1) k (one n)) where
    low-right : (y : ℕ) → size (one n) ≡ y → k + levels r < 2147483648
    low-right zero h = omega (arith, v.end, g.low, levels-node l r n.part.is)
    low-right (suc y) h =
        let j = left-some (λ q. omega arith) in
        let f = g.room.fits (λ q. omega arith) in
        omega (arith, v.end, levels-node l r n.part.is)

    longer : length w₁ ≡ length w
    longer = rw v.wrote (length-put w (place b (o + 1)) (enc (one n)))

    pub fill-right : Fills w₁ b m z k x r (half true t)
    fill-right = record {
      part = rw v.wrote (part-put n.split.right (o + 1) (one n) (omega arith) right-clear);
      room = record {
        one = omega (arith, v.end);
        few = omega (arith, low-right (size (one n)) refl);
        fits = λ h. let j = right-some h in let f = g.room.fits (λ q. omega arith) in (omega (arith, v.end, longer, g.room.one), omega (arith, v.end));
      };
      low = low-right (size (one n)) refl;
      ahead = λ h. omega (arith, v.end, right-ends h);
      from = half true g.from;
      cut = λ h. (inner (omega (arith, n.split.order))).right;
    }

    module _ {w₂ : List ℕ} {y : ℕ} (j : TrieWritten w₁ w₂ b k y (two n)) where
      pub fill-closing : Closing w w₂ b o k y (one n) (two n)
      fill-closing = record {
        wrote = rw (j.wrote, v.wrote);
        middle = v.end;
        end = j.end;
        room = rw (← all) (room_of (rw j.wrote (length-put w₁ (place b k) (enc (two n))) ∙ longer) g.room);
      }
