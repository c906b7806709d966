-- Where the entries of a length end, looked for by halves: the lengths do not fall, so that all the entries between two of one length have it. Assumes nothing.
use mathlib.Core.Bool.{Bool, true, false}
use mathlib.Core.List.{List}
use mathlib.Core.Path.{◌≡◌, refl, sym}
use Prim.Native.Nat.{ℕ, zero, suc, ◌+◌, ◌-◌, ◌/◌, ◌≤◌, ◌<◌}
use native.Mathlib.Numerals.{add-one}
use native.Mathlib.Omega.{arith}
use lib.Dec.{eqb}
use borrow.Author.Tests.{eqb-true, eqb-false}
use Rattle.setfile_format.specs.Files.{entry_net}
use Rattle.setfile_format.proofs.FileOrder.{network_at, ascending-at, before-length}
use Rattle.setfile_lanes.specs.Lanes.{Ordered, Alike}
use Rattle.setfile_lanes.proofs.Read.{read_length}

-- The lengths do not fall.
lens-rise : {d : List ℕ} {f n : ℕ} → Ordered d f n → (i : ℕ) → i + 1 < n → (entry_net f d i).len ≤ (entry_net f d (i + 1)).len
lens-rise {d} {f} {n} o i h =
    let g : suc i < n = omega arith in
    let b = before-length (network_at f d i) (network_at f d (suc i)) (ascending-at f d 0 n i o.ascends (omega arith) (omega arith)) in
    rw (add-one i) (rw (read_length o.entries i (omega arith), read_length o.entries (suc i) g) at b)

lens-climb : {d : List ℕ} {f n : ℕ} → Ordered d f n → (i k : ℕ) → i + k < n → (entry_net f d i).len ≤ (entry_net f d (i + k)).len
lens-climb o i zero h = let e : i + 0 ≡ i = omega arith in rw e (omega arith)
lens-climb o i (suc k) h =
    let e : i + suc k ≡ i + k + 1 = omega arith in
    rw e (omega (arith, lens-climb o i k (omega arith), lens-rise o (i + k) (omega arith)))

pub lens-up : {d : List ℕ} {f n : ℕ} → Ordered d f n → (i j : ℕ) → i ≤ j → j < n → (entry_net f d i).len ≤ (entry_net f d j).len
lens-up o i j h g = let e : i + (j - i) ≡ j = omega arith in rw e at (lens-climb o i (j - i) (omega arith))

-- entry low has the length of entry i, and entry high, where there is one, has another
pub record Between (d : List ℕ) (f n i low high : ℕ) : Type 0 where
  pub from : i ≤ low
  pub some : low < high
  pub to : high ≤ n
  pub same : (entry_net f d low).len ≡ (entry_net f d i).len
  pub other : high < n → (entry_net f d high).len ≡ (entry_net f d i).len → ⊥

half : {d : List ℕ} {f n i low high : ℕ} → Between d f n i low high → low + 1 < high → (m : ℕ) → m ≡ (low + high) / 2
    → (b : Bool) → b ≡ eqb (entry_net f d m).len (entry_net f d i).len → {l h : ℕ}
    → (b ≡ true → l ≡ m) × (b ≡ false → l ≡ low) → (b ≡ true → h ≡ high) × (b ≡ false → h ≡ m) → Between d f n i l h × (h - l < high - low)
half {d} {f} {n} {i} s g m e true q x y = (
  rw (x.0 refl, y.0 refl) (record { from = omega (arith, s.from); some = omega arith; to = s.to; same = eqb-true (entry_net f d m).len (entry_net f d i).len (sym q); other = s.other }),
  omega (arith, x.0 refl, y.0 refl),
)
half {d} {f} {n} {i} s g m e false q x y =
    (rw (x.1 refl, y.1 refl) (record { from = s.from; some = omega arith; to = omega (arith, s.to); same = s.same; other = λ _. eqb-false (entry_net f d m).len (entry_net f d i).len (sym q) }), omega (arith, x.1 refl, y.1 refl))

pub halved : {d : List ℕ} {f n i low high : ℕ} → Between d f n i low high → low + 1 < high → {v k : ℕ} → v ≡ (entry_net f d ((low + high) / 2)).len → k ≡ (entry_net f d i).len → {l h : ℕ}
    → (eqb v k ≡ true → l ≡ (low + high) / 2) × (eqb v k ≡ false → l ≡ low) → (eqb v k ≡ true → h ≡ high) × (eqb v k ≡ false → h ≡ (low + high) / 2)
    → Between d f n i l h × (h - l < high - low)
halved s g {v} {k} a b x y = half s g _ refl (eqb v k) (rw (a, b)) x y

-- nothing is left between them
pub alike_end : {d : List ℕ} {f n i low high : ℕ} → Ordered d f n → Between d f n i low high → high ≤ low + 1 → Alike d f n i (low + 1)
alike_end {d} {f} {n} {i} {low} {high} o s h =
    let z : high ≡ low + 1 = omega (arith, s.some) in
    record {
      from = omega (arith, s.from);
      to = omega (arith, s.some, s.to);
      same = λ t a b. omega (arith, s.same, lens-up o i t a (omega (arith, s.some, s.to)), lens-up o t low (omega arith) (omega (arith, s.some, s.to)));
      ends = rw z at s.other;
    }
