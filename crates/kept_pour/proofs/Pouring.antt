-- A file poured into a whole trie of the second form: where the passes begin. Assumes nothing.
use mathlib.Core.Bool.{Bool}
use mathlib.Core.List.{List, []}
use mathlib.Core.Path.{◌≡◌, refl, ap}
use Prim.Native.Nat.{ℕ, ◌≤◌}
use native.Mathlib.Omega.{arith}
use Rattle.nets.specs.Bits.{Bits}
use Rattle.nets.specs.Networks.{width}
use Rattle.nets.specs.Tries.{Trie, trie_of, levels}
use Rattle.nets.proofs.Numbers.{width-le}
use Rattle.nodes.proofs.Tries.{size-leaf}
use Rattle.branch_points.specs.KeptTries.{kept_size}
use Rattle.branch_points.proofs.Sizes.{size-deep}
use Rattle.branch_points.proofs.Counts.{kept_nodes_l-twice, kept_size-le}
use Rattle.setfile_format.specs.Files.{read_file, file}
use Rattle.setfile_format.proofs.RoundTrip.{read_file-is}
use Rattle.trie_pour.specs.Pour.{pour_t, cut_t}
use Rattle.trie_pour.proofs.Pour.{pour-size, pour-cut}
use Rattle.setfile_below.specs.declared.Below.{Below}
use Rattle.setfile_below.specs.Stream.{At}
use Rattle.kept_build.specs.Building.{few, Grown}
use Rattle.kept_build.proofs.Filling.{file-nodes}
use Rattle.kept_cut.specs.Cuts.{Cuts}
use Rattle.kept_pour.specs.Parts.{standing}
use Rattle.kept_pour.specs.Passing.{Counts, Fills}
use Rattle.kept_pour.specs.Pouring.{Sources, Refills}
use Rattle.kept_pour.proofs.Fills.{of-family}

file-few : (d : List ℕ) (f : ℕ) (l : List Bits) → read_file d ≡ file f l → kept_size (trie_of l) ≤ 8388608
file-few d f l e = let o = read_file-is d f l e in omega (arith, file-nodes d e, kept_nodes_l-twice (width f) l o.list, o.few)

few-poured : (x : Bool) (u t : Trie) → levels u ≤ 129 → levels t ≤ 129 → kept_size u ≤ 8388608 → kept_size t ≤ 4194304 → few (pour_t x u t)
few-poured x u t hu ht ku kt = omega (arith, kept_size-le (pour_t x u t), pour-size x u t, size-deep u 129 hu, size-deep t 129 ht)

-- Where the passes begin.
module _ {f : ℕ} {w : List ℕ} {b n i e : ℕ} {d : List ℕ} {l : List Bits} {c : List ℕ} {s : Below} (same : s.family ≡ f)
    (a : At d c s [] [] (trie_of l) []) where
  pub count-start : (x : Bool) {t : Trie} → Sources f w b n i e d l t → Counts w b n i e x d c s [] [] (trie_of l) [] t
  count-start x {t} g =
      let k = file-few d f l g.reads in
      let h = g.here in
      record {
        part = rw same (standing h);
        at = a;
        file = omega arith;
        all = few-poured x (trie_of l) t (omega (arith, a.under.deep, width-le s.family)) (omega (arith, h.deep, width-le f)) k
            (omega (arith, h.end, h.last, h.one, h.room.few));
      }

  pub cut-start : {t : Trie} → Sources f w b n i e d l t → Cuts w b n i e d c s [] [] (trie_of l) [] t
  cut-start g =
      let k = file-few d f l g.reads in
      let u = size-deep (trie_of l) 129 (omega (arith, a.under.deep, width-le s.family)) in
      record { here = rw same g.here; at = a; few = omega (arith, size-leaf) }

  pub fill_start : {x : Bool} {t : Trie} {g : ℕ} → Refills f w b n i e g d x l t → Fills s.family w b n i e g x [] (trie_of l) (cut_t x (trie_of l) t)
  fill_start {x} {t} {g} k =
      let y = ap kept_size (pour-cut x (trie_of l) t) in
      let z = file-few d f l k.source.reads in
      rw same (record {
        part = standing k.source.here;
        room = rw y k.room;
        short = omega arith;
        file = omega arith;
        ahead = λ h. omega (arith, k.ahead);
        from = t;
        cut = λ h. refl;
      })

-- What was cut away before makes no difference.
pub filled : {f h : ℕ} {w v : List ℕ} {b g r : ℕ} (x : Bool) (u t : Trie) → h ≡ f → Grown h w v b g [] (pour_t x u (cut_t x u t)) r
    → Grown f w v b g [] (pour_t x u t) r
filled x u t e k = rw (pour-cut x u t) at (of-family e k)
