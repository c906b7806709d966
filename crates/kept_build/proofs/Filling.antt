-- The trie of a file's list, written where there is room for it: the networks that a file gives from its start are those of that trie. Assumes nothing.
use mathlib.Core.Bool.{true, false}
use mathlib.Core.List.{List, []}
use mathlib.Core.Path.{◌≡◌, sym, ap, ◌∙◌}
use Prim.Native.Nat.{ℕ, ◌-◌}
use native.Mathlib.Omega.{arith}
use Rattle.nets.specs.Bits.{Bits}
use Rattle.nets.specs.Tries.{Trie, none, trie_of}
use Rattle.nodes.specs.Words.{put}
use Rattle.nodes.proofs.Put.{put-nil}
use Rattle.branch_points.specs.BranchPoints.{kept_nodes_l}
use Rattle.branch_points.specs.KeptTries.{kept_size}
use Rattle.branch_points.proofs.Counts.{kept_nodes_l-list_of}
use Rattle.kept_nodes.specs.Words.{kept_enc, spot}
use Rattle.kept_nodes.proofs.Places.{kept_enc-none}
use Rattle.setfile_format.specs.Files.{file, read_file}
use Rattle.setfile_build.proofs.Filling.{file-list_of}
use Rattle.setfile_below.specs.Stream.{At}
use Rattle.setfile_below.specs.declared.Below.{Below}
use Rattle.setfile_below.proofs.Streams.{at_some, at-nothing}
use Rattle.kept_build.specs.Building.{Runs, Grows, Grown, Fillable}

-- The nodes of the trie of a file.
pub file-nodes : (x : List ℕ) {f : ℕ} {l : List Bits} → read_file x ≡ file f l → kept_size (trie_of l) ≡ kept_nodes_l l
file-nodes x {f} {l} e = sym (kept_nodes_l-list_of (trie_of l)) ∙ ap kept_nodes_l (file-list_of x e)

-- A stream at a path below which there is something.
pub at-runs : {x c : List ℕ} {s : Below} {q p : Bits} {t : Trie} {ms : List Bits} → At x c s q p t ms → s.some ≡ true
    → Runs s.family s.head s.depth x c q p t ms
at-runs a h = record {
  some = at_some a h;
  depth = a.under.depth;
  deep = a.under.deep;
  outside = a.under.outside;
  comes = record { flow = a.flow; head = a.under.head };
}

module _ {f : ℕ} {w : List ℕ} {b e : ℕ} {x : List ℕ} {l : List Bits} (g : Fillable f w b e x l) where
  kept-size : kept_size (trie_of l) ≡ kept_nodes_l l
  kept-size = file-nodes x g.reads

  abbrev Filled : List ℕ → ℕ → Type 0
  Filled v r = (r ≡ e - kept_nodes_l l) × (v ≡ put w (spot f b (e - kept_nodes_l l)) (kept_enc f [] (trie_of l)))

  pub filled : {v : List ℕ} {r : ℕ} → Grown f w v b e [] (trie_of l) r → Filled v r
  filled k = rw (← kept-size) (k.start, k.wrote)

  module _ {c : List ℕ} {s : Below} (same : s.family ≡ f) (a : At x c s [] [] (trie_of l) []) where
    pub fill_none : s.some ≡ false → Filled w e
    unfolding kept_size
    fill_none h =
        let z : trie_of l ≡ none = at-nothing a h in
        filled (record { start = rw z (omega arith); wrote = rw (z, kept_enc-none f []) (sym (put-nil w (spot f b (e - kept_size none)))) })

    pub fill-grows : s.some ≡ true → Grows f w b e s.head 0 x c [] [] (trie_of l) []
    fill-grows h = record { runs = rw (same, a.under.depth) at (at-runs a h); room = rw kept-size g.room }
