-- `put_between` meets its contract. The loop's invariant: the networks of as many bits as are done, and fewer, are laid. Assumes nothing.
use mathlib.Core.Bool.{not, cond, ◌||◌}
use mathlib.Core.List.{List, [], ◌∷◌}
use mathlib.Core.Path.{◌≡◌}
use Prim.Native.Nat.{ℕ}
use lib.ListN.{length}
use Rattle.nets.specs.Bits.{Bits}
use Rattle.setfile_range.specs.Edges.{opened, Lays, Edges}
use Rattle.setfile_range.proofs.Laying.{Going}
use Rattle.setfile_range.proofs.put_between.Given as goal

abbrev pub invariant-loop-l : goal.invariant-loop-l
invariant-loop-l l = (u : List ℕ) (P Q : Bits) → Edges l.family l.initial.l l.initial.r P Q (length u) → Lays l.family (cond (l.initial.l.there || l.initial.r.there) [] ([] ∷ [])) 0 u l.initial.n l.initial.out → l.initial.apart ≡ (not l.initial.l.there || not l.initial.r.there)
    → (p : Bits) × (q : Bits) × (a : Bits) × (b : Bits) × Going l.family (opened l.initial.l.there l.initial.r.there P Q) P Q l.initial.l.there l.initial.r.there u l.out l.n l.apart l.l l.r p q a b

abbrev pub decreases-loop-l : goal.decreases-loop-l
decreases-loop-l l = l.l.ahead.len
