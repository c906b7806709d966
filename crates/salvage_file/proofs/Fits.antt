-- What a salvage says that it wrote fits the lent bytes. Assumes nothing.
use mathlib.Core.List.{List}
use mathlib.Core.Path.{◌≡◌, ap, sym, ◌∙◌}
use Prim.Native.Nat.{ℕ, ◌≤◌}
use native.Mathlib.Omega.{arith}
use lib.ListN.{length}
use borrow.Author.Tests.{ltb-false}
use Rattle.nets.specs.Refusals.{first_no}
use Rattle.nets.proofs.Answers.{answered-granted}
use Rattle.nets.proofs.Refused.{first_no-zero}
use Rattle.salvage.specs.Calls.{saved_of, salvage_rules, counts_of, no_counts, salvaged_as, salvage_rule, Salvages}
use Rattle.salvage.specs.declared.Counts.{Counts}
use Rattle.std.specs.Prelude.{Result, Ok}
use Rattle.nets.specs.declared.Refusal.{Refusal}

pub saved-fits : {d v u : List ℕ} {c : Counts} {r : (Result Counts Refusal)} → Salvages d v r u → r ≡ Ok c → c.bytes ≤ length v
unfolding salvage_rule salvage_rules counts_of
saved-fits {d} {v} {u} {c} {r} s e =
    let g = answered-granted (first_no (salvage_rules d (length v))) no_counts (counts_of d) c (sym (ap salvaged_as e) ∙ s.answer) in
    let z = first_no-zero (salvage_rules d (length v)) g.0 in
    rw g.1 (ltb-false (length v) (length (saved_of d)) z.1.1.1.0)
