-- What save says that it wrote fits the lent bytes. Assumes nothing.
use mathlib.Core.List.{List}
use mathlib.Core.Path.{◌≡◌, ap, sym, ◌∙◌}
use Prim.Native.Nat.{ℕ, ◌≤◌}
use native.Mathlib.Omega.{arith}
use lib.ListN.{length}
use Rattle.pool_state.specs.Decode.{decode}
use Rattle.pool_state.specs.Rules.{answer_as}
use Rattle.pool_state.proofs.Answered.{answer_on-fits}
use Rattle.setfile.specs.Calls.{file_at, save_rules, save_rule, Saved}
use Rattle.std.specs.Prelude.{Result, Ok}
use Rattle.nets.specs.declared.Refusal.{Refusal}

pub saved-fits : {w v u : List ℕ} {k m : ℕ} {r : (Result ℕ Refusal)} → Saved w k v r u → r ≡ Ok m → m ≤ length v
unfolding save_rule save_rules
saved-fits {w} {v} {u} {k} {m} {r} s e =
    let (S, q, fits) = answer_on-fits k (length v) (λ S. length (file_at S k)) 0 (λ S. length (file_at S k)) (decode w) m (sym (ap answer_as e) ∙ s.answer) in
    omega arith
