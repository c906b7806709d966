-- What is granted fits the lent buffer: the bytes of a line, and three numbers for each network of a list. Assumes nothing.
use mathlib.Core.Bool.{Bool}
use mathlib.Core.List.{List}
use mathlib.Core.Path.{◌≡◌, ap, sym, ◌∙◌}
use Prim.Native.Nat.{ℕ, ◌*◌, ◌≤◌}
use native.Mathlib.Omega.{arith}
use lib.ListN.{length}
use Rattle.nets.specs.Networks.{has_bit_past}
use Rattle.nets.specs.declared.Net.{Net}
use Rattle.pool_state.specs.Changes.{list_at}
use Rattle.pool_state.specs.Decode.{decode}
use Rattle.pool_state.specs.Rules.{answer_as}
use Rattle.pool_state.proofs.Answered.{answer_on-fits}
use Rattle.listing.specs.Calls.{list_rules, list_rule, Listed}
use Rattle.text.proofs.Answers.{over-granted}
use Rattle.text_either.specs.Either.{line_either, either_refusal, WroteEither}
use Rattle.text_either.proofs.RoundTrip.{either_refusal-zero}
use Rattle.std.specs.Prelude.{Result, Ok}
use Rattle.nets.specs.declared.Refusal.{Refusal}

pub wrote-fits : {old new : List ℕ} {r : (Result (ℕ × Bool) Refusal)} {k : ℕ} {b : Bool} (n : Net) → WroteEither n old new r → r ≡ Ok (k, b) → k ≤ length old
wrote-fits {old} {new} {r} {k} {b} n w e =
    let g = over-granted (either_refusal n (length old)) (line_either n) (has_bit_past n) old new k b (rw e at w) in
    omega (arith, g.1, (either_refusal-zero n (length old) g.0).1)

pub listed-fits : {w v u : List ℕ} {k m : ℕ} {r : (Result ℕ Refusal)} → Listed w k v r u → r ≡ Ok m → 3 * m ≤ length v
unfolding list_rule list_rules
listed-fits {w} {v} {u} {k} {m} {r} l e =
    let (S, q, fits) = answer_on-fits k (length v) (λ S. 3 * length (list_at S k)) 0 (λ S. length (list_at S k)) (decode w) m (sym (ap answer_as e) ∙ l.answer) in
    omega arith
