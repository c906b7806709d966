-- The entries that contains_all writes are the numbers that contains answers as an exported call. Assumes nothing.
use mathlib.Core.Bool.{true, false}
use mathlib.Core.List.{List}
use mathlib.Core.Path.{◌≡◌, refl, ◌∙◌}
use Prim.Native.Nat.{ℕ, ◌/◌, ◌≤◌, ◌<◌}
use lib.ListN.{length, get_or}
use Rattle.lookup.specs.Rules.{Held, contains_rule}
use Rattle.lookup_many.specs.Rules.{query_at, in_one, all_no, ContainsAll}
use Rattle.lookup_many.proofs.Outcomes.{all-entry}
use Rattle.calls_replies.specs.Replies.{contain_reply}
use Rattle.calls_packed.specs.Packed.{packed}
use Rattle.std.specs.Prelude.{Result}
use Rattle.nets.specs.declared.Refusal.{Refusal}

pub in_one-packed : (a : ℕ × Held) → in_one a ≡ packed (contain_reply a)
unfolding in_one packed
in_one-packed (k, (b, (s, true))) = refl
in_one-packed (k, (b, (s, false))) = refl

-- entry i of a granted call is what marlbrace_contains answers to query i
pub entry-packed : {w qs v u : List ℕ} {k f : ℕ} {r : (Result ℕ Refusal)} → ContainsAll w k f qs v r u → all_no w k f qs (length v) ≡ 0 → length qs / 3 ≤ length v → (i : ℕ) → i < length qs / 3
    → get_or u i 0 ≡ packed (contain_reply (contains_rule w k (query_at f qs i)))
entry-packed {w} {qs} {k = k} {f = f} h z le i lt = all-entry h z le i lt ∙ in_one-packed (contains_rule w k (query_at f qs i))
