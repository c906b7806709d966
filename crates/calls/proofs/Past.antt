-- The tail of an answer has the bytes that the call decides. So past its last answer a run leaves the bytes for answers as they were: each answer has the
-- bytes by which the place of the next one goes on.
use mathlib.Core.Bool.{Bool, true, false}
use mathlib.Core.List.{List, [], ◌∷◌, ◌++◌}
use mathlib.Core.Path.{◌≡◌, refl, sym, ◌∙◌}
use Prim.Native.Nat.{ℕ, zero, suc, ◌+◌, ◌*◌, ◌≤◌}
use native.Mathlib.Nat.{mul-zero, mul-suc, add_comm}
use native.Mathlib.Omega.{arith}
use lib.Dec.{eqb}
use lib.ListN.{length, get_or, length-append}
use borrow.Author.Tests.{eqb-true, eqb-false}
use Rattle.nodes.proofs.Put.{get_or-put-behind}
use Rattle.calls_bytes.specs.Bytes.{u32_bytes, u64_bytes}
use Rattle.calls_bytes.specs.Records.{call_at, reply_bytes}
use Rattle.calls_bytes.specs.Tails.{words_from, row_bytes}
use Rattle.calls_bytes.specs.declared.Call.{Call}
use Rattle.calls_bytes.proofs.Written.{length-u32, length-u64, length-reply}
use Rattle.calls_tailed.specs.Tailed.{rows_of}
use Rattle.calls_tailed.proofs.Lent.{length-rows_of, length-line_bytes, length-save_bytes, length-mend_bytes}
use Rattle.calls_kinds.specs.Kinds.{kind_of, asks_by, tail_length}
use Rattle.calls_kinds.specs.declared.Kind.{Kind}
use Rattle.calls_kinds.specs.declared.Kind.TheVariants as kind
use Rattle.calls.specs.Effects.{effect_by, effect_of}
use Rattle.calls.specs.Runs.{call_bytes, effect_at, Machine, machine, stops_at, step_of, run_from, run_of}
use Rattle.calls.proofs.Turns.{run_on, run-stop}

length-row_bytes : (f : ℕ → List ℕ) (k : ℕ) → ((x : ℕ) → length (f x) ≡ k) → (xs : List ℕ) → length (row_bytes f xs) ≡ k * length xs
unfolding row_bytes
length-row_bytes f k h [] = sym (mul-zero k)
length-row_bytes f k h (x ∷ xs) = rw (length-append (f x) (row_bytes f xs), h x, length-row_bytes f k h xs, mul-suc k (length xs), add_comm k (k * length xs))

length-words_from : (w : List ℕ) (p n : ℕ) → length (words_from w p n) ≡ n
unfolding words_from
length-words_from w p zero = refl
length-words_from w p (suc n) = rw (length-words_from w (p + 1) n)

length-by : (k : Kind) (w v s : List ℕ) (c : Call) → length (effect_by k w v s c).tail ≡ (asks_by k c.b).bytes
unfolding effect_by
length-by kind.Layout w v s c = refl
length-by kind.Report w v s c = refl
length-by kind.Change w v s c = refl
length-by kind.List w v s c = rw (length-row_bytes u64_bytes 8 length-u64 (rows_of w c), length-rows_of w c)
length-by kind.Network w v s c = refl
length-by kind.WriteLine w v s c = length-line_bytes c
length-by kind.Save w v s c = length-save_bytes w c
length-by kind.Load w v s c = refl
length-by kind.Lines w v s c = refl
length-by kind.Compare w v s c = refl
length-by kind.WriteWords w v s c = refl
length-by kind.ReadWords w v s c = rw (length-row_bytes u32_bytes 4 length-u32 (words_from w c.a c.b), length-words_from w c.a c.b)
length-by kind.Salvage w v s c = length-mend_bytes c s
length-by kind.Unknown w v s c = refl

pub length-tail : (w v s : List ℕ) (c : Call) → length (effect_of w v s c).tail ≡ tail_length c
unfolding effect_of
length-tail w v s c = length-by (kind_of c.code) w v s c

-- from a machine on
record Kept (m e : Machine) : Type 0 where
  pub on : m.to ≤ e.to
  pub past : (k : ℕ) → e.to ≤ k → get_or e.out k 0 ≡ get_or m.out k 0

kept_step : (b : List ℕ) (m : Machine) → Kept m (step_of b m)
unfolding step_of
kept_step b m =
    let c = call_at b m.at in
    let xs = reply_bytes (effect_at b m).reply in
    let ys = (effect_at b m).tail in
    let l : length (xs ++ ys) ≡ 28 + tail_length c = rw (length-append xs ys, length-reply (effect_at b m).reply, length-tail m.words m.rows (call_bytes b m.at) c) in
    record { on = omega arith; past = λ k h. get_or-put-behind m.out m.to (xs ++ ys) k (omega arith) }

kept_then : {m n e : Machine} → Kept m n → Kept n e → Kept m e
kept_then {m} {n} {e} p q = record { on = omega (arith, p.on, q.on); past = λ k h. q.past k h ∙ p.past k (omega (arith, q.on)) }

kept_case : (n : ℕ) (b : List ℕ) (m : Machine) (t : Bool) → eqb (stops_at b m) 5 ≡ t → Kept (step_of b m) (run_from n b (step_of b m)) → Kept m (run_from (suc n) b m)
kept_case n b m true q r = rw (run_on b m (suc n) n refl (eqb-true _ _ q)) (kept_then (kept_step b m) r)
kept_case n b m false q r = rw (run-stop b m (suc n) (eqb-false _ _ q)) (record { on = omega arith; past = λ k h. refl })

kept : (n : ℕ) (b : List ℕ) (m : Machine) → Kept m (run_from n b m)
unfolding run_from
kept zero b m = record { on = omega arith; past = λ k h. refl }
kept (suc n) b m = kept_case n b m (eqb (stops_at b m) 5) refl (kept n b (step_of b m))

pub run_past : (w v b o : List ℕ) (k : ℕ) → (run_of w v b o).to ≤ k → get_or (run_of w v b o).out k 0 ≡ get_or o k 0
unfolding run_of
run_past w v b o = (kept (length b) b (machine w v o 0 0 0)).past
