-- The changing calls: what their contracts say is what a run has of them.
use mathlib.Core.Bool.{Bool}
use mathlib.Core.List.{List}
use mathlib.Core.Path.{◌≡◌, sym}
use Prim.Native.Nat.{ℕ}
use Rattle.nets.specs.Refusals.{Rule}
use Rattle.nets.specs.declared.Net.{Net}
use Rattle.pool_state.specs.States.{SetState, State}
use Rattle.pool_state.specs.Changes.{Changed}
use Rattle.change.specs.Calls.{Reports}
use Rattle.calls_bytes.specs.declared.Reply.{Reply}
use Rattle.calls_replies.specs.Replies.{one_reply, write_reply, changed, reporting}

pub changed-is : {w v : List ℕ} {k : ℕ} {rs : State → List Rule} {f : State → SetState} {r : ℕ × ℕ} {x : Reply} → Changed w k rs f r v → x ≡ one_reply r → (x, v) ≡ changed w k rs f
unfolding changed
changed-is p e = rw (e, p.answer, p.words)

pub reporting-is : {n : Net} {w v : List ℕ} {k : ℕ} {rs : State → List Rule} {f : State → SetState} {r : ℕ × (ℕ × Bool)} {x : Reply}
    → Reports n (Changed w k rs f) r v → x ≡ write_reply r → (x, v) ≡ reporting n w k rs f
unfolding reporting
reporting-is p e = rw (e, p.report, sym p.changed.answer, p.changed.words)
