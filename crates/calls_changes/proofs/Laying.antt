-- Layout: what its contract says is what a run has of it.
use mathlib.Core.List.{List}
use mathlib.Core.Path.{◌≡◌}
use Prim.Native.Nat.{ℕ}
use Rattle.pool_state.specs.Rules.{setup, Laid}
use Rattle.calls_bytes.specs.declared.Reply.{Reply}
use Rattle.calls_replies.specs.Replies.{one_reply}
use Rattle.calls_changes.specs.Changes.{laid_by}

pub laid-is : {w v xs ys : List ℕ} {f o n m i : ℕ} {r : ℕ × ℕ} {x : Reply} → Laid w (setup f o n m xs ys i) r v → x ≡ one_reply r → (x, v) ≡ laid_by w f o n m xs ys i
laid-is p e = rw (e, p.answer, p.words)
