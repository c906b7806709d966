-- Two outcomes that the contract of an exported call allows are equal: the number that it answers, and each lent word afterwards. Of the calls whose contract equates both with a
-- function of the arguments that is plain; here are the others, a law for each form of contract. Assumes nothing.
use mathlib.Core.List.{List}
use mathlib.Core.Path.{◌≡◌, sym, ap, ◌∙◌}
use Prim.Native.Nat.{ℕ}
use Rattle.nets.specs.Refusals.{Rule}
use Rattle.nets.specs.declared.Net.{Net}
use Rattle.text.specs.Answers.{written_as}
use Rattle.text_either.proofs.RoundTrip.{write-determined}
use Rattle.pool_state.specs.States.{SetState, State}
use Rattle.pool_state.specs.Rules.{Setup, Laid}
use Rattle.pool_state.specs.Changes.{Changed}
use Rattle.pool_state.proofs.Determined.{changed-same}
use Rattle.change.specs.Calls.{Reports}
use Rattle.change.proofs.Reported.{reports-same}
use Rattle.calls_replies.specs.Replies.{one_reply, write_reply}
use Rattle.calls_packed.specs.Packed.{packed}
use Rattle.exports.specs.Exported.{Tells, WritesLine, ReadsLines}
use Rattle.exports.proofs.Told.{tells-one}

-- layout
pub layout-told : {w v u : List ℕ} {p : Setup} {r s : ℕ} → Tells (Laid w p) one_reply r v → Tells (Laid w p) one_reply s u → (r ≡ s) × (v ≡ u)
layout-told = tells-one (λ a b x y. (x.answer ∙ sym y.answer, x.words ∙ sym y.words))

-- simplify, merge, intersect, both excludes, replan, make_public, load, add_file, remove_file, add_range; and add and remove, which report
module _ {w v u : List ℕ} {k : ℕ} {rs : State → List Rule} {f : State → SetState} {r s : ℕ} where
  pub change-told : Tells (Changed w k rs f) one_reply r v → Tells (Changed w k rs f) one_reply s u → (r ≡ s) × (v ≡ u)
  change-told = tells-one (λ a b x y. changed-same x y)

  pub report-told : {n : Net} → Tells (Reports n (Changed w k rs f)) write_reply r v → Tells (Reports n (Changed w k rs f)) write_reply s u → (r ≡ s) × (v ≡ u)
  report-told = tells-one (λ a b x y. reports-same x y)

-- a line written, and lines read into a set
pub line-told : {n : Net} {v u t : List ℕ} {r s : ℕ} → WritesLine n r v u → WritesLine n s v t → (r ≡ s) × (u ≡ t)
line-told {n} {v} {u} {t} x y =
    let h = write-determined n v u t x.answer y.answer x.call y.call in
    (x.number ∙ ap (λ a. packed (write_reply (written_as a))) h.0 ∙ sym y.number, h.1)

pub lines-one : {w b v u c d : List ℕ} {r s : ℕ} → ReadsLines w b r v c → ReadsLines w b s u d → (r ≡ s) × (v ≡ u) × (c ≡ d)
lines-one x y = (x.number ∙ sym y.number, x.words ∙ sym y.words, x.counts ∙ sym y.counts)
