-- `laying::is_setup` meets its contract: the flag after each test is the conjunction so far. Assumes nothing.
use mathlib.Core.Bool.{◌&&◌}
use mathlib.Core.Path.{◌≡◌, ◌∙◌}
use lib.Dec.{leb}
use Rattle.pool_state.specs.States.{is_size}
use Rattle.nets.specs.Networks.{is_family}
use Rattle.pool_state.specs.Decode.{least_words}
use Rattle.pool_state.specs.Rules.{is_formed, is_setup, marks_fit, marks}
use Rattle.pool.proofs.laying.is_setup.Goals as goal
use Rattle.pool.proofs.laying.is_setup.Goals.{then-is_family, else-is_family, then-is_formed, else-is_formed, then-is_size, else-is_size, then-marks_fit, else-marks_fit}

form-tested : (c : goal.After-shares_fit) → let a = c.args in c.if-is_family.value ≡ (is_family a.family && is_formed a.form a.indexed)
form-tested c = elim c.if-is_family.branch [
  | then-is_family w ↦ rw (← c.is_family.ensures, w.if-is_family.true) (w.value-is ∙ w.is_formed.ensures)
  | else-is_family w ↦ rw (← c.is_family.ensures, w.if-is_family.false) (w.value-is ∙ w.if-is_family.false)
]

size-tested : (c : goal.After-shares_fit) → let a = c.args in c.if-is_formed.value ≡ (is_family a.family && is_formed a.form a.indexed && is_size a.sets a.nodes)
size-tested c = elim c.if-is_formed.branch [
  | then-is_formed w ↦ rw (← form-tested c, w.if-is_formed.true) (w.value-is ∙ w.is_size.ensures)
  | else-is_formed w ↦ rw (← form-tested c, w.if-is_formed.false) (w.value-is ∙ w.if-is_formed.false)
]

marks-tested : (c : goal.After-shares_fit) → let a = c.args in
    c.if-is_size.value ≡ (is_family a.family && is_formed a.form a.indexed && is_size a.sets a.nodes && marks_fit a.sets a.indexed)
marks-tested c = elim c.if-is_size.branch [
  | then-is_size w ↦ rw (← size-tested c, w.if-is_size.true) (w.value-is ∙ w.marks_fit.ensures)
  | else-is_size w ↦ rw (← size-tested c, w.if-is_size.false) (w.value-is ∙ w.if-is_size.false)
]

words-tested : (c : goal.After-shares_fit) → let a = c.args in
    c.if-marks_fit.value
    ≡ (is_family a.family && is_formed a.form a.indexed && is_size a.sets a.nodes && marks_fit a.sets a.indexed
    && leb (least_words a.sets a.nodes (marks a.sets a.indexed)) a.words)
words-tested c = elim c.if-marks_fit.branch [
  | then-marks_fit w ↦ rw (← marks-tested c, w.if-marks_fit.true, ← w.count_marks.ensures, ← w.least_words.ensures) w.value-is
  | else-marks_fit w ↦ rw (← marks-tested c, w.if-marks_fit.false) (w.value-is ∙ w.if-marks_fit.false)
]

form-tested-else-least_words-words : (c : goal.Else-least_words-words) → let a = c.args in c.if-is_family.value ≡ (is_family a.family && is_formed a.form a.indexed)
form-tested-else-least_words-words c = elim c.if-is_family.branch [
  | then-is_family w ↦ rw (← c.is_family.ensures, w.if-is_family.true) (w.value-is ∙ w.is_formed.ensures)
  | else-is_family w ↦ rw (← c.is_family.ensures, w.if-is_family.false) (w.value-is ∙ w.if-is_family.false)
]

size-tested-else-least_words-words : (c : goal.Else-least_words-words) → let a = c.args in c.if-is_formed.value ≡ (is_family a.family && is_formed a.form a.indexed && is_size a.sets a.nodes)
size-tested-else-least_words-words c = elim c.if-is_formed.branch [
  | then-is_formed w ↦ rw (← form-tested-else-least_words-words c, w.if-is_formed.true) (w.value-is ∙ w.is_size.ensures)
  | else-is_formed w ↦ rw (← form-tested-else-least_words-words c, w.if-is_formed.false) (w.value-is ∙ w.if-is_formed.false)
]

marks-tested-else-least_words-words : (c : goal.Else-least_words-words) → let a = c.args in
    c.if-is_size.value ≡ (is_family a.family && is_formed a.form a.indexed && is_size a.sets a.nodes && marks_fit a.sets a.indexed)
marks-tested-else-least_words-words c = elim c.if-is_size.branch [
  | then-is_size w ↦ rw (← size-tested-else-least_words-words c, w.if-is_size.true) (w.value-is ∙ w.marks_fit.ensures)
  | else-is_size w ↦ rw (← size-tested-else-least_words-words c, w.if-is_size.false) (w.value-is ∙ w.if-is_size.false)
]

words-tested-else-least_words-words : (c : goal.Else-least_words-words) → let a = c.args in
    c.if-marks_fit.value
    ≡ (is_family a.family && is_formed a.form a.indexed && is_size a.sets a.nodes && marks_fit a.sets a.indexed
    && leb (least_words a.sets a.nodes (marks a.sets a.indexed)) a.words)
words-tested-else-least_words-words c = elim c.if-marks_fit.branch [
  | then-marks_fit w ↦ rw (← marks-tested-else-least_words-words c, w.if-marks_fit.true, ← w.count_marks.ensures, ← w.least_words.ensures) w.value-is
  | else-marks_fit w ↦ rw (← marks-tested-else-least_words-words c, w.if-marks_fit.false) (w.value-is ∙ w.if-marks_fit.false)
]

pub returns-then-least_words-words : goal.returns-then-least_words-words
unfolding is_setup
returns-then-least_words-words c = rw (← words-tested c, c.if-least_words-words.true) c.shares_fit.ensures

pub returns-else-least_words-words : goal.returns-else-least_words-words
unfolding is_setup
returns-else-least_words-words c = rw (← words-tested-else-least_words-words c, c.if-least_words-words.false)
