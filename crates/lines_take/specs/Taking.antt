-- What taking a line leaves. Each line hands on what a pass over the pool would find after it.
--
--   no_of x            the refusal's number, or 0
--   Hands w v x        what x hands on behind the words w: the survey of the words v, or, where the line is refused, that these are w
--   Takes w l t v      the line l is taken from the words w: its refusal, or the survey of the words v; whether a set bit was cut; and the words v
use Rattle.std.specs.Prelude.{List, ◌≡◌, ℕ, Result, Ok, Err}
use Rattle.nets.specs.Refusals.{number}
use Rattle.nets.specs.declared.Refusal.{Refusal}
use Rattle.pool_state.specs.Steps.{Surveyed}
use Rattle.pool_state.specs.declared.Survey.{Survey}
use Rattle.text_either.specs.Either.{entered_either}
use Rattle.lines_take.specs.Lines.{line_no, words_with}
use Rattle.lines_take.specs.declared.Took.{Took}

abbrev pub no_of : Result Survey Refusal → ℕ
no_of (Ok f) = 0
no_of (Err x) = number x

abbrev pub Hands : List ℕ → List ℕ → Result Survey Refusal → Type 0
Hands w v (Ok f) = Surveyed v 0 f
Hands w v (Err x) = v ≡ w

pub record Takes (w l : List ℕ) (t : Took) (v : List ℕ) : Type 0 where
  pub no : no_of t.then ≡ line_no w l
  pub cut : t.cut ≡ (entered_either l).1.1
  pub words : v ≡ words_with w l
  pub found : Hands w v t.then
