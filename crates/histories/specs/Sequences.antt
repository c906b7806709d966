-- Sequences of all the calls that write a pool after its layout: those of a history, and between them those of lines, which add to set 0. Calls that read
-- may stand anywhere in between, as in a history.
--
--   AnyCall                 a call that changes a set; bytes that are fed to a reader of lines; the end of its input
--   AnyAnswer               a number and a value, or the reader that is left
--   no_of r                  the number of an answer, 0 where it is granted; a reader has the refusal that ended its reading, or 0
--   AnyOutcome w c r v      what the contracts allow: from the words w the call c answers r and leaves the words v
--   Sequence w cs rs v      from the words w on, the calls cs answered rs and left the words v. In every list the last one stands first
use Rattle.std.specs.Prelude.{List, [], ◌∷◌, ◌≡◌, ℕ}
use Rattle.lines_reader.specs.declared.Reader.{Reader}
use Rattle.lines.specs.Reading.{fed, finished}
use Rattle.histories.specs.Calls.{Call, Outcome}

pub data AnyCall : Type 0 where
  change : Call → AnyCall
  feed : Reader → List ℕ → AnyCall
  finish : Reader → AnyCall

pub data AnyAnswer : Type 0 where
  told : ℕ × ℕ → AnyAnswer
  left : Reader → AnyAnswer

abbrev pub no_of : AnyAnswer → ℕ
no_of (told a) = a.0
no_of (left q) = q.no

abbrev pub AnyOutcome : List ℕ → AnyCall → AnyAnswer → List ℕ → Type 0
AnyOutcome w (change c) (told a) v = Outcome w c a v
AnyOutcome w (change c) (left q) v = ⊥
AnyOutcome w (feed p s) (told a) v = ⊥
AnyOutcome w (feed p s) (left q) v = (q, v) ≡ fed w p s
AnyOutcome w (finish p) (told a) v = ⊥
AnyOutcome w (finish p) (left q) v = (q, v) ≡ finished w p

pub data Sequence (w : List ℕ) : List AnyCall → List AnyAnswer → List ℕ → Type 0 where
  begin : Sequence w [] [] w
  step : {cs : List AnyCall} {rs : List AnyAnswer} {c : AnyCall} {r : AnyAnswer} {u v : List ℕ}
      → Sequence w cs rs u → AnyOutcome u c r v → Sequence w (c ∷ cs) (r ∷ rs) v
