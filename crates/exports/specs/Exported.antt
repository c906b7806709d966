-- The exported calls: each is the call of its name, with the answer in one number.
--
--   Tells C f r v      the call C, which leaves v, has an answer a, and r is the number of f a
--   WithRow q r v u    the same for an answer q that may have a network: r is its number, and the three numbers v are u afterwards
--   WritesLine n r v u     the network n written as a line over the bytes v, which are u afterwards
--   ReadsLines w s r v c    the lines s, read into set 0 of a pool with the words w: r has the refusal, v are the words afterwards, c the line it ended at and how many
--                      were trimmed
--   SavesCounts d v c r u k    the file d salvaged over the bytes v, which are u afterwards: r has the refusal and the bytes written, and the four counts c are k afterwards
--   counts_after c a    four counts c after an answer a: those of a file, else as they were
use Rattle.std.specs.Prelude.{cond, List, [], ◌∷◌, ◌≡◌, ℕ, eqb, length, Result, Bool}
use Rattle.lines.specs.Reading.{all_read}
use Rattle.calls_bytes.specs.declared.Reply.{Reply}
use Rattle.nets.specs.declared.Net.{Net}
use Rattle.text.specs.Answers.{written_as}
use Rattle.text_either.specs.Either.{WroteEither}
use Rattle.salvage.specs.Calls.{salvage_rule, salvage_left}
use Rattle.salvage.specs.declared.Counts.{Counts}
use Rattle.calls_replies.specs.Replies.{no_reply, write_reply, salvage_reply}
use Rattle.calls_packed.specs.Packed.{packed, row_after, first_of}
use Rattle.nets.specs.declared.Refusal.{Refusal}

pub record Tells {A : Type 0} (C : A → List ℕ → Type 0) (f : A → Reply) (r : ℕ) (v : List ℕ) : Type 0 where
  pub answer : A
  pub call : C answer v
  pub number : r ≡ packed (f answer)

pub record WithRow (q : Reply) (r : ℕ) (v u : List ℕ) : Type 0 where
  pub number : r ≡ packed q
  pub row : u ≡ row_after v q

-- text_either::write_line, whose answer goes by its own type
pub record WritesLine (n : Net) (r : ℕ) (v u : List ℕ) : Type 0 where
  pub answer : Result (ℕ × Bool) Refusal
  pub call : WroteEither n v u answer
  pub number : r ≡ packed (write_reply (written_as answer))

pub record ReadsLines (w s : List ℕ) (r : ℕ) (v c : List ℕ) : Type 0 where
  pub number : r ≡ packed (no_reply (all_read w (s ∷ [])).0.no)
  pub words : v ≡ (all_read w (s ∷ [])).1
  pub counts : c ≡ (all_read w (s ∷ [])).0.number ∷ (all_read w (s ∷ [])).0.trimmed ∷ []

unfoldable pub counts_after : List ℕ → ℕ × Counts → List ℕ
counts_after c a = cond (eqb a.0 0) (a.1.read ∷ a.1.trimmed ∷ a.1.long ∷ a.1.covered ∷ []) c

pub record SavesCounts (d v c : List ℕ) (r : ℕ) (u k : List ℕ) : Type 0 where
  pub number : r ≡ packed (first_of (salvage_reply (salvage_rule d (length v))))
  pub bytes : u ≡ salvage_left d v
  pub counts : k ≡ counts_after c (salvage_rule d (length v))
