-- What a call does, by its kind. w are the pool's words, v the rows, s the bytes of the call, c its fixed part.
--
--   Effect              what a call answers and leaves: the answer, its tail, the pool's words, the rows
--   effect_of w v s c    that of a call;  effect_by K: of one of that kind
--   Fits, Answered      what a call needs, and what it leaves where the tail of its answer begins at `at` in the bytes for answers
use Rattle.std.specs.Prelude.{List, [], ◌≡◌, ℕ, ◌+◌, ◌≤◌, length}
use Rattle.nodes.specs.Words.{put}
use Rattle.calls_bytes.specs.Bytes.{u32_bytes, u64_bytes}
use Rattle.calls_bytes.specs.Tails.{words_from, row_bytes}
use Rattle.calls_bytes.specs.declared.Call.{Call}
use Rattle.calls_bytes.specs.declared.Reply.{Reply}
use Rattle.calls_replies.specs.Replies.{no_reply}
use Rattle.calls_kinds.specs.Kinds.{kind_of, asks_of}
use Rattle.calls_kinds.specs.declared.Kind.{Kind}
use Rattle.calls_kinds.specs.declared.Kind.TheVariants as kind
use Rattle.calls_changes.specs.Changes.{layout_of, write_of, change_of}
use Rattle.calls_reports.specs.Reports.{report_of}
use Rattle.calls_networks.specs.Networks.{network_of}
use Rattle.calls_tailed.specs.Reading.{load_of, lines_of, compare_of}
use Rattle.calls_tailed.specs.Tailed.{rows_of, list_reply, line_bytes, line_reply, save_bytes, save_reply, mend_bytes, mend_reply}

pub record Effect : Type 0 where
  pub reply : Reply
  pub tail : List ℕ
  pub words : List ℕ
  pub rows : List ℕ

abbrev pub effect : Reply → List ℕ → List ℕ → List ℕ → Effect
effect r t w v = record { reply = r; tail = t; words = w; rows = v }

-- an answer without a tail, and the words
abbrev pub plain : Reply × List ℕ → List ℕ → Effect
plain x v = effect x.0 [] x.1 v

unfoldable pub effect_by : Kind → List ℕ → List ℕ → List ℕ → Call → Effect
effect_by kind.Layout w v s c = plain (layout_of w c s) v
effect_by kind.Report w v s c = plain (report_of w c, w) v
effect_by kind.Change w v s c = plain (change_of w c) v
effect_by kind.List w v s c = effect (list_reply w c) (row_bytes u64_bytes (rows_of w c)) w (put v 0 (rows_of w c))
effect_by kind.Network w v s c = plain (network_of s c, w) v
effect_by kind.WriteLine w v s c = effect (line_reply c) (line_bytes c) w v
effect_by kind.Save w v s c = effect (save_reply w c) (save_bytes w c) w v
effect_by kind.Load w v s c = plain (load_of w c s) v
effect_by kind.Lines w v s c = plain (lines_of w c s) v
effect_by kind.Compare w v s c = plain (compare_of c s, w) v
effect_by kind.WriteWords w v s c = plain (write_of w c s) v
effect_by kind.ReadWords w v s c = effect (no_reply 0) (row_bytes u32_bytes (words_from w c.a c.b)) w v
effect_by kind.Salvage w v s c = effect (mend_reply c s) (mend_bytes c s) w v
effect_by kind.Unknown w v s c = plain (no_reply 0, w) v

unfoldable pub effect_of : List ℕ → List ℕ → List ℕ → Call → Effect
effect_of w v s c = effect_by (kind_of c.code) w v s c

-- what a call needs: its tail's place in the answers, and rows
pub record Fits (v s : List ℕ) (c : Call) (o : List ℕ) (at : ℕ) : Type 0 where
  pub call : 35 ≤ length s
  pub room : at + (asks_of c).bytes ≤ length o
  pub rows : (asks_of c).rows ≤ length v

pub record Answered (w v s : List ℕ) (c : Call) (o : List ℕ) (at : ℕ) (r : Reply) (w' v' o' : List ℕ) : Type 0 where
  pub reply : r ≡ (effect_of w v s c).reply
  pub words : w' ≡ (effect_of w v s c).words
  pub rows : v' ≡ (effect_of w v s c).rows
  pub tail : o' ≡ put o at (effect_of w v s c).tail
