-- The calls whose answers have a tail: list, 15, and ranges, 28, write_line, 18, save, 19, and salvage, 43. Words read, 49, need no definition of their own.
--
--   rows_of w c, line_bytes c, save_bytes w c, mend_bytes c s     the lent rows, or bytes, as the call leaves them; list_reply, line_reply, save_reply, mend_reply: its answer
--   RowsBy, Listing, Lining, Saving, Mending    what the functions leave: the answer, and the tail at its place
use Rattle.std.specs.Prelude.{Bool, cond, List, ◌≡◌, ℕ, ◌%◌, eqb, length, drop, replicate, Result}
use Rattle.nets.specs.Networks.{has_bit_past}
use Rattle.nets.specs.Refusals.{answered}
use Rattle.nodes.specs.Words.{put}
use Rattle.pool_state.specs.Decode.{decode}
use Rattle.pool_state.specs.Rules.{answer_as}
use Rattle.listing.specs.Calls.{list_rule, rows_after}
use Rattle.rangelist.specs.Calls as ranges
use Rattle.setfile.specs.Calls.{save_rule, bytes_after}
use Rattle.salvage.specs.Calls.{salvage_rule, salvage_left}
use Rattle.text.specs.Answers.{none_written, over_bytes}
use Rattle.text_either.specs.Either.{line_either, either_refusal}
use Rattle.calls_bytes.specs.Bytes.{u64_bytes}
use Rattle.calls_bytes.specs.Tails.{row_bytes}
use Rattle.calls_bytes.specs.declared.Call.{Call}
use Rattle.calls_bytes.specs.declared.Reply.{Reply}
use Rattle.calls_replies.specs.Replies.{one_reply, write_reply, salvage_reply}
use Rattle.nets.specs.declared.Refusal.{Refusal}

-- the rows that are lent; networks or ranges, by the code
abbrev pub lent_rows : Call → List ℕ
lent_rows c = replicate c.b c.c

abbrev pub asks_ranges : Call → Bool
asks_ranges c = eqb c.code 28

unfoldable pub rows_of : List ℕ → Call → List ℕ
rows_of w c = cond (asks_ranges c) (ranges.rows_after (lent_rows c) (decode w) c.a) (rows_after (lent_rows c) (decode w) c.a)

unfoldable pub list_reply : List ℕ → Call → Reply
list_reply w c = one_reply (cond (asks_ranges c) (ranges.ranges_rule (decode w) c.a c.b) (list_rule (decode w) c.a c.b))

-- the bytes that are lent
abbrev pub lent_bytes : Call → List ℕ
lent_bytes c = replicate c.b (c.c % 256)

unfoldable pub line_bytes : Call → List ℕ
line_bytes c = cond (eqb (either_refusal c.net c.b) 0) (over_bytes (line_either c.net) (lent_bytes c)) (lent_bytes c)

unfoldable pub line_reply : Call → Reply
line_reply c = write_reply (answered (either_refusal c.net c.b) none_written (length (line_either c.net), has_bit_past c.net))

unfoldable pub save_bytes : List ℕ → Call → List ℕ
save_bytes w c = bytes_after (lent_bytes c) (decode w) c.a

unfoldable pub save_reply : List ℕ → Call → Reply
save_reply w c = one_reply (save_rule (decode w) c.a c.b)

-- the file is the tail of s
unfoldable pub mend_bytes : Call → List ℕ → List ℕ
mend_bytes c s = salvage_left (drop 35 s) (lent_bytes c)

unfoldable pub mend_reply : Call → List ℕ → Reply
mend_reply c s = salvage_reply (salvage_rule (drop 35 s) c.b)

-- the rows v, lent for such a call, are u afterwards, and a is the answer
pub record RowsBy (w : List ℕ) (c : Call) (v : List ℕ) (a : Result ℕ Refusal) (u : List ℕ) : Type 0 where
  pub answer : answer_as a ≡ cond (asks_ranges c) (ranges.ranges_rule (decode w) c.a (length v)) (list_rule (decode w) c.a (length v))
  pub rows : u ≡ cond (asks_ranges c) (ranges.rows_after v (decode w) c.a) (rows_after v (decode w) c.a)

pub record Listing (w v : List ℕ) (c : Call) (o : List ℕ) (at : ℕ) (r : Reply) (v' o' : List ℕ) : Type 0 where
  pub reply : r ≡ list_reply w c
  pub rows : v' ≡ put v 0 (rows_of w c)
  pub tail : o' ≡ put o at (row_bytes u64_bytes (rows_of w c))

pub record Lining (c : Call) (o : List ℕ) (at : ℕ) (r : Reply) (o' : List ℕ) : Type 0 where
  pub reply : r ≡ line_reply c
  pub tail : o' ≡ put o at (line_bytes c)

pub record Saving (w : List ℕ) (c : Call) (o : List ℕ) (at : ℕ) (r : Reply) (o' : List ℕ) : Type 0 where
  pub reply : r ≡ save_reply w c
  pub tail : o' ≡ put o at (save_bytes w c)

pub record Mending (c : Call) (s o : List ℕ) (at : ℕ) (r : Reply) (o' : List ℕ) : Type 0 where
  pub reply : r ≡ mend_reply c s
  pub tail : o' ≡ put o at (mend_bytes c s)
