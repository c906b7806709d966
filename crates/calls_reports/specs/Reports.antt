-- What the calls that read the pool answer, by their codes: 2 to 7, 14, 16, 22 to 24. w are the pool's words, c the fixed part of the call.
--
--   report_of w c        the answer; entry_of: that of an entry of a page; from_of: the place that next begins at
use Rattle.std.specs.Prelude.{cond, List, ℕ, ◌%◌, eqb, length, get_or, Option, Some, None}
use Rattle.nets.specs.Networks.{no_net}
use Rattle.pool_state.specs.Decode.{decode}
use Rattle.pool_state.specs.Rules.{free_rule, held_rule, plan_rule}
use Rattle.lookup.specs.Rules.{supernet_rule, contains_rule, empty_rule}
use Rattle.compare.specs.Rules.{equal_rule}
use Rattle.listing.specs.Calls.{next_rule}
use Rattle.walk.specs.Places.{nth_rule, last_rule}
use Rattle.netrows.specs.Rows.{row_rule, row_after, blank}
use Rattle.calls_bytes.specs.declared.Call.{Call}
use Rattle.calls_bytes.specs.declared.Reply.{Reply}
use Rattle.calls_replies.specs.Replies.{one_reply, two_reply, flag_reply, found_reply, cover_reply, contain_reply, entry_reply}
use Rattle.nets.specs.declared.Net.{Net}

abbrev pub from_of : Call → Option Net
from_of c = cond (eqb c.b 0) None (Some c.net)

-- entry b mod 16 of the page of set k
unfoldable pub entry_of : List ℕ → ℕ → ℕ → Reply
entry_of w k b = entry_reply (row_rule (decode w) k (length blank)) (get_or (row_after blank (decode w) k) (b % 16) no_net)

unfoldable pub report_of : List ℕ → Call → Reply
report_of w c =
    cond (eqb c.code 2) (one_reply (free_rule (decode w)))
    (cond (eqb c.code 3) (two_reply (held_rule (decode w) c.a))
    (cond (eqb c.code 4) (two_reply (plan_rule (decode w) c.a))
    (cond (eqb c.code 5) (cover_reply (supernet_rule w c.a c.net))
    (cond (eqb c.code 6) (contain_reply (contains_rule w c.a c.net))
    (cond (eqb c.code 7) (flag_reply (empty_rule w c.a))
    (cond (eqb c.code 14) (flag_reply (equal_rule (decode w) c.a c.b))
    (cond (eqb c.code 22) (found_reply (nth_rule (decode w) c.a c.b))
    (cond (eqb c.code 23) (found_reply (last_rule (decode w) c.a))
    (cond (eqb c.code 24) (entry_of w c.a c.b)
    (found_reply (next_rule (decode w) c.a (from_of c))))))))))))
