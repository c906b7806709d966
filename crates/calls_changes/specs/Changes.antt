-- What the calls that change the pool answer and leave. w are the pool's words, s the bytes of the call, c its fixed part.
--
--   change_of w c        the calls that change a set: 8 to 13 and 25 to 27
--   layout_of w c s, write_of w c s     layout, 1, and words written over the pool's, 48
use Rattle.std.specs.Prelude.{cond, List, ℕ, ◌+◌, ◌*◌, ◌/◌, ◌%◌, eqb}
use Rattle.nets.specs.Bits.{Bits}
use Rattle.nets.specs.Lists.{merge_l, intersect_l, difference_l, exclude_l}
use Rattle.nodes.specs.Words.{put}
use Rattle.pool_state.specs.Rules.{setup, layout_no, laid}
use Rattle.pool_state.specs.Changes.{set_at, list_at, planned, plan_rules, marked, mark_rules}
use Rattle.change.specs.Calls.{list_with, list_without}
use Rattle.change.specs.Simplified.{list_simple, no_args}
use Rattle.combine.specs.Rules.{combine_rules}
use Rattle.calls_bytes.specs.Tails.{numbers_from}
use Rattle.calls_bytes.specs.declared.Call.{Call}
use Rattle.calls_bytes.specs.declared.Reply.{Reply}
use Rattle.calls_replies.specs.Replies.{no_reply, changed, relisted, relisted_by}

-- the list that a call makes of sets b and c goes to set a
abbrev pub combined : (List Bits → List Bits → List Bits) → List ℕ → Call → Reply × List ℕ
combined L w c = relisted w c.a (combine_rules c.a c.b c.c) (λ S. L (list_at S c.b) (list_at S c.c))

unfoldable pub change_of : List ℕ → Call → Reply × List ℕ
change_of w c =
    cond (eqb c.code 8) (relisted_by c.net w c.a (list_with c.a c.net))
    (cond (eqb c.code 9) (relisted_by c.net w c.a (list_without c.a c.net))
    (cond (eqb c.code 10) (relisted w c.a no_args (list_simple c.a))
    (cond (eqb c.code 11) (combined merge_l w c)
    (cond (eqb c.code 12) (combined intersect_l w c)
    (cond (eqb c.code 13) (combined exclude_l w c)
    (cond (eqb c.code 25) (combined difference_l w c)
    (cond (eqb c.code 26) (changed w c.a (plan_rules c.a c.b c.c) (λ S. planned (set_at S c.a) c.b c.c))
    (changed w c.a (mark_rules c.a) (λ S. marked (set_at S c.a))))))))))

-- the shares and the limits that stand in the tail; c has the limits' count in its lowest byte, and above it the form
abbrev pub shares_of : Call → List ℕ → List ℕ
shares_of c s = numbers_from s 35 c.net.len

abbrev pub limits_of : Call → List ℕ → List ℕ
limits_of c s = numbers_from s (35 + 4 * c.net.len) (c.c % 256)

-- the answer of layout, and the words that it leaves; o is the form
abbrev pub laid_by : List ℕ → ℕ → ℕ → ℕ → ℕ → List ℕ → List ℕ → ℕ → Reply × List ℕ
laid_by w f o n m xs ys x = let p = setup f o n m xs ys x in (no_reply (layout_no w p), cond (eqb (layout_no w p) 0) (laid w p) w)

unfoldable pub layout_of : List ℕ → Call → List ℕ → Reply × List ℕ
layout_of w c s = laid_by w c.net.family (c.c / 256) c.a c.b (shares_of c s) (limits_of c s) c.net.hi

unfoldable pub write_of : List ℕ → Call → List ℕ → Reply × List ℕ
write_of w c s = (no_reply 0, put w c.a (numbers_from s 35 (c.tail / 4)))
