-- The answers of the calls as records of bytes: the number first, and zeros where nothing is answered.
--
--   no_reply k, one_reply, two_reply, flag_reply, net_reply, found_reply, bits_reply     a number of the table with no value, one number, two, a flag, a network, one that
--                                                                                 may be missing, what a bit iterator has left
--   bit_reply            the step of the bit iterator
--   reported b          the report of a call that takes a network in, in y: 1 where a set bit past the length was cut, else 0
--   enter_reply, write_reply     a network with the report; one number with it, also of add and remove
--   cover_reply, contain_reply     a lookup: whether there is a member, the member, the nodes that were read, and the report
--   compared_reply       of two files: the flag says that they differ, x is which answer it is, and the address is a network
--   salvage_reply        the counts of a salvage
--   told_reply           the answers by a flag;  entry_reply: one number, and an entry of a page
--   changed w k rs f    a changing call on set k: its answer, and the words that it leaves;  relisted w k a f: one that gives it a list
--   reporting n w k rs f     a changing call that takes the network n in: with the report, where it is granted;  relisted_by n w k f: one that gives set k a list
use Rattle.std.specs.Prelude.{Bool, false, cond, ◌&&◌, ◌||◌, List, ℕ, ◌+◌, ◌*◌, eqb, Result}
use Rattle.nets.specs.Bits.{Bits}
use Rattle.nets.specs.Networks.{net_words, no_net, has_bit_past}
use Rattle.nets.specs.Refusals.{Rule}
use Rattle.nets.specs.declared.Net.{Net}
use Rattle.nets.specs.declared.PrefixBits.{PrefixBits}
use Rattle.pool_state.specs.States.{SetState, State}
use Rattle.pool_state.specs.Decode.{decode}
use Rattle.pool_state.specs.Rules.{told_as}
use Rattle.pool_state.specs.Changes.{change_rule, words_after, relist_rules, relist_set, net_rules}
use Rattle.lookup.specs.Rules.{Sought, Held}
use Rattle.salvage.specs.declared.Counts.{Counts}
use Rattle.calls_bytes.specs.declared.Reply.{Reply}
use Rattle.nets.specs.declared.Refusal.{Refusal}

abbrev pub reply : ℕ → Bool → ℕ → ℕ → Net → Reply
reply k flag x y net = record { no = k; flag = flag; x = x; y = y; net = net }

abbrev pub no_reply : ℕ → Reply
no_reply k = reply k false 0 0 no_net

abbrev pub one_reply : ℕ × ℕ → Reply
one_reply a = reply a.0 false a.1 0 no_net

abbrev pub two_reply : ℕ × (ℕ × ℕ) → Reply
two_reply a = reply a.0 false a.1.0 a.1.1 no_net

abbrev pub flag_reply : ℕ × Bool → Reply
flag_reply a = reply a.0 a.1 0 0 no_net

abbrev pub net_reply : ℕ × Net → Reply
net_reply a = reply a.0 false 0 0 a.1

abbrev pub found_reply : ℕ × (Bool × Net) → Reply
found_reply a = reply a.0 a.1.0 0 0 a.1.1

abbrev pub reported : Bool → ℕ
reported b = cond b 1 0

abbrev pub enter_reply : ℕ × (Net × Bool) → Reply
enter_reply a = reply a.0 false 0 (reported a.1.1) a.1.0

abbrev pub write_reply : ℕ × (ℕ × Bool) → Reply
write_reply a = reply a.0 false a.1.0 (reported a.1.1) no_net

abbrev pub cover_reply : ℕ × Sought → Reply
cover_reply a = reply a.0 a.1.0 a.1.1.1.0 (reported a.1.1.1.1) a.1.1.0

abbrev pub contain_reply : ℕ × Held → Reply
contain_reply a = reply a.0 a.1.0 a.1.1.0 (reported a.1.1.1) no_net

abbrev pub entry_reply : ℕ × ℕ → Net → Reply
entry_reply a n = reply a.0 false a.1 0 n

abbrev pub left_net : PrefixBits → Net
left_net s = net_words 0 s.hi s.lo s.len

abbrev pub bits_reply : ℕ × PrefixBits → Reply
bits_reply a = reply a.0 false 0 0 (left_net a.1)

abbrev pub bit_reply : ℕ × (Bool × (Bool × PrefixBits)) → Reply
bit_reply a = reply a.0 a.1.0 (cond a.1.1.0 1 0) 0 (left_net a.1.1.1)

abbrev pub compared_reply : ℕ × (ℕ × Net) → Reply
compared_reply a = reply a.0 (eqb a.1.0 1 || eqb a.1.0 2) a.1.0 0 a.1.1

-- bytes written, entries read, and in the words of the network those trimmed, and those dropped, for their length above and as covered below
abbrev pub salvage_reply : ℕ × Counts → Reply
salvage_reply a = reply a.0 false a.1.bytes a.1.read (net_words 0 a.1.trimmed (4294967296 * a.1.long + a.1.covered) 0)

abbrev pub told_reply : Result Bool Refusal → Reply
told_reply t = flag_reply (told_as t)

unfoldable pub changed : List ℕ → ℕ → (State → List Rule) → (State → SetState) → Reply × List ℕ
changed w k rs f = (one_reply (change_rule (decode w) k rs f), words_after w (decode w) k rs f)

-- one that gives it a list
abbrev pub relisted : List ℕ → ℕ → (State → List Rule) → (State → List Bits) → Reply × List ℕ
relisted w k a f = changed w k (relist_rules k a f) (relist_set k f)

-- with the report for the network n
unfoldable pub reporting : Net → List ℕ → ℕ → (State → List Rule) → (State → SetState) → Reply × List ℕ
reporting n w k rs f = let r = change_rule (decode w) k rs f in (write_reply (r.0, (r.1, eqb r.0 0 && has_bit_past n)), words_after w (decode w) k rs f)

abbrev pub relisted_by : Net → List ℕ → ℕ → (State → List Bits) → Reply × List ℕ
relisted_by n w k f = reporting n w k (relist_rules k (net_rules n) f) (relist_set k f)
