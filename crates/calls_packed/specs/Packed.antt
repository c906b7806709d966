-- An answer in one number, the same for every call that is exported by itself.
--
--   packed r           bits 0 to 31: the value x; from bit 32 on: the number of the refusal, 0 where it is granted; bit 48: the flag; bit 49: the report of a
--                      cut bit, which an answer has in y
--   row_after v r       three numbers v afterwards: the network of an answer that has one by its flag, else as they were
--   first_of, second_of  of an answer with two values the one or the other
--   line_reply a        the answer a of reading a line: the flag says that there is a network, and the value is its family
use Rattle.std.specs.Prelude.{Bool, false, cond, not, List, [], ◌∷◌, ℕ, ◌+◌, ◌*◌, eqb}
use Rattle.nets.specs.Networks.{no_net}
use Rattle.calls_bytes.specs.declared.Reply.{Reply}

abbrev pub bit : Bool → ℕ
bit b = cond b 1 0

unfoldable pub packed : Reply → ℕ
packed r = r.x + 4294967296 * r.no + 281474976710656 * bit r.flag + 562949953421312 * bit (not (eqb r.y 0))

unfoldable pub row_after : List ℕ → Reply → List ℕ
row_after v r = cond r.flag (r.net.hi ∷ r.net.lo ∷ r.net.len ∷ []) v

abbrev pub first_of : Reply → Reply
first_of r = record { no = r.no; flag = false; x = r.x; y = 0; net = no_net }

abbrev pub second_of : Reply → Reply
second_of r = record { no = r.no; flag = false; x = r.y; y = 0; net = no_net }

abbrev pub line_reply : Reply → Reply
line_reply r = record { no = r.no; flag = eqb r.no 0; x = r.net.family; y = r.y; net = r.net }
