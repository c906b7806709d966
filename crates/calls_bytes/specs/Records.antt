-- The bytes of a call before its tail, and of an answer before its own: docs/CALLS.md.
--
--   net_at s p, call_at s p      the network, and the call, that stands in the bytes s from p on
--   net_bytes n, reply_bytes r   the eighteen bytes of a network, and the twenty-eight of an answer
use Rattle.std.specs.Prelude.{cond, List, [], ◌∷◌, ◌++◌, ℕ, ◌+◌, get_or}
use Rattle.nets.specs.declared.Net.{Net}
use Rattle.nets.specs.Networks.{net_words}
use Rattle.calls_bytes.specs.Bytes.{u32_at, u64_at, u32_bytes, u64_bytes}
use Rattle.calls_bytes.specs.declared.Call.{Call}
use Rattle.calls_bytes.specs.declared.Reply.{Reply}

unfoldable pub net_at : List ℕ → ℕ → Net
net_at s p = net_words (get_or s p 0) (u64_at s (p + 1)) (u64_at s (p + 9)) (get_or s (p + 17) 0)

unfoldable pub call_at : List ℕ → ℕ → Call
call_at s p =
    record { code = get_or s p 0; a = u32_at s (p + 1); b = u32_at s (p + 5); c = u32_at s (p + 9); net = net_at s (p + 13); tail = u32_at s (p + 31) }

unfoldable pub net_bytes : Net → List ℕ
net_bytes n = n.family ∷ (u64_bytes n.hi ++ (u64_bytes n.lo ++ (n.len ∷ [])))

-- the number, the flag and the two numbers of an answer
unfoldable pub head_bytes : Reply → List ℕ
head_bytes r = r.no ∷ cond r.flag 1 0 ∷ (u32_bytes r.x ++ u32_bytes r.y)

unfoldable pub reply_bytes : Reply → List ℕ
reply_bytes r = head_bytes r ++ net_bytes r.net
