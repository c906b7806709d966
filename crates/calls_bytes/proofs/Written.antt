-- The bytes of a number, a network and an answer: how many there are.
use mathlib.Core.List.{List, ◌++◌}
use mathlib.Core.Path.{◌≡◌, refl, ◌∙◌}
use Prim.Native.Nat.{ℕ, ◌+◌}
use lib.ListN.{length}
use Rattle.nets.specs.declared.Net.{Net}
use Rattle.nodes.specs.Words.{put}
use Rattle.nodes.proofs.Put.{put-behind-at}
use Rattle.calls_bytes.specs.Bytes.{u16_bytes, u32_bytes, u64_bytes}
use Rattle.calls_bytes.specs.Records.{net_bytes, head_bytes, reply_bytes}
use Rattle.calls_bytes.specs.declared.Reply.{Reply}

pub length-u32 : (x : ℕ) → length (u32_bytes x) ≡ 4
unfolding u16_bytes u32_bytes
length-u32 x = refl

pub length-u64 : (x : ℕ) → length (u64_bytes x) ≡ 8
unfolding u16_bytes u32_bytes u64_bytes
length-u64 x = refl

pub length-net : (n : Net) → length (net_bytes n) ≡ 18
unfolding net_bytes u16_bytes u32_bytes u64_bytes
length-net n = refl

pub length-head : (r : Reply) → length (head_bytes r) ≡ 10
unfolding head_bytes u16_bytes u32_bytes
length-head r = refl

pub length-reply : (r : Reply) → length (reply_bytes r) ≡ 28
unfolding reply_bytes head_bytes net_bytes u16_bytes u32_bytes u64_bytes
length-reply r = refl

-- one write behind another is one write
pub behind : (w : List ℕ) (p q : ℕ) (xs ys : List ℕ) {v u : List ℕ} → v ≡ put w p xs → u ≡ put v q ys → q ≡ p + length xs → u ≡ put w p (xs ++ ys)
behind w p q xs ys {v} {u} e f g = f ∙ rw e (put-behind-at w p q xs ys g)
