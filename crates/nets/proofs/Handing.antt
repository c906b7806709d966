-- The bits that an iterator hands out, one by one: none is left, or the next and those behind it, one fewer. Assumes nothing.
use mathlib.Core.Path.{◌≡◌, refl, ap, sym, ◌∙◌}
use mathlib.Core.Bool.{Bool, cond}
use mathlib.Core.List.{[], ◌∷◌}
use Prim.Native.Nat.{ℕ, zero, suc, ◌+◌, ◌≤◌}
use native.Mathlib.Omega.{arith}
use lib.Dec.{eqb-suc-zero}
use lib.ListN.{length}
use lib.Seq.{length-take-le}
use Rattle.nets.specs.Bits.{bits}
use Rattle.nets.specs.Networks.{value, bits_left, next_as, next_of, handed}
use Rattle.nets.specs.declared.PrefixBits.{PrefixBits}
use Rattle.nets.proofs.Numbers.{length-bits, bits_left-next}
use Rattle.std.specs.Prelude.{Option, Some, None}

-- how many bits an answer tells of
abbrev count : ℕ × (Bool × (Bool × PrefixBits)) → ℕ
count a = cond a.1.0 (a.1.1.1.len + 1) 0

count_next : (s : PrefixBits) → s.len ≡ count (next_of s)
unfolding next_of
count_next s = go s.len refl
  where
    go : (k : ℕ) → s.len ≡ k → s.len ≡ count (next_of s)
    go zero e = rw e
    go (suc k) e = rw (e, eqb-suc-zero k) (omega arith)

pub len-next : (s later : PrefixBits) (bit : Bool) → next_of s ≡ next_as (Some (bit, later)) → s.len ≡ later.len + 1
len-next s later bit e = count_next s ∙ ap count e

pub bits-end : (s : PrefixBits) → s.len ≤ 128 → next_of s ≡ next_as None → bits_left s ≡ []
bits-end s h e = bits_left-next s h ∙ ap handed e

pub bits-next : (s later : PrefixBits) (bit : Bool) → s.len ≤ 128 → next_of s ≡ next_as (Some (bit, later)) → bits_left s ≡ bit ∷ bits_left later
bits-next s later bit h e = bits_left-next s h ∙ ap handed e

pub length-bits_left : (s : PrefixBits) → s.len ≤ 128 → length (bits_left s) ≡ s.len
unfolding bits_left
length-bits_left s h = length-take-le s.len (bits 128 (value s.hi s.lo)) (omega (arith, length-bits 128 (value s.hi s.lo)))

-- s hands out the bit d, and then what q does
pub record Hands (s : PrefixBits) (d : Bool) (q : PrefixBits) : Type 0 where
  pub bits : bits_left s ≡ d ∷ bits_left q
  pub len : s.len ≡ q.len + 1

pub hands : (s : PrefixBits) (d : Bool) (q : PrefixBits) (x : Option (Bool × PrefixBits)) → s.len ≤ 128 → next_as x ≡ next_of s → x ≡ Some (d, q) → Hands s d q
hands s d q x h n e = record { bits = bits-next s q d h (sym n ∙ ap next_as e); len = len-next s q d (sym n ∙ ap next_as e) }

pub hands-bit : {s q : PrefixBits} {d e : Bool} → d ≡ e → Hands s d q → Hands s e q
hands-bit e h = rw e at h

pub hands_end : (s : PrefixBits) (x : Option (Bool × PrefixBits)) → s.len ≤ 128 → next_as x ≡ next_of s → x ≡ None → bits_left s ≡ []
hands_end s x h n e = bits-end s h (sym n ∙ ap next_as e)
