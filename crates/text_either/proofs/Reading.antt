-- Lines of either family are read exactly where they are one, each as the network of its family's grammar; no line is one of both. Assumes nothing.
use mathlib.Core.Bool.{Bool, true, false}
use mathlib.Core.List.{List}
use mathlib.Core.Logic.{◌↔◌, ◌⊎◌, inl, inr, ⊎_elim}
use mathlib.Core.Path.{◌≡◌, refl, ap, sym, ◌∙◌}
use Prim.Native.Nat.{ℕ, ◌<◌}
use native.Mathlib.Omega.{arith}
use lib.Dec.{eqb}
use lib.ListN.{length}
use borrow.Author.Tests.{eqb-true, ne_eqb}
use Rattle.nets.proofs.Answers.{number-some, entered_as-one}
use Rattle.nets.specs.Networks.{refusal_of, no_net, taken_as, no_entry, entered_as, entered}
use Rattle.nets.specs.Refusals.{number}
use Rattle.nets.specs.declared.Net.{Net}
use Rattle.nets.specs.declared.Refusal.{Refusal}
use Rattle.text.specs.Ipv4.{IsLine, bad_text, read_line}
use Rattle.text.proofs.Answers.{taken_in-network, taken_in-refused}
use Rattle.text.proofs.Grammar.{bad_text-some, read_line-accepts, read_line-refuses, read_line-long}
use Rattle.text.proofs.RoundTrip.{read_line-granted}
use Rattle.text_ipv6_read.specs.Ipv6.{IsLine6}
use Rattle.text_ipv6_read.specs.Reader.{read_line6}
use Rattle.text_ipv6_read.proofs.Grammar.{read_line6-accepts, read_line6-refuses, read_line6-other}
use Rattle.text_ipv6_read.proofs.Answers.{read_line6-granted, read_line6-long}
use Rattle.text_either.specs.Either.{IsEither, read_either, entered_either}
use Rattle.std.specs.Prelude.{Result, Ok, Err}

-- No line is one of both families.
pub either-apart : (s : List ℕ) (m n : Net) → IsLine s m → IsLine6 s n → ⊥
either-apart s m n a b = bad_text-some n (sym (read_line6-other s m ((read_line-accepts s m).1 a)) ∙ (read_line6-accepts s n).1 b)

-- What is read by the first grammar, and by the second where the first refuses.
read_either-4 : (s : List ℕ) (n : Net) → read_line s ≡ (0, n) → read_either s ≡ (0, n)
unfolding read_either
read_either-4 s n e = rw e

read_either-6 : (s : List ℕ) (k : ℕ) (n : Net) → (k ≡ 0 → ⊥) → read_line s ≡ (k, n) → read_either s ≡ read_line6 s
unfolding read_either
read_either-6 s k n h e = rw (e, ne_eqb k 0 h)

bad-some : (k : ℕ) → k ≡ 4 → k ≡ 0 → ⊥
bad-some k e f = omega arith

read_either-refused : (s : List ℕ) → read_line s ≡ bad_text → read_either s ≡ read_line6 s
read_either-refused s e = read_either-6 s 4 no_net (bad-some 4 refl) e

pub either-network : {t : (Result Net Refusal)} {n : Net} (s : List ℕ) → t ≡ Ok n → taken_as t ≡ read_line s → (0, n) ≡ read_either s
either-network {t} {n} s e h = sym (read_either-4 s n (sym h ∙ ap taken_as e))

pub either-other : {t : (Result Net Refusal)} {x : Refusal} (s : List ℕ) (r : Result Net Refusal) → t ≡ Err x → taken_as t ≡ read_line s → taken_as r ≡ read_line6 s
    → taken_as r ≡ read_either s
either-other {t} {x} s r e h k = k ∙ sym (read_either-6 s (number x) no_net (number-some x) (sym h ∙ ap taken_as e))

-- Which one it was.

answers-4 : (s : List ℕ) → ((read_line s).0 ≡ 0) ⊎ (read_either s ≡ read_line6 s)
unfolding read_either
answers-4 s = go (eqb (read_line s).0 0) refl
  where
    go : (b : Bool) → eqb (read_line s).0 0 ≡ b → ((read_line s).0 ≡ 0) ⊎ (read_either s ≡ read_line6 s)
    go true e = inl (eqb-true (read_line s).0 0 e)
    go false e = inr (rw e)

read_either-is : (s : List ℕ) (n : Net) → read_either s ≡ (0, n) → IsEither s n
read_either-is s n e = ⊎_elim first second (answers-4 s)
  where
    first : (read_line s).0 ≡ 0 → IsEither s n
    first h =
        let m = (read_line s).1 in
        let q : read_line s ≡ (0, m) = ap (λ k. (k, m)) h in
        inl ((read_line-accepts s n).0 (q ∙ sym (read_either-4 s m q) ∙ e))

    second : read_either s ≡ read_line6 s → IsEither s n
    second h = inr ((read_line6-accepts s n).0 (sym h ∙ e))

is-read_either : (s : List ℕ) (n : Net) → IsEither s n → read_either s ≡ (0, n)
is-read_either s n l =
    ⊎_elim (λ a. read_either-4 s n ((read_line-accepts s n).1 a))
    (λ b. read_either-refused s (read_line-refuses s (λ m a. either-apart s m n a b)) ∙ (read_line6-accepts s n).1 b) l

-- A line is accepted exactly if it is one of either grammar, with its network, and refused otherwise.
pub read_either-accepts : (s : List ℕ) (n : Net) → (read_either s ≡ (0, n)) ↔ IsEither s n
read_either-accepts s n = (read_either-is s n, is-read_either s n)

pub read_either-refuses : (s : List ℕ) → ((n : Net) → IsEither s n → ⊥) → read_either s ≡ bad_text
read_either-refuses s h = read_either-refused s (read_line-refuses s (λ n a. h n (inl a))) ∙ read_line6-refuses s (λ n b. h n (inr b))

-- The family that the line tells, and that its network is one.
pub read_either-family : (s : List ℕ) (n : Net) → read_either s ≡ (0, n) → (IsLine s n × (n.family ≡ 4)) ⊎ (IsLine6 s n × (n.family ≡ 6))
read_either-family s n e =
    ⊎_elim (λ a. inl (a, (read_line-granted s n ((read_line-accepts s n).1 a)).0)) (λ b. inr (b, (read_line6-granted s n ((read_line6-accepts s n).1 b)).0)) (read_either-is s n e)

pub read_either-granted : (s : List ℕ) (n : Net) → read_either s ≡ (0, n) → refusal_of n ≡ 0
read_either-granted s n e =
    ⊎_elim (λ a. (read_line-granted s n ((read_line-accepts s n).1 a)).1) (λ b. (read_line6-granted s n ((read_line6-accepts s n).1 b)).1) (read_either-is s n e)

-- It is taken in, and what is refused is refused.
pub entered_either-network : {t : (Result Net Refusal)} {n : Net} (s : List ℕ) (r : Result (Net × Bool) Refusal) → t ≡ Ok n → taken_as t ≡ read_either s → entered_as r ≡ entered n
    → entered_as r ≡ entered_either s
unfolding entered_either
entered_either-network {t} {n} s r e h k = taken_in-network (read_either s) r e h (read_either-granted s n (sym h ∙ ap taken_as e)) k

pub entered_either-refused : {t : (Result Net Refusal)} {x : Refusal} (s : List ℕ) → t ≡ Err x → taken_as t ≡ read_either s → (number x, no_entry) ≡ entered_either s
unfolding entered_either
entered_either-refused s e h = taken_in-refused (read_either s) e h

pub entered_either-no : (s : List ℕ) → (entered_either s).0 ≡ (read_either s).0
unfolding entered_either
entered_either-no s = refl

pub read-determined : (s : List ℕ) (r t : Result (Net × Bool) Refusal) → entered_as r ≡ entered_either s → entered_as t ≡ entered_either s → r ≡ t
read-determined s r t e f = entered_as-one r t (e ∙ sym f)

-- No line of either family has more than 49 bytes.
pub read_either-long : (s : List ℕ) → 49 < length s → read_either s ≡ bad_text
read_either-long s h = read_either-refused s (read_line-long s (omega arith)) ∙ read_line6-long s h
