-- The text of groups follows the rules of RFC 5952, and no other text of the same groups does. Assumes nothing.
use mathlib.Core.Bool.{Bool, true, false}
use mathlib.Core.List.{List}
use mathlib.Core.Path.{◌≡◌, refl, sym, ◌∙◌, ap}
use Prim.Native.Nat.{ℕ, ◌+◌, ◌≤◌, ◌<◌}
use native.Mathlib.Omega.{arith}
use lib.Dec.{ltb}
use lib.ListN.{take, drop}
use borrow.Author.Tests.{ltb-true, ltb-false}
use Rattle.text_decimal.specs.Spans.{all_of}
use Rattle.text_ipv6_write.specs.Ipv6.{longest, joined, digits, text_of}
use Rattle.text_ipv6_write.specs.Rfc5952.{Zeros, Shortens, Recommended, whole, shortened}
use Rattle.text_ipv6_write.proofs.Longest.{longest-shortens, shortens-one, longest-none}
use Rattle.text_ipv6_write.proofs.Texts.{text_of-whole, text_of-shortened}
use Rattle.text_ipv6_write.proofs.Plain.{is16, all_take, all_drop, writes-digits, writes-only}

pub recommended : (gs : List ℕ) → all_of is16 gs ≡ true → Recommended gs (text_of gs)
recommended gs h = go (ltb (longest gs).1 2) refl
  where
    go : (b : Bool) → ltb (longest gs).1 2 ≡ b → Recommended gs (text_of gs)
    go true e =
        let l = ltb-true (longest gs).1 2 e in
        whole (digits gs) (writes-digits gs h) (text_of-whole gs l) (longest-none gs l)
    go false e =
        let l = ltb-false (longest gs).1 2 e in
        let k = (longest gs).0 in
        let n = (longest gs).1 in
        shortened k n (digits (take k gs)) (digits (drop (k + n) gs)) (longest-shortens gs l) (writes-digits (take k gs) (all_take is16 k gs h))
        (writes-digits (drop (k + n) gs) (all_drop is16 (k + n) gs h)) (text_of-shortened gs l)

fewer : (gs : List ℕ) (k m n : ℕ) → m ≤ n → Zeros gs k n → Zeros gs k m
unfolding Zeros
fewer gs k m n h z = λ i l. z i (omega arith)

-- where some run may be shortened the longest has two groups, and where none may it has not
several : (gs : List ℕ) (k n : ℕ) → Shortens gs k n → 2 ≤ (longest gs).1
several gs k n s = go (ltb (longest gs).1 2) refl
  where
    go : (b : Bool) → ltb (longest gs).1 2 ≡ b → 2 ≤ (longest gs).1
    go true e = absurd (longest-none gs (ltb-true (longest gs).1 2 e) k (fewer gs k 2 n s.several s.zeros))
    go false e = ltb-false (longest gs).1 2 e

few : (gs : List ℕ) → ((j : ℕ) → Zeros gs j 2 → ⊥) → (longest gs).1 < 2
few gs f = go (ltb (longest gs).1 2) refl
  where
    go : (b : Bool) → ltb (longest gs).1 2 ≡ b → (longest gs).1 < 2
    go true e = ltb-true (longest gs).1 2 e
    go false e =
        let s = longest-shortens gs (ltb-false (longest gs).1 2 e) in
        absurd (f (longest gs).0 (fewer gs (longest gs).0 2 (longest gs).1 s.several s.zeros))

-- the choice of what to shorten is the longest run, and no other
pub shortens-only : (gs : List ℕ) (k n : ℕ) → Shortens gs k n → (k, n) ≡ longest gs
shortens-only gs k n s =
    let e = shortens-one gs k n (longest gs).0 (longest gs).1 s (longest-shortens gs (several gs k n s)) in
    rw (e.0, e.1)

pub recommended-only : (gs s : List ℕ) → all_of is16 gs ≡ true → Recommended gs s → s ≡ text_of gs
recommended-only gs s h (whole ds w e f) = e ∙ ap joined (writes-only ds gs h w) ∙ sym (text_of-whole gs (few gs f))
recommended-only gs s h (shortened k n left right c a b e) =
    let p = writes-only left (take k gs) (all_take is16 k gs h) a in
    let q = writes-only right (drop (k + n) gs) (all_drop is16 (k + n) gs h) b in
    let o = shortens-one gs k n (longest gs).0 (longest gs).1 c (longest-shortens gs (several gs k n c)) in
    e ∙ rw (p, q, o.0, o.1) (sym (text_of-shortened gs (several gs k n c)))
