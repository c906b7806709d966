-- The longest run: it stands where it is said to stand, no run is longer, and every one before it is shorter. Assumes nothing.
use mathlib.Core.Bool.{Bool, true, false, cond}
use mathlib.Core.List.{List, [], ◌∷◌}
use mathlib.Core.Path.{◌≡◌, refl, sym}
use Prim.Native.Nat.{ℕ, zero, suc, ◌+◌, ◌≤◌, ◌<◌}
use native.Mathlib.Omega.{arith}
use lib.Dec.{eqb, leb, ltb}
use lib.ListN.{length, drop, get_or, length-drop, drop_of_length-le}
use lib.Seq.{drop-nil, drop-cons, get_or-drop}
use borrow.Author.Tests.{leb-true, leb-false, eqb-true, eq-eqb, ltb-true, ltb-false}
use Rattle.text_ipv6_write.specs.Ipv6.{zeros, better, longest_from, longest}
use Rattle.text_ipv6_write.specs.Rfc5952.{Zeros, Shortens}

pub zeros-few : (gs : List ℕ) → zeros gs ≤ length gs
unfolding zeros
zeros-few [] = omega arith
zeros-few (g ∷ gs) = go (eqb g 0) (zeros-few gs)
  where
    go : (b : Bool) → zeros gs ≤ length gs → cond b (suc (zeros gs)) 0 ≤ suc (length gs)
    go true h = omega arith
    go false h = omega arith

zeros-nil : (i : ℕ) → zeros (drop i []) ≡ 0
unfolding zeros
zeros-nil i = rw (drop-nil i)

-- r is the longest run of gs, which stand from k on, and stands at j of them
pub record Longest (k : ℕ) (gs : List ℕ) (r : ℕ × ℕ) : Type 0 where
  pub j : ℕ
  pub place : r.0 ≡ k + j
  pub within : j ≤ length gs
  pub count : zeros (drop j gs) ≡ r.1
  pub most : (i : ℕ) → zeros (drop i gs) ≤ r.1
  pub first : (i : ℕ) → i < j → zeros (drop i gs) < r.1

longest-here : (k g : ℕ) (gs : List ℕ) (r : ℕ × ℕ) → Longest (suc k) gs r → r.1 ≤ zeros (g ∷ gs) → Longest k (g ∷ gs) (k, zeros (g ∷ gs))
longest-here k g gs r h e = record { j = 0; place = omega arith; within = omega arith; count = refl; most = most; first = λ i l. absurd (omega arith) }
  where
    most : (i : ℕ) → zeros (drop i (g ∷ gs)) ≤ zeros (g ∷ gs)
    most zero = omega arith
    most (suc i) = omega (arith, h.most i)

longest-behind : (k g : ℕ) (gs : List ℕ) (r : ℕ × ℕ) → Longest (suc k) gs r → zeros (g ∷ gs) < r.1 → Longest k (g ∷ gs) r
longest-behind k g gs r h e =
    record { j = suc h.j; place = omega (arith, h.place); within = omega (arith, h.within); count = h.count; most = most; first = first }
  where
    most : (i : ℕ) → zeros (drop i (g ∷ gs)) ≤ r.1
    most zero = omega arith
    most (suc i) = h.most i

    first : (i : ℕ) → i < suc h.j → zeros (drop i (g ∷ gs)) < r.1
    first zero l = e
    first (suc i) l = h.first i (omega arith)

pub longest-is : (k : ℕ) (gs : List ℕ) → Longest k gs (longest_from k gs)
unfolding longest_from
longest-is k [] = record { j = 0; place = omega arith; within = omega arith; count = zeros-nil 0; most = most; first = λ i l. absurd (omega arith) }
  where
    most : (i : ℕ) → zeros (drop i []) ≤ 0
    most i = omega (arith, zeros-nil i)
longest-is k (g ∷ gs) = go (leb (longest_from (suc k) gs).1 (zeros (g ∷ gs))) refl (longest-is (suc k) gs)
  where
    go : (b : Bool) → leb (longest_from (suc k) gs).1 (zeros (g ∷ gs)) ≡ b → Longest (suc k) gs (longest_from (suc k) gs)
        → Longest k (g ∷ gs) (cond b (k, zeros (g ∷ gs)) (longest_from (suc k) gs))
    go true e h = longest-here k g gs (longest_from (suc k) gs) h (leb-true (longest_from (suc k) gs).1 (zeros (g ∷ gs)) e)
    go false e h = longest-behind k g gs (longest_from (suc k) gs) h (leb-false (longest_from (suc k) gs).1 (zeros (g ∷ gs)) e)

-- The groups that are counted, one by one.
zeros-at : (gs : List ℕ) (i : ℕ) → i < zeros gs → get_or gs i 1 ≡ 0
unfolding zeros
zeros-at [] i h = absurd (omega arith)
zeros-at (g ∷ gs) i h = go (eqb g 0) refl i h (zeros-at gs)
  where
    go : (b : Bool) → eqb g 0 ≡ b → (i : ℕ) → i < cond b (suc (zeros gs)) 0 → ((j : ℕ) → j < zeros gs → get_or gs j 1 ≡ 0) → get_or (g ∷ gs) i 1 ≡ 0
    go true e zero h f = eqb-true g 0 e
    go true e (suc i) h f = f i (omega arith)
    go false e i h f = absurd (omega arith)

zeros-least : (gs : List ℕ) (n : ℕ) → ((i : ℕ) → i < n → get_or gs i 1 ≡ 0) → n ≤ zeros gs
unfolding zeros
zeros-least gs zero f = omega arith
zeros-least [] (suc n) f = absurd (omega (arith, f 0 (omega arith)))
zeros-least (g ∷ gs) (suc n) f =
    let e : g ≡ 0 = f 0 (omega arith) in
    rw (eq-eqb g 0 e) (omega (arith, zeros-least gs n (λ i h. f (suc i) (omega arith))))

pub zeros-is : (gs : List ℕ) (k n : ℕ) → n ≤ zeros (drop k gs) → Zeros gs k n
unfolding Zeros
zeros-is gs k n h = λ i l. rw (← get_or-drop k gs i 1) (zeros-at (drop k gs) i (omega arith))

pub is-zeros : (gs : List ℕ) (k n : ℕ) → Zeros gs k n → n ≤ zeros (drop k gs)
unfolding Zeros
is-zeros gs k n f = zeros-least (drop k gs) n (λ i l. rw (get_or-drop k gs i 1) (f i l))

-- The run that is found is the one that the RFC asks for, where it has two groups; and there is no other.
pub longest-shortens : (gs : List ℕ) → 2 ≤ (longest gs).1 → Shortens gs (longest gs).0 (longest gs).1
longest-shortens gs h =
    let l = longest-is 0 gs in
    let r = longest gs in
    let e : r.0 ≡ l.j = omega (arith, l.place) in
    record {
      zeros = zeros-is gs r.0 r.1 (rw e (omega (arith, l.count)));
      several = h;
      longest = λ j m z. omega (arith, is-zeros gs j m z, l.most j);
      first = λ j z. not-before j (ltb j r.0) refl (is-zeros gs j r.1 z);
    }
  where
    not-before : (j : ℕ) (b : Bool) → ltb j (longest gs).0 ≡ b → (longest gs).1 ≤ zeros (drop j gs) → (longest gs).0 ≤ j
    not-before j true e h = absurd (omega (arith, (longest-is 0 gs).first j (omega (arith, ltb-true j (longest gs).0 e, (longest-is 0 gs).place))))
    not-before j false e h = ltb-false j (longest gs).0 e

pub shortens-one : (gs : List ℕ) (k n j m : ℕ) → Shortens gs k n → Shortens gs j m → (k ≡ j) × (n ≡ m)
shortens-one gs k n j m a b =
    let e : n ≡ m = omega (arith, a.longest j m b.zeros, b.longest k n a.zeros) in
    let f : k ≤ j = a.first j (rw e b.zeros) in
    let g : j ≤ k = b.first k (rw (sym e) a.zeros) in
    (omega arith, e)

pub longest-none : (gs : List ℕ) → (longest gs).1 < 2 → (j : ℕ) → Zeros gs j 2 → ⊥
longest-none gs h j z = omega (arith, is-zeros gs j 2 z, (longest-is 0 gs).most j)

-- it ends within the groups
pub longest-within : (gs : List ℕ) → (longest gs).0 + (longest gs).1 ≤ length gs
longest-within gs =
    let l = longest-is 0 gs in
    omega (arith, l.place, l.within, l.count, zeros-few (drop l.j gs), length-drop l.j gs)

-- Found from the last group to the first: how many zeros stand from k on, and the longest run there.
pub record Seen (gs : List ℕ) (k here : ℕ) (best : ℕ × ℕ) : Type 0 where
  pub room : here + k ≤ 8
  pub count : here ≡ zeros (drop k gs)
  pub run : best ≡ longest_from k (drop k gs)

seen_none : (gs : List ℕ) (k : ℕ) → k ≤ 8 → drop k gs ≡ [] → Seen gs k 0 (k, 0)
unfolding zeros longest_from
seen_none gs k h e = record { room = omega arith; count = rw e; run = rw e }

module _ (gs : List ℕ) (eight : length gs ≡ 8) where
  pub seen_start : Seen gs 8 0 (8, 0)
  seen_start = let h : length gs ≤ 8 = omega arith in seen_none gs 8 (omega arith) (drop_of_length-le gs h)

  pub seen_step : (k j here n : ℕ) (best r : ℕ × ℕ) → k ≡ suc j → Seen gs k here best
      → n ≡ cond (eqb (get_or gs j 0) 0) (suc here) 0 → r ≡ better (j, n) best → Seen gs j n r
  unfolding zeros longest_from
  seen_step k j here n best r e s f h =
      let d = drop-cons gs j 0 (omega (arith, s.room)) in
      let z : here ≡ zeros (drop (suc j) gs) = rw (← e) s.count in
      let b : best ≡ longest_from (suc j) (drop (suc j) gs) = rw (← e) s.run in
      let q : n ≡ zeros (drop j gs) = rw (d, ← z) f in
      record { room = omega (arith, zeros-few (drop j gs), length-drop j gs); count = q; run = rw (d, ← b, ← z, ← f) h }

pub seen_all : (gs : List ℕ) (k here : ℕ) (best : ℕ × ℕ) → k ≤ 0 → Seen gs k here best → best ≡ longest gs
seen_all gs zero here best h s = s.run
seen_all gs (suc k) here best h s = absurd (omega arith)
