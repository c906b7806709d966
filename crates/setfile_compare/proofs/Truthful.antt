-- Each answer is given exactly when it is true; the three exclude each other, and one always holds. "Shortest" is that of the shortest lists: no list of
-- networks that covers the same is shorter. Assumes nothing.
use mathlib.Core.Bool.{Bool, true, false, not, false≢true, beq as same}
use mathlib.Core.List.{List}
use mathlib.Core.Path.{◌≡◌, refl, ap, sym, ◌∙◌}
use Prim.Native.Nat.{ℕ, ◌≤◌, ◌<◌}
use Rattle.std.specs.Prelude.{Result, Ok, Err}
use native.Mathlib.Decide.{dec_lt}
use native.Mathlib.Omega.{arith}
use lib.ListN.{length}
use borrow.Author.Tests.{not-false}
use Rattle.nets.specs.Bits.{Bits, val}
use Rattle.nets.specs.Lists.{Found, found, missing, covers, is_list}
use Rattle.nets.specs.Networks.{width, net_from}
use Rattle.nets.specs.Shortest.{Exactly, Shortest}
use Rattle.nets.specs.declared.Refusal.{Refusal}
use Rattle.nets.proofs.Answers.{number-one}
use Rattle.nets.proofs.Strings.{same-is}
use Rattle.setfile_format.specs.Files.{file, read_file}
use Rattle.setfile_format.proofs.RoundTrip.{read_file-is}
use Rattle.setfile_compare.specs.declared.Holder.{Holder}
use Rattle.setfile_compare.specs.declared.Holder.TheVariants as holder
use Rattle.setfile_compare.specs.declared.Compared.{Compared}
use Rattle.setfile_compare.specs.declared.Compared.TheVariants as compare
use Rattle.setfile_compare.specs.Comparing.{least, differ, is_shortest, Values, holder_as, compared_as, by_address, verdict, compared}
use Rattle.setfile_compare.specs.Truths.{Holds, FirstAt, Truth}
use Rattle.setfile_compare.proofs.Smallest.{IsLeast, is-least, val-one}
use Rattle.setfile_compare.proofs.Tight.{shortest-true, true-shortest}
use Rattle.setfile_compare.proofs.Answers.{answer}

-- One answer has one number and values.
holder_as-one : (h k : Holder) → holder_as h ≡ holder_as k → h ≡ k
holder_as-one holder.First holder.First e = refl
holder_as-one holder.First holder.Second e = absurd (omega arith)
holder_as-one holder.Second holder.First e = absurd (omega arith)
holder_as-one holder.Second holder.Second e = refl

holder-few : (h : Holder) → (1 ≤ holder_as h) × (holder_as h ≤ 2)
holder-few holder.First = (omega arith, omega arith)
holder-few holder.Second = (omega arith, omega arith)

pub compared_as-one : (r s : Result Compared Refusal) → compared_as r ≡ compared_as s → r ≡ s
compared_as-one (Ok (compare.Differs h n)) (Ok (compare.Differs k o)) e = let p = holder_as-one h k (ap (λ z. z.1.0) e) in let q = ap (λ z. z.1.1) e in cc
compared_as-one (Ok (compare.Differs h n)) (Ok compare.Longer) e = absurd (omega (arith, ap (λ z. z.1.0) e, holder-few h))
compared_as-one (Ok (compare.Differs h n)) (Ok compare.Shortest) e = absurd (omega (arith, ap (λ z. z.1.0) e, holder-few h))
compared_as-one (Ok (compare.Differs h n)) (Err y) e = absurd (omega (arith, ap (λ z. z.1.0) e, holder-few h))
compared_as-one (Ok compare.Longer) (Ok (compare.Differs k o)) e = absurd (omega (arith, ap (λ z. z.1.0) e, holder-few k))
compared_as-one (Ok compare.Longer) (Ok compare.Longer) e = refl
compared_as-one (Ok compare.Longer) (Ok compare.Shortest) e = absurd (omega (arith, ap (λ z. z.1.0) e))
compared_as-one (Ok compare.Longer) (Err y) e = absurd (omega (arith, ap (λ z. z.1.0) e))
compared_as-one (Ok compare.Shortest) (Ok (compare.Differs k o)) e = absurd (omega (arith, ap (λ z. z.1.0) e, holder-few k))
compared_as-one (Ok compare.Shortest) (Ok compare.Longer) e = absurd (omega (arith, ap (λ z. z.1.0) e))
compared_as-one (Ok compare.Shortest) (Ok compare.Shortest) e = refl
compared_as-one (Ok compare.Shortest) (Err y) e = absurd (omega (arith, ap (λ z. z.1.0) e))
compared_as-one (Err x) (Ok (compare.Differs k o)) e = absurd (omega (arith, ap (λ z. z.1.0) e, holder-few k))
compared_as-one (Err x) (Ok compare.Longer) e = absurd (omega (arith, ap (λ z. z.1.0) e))
compared_as-one (Err x) (Ok compare.Shortest) e = absurd (omega (arith, ap (λ z. z.1.0) e))
compared_as-one (Err x) (Err y) e = let p = number-one x y (ap (λ z. z.0) e) in cc

-- Being the shortest of the same addresses.
shortest-of : (w : ℕ) (f g : Bits → Bool) (m : List Bits) → ((a : Bits) → length a ≡ w → f a ≡ g a) → Shortest w f m → Shortest w g m
shortest-of w f g m e s = record { exactly = λ a n. s.exactly a n ∙ e a n; fewest = λ k x. s.fewest k (λ a n. x a n ∙ sym (e a n)) }

-- Two answers that are true are one.
held-apart : (h : Holder) (l m : List Bits) (a : Bits) → Holds h l m a → covers l a ≡ covers m a → ⊥
held-apart holder.First l m a (p, q) e = false≢true (sym q ∙ sym e ∙ p)
held-apart holder.Second l m a (p, q) e = false≢true (sym p ∙ e ∙ q)

held_one : (h k : Holder) (l m : List Bits) (a : Bits) → Holds h l m a → Holds k l m a → h ≡ k
held_one holder.First holder.First l m a p q = refl
held_one holder.First holder.Second l m a p q = absurd (false≢true (sym q.0 ∙ p.0))
held_one holder.Second holder.First l m a p q = absurd (false≢true (sym p.0 ∙ q.0))
held_one holder.Second holder.Second l m a p q = refl

first_one : (w : ℕ) (h k : Holder) (l m : List Bits) (a b : Bits) → FirstAt w h l m a → FirstAt w k l m b → a ≡ b
first_one w h k l m a b p q = go (dec_lt (val a) (val b)) (dec_lt (val b) (val a))
  where
    go : Dec (val a < val b) → Dec (val b < val a) → a ≡ b
    go (yes i) j = absurd (held-apart h l m a p.held (q.before a p.address i))
    go (no i) (yes j) = absurd (held-apart k l m b q.held (p.before b q.address j))
    go (no i) (no j) = val-one w a b p.address q.address (omega arith)

module _ (f : ℕ) (l m : List Bits) where
  -- where they differ they do not cover the same
  apart : (h : Holder) (a : Bits) → FirstAt (width f) h l m a → Exactly (width f) (covers l) m → ⊥
  apart h a p e = held-apart h l m a p.held (sym (e a p.address))

  pub truth-one : (r s : Result Compared Refusal) → Truth f l m r → Truth f l m s → r ≡ s
  truth-one (Ok (compare.Differs h n)) (Ok (compare.Differs k o)) (a, p, u) (b, q, v) =
      let e = first_one (width f) h k l m a b p q in
      let g = held_one h k l m a p.held (rw e q.held) in
      cc
  truth-one (Ok (compare.Differs h n)) (Ok compare.Longer) (a, p, u) t = absurd (apart h a p t.0)
  truth-one (Ok (compare.Differs h n)) (Ok compare.Shortest) (a, p, u) t = absurd (apart h a p t.exactly)
  truth-one (Ok (compare.Differs h n)) (Err x) t q = absurd q
  truth-one (Ok compare.Longer) (Ok (compare.Differs k o)) t (b, q, v) = absurd (apart k b q t.0)
  truth-one (Ok compare.Longer) (Ok compare.Longer) t q = refl
  truth-one (Ok compare.Longer) (Ok compare.Shortest) t q = absurd (t.1 q)
  truth-one (Ok compare.Longer) (Err x) t q = absurd q
  truth-one (Ok compare.Shortest) (Ok (compare.Differs k o)) t (b, q, v) = absurd (apart k b q t.exactly)
  truth-one (Ok compare.Shortest) (Ok compare.Longer) t q = absurd (q.1 t)
  truth-one (Ok compare.Shortest) (Ok compare.Shortest) t q = refl
  truth-one (Ok compare.Shortest) (Err x) t q = absurd q
  truth-one (Err x) s t q = absurd t

  same-covers : (a : Bits) → differ l m a ≡ false → covers l a ≡ covers m a
  same-covers a e = same-is (covers l a) (covers m a) (not-false (same (covers l a) (covers m a)) e)

  other : (x y : Bool) → not (same x y) ≡ true → y ≡ not x
  other true true e = sym e
  other true false e = refl
  other false true e = refl
  other false false e = e

  -- One is true, and it is the answer that is due.
  abbrev Due : Values → Type 0
  Due v = (r : Result Compared Refusal) × Truth f l m r × (compared_as r ≡ (0, v))

  due-differs : (a : Bits) → IsLeast (width f) (differ l m) (found a) → (b : Bool) → covers l a ≡ b → Due (by_address f l m (found a))
  due-differs a (n, d, e) true c =
      let q : covers m a ≡ false = other (covers l a) (covers m a) d ∙ rw c in
      (Ok (compare.Differs holder.First (net_from f a)), (a, record { address = n; held = (c, q); before = λ b k h. same-covers b (e b k h) }, refl), rw c)
  due-differs a (n, d, e) false c =
      let q : covers m a ≡ true = other (covers l a) (covers m a) d ∙ rw c in
      (Ok (compare.Differs holder.Second (net_from f a)), (a, record { address = n; held = (c, q); before = λ b k h. same-covers b (e b k h) }, refl), rw c)

  module _ (i : is_list (width f) m ≡ true) where
    due-same : ((a : Bits) → length a ≡ width f → covers m a ≡ covers l a) → (b : Bool) → is_shortest m ≡ b → Due (by_address f l m missing)
    due-same e true c = (Ok compare.Shortest, shortest-of (width f) (covers m) (covers l) m e (shortest-true (width f) m i c), rw c)
    due-same e false c =
        let not-shortest : Shortest (width f) (covers l) m → ⊥ =
        λ s. false≢true (sym c ∙ true-shortest (width f) m i (shortest-of (width f) (covers l) (covers m) m (λ a n. sym (e a n)) s)) in
        (Ok compare.Longer, (e, not-shortest), rw c)

    due : Due (verdict f l m)
    unfolding verdict
    due = go (least (width f) (differ l m)) (is-least (width f) (differ l m))
      where
        go : (x : Found) → IsLeast (width f) (differ l m) x → Due (by_address f l m x)
        go (found a) h = due-differs a h (covers l a) refl
        go missing h = due-same (λ a n. sym (same-covers a (h a n))) (is_shortest m) refl

    -- "Each answer is given exactly when it is true"
    truthful : (r : Result Compared Refusal) → compared_as r ≡ (0, verdict f l m) → Truth f l m r
    truthful r e = let (s, t, g) = due in rw (compared_as-one r s (e ∙ sym g)) t

    given : (r : Result Compared Refusal) → Truth f l m r → compared_as r ≡ (0, verdict f l m)
    given r h = let (s, t, g) = due in rw (truth-one r s h t) g

-- Of files, whose lists are those of sets.
module _ (d e : List ℕ) (f : ℕ) (l m : List Bits) (h : read_file d ≡ file f l) (k : read_file e ≡ file f m) where
  due-files : compared (read_file d) (read_file e) ≡ (0, verdict f l m)
  due-files = sym (answer (read_file d) (read_file e) f l m (0, verdict f l m) h k refl)

  pub answer-true : (r : Result Compared Refusal) → compared_as r ≡ compared (read_file d) (read_file e) → Truth f l m r
  answer-true r x = truthful f l m (read_file-is e f m k).list r (x ∙ due-files)

  pub true-answer : (r : Result Compared Refusal) → Truth f l m r → compared_as r ≡ compared (read_file d) (read_file e)
  true-answer r t = given f l m (read_file-is e f m k).list r t ∙ sym due-files

  -- "one always holds"; that no two do says `truth-one`
  pub some-true : (r : Result Compared Refusal) × Truth f l m r
  some-true = let (r, t, g) = due f l m (read_file-is e f m k).list in (r, t)

pub compare-determined : (d e : List ℕ) (r s : Result Compared Refusal) → compared_as r ≡ compared (read_file d) (read_file e)
    → compared_as s ≡ compared (read_file d) (read_file e) → r ≡ s
compare-determined d e r s h k = compared_as-one r s (h ∙ sym k)
