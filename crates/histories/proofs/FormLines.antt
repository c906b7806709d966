-- Lines in both forms: a piece of which no line is refused in a pool of the first form is taken so in the same pool in the second, and leaves the same reader
-- and again the same pool; so does the end of the input. The text of a line is read without the pool, and its network is a granted add. So feeds and finishes
-- may stand anywhere between the calls of a sequence that the first form grants throughout: of such sequences `second-form` speaks. Assumes nothing.
use mathlib.Core.Path.{◌≡◌, refl, sym, ap, ◌∙◌}
use mathlib.Core.Bool.{Bool, true, false, cond}
use mathlib.Core.List.{List, [], ◌∷◌}
use Prim.Native.Nat.{ℕ, ◌≤◌}
use lib.Dec.{eqb}
use lib.ListN.{length}
use borrow.Author.Tests.{eqb-true, eqb-false}
use Rattle.nets.specs.declared.Net.{Net}
use Rattle.text_either.specs.Either.{read_either}
use Rattle.pool_state.specs.Rules.{setup, words_of, Laid}
use Rattle.lines_reader.specs.Kept.{kept, pushed}
use Rattle.lines_reader.specs.declared.Reader.{Reader}
use Rattle.lines_take.specs.Lines.{line_feed, add_no, add_words, line_no, trimmed_in, words_with}
use Rattle.lines.specs.Reading.{ended_as, ended, stepped, passed, closed, checked, fed, finished}
use Rattle.histories.specs.Calls.{add, relist, Outcome}
use Rattle.histories.specs.Sequences.{AnyCall, change, feed, finish, AnyAnswer, told, left, no_of, AnyOutcome, Sequence, begin, step}
use Rattle.histories.specs.Forms.{SecondOf, AllGranted, AnswerAlike, AnswersAlike, AlikeButNodes}
use Rattle.histories.proofs.Forms.{outcome-granted, outcome-nodes, outcome-second, second-laid, second-begins}
use Rattle.histories.proofs.FormReadings.{forms-alike}

-- the readings x and y have come to the same reader, and their words hold one state, those of y in the second form
pub record ReadAlike (x y : Reader × List ℕ) : Type 0 where
  pub reader : y.0 ≡ x.0
  pub words : SecondOf x.1 y.1

-- so it is where the reading x has not ended with a refusal
abbrev ReadOn : Reader × List ℕ → Reader × List ℕ → Type 0
ReadOn x y = x.0.no ≡ 0 → ReadAlike x y

no-ended : (x t : ℕ) (r : Reader) → (ended_as x t r).no ≡ x
no-ended x t r = go (eqb x 0) _ _ refl refl
  where
    go : (b : Bool) (p q : Reader) → p.no ≡ x → q.no ≡ x → (cond b p q).no ≡ x
    go true p q h g = h
    go false p q h g = g

-- A network, and the line that has it.
module _ {u v : List ℕ} (k : SecondOf u v) where
  same-words : (r : Reader) → ReadAlike (r, u) (r, v)
  same-words r = record { reader = refl; words = k }

  add-second : (n : Net) → add_no u n ≡ 0 → (add_no v n ≡ 0) × SecondOf (add_words u n) (add_words v n)
  add-second n e =
      let c = relist (add 0 n) in
      let o : Outcome u c _ (add_words u n) = record { answer = refl; words = refl } in
      let p : Outcome v c _ (add_words v n) = record { answer = refl; words = refl } in
      (outcome-granted k c o e p, outcome-second k c o e p)

  line_second : (l : List ℕ) → line_no u l ≡ 0 → (line_no v l ≡ 0) × SecondOf (words_with u l) (words_with v l)
  unfolding line_no words_with
  line_second l e = go (eqb (read_either l).0 0) refl e
    where
      n : Net
      n = (read_either l).1

      go : (b : Bool) → eqb (read_either l).0 0 ≡ b → cond b (add_no u n) (read_either l).0 ≡ 0
          → (cond b (add_no v n) (read_either l).0 ≡ 0) × SecondOf (cond b (add_words u n) u) (cond b (add_words v n) v)
      go true q h = add-second n h
      go false q h = absurd (eqb-false (read_either l).0 0 q h)

  -- The end of a line, a byte.
  ended-second : (r : Reader) → ReadOn (ended u r) (ended v r)
  unfolding ended
  ended-second r e =
      let z : line_no u (kept r) ≡ 0 = sym (no-ended (line_no u (kept r)) (trimmed_in (kept r)) r) ∙ e in
      let (y, w) = line_second (kept r) z in
      record { reader = ap (λ x. ended_as x (trimmed_in (kept r)) r) (y ∙ sym z); words = w }

  stepped-second : (r : Reader) (b : ℕ) → ReadOn (stepped u r b) (stepped v r b)
  stepped-second r b = go (eqb b line_feed)
    where
      go : (t : Bool) → ReadOn (cond t (ended u r) (pushed r b, u)) (cond t (ended v r) (pushed r b, v))
      go true e = ended-second r e
      go false e = same-words (pushed r b)

-- A piece: a reading that goes on after it went on before.
passed-goes : (s w : List ℕ) (r : Reader) → (passed w r s).0.no ≡ 0 → r.no ≡ 0
unfolding passed
passed-goes [] w r e = e
passed-goes (b ∷ s) w r e = go (eqb r.no 0) refl e
  where
    go : (t : Bool) → eqb r.no 0 ≡ t → (cond t (let x = stepped w r b in passed x.1 x.0 s) (r, w)).0.no ≡ 0 → r.no ≡ 0
    go true q h = eqb-true r.no 0 q
    go false q h = h

passed-second : (s : List ℕ) {u v : List ℕ} (k : SecondOf u v) (r : Reader) → ReadOn (passed u r s) (passed v r s)
unfolding passed
passed-second [] k r e = same-words k r
passed-second (b ∷ s) {u} {v} k r e =
    let x = stepped u r b in
    go (eqb r.no 0) x (stepped v r b) (stepped-second k r b) (λ m. passed-second s m x.0) e
  where
    go : (t : Bool) (x y : Reader × List ℕ) → ReadOn x y → (SecondOf x.1 y.1 → ReadOn (passed x.1 x.0 s) (passed y.1 x.0 s))
        → ReadOn (cond t (passed x.1 x.0 s) (r, u)) (cond t (passed y.1 y.0 s) (r, v))
    go true x y h rest e = let l = h (passed-goes s x.1 x.0 e) in rw l.reader (rest l.words e)
    go false x y h rest e = same-words k r

module _ {u v : List ℕ} (k : SecondOf u v) (r : Reader) where
  checked-second : checked v r ≡ checked u r
  unfolding checked
  checked-second = rw (k.here, k.there)

  pub fed-second : (s : List ℕ) → (fed u r s).0.no ≡ 0 → ReadAlike (fed u r s) (fed v r s)
  unfolding fed
  fed-second s = rw checked-second (passed-second s k (checked u r))

  -- The end of the input.
  closed-second : (q : Reader) → ReadOn (closed u q) (closed v q)
  unfolding closed
  closed-second q = go (eqb q.no 0) (eqb q.len 0)
    where
      go : (b c : Bool) → ReadOn (cond b (cond c (q, u) (ended u q)) (q, u)) (cond b (cond c (q, v) (ended v q)) (q, v))
      go true true e = same-words k q
      go true false e = ended-second k q e
      go false c e = same-words k q

  pub finished-second : (finished u r).0.no ≡ 0 → ReadAlike (finished u r) (finished v r)
  unfolding finished
  finished-second = rw checked-second (closed-second (checked u r))

-- Any call.
any-read : {q z : Reader} {x y : List ℕ} → ReadOn (q, x) (z, y) → q.no ≡ 0 → (z.no ≡ 0) × (z ≡ q) × SecondOf x y
any-read h e = let l = h e in (rw l.reader e, l.reader, l.words)

module _ {u v x y : List ℕ} (k : SecondOf u v) where
  any-second : (c : AnyCall) (r s : AnyAnswer) → AnyOutcome u c r x → no_of r ≡ 0 → AnyOutcome v c s y → (no_of s ≡ 0) × AnswerAlike r s × SecondOf x y
  any-second (change c) (told a) (told b) o e p = (outcome-granted k c o e p, outcome-nodes k c o e p, outcome-second k c o e p)
  any-second (change c) (told a) (left q) o e p = absurd p
  any-second (change c) (left q) s o e p = absurd o
  any-second (feed r d) (told a) s o e p = absurd o
  any-second (feed r d) (left q) (told b) o e p = absurd p
  any-second (feed r d) (left q) (left z) o e p = any-read (rw (← o, ← p) at (fed-second k r d)) e
  any-second (finish r) (told a) s o e p = absurd o
  any-second (finish r) (left q) (told b) o e p = absurd p
  any-second (finish r) (left q) (left z) o e p = any-read (rw (← o, ← p) at (finished-second k r)) e

-- Any sequence of calls that are all granted.
pub sequence-second : {w z u v : List ℕ} {cs : List AnyCall} {rs ss : List AnyAnswer}
    → SecondOf w z → Sequence w cs rs u → AllGranted rs → Sequence z cs ss v
    → AllGranted ss × AnswersAlike rs ss × SecondOf u v
sequence-second k begin a begin = (tt, tt, k)
sequence-second k (step {c = c} {r = r} h o) (e, a) (step {r = s} g p) =
    let (b, l, m) = sequence-second k h a g in
    let (f, x, n) = any-second m c r s o e p in
    ((f, b), (x, l), n)

-- The theorem: a layout without an indexed set that is granted in the first form, and the calls cs from there on, lines among them, all granted; the same
-- layout in the second form in any words that are enough for the first, and the same calls from there on.
pub second-form : {f m n : ℕ} {xs ys : List ℕ} {o w y z : List ℕ} {i : ℕ} {r : ℕ × ℕ} {cs : List AnyCall} {rs ss : List AnyAnswer} {u v : List ℕ}
    → Laid o (setup f 0 m n xs ys 0) (0, i) w → Sequence w cs rs u → AllGranted rs
    → words_of (setup f 0 m n xs ys 0) ≤ length y → Laid y (setup f 1 m n xs ys 0) r z → Sequence z cs ss v
    → (r ≡ (0, 0)) × AllGranted ss × AnswersAlike rs ss × AlikeButNodes u v
second-form {f} {m} {n} {xs} {ys} l h a le t g =
    let (b, c, e) = sequence-second (second-begins f m n xs ys l le t) h a g in
    (second-laid f m n xs ys l le t, b, c, forms-alike e)
