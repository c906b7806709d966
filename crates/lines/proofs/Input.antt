-- The input whole, whatever its pieces: start, feed and finish read the lines of it, one after the other up to the first that is refused. Assumes nothing.
use Rattle.std.proofs.Common.{◌≡◌, ℕ, zero, suc, ◌+◌, ◌%◌, ◌^◌, ◌<◌, Bool, true, false, cond, eqb, List, [], ◌∷◌, ◌++◌, length, take, sym, refl, ap, ◌∙◌, append_assoc, append-nil, arith, eq-eqb, ne_eqb, eqb-true}
use mathlib.Core.List.{flatten, nil≢cons, cons≢nil}
use native.Mathlib.Nat.{mod-add-mod}
use borrow.Author.Tests.{eqb-false}
use Rattle.pool_state.specs.Decode.{Decoded, damaged, sound, decode}
use Rattle.lines_take.specs.Lines.{line_feed, lines_of, line_no, trimmed_in, words_with, Result, taken, pool_no, all_taken}
use Rattle.lines_reader.specs.Kept.{places, begun, kept, pushed, stopped}
use Rattle.lines.specs.Reading.{ended, stepped, passed, closed, checked, fed, finished, fed_all, all_read}
use Rattle.lines_reader.specs.declared.Reader.{Reader}
use Rattle.lines.proofs.Steps.{passed-refused, closed-refused, closed_none, closed-line, checked_refused, checked-sound, checked-damaged, two}
use Rattle.lines.proofs.Lists.{pool_no-line}
use Rattle.lines_take.proofs.Taking.{words_with-refused}
use Rattle.lines.proofs.Keeping.{pushed-keeps, kept-pushed, take_more, line_no-kept, trimmed_in-kept, words_with-kept}
use Rattle.lines.proofs.Cutting.{Plain, plain_more, lines_of-feed, lines_of-rest}

-- Pieces passed one after the other are passed as one.
passed-append : (s t w : List ℕ) (r : Reader) → passed w r (s ++ t) ≡ (let x = passed w r s in passed x.1 x.0 t)
unfolding passed
passed-append [] t w r = refl
passed-append (b ∷ s) t w r = let y = stepped w r b in go y (eqb r.no 0) refl (passed-append s t y.1 y.0)
  where
    go : (y : Reader × List ℕ) (c : Bool) → eqb r.no 0 ≡ c → passed y.1 y.0 (s ++ t) ≡ (let x = passed y.1 y.0 s in passed x.1 x.0 t)
        → cond c (passed y.1 y.0 (s ++ t)) (r, w) ≡ (let x = cond c (passed y.1 y.0 s) (r, w) in passed x.1 x.0 t)
    go y true e h = h
    go y false e h = passed-refused w r t (eqb-false r.no 0 e)

-- A reading that goes on is one on sound words: so it stays, and a second check leaves it.
abbrev Fit : Reader × List ℕ → Type 0
Fit x = x.0.no ≡ 0 → pool_no (decode x.1) ≡ 0

fit-checked : (w : List ℕ) (r : Reader) → Fit (checked w r, w)
unfolding checked
fit-checked w r = go (eqb r.no 0) refl
  where
    go : (b : Bool) → eqb r.no 0 ≡ b → (cond b (stopped r (pool_no (decode w))) r).no ≡ 0 → pool_no (decode w) ≡ 0
    go true q e = e
    go false q e = absurd (eqb-false r.no 0 q e)

checked-fit : (w : List ℕ) (r : Reader) → Fit (r, w) → checked w r ≡ r
checked-fit w r h = go (eqb r.no 0) refl
  where
    go : (b : Bool) → eqb r.no 0 ≡ b → checked w r ≡ r
    go true q = let e = eqb-true r.no 0 q in checked-sound w r e (h e)
    go false q = checked_refused w r (eqb-false r.no 0 q)

fit-stepped : (w : List ℕ) (r : Reader) (b : ℕ) → pool_no (decode w) ≡ 0 → Fit (stepped w r b)
unfolding ended
fit-stepped w r b z = go (eqb b line_feed)
  where
    go : (t : Bool) → Fit (cond t (ended w r) (pushed r b, w))
    go true e = pool_no-line w (kept r) z
    go false e = z

fit_passed : (s w : List ℕ) (r : Reader) → Fit (r, w) → Fit (passed w r s)
unfolding passed
fit_passed [] w r h = h
fit_passed (b ∷ s) w r h = let y = stepped w r b in go (passed y.1 y.0 s) (eqb r.no 0) refl (λ z. fit_passed s y.1 y.0 (fit-stepped w r b z))
  where
    go : (x : Reader × List ℕ) (c : Bool) → eqb r.no 0 ≡ c → (pool_no (decode w) ≡ 0 → Fit x) → Fit (cond c x (r, w))
    go x true q g = g (h (eqb-true r.no 0 q))
    go x false q g = h

abbrev closing : Reader × List ℕ → Reader × List ℕ
closing x = closed x.1 x.0

-- so the pieces are checked as one
pieces-one : (ps : List (List ℕ)) (w : List ℕ) (r : Reader) → (let x = fed_all w r ps in finished x.1 x.0) ≡ closing (passed w (checked w r) (flatten ps))
unfolding fed_all flatten passed fed finished
pieces-one [] w r = refl
pieces-one (p ∷ ps) w r =
    let x = passed w (checked w r) p in
    let c = checked-fit x.1 x.0 (fit_passed p w (checked w r) (fit-checked w r)) in
    pieces-one ps x.1 x.0 ∙ ap (λ q. closing (passed x.1 q (flatten ps))) c ∙ ap closing (sym (passed-append p (flatten ps) w (checked w r)))

-- The reader is amid line k, of which t has been read, and c lines before it were trimmed.
record Amid (r : Reader) (k c : ℕ) (t : List ℕ) : Type 0 where
  going : r.no ≡ 0
  wide : length r.line ≡ places
  line : kept r ≡ take places t
  number : r.number ≡ k % 2 ^ 64
  trimmed : r.trimmed ≡ c % 2 ^ 64

-- What a reading comes to. The reader's numbers go on from 0 behind the largest of 64 bits, which no input reaches.
pub record Comes (x : Reader × List ℕ) (o : Result) : Type 0 where
  pub number : x.0.number ≡ o.number % 2 ^ 64
  pub trimmed : x.0.trimmed ≡ o.trimmed % 2 ^ 64
  pub no : x.0.no ≡ o.no
  pub words : x.1 ≡ o.words

-- A byte of the line.
amid-pushed : (r : Reader) (k c : ℕ) (t : List ℕ) (b : ℕ) → Amid r k c t → Amid (pushed r b) k c (t ++ (b ∷ []))
amid-pushed r k c t b a =
    let p = pushed-keeps r b in
    record {
      going = p.0 ∙ a.going;
      wide = p.3 ∙ a.wide;
      line = kept-pushed r b a.wide ∙ ap (λ l. take places (l ++ (b ∷ []))) a.line ∙ take_more places t b;
      number = p.1 ∙ a.number;
      trimmed = p.2 ∙ a.trimmed;
    }

-- The end of the line.
module _ (w : List ℕ) (r : Reader) (k c : ℕ) (t : List ℕ) (a : Amid r k c t) where
  no-ended : line_no w (kept r) ≡ line_no w t
  no-ended = ap (line_no w) a.line ∙ line_no-kept w t

  words-ended : (ended w r).1 ≡ words_with w t
  unfolding ended
  words-ended = ap (words_with w) a.line ∙ words_with-kept w t

  trimmed-ended : trimmed_in (kept r) ≡ trimmed_in t
  trimmed-ended = ap trimmed_in a.line ∙ trimmed_in-kept t

  amid-added : line_no w t ≡ 0 → Amid (ended w r).0 (k + 1) (c + trimmed_in t) []
  unfolding ended
  amid-added e =
      rw (no-ended ∙ e, trimmed-ended)
      (record {
        going = refl;
        wide = a.wide;
        line = refl;
        number = ap (λ n. (n + 1) % 2 ^ 64) a.number ∙ mod-add-mod k (2 ^ 64) 1;
        trimmed = ap (λ n. (n + trimmed_in t) % 2 ^ 64) a.trimmed ∙ mod-add-mod c (2 ^ 64) (trimmed_in t);
      })

  comes-refused : (line_no w t ≡ 0 → ⊥) → Comes (ended w r) (record { number = k; trimmed = c; no = line_no w t; words = w })
  unfolding ended
  comes-refused ne =
      rw (no-ended, ne_eqb (line_no w t) 0 ne) (record { number = a.number; trimmed = a.trimmed; no = refl; words = words-ended ∙ words_with-refused w t ne })

-- The end of the input.
take_none : (n : ℕ) (l : List ℕ) → 0 < length l → take n l ≡ [] → n ≡ 0
take_none zero l lt e = refl
take_none (suc n) [] lt e = absurd (omega arith)
take_none (suc n) (x ∷ l) lt e = absurd (cons≢nil e)

comes-line : (w : List ℕ) (r : Reader) (k c : ℕ) (t : List ℕ) → Amid r k c t → Comes (ended w r) (taken k c w (t ∷ []))
unfolding taken
comes-line w r k c t a = go (eqb (line_no w t) 0) refl
  where
    go : (b : Bool) → eqb (line_no w t) 0 ≡ b
        → Comes (ended w r) (cond b (record { number = k + 1; trimmed = c + trimmed_in t; no = 0; words = words_with w t }) (record { number = k; trimmed = c; no = line_no w t; words = w }))
    go true e = let b = amid-added w r k c t a (eqb-true (line_no w t) 0 e) in record { number = b.number; trimmed = b.trimmed; no = b.going; words = words-ended w r k c t a }
    go false e = comes-refused w r k c t a (eqb-false (line_no w t) 0 e)

comes-end : (w : List ℕ) (r : Reader) (k c : ℕ) (t : List ℕ) → Amid r k c t → Plain t → Comes (closed w r) (taken k c w (lines_of t))
unfolding taken lines_of
comes-end w r k c [] a p =
    let z = take_none r.len r.line (omega (arith, a.wide)) a.line in
    rw (← closed_none w r a.going z) (record { number = a.number; trimmed = a.trimmed; no = a.going; words = refl })
comes-end w r k c (b ∷ t) a p =
    rw (← closed-line w r a.going (λ z. nil≢cons (rw z at a.line)) refl) (rw (lines_of-rest b t p) (comes-line w r k c (b ∷ t) a))

-- One byte more of the input, if the rest of it is read so.
module _ (b : ℕ) (s w : List ℕ) (r : Reader) (k c : ℕ) (t : List ℕ) (a : Amid r k c t) (p : Plain t)
    (rest : (w : List ℕ) (r : Reader) (k c : ℕ) (t : List ℕ) → Amid r k c t → Plain t → Comes (closing (passed w r s)) (taken k c w (lines_of (t ++ s)))) where
  comes-feed : Comes (let x = ended w r in closing (passed x.1 x.0 s)) (taken k c w (t ∷ lines_of s))
  unfolding taken
  comes-feed = go (eqb (line_no w t) 0) refl
    where
      go : (b : Bool) → eqb (line_no w t) 0 ≡ b
          → Comes (let x = ended w r in closing (passed x.1 x.0 s))
          (cond b (taken (k + 1) (c + trimmed_in t) (words_with w t) (lines_of s)) (record { number = k; trimmed = c; no = line_no w t; words = w }))
      go true e =
          rw (words-ended w r k c t a) (rest (words_with w t) (ended w r).0 (k + 1) (c + trimmed_in t) [] (amid-added w r k c t a (eqb-true (line_no w t) 0 e)) tt)
      go false e =
          let h = comes-refused w r k c t a (eqb-false (line_no w t) 0 e) in
          let ne : (ended w r).0.no ≡ 0 → ⊥ = λ z. eqb-false (line_no w t) 0 e (sym h.no ∙ z) in
          rw (← passed-refused (ended w r).1 (ended w r).0 s ne, ← closed-refused (ended w r).1 (ended w r).0 ne) h

  comes-byte : Comes (closing (passed w r (b ∷ s))) (taken k c w (lines_of (t ++ (b ∷ s))))
  unfolding passed
  comes-byte = rw (eq-eqb r.no 0 a.going) (go (eqb b line_feed) refl)
    where
      go : (d : Bool) → eqb b line_feed ≡ d
          → Comes (let x = cond d (ended w r) (pushed r b, w) in closing (passed x.1 x.0 s)) (taken k c w (lines_of (t ++ (b ∷ s))))
      go true e = rw (eqb-true b line_feed e, lines_of-feed t s p) comes-feed
      go false e = rw (append_assoc t (b ∷ []) s) at (rest w (pushed r b) k c (t ++ (b ∷ [])) (amid-pushed r k c t b a) (plain_more t b p e))

comes : (s w : List ℕ) (r : Reader) (k c : ℕ) (t : List ℕ) → Amid r k c t → Plain t → Comes (closing (passed w r s)) (taken k c w (lines_of (t ++ s)))
unfolding passed
comes [] w r k c t a p = rw (append-nil t) (comes-end w r k c t a p)
comes (b ∷ s) w r k c t a p = comes-byte b s w r k c t a p (comes s)

-- Whatever the pieces, the reading comes to what the lines of the whole input come to; on damaged words to 2.
begun-amid : Amid begun 1 0 []
begun-amid = record { going = refl; wide = refl; line = refl; number = refl; trimmed = refl }

pub input-read : (w : List ℕ) (ps : List (List ℕ)) → Comes (all_read w ps) (all_taken w (lines_of (flatten ps)))
unfolding all_taken
input-read w ps = rw (pieces-one ps w begun) (go (decode w) refl)
  where
    go : (d : Decoded) → decode w ≡ d
        → Comes (closing (passed w (checked w begun) (flatten ps))) (let x = pool_no d in cond (eqb x 0) (taken 1 0 w (lines_of (flatten ps))) (record { number = 1; trimmed = 0; no = x; words = w }))
    go damaged e =
        let q = stopped begun 2 in
        rw (checked-damaged w begun refl (ap pool_no e), ← passed-refused w q (flatten ps) two, ← closed-refused w q two) (record { number = refl; trimmed = refl; no = refl; words = refl })
    go (sound S) e = rw (checked-sound w begun refl (ap pool_no e)) (comes (flatten ps) w begun 1 0 [] begun-amid tt)

-- Two outcomes that the contract of feed allows are equal, and so for finish.
pub feed-determined : (w : List ℕ) (r : Reader) (p : List ℕ) {q s : Reader} {v u : List ℕ} → (q, v) ≡ fed w r p → (s, u) ≡ fed w r p → (q ≡ s) × (v ≡ u)
feed-determined w r p h g = (ap (λ x. x.0) (h ∙ sym g), ap (λ x. x.1) (h ∙ sym g))

pub finish-determined : (w : List ℕ) (r : Reader) {q s : Reader} {v u : List ℕ} → (q, v) ≡ finished w r → (s, u) ≡ finished w r → (q ≡ s) × (v ≡ u)
finish-determined w r h g = (ap (λ x. x.0) (h ∙ sym g), ap (λ x. x.1) (h ∙ sym g))
