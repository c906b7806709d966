-- The loop over a piece: a turn passes what is left of a line, and then its line feed; what is left of the piece completes what is passed. Assumes nothing.
use Rattle.std.proofs.Common.{◌≡◌, ℕ, zero, suc, ◌+◌, ◌-◌, ◌<◌, ◌≤◌, Bool, true, false, cond, not, eqb, List, [], ◌∷◌, length, get_or, take, drop, sym, refl, ap, ◌∙◌, add-one, arith, length-drop, get_or-drop, take_all, drop-cons, drop-drop, eq-eqb, eqb-true}
use mathlib.Core.List.{nil≢cons, cons≢nil}
use lib.Seq.{drop-length}
use Rattle.text_decimal.specs.Spans.{leading_of}
use Rattle.text_either.specs.First.{first_line}
use Rattle.lines_take.specs.Lines.{line_feed}
use Rattle.lines_reader.specs.Kept.{pushed, pushed_all}
use Rattle.lines_reader.specs.declared.Reader.{Reader}
use Rattle.lines.specs.Reading.{ended, passed}
use Rattle.lines.proofs.Keeping.{pushed-keeps}

-- The first n bytes of s are those in front of its first line feed.
pub record Line (s : List ℕ) (n : ℕ) : Type 0 where
  pub within : n ≤ length s
  pub bytes : take n s ≡ first_line s

-- Its first byte is none, and the others are those in front of the first line feed of what follows.
line-byte : (b : ℕ) (s : List ℕ) (n : ℕ) → Line (b ∷ s) (suc n) → eqb b line_feed ≡ false
unfolding leading_of
line-byte b s n h = go (eqb b line_feed) h.bytes
  where
    go : (c : Bool) → b ∷ take n s ≡ cond (not c) (b ∷ first_line s) [] → c ≡ false
    go true e = absurd (cons≢nil e)
    go false e = refl

line-more : (b : ℕ) (s : List ℕ) (n : ℕ) → Line (b ∷ s) (suc n) → Line s n
unfolding leading_of
line-more b s n h = let f : b ∷ take n s ≡ b ∷ first_line s = rw (line-byte b s n h) at h.bytes in record { within = omega (arith, h.within); bytes = cc }

-- Behind them stands the line feed, if anything does.
line-feed : (s : List ℕ) (n : ℕ) → Line s n → n < length s → get_or s n 0 ≡ line_feed
unfolding leading_of
line-feed [] n h lt = absurd (omega arith)
line-feed (b ∷ s) zero h lt = go (eqb b line_feed) refl h.bytes
  where
    go : (c : Bool) → eqb b line_feed ≡ c → [] ≡ cond (not c) (b ∷ first_line s) [] → b ≡ line_feed
    go true e f = eqb-true b line_feed e
    go false e f = absurd (nil≢cons f)
line-feed (b ∷ s) (suc n) h lt = line-feed s n (line-more b s n h) (omega arith)

-- They are pushed.
passed-line : (s w : List ℕ) (r : Reader) (n : ℕ) → r.no ≡ 0 → Line s n → passed w r s ≡ passed w (pushed_all r (take n s)) (drop n s)
unfolding passed pushed_all
passed-line s w r zero e h = refl
passed-line [] w r (suc n) e h = absurd (omega (arith, h.within))
passed-line (b ∷ s) w r (suc n) e h =
    rw (eq-eqb r.no 0 e, line-byte b s n h) (passed-line s w (pushed r b) n ((pushed-keeps r b).0 ∙ e) (line-more b s n h))

no-pushed_all : (s : List ℕ) (r : Reader) → (pushed_all r s).no ≡ r.no
unfolding pushed_all
no-pushed_all [] r = refl
no-pushed_all (b ∷ s) r = no-pushed_all s (pushed r b) ∙ (pushed-keeps r b).0

-- At place i of the piece s: the line goes on for n bytes, and these are pushed.
pub line_at : (s : List ℕ) (i n : ℕ) → i ≤ length s
    → (n ≤ length (take (length s - i) (drop i s))) × (take n (take (length s - i) (drop i s)) ≡ first_line (take (length s - i) (drop i s))) → Line (drop i s) n
line_at s i n le h =
    let a : take (length s - i) (drop i s) ≡ drop i s = take_all (length s - i) (drop i s) (omega (arith, length-drop i s)) in
    let g = rw a at h in
    record { within = g.0; bytes = g.1 }

module _ (w : List ℕ) (r : Reader) (s : List ℕ) (i n : ℕ) (e : r.no ≡ 0) (h : Line (drop i s) n) {q : Reader} (p : q ≡ pushed_all r (take (i + n - i) (drop i s))) where
  pushed-part : q ≡ pushed_all r (take n (drop i s))
  pushed-part = let k : i + n - i ≡ n = omega arith in rw k at p

  passed-part : passed w r (drop i s) ≡ passed w q (drop (i + n) s)
  passed-part = passed-line (drop i s) w r n e h ∙ rw (pushed-part, drop-drop n i s)

  pub passed-last : i + n ≡ length s → (q, w) ≡ passed w r (drop i s)
  unfolding passed
  passed-last l = rw (passed-part, l, drop-length s)

  pub passed-next : {v : List ℕ} {x : Reader} → i + n < length s → (x, v) ≡ ended w q → passed v x (drop (i + n + 1) s) ≡ passed w r (drop i s)
  unfolding passed
  passed-next {v} {x} lt g =
      let z : q.no ≡ 0 = ap (λ y. y.no) p ∙ no-pushed_all (take (i + n - i) (drop i s)) r ∙ e in
      let f : get_or s (i + n) 0 ≡ line_feed = sym (get_or-drop i s n 0) ∙ line-feed (drop i s) n h (omega (arith, length-drop i s)) in
      rw (passed-part, add-one (i + n), drop-cons s (i + n) 0 lt, eq-eqb q.no 0 z, f) (ap (λ y. passed y.1 y.0 (drop (suc (i + n)) s)) g)
