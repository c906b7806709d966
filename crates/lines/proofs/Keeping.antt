-- A line of which the first 50 bytes are kept: it is taken as the whole line is, since both are too long for a network where they differ. Assumes nothing.
use Rattle.std.proofs.Common.{◌≡◌, ℕ, ◌+◌, ◌<◌, ◌≤◌, Bool, true, false, cond, ltb, leb, List, [], ◌∷◌, ◌++◌, length, take, set, sym, refl, ap, ◌∙◌, add-one, arith, length-append, length-set, length-take-le, take_all, take-suc-set, ltb-false, ltb-true, leb-false, leb-true}
use lib.Seq.{take-append-le}
use Rattle.text_either.specs.Either.{read_either, entered_either}
use Rattle.text_either.proofs.Firsts.{read_either-kept}
use Rattle.lines_take.specs.Lines.{line_no, trimmed_in, words_with}
use Rattle.lines_reader.specs.Kept.{places, kept, pushed}
use Rattle.lines_reader.specs.declared.Reader.{Reader}

-- A byte more.
push-room : (l : List ℕ) (n b : ℕ) → length l ≡ 50 → n < 50 → take (n + 1) (set l n b) ≡ take 50 (take n l ++ (b ∷ []))
push-room l n b e h =
    let m : length (take n l ++ (b ∷ [])) ≤ 50 = omega (arith, length-append (take n l) (b ∷ []), length-take-le n l (omega arith)) in
    rw (add-one n, take-suc-set l n b (omega arith), take_all 50 (take n l ++ (b ∷ [])) m)

push-full : (l : List ℕ) (n b : ℕ) → length l ≡ 50 → 50 ≤ n → take n l ≡ take 50 (take n l ++ (b ∷ []))
push-full l n b e h = rw (take_all n l (omega arith), take-append-le 50 l (b ∷ []) (omega arith), take_all 50 l (omega arith))

pub kept-pushed : (r : Reader) (b : ℕ) → length r.line ≡ places → kept (pushed r b) ≡ take places (kept r ++ (b ∷ []))
unfolding pushed
kept-pushed r b e = go (ltb r.len places) refl
  where
    go : (t : Bool) → ltb r.len places ≡ t
        → kept (cond t (record { line = set r.line r.len b; len = r.len + 1; number = r.number; trimmed = r.trimmed; no = r.no }) r) ≡ take places (kept r ++ (b ∷ []))
    go true q = push-room r.line r.len b e (ltb-true r.len places q)
    go false q = push-full r.line r.len b e (ltb-false r.len places q)

pub pushed-keeps : (r : Reader) (b : ℕ) → ((pushed r b).no ≡ r.no) × ((pushed r b).number ≡ r.number) × ((pushed r b).trimmed ≡ r.trimmed) × (length (pushed r b).line ≡ length r.line)
unfolding pushed
pushed-keeps r b = go (ltb r.len places)
  where
    go : (c : Bool) → let p = cond c (record { line = set r.line r.len b; len = r.len + 1; number = r.number; trimmed = r.trimmed; no = r.no }) r in
        (p.no ≡ r.no) × (p.number ≡ r.number) × (p.trimmed ≡ r.trimmed) × (length p.line ≡ length r.line)
    go true = (refl, refl, refl, length-set r.line r.len b)
    go false = (refl, refl, refl, refl)

pub take_more : (n : ℕ) (t : List ℕ) (b : ℕ) → take n (take n t ++ (b ∷ [])) ≡ take n (t ++ (b ∷ []))
take_more n t b = go (leb (length t) n) refl
  where
    go : (x : Bool) → leb (length t) n ≡ x → take n (take n t ++ (b ∷ [])) ≡ take n (t ++ (b ∷ []))
    go true h = rw (take_all n t (leb-true (length t) n h))
    go false h =
        let k = leb-false (length t) n h in
        let l : length (take n t) ≡ n = length-take-le n t (omega arith) in
        take-append-le n (take n t) (b ∷ []) (omega arith) ∙ take_all n (take n t) (omega arith) ∙ sym (take-append-le n t (b ∷ []) (omega arith))

-- The line that is kept is read as the whole line is.
pub line_no-kept : (w t : List ℕ) → line_no w (take places t) ≡ line_no w t
unfolding line_no
line_no-kept w t = rw (read_either-kept t)

pub trimmed_in-kept : (t : List ℕ) → trimmed_in (take places t) ≡ trimmed_in t
unfolding trimmed_in entered_either
trimmed_in-kept t = rw (read_either-kept t)

pub words_with-kept : (w t : List ℕ) → words_with w (take places t) ≡ words_with w t
unfolding words_with
words_with-kept w t = rw (read_either-kept t)
