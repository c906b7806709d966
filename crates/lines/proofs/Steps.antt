-- The returns of the calls, by the tests on the way to each. Assumes nothing.
use Rattle.std.proofs.Common.{◌≡◌, ℕ, ◌+◌, ◌%◌, ◌^◌, true, false, cond, List, [], ◌∷◌, sym, refl, ap, arith, eq-eqb, ne_eqb}
use Rattle.std.specs.Prelude.{Ok, Err}
use Rattle.nets.proofs.Answers.{number-some}
use Rattle.nets.specs.Refusals.{number}
use Rattle.nets.specs.declared.Refusal.{Refusal}
use Rattle.pool_state.specs.Decode.{decode}
use Rattle.pool_state.specs.Steps.{Surveyed}
use Rattle.std.specs.Prelude.{Some, None}
use Rattle.pool_state.specs.Rules.{found_of}
use Rattle.pool_state.specs.declared.Survey.{Survey}
use Rattle.pool_state.proofs.Seen.{survey-sound, survey-damaged}
use Rattle.lines_take.specs.Lines.{line_no, trimmed_in, pool_no}
use Rattle.lines_reader.specs.Kept.{kept, stopped}
use Rattle.lines.specs.Reading.{ended, passed, closed, checked, fed, finished}
use Rattle.lines_take.specs.Taking.{Takes}
use Rattle.lines.specs.Steps.{Leads}
use Rattle.lines_reader.specs.declared.Reader.{Reader}
use Rattle.lines_take.specs.declared.Took.{Took}

module _ (w : List ℕ) (r : Reader) where
  module _ {t : Took} {v : List ℕ} (h : Takes w (kept r) t v) where
    pub ended-refused : {x : Refusal} {m : ℕ} {f : Survey} → t.then ≡ Err x → m ≡ number x → Surveyed w 0 f → Leads (ended w r) (record { reader = stopped r m; found = f }) v
    unfolding ended
    ended-refused {x} e k g =
        let z : number x ≡ line_no w (kept r) = rw e at h.no in
        let d : v ≡ w = rw e at h.found in
        record { comes = rw (k, ← z, ← h.words, ne_eqb (number x) 0 (number-some x)); found = rw d g }

    pub ended-added : {f : Survey} {m c x : ℕ} → t.then ≡ Ok f → m ≡ (r.number + 1) % 2 ^ 64 → x ≡ cond t.cut 1 0 → c ≡ (r.trimmed + x) % 2 ^ 64
        → Leads (ended w r) (record { reader = record { line = r.line; len = 0; number = m; trimmed = c; no = 0 }; found = f }) v
    unfolding ended trimmed_in
    ended-added e k o i =
        let z : 0 ≡ line_no w (kept r) = rw e at h.no in
        record { comes = rw (← z, ← h.words, ← k, ← h.cut, ← o, ← i); found = rw e at h.found }

module _ (w : List ℕ) (r : Reader) where
  pub passed-refused : (s : List ℕ) → (r.no ≡ 0 → ⊥) → (r, w) ≡ passed w r s
  unfolding passed
  passed-refused [] ne = refl
  passed-refused (b ∷ s) ne = rw (ne_eqb r.no 0 ne)

  pub closed-refused : (r.no ≡ 0 → ⊥) → (r, w) ≡ closed w r
  unfolding closed
  closed-refused ne = rw (ne_eqb r.no 0 ne)

  pub closed_none : r.no ≡ 0 → r.len ≡ 0 → (r, w) ≡ closed w r
  unfolding closed
  closed_none e z = rw (eq-eqb r.no 0 e, eq-eqb r.len 0 z)

  pub closed-line : {v : List ℕ} {q : Reader} → r.no ≡ 0 → (r.len ≡ 0 → ⊥) → (q, v) ≡ ended w r → (q, v) ≡ closed w r
  unfolding closed
  closed-line e ne h = rw (eq-eqb r.no 0 e, ne_eqb r.len 0 ne) h

pub two : ◌≡◌ {A = ℕ} 2 0 → ⊥
two e = absurd (omega arith)

-- The check: a reading that has ended stays as it is, one on sound words too, and one on damaged words ends.
pub checked_refused : (w : List ℕ) (r : Reader) → (r.no ≡ 0 → ⊥) → checked w r ≡ r
unfolding checked
checked_refused w r ne = rw (ne_eqb r.no 0 ne)

pub checked-sound : (w : List ℕ) (r : Reader) → r.no ≡ 0 → pool_no (decode w) ≡ 0 → checked w r ≡ r
unfolding checked
checked-sound w r e z = rw (eq-eqb r.no 0 e, z) (ap (stopped r) (sym e))

pub checked-damaged : (w : List ℕ) (r : Reader) → r.no ≡ 0 → pool_no (decode w) ≡ 2 → checked w r ≡ stopped r 2
unfolding checked
checked-damaged w r e z = rw (eq-eqb r.no 0 e, z)

module _ (w : List ℕ) where
  pool_no-sound : (v : Survey) → Some v ≡ found_of (decode w) 0 → pool_no (decode w) ≡ 0
  pool_no-sound v e = rw (survey-sound w 0 v e).1

  pool_no-damaged : None ≡ found_of (decode w) 0 → pool_no (decode w) ≡ 2
  pool_no-damaged e = rw (survey-damaged w 0 e)

  module _ (r : Reader) (z : r.no ≡ 0) where
    pub fed-damaged : (s : List ℕ) {x : Reader} → None ≡ found_of (decode w) 0 → x ≡ stopped r 2 → (x, w) ≡ fed w r s
    unfolding fed
    fed-damaged s e h = rw (h, checked-damaged w r z (pool_no-damaged e)) (passed-refused w (stopped r 2) s two)

    pub fed-passed : (s : List ℕ) {x : Reader × List ℕ} {v : Survey} → Some v ≡ found_of (decode w) 0 → x ≡ passed w r s → x ≡ fed w r s
    unfolding fed
    fed-passed s {v = v} e h = rw (checked-sound w r z (pool_no-sound v e)) h

    pub finished-damaged : {x : Reader} → None ≡ found_of (decode w) 0 → x ≡ stopped r 2 → (x, w) ≡ finished w r
    unfolding finished
    finished-damaged e h = rw (h, checked-damaged w r z (pool_no-damaged e)) (closed-refused w (stopped r 2) two)

    pub finished-closed : {x : Reader × List ℕ} {v : Survey} → Some v ≡ found_of (decode w) 0 → x ≡ closed w r → x ≡ finished w r
    unfolding finished
    finished-closed {v = v} e h = rw (checked-sound w r z (pool_no-sound v e)) h

pub fed-refused : (w : List ℕ) (r : Reader) (s : List ℕ) → (r.no ≡ 0 → ⊥) → (r, w) ≡ fed w r s
unfolding fed
fed-refused w r s ne = rw (checked_refused w r ne) (passed-refused w r s ne)

pub finished-refused : (w : List ℕ) (r : Reader) → (r.no ≡ 0 → ⊥) → (r, w) ≡ finished w r
unfolding finished
finished-refused w r ne = rw (checked_refused w r ne) (closed-refused w r ne)
