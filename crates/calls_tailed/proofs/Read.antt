-- Sets read from a tail. The pieces of the lines are where they are cut, and a reader keeps at most 50 bytes of a line, so that their number fits.
use mathlib.Core.Bool.{Bool, true, false, cond}
use mathlib.Core.List.{List, [], ◌∷◌}
use mathlib.Core.Path.{◌≡◌, refl, sym, ap, ◌∙◌}
use Prim.Native.Nat.{ℕ, ◌+◌, ◌-◌, ◌≤◌, ◌<◌}
use native.Mathlib.Omega.{arith}
use lib.Dec.{eqb, ltb}
use lib.ListN.{length, take, drop, set, length-drop, drop_of_length-le}
use lib.Seq.{take_all, drop-drop, drop-length}
use borrow.Author.Tests.{ltb-true}
use Rattle.pool_state.specs.Decode.{decode}
use Rattle.setfile_format.specs.Files.{read_file}
use Rattle.setfile.specs.Loading.{Loaded}
use Rattle.setfile_compare.specs.Comparing.{Values, compared}
use Rattle.change_many.specs.Calls.{Poured}
use Rattle.lines_take.specs.Lines.{line_feed, line_no, trimmed_in, pool_no}
use Rattle.lines_reader.specs.Kept.{places, begun, kept, pushed, stopped}
use Rattle.lines.specs.Reading.{ended_as, ended, stepped, passed, closed, checked, fed, finished, fed_all, all_read}
use Rattle.lines_reader.specs.declared.Reader.{Reader}
use Rattle.calls_bytes.proofs.Rows.{rest-is}
use Rattle.calls_bytes.specs.declared.Call.{Call}
use Rattle.calls_bytes.specs.declared.Reply.{Reply}
use Rattle.calls_replies.specs.Replies.{one_reply, compared_reply}
use Rattle.calls_replies.proofs.Changing.{changed-is}
use Rattle.calls_tailed.specs.Reading.{loaded_by, poured_by, pieces_of, reader_reply, lines_of, compare_of, Cut}

-- the bytes behind the fixed part are the file
module _ (w s : List ℕ) (c : Call) {v : List ℕ} {a : ℕ × ℕ} {x : Reply} (e : x ≡ one_reply a) where
  pub loaded-is : Loaded w c.a (take (length s - 35) (drop 35 s)) a v → (x, v) ≡ loaded_by w c s
  loaded-is l = changed-is (rw (rest-is s 35) at l) e

  pub poured-is : (y : Bool) → Poured y w c.a (take (length s - 35) (drop 35 s)) a v → (x, v) ≡ poured_by y w c s
  poured-is y l = changed-is (rw (rest-is s 35) at l) e

-- so many bytes in, or at the end
pub cut_inside : (s : List ℕ) (b : ℕ) → 35 + b ≤ length s → Cut s b (35 + b)
cut_inside s b h =
    let e : 35 + b - 35 ≡ b = omega arith in
    record { low = omega arith; high = h; first = rw e; rest = sym (drop-drop b 35 s) }

pub cut-end : (s : List ℕ) (b : ℕ) → 35 ≤ length s → length s - 35 < b → Cut s b (length s)
cut-end s b h i =
    let m : length (drop 35 s) ≤ b = rw length-drop (omega arith) in
    record { low = h; high = omega arith; first = rest-is s 35 ∙ sym (take_all b (drop 35 s) m); rest = drop-length s ∙ sym (drop_of_length-le (drop 35 s) m) }

-- a reader keeps at most 50 bytes
small-pushed : (r : Reader) (b : ℕ) → r.len ≤ places → (pushed r b).len ≤ places
unfolding pushed
small-pushed r b h = go (ltb r.len places) refl
  where
    go : (t : Bool) → ltb r.len places ≡ t → (cond t (record { line = set r.line r.len b; len = r.len + 1; number = r.number; trimmed = r.trimmed; no = r.no }) r).len ≤ places
    go true e = omega (arith, ltb-true r.len places e)
    go false e = h

small-ended : (w : List ℕ) (r : Reader) → r.len ≤ places → (ended w r).0.len ≤ places
unfolding ended
small-ended w r h = go (line_no w (kept r)) (trimmed_in (kept r)) (eqb (line_no w (kept r)) 0) refl
  where
    go : (x c : ℕ) (t : Bool) → eqb x 0 ≡ t → (ended_as x c r).len ≤ places
    go x c true e = rw e (omega arith)
    go x c false e = rw e h

small-stepped : (w : List ℕ) (r : Reader) (b : ℕ) → r.len ≤ places → (stepped w r b).0.len ≤ places
small-stepped w r b h = go (eqb b line_feed)
  where
    go : (t : Bool) → (cond t (ended w r) (pushed r b, w)).0.len ≤ places
    go true = small-ended w r h
    go false = small-pushed r b h

small-passed : (s w : List ℕ) (r : Reader) → r.len ≤ places → (passed w r s).0.len ≤ places
unfolding passed
small-passed [] w r h = h
small-passed (b ∷ s) w r h = let y = stepped w r b in go (eqb r.no 0) (passed y.1 y.0 s) (small-passed s y.1 y.0 (small-stepped w r b h))
  where
    go : (t : Bool) (x : Reader × List ℕ) → x.0.len ≤ places → (cond t x (r, w)).0.len ≤ places
    go true x i = i
    go false x i = h

small-closed : (w : List ℕ) (r : Reader) → r.len ≤ places → (closed w r).0.len ≤ places
unfolding closed
small-closed w r h = go (eqb r.no 0) (eqb r.len 0)
  where
    go : (t u : Bool) → (cond t (cond u (r, w) (ended w r)) (r, w)).0.len ≤ places
    go true true = h
    go true false = small-ended w r h
    go false u = h

small-checked : (w : List ℕ) (r : Reader) → r.len ≤ places → (checked w r).len ≤ places
unfolding checked
small-checked w r h = go (eqb r.no 0)
  where
    go : (t : Bool) → (cond t (stopped r (pool_no (decode w))) r).len ≤ places
    go true = h
    go false = h

small-fed : (s w : List ℕ) (r : Reader) → r.len ≤ places → (fed w r s).0.len ≤ places
unfolding fed
small-fed s w r h = small-passed s w (checked w r) (small-checked w r h)

small-finished : (w : List ℕ) (r : Reader) → r.len ≤ places → (finished w r).0.len ≤ places
unfolding finished
small-finished w r h = small-closed w (checked w r) (small-checked w r h)

-- the two pieces, one after the other, and the end of the input
module _ (w s : List ℕ) (c : Call) (cut : ℕ) {w₁ w₂ w₃ : List ℕ} {r₀ r₁ r₂ r₃ : Reader} (k : Cut s c.b cut) (z : r₀ ≡ begun)
    (e : (r₁, w₁) ≡ fed w r₀ (take (cut - 35) (drop 35 s))) (f : (r₂, w₂) ≡ fed w₁ r₁ (take (length s - cut) (drop cut s))) (g : (r₃, w₃) ≡ finished w₂ r₂) where
  pub lines-small : r₃.len ≤ places
  lines-small =
      let h : r₁.len ≤ places = rw (ap (λ (x : Reader × List ℕ). x.0) e) (small-fed (take (cut - 35) (drop 35 s)) w r₀ (rw z (omega arith))) in
      let i : r₂.len ≤ places = rw (ap (λ (x : Reader × List ℕ). x.0) f) (small-fed (take (length s - cut) (drop cut s)) w₁ r₁ h) in
      rw (ap (λ (x : Reader × List ℕ). x.0) g) (small-finished w₂ r₂ i)

  lines-read : (r₃, w₃) ≡ all_read w (pieces_of c s)
  unfolding fed_all
  lines-read =
      let a : (r₁, w₁) ≡ fed w begun (take c.b (drop 35 s)) = rw (z, k.first) at e in
      let b : (r₂, w₂) ≡ fed w₁ r₁ (drop c.b (drop 35 s)) = rw (rest-is s cut, k.rest) at f in
      g ∙ ap (λ (x : Reader × List ℕ). finished x.1 x.0) (b ∙ ap (λ (x : Reader × List ℕ). fed x.1 x.0 (drop c.b (drop 35 s))) a)

  pub lines-is : {x : Reply} → x ≡ reader_reply r₃ → (x, w₃) ≡ lines_of w c s
  unfolding lines_of
  lines-is h = rw h (ap (λ (x : Reader × List ℕ). (reader_reply x.0, x.1)) lines-read)

-- two files, one behind the other
pub compare-is : (s : List ℕ) (c : Call) (cut : ℕ) {z : ℕ × Values} {r : Reply} → Cut s c.a cut
    → z ≡ compared (read_file (take (cut - 35) (drop 35 s))) (read_file (take (length s - cut) (drop cut s))) → r ≡ compared_reply z → r ≡ compare_of c s
unfolding compare_of
compare-is s c cut k e h = h ∙ ap compared_reply (rw (k.first, rest-is s cut, k.rest) at e)
