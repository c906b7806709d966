-- One call after another. What is left of the run from where it stands is what is left from the start; it ends where a call is not done, and not for want
-- of turns, since each call has 35 bytes or more.
use mathlib.Core.List.{List}
use mathlib.Core.Path.{◌≡◌, refl, sym, ap, ◌∙◌}
use Prim.Native.Nat.{ℕ, zero, suc, ◌+◌, ◌-◌, ◌*◌, ◌≤◌, ◌<◌, ◌^◌}
use native.Mathlib.Nat.{sub-zero}
use native.Mathlib.Omega.{arith}
use lib.ListN.{length, take, drop, length-take, length-drop}
use borrow.Author.Tests.{eq-eqb, ne_eqb}
use Rattle.calls_bytes.specs.Records.{call_at}
use Rattle.calls_bytes.specs.declared.Call.{Call}
use Rattle.calls_kinds.specs.Kinds.{asks_of, tail_length}
use Rattle.calls_kinds.specs.Places.{stop_number, stop_at, past_of, Room}
use Rattle.calls_kinds.specs.declared.places.Place.{Place}
use Rattle.calls_kinds.specs.declared.places.Stop.{Stop}
use Rattle.calls_kinds.specs.declared.places.Stop.TheVariants as stop
use Rattle.calls_kinds.proofs.Judged.{Goes, goes}
use Rattle.calls.specs.Effects.{Fits}
use Rattle.calls.specs.Runs.{call_bytes, Stepped, Machine, machine, stops_at, step_of, run_from, run_of, Ran}

abbrev pub start : Place
start = record { at = 0; to = 0; done = 0 }

abbrev pub standing : List ℕ → List ℕ → List ℕ → Place → Machine
standing w v o p = machine w v o p.at p.to p.done

-- the words, rows and answers of a run at its start, and as they are now
pub record Going (w₀ v₀ b o₀ w v o : List ℕ) (p : Place) : Type 0 where
  pub within : p.at ≤ length b
  pub counted : 35 * p.done ≤ p.at
  pub room : p.to ≤ length o
  pub same-words : length w ≡ length w₀
  pub same_rows : length v ≡ length v₀
  pub same_out : length o ≡ length o₀
  pub small : length o < 2 ^ 64
  pub short : length b < 2 ^ 64
  pub run : run_from (length b - p.done) b (standing w v o p) ≡ run_of w₀ v₀ b o₀

pub going_start : (w v b o : List ℕ) → length o < 2 ^ 64 → length b < 2 ^ 64 → Going w v b o w v o start
unfolding run_of
going_start w v b o h i =
    record {
      within = omega arith;
      counted = omega arith;
      room = omega arith;
      same-words = refl;
      same_rows = refl;
      same_out = refl;
      small = h;
      short = i;
      run = rw (sub-zero (length b));
    }

pub run_on : (b : List ℕ) (m : Machine) (f n : ℕ) → f ≡ suc n → stops_at b m ≡ 5 → run_from f b m ≡ run_from n b (step_of b m)
unfolding run_from
run_on b m f n e h = rw (e, eq-eqb _ _ h)

pub run-stop : (b : List ℕ) (m : Machine) (n : ℕ) → (stops_at b m ≡ 5 → ⊥) → run_from n b m ≡ m
unfolding run_from
run-stop b m zero h = refl
run-stop b m (suc n) h = rw (ne_eqb _ _ h)

-- a turn: the call c, done, and the place q past it
module _ {w₀ v₀ b o₀ w v o : List ℕ} {p : Place} (g : Going w₀ v₀ b o₀ w v o p) (five : stop_at b p.at (length v) (length o - p.to) ≡ 5) where
  pub turn : Goes b p.at (length v) (length o - p.to)
  turn = goes b p.at (length v) (length o - p.to) five

  pub turn-room : (c : Call) → c ≡ call_at b p.at → Room p c
  turn-room c e =
      let t : c.tail ≡ (call_at b p.at).tail = ap (λ (x : Call). x.tail) e in
      let l : tail_length c ≡ tail_length (call_at b p.at) = ap tail_length e in
      record {
        at = omega (arith, turn.call, g.short);
        to = omega (arith, turn.answer, g.small, g.room);
        done = omega (arith, turn.call, g.counted, g.short);
      }

  -- the place past it is within
  pub turn-past : (c : Call) (q : Place) → c ≡ call_at b p.at → q ≡ past_of p c → (q.at ≡ p.at + 35 + c.tail) × ((q.at ≤ length b) × (q.to ≤ length o))
  turn-past c q e d =
      let at : q.at ≡ p.at + 35 + c.tail = ap (λ (x : Place). x.at) d in
      let to : q.to ≡ p.to + 28 + tail_length c = ap (λ (x : Place). x.to) d in
      let t : c.tail ≡ (call_at b p.at).tail = ap (λ (x : Call). x.tail) e in
      let l : tail_length c ≡ tail_length (call_at b p.at) = ap tail_length e in
      (at, (omega (arith, turn.call), omega (arith, turn.answer, g.room)))

  -- k bytes are cut out for the call
  pub turn-fits : (c : Call) (k : ℕ) → c ≡ call_at b p.at → k ≡ 35 + c.tail → Fits v (take k (drop p.at b)) c o (p.to + 28)
  turn-fits c k e f =
      record {
        call = simp (length-take, length-drop) (omega (arith, turn.call, ap (λ (x : Call). x.tail) e));
        room = omega (arith, turn.answer, ap tail_length e, g.room);
        rows = omega (arith, turn.lent, ap (λ x. (asks_of x).rows) e);
      }

  pub turn_on : {w' v' o' : List ℕ} (c : Call) (k : ℕ) (q : Place) → c ≡ call_at b p.at → k ≡ 35 + c.tail → q ≡ past_of p c
      → Stepped w v (take k (drop p.at b)) c o p.to w' v' o' → length w' ≡ length w → length v' ≡ length v → length o' ≡ length o
      → Going w₀ v₀ b o₀ w' v' o' q
  unfolding step_of call_bytes
  turn_on {w'} {v'} {o'} c k q e f d s lw lv lo =
      let n : q ≡ past_of p (call_at b p.at) = rw e at d in
      let at : q.at ≡ p.at + 35 + (call_at b p.at).tail = ap (λ (x : Place). x.at) n in
      let to : q.to ≡ p.to + 28 + tail_length (call_at b p.at) = ap (λ (x : Place). x.to) n in
      let done : q.done ≡ p.done + 1 = ap (λ (x : Place). x.done) n in
      let z : Stepped w v (take (35 + (call_at b p.at).tail) (drop p.at b)) (call_at b p.at) o p.to w' v' o' = rw (f, e) at s in
      record {
        within = omega (arith, turn.call);
        counted = omega (arith, g.counted);
        room = omega (arith, turn.answer, g.room);
        same-words = lw ∙ g.same-words;
        same_rows = lv ∙ g.same_rows;
        same_out = lo ∙ g.same_out;
        small = rw lo g.small;
        short = g.short;
        run =
            rw (z.words, z.rows, z.out, n)
            (sym (run_on b (standing w v o p) (length b - p.done) (length b - (p.done + 1))
            (omega (arith, turn.call, g.counted)) five) ∙ g.run);
      }

-- the end of the run
not_five : (s : Stop) → stop_number s ≡ 5 → ⊥
not_five stop.Whole e = let z : ◌≡◌ {A = ℕ} 0 5 = e in omega arith
not_five stop.Cut e = let z : ◌≡◌ {A = ℕ} 1 5 = e in omega arith
not_five stop.Unknown e = let z : ◌≡◌ {A = ℕ} 2 5 = e in omega arith
not_five stop.Full e = let z : ◌≡◌ {A = ℕ} 3 5 = e in omega arith
not_five stop.Rows e = let z : ◌≡◌ {A = ℕ} 4 5 = e in omega arith

pub ran : {w₀ v₀ b o₀ w v o : List ℕ} {p : Place} (s : Stop) → Going w₀ v₀ b o₀ w v o p → stop_number s ≡ stop_at b p.at (length v) (length o - p.to)
    → Ran w₀ v₀ b o₀ (record { why = s; done = p.done; to = p.to }) w v o
ran {w₀} {v₀} {b} {o₀} {w} {v} {o} {p} s g h =
    let e : standing w v o p ≡ run_of w₀ v₀ b o₀ = sym (run-stop b (standing w v o p) (length b - p.done) (λ i. not_five s (h ∙ i))) ∙ g.run in
    record {
      why = h ∙ ap (stops_at b) e;
      done = ap (λ (m : Machine). m.done) e;
      to = ap (λ (m : Machine). m.to) e;
      words = ap (λ (m : Machine). m.words) e;
      rows = ap (λ (m : Machine). m.rows) e;
      out = ap (λ (m : Machine). m.out) e;
    }
