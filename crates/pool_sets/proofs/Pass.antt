-- The pass by the tests of the code: one set, and the loop over the sets, at whose head what is left to scan completes the answer. Assumes nothing.
use mathlib.Core.Path.{◌≡◌, refl, sym, ◌∙◌, ap}
use mathlib.Core.Bool.{Bool, true, false, not, cond}
use mathlib.Core.List.{List, []}
use Prim.Native.Nat.{ℕ, suc, ◌+◌, ◌-◌, ◌≤◌, ◌<◌, max}
use native.Mathlib.Nat.{add-zero}
use native.Mathlib.Omega.{arith}
use lib.Dec.{eqb, leb}
use lib.ListN.{length, get_or}
use borrow.Author.Tests.{le-leb, lt-leb, eq-eqb, ne_eqb, not-true, not-false}
use Rattle.nets.specs.Networks.{width}
use Rattle.nets.specs.Bits.{Bits}
use Rattle.nets.proofs.Strings.{cond_both}
use Rattle.nodes.specs.Parse.{parse, after}
use Rattle.pool_state.specs.Kept.{held_l, ReadList, bad_list, ok_list, end_l, Form, form_of, read_l, RoomL}
use Rattle.pool_state.specs.Decode.{record_at, base, is_header, read_set, is_right, read_pool, form_in}
use Rattle.pool_state.specs.Rules.{share_in, found_of}
use Rattle.pool_state.proofs.Kept.{held_l-nil, end_l-parse, end_l-kept, form-some}
use Rattle.pool_state.proofs.Header.{is_header-header, header-rooms}
use Rattle.pool_sets.proofs.Scan.{found, turn, scan, scan-survey}
use Rattle.kept_nodes.specs.Parse.{kept_parse, kept_after}
use Rattle.pool_sets.specs.Sets.{Placed, end_in}
use family-few.{}
use Rattle.nets.proofs.Numbers.{family-few}
use Rattle.std.specs.Prelude.{None}

-- One set.
width_few : (f : ℕ) → width f ≤ 128
unfolding width
width_few f = cond_both (λ x. x ≤ 128) (eqb f 4) 32 128 (omega arith) (omega arith)

pub levels-few : {v : ℕ} {w : List ℕ} {b n f : ℕ} → RoomL v w b n → f ≡ suc (width v) → f ≤ 129
levels-few {v} room e = omega (arith, width_few v)

pub room-family : {v : ℕ} {w : List ℕ} {b n : ℕ} → RoomL v w b n → v ≤ 6
room-family {v} room = family-few v room.family

module _ (w : List ℕ) (b n s i : ℕ) where
  -- its list
  abbrev pub list_in : ReadList
  list_in = read_set w b n (get_or w 1 0) s i

  pub read_set-none : get_or w (record_at s) 0 ≡ 0 → i ≡ end_in w b n s i
  unfolding read_set end_l end_in
  read_set-none z = rw (eq-eqb (get_or w (record_at s) 0) 0 z, held_l-nil (form_in w), add-zero)

  pub read_set-off : (get_or w (record_at s) 0 ≡ 0 → ⊥) → (get_or w (record_at s) 0 ≡ i → ⊥) → 0 ≡ end_in w b n s i
  unfolding read_set end_l end_in
  read_set-off nz off = rw (ne_eqb (get_or w (record_at s) 0) 0 nz, ne_eqb (get_or w (record_at s) 0) i off)

  module _ (nz : get_or w (record_at s) 0 ≡ 0 → ⊥) (on : get_or w (record_at s) 0 ≡ i) where
    read_at : end_l (form_in w) i (read_l (form_in w) (get_or w 1 0) w b n i) ≡ end_in w b n s i
    unfolding read_set end_in
    read_at = rw (ne_eqb (get_or w (record_at s) 0) 0 nz, eq-eqb (get_or w (record_at s) 0) i on)

    -- in the first form, and in the second
    pub read_set-first : get_or w 5 0 ≡ 0 → {f r : ℕ} → f ≡ suc (width (get_or w 1 0)) → r ≡ after i (parse w b n f i) → r ≡ end_in w b n s i
    read_set-first z e q =
        q ∙ ap (λ f. after i (parse w b n f i)) e ∙ sym (end_l-parse (get_or w 1 0) w b n i) ∙ ap (λ x. end_l (form_of x) i (read_l (form_of x) (get_or w 1 0) w b n i)) (sym z) ∙ read_at

    pub read_set-second : (get_or w 5 0 ≡ 0 → ⊥) → {r : ℕ} → r ≡ kept_after i (kept_parse (get_or w 1 0) w b n (suc (width (get_or w 1 0))) [] i) → r ≡ end_in w b n s i
    read_set-second ne q = q ∙ sym (end_l-kept (get_or w 1 0) w b n i) ∙ ap (λ F. end_l F i (read_l F (get_or w 1 0) w b n i)) (sym (form-some (get_or w 5 0) ne)) ∙ read_at

-- The loop: set s is next, and what is left to scan completes the answer.
pub record Pass (w : List ℕ) (k sets n b s i c a h : ℕ) : Type 0 where
  pub room : RoomL (get_or w 1 0) w b n
  pub few : sets ≤ 64
  pub long : base sets ≤ length w
  pub past : s ≤ sets
  pub pos : 1 ≤ i
  pub within : c ≤ n
  pub is : scan w b n (get_or w 1 0) k (sets - s) s i c (a, h) ≡ found_of (read_pool w) k

pub pass-start : (w : List ℕ) (k : ℕ) → is_header w ≡ true → Pass w k (get_or w 2 0) (get_or w 3 0) (base (get_or w 2 0)) 0 1 0 0 0
pass-start w k h =
    let r = is_header-header w h in
    let z : get_or w 2 0 - 0 ≡ get_or w 2 0 = omega arith in
    record {
      room = header-rooms r;
      few = omega arith;
      long = omega arith;
      past = omega arith;
      pos = omega arith;
      within = omega arith;
      is = rw z (scan-survey w k h);
    }

lost : (F : Form) (i : ℕ) (x : ReadList) → 1 ≤ i → 0 ≡ end_l F i x → x ≡ bad_list
unfolding end_l
lost F i bad_list pos e = refl
lost F i (ok_list l) pos e = absurd (omega arith)

got : (F : Form) (i r : ℕ) (x : ReadList) → r ≡ end_l F i x → (r ≡ 0 → ⊥) → (l : List Bits) × (x ≡ ok_list l) × (r ≡ i + held_l F l)
unfolding end_l
got F i r bad_list h ne = absurd (ne h)
got F i r (ok_list l) h ne = (l, refl, h)

-- two numbers that are picked by one test
picked : (t : Bool) (x y a h : ℕ) → ◌≡◌ {A = ℕ × ℕ} (cond t (x, y) (a, h)) (cond t x a, cond t y h)
picked true x y a h = refl
picked false x y a h = refl

module _ {w : List ℕ} {k sets n b s i c a h : ℕ} (o : Pass w k sets n b s i c a h) where
  pub pass-done : sets ≤ s → found i c (a, h) ≡ found_of (read_pool w) k
  unfolding scan
  pass-done le = let e : sets - s ≡ 0 = omega arith in rw e at o.is

  module _ (more : s < sets) {e : ℕ} (end : e ≡ end_in w b n s i) where
    left : sets - s ≡ suc (sets - (s + 1))
    left = omega arith

    pub pass-bad : e ≡ 0 → None ≡ found_of (read_pool w) k
    unfolding scan end_in
    pass-bad z = rw (left, scan, lost (form_in w) i (list_in w b n s i) o.pos (sym z ∙ end)) at o.is

    module _ (some : e ≡ 0 → ⊥) where
      there : (l : List Bits) × (list_in w b n s i ≡ ok_list l) × (e ≡ i + held_l (form_in w) l)
      unfolding end_in
      there = got (form_in w) i e (list_in w b n s i) end some

      placed : Placed w b n s i there.0
      placed = record { room = o.room; one = o.pos; known = omega arith; fits = omega arith; read = there.1 }

      pub pass-found : (l : List Bits) × Placed w b n s i l × (e ≡ i + held_l (form_in w) l)
      pass-found = (there.0, placed, there.2)

      pub pass_up : i ≤ e
      pass_up = omega (arith, there.2)

      opened : turn w b n (get_or w 1 0) k (scan w b n (get_or w 1 0) k (sets - (s + 1)) (s + 1)) s i c (a, h) there.0 ≡ found_of (read_pool w) k
      unfolding scan
      opened = rw (left, scan, there.1) at o.is

      module _ {r : Bool} (right : (l : List Bits) → Placed w b n s i l → e ≡ i + held_l (form_in w) l → r ≡ is_right w (get_or w 1 0) s l) where
        right_it_is : r ≡ is_right w (get_or w 1 0) s there.0
        right_it_is = right there.0 placed there.2

        pub pass-off : not r ≡ true → None ≡ found_of (read_pool w) k
        pass-off out = rw (sym right_it_is ∙ not-true r out) at opened

        module _ (fit : not r ≡ false) {q : ℕ} (claim : q ≡ max (share_in w s) (e - i)) where
          allowed : cond (leb (c + q) n) (scan w b n (get_or w 1 0) k (sets - (s + 1)) (s + 1) e (c + q) (cond (eqb s k) i a, cond (eqb s k) (e - i) h)) None ≡ found_of (read_pool w) k
          allowed =
              let z : i + (e - i) ≡ e = omega (arith, pass_up) in
              let y : held_l (form_in w) there.0 ≡ e - i = omega (arith, there.2) in
              rw (sym right_it_is ∙ not-false r fit, y, ← claim, picked (eqb s k) i (e - i) a h, z) at opened

          pub pass-over : n - c < q → None ≡ found_of (read_pool w) k
          pass-over lt = rw (lt-leb (c + q) n (omega arith)) at allowed

          pub pass_on : q ≤ n - c → Pass w k sets n b (s + 1) e (c + q) (cond (eqb s k) i a) (cond (eqb s k) (e - i) h)
          pass_on le = record {
            room = o.room;
            few = o.few;
            long = o.long;
            past = omega arith;
            pos = omega (arith, pass_up);
            within = omega arith;
            is = rw (le-leb (c + q) n (omega arith)) at allowed;
          }
