-- The loop that reads a run, turn by turn: what is left of it stays the same, and there is less to do. Assumes nothing.
use mathlib.Core.Bool.{Bool, true, false, cond}
use mathlib.Core.List.{List, [], ◌∷◌, ◌++◌, append_assoc}
use mathlib.Core.Path.{◌≡◌, refl, sym, ◌∙◌}
use Prim.Native.Nat.{ℕ, suc, ◌+◌, ◌-◌, ◌/◌, ◌%◌, ◌≤◌, ◌<◌}
use native.Mathlib.Numerals.{add-one}
use native.Mathlib.Omega.{arith}
use lib.Dec.{leb}
use lib.ListN.{length, take, drop, set, length-set}
use lib.Seq.{take-suc-set, drop-drop}
use borrow.Author.Tests.{leb-true}
use Rattle.text_decimal.specs.Decimal.{Parsed, parsed, nothing}
use Rattle.text_ipv6_runs.specs.Runs.{read_group, read_dotted, Piece, group, quad, none, piece_of, read_piece, goes_on, ran, run_on, run_from}
use Rattle.text_ipv6_runs.specs.Places.{is_open, run_words, groups_of, ran_as, left_of, Fits, turns_of, Stepped}
use Rattle.text_ipv6_runs.specs.declared.runs.Run.{Run}
use Rattle.text_ipv6_runs.specs.declared.runs.Stand.{Stand}
use Rattle.text_ipv6_runs.specs.declared.runs.Stand.TheVariants.{Open, Ended, Quad}

-- A run by its next piece.
pub run_from-piece : (j k : ℕ) (xs s : List ℕ) → k ≡ suc j → run_from k xs s ≡ run_on xs s (read_piece k s) (λ ys t. run_from j ys t)
unfolding run_from
run_from-piece j k xs s e = rw e

-- a quad is found only where two groups have room
pub quad-room : (k : ℕ) (s : List ℕ) (v : ℕ) (t : List ℕ) → quad v t ≡ read_piece k s → 2 ≤ k
unfolding read_piece
quad-room k s v t e = go (leb 2 k) refl (read_group s) e
  where
    go : (b : Bool) → leb 2 k ≡ b → (g : Parsed) → quad v t ≡ piece_of (cond b (read_dotted s) nothing) g → 2 ≤ k
    go true h g e = leb-true 2 k h
    go false h (parsed x u) e = let z : ◌≡◌ {A = ℕ} 0 1 = cc in absurd (omega arith)
    go false h nothing e = let z : ◌≡◌ {A = ℕ} 0 1 = cc in absurd (omega arith)

-- groups that are stored
grow : (l : List ℕ) (n x : ℕ) → n < length l → take (n + 1) (set l n x) ≡ take n l ++ (x ∷ [])
grow l n x h = rw (add-one n) (take-suc-set l n x h)

grow-two : (l : List ℕ) (n x y : ℕ) → n + 1 < length l → take (n + 2) (set (set l n x) (n + 1) y) ≡ take n l ++ (x ∷ y ∷ [])
grow-two l n x y h =
    let e : n + 2 ≡ n + 1 + 1 = omega arith in
    rw (e, grow (set l n x) (n + 1) y (rw (length-set l n x) h), grow l n x (omega arith)) (append_assoc (take n l) (x ∷ []) (y ∷ []))

-- where a piece may follow
module _ (s : List ℕ) (r : Run) (f : Fits r) (m : is_open r.stand ≡ true) where
  left_is : left_of s r ≡ run_from (8 - r.count) (groups_of r) (drop r.at s)
  unfolding left_of
  left_is = rw m

  left-piece : r.count < 8 → (p : Piece) → p ≡ read_piece (8 - r.count) (drop r.at s)
      → left_of s r ≡ run_on (groups_of r) (drop r.at s) p (λ ys t. run_from (7 - r.count) ys t)
  left-piece h p e = left_is ∙ rw e (run_from-piece (7 - r.count) (8 - r.count) (groups_of r) (drop r.at s) (omega arith))

  -- there is no room, or no piece
  stop : ran (groups_of r) false (drop r.at s) ≡ left_of s r → Stepped s r (run_words r.groups r.count Ended r.at)
  unfolding left_of turns_of
  stop e = record { fits = record { places = f.places; within = f.within }; left = e; less = rw m (omega (arith, f.within)) }

  pub stepped-full : 8 ≤ r.count → Stepped s r (run_words r.groups r.count Ended r.at)
  unfolding run_from
  stepped-full h = let e : 8 - r.count ≡ 0 = omega arith in stop (sym (left_is ∙ rw e))

  pub stepped-none : r.count < 8 → none ≡ read_piece (8 - r.count) (drop r.at s) → Stepped s r (run_words r.groups r.count Ended r.at)
  stepped-none h e = stop (sym (left-piece h none e))

  -- a quad
  pub stepped-quad : r.count < 8 → (v at : ℕ) → quad v (drop at s) ≡ read_piece (8 - r.count) (drop r.at s)
      → Stepped s r (run_words (set (set r.groups r.count (v / 65536)) (r.count + 1) (v % 65536)) (r.count + 2) Quad at)
  unfolding left_of turns_of
  stepped-quad h v at e =
      let k = quad-room (8 - r.count) (drop r.at s) v (drop at s) e in
      record {
        fits = record { places = rw (length-set, length-set) f.places; within = omega arith };
        left = rw (grow-two r.groups r.count (v / 65536) (v % 65536) (omega (arith, f.places))) (sym (left-piece h (quad v (drop at s)) e));
        less = rw m (omega arith);
      }

  -- a group, with or without another behind it
  module _ (h : r.count < 8) (x at : ℕ) (e : group x (drop at s) ≡ read_piece (8 - r.count) (drop r.at s)) where
    stored : take (r.count + 1) (set r.groups r.count x) ≡ groups_of r ++ (x ∷ [])
    stored = grow r.groups r.count x (omega (arith, f.places))

    fit : (d : Stand) (n : ℕ) → Fits (run_words (set r.groups r.count x) (r.count + 1) d n)
    fit d n = record { places = rw length-set f.places; within = omega arith }

    pub stepped-end : goes_on (drop at s) ≡ false → Stepped s r (run_words (set r.groups r.count x) (r.count + 1) Ended at)
    unfolding left_of turns_of
    stepped-end g = record { fits = fit Ended at; left = rw stored (sym (rw g at (left-piece h (group x (drop at s)) e))); less = rw m (omega arith) }

    pub stepped-on : goes_on (drop at s) ≡ true → Stepped s r (run_words (set r.groups r.count x) (r.count + 1) Open (at + 1))
    unfolding left_of turns_of
    stepped-on g =
        let k : 8 - (r.count + 1) ≡ 7 - r.count = omega arith in
        record {
          fits = fit Open (at + 1);
          left = rw (stored, k, ← drop-drop 1 at s) (sym (rw g at (left-piece h (group x (drop at s)) e)));
          less = rw m (omega arith);
        }

-- The loop begins with all to do, and ends with what was read.
pub left-start : (s : List ℕ) (xs : List ℕ) (k at : ℕ) → left_of s (run_words xs k Open at) ≡ run_from (8 - k) (take k xs) (drop at s)
unfolding left_of
left-start s xs k at = refl

pub left_end : (s : List ℕ) (r : Run) → is_open r.stand ≡ false → left_of s r ≡ ran_as s r
unfolding left_of
left_end s r e = rw e
