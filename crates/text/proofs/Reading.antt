-- The paths through the functions that read a line: what each finds, by what the function that it calls has found. Assumes nothing.
use mathlib.Core.Bool.{true, false}
use mathlib.Core.List.{List, [], ◌∷◌}
use mathlib.Core.Path.{◌≡◌, refl, ap, sym, ◌∙◌}
use Prim.Native.Nat.{ℕ, ◌+◌, ◌*◌, ◌≤◌, ◌<◌}
use native.Mathlib.Numerals.{add-one}
use lib.Dec.{eqb}
use lib.ListN.{length, drop, get_or, drop_of_length-le}
use lib.Seq.{drop-cons}
use Rattle.text_decimal.specs.Decimal.{Parsed, parsed, nothing, read_number}
use Rattle.nets.specs.declared.Refusal.{Refusal}
use Rattle.nets.specs.declared.Refusal.TheVariants.{BadText}
use Rattle.text.specs.Ipv4.{ipv4, ended_by, read_next, read_quad, bad_text, with_length, read_line}
use Rattle.text_decimal.specs.Places.{starts_byte, read_as}
use Rattle.text_decimal.proofs.Places.{starts-within}
use Rattle.std.specs.Prelude.{Option, Some, None, Result, Ok, Err, ok_or}
use Rattle.text_decimal.specs.declared.cursor.Cursor.{Cursor}

-- What an answer has found, once it is known which one it is.
pub read_as-is : (s : List ℕ) {r y : (Option (ℕ × Cursor))} {x : Parsed} → r ≡ y → read_as s r ≡ x → read_as s y ≡ x
read_as-is s e h = sym (ap (read_as s) e) ∙ h

-- What was found where an answer became a refusal, or did not.
pub read_as-ok : {r : Result (ℕ × Cursor) Refusal} {v : ℕ} {c : Cursor} {x : Parsed} (s : List ℕ) (o : Option (ℕ × Cursor))
    → r ≡ ok_or o BadText → r ≡ Ok (v, c) → read_as s o ≡ x → parsed v (drop c.at s) ≡ x
read_as-ok {v = v} {c = c} s (Some p) h k g = let y : p ≡ (v, c) = cc in rw y at g
read_as-ok s None h k g = absurd (cc (sym h ∙ k))

pub read_as-err : {r : Result (ℕ × Cursor) Refusal} {y : Refusal} {x : Parsed} (s : List ℕ) (o : Option (ℕ × Cursor))
    → r ≡ ok_or o BadText → r ≡ Err y → read_as s o ≡ x → (y ≡ BadText) × (nothing ≡ x)
read_as-err s None h k g = (cc, g)
read_as-err s (Some p) h k g = absurd (cc (sym h ∙ k))

-- A number that is ended by a byte.
pub ended_by-other : (e v : ℕ) (s : List ℕ) → starts_byte e s ≡ false → ended_by e v s ≡ nothing
unfolding starts_byte
ended_by-other e v [] h = refl
ended_by-other e v (c ∷ s) h = rw h

ended_by-at : (e v : ℕ) (s : List ℕ) (at : ℕ) → starts_byte e (drop at s) ≡ true → ended_by e v (drop at s) ≡ parsed v (drop (at + 1) s)
unfolding starts_byte
ended_by-at e v s at h =
    let d = drop-cons s at 0 (starts-within (starts_byte e) refl s at h) in
    let k : eqb (get_or s at 0) e ≡ true = rw d at h in
    rw (d, k, add-one at)

-- One more number.
pub read_next-nothing : (e v : ℕ) (u : List ℕ) → nothing ≡ read_number 255 u → nothing ≡ read_next e (parsed v u)
unfolding read_next
read_next-nothing e v u h = rw (← h)

pub read_next-other : (e v x : ℕ) (s : List ℕ) (at : ℕ) (u : List ℕ) → parsed x (drop at s) ≡ read_number 255 u → starts_byte e (drop at s) ≡ false → nothing ≡ read_next e (parsed v u)
unfolding read_next
read_next-other e v x s at u h k = rw (← h) (sym (ended_by-other e (v * 256 + x) (drop at s) k))

pub read_next-ended : (e v x : ℕ) (s : List ℕ) (at : ℕ) (u : List ℕ) → parsed x (drop at s) ≡ read_number 255 u → starts_byte e (drop at s) ≡ true
    → parsed (v * 256 + x) (drop (at + 1) s) ≡ read_next e (parsed v u)
unfolding read_next
read_next-ended e v x s at u h k = rw (← h) (sym (ended_by-at e (v * 256 + x) s at k))

-- The length, and the end of the line.
pub read_line-nothing : (s : List ℕ) → nothing ≡ read_quad s → bad_text ≡ read_line s
unfolding read_line
read_line-nothing s h = rw (← h)

pub read_line-unread : (s : List ℕ) (a : ℕ) (t : List ℕ) → parsed a t ≡ read_quad s → nothing ≡ read_number 32 t → bad_text ≡ read_line s
unfolding read_line
read_line-unread s a t h k = let g : with_length a (read_number 32 t) ≡ read_line s = rw (← h) in rw (← k) at g

pub read_line-more : (s : List ℕ) (a : ℕ) (t : List ℕ) (n at : ℕ) → parsed a t ≡ read_quad s → parsed n (drop at s) ≡ read_number 32 t → at < length s → bad_text ≡ read_line s
unfolding read_line
read_line-more s a t n at h k l = let g : with_length a (read_number 32 t) ≡ read_line s = rw (← h) in rw (← k, drop-cons s at 0 l) at g

pub read_line-whole : (s : List ℕ) (a : ℕ) (t : List ℕ) (n at : ℕ) → parsed a t ≡ read_quad s → parsed n (drop at s) ≡ read_number 32 t → length s ≤ at → (0, ipv4 a n) ≡ read_line s
unfolding read_line
read_line-whole s a t n at h k l = let g : with_length a (read_number 32 t) ≡ read_line s = rw (← h) in rw (← k, drop_of_length-le s l) at g
