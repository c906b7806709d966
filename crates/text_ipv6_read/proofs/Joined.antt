-- Reading a run is reading pieces that colons join: whatever stops behind such pieces, they are read whole; and what is read is such pieces. Assumes nothing.
use mathlib.Core.Bool.{Bool, true, false, cond, true≢false}
use mathlib.Core.List.{List, [], ◌∷◌, ◌++◌, append_assoc, append-nil}
use mathlib.Core.Path.{◌≡◌, refl, ap, sym, ◌∙◌}
use Prim.Native.Nat.{ℕ, zero, suc, ◌/◌, ◌%◌, ◌≤◌}
use native.Mathlib.Omega.{arith}
use lib.Dec.{eqb, leb}
use lib.ListN.{length, drop}
use borrow.Author.Tests.{eqb-true, le-leb}
use Rattle.nets.proofs.Strings.{and_left, and_right}
use Rattle.text_decimal.specs.Spans.{all_of, starts_of}
use Rattle.text_decimal.specs.Decimal.{is_digit, decimal, Parsed, parsed, nothing}
use Rattle.text.specs.DecOctet.{is_dec_octet}
use Rattle.text.specs.Ipv4.{dot, slash, address}
use Rattle.text_decimal.specs.Places.{starts_byte}
use Rattle.text_decimal.proofs.Spans.{leading-none, all-weaken}
use Rattle.text_decimal.proofs.Numbers.{is_number-is}
use Rattle.text.proofs.DecOctet.{octet-number}
use Rattle.text_hex.specs.Hex.{is_hex_digit, hex_number, colon}
use Rattle.text_ipv6_runs.specs.Runs.{is_group}
use Rattle.text_ipv6_read.specs.Ipv6.{dotted, pair, Pieces, group, quad, more, Side, empty, pieces}
use Rattle.text_ipv6_runs.specs.Runs.{read_group, read_dotted, Piece, piece_of, read_piece, goes_on, Ran, ran, run_on, run_from}
use Rattle.text_ipv6_runs.specs.Runs as reader
use Rattle.text_ipv6_runs.proofs.Groups.{is_group-is, read_group-append, read_group-is}
use Rattle.text_ipv6_read.proofs.Dotted.{octet-most, read_dotted-append, pair-address, read_dotted-is, is_digit-hex, starts_digit-hex, hex-no-quad}

-- Bytes at which a run stops: no digit, no dot, no colon with a digit.
pub record Stops (t : List ℕ) : Type 0 where
  pub digit : starts_of is_hex_digit t ≡ false
  pub dot : starts_byte dot t ≡ false
  pub on : goes_on t ≡ false

pub stops-slash : (t : List ℕ) → Stops (slash ∷ t)
unfolding starts_of is_hex_digit starts_byte goes_on
stops-slash t = record { digit = refl; dot = refl; on = refl }

pub stops-double : (t : List ℕ) → Stops (colon ∷ colon ∷ t)
unfolding starts_of is_hex_digit starts_byte goes_on
stops-double t = record { digit = refl; dot = refl; on = refl }

-- The first byte of pieces is a digit.
digits-start : (s t : List ℕ) → all_of is_hex_digit s ≡ true → 1 ≤ length s → starts_of is_hex_digit (s ++ t) ≡ true
unfolding all_of starts_of
digits-start [] t h l = absurd (omega arith)
digits-start (c ∷ s) t h l = and_left (is_hex_digit c) (all_of is_hex_digit s) h

group-start : (g t : List ℕ) → is_group g ≡ true → starts_of is_hex_digit (g ++ t) ≡ true
group-start g t h = let r = is_group-is g h in digits-start g t r.digits r.some

octet-start : (a t : List ℕ) → is_dec_octet a ≡ true → starts_of is_hex_digit (a ++ t) ≡ true
octet-start a t h = let n = is_number-is 255 a (octet-number a h) in digits-start a t (all-weaken is_digit is_hex_digit is_digit-hex a n.digits) n.some

pub pieces-start : {q : Bool} {s xs : List ℕ} (t : List ℕ) → Pieces q s xs → starts_of is_hex_digit (s ++ t) ≡ true
unfolding dotted
pieces-start t (group g h) = group-start g t h
pieces-start t (quad a b c d h i j k) = rw append_assoc (octet-start a _ h)
pieces-start t (more {s = s} g h p) = rw (append_assoc g (colon ∷ s) t) (group-start g (colon ∷ (s ++ t)) h)

-- A piece is read.
read_piece-group : (k : ℕ) (g t : List ℕ) → is_group g ≡ true → starts_of is_hex_digit t ≡ false → starts_byte dot t ≡ false
    → read_piece k (g ++ t) ≡ reader.group (hex_number g) t
unfolding read_piece
read_piece-group k g t h d e = rw (read_group-append g t h d, hex-no-quad g t (is_group-is g h).digits d e) (go (leb 2 k))
  where
    go : (b : Bool) → piece_of (cond b nothing nothing) (parsed (hex_number g) t) ≡ reader.group (hex_number g) t
    go true = refl
    go false = refl

read_piece-none : (k : ℕ) (t : List ℕ) → starts_of is_hex_digit t ≡ false → starts_byte dot t ≡ false → read_piece k t ≡ reader.none
unfolding read_piece read_group is_group all_of
read_piece-none k t d e = rw (leading-none is_hex_digit t d, hex-no-quad [] t refl d e) (go (leb 2 k))
  where
    go : (b : Bool) → piece_of (cond b nothing nothing) nothing ≡ reader.none
    go true = refl
    go false = refl

read_piece-quad : (k : ℕ) (s : List ℕ) (v : ℕ) (t : List ℕ) → 2 ≤ k → read_dotted s ≡ parsed v t → read_piece k s ≡ reader.quad v t
unfolding read_piece
read_piece-quad k s v t h e = rw (le-leb 2 k h, e)

-- Pieces are read whole.
pieces-some : {q : Bool} {s xs : List ℕ} → Pieces q s xs → 1 ≤ length xs
pieces-some (group g h) = omega arith
pieces-some (quad a b c d h i j k) = omega arith
pieces-some (more g h p) = omega arith

goes_on-pieces : {q : Bool} {s xs : List ℕ} (t : List ℕ) → Pieces q s xs → goes_on (colon ∷ (s ++ t)) ≡ true
unfolding goes_on starts_byte
goes_on-pieces t p = pieces-start t p

colon-apart : (t : List ℕ) → (starts_of is_hex_digit (colon ∷ t) ≡ false) × (starts_byte dot (colon ∷ t) ≡ false)
unfolding starts_of is_hex_digit starts_byte
colon-apart t = (refl, refl)

pub run-pieces : {q : Bool} {a ys : List ℕ} → Pieces q a ys → (k : ℕ) (xs t : List ℕ) → length ys ≤ k → Stops t → run_from k xs (a ++ t) ≡ ran (xs ++ ys) q t
unfolding run_from
run-pieces p zero xs t l z = absurd (omega (arith, pieces-some p))
run-pieces (group g h) (suc k) xs t l z = rw (read_piece-group (suc k) g t h z.digit z.dot, z.on)
run-pieces (quad a b c d h i j m) (suc k) xs t l z =
    let s = dotted a b c d ++ t in
    let v = address (decimal a) (decimal b) (decimal c) (decimal d) in
    let e : read_piece (suc k) s ≡ reader.quad v t = read_piece-quad (suc k) s v t (omega arith) (read_dotted-append a b c d t h i j m (starts_digit-hex t z.digit)) in
    rw (e, pair-address (decimal a) (decimal b) (decimal c) (decimal d) (octet-most a h) (octet-most b i) (octet-most c j) (octet-most d m))
run-pieces (more {q = q} {s = s} {xs = ys} g h p) (suc k) xs t l z =
    let x = hex_number g in
    let c = colon-apart (s ++ t) in
    rw (append_assoc g (colon ∷ s) t, read_piece-group (suc k) g (colon ∷ (s ++ t)) h c.0 c.1, goes_on-pieces t p)
    (run-pieces {q = q} {a = s} {ys = ys} p k (xs ++ (x ∷ [])) t (omega arith) z ∙ ap (λ u. ran u q t) (append_assoc xs (x ∷ []) ys))

pub run-stays : (k : ℕ) (xs t : List ℕ) → Stops t → run_from k xs t ≡ ran xs false t
unfolding run_from
run-stays zero xs t z = refl
run-stays (suc k) xs t z = rw (read_piece-none (suc k) t z.digit z.dot)

pub run-side : {q : Bool} {a ys : List ℕ} → Side q a ys → (k : ℕ) (xs t : List ℕ) → length ys ≤ k → Stops t → run_from k xs (a ++ t) ≡ ran (xs ++ ys) q t
run-side empty k xs t l z = run-stays k xs t z ∙ ap (λ u. ran u false t) (sym (append-nil xs))
run-side (pieces p) k xs t l z = run-pieces p k xs t l z

-- What is read is pieces, or nothing, where no digit follows.
pub record Went (xs s : List ℕ) (r : Ran) : Type 0 where
  pub text : List ℕ
  pub groups : List ℕ
  pub side : Side r.quad text groups
  pub joined : r.groups ≡ xs ++ groups
  pub bytes : s ≡ text ++ r.rest

went-pieces : {xs s : List ℕ} {r : Ran} (a ys : List ℕ) → Pieces r.quad a ys → r.groups ≡ xs ++ ys → s ≡ a ++ r.rest → Went xs s r
went-pieces a ys p e f = record { text = a; groups = ys; side = pieces p; joined = e; bytes = f }

piece-quad : (k : ℕ) (s : List ℕ) (v : ℕ) (t : List ℕ) → read_piece k s ≡ reader.quad v t → read_dotted s ≡ parsed v t
unfolding read_piece
piece-quad k s v t e = go (leb 2 k) (read_dotted s) (read_group s) e
  where
    go : (b : Bool) (p g : Parsed) → piece_of (cond b p nothing) g ≡ reader.quad v t → p ≡ parsed v t
    go true (parsed w u) g e = let x : w ≡ v = cc in let y : u ≡ t = cc in cc
    go true nothing (parsed w u) e = let z : ◌≡◌ {A = ℕ} 0 1 = cc in absurd (omega arith)
    go true nothing nothing e = let z : ◌≡◌ {A = ℕ} 0 1 = cc in absurd (omega arith)
    go false p (parsed w u) e = let z : ◌≡◌ {A = ℕ} 0 1 = cc in absurd (omega arith)
    go false p nothing e = let z : ◌≡◌ {A = ℕ} 0 1 = cc in absurd (omega arith)

piece-group : (k : ℕ) (s : List ℕ) (x : ℕ) (t : List ℕ) → read_piece k s ≡ reader.group x t → read_group s ≡ parsed x t
unfolding read_piece
piece-group k s x t e = go (cond (leb 2 k) (read_dotted s) nothing) (read_group s) e
  where
    go : (p g : Parsed) → piece_of p g ≡ reader.group x t → g ≡ parsed x t
    go (parsed w u) g e = let z : ◌≡◌ {A = ℕ} 0 1 = cc in absurd (omega arith)
    go nothing (parsed w u) e = let x : w ≡ x = cc in let y : u ≡ t = cc in cc
    go nothing nothing e = let z : ◌≡◌ {A = ℕ} 0 1 = cc in absurd (omega arith)

went-quad : (xs s : List ℕ) (v : ℕ) (t : List ℕ) → read_dotted s ≡ parsed v t → Went xs s (ran (xs ++ (v / 65536 ∷ v % 65536 ∷ [])) true t)
went-quad xs s v t e =
    let q = read_dotted-is s v t e in
    let p = pair-address (decimal q.a) (decimal q.b) (decimal q.c) (decimal q.d) (octet-most q.a q.a-rule) (octet-most q.b q.b-rule) (octet-most q.c q.c-rule) (octet-most q.d q.d-rule) in
    went-pieces (dotted q.a q.b q.c q.d) (pair (decimal q.a) (decimal q.b) (decimal q.c) (decimal q.d))
    (quad q.a q.b q.c q.d q.a-rule q.b-rule q.c-rule q.d-rule) (ap (λ u. xs ++ u) (ap (λ w. w / 65536 ∷ w % 65536 ∷ []) q.value ∙ p)) q.bytes

went-one : (xs s : List ℕ) (x : ℕ) (t : List ℕ) → read_group s ≡ parsed x t → Went xs s (ran (xs ++ (x ∷ [])) false t)
went-one xs s x t e =
    let g = read_group-is s x t e in
    went-pieces g.digits (hex_number g.digits ∷ []) (group g.digits g.rule) (ap (λ y. xs ++ (y ∷ [])) g.value) g.bytes

-- a colon, and what stands behind it
goes_on-is : (t : List ℕ) → goes_on t ≡ true → (t ≡ colon ∷ drop 1 t) × (starts_of is_hex_digit (drop 1 t) ≡ true)
unfolding goes_on starts_byte
goes_on-is [] e = absurd (true≢false (sym e))
goes_on-is (c ∷ t) e = (ap (λ x. x ∷ t) (eqb-true c colon (and_left (eqb c colon) (starts_of is_hex_digit t) e)), and_right (eqb c colon) (starts_of is_hex_digit t) e)

-- a group before what was read behind it
went-more : (xs s : List ℕ) (x : ℕ) (t : List ℕ) (r : Ran) → read_group s ≡ parsed x t → goes_on t ≡ true → starts_of is_hex_digit r.rest ≡ false
    → Went (xs ++ (x ∷ [])) (drop 1 t) r → Went xs s r
went-more xs s x t r e o z w = go w.side refl w.joined w.bytes
  where
    go : {q : Bool} {a ys : List ℕ} → Side q a ys → q ≡ r.quad → r.groups ≡ (xs ++ (x ∷ [])) ++ ys → drop 1 t ≡ a ++ r.rest → Went xs s r
    go empty f j b = absurd (true≢false (sym (goes_on-is t o).1 ∙ ap (starts_of is_hex_digit) b ∙ z))
    go (pieces {s = a} {xs = ys} p) f j b =
        let g = read_group-is s x t e in
        went-pieces (g.digits ++ (colon ∷ a)) (hex_number g.digits ∷ ys) (rw (← f) (more g.digits g.rule p))
        (j ∙ append_assoc xs (x ∷ []) ys ∙ ap (λ y. xs ++ (y ∷ ys)) g.value)
        (g.bytes ∙ ap (λ u. g.digits ++ u) ((goes_on-is t o).0 ∙ ap (λ u. colon ∷ u) b) ∙ sym (append_assoc g.digits (colon ∷ a) r.rest))

pub run-went : (k : ℕ) (xs s : List ℕ) → starts_of is_hex_digit (run_from k xs s).rest ≡ false → Went xs s (run_from k xs s)
unfolding run_from
run-went zero xs s z = record { text = []; groups = []; side = empty; joined = sym (append-nil xs); bytes = refl }
run-went (suc k) xs s z = go (λ ys t. run-went k ys t) (read_piece (suc k) s) refl z
  where
    Behind : Type 0
    Behind = (ys t : List ℕ) → starts_of is_hex_digit (run_from k ys t).rest ≡ false → Went ys t (run_from k ys t)

    next : Behind → (x : ℕ) (t : List ℕ) → read_group s ≡ parsed x t → (b : Bool) → goes_on t ≡ b
        → let r = cond b (run_from k (xs ++ (x ∷ [])) (drop 1 t)) (ran (xs ++ (x ∷ [])) false t) in
        starts_of is_hex_digit r.rest ≡ false → Went xs s r
    next h x t e true o z = went-more xs s x t (run_from k (xs ++ (x ∷ [])) (drop 1 t)) e o z (h (xs ++ (x ∷ [])) (drop 1 t) z)
    next h x t e false o z = went-one xs s x t e

    go : Behind → (p : Piece) → read_piece (suc k) s ≡ p → starts_of is_hex_digit (run_on xs s p (λ ys t. run_from k ys t)).rest ≡ false
        → Went xs s (run_on xs s p (λ ys t. run_from k ys t))
    go h reader.none e z = record { text = []; groups = []; side = empty; joined = sym (append-nil xs); bytes = refl }
    go h (reader.quad v t) e z = went-quad xs s v t (piece-quad (suc k) s v t e)
    go h (reader.group x t) e z = next h x t (piece-group (suc k) s x t e) (goes_on t) refl z
