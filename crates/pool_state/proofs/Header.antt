-- The header of a pool: what each test of `is_header` settles of `is_header`, and what a header says, taken apart. Assumes nothing.
use mathlib.Core.Path.{◌≡◌}
use mathlib.Core.Bool.{true, false, ◌&&◌, and-false}
use mathlib.Core.List.{List}
use Prim.Native.Nat.{ℕ, ◌≤◌, ◌<◌}
use native.Mathlib.Omega.{arith}
use lib.Dec.{eqb, leb}
use lib.ListN.{length, get_or}
use borrow.Author.Tests.{le-leb, lt-leb, eq-eqb, ne_eqb, leb-true, eqb-true}
use Rattle.nets.proofs.Strings.{and_left, and_right}
use Rattle.nodes.specs.Parse.{Room}
use Rattle.pool_state.specs.Kept.{form_no, RoomL}
use Rattle.pool_state.specs.States.{is_size}
use Rattle.nets.specs.Networks.{is_family}
use Rattle.pool_state.specs.Decode.{mark, base, least_words, form_in, is_form, is_header}
use Rattle.pool_state.proofs.Claims.{Sized, is_size-is}

-- The tests.
module _ (w : List ℕ) where
  pub is_header-short : length w < 64 → false ≡ is_header w
  unfolding is_header
  is_header-short lt = simp (lt-leb (least_words (get_or w 2 0) (get_or w 3 0) (get_or w 4 0)) (length w) (omega arith), and-false)

  pub is_header-mark : (get_or w 0 0 ≡ mark → ⊥) → false ≡ is_header w
  unfolding is_header
  is_header-mark ne = rw (ne_eqb (get_or w 0 0) mark ne)

  pub is_header-family : is_family (get_or w 1 0) ≡ false → false ≡ is_header w
  unfolding is_header
  is_header-family e = simp (e, and-false)

  pub is_header-form : is_form (get_or w 5 0) ≡ false → false ≡ is_header w
  unfolding is_header
  is_header-form e = simp (e, and-false)

  pub is_header-size : is_size (get_or w 2 0) (get_or w 3 0) ≡ false → false ≡ is_header w
  unfolding is_header
  is_header-size e = simp (e, and-false)

  pub is_header-indexed : get_or w 2 0 < get_or w 4 0 → false ≡ is_header w
  unfolding is_header
  is_header-indexed lt = simp (lt-leb (get_or w 4 0) (get_or w 2 0) lt, and-false)

  pub is_header-long : get_or w 0 0 ≡ mark → is_family (get_or w 1 0) ≡ true → is_form (get_or w 5 0) ≡ true → is_size (get_or w 2 0) (get_or w 3 0) ≡ true → get_or w 4 0 ≤ get_or w 2 0
      → {n : ℕ} → n ≡ least_words (get_or w 2 0) (get_or w 3 0) (get_or w 4 0) → leb n (length w) ≡ is_header w
  unfolding is_header
  is_header-long m f o s i e = rw (e, eq-eqb (get_or w 0 0) mark m, f, o, s, le-leb (get_or w 4 0) (get_or w 2 0) i)

-- What it says: the mark, a family, few sets and nodes, no more indexed sets than sets, and words for them all.
pub record IsHeader (w : List ℕ) : Type 0 where
  pub marked : get_or w 0 0 ≡ mark
  pub family : is_family (get_or w 1 0) ≡ true
  pub form : get_or w 5 0 ≡ form_no (form_in w)
  pub size : is_size (get_or w 2 0) (get_or w 3 0) ≡ true
  pub sized : Sized (get_or w 2 0) (get_or w 3 0)
  pub indexed : get_or w 4 0 ≤ get_or w 2 0
  pub long : least_words (get_or w 2 0) (get_or w 3 0) (get_or w 4 0) ≤ length w

pub is_header-header : (w : List ℕ) → is_header w ≡ true → IsHeader w
unfolding is_header is_form
is_header-header w e =
    let a = eqb (get_or w 0 0) mark in
    let b = is_family (get_or w 1 0) && is_form (get_or w 5 0) in
    let c = is_size (get_or w 2 0) (get_or w 3 0) in
    let i = leb (get_or w 4 0) (get_or w 2 0) in
    let d = leb (least_words (get_or w 2 0) (get_or w 3 0) (get_or w 4 0)) (length w) in
    let f = and_left (a && b) (c && (i && d)) e in
    let g = and_right (a && b) (c && (i && d)) e in
    let h = and_right c (i && d) g in
    let o = and_right (is_family (get_or w 1 0)) (is_form (get_or w 5 0)) (and_right a b f) in
    record {
      marked = eqb-true (get_or w 0 0) mark (and_left a b f);
      family = and_left (is_family (get_or w 1 0)) (is_form (get_or w 5 0)) (and_right a b f);
      form = eqb-true (get_or w 5 0) (form_no (form_in w)) o;
      size = and_left c (i && d) g;
      sized = is_size-is (get_or w 2 0) (get_or w 3 0) (and_left c (i && d) g);
      indexed = leb-true (get_or w 4 0) (get_or w 2 0) (and_left i d h);
      long = leb-true (least_words (get_or w 2 0) (get_or w 3 0) (get_or w 4 0)) (length w) (and_right i d h);
    }

pub header-room : {w : List ℕ} → IsHeader w → Room w (base (get_or w 2 0)) (get_or w 3 0)
header-room h = record { low = omega arith; few = omega arith; long = omega arith }

pub header-rooms : {w : List ℕ} → IsHeader w → RoomL (get_or w 1 0) w (base (get_or w 2 0)) (get_or w 3 0)
header-rooms h = record { family = h.family; low = omega arith; few = omega arith; long = omega arith }
