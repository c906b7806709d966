-- Reading a group: it is read exactly where the hexadecimal digits that stand first are one to four. Assumes nothing.
use mathlib.Core.Bool.{Bool, true, false, cond, ◌&&◌}
use mathlib.Core.List.{List, ◌++◌}
use mathlib.Core.Path.{◌≡◌, refl, ap, sym, ◌∙◌}
use Prim.Native.Nat.{ℕ, ◌≤◌, ◌<◌}
use native.Mathlib.Omega.{arith}
use lib.Dec.{leb}
use lib.ListN.{length}
use borrow.Author.Tests.{leb-true, le-leb}
use Rattle.nets.proofs.Strings.{and_left, and_right}
use Rattle.text_decimal.specs.Spans.{all_of, starts_of, leading_of, behind_of}
use Rattle.text_decimal.specs.Decimal.{parsed, nothing}
use Rattle.text_decimal.proofs.Spans.{leading-behind, leading-append, behind-append}
use Rattle.text_hex.specs.Hex.{is_hex_digit, all_hex_digits, hex_number}
use Rattle.text_hex.proofs.Digits.{hex_number-most}
use Rattle.text_ipv6_runs.specs.Runs.{is_group}
use Rattle.text_ipv6_runs.specs.Runs.{read_group}

-- The rule for a group, part by part.
pub record Group (g : List ℕ) : Type 0 where
  pub digits : all_of is_hex_digit g ≡ true
  pub some : 1 ≤ length g
  pub most : length g ≤ 4

pub is_group-is : (g : List ℕ) → is_group g ≡ true → Group g
unfolding is_group
is_group-is g e =
    let h = and_right (all_hex_digits g) (leb 1 (length g) && leb (length g) 4) e in
    record {
      digits = and_left (all_hex_digits g) (leb 1 (length g) && leb (length g) 4) e;
      some = leb-true 1 (length g) (and_left (leb 1 (length g)) (leb (length g) 4) h);
      most = leb-true (length g) 4 (and_right (leb 1 (length g)) (leb (length g) 4) h);
    }

pub is-is_group : (g : List ℕ) → Group g → is_group g ≡ true
unfolding is_group
is-is_group g h = rw (h.digits, le-leb 1 (length g) h.some, le-leb (length g) 4 h.most)

-- A group is read with any bytes behind it that do not go on with a digit; and what is read is one.
pub read_group-append : (g t : List ℕ) → is_group g ≡ true → starts_of is_hex_digit t ≡ false → read_group (g ++ t) ≡ parsed (hex_number g) t
unfolding read_group
read_group-append g t h e = let d = (is_group-is g h).digits in rw (leading-append is_hex_digit g t d e, behind-append is_hex_digit g t d e, h)

pub record ReadGroup (s : List ℕ) (x : ℕ) (t : List ℕ) : Type 0 where
  pub digits : List ℕ
  pub rule : is_group digits ≡ true
  pub value : x ≡ hex_number digits
  pub bytes : s ≡ digits ++ t

pub read_group-is : (s : List ℕ) (x : ℕ) (t : List ℕ) → read_group s ≡ parsed x t → ReadGroup s x t
unfolding read_group
read_group-is s x t e = go (is_group (leading_of is_hex_digit s)) refl e
  where
    go : (b : Bool) → is_group (leading_of is_hex_digit s) ≡ b → cond b (parsed (hex_number (leading_of is_hex_digit s)) (behind_of is_hex_digit s)) nothing ≡ parsed x t
        → ReadGroup s x t
    go true h e =
        let d = leading_of is_hex_digit s in
        record { digits = d; rule = h; value = cc; bytes = sym (leading-behind is_hex_digit s) ∙ ap (λ u. d ++ u) (cc) }
    go false h e = let z : ◌≡◌ {A = ℕ} 0 1 = cc in absurd (omega arith)

pub read_group-most : (s : List ℕ) (x : ℕ) (t : List ℕ) → parsed x t ≡ read_group s → x < 65536
read_group-most s x t e = let r = read_group-is s x t (sym e) in rw r.value (hex_number-most r.digits (is_group-is r.digits r.rule).most)
