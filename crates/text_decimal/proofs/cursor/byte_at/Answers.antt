-- `cursor::byte_at` meets its contract. Assumes nothing.
use denote.Ref.{Bor}
use lib.Dec.{eqb, ltb}
use lib.ListN.{length, drop, get_or}
use mathlib.Core.List.{List}
use mathlib.Core.Path.{◌≡◌, refl, ◌∙◌}
use Prim.Native.Nat.{ℕ}
use Rattle.std.specs.Option.{is_some, IfSome, option_eq}
use Rattle.std.specs.Prelude.{Option, Some, None}
use Rattle.text_decimal.specs.Places.{starts_byte}
use Rattle.text_decimal.proofs.Places.{got-byte, got-none}
use Rattle.text_decimal.proofs.cursor.byte_at.Goals as goal

-- what `get` found is the byte where the place holds it
got : (s : List ℕ) (at : ℕ) (r : Option (Bor ℕ)) (y : Bor ℕ) → is_some r ≡ ltb at (length s) → IfSome r (λ x. x.now ≡ get_or s at x.now)
    → option_eq (λ u v. eqb u.now v.now) r (Some y) ≡ starts_byte y.now (drop at s)
unfolding starts_byte
got s at None y h e = got-none s at (starts_byte y.now) refl h
got s at (Some x) y h e = rw (got-byte s at h e) refl

pub returns : goal.returns
returns c = let h = c.get.ensures.lookup in c.eq.ensures ∙ got c.args.s.now c.args.at c.get.result _ h.0 h.1
