-- `is_form` meets its contract: the first form is 0, the second 1, and there is no other. Assumes nothing.
use mathlib.Core.Path.{◌≡◌, refl}
use Prim.Native.Nat.{ℕ, zero, suc}
use native.Mathlib.Omega.{arith}
use lib.Dec.{leb}
use borrow.Author.Tests.{lt-leb, ne_eqb}
use Rattle.pool_state.specs.Decode.{is_form}
use Rattle.pool_header.proofs.is_form.Goals as goal

formed : (x : ℕ) → leb x 1 ≡ is_form x
unfolding is_form
formed zero = refl
formed (suc zero) = refl
formed (suc (suc x)) = rw (lt-leb (suc (suc x)) 1 (omega arith), ne_eqb (suc (suc x)) 1 (omega arith))

pub returns : goal.returns
returns c = formed _
