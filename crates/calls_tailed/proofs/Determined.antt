-- Two outcomes that the contract of a call with a tail allows are equal: the answer, and each lent row and byte. Of the calls that only read a tail the contract equates both with a function of the
-- arguments. Assumes nothing.
use mathlib.Core.List.{List}
use mathlib.Core.Path.{◌≡◌, sym, ◌∙◌}
use Prim.Native.Nat.{ℕ}
use Rattle.calls_bytes.specs.declared.Call.{Call}
use Rattle.calls_bytes.specs.declared.Reply.{Reply}
use Rattle.calls_tailed.specs.Tailed.{Listing, Lining, Saving, Mending}

module _ {c : Call} {o u t : List ℕ} {at : ℕ} {r q : Reply} where
  pub listing-determined : {w v x y : List ℕ} → Listing w v c o at r x u → Listing w v c o at q y t → (r ≡ q) × ((x ≡ y) × (u ≡ t))
  listing-determined g h = (g.reply ∙ sym h.reply, (g.rows ∙ sym h.rows, g.tail ∙ sym h.tail))

  pub lining-determined : Lining c o at r u → Lining c o at q t → (r ≡ q) × (u ≡ t)
  lining-determined g h = (g.reply ∙ sym h.reply, g.tail ∙ sym h.tail)

  pub saving-determined : {w : List ℕ} → Saving w c o at r u → Saving w c o at q t → (r ≡ q) × (u ≡ t)
  saving-determined g h = (g.reply ∙ sym h.reply, g.tail ∙ sym h.tail)

  pub mending-determined : {s : List ℕ} → Mending c s o at r u → Mending c s o at q t → (r ≡ q) × (u ≡ t)
  mending-determined g h = (g.reply ∙ sym h.reply, g.tail ∙ sym h.tail)
