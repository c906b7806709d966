-- What the laws of a pool ask of a form, in one record, and that both forms have it. How a trie is the words of one form or the other is said in OnTries and OnKept. Assumes nothing.
--
--   words    a list has as many words as its nodes times the stride
--   held     no list but the empty one is without a node
--   reads    a list that stands at a node is read there
--   stands   a list that is read at a node stands there, and is not empty
--   apart    no list's words begin another's
use mathlib.Core.Path.{◌≡◌}
use mathlib.Core.Bool.{true}
use mathlib.Core.List.{List, []}
use Prim.Native.Nat.{ℕ, ◌*◌, ◌≤◌}
use lib.ListN.{length}
use Rattle.nets.specs.Bits.{Bits}
use Rattle.nets.specs.Lists.{is_list}
use Rattle.nets.specs.Networks.{width}
use Rattle.nodes.specs.Words.{Has}
use Rattle.pool_state.specs.Kept.{Form, held_l, enc_l, stride_l, RoomL, ok_list, read_l}
use Rattle.pool_state.proofs.Kept.{StandsL, length-enc_l, held_l-none, read_l-of, read_l-stands, enc_l-one}

pub record FormLaws (F : Form) : Type 0 where
  pub words : (v d : ℕ) (l : List Bits) → is_list d l ≡ true → length (enc_l F v l) ≡ stride_l F v * held_l F l
  pub held : (l : List Bits) → held_l F l ≡ 0 → l ≡ []
  pub reads : {v : ℕ} {w : List ℕ} {b n i : ℕ} {l : List Bits} → 1 ≤ i → (l ≡ [] → ⊥) → StandsL F v w b n i l → read_l F v w b n i ≡ ok_list l
  pub stands : {v : ℕ} {w : List ℕ} {b n i : ℕ} {l : List Bits} → RoomL v w b n → 1 ≤ i → read_l F v w b n i ≡ ok_list l
      → StandsL F v w b n i l × (l ≡ [] → ⊥)
  pub apart : (v : ℕ) {w : List ℕ} {p : ℕ} {l m : List Bits} → is_list (width v) l ≡ true → is_list (width v) m ≡ true → (l ≡ [] → ⊥) → (m ≡ [] → ⊥)
      → Has w p (enc_l F v l) → Has w p (enc_l F v m) → l ≡ m

pub form-laws : (F : Form) → FormLaws F
form-laws F = record {
  words = λ v d l e. length-enc_l d l e F v;
  held = held_l-none F;
  reads = read_l-of F;
  stands = read_l-stands F;
  apart = enc_l-one F;
}
