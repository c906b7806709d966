-- The words that a pool needs, by the tests of the call; and a granted layout, by what each of its writes leaves. Assumes nothing.
use mathlib.Core.Path.{◌≡◌, ap, sym, ◌∙◌}
use mathlib.Core.Bool.{true, false}
use mathlib.Core.List.{List}
use Prim.Native.Nat.{ℕ, ◌≤◌, ◌<◌}
use lib.ListN.{length, replicate}
use borrow.Author.Tests.{le-leb, lt-leb, eq-eqb, ne_eqb}
use Rattle.pool_state.specs.Kept.{first}
use Rattle.pool_state.specs.States.{is_size}
use Rattle.nodes.specs.Words.{put}
use Rattle.pool_state.specs.Decode.{least_words, over_records, over_indexes, is_form}
use Rattle.pool_state.specs.Rules.{Setup, marks, is_setup, empty_sets, blanks, Laid, is_formed, answer_as}
use Rattle.pool_state.proofs.Determined.{answer_as-one}
use Rattle.pool_state.proofs.Setups.{headed, layout-granted}
use Rattle.pool.specs.Words.{words_rule}
use lib.Dec.{eqb}
use Rattle.std.specs.Prelude.{Result}
use Rattle.nets.specs.declared.Refusal.{Refusal}

module _ (m n j : ℕ) where
  pub words_size : is_size m n ≡ false → (1, 0) ≡ words_rule m n j
  unfolding words_rule
  words_size e = rw e

  pub words-many : is_size m n ≡ true → m < j → (1, 0) ≡ words_rule m n j
  unfolding words_rule
  words-many e lt = rw (e, lt-leb j m lt)

  pub words_are : is_size m n ≡ true → j ≤ m → {r : ℕ} → r ≡ least_words m n j → (0, r) ≡ words_rule m n j
  unfolding words_rule
  words_are e le q = rw (e, le-leb j m le, q)

  pub words-determined : (r s : Result ℕ Refusal) → answer_as r ≡ words_rule m n j → answer_as s ≡ words_rule m n j → r ≡ s
  words-determined r s e f = answer_as-one r s (e ∙ sym f)

pub layout-done : (w : List ℕ) (p : Setup) → is_setup (length w) p ≡ true → {j n m : ℕ} {u v y z : List ℕ} → j ≡ marks p.sets p.indexed → n ≡ least_words p.sets p.nodes j
    → u ≡ put w 0 (replicate n 0) → v ≡ headed u p → y ≡ over_records v 0 1 (empty_sets first p.shares p.limits 0)
    → m ≡ least_words p.sets p.nodes 0 → z ≡ over_indexes y m 0 0 (blanks p.sets p.indexed) → Laid w p (0, 0) z
layout-done w p h {j} {n} {m} {u} {v} {y} {z} ej en a b c em d =
    layout-granted w p h n u v y z (en ∙ ap (least_words p.sets p.nodes) ej) a b c (d ∙ ap (λ k. over_indexes y k 0 0 (blanks p.sets p.indexed)) em)

-- The form: it is one, and in the second no set is to be indexed.
module _ (o x : ℕ) where
  pub formed-not : is_form o ≡ false → false ≡ is_formed o x
  unfolding is_formed
  formed-not e = rw e

  pub formed-first : is_form o ≡ true → o ≡ 0 → true ≡ is_formed o x
  unfolding is_formed
  formed-first e z = rw (e, eq-eqb o 0 z)

  pub formed-second : is_form o ≡ true → (o ≡ 0 → ⊥) → eqb x 0 ≡ is_formed o x
  unfolding is_formed
  formed-second e ne = rw (e, ne_eqb o 0 ne)
