-- What a line does to the pool, by how it is read. Assumes nothing.
use mathlib.Core.Bool.{Bool, true, false, cond}
use mathlib.Core.List.{List}
use mathlib.Core.Path.{◌≡◌, refl, ap, sym, ◌∙◌}
use Prim.Native.Nat.{ℕ}
use lib.Dec.{eqb}
use borrow.Author.Tests.{ne_eqb}
use Rattle.nets.proofs.Answers.{number-some}
use Rattle.nets.proofs.Numbers.{family-cleared, net_bits-cleared, refusal_of-cleared}
use Rattle.nets.specs.Networks.{net_bits, refusal_of, cleared, no_entry, entered_as}
use Rattle.nets.specs.Refusals.{number}
use Rattle.nets.specs.declared.Net.{Net}
use Rattle.nets.specs.declared.Refusal.{Refusal}
use Rattle.pool_state.specs.States.{State}
use Rattle.pool_state.specs.Decode.{decode}
use Rattle.pool_state.specs.Changes.{change_rule, words_after, net_rules}
use Rattle.pool_state.specs.declared.Survey.{Survey}
use Rattle.pool_state.proofs.Answered.{left_on-refused}
use Rattle.change_ask.specs.Calls.{list_with, Added}
use Rattle.change_add.specs.Steps.{Grows}
use Rattle.text_either.specs.Either.{read_either, entered_either}
use Rattle.text_either.proofs.Reading.{entered_either-no}
use Rattle.text_either.proofs.RoundTrip as lines
use Rattle.lines_take.specs.Lines.{add_no, add_words, line_no, words_with}
use Rattle.lines_take.specs.Taking.{no_of, Hands, Takes}
use Rattle.std.specs.Prelude.{Result, Ok, Err}

-- A line that is no network.
pub took-refused : {t : (Result (Net × Bool) Refusal)} {x : Refusal} {w : List ℕ} (l : List ℕ) → t ≡ Err x → entered_as t ≡ entered_either l
    → Takes w l (record { then = Err x; cut = false }) w
unfolding line_no words_with
took-refused {t} {x} l e h =
    let q : (read_either l).0 ≡ number x = sym (entered_either-no l) ∙ ap (λ p. p.0) (sym h ∙ ap entered_as e) in
    let z = ne_eqb (number x) 0 (number-some x) in
    record { no = rw (q, z) refl; cut = ap (λ p. p.1.1) (sym (ap entered_as e) ∙ h); words = rw (q, z) refl; found = refl }

-- The cleared network is added as the numbers that were read are.
module _ (n : Net) (z : refusal_of n ≡ 0) where
  rules-at : (S : State) → net_rules (cleared n) S ≡ net_rules n S
  unfolding net_rules
  rules-at S = rw (refusal_of-cleared n z, z, family-cleared n)

  list_at : (S : State) → list_with 0 (cleared n) S ≡ list_with 0 n S
  list_at S = rw (net_bits-cleared n z)

  rules-cleared : net_rules (cleared n) ≡ net_rules n
  rules-cleared = λ i S. rules-at S i

  lists-cleared : list_with 0 (cleared n) ≡ list_with 0 n
  lists-cleared = λ i S. list_at S i

-- A network, refused or added.
module _ {t : (Result (Net × Bool) Refusal)} {n : Net} {b : Bool} {w v : List ℕ} (l : List ℕ) (e : t ≡ Ok (n, b)) (h : entered_as t ≡ entered_either l) where
  took : {a : ℕ × ℕ} {y : Result Survey Refusal} → Added w 0 n a v → no_of y ≡ a.0 → Hands w v y → Takes w l (record { then = y; cut = b }) v
  unfolding line_no words_with
  took {a} {y} d k g =
      let x = lines.took l n b (sym h ∙ ap entered_as e) in
      let r = rules-cleared x.read x.granted in
      let s = lists-cleared x.read x.granted in
      let added = rw x.network at d in
      record { cut = ap (λ p. p.1.1) (sym (ap entered_as e) ∙ h); no = rw x.reads (k ∙ (rw (r, s) at (ap (λ p. p.0) added.answer))); words = rw x.reads (rw (r, s) at added.words); found = g }

  pub took-added : (y : Result Survey Refusal) → Grows w 0 n y v → Takes w l (record { then = y; cut = b }) v
  took-added (Ok f) d = took d.0 refl d.1
  took-added (Err x) d = let a : Added w 0 n (number x, 0) v = rw d.1 d.0 in took a refl d.1

-- A refused line leaves the words.
pub words_with-refused : (w l : List ℕ) → (line_no w l ≡ 0 → ⊥) → words_with w l ≡ w
unfolding line_no words_with change_rule words_after
words_with-refused w l ne = go (eqb (read_either l).0 0) ne
  where
    n : Net
    n = (read_either l).1

    go : (b : Bool) → (cond b (add_no w n) (read_either l).0 ≡ 0 → ⊥)
        → cond b (add_words w n) w ≡ w
    go true h = left_on-refused _ 0 _ w _ (decode w) h
    go false h = refl
