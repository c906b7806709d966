-- An exported call is the call of its name: its contract, and the number of its answer. So two outcomes that it allows are equal where the call's are: an answer has one number.
use mathlib.Core.List.{List, [], ◌∷◌}
use mathlib.Core.Path.{◌≡◌, sym, ap, ◌∙◌}
use Prim.Native.Nat.{ℕ}
use borrow.Author.Tests.{ne_eqb}
use Rattle.nets.specs.Refusals.{number}
use Rattle.nets.specs.declared.Refusal.{Refusal}
use Rattle.nets.proofs.Answers.{number-some}
use Rattle.lines_reader.specs.Kept.{begun}
use Rattle.lines.specs.Reading.{fed, finished, fed_all, all_read}
use Rattle.lines_reader.specs.declared.Reader.{Reader}
use Rattle.salvage.specs.Calls.{salvaged_as, Salvages}
use Rattle.salvage.specs.declared.Counts.{Counts}
use Rattle.calls_bytes.specs.declared.Reply.{Reply}
use Rattle.calls_replies.specs.Replies.{no_reply, salvage_reply}
use Rattle.calls_packed.specs.Packed.{packed, row_after, first_of}
use Rattle.exports.specs.Exported.{Tells, WithRow, ReadsLines, counts_after, SavesCounts}
use Rattle.std.specs.Prelude.{Result, Ok, Err}

pub tells : {A : Type 0} {C : A → List ℕ → Type 0} {f : A → Reply} (a : A) {v : List ℕ} {x : Reply} {r : ℕ} → C a v → x ≡ f a → r ≡ packed x → Tells C f r v
tells a c e h = record { answer = a; call = c; number = h ∙ ap packed e }

pub with_row : {q x : Reply} {r : ℕ} {v u : List ℕ} → x ≡ q → u ≡ row_after v x → r ≡ packed x → WithRow q r v u
with_row {v = v} e h k = record { number = k ∙ ap packed e; row = h ∙ ap (row_after v) e }

-- one piece, and the end of the input
pub lines-told : {w w₁ w₂ s : List ℕ} {r₀ r₁ r₂ : Reader} {x : Reply} {r : ℕ} → r₀ ≡ begun → (r₁, w₁) ≡ fed w r₀ s → (r₂, w₂) ≡ finished w₁ r₁ → x ≡ no_reply r₂.no → r ≡ packed x
    → ReadsLines w s r w₂ (r₂.number ∷ r₂.trimmed ∷ [])
unfolding fed_all
lines-told {w} {w₁} {w₂} {s} {r₀} {r₁} {r₂} z e f h k =
    let g : (r₂, w₂) ≡ all_read w (s ∷ []) = f ∙ ap (λ (x : Reader × List ℕ). finished x.1 x.0) (e ∙ ap (λ r. fed w r s) z) in
    record { number = k ∙ ap packed h ∙ ap (λ (x : Reader × List ℕ). packed (no_reply x.0.no)) g; words = ap (λ (x : Reader × List ℕ). x.1) g; counts = ap (λ (x : Reader × List ℕ). x.0.number ∷ x.0.trimmed ∷ []) g }

-- the counts of a salvage: a refusal has a number above 0, so they stay
pub counts-file : (c : List ℕ) {a : (Result Counts Refusal)} (x : Counts) → a ≡ Ok x → (x.read ∷ x.trimmed ∷ x.long ∷ x.covered ∷ []) ≡ counts_after c (salvaged_as a)
unfolding counts_after
counts-file c x e = rw e

pub counts-refused : (c : List ℕ) {a : (Result Counts Refusal)} (y : Refusal) → a ≡ Err y → c ≡ counts_after c (salvaged_as a)
unfolding counts_after
counts-refused c y e = rw (e, ne_eqb (number y) 0 (number-some y))

-- the answer of a salvage, and its counts
pub saves-told : {d v c u k : List ℕ} {a : (Result Counts Refusal)} {x y : Reply} {r : ℕ} → Salvages d v a u → k ≡ counts_after c (salvaged_as a) → x ≡ salvage_reply (salvaged_as a) → y ≡ first_of x → r ≡ packed y
    → SavesCounts d v c r u k
saves-told {c = c} s h e f g =
    record { number = g ∙ ap packed (f ∙ ap first_of (e ∙ ap salvage_reply s.answer)); bytes = s.bytes; counts = h ∙ ap (counts_after c) s.answer }

-- two outcomes that a call allows are equal where its own are
pub tells-one : {A : Type 0} {C : A → List ℕ → Type 0} {f : A → Reply} {r s : ℕ} {v u : List ℕ}
    → ((a b : A) → C a v → C b u → (a ≡ b) × (v ≡ u)) → Tells C f r v → Tells C f s u → (r ≡ s) × (v ≡ u)
tells-one {f = f} one x y =
    let h = one x.answer y.answer x.call y.call in (x.number ∙ ap (λ a. packed (f a)) h.0 ∙ sym y.number, h.1)

pub with-row-one : {q : Reply} {r s : ℕ} {v u t : List ℕ} → WithRow q r v u → WithRow q s v t → (r ≡ s) × (u ≡ t)
with-row-one x y = (x.number ∙ sym y.number, x.row ∙ sym y.row)

pub saves-one : {d v c u k x l : List ℕ} {r s : ℕ} → SavesCounts d v c r u k → SavesCounts d v c s x l → (r ≡ s) × (u ≡ x) × (k ≡ l)
saves-one x y = (x.number ∙ sym y.number, x.bytes ∙ sym y.bytes, x.counts ∙ sym y.counts)
