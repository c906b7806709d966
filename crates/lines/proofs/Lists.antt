-- What a line leaves of a sound pool: it is sound again, with the line's network added to set 0, or with no word changed. Assumes nothing.
use Rattle.std.proofs.Common.{◌≡◌, ℕ, Bool, true, false, cond, eqb, leb, List, length, sym, refl, ap, ◌∙◌, arith, ne_eqb, eqb-true}
use borrow.Author.Tests.{eqb-false, lt-leb}
use Rattle.nets.specs.Lists.{add_l}
use Rattle.nets.specs.Networks.{net_bits}
use Rattle.nets.specs.declared.Net.{Net}
use Rattle.text_either.specs.Either.{read_either}
use Rattle.pool_state.specs.Kept.{held_l}
use Rattle.pool_state.specs.States.{State}
use Rattle.pool_state.specs.Decode.{Decoded, damaged, sound, decode}
use Rattle.pool_state.specs.Changes.{set_at, list_at, with_set, change_rules, change_rule, set_with, relist_rules, relist_set, relist_no, net_rules}
use Rattle.pool_state.specs.Rules.{answer_on}
use Rattle.pool_state.proofs.Claims.{is_size-is, is_state-size}
use Rattle.pool_state.proofs.Decoded.{decode-state}
use Rattle.change.specs.Calls.{list_with, Added}
use Rattle.change.proofs.Outcomes.{add-leaves}
use Rattle.lines_take.specs.Lines.{add_no, add_words, line_no, words_with, pool_no}
use Rattle.lines_take.proofs.Taking.{words_with-refused}

-- An added network: it is a granted call of add, and leaves the state with the network in the list of set 0.
module _ (w : List ℕ) (S : State) (n : Net) (d : decode w ≡ sound S) (e : add_no w n ≡ 0) where
  granted : relist_no S 0 (net_rules n S) (list_with 0 n S) ≡ 0
  unfolding change_rule answer_on relist_rules
  granted = sym (ap (λ D. (change_rule D 0 (relist_rules 0 (net_rules n) (list_with 0 n)) (relist_set 0 (list_with 0 n))).0) d) ∙ e

  pub added : Added w 0 n (0, held_l (set_at S 0).form (list_with 0 n S)) (add_words w n)
  unfolding change_rule answer_on relist_rules relist_set
  added = record { answer = rw (d, granted); words = refl }

  pub decode-added : decode (add_words w n) ≡ sound (with_set S 0 (set_with (set_at S 0) (list_with 0 n S)))
  decode-added = (add-leaves n d added).leaves.holds ∙ ap (λ m. sound (cond (eqb m 0) (with_set S 0 (set_with (set_at S 0) (list_with 0 n S))) S)) granted

-- An added line.
pub line-added : (w l : List ℕ) → line_no w l ≡ 0 → (add_no w (read_either l).1 ≡ 0) × (words_with w l ≡ add_words w (read_either l).1)
unfolding line_no words_with
line-added w l e = go (eqb (read_either l).0 0) refl e
  where
    n : Net
    n = (read_either l).1

    go : (b : Bool) → eqb (read_either l).0 0 ≡ b → cond b (add_no w n) (read_either l).0 ≡ 0 → (add_no w n ≡ 0) × (cond b (add_words w n) w ≡ add_words w n)
    go true q h = (h, refl)
    go false q h = absurd (eqb-false (read_either l).0 0 q h)

-- A line of another family than the pool's gets 6, where it is a line at all.
pub line_no-other : (w l : List ℕ) (S : State) (n : Net) → decode w ≡ sound S → read_either l ≡ (0, n) → (n.family ≡ S.family → ⊥) → line_no w l ≡ 6
unfolding line_no change_rule answer_on change_rules relist_rules net_rules
line_no-other w l S n d e h =
    let k : leb (length S.sets) 0 ≡ false = lt-leb (length S.sets) 0 (omega (arith, is_size-is (length S.sets) S.nodes (is_state-size S (decode-state w S d)))) in
    let a : line_no w l ≡ add_no w n = rw e in
    let b : add_no w n ≡ (change_rule (sound S) 0 (relist_rules 0 (net_rules n) (list_with 0 n)) (relist_set 0 (list_with 0 n))).0
    = ap (λ D. (change_rule D 0 (relist_rules 0 (net_rules n) (list_with 0 n)) (relist_set 0 (list_with 0 n))).0) d in
    a ∙ b ∙ rw (k, ne_eqb n.family S.family h)

pub decode-line : (w l : List ℕ) (S : State) → decode w ≡ sound S → line_no w l ≡ 0
    → decode (words_with w l) ≡ sound (with_set S 0 (set_with (set_at S 0) (add_l (list_at S 0) (net_bits (read_either l).1))))
decode-line w l S d e = let x = line-added w l e in ap decode x.1 ∙ decode-added w S (read_either l).1 d x.0

-- Sound words stay sound.
pub pool_no-zero : (d : Decoded) → pool_no d ≡ 0 → (S : State) × (d ≡ sound S)
pool_no-zero damaged e = let z : ◌≡◌ {A = ℕ} 2 0 = e in absurd (omega arith)
pool_no-zero (sound S) e = (S, refl)

pub pool_no-line : (w l : List ℕ) → pool_no (decode w) ≡ 0 → pool_no (decode (words_with w l)) ≡ 0
pool_no-line w l z = go (eqb (line_no w l) 0) refl
  where
    go : (b : Bool) → eqb (line_no w l) 0 ≡ b → pool_no (decode (words_with w l)) ≡ 0
    go true q = let (S, d) = pool_no-zero (decode w) z in rw (decode-line w l S d (eqb-true (line_no w l) 0 q))
    go false q = rw (words_with-refused w l (eqb-false (line_no w l) 0 q)) z
