-- The outcomes of load: each call has one. On a sound pool each refusal is given in its case, and else the set has the file's list, in a pool that is sound again. So what save
-- wrote loads as the list of the set. Assumes nothing.
use mathlib.Core.Bool.{true, false, cond}
use mathlib.Core.List.{List, []}
use mathlib.Core.Path.{◌≡◌, refl, sym, ap, ◌∙◌}
use Prim.Native.Nat.{ℕ, ◌≤◌, ◌<◌}
use native.Mathlib.Omega.{arith}
use lib.Dec.{eqb}
use lib.ListN.{length, take}
use borrow.Author.Tests.{lt-ltb, le-ltb, eqb-true, not-false}
use Rattle.nets.specs.Bits.{Bits}
use Rattle.nets.specs.Lists.{is_list}
use Rattle.nets.specs.Networks.{width}
use Rattle.nets.specs.Refusals.{number, first_no}
use Rattle.nets.specs.declared.Refusal.{Refusal}
use Rattle.nets.specs.declared.Refusal.TheVariants.{BadFile, WrongFamily, Occupied, OverLimit, NoRoom, NotPublic}
use Rattle.nets.proofs.Answers.{number-some}
use Rattle.nets.proofs.Refused.{first_no-zero}
use Rattle.pool_state.specs.Kept.{held_l}
use Rattle.pool_state.specs.States.{State, room_of, admits}
use Rattle.pool_state.specs.Decode.{damaged, sound, decode}
use Rattle.pool_state.specs.Rules.{answer_as, answer_on, survey_of}
use Rattle.pool_state.specs.Changes.{set_at, list_at, with_set, change_rule, set_with, grant_rules, relist_rules, relist_set, relist_no}
use Rattle.pool_state.specs.Steps.{Refuses}
use Rattle.pool_state.proofs.Decoded.{decode-header}
use Rattle.pool_state.proofs.Seen.{Seen, survey-seen}
use Rattle.pool_state.proofs.Judged.{relist_no-known}
use Rattle.pool_state.proofs.Determined.{changed-same, changed-one}
use Rattle.pool_state.proofs.Returns.{Owes, changed, change-seat, change-args, change-judged}
use Rattle.pool_state.proofs.Leaves.{RelistLeaves, relist-leaves}
use Rattle.setfile_format.specs.Files.{File, broken, file, read_file}
use Rattle.setfile_format.proofs.RoundTrip.{read_file-is}
use Rattle.setfile_save.specs.Calls.{file_at, Saved}
use Rattle.setfile.specs.Loading.{load_rules, file_list, Loaded}
use Rattle.setfile_save.proofs.Outcomes.{save-reads}
use Rattle.setfile.proofs.Loads.{load_rules-broken, load_rules-other, load_rules-occupied, load_rules-right}
use Rattle.std.specs.Prelude.{Result}

pub load-determined : {w v u : List ℕ} {k : ℕ} {r s : (Result ℕ Refusal)} (d : List ℕ) → Loaded w k d (answer_as r) v → Loaded w k d (answer_as s) u → (r ≡ s) × (v ≡ u)
load-determined d h g = changed-one h g

-- The list of a file that is right for a set of the pool is one of the pool's width.
load_rules-zero : (x : File) (k : ℕ) (S : State) → first_no (load_rules x k S) ≡ 0 → x ≡ file S.family (file_list x)
unfolding load_rules
load_rules-zero broken k S e = absurd (omega arith)
load_rules-zero (file f l) k S e = ap (λ g. file g l) (eqb-true f S.family (not-false _ (first_no-zero (load_rules (file f l) k S) e).0))

pub is_list-load : (d : List ℕ) (k : ℕ) (S : State) → first_no (load_rules (read_file d) k S) ≡ 0 → is_list (width S.family) (file_list (read_file d)) ≡ true
is_list-load d k S z = (read_file-is d S.family (file_list (read_file d)) (load_rules-zero (read_file d) k S z)).list

pub load-leaves : {w v : List ℕ} {S : State} {k : ℕ} {r : ℕ × ℕ} (d : List ℕ) → decode w ≡ sound S → Loaded w k d r v → RelistLeaves w S k (load_rules (read_file d) k S) (file_list (read_file d)) r v
load-leaves {S = S} {k = k} d e h = relist-leaves (load_rules (read_file d) k) (λ T. file_list (read_file d)) e (is_list-load d k S) h

module _ {w v : List ℕ} {k : ℕ} {r : ℕ × ℕ} (d : List ℕ) (h : Loaded w k d r v) where
  no-seat : {x : ℕ} → Refuses (decode w) k x → Owes w k (relist_rules k (load_rules (read_file d) k) (λ T. file_list (read_file d))) (relist_set k (λ T. file_list (read_file d))) (x, 0) w
  no-seat = change-seat (load_rules (read_file d) k) (λ T. file_list (read_file d)) w k

  pub load-damaged : decode w ≡ damaged → (r ≡ (2, 0)) × (v ≡ w)
  load-damaged e = changed-same h (changed (no-seat (rw e refl)))

  module _ (S : State) (e : decode w ≡ sound S) where
    pub load-noset : length S.sets ≤ k → (r ≡ (3, 0)) × (v ≡ w)
    load-noset le = changed-same h (changed (no-seat (rw e (le, refl))))

    module _ (lt : k < length S.sets) where
      here : Seen w S k (survey_of (decode w) k)
      here = survey-seen w k (survey_of (decode w) k) refl S e (omega (arith, (decode-header w S e).sets))

      refused : (x : Refusal) → first_no (load_rules (read_file d) k S) ≡ number x → (r ≡ (number x, 0)) × (v ≡ w)
      refused x q = changed-same h (changed (change-args (load_rules (read_file d) k) (λ T. file_list (read_file d)) here q (number-some x)))

      pub load-broken : read_file d ≡ broken → (r ≡ (5, 0)) × (v ≡ w)
      load-broken i = refused BadFile (load_rules-broken (read_file d) k S i)

      module _ {f : ℕ} {l : List Bits} (i : read_file d ≡ file f l) where
        pub load-family : (f ≡ S.family → ⊥) → (r ≡ (6, 0)) × (v ≡ w)
        load-family ne = refused WrongFamily (load_rules-other (read_file d) k S f l i ne)

        module _ (own : f ≡ S.family) where
          pub load-occupied : (list_at S k ≡ [] → ⊥) → (r ≡ (8, 0)) × (v ≡ w)
          load-occupied ne = refused Occupied (load_rules-occupied (read_file d) k S f l i own ne)

          module _ (empty : list_at S k ≡ []) where
            right : first_no (load_rules (read_file d) k S) ≡ 0
            right = load_rules-right (read_file d) k S f l i own empty

            judged : (x : Refusal) → number x ≡ first_no (grant_rules S k l) → (r ≡ (number x, 0)) × (v ≡ w)
            judged x q =
                changed-same h
                (changed (change-judged (load_rules (read_file d) k) (λ T. file_list (read_file d)) here right (q ∙ ap (λ m. first_no (grant_rules S k (file_list m))) (sym i)) (number-some x)))

            pub load-public : admits S.family (set_at S k) l ≡ false → (r ≡ (14, 0)) × (v ≡ w)
            load-public m = judged NotPublic (rw m)

            pub load-limit : admits S.family (set_at S k) l ≡ true → (set_at S k).limit < held_l (set_at S k).form l → (r ≡ (9, 0)) × (v ≡ w)
            load-limit m more = judged OverLimit (rw (m, lt-ltb (set_at S k).limit (held_l (set_at S k).form l) more))

            module _ (clear : admits S.family (set_at S k) l ≡ true) (low : held_l (set_at S k).form l ≤ (set_at S k).limit) where
              pub load-room : room_of S k < held_l (set_at S k).form l → (r ≡ (10, 0)) × (v ≡ w)
              load-room more = judged NoRoom (rw (clear, le-ltb (set_at S k).limit (held_l (set_at S k).form l) low, lt-ltb (room_of S k) (held_l (set_at S k).form l) more))

              module _ (fits : held_l (set_at S k).form l ≤ room_of S k) where
                granted : relist_no S k (load_rules (read_file d) k S) (file_list (read_file d)) ≡ 0
                granted =
                    relist_no-known S k (load_rules (read_file d) k S) (file_list (read_file d)) lt
                    ∙ rw (right, i, clear, le-ltb (set_at S k).limit (held_l (set_at S k).form l) low, le-ltb (room_of S k) (held_l (set_at S k).form l) fits)

                pub load-list : (r ≡ (0, held_l (set_at S k).form l)) × (decode v ≡ sound (with_set S k (set_with (set_at S k) l)))
                unfolding change_rule answer_on relist_rules relist_set
                load-list =
                    let list = file_list (read_file d) in (
                      h.answer ∙ rw (e, granted, i),
                      (load-leaves d e h).leaves.holds ∙ ap (λ m. sound (cond (eqb m 0) (with_set S k (set_with (set_at S k) list)) S)) granted ∙ ap (λ x. sound (with_set S k (set_with (set_at S k) (file_list x)))) i,
                    )

-- What save wrote of a set loads as the list of that set, into any empty set that may have it.
pub save-load : {w x u : List ℕ} {k : ℕ} {q : (Result ℕ Refusal)} → Saved w k x q u → (S : State) → decode w ≡ sound S → k < length S.sets → length (file_at S k) ≤ length x
    → {z v : List ℕ} {j : ℕ} {r : ℕ × ℕ} → Loaded z j (take (length (file_at S k)) u) r v → (T : State) → decode z ≡ sound T → j < length T.sets → S.family ≡ T.family → list_at T j ≡ []
    → admits T.family (set_at T j) (list_at S k) ≡ true → held_l (set_at T j).form (list_at S k) ≤ (set_at T j).limit → held_l (set_at T j).form (list_at S k) ≤ room_of T j → (r ≡ (0, held_l (set_at T j).form (list_at S k))) × (decode v ≡ sound (with_set T j (set_with (set_at T j) (list_at S k))))
save-load {u = u} {k = k} g S e lt le h T f lj own empty clear low fits = load-list (take (length (file_at S k)) u) h T f lj (save-reads g S e lt le) own empty clear low fits
