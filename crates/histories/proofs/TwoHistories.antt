-- Two histories from states that agree on a set, seen from that set, where its calls relist it, their results fit its share and they name no other set. In each the set is as though its calls had
-- been the only ones: a result within the share is judged by the mark and the limit alone, and a call that names one set depends on that set alone. Assumes nothing.
use mathlib.Core.Path.{◌≡◌, refl, sym, ap, ◌∙◌}
use mathlib.Core.Bool.{Bool, true, false, cond}
use mathlib.Core.List.{List, [], ◌∷◌}
use Prim.Native.Nat.{ℕ}
use native.Mathlib.Omega.{arith}
use lib.Dec.{eqb, leb}
use lib.ListN.{length}
use borrow.Author.Tests.{eqb-true, eqb-false}
use Rattle.nets.specs.Refusals.{answered, first_no}
use Rattle.pool_state.specs.Kept.{held_l}
use Rattle.pool_state.specs.States.{SetState, State, is_state}
use Rattle.pool_state.specs.Decode.{sound, decode}
use Rattle.pool_state.specs.Rules.{answer_on, unknown, Setup, empty_state, Laid, on_set}
use Rattle.pool_state.specs.Changes.{set_at, list_at, change_rules, marked, mark_rules, set_with}
use Rattle.pool_state.proofs.Decoded.{decode-state}
use Rattle.histories.specs.Calls.{Relist, Call, relist, replan, make_public, writes, target, args_of, result_of, next_of, call_no, answer_of, state_after}
use Rattle.histories.specs.Histories.{state_from, answers_from, History, begin, step, calls_on, answers_on, Alone, CallAlone, AllAlone, SameAt}
use Rattle.histories.proofs.Step.{same_at-list, call_same, relist_no-share, call_no-is, next_of-is, state_after-numbers, state_after-other, state_after-own, is_state-after, state_after-form}
use Rattle.histories.proofs.Histories.{state_from-numbers, layout-begins, history-sound, history-answer, state_from-form}

-- Agreeing.
same_at-refl : (k : ℕ) (S : State) → SameAt k S S
same_at-refl k S = record { family = refl; form = refl; known = refl; set = refl }

same_at-sym : {k : ℕ} {S T : State} → SameAt k S T → SameAt k T S
same_at-sym h = record { family = sym h.family; form = sym h.form; known = sym h.known; set = sym h.set }

same_at-trans : {k : ℕ} {S T U : State} → SameAt k S T → SameAt k T U → SameAt k S U
same_at-trans h g = record { family = h.family ∙ g.family; form = h.form ∙ g.form; known = h.known ∙ g.known; set = h.set ∙ g.set }

-- One call: on another set, and on the set alone.
same_at-other : (c : Call) {k : ℕ} {S T : State} → (target c ≡ k → ⊥) → SameAt k S T → SameAt k (state_after S c) T
same_at-other c {k} {S} ne h =
    let n = state_after-numbers S c in
    record { family = n.0 ∙ h.family; form = state_after-form S c ∙ h.form; known = ap (λ m. leb m k) n.2 ∙ h.known; set = state_after-other S c k (λ e. ne (sym e)) ∙ h.set }

alone-same : (c : Relist) {S T : State} → SameAt (writes c) S T → Alone S c → Alone T c
alone-same c {S} {T} h a =
    let (x, y) = call_same c S T a.names h in
    record { names = a.names; fits = λ q. omega (arith, a.fits (ap first_no x ∙ q), ap (held_l (set_at S (writes c)).form) y, ap (λ (s : SetState). held_l s.form (result_of c T)) h.set, ap (λ (s : SetState). s.share) h.set) }

-- a call that gets one number, and of which one set becomes
module _ (c : Call) {S T : State} (h : SameAt (target c) S T) (no : call_no S c ≡ call_no T c) (next : next_of c S ≡ next_of c T) where
  answer_of-alone : answer_of S c ≡ answer_of T c
  answer_of-alone = rw (no, next)

  same_at-own : SameAt (target c) (state_after S c) (state_after T c)
  same_at-own =
      let m = state_after-numbers S c in
      let n = state_after-numbers T c in
      let k = target c in
      record {
        family = m.0 ∙ h.family ∙ sym n.0;
        form = state_after-form S c ∙ h.form ∙ sym (state_after-form T c);
        known = ap (λ x. leb x k) m.2 ∙ h.known ∙ sym (ap (λ x. leb x k) n.2);
        set = rw (state_after-own S c, state_after-own T c, no, next) (ap (λ s. cond (eqb (call_no T c) 0) (next_of c T) s) h.set);
      }

module _ (c : Relist) {S T : State} (i : is_state S ≡ true) (j : is_state T ≡ true) (h : SameAt (writes c) S T) (a : Alone T c) where
  same : (args_of c S ≡ args_of c T) × (result_of c S ≡ result_of c T)
  same = call_same c S T a.names h

  next-same : next_of (relist c) S ≡ next_of (relist c) T
  next-same = next_of-is S c ∙ rw same.1 (ap (λ s. set_with s (result_of c T)) h.set) ∙ sym (next_of-is T c)

  call_no-alone : call_no S (relist c) ≡ call_no T (relist c)
  call_no-alone =
      rw (
        call_no-is S c,
        call_no-is T c,
        relist_no-share S (writes c) (args_of c S) (result_of c S) i (alone-same c (same_at-sym h) a).fits,
        relist_no-share T (writes c) (args_of c T) (result_of c T) j a.fits,
        same.0,
        same.1,
        h.known,
        h.family,
        ap (λ (s : SetState). s.limit) h.set,
        ap (λ (s : SetState). s.public) h.set,
        ap (λ (s : SetState). s.form) h.set,
      )

-- a call that makes the set public-only depends on that set alone
marks-same : (k : ℕ) {S T : State} → SameAt k S T → call_no S (make_public k) ≡ call_no T (make_public k)
unfolding change_rules mark_rules
marks-same k h = rw (h.known, (same_at-list h).list)

-- no replan is among them
call-alone-same : (c : Call) {S T : State} → SameAt (target c) S T → CallAlone S c → CallAlone T c
call-alone-same (relist c) h a = alone-same c h a
call-alone-same (replan k x y) h a = a
call-alone-same (make_public k) h a = a

call-alone : (c : Call) {S T : State} → is_state S ≡ true → is_state T ≡ true → SameAt (target c) S T → CallAlone T c
    → (answer_of S c ≡ answer_of T c) × SameAt (target c) (state_after S c) (state_after T c)
call-alone (relist c) i j h a =
    (answer_of-alone (relist c) h (call_no-alone c i j h a) (next-same c i j h a), same_at-own (relist c) h (call_no-alone c i j h a) (next-same c i j h a))
call-alone (replan k x y) i j h a = absurd a
call-alone (make_public k) i j h a =
    (answer_of-alone (make_public k) h (marks-same k h) (ap marked h.set), same_at-own (make_public k) h (marks-same k h) (ap marked h.set))

is_state-from : (S : State) → is_state S ≡ true → (cs : List Call) → is_state (state_from S cs) ≡ true
unfolding state_from
is_state-from S e [] = e
is_state-from S e (c ∷ cs) = is_state-after (state_from S cs) c (is_state-from S e cs)

-- In a history the set is as in any other state that agrees on it, had its calls been the only ones.
module _ {S T : State} (i : is_state S ≡ true) (j : is_state T ≡ true) (k : ℕ) (same_at : SameAt k S T) where
  alone-state : (cs : List Call) → AllAlone T k (calls_on k cs) → SameAt k (state_from S cs) (state_from T (calls_on k cs))
  unfolding state_from
  alone-state [] a = same_at
  alone-state (c ∷ cs) a = go (eqb (target c) k) refl (alone-state cs)
    where
      go : (x : Bool) → eqb (target c) k ≡ x → (AllAlone T k (calls_on k cs) → SameAt k (state_from S cs) (state_from T (calls_on k cs)))
          → SameAt k (state_after (state_from S cs) c) (state_from T (calls_on k (c ∷ cs)))
      go true q f =
          let b = rw q at a in
          let e = eqb-true (target c) k q in
          rw q (rw e at (call-alone c (is_state-from S i cs) (is_state-from T j (calls_on k cs)) (rw e (f b.0)) (b.1 e)).1)
      go false q f = rw q (same_at-other c (eqb-false (target c) k q) (f (rw q at a)))

  alone-calls : (cs : List Call) → AllAlone S k cs → AllAlone T k (calls_on k cs)
  alone-calls [] a = a
  alone-calls (c ∷ cs) a = go (eqb (target c) k) (alone-calls cs a.0)
    where
      go : (x : Bool) → AllAlone T k (calls_on k cs) → AllAlone T k (cond x (c ∷ calls_on k cs) (calls_on k cs))
      go true b = (b, λ e. call-alone-same c (rw e (alone-state cs b)) (a.1 e))
      go false b = b

  alone-answers : {w : List ℕ} {cs : List Call} {rs : List (ℕ × ℕ)} {v : List ℕ} → decode w ≡ sound S → History w cs rs v → AllAlone T k (calls_on k cs)
      → answers_on k cs rs ≡ answers_from T (calls_on k cs)
  unfolding answers_from
  alone-answers d begin a = refl
  alone-answers d (step {cs = cs} {rs = rs} {c = c} {r = r} h o) a = go (eqb (target c) k) refl (alone-answers d h)
    where
      go : (x : Bool) → eqb (target c) k ≡ x → (AllAlone T k (calls_on k cs) → answers_on k cs rs ≡ answers_from T (calls_on k cs))
          → answers_on k (c ∷ cs) (r ∷ rs) ≡ answers_from T (calls_on k (c ∷ cs))
      go true q f =
          let b = rw q at a in
          let e = eqb-true (target c) k q in
          let s = (call-alone c (is_state-from S i cs) (is_state-from T j (calls_on k cs)) (rw e (alone-state cs b.0)) (b.1 e)).0 in
          rw (q, history-answer d h c o ∙ s, f b.0)
      go false q f = rw q (f (rw q at a))

-- Take two states that agree on a set, its mark too, and from each a history with the same calls on it, whose results all fit its share and which name no other set; no replan of it is among
-- them. Its answers and all that is of it are then the same. That its results fit is asked of one of the two histories. Between its calls any others may be made, those that read
-- it and replans of other sets too.
module _ {w z : List ℕ} {S T : State} {cs ds : List Call} {rs ss : List (ℕ × ℕ)} {u v : List ℕ} (d : decode w ≡ sound S) (q : decode z ≡ sound T) (k : ℕ) (same_at : SameAt k S T)
    (h : History w cs rs u) (g : History z ds ss v) (a : AllAlone S k cs) (e : calls_on k cs ≡ calls_on k ds) where
  abbrev here : is_state S ≡ true
  here = decode-state w S d

  abbrev there : is_state T ≡ true
  there = decode-state z T q

  alone-there : AllAlone T k (calls_on k cs)
  alone-there = alone-calls here there k same_at cs a

  pub same_after : SameAt k (state_from S cs) (state_from T ds)
  same_after =
      let x = alone-state here there k same_at cs alone-there in
      let y = alone-state there there k (same_at-refl k T) ds (rw e at alone-there) in
      same_at-trans x (same_at-sym (rw (← e) at y))

  pub two-histories : (answers_on k cs rs ≡ answers_on k ds ss) × (set_at (state_from S cs) k ≡ set_at (state_from T ds) k)
  two-histories =
      let x = alone-answers here there k same_at d h alone-there in
      let y = alone-answers there there k (same_at-refl k T) q g (rw e at alone-there) in
      (x ∙ ap (answers_from T) e ∙ sym y, same_after.set)

  -- "The free report is excepted." Every report that depends on the family and on the set's list, share, limit and mark is the same.
  pub two-reports : {A : Type 0} (y : A) (f : ℕ → SetState → A) → on_set (decode u) k y (λ S s. f S.family s) ≡ on_set (decode v) k y (λ S s. f S.family s)
  unfolding answer_on
  two-reports y f =
      let x = same_after in
      rw (history-sound d h, history-sound q g, x.known, x.family)
      (ap (λ s. answered (first_no (unknown (state_from T ds) k ∷ [])) y (f (state_from T ds).family s)) x.set)

-- "fix the layout, and take one set whose results all fit its share and whose calls name no other set. Its answers and list are then the same in any two histories with the
-- same calls on it."
pub layout-histories : {o w z : List ℕ} {p : Setup} {cs ds : List Call} {rs ss : List (ℕ × ℕ)} {u v y : List ℕ} {m n : ℕ} (k : ℕ)
    → Laid o p (0, m) w → Laid y p (0, n) z → History w cs rs u → History z ds ss v → AllAlone (empty_state p) k cs → calls_on k cs ≡ calls_on k ds
    → (answers_on k cs rs ≡ answers_on k ds ss) × (list_at (state_from (empty_state p) cs) k ≡ list_at (state_from (empty_state p) ds) k)
layout-histories {p = p} k l t h g a e =
    let x = two-histories (layout-begins l) (layout-begins t) k (same_at-refl k (empty_state p)) h g a e in
    (x.0, ap (λ (s : SetState). s.list) x.1)

-- "document 01's two-histories fact holds between two such calls on that set, granted or refused, for two histories that agree on its list, share, limit and M-112's mark right after the first":
-- two histories in pools of one family and form and as many sets, as from one layout, that have just replanned set k, each in its own way. Until it is replanned again, the same calls on
-- it, with results that fit its share, get the same answers and leave the same list.
module _ {w z : List ℕ} {S T : State} (d : decode w ≡ sound S) (q : decode z ≡ sound T) (family : S.family ≡ T.family) (form : S.form ≡ T.form) (sets : length S.sets ≡ length T.sets)
    {k x y a b : ℕ} {cs ds : List Call} {rs ss : List (ℕ × ℕ)} {u v : List ℕ} (h : History w (replan k x y ∷ cs) rs u) (g : History z (replan k a b ∷ ds) ss v) where
  abbrev one : State
  one = state_from S (replan k x y ∷ cs)

  abbrev two : State
  two = state_from T (replan k a b ∷ ds)

  replan-same : set_at one k ≡ set_at two k → SameAt k one two
  replan-same e =
      let m = state_from-numbers S (replan k x y ∷ cs) in
      let n = state_from-numbers T (replan k a b ∷ ds) in
      let o = state_from-form S (replan k x y ∷ cs) ∙ form ∙ sym (state_from-form T (replan k a b ∷ ds)) in
      record { family = m.0 ∙ family ∙ sym n.0; form = o; known = ap (λ i. leb i k) (m.2 ∙ sets ∙ sym n.2); set = e }

  pub replan-histories : {es fs : List Call} {ps qs : List (ℕ × ℕ)} {m n : List ℕ} → set_at one k ≡ set_at two k
      → History u es ps m → History v fs qs n → AllAlone one k es → calls_on k es ≡ calls_on k fs
      → (answers_on k es ps ≡ answers_on k fs qs) × (set_at (state_from one es) k ≡ set_at (state_from two fs) k)
  replan-histories s i j f e = two-histories (history-sound d h) (history-sound q g) k (replan-same s) i j f e
