-- What the contract of a changing call comes to, once for all of them: from sound words it leaves sound ones, of the state by its rule (`Leaves`); and what more is left by a call
-- that changes a list (`RelistLeaves`). Assumes nothing.
use mathlib.Core.Path.{◌≡◌, refl, sym, ap, ◌∙◌}
use mathlib.Core.Bool.{Bool, true, false, cond}
use mathlib.Core.List.{List, ◌++◌}
use Prim.Native.Nat.{ℕ, ◌≤◌, ◌<◌}
use native.Mathlib.Decide.{ℕ_discrete}
use native.Mathlib.Omega.{arith}
use lib.Dec.{eqb}
use lib.ListN.{length}
use borrow.Author.Tests.{le-ltb, eq-eqb, eqb-true, not-false}
use Rattle.nets.specs.Bits.{Bits}
use Rattle.nets.specs.Lists.{is_list}
use Rattle.nets.specs.Networks.{width, net_bits, refusal_of}
use Rattle.nets.specs.Refusals.{Rule, first_no}
use Rattle.nets.specs.declared.Net.{Net}
use Rattle.nets.proofs.Refused.{first_no-zero, first_no-both}
use Rattle.nets.proofs.Numbers.{refusal_of-is, length-net_bits}
use Rattle.pool_state.specs.Kept.{held_l}
use Rattle.pool_state.specs.States.{SetState, State, held, admits, is_state}
use Rattle.pool_state.specs.Decode.{least_of, sound, decode}
use Rattle.pool_state.specs.Rules.{left_on}
use Rattle.pool_state.specs.Changes.{set_at, list_at, with_set, change_no, change_rule, words_after, Changed, set_with, grant_rules, relist_rules, relist_set, Relisted, relist_no, net_rules}
use Rattle.pool_state.proofs.Answered.{owes-granted}
use Rattle.pool_state.proofs.Claims.{share-limit, held-limit}
use Rattle.pool_state.proofs.WithSet.{SamePlan, Fits, with_set-least, with_set-at, with_set-other, with_set-plan, share-room_of, is_state-with_set}
use Rattle.pool_state.proofs.Decoded.{decode-state}
use Rattle.pool_state.proofs.Judged.{change_no-zero, relist_no-known, grant-fits}
use Rattle.pool_state.proofs.Changed.{decode-with_set}
use Rattle.pool_state.proofs.Past.{Past, past-refl, over-past}

-- the state after a call on set k with the rules rs, of which x becomes
abbrev pub after : State → ℕ → List Rule → SetState → State
after S k rs x = cond (eqb (change_no S k rs) 0) (with_set S k x) S

module _ (S : State) (k : ℕ) (rs : List Rule) (x : SetState) where
  pub after-cases : (P : State → Type 0) → (change_no S k rs ≡ 0 → P (with_set S k x)) → (eqb (change_no S k rs) 0 ≡ false → P S) → P (after S k rs x)
  after-cases P h g = go (eqb (change_no S k rs) 0) refl
    where
      go : (b : Bool) → eqb (change_no S k rs) 0 ≡ b → P (cond b (with_set S k x) S)
      go true q = h (eqb-true (change_no S k rs) 0 q)
      go false q = g q

  pub after-other : (j : ℕ) → (j ≡ k → ⊥) → set_at (after S k rs x) j ≡ set_at S j
  after-other j ne = after-cases (λ T. set_at T j ≡ set_at S j) (λ q. with_set-other S k x j ne) (λ q. refl)

  after-own : change_no S k rs ≡ 0 → set_at (after S k rs x) k ≡ x
  after-own z = rw (eq-eqb (change_no S k rs) 0 z) (with_set-at S k x (change_no-zero S k rs z).0)

  -- a set that keeps its list leaves every list
  pub after-lists : x.list ≡ list_at S k → (j : ℕ) → list_at (after S k rs x) j ≡ list_at S j
  after-lists e j = after-cases (λ T. list_at T j ≡ list_at S j) (λ z. go (change_no-zero S k rs z).0 (ℕ_discrete j k)) (λ q. refl)
    where
      go : k < length S.sets → Dec (j ≡ k) → list_at (with_set S k x) j ≡ list_at S j
      go lt (yes q) = rw q (ap (λ (s : SetState). s.list) (with_set-at S k x lt) ∙ e)
      go lt (no n) = ap (λ (s : SetState). s.list) (with_set-other S k x j n)

-- where the rules are passed, x is what may stand there, and is indexed where the set is
abbrev pub Keeps : State → ℕ → List Rule → SetState → Type 0
Keeps S k rs x = k < length S.sets → first_no rs ≡ 0 → (is_list (width S.family) x.list ≡ true) × Fits S k x × (x.indexed ≡ (set_at S k).indexed) × (x.form ≡ (set_at S k).form)

-- The call leaves sound words, of that state: with x where it is granted; the other sets as they were; no list above its limit; no word past the smallest buffer touched.
pub record Leaves (w : List ℕ) (S : State) (k : ℕ) (rs : List Rule) (x : SetState) (v : List ℕ) : Type 0 where
  pub holds : decode v ≡ sound (after S k rs x)
  pub own : change_no S k rs ≡ 0 → set_at (after S k rs x) k ≡ x
  pub others : (j : ℕ) → (j ≡ k → ⊥) → set_at (after S k rs x) j ≡ set_at S j
  pub within : (j : ℕ) → held (set_at (after S k rs x) j) ≤ (set_at (after S k rs x) j).limit
  pub past : Past (least_of S) w v

module _ {w v : List ℕ} {S : State} {k : ℕ} {rs : State → List Rule} {f : State → SetState} {r : ℕ × ℕ} (d : decode w ≡ sound S) (i : Keeps S k (rs S) (f S)) (c : Changed w k rs f r v) where
  abbrev then : State
  then = after S k (rs S) (f S)

  after_holds : decode v ≡ sound then
  unfolding words_after left_on
  after_holds =
      after-cases S k (rs S) (f S) (λ T. decode v ≡ sound T)
      (λ z. let (lt, y) = change_no-zero S k (rs S) z in let (l, g, m, q) = i lt y in rw (c.words, d, z) (decode-with_set w S k (f S) d lt l g m q))
      (λ q. rw (c.words, d, q) d)

  after-past : Past (least_of S) w v
  unfolding words_after left_on
  after-past =
      after-cases S k (rs S) (f S) (λ T. Past (least_of S) w v)
      (λ z.
      let (lt, y) = change_no-zero S k (rs S) z in
      let (l, g, m, q) = i lt y in
      let o = over-past w (with_set S k (f S)) (is_state-with_set S k (decode-state w S d) lt (f S) q m l g) in
      rw (c.words, d, z) (rw (with_set-least S k (f S) m) at o))
      (λ q. rw (c.words, d, q) (past-refl _ w))

  pub changed-leaves : Leaves w S k (rs S) (f S) v
  changed-leaves = record {
    holds = after_holds;
    own = after-own S k (rs S) (f S);
    others = after-other S k (rs S) (f S);
    within = λ j. held-limit then j (decode-state v then after_holds);
    past = after-past;
  }

-- The state after a call that gives set k the list l, with the rules a of its arguments.
abbrev pub relist_after : State → ℕ → List Rule → List Bits → State
relist_after S k a l = after S k (a ++ grant_rules S k l) (set_with (set_at S k) l)

-- It has that list where it is granted; every share, limit and mark is as it was. A result within the share, and clear where it has to be, is granted.
pub record RelistLeaves (w : List ℕ) (S : State) (k : ℕ) (a : List Rule) (l : List Bits) (r : ℕ × ℕ) (v : List ℕ) : Type 0 where
  pub leaves : Leaves w S k (a ++ grant_rules S k l) (set_with (set_at S k) l) v
  pub list : relist_no S k a l ≡ 0 → list_at (relist_after S k a l) k ≡ l
  pub plan : (j : ℕ) → SamePlan (set_at (relist_after S k a l) j) (set_at S j)
  pub share : k < length S.sets → first_no a ≡ 0 → admits S.family (set_at S k) l ≡ true → held_l (set_at S k).form l ≤ (set_at S k).share → r ≡ (0, held_l (set_at S k).form l)

module _ (S : State) (k : ℕ) (a : List Rule) (l : List Bits) where
  pub after-plan : (j : ℕ) → SamePlan (set_at (relist_after S k a l) j) (set_at S j)
  after-plan j =
      after-cases S k (a ++ grant_rules S k l) (set_with (set_at S k) l) (λ (T : State). SamePlan (set_at T j) (set_at S j))
      (λ q. with_set-plan S k l j) (λ q. (refl, refl, refl, refl, refl))

  pub relist-keeps : is_state S ≡ true → (first_no a ≡ 0 → is_list (width S.family) l ≡ true) → Keeps S k (a ++ grant_rules S k l) (set_with (set_at S k) l)
  relist-keeps e i lt z = let (x, y) = first_no-both a (grant_rules S k l) z in (i x, grant-fits S k l e lt y, refl, refl)

module _ (a : State → List Rule) (f : State → List Bits) {w v : List ℕ} {S : State} {k : ℕ} {r : ℕ × ℕ} (d : decode w ≡ sound S)
    (i : first_no (a S) ≡ 0 → is_list (width S.family) (f S) ≡ true) (c : Relisted w k a f r v) where
  answer-share : k < length S.sets → first_no (a S) ≡ 0 → admits S.family (set_at S k) (f S) ≡ true → held_l (set_at S k).form (f S) ≤ (set_at S k).share → r ≡ (0, held_l (set_at S k).form (f S))
  unfolding change_rule relist_rules relist_set
  answer-share lt z m le =
      let e = decode-state w S d in
      let p = le-ltb (set_at S k).limit (held_l (set_at S k).form (f S)) (omega (arith, share-limit S k e)) in
      let q = le-ltb _ (held_l (set_at S k).form (f S)) (share-room_of S k e lt (held_l (set_at S k).form (f S)) le) in
      c.answer ∙ sym (owes-granted _ 0 _ w (λ T. w) d (relist_no-known S k (a S) (f S) lt ∙ rw (z, m, p, q))).0

  leaves-state : Leaves w S k (a S ++ grant_rules S k (f S)) (set_with (set_at S k) (f S)) v
  unfolding relist_rules relist_set
  leaves-state = changed-leaves d (relist-keeps S k (a S) (f S) (decode-state w S d) i) c

  pub relist-leaves : RelistLeaves w S k (a S) (f S) r v
  relist-leaves = let g = leaves-state in record { leaves = g; list = λ z. ap (λ (s : SetState). s.list) (g.own z); plan = after-plan S k (a S) (f S); share = answer-share }

-- A network that is right in a pool has at most as many bits as an address of its family.
pub net_rules-within : (n : Net) (S : State) → first_no (net_rules n S) ≡ 0 → length (net_bits n) ≤ width S.family
unfolding net_rules
net_rules-within n S e =
    let c = first_no-zero (net_rules n S) e in
    let q = eqb-true (refusal_of n) 0 (not-false _ c.1.0) in
    rw (← eqb-true n.family S.family (not-false _ c.0), length-net_bits n q) (refusal_of-is n q).len
