-- Judging a result, by the tests of the code: whether the set may have it as far as its mark goes, and its nodes. The room is what the claims of the other sets leave, and
-- what is above neither the limit nor the room is granted. Assumes nothing.
use mathlib.Core.Path.{◌≡◌, ◌∙◌}
use mathlib.Core.Bool.{Bool, true, false, not, cond}
use mathlib.Core.List.{List, [], ◌∷◌, ◌++◌}
use Prim.Native.Nat.{ℕ, ◌+◌, ◌-◌, ◌≤◌, ◌<◌}
use native.Mathlib.Omega.{arith}
use lib.Dec.{eqb, ltb}
use lib.ListN.{length, get_or}
use borrow.Author.Tests.{lt-ltb, le-ltb, lt-leb, ltb-false, leb-false, not-false}
use Rattle.nets.specs.Bits.{Bits}
use Rattle.nets.specs.Refusals.{Rule, first_no}
use Rattle.nets.proofs.Refused.{first_no-zero, first_no-append, first_no-both}
use Rattle.inner_nets.specs.Inner.{is_public}
use Rattle.pool_state.specs.Kept.{held_l}
use Rattle.pool_state.specs.States.{State, claim, claimed, claimed_but, room_of, admits, is_state}
use Rattle.pool_state.specs.Decode.{record_at}
use Rattle.pool_state.specs.Rules.{unknown}
use Rattle.pool_state.specs.Changes.{set_at, fits, change_rules, change_no, set_with, grant_rules, relist_no}
use Rattle.pool_state.specs.declared.Survey.{Survey}
use Rattle.pool_state.proofs.Claims.{share-limit, claimed_but-is}
use Rattle.pool_state.proofs.WithSet.{Fits, fits-is, is-fits, claim-room_of}
use Rattle.pool_state.proofs.Decoded.{decode-share, decode-limit, decode-public}
use Rattle.pool_state.proofs.Holds.{digit-is}
use Rattle.pool_state.proofs.Seen.{Seen, seen-header}

module _ {w : List ℕ} {S : State} {k : ℕ} {v : Survey} (h : Seen w S k v) where
  own : claimed_but k S.sets + claim (set_at S k) ≡ claimed S.sets
  own = claimed_but-is k S.sets h.known

  share-is : get_or w (record_at k + 1) 0 ≡ (set_at S k).share
  share-is = decode-share w S h.decoded k h.known

  limit_is : get_or w (record_at k + 2) 0 ≡ (set_at S k).limit
  limit_is = decode-limit w S h.decoded k h.known

  pub public-is : eqb (get_or w (record_at k + 3) 0) 1 ≡ (set_at S k).public
  public-is = rw (decode-public w S h.decoded k h.known) (digit-is (set_at S k).public)

  pub room-share : v.held < get_or w (record_at k + 1) 0 → get_or w 3 0 - (v.claimed - get_or w (record_at k + 1) 0) ≡ room_of S k
  room-share lt = omega (arith, own, share-is, h.held, h.claimed, (seen-header h).nodes)

  pub room-held : get_or w (record_at k + 1) 0 ≤ v.held → get_or w 3 0 - (v.claimed - v.held) ≡ room_of S k
  room-held le = omega (arith, own, share-is, h.held, h.claimed, (seen-header h).nodes)

  -- the verdict on a result of n nodes, where c says whether the set may have it as far as its mark goes
  module _ (l : List Bits) {c : Bool} (p : admits S.family (set_at S k) l ≡ c) {n : ℕ} (e : held_l (set_at S k).form l ≡ n) where
    pub judge-public : c ≡ false → 14 ≡ first_no (grant_rules S k l)
    judge-public q = rw (p, q)

    module _ (t : c ≡ true) where
      pub judge-limit : get_or w (record_at k + 2) 0 < n → 9 ≡ first_no (grant_rules S k l)
      judge-limit lt = rw (p, t, lt-ltb (set_at S k).limit (held_l (set_at S k).form l) (omega (arith, limit_is)))

      module _ (le : n ≤ get_or w (record_at k + 2) 0) {r : ℕ} (q : r ≡ room_of S k) where
        within : ltb (set_at S k).limit (held_l (set_at S k).form l) ≡ false
        within = le-ltb (set_at S k).limit (held_l (set_at S k).form l) (omega (arith, limit_is))

        pub judge-room : r < n → 10 ≡ first_no (grant_rules S k l)
        judge-room lt = rw (p, t, within, lt-ltb (room_of S k) (held_l (set_at S k).form l) (omega arith))

        pub judge-none : n ≤ r → 0 ≡ first_no (grant_rules S k l)
        judge-none lf = rw (p, t, within, le-ltb (room_of S k) (held_l (set_at S k).form l) (omega arith))

-- The number of a change: the set, and then the rules of the call.
module _ (S : State) (k : ℕ) (rs : List Rule) where
  pub change_no-known : k < length S.sets → change_no S k rs ≡ first_no rs
  unfolding change_rules
  change_no-known lt = rw (lt-leb (length S.sets) k lt)

  pub change_no-zero : change_no S k rs ≡ 0 → (k < length S.sets) × (first_no rs ≡ 0)
  unfolding change_rules
  change_no-zero e =
      let (x, y) = first_no-both (unknown S k ∷ []) rs e in
      (leb-false (length S.sets) k (first_no-zero (unknown S k ∷ []) x).0, y)

-- A new list: the arguments, and then the result, which is clear where it has to be and within the limit and the room exactly where the set with it fits.
pub relist_no-known : (S : State) (k : ℕ) (a : List Rule) (l : List Bits) → k < length S.sets → relist_no S k a l ≡ cond (eqb (first_no a) 0) (first_no (grant_rules S k l)) (first_no a)
relist_no-known S k a l lt = change_no-known S k (a ++ grant_rules S k l) lt ∙ first_no-append a (grant_rules S k l)

module _ (S : State) (k : ℕ) (l : List Bits) where
  pub grant-within : first_no (grant_rules S k l) ≡ 0 → (held_l (set_at S k).form l ≤ (set_at S k).limit) × (held_l (set_at S k).form l ≤ room_of S k)
  grant-within e =
      let c = first_no-zero (grant_rules S k l) e in
      (ltb-false (set_at S k).limit (held_l (set_at S k).form l) c.1.0, ltb-false (room_of S k) (held_l (set_at S k).form l) c.1.1.0)

  pub grant-admits : first_no (grant_rules S k l) ≡ 0 → admits S.family (set_at S k) l ≡ true
  grant-admits e = not-false (admits S.family (set_at S k) l) (first_no-zero (grant_rules S k l) e).0

  module _ (e : is_state S ≡ true) (lt : k < length S.sets) where
    pub grant-fits : first_no (grant_rules S k l) ≡ 0 → Fits S k (set_with (set_at S k) l)
    grant-fits z = let g = grant-within z in record { share = share-limit S k e; held = g.0; public = grant-admits z; room = omega (arith, g.1, claim-room_of S k e lt) }

    pub grant-exact : (first_no (grant_rules S k l) ≡ 0 → fits S k (set_with (set_at S k) l) ≡ true) × (fits S k (set_with (set_at S k) l) ≡ true → first_no (grant_rules S k l) ≡ 0)
    grant-exact = (
      λ z. is-fits S k (set_with (set_at S k) l) (grant-fits z),
      λ z.
          let f = fits-is S k (set_with (set_at S k) l) z in
          rw (f.public, le-ltb (set_at S k).limit (held_l (set_at S k).form l) f.held, le-ltb (room_of S k) (held_l (set_at S k).form l) (omega (arith, f.room))),
    )

-- What a set may have as far as its mark goes, by whether it is marked: anything, or what is clear of the inner networks.
module _ (S : State) (k : ℕ) {q : Bool} (own : q ≡ (set_at S k).public) (l : List Bits) where
  pub admits-any : not q ≡ true → true ≡ admits S.family (set_at S k) l
  admits-any z = rw (← own, z)

  pub admits-clear : not q ≡ false → {r : Bool} {f : ℕ} → f ≡ S.family → r ≡ is_public f l → r ≡ admits S.family (set_at S k) l
  admits-clear z o e = rw (← own, z, ← o) e
