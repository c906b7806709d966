-- The outcomes of list and next: each call has one, and on a sound pool it is the list of the set: all of it in rows, or the network that follows. Assumes nothing.
use mathlib.Core.Path.{◌≡◌, refl, sym, ap, ◌∙◌}
use mathlib.Core.Bool.{true≢false}
use mathlib.Core.List.{List}
use Prim.Native.Nat.{ℕ, ◌*◌, ◌≤◌, ◌<◌}
use native.Mathlib.Nat.{zero-add}
use native.Mathlib.Omega.{arith}
use lib.ListN.{length, get_or}
use Rattle.nets.specs.Bits.{Bits}
use Rattle.nets.specs.Lists.{found, missing, next_l}
use Rattle.nets.specs.Networks.{net_from}
use Rattle.nets.specs.Refusals.{number, first_no}
use Rattle.nets.specs.declared.Refusal.{Refusal}
use Rattle.nets.specs.declared.Refusal.TheVariants.{Damaged, NoSet, ShortBuffer}
use Rattle.nets.proofs.Answers.{number-one, number-some}
use Rattle.nodes.specs.Words.{put}
use Rattle.nodes.proofs.Put.{length-put, get_or-put-in, get_or-put-behind}
use Rattle.pool_state.specs.States.{State}
use Rattle.pool_state.specs.Decode.{damaged, sound, decode}
use Rattle.pool_state.specs.Changes.{list_at}
use Rattle.pool_state.proofs.Answered.{owes-damaged, owes-refused, owes-granted}
use Rattle.pool_state.proofs.Filled.{filled-one, filled-damaged, filled-noset, filled-short, filled-whole}
use Rattle.trie_paths.specs.Rows.{rows_of}
use Rattle.listing.specs.Calls.{Listed, from_rules, place_from, nothing, found_as, follower_as, next_rule}
use Rattle.trie_paths.proofs.RowForm.{length-rows_of}
use Rattle.listing.proofs.Seats.{sits-at}
use Rattle.listing.proofs.Calls.{list-fills, numbered, next-refused}
use Rattle.std.specs.Prelude.{Result, Option, Ok, Err, Some, None}
use Rattle.nets.specs.declared.Net.{Net}

-- One outcome. An answer is known by its number and its values.
pub follower_as-one : (r s : Result (Option Net) Refusal) → follower_as r ≡ follower_as s → r ≡ s
follower_as-one (Ok (Some m)) (Ok (Some n)) e = ap (λ m. Ok (Some m)) (ap (λ x. x.1.1) e)
follower_as-one (Ok (Some m)) (Ok None) e = absurd (true≢false (ap (λ x. x.1.0) e))
follower_as-one (Ok (Some m)) (Err y) e = absurd (number-some y (sym (ap (λ x. x.0) e)))
follower_as-one (Ok None) (Ok (Some n)) e = absurd (true≢false (sym (ap (λ x. x.1.0) e)))
follower_as-one (Ok None) (Ok None) e = refl
follower_as-one (Ok None) (Err y) e = absurd (number-some y (sym (ap (λ x. x.0) e)))
follower_as-one (Err x) (Ok (Some n)) e = absurd (number-some x (ap (λ y. y.0) e))
follower_as-one (Err x) (Ok None) e = absurd (number-some x (ap (λ y. y.0) e))
follower_as-one (Err x) (Err y) e = ap Err (number-one x y (ap (λ z. z.0) e))

pub list-determined : {w v u x : List ℕ} {k : ℕ} {r s : (Result ℕ Refusal)} → Listed w k v r u → Listed w k v s x → (r ≡ s) × (u ≡ x)
list-determined g h = filled-one (list-fills g) (list-fills h)

pub next-determined : (w : List ℕ) (k : ℕ) (x : Option Net) (r s : Result (Option Net) Refusal) → follower_as r ≡ next_rule (decode w) k x → follower_as s ≡ next_rule (decode w) k x → r ≡ s
next-determined w k x r s e f = follower_as-one r s (e ∙ sym f)

-- The outcomes of list: damaged words, a set that is not there and a short buffer are refused, and the rows stay; else they begin with the rows of the list.
module _ {w v u : List ℕ} {k : ℕ} {r : (Result ℕ Refusal)} (h : Listed w k v r u) where
  pub list-damaged : decode w ≡ damaged → (r ≡ Err Damaged) × (u ≡ v)
  list-damaged = filled-damaged (list-fills h)

  module _ (S : State) (d : decode w ≡ sound S) where
    pub list-noset : length S.sets ≤ k → (r ≡ Err NoSet) × (u ≡ v)
    list-noset = filled-noset (list-fills h) S d

    module _ (lt : k < length S.sets) where
      pub list-small : length v < 3 * length (list_at S k) → (r ≡ Err ShortBuffer) × (u ≡ v)
      list-small = filled-short (list-fills h) S d lt

      pub list-rows : 3 * length (list_at S k) ≤ length v → (r ≡ Ok (length (list_at S k))) × (u ≡ put v 0 (rows_of S.family (list_at S k)))
      list-rows = filled-whole (list-fills h) S d lt

      -- entry by entry: no row is lost, the rows of the list come first, and what is past them stays
      module _ (le : 3 * length (list_at S k) ≤ length v) where
        pub list_length : length u ≡ length v
        list_length = ap length (list-rows le).1 ∙ length-put v 0 (rows_of S.family (list_at S k))

        pub list-entry : (i : ℕ) → i < 3 * length (list_at S k) → get_or u i 0 ≡ get_or (rows_of S.family (list_at S k)) i 0
        list-entry i less =
            let rows = rows_of S.family (list_at S k) in
            rw (list-rows le).1 (rw (zero-add i) at (get_or-put-in v 0 rows i (omega (arith, length-rows_of S.family (list_at S k))) (omega arith)))

        pub list-past : (i : ℕ) → 3 * length (list_at S k) ≤ i → get_or u i 0 ≡ get_or v i 0
        list-past i more =
            let rows = rows_of S.family (list_at S k) in
            rw (list-rows le).1 (get_or-put-behind v 0 rows i (omega (arith, length-rows_of S.family (list_at S k))))

-- The outcomes of next.
module _ (w : List ℕ) (k : ℕ) (x : Option Net) (r : Result (Option Net) Refusal) (h : follower_as r ≡ next_rule (decode w) k x) where
  pub next-damaged : decode w ≡ damaged → r ≡ Err Damaged
  unfolding next_rule
  next-damaged d = follower_as-one r (Err Damaged) (h ∙ sym (owes-damaged _ nothing _ w (λ T. w) d).0)

  module _ (S : State) (d : decode w ≡ sound S) where
    pub next-noset : length S.sets ≤ k → r ≡ Err NoSet
    next-noset le = follower_as-one r (Err NoSet) (h ∙ sym (next-refused (decode w) k 3 x (rw d (le, refl))))

    module _ (lt : k < length S.sets) where
      pub next-wrong : (y : Refusal) → first_no (from_rules x S) ≡ number y → r ≡ Err y
      unfolding next_rule
      next-wrong y e = follower_as-one r (Err y) (h ∙ sym (owes-refused _ nothing _ w (λ T. w) d (numbered (sits-at w S k d lt) x e) (number-some y)).0)

      module _ (right : first_no (from_rules x S) ≡ 0) where
        granted : follower_as r ≡ (0, found_as S.family (next_l (list_at S k) (place_from x)))
        unfolding next_rule
        granted = h ∙ sym (owes-granted _ nothing _ w (λ T. w) d (numbered (sits-at w S k d lt) x right)).0

        pub next-is : (p : Bits) → next_l (list_at S k) (place_from x) ≡ found p → r ≡ Ok (Some (net_from S.family p))
        next-is p e = follower_as-one r (Ok (Some (net_from S.family p))) (granted ∙ rw e)

        pub next-none : next_l (list_at S k) (place_from x) ≡ missing → r ≡ (Ok None)
        next-none e = follower_as-one r (Ok None) (granted ∙ rw e)
