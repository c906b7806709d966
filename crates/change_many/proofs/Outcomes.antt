-- The outcomes of the calls with a file and with a range: one is allowed; sound words stay sound, with the list of adding or removing the networks one by one, in any order; a range's networks
-- are the fewest that have its addresses. Assumes nothing.
use mathlib.Core.Bool.{Bool, true}
use mathlib.Core.List.{List}
use mathlib.Core.Path.{◌≡◌, ap}
use Prim.Native.Nat.{ℕ}
use native.Mathlib.Omega.{arith}
use borrow.Author.Tests.{eqb-true, not-false}
use Rattle.nets.specs.Bits.{Bits}
use Rattle.nets.specs.Lists.{member, within, is_list}
use Rattle.nets.specs.Networks.{width}
use Rattle.nets.specs.Refusals.{first_no}
use Rattle.nets.proofs.Refused.{first_no-zero}
use Rattle.nets.proofs.TrieOf.{is_list-within}
use Rattle.ranges.specs.Blocks.{nets_of, add_all, add_range_l}
use Rattle.ranges.proofs.OfRanges.{is_list-nets, is_list-add_range, add_all-order}
use Rattle.pool_state.specs.States.{State}
use Rattle.pool_state.specs.Decode.{sound, decode}
use Rattle.pool_state.specs.Rules.{answer_as}
use Rattle.pool_state.specs.Changes.{list_at}
use Rattle.pool_state.proofs.Claims.{is_list-list_at}
use Rattle.pool_state.proofs.Decoded.{decode-state}
use Rattle.pool_state.proofs.Determined.{changed-one}
use Rattle.pool_state.proofs.Leaves.{RelistLeaves, relist-leaves}
use Rattle.setfile_format.specs.Files.{File, broken, file, read_file}
use Rattle.setfile_format.proofs.RoundTrip.{read_file-is}
use Rattle.setfile.specs.Loading.{file_list}
use Rattle.change_many.specs.Calls.{poured_l, file_rules, Poured, range_of, span_rules, RangeAdded}
use Rattle.change_many.specs.declared.Span.{Span}
use Rattle.change_many.proofs.Lists.{is_list-poured, poured_l-order}
use Rattle.std.specs.Prelude.{Result}
use Rattle.nets.specs.declared.Refusal.{Refusal}

-- One outcome.
pub poured-determined : {w v u : List ℕ} {k : ℕ} {r s : (Result ℕ Refusal)} (x : Bool) (d : List ℕ) → Poured x w k d (answer_as r) v → Poured x w k d (answer_as s) u → (r ≡ s) × (v ≡ u)
poured-determined x d h g = changed-one h g

pub range-determined : {w v u : List ℕ} {k : ℕ} {r s : (Result ℕ Refusal)} (p : Span) → RangeAdded w k p (answer_as r) v → RangeAdded w k p (answer_as s) u → (r ≡ s) × (v ≡ u)
range-determined p h g = changed-one h g

-- The list of a file that is right for the pool is one of its width.
rules-zero : (x : File) (S : State) → first_no (file_rules x S) ≡ 0 → x ≡ file S.family (file_list x)
unfolding file_rules
rules-zero broken S e = absurd (omega arith)
rules-zero (file f l) S e = ap (λ g. file g l) (eqb-true f S.family (not-false _ (first_no-zero (file_rules (file f l) S) e).0))

pub is_list-file : (d : List ℕ) (S : State) → first_no (file_rules (read_file d) S) ≡ 0 → is_list (width S.family) (file_list (read_file d)) ≡ true
is_list-file d S z = (read_file-is d S.family (file_list (read_file d)) (rules-zero (read_file d) S z)).list

-- What is left of a sound pool.
module _ (w : List ℕ) (S : State) (k : ℕ) (e : decode w ≡ sound S) where
  own-list : is_list (width S.family) (list_at S k) ≡ true
  own-list = is_list-list_at S k (decode-state w S e)

  pub poured-leaves : {v : List ℕ} {r : ℕ × ℕ} (x : Bool) (d : List ℕ) → Poured x w k d r v → RelistLeaves w S k (file_rules (read_file d) S) (poured_l x (list_at S k) (file_list (read_file d))) r v
  poured-leaves x d h =
      relist-leaves (file_rules (read_file d)) (λ T. poured_l x (list_at T k) (file_list (read_file d))) e
      (λ z. is_list-poured (width S.family) (list_at S k) (file_list (read_file d)) own-list (is_list-file d S z) x) h

  pub range-leaves : {v : List ℕ} {r : ℕ × ℕ} (s : Span) → RangeAdded w k s r v → RelistLeaves w S k (span_rules s S) (add_range_l (width S.family) (list_at S k) (range_of s)) r v
  range-leaves s h =
      relist-leaves (span_rules s) (λ T. add_range_l (width T.family) (list_at T k) (range_of s)) e (λ z. is_list-add_range (width S.family) (list_at S k) (range_of s) own-list) h

  -- in any order, each once or more often
  pub poured-order : (x : Bool) (d : List ℕ) (ms : List Bits) → first_no (file_rules (read_file d) S) ≡ 0 → within (width S.family) ms ≡ true
      → ((q : Bits) → member q (file_list (read_file d)) ≡ member q ms) → poured_l x (list_at S k) (file_list (read_file d)) ≡ poured_l x (list_at S k) ms
  poured-order x d ms z i m =
      let f = width S.family in
      poured_l-order f x (list_at S k) (file_list (read_file d)) ms own-list (is_list-within f (file_list (read_file d)) (is_list-file d S z)) i m

  pub range-order : (s : Span) (ms : List Bits) → within (width S.family) ms ≡ true → ((q : Bits) → member q (nets_of (width S.family) (range_of s)) ≡ member q ms)
      → add_range_l (width S.family) (list_at S k) (range_of s) ≡ add_all (list_at S k) ms
  unfolding add_range_l
  range-order s ms i m =
      let f = width S.family in
      let ns = nets_of f (range_of s) in
      add_all-order f (list_at S k) ns ms own-list (is_list-within f ns (is_list-nets f (range_of s))) i m
