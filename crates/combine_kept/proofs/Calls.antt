-- A combination in the second form: what the sources mean, and then the result, counted and written (`Counted` of pool_state's proofs/Counted.antt says what becomes of it). Assumes nothing.
use mathlib.Core.Bool.{Bool}
use mathlib.Core.List.{List, []}
use mathlib.Core.Path.{◌≡◌, refl, sym, ap, ◌∙◌}
use Prim.Native.Nat.{ℕ, suc, ◌*◌, ◌≤◌, ◌<◌}
use native.Mathlib.Omega.{arith}
use lib.ListN.{get_or}
use Rattle.nets.specs.Bits.{Bits}
use Rattle.nets.specs.Tries.{Trie, size, levels, list_of}
use Rattle.nets.specs.Networks.{width}
use Rattle.trie_emit.specs.Combine.{op_on}
use Rattle.branch_points.specs.KeptTries.{kept_size}
use Rattle.branch_points.proofs.Counts.{kept_size-le}
use Rattle.branch_points.proofs.Sizes.{size-deep}
use Rattle.kept_nodes.specs.Words.{stride, kept_enc}
use Rattle.pool_state.specs.Kept.{second}
use Rattle.pool_state.specs.States.{State, held, used, room_of, admits}
use Rattle.pool_state.specs.Changes.{set_at, list_at}
use Rattle.pool_state.specs.declared.Survey.{Survey}
use Rattle.pool_state.proofs.Claims.{claimed_but-is, is_state-claimed}
use Rattle.pool_state.proofs.Seen.{Seen, seen-state, seen-header, seen-figures, stride_in-is, stride_s}
use Rattle.pool_state.proofs.Seats.{seat-family}
use Rattle.pool_state.proofs.Changed.{with_words, words-first, shift-asks, used-but}
use Rattle.pool_state.proofs.Counted.{Counted}
use Rattle.pool_state.proofs.OnTries.{trie_at, form-second}
use Rattle.pool_state.proofs.OnKept.{kept-room, kept-stride, kept-spot, kept-length, KeptResult, kept-counted}
use Rattle.combine_sources.specs.Rules.{combine_rules}
use Rattle.combine_sources.specs.Steps.{combine_l, Started}
use Rattle.combine_kept.specs.Steps.{KeptReads, KeptAdmits, KeptFits, with_kept}
use Rattle.combine_sources.specs.declared.Sources.{Sources}
use Rattle.combine_sources.proofs.Asked.{state, here, right}
use Rattle.combine_sources.proofs.Operations.{few-levels, list_of-op, size-op_on}
use Rattle.combine_sources.proofs.SetSources.{KeptSource, kept-source}

module _ {op : ℕ} {w : List ℕ} {to first second : ℕ} {v : Survey} {s : Sources} (c : Started op w to first second v s) (ne : get_or w 5 0 ≡ 0 → ⊥) where
  abbrev pub S : State
  S = state c.ready

  at : Seen w S to v
  at = here c.ready

  one : KeptSource w S v first
  one = kept-source at first c.ready.known.0 (form-second at ne)

  two : KeptSource w S v second
  two = kept-source at second c.ready.known.1 (form-second at ne)

  abbrev after : State → List Bits
  after T = combine_l op (list_at T first) (list_at T second)

  abbrev pub made : Trie
  made = op_on op (suc (width (get_or w 1 0))) (trie_at S first) (trie_at S second)

  made_list : list_of made ≡ after S
  made_list = list_of-op (width (get_or w 1 0)) (trie_at S first) (trie_at S second) c.operation one.deep two.deep ∙ rw (one.list, two.list)

  pub reads : KeptReads w s v (trie_at S first) (trie_at S second)
  reads =
      rw c.sources
      (record {
        inputs = record {
          hold = kept-room at (form-second at ne);
          first = one.means;
          second = two.means;
          deep-t = one.deep;
          deep-u = two.deep;
          turn = omega arith;
          short = omega arith;
        };
        whole-t = one.whole;
        whole-u = two.whole;
        levels = omega arith;
        family = seat-family c.ready.surveyed;
        long = omega (arith, (seen-figures at).long);
      })

  -- m is its number of nodes
  module _ {m : ℕ} (count : m ≡ kept_size (op_on op s.levels (trie_at S first) (trie_at S second))) where
    made-size : m ≡ kept_size made
    made-size = count ∙ rw c.sources refl

    pub made-few : m < 4294967296
    made-few =
        let k = suc (width (get_or w 1 0)) in
        let d = few-levels (get_or w 1 0) in
        let x = size-deep (trie_at S first) 129 (omega (arith, one.deep)) in
        let y = size-deep (trie_at S second) 129 (omega (arith, two.deep)) in
        omega (arith, made-size, kept_size-le made, size-op_on op k (trie_at S first) (trie_at S second), one.few, two.few)

    pub made_counted : {b : Bool} → KeptAdmits w op to s v b → Counted w S to v (combine_rules to first second) after (kept_enc S.family [] made) b m
    made_counted {b} clear =
        let x : b ≡ admits S.family (set_at S to) (list_of made) = rw c.sources at (clear S (trie_at S first) (trie_at S second) at.decoded reads) in
        let r : KeptResult w S to v (combine_rules to first second) after made b m =
        record {
          seen = at;
          form = form-second at ne;
          right = right c.ready;
          list = made_list;
          public = ap (admits S.family (set_at S to)) (sym made_list) ∙ sym x;
          size = sym made-size;
        } in
        kept-counted r

    -- it is granted, and written
    module _ (fits : m ≤ room_of S to) where
      pub made-fits : KeptFits w op s v m (trie_at S first) (trie_at S second)
      made-fits =
          let e = stride_in-is at in
          record {
            reads = reads;
            size = sym count;
            empty = c.ready.empty;
            gap = rw (c.sources, e) (shift-asks at fits refl);
            few = omega (
              arith,
              used-but to S.sets at.known,
              at.used,
              at.held,
              c.ready.empty,
              (seen-header at).nodes,
              claimed_but-is to S.sets at.known,
              is_state-claimed S (seen-state at),
            );
            stride = e ∙ kept-stride at (form-second at ne) ∙ ap stride (sym (seen-header at).family);
          }

      pub made-wrote : {y : List ℕ} → y ≡ with_kept w op s v m (trie_at S first) (trie_at S second) → y ≡ with_words w S to v (kept_enc S.family [] made)
      made-wrote d =
          let F = form-second at ne in
          let e = rw (c.sources, stride_in-is at, (seen-header at).family) at d in
          words-first at (kept_enc S.family [] made) m (kept-length at F made ∙ ap (λ n. stride_s S * n) (sym made-size)) refl
          (e ∙ rw (kept-spot at F v.at, (seen-header at).family) refl)
