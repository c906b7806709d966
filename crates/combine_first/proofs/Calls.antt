-- A combination in the first form: what the sources mean, and then the result, counted and written (`TrieResult` of pool_state's proofs/OnTries.antt says what
-- becomes of it). Assumes nothing.
use mathlib.Core.Bool.{Bool, true}
use mathlib.Core.List.{List}
use mathlib.Core.Path.{◌≡◌, refl, sym, ap, ◌∙◌}
use Prim.Native.Nat.{ℕ, suc, ◌≤◌, ◌<◌}
use native.Mathlib.Omega.{arith}
use lib.ListN.{get_or}
use Rattle.nets.specs.Bits.{Bits}
use Rattle.nets.specs.Tries.{Trie, size, levels, list_of}
use Rattle.nets.specs.Networks.{width}
use Rattle.trie_emit.specs.Combine.{op_on}
use Rattle.pool_state.specs.States.{State, room_of, admits}
use Rattle.pool_state.specs.Changes.{set_at, list_at}
use Rattle.pool_state.specs.Steps.{Judges, Settle, Settled}
use Rattle.pool_state.specs.declared.Survey.{Survey}
use Rattle.pool_state.proofs.Decoded.{decode-header}
use Rattle.pool_state.proofs.Seen.{seen, seen_as, seen-figures}
use Rattle.pool_state.proofs.OnTries.{form-first, shift-trie, trie_at, with_trie, behind-first, TrieResult, result_fits, result-settles, result-granted}
use Rattle.pool_state.proofs.Judged.{judge-none}
use Rattle.combine_sources.specs.Rules.{combine_rules, Combined}
use Rattle.combine_sources.specs.Steps.{combine_l, Ready, Started, sources_of}
use Rattle.combine_write.specs.Steps.{Reads, Last, ResultFits, with_result}
use Rattle.combine_first.specs.Steps.{Admits, Begun, most_nodes, Sure}
use Rattle.combine_sources.specs.declared.Sources.{Sources}
use Rattle.combine_first.proofs.Sizes.{size-most}
use Rattle.combine_sources.proofs.SetSources.{Source, source}
use Rattle.combine_sources.proofs.Asked.{state, here, right}
use Rattle.combine_sources.proofs.Operations.{list_of-op, size-op_on, few-levels}
use Rattle.std.specs.Prelude.{Ok}

-- The sources of a combination that goes on.
module _ {w : List ℕ} {to first second : ℕ} {v : Survey} (h : Ready w to first second v) (form : get_or w 5 0 ≡ 0) where
  one : Source w (state h) v first
  one = source (here h) first h.known.0 (form-first (here h) form)

  two : Source w (state h) v second
  two = source (here h) second h.known.1 (form-first (here h) form)

  pub ready-reads : {s : Sources} → s ≡ sources_of w first second → Reads w s v (trie_at (state h) first) (trie_at (state h) second)
  ready-reads q =
      let f = seen-figures (here h) in
      let l = few-levels (get_or w 1 0) in
      rw q
      (record {
        inputs = record { first = one.means; second = two.means; deep-t = one.deep; deep-u = two.deep; turn = omega arith; few = omega arith };
        whole-t = one.whole;
        whole-u = two.whole;
        nodes-t = one.nodes;
        nodes-u = two.nodes;
        room = record { low = omega arith; few = omega arith; long = omega arith };
        levels = l;
      })

-- A combination that has begun, whose result has m nodes.
pub begins : {op : ℕ} {w : List ℕ} {to first second : ℕ} {v : Survey} {s : Sources} {b : Bool} → Started op w to first second v s → get_or w 5 0 ≡ 0 → Admits w op to s v b
    → Begun op w to first second v s b
begins h form clear = record { started = h; form = form; clear = clear }

pub begun-clear : {op : ℕ} {w : List ℕ} {to first second : ℕ} {v : Survey} {s : Sources} {b : Bool} → b ≡ true → Begun op w to first second v s b → Begun op w to first second v s true
begun-clear e h = rw e at h

module _ {op : ℕ} {w : List ℕ} {to first second : ℕ} {v : Survey} {s : Sources} {b : Bool} (c : Begun op w to first second v s b) where
  abbrev pub S : State
  S = state c.started.ready

  abbrev after : State → List Bits
  after T = combine_l op (list_at T first) (list_at T second)

  abbrev pub made : Trie
  made = op_on op (suc (width (get_or w 1 0))) (trie_at S first) (trie_at S second)

  made_list : list_of made ≡ after S
  made_list =
      let x = one c.started.ready c.form in
      let y = two c.started.ready c.form in
      list_of-op (width (get_or w 1 0)) (trie_at S first) (trie_at S second) c.started.operation x.deep y.deep ∙ rw (x.list, y.list)

  pub begun-reads : Reads w s v (trie_at S first) (trie_at S second)
  begun-reads = ready-reads c.started.ready c.form c.started.sources

  made-clear : b ≡ admits S.family (set_at S to) (list_of made)
  made-clear = rw c.started.sources at (c.clear S (trie_at S first) (trie_at S second) (here c.started.ready).decoded begun-reads)

  pub begun-few : (s.nodes ≤ 4194304) × (s.others ≤ 4194304)
  begun-few = let r = begun-reads in (omega (arith, r.nodes-t, (one c.started.ready c.form).few), omega (arith, r.nodes-u, (two c.started.ready c.form).few))

  pub made-size : size made ≡ size (op_on op s.levels (trie_at S first) (trie_at S second))
  made-size = rw c.started.sources refl

  module _ {m : ℕ} (count : m ≡ size made) where
    pub result : TrieResult w S to v (combine_rules to first second) after made b m
    result = record {
      seen = here c.started.ready;
      form = form-first (here c.started.ready) c.form;
      right = right c.started.ready;
      list = made_list;
      public = ap (admits S.family (set_at S to)) (sym made_list) ∙ sym made-clear;
      size = sym count;
    }

    pub result-few : m < 4294967296
    result-few = omega (arith, count, size-op_on op (suc (width (get_or w 1 0))) (trie_at S first) (trie_at S second), (one c.started.ready c.form).few, (two c.started.ready c.form).few)

    -- it is granted, and written
    module _ (fits : m ≤ room_of S to) where
      pub result-writes : ResultFits w op s v m (trie_at S first) (trie_at S second)
      result-writes =
          let h = here c.started.ready in
          let f = seen-figures h in
          record {
            reads = begun-reads;
            size = sym made-size ∙ sym count;
            empty = c.started.ready.empty;
            gap = rw c.started.sources (shift-trie h (form-first h c.form) fits refl);
            few = omega (arith, fits, (decode-header w S h.decoded).nodes);
          }

      pub result-wrote : {y : List ℕ} → y ≡ with_result w op s v m (trie_at S first) (trie_at S second) → y ≡ with_trie w S to v made
      result-wrote d = behind-first (here c.started.ready) (form-first (here c.started.ready) c.form) made refl (rw (← count) (rw c.started.sources at d))

  -- it surely fits
  module _ (sure : Sure w op to s v) (clear : b ≡ true) where
    made-most : size made ≤ most_nodes op s.nodes s.others
    made-most = let r = begun-reads in rw (r.nodes-t, r.nodes-u) (size-most op (suc (width (get_or w 1 0))) (trie_at S first) (trie_at S second))

    sure-judged : {m : ℕ} → m ≡ size made → Judges w to b m (Ok tt)
    sure-judged n = record {
      verdict = λ T l d p e.
          judge-none (seen_as c.started.ready.surveyed T d) l p e clear (omega (arith, made-most, sure.limit)) refl (omega (arith, made-most, sure.room T d));
    }

    sure-room : {m : ℕ} (n : m ≡ size made) → m ≤ room_of S to
    sure-room n = result_fits (result n) (sure-judged n) refl

    pub sure-last : Last w op s v (trie_at S first) (trie_at S second)
    sure-last = record { last = sure.last; writable = result-writes (sym made-size) (sure-room (sym made-size)) }

    module _ {r : ℕ} {y : List ℕ} (d : (t u : Trie) → Last w op s v t u → (r ≡ size (op_on op s.levels t u)) × (y ≡ with_result w op s v r t u)) where
      appended : r ≡ size made
      appended = (d (trie_at S first) (trie_at S second) sure-last).0 ∙ sym made-size

      appended-wrote : y ≡ with_trie w S to v made
      appended-wrote = result-wrote appended (sure-room appended) (d (trie_at S first) (trie_at S second) sure-last).1

      pub appended-settles : Settle y to v.at v.held r
      appended-settles = result-settles (result appended) (sure-judged appended) refl appended-wrote

      pub appended-granted : {x : ℕ × ℕ} {z : List ℕ} → x ≡ (0, r) → Settled y to v.at v.held r z → Combined (combine_l op) w to first second x z
      appended-granted p q = result-granted (result appended) (sure-judged appended) refl appended-wrote p q
