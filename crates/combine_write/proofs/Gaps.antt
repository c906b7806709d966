-- A gap opened before a node, and a result written into it: what stands behind moves as a whole, so a source means the same trie by its moved number, and stands apart
-- from the gap. Assumes nothing.
use mathlib.Core.List.{List}
use mathlib.Core.Path.{◌≡◌, sym, ◌∙◌}
use Prim.Native.Nat.{ℕ, ◌+◌, ◌-◌, ◌*◌, ◌≤◌, ◌<◌}
use native.Mathlib.Decide.{dec_lt}
use native.Mathlib.Omega.{arith}
use lib.ListN.{length}
use borrow.Author.Tests.{lt-ltb, le-ltb}
use Rattle.nets.specs.Tries.{Trie, node, size}
use Rattle.nodes.specs.Words.{put, Has, place, enc}
use Rattle.nodes.proofs.Put.{put-nil, length-put}
use Rattle.nodes.proofs.Has.{has-put, has-at}
use Rattle.nodes.proofs.Tries.{length-enc}
use Rattle.trie_emit.specs.Answers.{Emits, end_of, rest_of}
use Rattle.trie_emit.specs.Combine.{op_on, Here, Means, nothing, everything, standing, Inputs, Gap as Free}
use Rattle.trie_emit.specs.declared.emitting.Emitted.{Emitted}
use Rattle.trie_emit.specs.declared.emitting.Emitted.TheVariants.{Full}
use Rattle.trie_emit.proofs.Answers.{end_is, full_size, settled}
use Rattle.pool_state.specs.Steps.{behind_at, spot_by}
use Rattle.pool_state.specs.declared.Survey.{Survey}
use Rattle.combine_sources.specs.Steps.{moved_to, Whole}
use Rattle.combine_write.specs.Steps.{ResultFits, Last, with_result}
use Rattle.combine_sources.specs.declared.Sources.{Sources}
use Rattle.combine_sources.proofs.Shifted.{has-moved}

module _ {w : List ℕ} {op : ℕ} {s : Sources} {v : Survey} {n : ℕ} {t u : Trie} (h : ResultFits w op s v n t u) {z : List ℕ} (e : z ≡ put w (spot_by 1 s.base (v.at + n)) (behind_at 1 w s.base v)) where
  pub opened-length : length z ≡ length w
  opened-length = rw e (length-put w (spot_by 1 s.base (v.at + n)) (behind_at 1 w s.base v))

  -- a trie before the gap stays, one behind it moves
  here-before : {i : ℕ} (x : Trie) → Here w s.base 0 0 i x → i + size x ≤ v.at → Here z s.base v.at (v.at + n) i x
  here-before x g le = record {
    has = rw e (has-put (spot_by 1 s.base (v.at + n)) (behind_at 1 w s.base v) g.has (λ k a b c d. omega (arith, length-enc x)));
    one = g.one;
    few = g.few;
    clear = λ k a b c d. omega arith;
  }

  here-behind : {i : ℕ} (x : Trie) → Here w s.base 0 0 i x → v.at ≤ i → i + size x ≤ v.used + 1 → Here z s.base v.at (v.at + n) (i + n) x
  unfolding behind_at
  here-behind {i} x g le fit =
      let p = spot_by 1 s.base (v.at + v.held) in
      let q = spot_by 1 s.base (v.at + n) in
      let m = 1 * (v.used + 1 - (v.at + v.held)) in
      let a : Has w (p + (i - v.at)) (enc x) = has-at (omega arith) g.has in
      record {
        has = rw e (has-at (omega arith) (has-moved p q m (i - v.at) (omega arith) (omega arith) (omega (arith, length-enc x)) a));
        one = omega arith;
        few = omega arith;
        clear = λ k a b c d. omega arith;
      }

  pub means-moved : (i : ℕ) (x : Trie) → Means w s.base 0 0 i x → Whole v.at (v.used + 1) i (size x) → Means z s.base v.at (v.at + n) (moved_to v.at n i) x
  means-moved i x nothing k = rw (lt-ltb 0 v.at (omega arith)) nothing
  means-moved i x everything k = absurd (omega (arith, k.within, h.reads.room.few))
  means-moved i x (standing {i = j} {l = l} {r = r} g) k = go (dec_lt j v.at)
    where
      go : Dec (j < v.at) → Means z s.base v.at (v.at + n) (moved_to v.at n j) (node l r)
      go (yes a) = rw (lt-ltb j v.at a) (standing (here-before (node l r) g (k.before a)))
      go (no a) = rw (le-ltb j v.at (omega arith)) (standing (here-behind (node l r) g (omega arith) k.within))

  -- what emission asks
  abbrev result : Trie
  result = op_on op s.levels t u

  pub write-inputs : {a c : ℕ} → a ≡ moved_to v.at n s.first → c ≡ moved_to v.at n s.second → Inputs z s.base a c v.at (v.at + n) s.levels t u
  write-inputs p q = record {
    first = rw p (means-moved s.first t h.reads.inputs.first h.reads.whole-t);
    second = rw q (means-moved s.second u h.reads.inputs.second h.reads.whole-u);
    deep-t = h.reads.inputs.deep-t;
    deep-u = h.reads.inputs.deep-u;
    turn = h.reads.inputs.turn;
    few = omega arith;
  }

  pub write-free : Free z s.base v.at (v.at + n) result
  write-free = record { one = h.gap.first; fits = λ m. omega arith; room = rw opened-length (omega arith); low = omega arith }

  -- and what settling its answer leaves
  module _ {y : List ℕ} {x : Emitted} (d : Emits z y s.base v.at x result) where
    pub write-settles : (1 ≤ v.at) × (x ≡ Full → place s.base v.at < length y)
    write-settles =
        let k : length y ≡ length w = rw d.wrote (length-put z (place s.base v.at) _ ∙ opened-length) in
        (h.gap.first, λ f. omega (arith, full_size x result v.at d.answers f))

    pub write-wrote : {r : List ℕ} → r ≡ put y (place s.base v.at) (rest_of x) → r ≡ with_result w op s v n t u
    write-wrote q = rw (← e) (settled d q)

-- Where nothing stands behind the gap, nothing moves.
module _ {w : List ℕ} {op : ℕ} {s : Sources} {v : Survey} {t u : Trie} (h : Last w op s v t u) where
  abbrev made : ℕ
  made = size (op_on op s.levels t u)

  last-opened : w ≡ put w (spot_by 1 s.base (v.at + made)) (behind_at 1 w s.base v)
  unfolding behind_at
  last-opened =
      let e : 1 * (v.used + 1 - (v.at + v.held)) ≡ 0 = omega (arith, h.last) in
      rw e (sym (put-nil w (spot_by 1 s.base (v.at + made))))

  last-moved : (i : ℕ) (x : Trie) → Means w s.base 0 0 i x → Whole v.at (v.used + 1) i (size x) → i ≡ moved_to v.at made i
  unfolding size
  last-moved i x nothing k = rw (lt-ltb 0 v.at (omega (arith, h.writable.gap.first)))
  last-moved i x everything k = absurd (omega (arith, k.within, h.writable.reads.room.few))
  last-moved i x (standing {i = j} g) k = rw (lt-ltb j v.at (omega (arith, k.within, h.last)))

  pub last-inputs : Inputs w s.base s.first s.second v.at (v.at + made) s.levels t u
  last-inputs =
      let r = h.writable.reads in
      write-inputs h.writable last-opened (last-moved s.first t r.inputs.first r.whole-t) (last-moved s.second u r.inputs.second r.whole-u)

  pub last-free : Free w s.base v.at (v.at + made) (op_on op s.levels t u)
  last-free = write-free h.writable last-opened

  module _ {y : List ℕ} {x : Emitted} (d : Emits w y s.base v.at x (op_on op s.levels t u)) where
    pub last-settles : (1 ≤ v.at) × (x ≡ Full → place s.base v.at < length y)
    last-settles = write-settles h.writable last-opened d

    pub last_end : {e : ℕ} → e ≡ end_of x v.at → e ≡ v.at + made
    last_end q = q ∙ end_is x (op_on op s.levels t u) v.at d.answers

    pub last-wrote : {z : List ℕ} {r : ℕ} → r ≡ made → z ≡ put y (place s.base v.at) (rest_of x) → z ≡ with_result w op s v r t u
    last-wrote e q = rw e (write-wrote h.writable last-opened d q)
