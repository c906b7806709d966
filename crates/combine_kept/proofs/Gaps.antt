-- The same in the second form: a gap opened before a node, and a result written into it. Assumes nothing.
use mathlib.Core.List.{List, []}
use mathlib.Core.Logic.{inl, inr}
use mathlib.Core.Path.{◌≡◌, refl, sym, ap, ◌∙◌}
use Prim.Native.Nat.{ℕ, suc, ◌+◌, ◌-◌, ◌*◌, ◌≤◌, ◌<◌}
use native.Mathlib.Decide.{dec_lt}
use native.Mathlib.Nat.{mul-add, mul-le-mul_left}
use native.Mathlib.Omega.{arith}
use lib.ListN.{length, get_or, take, drop}
use borrow.Author.Tests.{lt-ltb, le-ltb}
use Rattle.nets.specs.Tries.{Trie, node}
use Rattle.nodes.specs.Words.{put, Has}
use Rattle.nodes.proofs.Has.{has-put, has-at}
use Rattle.trie_emit.specs.Combine.{op_on}
use Rattle.branch_points.specs.KeptTries.{kept_size}
use Rattle.kept_nodes.specs.Words.{stride, spot, kept_enc}
use Rattle.kept_nodes.specs.Parse.{KeptRoom}
use Rattle.kept_nodes.proofs.Places.{spot_on, spot-le, spot-end, room-put, length-kept_enc}
use Rattle.kept_sources.specs.Sources.{KeptHere, KeptMeans, nothing, everything, standing}
use Rattle.kept_emit.specs.Combine.{Inputs, KeptGap}
use Rattle.pool_state.specs.Steps.{behind_at, spot_by, stride_in}
use Rattle.pool_state.specs.declared.Survey.{Survey}
use Rattle.combine_sources.specs.Steps.{moved_to, Whole}
use Rattle.combine_kept.specs.Steps.{KeptFits, with_kept}
use Rattle.combine_sources.specs.declared.Sources.{Sources}
use Rattle.combine_sources.proofs.Shifted.{has-moved}

-- the words of k nodes from node i on, among l nodes that move from node o to node o + n
moved-has : {w : List ℕ} (f b m o n l i k : ℕ) {ys : List ℕ} → KeptRoom f w b m → 1 ≤ o → o + l ≤ suc m → o + n + l ≤ suc m → o ≤ i → i + k ≤ o + l → length ys ≡ stride f * k
    → Has w (spot f b i) ys → Has (put w (spot f b (o + n)) (take (stride f * l) (drop (spot f b o) w))) (spot f b (i + n)) ys
moved-has f b m o n l i k room pos from to le part len h =
    let d = i - o in
    let a : spot f b o + stride f * d ≡ spot f b i = spot_on f b o d pos ∙ ap (spot f b) (omega arith) in
    let c : spot f b (o + n) + stride f * d ≡ spot f b (i + n) = spot_on f b (o + n) d (omega arith) ∙ ap (spot f b) (omega arith) in
    let x = spot-end f b m (o + l) from in
    let y = spot-end f b m (o + n + l) to in
    let le : d + k ≤ l = omega arith in
    let g = mul-le-mul_left (stride f) le in
    has-at c
    (has-moved (spot f b o) (spot f b (o + n)) (stride f * l) (stride f * d) (omega (arith, spot_on f b o l pos, room.long)) (omega (arith, spot_on f b (o + n) l (omega arith), room.long))
    (omega (arith, mul-add (stride f) d k)) (has-at (sym a) h))

module _ {w : List ℕ} {op : ℕ} {s : Sources} {v : Survey} {n : ℕ} {t u : Trie} (h : KeptFits w op s v n t u) {z : List ℕ}
    (e : z ≡ put w (spot_by (stride_in w) s.base (v.at + n)) (behind_at (stride_in w) w s.base v)) where
  abbrev f : ℕ
  f = get_or w 1 0

  abbrev b : ℕ
  b = s.base

  abbrev m : ℕ
  m = get_or w 3 0

  room : KeptRoom f w b m
  room = h.reads.inputs.hold

  opened : z ≡ put w (spot f b (v.at + n)) (behind_at (stride f) w b v)
  unfolding spot
  opened = rw h.stride at e

  opened-room : KeptRoom f z b m
  opened-room = rw opened (room-put (spot f b (v.at + n)) (behind_at (stride f) w b v) room)

  behind-is : behind_at (stride f) w b v ≡ take (stride f * (v.used + 1 - v.at)) (drop (spot f b v.at) w)
  unfolding behind_at spot
  behind-is = let k : v.at + v.held ≡ v.at = omega (arith, h.empty) in rw k refl

  -- a trie before the gap stays, one behind it moves
  here-before : {i : ℕ} (x : Trie) → KeptHere f w b m 0 0 [] i x → i + kept_size x ≤ v.at → KeptHere f z b m v.at (v.at + n) [] i x
  here-before {i} x g le = record {
    stands = record {
      deep = g.stands.deep;
      within = g.stands.within;
      has = rw opened
          (has-put (spot f b (v.at + n)) (behind_at (stride f) w b v) g.stands.has
          (λ k p q c d. omega (arith, length-kept_enc f [] x, spot_on f b i (kept_size x) g.one, spot-le f b (i + kept_size x) (v.at + n) (omega arith))));
    };
    one = g.one;
    clear = inl le;
  }

  here-behind : {i : ℕ} (x : Trie) → KeptHere f w b m 0 0 [] i x → v.at ≤ i → i + kept_size x ≤ v.used + 1 → KeptHere f z b m v.at (v.at + n) [] (i + n) x
  here-behind {i} x g le fit = record {
    stands = record {
      deep = g.stands.deep;
      within = omega (arith, h.few);
      has = rw (opened, behind-is)
          (moved-has f b m v.at n (v.used + 1 - v.at) i (kept_size x) room h.gap.first (omega (arith, h.few)) (omega (arith, h.few)) le (omega arith) (length-kept_enc f [] x)
          g.stands.has);
    };
    one = omega (arith, g.one);
    clear = inr (omega arith);
  }

  means-moved : (i : ℕ) (x : Trie) → KeptMeans f w b m 0 0 [] i x → Whole v.at (v.used + 1) i (kept_size x) → KeptMeans f z b m v.at (v.at + n) [] (moved_to v.at n i) x
  means-moved i x nothing k = rw (lt-ltb 0 v.at h.gap.first) nothing
  means-moved i x everything k = absurd (omega (arith, k.within, h.few, room.few))
  means-moved i x (standing {i = j} {l = l} {r = r} g) k = go (dec_lt j v.at)
    where
      go : Dec (j < v.at) → KeptMeans f z b m v.at (v.at + n) [] (moved_to v.at n j) (node l r)
      go (yes a) = rw (lt-ltb j v.at a) (standing (here-before (node l r) g (k.before a)))
      go (no a) = rw (le-ltb j v.at (omega arith)) (standing (here-behind (node l r) g (omega arith) k.within))

  -- what writing the result asks
  abbrev result : Trie
  result = op_on op s.levels t u

  pub kept-inputs : {a c : ℕ} → a ≡ moved_to v.at n s.first → c ≡ moved_to v.at n s.second → Inputs f z b m a c v.at (v.at + n) [] s.levels t u
  kept-inputs p q =
      let i = h.reads.inputs in
      record {
        hold = opened-room;
        first = rw p (means-moved s.first t i.first h.reads.whole-t);
        second = rw q (means-moved s.second u i.second h.reads.whole-u);
        deep-t = i.deep-t;
        deep-u = i.deep-u;
        turn = i.turn;
        short = i.short;
      }

  pub kept-gap : KeptGap m v.at (v.at + n) result
  kept-gap = record { one = h.gap.first; fits = λ k. omega (arith, h.size); room = omega (arith, h.few, h.gap.last, h.empty) }

  pub kept-exact : v.at + kept_size result ≡ v.at + n
  kept-exact = ap (λ k. v.at + k) h.size

  -- and what it leaves
  pub kept-wrote : {y : List ℕ} → y ≡ put z (spot f b v.at) (kept_enc f [] result) → y ≡ with_kept w op s v n t u
  kept-wrote d = d ∙ ap (λ x. put x (spot f b v.at) (kept_enc f [] result)) e
