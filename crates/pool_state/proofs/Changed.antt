-- The law of every change: a list written at the place of its set, with the sets behind it behind it, and then the roots and the index put right, is the state with the new list.
-- Both orders of writing come to this, and a result within the room leaves what moving and linking ask. Assumes nothing.
use mathlib.Core.Path.{◌≡◌, refl, sym, ap, ◌∙◌}
use mathlib.Core.Bool.{Bool, true, false, cond}
use mathlib.Core.List.{List, [], ◌∷◌, ◌++◌, append_assoc}
use Prim.Native.Nat.{ℕ, zero, suc, ◌+◌, ◌-◌, ◌*◌, ◌≤◌, ◌<◌}
use native.Mathlib.Nat.{zero-add, mul-add, mul-le-mul_left}
use native.Mathlib.Omega.{arith}
use lib.Dec.{eqb}
use lib.ListN.{length, get_or, take, drop, length-append}
use borrow.Author.Tests.{ne_eqb}
use Rattle.nets.specs.Bits.{Bits, digit}
use Rattle.nets.specs.Lists.{is_list}
use Rattle.nets.specs.Networks.{width}
use Rattle.nets.specs.Tries.{Trie, size}
use Rattle.nodes.specs.Words.{put, Has, Apart, place, enc}
use Rattle.pool_state.specs.Kept.{held_l, enc_l, index_l, first, form_of, spot_l}
use Rattle.pool_state.specs.States.{SetState, State, held, used, indexed_of, claimed_but, room_of}
use Rattle.pool_state.specs.Decode.{record_at, base, least_words, root_at, node_words, over_sets, tag_of, index_words, over_indexes, indexes_at, over, sound, decode}
use Rattle.pool_state.specs.Rules.{no_set, first_node, survey_of, tag_in}
use Rattle.pool_state.specs.Changes.{set_at, sets_with, with_set, set_with}
use Rattle.pool_state.specs.Steps.{behind_at, Shiftable, relinked, Movable, Relink, reindexed, Settle, spot_by, stride_in, spot_in, enc_in}
use Rattle.pool_state.specs.declared.Survey.{Survey}
use Rattle.nodes.proofs.Put.{put-nil, put-behind, put-behind-at, put-before-at, length-put, get_or-put-before, get_or-put-out}
use Rattle.nodes.proofs.Has.{has-put, put_has, has-front, has_same, has-at}
use Rattle.pool_state.proofs.Claims.{is_state-claimed, used-claimed, claimed_but-is, indexable-at, indexable-first}
use Rattle.pool_state.proofs.WithSet.{Fits, length-sets_with, with_set-least, is_state-with_set}
use Rattle.pool_state.proofs.Relinked.{relinked-put, length-relinked, get_or-relinked, over_records-relinked}
use Rattle.pool_state.proofs.Holds.{root_at-some}
use Rattle.pool_state.proofs.Indexed.{Indexes, indexes-keep, indexes-tag, indexed-before, over_indexes-with}
use Rattle.pool_state.proofs.Whole.{decode-whole}
use Rattle.pool_state.proofs.Decoded.{decode-header, decode-state, decode-root, decode-over}
use Rattle.pool_state.proofs.Seen.{Seen, place_of, before, behind, before-has, before-length, behind-has, behind-length, behind_at-is, seen-state, seen-header, seen-figures, survey-seen, words_l, stride_s, spot_in-is, spot_in-on, stride_in-is, seen-form, own-form}
use Rattle.pool_state.proofs.Kept.{spot_l-few, stride_l-few, spot_l-first}

-- the words of the nodes afterwards: those of the sets before and behind are the same
node_words-sets_with : (v k : ℕ) (x : SetState) (ss : List SetState) → k < length ss
    → node_words v (sets_with k x ss) ≡ node_words v (take k ss) ++ (enc_l x.form v x.list ++ node_words v (drop (suc k) ss))
unfolding node_words
node_words-sets_with v k x [] lt = absurd (omega arith)
node_words-sets_with v zero x (s ∷ ss) lt = refl
node_words-sets_with v (suc k) x (s ∷ ss) lt = rw (node_words-sets_with v k x ss (omega arith)) (sym (append_assoc (enc_l s.form v s.list) (node_words v (take k ss)) _))

-- to write again what stands there
put_front : {w : List ℕ} {p : ℕ} {xs : List ℕ} (ys : List ℕ) → Has w p xs → put w p (xs ++ ys) ≡ put w (p + length xs) ys
put_front {w} {p} {xs} ys h = sym (put-behind w p xs ys) ∙ ap (λ u. put u (p + length xs) ys) (has_same h)

-- What fits leaves words that hold the state with it.
pub decode-with_set : (w : List ℕ) (S : State) (k : ℕ) (x : SetState) → decode w ≡ sound S → k < length S.sets → is_list (width S.family) x.list ≡ true → Fits S k x
    → x.indexed ≡ (set_at S k).indexed → x.form ≡ (set_at S k).form → decode (over w (with_set S k x)) ≡ sound (with_set S k x)
decode-with_set w S k x d lt i f m q =
    decode-over w (with_set S k x) (is_state-with_set S k (decode-state w S d) lt x q m i f) (rw (with_set-least S k x m) (decode-header w S d).long)

-- the words with xs in the place of the set's, and the sets behind it behind them
abbrev pub with_words : List ℕ → State → ℕ → Survey → List ℕ → List ℕ
with_words w S k v xs = put w (place_of w v) (xs ++ behind S k)

-- The sets behind it can move: the other sets use no more than they claim.
pub used-but : (k : ℕ) (ss : List SetState) → k < length ss → used ss ≤ claimed_but k ss + held (get_or ss k no_set)
unfolding used claimed_but
used-but k [] lt = absurd (omega arith)
used-but zero (s ∷ ss) lt = omega (arith, used-claimed ss)
used-but (suc k) (s ∷ ss) lt = omega (arith, used-but k ss (omega arith))

module _ {w : List ℕ} {S : State} {k : ℕ} {v : Survey} (h : Seen w S k v) where
  -- so many nodes are within the room, and end with the sets behind them before the indexes do
  in-pool : {n : ℕ} → n ≤ room_of S k → v.at + n + (v.used + 1 - (v.at + v.held)) ≤ suc S.nodes
  in-pool le =
      omega (arith, used-but k S.sets h.known, h.used, h.held, (seen-figures h).last, is_state-claimed S (seen-state h), claimed_but-is k S.sets h.known)

  in_words : (n : ℕ) (xs : List ℕ) → n ≤ room_of S k → length xs ≡ stride_s S * n → place_of w v + length (xs ++ behind S k) ≤ base (length S.sets) + 8 * S.nodes
  in_words n xs le e =
      let r = v.used + 1 - (v.at + v.held) in
      let a : length (xs ++ behind S k) ≡ stride_s S * (n + r) = length-append xs (behind S k) ∙ rw (e, behind-length h) (sym (mul-add (stride_s S) n r)) in
      let q = spot_in-on h (n + r) ∙ spot_in-is h (v.at + (n + r)) in
      omega (arith, a, q, in-pool le, spot_l-few S.form S.family (base (length S.sets)) (v.at + (n + r)))

  -- words before the nodes are as they were
  pub put_low : (xs : List ℕ) (q : ℕ) → q < base (get_or w 2 0) → get_or (put w (place_of w v) xs) q 0 ≡ get_or w q 0
  put_low xs q lt = get_or-put-before w (place_of w v) xs q (omega (arith, before-length h, (seen-header h).sets))

  -- words written there stand there
  pub written_has : (l : List Bits) {u : List ℕ} {n : ℕ} → u ≡ with_words w S k v (words_l S l) → length (words_l S l) ≡ stride_s S * n → n ≤ room_of S k
      → Has u (spot_in u v.at) (enc_in u l) × (length (enc_in u l) ≡ stride_in u * n)
  unfolding stride_in
  written_has l {u} {n} e z le =
      let xs = words_l S l ++ behind S k in
      let p = place_of w v in
      let q : (i : ℕ) → i < base (get_or w 2 0) → get_or u i 0 ≡ get_or w i 0 = λ i lt. rw e (put_low xs i lt) in
      let f5 = q 5 (omega arith) in
      let f1 = q 1 (omega arith) in
      let f2 = q 2 (omega arith) in
      let g = seen-header h in
      let t : Has (put w p xs) p (words_l S l) = has-front (words_l S l) (behind S k) (put_has w p xs (omega (arith, (seen-figures h).long, g.nodes, g.sets, in_words n (words_l S l) le z))) in
      rw (f5, f1, f2, e) (rw (seen-form h, g.family) (rw (seen-form h, g.family) at t, z))

  -- the tag of the set
  seen-tag : get_or w (record_at k + 4) 0 ≡ tag_of (set_at S k).indexed (indexed_of (take k S.sets))
  seen-tag = rw (zero-add k, zero-add (indexed_of (take k S.sets))) at (indexes-tag w (indexes_at S) k 0 0 S.sets h.known (decode-whole w S h.decoded).indexes)

-- To put an index right is to write it where the indexes of the sets before it end.
reindexed-is : (y : List ℕ) (S : State) (k : ℕ) (l : List Bits) → get_or y 2 0 ≡ length S.sets → get_or y 3 0 ≡ S.nodes
    → get_or y (record_at k + 4) 0 ≡ tag_of (set_at S k).indexed (indexed_of (take k S.sets))
    → put y (indexes_at S + 256 * (0 + indexed_of (take k S.sets))) (index_words (set_with (set_at S k) l)) ≡ reindexed y k l
unfolding reindexed
reindexed-is y S k l e f t = rw (t, e, f) (go (set_at S k).indexed)
  where
    j : ℕ
    j = indexed_of (take k S.sets)

    go : (c : Bool) → put y (indexes_at S + 256 * (0 + j)) (cond c (index_l l) []) ≡ cond (eqb (tag_of c j) 0) y (put y (least_words (length S.sets) S.nodes (tag_of c j - 1)) (index_l l))
    go true =
        let a : indexes_at S + 256 * (0 + j) ≡ least_words (length S.sets) S.nodes (suc j - 1) = omega arith in
        rw (ne_eqb (suc j) 0 (omega arith)) (ap (λ p. put y p (index_l l)) a)
    go false = put-nil y (indexes_at S + 256 * (0 + j))

module _ {w : List ℕ} {S : State} {k : ℕ} {v : Survey} (h : Seen w S k v) (l : List Bits) {u : List ℕ} (e : u ≡ with_words w S k v (words_l S l)) where
  abbrev linked_words : List ℕ
  linked_words = relinked u k v.at v.held (held_l (set_at S k).form l)

  over_sets-change : linked_words ≡ over_sets w (with_set S k (set_with (set_at S k) l))
  unfolding over_sets with_set
  over_sets-change =
      let m = length S.sets in
      let d = (decode-whole w S h.decoded).plain in
      let q = (seen-header h).sets in
      let y = set_with (set_at S k) l in
      let xs = node_words S.family (sets_with k y S.sets) in
      let a : put w (base m) (before S k ++ (words_l S l ++ behind S k)) ≡ u =
      put_front (words_l S l ++ behind S k) (before-has h) ∙ ap (λ p. put w p (words_l S l ++ behind S k)) (sym (before-length h)) ∙ sym e in
      let c = node_words-sets_with S.family k y S.sets h.known ∙ ap (λ F. before S k ++ (enc_l F S.family l ++ behind S k)) (own-form h) in
      let b : put w (base m) xs ≡ u = ap (put w (base m)) c ∙ a in
      rw (
        length-sets_with k y S.sets,
        has_same d.header,
        has_same d.form,
        over_records-relinked w k l S.sets q h.known d.holds.records,
        ← h.at,
        ← h.held,
        ← b,
      )
      (relinked-put w k v.at v.held (held_l (set_at S k).form l) (base m) xs (omega (arith, h.known)) (omega arith))

  module _ {n : ℕ} (z : length (words_l S l) ≡ stride_s S * n) (le : n ≤ room_of S k) where
    -- a word that is no root, and stands before the nodes or behind them, is as it was
    linked-beside : (p : ℕ) → ((t : ℕ) → t < length S.sets → p ≡ record_at t → ⊥) → (base (length S.sets) ≤ p → p < indexes_at S → ⊥) → get_or linked_words p 0 ≡ get_or w p 0
    linked-beside p f g =
        let xs = words_l S l ++ behind S k in
        let q = (seen-header h).sets in
        let r : get_or u 2 0 ≡ get_or w 2 0 = rw e (put_low h xs 2 (omega arith)) in
        get_or-relinked u k v.at v.held (held_l (set_at S k).form l) (omega (arith, h.known)) p (λ t lt. f t (omega arith))
        ∙ rw e (get_or-put-out w (place_of w v) xs p (λ a b. g (omega (arith, before-length h)) (omega (arith, in_words h n (words_l S l) le z))))

    linked-length : length linked_words ≡ length w
    linked-length = length-relinked u k v.at v.held (held_l (set_at S k).form l) ∙ rw e (length-put w (place_of w v) (words_l S l ++ behind S k))

    linked-indexes : Indexes linked_words (indexes_at S) 0 0 S.sets
    linked-indexes =
        indexes-keep linked_words w (indexes_at S) 0 0 S.sets linked-length
        (linked-beside 4 (λ t lt q. omega arith) (λ a b. omega arith))
        (λ t a b. linked-beside (record_at t + 4) (λ i lt q. omega arith) (λ c d. omega arith))
        (λ p a. linked-beside p (λ t lt q. omega arith) (λ b c. omega arith))
        (decode-whole w S h.decoded).indexes

    pub over-change : reindexed linked_words k l ≡ over w (with_set S k (set_with (set_at S k) l))
    unfolding over with_set
    over-change =
        let y = set_with (set_at S k) l in
        let low : (p : ℕ) → 1 ≤ p → p < 4 → get_or linked_words p 0 ≡ get_or w p 0 = λ p a b. linked-beside p (λ t lt q. omega arith) (λ c d. omega arith) in
        let t = linked-beside (record_at k + 4) (λ i lt q. omega arith) (λ c d. omega (arith, h.known)) ∙ seen-tag h in
        sym (reindexed-is linked_words S k l (low 2 (omega arith) (omega arith) ∙ (seen-header h).sets) (low 3 (omega arith) (omega arith) ∙ (seen-header h).nodes) t)
        ∙ sym (over_indexes-with k y linked_words (indexes_at S) 0 0 S.sets (omega arith) h.known refl linked-indexes)
        ∙ ap (λ z. over_indexes z (indexes_at S) 0 0 (sets_with k y S.sets)) over_sets-change
        ∙ ap (λ n. over_indexes (over_sets w (with_set S k y)) (least_words n S.nodes 0) 0 0 (sets_with k y S.sets)) (sym (length-sets_with k y S.sets))

-- where the node stands that comes behind n nodes of the set
pub spot-after : {w : List ℕ} {S : State} {k : ℕ} {v : Survey} (h : Seen w S k v) (n : ℕ) → spot_by (stride_s S) (base (get_or w 2 0)) (v.at + n) ≡ place_of w v + stride_s S * n
unfolding spot_l stride_in
spot-after {w} {S} {k} {v} h n = ap (λ s. spot_by s (base (get_or w 2 0)) (v.at + n)) (sym (stride_in-is h)) ∙ sym (spot_in-on h n)

-- The two orders of writing the words of n nodes: the sets behind are moved first, and then they are written; or they are moved last, where they are no more than they were.
module _ {w : List ℕ} {S : State} {k : ℕ} {v : Survey} (h : Seen w S k v) (xs : List ℕ) (n : ℕ) (q : length xs ≡ stride_s S * n) where
  next : spot_by (stride_s S) (base (get_or w 2 0)) (v.at + n) ≡ place_of w v + length xs
  next = spot-after h n ∙ ap (λ m. place_of w v + m) (sym q)

  pub words-first : {u x : List ℕ} → u ≡ put w (spot_by (stride_s S) (base (get_or w 2 0)) (v.at + n)) (behind_at (stride_s S) w (base (get_or w 2 0)) v) → x ≡ put u (place_of w v) xs
      → x ≡ with_words w S k v xs
  words-first e g = rw (g, e, behind_at-is h (behind-has h)) (put-before-at w (place_of w v) _ xs (behind S k) next)

  pub words_last : {u x : List ℕ} → n ≤ v.held → u ≡ put w (place_of w v) xs
      → x ≡ put u (spot_by (stride_s S) (base (get_or w 2 0)) (v.at + n)) (behind_at (stride_s S) u (base (get_or w 2 0)) v) → x ≡ with_words w S k v xs
  words_last {u} le e g =
      let p = spot_in w (v.at + v.held) in
      let y = spot_in-on h v.held in
      let m : stride_s S * n ≤ stride_s S * v.held = mul-le-mul_left (stride_s S) le in
      let far : Apart p (length (behind S k)) (place_of w v) (length xs) = λ j a b c d. omega (arith, q, y) in
      let a : Has u p (behind S k) = rw e (has-put (place_of w v) xs (behind-has h) far) in
      rw (g, behind_at-is h a, e) (put-behind-at w (place_of w v) _ xs (behind S k) next)

tag-few : (c : Bool) (j : ℕ) → tag_of c j ≤ j + digit c
tag-few true j = omega arith
tag-few false j = omega arith

tag-some : (c : Bool) (j : ℕ) → (tag_of c j ≡ 0 → ⊥) → c ≡ true
tag-some true j ne = refl
tag-some false j ne = absurd (ne refl)

-- The roots can move: those behind set k are behind its nodes.
pub first_node-from : (k i : ℕ) (ss : List SetState) → k < length ss → i ≤ first_node k i ss
first_node-from k i [] lt = absurd (omega arith)
first_node-from zero i (x ∷ xs) lt = omega arith
first_node-from (suc k) i (x ∷ xs) lt = omega (arith, first_node-from k (i + held x) xs (omega arith))

pub first_node-behind : (k s i : ℕ) (ss : List SetState) → k < s → s < length ss → first_node k i ss + held (get_or ss k no_set) ≤ first_node s i ss
first_node-behind k s i [] lt le = absurd (omega arith)
first_node-behind k zero i (x ∷ xs) lt le = absurd (omega arith)
first_node-behind zero (suc s) i (x ∷ xs) lt le = first_node-from s (i + held x) xs (omega arith)
first_node-behind (suc k) (suc s) i (x ∷ xs) lt le = first_node-behind k s (i + held x) xs (omega arith) (omega arith)

module _ {w : List ℕ} {S : State} {k : ℕ} {v : Survey} (h : Seen w S k v) where
  root-moves : (n s : ℕ) → n ≤ room_of S k → k < s → s < get_or w 2 0 → Movable v.held n (get_or w (record_at s) 0)
  root-moves n s le lt ls ne =
      let y = survey-seen w s (survey_of (decode w) s) refl S h.decoded ls in
      let e = decode-root w S h.decoded s y.known in
      let r : get_or w (record_at s) 0 ≡ first_node s 1 S.sets = e ∙ root_at-some (first_node s 1 S.sets) (set_at S s).list (λ z. ne (e ∙ ap (root_at (first_node s 1 S.sets)) z)) in
      omega (arith, first_node-behind k s 1 S.sets lt y.known, h.held, y.at, seen-figures y, (seen-header h).nodes)

  relink-asks : {n : ℕ} {u : List ℕ} (ys : List ℕ) → n ≤ room_of S k → u ≡ put w (place_of w v) ys → Relink u k v.held n
  relink-asks {n} ys le e =
      let q : get_or (put w (place_of w v) ys) 2 0 ≡ get_or w 2 0 = put_low h ys 2 (omega arith) in
      rw e
      (record {
        known = rw q (seen-figures h).known;
        long = rw (q, length-put w (place_of w v) ys) (omega (arith, (seen-figures h).long));
        roots = λ s lt ls. rw (put_low h ys (record_at s) (omega (arith, rw q at ls))) (root-moves n s le lt (rw q at ls));
      })

  -- an indexed set is kept in the first form
  indexed-first : (set_at S k).indexed ≡ true → S.form ≡ first
  indexed-first e = sym (own-form h) ∙ indexable-first (set_at S k) e (indexable-at S k (seen-state h))

  spot-first : (set_at S k).indexed ≡ true → place_of w v ≡ place (base (get_or w 2 0)) v.at
  spot-first e =
      ap (λ F. spot_l F (get_or w 1 0) (base (get_or w 2 0)) v.at) (seen-form h ∙ indexed-first e) ∙ spot_l-first (get_or w 1 0) (base (get_or w 2 0)) v.at

  -- what putting the roots and the index right asks, once the words of n nodes are written, which are a trie's where the set is indexed
  pub settle-asks : {n : ℕ} {u xs : List ℕ} → length xs ≡ stride_s S * n → n ≤ room_of S k → ((set_at S k).indexed ≡ true → (t : Trie) × (xs ≡ enc t) × (size t ≡ n))
      → u ≡ with_words w S k v xs → Settle u k v.at v.held n
  settle-asks {n} {u} {xs} z le tr e =
      let ys = xs ++ behind S k in
      let p = place_of w v in
      let f = seen-figures h in
      let g = seen-header h in
      let low : (q : ℕ) → q < base (get_or w 2 0) → get_or u q 0 ≡ get_or w q 0 = λ q lt. rw e (put_low h ys q lt) in
      let r : get_or u 2 0 ≡ get_or w 2 0 = low 2 (omega arith) in
      let m : get_or u 3 0 ≡ get_or w 3 0 = low 3 (omega arith) in
      let c : get_or u 4 0 ≡ get_or w 4 0 = low 4 (omega arith) in
      let o : get_or u 5 0 ≡ get_or w 5 0 = low 5 (omega arith) in
      let k4 : get_or u (record_at k + 4) 0 ≡ get_or w (record_at k + 4) 0 = low (record_at k + 4) (omega (arith, f.known)) in
      let n4 : length u ≡ length w = rw e (length-put w p ys) in
      let up = in-pool h le in
      let has : Has u p xs = rw e (has-front xs (behind S k) (put_has w p ys (omega (arith, f.long, g.nodes, g.sets, in_words h n xs le z)))) in
      let some : (tag_in u k ≡ 0 → ⊥) → (set_at S k).indexed ≡ true = λ ne. tag-some (set_at S k).indexed (indexed_of (take k S.sets)) (λ q. ne (k4 ∙ seen-tag h ∙ q)) in
      record {
        relink = relink-asks ys le e;
        index = record {
          known = omega (arith, f.known);
          sets = omega (arith, f.sets);
          nodes = omega (arith, f.nodes);
          tagged = omega (arith, seen-tag h, g.indexed, tag-few (set_at S k).indexed (indexed_of (take k S.sets)), indexed-before k S.sets h.known);
          long = rw (r, m, c, n4) f.long;
          one = f.first;
          within = omega (arith, g.nodes);
          form = λ ne. ap form_of o ∙ seen-form h ∙ indexed-first (some ne);
          stands = λ ne.
              let (t, a, b) = tr (some ne) in
              (t, rw (← a) (has-at (spot-first (some ne) ∙ ap (λ x. place (base x) v.at) (sym r)) has), b);
        };
      }

  pub shift-asks : {n : ℕ} {u : List ℕ} → n ≤ room_of S k → length u ≡ length w → Shiftable (stride_s S) u (base (get_or w 2 0)) v n
  shift-asks {n} {u} le e =
      let x = seen-figures h in
      record {
        first = x.first;
        last = x.last;
        few = stride_l-few S.form S.family;
        long = omega arith;
        room = omega (arith, used-but k S.sets h.known, h.used, h.held, (seen-header h).nodes, claimed_but-is k S.sets h.known, is_state-claimed S (seen-state h));
      }
