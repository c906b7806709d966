-- A set restated: another share, limit or mark, and the same list. That is a write over its record, and no other word. Assumes nothing.
use mathlib.Core.Path.{◌≡◌, refl, sym, ap, ◌∙◌}
use mathlib.Core.Bool.{cond}
use mathlib.Core.List.{List, [], ◌∷◌, ◌++◌}
use Prim.Native.Nat.{ℕ, zero, suc, ◌+◌, ◌*◌, ◌<◌}
use native.Mathlib.Nat.{zero-add}
use native.Mathlib.Omega.{arith}
use lib.ListN.{length, get_or, take}
use Rattle.nodes.specs.Words.{put, Has}
use Rattle.pool_state.specs.Kept.{held_l, enc_l, index_l}
use Rattle.nodes.proofs.Put.{length-put, put-behind-at, get_or-put-before, get_or-put-behind, get_or-put-out}
use Rattle.nodes.proofs.Has.{has-put, has-front, has-back, has-at, has_same}
use Rattle.pool_state.specs.States.{SetState, State, held, indexed_of}
use Rattle.pool_state.specs.Decode.{record_at, least_words, node_words, over_records, over_sets, index_words, over_indexes, indexes_at, over, sound, decode}
use Rattle.pool_state.specs.Rules.{no_set, first_node}
use Rattle.pool_state.specs.Changes.{set_at, sets_with, with_set, planned, marked}
use Rattle.pool_state.proofs.Holds.{record_of, Records, records-put}
use Rattle.pool_state.proofs.Encoded.{records-same}
use Rattle.pool_state.proofs.Indexed.{indexes-keep, indexes-at, over_indexes-with}
use Rattle.pool_state.proofs.Whole.{decode-whole}
use Rattle.pool_state.proofs.Decoded.{decode-set}
use Rattle.pool_state.proofs.WithSet.{length-sets_with}
use Rattle.pool_state.proofs.Kept.{spot_l-one}

-- Where the others of its words stand, writing a record writes its share and limit, or its last word.
module _ {w : List ℕ} {p r a b c : ℕ} where
  put-plan : (x y : ℕ) → Has w p (r ∷ a ∷ b ∷ c ∷ []) → put w p (r ∷ x ∷ y ∷ c ∷ []) ≡ put w (p + 1) (x ∷ y ∷ [])
  put-plan x y h =
      let g = has-put (p + 1) (x ∷ y ∷ []) (has-back (r ∷ a ∷ b ∷ []) (c ∷ []) h) (λ k d e f i. omega arith) in
      sym (put-behind-at w p (p + 1) (r ∷ []) (x ∷ y ∷ c ∷ []) refl)
      ∙ ap (λ u. put u (p + 1) (x ∷ y ∷ c ∷ [])) (has_same (has-front (r ∷ []) (a ∷ b ∷ c ∷ []) h))
      ∙ sym (put-behind-at w (p + 1) (p + 3) (x ∷ y ∷ []) (c ∷ []) (omega arith))
      ∙ has_same g

  put_last : (x : ℕ) → Has w p (r ∷ a ∷ b ∷ c ∷ []) → put w p (r ∷ a ∷ b ∷ x ∷ []) ≡ put w (p + 3) (x ∷ [])
  put_last x h =
      sym (put-behind-at w p (p + 3) (r ∷ a ∷ b ∷ []) (x ∷ []) refl) ∙ ap (λ u. put u (p + 3) (x ∷ [])) (has_same (has-front (r ∷ a ∷ b ∷ []) (c ∷ []) h))

over_records-restated : (k : ℕ) (x : SetState) (w : List ℕ) (s i : ℕ) (ss : List SetState) → k < length ss → held x ≡ held (get_or ss k no_set) → Records w s i ss
    → over_records w s i (sets_with k x ss) ≡ put w (record_at (s + k)) (record_of (first_node k i ss) x)
unfolding over_records
over_records-restated k x w s i [] lt e h = absurd (omega arith)
over_records-restated zero x w s i (z ∷ zs) lt e h =
    let a : s + 0 ≡ s = omega arith in
    let u = put w (record_at s) (record_of i x) in
    let g = records-put w (s + 1) (i + held z) zs (record_at s) (record_of i x) (λ j c d p q. omega arith) h.1 in
    rw a (ap (λ n. over_records u (s + 1) (i + n) zs) e ∙ records-same u (s + 1) (i + held z) zs g)
over_records-restated (suc k) x w s i (z ∷ zs) lt e h =
    let a : s + suc k ≡ s + 1 + k = omega arith in
    rw a (ap (λ u. over_records u (s + 1) (i + held z) (sets_with k x zs)) (has_same h.0) ∙ over_records-restated k x w (s + 1) (i + held z) zs (omega arith) e h.1)

node_words-restated : (v k : ℕ) (x : SetState) (ss : List SetState) → x.form ≡ (get_or ss k no_set).form → x.list ≡ (get_or ss k no_set).list → node_words v (sets_with k x ss) ≡ node_words v ss
unfolding node_words
node_words-restated v k x [] f e = refl
node_words-restated v zero x (s ∷ ss) f e = ap (λ F. enc_l F v x.list ++ node_words v ss) f ∙ ap (λ l. enc_l s.form v l ++ node_words v ss) e
node_words-restated v (suc k) x (s ∷ ss) f e = rw (node_words-restated v k x ss f e)

module _ (w : List ℕ) (S : State) (k : ℕ) (d : decode w ≡ sound S) (lt : k < length S.sets) where
  over_sets-restated : (x : SetState) → x.form ≡ (set_at S k).form → x.list ≡ (set_at S k).list → over_sets w (with_set S k x) ≡ put w (record_at k) (record_of (first_node k 1 S.sets) x)
  unfolding over_sets with_set
  over_sets-restated x f e =
      let h = (decode-whole w S d).plain in
      let xs = record_of (first_node k 1 S.sets) x in
      let r : over_records w 0 1 (sets_with k x S.sets) ≡ put w (record_at k) xs = rw (zero-add k) at (over_records-restated k x w 0 1 S.sets lt (ap (λ F. held_l F x.list) f ∙ ap (held_l (set_at S k).form) e) h.holds.records) in
      rw (length-sets_with k x S.sets, has_same h.header, has_same h.form, r, node_words-restated S.family k x S.sets f e)
      (has_same (has-put (record_at k) xs (has-at (spot_l-one S.form S.family _) h.holds.nodes) (λ j a b c f. omega arith)))

  over-restated : (x : SetState) → x.form ≡ (set_at S k).form → x.list ≡ (set_at S k).list → x.indexed ≡ (set_at S k).indexed → over w (with_set S k x) ≡ put w (record_at k) (record_of (first_node k 1 S.sets) x)
  unfolding over with_set
  over-restated x o e f =
      let xs = record_of (first_node k 1 S.sets) x in
      let u = put w (record_at k) xs in
      let m = indexes_at S in
      let n = indexed_of (take k S.sets) in
      let i = (decode-whole w S d).indexes in
      let same : index_words x ≡ index_words (set_at S k) = ap (λ c. cond c (index_l x.list) []) f ∙ ap (λ l. cond (set_at S k).indexed (index_l l) []) e in
      let g = indexes-keep u w m 0 0 S.sets (length-put w (record_at k) xs)
      (get_or-put-before w (record_at k) xs 4 (omega arith))
      (λ t a b. get_or-put-out w (record_at k) xs (record_at t + 4) (λ p q. omega arith))
      (λ p a. get_or-put-behind w (record_at k) xs p (omega arith))
      i in
      ap (λ z. over_indexes (over_sets w (with_set S k x)) (least_words z S.nodes 0) 0 0 (sets_with k x S.sets)) (length-sets_with k x S.sets)
      ∙ ap (λ z. over_indexes z m 0 0 (sets_with k x S.sets)) (over_sets-restated x o e)
      ∙ over_indexes-with k x u m 0 0 S.sets (omega arith) lt f g
      ∙ ap (put u (m + 256 * (0 + n))) same
      ∙ has_same (indexes-at u m k 0 0 S.sets lt g)

  -- another share and limit are two words, and a mark is one
  pub over-planned : (x y : ℕ) → over w (with_set S k (planned (set_at S k) x y)) ≡ put w (record_at k + 1) (x ∷ y ∷ [])
  over-planned x y = over-restated (planned (set_at S k) x y) refl refl refl ∙ put-plan x y (decode-set w S d k lt).here

  pub over-marked : over w (with_set S k (marked (set_at S k))) ≡ put w (record_at k + 3) (1 ∷ [])
  over-marked = over-restated (marked (set_at S k)) refl refl refl ∙ put_last 1 (decode-set w S d k lt).here
