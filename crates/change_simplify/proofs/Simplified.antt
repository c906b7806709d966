-- Simplifying a set: the steps of the call, a law for each return, and what the contract says of every buffer. The result has no more nodes than the set, so it is never refused, it is written
-- where the set stands, and the sets behind it close up. Assumes nothing.
use mathlib.Core.Path.{◌≡◌, refl, sym, ap, ◌∙◌}
use mathlib.Core.Bool.{true}
use mathlib.Core.List.{List, []}
use Prim.Native.Nat.{ℕ, suc, ◌+◌, ◌-◌, ◌*◌, ◌≤◌, ◌<◌}
use native.Mathlib.Omega.{arith}
use lib.ListN.{length, get_or}
use borrow.Author.Tests.{le-ltb}
use Rattle.nets.specs.Bits.{Bits}
use Rattle.nets.specs.Lists.{is_list, simplify_l}
use Rattle.nets.specs.Tries.{Trie, size, trie_of, simplify_t}
use Rattle.nets.specs.Networks.{width}
use Rattle.nets.specs.Refusals.{number, first_no}
use Rattle.nets.specs.declared.Refusal.{Refusal}
use Rattle.nets.proofs.TrieOf.{is_list-within}
use Rattle.nets.proofs.Simplifying.{is_list-simplify}
use Rattle.nodes.specs.Words.{put, place, enc}
use Rattle.nodes.specs.declared.seats.Seat.{Seat}
use Rattle.nodes.proofs.Put.{length-put}
use Rattle.nodes.proofs.Segments.{segment-fit}
use Rattle.trie_emit.specs.Answers.{body, Emits, end_of, rest_of}
use Rattle.trie_blocks.specs.Simplify.{Source}
use Rattle.trie_emit.specs.declared.emitting.Emitted.{Emitted}
use Rattle.trie_emit.specs.declared.emitting.Emitted.TheVariants.{Full}
use Rattle.trie_emit.proofs.Answers.{end_is, full_size, settled}
use Rattle.trie_blocks.proofs.Simplify.{size-simplify}
use Rattle.branch_points.specs.KeptTries.{kept_size}
use Rattle.kept_nodes.specs.Words.{kept_enc, spot}
use Rattle.kept_nodes.specs.Parse.{KeptRoom, KeptStands}
use Rattle.kept_simplify.proofs.Tops.{kept_size-simplify}
use Rattle.pool_state.specs.Kept.{Form, first, second, held_l}
use Rattle.pool_state.specs.States.{State, held, room_of, is_state}
use Rattle.pool_state.specs.Decode.{base, sound, decode}
use Rattle.pool_state.specs.Rules.{answer_on, answer_as, seat_of}
use Rattle.pool_state.specs.Changes.{set_at, list_at, with_set, change_rule, set_with, grant_rules, relist_rules, relist_set, relist_no}
use Rattle.pool_state.specs.Steps.{Refuses, Surveyed, spot_by, behind_at, Shiftable, Settle, Settled, stride_in, spot_in, enc_in}
use Rattle.pool_state.specs.declared.Survey.{Survey}
use Rattle.pool_state.proofs.Kept.{held_l-list_of, held_l-kept_of, size-trie_of, kept_size-trie_of}
use Rattle.pool_state.proofs.Determined.{changed-one}
use Rattle.pool_state.proofs.Leaves.{RelistLeaves, relist-leaves}
use Rattle.pool_state.proofs.WithSet.{claim-room_of}
use Rattle.pool_state.proofs.Claims.{is_list-list_at, held-limit}
use Rattle.pool_state.proofs.Decoded.{decode-state}
use Rattle.pool_state.proofs.Judged.{relist_no-known}
use Rattle.pool_state.proofs.Seen.{Seen, place_of, behind, seen_as, seen-state, seen-header, seen-figures, words_l, stride_s, stride_in-is}
use Rattle.pool_state.proofs.Changed.{settle-asks, shift-asks, with_words, words_last}
use Rattle.pool_state.proofs.Returns.{change-seat, changed, relist-granted}
use Rattle.pool_state.proofs.OnTries.{decode-at, trie_at, form-first, form-second, seen-segment, spot_in-first, words-list_of, held-list_of}
use Rattle.pool_state.proofs.OnKept.{kept_at, kept-room, kept-size, kept-held, kept-words, kept-spot}
use Rattle.change_ask.proofs.Admitted.{admits-simplify}
use Rattle.change_ask.proofs.Listed.{enc_in-is, list-long, list-trie}
use Rattle.change_simplify.specs.Simplified.{list_simple, no_args, Simplifies, Shrunk, ShrunkTrie}
use Rattle.std.specs.Prelude.{Result}

-- The trie is simplified where it stands, and a leaf that the emission left is written.
module _ {w u : List ℕ} {b i e fuel : ℕ} {t : Trie} {x : Emitted} (g : Source w b i e i fuel t) (d : Emits w u b i x (simplify_t t)) where
  pub settle-fits : x ≡ Full → place b i < length u
  settle-fits q =
      let same : length u ≡ length w = ap length d.wrote ∙ length-put w (place b i) (body (simplify_t t)) in
      omega (arith, full_size x (simplify_t t) i d.answers q, size-simplify t, segment-fit g.here)

  module _ {m : ℕ} (q : m ≡ end_of x i) where
    end-simple : m ≡ i + size (simplify_t t)
    end-simple = q ∙ end_is x (simplify_t t) i d.answers

    pub end_fits : (i ≤ m) × (m ≤ 1073741824)
    end_fits = omega (arith, end-simple, size-simplify t, segment-fit g.here)

    pub shrunk : {v : List ℕ} → v ≡ put u (place b i) (rest_of x) → ShrunkTrie w v b i t (m - i)
    shrunk p = record { nodes = omega (arith, end-simple); wrote = settled d p }

-- The result has no more nodes than the set, in either form: it is within the limit and the room.
held_l-simplify : (F : Form) (d : ℕ) (l : List Bits) → is_list d l ≡ true → held_l F (simplify_l l) ≤ held_l F l
unfolding simplify_l
held_l-simplify first d l e = omega (arith, held_l-list_of (simplify_t (trie_of l)), size-simplify (trie_of l), size-trie_of d l e)
held_l-simplify second d l e = omega (arith, held_l-kept_of (simplify_t (trie_of l)), kept_size-simplify (trie_of l), kept_size-trie_of d l e)

simple-list : (S : State) (k : ℕ) → is_state S ≡ true → is_list (width S.family) (list_simple k S) ≡ true
simple-list S k e = let f = width S.family in is_list-simplify f (list_at S k) (is_list-within f (list_at S k) (is_list-list_at S k e))

module _ (w : List ℕ) (S : State) (k : ℕ) (d : decode w ≡ sound S) (lt : k < length S.sets) where
  fewer : held_l (set_at S k).form (list_simple k S) ≤ held (set_at S k)
  fewer = held_l-simplify (set_at S k).form (width S.family) (list_at S k) (is_list-list_at S k (decode-state w S d))

  in-limit : held_l (set_at S k).form (list_simple k S) ≤ (set_at S k).limit
  in-limit = omega (arith, fewer, held-limit S k (decode-state w S d))

  in-room : held_l (set_at S k).form (list_simple k S) ≤ room_of S k
  in-room = omega (arith, fewer, claim-room_of S k (decode-state w S d) lt)

  -- never refused for the mark, the limit or the room
  grant-simplify : first_no (grant_rules S k (list_simple k S)) ≡ 0
  grant-simplify =
      let m = held_l (set_at S k).form (list_simple k S) in
      rw (admits-simplify S k (decode-state w S d), le-ltb (set_at S k).limit m in-limit, le-ltb (room_of S k) m in-room)

  pub relist_no-simplify : relist_no S k [] (simplify_l (list_at S k)) ≡ 0
  relist_no-simplify = relist_no-known S k [] (simplify_l (list_at S k)) lt ∙ grant-simplify

-- In either form the trie of the set is simplified where it stands, so the words are those of the simplified list.
module _ {w : List ℕ} {S : State} {k : ℕ} {v : Survey} (h : Seen w S k v) {t : Seat} (q : t ≡ seat_of w v) where
  abbrev simple : Trie
  simple = simplify_t (trie_at S k)

  module _ (e : get_or w 5 0 ≡ 0) where
    pub seen-source : {fuel : ℕ} → fuel ≡ suc (width t.family) → Source w t.base v.at (v.at + v.held) v.at fuel (trie_at S k)
    seen-source z =
        record {
          u = v.used + 1;
          rest = behind S k;
          here = rw q (seen-segment h (form-first h e));
          one = (seen-figures h).first;
          behind = omega arith;
          deep = rw (z, q, (seen-header h).family) (decode-at w S h.decoded (form-first h e) k h.known).deep;
        }

    module _ {u : List ℕ} {n : ℕ} (s : ShrunkTrie w u t.base v.at (trie_at S k) n) where
      first-nodes : held_l (set_at S k).form (list_simple k S) ≡ n
      unfolding simplify_l
      first-nodes = held-list_of h (form-first h e) simple ∙ sym s.nodes

      first-words : u ≡ put w (spot_in w v.at) (enc_in w (list_simple k S))
      unfolding simplify_l
      first-words =
          (rw q at s.wrote) ∙ ap (λ p. put w p (enc simple)) (sym (spot_in-first h (form-first h e) v.at))
          ∙ ap (put w (place_of w v)) (sym (words-list_of h (form-first h e) simple) ∙ sym (enc_in-is h (list_simple k S)))

  module _ (e : get_or w 5 0 ≡ 0 → ⊥) where
    pub simplify-asks : KeptRoom t.family w t.base (get_or w 3 0) × (1 ≤ t.first)
        × ((p : Bits) × (y : Trie) × KeptStands t.family w t.base (get_or w 3 0) p t.first y × (t.end ≡ t.first + kept_size y))
    simplify-asks =
        let F = form-second h e in
        rw q (kept-room h F, (seen-figures h).first, ([], trie_at S k, kept_at h F, ap (λ m. v.at + m) (sym (kept-size h F))))

    module _ {u : List ℕ} {n : ℕ} (s : (p : Bits) (y : Trie) → KeptStands t.family w t.base (get_or w 3 0) p t.first y → t.end ≡ t.first + kept_size y
        → (n ≡ kept_size (simplify_t y)) × (u ≡ put w (spot t.family t.base t.first) (kept_enc t.family p (simplify_t y)))) where
      second-shrunk : (n ≡ kept_size simple) × (u ≡ put w (spot (get_or w 1 0) (base (get_or w 2 0)) v.at) (kept_enc (get_or w 1 0) [] simple))
      second-shrunk =
          let F = form-second h e in
          (rw q at s) [] (trie_at S k) (kept_at h F) (ap (λ m. v.at + m) (sym (kept-size h F)))

      pub simplify-few : n ≤ 4194304
      simplify-few = let f = seen-figures h in omega (arith, second-shrunk.0, kept_size-simplify (trie_at S k), kept-size h (form-second h e), f.held, f.claimed, f.nodes)

      second-nodes : held_l (set_at S k).form (list_simple k S) ≡ n
      unfolding simplify_l
      second-nodes = kept-held h (form-second h e) simple ∙ sym second-shrunk.0

      second-words : u ≡ put w (spot_in w v.at) (enc_in w (list_simple k S))
      unfolding simplify_l
      second-words =
          let F = form-second h e in
          second-shrunk.1 ∙ ap (λ p. put w p (kept_enc (get_or w 1 0) [] simple)) (sym (kept-spot h F v.at))
          ∙ ap (put w (place_of w v)) (ap (λ f. kept_enc f [] simple) (seen-header h).family ∙ sym (kept-words h F simple) ∙ sym (enc_in-is h (list_simple k S)))

module _ {w : List ℕ} {k : ℕ} {v : Survey} (g : Surveyed w k v) {t : Seat} (q : t ≡ seat_of w v) {u : List ℕ} {n : ℕ} where
  pub shrunk-first : get_or w 5 0 ≡ 0 → {fuel : ℕ} → fuel ≡ suc (width t.family)
      → ((y : Trie) → Source w t.base v.at (v.at + v.held) v.at fuel y → ShrunkTrie w u t.base v.at y n) → Shrunk w k v n u
  shrunk-first e z s = record {
    nodes = λ S d. let h = seen_as g S d in first-nodes h q e (s _ (seen-source h q e z));
    words = λ S d. let h = seen_as g S d in first-words h q e (s _ (seen-source h q e z));
  }

  pub shrunk-second : (get_or w 5 0 ≡ 0 → ⊥) → ((p : Bits) (y : Trie) → KeptStands t.family w t.base (get_or w 3 0) p t.first y → t.end ≡ t.first + kept_size y
      → (n ≡ kept_size (simplify_t y)) × (u ≡ put w (spot t.family t.base t.first) (kept_enc t.family p (simplify_t y)))) → Shrunk w k v n u
  shrunk-second e s = record { nodes = λ S d. second-nodes (seen_as g S d) q e s; words = λ S d. second-words (seen_as g S d) q e s }

-- The returns of the call.
pub return_refused : {w : List ℕ} {k : ℕ} (x : Refusal) → Refuses (decode w) k (number x) → Simplifies w k (number x, 0) w
return_refused {w} {k} x h = changed (change-seat no_args (list_simple k) w k h)

module _ {w : List ℕ} {S : State} {k : ℕ} {v : Survey} (h : Seen w S k v) {b s : ℕ} (o : b ≡ base (get_or w 2 0)) (i : s ≡ stride_in w) {u : List ℕ} {n : ℕ} (g : Shrunk w k v n u) where
  fits : n ≤ room_of S k
  fits = omega (arith, in-room w S k h.decoded h.known, g.nodes S h.decoded)

  simple-words : u ≡ put w (place_of w v) (words_l S (list_simple k S))
  simple-words = g.words S h.decoded ∙ ap (put w (place_of w v)) (enc_in-is h (list_simple k S))

  simple-length : length (words_l S (list_simple k S)) ≡ stride_s S * n
  simple-length = list-long h (list_simple k S) (simple-list S k (seen-state h)) (g.nodes S h.decoded)

  pub gap-closes : Shiftable s u b v n
  gap-closes = rw (i, o, stride_in-is h) (shift-asks h fits (ap length simple-words ∙ length-put w (place_of w v) (words_l S (list_simple k S))))

  module _ {x : List ℕ} (e : x ≡ put u (spot_by s b (v.at + n)) (behind_at s u b v)) where
    closed : x ≡ with_words w S k v (words_l S (list_simple k S))
    closed =
        words_last h (words_l S (list_simple k S)) n simple-length (omega (arith, fewer w S k h.decoded h.known, g.nodes S h.decoded, h.held)) simple-words
        (rw (i, o, stride_in-is h) at e)

    pub roots-move : Settle x k v.at v.held n
    roots-move = settle-asks h simple-length fits (list-trie h (list_simple k S) (simple-list S k (seen-state h)) (g.nodes S h.decoded)) closed

    pub return-granted : {a : ℕ × ℕ} {y : List ℕ} → (a ≡ (0, n)) × Settled x k v.at v.held n y → Simplifies w k a y
    return-granted q =
        changed (rw q.0 (relist-granted no_args (list_simple k) h refl (sym (grant-simplify w S k h.decoded h.known)) refl (g.nodes S h.decoded) simple-length closed q.1))

-- One outcome.
pub simplify-one : {w v u : List ℕ} {k : ℕ} {r s : (Result ℕ Refusal)} → Simplifies w k (answer_as r) v → Simplifies w k (answer_as s) u → (r ≡ s) × (v ≡ u)
simplify-one g h = changed-one g h

-- What is left of a sound pool: a call on a set that is there is granted, and leaves the state with the list simplified.
module _ {w v : List ℕ} {k : ℕ} {r : ℕ × ℕ} (h : Simplifies w k r v) where
  module _ (S : State) (d : decode w ≡ sound S) where
    pub simplify-granted : k < length S.sets → r ≡ (0, held_l (set_at S k).form (simplify_l (list_at S k)))
    unfolding change_rule answer_on relist_rules relist_set
    simplify-granted lt = h.answer ∙ rw (d, relist_no-simplify w S k d lt)

    pub simplify-leaves : RelistLeaves w S k [] (simplify_l (list_at S k)) r v
    simplify-leaves = relist-leaves no_args (list_simple k) d (λ z. simple-list S k (decode-state w S d)) h

    pub simplify-state : k < length S.sets → decode v ≡ sound (with_set S k (set_with (set_at S k) (simplify_l (list_at S k))))
    simplify-state lt = rw (relist_no-simplify w S k d lt) at simplify-leaves.leaves.holds
