-- A network into the list of a set, or out of it, in either form: the changed trie lists the new list, so its nodes and words are the list's; where the trie
-- stands, and what writing it asks. Assumes nothing.
use mathlib.Core.Path.{◌≡◌, refl, sym, ap, ◌∙◌}
use mathlib.Core.Bool.{Bool, true, false}
use mathlib.Core.List.{List, [], ◌++◌}
use Prim.Native.Nat.{ℕ, ◌+◌, ◌-◌, ◌*◌, ◌≤◌, ◌<◌}
use native.Mathlib.Omega.{arith}
use lib.ListN.{length, get_or}
use borrow.Author.Tests.{eqb-true, not-false}
use Rattle.nets.specs.Bits.{Bits}
use Rattle.nets.specs.Networks.{net_bits, net_from, refusal_of, has_bit_past, bits_left, cleared, entered, entered_as, no_entry}
use Rattle.nets.specs.Refusals.{first_no}
use Rattle.nets.specs.TrieOps.{remove_t}
use Rattle.nets.specs.Tries.{Trie, size, list_of}
use Rattle.nets.specs.declared.Net.{Net}
use Rattle.nets.specs.declared.PrefixBits.{PrefixBits}
use Rattle.nets.specs.declared.Refusal.{Refusal}
use Rattle.nets.proofs.Answers.{number-some, answered-granted}
use Rattle.nets.proofs.Adding.{list_of-insert}
use Rattle.nets.proofs.Removing.{list_of-remove}
use Rattle.nets.proofs.Handing.{length-bits_left}
use Rattle.nets.proofs.Numbers.{width-le}
use Rattle.nets.proofs.Refused.{first_no-zero}
use Rattle.nodes.specs.Words.{put}
use Rattle.nodes.specs.Segments.{Segment, Spliced}
use Rattle.nodes.specs.declared.seats.Seat.{Seat}
use Rattle.nodes.proofs.Has.{has-at, has_join}
use Rattle.trie_insert.specs.Insert.{Held, InsertSize, Insertable, Inserted}
use Rattle.trie_remove.specs.Removal.{begin, Removable}
use Rattle.trie_remove.proofs.Splices.{left-root}
use Rattle.branch_points.specs.KeptTries.{kept_size}
use Rattle.branch_points.proofs.Sizes.{size-deep}
use Rattle.branch_points.proofs.Counts.{kept_size-le}
use Rattle.kept_nodes.specs.Words.{stride, kept_enc, spot}
use Rattle.kept_nodes.proofs.Places.{length-kept_enc}
use Rattle.kept_steps.specs.Segments.{KeptSegment, KeptSpliced}
use Rattle.kept_plan.specs.Change.{change_t, Way, Changes}
use Rattle.pool_state.specs.Kept.{held_l}
use Rattle.pool_state.specs.States.{State, held, used, room_of}
use Rattle.pool_state.specs.Decode.{base, sound, decode}
use Rattle.pool_state.specs.Rules.{seat_of}
use Rattle.pool_state.specs.Changes.{set_at, net_rules}
use Rattle.pool_state.specs.Steps.{behind_at, stride_in, spot_in, enc_in}
use Rattle.pool_state.specs.declared.Survey.{Survey}
use Rattle.pool_state.proofs.Claims.{claimed_but-is, is_state-claimed}
use Rattle.pool_state.proofs.Leaves.{net_rules-within}
use Rattle.pool_state.proofs.Seen.{Seen, place_of, behind, seen, seen_as, seen-state, seen-header, seen-figures, words_l, stride_s, stride_in-is, spot_in-on, behind_at-is, behind-has, behind-length}
use Rattle.pool_state.proofs.Changed.{with_words, used-but}
use Rattle.pool_state.proofs.OnTries.{trie_at, form-first, form-second, seen-list, seen_size, seen-segment, held-list_of, words-list_of, trie-words, shift-trie}
use Rattle.pool_state.proofs.OnKept.{kept-stride, kept-spot, kept-room, kept-words, kept-held, kept-size, kept_at}
use Rattle.change_ask.proofs.Listed.{enc_in-is}
use Rattle.change_ask.specs.Steps.{Ready}
use Rattle.change_edit.specs.Steps.{list_by, Counts, Edits, Edited}
use Rattle.kept_change.proofs.Whole.{made-le}
use Rattle.std.specs.Prelude.{Result, Ok, Err}

-- a network that is right is one of the pool's family
right-net : (n : Net) (S : State) → first_no (net_rules n S) ≡ 0 → (n.family ≡ S.family) × (refusal_of n ≡ 0)
unfolding net_rules
right-net n S e =
    let c = first_no-zero (net_rules n S) e in
    (eqb-true n.family S.family (not-false _ c.0), eqb-true (refusal_of n) 0 (not-false _ c.1.0))

module _ {w : List ℕ} {k : ℕ} {n : Net} {v : Survey} {s : PrefixBits} (h : Ready w k n v s) (x : Bool) (S : State) (d : decode w ≡ sound S) where
  abbrev r : Bits
  r = bits_left s

  abbrev old : Trie
  old = trie_at S k

  abbrev made : Trie
  made = change_t x r old

  g : Seen w S k v
  g = seen_as h.surveyed S d

  made_list : list_of made ≡ list_by x k n S
  made_list = go x
    where
      go : (x : Bool) → list_of (change_t x r old) ≡ list_by x k n S
      go true = list_of-insert r old ∙ rw (seen-list g, h.bits)
      go false = list_of-remove r old ∙ rw (seen-list g, h.bits)

  -- the words of the contract are those of the state
  pub words_are : put w (spot_in w v.at) (enc_in w (list_by x k n S) ++ behind_at (stride_in w) w (base (get_or w 2 0)) v) ≡ with_words w S k v (words_l S (list_by x k n S))
  words_are =
      let l = list_by x k n S in
      let b : behind_at (stride_in w) w (base (get_or w 2 0)) v ≡ behind S k = ap (λ z. behind_at z w (base (get_or w 2 0)) v) (stride_in-is g) ∙ behind_at-is g (behind-has g) in
      ap (λ y. put w (place_of w v) (y ++ behind_at (stride_in w) w (base (get_or w 2 0)) v)) (enc_in-is g l) ∙ ap (λ z. put w (place_of w v) (words_l S l ++ z)) b

  -- In the first form.
  module _ (e : get_or w 5 0 ≡ 0) where
    first-held : held_l (set_at S k).form (list_by x k n S) ≡ size made
    first-held = ap (held_l (set_at S k).form) (sym made_list) ∙ held-list_of g (form-first g e) made

    first-few : size made < 4294967296
    first-few =
        let f = seen-figures g in
        omega (arith, made-le x r old, length-bits_left s h.few, h.few, seen_size g (form-first g e), f.held, f.claimed, f.nodes)

    module _ {t : Seat} (q : t ≡ seat_of w v) where
      first-stands : Segment w t.base t.first t.end (v.used + 1) old (behind S k)
      first-stands = rw q (seen-segment g (form-first g e))

      first-room : held_l (set_at S k).form (list_by x k n S) ≤ room_of S k → t.base + (v.used + 1 - 1) + size made ≤ length w + size old
      first-room le =
          let y = shift-trie g (form-first g e) {u = w} le refl in
          rw q (omega (arith, y.first, y.last, y.room, first-held, seen_size g (form-first g e)))

      first-wrote : {u : List ℕ} {z : ℕ} → Spliced w u t.base t.first z made (behind S k)
          → u ≡ put w (spot_in w v.at) (enc_in w (list_by x k n S) ++ behind_at (stride_in w) w (base (get_or w 2 0)) v)
      first-wrote y =
          (rw q at y.wrote) ∙ trie-words g (form-first g e) made ∙ ap (with_words w S k v) (sym (words-list_of g (form-first g e) made) ∙ ap (words_l S) made_list) ∙ sym words_are

  -- In the second.
  module _ (e : get_or w 5 0 ≡ 0 → ⊥) where
    second-held : held_l (set_at S k).form (list_by x k n S) ≡ kept_size made
    second-held = ap (held_l (set_at S k).form) (sym made_list) ∙ kept-held g (form-second g e) made

    second-few : kept_size made < 4294967296
    second-few =
        let f = seen-figures g in
        let y = kept_at g (form-second g e) in
        omega (
          arith,
          kept_size-le made,
          made-le x r old,
          size-deep old 129 (omega (arith, y.deep, width-le (get_or w 1 0))),
          length-bits_left s h.few,
          h.few,
          kept-size g (form-second g e),
          f.held,
          f.claimed,
          f.nodes,
        )

    second-behind : spot (get_or w 1 0) (base (get_or w 2 0)) v.at + length (kept_enc (get_or w 1 0) [] old) ≡ spot_in w (v.at + v.held)
    second-behind =
        let F = form-second g e in
        let a : stride_s S ≡ stride (get_or w 1 0) = kept-stride g F ∙ ap stride (sym (seen-header g).family) in
        rw (← kept-spot g F v.at, length-kept_enc (get_or w 1 0) [] old, kept-size g F, ← a) (spot_in-on g v.held)

    second-here : KeptSegment (get_or w 1 0) w (base (get_or w 2 0)) (get_or w 3 0) v.at (v.at + v.held) (v.used + 1) [] old (behind S k)
    second-here =
        let F = form-second g e in
        let f = seen-figures g in
        record {
          room = kept-room g F;
          has = has_join _ _ (kept_at g F).has (has-at (sym second-behind) (behind-has g));
          deep = (kept_at g F).deep;
          one = f.first;
          end = omega (arith, kept-size g F);
          tail = f.last;
          used = behind-length g ∙ ap (λ z. z * (v.used + 1 - (v.at + v.held))) (kept-stride g F ∙ ap stride (sym (seen-header g).family));
          last = omega (arith, f.used, f.claimed);
        }

    module _ {t : Seat} (q : t ≡ seat_of w v) {p : Net} (c : p ≡ cleared n) where
      second-stands : KeptSegment t.family w t.base (get_or w 3 0) t.first t.end (v.used + 1) [] old (behind S k)
      second-stands = rw q second-here

      second_way : Way t.family [] r p
      unfolding cleared
      second_way =
          let y = right-net n S (h.right S d) in
          let z = (seen-header g).family in
          rw q (record {
            family = (kept-room g (form-second g e)).family;
            net = c ∙ ap (λ f. net_from f (net_bits n)) (y.0 ∙ sym z) ∙ ap (net_from (get_or w 1 0)) (sym h.bits);
            short = rw (z, h.bits) (net_rules-within n S (h.right S d));
          })

      second-changes : held_l (set_at S k).form (list_by x k n S) ≤ room_of S k
          → Changes t.family w t.base (get_or w 3 0) t.first t.end (v.used + 1) [] r p x old (behind S k)
      second-changes le = record {
        here = second-stands;
        way = second_way;
        fits = omega (
          arith,
          second-held,
          kept-size g (form-second g e),
          used-but k S.sets g.known,
          g.used,
          g.held,
          (seen-header g).nodes,
          claimed_but-is k S.sets g.known,
          is_state-claimed S (seen-state g),
        );
      }

      second-wrote : {u : List ℕ} {z : ℕ} → KeptSpliced t.family w u t.base t.first z [] made (behind S k)
          → u ≡ put w (spot_in w v.at) (enc_in w (list_by x k n S) ++ behind_at (stride_in w) w (base (get_or w 2 0)) v)
      second-wrote y =
          let F = form-second g e in
          let a : kept_enc (get_or w 1 0) [] made ≡ words_l S (list_by x k n S) =
          ap (λ f. kept_enc f [] made) (seen-header g).family ∙ sym (kept-words g F made) ∙ ap (words_l S) made_list in
          (rw q at y.wrote) ∙ ap (λ p. put w p (kept_enc (get_or w 1 0) [] made ++ behind S k)) (sym (kept-spot g F v.at)) ∙ ap (with_words w S k v) a ∙ sym words_are

-- The network with the bits past its length cleared.
pub entered-network : (n : Net) (r : Result (Net × Bool) Refusal) → entered_as r ≡ entered n → (m : Net) (b : Bool) → r ≡ Ok (m, b) → m ≡ cleared n
entered-network n r e m b q = ap (λ p. p.0) (answered-granted (refusal_of n) no_entry (cleared n, has_bit_past n) (m, b) (sym (ap entered_as q) ∙ e)).1

pub entered-refused : (n : Net) → refusal_of n ≡ 0 → (r : Result (Net × Bool) Refusal) → entered_as r ≡ entered n → (x : Refusal) → r ≡ Err x → ⊥
entered-refused n z r e x q = number-some x (ap (λ p. p.0) (sym (ap entered_as q) ∙ e) ∙ z)

module _ {w : List ℕ} {k : ℕ} {n : Net} {v : Survey} {s : PrefixBits} (h : Ready w k n v s) where
  abbrev S : State
  S = (seen h.surveyed).0

  d : decode w ≡ sound S
  d = (seen h.surveyed).1.decoded

  pub right-refusal : refusal_of n ≡ 0
  right-refusal = (right-net n S (h.right S d)).1

  -- the nodes, in the first form
  module _ (e : get_or w 5 0 ≡ 0) {t : Seat} (q : t ≡ seat_of w v) where
    pub first-asks : Held w t.base t.first t.end
    first-asks = record { t = trie_at S k; rest = behind S k; u = v.used + 1; stands = first-stands h true S d e q }

    module _ {x : Bool} {m : ℕ} where
      first-counts : ((y : Trie) (rest : List ℕ) (u : ℕ) → Segment w t.base t.first t.end u y rest → m ≡ size (change_t x (bits_left s) y)) → Counts w k x n m
      first-counts c = record { nodes = λ S d. first-held h x S d e ∙ sym (c (trie_at S k) (behind S k) (v.used + 1) (first-stands h x S d e q)) }

      pub counts-in : x ≡ true → InsertSize w t.base t.first t.end (bits_left s) m → Counts w k x n m
      counts-in z c = first-counts (λ y rest u g. c y rest u g ∙ ap (λ b. size (change_t b (bits_left s) y)) (sym z))

      pub counts-out : x ≡ false → ((y : Trie) (rest : List ℕ) (u : ℕ) → Segment w t.base t.first t.end u y rest → m ≡ size (remove_t (bits_left s) y)) → Counts w k x n m
      counts-out z c = first-counts (λ y rest u g. c y rest u g ∙ ap (λ b. size (change_t b (bits_left s) y)) (sym z))

      pub first_small : Counts w k x n m → m < 4294967296
      first_small c = omega (arith, c.nodes S d, first-held h x S d e, first-few h x S d e)

  -- and in the second
  module _ (e : get_or w 5 0 ≡ 0 → ⊥) {t : Seat} (q : t ≡ seat_of w v) {p : Net} (c : p ≡ cleared n) where
    pub second-asks : (u : ℕ) × (a : Bits) × (r : Bits) × (y : Trie) × (rest : List ℕ) × KeptSegment t.family w t.base (get_or w 3 0) t.first t.end u a y rest
        × Way t.family a r p × (length a ≡ 0)
    second-asks = (v.used + 1, [], bits_left s, trie_at S k, behind S k, second-stands h true S d e q c, second_way h true S d e q c, refl)

    module _ (x : Bool) {m : ℕ} (o : (u : ℕ) (a r : Bits) (y : Trie) (rest : List ℕ) → KeptSegment t.family w t.base (get_or w 3 0) t.first t.end u a y rest
        → Way t.family a r p → length a ≡ 0 → m ≡ kept_size (change_t x r y)) where
      pub second-counts : Counts w k x n m
      second-counts = record {
        nodes = λ S d. second-held h x S d e
            ∙ sym (o (v.used + 1) [] (bits_left s) (trie_at S k) (behind S k) (second-stands h x S d e q c) (second_way h x S d e q c) refl);
      }

      pub second-small : m < 4294967296
      second-small = omega (arith, second-counts.nodes S d, second-held h x S d e, second-few h x S d e)

-- The words, in the first form and in the second.
module _ {w : List ℕ} {k : ℕ} {x : Bool} {n : Net} {v : Survey} {s : PrefixBits} (g : Edits w k x n v s) where
  abbrev h : Ready w k n v s
  h = g.ready

  module _ (e : get_or w 5 0 ≡ 0) {t : Seat} (q : t ≡ seat_of w v) where
    room_by : (y : Bool) → x ≡ y → t.base + (v.used + 1 - 1) + size (change_t y (bits_left s) (trie_at (S h) k)) ≤ length w + size (trie_at (S h) k)
    room_by y z = omega (arith, first-room h x (S h) (d h) e q (g.fits (S h) (d h)), ap (λ b. size (change_t b (bits_left s) (trie_at (S h) k))) z)

    pub insertable : x ≡ true → Insertable w t.base t.first t.end (v.used + 1) (bits_left s)
    insertable z = record { t = trie_at (S h) k; rest = behind (S h) k; stands = first-stands h x (S h) (d h) e q; room = room_by true z }

    pub removable : x ≡ false → Removable w t.base t.first t.first t.end (v.used + 1) (bits_left s)
    removable z =
        let y = first-stands h x (S h) (d h) e q in
        record { t = trie_at (S h) k; rest = behind (S h) k; here = y; one = y.one; above = omega arith; room = room_by false z }

    module _ {u : List ℕ} {i : ℕ} where
      first-edited : ((y : Trie) (rest : List ℕ) → Segment w t.base t.first t.end (v.used + 1) y rest → Spliced w u t.base t.first i (change_t x (bits_left s) y) rest)
          → Edited w k x n v u
      first-edited c = record { words = λ S d. first-wrote h x S d e q (c (trie_at S k) (behind S k) (first-stands h x S d e q)) }

      pub edited-in : x ≡ true → Inserted w u t.base t.first t.end (v.used + 1) (bits_left s) i → Edited w k x n v u
      edited-in z c = first-edited (λ y rest o. rw z (c y rest o))

      pub edited-out : x ≡ false → ((y : Trie) (rest : List ℕ) → Segment w t.base t.first t.end (v.used + 1) y rest
          → Spliced w u t.base (begin t.first t.first (remove_t (bits_left s) y)) i (remove_t (bits_left s) y) rest) → Edited w k x n v u
      edited-out z c = first-edited (λ y rest o. rw z (left-root t.first (c y rest o)))

  module _ (e : get_or w 5 0 ≡ 0 → ⊥) {t : Seat} (q : t ≡ seat_of w v) {p : Net} (c : p ≡ cleared n) {o : Net} (a : o ≡ net_from t.family []) where
    pub change-asks : (b : Bits) × (r : Bits) × (y : Trie) × (rest : List ℕ) × (o ≡ net_from t.family b)
        × Changes t.family w t.base (get_or w 3 0) t.first t.end (v.used + 1) b r p x y rest
    change-asks = ([], bits_left s, trie_at (S h) k, behind (S h) k, a, second-changes h x (S h) (d h) e q c (g.fits (S h) (d h)))

    pub second-edited : {u : List ℕ} {z : ℕ}
        → ((b r : Bits) (y : Trie) (rest : List ℕ) → o ≡ net_from t.family b → Changes t.family w t.base (get_or w 3 0) t.first t.end (v.used + 1) b r p x y rest
        → KeptSpliced t.family w u t.base t.first z b (change_t x r y) rest) → Edited w k x n v u
    second-edited f = record {
      words = λ S d. second-wrote h x S d e q c (f [] (bits_left s) (trie_at S k) (behind S k) a (second-changes h x S d e q c (g.fits S d)));
    }
