-- Words that hold a state (`Whole`): header, records and lists, and the tags and indexes. `decode` gives the state exactly there. SetsWritten over words that are long enough a state is
-- held by them; and where it is held, to write it changes nothing. Assumes nothing.
use mathlib.Core.Path.{◌≡◌, refl, sym, ap, ◌∙◌, subst}
use mathlib.Core.Bool.{Bool, true, false, cond}
use mathlib.Core.List.{List, [], ◌∷◌}
use Prim.Native.Nat.{ℕ, suc, ◌+◌, ◌*◌, ◌≤◌, ◌<◌}
use native.Mathlib.Nat.{zero-add}
use native.Mathlib.Omega.{arith}
use lib.ListN.{length, get_or}
use Rattle.nodes.specs.Words.{put, Has, place}
use Rattle.nodes.proofs.Has.{has-at}
use Rattle.pool_state.specs.States.{SetState, State, held, used, indexed_of, is_state}
use Rattle.pool_state.specs.Decode.{record_at, base, node_words, over_sets, over_indexes, least_of, indexes_at, over, Decoded, damaged, sound, form_in, is_header, are_indexes, where_indexed, read_pool, decode}
use Rattle.pool_state.proofs.Kept.{spot_l-one}
use Rattle.pool_state.proofs.Claims.{is_state-sets, is_state-claimed, used-claimed}
use Rattle.pool_state.proofs.Holds.{record_of, Records, node_words-few}
use Rattle.pool_state.proofs.Encoded.{header_of, Sound, sound-header, sound-reads, reads-sound, length-over_sets, SetsWritten, over_sets-written, sound-same}
use Rattle.pool_state.proofs.Indexed.{has-keep, Indexes, are_indexes-count, indexes-count, are_indexes-is, is-are_indexes, indexes-same, length-over_indexes, Beside, get_or-over_indexes, over_indexes-has, indexes-tagged, indexed-few}

pub record Whole (w : List ℕ) (S : State) : Type 0 where
  pub plain : Sound w S
  pub indexes : Indexes w (indexes_at S) 0 0 S.sets

-- the header of words is that of the state
pub record HeaderOf (w : List ℕ) (S : State) : Type 0 where
  pub known : is_header w ≡ true
  pub form : form_in w ≡ S.form
  pub family : get_or w 1 0 ≡ S.family
  pub sets : get_or w 2 0 ≡ length S.sets
  pub nodes : get_or w 3 0 ≡ S.nodes
  pub indexed : get_or w 4 0 ≡ indexed_of S.sets
  pub long : least_of S ≤ length w

module _ {w : List ℕ} {S : State} (h : Whole w S) where
  whole-count : get_or w 4 0 ≡ indexed_of S.sets
  whole-count = indexes-count w (indexes_at S) 0 0 S.sets h.indexes ∙ zero-add (indexed_of S.sets)

  pub whole-header : HeaderOf w S
  whole-header =
      let g = sound-header h.plain in
      record { known = g.known; form = g.form; family = g.family; sets = g.sets; nodes = g.nodes; indexed = whole-count; long = rw (← whole-count) h.plain.long }

  pub whole-decode : decode w ≡ sound S
  unfolding decode
  whole-decode = rw (sound-reads h.plain, is-are_indexes w (indexes_at S) 0 0 S.sets h.indexes)

-- and what is decoded they hold.
never : (S : State) → damaged ≡ sound S → ⊥
never S e = let z : ◌≡◌ {A = ℕ} 0 1 = cc in omega arith

sound-whole : {w : List ℕ} {S : State} → Sound w S → are_indexes w (indexes_at S) 0 0 S.sets ≡ true → Whole w S
sound-whole {w} {S} h e =
    let c = are_indexes-count w (indexes_at S) 0 0 S.sets e in
    record { plain = h; indexes = are_indexes-is w (indexes_at S) 0 0 S.sets (omega (arith, h.long)) (omega (arith, h.long)) (omega (arith, h.long, c)) e }

pub decode-whole : (w : List ℕ) (S : State) → decode w ≡ sound S → Whole w S
unfolding decode
decode-whole w S e = go (read_pool w) refl e
  where
    fit : (T : State) (c : Bool) → (c ≡ true → Whole w T) → cond c (sound T) damaged ≡ sound S → Whole w S
    fit T false k d = absurd (never S d)
    fit T true k d = let z : T ≡ S = cc in subst (λ (U : State). Whole w U) z (k refl)

    go : (r : Decoded) → read_pool w ≡ r → where_indexed w r ≡ sound S → Whole w S
    go damaged q d = absurd (never S d)
    go (sound T) q d = fit T (are_indexes w (indexes_at T) 0 0 T.sets) (sound-whole (reads-sound w T q)) d

-- A state written over words that are long enough is held,
pub length_over : (w : List ℕ) (S : State) → length (over w S) ≡ length w
unfolding over
length_over w S = length-over_indexes (over_sets w S) (indexes_at S) 0 0 S.sets ∙ length-over_sets w S

records-keep : (u w : List ℕ) (s i : ℕ) (xs : List SetState) → length u ≡ length w
    → ((t a : ℕ) → s ≤ t → t < s + length xs → a < 4 → get_or u (record_at t + a) 0 ≡ get_or w (record_at t + a) 0) → Records w s i xs → Records u s i xs
records-keep u w s i [] e f h = tt
records-keep u w s i (x ∷ xs) e f h =
    (has-keep e (λ k lt. f s k (omega arith) (omega arith) lt) h.0, records-keep u w (s + 1) (i + held x) xs e (λ t a b c d. f t a (omega arith) (omega arith) d) h.1)

pub over-whole : (w : List ℕ) (S : State) → is_state S ≡ true → least_of S ≤ length w → Whole (over w S) S
unfolding over
over-whole w S e le =
    let u = over_sets w S in
    let m = indexes_at S in
    let v = over_indexes u m 0 0 S.sets in
    let n = length-over_sets w S in
    let h = over_sets-written w S e (omega arith) in
    let g = over_indexes-has u m 0 0 S.sets (omega arith) (omega arith) in
    let c = indexes-count v m 0 0 S.sets g in
    let l = length-over_indexes u m 0 0 S.sets in
    let r = node_words-few S.form S.family S.sets (is_state-sets S e) in
    let few = used-claimed S.sets in
    let all = is_state-claimed S e in
    let at : (k : ℕ) → Beside 0 (length S.sets) k → k < m + 256 * 0 → get_or v k 0 ≡ get_or u k 0 = get_or-over_indexes u m 0 0 S.sets in
    record {
      plain = record {
        state = e;
        few = omega (arith, indexed-few S.sets);
        long = omega arith;
        header = has-keep l (λ k lt. at (0 + k) (omega arith, λ t a b. omega arith) (omega arith)) h.header;
        form = has-keep l (λ k lt. at (5 + k) (omega arith, λ t a b. omega arith) (omega arith)) h.form;
        holds = record {
          rules = is_state-sets S e;
          records = records-keep v u 0 1 S.sets l (λ t a x y z. at (record_at t + a) (omega arith, λ i b d. omega arith) (omega arith)) h.records;
          tags = indexes-tagged v m 0 0 S.sets g;
          nodes = has-at (sym (spot_l-one S.form S.family _)) (has-keep l (λ k lt. at (base (length S.sets) + k) (omega arith, λ t a b. omega arith) (omega arith)) h.nodes);
          within = omega arith;
        };
      };
      indexes = g;
    }

-- and to write over words the state that they hold changes nothing.
pub whole-over : {w : List ℕ} {S : State} → Whole w S → over w S ≡ w
unfolding over
whole-over {w} {S} h = rw (sound-same h.plain) (indexes-same w (indexes_at S) 0 0 S.sets h.indexes)
