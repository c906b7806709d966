-- A result in a pool of either form: its words and nodes, what stands in the seat of a set, and what counting and writing ask of it. Assumes nothing.
use mathlib.Core.Bool.{Bool, true, false}
use mathlib.Core.List.{List, [], ◌++◌, append-nil}
use mathlib.Core.Path.{◌≡◌, refl, sym, ap, ◌∙◌}
use Prim.Native.Nat.{ℕ, suc, ◌+◌, ◌-◌, ◌*◌, ◌≤◌}
use native.Mathlib.Nat.{one-mul}
use native.Mathlib.Omega.{arith}
use lib.ListN.{length, get_or}
use Rattle.nets.specs.Bits.{Bits}
use Rattle.nets.specs.Tries.{Trie, size, list_of, trie_of}
use Rattle.nodes.specs.Words.{put, place, enc, Has}
use Rattle.nodes.specs.Segments.{Segment}
use Rattle.nodes.specs.declared.seats.Seat.{Seat}
use Rattle.nodes.proofs.Has.{has-at}
use Rattle.nodes.proofs.Tries.{length-enc}
use Rattle.branch_points.specs.KeptTries.{kept_size}
use Rattle.branch_points.proofs.Counts.{kept_size-le}
use Rattle.kept_nodes.specs.Words.{stride, spot, kept_enc}
use Rattle.kept_nodes.proofs.Places.{length-kept_enc}
use Rattle.kept_steps.specs.Segments.{KeptSegment}
use Rattle.trie_pour.specs.Pour.{pour_t}
use Rattle.pool_state.specs.Kept.{Form, first, second, same_form, held_l, enc_l, stride_l, spot_l}
use Rattle.pool_state.specs.States.{State, room_of}
use Rattle.pool_state.specs.Decode.{base, form_in}
use Rattle.pool_state.specs.Rules.{seat_of}
use Rattle.pool_state.specs.Changes.{set_at, list_at}
use Rattle.pool_state.specs.declared.Survey.{Survey}
use Rattle.pool_state.proofs.Kept.{held_l-list_of, held_l-kept_of, enc_l-list_of, enc_l-kept_of, spot_l-first, spot_l-second, is-first, is-second}
use Rattle.pool_state.proofs.Claims.{indexable-at, indexable-first}
use Rattle.pool_state.proofs.Seen.{Seen, place_of, behind, words_l, stride_s, seen-state, seen-header, seen-form, seen-figures, own-form}
use Rattle.pool_state.proofs.Changed.{with_words, put_low, settle-asks}
use Rattle.pool_state.proofs.OnTries.{trie_at, seen-list, seen-segment, spot_in-first, words-list_of}
use Rattle.pool_state.proofs.OnKept.{kept-room, kept_at, kept-size, kept-spot, kept-words}
use Rattle.setfile_format.specs.Files.{file, read_file}
use Rattle.setfile_pour.specs.Pouring as tries
use Rattle.kept_pour.specs.Pouring as kept
use Rattle.change_many.specs.Steps.{SourcesIn, PoursIn, poured_of}

-- The words and nodes of a trie's list.
length-list_of : (F : Form) (f : ℕ) (t : Trie) → length (enc_l F f (list_of t)) ≡ stride_l F f * held_l F (list_of t)
unfolding stride_l
length-list_of first f t = ap length (enc_l-list_of t f) ∙ length-enc t ∙ sym (held_l-list_of t) ∙ sym (one-mul (held_l first (list_of t)))
length-list_of second f t = ap length (enc_l-kept_of t f) ∙ length-kept_enc f [] t ∙ ap (λ n. stride f * n) (sym (held_l-kept_of t))

pub held-few : (F : Form) (t : Trie) → held_l F (list_of t) ≤ size t
held-few first t = omega (arith, held_l-list_of t)
held-few second t = omega (arith, held_l-kept_of t, kept_size-le t)

-- Counting and writing, by the form.
module _ {w : List ℕ} {s : Seat} {d : List ℕ} {f : ℕ} {l : List Bits} {t : Trie} (g : SourcesIn w s d f l t) {r : Bool} (e : r ≡ same_form (form_in w) first) where
  pub sources-first : r ≡ true → tries.Sources w s.base s.first s.end d f l t
  sources-first q = g.first (is-first (form_in w) e q)

  pub sources-second : r ≡ false → kept.Sources f w s.base (get_or w 3 0) s.first s.end d l t
  sources-second q = g.second (is-second (form_in w) e q)

  module _ (x : Bool) {n : ℕ} where
    pub counts-first : r ≡ true → n ≡ size (pour_t x (trie_of l) t) → n ≡ held_l (form_in w) (poured_of x l t)
    counts-first q z = z ∙ sym (ap (λ F. held_l F (poured_of x l t)) (is-first (form_in w) e q) ∙ held_l-list_of (pour_t x (trie_of l) t))

    pub counts-second : r ≡ false → n ≡ kept_size (pour_t x (trie_of l) t) → n ≡ held_l (form_in w) (poured_of x l t)
    counts-second q z = z ∙ sym (ap (λ F. held_l F (poured_of x l t)) (is-second (form_in w) e q) ∙ held_l-kept_of (pour_t x (trie_of l) t))

module _ {w : List ℕ} {s : Seat} {g : ℕ} {d : List ℕ} {f : ℕ} {x : Bool} {l : List Bits} {t : Trie} (h : PoursIn w s g d f x l t) {r : Bool} (e : r ≡ same_form (form_in w) first) where
  abbrev poured_in : Form → List ℕ
  poured_in F = put w (spot_l F f s.base s.first) (enc_l F f (poured_of x l t))

  pub pours-first : r ≡ true → tries.Pours w s.base s.first s.end g d f x l t
  pours-first q = h.first (is-first (form_in w) e q)

  pub pours-second : r ≡ false → kept.Pours f w s.base (get_or w 3 0) s.first s.end g d x l t
  pours-second q = h.second (is-second (form_in w) e q)

  pub poured-first : r ≡ true → {y : List ℕ} → y ≡ put w (place s.base s.first) (enc (pour_t x (trie_of l) t)) → y ≡ poured_in (form_in w)
  poured-first q z =
      z
      ∙ sym (ap poured_in (is-first (form_in w) e q) ∙ ap (λ p. put w p (enc_l first f (poured_of x l t))) (spot_l-first f s.base s.first)
      ∙ ap (put w (place s.base s.first)) (enc_l-list_of (pour_t x (trie_of l) t) f))

  pub poured-second : r ≡ false → {y : List ℕ} → y ≡ put w (spot f s.base s.first) (kept_enc f [] (pour_t x (trie_of l) t)) → y ≡ poured_in (form_in w)
  poured-second q z =
      z
      ∙ sym (ap poured_in (is-second (form_in w) e q) ∙ ap (λ p. put w p (enc_l second f (poured_of x l t))) (spot_l-second f s.base s.first)
      ∙ ap (put w (spot f s.base s.first)) (enc_l-kept_of (pour_t x (trie_of l) t) f))

-- A result of n nodes.
module _ {w : List ℕ} {S : State} {k : ℕ} {v : Survey} (h : Seen w S k v) (t : Trie) {n : ℕ} (e : n ≡ held_l (form_in w) (list_of t)) where
  pub takes : held_l S.form (list_of t) ≡ n
  takes = ap (λ F. held_l F (list_of t)) (sym (seen-form h)) ∙ sym e

  pub words_long : length (words_l S (list_of t)) ≡ stride_s S * n
  words_long = length-list_of S.form S.family t ∙ ap (λ m. stride_s S * m) takes

  -- where the set is indexed, the pool is in the first form
  pub words-trie : (set_at S k).indexed ≡ true → (u : Trie) × (words_l S (list_of t) ≡ enc u) × (size u ≡ n)
  words-trie i =
      let F : S.form ≡ first = sym (own-form h) ∙ indexable-first (set_at S k) i (indexable-at S k (seen-state h)) in
      (t, ap (λ G. enc_l G S.family (list_of t)) F ∙ enc_l-list_of t S.family, sym (held_l-list_of t) ∙ ap (λ G. held_l G (list_of t)) (sym F) ∙ takes)

  pub words-within : n ≤ room_of S k → v.at + n ≤ suc (get_or w 3 0)
  words-within le =
      let xs = words_l S (list_of t) in
      let s = (settle-asks h {u = with_words w S k v xs} words_long le words-trie refl).index in
      omega (arith, s.within, put_low h (xs ++ behind S k) 3 (omega arith))

-- What stands in the seat of a set, in words u in which it is as it was.
pub record Still (w u : List ℕ) (S : State) (k : ℕ) (v : Survey) : Type 0 where
  pub long : length u ≡ length w
  pub form : form_in u ≡ form_in w
  pub nodes : get_or u 3 0 ≡ get_or w 3 0
  pub has : Has u (place_of w v) (words_l S (list_at S k))

module _ {w u : List ℕ} {S : State} {k : ℕ} {v : Survey} (h : Seen w S k v) (o : Still w u S k v) where
  abbrev b : ℕ
  b = base (get_or w 2 0)

  of-list : words_l S (list_at S k) ≡ words_l S (list_of (trie_at S k))
  of-list = ap (words_l S) (sym (seen-list h))

  in-tries : S.form ≡ first → Segment u b v.at (v.at + v.held) (v.at + v.held) (trie_at S k) []
  in-tries F =
      let s = seen-segment h F in
      let x : Has u (place b v.at) (enc (trie_at S k)) = rw (of-list ∙ words-list_of h F (trie_at S k)) at (has-at (spot_in-first h F v.at) o.has) in
      record { has = rw (append-nil (enc (trie_at S k))) x; one = s.one; end = s.end; used = omega arith; few = omega (arith, s.used, s.few); low = s.low }

  in_kept : S.form ≡ second → KeptSegment (get_or w 1 0) u b (get_or u 3 0) v.at (v.at + v.held) (v.at + v.held) [] (trie_at S k) []
  in_kept F =
      let r = kept-room h F in
      let s = kept_at h F in
      let z : v.at + v.held - (v.at + v.held) ≡ 0 = omega arith in
      let x : Has u (spot (get_or w 1 0) b v.at) (kept_enc (get_or w 1 0) [] (trie_at S k)) =
      rw (seen-header h).family (rw (of-list ∙ kept-words h F (trie_at S k), (seen-header h).family) at (has-at (kept-spot h F v.at) o.has)) in
      record {
        room = record { family = r.family; low = r.low; few = omega (arith, o.nodes, r.few); long = rw (o.nodes, o.long) r.long };
        has = rw (append-nil (kept_enc (get_or w 1 0) [] (trie_at S k))) x;
        deep = s.deep;
        one = (seen-figures h).first;
        end = omega (arith, kept-size h F);
        tail = omega arith;
        used = rw z (omega arith);
        last = omega (arith, o.nodes, s.within, kept-size h F);
      }

  long-enough : 64 ≤ length u
  long-enough = omega (arith, o.long, (seen-figures h).long)

  module _ {t : Seat} (q : t ≡ seat_of w v) {d : List ℕ} {f : ℕ} {l : List Bits} (reads : read_file d ≡ file f l) (own : f ≡ get_or w 1 0) where
    as-tries : form_in u ≡ first → tries.Sources u b v.at (v.at + v.held) d f l (trie_at S k)
    as-tries e = record { here = in-tries (sym (seen-form h) ∙ sym o.form ∙ e); reads = reads }

    as-kept : form_in u ≡ second → kept.Sources f u b (get_or u 3 0) v.at (v.at + v.held) d l (trie_at S k)
    as-kept e = record { here = rw own (in_kept (sym (seen-form h) ∙ sym o.form ∙ e)); reads = reads }

    pub still-sources : SourcesIn u t d f l (trie_at S k)
    still-sources = rw q (record { long = long-enough; first = as-tries; second = as-kept })

    pub still-pours : {x : Bool} {n g : ℕ} → n ≡ held_l (form_in w) (poured_of x l (trie_at S k)) → n ≤ room_of S k → g ≡ v.at + n → PoursIn u t g d f x l (trie_at S k)
    still-pours {x} {n} {g} z le i =
        let new = pour_t x (trie_of l) (trie_at S k) in
        let m = words-within h new z le in
        let y = seen-figures h in
        rw q
        (record {
          long = long-enough;
          first = λ e.
              let c : n ≡ size new = z ∙ ap (λ F. held_l F (list_of new)) (sym o.form ∙ e) ∙ held_l-list_of new in
              record { source = as-tries e; end = omega (arith, i, c); room = omega (arith, i, m, o.long, y.long, y.first); few = omega (arith, i, m, y.nodes) };
          second = λ e.
              let c : n ≡ kept_size new = z ∙ ap (λ F. held_l F (list_of new)) (sym o.form ∙ e) ∙ held_l-kept_of new in
              record { source = as-kept e; end = omega (arith, i, c); last = omega (arith, i, m, o.nodes) };
        })
