-- Pouring the networks of a file into a set that is found, or out of it: what it asks, what it writes in the two orders, and the result that is judged (`Counted` of pool_state's
-- proofs says what becomes of it). Assumes nothing.
use mathlib.Core.Bool.{Bool, true, false, not, ◌||◌}
use mathlib.Core.List.{List, [], ◌∷◌, ◌++◌}
use mathlib.Core.Path.{◌≡◌, refl, sym, ap, ◌∙◌}
use Prim.Native.Nat.{ℕ, ◌+◌, ◌*◌, ◌≤◌, ◌<◌}
use native.Mathlib.Nat.{mul-le-mul_left}
use native.Mathlib.Omega.{arith}
use lib.Dec.{leb}
use lib.ListN.{length, get_or, take}
use borrow.Author.Tests.{leb-true}
use Rattle.std.specs.Prelude.{Result, Ok}
use Rattle.nets.specs.Bits.{Bits}
use Rattle.nets.specs.Tries.{Trie, size, list_of, trie_of}
use Rattle.nets.specs.Lists.{within, exclude_l}
use Rattle.nets.specs.Networks.{width}
use Rattle.nets.specs.Refusals.{Rule}
use Rattle.nets.specs.declared.Refusal.{Refusal}
use Rattle.nets.proofs.Numbers.{width-le}
use Rattle.nets.proofs.Strings.{and_left, and_right}
use Rattle.nets.proofs.TrieOf.{is_list-within}
use Rattle.nodes.specs.Words.{put, Apart}
use Rattle.nodes.specs.declared.seats.Seat.{Seat}
use Rattle.nodes.proofs.Put.{length-put, get_or-put-before}
use Rattle.nodes.proofs.Has.{has-put}
use Rattle.trie_insert.proofs.Insertion.{size-insert}
use Rattle.inner_nets.specs.Inner.{is_public}
use Rattle.inner_nets.proofs.Public.{is_public-exclude}
use Rattle.ranges.specs.Ranges.{range}
use Rattle.ranges.specs.Blocks.{nets_of, add_all, add_range_l}
use Rattle.ranges.specs.Addresses.{address_of}
use Rattle.ranges.specs.declared.addresses.Address.{Address}
use Rattle.pool_state.specs.Kept.{form_of, held_l, enc_l, spot_l}
use Rattle.pool_state.specs.States.{State, room_of, admits}
use Rattle.pool_state.specs.Decode.{base, sound, decode, form_in}
use Rattle.pool_state.specs.Rules.{seat_of}
use Rattle.pool_state.specs.Changes.{set_at, list_at}
use Rattle.pool_state.specs.Steps.{spot_by, behind_at, Shiftable, stride_in, enc_in}
use Rattle.pool_state.specs.declared.Survey.{Survey}
use Rattle.pool_state.proofs.Claims.{is_list-list_at, admits-list_at}
use Rattle.pool_state.proofs.Decoded.{decode-header, decode-state}
use Rattle.pool_state.proofs.Seen.{Seen, seen, seen_as, seen-header, seen-form, seen-figures, own-form, own-has, own-length, stride_in-is, place_of, behind-has, behind_at-is, words_l, stride_s}
use Rattle.pool_state.proofs.Changed.{with_words, words-first, words_last, shift-asks, spot-after}
use Rattle.pool_state.proofs.OnTries.{trie_at}
use Rattle.pool_state.proofs.Counted.{Counted}
use Rattle.setfile_format.specs.Files.{file, read_file, file_of}
use Rattle.setfile_format.proofs.Written.{length-file_of}
use Rattle.setfile_format.proofs.RoundTrip.{read_file-is}
use Rattle.trie_pour.specs.Pour.{pour_t}
use Rattle.trie_pour.proofs.Pour.{pour-size}
use Rattle.setfile.specs.Loading.{file_list}
use Rattle.setfile.specs.LoadSteps.{Admits}
use Rattle.setfile_range.specs.Edges.{Rangeable, span_of, range_file}
use Rattle.setfile_range.proofs.Files.{few-nets, range-reads}
use Rattle.setfile_save.proofs.Outcomes.{take_put}
use Rattle.setfile_save.proofs.Returns.{decode-few}
use Rattle.change_many.specs.Calls.{poured_l, file_rules, range_of, span_rules}
use Rattle.change_many.specs.declared.Span.{Span}
use Rattle.change_many.specs.Steps.{FileReady, AsksFile, SpanReady, AsksSpan, Pourable, Clear, SourcesIn, PoursIn, PourFits, with_poured}
use Rattle.change_many.proofs.Lists.{list_of-poured, is_public-add_all}
use Rattle.change_many.proofs.Asked.{file_rules-right}
use Rattle.change_many.proofs.InForms.{held-few, takes, words_long, words-trie, words-within, Still, still-sources, still-pours}

-- How many nodes a file can have.
size-trie_of : (w : ℕ) (l : List Bits) → within w l ≡ true → w ≤ 128 → size (trie_of l) ≤ 129 * length l
unfolding trie_of size
size-trie_of w [] h le = omega arith
size-trie_of w (p ∷ l) h le =
    omega (arith, size-insert p (trie_of l), leb-true (length p) w (and_left (leb (length p) w) (within w l) h), size-trie_of w l (and_right (leb (length p) w) (within w l) h) le)

file-nodes : (d : List ℕ) (f : ℕ) (l : List Bits) → read_file d ≡ file f l → size (trie_of l) ≤ 541065216
file-nodes d f l e =
    let i = read_file-is d f l e in
    omega (arith, size-trie_of (width f) l (is_list-within (width f) l i.list) (width-le f), i.few)

-- What a public-only set may have: with other networks exactly if these are clear, and always without others.
admits-same : (p x y z : Bool) → (not p || x) ≡ true → (x ≡ true → y ≡ z) → (not p || y) ≡ (not p || z)
admits-same false x y z e g = refl
admits-same true x y z e g = g e

module _ (w : List ℕ) (S : State) (k : ℕ) (d : decode w ≡ sound S) where
  pub admits-add_all : (ns : List Bits) → admits S.family (set_at S k) (add_all (list_at S k) ns) ≡ admits S.family (set_at S k) ns
  admits-add_all ns =
      let f = S.family in
      let l = list_at S k in
      admits-same (set_at S k).public (is_public f l) (is_public f (add_all l ns)) (is_public f ns) (admits-list_at S k (decode-state w S d)) (is_public-add_all f l ns)

  pub admits-without : (ns : List Bits) → admits S.family (set_at S k) (exclude_l (list_at S k) ns) ≡ true
  admits-without ns =
      let f = S.family in
      let l = list_at S k in
      let e = admits-list_at S k (decode-state w S d) in
      admits-same (set_at S k).public (is_public f l) (is_public f (exclude_l l ns)) (is_public f l) e (λ q. is_public-exclude f l ns q ∙ sym q) ∙ e

-- What is written.
module _ {w : List ℕ} {k : ℕ} {v : Survey} {d : List ℕ} {f : ℕ} {x : Bool} {n : ℕ} {S : State} {l : List Bits} (h : PourFits w k v d f x n S l) where
  known : Seen w S k v
  known = seen_as h.surveyed S h.decoded

  abbrev new : Trie
  new = pour_t x (trie_of l) (trie_at S k)

  abbrev words : List ℕ
  words = words_l S (list_of new)

  same-words : enc_in w (list_of new) ≡ words
  same-words = rw (seen-form known, (seen-header known).family)

  with-is : with_words w S k v words ≡ with_poured w v (list_of new)
  with-is =
      ap (λ ys. put w (place_of w v) (words ++ ys)) (sym (behind_at-is known (behind-has known)) ∙ ap (λ s. behind_at s w (base (get_or w 2 0)) v) (sym (stride_in-is known)))
      ∙ ap (λ xs. put w (place_of w v) (xs ++ behind_at (stride_in w) w (base (get_or w 2 0)) v)) (sym same-words)

  stays : Still w w S k v
  stays = record { long = refl; form = refl; nodes = refl; has = own-has known }

  module _ {t : Seat} (q : t ≡ seat_of w v) where
    pub seat-end : t.first + n < 18446744073709551616
    seat-end = rw q (omega (arith, words-within known new h.size h.fits, (seen-figures known).nodes))

    ends : {g : ℕ} → g ≡ t.first + n → g ≡ v.at + n
    ends i = i ∙ ap (λ (z : Seat). z.first + n) q

    -- the result, written in words of the same form
    abbrev filled : List ℕ → List ℕ
    filled u = put u (spot_l (form_in u) f t.base t.first) (enc_l (form_in u) f (list_of new))

    filled_is : (u : List ℕ) → form_in u ≡ form_in w → filled u ≡ put u (place_of w v) words
    filled_is u e =
        ap (λ F. put u (spot_l F f t.base t.first) (enc_l F f (list_of new))) e
        ∙ ap (λ y. put u (spot_l (form_in w) y t.base t.first) (enc_l (form_in w) y (list_of new))) h.family
        ∙ ap (λ (y : Seat). put u (spot_l (form_in w) (get_or w 1 0) y.base y.first) (enc_in w (list_of new))) q
        ∙ ap (put u (place_of w v)) same-words

    pub shrunk-pours : {g : ℕ} → g ≡ t.first + n → PoursIn w t g d f x l (trie_at S k)
    shrunk-pours i = still-pours known stays q h.reads h.family h.size h.fits (ends i)

    pub shrunk-length : {u : List ℕ} → u ≡ filled w → length u ≡ length w
    shrunk-length e = ap length e ∙ length-put w (spot_l (form_in w) f t.base t.first) (enc_l (form_in w) f (list_of new))

    module _ {s : ℕ} (c : s ≡ stride_in w) where
      stride-is : s ≡ stride_s S
      stride-is = c ∙ stride_in-is known

      -- the sets behind are moved
      abbrev moved : List ℕ → List ℕ
      moved u = put u (spot_by s t.base (v.at + n)) (behind_at s u t.base v)

      moved-is : (u : List ℕ) → moved u ≡ put u (spot_by (stride_s S) (base (get_or w 2 0)) (v.at + n)) (behind_at (stride_s S) u (base (get_or w 2 0)) v)
      moved-is u = rw (q, stride-is)

      pub seat-gap : {u : List ℕ} → length u ≡ length w → Shiftable s u t.base v n
      seat-gap e = rw (q, stride-is) (shift-asks known h.fits e)

      -- where they were moved first, the set is where it was
      moved-still : {u : List ℕ} → v.held < n → u ≡ moved w → Still w u S k v
      moved-still {u} lt e =
          let p = spot_by (stride_s S) (base (get_or w 2 0)) (v.at + n) in
          let ys = behind_at (stride_s S) w (base (get_or w 2 0)) v in
          let z : u ≡ put w p ys = e ∙ moved-is w in
          let low : (i : ℕ) → i < 64 → get_or u i 0 ≡ get_or w i 0 = λ i a. rw z (get_or-put-before w p ys i (omega arith)) in
          let m : stride_s S * v.held ≤ stride_s S * n = mul-le-mul_left (stride_s S) (omega arith) in
          let a : spot_by (stride_s S) (base (get_or w 2 0)) (v.at + n) ≡ place_of w v + stride_s S * n = spot-after known n in
          let far : Apart (place_of w v) (length (words_l S (list_at S k))) p (length ys) = λ j b1 b2 b3 b4. omega (arith, own-length known, m, a) in
          record {
            long = ap length z ∙ length-put w p ys;
            form = ap form_of (low 5 (omega arith));
            nodes = low 3 (omega arith);
            has = rw z (has-put p ys (own-has known) far);
          }

      pub grown-pours : {u : List ℕ} {g : ℕ} → v.held < n → u ≡ moved w → g ≡ t.first + n → PoursIn u t g d f x l (trie_at S k)
      grown-pours lt e i = still-pours known (moved-still lt e) q h.reads h.family h.size h.fits (ends i)

      pub grown-wrote : {u y : List ℕ} → v.held < n → u ≡ moved w → y ≡ filled u → y ≡ with_poured w v (list_of new)
      grown-wrote {u} lt e g =
          words-first known words n (words_long known new h.size) (e ∙ moved-is w) (g ∙ filled_is u (moved-still lt e).form) ∙ with-is

      pub shrunk-wrote : {u y : List ℕ} → n ≤ v.held → u ≡ filled w → y ≡ moved u → y ≡ with_poured w v (list_of new)
      shrunk-wrote {u} le e g =
          words_last known words n (words_long known new h.size) le (e ∙ filled_is w refl) (g ∙ moved-is u) ∙ with-is

-- The result.
module _ {w : List ℕ} {k : ℕ} {v : Survey} {d : List ℕ} {f : ℕ} {x : Bool} {a : State → List Rule} {g : State → List Bits} (h : Pourable w k v d f x a g) where
  abbrev pub state : State
  state = (seen h.surveyed).0

  sees : Seen w state k v
  sees = (seen h.surveyed).1

  abbrev pub result-trie : Trie
  result-trie = pour_t x (trie_of h.list) (trie_at state k)

  pub pour-sources : {t : Seat} → t ≡ seat_of w v → SourcesIn w t d f h.list (trie_at state k)
  pour-sources q = still-sources sees (record { long = refl; form = refl; nodes = refl; has = own-has sees }) q h.reads h.family

  own-family : f ≡ state.family
  own-family = h.family ∙ (decode-header w state sees.decoded).family

  its-list : list_of result-trie ≡ g state
  its-list =
      let i = is_list-list_at state k (decode-state w state sees.decoded) in
      let j = rw own-family at (read_file-is d f h.list h.reads).list in
      list_of-poured (width state.family) (list_at state k) h.list i j x ∙ sym (h.result state sees.decoded)

  module _ {m : ℕ} (e : m ≡ held_l (form_in w) (list_of result-trie)) where
    pub pour-few : m < 4294967296
    pour-few =
        let i = is_list-list_at state k (decode-state w state sees.decoded) in
        omega (
          arith,
          held-few (form_in w) result-trie,
          pour-size x (trie_of h.list) (trie_at state k),
          file-nodes d f h.list h.reads,
          size-trie_of (width state.family) (list_at state k) (is_list-within (width state.family) (list_at state k) i) (width-le state.family),
          decode-few w state sees.decoded k sees.known,
        )

    pub pour-counted : {c : Bool} → Clear w k g c → Counted w state k v a g (words_l state (list_of result-trie)) c m
    pour-counted q = record {
      seen = sees;
      right = h.right state sees.decoded;
      public = q state sees.decoded;
      held = ap (λ F. held_l F (g state)) (own-form sees) ∙ ap (held_l state.form) (sym its-list) ∙ takes sees result-trie e;
      words = ap (words_l state) its-list;
      long = words_long sees result-trie e;
      trie = words-trie sees result-trie e;
    }

    pub pour-writable : m ≤ room_of state k → PourFits w k v d f x m state h.list
    pour-writable le = record { surveyed = h.surveyed; decoded = sees.decoded; reads = h.reads; family = h.family; size = e; fits = le }

    pub pour-wrote : (le : m ≤ room_of state k) {u : List ℕ} → u ≡ with_poured w v (list_of result-trie) → u ≡ with_words w state k v (words_l state (list_of result-trie))
    pour-wrote le q = q ∙ sym (with-is (pour-writable le))

-- the mark, where networks come in
pub clear_of : {w : List ℕ} {k : ℕ} {v : Survey} {d : List ℕ} {f : ℕ} {a : State → List Rule} {g : State → List Bits} {c : Bool} → Pourable w k v d f true a g → Admits w k d f c → Clear w k g c
clear_of {w} {k} h q S e = ap (admits S.family (set_at S k)) (h.result S e) ∙ admits-add_all w S k e h.list ∙ sym (q S h.list e (h.family ∙ (decode-header w S e).family) h.reads)

-- The calls: a file that is right, and a range.
pub span-rangeable : {w : List ℕ} {k : ℕ} {s : Span} {v : Survey} → SpanReady w k s v → Rangeable s.family s.first s.last 4334
span-rangeable h = record { family = h.is_family; order = h.order; high = h.high; room = omega arith }

-- what the calls go on with
pub file-asked : {w d : List ℕ} {k f : ℕ} {v : Survey} {r : Result (Survey × ℕ) Refusal} → AsksFile w k d r → r ≡ Ok (v, f) → FileReady w k d v f
file-asked h e = rw e at h

pub span-asked : {w : List ℕ} {k : ℕ} {s : Span} {v : Survey} {r : Result Survey Refusal} → AsksSpan w k s r → r ≡ Ok v → SpanReady w k s v
span-asked h e = rw e at h

pub file-pourable : {w : List ℕ} {k : ℕ} {d : List ℕ} {v : Survey} {f : ℕ} (x : Bool) → FileReady w k d v f
    → Pourable w k v d f x (file_rules (read_file d)) (λ S. poured_l x (list_at S k) (file_list (read_file d)))
file-pourable {w} {k} {d} x h =
    record {
      surveyed = h.surveyed;
      list = h.list;
      reads = h.reads;
      family = h.family;
      right = λ S e. file_rules-right (read_file d) S h.reads (h.family ∙ (decode-header w S e).family);
      result = λ S e. ap (λ y. poured_l x (list_at S k) (file_list y)) h.reads;
    }

-- the file of a range in front of a longer row
pub range_front : (u : List ℕ) {f : ℕ} {a b : Address} {v : List ℕ} {n : ℕ} → Rangeable f a b (length u) → (n ≡ length (range_file f a b)) × (v ≡ put u 0 (range_file f a b))
    → (n ≤ length v) × (take n v ≡ range_file f a b)
unfolding range_file
range_front u {f} {a} {b} {v} {n} h w =
    let k = span_of f a b in
    let s : length (file_of f k) ≤ length u = omega (arith, length-file_of f k, (few-nets f (range (address_of a) (address_of b))).1, h.room) in
    let i : length v ≡ length u = ap length w.1 ∙ length-put u 0 (file_of f k) in
    (omega (arith, w.0), ap (λ m. take m v) w.0 ∙ ap (take (length (file_of f k))) w.1 ∙ take_put u (file_of f k) s)

pub range-pourable : {w : List ℕ} {k : ℕ} {s : Span} {v : Survey} {d : List ℕ} → SpanReady w k s v → d ≡ range_file s.family s.first s.last
    → Pourable w k v d s.family true (span_rules s) (λ S. add_range_l (width S.family) (list_at S k) (range_of s))
unfolding add_range_l
range-pourable {w} {k} {s} h e =
    record {
      surveyed = h.surveyed;
      list = nets_of (width s.family) (range_of s);
      reads = ap read_file e ∙ range-reads (span-rangeable h);
      family = h.family;
      right = h.right;
      result = λ S q. ap (λ y. add_all (list_at S k) (nets_of (width y) (range_of s))) (sym (h.family ∙ (decode-header w S q).family));
    }
