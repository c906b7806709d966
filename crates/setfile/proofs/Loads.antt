-- A load: what `ask` finds, a law for each return, and then the list of the file as a result (`Counted` of pool_state's proofs says what becomes of it), and what writing it asks.
-- Assumes nothing.
use mathlib.Core.Bool.{Bool, true}
use mathlib.Core.List.{List, [], ◌++◌}
use mathlib.Core.Path.{◌≡◌, refl, sym, ap, ◌∙◌, subst}
use Prim.Native.Nat.{ℕ, ◌*◌, ◌≤◌}
use native.Mathlib.Omega.{arith}
use lib.ListN.{length, get_or}
use borrow.Author.Tests.{eq-eqb, ne_eqb}
use Rattle.nets.specs.Bits.{Bits}
use Rattle.nets.specs.Lists.{nodes_l, is_list}
use Rattle.nets.specs.Networks.{width}
use Rattle.nets.specs.Tries.{Trie, size, trie_of}
use Rattle.nets.specs.Refusals.{number, first_no}
use Rattle.nets.specs.declared.Refusal.{Refusal}
use Rattle.nets.specs.declared.Refusal.TheVariants.{BadFile, WrongFamily, Occupied}
use Rattle.nets.proofs.Answers.{number-some}
use Rattle.nodes.specs.Words.{put, enc}
use Rattle.nodes.specs.declared.seats.Seat.{Seat}
use Rattle.pool_state.specs.Kept.{first, held_l, enc_l}
use Rattle.pool_state.specs.States.{State, room_of, admits}
use Rattle.pool_state.specs.Decode.{base, decode, form_in}
use Rattle.pool_state.specs.Changes.{set_at, list_at}
use Rattle.pool_state.specs.Steps.{Refuses, Shiftable, stride_in, spot_in, enc_in}
use Rattle.pool_state.specs.declared.Survey.{Survey}
use Rattle.pool_state.proofs.Kept.{length-enc_l, enc_l-trie, size-trie_of}
use Rattle.pool_state.proofs.Claims.{indexable-at, indexable-first}
use Rattle.pool_state.proofs.Header.{is_header-header, header-rooms}
use Rattle.pool_state.proofs.Changed.{with_words, put_low, words-first, settle-asks, shift-asks}
use Rattle.pool_state.proofs.Decoded.{decode-header}
use Rattle.pool_state.proofs.Seats.{Seats, seats-family}
use Rattle.pool_state.proofs.Seen.{Seen, seen, seen-state, seen-header, seen-form, seen-figures, seen-empty, seen-some, own-form, stride_in-is, behind, words_l, stride_s}
use Rattle.pool_state.proofs.Counted.{Counted}
use Rattle.pool_state.proofs.Returns.{changed, is_empty-some, change-seat, change-args}
use Rattle.setfile_format.specs.Files.{File, broken, file, read_file}
use Rattle.setfile_format.proofs.RoundTrip.{read_file-is}
use Rattle.setfile_order.specs.Flow.{checked_as, check_rule}
use Rattle.setfile_order.proofs.Answers.{checked-broken, checked-file}
use Rattle.setfile.specs.Loading.{load_rules, file_list}
use Rattle.setfile.specs.LoadSteps.{Ready, Asks, Admits, FileFits, moved, with_file}
use Rattle.std.specs.Prelude.{Option, Result, Ok, Err, Some, None}

-- The number that a file and a set get.
module _ (x : File) (k : ℕ) (S : State) where
  pub load_rules-broken : x ≡ broken → first_no (load_rules x k S) ≡ 5
  unfolding load_rules
  load_rules-broken e = rw e

  module _ (f : ℕ) (l : List Bits) (e : x ≡ file f l) where
    pub load_rules-other : (f ≡ S.family → ⊥) → first_no (load_rules x k S) ≡ 6
    unfolding load_rules
    load_rules-other ne = rw (e, ne_eqb f S.family ne)

    module _ (own : f ≡ S.family) where
      pub load_rules-occupied : (list_at S k ≡ [] → ⊥) → first_no (load_rules x k S) ≡ 8
      unfolding load_rules
      load_rules-occupied ne = rw (e, eq-eqb f S.family own, is_empty-some (list_at S k) ne)

      pub load_rules-right : list_at S k ≡ [] → first_no (load_rules x k S) ≡ 0
      unfolding load_rules
      load_rules-right n = rw (e, eq-eqb f S.family own, n)

-- What `ask` finds.
pub ask-refused : {w : List ℕ} {k : ℕ} (d : List ℕ) (x : Refusal) → Refuses (decode w) k (number x) → Asks w k d (Err x)
ask-refused {w} {k} d x h = changed (change-seat (load_rules (read_file d) k) (λ S. file_list (read_file d)) w k h)

module _ {w : List ℕ} {k : ℕ} {v : Survey} {s : Seat} (d : List ℕ) (h : Seats w k v s) where
  ask-args : (x : Refusal) → ((S : State) → Seen w S k v → s.family ≡ S.family → first_no (load_rules (read_file d) k S) ≡ number x) → Asks w k d (Err x)
  ask-args x q =
      let (S, g) = seen h.surveyed in
      changed (change-args (load_rules (read_file d) k) (λ S. file_list (read_file d)) g (q S g (seats-family h ∙ (decode-header w S g.decoded).family)) (number-some x))

  module _ {r : (Option (ℕ × ℕ))} (c : checked_as r ≡ check_rule (read_file d)) where
    pub ask-broken : r ≡ None → Asks w k d (Err BadFile)
    ask-broken i = ask-args BadFile (λ S g o. load_rules-broken (read_file d) k S (checked-broken (read_file d) c i))

    module _ {f n : ℕ} (i : r ≡ Some (f, n)) where
      pub ask-family : (f ≡ s.family → ⊥) → Asks w k d (Err WrongFamily)
      ask-family ne = let its = checked-file (read_file d) c i in ask-args WrongFamily (λ S g o. load_rules-other (read_file d) k S f its.0 its.1 (λ z. ne (z ∙ sym o)))

      module _ (own : f ≡ s.family) where
        pub ask-occupied : (v.held ≡ 0 → ⊥) → Asks w k d (Err Occupied)
        ask-occupied ne = let its = checked-file (read_file d) c i in ask-args Occupied (λ S g o. load_rules-occupied (read_file d) k S f its.0 its.1 (own ∙ o) (seen-some g ne))

        pub ask-reads : (g : ℕ) × (l : List Bits) × (read_file d ≡ file g l) × (n ≡ nodes_l l)
        ask-reads = let (l, reads, nodes) = checked-file (read_file d) c i in (f, l, reads, nodes)

        pub ask-file : v.held ≡ 0 → {m : ℕ} → ((g : ℕ) (l : List Bits) → read_file d ≡ file g l → n ≡ nodes_l l → m ≡ held_l (form_in w) l) → Asks w k d (Ok (v, f, m))
        ask-file z t =
            let (l, reads, nodes) = checked-file (read_file d) c i in
            record { surveyed = h.surveyed; empty = z; list = l; reads = reads; family = own ∙ seats-family h; nodes = t f l reads nodes }

-- what the call goes on with
pub asked : {w : List ℕ} {k : ℕ} {d : List ℕ} {v : Survey} {f n : ℕ} {r : Result (Survey × ℕ × ℕ) Refusal} → Asks w k d r → r ≡ Ok (v, f, n) → Ready w k d v f n
asked h e = rw e at h

-- A load that goes on, with the list of its file.
module _ {w : List ℕ} {k : ℕ} {d : List ℕ} {v : Survey} {f n : ℕ} (c : Ready w k d v f n) where
  abbrev S : State
  S = (seen c.surveyed).0

  known : Seen w S k v
  known = (seen c.surveyed).1

  abbrev after : List Bits
  after = file_list (read_file d)

  after_is : after ≡ c.list
  after_is = ap file_list c.reads

  own : f ≡ S.family
  own = c.family ∙ (seen-header known).family

  right : first_no (load_rules (read_file d) k S) ≡ 0
  right = load_rules-right (read_file d) k S f c.list c.reads own (seen-empty known c.empty)

  is-list : is_list (width S.family) after ≡ true
  is-list = rw after_is (rw own at (read_file-is d f c.list c.reads).list)

  takes : held_l S.form after ≡ n
  takes = ap (held_l S.form) after_is ∙ ap (λ F. held_l F c.list) (sym (seen-form known)) ∙ sym c.nodes

  long : length (words_l S after) ≡ stride_s S * n
  long = length-enc_l (width S.family) after is-list S.form S.family ∙ ap (λ m. stride_s S * m) takes

  -- where the set is indexed, the pool is in the first form
  trie-of : (set_at S k).indexed ≡ true → (t : Trie) × (words_l S after ≡ enc t) × (size t ≡ n)
  trie-of e =
      let F : S.form ≡ first = sym (own-form known) ∙ indexable-first (set_at S k) e (indexable-at S k (seen-state known)) in (
        trie_of after,
        ap (λ G. enc_l G S.family after) F ∙ enc_l-trie S.family after,
        size-trie_of (width S.family) after is-list ∙ ap (λ G. held_l G after) (sym F) ∙ takes,
      )

  pub load-counted : {b : Bool} → Admits w k d f b → Counted w S k v (load_rules (read_file d) k) (λ T. after) (words_l S after) b n
  load-counted g = record {
    seen = known;
    right = right;
    public = ap (admits S.family (set_at S k)) after_is ∙ sym (g S c.list known.decoded own c.reads);
    held = ap (λ F. held_l F after) (own-form known) ∙ takes;
    words = refl;
    long = long;
    trie = trie-of;
  }

  -- it is granted, and written
  module _ (fits : n ≤ room_of S k) where
    pub load-writes : FileFits w v d f n c.list
    load-writes =
        let x = seen-figures known in
        let s = (settle-asks known {u = with_words w S k v (words_l S after)} long fits trie-of refl).index in
        let m : get_or (with_words w S k v (words_l S after)) 3 0 ≡ get_or w 3 0 = put_low known (words_l S after ++ behind S k) 3 (omega arith) in
        record {
          reads = c.reads;
          nodes = sym c.nodes;
          family = c.family;
          rooms = header-rooms (is_header-header w (seen-header known).known);
          within = omega (arith, s.within, m);
          gap = subst (λ t. Shiftable t w (base (get_or w 2 0)) v n) (sym (stride_in-is known)) (shift-asks known fits refl);
          sets = x.sets;
          long = omega (arith, x.long);
        }

    same-words : enc_in w c.list ≡ words_l S after
    same-words = rw (seen-form known, (seen-header known).family, after_is)

    pub load-wrote : {y : List ℕ} → ((l : List Bits) → FileFits w v d f n l → y ≡ with_file w v n l) → y ≡ with_words w S k v (words_l S after)
    load-wrote i =
        words-first known (words_l S after) n long (ap (λ t. moved w t v n) (stride_in-is known))
        (i c.list load-writes ∙ ap (put (moved w (stride_in w) v n) (spot_in w v.at)) same-words)
