-- A set of a pool in the first form as the trie of its list, for the calls that read and change tries in place: where it stands, a trie written in its place, and what becomes of a
-- result that is a trie, counted and judged (`TrieResult`). Assumes nothing.
use mathlib.Core.Path.{◌≡◌, refl, sym, ap, ◌∙◌, subst}
use mathlib.Core.Bool.{Bool, true, cond}
use mathlib.Core.List.{List, ◌++◌}
use Prim.Native.Nat.{ℕ, suc, ◌+◌, ◌≤◌, ◌<◌, ◌*◌, ◌-◌}
use native.Mathlib.Omega.{arith}
use lib.ListN.{length, get_or}
use Rattle.nets.specs.Bits.{Bits}
use Rattle.nets.specs.Networks.{width}
use Rattle.nets.specs.Refusals.{number, Rule, first_no}
use Rattle.nets.specs.Tries.{Trie, none, node, size, levels, is_none, list_of, trie_of}
use Rattle.nets.specs.declared.Refusal.{Refusal}
use Rattle.nets.proofs.TrieOf.{list_of-trie_of, trie_of-list_of}
use Rattle.nodes.specs.Words.{put, Has, place, enc}
use Rattle.nodes.specs.Parse.{Stands}
use Rattle.nodes.specs.Segments.{Segment}
use Rattle.nodes.proofs.Has.{has-at, has_join}
use Rattle.nodes.proofs.Tries.{length-enc, some}
use Rattle.pool_state.specs.Kept.{held_l, first, second, form_of}
use Rattle.pool_state.specs.States.{SetState, State, held, room_of, admits, is_set}
use Rattle.pool_state.specs.Decode.{record_at, base, root_at, sound, decode}
use Rattle.pool_state.specs.Rules.{no_set, first_node}
use Rattle.pool_state.specs.Changes.{set_at, list_at, Relisted}
use Rattle.pool_state.specs.Steps.{Judges, behind_at, Settle, Settled, spot_by, spot_in, Shiftable}
use Rattle.pool_state.specs.declared.Survey.{Survey}
use Rattle.pool_state.proofs.Kept.{stands-trie, held_l-list_of, enc_l-list_of, StandsL, stride_l-is, spot_l-first, form-some}
use Rattle.pool_state.proofs.Claims.{is_set-list}
use Rattle.pool_state.proofs.Holds.{root_at-some}
use Rattle.pool_state.proofs.Decoded.{decode-set, decode-list}
use Rattle.pool_state.proofs.Seen.{Seen, behind, seen-figures, own-has, behind-has, behind-length, words_l, stride_s, seen-form, own-form}
use Rattle.pool_state.proofs.Beside.{its, beside-root}
use Rattle.pool_state.proofs.Changed.{with_words, words-first, shift-asks}
use Rattle.pool_state.proofs.Counted.{Counted, counted-refused, counted-fits, counted-settles, counted-granted}
use native.Mathlib.Nat.{one-mul}
use Rattle.std.specs.Prelude.{Result, Ok, Err}

-- The trie of a set: it lists the set's networks, and has its nodes.
abbrev pub trie_at : State → ℕ → Trie
trie_at S k = trie_of (set_at S k).list

pub set-list_of : (f : ℕ) (x : SetState) → is_set f x ≡ true → list_of (trie_of x.list) ≡ x.list
set-list_of f x e = list_of-trie_of (width f) x.list (is_set-list f x e)

pub decode-at : (w : List ℕ) (S : State) → decode w ≡ sound S → S.form ≡ first → (k : ℕ) → k < length S.sets
    → Stands w (base (length S.sets)) S.nodes (suc (width S.family)) (first_node k 1 S.sets) (trie_of (get_or S.sets k no_set).list)
decode-at w S e F k lt =
    stands-trie (subst (λ G. StandsL G S.family w (base (length S.sets)) S.nodes (first_node k 1 S.sets) (get_or S.sets k no_set).list) F (decode-list w S e k lt))

module _ {w : List ℕ} {S : State} {k : ℕ} {v : Survey} (h : Seen w S k v) where
  -- the form, by the word that says it
  pub form-first : get_or w 5 0 ≡ 0 → S.form ≡ first
  form-first e = sym (seen-form h) ∙ ap form_of e

  pub form-second : (get_or w 5 0 ≡ 0 → ⊥) → S.form ≡ second
  form-second ne = sym (seen-form h) ∙ form-some (get_or w 5 0) ne

  pub seen-list : list_of (trie_at S k) ≡ (set_at S k).list
  seen-list = set-list_of S.family (set_at S k) (decode-set w S h.decoded k h.known).rules

  -- where it is kept in the first form, it stands where the survey says, with the sets behind it behind it
  module _ (F : S.form ≡ first) where
    own_first : (set_at S k).form ≡ first
    own_first = own-form h ∙ F

    pub stride-one : stride_s S ≡ 1
    stride-one = rw F (stride_l-is S.family)

    pub spot_in-first : (i : ℕ) → spot_in w i ≡ place (base (get_or w 2 0)) i
    spot_in-first i = rw (seen-form h, F) (spot_l-first (get_or w 1 0) (base (get_or w 2 0)) i)

    pub words-list_of : (t : Trie) → words_l S (list_of t) ≡ enc t
    words-list_of t = rw F (enc_l-list_of t S.family)

    pub held-list_of : (t : Trie) → held_l (set_at S k).form (list_of t) ≡ size t
    held-list_of t = rw own_first (held_l-list_of t)

    pub trie-length : (t : Trie) → length (enc t) ≡ stride_s S * size t
    trie-length t = length-enc t ∙ rw stride-one (sym (one-mul (size t)))

    pub seen_size : size (trie_at S k) ≡ v.held
    seen_size = sym (held-list_of (trie_at S k)) ∙ ap (held_l (set_at S k).form) seen-list ∙ sym h.held

    pub trie-has : Has w (place (base (get_or w 2 0)) v.at) (enc (trie_at S k))
    trie-has = rw (sym (ap (words_l S) seen-list) ∙ words-list_of (trie_at S k)) at (has-at (spot_in-first v.at) (own-has h))

    pub behind-stands : Has w (place (base (get_or w 2 0)) (v.at + v.held)) (behind S k)
    behind-stands = has-at (spot_in-first (v.at + v.held)) (behind-has h)

    pub behind-count : v.at + v.held + length (behind S k) ≡ v.used + 1
    behind-count =
        let e : length (behind S k) ≡ v.used + 1 - (v.at + v.held) = behind-length h ∙ rw stride-one (one-mul (v.used + 1 - (v.at + v.held))) in
        omega (arith, e, (seen-figures h).last)

    pub seen-segment : Segment w (base (get_or w 2 0)) v.at (v.at + v.held) (v.used + 1) (trie_at S k) (behind S k)
    seen-segment =
        let f = seen-figures h in
        record {
          has = has_join _ _ trie-has (has-at (omega (arith, f.first, length-enc (trie_at S k), seen_size)) behind-stands);
          one = f.first;
          end = omega (arith, seen_size);
          used = omega (arith, behind-count);
          few = omega (arith, f.used, f.claimed, f.nodes);
          low = omega (arith, f.sets);
        }

-- The root of another set, by its trie.
root_is : (i : ℕ) (t : Trie) → root_at i (list_of t) ≡ cond (is_none t) 0 i
unfolding list_of levels trie_of
root_is i none = refl
root_is i (node l r) = root_at-some i (list_of (node l r)) (λ e. some l r (sym (trie_of-list_of (node l r)) ∙ ap trie_of e))

module _ {w : List ℕ} {S : State} {k : ℕ} {v : Survey} (h : Seen w S k v) (j : ℕ) (lt : j < get_or w 2 0) (e : list_of (trie_at S j) ≡ list_at S j) where
  pub trie-root : get_or w (record_at j) 0 ≡ cond (is_none (trie_at S j)) 0 (its h j lt).at
  trie-root = beside-root h j lt ∙ ap (root_at (its h j lt).at) (sym e) ∙ root_is (its h j lt).at (trie_at S j)

-- A trie in the place of the set's, with the sets behind it behind it.
abbrev pub with_trie : List ℕ → State → ℕ → Survey → Trie → List ℕ
with_trie w S k v t = put w (place (base (get_or w 2 0)) v.at) (enc t ++ behind S k)

module _ {w : List ℕ} {S : State} {k : ℕ} {v : Survey} (h : Seen w S k v) (F : S.form ≡ first) (t : Trie) where
  pub trie-words : with_trie w S k v t ≡ with_words w S k v (enc t)
  trie-words = ap (λ p. put w p (enc t ++ behind S k)) (sym (spot_in-first h F v.at))

  pub behind-first : {u x : List ℕ} → u ≡ put w (spot_by 1 (base (get_or w 2 0)) (v.at + size t)) (behind_at 1 w (base (get_or w 2 0)) v) → x ≡ put u (place (base (get_or w 2 0)) v.at) (enc t)
      → x ≡ with_trie w S k v t
  behind-first {u} {x} e g =
      words-first h (enc t) (size t) (trie-length h F t)
      (subst (λ s. u ≡ put w (spot_by s (base (get_or w 2 0)) (v.at + size t)) (behind_at s w (base (get_or w 2 0)) v)) (sym (stride-one h F)) e)
      (g ∙ ap (λ p. put u p (enc t)) (sym (spot_in-first h F v.at)))
      ∙ sym trie-words

-- what moving the sets behind it asks
pub shift-trie : {w : List ℕ} {S : State} {k : ℕ} {v : Survey} → Seen w S k v → S.form ≡ first → {n : ℕ} {u : List ℕ} → n ≤ room_of S k → length u ≡ length w
    → Shiftable 1 u (base (get_or w 2 0)) v n
shift-trie {w} {S} {k} {v} h F {n} {u} le e = subst (λ s. Shiftable s u (base (get_or w 2 0)) v n) (stride-one h F) (shift-asks h le e)

-- A call whose arguments are right, and whose result is the trie t, counted: it has m nodes; c says whether the set may have it as far as its mark goes
pub record TrieResult (w : List ℕ) (S : State) (k : ℕ) (v : Survey) (a : State → List Rule) (f : State → List Bits) (t : Trie) (c : Bool) (m : ℕ) : Type 0 where
  pub seen : Seen w S k v
  pub form : S.form ≡ first
  pub right : first_no (a S) ≡ 0
  pub list : list_of t ≡ f S
  pub public : admits S.family (set_at S k) (f S) ≡ c
  pub size : size t ≡ m

module _ {w : List ℕ} {S : State} {k : ℕ} {v : Survey} {a : State → List Rule} {f : State → List Bits} {t : Trie} {c : Bool} {m : ℕ} (h : TrieResult w S k v a f t c m) where
  counted : Counted w S k v a f (enc t) c m
  counted = record {
    seen = h.seen;
    right = h.right;
    public = h.public;
    held = ap (held_l (set_at S k).form) (sym h.list) ∙ held-list_of h.seen h.form t ∙ h.size;
    words = sym (words-list_of h.seen h.form t) ∙ ap (words_l S) h.list;
    long = trie-length h.seen h.form t ∙ ap (λ n. stride_s S * n) h.size;
    trie = λ e. (t, refl, h.size);
  }

  module _ {r : (Result Unit Refusal)} (j : Judges w k c m r) where
    pub result-refused : (x : Refusal) → r ≡ Err x → Relisted w k a f (number x, 0) w
    result-refused x e = counted-refused counted j x e

    -- it is granted, and written
    module _ (z : r ≡ (Ok tt)) where
      pub result_fits : m ≤ room_of S k
      result_fits = counted-fits counted j z

      module _ {u : List ℕ} (e : u ≡ with_trie w S k v t) where
        result_words : u ≡ with_words w S k v (enc t)
        result_words = e ∙ trie-words h.seen h.form t

        pub result-settles : Settle u k v.at v.held m
        result-settles = counted-settles counted j z result_words

        pub result-granted : {x : ℕ × ℕ} {y : List ℕ} → x ≡ (0, m) → Settled u k v.at v.held m y → Relisted w k a f x y
        result-granted q p = counted-granted counted j z result_words q p
