-- A set of a pool in the second form as the trie of its list: where it stands, and what becomes of a result that is a trie, counted and judged (`KeptResult`). Assumes nothing.
use mathlib.Core.Path.{◌≡◌, sym, ap, ◌∙◌, subst}
use mathlib.Core.Bool.{Bool, true, false, cond, false≢true}
use mathlib.Core.List.{List, []}
use Prim.Native.Nat.{ℕ, suc, ◌*◌, ◌<◌}
use native.Mathlib.Omega.{arith}
use lib.ListN.{length, get_or}
use Rattle.nets.specs.Bits.{Bits}
use Rattle.nets.specs.Networks.{width}
use Rattle.nets.specs.Refusals.{Rule, first_no}
use Rattle.nets.specs.Tries.{Trie, size, list_of, trie_of}
use Rattle.nodes.specs.Words.{enc}
use Rattle.branch_points.specs.KeptTries.{kept_size}
use Rattle.kept_nodes.specs.Words.{stride, spot, kept_enc}
use Rattle.kept_nodes.specs.Parse.{KeptRoom, KeptStands}
use Rattle.kept_nodes.proofs.Places.{length-kept_enc}
use Rattle.pool_state.specs.Kept.{Form, first, second, held_l, stride_l}
use Rattle.pool_state.specs.States.{State, admits}
use Rattle.pool_state.specs.Decode.{base, sound, decode}
use Rattle.pool_state.specs.Rules.{no_set, first_node}
use Rattle.pool_state.specs.Changes.{set_at}
use Rattle.pool_state.specs.Steps.{spot_in}
use Rattle.pool_state.specs.declared.Survey.{Survey}
use Rattle.pool_state.proofs.Kept.{StandsL, spot_l-second, stands-kept, held_l-kept_of, enc_l-kept_of, room-second}
use Rattle.pool_state.proofs.Claims.{indexable-at, indexable-first}
use Rattle.pool_state.proofs.Header.{is_header-header, header-rooms}
use Rattle.pool_state.proofs.Decoded.{decode-list}
use Rattle.pool_state.proofs.Seen.{Seen, words_l, stride_s, seen-state, seen-header, seen-form, own-form}
use Rattle.pool_state.proofs.Counted.{Counted}
use Rattle.pool_state.proofs.OnTries.{trie_at, seen-list}

never : first ≡ second → ⊥
never e = let z : ◌≡◌ {A = ℕ} 0 1 = cc in omega arith

pub decode-kept : (w : List ℕ) (S : State) → decode w ≡ sound S → S.form ≡ second → (k : ℕ) → k < length S.sets
    → KeptStands S.family w (base (length S.sets)) S.nodes [] (first_node k 1 S.sets) (trie_of (get_or S.sets k no_set).list)
decode-kept w S e F k lt =
    stands-kept (subst (λ G. StandsL G S.family w (base (length S.sets)) S.nodes (first_node k 1 S.sets) (get_or S.sets k no_set).list) F (decode-list w S e k lt))

module _ {w : List ℕ} {S : State} {k : ℕ} {v : Survey} (h : Seen w S k v) (F : S.form ≡ second) where
  own-second : (set_at S k).form ≡ second
  own-second = own-form h ∙ F

  pub kept-stride : stride_s S ≡ stride S.family
  unfolding stride_l
  kept-stride = rw F

  pub kept-spot : (i : ℕ) → spot_in w i ≡ spot (get_or w 1 0) (base (get_or w 2 0)) i
  kept-spot i = rw (seen-form h, F) (spot_l-second (get_or w 1 0) (base (get_or w 2 0)) i)

  pub kept-room : KeptRoom (get_or w 1 0) w (base (get_or w 2 0)) (get_or w 3 0)
  kept-room = room-second (header-rooms (is_header-header w (seen-header h).known))

  pub kept-words : (t : Trie) → words_l S (list_of t) ≡ kept_enc S.family [] t
  kept-words t = rw F (enc_l-kept_of t S.family)

  pub kept-held : (t : Trie) → held_l (set_at S k).form (list_of t) ≡ kept_size t
  kept-held t = rw own-second (held_l-kept_of t)

  pub kept-length : (t : Trie) → length (kept_enc S.family [] t) ≡ stride_s S * kept_size t
  kept-length t = length-kept_enc S.family [] t ∙ ap (λ s. s * kept_size t) (sym kept-stride)

  pub kept-size : kept_size (trie_at S k) ≡ v.held
  kept-size = sym (kept-held (trie_at S k)) ∙ ap (held_l (set_at S k).form) (seen-list h) ∙ sym h.held

  -- the trie stands where the survey says
  pub kept_at : KeptStands (get_or w 1 0) w (base (get_or w 2 0)) (get_or w 3 0) [] v.at (trie_at S k)
  kept_at = let g = seen-header h in rw (g.family, g.sets, g.nodes, h.at) (decode-kept w S h.decoded F k h.known)

  -- and has no index
  pub kept-plain : (set_at S k).indexed ≡ true → ⊥
  kept-plain e = never (sym (indexable-first (set_at S k) e (indexable-at S k (seen-state h))) ∙ own-second)

-- A call whose arguments are right, and whose result is the trie t, counted: it has m members and branch points; c says whether the set may have it as far as its mark goes
pub record KeptResult (w : List ℕ) (S : State) (k : ℕ) (v : Survey) (a : State → List Rule) (f : State → List Bits) (t : Trie) (c : Bool) (m : ℕ) : Type 0 where
  pub seen : Seen w S k v
  pub form : S.form ≡ second
  pub right : first_no (a S) ≡ 0
  pub list : list_of t ≡ f S
  pub public : admits S.family (set_at S k) (f S) ≡ c
  pub size : kept_size t ≡ m

pub kept-counted : {w : List ℕ} {S : State} {k : ℕ} {v : Survey} {a : State → List Rule} {f : State → List Bits} {t : Trie} {c : Bool} {m : ℕ}
    → KeptResult w S k v a f t c m → Counted w S k v a f (kept_enc S.family [] t) c m
kept-counted {w} {S} {k} {v} {a} {f} {t} h = record {
  seen = h.seen;
  right = h.right;
  public = h.public;
  held = ap (held_l (set_at S k).form) (sym h.list) ∙ kept-held h.seen h.form t ∙ h.size;
  words = sym (kept-words h.seen h.form t) ∙ ap (words_l S) h.list;
  long = kept-length h.seen h.form t ∙ ap (λ n. stride_s S * n) h.size;
  trie = λ e. absurd (kept-plain h.seen h.form e);
}
