-- What a survey says of the state (`Seen`): its numbers are those of the decoded state. So they are in order among the numbers of the words (`Figures`), and the words of
-- its set's list, and those before and behind it, stand where they say. Assumes nothing.
use mathlib.Core.Path.{◌≡◌, refl, sym, ap, ◌∙◌}
use mathlib.Core.Bool.{true, false, false≢true, true≢false}
use mathlib.Core.List.{List, [], ◌++◌, ◌∷◌}
use Prim.Native.Nat.{ℕ, suc, ◌+◌, ◌-◌, ◌≤◌, ◌<◌, ◌*◌, zero}
use native.Mathlib.Omega.{arith}
use lib.ListN.{length, get_or, take, drop, length-append}
use Rattle.nets.specs.Lists.{is_list}
use Rattle.nets.specs.Networks.{width}
use Rattle.nodes.specs.Words.{Has, place}
use Rattle.pool_state.specs.Kept.{held_l, enc_l, Form, stride_l, spot_l}
use Rattle.pool_state.specs.States.{State, held, used, claimed, is_state, SetState, are_sets}
use Rattle.pool_state.specs.Decode.{record_at, base, least_words, node_words, Decoded, damaged, sound, decode, form_in}
use Rattle.pool_state.specs.Rules.{first_node, no_survey, survey_of, found_of, no_set}
use Rattle.pool_state.specs.Changes.{set_at, list_at}
use Rattle.pool_state.specs.Steps.{Refuses, Surveyed, behind_at, stride_in, spot_in}
use Rattle.pool_state.specs.declared.Survey.{Survey}
use Rattle.nodes.proofs.Has.{has-front, has-back, has-at, has-seg}
use Rattle.pool_state.proofs.Kept.{length-enc_l, held_l-nil, held_l-none, spot_l-on, spot_l-one}
use Rattle.pool_state.proofs.Claims.{is_state-claimed, used-claimed, claimed_but-is, is_state-sets, are_sets-form, are_sets-head, are_sets-tail, are_sets-cons}
use Rattle.pool_state.proofs.Header.{IsHeader, is_header-header}
use Rattle.pool_state.proofs.Whole.{HeaderOf}
use Rattle.pool_state.proofs.Decoded.{decode-header, decode-state, decode-has, decode-used, decode-share, decode-list, decode-parts, decode-form}
use Rattle.pool_state.proofs.Holds.{first_node-is, length-node_words}
use Rattle.nets.specs.Bits.{Bits}
use Rattle.std.specs.Prelude.{Bool, Option, Some, None}

-- the words hold the state S, which has a set k, and v is what a pass over them finds out
pub record Seen (w : List ℕ) (S : State) (k : ℕ) (v : Survey) : Type 0 where
  pub decoded : decode w ≡ sound S
  pub known : k < length S.sets
  pub used : v.used ≡ used S.sets
  pub claimed : v.claimed ≡ claimed S.sets
  pub at : v.at ≡ first_node k 1 S.sets
  pub held : v.held ≡ held (set_at S k)

-- A survey is of sound words; where there is none, they are damaged.
abbrev is_some : Option Survey → Bool
is_some (Some v) = true
is_some None = false

abbrev in_some : Option Survey → Survey
in_some (Some v) = v
in_some None = no_survey

pub found-sound : (d : Decoded) (k : ℕ) (v : Survey) → Some v ≡ found_of d k → (S : State) × (d ≡ sound S) × (v ≡ survey_of d k)
unfolding found_of
found-sound damaged k v e = absurd (true≢false (ap is_some e))
found-sound (sound S) k v e = (S, refl, ap in_some e)

found-damaged : (d : Decoded) (k : ℕ) → None ≡ found_of d k → d ≡ damaged
unfolding found_of
found-damaged damaged k e = refl
found-damaged (sound S) k e = absurd (false≢true (ap is_some e))

module _ (w : List ℕ) (k : ℕ) (v : Survey) (e : Some v ≡ found_of (decode w) k) where
  pub survey-is : v ≡ survey_of (decode w) k
  survey-is = (found-sound (decode w) k v e).2

  pub survey-sound : (S : State) × (decode w ≡ sound S)
  survey-sound = let x = found-sound (decode w) k v e in (x.0, x.1)

  pub survey-header : IsHeader w
  survey-header = is_header-header w (decode-header w survey-sound.0 survey-sound.1).known

  -- the first words can be read
  pub survey-long : 64 < length w
  survey-long = omega (arith, survey-header)

  -- the refusal of every call on the set
  pub refuses-noset : get_or w 2 0 ≤ k → Refuses (decode w) k 3
  refuses-noset le = let x = survey-sound in rw x.1 (omega (arith, (decode-header w x.0 x.1).sets), refl)

  pub surveyed-at : k < get_or w 2 0 → Surveyed w k v
  surveyed-at lt = record { found = e; known = lt }

module _ (w : List ℕ) (k : ℕ) (e : None ≡ found_of (decode w) k) where
  pub survey-damaged : decode w ≡ damaged
  survey-damaged = found-damaged (decode w) k e

  pub refuses-damaged : Refuses (decode w) k 2
  refuses-damaged = rw survey-damaged refl

pub survey-seen : (w : List ℕ) (k : ℕ) (v : Survey) → v ≡ survey_of (decode w) k → (S : State) → decode w ≡ sound S → k < get_or w 2 0 → Seen w S k v
unfolding survey_of
survey-seen w k v e S d lt =
    let f : v ≡ survey_of (sound S) k = rw d at e in
    record {
      decoded = d;
      known = rw (decode-header w S d).sets at lt;
      used = ap (λ (x : Survey). x.used) f;
      claimed = ap (λ (x : Survey). x.claimed) f;
      at = ap (λ (x : Survey). x.at) f;
      held = ap (λ (x : Survey). x.held) f;
    }

-- a sound pool has a first set
pub surveyed-first : {w : List ℕ} {v : Survey} → Some v ≡ found_of (decode w) 0 → Surveyed w 0 v
surveyed-first {w} {v} e = record { found = e; known = omega (arith, survey-header w 0 v e) }

module _ {w : List ℕ} {k : ℕ} {v : Survey} (h : Surveyed w k v) where
  pub seen_as : (S : State) → decode w ≡ sound S → Seen w S k v
  seen_as S d = survey-seen w k v (survey-is w k v h.found) S d h.known

  pub seen : (S : State) × Seen w S k v
  seen = let x = survey-sound w k v h.found in (x.0, seen_as x.0 x.1)

-- The numbers of a survey among those of the words.
pub record Figures (w : List ℕ) (k : ℕ) (v : Survey) : Type 0 where
  pub known : k < get_or w 2 0
  pub sets : get_or w 2 0 ≤ 64
  pub nodes : get_or w 3 0 ≤ 4194304
  pub long : least_words (get_or w 2 0) (get_or w 3 0) (get_or w 4 0) ≤ length w
  pub first : 1 ≤ v.at
  pub last : v.at + v.held ≤ v.used + 1
  pub used : v.used ≤ v.claimed
  pub claimed : v.claimed ≤ get_or w 3 0
  pub share : get_or w (record_at k + 1) 0 ≤ v.claimed
  pub held : v.held ≤ v.claimed

-- where the nodes of the set begin; the words of the sets before it, and of those behind it
abbrev pub place_of : List ℕ → Survey → ℕ
place_of w v = spot_in w v.at

abbrev pub before : State → ℕ → List ℕ
before S k = node_words S.family (take k S.sets)

abbrev pub behind : State → ℕ → List ℕ
behind S k = node_words S.family (drop (suc k) S.sets)

-- the words of a list in a pool, and how many a node takes
abbrev pub words_l : State → List Bits → List ℕ
words_l S l = enc_l S.form S.family l

abbrev pub stride_s : State → ℕ
stride_s S = stride_l S.form S.family

-- some of the sets are kept in the form, and their nodes are those before set k, its own, and those behind it
are_sets-take : (F : Form) (f k : ℕ) (xs : List SetState) → are_sets F f xs ≡ true → are_sets F f (take k xs) ≡ true
are_sets-take F f zero xs e = refl
are_sets-take F f (suc k) [] e = refl
are_sets-take F f (suc k) (x ∷ xs) e = are_sets-cons F f x (take k xs) (are_sets-form F f x xs e) (are_sets-head F f x xs e) (are_sets-take F f k xs (are_sets-tail F f x xs e))

are_sets-drop : (F : Form) (f k : ℕ) (xs : List SetState) → are_sets F f xs ≡ true → are_sets F f (drop k xs) ≡ true
are_sets-drop F f zero xs e = e
are_sets-drop F f (suc k) [] e = refl
are_sets-drop F f (suc k) (x ∷ xs) e = are_sets-drop F f k xs (are_sets-tail F f x xs e)

used-parts : (k : ℕ) (xs : List SetState) → k < length xs → used xs ≡ used (take k xs) + held (get_or xs k no_set) + used (drop (suc k) xs)
unfolding used
used-parts k [] lt = absurd (omega arith)
used-parts zero (x ∷ xs) lt = omega arith
used-parts (suc k) (x ∷ xs) lt = omega (arith, used-parts k xs (omega arith))

module _ {w : List ℕ} {S : State} {k : ℕ} {v : Survey} (h : Seen w S k v) where
  pub seen-state : is_state S ≡ true
  seen-state = decode-state w S h.decoded

  pub seen-header : HeaderOf w S
  seen-header = decode-header w S h.decoded

  -- places in the words are those of the state's form and family
  pub seen-form : form_in w ≡ S.form
  seen-form = seen-header.form

  pub spot_in-is : (i : ℕ) → spot_in w i ≡ spot_l S.form S.family (base (length S.sets)) i
  spot_in-is i = rw (seen-form, seen-header.family, seen-header.sets)

  pub stride_in-is : stride_in w ≡ stride_s S
  unfolding stride_in
  stride_in-is = rw (seen-form, seen-header.family)

  pub own-form : (set_at S k).form ≡ S.form
  own-form = decode-form w S h.decoded k h.known

  pub own-list : is_list (width S.family) (list_at S k) ≡ true
  own-list = (decode-list w S h.decoded k h.known).list

  pub own_held : v.held ≡ held_l S.form (list_at S k)
  own_held = h.held ∙ ap (λ F. held_l F (list_at S k)) own-form

  pub own-length : length (words_l S (list_at S k)) ≡ stride_s S * v.held
  own-length = length-enc_l (width S.family) (list_at S k) own-list S.form S.family ∙ ap (λ n. stride_s S * n) (sym own_held)

  pub before-used : v.at ≡ 1 + used (take k S.sets)
  before-used = h.at ∙ first_node-is S.form S.family k 1 S.sets (is_state-sets S seen-state) h.known

  behind-used : v.at + v.held + used (drop (suc k) S.sets) ≡ v.used + 1
  behind-used = omega (arith, before-used, h.used, h.held, used-parts k S.sets h.known)

  pub before-length : place_of w v ≡ base (length S.sets) + length (before S k)
  before-length =
      let u = used (take k S.sets) in
      let n : length (before S k) ≡ stride_s S * u = length-node_words S.form S.family (take k S.sets) (are_sets-take S.form S.family k S.sets (is_state-sets S seen-state)) in
      spot_in-is v.at ∙ ap (spot_l S.form S.family (base (length S.sets))) before-used
      ∙ sym (spot_l-on S.form S.family (base (length S.sets)) 1 u (omega arith)) ∙ rw (spot_l-one S.form S.family (base (length S.sets)), n)

  pub behind-length : length (behind S k) ≡ stride_s S * (v.used + 1 - (v.at + v.held))
  behind-length =
      let e : used (drop (suc k) S.sets) ≡ v.used + 1 - (v.at + v.held) = omega (arith, behind-used) in
      length-node_words S.form S.family (drop (suc k) S.sets) (are_sets-drop S.form S.family (suc k) S.sets (is_state-sets S seen-state)) ∙ ap (λ n. stride_s S * n) e

  parts : node_words S.family S.sets ≡ before S k ++ (words_l S (list_at S k) ++ behind S k)
  parts = decode-parts w S h.decoded k h.known ∙ ap (λ F. before S k ++ (enc_l F S.family (list_at S k) ++ behind S k)) own-form

  parts-has : Has w (base (length S.sets)) (before S k ++ (words_l S (list_at S k) ++ behind S k))
  parts-has = rw parts at (decode-has w S h.decoded)

  pub before-has : Has w (base (length S.sets)) (before S k)
  before-has = has-front (before S k) (words_l S (list_at S k) ++ behind S k) parts-has

  pub own-has : Has w (place_of w v) (words_l S (list_at S k))
  own-has = has-at (sym (spot_in-is v.at ∙ ap (spot_l S.form S.family (base (length S.sets))) h.at)) (decode-list w S h.decoded k h.known).has

  -- the place behind so many nodes from the set's first on
  pub spot_in-on : (n : ℕ) → place_of w v + stride_s S * n ≡ spot_in w (v.at + n)
  spot_in-on n =
      ap (λ p. p + stride_s S * n) (spot_in-is v.at) ∙ spot_l-on S.form S.family (base (length S.sets)) v.at n (omega (arith, before-used)) ∙ sym (spot_in-is (v.at + n))

  pub behind-has : Has w (spot_in w (v.at + v.held)) (behind S k)
  behind-has =
      has-at (ap (λ p. p + length (words_l S (list_at S k))) (sym before-length) ∙ ap (λ n. place_of w v + n) own-length ∙ spot_in-on v.held)
      (has-back (words_l S (list_at S k)) (behind S k) (has-back (before S k) (words_l S (list_at S k) ++ behind S k) parts-has))

  -- in words in which they still stand
  pub behind_at-is : {u : List ℕ} → Has u (spot_in w (v.at + v.held)) (behind S k) → behind_at (stride_s S) u (base (get_or w 2 0)) v ≡ behind S k
  unfolding behind_at spot_l stride_in
  behind_at-is g =
      rw (← behind-length) (has-seg (has-at (ap (λ s. base (get_or w 2 0) + s * (v.at + v.held - 1)) stride_in-is) g))

  pub seen-figures : Figures w k v
  seen-figures =
      let d = is_header-header w seen-header.known in
      let c = claimed_but-is k S.sets h.known in
      let x = is_state-claimed S seen-state in
      record {
        known = omega (arith, h.known, seen-header.sets);
        sets = omega arith;
        nodes = omega arith;
        long = d.long;
        first = omega (arith, before-used);
        last = omega (arith, behind-used);
        used = omega (arith, h.used, h.claimed, used-claimed S.sets);
        claimed = omega (arith, h.claimed, seen-header.nodes);
        share = omega (arith, h.claimed, decode-share w S h.decoded k h.known);
        held = omega (arith, h.held, h.claimed);
      }

  -- a set has no node exactly if its list is empty
  pub seen-empty : v.held ≡ 0 → (set_at S k).list ≡ []
  seen-empty e = held_l-none S.form (list_at S k) (sym own_held ∙ e)

  pub seen-some : (v.held ≡ 0 → ⊥) → (set_at S k).list ≡ [] → ⊥
  seen-some ne e = ne (own_held ∙ ap (held_l S.form) e ∙ held_l-nil S.form)

pub figures : {w : List ℕ} {k : ℕ} {v : Survey} → Surveyed w k v → Figures w k v
figures h = seen-figures (seen h).1
