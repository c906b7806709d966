-- No changing call and no layout touches a word past the smallest buffer, and none makes the buffer longer or shorter: what is written of a state ends before it. Assumes nothing.
use mathlib.Core.Path.{◌≡◌, refl, ◌∙◌}
use mathlib.Core.Bool.{Bool, true, false, cond}
use mathlib.Core.List.{List, [], ◌∷◌}
use Prim.Native.Nat.{ℕ, ◌+◌, ◌*◌, ◌≤◌}
use native.Mathlib.Omega.{arith}
use lib.Dec.{eqb}
use lib.ListN.{length, get_or, replicate, length-replicate}
use borrow.Author.Tests.{eqb-true}
use Rattle.nets.specs.Bits.{digit}
use Rattle.nodes.specs.Words.{put}
use Rattle.nodes.proofs.Put.{get_or-put-behind, length-put}
use Rattle.pool_state.specs.Kept.{form_no}
use Rattle.pool_state.specs.States.{SetState, State, held, indexed_of, is_state}
use Rattle.pool_state.specs.Decode.{mark, record_at, base, least_of, root_at, over_records, node_words, over_sets, indexes_at, tag_of, index_words, over_indexes, over}
use Rattle.pool_state.specs.Rules.{Setup, words_of, empty_state, layout_no, laid, Laid}
use Rattle.pool_state.proofs.Claims.{is_state-sets, is_state-claimed, used-claimed}
use Rattle.pool_state.proofs.Holds.{node_words-few}
use Rattle.pool_state.proofs.Indexed.{length-index_words}
use Rattle.pool_state.proofs.Whole.{length_over}
use Rattle.pool_state.proofs.Decoded.{laid-state, laid-least}

-- the words v are as many as the words w, and from word m on the same
pub record Past (m : ℕ) (w v : List ℕ) : Type 0 where
  pub long : length v ≡ length w
  pub same : (j : ℕ) → m ≤ j → get_or v j 0 ≡ get_or w j 0

pub past-refl : (m : ℕ) (w : List ℕ) → Past m w w
past-refl m w = record { long = refl; same = λ j le. refl }

pub past-trans : {m : ℕ} {u v w : List ℕ} → Past m u v → Past m v w → Past m u w
past-trans h g = record { long = g.long ∙ h.long; same = λ j le. g.same j le ∙ h.same j le }

over_records-past : (w : List ℕ) (s i : ℕ) (xs : List SetState) (j : ℕ) → record_at (s + length xs) ≤ j → get_or (over_records w s i xs) j 0 ≡ get_or w j 0
unfolding over_records
over_records-past w s i [] j le = refl
over_records-past w s i (x ∷ xs) j le =
    over_records-past (put w (record_at s) (root_at i x.list ∷ x.share ∷ x.limit ∷ digit x.public ∷ [])) (s + 1) (i + held x) xs j (omega arith)
    ∙ get_or-put-behind w (record_at s) (root_at i x.list ∷ x.share ∷ x.limit ∷ digit x.public ∷ []) j (omega arith)

over_sets-past : (w : List ℕ) (S : State) → is_state S ≡ true → (j : ℕ) → indexes_at S ≤ j → get_or (over_sets w S) j 0 ≡ get_or w j 0
unfolding over_sets
over_sets-past w S e j le =
    let n = length S.sets in
    let h = mark ∷ S.family ∷ n ∷ S.nodes ∷ [] in
    let u = put (put w 0 h) 5 (form_no S.form ∷ []) in
    let l = node_words-few S.form S.family S.sets (is_state-sets S e) in
    get_or-put-behind (over_records u 0 1 S.sets) (base n) (node_words S.family S.sets) j (omega (arith, l, used-claimed S.sets, is_state-claimed S e))
    ∙ (over_records-past u 0 1 S.sets j (omega arith) ∙ get_or-put-behind (put w 0 h) 5 (form_no S.form ∷ []) j (omega arith) ∙ get_or-put-behind w 0 h j (omega arith))

over_indexes-past : (w : List ℕ) (m s i : ℕ) (xs : List SetState) (j : ℕ) → record_at (s + length xs) ≤ m → m + 256 * (i + indexed_of xs) ≤ j → get_or (over_indexes w m s i xs) j 0 ≡ get_or w j 0
unfolding over_indexes indexed_of
over_indexes-past w m s i [] j b le = get_or-put-behind w 4 (i ∷ []) j (omega arith)
over_indexes-past w m s i (x ∷ xs) j b le =
    let ts = tag_of x.indexed i ∷ [] in
    over_indexes-past (put (put w (record_at s + 4) ts) (m + 256 * i) (index_words x)) m (s + 1) (i + digit x.indexed) xs j (omega arith) (omega arith)
    ∙ get_or-put-behind (put w (record_at s + 4) ts) (m + 256 * i) (index_words x) j (omega (arith, length-index_words x))
    ∙ get_or-put-behind w (record_at s + 4) ts j (omega arith)

pub over-past : (w : List ℕ) (S : State) → is_state S ≡ true → Past (least_of S) w (over w S)
unfolding over
over-past w S e = record {
  long = length_over w S;
  same = λ j le. over_indexes-past (over_sets w S) (indexes_at S) 0 0 S.sets j (omega arith) (omega arith) ∙ over_sets-past w S e j (omega arith);
}

-- layout, granted or refused
laid-past : (w : List ℕ) (p : Setup) → layout_no w p ≡ 0 → Past (words_of p) w (laid w p)
unfolding laid
laid-past w p e =
    let m = words_of p in
    let z : List ℕ = replicate m 0 in
    let n : length z ≡ m = length-replicate m 0 in
    let o = over-past (put w 0 z) (empty_state p) (laid-state w p e) in
    past-trans (record { long = length-put w 0 z; same = λ j le. get_or-put-behind w 0 z j (omega arith) }) (rw (laid-least w p e) at o)

pub layout-past : {w v : List ℕ} {p : Setup} {r : ℕ × ℕ} → Laid w p r v → Past (words_of p) w v
layout-past {w} {v} {p} h = rw h.words (go (eqb (layout_no w p) 0) refl)
  where
    go : (b : Bool) → eqb (layout_no w p) 0 ≡ b → Past (words_of p) w (cond b (laid w p) w)
    go true q = laid-past w p (eqb-true (layout_no w p) 0 q)
    go false q = past-refl _ w
