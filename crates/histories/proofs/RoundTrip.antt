-- Ranges out of a set and in again. The list of a set is what the last granted call that relists it made (`last-granted`), so ranges imported one by one into
-- an empty set cover their addresses and no others, whatever calls stand between; simplified, that is one list. Assumes nothing.
use mathlib.Core.Path.{◌≡◌, refl, sym, ap, ◌∙◌}
use mathlib.Core.Bool.{Bool, true, false, ◌||◌, or_comm, false≢true}
use mathlib.Core.List.Memᴰ
use mathlib.Core.List.{List, [], ◌∷◌, map, Memᴰ}
use mathlib.Core.Logic.{◌↔◌, ◌⊎◌, inl, inr}
use Prim.Native.Nat.{ℕ, zero, suc, ◌+◌, ◌*◌, ◌^◌, ◌≤◌, ◌<◌}
use native.Mathlib.Decide.{dec_lt}
use native.Mathlib.Omega.{arith}
use lib.Dec.{eqb, leb, ltb}
use lib.ListN.{length, drop}
use borrow.Author.Tests.{ltb-true, leb-true, eqb-true, eqb-false, lt-ltb, le-ltb, le-leb, eq-eqb}
use Rattle.nets.specs.Bits.{Bits, val, before, bits}
use Rattle.nets.specs.Tries.{levels, list_of, insert_t, trie_of, simplify_t}
use Rattle.nets.specs.Lists.{covers, is_list, nodes_l, add_l, remove_l, simplify_l}
use Rattle.nets.specs.Networks.{width, net_bits, in_range, refusal_of}
use Rattle.nets.specs.Refusals.{first_no}
use Rattle.nets.specs.declared.Net.{Net}
use Rattle.nets.proofs.Strings.{and_left, and_right, bool_iff}
use Rattle.nets.proofs.Order.{val-high}
use Rattle.nets.proofs.Numbers.{bits-val}
use Rattle.nets.proofs.TrieOf.{is_list-within}
use Rattle.nets.proofs.Fewest.{covers-same}
use Rattle.nodes.specs.Words.{put}
use Rattle.address_order.specs.Streams.{in_address_order, put_in_order}
use Rattle.ranges.specs.Ranges.{Range, holds, in_some, spaced, block_of, joined, ranges_of, Covering}
use Rattle.ranges.specs.Blocks.{part_of, range_t, nets_of, add_all, add_range_l}
use Rattle.ranges.specs.Addresses.{range_rows}
use Rattle.ranges.proofs.OfRanges.{covers-add_range}
use Rattle.setfile_range.proofs.Walking.{address-words}
use Rattle.change_many.specs.Calls.{span_words, range_of, is_span, span_rules}
use Rattle.change_many.specs.declared.Span.{Span}
use Rattle.pool_state.specs.Kept.{held_l}
use Rattle.pool_state.specs.States.{SetState, State, claimed, claimed_but}
use Rattle.pool_state.specs.Decode.{sound, decode}
use Rattle.pool_state.specs.Rules.{setup, empty_state}
use Rattle.pool_state.specs.Changes.{list_at, with_set, change_rules, relist_rules, relist_set, net_rules}
use Rattle.pool_state.proofs.Claims.{is_list-list_at}
use Rattle.pool_state.proofs.Decoded.{decode-state}
use Rattle.rangelist.specs.Calls.{ranges_at, Ranges}
use Rattle.rangelist.proofs.Outcomes.{ranges-noset, ranges-small, ranges-rows, own-covering, own-spaced}
use Rattle.histories.specs.Calls.{Relist, Call, add, remove, simplify, add_range, relist, replan, make_public, writes, result_of, state_after, Outcome}
use Rattle.histories.specs.Histories.{state_from, answers_from, History, begin, step}
use Rattle.histories.specs.Imports.{spans_in, granted_on}
use Rattle.histories.proofs.Histories.{state_from-numbers, lists-valid, only-written, lists-stay, lists-marked}
use Rattle.histories.proofs.MergeOrder.{granted-list, refused-state}
use Rattle.std.specs.Prelude.{Ok}

-- the list l is what the call c made of the state after a history in which the calls gs had been granted on set x
abbrev pub Made : List ℕ → State → ℕ → Relist → List Relist → List Bits → Type 0
Made z S x c gs l = (cs : List Call) × (rs : List (ℕ × ℕ)) × (v : List ℕ) × History z cs rs v × (granted_on x cs rs ≡ gs) × (l ≡ result_of c (state_from S cs))

-- One step gives set x another list where it relists it and is granted, and else leaves it its list.
abbrev Steps : State → ℕ → List Call → List (ℕ × ℕ) → Call → ℕ × ℕ → Type 0
Steps S x cs rs c r =
    ((granted_on x (c ∷ cs) (r ∷ rs) ≡ granted_on x cs rs) × (list_at (state_from S (c ∷ cs)) x ≡ list_at (state_from S cs) x))
    ⊎ ((g : Relist) × (granted_on x (c ∷ cs) (r ∷ rs) ≡ g ∷ granted_on x cs rs) × (list_at (state_from S (c ∷ cs)) x ≡ result_of g (state_from S cs)))

module _ {z : List ℕ} {S : State} (d : decode z ≡ sound S) (x : ℕ) where
  steps : {cs : List Call} {rs : List (ℕ × ℕ)} {u v : List ℕ} (c : Call) {r : ℕ × ℕ} → History z cs rs u → Outcome u c r v → Steps S x cs rs c r
  unfolding granted_on
  steps {cs} {rs} (relist c) {r} h o = go (eqb (writes c) x) refl (eqb r.0 0) refl
    where
      go : (a : Bool) → eqb (writes c) x ≡ a → (b : Bool) → eqb r.0 0 ≡ b → Steps S x cs rs (relist c) r
      go true e true f =
          let own = granted-list d c h o (eqb-true r.0 0 f) in
          inr (c, rw (e, f), ap (list_at (state_from S (relist c ∷ cs))) (sym (eqb-true (writes c) x e)) ∙ own)
      go true e false f = inl (rw (e, f), ap (λ T. list_at T x) (refused-state d (relist c) h o (eqb-false r.0 0 f)))
      go false e b f = inl (rw e, ap (λ (s : SetState). s.list) (only-written S cs (relist c) x (λ q. eqb-false (writes c) x e (sym q))))
  steps {cs} (replan k a b) h o = inl (refl, lists-stay S cs k a b x)
  steps {cs} (make_public k) h o = inl (refl, lists-marked S cs k x)

  pub never-granted : {cs : List Call} {rs : List (ℕ × ℕ)} {v : List ℕ} → History z cs rs v → granted_on x cs rs ≡ [] → list_at (state_from S cs) x ≡ list_at S x
  unfolding state_from
  never-granted begin e = refl
  never-granted (step {cs = cs} {rs = rs} {c = c} {r = r} h o) e = go (steps c h o) (λ f. never-granted h f)
    where
      go : Steps S x cs rs c r → (granted_on x cs rs ≡ [] → list_at (state_from S cs) x ≡ list_at S x) → list_at (state_from S (c ∷ cs)) x ≡ list_at S x
      go (inl (f, l)) i = l ∙ i (sym f ∙ e)
      go (inr (g, f, l)) i = let q : ◌≡◌ {A = ℕ} 0 1 = cc in absurd (omega arith)

  pub last-granted : {cs : List Call} {rs : List (ℕ × ℕ)} {v : List ℕ} {g : Relist} {gs : List Relist} → History z cs rs v → granted_on x cs rs ≡ g ∷ gs
      → Made z S x g gs (list_at (state_from S cs) x)
  unfolding granted_on
  last-granted begin e = let q : ◌≡◌ {A = ℕ} 0 1 = cc in absurd (omega arith)
  last-granted {g = g} {gs} (step {cs = cs} {rs = rs} {c = c} {r = r} {u = u} h o) e = go (steps c h o) (λ f. last-granted h f)
    where
      go : Steps S x cs rs c r → (granted_on x cs rs ≡ g ∷ gs → Made z S x g gs (list_at (state_from S cs) x)) → Made z S x g gs (list_at (state_from S (c ∷ cs)) x)
      go (inl (f, l)) i = let (ds, ss, t, k, j, m) = i (sym f ∙ e) in (ds, ss, t, k, j, l ∙ m)
      go (inr (b, f, l)) i = let q : b ≡ g = cc in let j : granted_on x cs rs ≡ gs = cc in (cs, rs, u, h, j, l ∙ ap (λ c. result_of c (state_from S cs)) q)

  -- Ranges into a set that was empty.
  module _ (empty : list_at S x ≡ []) where
    covers-imported : (ps : List Span) {cs : List Call} {rs : List (ℕ × ℕ)} {v : List ℕ} → History z cs rs v → granted_on x cs rs ≡ map (add_range x) ps
        → (a : Bits) → length a ≡ width S.family → covers (list_at (state_from S cs) x) a ≡ in_some (map range_of ps) (val a)
    covers-imported [] h e a n = rw (never-granted h e, empty)
    covers-imported (p ∷ ps) h e a n =
        let (cs, rs, v, k, f, m) = last-granted h e in
        rw (m, (state_from-numbers S cs).0)
        (covers-add_range (width S.family) (list_at (state_from S cs) x) (range_of p) a (lists-valid d k x) n
        ∙ ap (λ b. b || holds (range_of p) (val a)) (covers-imported ps k f a n) ∙ or_comm (in_some (map range_of ps) (val a)) (holds (range_of p) (val a)))

    -- Ranges that have exactly the addresses of a list, imported one by one and simplified, give the simplified list: in any order, meeting others or repeated,
    -- and whatever other calls stand between that do not relist the set.
    pub history-imported : (ps : List Span) {cs : List Call} {rs : List (ℕ × ℕ)} {v : List ℕ} → History z cs rs v
        → granted_on x cs rs ≡ simplify x ∷ map (add_range x) ps → (l : List Bits) → is_list (width S.family) l ≡ true
        → Covering (width S.family) l (map range_of ps) → list_at (state_from S cs) x ≡ simplify_l l
    history-imported ps h e l i c =
        let w = width S.family in
        let (cs, rs, v, k, f, m) = last-granted h e in
        let now = list_at (state_from S cs) x in
        m ∙ (covers-same w now l (is_list-within w now (lists-valid d k x)) (is_list-within w l i)).0
        (λ a n. covers-imported ps k f a n ∙ c (val a)
        ∙ rw (bits-val w a n) (let q : val a < 2 ^ w = rw (← n) (val-high a) in rw (lt-ltb (val a) (2 ^ w) q)))

-- The rows of an export, read as ranges.
range_of-spans : (f : ℕ) (rs : List Range) (v : List ℕ) → 4 * length rs ≤ length v → map range_of (spans_in f (length rs) (put v 0 (range_rows rs))) ≡ rs
unfolding spans_in put range_rows
range_of-spans f [] v h = refl
range_of-spans f (r ∷ rs) [] h = absurd (omega arith)
range_of-spans f (r ∷ rs) (a ∷ []) h = absurd (omega arith)
range_of-spans f (r ∷ rs) (a ∷ b ∷ []) h = absurd (omega arith)
range_of-spans f (r ∷ rs) (a ∷ b ∷ c ∷ []) h = absurd (omega arith)
range_of-spans f (r ∷ rs) (a ∷ b ∷ c ∷ d ∷ v) h = rw (address-words r.first, address-words r.last, range_of-spans f rs v (omega arith))

exported : {w : List ℕ} {S : State} → decode w ≡ sound S → (k : ℕ) {v u : List ℕ} {n : ℕ} → Ranges w k v (Ok n) u
    → (k < length S.sets) × (map range_of (spans_in S.family n u) ≡ ranges_at S k)
exported {w} {S} d k {v} {u} {n} r = go (dec_lt k (length S.sets)) (dec_lt (length v) (4 * length (ranges_at S k)))
  where
    go : Dec (k < length S.sets) → Dec (length v < 4 * length (ranges_at S k))
        → (k < length S.sets) × (map range_of (spans_in S.family n u) ≡ ranges_at S k)
    go (no ge) b = let e = (ranges-noset r S d (omega arith)).0 in let q : ◌≡◌ {A = ℕ} 0 1 = cc in absurd (omega arith)
    go (yes lt) (yes less) = let e = (ranges-small r S d lt less).0 in let q : ◌≡◌ {A = ℕ} 0 1 = cc in absurd (omega arith)
    go (yes lt) (no ge) =
        let le : 4 * length (ranges_at S k) ≤ length v = omega arith in
        let (e, f) = ranges-rows r S d lt le in
        let m : n ≡ length (ranges_at S k) = cc in
        (lt, rw (f, m) (range_of-spans S.family (ranges_at S k) v le))

-- In any order, each once or more often, ranges have the same addresses.
module _ (a : ℕ) where
  in_some-one : (p : Span) (qs : List Span) → Memᴰ p qs → holds (range_of p) a ≡ true → in_some (map range_of qs) a ≡ true
  in_some-one p [] m h = absurd (Memᴰ.not-nil m)
  in_some-one p (q ∷ qs) (Memᴰ.head e) h = rw (ap (λ s. holds (range_of s) a) (sym e) ∙ h)
  in_some-one p (q ∷ qs) (Memᴰ.tail m) h = rw (in_some-one p qs m h) (or_comm (holds (range_of q) a) true)

  in_some-all : (ps qs : List Span) → ((p : Span) → Memᴰ p ps → Memᴰ p qs) → in_some (map range_of ps) a ≡ true
      → in_some (map range_of qs) a ≡ true
  in_some-all [] qs m h = absurd (false≢true h)
  in_some-all (p ∷ ps) qs m h = go (holds (range_of p) a) refl (in_some-all ps qs (λ s k. m s (Memᴰ.tail k)))
    where
      go : (b : Bool) → holds (range_of p) a ≡ b → (in_some (map range_of ps) a ≡ true → in_some (map range_of qs) a ≡ true) → in_some (map range_of qs) a ≡ true
      go true e i = in_some-one p qs (m p (Memᴰ.head refl)) e
      go false e i = i (rw e at h)

  in_some-same : (ps qs : List Span) → ((p : Span) → Memᴰ p ps ↔ Memᴰ p qs) → in_some (map range_of ps) a ≡ in_some (map range_of qs) a
  in_some-same ps qs m = bool_iff (in_some (map range_of ps) a) (in_some (map range_of qs) a) (in_some-all ps qs (λ p. (m p).0)) (in_some-all qs ps (λ p. (m p).1))

-- An import of what was exported is never refused for its range: the family is the pool's, both ends are addresses, and the first is not above the last. Mark,
-- limit and room are left.
spaced-first : (rs : List Range) → spaced rs ≡ true → (r : Range) → Memᴰ r rs → r.first ≤ r.last
unfolding spaced
spaced-first [] e r m = absurd (Memᴰ.not-nil m)
spaced-first (s ∷ []) e r (Memᴰ.head q) = rw q (leb-true s.first s.last e)
spaced-first (s ∷ []) e r (Memᴰ.tail m) = absurd (Memᴰ.not-nil m)
spaced-first (s ∷ t ∷ rs) e r (Memᴰ.head q) = rw q (leb-true s.first s.last (and_left (leb s.first s.last) _ e))
spaced-first (s ∷ t ∷ rs) e r (Memᴰ.tail m) =
    spaced-first (t ∷ rs) (and_right (ltb (suc s.last) t.first) _ (and_right (leb s.first s.last) _ e)) r m

family-spans : (f n : ℕ) (u : List ℕ) (p : Span) → Memᴰ p (spans_in f n u) → p.family ≡ f
unfolding spans_in
family-spans f zero u p m = absurd (Memᴰ.not-nil m)
family-spans f (suc n) u p (Memᴰ.head e) = ap (λ (s : Span). s.family) e
family-spans f (suc n) u p (Memᴰ.tail m) = family-spans f n (drop 4 u) p m

range-in : (ps : List Span) (p : Span) → Memᴰ p ps → Memᴰ (range_of p) (map range_of ps)
range-in [] p m = absurd (Memᴰ.not-nil m)
range-in (q ∷ ps) p (Memᴰ.head e) = Memᴰ.head (ap range_of e)
range-in (q ∷ ps) p (Memᴰ.tail m) = Memᴰ.tail (range-in ps p m)

pub exported-right : {w : List ℕ} {S : State} → decode w ≡ sound S → (k : ℕ) {v u : List ℕ} {n : ℕ} → Ranges w k v (Ok n) u
    → (T : State) → T.family ≡ S.family → (p : Span) → Memᴰ p (spans_in S.family n u) → first_no (span_rules p T) ≡ 0
unfolding span_rules is_span
exported-right {w} {S} d k {v} {u} {n} r T fam p m =
    let (lt, rows) = exported d k r in
    let f = S.family in
    let own = family-spans f n u p m in
    let le = spaced-first (ranges_at S k) (own-spaced w S k d lt) (range_of p) (rw rows at (range-in (spans_in f n u) p m)) in
    let a = (range_of p).first in
    let b = (range_of p).last in
    let last : holds (range_of p) b ≡ true = rw (le-leb a b le, le-leb b b (omega arith)) in
    let some = rw rows at (in_some-one b p (spans_in f n u) m last) in
    let high = ltb-true b (2 ^ width f) (and_left _ _ (sym (own-covering w S k d lt b) ∙ some)) in
    rw (own, fam, eq-eqb f f refl, lt-ltb a (2 ^ width f) (omega arith), lt-ltb b (2 ^ width f) high, le-ltb b a le)

-- "Ranges of an exported set, imported unrefused into an empty set and simplified, give the simplified list." Export set k of any sound words w; take the
-- ranges that the rows now have, in any order, into an empty set x of any sound words z of the family, the same pool or another, each granted; simplify. Any
-- other calls may stand between, granted on other sets or refused.
pub history-round-trip : {w : List ℕ} {S : State} → decode w ≡ sound S → (k : ℕ) {v u : List ℕ} {n : ℕ} → Ranges w k v (Ok n) u
    → {z : List ℕ} {T : State} → decode z ≡ sound T → T.family ≡ S.family → (x : ℕ) → list_at T x ≡ []
    → {cs : List Call} {rs : List (ℕ × ℕ)} {y : List ℕ} → History z cs rs y → (ps : List Span) → granted_on x cs rs ≡ simplify x ∷ map (add_range x) ps
    → ((p : Span) → Memᴰ p ps ↔ Memᴰ p (spans_in S.family n u)) → list_at (state_from T cs) x ≡ simplify_l (list_at S k)
history-round-trip {w} {S} d k {v} {u} {n} r {z} {T} e fam x empty h ps g m =
    let rows = exported d k r in
    history-imported e x empty ps h g (list_at S k) (rw fam (is_list-list_at S k (decode-state w S d)))
    (λ a. in_some-same a ps (spans_in S.family n u) m ∙ ap (λ l. in_some l a) rows.1 ∙ rw fam (own-covering w S k d rows.0 a))

-- Both ends of the address space and two halves in set 0: three ranges, since the last address does not go on at zero. They are imported into set 1 in another
-- order, and set 0 is emptied between.
abbrev pool2 : State
pool2 = empty_state (setup 4 0 2 200 (8 ∷ 8 ∷ []) (100 ∷ 100 ∷ []) 0)

abbrev net : ℕ → ℕ → Net
net a n = record { family = 4; hi = 0; lo = a * 2 ^ 8; len = n }

abbrev span : ℕ → ℕ → Span
span a b = span_words 4 0 (a * 2 ^ 8) 0 (a * 2 ^ 8 + b)

abbrev four : List Call
four = relist (add 0 (net 0xc0a801 24)) ∷ relist (add 0 (net 0xc0a800 24)) ∷ relist (add 0 (net 0xff0000 8)) ∷ relist (add 0 (net 0 8)) ∷ []

abbrev trip : List Call
trip =
    relist (simplify 1)
    ∷ relist (add_range 1 (span 0xc0a800 511))
    ∷ relist (add_range 1 (span 0 0xffffff))
    ∷ relist (remove 0 (net 0 0))
    ∷ relist (add_range 1 (span 0xff0000 0xffffff))
    ∷ four

pub worked-trip : (ranges_at (state_from pool2 four) 0 ≡ range_of (span 0 0xffffff) ∷ range_of (span 0xc0a800 511) ∷ range_of (span 0xff0000 0xffffff) ∷ [])
    × (answers_from pool2 trip ≡ (0, 38) ∷ (0, 38) ∷ (0, 17) ∷ (0, 0) ∷ (0, 9) ∷ (0, 40) ∷ (0, 39) ∷ (0, 17) ∷ (0, 9) ∷ [])
    × (list_at (state_from pool2 trip) 1 ≡ net_bits (net 0 8) ∷ net_bits (net 0xff0000 8) ∷ net_bits (net 0xc0a800 23) ∷ [])
unfolding state_from answers_from state_after change_rules with_set relist_rules relist_set net_rules span_rules is_span refusal_of in_range width net_bits bits add_l remove_l
    add_range_l add_all nets_of range_t part_of held_l nodes_l before claimed_but claimed simplify_l list_of trie_of simplify_t insert_t levels ranges_at
    ranges_of joined block_of in_address_order put_in_order
worked-trip = (refl, refl, refl)
