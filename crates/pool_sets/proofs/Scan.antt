-- The pass over the sets: `scan` is the loop, which judges set by set, and it finds what `found_of` says of the decoded words, for which all the sets are read before
-- they are judged: `finish` is what both come to. Assumes nothing.
use mathlib.Core.Path.{◌≡◌, refl, sym, subst, ◌∙◌}
use mathlib.Core.Bool.{Bool, true, false, cond}
use mathlib.Core.List.{List, [], ◌∷◌}
use Prim.Native.Nat.{ℕ, zero, suc, ◌+◌, ◌-◌, ◌≤◌, ◌<◌, max}
use native.Mathlib.Omega.{arith}
use native.Mathlib.Nat.{add-zero, zero-add, add_assoc}
use lib.Dec.{eqb, leb}
use lib.ListN.{get_or}
use borrow.Author.Tests.{le-leb, lt-leb, eq-eqb, ne_eqb, leb-true, leb-false}
use Rattle.nets.specs.Bits.{Bits}
use Rattle.pool_state.specs.Kept.{held_l, ReadList, bad_list, ok_list, first}
use Rattle.pool_state.proofs.Kept.{held_l-nil}
use Rattle.pool_state.specs.States.{SetState, held, claim, used, claimed}
use Rattle.pool_state.specs.Decode.{base, damaged, sound, ReadSets, bad_sets, ok_sets, set_of, is_right, set_before, is_header, read_set, read_sets, judged, read_pool, form_in}
use Rattle.pool_state.specs.Rules.{share_in, no_set, first_node, survey_of, found_of}
use Rattle.pool_state.specs.declared.Survey.{Survey}
use Rattle.std.specs.Prelude.{Option, Some, None}

-- Start and nodes of set k, of the sets from s and number i on; p where it is not among them.
abbrev chosen : ℕ → ℕ → ℕ → ℕ × ℕ → List SetState → ℕ × ℕ
chosen k s i p [] = p
chosen k s i p (x ∷ xs) = chosen k (s + 1) (i + held x) (cond (eqb s k) (i, held x) p) xs

chosen-past : (k s i : ℕ) (p : ℕ × ℕ) (xs : List SetState) → k < s → chosen k s i p xs ≡ p
chosen-past k s i p [] lt = refl
chosen-past k s i p (x ∷ xs) lt = rw (ne_eqb s k (omega arith)) (chosen-past k (s + 1) (i + held x) p xs (omega arith))

chosen-start : (j s i : ℕ) (xs : List SetState) → chosen (s + j) s i (0, 0) xs ≡ (first_node j i xs, held (get_or xs j no_set))
chosen-start j s i [] = rw (held_l-nil first)
chosen-start zero s i (x ∷ xs) = rw (eq-eqb s (s + 0) (omega arith)) (chosen-past (s + 0) (s + 1) (i + held x) (i, held x) xs (omega arith))
chosen-start (suc j) s i (x ∷ xs) =
    let e : s + suc j ≡ s + 1 + j = omega arith in
    rw (ne_eqb s (s + suc j) (omega arith)) (subst (λ n. chosen n (s + 1) (i + held x) (0, 0) xs ≡ (first_node j (i + held x) xs, held (get_or xs j no_set))) (sym e)
    (chosen-start j (s + 1) (i + held x) xs))

-- what the code makes of its numbers at the end
abbrev pub found : ℕ → ℕ → ℕ × ℕ → Option Survey
found i c p = Some (record { used = i - 1; claimed = c; at = p.0; held = p.1 })

module _ (w : List ℕ) (b n f k : ℕ) where
  -- set s, whose list is l: where it is right and its claim within the pool, the pass goes on
  abbrev pub turn : (ℕ → ℕ → ℕ × ℕ → Option Survey) → ℕ → ℕ → ℕ → ℕ × ℕ → List Bits → Option Survey
  turn next s i c p l =
      cond (is_right w f s l)
      (cond (leb (c + max (share_in w s) (held_l (form_in w) l)) n)
      (next (i + held_l (form_in w) l) (c + max (share_in w s) (held_l (form_in w) l)) (cond (eqb s k) (i, held_l (form_in w) l) p)) None)
      None

  -- m sets of the family f are still to come, from set s and number i on; the claims before them are c, and p is what is known of set k
  unfoldable pub scan : ℕ → ℕ → ℕ → ℕ → ℕ × ℕ → Option Survey
  scan zero s i c p = found i c p
  scan (suc m) s i c p =
      elim (read_set w b n f s i) [
        | bad_list ↦ None
        | ok_list l ↦ turn (scan m (s + 1)) s i c p l
      ]

  -- the same, from all the sets that are read
  abbrev finish : ℕ → ℕ → ℕ → ℕ × ℕ → ReadSets → Option Survey
  finish s i c p bad_sets = None
  finish s i c p (ok_sets xs) = cond (leb (c + claimed xs) n) (found (i + used xs) (c + claimed xs) (chosen k s i p xs)) None

  module _ (s i c : ℕ) (p : ℕ × ℕ) (x : SetState) where
    finish_off : (r : ReadSets) → finish s i c p (set_before false x r) ≡ None
    finish_off bad_sets = refl
    finish_off (ok_sets xs) = refl

    finish-over : (q : Bool) (r : ReadSets) → n < c + claim x → finish s i c p (set_before q x r) ≡ None
    unfolding claimed
    finish-over q bad_sets e = refl
    finish-over true (ok_sets xs) e = rw (lt-leb (c + (claim x + claimed xs)) n (omega arith))
    finish-over false (ok_sets xs) e = refl

    finish-on : (r : ReadSets) → finish (s + 1) (i + held x) (c + claim x) (cond (eqb s k) (i, held x) p) r ≡ finish s i c p (set_before true x r)
    unfolding used claimed
    finish-on bad_sets = refl
    finish-on (ok_sets xs) = rw (add_assoc c (claim x) (claimed xs), add_assoc i (held x) (used xs))

    finish-set : (q : Bool) (r : ReadSets) (z : Option Survey)
        → (c + claim x ≤ n → z ≡ finish (s + 1) (i + held x) (c + claim x) (cond (eqb s k) (i, held x) p) r)
        → cond q (cond (leb (c + claim x) n) z None) None ≡ finish s i c p (set_before q x r)
    finish-set q r z next = go q (leb (c + claim x) n) refl
      where
        go : (q o : Bool) → leb (c + claim x) n ≡ o → cond q (cond o z None) None ≡ finish s i c p (set_before q x r)
        go false o e = sym (finish_off r)
        go true false e = sym (finish-over true r (leb-false (c + claim x) n e))
        go true true e = next (leb-true (c + claim x) n e) ∙ finish-on r

  scan-finish : (m s i c : ℕ) (p : ℕ × ℕ) → c ≤ n → scan m s i c p ≡ finish s i c p (read_sets w b n f m s i)
  unfolding scan read_sets used claimed
  scan-finish zero s i c p le = rw (add-zero c, add-zero i, le-leb c n le)
  scan-finish (suc m) s i c p le = go (read_set w b n f s i) (scan-finish m (s + 1))
    where
      go : (r : ReadList)
          → ((j d : ℕ) (q : ℕ × ℕ) → d ≤ n → scan m (s + 1) j d q ≡ finish (s + 1) j d q (read_sets w b n f m (s + 1) j))
          → elim r [ bad_list ↦ None | ok_list l ↦ turn (scan m (s + 1)) s i c p l ] ≡
          finish s i c p (elim r [ bad_list ↦ bad_sets | ok_list l ↦ set_before (is_right w f s l) (set_of w s l) (read_sets w b n f m (s + 1) (i + held_l (form_in w) l)) ])
      go bad_list ih = refl
      go (ok_list l) ih =
          let x = set_of w s l in
          let q = cond (eqb s k) (i, held x) p in
          finish-set s i c p x (is_right w f s l) (read_sets w b n f m (s + 1) (i + held x)) (scan m (s + 1) (i + held x) (c + claim x) q) (ih (i + held x) (c + claim x) q)

finish-judged : (w : List ℕ) (b f k : ℕ) (r : ReadSets) → finish w b (get_or w 3 0) f k 0 1 0 (0, 0) r ≡ found_of (judged w r) k
unfolding survey_of found_of
finish-judged w b f k bad_sets = refl
finish-judged w b f k (ok_sets xs) = rw (zero-add (claimed xs)) (go (leb (claimed xs) (get_or w 3 0)))
  where
    start : chosen k 0 1 (0, 0) xs ≡ (first_node k 1 xs, held (get_or xs k no_set))
    start = rw (zero-add k) at (chosen-start k 0 1 xs)

    go : (o : Bool) → cond o (found (1 + used xs) (claimed xs) (chosen k 0 1 (0, 0) xs)) None
        ≡ found_of (cond o (sound (record { family = get_or w 1 0; form = form_in w; nodes = get_or w 3 0; sets = xs })) damaged) k
    go true = let e : 1 + used xs - 1 ≡ used xs = omega arith in rw (start, e)
    go false = refl

-- From the first set on, the pass finds what the state that is read says.
pub scan-survey : (w : List ℕ) (k : ℕ) → is_header w ≡ true → scan w (base (get_or w 2 0)) (get_or w 3 0) (get_or w 1 0) k (get_or w 2 0) 0 1 0 (0, 0) ≡ found_of (read_pool w) k
unfolding read_pool
scan-survey w k h =
    let b = base (get_or w 2 0) in
    let n = get_or w 3 0 in
    let f = get_or w 1 0 in
    scan-finish w b n f k (get_or w 2 0) 0 1 0 (0, 0) (omega arith) ∙ rw h (finish-judged w b f k (read_sets w b n f (get_or w 2 0) 0 1))
