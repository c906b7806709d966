-- The roots after a change: a turn of the loop that writes them, by what is still to be written; and `relinked` leaves what writing the records of the state
-- afterwards leaves, as of each record behind only the root moves. Assumes nothing.
use mathlib.Core.Path.{◌≡◌, refl, sym, ap, ◌∙◌}
use mathlib.Core.List.{List, [], ◌∷◌}
use Prim.Native.Nat.{ℕ, zero, suc, ◌+◌, ◌-◌, ◌≤◌, ◌<◌}
use native.Mathlib.Nat.{zero-add}
use native.Mathlib.Numerals.{add-one}
use native.Mathlib.Omega.{arith}
use lib.ListN.{length, get_or, set, length-set}
use lib.Seq.{get_or-set_other}
use borrow.Author.Tests.{ne_eqb}
use Rattle.nets.specs.Bits.{Bits}
use Rattle.nodes.specs.Words.{put, Has}
use Rattle.pool_state.specs.Kept.{held_l, Form}
use Rattle.pool_state.specs.States.{SetState, held}
use Rattle.pool_state.specs.Decode.{record_at, base, root_at, over_records}
use Rattle.pool_state.specs.Rules.{no_set, first_node}
use Rattle.pool_state.specs.Changes.{sets_with, set_with}
use Rattle.pool_state.specs.Steps.{own_root, moved_root, moved_roots, relinked, Movable, Relink}
use Rattle.nodes.proofs.Put.{length-put, set-put, put-behind-at, put-swap, get_or-put-before, get_or-put-out}
use Rattle.nodes.proofs.Has.{has-put, has-head, has-tail, has_same}
use Rattle.pool_state.proofs.Kept.{held_l-nil, held_l-none}
use Rattle.pool_state.proofs.Holds.{Records, records-put, cons-some}

-- The loop: the roots behind set k and before set s of m are right.
pub record Turn (w₀ : List ℕ) (k old new m : ℕ) (w : List ℕ) (s : ℕ) : Type 0 where
  pub size : length w ≡ length w₀
  pub long : record_at m ≤ length w₀
  pub within : s ≤ m
  pub roots : (j : ℕ) → s ≤ j → j < m → Movable old new (get_or w (record_at j) 0)
  pub is : moved_roots w old new (m - s) s ≡ moved_roots w₀ old new (m - suc k) (k + 1)

-- a store at another record
module _ (w : List ℕ) (s x j : ℕ) (ne : j ≡ s → ⊥) (old new : ℕ) where
  movable-set : Movable old new (get_or w (record_at j) 0) → Movable old new (get_or (set w (record_at s) x) (record_at j) 0)
  movable-set f = rw (get_or-set_other w (record_at s) (record_at j) x 0 (λ e. ne (omega arith))) f

pub turn-first : {w : List ℕ} {k old new : ℕ} (x : ℕ) → Relink w k old new → Turn (set w (record_at k) x) k old new (get_or w 2 0) (set w (record_at k) x) (k + 1)
turn-first {w} {k} {old} {new} x h = record {
  size = refl;
  long = rw (length-set w (record_at k) x) h.long;
  within = omega (arith, h.known);
  roots = λ j a b. movable-set w k x j (λ e. omega arith) old new (h.roots j (omega arith) b);
  is = rw (add-one k);
}

module _ {w₀ : List ℕ} {k old new m : ℕ} {w : List ℕ} {s : ℕ} (h : Turn w₀ k old new m w s) where
  pub turn-next : {x : ℕ} → x ≡ moved_root old new (get_or w (record_at s) 0) → s < m → Turn w₀ k old new m (set w (record_at s) x) (s + 1)
  unfolding moved_roots
  turn-next {x} q lt =
      let e : m - s ≡ suc (m - (s + 1)) = omega arith in
      record {
        size = length-set w (record_at s) x ∙ h.size;
        long = h.long;
        within = omega arith;
        roots = λ j a b. movable-set w s x j (λ d. omega arith) old new (h.roots j (omega arith) b);
        is = rw (set-put w (record_at s) x, q) (rw e at h.is);
      }

  turn_last : m ≤ s → w ≡ moved_roots w₀ old new (m - suc k) (k + 1)
  unfolding moved_roots
  turn_last le = let e : m - s ≡ 0 = omega (arith, h.within) in rw e at h.is

pub turns : (u : List ℕ) {k : ℕ} (i : ℕ) {old new : ℕ} (x : ℕ) {w : List ℕ} {s : ℕ}
    → Turn (set u (record_at k) x) k old new (get_or u 2 0) w s → x ≡ own_root i new → get_or u 2 0 ≤ s → w ≡ relinked u k i old new
unfolding relinked
turns u {k} i x h q le = rw (← q, ← set-put u (record_at k) x) (turn_last h le)

-- A root by the list.
moved_root-is : (i old new : ℕ) (l : List Bits) → 1 ≤ i → moved_root old new (root_at (i + old) l) ≡ root_at (i + new) l
moved_root-is i old new [] pos = refl
moved_root-is i old new (p ∷ l) pos = rw (ne_eqb (i + old) 0 (λ e. omega arith)) (omega arith)

own_root-is : (F : Form) (i : ℕ) (l : List Bits) → own_root i (held_l F l) ≡ root_at i l
own_root-is F i [] = rw (held_l-nil F)
own_root-is F i (p ∷ l) = rw (ne_eqb (held_l F (p ∷ l)) 0 (λ e. cons-some p l (held_l-none F (p ∷ l) e)))

-- Where the share and the limit of a set stand, writing its record writes its root.
put-root : {w : List ℕ} {p x : ℕ} {ys : List ℕ} (r : ℕ) → Has w p (x ∷ ys) → put w p (r ∷ ys) ≡ put w p (r ∷ [])
put-root {w} {p} {x} {ys} r h =
    sym (put-behind-at w p (p + 1) (r ∷ []) ys refl) ∙ has_same (has-put p (r ∷ []) (has-tail h) (λ k a b c d. omega arith))

-- The records behind a set that changed.
over_records-moved : (w : List ℕ) (s i old new : ℕ) (xs : List SetState) → 1 ≤ i → Records w s (i + old) xs → over_records w s (i + new) xs ≡ moved_roots w old new (length xs) s
unfolding over_records moved_roots
over_records-moved w s i old new [] pos h = refl
over_records-moved w s i old new (x ∷ xs) pos h =
    let r = root_at (i + new) x.list in
    let u = put w (record_at s) (r ∷ []) in
    let root : moved_root old new (get_or w (record_at s) 0) ≡ r = ap (moved_root old new) (has-head h.0) ∙ moved_root-is i old new x.list pos in
    let a : i + new + held x ≡ i + held x + new = omega arith in
    let b : i + old + held x ≡ i + held x + old = omega arith in
    let g : Records u (s + 1) (i + held x + old) xs = rw b at (records-put w (s + 1) (i + old + held x) xs (record_at s) (r ∷ []) (λ k c d e f. omega arith) h.1) in
    ap (λ y. over_records y (s + 1) (i + new + held x) xs) (put-root r h.0)
    ∙ ap (λ j. over_records u (s + 1) j xs) a
    ∙ over_records-moved u (s + 1) (i + held x) old new xs (omega arith) g
    ∙ ap (λ q. moved_roots (put w (record_at s) (q ∷ [])) old new (length xs) (s + 1)) (sym root)

-- The records from set s on, where set s + k has another list.
over_records-with : (k : ℕ) (l : List Bits) (w : List ℕ) (s i : ℕ) (ss : List SetState) → 1 ≤ i → k < length ss → Records w s i ss
    → over_records w s i (sets_with k (set_with (get_or ss k no_set) l) ss) ≡ moved_roots (put w (record_at (s + k)) (root_at (first_node k i ss) l ∷ [])) (held (get_or ss k no_set)) (held_l (get_or ss k no_set).form l) (length ss - suc k) (s + k + 1)
unfolding over_records
over_records-with k l w s i [] pos lt h = absurd (omega arith)
over_records-with zero l w s i (x ∷ xs) pos lt h =
    let u = put w (record_at s) (root_at i l ∷ []) in
    let a : s + 0 ≡ s = omega arith in
    let b : suc (length xs) - 1 ≡ length xs = omega arith in
    let g = records-put w (s + 1) (i + held x) xs (record_at s) (root_at i l ∷ []) (λ j c d e f. omega arith) h.1 in
    rw (a, b) (ap (λ y. over_records y (s + 1) (i + held_l x.form l) xs) (put-root (root_at i l) h.0) ∙ over_records-moved u (s + 1) i (held x) (held_l x.form l) xs pos g)
over_records-with (suc k) l w s i (x ∷ xs) pos lt h =
    let a : s + suc k ≡ s + 1 + k = omega arith in
    let b : suc (length xs) - suc (suc k) ≡ length xs - suc k = omega arith in
    rw (a, b) (ap (λ y. over_records y (s + 1) (i + held x) (sets_with k (set_with (get_or xs k no_set) l) xs)) (has_same h.0) ∙ over_records-with k l w (s + 1) (i + held x) xs (omega arith) (omega arith) h.1)

-- What stands behind the records does not matter to the roots.
moved_roots-put : (m : ℕ) (w : List ℕ) (old new s q : ℕ) (ys : List ℕ) → record_at (s + m) ≤ q → moved_roots (put w q ys) old new m s ≡ put (moved_roots w old new m s) q ys
unfolding moved_roots
moved_roots-put zero w old new s q ys le = refl
moved_roots-put (suc m) w old new s q ys le =
    let r = moved_root old new (get_or w (record_at s) 0) in
    ap (λ x. moved_roots (put (put w q ys) (record_at s) (moved_root old new x ∷ [])) old new m (s + 1)) (get_or-put-before w q ys (record_at s) (omega arith))
    ∙ ap (λ u. moved_roots u old new m (s + 1)) (sym (put-swap w (record_at s) q (r ∷ []) ys (omega arith)))
    ∙ moved_roots-put m (put w (record_at s) (r ∷ [])) old new (s + 1) q ys (omega arith)

pub relinked-put : (w : List ℕ) (k i old new q : ℕ) (ys : List ℕ) → k < get_or w 2 0 → base (get_or w 2 0) ≤ q → relinked (put w q ys) k i old new ≡ put (relinked w k i old new) q ys
unfolding relinked
relinked-put w k i old new q ys lt le =
    ap (λ n. moved_roots (put (put w q ys) (record_at k) (own_root i new ∷ [])) old new (n - suc k) (k + 1)) (get_or-put-before w q ys 2 (omega arith))
    ∙ ap (λ u. moved_roots u old new (get_or w 2 0 - suc k) (k + 1)) (sym (put-swap w (record_at k) q (own_root i new ∷ []) ys (omega arith)))
    ∙ moved_roots-put (get_or w 2 0 - suc k) (put w (record_at k) (own_root i new ∷ [])) old new (k + 1) q ys (omega arith)

-- Every other word stays.
get_or-moved_roots : (m : ℕ) (w : List ℕ) (old new s p : ℕ) → ((t : ℕ) → s ≤ t → t < s + m → p ≡ record_at t → ⊥) → get_or (moved_roots w old new m s) p 0 ≡ get_or w p 0
unfolding moved_roots
get_or-moved_roots zero w old new s p f = refl
get_or-moved_roots (suc m) w old new s p f =
    let xs = moved_root old new (get_or w (record_at s) 0) ∷ [] in
    get_or-moved_roots m (put w (record_at s) xs) old new (s + 1) p (λ t a b. f t (omega arith) (omega arith))
    ∙ get_or-put-out w (record_at s) xs p (λ a b. f s (omega arith) (omega arith) (omega arith))

length-moved_roots : (m : ℕ) (w : List ℕ) (old new s : ℕ) → length (moved_roots w old new m s) ≡ length w
unfolding moved_roots
length-moved_roots zero w old new s = refl
length-moved_roots (suc m) w old new s =
    let xs = moved_root old new (get_or w (record_at s) 0) ∷ [] in
    length-moved_roots m (put w (record_at s) xs) old new (s + 1) ∙ length-put w (record_at s) xs

module _ (w : List ℕ) (k i old new : ℕ) where
  pub length-relinked : length (relinked w k i old new) ≡ length w
  unfolding relinked
  length-relinked =
      length-moved_roots (get_or w 2 0 - suc k) (put w (record_at k) (own_root i new ∷ [])) old new (k + 1) ∙ length-put w (record_at k) (own_root i new ∷ [])

  pub get_or-relinked : k < get_or w 2 0 → (p : ℕ) → ((t : ℕ) → t < get_or w 2 0 → p ≡ record_at t → ⊥) → get_or (relinked w k i old new) p 0 ≡ get_or w p 0
  unfolding relinked
  get_or-relinked lt p f =
      get_or-moved_roots (get_or w 2 0 - suc k) (put w (record_at k) (own_root i new ∷ [])) old new (k + 1) p (λ t a b. f t (omega arith))
      ∙ get_or-put-out w (record_at k) (own_root i new ∷ []) p (λ a b. f k lt (omega arith))

-- The records of the state afterwards.
pub over_records-relinked : (w : List ℕ) (k : ℕ) (l : List Bits) (ss : List SetState) → get_or w 2 0 ≡ length ss → k < length ss → Records w 0 1 ss
    → over_records w 0 1 (sets_with k (set_with (get_or ss k no_set) l) ss) ≡ relinked w k (first_node k 1 ss) (held (get_or ss k no_set)) (held_l (get_or ss k no_set).form l)
unfolding relinked
over_records-relinked w k l ss e lt h =
    rw (e, own_root-is (get_or ss k no_set).form (first_node k 1 ss) l) (rw (zero-add k) at (over_records-with k l w 0 1 ss (omega arith) lt h))
