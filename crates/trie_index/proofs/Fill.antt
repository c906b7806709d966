-- Rows of numbers that are filled one by one: how long they are, an entry, two of them one behind the other; written, what is left to write completes the row; compared, what
-- is left to compare decides. Assumes nothing.
use mathlib.Core.Bool.{true, false, ◌&&◌}
use mathlib.Core.List.{List, [], ◌∷◌, ◌++◌}
use mathlib.Core.Path.{◌≡◌, refl, ap, sym, ◌∙◌}
use Prim.Native.Nat.{ℕ, zero, suc, ◌+◌, ◌-◌, ◌≤◌, ◌<◌}
use native.Mathlib.Nat.{add-zero, zero-add}
use native.Mathlib.Omega.{arith}
use lib.Dec.{eqb}
use lib.ListN.{length, get_or, set}
use borrow.Author.Tests.{eq-eqb, ne_eqb, eqb-true}
use Rattle.nets.proofs.Strings.{and_left, and_right}
use Rattle.nodes.specs.Words.{put, Has}
use Rattle.nodes.proofs.Put.{set-put, put-behind-at}
use Rattle.nodes.proofs.Has.{has-head, has-tail, has-cons}
use Rattle.trie_index.specs.Index.{fill, is_at}

module _ (g : ℕ → ℕ) where
  pub length-fill : (m i : ℕ) → length (fill g i m) ≡ m
  unfolding fill
  length-fill zero i = refl
  length-fill (suc m) i = ap suc (length-fill m (i + 1))

  pub get_or-fill : (m i j : ℕ) → j < m → get_or (fill g i m) j 0 ≡ g (i + j)
  unfolding fill
  get_or-fill zero i j lt = absurd (omega arith)
  get_or-fill (suc m) i zero lt = ap g (sym (add-zero i))
  get_or-fill (suc m) i (suc j) lt = get_or-fill m (i + 1) j (omega arith) ∙ ap g (let e : i + 1 + j ≡ i + suc j = omega arith in e)

  pub fill-append : (m i k : ℕ) → fill g i m ++ fill g (i + m) k ≡ fill g i (m + k)
  unfolding fill
  fill-append zero i k = rw (add-zero i, zero-add k)
  fill-append (suc m) i k =
      let e : i + suc m ≡ i + 1 + m = omega arith in
      let f : suc m + k ≡ suc (m + k) = omega arith in
      rw (e, f) (ap (λ t. g i ∷ t) (fill-append m (i + 1) k))

  pub fill-same : (h : ℕ → ℕ) → ((i : ℕ) → g i ≡ h i) → (m i : ℕ) → fill g i m ≡ fill h i m
  unfolding fill
  fill-same h e zero i = refl
  fill-same h e (suc m) i = rw (e i, fill-same h e m (i + 1))

  fill-next : (m i : ℕ) → i < m → fill g i (m - i) ≡ g i ∷ fill g (i + 1) (m - (i + 1))
  unfolding fill
  fill-next m i lt = let e : m - i ≡ suc (m - (i + 1)) = omega arith in rw e

  -- a number stored, p places further on, and what is left to write
  pub set_rest : (v : List ℕ) (p i m x : ℕ) → i < m → x ≡ g i → put (set v (p + i) x) (p + (i + 1)) (fill g (i + 1) (m - (i + 1))) ≡ put v (p + i) (fill g i (m - i))
  set_rest v p i m x lt e =
      rw (set-put v (p + i) x, e, fill-next m i lt) (put-behind-at v (p + i) (p + (i + 1)) (g i ∷ []) (fill g (i + 1) (m - (i + 1))) (omega arith))

  -- a word compared, and what is left to compare
  module _ (w : List ℕ) (p i m : ℕ) (lt : i < m) where
    at_next : is_at w (p + i) (fill g i (m - i)) ≡ (eqb (get_or w (p + i) 0) (g i) && is_at w (p + (i + 1)) (fill g (i + 1) (m - (i + 1))))
    unfolding is_at
    at_next = let e : p + i + 1 ≡ p + (i + 1) = omega arith in rw (fill-next m i lt, is_at, e)

    pub at_off : (get_or w (p + i) 0 ≡ g i → ⊥) → is_at w (p + i) (fill g i (m - i)) ≡ false
    at_off ne = rw (at_next, ne_eqb (get_or w (p + i) 0) (g i) ne)

    pub at_on : get_or w (p + i) 0 ≡ g i → is_at w (p + i) (fill g i (m - i)) ≡ is_at w (p + (i + 1)) (fill g (i + 1) (m - (i + 1)))
    at_on e = rw (at_next, eq-eqb (get_or w (p + i) 0) (g i) e)

  pub at-end : (w : List ℕ) (p i m : ℕ) → m ≤ i → is_at w p (fill g i (m - i)) ≡ true
  unfolding fill is_at
  at-end w p i m le = let e : m - i ≡ 0 = omega arith in rw e

-- The words are those from a place on exactly where these stand there.
pub is_at-has : {w : List ℕ} (p : ℕ) (xs : List ℕ) → p + length xs ≤ length w → is_at w p xs ≡ true → Has w p xs
unfolding is_at
is_at-has {w} p [] le e = record { fits = le; at = λ k l. absurd (omega arith) }
is_at-has {w} p (x ∷ xs) le e =
    has-cons (eqb-true (get_or w p 0) x (and_left (eqb (get_or w p 0) x) (is_at w (p + 1) xs) e))
    (is_at-has (p + 1) xs (omega arith) (and_right (eqb (get_or w p 0) x) (is_at w (p + 1) xs) e))

pub has-is_at : {w : List ℕ} (p : ℕ) (xs : List ℕ) → Has w p xs → is_at w p xs ≡ true
unfolding is_at
has-is_at p [] h = refl
has-is_at {w} p (x ∷ xs) h = rw (eq-eqb (get_or w p 0) x (has-head h)) (has-is_at (p + 1) xs (has-tail h))
