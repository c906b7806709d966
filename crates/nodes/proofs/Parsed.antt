-- The decoder and the encodings: `parse` gives a trie exactly where the words hold its encoding. Assumes nothing.
use mathlib.Core.Path.{◌≡◌, refl, sym, ◌∙◌, subst}
use mathlib.Core.Bool.{Bool, true, false, cond}
use mathlib.Core.List.{List}
use Prim.Native.Nat.{ℕ, zero, suc, ◌+◌, ◌/◌, ◌%◌, ◌≤◌}
use native.Mathlib.Omega.{arith}
use lib.Dec.{leb, eqb}
use lib.ListN.{length}
use borrow.Author.Tests.{le-leb, eq-eqb, ne_eqb, leb-true, eqb-true, eqb-false}
use Rattle.nets.specs.Tries.{Trie, none, node, size, levels}
use Rattle.nodes.specs.Words.{link0, link1, enc, place, word_at}
use Rattle.nodes.specs.Parse.{Room, Read, bad, ok, bind, first, second, parse, Stands}
use Rattle.nodes.proofs.Tries.{some, word_first, word-second, word-is, apart, joined}

pub never : (t : Trie) → bad ≡ ok t → ⊥
never t e = let z : ◌≡◌ {A = ℕ} 0 1 = cc in omega arith

pub cond-ok : (t : Bool) (x : Read) (u : Trie) → cond t x bad ≡ ok u → (t ≡ true) × (x ≡ ok u)
cond-ok true x u e = (refl, e)
cond-ok false x u e = absurd (never u e)

pub bind_ok : (x : Read) (k : Trie → Read) (u : Trie) → bind x k ≡ ok u → (l : Trie) × (x ≡ ok l) × (k l ≡ ok u)
bind_ok bad k u e = absurd (never u e)
bind_ok (ok l) k u e = (l, refl, e)

-- the children, by their distances, are read
first-ok : (l : Trie) (x : ℕ) (p : Read) → x % 2 ≡ link0 l → ((l ≡ none → ⊥) → p ≡ ok l) → first x p ≡ ok l
unfolding link0
first-ok none x p e f = rw (eq-eqb (x % 2) 0 e)
first-ok (node y z) x p e f = rw (ne_eqb (x % 2) 0 (omega arith)) (f (some y z))

second-ok : (l r : Trie) (x : ℕ) (p : Read) → x / 2 ≡ link1 l r → ((r ≡ none → ⊥) → p ≡ ok r) → second x l p ≡ ok r
unfolding link1
second-ok l none x p e f = rw (eq-eqb (x / 2) 0 e)
second-ok l (node y z) x p e f = rw (ne_eqb (x / 2) 0 (omega arith), eq-eqb (x / 2) (1 + size l) e) (f (some y z))

-- and what is read of them is by their distances
link0-some : (u : Trie) → (u ≡ none → ⊥) → link0 u ≡ 1
unfolding link0
link0-some none f = absurd (f refl)
link0-some (node x y) f = refl

link1-some : (l u : Trie) → (u ≡ none → ⊥) → link1 l u ≡ 1 + size l
unfolding link1
link1-some l none f = absurd (f refl)
link1-some l (node x y) f = refl

module _ (w : List ℕ) (b n f : ℕ) where
  pub none-stands : (j : ℕ) → j ≤ suc n → place b j ≤ length w → Stands w b n f j none
  unfolding size levels enc
  none-stands j le fit = record { deep = omega arith; within = omega arith; has = record { fits = omega arith; at = λ k l. absurd (omega arith) } }

  module _ (j x : ℕ) (p : Read) (u : Trie) (le : j ≤ suc n) (fit : place b j ≤ length w) (ih : p ≡ ok u → Stands w b n f j u × (u ≡ none → ⊥)) where
    first_read : first x p ≡ ok u → (x % 2 ≡ link0 u) × Stands w b n f j u
    unfolding link0
    first_read e = go (eqb (x % 2) 0) refl e
      where
        go : (c : Bool) → eqb (x % 2) 0 ≡ c → cond c (ok none) p ≡ ok u → (x % 2 ≡ link0 u) × Stands w b n f j u
        go true q h = let z : none ≡ u = cc h in subst (λ v. (x % 2 ≡ link0 v) × Stands w b n f j v) z (eqb-true (x % 2) 0 q, none-stands j le fit)
        go false q h = let s = ih h in (omega (arith, link0-some u s.1, eqb-false (x % 2) 0 q), s.0)

    second-read : (l : Trie) → second x l p ≡ ok u → (x / 2 ≡ link1 l u) × Stands w b n f j u
    unfolding link1
    second-read l e = go (eqb (x / 2) 0) (eqb (x / 2) (1 + size l)) refl refl e
      where
        go : (c d : Bool) → eqb (x / 2) 0 ≡ c → eqb (x / 2) (1 + size l) ≡ d → cond c (ok none) (cond d p bad) ≡ ok u → (x / 2 ≡ link1 l u) × Stands w b n f j u
        go true d q r h = let z : none ≡ u = cc h in subst (λ v. (x / 2 ≡ link1 l v) × Stands w b n f j v) z (eqb-true (x / 2) 0 q, none-stands j le fit)
        go false true q r h = let s = ih h in (eqb-true (x / 2) (1 + size l) r ∙ sym (link1-some l u s.1), s.0)
        go false false q r h = absurd (never u h)

module _ (w : List ℕ) (b n : ℕ) where
  -- where the words hold a trie, it is what is read
  pub parse-of : (f : ℕ) (t : Trie) (i : ℕ) → 1 ≤ i → (t ≡ none → ⊥) → Stands w b n f i t → parse w b n f i ≡ ok t
  unfolding parse size levels
  parse-of zero none i pos ne s = absurd (ne refl)
  parse-of zero (node l r) i pos ne s = absurd (omega (arith, s.deep))
  parse-of (suc f) none i pos ne s = absurd (ne refl)
  parse-of (suc f) (node l r) i pos ne s =
      let p = apart l r pos s.has in
      let x : first (word_at w b i) (parse w b n f (i + 1)) ≡ ok l =
      first-ok l (word_at w b i) _ (rw p.root (word_first l r))
      (λ so. parse-of f l (i + 1) (omega arith) so (record { deep = omega (arith, s.deep); within = omega (arith, s.within); has = p.left })) in
      let y : second (word_at w b i) l (parse w b n f (i + 1 + size l)) ≡ ok r =
      second-ok l r (word_at w b i) _ (rw p.root (word-second l r))
      (λ so. parse-of f r (i + 1 + size l) (omega arith) so (record { deep = omega (arith, s.deep); within = omega (arith, s.within); has = p.right })) in
      rw (le-leb i n (omega (arith, s.within)), x, y)

  module _ (room : Room w b n) where
    node-stands : (f i : ℕ) (l r : Trie) → 1 ≤ i → i ≤ n → (word_at w b i % 2 ≡ link0 l) × Stands w b n f (i + 1) l → (word_at w b i / 2 ≡ link1 l r) × Stands w b n f (i + 1 + size l) r → Stands w b n (suc f) i (node l r)
    unfolding size levels
    node-stands f i l r pos le x y = record {
      deep = omega (arith, x.1.deep, y.1.deep);
      within = omega (arith, y.1.within);
      has = joined l r pos (record { root = word-is l r (word_at w b i) x.0 y.0; left = x.1.has; right = y.1.has });
    }

    -- what is read stands there
    pub stands : (f i : ℕ) (t : Trie) → 1 ≤ i → parse w b n f i ≡ ok t → Stands w b n f i t × (t ≡ none → ⊥)
    unfolding parse
    stands zero i t pos e = absurd (never t e)
    stands (suc f) i t pos e =
        let p = cond-ok (leb i n) _ t e in
        let le = leb-true i n p.0 in
        let q = bind_ok _ _ t p.1 in
        let l = q.0 in
        let g = bind_ok _ _ t q.2 in
        let r = g.0 in
        let x = first_read w b n f (i + 1) (word_at w b i) (parse w b n f (i + 1)) l (omega arith) (omega (arith, room.long)) (stands f (i + 1) l (omega arith)) q.1 in
        let y = second-read w b n f (i + 1 + size l) (word_at w b i) (parse w b n f (i + 1 + size l)) r (omega (arith, x.1.within)) (omega (arith, x.1.within, room.long)) (stands f (i + 1 + size l) r (omega arith)) l g.1 in
        let h : node l r ≡ t = cc g.2 in
        subst (λ (u : Trie). Stands w b n (suc f) i u × (u ≡ none → ⊥)) h (node-stands f i l r pos le x y, some l r)
