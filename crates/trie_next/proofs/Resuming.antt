-- The network that follows a place: of the members as long as the place the first behind it, else the first of the lengths that follow. Assumes nothing.
use mathlib.Core.Path.{◌≡◌, refl, sym, ap, ◌∙◌}
use mathlib.Core.Bool.{Bool, true, false, cond}
use mathlib.Core.List.{List, [], ◌∷◌, ◌++◌, map, append-nil, append_assoc, map-id}
use Prim.Native.Nat.{ℕ, zero, suc, ◌+◌, ◌-◌, ◌*◌, ◌^◌, ◌≤◌, ◌<◌}
use native.Mathlib.Nat.{zero-add, suc-add}
use native.Mathlib.Numerals.{add-one, sub-one}
use native.Mathlib.Omega.{arith}
use borrow.Author.Tests.{lt-ltb, le-ltb, ltb-true, eq-eqb}
use lib.Dec.{ltb}
use lib.ListN.{length, get_or}
use Rattle.nets.specs.Bits.{Bits, digit, val, before}
use Rattle.nets.specs.Tries.{Trie, none, node, leaf, bare, level, below, list_of}
use Rattle.nets.specs.Lists.{keep, found, Place, start, past, is_past, next_l}
use Rattle.nets.specs.Networks.{net_from}
use Rattle.nets.specs.declared.Net.{Net}
use Rattle.nets.proofs.Strings.{bool_iff}
use Rattle.nets.proofs.Order.{key, val-high, key-shorter, before-key, lt-before}
use Rattle.nets.proofs.Lookups.{keep-start}
use Rattle.nets.proofs.Numbers.{width-le}
use Rattle.trie_paths.specs.Spans.{snoc, Holds}
use Rattle.trie_paths.specs.Laying.{Skips}
use Rattle.trie_next.specs.Following.{next_as, first_of, later_in, above}
use Rattle.trie_paths.proofs.Reading.{Forked}
use Rattle.trie_paths.proofs.Levels.{level-none, map_snoc, map-node, below-list_of}
use Rattle.std.specs.Prelude.{Option, Some, None}

-- The first of two lists.
never : {z : Net} → Some z ≡ None → ⊥
never e = let q : ◌≡◌ {A = ℕ} 0 1 = cc in omega arith

first_found : (f : ℕ) (l m : List Bits) (z : Net) → Some z ≡ next_as f (first_of l) → Some z ≡ next_as f (first_of (l ++ m))
first_found f [] m z e = absurd (never e)
first_found f (p ∷ l) m z e = e

first-none : (f : ℕ) (l m : List Bits) → None ≡ next_as f (first_of l) → first_of (l ++ m) ≡ first_of m
first-none f [] m e = refl
first-none f (p ∷ l) m e = absurd (never (sym e))

-- The members kept: of two lists, behind a bit, and of strings of one length.
keep_append : (f : Bits → Bool) (l m : List Bits) → keep f (l ++ m) ≡ keep f l ++ keep f m
keep_append f [] m = refl
keep_append f (p ∷ l) m = go (f p) (keep_append f l m)
  where
    go : (x : Bool) → keep f (l ++ m) ≡ keep f l ++ keep f m → cond x (p ∷ keep f (l ++ m)) (keep f (l ++ m)) ≡ cond x (p ∷ keep f l) (keep f l) ++ keep f m
    go true ih = ap (λ k. p ∷ k) ih
    go false ih = ih

abbrev Each : ℕ → List Bits → Type 0
Each k [] = Unit {0}
Each k (p ∷ l) = (length p ≡ k) × Each k l

each_map : (k : ℕ) (b : Bool) (l : List Bits) → Each k l → Each (suc k) (map (λ q. b ∷ q) l)
each_map k b [] h = tt
each_map k b (p ∷ l) h = (ap suc h.0, each_map k b l h.1)

each_append : (k : ℕ) (l m : List Bits) → Each k l → Each k m → Each k (l ++ m)
each_append k [] m h g = g
each_append k (p ∷ l) m h g = (h.0, each_append k l m h.1 g)

each_level : (k : ℕ) (t : Trie) → Each k (level bare k t)
each_level zero none = tt
each_level zero (node l r) = go (bare l r)
  where
    go : (x : Bool) → Each 0 (cond x ([] ∷ []) [])
    go true = (refl, tt)
    go false = tt
each_level (suc k) none = tt
each_level (suc k) (node l r) =
    each_append (suc k) (map (λ q. false ∷ q) (level bare k l)) (map (λ q. true ∷ q) (level bare k r)) (each_map k false (level bare k l) (each_level k l)) (each_map k true (level bare k r) (each_level k r))

keep_all : (f : Bits → Bool) (k : ℕ) (l : List Bits) → Each k l → ((p : Bits) → length p ≡ k → f p ≡ true) → keep f l ≡ l
keep_all f k [] e h = refl
keep_all f k (p ∷ l) e h = rw (h p e.0, keep_all f k l e.1 h)

keep-no : (f : Bits → Bool) (k : ℕ) (l : List Bits) → Each k l → ((p : Bits) → length p ≡ k → f p ≡ false) → keep f l ≡ []
keep-no f k [] e h = refl
keep-no f k (p ∷ l) e h = rw (h p e.0) (keep-no f k l e.1 h)

-- behind a bit, where f says there what g says without it
keep-behind : (f g : Bits → Bool) (b : Bool) (k : ℕ) (l : List Bits) → Each k l → ((p : Bits) → length p ≡ k → f (b ∷ p) ≡ g p) → keep f (map (λ q. b ∷ q) l) ≡ map (λ q. b ∷ q) (keep g l)
keep-behind f g b k [] e h = refl
keep-behind f g b k (p ∷ l) e h = rw (h p e.0) (go (g p) (keep-behind f g b k l e.1 h))
  where
    go : (x : Bool) → keep f (map (λ q. b ∷ q) l) ≡ map (λ q. b ∷ q) (keep g l) → cond x ((b ∷ p) ∷ keep f (map (λ q. b ∷ q) l)) (keep f (map (λ q. b ∷ q) l)) ≡ map (λ q. b ∷ q) (cond x (p ∷ keep g l) (keep g l))
    go true ih = ap (λ m. (b ∷ p) ∷ m) ih
    go false ih = ih

-- The order: by length, and of one length by the first bit that differs.
before-longer : (p q : Bits) → length p < length q → before p q ≡ true
before-longer p q h = lt-before p q (key-shorter p q h)

before-shorter : (p q : Bits) → length q < length p → before p q ≡ false
before-shorter p q h = before-key p q ∙ le-ltb (key p) (key q) (omega (arith, key-shorter q p h))

before-vals : (p q : Bits) → length q ≡ length p → before p q ≡ ltb (val p) (val q)
unfolding before
before-vals p q e = rw (le-ltb (length p) (length q) (omega arith), eq-eqb (length p) (length q) (sym e))

ltb-add : (a x y : ℕ) → ltb (a + x) (a + y) ≡ ltb x y
ltb-add a x y = bool_iff (ltb (a + x) (a + y)) (ltb x y) (λ h. lt-ltb x y (omega (arith, ltb-true (a + x) (a + y) h))) (λ h. lt-ltb (a + x) (a + y) (omega (arith, ltb-true x y h)))

before_same : (b : Bool) (p q : Bits) → length q ≡ length p → before (b ∷ p) (b ∷ q) ≡ before p q
before_same b p q e = before-vals (b ∷ p) (b ∷ q) (ap suc e) ∙ rw e (ltb-add (digit b * 2 ^ length p) (val p) (val q)) ∙ sym (before-vals p q e)

before-up : (p q : Bits) → length q ≡ length p → before (false ∷ p) (true ∷ q) ≡ true
before-up p q e = before-vals (false ∷ p) (true ∷ q) (ap suc e) ∙ rw e (lt-ltb (0 * 2 ^ length p + val p) (1 * 2 ^ length p + val q) (omega (arith, val-high p)))

before-down : (p q : Bits) → length q ≡ length p → before (true ∷ p) (false ∷ q) ≡ false
before-down p q e =
    let h : val q < 2 ^ length p = rw e at (val-high q) in
    before-vals (true ∷ p) (false ∷ q) (ap suc e) ∙ rw e (le-ltb (1 * 2 ^ length p + val p) (0 * 2 ^ length p + val q) (omega arith))

-- The members later than a path, by its first bit.
later-leaf : (q : Bits) → later_in q leaf ≡ []
unfolding before
later-leaf [] = refl
later-leaf (b ∷ q) = rw (level-none (length q))

later-end : (l r : Trie) → bare l r ≡ false → later_in [] (node l r) ≡ []
later-end l r h = rw h

module _ (q : Bits) (l r : Trie) where
  later-down : later_in (true ∷ q) (node l r) ≡ map (λ p. true ∷ p) (later_in q r)
  later-down =
      let k = length q in
      let L = level bare k l in
      let M = level bare k r in
      keep_append (before (true ∷ q)) (map (λ p. false ∷ p) L) (map (λ p. true ∷ p) M)
      ∙ rw (
        keep-behind (before (true ∷ q)) (λ _. false) false k L (each_level k l) (before-down q),
        keep-no (λ _. false) k L (each_level k l) (λ _ _. refl),
        keep-behind (before (true ∷ q)) (before q) true k M (each_level k r) (before_same true q),
      )

  later-up : later_in (false ∷ q) (node l r) ≡ map (λ p. false ∷ p) (later_in q l) ++ map (λ p. true ∷ p) (level bare (length q) r)
  later-up =
      let k = length q in
      let L = level bare k l in
      let M = level bare k r in
      keep_append (before (false ∷ q)) (map (λ p. false ∷ p) L) (map (λ p. true ∷ p) M)
      ∙ rw (
        keep-behind (before (false ∷ q)) (before q) false k L (each_level k l) (before_same false q),
        keep-behind (before (false ∷ q)) (λ _. true) true k M (each_level k r) (before-up q),
        keep_all (λ _. true) k M (each_level k r) (λ _ _. refl),
      )

-- The answers on the way down: of the leaves k levels below the root of t, whose path is p, the first; and of those later than q.
abbrev pub FirstAt : ℕ → Bits → Trie → ℕ → Option Net → Type 0
FirstAt f p t k n = n ≡ next_as f (first_of (map (λ q. p ++ q) (level bare k t)))

abbrev pub FirstLater : ℕ → Bits → Trie → Bits → Option Net → Type 0
FirstLater f p t q n = n ≡ next_as f (first_of (map (λ r. p ++ r) (later_in q t)))

pub first-empty : (f : ℕ) (p : Bits) (t : Trie) (k : ℕ) → t ≡ none → FirstAt f p t k None
first-empty f p t k e = rw (e, level-none k)

pub first-here : (f : ℕ) (p : Bits) (t : Trie) (k : ℕ) (x : Net) → t ≡ leaf → k ≡ 0 → x ≡ net_from f p → FirstAt f p t k (Some x)
first-here f p t k x e z h = rw (e, z, h, append-nil p)

pub first_above : (f : ℕ) (p : Bits) (t : Trie) (k : ℕ) → t ≡ leaf → (k ≡ 0 → ⊥) → FirstAt f p t k None
first_above f p t zero e h = absurd (h refl)
first_above f p t (suc k) e h = rw (e, level-none k)

pub later-empty : (f : ℕ) (p : Bits) (t : Trie) (q : Bits) → t ≡ none → FirstLater f p t q None
later-empty f p t q e = rw (e, level-none (length q))

pub later-here : (f : ℕ) (p : Bits) (t : Trie) (q : Bits) → t ≡ leaf → FirstLater f p t q None
later-here f p t q e = rw (e, later-leaf q)

module _ (f : ℕ) (p : Bits) {w : List ℕ} {b i e m : ℕ} {t : Trie} (k : Forked w b i e m t) where
  pub first_inner : (d : ℕ) → d ≡ 0 → FirstAt f p t d None
  first_inner d z = rw (k.is, z, k.inner)

  level-is : (d : ℕ) → (d ≡ 0 → ⊥) → map (λ q. p ++ q) (level bare d t) ≡ map (λ q. snoc p false ++ q) (level bare (d - 1) k.l) ++ map (λ q. snoc p true ++ q) (level bare (d - 1) k.r)
  level-is zero h = absurd (h refl)
  level-is (suc d) h = rw (k.is, sub-one (suc d)) (map-node p (level bare d k.l) (level bare d k.r))

  pub first-left : (d : ℕ) {n : (Option Net)} {z : Net} → (d ≡ 0 → ⊥) → FirstAt f (snoc p false) k.l (d - 1) n → n ≡ Some z → FirstAt f p t d (Some z)
  first-left d {n} {z} h a e = rw (level-is d h) (first_found f (map (λ q. snoc p false ++ q) (level bare (d - 1) k.l)) (map (λ q. snoc p true ++ q) (level bare (d - 1) k.r)) z (sym e ∙ a))

  pub first-right : (d : ℕ) {n m : (Option Net)} → (d ≡ 0 → ⊥) → FirstAt f (snoc p false) k.l (d - 1) n → n ≡ None → FirstAt f (snoc p true) k.r (d - 1) m → FirstAt f p t d m
  first-right d h a e c = rw (level-is d h, first-none f (map (λ q. snoc p false ++ q) (level bare (d - 1) k.l)) (map (λ q. snoc p true ++ q) (level bare (d - 1) k.r)) (sym e ∙ a)) c

  pub later-inner : (q : Bits) → q ≡ [] → FirstLater f p t q None
  later-inner q e = rw (e, k.is, later-end k.l k.r k.inner)

  pub later_second : (q s : Bits) {n : (Option Net)} → q ≡ true ∷ s → FirstLater f (snoc p true) k.r s n → FirstLater f p t q n
  later_second q s e a = rw (e, k.is, later-down s k.l k.r, map_snoc p true (later_in s k.r)) a

  later-is : (q s : Bits) → q ≡ false ∷ s → map (λ r. p ++ r) (later_in q t) ≡ map (λ r. snoc p false ++ r) (later_in s k.l) ++ map (λ r. snoc p true ++ r) (level bare (length s) k.r)
  later-is q s e = rw (e, k.is, later-up s k.l k.r) (map-node p (later_in s k.l) (level bare (length s) k.r))

  pub later-left : (q s : Bits) {n : (Option Net)} {z : Net} → q ≡ false ∷ s → FirstLater f (snoc p false) k.l s n → n ≡ Some z → FirstLater f p t q (Some z)
  later-left q s {n} {z} h a e = rw (later-is q s h) (first_found f (map (λ r. snoc p false ++ r) (later_in s k.l)) (map (λ r. snoc p true ++ r) (level bare (length s) k.r)) z (sym e ∙ a))

  pub later-right : (q s : Bits) {n m : (Option Net)} → q ≡ false ∷ s → FirstLater f (snoc p false) k.l s n → n ≡ None → FirstAt f (snoc p true) k.r (length s) m → FirstLater f p t q m
  later-right q s h a e c = rw (later-is q s h, first-none f (map (λ r. snoc p false ++ r) (later_in s k.l)) (map (λ r. snoc p true ++ r) (level bare (length s) k.r)) (sym e ∙ a)) c

-- The lengths from k on.
below-above : (n k : ℕ) (t : Trie) → below bare (k + n) t ≡ below bare k t ++ above n k t
unfolding above
below-above zero k t = let e : k + 0 ≡ k = omega arith in rw e (sym (append-nil (below bare k t)))
below-above (suc n) k t = let e : k + suc n ≡ suc k + n = omega arith in rw e (below-above n (suc k) t ∙ append_assoc (below bare k t) (level bare k t) (above n (suc k) t))

above-skip : (n k m : ℕ) (t : Trie) → ((j : ℕ) → k ≤ j → j < k + n → level bare j t ≡ []) → above (n + m) k t ≡ above m (k + n) t
unfolding above
above-skip zero k m t h = let e : k + 0 ≡ k = omega arith in rw (e, zero-add m)
above-skip (suc n) k m t h =
    let e : k + suc n ≡ suc k + n = omega arith in
    rw (suc-add n m, h k (omega arith) (omega arith), e) (above-skip n (suc k) m t (λ j l g. h j (omega arith) (omega arith)))

length_none : (l : List Bits) → length l ≡ 0 → l ≡ []
length_none [] e = refl
length_none (p ∷ l) e = absurd (omega arith)

first_some : (l m : List Bits) → (length l ≡ 0 → ⊥) → first_of (l ++ m) ≡ first_of l
first_some [] m h = absurd (h refl)
first_some (p ∷ l) m h = refl

module _ {c : List ℕ} {k r : ℕ} {t : Trie} (s : Skips c k r) (counts : (j : ℕ) → j < 129 → get_or c j 0 ≡ length (level bare j t)) where
  above-is : above (129 - k) k t ≡ above (129 - r) r t
  above-is =
      let a : (r - k) + (129 - r) ≡ 129 - k = omega (arith, s.from, s.to) in
      let e : k + (r - k) ≡ r = omega (arith, s.from) in
      rw (a, e) at (above-skip (r - k) k (129 - r) t (λ j l g. length_none (level bare j t) (sym (counts j (omega (arith, s.to, s.from))) ∙ s.none_before j l (omega (arith, s.from)))))

  pub skips-none : (f : ℕ) → r ≡ 129 → None ≡ next_as f (first_of (above (129 - k) k t))
  unfolding above
  skips-none f e = rw (above-is, e)

  pub skips-some : (f : ℕ) {n : (Option Net)} → (r ≡ 129 → ⊥) → FirstAt f [] t r n → n ≡ next_as f (first_of (above (129 - k) k t))
  unfolding above
  skips-some f h a =
      let l : r < 129 = omega (arith, s.to) in
      let e : 129 - r ≡ suc (128 - r) = omega arith in
      a ∙ rw (map-id (level bare r t), above-is, e) (ap (next_as f) (sym (first_some (level bare r t) (above (128 - r) (suc r) t) (λ z. s.some_at l (counts r l ∙ z)))))

-- The member that follows a place.
next_l-first : (l : List Bits) (p : Place) → next_l l p ≡ first_of (keep (is_past p) l)
unfolding next_l
next_l-first [] p = refl
next_l-first (m ∷ l) p = go (is_past p m) (next_l-first l p)
  where
    go : (x : Bool) → next_l l p ≡ first_of (keep (is_past p) l) → cond x (found m) (next_l l p) ≡ first_of (cond x (m ∷ keep (is_past p) l) (keep (is_past p) l))
    go true ih = refl
    go false ih = ih

keep-below : (q : Bits) (k : ℕ) (t : Trie) → k ≤ length q → keep (before q) (below bare k t) ≡ []
keep-below q zero t h = refl
keep-below q (suc k) t h =
    keep_append (before q) (below bare k t) (level bare k t)
    ∙ rw (keep-below q k t (omega arith), keep-no (before q) k (level bare k t) (each_level k t) (λ p e. before-shorter q p (omega arith)))

keep-above : (q : Bits) (n k : ℕ) (t : Trie) → length q < k → keep (before q) (above n k t) ≡ above n k t
unfolding above
keep-above q zero k t h = refl
keep-above q (suc n) k t h =
    keep_append (before q) (level bare k t) (above n (suc k) t)
    ∙ rw (keep_all (before q) k (level bare k t) (each_level k t) (λ p e. before-longer q p (omega arith)), keep-above q n (suc k) t (omega arith))

module _ {w : List ℕ} {b i e f : ℕ} {t : Trie} (o : Holds w b i e f t) where
  listed : (n k : ℕ) → k + n ≡ 129 → list_of t ≡ below bare k t ++ above n k t
  listed n k h = sym (below-list_of t (k + n) (omega (arith, o.deep, width-le f))) ∙ below-above n k t

  pub next_start : {n : (Option Net)} → n ≡ next_as f (first_of (above 129 0 t)) → n ≡ next_as f (next_l (list_of t) start)
  next_start a = a ∙ rw (next_l-first (list_of t) start, keep-start (list_of t), listed 129 0 refl)

  module _ (q : Bits) (k : ℕ) (is : length q ≡ k) (h : k ≤ 128) where
    next-is : next_l (list_of t) (past q) ≡ first_of (map (λ r. [] ++ r) (later_in q t) ++ above (129 - (k + 1)) (k + 1) t)
    unfolding above
    next-is =
        let g : 129 - k ≡ suc (129 - (k + 1)) = omega arith in
        rw (
          next_l-first (list_of t) (past q),
          listed (129 - k) k (omega arith),
          keep_append (before q) (below bare k t) (above (129 - k) k t),
          keep-below q k t (omega arith),
          g,
          keep_append (before q) (level bare k t) (above (129 - (k + 1)) (suc k) t),
          keep-above q (129 - (k + 1)) (suc k) t (omega arith),
          map-id (later_in q t),
          add-one k,
          is,
        )

    pub next-later : {n : (Option Net)} {z : Net} → FirstLater f [] t q n → n ≡ Some z → Some z ≡ next_as f (next_l (list_of t) (past q))
    next-later {n} {z} a c = rw next-is (first_found f (map (λ r. [] ++ r) (later_in q t)) (above (129 - (k + 1)) (k + 1) t) z (sym c ∙ a))

    pub next-on : {n m : (Option Net)} → FirstLater f [] t q n → n ≡ None → m ≡ next_as f (first_of (above (129 - (k + 1)) (k + 1) t)) → m ≡ next_as f (next_l (list_of t) (past q))
    next-on a c d = rw (next-is, first-none f (map (λ r. [] ++ r) (later_in q t)) (above (129 - (k + 1)) (k + 1) t) (sym c ∙ a)) d
