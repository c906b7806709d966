-- The trie between two edges, level by level: below the bit at which the edges part each of them leaves at most one network aside. Assumes nothing.
use mathlib.Core.Bool.{Bool, true, false, not, cond, ◌&&◌, and-false, and-true, false≢true, beq as same}
use mathlib.Core.List.{List, [], ◌∷◌, ◌++◌, map, append-nil, map-append}
use mathlib.Core.Path.{◌≡◌, refl, ap, ap₂, sym, ◌∙◌}
use Prim.Native.Nat.{ℕ, zero, suc, ◌^◌, ◌≤◌, ◌<◌, max}
use native.Mathlib.Decide.{dec_lt}
use native.Mathlib.Omega.{arith}
use lib.Dec.{ltb}
use lib.ListN.{length, length-append}
use borrow.Author.Tests.{lt-ltb, le-ltb}
use Rattle.nets.specs.Bits.{Bits, equal, val}
use Rattle.nets.specs.Tries.{Trie, none, node, leaf, bare, is_leaf, side, glue, levels, level, covers_t}
use Rattle.nets.proofs.Strings.{cond_both}
use Rattle.nets.proofs.Order.{val-high}
use Rattle.nets.proofs.Listing.{covers_t-none, covers_t-leaf}
use Rattle.nets.proofs.Glue.{covers_t-glue, levels-glue}
use Rattle.nets.proofs.Simplifying.{Simple, simple-glue}
use Rattle.trie_paths.specs.Spans.{snoc}
use Rattle.setfile_range.specs.Edges.{sides, beyond, between, aside}

-- What is glued from halves that are not both full: it is no leaf, and its levels are theirs.
level-none : (k : ℕ) → level bare k none ≡ []
level-none zero = refl
level-none (suc k) = refl

level-glue : (k : ℕ) (l r : Trie) → (is_leaf l && is_leaf r) ≡ false → level bare (suc k) (glue true l r) ≡ map (λ p. false ∷ p) (level bare k l) ++ map (λ p. true ∷ p) (level bare k r)
level-glue k none none e = rw (level-none k)
level-glue k none (node c d) e = refl
level-glue k (node a b) none e = refl
level-glue k (node a b) (node c d) e = rw e

leaf-glue : (l r : Trie) → (is_leaf l && is_leaf r) ≡ false → is_leaf (glue true l r) ≡ false
leaf-glue none none e = refl
leaf-glue none (node c d) e = refl
leaf-glue (node a b) none e = refl
leaf-glue (node a b) (node c d) e = rw e

pub level-zero : (t : Trie) → is_leaf t ≡ false → level bare zero t ≡ []
level-zero none e = refl
level-zero (node l r) e = rw e

-- The same, with x on the side of the bit.
apart-side : (c : Bool) (x y : Trie) → is_leaf x ≡ false → (is_leaf (side c x y) && is_leaf (side c y x)) ≡ false
apart-side false x y e = rw e
apart-side true x y e = rw (e, and-false (is_leaf y))

leaf-sides : (c : Bool) (x y : Trie) → is_leaf x ≡ false → is_leaf (sides c x y) ≡ false
leaf-sides c x y e = leaf-glue (side c x y) (side c y x) (apart-side c x y e)

level-sides : (k : ℕ) (c : Bool) (x : Trie) → is_leaf x ≡ false → level bare (suc k) (sides c x none) ≡ map (λ p. c ∷ p) (level bare k x)
level-sides k false x e = level-glue k x none (apart-side false x none e) ∙ rw (level-none k) (append-nil (map (λ p. false ∷ p) (level bare k x)))
level-sides k true x e = level-glue k none x (apart-side true x none e) ∙ rw (level-none k)

-- To one side of a path.
pub leaf-beyond : (b : Bool) (p : Bits) → is_leaf (beyond b p) ≡ false
unfolding beyond
leaf-beyond b [] = refl
leaf-beyond b (c ∷ p) = leaf-sides c (beyond b p) (cond (same c b) leaf none) (leaf-beyond b p)

-- the network that the path p leaves aside at its bit k
abbrev hung : Bool → Bits → ℕ → List Bits
hung b [] k = []
hung b (c ∷ p) zero = aside b [] c
hung b (c ∷ p) (suc k) = map (λ q. c ∷ q) (hung b p k)

pub level-leaf : (k : ℕ) → level bare (suc k) leaf ≡ []
level-leaf k = rw (level-none k)

level-flat : (k : ℕ) (z : Bool) → level bare (suc k) (cond z leaf none) ≡ []
level-flat k true = level-leaf k
level-flat k false = refl

-- the first network, and those behind it
first-aside : (b c : Bool) (x : Trie) → is_leaf x ≡ false → level bare 1 (sides c x (cond (same c b) leaf none)) ≡ aside b [] c
unfolding aside
first-aside false false x e = level-glue zero x leaf (apart-side false x leaf e) ∙ rw (level-zero x e)
first-aside true false x e = level-sides zero false x e ∙ rw (level-zero x e)
first-aside false true x e = level-sides zero true x e ∙ rw (level-zero x e)
first-aside true true x e = level-glue zero leaf x (apart-side true x leaf e) ∙ rw (level-zero x e)

later-asides : (k : ℕ) (c z : Bool) (x : Trie) → is_leaf x ≡ false → level bare (suc (suc k)) (sides c x (cond z leaf none)) ≡ map (λ p. c ∷ p) (level bare (suc k) x)
later-asides k false z x e =
    level-glue (suc k) x (cond z leaf none) (apart-side false x (cond z leaf none) e) ∙ rw (level-flat k z) (append-nil (map (λ p. false ∷ p) (level bare (suc k) x)))
later-asides k true z x e = level-glue (suc k) (cond z leaf none) x (apart-side true x (cond z leaf none) e) ∙ rw (level-flat k z)

map-aside : (d b : Bool) (p : Bits) (c : Bool) → map (λ q. d ∷ q) (aside b p c) ≡ aside b (d ∷ p) c
unfolding aside
map-aside d b p c = go (same c b)
  where
    go : (z : Bool) → map (λ q. d ∷ q) (cond z (snoc p (not b) ∷ []) []) ≡ cond z (snoc (d ∷ p) (not b) ∷ []) []
    go true = refl
    go false = refl

pub level-beyond : (b : Bool) (p : Bits) (c : Bool) (q : Bits) → level bare (suc (length p)) (beyond b (p ++ (c ∷ q))) ≡ aside b p c
unfolding beyond
level-beyond b [] c q = first-aside b c (beyond b q) (leaf-beyond b q)
level-beyond b (d ∷ p) c q =
    later-asides (length p) d (same d b) (beyond b (p ++ (c ∷ q))) (leaf-beyond b (p ++ (c ∷ q)))
    ∙ ap (map (λ x. d ∷ x)) (level-beyond b p c q) ∙ map-aside d b p c

-- Between two.
pub leaf-between : (p q : Bits) → is_leaf (between p q) ≡ false
unfolding between
leaf-between [] q = refl
leaf-between (c ∷ p) [] = refl
leaf-between (false ∷ p) (false ∷ q) = leaf-sides false (between p q) none (leaf-between p q)
leaf-between (false ∷ p) (true ∷ q) = leaf-glue (beyond false p) (beyond true q) (rw (leaf-beyond false p))
leaf-between (true ∷ p) (false ∷ q) = refl
leaf-between (true ∷ p) (true ∷ q) = leaf-sides true (between p q) none (leaf-between p q)

start_between : (p q : Bits) (c d : Bool) → level bare 1 (between (c ∷ p) (d ∷ q)) ≡ []
unfolding between
start_between p q false false = level-sides zero false (between p q) (leaf-between p q) ∙ rw (level-zero (between p q) (leaf-between p q))
start_between p q false true =
    level-glue zero (beyond false p) (beyond true q) (rw (leaf-beyond false p))
    ∙ rw (level-zero (beyond false p) (leaf-beyond false p), level-zero (beyond true q) (leaf-beyond true q))
start_between p q true false = refl
start_between p q true true = level-sides zero true (between p q) (leaf-between p q) ∙ rw (level-zero (between p q) (leaf-between p q))

map-cond : (e z : Bool) (l m : List Bits) → map (λ x. e ∷ x) (cond z (l ++ m) []) ≡ cond z (map (λ x. e ∷ x) l ++ map (λ x. e ∷ x) m) []
map-cond e true l m = map-append (λ x. e ∷ x) l m
map-cond e false l m = refl

-- the bit in front of both, and of what they leave aside
map-asides : (e z : Bool) (p q : Bits) (c d : Bool) → map (λ x. e ∷ x) (cond z (aside false p c ++ aside true q d) []) ≡ cond z (aside false (e ∷ p) c ++ aside true (e ∷ q) d) []
map-asides e z p q c d = map-cond e z (aside false p c) (aside true q d) ∙ rw (map-aside e false p c, map-aside e true q d)

-- Which of two strings of one length is smaller.
smaller-same : (c : Bool) (p x : Bits) → length p ≡ length x → ltb (val (c ∷ p)) (val (c ∷ x)) ≡ ltb (val p) (val x)
smaller-same c p x e = go (dec_lt (val p) (val x))
  where
    go : Dec (val p < val x) → ltb (val (c ∷ p)) (val (c ∷ x)) ≡ ltb (val p) (val x)
    go (yes h) = lt-ltb (val (c ∷ p)) (val (c ∷ x)) (rw e (omega arith)) ∙ sym (lt-ltb (val p) (val x) h)
    go (no h) = le-ltb (val (c ∷ p)) (val (c ∷ x)) (rw e (omega arith)) ∙ sym (le-ltb (val p) (val x) (omega arith))

smaller-yes : (p x : Bits) → length p ≡ length x → ltb (val (false ∷ p)) (val (true ∷ x)) ≡ true
smaller-yes p x e = lt-ltb (val (false ∷ p)) (val (true ∷ x)) (omega (arith, val-high p, ap (λ n. 2 ^ n) e))

smaller-no : (p x : Bits) → length p ≡ length x → ltb (val (true ∷ p)) (val (false ∷ x)) ≡ false
smaller-no p x e = le-ltb (val (true ∷ p)) (val (false ∷ x)) (omega (arith, val-high x, ap (λ n. 2 ^ n) e))

longer : (p q : Bits) (c d : Bool) (x y : Bits) → length p ≡ length q → length x ≡ length y → length (p ++ (c ∷ x)) ≡ length (q ++ (d ∷ y))
longer p q c d x y e g = rw (length-append p (c ∷ x), length-append q (d ∷ y)) (omega arith)

pub level-between : (p q : Bits) (c d : Bool) (x y : Bits) → length p ≡ length q → length x ≡ length y → ltb (val (p ++ (c ∷ x))) (val (q ++ (d ∷ y))) ≡ true
    → level bare (suc (length p)) (between (p ++ (c ∷ x)) (q ++ (d ∷ y))) ≡ cond (not (equal p q)) (aside false p c ++ aside true q d) []
unfolding between
level-between [] [] c d x y e g h = start_between x y c d
level-between [] (b ∷ q) c d x y e g h = absurd (omega arith)
level-between (a ∷ p) [] c d x y e g h = absurd (omega arith)
level-between (false ∷ p) (false ∷ q) c d x y e g h =
    let n : length p ≡ length q = omega arith in
    level-sides (suc (length p)) false (between (p ++ (c ∷ x)) (q ++ (d ∷ y))) (leaf-between (p ++ (c ∷ x)) (q ++ (d ∷ y)))
    ∙ ap (map (λ z. false ∷ z)) (level-between p q c d x y n g (sym (smaller-same false (p ++ (c ∷ x)) (q ++ (d ∷ y)) (longer p q c d x y n g)) ∙ h))
    ∙ map-asides false (not (equal p q)) p q c d
level-between (true ∷ p) (true ∷ q) c d x y e g h =
    let n : length p ≡ length q = omega arith in
    level-sides (suc (length p)) true (between (p ++ (c ∷ x)) (q ++ (d ∷ y))) (leaf-between (p ++ (c ∷ x)) (q ++ (d ∷ y)))
    ∙ ap (map (λ z. true ∷ z)) (level-between p q c d x y n g (sym (smaller-same true (p ++ (c ∷ x)) (q ++ (d ∷ y)) (longer p q c d x y n g)) ∙ h))
    ∙ map-asides true (not (equal p q)) p q c d
level-between (false ∷ p) (true ∷ q) c d x y e g h =
    let n : length p ≡ length q = omega arith in
    level-glue (suc (length p)) (beyond false (p ++ (c ∷ x))) (beyond true (q ++ (d ∷ y))) (rw (leaf-beyond false (p ++ (c ∷ x))))
    ∙ ap₂ (λ l m. map (λ z. false ∷ z) l ++ map (λ z. true ∷ z) m) (level-beyond false p c x) (ap (λ k. level bare (suc k) (beyond true (q ++ (d ∷ y)))) n ∙ level-beyond true q d y)
    ∙ rw (map-aside false false p c, map-aside true true q d)
level-between (true ∷ p) (false ∷ q) c d x y e g h =
    let n : length p ≡ length q = omega arith in
    absurd (false≢true (sym (smaller-no (p ++ (c ∷ x)) (q ++ (d ∷ y)) (longer p q c d x y n g)) ∙ h))

-- What lies there: the numbers beyond that of the path, and between those of two.
covers-flat : (z : Bool) (x : Bits) → covers_t (cond z leaf none) x ≡ z
covers-flat true x = covers_t-leaf x
covers-flat false x = covers_t-none x

pub covers-beyond : (b : Bool) (p x : Bits) → length p ≡ length x → covers_t (beyond b p) x ≡ side b (ltb (val p) (val x)) (ltb (val x) (val p))
unfolding beyond
covers-beyond false [] [] e = refl
covers-beyond true [] [] e = refl
covers-beyond b [] (d ∷ x) e = absurd (omega arith)
covers-beyond b (c ∷ p) [] e = absurd (omega arith)
covers-beyond b (c ∷ p) (d ∷ x) e =
    covers_t-glue true d (side c (beyond b p) (cond (same c b) leaf none)) (side c (cond (same c b) leaf none) (beyond b p)) x
    ∙ go b c d (omega arith) (covers-beyond b p x (omega arith))
  where
    go : (b c d : Bool) → length p ≡ length x → covers_t (beyond b p) x ≡ side b (ltb (val p) (val x)) (ltb (val x) (val p))
        → covers_t (side d (side c (beyond b p) (cond (same c b) leaf none)) (side c (cond (same c b) leaf none) (beyond b p))) x
        ≡ side b (ltb (val (c ∷ p)) (val (d ∷ x))) (ltb (val (d ∷ x)) (val (c ∷ p)))
    go false false false n i = i ∙ sym (smaller-same false p x n)
    go false true true n i = i ∙ sym (smaller-same true p x n)
    go true false false n i = i ∙ sym (smaller-same false x p (sym n))
    go true true true n i = i ∙ sym (smaller-same true x p (sym n))
    go false false true n i = covers_t-leaf x ∙ sym (smaller-yes p x n)
    go true false true n i = covers_t-none x ∙ sym (smaller-no x p (sym n))
    go false true false n i = covers_t-none x ∙ sym (smaller-no p x n)
    go true true false n i = covers_t-leaf x ∙ sym (smaller-yes x p (sym n))

pub covers-between : (p q x : Bits) → length p ≡ length x → length q ≡ length x → covers_t (between p q) x ≡ (ltb (val p) (val x) && ltb (val x) (val q))
unfolding between
covers-between [] q [] e g = refl
covers-between [] q (d ∷ x) e g = absurd (omega arith)
covers-between (a ∷ p) q [] e g = absurd (omega arith)
covers-between (a ∷ p) [] (d ∷ x) e g = absurd (omega arith)
covers-between (false ∷ p) (false ∷ q) (false ∷ x) e g =
    covers_t-glue true false (between p q) none x ∙ covers-between p q x (omega arith) (omega arith)
    ∙ sym (ap₂ ◌&&◌ (smaller-same false p x (omega arith)) (smaller-same false x q (omega arith)))
covers-between (true ∷ p) (true ∷ q) (true ∷ x) e g =
    covers_t-glue true true none (between p q) x ∙ covers-between p q x (omega arith) (omega arith)
    ∙ sym (ap₂ ◌&&◌ (smaller-same true p x (omega arith)) (smaller-same true x q (omega arith)))
covers-between (false ∷ p) (false ∷ q) (true ∷ x) e g =
    covers_t-glue true true (between p q) none x ∙ covers_t-none x
    ∙ sym (ap (λ z. ltb (val (false ∷ p)) (val (true ∷ x)) && z) (smaller-no x q (omega arith)) ∙ and-false (ltb (val (false ∷ p)) (val (true ∷ x))))
covers-between (true ∷ p) (true ∷ q) (false ∷ x) e g =
    covers_t-glue true false none (between p q) x ∙ covers_t-none x ∙ sym (ap (λ z. z && ltb (val (false ∷ x)) (val (true ∷ q))) (smaller-no p x (omega arith)))
covers-between (false ∷ p) (true ∷ q) (false ∷ x) e g =
    covers_t-glue true false (beyond false p) (beyond true q) x ∙ covers-beyond false p x (omega arith)
    ∙ sym (ap₂ ◌&&◌ (smaller-same false p x (omega arith)) (smaller-yes x q (omega arith)) ∙ and-true (ltb (val p) (val x)))
covers-between (false ∷ p) (true ∷ q) (true ∷ x) e g =
    covers_t-glue true true (beyond false p) (beyond true q) x ∙ covers-beyond true q x (omega arith)
    ∙ sym (ap₂ ◌&&◌ (smaller-yes p x (omega arith)) (smaller-same true x q (omega arith)))
covers-between (true ∷ p) (false ∷ q) (false ∷ x) e g = covers_t-none (false ∷ x) ∙ sym (ap (λ z. z && ltb (val (false ∷ x)) (val (false ∷ q))) (smaller-no p x (omega arith)))
covers-between (true ∷ p) (false ∷ q) (true ∷ x) e g =
    covers_t-none (true ∷ x)
    ∙ sym (ap (λ z. ltb (val (true ∷ p)) (val (true ∷ x)) && z) (smaller-no x q (omega arith)) ∙ and-false (ltb (val (true ∷ p)) (val (true ∷ x))))

-- It is simple, and has a level for each bit and one more.
simple-flat : (z : Bool) → Simple (cond z leaf none)
simple-flat z = cond_both Simple z leaf none (refl, tt, tt) tt

simple-sides : (c : Bool) (x y : Trie) → Simple x → Simple y → Simple (sides c x y)
simple-sides false x y s v = simple-glue x y s v
simple-sides true x y s v = simple-glue y x v s

pub simple-beyond : (b : Bool) (p : Bits) → Simple (beyond b p)
unfolding beyond
simple-beyond b [] = tt
simple-beyond b (c ∷ p) = simple-sides c (beyond b p) (cond (same c b) leaf none) (simple-beyond b p) (simple-flat (same c b))

pub simple-between : (p q : Bits) → Simple (between p q)
unfolding between
simple-between [] q = tt
simple-between (c ∷ p) [] = tt
simple-between (false ∷ p) (false ∷ q) = simple-sides false (between p q) none (simple-between p q) tt
simple-between (true ∷ p) (true ∷ q) = simple-sides true (between p q) none (simple-between p q) tt
simple-between (false ∷ p) (true ∷ q) = simple-glue (beyond false p) (beyond true q) (simple-beyond false p) (simple-beyond true q)
simple-between (true ∷ p) (false ∷ q) = tt

levels-flat : (z : Bool) → levels (cond z leaf none) ≤ 1
unfolding levels
levels-flat z = cond_both (λ t. levels t ≤ 1) z leaf none (omega arith) (omega arith)

levels-sides : (c : Bool) (x y : Trie) → levels (sides c x y) ≤ suc (max (levels x) (levels y))
levels-sides false x y = levels-glue true x y
levels-sides true x y = omega (arith, levels-glue true y x)

pub levels-beyond : (b : Bool) (p : Bits) → levels (beyond b p) ≤ suc (length p)
unfolding beyond levels
levels-beyond b [] = omega arith
levels-beyond b (c ∷ p) = omega (arith, levels-sides c (beyond b p) (cond (same c b) leaf none), levels-beyond b p, levels-flat (same c b))

pub levels-between : (p q : Bits) → length p ≡ length q → levels (between p q) ≤ suc (length p)
unfolding between levels
levels-between [] q e = omega arith
levels-between (c ∷ p) [] e = omega arith
levels-between (false ∷ p) (false ∷ q) e = omega (arith, levels-sides false (between p q) none, levels-between p q (omega arith))
levels-between (true ∷ p) (true ∷ q) e = omega (arith, levels-sides true (between p q) none, levels-between p q (omega arith))
levels-between (false ∷ p) (true ∷ q) e = omega (arith, levels-glue true (beyond false p) (beyond true q), levels-beyond false p, levels-beyond true q)
levels-between (true ∷ p) (false ∷ q) e = omega arith
