-- The list of a trie: its members are the leaves' paths, in order. Said once for every test f of a node, so that it serves the leaves (list_of) and all nodes alike.
-- Assumes nothing.
use mathlib.Core.Bool.{Bool, true, false, cond, ◌&&◌, ◌||◌, or-false, and-false, beq as same}
use mathlib.Core.List.{List, [], ◌∷◌, ◌++◌, map}
use mathlib.Core.Path.{◌≡◌, refl, ap, sym, ◌∙◌}
use Prim.Native.Nat.{ℕ, zero, suc, ◌+◌, ◌*◌, ◌^◌, ◌≤◌, ◌<◌, max}
use native.Mathlib.Nat.{pow-suc}
use native.Mathlib.Decide.{dec_lt}
use native.Mathlib.Omega.{arith}
use lib.ListN.{length}
use lib.Pow.{pow_mono}
use Rattle.nets.specs.Bits.{Bits, equal, digit}
use Rattle.nets.specs.Tries.{Trie, none, node, side, node_at, level, below, levels}
use Rattle.nets.specs.Lists.{member}
use Rattle.nets.proofs.Order.{key, val-high, From, from-weaken}
use Rattle.nets.proofs.Members.{any_of-append, any_of-cond, member-map-end, member-map}

-- Sides.
pub side_same : {A : Type 0} (b : Bool) (x : A) → side b x x ≡ x
side_same false x = refl
side_same true x = refl

pub side-each : {A : Type 0} (g : Bool → A) (b : Bool) → side b (g false) (g true) ≡ g b
side-each g false = refl
side-each g true = refl

pub levels-side : (b : Bool) (l r : Trie) → levels (side b l r) ≤ max (levels l) (levels r)
levels-side false l r = omega arith
levels-side true l r = omega arith

pub node_at-none : (f : Trie → Trie → Bool) (q : Bits) → node_at f q none ≡ false
node_at-none f [] = refl
node_at-none f (b ∷ q) = refl

-- Ascending lists with keys from lo on and below hi.
abbrev Between : ℕ → ℕ → List Bits → Type 0
Between lo hi [] = lo ≤ hi
Between lo hi (p ∷ l) = (lo ≤ key p) × Between (suc (key p)) hi l

between-from : (lo hi : ℕ) (l : List Bits) → Between lo hi l → From lo l
between-from lo hi [] b = tt
between-from lo hi (p ∷ l) b = (b.0, between-from (suc (key p)) hi l b.1)

between_le : (lo hi : ℕ) (l : List Bits) → Between lo hi l → lo ≤ hi
between_le lo hi [] b = b
between_le lo hi (p ∷ l) b = omega (arith, b, between_le (suc (key p)) hi l b.1)

between-fit : (a a' b b' : ℕ) (l : List Bits) → a' ≤ a → b ≤ b' → Between a b l → Between a' b' l
between-fit a a' b b' [] h k w = omega arith
between-fit a a' b b' (p ∷ l) h k w = (omega arith, between-fit (suc (key p)) (suc (key p)) b b' l (omega arith) k w.1)

between-append : (a b c : ℕ) (l m : List Bits) → Between a b l → Between b c m → Between a c (l ++ m)
between-append a b c [] m v w = between-fit b a c c m v (omega arith) w
between-append a b c (p ∷ l) m v w = (v.0, between-append (suc (key p)) b c l m v.1 w)

-- a key of k bits says so
key-bits : (k : ℕ) (p : Bits) → 2 ^ k ≤ key p → key p < 2 * 2 ^ k → length p ≡ k
key-bits k p h g = go (dec_lt (length p) k) (dec_lt k (length p))
  where
    go : Dec (length p < k) → Dec (k < length p) → length p ≡ k
    go (yes x) y = absurd (omega (arith, pow_mono x, val-high p, pow-suc 2 (length p)))
    go (no x) (yes y) = absurd (omega (arith, pow_mono y, pow-suc 2 k))
    go (no x) (no y) = omega arith

-- a bit in front adds the same to each key of k bits
abbrev step : ℕ → Bool → ℕ
step k b = 2 ^ k + digit b * 2 ^ k

key-cons : (k : ℕ) (b : Bool) (p : Bits) → length p ≡ k → key (b ∷ p) ≡ key p + step k b
key-cons k b p e = rw (← e) (omega (arith, pow-suc 2 (length p)))

between-map : (b : Bool) (k lo hi : ℕ) (l : List Bits) → 2 ^ k ≤ lo → hi ≤ 2 * 2 ^ k → Between lo hi l → Between (lo + step k b) (hi + step k b) (map (λ p. b ∷ p) l)
between-map b k lo hi [] h g w = omega arith
between-map b k lo hi (p ∷ l) h g w =
    let e = key-bits k p (omega (arith, w)) (omega (arith, between_le (suc (key p)) hi l w.1)) in
    let c = key-cons k b p e in
    let s = between-map b k (suc (key p)) hi l (omega (arith, w)) g w.1 in
    (omega (arith, w, c), between-fit _ _ _ _ (map (λ p. b ∷ p) l) (omega (arith, c)) (omega arith) s)

module _ (f : Trie → Trie → Bool) where
  between-level : (k : ℕ) (t : Trie) → Between (2 ^ k) (2 ^ suc k) (level f k t)
  between-level zero none = omega arith
  between-level zero (node l r) = go (f l r)
    where
      go : (b : Bool) → Between (2 ^ 0) (2 ^ 1) (cond b ([] ∷ []) [])
      go true = (omega arith, omega arith)
      go false = omega arith
  between-level (suc k) none = omega (arith, pow-suc 2 (suc k))
  between-level (suc k) (node l r) =
      let e = pow-suc 2 k in
      let d = pow-suc 2 (suc k) in
      between-append (2 ^ suc k) (3 * 2 ^ k) (2 ^ suc (suc k)) (map (λ p. false ∷ p) (level f k l)) (map (λ p. true ∷ p) (level f k r))
      (between-fit _ _ _ _ (map (λ p. false ∷ p) (level f k l)) (omega arith) (omega arith) (between-map false k (2 ^ k) (2 ^ suc k) (level f k l) (omega arith) (omega arith) (between-level k l)))
      (between-fit _ _ _ _ (map (λ p. true ∷ p) (level f k r)) (omega arith) (omega arith) (between-map true k (2 ^ k) (2 ^ suc k) (level f k r) (omega arith) (omega arith) (between-level k r)))

  between-below : (k : ℕ) (t : Trie) → Between 1 (2 ^ k) (below f k t)
  between-below zero t = omega arith
  between-below (suc k) t = between-append 1 (2 ^ k) (2 ^ suc k) (below f k t) (level f k t) (between-below k t) (between-level k t)

  pub from-below : (k : ℕ) (t : Trie) → From 0 (below f k t)
  from-below k t = from-weaken 0 1 (below f k t) (omega arith) (between-from 1 (2 ^ k) (below f k t) (between-below k t))

-- q has k bits; less than k bits.
abbrev exact : Bits → ℕ → Bool
exact [] zero = true
exact [] (suc k) = false
exact (b ∷ q) zero = false
exact (b ∷ q) (suc k) = exact q k

abbrev shorter : Bits → ℕ → Bool
shorter [] zero = false
shorter [] (suc k) = true
shorter (b ∷ q) zero = false
shorter (b ∷ q) (suc k) = shorter q k

shorter-zero : (q : Bits) → shorter q zero ≡ false
shorter-zero [] = refl
shorter-zero (b ∷ q) = refl

shorter-suc : (q : Bits) (k : ℕ) → (shorter q k || exact q k) ≡ shorter q (suc k)
shorter-suc [] zero = refl
shorter-suc [] (suc k) = refl
shorter-suc (b ∷ q) zero = sym (shorter-zero q)
shorter-suc (b ∷ q) (suc k) = shorter-suc q k

cond-and : (b x : Bool) → cond b x false ≡ (x && b)
cond-and true true = refl
cond-and true false = refl
cond-and false x = sym (and-false x)

and-join : (x y z : Bool) → ((x && z) || (y && z)) ≡ ((x || y) && z)
and-join true true true = refl
and-join true false true = refl
and-join false y z = refl
and-join true y false = and-false y

sides-of : (f : Trie → Trie → Bool) (c x : Bool) (q : Bits) (l r : Trie) → ((same c false && (x && node_at f q l)) || (same c true && (x && node_at f q r))) ≡ (x && node_at f q (side c l r))
sides-of f false x q l r = or-false (x && node_at f q l)
sides-of f true x q l r = refl

module _ (f : Trie → Trie → Bool) where
  member-level : (k : ℕ) (t : Trie) (q : Bits) → member q (level f k t) ≡ (exact q k && node_at f q t)
  member-level zero none q = sym (ap (λ z. exact q zero && z) (node_at-none f q) ∙ and-false (exact q zero))
  member-level zero (node l r) [] = any_of-cond (equal []) (f l r) ([] ∷ []) [] ∙ cond-and (f l r) true
  member-level zero (node l r) (b ∷ q) = any_of-cond (equal (b ∷ q)) (f l r) ([] ∷ []) [] ∙ cond-and (f l r) false
  member-level (suc k) none q = sym (ap (λ z. exact q (suc k) && z) (node_at-none f q) ∙ and-false (exact q (suc k)))
  member-level (suc k) (node l r) [] = simp (any_of-append, member-map-end)
  member-level (suc k) (node l r) (c ∷ q) = simp (any_of-append, member-map, member-level k l q, member-level k r q) (sides-of f c (exact q k) q l r)

  member_below : (k : ℕ) (t : Trie) (q : Bits) → member q (below f k t) ≡ (shorter q k && node_at f q t)
  member_below zero t q = rw (shorter-zero q)
  member_below (suc k) t q = any_of-append (equal q) (below f k t) (level f k t) ∙ simp (member_below k t q, member-level k t q, and-join, shorter-suc)

  -- no path is longer than the levels
  path-short : (q : Bits) (t : Trie) (k : ℕ) → levels t ≤ k → (shorter q k && node_at f q t) ≡ node_at f q t
  unfolding levels
  path-short [] none k h = and-false (shorter [] k)
  path-short [] (node l r) zero h = absurd (omega arith)
  path-short [] (node l r) (suc k) h = refl
  path-short (b ∷ q) none k h = and-false (shorter (b ∷ q) k)
  path-short (b ∷ q) (node l r) zero h = absurd (omega arith)
  path-short (b ∷ q) (node l r) (suc k) h = path-short q (side b l r) k (omega (arith, levels-side b l r))

  pub member-nodes : (t : Trie) (q : Bits) → member q (below f (levels t) t) ≡ node_at f q t
  member-nodes t q = member_below (levels t) t q ∙ path-short q t (levels t) (omega arith)
