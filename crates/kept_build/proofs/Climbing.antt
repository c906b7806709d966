-- From the first network of a trie up to all of it: Up p t ms s u ns says that u is the part below the path s of the trie t, which is below p, that u has the
-- first network of t, and that ns come behind the networks of u: what t has behind them, then ms. Upwards from u either nothing of t is left, or there is a
-- branch point of which u is all of the first half. Assumes nothing.
use mathlib.Core.Bool.{Bool, true, false, false≢true}
use mathlib.Core.List.{List, ◌∷◌, ◌++◌, append-nil}
use mathlib.Core.Logic.{◌⊎◌, inl, inr}
use mathlib.Core.Path.{◌≡◌, refl, sym, ap, ◌∙◌}
use Prim.Native.Nat.{ℕ, ◌+◌, ◌≤◌}
use native.Mathlib.Omega.{arith}
use lib.ListN.{length}
use Rattle.nets.specs.Bits.{Bits}
use Rattle.nets.specs.Tries.{Trie, none, node, leaf, fork, is_none, levels}
use Rattle.trie_paths.specs.Spans.{snoc}
use Rattle.trie_paths.proofs.Paths.{length-snoc}
use Rattle.branch_points.specs.KeptTries.{kept_size}
use Rattle.branch_points.proofs.Sizes.{kept_size-halves}
use Rattle.kept_nodes.specs.Words.{kept_enc}
use Rattle.kept_nodes.proofs.Hung.{kept_size-fork, kept_enc-fork}
use Rattle.setfile_below.specs.Stream.{below, outside}
use Rattle.setfile_below.proofs.Halves.{below_none, below-halves, below-node, first_leaf, outside-snoc, outside-first}

pub data Up (p : Bits) (t : Trie) (ms : List Bits) : Bits → Trie → List Bits → Type 0 where
  top : Up p t ms p t ms
  first : {s : Bits} {l r : Trie} {ns : List Bits} → Up p t ms s (node l r) ns → Up p t ms (snoc s false) l (below (snoc s true) r ++ ns)
  second : {s : Bits} {r : Trie} {ns : List Bits} → Up p t ms s (node none r) ns → Up p t ms (snoc s true) r ns

pub not_none : (t : Trie) → is_none t ≡ false → t ≡ none → ⊥
not_none none e q = false≢true (sym e)
not_none (node l r) e q = let z : ◌≡◌ {A = ℕ} 0 1 = cc in omega arith

module _ {p : Bits} {t : Trie} {ms : List Bits} where
  pub up-size : {s : Bits} {u : Trie} {ns : List Bits} → Up p t ms s u ns → kept_size u ≤ kept_size t
  up-size top = omega arith
  up-size (first {s} {l} {r} k) = omega (arith, up-size k, kept_size-halves l r)
  up-size (second {s} {r} k) = omega (arith, up-size k, kept_size-halves none r)

  pub up-deep : {s : Bits} {u : Trie} {ns : List Bits} → Up p t ms s u ns → length s + levels u ≤ length p + levels t
  unfolding levels
  up-deep top = omega arith
  up-deep (first {s} k) = omega (arith, up-deep k, length-snoc s false)
  up-deep (second {s} k) = omega (arith, up-deep k, length-snoc s true)

  pub up-long : {s : Bits} {u : Trie} {ns : List Bits} → Up p t ms s u ns → length p ≤ length s
  up-long top = omega arith
  up-long (first {s} k) = omega (arith, up-long k, length-snoc s false)
  up-long (second {s} k) = omega (arith, up-long k, length-snoc s true)

  pub up-outside : {s : Bits} {u : Trie} {ns : List Bits} → Up p t ms s u ns → outside p ms ≡ true → outside s ns ≡ true
  up-outside top e = e
  up-outside (first {s} {l} {r} {ns} k) e = outside-first s r ns (up-outside k e)
  up-outside (second {s} {r} {ns} k) e = outside-snoc s true ns (up-outside k e)

-- The same part below two paths: their nodes and networks are one another's.
pub record Same (f : ℕ) (s : Bits) (u : Trie) (s' : Bits) (u' : Trie) : Type 0 where
  pub words : kept_enc f s u ≡ kept_enc f s' u'
  pub size : kept_size u ≡ kept_size u'
  pub nets : below s u ≡ below s' u'

below-only : (s : Bits) (c : Bool) (u : Trie) → is_none u ≡ false → below s (fork c u none) ≡ below (snoc s c) u
below-only s c none e = absurd (false≢true (sym e))
below-only s false (node x y) e = below-halves s (node x y) none refl ∙ rw (below_none (snoc s true)) (append-nil (below (snoc s false) (node x y)))
below-only s true (node x y) e = below-halves s none (node x y) refl ∙ rw (below_none (snoc s false))

same-only : (f : ℕ) (s : Bits) (c : Bool) (u : Trie) → is_none u ≡ false → Same f s (fork c u none) (snoc s c) u
same-only f s c u e = record { words = kept_enc-fork f s c u (not_none u e); size = kept_size-fork c u (not_none u e); nets = below-only s c u e }

-- Down to the first network.
pub record Lowest (p : Bits) (t : Trie) (ms : List Bits) (s : Bits) (u : Trie) (ns : List Bits) : Type 0 where
  pub at : Bits
  pub behind : List Bits
  pub up : Up p t ms at leaf behind
  pub is : below s u ++ ns ≡ at ∷ behind

pub lowest : {p : Bits} {t : Trie} {ms : List Bits} (u : Trie) {s : Bits} {ns : List Bits} → is_none u ≡ false → Up p t ms s u ns → Lowest p t ms s u ns
lowest none e k = absurd (false≢true (sym e))
lowest (node none none) {s} {ns} e k = record { at = s; behind = ns; up = k; is = rw (first_leaf s, append-nil s) }
lowest (node none (node x y)) {s} {ns} e k =
    let z = lowest (node x y) refl (second k) in
    record { at = z.at; behind = z.behind; up = z.up; is = ap (λ l. l ++ ns) (below-only s true (node x y) refl) ∙ z.is }
lowest (node (node x y) r) {s} {ns} e k =
    let z = lowest (node x y) refl (first k) in
    record { at = z.at; behind = z.behind; up = z.up; is = below-node s (node x y) r ns refl ∙ z.is }

-- Upwards: u is all of t, or all of the first half of a branch point.
pub record Whole (f : ℕ) (p : Bits) (t : Trie) (ms : List Bits) (s : Bits) (u : Trie) (ns : List Bits) : Type 0 where
  pub same : Same f p t s u
  pub rest : ns ≡ ms

pub record Branch (f : ℕ) (p : Bits) (t : Trie) (ms : List Bits) (s : Bits) (u : Trie) (ns : List Bits) : Type 0 where
  pub at : Bits
  pub l : Trie
  pub r : Trie
  pub behind : List Bits
  pub up : Up p t ms at (node l r) behind
  pub some-l : is_none l ≡ false
  pub some-r : is_none r ≡ false
  pub same : Same f (snoc at false) l s u
  pub rest : ns ≡ below (snoc at true) r ++ behind

through : {f : ℕ} {s s' s'' : Bits} {u u' u'' : Trie} → Same f s u s' u' → Same f s' u' s'' u'' → Same f s u s'' u''
through a c = record { words = a.words ∙ c.words; size = a.size ∙ c.size; nets = a.nets ∙ c.nets }

module _ (f : ℕ) {p : Bits} {t : Trie} {ms : List Bits} where
  widen : {s s' : Bits} {u u' : Trie} {ns : List Bits} → Same f s u s' u' → Whole f p t ms s u ns ⊎ Branch f p t ms s u ns
      → Whole f p t ms s' u' ns ⊎ Branch f p t ms s' u' ns
  widen a (inl k) = inl (record { same = through k.same a; rest = k.rest })
  widen a (inr k) = inr (record {
    at = k.at;
    l = k.l;
    r = k.r;
    behind = k.behind;
    up = k.up;
    some-l = k.some-l;
    some-r = k.some-r;
    same = through k.same a;
    rest = k.rest;
  })

  climb-first : (s : Bits) (l r : Trie) (ns : List Bits) → is_none l ≡ false → Up p t ms s (node l r) ns
      → Whole f p t ms s (node l r) ns ⊎ Branch f p t ms s (node l r) ns
      → Whole f p t ms (snoc s false) l (below (snoc s true) r ++ ns) ⊎ Branch f p t ms (snoc s false) l (below (snoc s true) r ++ ns)
  climb-first s l none ns e k c = rw (below_none (snoc s true)) (widen (same-only f s false l e) c)
  climb-first s l (node x y) ns e k c = inr (record {
    at = s;
    l = l;
    r = node x y;
    behind = ns;
    up = k;
    some-l = e;
    some-r = refl;
    same = record { words = refl; size = refl; nets = refl };
    rest = refl;
  })

  pub climb : {s : Bits} {u : Trie} {ns : List Bits} → is_none u ≡ false → Up p t ms s u ns → Whole f p t ms s u ns ⊎ Branch f p t ms s u ns
  climb e top = inl (record { same = record { words = refl; size = refl; nets = refl }; rest = refl })
  climb e (first {s} {l} {r} {ns} k) = climb-first s l r ns e k (climb refl k)
  climb e (second {s} {r} k) = widen (same-only f s true r e) (climb refl k)
