-- The tests and stores of the small functions, as they stand in their contracts; and the words of a trie with marks, seen from its first node. Assumes nothing.
use mathlib.Core.Bool.{Bool, true, false, cond, ◌&&◌, false≢true, beq as same}
use mathlib.Core.List.{List, [], ◌∷◌, ◌++◌, append-nil}
use mathlib.Core.Path.{◌≡◌, refl, sym, ◌∙◌}
use Prim.Native.Nat.{ℕ, ◌+◌, ◌-◌, ◌*◌, ◌≤◌, ◌<◌}
use native.Mathlib.Omega.{arith}
use borrow.Author.Tests.{eq-eqb, ne_eqb, le-leb, lt-leb}
use lib.ListN.{length, set, length-append}
use Rattle.nets.specs.Bits.{Bits}
use Rattle.nets.specs.Tries.{Trie, none, node, fork, bare, levels}
use Rattle.nets.proofs.Strings.{and_left, and_right}
use Rattle.nodes.specs.Words.{put}
use Rattle.nodes.proofs.Put.{put-nil, set-put}
use Rattle.nodes.proofs.Tries.{some}
use Rattle.trie_paths.specs.Spans.{snoc}
use Rattle.trie_paths.proofs.Paths.{length-snoc}
use Rattle.branch_points.specs.KeptTries.{kept, kept_size}
use Rattle.branch_points.proofs.Sizes.{kept_size-some}
use Rattle.kept_nodes.specs.Words.{node_words, distance, own_words, kept_enc, spot}
use Rattle.kept_nodes.proofs.Places.{spot-4, spot-6}
use Rattle.kept_nodes.proofs.Hung.{kept_enc-fork, kept_size-fork, levels-fork}
use Rattle.kept_sieve.specs.Marks.{mark_bit, top_size, is_among, marked, mark_enc, link_words}

-- The branch point over two nodes with the heads x and y.
pub own-second : (x a b : ℕ) → x ≡ a → mark_bit ≤ x → 0 ≡ top_size a b
unfolding top_size
own-second x a b e h = rw (← e, le-leb mark_bit x h)

module _ (x y a b : ℕ) (e : x ≡ a) (h : x < mark_bit) (f : y ≡ b) where
  pub own_first : mark_bit ≤ y → 0 ≡ top_size a b
  unfolding top_size
  own_first k = rw (← e, ← f, lt-leb mark_bit x h, le-leb mark_bit y k)

  pub own-both : y < mark_bit → 1 ≡ top_size a b
  unfolding top_size
  own-both k = rw (← e, ← f, lt-leb mark_bit x h, lt-leb mark_bit y k)

-- The head of a node as a word, by the family.
module _ (f : ℕ) (w : List ℕ) (b i x : ℕ) where
  pub stored-4 : f ≡ 4 → set w (b + 2 * (i - 1)) x ≡ put w (spot f b i) (x ∷ [])
  stored-4 e = rw (spot-4 f b i e) (set-put w (spot f b i) x)

  pub stored-6 : (f ≡ 4 → ⊥) → set w (b + 5 * (i - 1)) x ≡ put w (spot f b i) (x ∷ [])
  stored-6 e = rw (spot-6 f b i e) (set-put w (spot f b i) x)

-- The words of a branch point, where there is one.
module _ (f : ℕ) (w : List ℕ) (b o from k : ℕ) (p : Bits) where
  pub link-none : from ≡ o → w ≡ put w (spot f b o) (link_words f p o from k)
  link-none e = rw (eq-eqb from o e) (sym (put-nil w (spot f b o)))

  pub link-some : (v : List ℕ) → (from ≡ o → ⊥) → v ≡ put w (spot f b o) (node_words f p (k - o)) → v ≡ put w (spot f b o) (link_words f p o from k)
  link-some v e h = rw (ne_eqb from o e) h

-- How many words there are, and nodes.
pub length_marked : (ws : List ℕ) → length (marked ws) ≡ length ws
length_marked [] = refl
length_marked (x ∷ ws) = refl

pub length-mark : (f : ℕ) (p : Bits) (t s : Trie) → length (mark_enc f p t s) ≡ length (kept_enc f p t)
unfolding mark_enc kept_enc
length-mark f p none s = refl
length-mark f p (node l r) none = length_marked (kept_enc f p (node l r))
length-mark f p (node l r) (node a c) =
    let own = own_words (kept l r) f p (distance l r) in
    length-append own (mark_enc f (snoc p true) r c ++ mark_enc f (snoc p false) l a)
    ∙ rw (length-append (mark_enc f (snoc p true) r c) (mark_enc f (snoc p false) l a), length-mark f (snoc p true) r c, length-mark f (snoc p false) l a)
    (sym (length-append own (kept_enc f (snoc p true) r ++ kept_enc f (snoc p false) l)
    ∙ rw (length-append (kept_enc f (snoc p true) r) (kept_enc f (snoc p false) l))))

-- where all is left there is no mark
pub mark-same : (f : ℕ) (p : Bits) (t : Trie) → mark_enc f p t t ≡ kept_enc f p t
unfolding mark_enc kept_enc
mark-same f p none = refl
mark-same f p (node l r) = rw (mark-same f (snoc p true) r, mark-same f (snoc p false) l)

pub mark-gone : (f : ℕ) (p : Bits) (t : Trie) → mark_enc f p t none ≡ marked (kept_enc f p t)
unfolding mark_enc kept_enc
mark-gone f p none = refl
mark-gone f p (node l r) = refl

-- A trie with one child only: the same words, below a longer string.
pub record Rooted (f : ℕ) (p : Bits) (t s : Trie) : Type 0 where
  pub q : Bits
  pub l : Trie
  pub r : Trie
  pub left : Trie
  pub own : kept l r ≡ true
  pub among : is_among left (node l r) ≡ true
  pub words : kept_enc f p t ≡ kept_enc f q (node l r)
  pub left-words : kept_enc f p s ≡ kept_enc f q left
  pub marks : mark_enc f p t s ≡ mark_enc f q (node l r) left
  pub size : kept_size t ≡ kept_size (node l r)
  pub left-size : kept_size s ≡ kept_size left
  pub deep : length q + levels (node l r) ≤ length p + levels t

here : (f : ℕ) (p : Bits) (l r s : Trie) → kept l r ≡ true → is_among s (node l r) ≡ true → Rooted f p (node l r) s
here f p l r s k a = record {
  q = p;
  l = l;
  r = r;
  left = s;
  own = k;
  among = a;
  words = refl;
  left-words = refl;
  marks = refl;
  size = refl;
  left-size = refl;
  deep = omega arith;
}

-- one child only, of which s is left
module _ (f : ℕ) (p : Bits) (c : Bool) (x y : Trie) where
  mark-fork : (u v : Trie) → mark_enc f p (fork c (node x y) none) (fork c (node u v) none) ≡ mark_enc f (snoc p c) (node x y) (node u v)
  unfolding mark_enc
  mark-fork u v = go c
    where
      go : (c : Bool) → mark_enc f p (fork c (node x y) none) (fork c (node u v) none) ≡ mark_enc f (snoc p c) (node x y) (node u v)
      go false = refl
      go true = append-nil (mark_enc f (snoc p true) (node x y) (node u v))

  nothing : kept_enc f p none ≡ kept_enc f (snoc p c) none
  unfolding kept_enc
  nothing = refl

  below : (s s' : Trie) → kept_enc f p s ≡ kept_enc f (snoc p c) s' → mark_enc f p (fork c (node x y) none) s ≡ mark_enc f (snoc p c) (node x y) s'
      → kept_size s ≡ kept_size s'
      → Rooted f (snoc p c) (node x y) s' → Rooted f p (fork c (node x y) none) s
  below s s' e m z h = record {
    q = h.q;
    l = h.l;
    r = h.r;
    left = h.left;
    own = h.own;
    among = h.among;
    words = kept_enc-fork f p c (node x y) (some x y) ∙ h.words;
    left-words = e ∙ h.left-words;
    marks = m ∙ h.marks;
    size = kept_size-fork c (node x y) (some x y) ∙ h.size;
    left-size = z ∙ h.left-size;
    deep = omega (arith, h.deep, length-snoc p c, levels-fork c (node x y));
  }

  below-gone : Rooted f (snoc p c) (node x y) none → Rooted f p (fork c (node x y) none) none
  below-gone = below none none nothing (mark-gone f p (fork c (node x y) none)
      ∙ rw (kept_enc-fork f p c (node x y) (some x y)) (sym (mark-gone f (snoc p c) (node x y)))) refl

  below-some : (u v : Trie) → Rooted f (snoc p c) (node x y) (node u v) → Rooted f p (fork c (node x y) none) (fork c (node u v) none)
  below-some u v = below (fork c (node u v) none) (node u v) (kept_enc-fork f p c (node u v) (some u v)) (mark-fork u v) (kept_size-fork c (node u v) (some u v))

pub rooted : (f : ℕ) (p : Bits) (t s : Trie) → (t ≡ none → ⊥) → is_among s t ≡ true → Rooted f p t s
unfolding is_among
rooted f p none s ne a = absurd (ne refl)
rooted f p (node none none) s ne a = here f p none none s refl a
rooted f p (node (node x y) (node u v)) s ne a = here f p (node x y) (node u v) s refl a
rooted f p (node none (node x y)) none ne a = below-gone f p true x y (rooted f (snoc p true) (node x y) none (some x y) refl)
rooted f p (node none (node x y)) (node none none) ne a = absurd (false≢true a)
rooted f p (node none (node x y)) (node none (node u v)) ne a = below-some f p true x y u v (rooted f (snoc p true) (node x y) (node u v) (some x y) a)
rooted f p (node none (node x y)) (node (node u v) c) ne a = absurd (false≢true a)
rooted f p (node (node x y) none) none ne a = below-gone f p false x y (rooted f (snoc p false) (node x y) none (some x y) refl)
rooted f p (node (node x y) none) (node none none) ne a = absurd (false≢true a)
rooted f p (node (node x y) none) (node (node u v) none) ne a = below-some f p false x y u v
    (rooted f (snoc p false) (node x y) (node u v) (some x y) (and_left (is_among (node u v) (node x y)) true a))
rooted f p (node (node x y) none) (node none (node u v)) ne a = absurd (false≢true (and_right (is_among none (node x y)) false a))
rooted f p (node (node x y) none) (node (node d e) (node u v)) ne a = absurd (false≢true (and_right (is_among (node d e) (node x y)) false a))

-- What is left has no more nodes.
pub among-size : (t s : Trie) → is_among s t ≡ true → kept_size s ≤ kept_size t
unfolding is_among kept_size
among-size t none a = omega arith
among-size none (node a c) e = absurd (false≢true e)
among-size (node l r) (node a c) e =
    let h = and_right (same (bare a c) (bare l r)) (is_among a l && is_among c r) e in
    go a c l r (and_left (same (bare a c) (bare l r)) (is_among a l && is_among c r) e) (among-size l a (and_left (is_among a l) (is_among c r) h))
    (among-size r c (and_right (is_among a l) (is_among c r) h))
  where
    go : (a c l r : Trie) → same (bare a c) (bare l r) ≡ true → kept_size a ≤ kept_size l → kept_size c ≤ kept_size r
        → cond (kept a c) 1 0 + kept_size a + kept_size c ≤ cond (kept l r) 1 0 + kept_size l + kept_size r
    go none none none none e i j = omega arith
    go none none none (node x y) e i j = absurd (false≢true e)
    go none none (node x y) r e i j = absurd (false≢true e)
    go none (node u v) none none e i j = absurd (false≢true e)
    go none (node u v) none (node x y) e i j = omega arith
    go none (node u v) (node x y) r e i j = omega arith
    go (node u v) none none none e i j = absurd (false≢true e)
    go (node u v) none (node x y) r e i j = omega arith
    go (node u v) none none (node x y) e i j = omega arith
    go (node u v) (node d k) none r e i j = absurd (omega (arith, kept_size-some (node u v) (some u v)))
    go (node u v) (node d k) (node x y) none e i j = absurd (omega (arith, kept_size-some (node d k) (some d k)))
    go (node u v) (node d k) (node x y) (node g m) e i j = omega arith
