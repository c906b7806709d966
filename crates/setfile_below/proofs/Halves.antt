-- The networks below a path: those below its first half, then those below its second; what the head says of them. Assumes nothing.
use mathlib.Core.Bool.{Bool, true, false, not, cond, ◌&&◌, false≢true, beq as same}
use mathlib.Core.List.{List, [], ◌∷◌, ◌++◌, map, map-append, append_assoc}
use mathlib.Core.Path.{◌≡◌, refl, sym, ◌∙◌}
use Prim.Native.Nat.{suc, ◌≤◌, ◌<◌}
use native.Mathlib.Omega.{arith}
use lib.ListN.{length, get_or}
use Rattle.nets.specs.Bits.{Bits, leads}
use Rattle.nets.specs.Tries.{Trie, none, node, is_none, bare, levels}
use Rattle.nets.proofs.Strings.{and_left, and_right, same_refl, leads-append}
use Rattle.address_order.specs.Streams.{flat, shared}
use Rattle.trie_paths.specs.Spans.{snoc}
use Rattle.setfile_build.proofs.Growing.{cut-first, cut-levels}
use Rattle.setfile_below.specs.Stream.{below, last_of, outside}

-- Below the halves.
map_snoc : (p : Bits) (b : Bool) (l : List Bits) → map (λ q. p ++ q) (map (λ q. b ∷ q) l) ≡ map (λ q. snoc p b ++ q) l
map_snoc p b [] = refl
map_snoc p b (q ∷ l) = rw (map_snoc p b l, append_assoc p (b ∷ []) q)

pub below_none : (p : Bits) → below p none ≡ []
unfolding below flat
below_none p = refl

pub below-halves : (p : Bits) (l r : Trie) → bare l r ≡ false → below p (node l r) ≡ below (snoc p false) l ++ below (snoc p true) r
unfolding below flat
below-halves p l r e =
    rw e (map-append (λ q. p ++ q) (map (λ q. false ∷ q) (flat l)) (map (λ q. true ∷ q) (flat r)) ∙ rw (map_snoc p false (flat l), map_snoc p true (flat r)))

pub below-node : (p : Bits) (l r : Trie) (ms : List Bits) → bare l r ≡ false → below p (node l r) ++ ms ≡ below (snoc p false) l ++ (below (snoc p true) r ++ ms)
below-node p l r ms e = rw (below-halves p l r e) (append_assoc (below (snoc p false) l) (below (snoc p true) r) ms)

-- The last.
last_of-append : (q : Bits) (l m : List Bits) → last_of q (l ++ m) ≡ last_of (last_of q l) m
unfolding last_of
last_of-append q [] m = refl
last_of-append q (x ∷ l) m = last_of-append x l m

pub last_of-node : (q p : Bits) (l r : Trie) → bare l r ≡ false → last_of q (below p (node l r)) ≡ last_of (last_of q (below (snoc p false) l)) (below (snoc p true) r)
last_of-node q p l r e = rw (below-halves p l r e) (last_of-append q (below (snoc p false) l) (below (snoc p true) r))

pub last_of_none : (q p : Bits) → last_of q (below p none) ≡ q
unfolding last_of
last_of_none q p = rw (below_none p)

pub leads-last : (p m : Bits) (l : List Bits) → leads p m ≡ true → leads p (last_of m (map (λ q. p ++ q) l)) ≡ true
unfolding last_of
leads-last p m [] h = h
leads-last p m (k ∷ l) h = leads-last p (p ++ k) l (leads-append p k)

-- The first.
pub record First (p : Bits) (t : Trie) : Type 0 where
  pub k : Bits
  pub ks : List Bits
  pub here : flat t ≡ k ∷ ks
  pub is : below p t ≡ (p ++ k) ∷ map (λ q. p ++ q) ks
  pub short : suc (length k) ≤ levels t

pub first_below : (p : Bits) (t : Trie) → is_none t ≡ false → First p t
unfolding below
first_below p t e = let (k, ks, c, h) = cut-first t e in record { k = k; ks = ks; here = h; is = rw h; short = cut-levels c }

pub leads-last_of : (q p : Bits) (t : Trie) → is_none t ≡ false → leads p (last_of q (below p t)) ≡ true
unfolding last_of
leads-last_of q p t e = let f = first_below p t e in rw f.is (leads-last p (p ++ f.k) f.ks (leads-append p f.k))

-- of a node with a child: the bit behind the path says whether the first half has nothing
pub record Turned (p : Bits) (l r : Trie) : Type 0 where
  pub k : Bits
  pub ks : List Bits
  pub is : below p (node l r) ≡ (p ++ (is_none l ∷ k)) ∷ ks
  pub short : suc (suc (length k)) ≤ levels (node l r)

pub turned : (p : Bits) (l r : Trie) → bare l r ≡ false → Turned p l r
unfolding below flat levels
turned p none none e = absurd (false≢true (sym e))
turned p none (node a b) e = let f = first_below [] (node a b) refl in record { k = f.k; ks = map (λ q. p ++ q) (map (λ q. true ∷ q) f.ks); is = rw f.here; short = omega (arith, f.short) }
turned p (node a b) r e =
    let f = first_below [] (node a b) refl in
    record { k = f.k; ks = map (λ q. p ++ q) (map (λ q. false ∷ q) f.ks ++ map (λ q. true ∷ q) (flat r)); is = rw f.here; short = omega (arith, f.short) }

pub first_leaf : (p : Bits) → below p (node none none) ≡ (p ++ []) ∷ []
unfolding below flat
first_leaf p = refl

pub get_or-behind : (p : Bits) (b : Bool) (k : Bits) → get_or (p ++ (b ∷ k)) (length p) false ≡ b
get_or-behind [] b k = refl
get_or-behind (c ∷ p) b k = get_or-behind p b k

-- What is shared.
pub shared-both : (p a b : Bits) → leads p a ≡ true → leads p b ≡ true → length p ≤ shared a b
unfolding shared
shared-both [] a b h g = omega arith
shared-both (x ∷ p) [] b h g = absurd (false≢true h)
shared-both (x ∷ p) (y ∷ a) [] h g = absurd (false≢true g)
shared-both (x ∷ p) (y ∷ a) (z ∷ b) h g =
    go x y z (and_left (same x y) (leads p a) h) (and_left (same x z) (leads p b) g) (shared-both p a b (and_right (same x y) (leads p a) h) (and_right (same x z) (leads p b) g))
  where
    go : (x y z : Bool) → same x y ≡ true → same x z ≡ true → length p ≤ shared a b → suc (length p) ≤ cond (same y z) (suc (shared a b)) 0
    go true true true h g i = omega arith
    go true true false h g i = absurd (false≢true g)
    go true false z h g i = absurd (false≢true h)
    go false true z h g i = absurd (false≢true h)
    go false false true h g i = absurd (false≢true g)
    go false false false h g i = omega arith

pub shared-out : (p a b : Bits) → leads p a ≡ true → leads p b ≡ false → shared a b < length p
unfolding shared
shared-out [] a b h g = absurd (false≢true (sym g))
shared-out (x ∷ p) [] b h g = absurd (false≢true h)
shared-out (x ∷ p) (y ∷ a) [] h g = omega arith
shared-out (x ∷ p) (y ∷ a) (z ∷ b) h g = go x y z (and_left (same x y) (leads p a) h) g (shared-out p a b (and_right (same x y) (leads p a) h))
  where
    go : (x y z : Bool) → same x y ≡ true → (same x z && leads p b) ≡ false → (leads p b ≡ false → shared a b < length p) → cond (same y z) (suc (shared a b)) 0 < suc (length p)
    go true true true h g i = let j = i g in omega arith
    go true true false h g i = omega arith
    go true false z h g i = absurd (false≢true h)
    go false true z h g i = absurd (false≢true h)
    go false false true h g i = omega arith
    go false false false h g i = let j = i g in omega arith

-- Outside.
pub leads-snoc : (p : Bits) (b : Bool) (m : Bits) → leads (snoc p b) m ≡ true → leads p m ≡ true
leads-snoc [] b m h = refl
leads-snoc (x ∷ p) b [] h = absurd (false≢true h)
leads-snoc (x ∷ p) b (y ∷ m) h = rw (and_left (same x y) (leads (snoc p b) m) h) (leads-snoc p b m (and_right (same x y) (leads (snoc p b) m) h))

leads-other : (p k : Bits) → leads (snoc p false) (snoc p true ++ k) ≡ false
leads-other [] k = refl
leads-other (x ∷ p) k = rw (same_refl x) (leads-other p k)

pub outside-snoc : (p : Bits) (b : Bool) (ms : List Bits) → outside p ms ≡ true → outside (snoc p b) ms ≡ true
outside-snoc p b [] h = refl
outside-snoc p b (m ∷ ms) h = go (leads (snoc p b) m) refl
  where
    go : (x : Bool) → leads (snoc p b) m ≡ x → not x ≡ true
    go true e = rw (leads-snoc p b m e) at h
    go false e = refl

pub outside-first : (p : Bits) (r : Trie) (ms : List Bits) → outside p ms ≡ true → outside (snoc p false) (below (snoc p true) r ++ ms) ≡ true
outside-first p none ms h = rw (below_none (snoc p true)) (outside-snoc p false ms h)
outside-first p (node a b) ms h = let f = first_below (snoc p true) (node a b) refl in rw (f.is, leads-other p f.k)
