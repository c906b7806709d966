-- A list is the shortest of its addresses exactly if, in address order, no two neighbours are the halves of one block. In the trie the two halves of a block
-- are leaves side by side; no network stands between them. Assumes nothing.
use mathlib.Core.Bool.{Bool, true, false, not, cond, ◌&&◌, and-false}
use mathlib.Core.List.{List, [], ◌∷◌, map}
use mathlib.Core.Path.{◌≡◌, refl, sym, ◌∙◌}
use Prim.Native.Nat.{ℕ, suc}
use native.Mathlib.Omega.{arith}
use lib.Dec.{eqb-suc-suc}
use lib.ListN.{length}
use borrow.Author.Tests.{leb-true, le-leb, ne_eqb, not-true}
use Rattle.nets.specs.Bits.{Bits}
use Rattle.nets.specs.Lists.{covers, is_list, simplify_l, Simplified}
use Rattle.nets.specs.Shortest.{Shortest}
use Rattle.nets.specs.Tries.{Trie, none, node, bare, is_leaf, list_of, trie_of}
use Rattle.nets.proofs.Strings.{and_left, and_right, bool_iff, same_refl}
use Rattle.nets.proofs.Listing.{bare-none}
use Rattle.nets.proofs.TrieOf.{is_list-within, list_of-trie_of}
use Rattle.nets.proofs.Simplifying.{Simple, simplified-simple, simple-simplified, covers-simplify, simplified-simplify, is_list-simplify, simplified_one}
use Rattle.nets.proofs.Fewest.{simplify-fewest}
use Rattle.nets.proofs.ShortestOne.{shortest-is}
use Rattle.address_order.specs.Streams.{flat, shared}
use Rattle.address_order.proofs.Flat.{halves}
use Rattle.setfile_compare.specs.Comparing.{is_shortest}
use Rattle.setfile_sides.specs.Sides.{pairs, tight}

-- a string without bits, as the first and as the last of a list
abbrev is_nil : Bits → Bool
is_nil [] = true
is_nil (b ∷ p) = false

abbrev starts_nil : List Bits → Bool
starts_nil [] = false
starts_nil (p ∷ ms) = is_nil p

abbrev ends_nil : List Bits → Bool
ends_nil [] = false
ends_nil (p ∷ []) = is_nil p
ends_nil (p ∷ q ∷ ms) = ends_nil (q ∷ ms)

-- A bit in front of all changes nothing; one with 0 in front and one with 1 are halves where both have no other bits.
pairs-map : (b : Bool) (p : Bits) (ms : List Bits) → pairs (b ∷ p) (map (λ q. b ∷ q) ms) ≡ pairs p ms
unfolding pairs shared
pairs-map b p [] = refl
pairs-map b p (q ∷ ms) = rw (same_refl b, eqb-suc-suc (suc (shared p q)) (length q), eqb-suc-suc (length q) (length p))

tight-map : (b : Bool) (ms : List Bits) → tight (map (λ q. b ∷ q) ms) ≡ tight ms
unfolding tight
tight-map b [] = refl
tight-map b (p ∷ ms) = rw (pairs-map b p ms, tight-map b ms)

pairs-bits : (p : Bits) (ns : List Bits) → pairs (false ∷ p) (map (λ q. true ∷ q) ns) ≡ (is_nil p && starts_nil ns)
unfolding pairs shared
pairs-bits p [] = sym (and-false (is_nil p))
pairs-bits [] ([] ∷ ns) = refl
pairs-bits [] ((c ∷ q) ∷ ns) = rw (ne_eqb 1 (suc (suc (length q))) (omega arith))
pairs-bits (b ∷ p) ([] ∷ ns) = rw (ne_eqb 1 (suc (suc (length p))) (omega arith))
pairs-bits (b ∷ p) ((c ∷ q) ∷ ns) = rw (ne_eqb 1 (suc (suc (length q))) (omega arith))

tight-halves : (ms ns : List Bits) → tight (halves ms ns) ≡ (tight ms && (not (ends_nil ms && starts_nil ns) && tight ns))
unfolding tight pairs
tight-halves [] ns = tight-map true ns
tight-halves (p ∷ []) ns = rw (pairs-bits p ns, tight-map true ns)
tight-halves (p ∷ q ∷ ms) ns = rw (pairs-map false p (q ∷ ms), tight-halves (q ∷ ms) ns) (assoc (not (pairs p (q ∷ ms))) _ _)
  where
    assoc : (a b c : Bool) → (a && (b && c)) ≡ ((a && b) && c)
    assoc true b c = refl
    assoc false b c = refl

-- Of a trie's members in address order the first, or the last, is the empty string where the trie is a leaf.
starts-halves : (ms ns : List Bits) → starts_nil (halves ms ns) ≡ false
starts-halves [] [] = refl
starts-halves [] (q ∷ ns) = refl
starts-halves (p ∷ ms) ns = refl

ends-map : (b : Bool) (ms : List Bits) → ends_nil (map (λ q. b ∷ q) ms) ≡ false
ends-map b [] = refl
ends-map b (p ∷ []) = refl
ends-map b (p ∷ q ∷ ms) = ends-map b (q ∷ ms)

ends-halves : (ms ns : List Bits) → ends_nil (halves ms ns) ≡ false
ends-halves [] ns = ends-map true ns
ends-halves (p ∷ []) [] = refl
ends-halves (p ∷ []) (q ∷ ns) = ends-map true (q ∷ ns)
ends-halves (p ∷ q ∷ ms) ns = ends-halves (q ∷ ms) ns

starts-flat : (t : Trie) → starts_nil (flat t) ≡ is_leaf t
unfolding flat
starts-flat none = refl
starts-flat (node l r) = go (bare l r)
  where
    go : (b : Bool) → starts_nil (cond b ([] ∷ []) (halves (flat l) (flat r))) ≡ b
    go true = refl
    go false = starts-halves (flat l) (flat r)

ends-flat : (t : Trie) → ends_nil (flat t) ≡ is_leaf t
unfolding flat
ends-flat none = refl
ends-flat (node l r) = go (bare l r)
  where
    go : (b : Bool) → ends_nil (cond b ([] ∷ []) (halves (flat l) (flat r))) ≡ b
    go true = refl
    go false = ends-halves (flat l) (flat r)

-- So they are tight exactly if no node has two leaves for children.
tight-node : (l r : Trie) → tight (flat (node l r)) ≡ (tight (flat l) && (not (is_leaf l && is_leaf r) && tight (flat r)))
unfolding flat tight pairs
tight-node l r = go (bare l r) refl
  where
    go : (b : Bool) → bare l r ≡ b → tight (cond b ([] ∷ []) (halves (flat l) (flat r))) ≡ (tight (flat l) && (not (is_leaf l && is_leaf r) && tight (flat r)))
    go true e = let (x, y) = bare-none l r e in rw (x, y)
    go false e = tight-halves (flat l) (flat r) ∙ rw (ends-flat l, starts-flat r)

tight-simple : (t : Trie) → tight (flat t) ≡ true → Simple t
tight-simple none e = tt
tight-simple (node l r) e =
    let f = sym (tight-node l r) ∙ e in
    let g = and_right (tight (flat l)) (not (is_leaf l && is_leaf r) && tight (flat r)) f in (
      not-true (is_leaf l && is_leaf r) (and_left (not (is_leaf l && is_leaf r)) (tight (flat r)) g),
      tight-simple l (and_left (tight (flat l)) (not (is_leaf l && is_leaf r) && tight (flat r)) f),
      tight-simple r (and_right (not (is_leaf l && is_leaf r)) (tight (flat r)) g),
    )

simple-tight : (t : Trie) → Simple t → tight (flat t) ≡ true
unfolding flat tight
simple-tight none s = refl
simple-tight (node l r) (e, s, v) = tight-node l r ∙ rw (e, simple-tight l s, simple-tight r v)

-- Of lists.
module _ (w : ℕ) (m : List Bits) (i : is_list w m ≡ true) where
  -- "shortest" as the request means it: no list of networks that covers the same is shorter
  pub shortest-true : is_shortest m ≡ true → Shortest w (covers m) m
  unfolding is_shortest
  shortest-true e = record {
    exactly = λ a n. refl;
    fewest = λ k x. omega (arith, leb-true (length m) (length (simplify_l m)) e, simplify-fewest w m k (is_list-within w m i) x);
  }

  pub true-shortest : Shortest w (covers m) m → is_shortest m ≡ true
  unfolding is_shortest
  true-shortest s = le-leb (length m) (length (simplify_l m)) (s.fewest (simplify_l m) (λ a n. covers-simplify w m a (is_list-within w m i) n))

  pub tight-shortest : tight (flat (trie_of m)) ≡ is_shortest m
  tight-shortest = bool_iff (tight (flat (trie_of m))) (is_shortest m) there back
    where
      same : list_of (trie_of m) ≡ m
      same = list_of-trie_of w m i

      there : tight (flat (trie_of m)) ≡ true → is_shortest m ≡ true
      there e =
          let s : Simplified m = rw same at (simple-simplified (trie_of m) (tight-simple (trie_of m) e)) in
          let h = is_list-within w m i in
          let f : simplify_l m ≡ m = simplified_one w (simplify_l m) m (is_list-simplify w m h) i (simplified-simplify m) s (λ a n. covers-simplify w m a h n) in
          true-shortest ((shortest-is w m i).1 f)

      back : is_shortest m ≡ true → tight (flat (trie_of m)) ≡ true
      back e =
          let f : simplify_l m ≡ m = (shortest-is w m i).0 (shortest-true e) in
          let s : Simplified m = rw f at (simplified-simplify m) in
          simple-tight (trie_of m) (simplified-simple (trie_of m) (rw same s))
