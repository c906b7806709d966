-- What is made of a trie by one network, step by step, and where a half is gone as a whole: where the network leads the string of its first node. Assumes nothing.
use mathlib.Core.Bool.{Bool, true, false, not, cond, false≢true}
use mathlib.Core.List.{List, [], ◌∷◌, ◌++◌, append_assoc, append-nil}
use mathlib.Core.Path.{◌≡◌, refl, sym, ap, ◌∙◌}
use Prim.Native.Nat.{ℕ, ◌+◌, ◌≤◌}
use native.Mathlib.Omega.{arith}
use Rattle.nets.specs.Bits.{Bits, leads}
use Rattle.nets.specs.Tries.{Trie, none, node, leaf, bare, side, fork, insert_t}
use Rattle.nets.specs.TrieOps.{rejoin, remove_t}
use Rattle.nodes.proofs.Tries.{some}
use Rattle.trie_remove.proofs.Remains.{rejoin-fork, rejoin-none, remove_t-end, remove_t-leaf, remove_t-inner}
use Rattle.trie_paths.specs.Spans.{snoc}
use Rattle.branch_points.specs.KeptTries.{kept_size}
use Rattle.branch_points.proofs.Sizes.{kept_size-leaf}
use Rattle.kept_nodes.specs.Words.{node_words, distance, kept_enc}
use Rattle.kept_nodes.specs.Parse.{KeptStands, string_at, hung}
use Rattle.kept_nodes.proofs.Places.{kept_enc-leaf, kept_enc-none}
use Rattle.kept_nodes.proofs.Hung.{kept_enc-hung, kept_size-hung, kept_enc-fork, kept_size-fork}
use Rattle.kept_nodes.proofs.NodeWords.{string-is}
use Rattle.kept_nodes.proofs.Parsed.{leaf-says, branch-split, fork-stands}
use Rattle.kept_plan.specs.Change.{change_t}

pub insert-some : (q : Bits) (t : Trie) → insert_t q t ≡ none → ⊥
unfolding insert_t
insert-some [] t e = some none none e
insert-some (false ∷ q) none e = some _ _ e
insert-some (true ∷ q) none e = some _ _ e
insert-some (c ∷ q) (node l r) e = go (bare l r) c e
  where
    go : (x : Bool) (c : Bool) → cond x leaf (fork c (insert_t q (side c l r)) (side c r l)) ≡ none → ⊥
    go true c h = some none none h
    go false c h = some _ _ h

bare-some : (x y : Trie) → (x ≡ none → ⊥) → bare x y ≡ false
bare-some none y ne = absurd (ne refl)
bare-some (node l r) y ne = refl

-- a path into nothing: a single member
chain-hung : (q : Bits) → insert_t q none ≡ hung q leaf
unfolding insert_t
chain-hung [] = refl
chain-hung (c ∷ q) = ap (λ t. fork c t none) (chain-hung q)

pub chain-words : (f : ℕ) (p q : Bits) → kept_enc f p (insert_t q none) ≡ node_words f (p ++ q) 0
chain-words f p q = rw (chain-hung q, kept_enc-hung f p q leaf (some none none)) (kept_enc-leaf f (p ++ q))

pub chain-size : (q : Bits) → kept_size (insert_t q none) ≡ 1
chain-size q = rw (chain-hung q, kept_size-hung q leaf (some none none)) kept_size-leaf

-- a trie that is no leaf: the half on the side of the bit is changed
pub change-inner : (x : Bool) (c : Bool) (q : Bits) (l r : Trie) → bare l r ≡ false → change_t x (c ∷ q) (node l r) ≡ rejoin c (change_t x q (side c l r)) (side c r l)
unfolding insert_t
change-inner true c q l r e = rw e (sym (rejoin-fork c (insert_t q (side c l r)) (side c r l) (bare-some (insert_t q (side c l r)) (side c r l) (insert-some q (side c l r)))))
change-inner false c q l r e = remove_t-inner c q l r e

-- the trie with halves one of which is empty
pub one-words : (f : ℕ) (p : Bits) (c : Bool) (x : Trie) → kept_enc f p (rejoin c x none) ≡ kept_enc f (snoc p c) x
one-words f p c none = rw (rejoin-none c, kept_enc-none f p, kept_enc-none f (snoc p c))
one-words f p c (node l r) = rw (rejoin-fork c (node l r) none refl) (kept_enc-fork f p c (node l r) (some l r))

pub one_size : (c : Bool) (x : Trie) → kept_size (rejoin c x none) ≡ kept_size x
one_size c none = rw (rejoin-none c)
one_size c (node l r) = rw (rejoin-fork c (node l r) none refl) (kept_size-fork c (node l r) (some l r))

rejoin-other : (c : Bool) (x : Trie) → rejoin c none x ≡ rejoin (not c) x none
rejoin-other true x = refl
rejoin-other false x = refl

pub other-words : (f : ℕ) (p : Bits) (c : Bool) (x : Trie) → kept_enc f p (rejoin c none x) ≡ kept_enc f (snoc p (not c)) x
other-words f p c x = rw (rejoin-other c x) (one-words f p (not c) x)

pub other-size : (c : Bool) (x : Trie) → kept_size (rejoin c none x) ≡ kept_size x
other-size c x = rw (rejoin-other c x) (one_size (not c) x)

-- with both halves: first l, then r
pub both_words : (f : ℕ) (p : Bits) (l r : Trie) → (l ≡ none → ⊥) → (r ≡ none → ⊥)
    → (kept_enc f p (node l r) ≡ node_words f p (1 + kept_size r) ++ (kept_enc f (snoc p true) r ++ kept_enc f (snoc p false) l)) × (kept_size (node l r) ≡ 1 + kept_size l + kept_size r)
unfolding kept_enc distance kept_size
both_words f p none r nl nr = absurd (nl refl)
both_words f p (node x y) none nl nr = absurd (nr refl)
both_words f p (node x y) (node z u) nl nr = (refl, omega arith)

pub rejoin-words : (f : ℕ) (p : Bits) (c : Bool) (x y : Trie) → (x ≡ none → ⊥) → (y ≡ none → ⊥)
    → (kept_enc f p (rejoin c x y) ≡ node_words f p (1 + kept_size (side c y x)) ++ (kept_enc f (snoc p true) (side c y x) ++ kept_enc f (snoc p false) (side c x y)))
    × (kept_size (rejoin c x y) ≡ 1 + kept_size x + kept_size y)
rejoin-words f p false x y nx ny = rw (rejoin-fork false x y (bare-some x y nx)) (both_words f p x y nx ny)
rejoin-words f p true x y nx ny = let k = both_words f p y x ny nx in rw (rejoin-fork true x y (bare-some x y nx)) (k.0, omega (arith, k.1))

-- The string of the first node of a trie, below the string where it stands.
unfoldable pub top_of : Trie → Bits
top_of none = []
top_of (node none none) = []
top_of (node none (node x y)) = true ∷ top_of (node x y)
top_of (node (node x y) none) = false ∷ top_of (node x y)
top_of (node (node x y) (node z u)) = []

pub string-top : {f : ℕ} {w : List ℕ} {b n : ℕ} (t : Trie) (p : Bits) (i : ℕ) → 1 ≤ i → (t ≡ none → ⊥) → KeptStands f w b n p i t → string_at f w b i ≡ p ++ top_of t
unfolding top_of
string-top none p i pos ne s = absurd (ne refl)
string-top (node none none) p i pos ne s = string-is (leaf-says pos s) ∙ sym (append-nil p)
string-top (node none (node x y)) p i pos ne s =
    string-top (node x y) (snoc p true) i pos (some x y) (fork-stands pos true (node x y) (some x y) s) ∙ append_assoc p (true ∷ []) (top_of (node x y))
string-top (node (node x y) none) p i pos ne s =
    string-top (node x y) (snoc p false) i pos (some x y) (fork-stands pos false (node x y) (some x y) s) ∙ append_assoc p (false ∷ []) (top_of (node x y))
string-top (node (node x y) (node z u)) p i pos ne s = string-is (branch-split pos s).root ∙ sym (append-nil p)

same-both : {X : Type 0} → ◌≡◌ {A = Bool} false true → X
same-both e = absurd (false≢true e)

-- what is inside the network goes, and nothing else does
pub removed-gone : (q : Bits) (t : Trie) → (t ≡ none → ⊥) → leads q (top_of t) ≡ true → remove_t q t ≡ none
unfolding top_of
removed-gone [] t ne e = remove_t-end t
removed-gone (c ∷ q) none ne e = absurd (ne refl)
removed-gone (c ∷ q) (node none none) ne e = same-both e
removed-gone (true ∷ q) (node none (node x y)) ne e = rw (remove_t-inner true q none (node x y) refl, removed-gone q (node x y) (some x y) e) (rejoin-none true)
removed-gone (false ∷ q) (node none (node x y)) ne e = same-both e
removed-gone (true ∷ q) (node (node x y) none) ne e = same-both e
removed-gone (false ∷ q) (node (node x y) none) ne e = rw (remove_t-inner false q (node x y) none refl, removed-gone q (node x y) (some x y) e) (rejoin-none false)
removed-gone (c ∷ q) (node (node x y) (node z u)) ne e = same-both e

rejoin-some : (c : Bool) (x y : Trie) → bare x y ≡ false → rejoin c x y ≡ none → ⊥
rejoin-some c x y e h = some (side c x y) (side c y x) (sym (rejoin-fork c x y e) ∙ h)

bare-other : (x l r : Trie) → bare x (node l r) ≡ false
bare-other none l r = refl
bare-other (node a b) l r = refl

pub removed-stays : (q : Bits) (t : Trie) → (t ≡ none → ⊥) → leads q (top_of t) ≡ false → remove_t q t ≡ none → ⊥
unfolding top_of
removed-stays [] t ne e h = same-both (sym e)
removed-stays (c ∷ q) none ne e h = ne refl
removed-stays (c ∷ q) (node none none) ne e h = some (side c (remove_t q leaf) leaf) (side c leaf (remove_t q leaf)) (sym (remove_t-leaf c q) ∙ h)
removed-stays (true ∷ q) (node none (node x y)) ne e h =
    rejoin-some true (remove_t q (node x y)) none (bare-some (remove_t q (node x y)) none (removed-stays q (node x y) (some x y) e)) (sym (remove_t-inner true q none (node x y) refl) ∙ h)
removed-stays (false ∷ q) (node none (node x y)) ne e h = rejoin-some false (remove_t q none) (node x y) (bare-other (remove_t q none) x y) (sym (remove_t-inner false q none (node x y) refl) ∙ h)
removed-stays (true ∷ q) (node (node x y) none) ne e h = rejoin-some true (remove_t q none) (node x y) (bare-other (remove_t q none) x y) (sym (remove_t-inner true q (node x y) none refl) ∙ h)
removed-stays (false ∷ q) (node (node x y) none) ne e h =
    rejoin-some false (remove_t q (node x y)) none (bare-some (remove_t q (node x y)) none (removed-stays q (node x y) (some x y) e)) (sym (remove_t-inner false q (node x y) none refl) ∙ h)
removed-stays (true ∷ q) (node (node x y) (node z u)) ne e h = rejoin-some true (remove_t q (node z u)) (node x y) (bare-other (remove_t q (node z u)) x y) (sym (remove_t-inner true q (node x y) (node z u) refl) ∙ h)
removed-stays (false ∷ q) (node (node x y) (node z u)) ne e h = rejoin-some false (remove_t q (node x y)) (node z u) (bare-other (remove_t q (node x y)) z u) (sym (remove_t-inner false q (node x y) (node z u) refl) ∙ h)
