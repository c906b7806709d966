-- On words that hold a trie the walk finds what the trie's search finds, and reads the nodes on its way, by induction on the bits over the child on the side of the bit. Assumes nothing.
use mathlib.Core.Bool.{Bool, true, false, cond, ◌&&◌, false≢true}
use mathlib.Core.List.{List, [], ◌∷◌, ◌++◌}
use mathlib.Core.Path.{◌≡◌, refl, ap, sym, ◌∙◌}
use Prim.Native.Nat.{ℕ, suc, ◌+◌, ◌-◌, ◌*◌, ◌/◌, ◌%◌, ◌≤◌, ◌<◌}
use native.Mathlib.Nat.{add-zero}
use native.Mathlib.Omega.{arith}
use lib.Dec.{eqb, leb}
use lib.ListN.{length}
use borrow.Author.Tests.{ne_eqb, le-leb, lt-leb, leb-true}
use Rattle.nets.specs.Bits.{Bits}
use Rattle.nets.specs.Tries.{Trie, none, node, leaf, size, bare, side, fork, insert_t}
use Rattle.nets.specs.Lists.{Found, found, missing}
use Rattle.nets.specs.TrieOps.{search_t, under, steps_t}
use Rattle.nets.proofs.Levels.{side_same}
use Rattle.nodes.specs.Words.{Has, link0, link1, word, enc, place, word_at}
use Rattle.nodes.proofs.Has.{has-at}
use Rattle.nodes.proofs.Tries.{some, word_first, word-second, word-le, word-leaf, Split, apart}
use Rattle.trie_lookup.specs.Walks.{are_nodes, toward, shows, walk, node_shows, stands_on}
use Rattle.trie_index.specs.Index.{node_at, absent_at, standing}
use Rattle.trie_lookup.specs.declared.Shown.{Shown}
use Rattle.trie_lookup.specs.declared.Shown.TheVariants.{Member, Nothing}
use Rattle.trie_lookup.proofs.Turns.{are_nodes-in, onward, walk-shows}

-- what a search that begins d bits down and goes through s nodes shows
abbrev pub shown : ℕ → Found → ℕ → Shown
shown d (found p) s = Member (d + length p) (d + s)
shown d missing s = Nothing (d + s)

shown-under : (c : Bool) (d : ℕ) (f : Found) (s : ℕ) → shown (d + 1) f s ≡ shown d (under c f) (suc s)
shown-under c d (found p) s =
    let e : d + 1 + length p ≡ d + suc (length p) = omega arith in
    let f : d + 1 + s ≡ d + suc s = omega arith in
    ap (λ n. Member n (d + 1 + s)) e ∙ ap (Member (d + suc (length p))) f
shown-under c d missing s = let e : d + 1 + s ≡ d + suc s = omega arith in ap Nothing e

pub search-none : (q : Bits) → (search_t q none ≡ missing) × (steps_t q none ≡ 0)
unfolding search_t steps_t
search-none [] = (refl, refl)
search-none (b ∷ q) = (refl, refl)

-- a leaf is found, and is the one node read
leaf-search : (q : Bits) (l r : Trie) → bare l r ≡ true → search_t q (node l r) ≡ found []
unfolding search_t
leaf-search [] l r e = rw e
leaf-search (c ∷ q) l r e = rw e

leaf-steps : (q : Bits) (l r : Trie) → bare l r ≡ true → steps_t q (node l r) ≡ 1
unfolding steps_t
leaf-steps [] l r e = refl
leaf-steps (c ∷ q) none none e = rw (side_same c none, (search-none q).1)
leaf-steps (c ∷ q) none (node x y) e = absurd (false≢true e)
leaf-steps (c ∷ q) (node x y) r e = absurd (false≢true e)

member-here : (d : ℕ) → Member d (d + 1) ≡ shown d (found []) 1
member-here d = ap (λ n. Member n (d + 1)) (sym (add-zero d))

search-on : (c : Bool) (q : Bits) (l r : Trie) (d : ℕ) → bare l r ≡ false → shown d (search_t (c ∷ q) (node l r)) (steps_t (c ∷ q) (node l r)) ≡ shown d (under c (search_t q (side c l r))) (suc (steps_t q (side c l r)))
unfolding search_t steps_t
search-on c q l r d e = rw e

-- The child on the side of the bit: how far it is, and its words.
abbrev step : Bool → Trie → ℕ
step c l = side c 1 (1 + size l)

-- the trie t stands at node i of n
pub record At (w : List ℕ) (b n i : ℕ) (t : Trie) : Type 0 where
  pub one : 1 ≤ i
  pub within : i + size t ≤ suc n
  pub has : Has w (place b i) (enc t)

module _ {w : List ℕ} {b n i : ℕ} {l r : Trie} (h : At w b n i (node l r)) where
  split : Split w b i l r
  split = apart l r h.one h.has

  size-node : i + (1 + size l + size r) ≤ suc n
  unfolding size
  size-node = h.within

  at-child : (c : Bool) → At w b n (i + step c l) (side c l r)
  at-child false = record { one = omega arith; within = omega (arith, size-node); has = split.left }
  at-child true = record { one = omega arith; within = omega (arith, size-node); has = has-at (omega arith) split.right }

  at-nodes : are_nodes n i (word l r) ≡ true
  at-nodes = are_nodes-in n i (word l r) (omega (arith, size-node, word-le l r)) (omega (arith, size-node, word-le l r))

-- an absent child shows nothing, and another is walked to
toward-child : (c : Bool) (l r : Trie) (i d : ℕ) (q : Bits) (next : ℕ → Shown) → ((side c l r ≡ none → ⊥) → next (i + step c l) ≡ shown d (search_t q (side c l r)) (steps_t q (side c l r)))
    → cond (eqb (toward c (word l r)) 0) (Nothing d) (next (i + toward c (word l r))) ≡ shown d (search_t q (side c l r)) (steps_t q (side c l r))
unfolding link0 link1
toward-child false none r i d q next f = rw (word_first none r, (search-none q).0, (search-none q).1) (ap Nothing (sym (add-zero d)))
toward-child false (node x y) r i d q next f = rw (word_first (node x y) r) (f (some x y))
toward-child true l none i d q next f = rw (word-second l none, (search-none q).0, (search-none q).1) (ap Nothing (sym (add-zero d)))
toward-child true l (node x y) i d q next f = rw (word-second l (node x y), ne_eqb (1 + size l) 0 (omega arith)) (f (some x y))

-- what a node shows is what the search finds, where the way on does
shows-search : (w : List ℕ) (b n d i : ℕ) (l r : Trie) (s : Shown) (f : Found) (k : ℕ) → At w b n i (node l r) → s ≡ shown d f k → (bare l r ≡ true → k ≡ 1)
    → shows n d i (word_at w b i) s ≡ shown d (cond (bare l r) (found []) f) k
shows-search w b n d i l r s f k h e one = rw ((split h).root, word-leaf l r, at-nodes h, e) (go (bare l r) refl)
  where
    go : (t : Bool) → bare l r ≡ t → cond t (Member d (d + 1)) (shown d f k) ≡ shown d (cond t (found []) f) k
    go true z = rw (one z) (member-here d)
    go false z = refl

module _ (w : List ℕ) (b n : ℕ) where
  pub walk-search : (q : Bits) (t : Trie) (d i : ℕ) → (t ≡ none → ⊥) → At w b n i t → walk w b n d i q ≡ shown d (search_t q t) (steps_t q t)
  unfolding search_t steps_t
  walk-search [] none d i ne h = absurd (ne refl)
  walk-search [] (node l r) d i ne h = walk-shows w b n d i [] ∙ shows-search w b n d i l r (Nothing (d + 1)) missing 1 h refl (λ z. refl)
  walk-search (c ∷ q) none d i ne h = absurd (ne refl)
  walk-search (c ∷ q) (node l r) d i ne h =
      let e = toward-child c l r i (d + 1) q (λ j. walk w b n (d + 1) j q) (λ so. walk-search q (side c l r) (d + 1) (i + step c l) so (at-child h c)) in
      walk-shows w b n d i (c ∷ q)
      ∙ shows-search w b n d i l r (onward w b n d i (c ∷ q)) (under c (search_t q (side c l r))) (suc (steps_t q (side c l r))) h
      (rw (split h).root (e ∙ shown-under c d (search_t q (side c l r)) (steps_t q (side c l r)))) (leaf-steps (c ∷ q) l r)

-- From the word of an index the same is found: of the bits p, eight with the d before, it says where the walk stands, and the bits q are still to come.
stands_on-absent : (w : List ℕ) (b n r d : ℕ) (q : Bits) → d ≤ 8 → stands_on w b n r (absent_at d) q ≡ Nothing d
unfolding stands_on
stands_on-absent w b n r d q le = let e : 16 + d - 16 ≡ d = omega arith in rw (le-leb 16 (16 + d) (omega arith), le-leb (16 + d) 24 (omega arith), e)

stands_on-node : (w : List ℕ) (b n root d r : ℕ) (q : Bits) → d ≤ 8 → 1 ≤ root + r → root + r ≤ n → stands_on w b n root (node_at d r) q ≡ node_shows w b n d (root + r) q
unfolding stands_on
stands_on-node w b n root d r q le one in-n =
    let m : (32 * r + d) % 32 ≡ d = omega arith in
    let v : (32 * r + d) / 32 ≡ r = omega arith in
    let z : (leb 16 (32 * r + d) && leb (32 * r + d) 24) ≡ false = off (leb 16 (32 * r + d)) refl in
    rw (z, m, v, le-leb d 8 le, le-leb 1 (root + r) one, le-leb (root + r) n in-n)
  where
    off : (c : Bool) → leb 16 (32 * r + d) ≡ c → (c && leb (32 * r + d) 24) ≡ false
    off false e = refl
    off true e = lt-leb (32 * r + d) 24 (omega (arith, leb-true 16 (32 * r + d) e))

module _ (w : List ℕ) (b n root : ℕ) where
  at-node : {i : ℕ} (l r : Trie) → At w b n i (node l r) → (1 ≤ i) × (i ≤ n)
  at-node l r h = (h.one, omega (arith, size-node h))

  leaf-shows : (d i : ℕ) (q p : Bits) (l r : Trie) → (d ≡ 8 → ⊥) → At w b n i (node l r) → bare l r ≡ true → node_shows w b n d i q ≡ shown d (search_t p (node l r)) (steps_t p (node l r))
  unfolding node_shows
  leaf-shows d i q p l r ne h e =
      rw (ne_eqb d 8 ne, (split h).root, word-leaf l r, e, leaf-search p l r e, leaf-steps p l r e) (member-here d)

  standing-step : (c : Bool) (p q : Bits) (d r : ℕ) (x y : Trie) → d < 8 → At w b n (root + r) (node x y)
      → stands_on w b n root (standing p (d + 1) (r + side c 1 (1 + size x)) (side c x y)) q ≡ shown (d + 1) (search_t (p ++ q) (side c x y)) (steps_t (p ++ q) (side c x y))
      → stands_on w b n root (cond (bare x y) (node_at d r) (standing p (d + 1) (r + side c 1 (1 + size x)) (side c x y))) q ≡ shown d (search_t (c ∷ (p ++ q)) (node x y)) (steps_t (c ∷ (p ++ q)) (node x y))
  standing-step c p q d r x y lt g next = go (bare x y) refl
    where
      go : (a : Bool) → bare x y ≡ a → stands_on w b n root (cond a (node_at d r) (standing p (d + 1) (r + side c 1 (1 + size x)) (side c x y))) q
          ≡ shown d (search_t (c ∷ (p ++ q)) (node x y)) (steps_t (c ∷ (p ++ q)) (node x y))
      go true z = let f = at-node x y g in stands_on-node w b n root d r q (omega arith) f.0 f.1 ∙ leaf-shows d (root + r) q (c ∷ (p ++ q)) x y (λ e. omega arith) g z
      go false z = next ∙ shown-under c d (search_t (p ++ q) (side c x y)) (steps_t (p ++ q) (side c x y)) ∙ sym (search-on c (p ++ q) x y d z)

  pub standing-search : (p q : Bits) (d r : ℕ) (t : Trie) → d + length p ≡ 8 → ((t ≡ none → ⊥) → At w b n (root + r) t)
      → stands_on w b n root (standing p d r t) q ≡ shown d (search_t (p ++ q) t) (steps_t (p ++ q) t)
  unfolding standing node_shows
  standing-search [] q d r none e h = stands_on-absent w b n root d q (omega arith) ∙ rw ((search-none q).0, (search-none q).1) (ap Nothing (sym (add-zero d)))
  standing-search [] q d r (node x y) e h =
      let g = h (some x y) in
      let z : d ≡ 8 = omega arith in
      let f = at-node x y g in
      stands_on-node w b n root d r q (omega arith) f.0 f.1 ∙ rw (z) (walk-search w b n q (node x y) 8 (root + r) (some x y) g)
  standing-search (c ∷ p) q d r none e h = stands_on-absent w b n root d q (omega arith) ∙ rw ((search-none (c ∷ (p ++ q))).0, (search-none (c ∷ (p ++ q))).1) (ap Nothing (sym (add-zero d)))
  standing-search (c ∷ p) q d r (node x y) e h =
      let u : root + (r + side c 1 (1 + size x)) ≡ root + r + side c 1 (1 + size x) = omega arith in
      standing-step c p q d r x y (omega arith) (h (some x y))
      (standing-search p q (d + 1) (r + side c 1 (1 + size x)) (side c x y) (omega arith) (λ ne. rw u (at-child (h (some x y)) c)))

-- The trie of a list that is not empty.
pub insert_t-some : (p : Bits) (t : Trie) → insert_t p t ≡ none → ⊥
unfolding insert_t
insert_t-some [] t e = some none none e
insert_t-some (b ∷ p) none e = some (side b (insert_t p none) none) (side b none (insert_t p none)) e
insert_t-some (b ∷ p) (node l r) e = go (bare l r) e
  where
    go : (x : Bool) → cond x leaf (fork b (insert_t p (side b l r)) (side b r l)) ≡ none → ⊥
    go true h = some none none h
    go false h = some (side b (insert_t p (side b l r)) (side b r l)) (side b (side b r l) (insert_t p (side b l r))) h

pub size-some : (t : Trie) → (t ≡ none → ⊥) → 1 ≤ size t
unfolding size
size-some none ne = absurd (ne refl)
size-some (node l r) ne = omega arith
