-- The numbers of a set operation: its verdicts, what the number of a source means, and the numbers of its halves. Assumes nothing.
use mathlib.Core.Path.{◌≡◌, refl, sym, ◌∙◌}
use mathlib.Core.Bool.{Bool, true, false, not, cond, ◌&&◌, ◌||◌}
use mathlib.Core.List.{List}
use Prim.Native.Nat.{ℕ, zero, suc, ◌+◌, ◌-◌, ◌/◌, ◌%◌, ◌≤◌, ◌<◌, max, min}
use native.Mathlib.Omega.{arith}
use borrow.Author.Tests.{eq-eqb, ne_eqb}
use lib.Dec.{eqb}
use lib.ListN.{length}
use Rattle.nets.specs.Tries.{Trie, none, node, leaf, size, is_none, bare, side}
use Rattle.nets.specs.TrieOps.{Kind, flat, mixed, kind_of, verdict, half}
use Rattle.nodes.specs.Words.{Has, place, word_at, link0, link1, enc}
use Rattle.nodes.proofs.Tries.{length-enc, word_first, word-second, word-leaf, Split, apart}
use Rattle.trie_emit.proofs.Answers.{by_kind}
use Rattle.trie_emit.specs.Combine.{op_of, rank, all, Here, Means, nothing, everything, standing}

-- Kinds by their ranks.
each : (P : Kind → Type 0) → P (flat false) → P mixed → P (flat true) → (k : Kind) → P k
each P x y z (flat false) = x
each P x y z mixed = y
each P x y z (flat true) = z

pub rank-le : (k : Kind) → rank k ≤ 2
rank-le = each (λ k. rank k ≤ 2) (omega arith) (omega arith) (omega arith)

rank-or : (k l : Kind) → max (rank k) (rank l) ≡ rank (verdict ◌||◌ k l)
rank-or = each (λ k. (l : Kind) → max (rank k) (rank l) ≡ rank (verdict ◌||◌ k l)) (each _ refl refl refl) (each _ refl refl refl) (each _ refl refl refl)

rank-and : (k l : Kind) → min (rank k) (rank l) ≡ rank (verdict ◌&&◌ k l)
rank-and = each (λ k. (l : Kind) → min (rank k) (rank l) ≡ rank (verdict ◌&&◌ k l)) (each _ refl refl refl) (each _ refl refl refl) (each _ refl refl refl)

rank-but : (k l : Kind) → min (rank k) (2 - rank l) ≡ rank (verdict (λ x y. x && not y) k l)
rank-but = each (λ k. (l : Kind) → min (rank k) (2 - rank l) ≡ rank (verdict (λ x y. x && not y) k l)) (each _ refl refl refl) (each _ refl refl refl) (each _ refl refl refl)

module _ (op : ℕ) (k l : Kind) where
  pub settled-or : op ≡ 0 → max (rank k) (rank l) ≡ rank (verdict (op_of op) k l)
  unfolding op_of
  settled-or e = rw e (rank-or k l)

  pub settled-and : op ≡ 1 → min (rank k) (rank l) ≡ rank (verdict (op_of op) k l)
  unfolding op_of
  settled-and e = rw e (rank-and k l)

  pub settled-but : (op ≡ 0 → ⊥) → (op ≡ 1 → ⊥) → min (rank k) (2 - rank l) ≡ rank (verdict (op_of op) k l)
  unfolding op_of
  settled-but f g = go op f g
    where
      go : (n : ℕ) → (n ≡ 0 → ⊥) → (n ≡ 1 → ⊥) → min (rank k) (2 - rank l) ≡ rank (verdict (op_of n) k l)
      go zero f g = absurd (f refl)
      go (suc zero) f g = absurd (g refl)
      go (suc (suc n)) f g = rank-but k l

pub rank-none : (t : Trie) → rank (kind_of t) ≡ 0 → t ≡ none
rank-none = by_kind (λ t. rank (kind_of t) ≡ 0 → t ≡ none) (λ h. refl) (λ h. absurd (omega arith)) (λ l r e. rw e (λ h. absurd (omega arith)))

pub rank-leaf : (t : Trie) → rank (kind_of t) ≡ 2 → t ≡ leaf
rank-leaf = by_kind (λ t. rank (kind_of t) ≡ 2 → t ≡ leaf) (λ h. absurd (omega arith)) (λ h. refl) (λ l r e. rw e (λ h. absurd (omega arith)))

rank-bare : (x : Bool) → (rank (cond x (flat true) mixed) ≡ 2 → ⊥) → x ≡ false
rank-bare true f = absurd (f refl)
rank-bare false f = refl

-- A node that stands there, its kind and its children.
module _ {w : List ℕ} {b o g i : ℕ} {l r : Trie} (h : Here w b o g i (node l r)) where
  pub parts : Split w b i l r
  parts = apart l r h.one h.has

  here-bare : eqb (word_at w b i) 0 ≡ bare l r
  here-bare = rw parts.root (word-leaf l r)

  here_place : (1 ≤ i) × (place b i < length w)
  unfolding size
  here_place = (h.one, omega (arith, h.has.fits, length-enc (node l r)))

pub means-here : {w : List ℕ} {b o g i : ℕ} (t : Trie) → Here w b o g i t → Means w b o g (cond (is_none t) 0 i) t
means-here none h = nothing
means-here (node l r) h = standing h

-- the number of a child at the distance d
abbrev next : ℕ → ℕ → ℕ
next i d = cond (eqb d 0) 0 (i + d)

pub inside : {w : List ℕ} {b o g i : ℕ} {t : Trie} → Here w b o g i t → (j : ℕ) (v : Trie) → Has w (place b j) (enc v) → i ≤ j → j + size v ≤ i + size t → Here w b o g j v
inside h j v has le fit = record { has = has; one = omega (arith, h.one); few = omega (arith, h.few); clear = λ k p q. h.clear k (omega arith) (omega arith) }

child : {w : List ℕ} {b o g i : ℕ} (s : Bool) (l r : Trie) → Here w b o g i (node l r) → Means w b o g (next i (side s (link0 l) (link1 l r))) (side s l r)
unfolding link0 link1 size
child false none r h = nothing
child {i = i} false (node x y) r h = standing (inside h (i + 1) (node x y) (parts h).left (omega arith) (omega arith))
child true l none h = nothing
child {i = i} true l (node x y) h =
    let e : i + (1 + size l) ≡ i + 1 + size l = omega arith in
    rw (ne_eqb (1 + size l) 0 (λ q. omega arith), e) (standing (inside h (i + 1 + size l) (node x y) (parts h).right (omega arith) (omega arith)))

-- The kind of what a number means.
module _ {w : List ℕ} {b o g : ℕ} where
  pub kind-none : (i : ℕ) (t : Trie) → Means w b o g i t → i ≡ 0 → 0 ≡ rank (kind_of t)
  kind-none i t nothing e = refl
  kind-none i t everything e = absurd (omega arith)
  kind-none i t (standing h) e = absurd (omega (arith, h.one))

  pub kind-all : (i : ℕ) (t : Trie) → Means w b o g i t → i ≡ all → 2 ≡ rank (kind_of t)
  kind-all i t nothing e = absurd (omega arith)
  kind-all i t everything e = refl
  kind-all i t (standing h) e = absurd (omega (arith, h.few))

  -- any other number is that of a node
  by-node : (P : ℕ → Trie → Type 0) → ((i : ℕ) (l r : Trie) → Here w b o g i (node l r) → P i (node l r)) → (i : ℕ) (t : Trie) → Means w b o g i t → (i ≡ 0 → ⊥) → (i ≡ all → ⊥) → P i t
  by-node P c i t nothing f n = absurd (f refl)
  by-node P c i t everything f n = absurd (n refl)
  by-node P c i t (standing {i = j} {l = l} {r = r} h) f n = c j l r h

  pub kind-place : (i : ℕ) (t : Trie) → Means w b o g i t → (i ≡ 0 → ⊥) → (i ≡ all → ⊥) → (1 ≤ i) × (place b i < length w)
  kind-place = by-node (λ i t. (1 ≤ i) × (place b i < length w)) (λ i l r h. here_place h)

  pub kind-leaf : (i : ℕ) (t : Trie) → Means w b o g i t → (i ≡ 0 → ⊥) → (i ≡ all → ⊥) → word_at w b i ≡ 0 → 2 ≡ rank (kind_of t)
  kind-leaf = by-node (λ i t. word_at w b i ≡ 0 → 2 ≡ rank (kind_of t)) (λ i l r h e. rw (sym (here-bare h) ∙ eq-eqb (word_at w b i) 0 e))

  pub kind-inner : (i : ℕ) (t : Trie) → Means w b o g i t → (i ≡ 0 → ⊥) → (i ≡ all → ⊥) → (word_at w b i ≡ 0 → ⊥) → 1 ≡ rank (kind_of t)
  kind-inner = by-node (λ i t. (word_at w b i ≡ 0 → ⊥) → 1 ≡ rank (kind_of t)) (λ i l r h e. rw (sym (here-bare h) ∙ ne_eqb (word_at w b i) 0 e))

-- The halves of what a number means, where it is of rank k: those of a node with a child are the children.
module _ {w : List ℕ} {b o g : ℕ} where
  by-fork : (P : ℕ → Trie → Type 0) → ((i : ℕ) (l r : Trie) → Here w b o g i (node l r) → bare l r ≡ false → P i (node l r))
      → (i : ℕ) (t : Trie) → Means w b o g i t → (k : ℕ) → k ≡ rank (kind_of t) → (k ≡ 0 → ⊥) → (k ≡ 2 → ⊥) → P i t
  by-fork P c i t nothing k e f n = absurd (f e)
  by-fork P c i t everything k e f n = absurd (n e)
  by-fork P c i t (standing {i = j} {l = l} {r = r} h) k e f n = c j l r h (rank-bare (bare l r) (λ q. n (e ∙ q)))

  module _ (s : Bool) (i : ℕ) (t : Trie) (m : Means w b o g i t) (k : ℕ) (ek : k ≡ rank (kind_of t)) where
    pub piece-none : k ≡ 0 → Means w b o g 0 (half s t)
    piece-none e = rw (rank-none t (sym ek ∙ e)) nothing

    pub piece-all : k ≡ 2 → Means w b o g all (half s t)
    piece-all e = rw (rank-leaf t (sym ek ∙ e)) everything

    module _ (f : k ≡ 0 → ⊥) (n : k ≡ 2 → ⊥) where
      pub piece-fits : (1 ≤ i) × (place b i < length w) × (i ≤ 1073741824)
      piece-fits = by-fork (λ i t. (1 ≤ i) × (place b i < length w) × (i ≤ 1073741824)) (λ i l r h e. omega (arith, here_place h, h.few)) i t m k ek f n

      piece-next : Means w b o g (next i (side s (word_at w b i % 2) (word_at w b i / 2))) (half s t)
      piece-next = by-fork (λ i t. Means w b o g (next i (side s (word_at w b i % 2) (word_at w b i / 2))) (half s t))
          (λ i l r h e. rw ((parts h).root, word_first l r, word-second l r, e) (child s l r h)) i t m k ek f n

      module _ (x d : ℕ) (ex : x ≡ word_at w b i) (ed : d ≡ side s (x % 2) (x / 2)) where
        pub piece-absent : d ≡ 0 → Means w b o g 0 (half s t)
        piece-absent e = rw (← ex, ← ed, e) at piece-next

        pub piece-child : (d ≡ 0 → ⊥) → Means w b o g (i + d) (half s t)
        piece-child e = rw (← ex, ← ed, ne_eqb d 0 e) at piece-next

pub side-le : (s : Bool) (x : ℕ) → side s (x % 2) (x / 2) ≤ x
side-le false x = omega arith
side-le true x = omega arith
