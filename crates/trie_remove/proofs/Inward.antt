-- An inner node on a path: the child on the side of the next bit, and what is left of the node by what is left of the child. Assumes nothing.
use mathlib.Core.Path.{◌≡◌, refl, sym, ◌∙◌}
use mathlib.Core.Bool.{Bool, true, false}
use mathlib.Core.List.{List, [], ◌∷◌}
use Prim.Native.Nat.{ℕ, zero, suc, ◌+◌, ◌-◌, ◌≤◌, ◌<◌}
use native.Mathlib.Omega.{arith}
use borrow.Author.Tests.{eq-eqb, ne_eqb}
use lib.Dec.{eqb}
use lib.ListN.{length}
use Rattle.nets.specs.Tries.{Trie, none, node, size, bare, side}
use Rattle.nets.specs.TrieOps.{rejoin, remove_t}
use Rattle.nets.specs.Networks.{bits_left}
use Rattle.nets.specs.declared.PrefixBits.{PrefixBits}
use Rattle.nets.proofs.Strings.{cond_both}
use Rattle.nodes.specs.Words.{put, place, enc}
use Rattle.nodes.specs.Links.{linked}
use Rattle.nodes.specs.Segments.{Segment, Spliced, Branch}
use Rattle.nodes.proofs.Segments.{segment-fit}
use Rattle.nodes.proofs.Views.{inward, beside, behind, branch-fit, branch-size, branch-child, branch-spliced}
use Rattle.trie_remove.specs.declared.Child.{Child}
use Rattle.trie_remove.specs.Removal.{Removable, begin, child_of, above_of, rooted, Inside}
use Rattle.trie_remove.proofs.Remains.{rejoin-fork, rejoin-none, rooted-some, size-rejoin, remove_t-inner, size-remove_t}
use Rattle.nets.proofs.Handing.{length-bits_left}
use Rattle.trie_remove.proofs.Splices.{begin-none, begin-node}

-- What is left of the child c, x, ends at y, and o stands beside it. One of them is some, and x begins at the child's first node;
stays : (from y : ℕ) (c : Child) (x o : Trie) → c.others ≡ size o → y ≡ begin (above_of from c) c.first x + size x → (y ≡ from → ⊥)
    → (bare x o ≡ false) × (begin (above_of from c) c.first x ≡ c.first)
unfolding begin size
stays from y c none none n d f = absurd (f (d ∙ rw (eq-eqb c.others 0 n) (omega arith)))
stays from y c none (node l r) n d f = (refl, rw (ne_eqb c.others 0 (λ z. omega arith)))
stays from y c (node l r) o n d f = (refl, refl)

-- or both are none, and what is behind them begins at `from`.
goes : (from y : ℕ) (c : Child) (x o : Trie) → c.others ≡ size o → y ≡ begin (above_of from c) c.first x + size x → y ≡ from → from < c.first
    → (x ≡ none) × (o ≡ none) × (begin (above_of from c) c.first x ≡ from)
unfolding begin size
goes from y c none none n d f h = (refl, refl, rw (eq-eqb c.others 0 n))
goes from y c none (node l r) n d f h = let q : y ≡ c.first + 0 = d ∙ rw (ne_eqb c.others 0 (λ z. omega arith)) in absurd (omega arith)
goes from y c (node l r) o n d f h = absurd (omega arith)

-- The child on the side of the bit: how many nodes stand beside it, that it stands behind its node, and the numbers that link the node to it.
module _ {w : List ℕ} {b i e u m : ℕ} {t : Trie} {rest : List ℕ} (g : Segment w b i e u t rest) (n : Branch i m t) where
  others-is : (bit : Bool) → (child_of bit i m e).others ≡ size (beside g n bit)
  others-is false = omega (arith, g.end, n.middle, branch-size g n false)
  others-is true = omega (arith, n.middle)

  first_above : (bit : Bool) → i < (child_of bit i m e).first
  first_above false = omega arith
  first_above true = omega (arith, n.middle)

  behind-none : (bit : Bool) (from : ℕ) (v : List ℕ) → beside g n bit ≡ none → Spliced w v b from from none (behind g n bit) → Spliced w v b from from none rest
  unfolding enc
  behind-none false from v q d = rw q at d
  behind-none true from v q d = d

others-end : (bit : Bool) (y i m e : ℕ) → side bit (y + (child_of bit i m e).others) y ≡ side bit (y + (e - m)) y
others-end false y i m e = refl
others-end true y i m e = refl

first-link : (bit : Bool) (y i m e : ℕ) → side bit y (child_of bit i m e).first ≡ side bit y m
first-link false y i m e = refl
first-link true y i m e = refl

-- Room for what is left of the node is room for what is left of the child.
room-over : (k o p q m n : ℕ) → p + rooted (k + o) ≤ q + n → n ≡ 1 + m + o → p ≤ q → p + k ≤ q + m
room-over zero o p q m n h d f = omega arith
room-over (suc k) o p q m n h d f = omega (arith, rooted-some (suc k + o) (λ z. omega arith))

-- The same where a step down the path has found an inner node: the child inward, the child beside, what is left of the one, and the words behind it.
module _ {w : List ℕ} {b i e u : ℕ} {t : Trie} {rest : List ℕ} (g : Segment w b i e u t rest) {s later : PrefixBits} {bit : Bool} {c : Child} (n : Inside s i e t bit c later) where
  abbrev pub left : Trie
  left = remove_t (bits_left later) (inward g n.branch bit)

  pub child-here : Segment w b c.first c.end u (inward g n.branch bit) (behind g n.branch bit)
  child-here = rw n.child (branch-child g n.branch bit)

  others-here : c.others ≡ size (beside g n.branch bit)
  others-here = rw n.child (others-is g n.branch bit)

  remove-here : remove_t (bits_left s) t ≡ rejoin bit left (beside g n.branch bit)
  remove-here = rw (n.bits, n.branch.is) (remove_t-inner bit (bits_left later) n.branch.l n.branch.r n.branch.inner)

  pub size-here : (k : ℕ) → k ≡ size left → rooted (k + c.others) ≡ size (remove_t (bits_left s) t)
  size-here k q = rw (remove-here, q, others-here) (sym (size-rejoin bit left (beside g n.branch bit)))

  first-here : i < c.first
  first-here = rw n.child (first_above g n.branch bit)

  -- nothing is left
  pub gone-here : (from y : ℕ) (v : List ℕ) → from ≤ i → Spliced w v b (begin (above_of from c) c.first left) y left (behind g n.branch bit) → y ≡ from
      → Spliced w v b (begin from i (remove_t (bits_left s) t)) from (remove_t (bits_left s) t) rest
  gone-here from y v h d q =
      let k = goes from y c left (beside g n.branch bit) others-here d.end q (omega (arith, first-here)) in
      rw (remove-here, k.0, k.1, rejoin-none bit, begin-none from i) (behind-none g n.branch bit from v k.1 (rw (k.2, k.0, q) at d))

  -- the node is linked anew
  pub linked-here : (from y z : ℕ) (v₁ v₂ : List ℕ) → Spliced w v₁ b (begin (above_of from c) c.first left) y left (behind g n.branch bit) → (y ≡ from → ⊥)
      → z ≡ side bit (y + c.others) y → v₂ ≡ put v₁ (place b i) (linked i (side bit y c.first) z ∷ [])
      → Spliced w v₂ b (begin from i (remove_t (bits_left s) t)) z (remove_t (bits_left s) t) rest
  linked-here from y z v₁ v₂ d f p q =
      let o = beside g n.branch bit in
      let k = stays from y c left o others-here d.end f in
      rw (remove-here, rejoin-fork bit left o k.0, begin-node from i (side bit left o) (side bit o left))
      (branch-spliced g n.branch bit left v₁ v₂ y z (rw (k.1, n.child) at d) (p ∙ rw n.child (others-end bit y i n.m e)) (q ∙ rw (n.child, first-link bit y i n.m e)))

  -- the numbers stay small
  left-small : later.len ≤ 128 → (c.first ≤ u) × (c.first + size left ≤ u + 256)
  left-small h = omega (arith, size-remove_t (bits_left later) (inward g n.branch bit), length-bits_left later h, child-here.end, segment-fit child-here)

  others-small : c.others ≤ e
  others-small = omega (arith, others-here, branch-size g n.branch bit, g.end)

  pub count_small : later.len ≤ 128 → (k : ℕ) → k ≡ size left → k + c.others < 4294967296
  count_small h k q = omega (arith, left-small h, others-small, segment-fit g, g.few)

  pub linkable-here : later.len ≤ 128 → (from y : ℕ) (v : List ℕ) → length v ≡ length w → Spliced w v b (begin (above_of from c) c.first left) y left (behind g n.branch bit)
      → (y ≡ from → ⊥)
      → ((1 ≤ i) × (i < c.first)) × (((i < y) × (c.first + c.others < 2147483648)) × ((y < 2147483648) × (place b i < length v)))
  linkable-here h from y v q d f =
      let k = (stays from y c left (beside g n.branch bit) others-here d.end f).1 in
      omega (arith, rw k at d.end, first-here, left-small h, others-small, segment-fit g, branch-fit g n.branch, g.few)

  -- the child can be taken a path out of
  above-small : (from : ℕ) → 1 ≤ from → from ≤ i → (1 ≤ above_of from c) × (above_of from c ≤ c.first)
  above-small from o a = cond_both (λ k. (1 ≤ k) × (k ≤ c.first)) (eqb c.others 0) from c.first (omega (arith, first-here)) (omega (arith, first-here))

  pub removable-here : (from : ℕ) → 1 ≤ from → from ≤ i → b + (u - 1) + size (remove_t (bits_left s) t) ≤ length w + size t → Removable w b (above_of from c) c.first c.end u (bits_left later)
  removable-here from o a h = record {
    t = inward g n.branch bit;
    rest = behind g n.branch bit;
    here = child-here;
    one = (above-small from o a).0;
    above = (above-small from o a).1;
    room = room-over (size left) (size (beside g n.branch bit)) (b + (u - 1)) (length w) (size (inward g n.branch bit)) (size t)
        (rw (remove-here, size-rejoin bit left (beside g n.branch bit)) at h)
        (branch-size g n.branch bit)
        (segment-fit g).1;
  }
