-- Two tries that both have a child: their halves, and nodes that have one child each, on the same side. Assumes nothing.
use mathlib.Core.Bool.{Bool, true, false, not, true≢false}
use mathlib.Core.List.{List}
use mathlib.Core.Path.{◌≡◌, refl, ap, ◌∙◌}
use Prim.Native.Nat.{ℕ, zero, suc, ◌+◌, ◌-◌, ◌≤◌, ◌<◌, ◌^◌, max}
use native.Mathlib.Omega.{arith}
use lib.Dec.{eqb}
use Rattle.nets.specs.Tries.{Trie, none, node, size, is_none, bare, side, glue}
use Rattle.nets.specs.TrieOps.{mixed, kind_of, half, rejoin, op_t}
use Rattle.nets.proofs.Operate.{op_t-flat}
use Rattle.nodes.specs.Words.{place, word_at, word, link0, link1}
use Rattle.nodes.proofs.Put.{length-put}
use Rattle.nodes.proofs.Tries.{size-node}
use Rattle.trie_emit.specs.Answers.{body}
use Rattle.trie_emit.specs.Combine.{op_of, joined, op_on, rank, Inputs, Gap}
use Rattle.trie_emit.proofs.Answers.{by_kind}
use Rattle.trie_emit.proofs.Combine.{rank-mixed}
use Rattle.trie_spans.specs.Extents.{Span, Extents, Writes, Only}
use Rattle.trie_spans.proofs.Spans.{size_none, number-span, Fork, fork-of, fork-fits, fork-word, fork-half, fork-left, fork-right}
use Rattle.trie_spans.proofs.Answered.{only-node}
use Rattle.trie_combine.proofs.Flat.{some-mixed}
use Rattle.trie_spans.proofs.Halving.{Parts, part-few, side-extents, step}

pub record Forks (w : List ℕ) (b a ea c ec o g fuel : ℕ) (t u : Trie) : Type 0 where
  pub src : Extents w b a ea c ec o g fuel t u
  pub first : Fork w b o g a ea t
  pub second : Fork w b o g c ec u

fork-one : {w : List ℕ} {b o g i e : ℕ} (t : Trie) → Span w b o g i e t → (x : ℕ) → x ≡ rank (kind_of t) → x ≡ 1 → Fork w b o g i e t
fork-one t s x told e = fork-of t s (rank-mixed (kind_of t) (λ q. omega arith) (λ q. omega arith))

pub forks-of : {w : List ℕ} {b a ea c ec o g fuel : ℕ} (t u : Trie) → Extents w b a ea c ec o g fuel t u → (x y : ℕ) → x ≡ rank (kind_of t) → y ≡ rank (kind_of u) → (x ≡ 1) × (y ≡ 1)
    → Forks w b a ea c ec o g fuel t u
forks-of t u s x y ex ey e = record { src = s; first = fork-one t s.first x ex e.0; second = fork-one u s.second y ey e.1 }

-- A node with one child, by its word: the child is on the side of the word, and begins right behind the node.
lone : (l r : Trie) → bare l r ≡ false → (x : ℕ) → x ≡ word l r → x ≤ 2 → (x ≡ side (eqb x 2) 1 2) × (side (not (eqb x 2)) l r ≡ none)
unfolding word link0 link1 size
lone none none b x e h = absurd (true≢false b)
lone none (node y z) b x e h = let q : x ≡ 2 = omega arith in rw q (refl, refl)
lone (node y z) none b x e h = let q : x ≡ 1 = omega arith in rw q (refl, refl)
lone (node y z) (node v n) b x e h = absurd (omega arith)

lone-span : {w : List ℕ} {b o g i e : ℕ} {t : Trie} (f : Fork w b o g i e t) (d : Bool) → side (not d) f.l f.r ≡ none → Span w b o g (i + 1) e (half d t)
lone-span f false q = fork-left f _ (omega (arith, f.end, size-node f.l f.r, ap size q, size_none))
lone-span f true q = fork-right f _ (omega (arith, ap size q, size_none))

-- An operation on nothing, and the node over one half.
both_false : (op : ℕ) → op_of op false false ≡ false
unfolding op_of
both_false zero = refl
both_false (suc zero) = refl
both_false (suc (suc n)) = refl

op-nothing : (op k : ℕ) → op_on op k none none ≡ none
unfolding op_t
op-nothing op zero = refl
op-nothing op (suc k) = op_t-flat (joined op) (op_of op) k none none false (rw (both_false op))

glue-only : (j d : Bool) (v : Trie) → glue j (side d v none) (side d none v) ≡ rejoin d v none
glue-only j false none = refl
glue-only j false (node x y) = refl
glue-only j true none = refl
glue-only j true (node x y) = refl

module _ {w : List ℕ} {b a ea c ec o g fuel : ℕ} {t u : Trie} (f : Forks w b a ea c ec o g fuel t u) (op : ℕ) where
  pub forks-parts : (m k : ℕ) → m ≡ a + 1 + size f.first.l → k ≡ c + 1 + size f.second.l → Parts w b op a ea c ec o g fuel t u (a + 1) m (c + 1) k m ea k ec
  forks-parts m k p q =
      let n = fork-fits f.first in
      let h = fork-fits f.second in
      record {
        src = f.src;
        mixes = rw (f.first.is, f.first.inner, f.second.is, f.second.inner);
        left = (fork-left f.first m p, fork-left f.second k q);
        right = (fork-right f.first m p, fork-right f.second k q);
        low = (omega arith, omega arith, omega (arith, (fork-right f.first m p).end), omega (arith, (fork-right f.second k q).end));
      }

  module _ (p q : ℕ) (ep : p ≡ word_at w b a) (eq : q ≡ word_at w b c) (h : (p ≤ 2) × (p ≡ q)) where
    abbrev pub only : Bool
    only = eqb p 2

    first-lone : (p ≡ side only 1 2) × (side (not only) f.first.l f.first.r ≡ none)
    first-lone = lone f.first.l f.first.r f.first.inner p (ep ∙ fork-word f.first) h.0

    second-lone : side (not only) f.second.l f.second.r ≡ none
    second-lone = rw h.1 (lone f.second.l f.second.r f.second.inner q (eq ∙ fork-word f.second) (omega arith)).1

    whole : Parts w b op a ea c ec o g fuel t u (a + 1) (a + 1 + size f.first.l) (c + 1) (c + 1 + size f.second.l) (a + 1 + size f.first.l) ea (c + 1 + size f.second.l) ec
    whole = forks-parts _ _ refl refl

    pub only-extents : (x : ℕ) → x ≤ 1 → Extents w b (a + 1) ea (c + 1) ec (o + x) g (fuel - 1) (half only t) (half only u)
    only-extents x le = side-extents whole x le only (a + 1) ea (c + 1) ec (lone-span f.first only first-lone.1) (lone-span f.second only second-lone) whole.low.0 whole.low.1

    abbrev result : Trie
    result = op_on op (fuel - 1) (half only t) (half only u)

    pub only-few : size result ≤ 4294967297
    only-few = part-few whole only

    pub only_step : op_on op fuel t u ≡ rejoin only result none
    only_step = step whole ∙ go only (fork-half f.first (not only) ∙ first-lone.1) (fork-half f.second (not only) ∙ second-lone)
      where
        go : (d : Bool) → half (not d) t ≡ none → half (not d) u ≡ none
            → glue (joined op) (op_on op (fuel - 1) (half false t) (half false u)) (op_on op (fuel - 1) (half true t) (half true u)) ≡ rejoin d (op_on op (fuel - 1) (half d t) (half d u)) none
        go false x y = rw (x, y, op-nothing op (fuel - 1)) (glue-only (joined op) false (op_on op (fuel - 1) (half false t) (half false u)))
        go true x y = rw (x, y, op-nothing op (fuel - 1)) (glue-only (joined op) true (op_on op (fuel - 1) (half true t) (half true u)))

    module _ (z : Gap w b o g (op_on op fuel t u)) where
      fits : is_none result ≡ false → o + 1 + size result ≤ g
      fits n =
          let k = only-node only result n in
          let y = z.fits (rw only_step k.2) in
          omega (arith, k.0, ap size only_step)

      pub only-room : Gap w b (o + 1) g result
      only-room = record { one = omega arith; fits = λ k. fits (some-mixed result k); room = z.room; low = z.low }

      small : (v : Trie) → (is_none v ≡ false → o + 1 + size v ≤ g) → o + 1 + size v < 2 ^ 62
      unfolding size
      small none k = omega (arith, f.src.few, f.src.turn)
      small (node x y) k = omega (arith, k refl, z.low)

      pub only-half : (w₁ : List ℕ) (n : ℕ) → Writes w w₁ b (o + 1) n result → Only w w₁ b o p n only result
      only-half w₁ n done = record {
        counts = done.counts;
        wrote = done.wrote;
        one = z.one;
        word = first-lone.0;
        small = small result fits;
        room = λ k. rw (done.wrote, length-put w (place b (o + 1)) (body result)) (omega (arith, fits k, z.room));
      }

-- The whole: sources by their numbers, and a result that is small.
pub inputs-extents : {w : List ℕ} {b a ea c ec o g fuel : ℕ} (t u : Trie) → Inputs w b a c o g fuel t u → (m : ℕ) → m ≡ max a c → m < 4294967295 → ea ≡ a + size t → ec ≡ c + size u
    → Extents w b a ea c ec o g fuel t u
inputs-extents {a = a} {c = c} t u s m q lt p r = record {
  first = number-span a t s.first (omega arith) p;
  second = number-span c u s.second (omega arith) r;
  deep-t = s.deep-t;
  deep-u = s.deep-u;
  turn = s.turn;
  few = s.few;
}

pub gap-small : {w : List ℕ} {b o g : ℕ} (x : Trie) → Gap w b o g x → o + 2 < 2 ^ 62 → o + size x < 2 ^ 62
unfolding size
gap-small {w} {b} {o} {g} x p lt = by_kind (λ x. (kind_of x ≡ mixed → o + size x ≤ g) → o + size x < 2 ^ 62) (λ f. omega arith) (λ f. omega arith) (λ l r e. rw e (λ f. omega (arith, f refl, p.low))) x p.fits
