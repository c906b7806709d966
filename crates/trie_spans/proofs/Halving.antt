-- An operation by its halves, told by where they begin and end: what each call asks, from what the calls before it ensure, and the node over what they wrote. Assumes nothing.
use mathlib.Core.Bool.{Bool, true, false, cond}
use mathlib.Core.List.{List}
use mathlib.Core.Path.{◌≡◌, refl, sym}
use Prim.Native.Nat.{ℕ, ◌+◌, ◌-◌, ◌≤◌, ◌<◌}
use native.Mathlib.Omega.{arith}
use Rattle.nets.specs.Tries.{Trie, size, is_none, glue}
use Rattle.nets.specs.TrieOps.{mixed, kind_of, verdict, half}
use Rattle.trie_emit.specs.Answers.{answer, end_of}
use Rattle.trie_emit.specs.Combine.{op_of, joined, op_on, Inputs, Gap}
use Rattle.trie_emit.proofs.Answers.{end_is}
use Rattle.trie_emit.proofs.Combine.{step-mixed, Split, half-inputs, left-inputs, left-gap, part-size, rest-inputs, rest-gap, pending}
use Rattle.trie_spans.specs.Extents.{Span, Extents, Writes, Halves}
use Rattle.trie_spans.proofs.Spans.{span-means, means-span}
use Rattle.trie_spans.proofs.Answered.{emits}

-- What is read, as the numbers of sources, and back.
pub extents-inputs : {w : List ℕ} {b a ea c ec o g fuel : ℕ} (t u : Trie) → Extents w b a ea c ec o g fuel t u → Inputs w b (cond (is_none t) 0 a) (cond (is_none u) 0 c) o g fuel t u
extents-inputs t u s = record { first = span-means t s.first; second = span-means u s.second; deep-t = s.deep-t; deep-u = s.deep-u; turn = s.turn; few = s.few }

-- where nodes stand, below the number that means everything
abbrev pub Low : ℕ → Type 0
Low i = i < 4294967295

inputs-extents : {w : List ℕ} {b a ea c ec o g fuel : ℕ} (t u : Trie) → Inputs w b (cond (is_none t) 0 a) (cond (is_none u) 0 c) o g fuel t u → Low a → Low c → ea ≡ a + size t → ec ≡ c + size u
    → Extents w b a ea c ec o g fuel t u
inputs-extents t u s p q ea ec = record { first = means-span t s.first p ea; second = means-span u s.second q ec; deep-t = s.deep-t; deep-u = s.deep-u; turn = s.turn; few = s.few }

-- The halves of both sources: the first from al up to el and from cl up to fl, the second from ar up to er and from cr up to fr.
pub record Parts (w : List ℕ) (b op a ea c ec o g fuel : ℕ) (t u : Trie) (al el cl fl ar er cr fr : ℕ) : Type 0 where
  pub src : Extents w b a ea c ec o g fuel t u
  pub mixes : verdict (op_of op) (kind_of t) (kind_of u) ≡ mixed
  pub left : Span w b o g al el (half false t) × Span w b o g cl fl (half false u)
  pub right : Span w b o g ar er (half true t) × Span w b o g cr fr (half true u)
  pub low : Low al × Low cl × Low ar × Low cr

module _ {w : List ℕ} {b op a ea c ec o g fuel : ℕ} {t u : Trie} {al el cl fl ar er cr fr : ℕ} (d : Parts w b op a ea c ec o g fuel t u al el cl fl ar er cr fr) where
  abbrev part : Bool → Trie
  part s = op_on op (fuel - 1) (half s t) (half s u)

  abbrev at : ℕ → Trie → ℕ
  at i v = cond (is_none v) 0 i

  split : Split w b op (at a t) (at c u) o g fuel t u (at al (half false t)) (at cl (half false u)) (at ar (half true t)) (at cr (half true u))
  split = record {
    src = extents-inputs t u d.src;
    mixes = d.mixes;
    left = (span-means (half false t) d.left.0, span-means (half false u) d.left.1);
    right = (span-means (half true t) d.right.0, span-means (half true u) d.right.1);
  }

  pub step : op_on op fuel t u ≡ glue (joined op) (part false) (part true)
  step = step-mixed (joined op) (op_of op) t u fuel d.src.turn d.mixes

  pub left-extents : Extents w b al el cl fl (o + 1) g (fuel - 1) (half false t) (half false u)
  left-extents = inputs-extents (half false t) (half false u) (left-inputs split) d.low.0 d.low.1 d.left.0.end d.left.1.end

  pub part-few : (s : Bool) → size (part s) ≤ 4294967297
  part-few false = part-size split false _ _ split.left
  part-few true = part-size split true _ _ split.right

  -- one half by itself, before anything is written
  pub side-extents : (x : ℕ) → x ≤ 1 → (s : Bool) (i e k h : ℕ) → Span w b o g i e (half s t) → Span w b o g k h (half s u) → Low i → Low k
      → Extents w b i e k h (o + x) g (fuel - 1) (half s t) (half s u)
  side-extents x le s i e k h p q li lk =
      inputs-extents (half s t) (half s u) (half-inputs split w s _ _ (o + x) (omega arith) (omega (arith, d.src.few, d.src.turn)) (span-means (half s t) p, span-means (half s u) q)) li lk p.end q.end

  pub first-extents : Extents w b al el cl fl (o + 0) g (fuel - 1) (half false t) (half false u)
  first-extents = side-extents 0 (omega arith) false al el cl fl d.left.0 d.left.1 d.low.0 d.low.1

  pub second-extents : Extents w b ar er cr fr (o + 0) g (fuel - 1) (half true t) (half true u)
  second-extents = side-extents 0 (omega arith) true ar er cr fr d.right.0 d.right.1 d.low.2 d.low.3

  module _ (p : Gap w b o g (op_on op fuel t u)) where
    pub left-room : Gap w b (o + 1) g (part false)
    left-room = left-gap split p

    module _ (w₁ : List ℕ) (l : ℕ) (done : Writes w w₁ b (o + 1) l (part false)) where
      end : o + 1 + l ≡ end_of (answer (o + 1) (part false)) (o + 1)
      end = rw done.counts (sym (end_is (answer (o + 1) (part false)) (part false) (o + 1) refl))

      pub right-extents : Extents w₁ b ar er cr fr (o + 1 + l) g (fuel - 1) (half true t) (half true u)
      right-extents = inputs-extents (half true t) (half true u) (rest-inputs split p w₁ _ (o + 1 + l) (emits done) end) d.low.2 d.low.3 d.right.0.end d.right.1.end

      pub right-room : Gap w₁ b (o + 1 + l) g (part true)
      right-room = rest-gap split p w₁ _ (o + 1 + l) (emits done) end

      module _ (w₂ : List ℕ) (r : ℕ) (rest : Writes w₁ w₂ b (o + 1 + l) r (part true)) where
        pub both : Halves w w₂ b (joined op) o l r (part false) (part true)
        both = record {
          first = done.counts;
          second = rest.counts;
          pending = rw done.counts at (pending split p w₁ _ (o + 1 + l) (emits done) end w₂ _ (emits rest));
        }

        pub combined : (w₃ : List ℕ) (n : ℕ) → Writes w w₃ b o n (glue (joined op) (part false) (part true)) → Writes w w₃ b o n (op_on op fuel t u)
        combined w₃ n h = rw step h
