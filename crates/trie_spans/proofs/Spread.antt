-- A part that one trie alone has: a part in which nothing joins is written as it stands, and another by its halves. Assumes nothing.
use mathlib.Core.Bool.{true}
use mathlib.Core.List.{List}
use mathlib.Core.Path.{◌≡◌, refl, sym, ◌∙◌}
use Prim.Native.Nat.{ℕ, ◌+◌, ◌/◌, ◌≤◌, ◌<◌}
use native.Mathlib.Omega.{arith}
use lib.ListN.{length}
use borrow.Author.Tests.{ne_eqb}
use Rattle.nets.specs.Tries.{Trie, none, node, size, simplify_t}
use Rattle.nets.specs.TrieOps.{mixed, kind_of, verdict, half}
use Rattle.nodes.specs.Words.{place}
use Rattle.nodes.proofs.Put.{length-put}
use Rattle.nodes.proofs.Segments.{none_is}
use Rattle.nodes.proofs.Tries.{length-enc}
use Rattle.trie_blocks.specs.Joins.{Apart}
use Rattle.trie_blocks.proofs.Plain.{apart-simple, apart-kept}
use Rattle.trie_emit.specs.Answers.{body}
use Rattle.trie_emit.specs.Combine.{op_of, joined, op_on, rank}
use Rattle.trie_emit.proofs.Answers.{by_kind}
use Rattle.trie_emit.proofs.Combine.{rank-mixed}
use Rattle.trie_spans.specs.Extents.{Span, Extents, Writes, tidy}
use Rattle.trie_spans.proofs.Spans.{size_none, Fork, fork-of, fork-fits, fork-left, fork-right}
use Rattle.trie_spans.proofs.Alone.{union-none}
use Rattle.trie_spans.proofs.Answered.{writes-few}
use Rattle.trie_spans.proofs.Halving.{Parts}

pub nowhere : (w : List ℕ) (b o g : ℕ) → Span w b o g 0 0 none
unfolding size
nowhere w b o g = record { here = λ e. absurd (let z : ◌≡◌ {A = ℕ} 0 1 = cc in omega arith); end = refl }

-- where nothing joins
plain-is : {w : List ℕ} {b o g i e : ℕ} (t : Trie) → Span w b o g i e t → Apart w b i e e → simplify_t t ≡ t
unfolding simplify_t
plain-is none s a = refl
plain-is (node l r) s a = let h = s.here refl in apart-simple (record { has = h.has; one = h.one; end = s.end }) a

-- nothing and a leaf by their ranks
small : (k : ℕ) (t : Trie) → k ≡ rank (kind_of t) → (k ≡ 1 → ⊥) → (k / 2 ≡ size (simplify_t t)) × (k / 2 < 2)
unfolding size simplify_t
small k = by_kind (λ t. k ≡ rank (kind_of t) → (k ≡ 1 → ⊥) → (k / 2 ≡ size (simplify_t t)) × (k / 2 < 2)) (λ q f. omega arith) (λ q f. omega arith) (λ l r b. rw b (λ q f. absurd (f q)))

-- what is known of the words of a part, where they stay
apart-span : {w v : List ℕ} {b o g x y m e next : ℕ} (t : Trie) → Span w b o g m e t → Span v b x y m e t → Apart w b m e next → Apart v b m e next
unfolding size
apart-span none s k a = record { no = λ j le lt fit. absurd (omega (arith, s.end)) }
apart-span (node l r) s k a =
    let h = s.here refl in
    let q = k.here refl in
    apart-kept (record { has = h.has; one = h.one; end = s.end }) (record { has = q.has; one = q.one; end = k.end }) a

module _ {w : List ℕ} {b i e o g fuel : ℕ} (t : Trie) (s : Extents w b i e 0 0 o g fuel t none) where
  pub spread-plain : {next : ℕ} → Apart w b i e next → e ≤ next → op_on 0 fuel t none ≡ t
  spread-plain a le = union-none fuel t s.deep-t ∙ plain-is t s.first (record { no = λ j p q r. a.no j p (omega arith) r })

  module _ (k : ℕ) (told : k ≡ rank (kind_of t)) where
    pub spread-flat : (k ≡ 1 → ⊥) → Writes w w b o (k / 2) (op_on 0 fuel t none)
    spread-flat f = let (p, q) = small k t told f in rw (union-none fuel t s.deep-t) (writes-few w b o (k / 2) (simplify_t t) p q)

    pub spread-fork : k ≡ 1 → Fork w b o g i e t
    spread-fork e = fork-of t s.first (rank-mixed (kind_of t) (λ q. omega arith) (λ q. omega arith))

  module _ (f : Fork w b o g i e t) (m : ℕ) (q : m ≡ i + 1 + size f.l) where
    mixes : verdict (op_of 0) (kind_of t) (kind_of none) ≡ mixed
    unfolding op_of
    mixes = rw (f.is, f.inner)

    pub spread-parts : Parts w b 0 i e 0 0 o g fuel t none (i + 1) m 0 0 m e 0 0
    spread-parts =
        let n = fork-fits f in
        record {
          src = s;
          mixes = mixes;
          left = (fork-left f m q, nowhere w b o g);
          right = (fork-right f m q, nowhere w b o g);
          low = (omega arith, omega arith, omega (arith, (fork-right f m q).end), omega arith);
        }

    module _ {next : ℕ} (a : Apart w b i e next) where
      pub spread-left : Apart w b (i + 1) m next
      spread-left = record { no = λ j le lt fit. a.no j (omega arith) lt (omega (arith, (fork-right f m q).end)) }

      pub spread-right : {v : List ℕ} {x y : ℕ} → Span v b x y m e (half true t) → Apart v b m e next
      spread-right k = apart-span (half true t) (fork-right f m q) k (record { no = λ j le lt fit. a.no j (omega arith) lt fit })

    pub spread-asks : (1 ≤ m) × (m ≤ 1073741824) × (place b e ≤ length w) × (e ≤ 1073741824)
    spread-asks = let n = fork-fits f in (omega arith, omega (arith, (fork-right f m q).end), n.4, n.2)

    pub spread-still : {v : List ℕ} {x n : ℕ} {z : Trie} → Writes w v b x n z → (1 ≤ m) × (m ≤ 1073741824) × (place b e ≤ length v) × (e ≤ 1073741824)
    spread-still {x = x} {z = z} h = let n = spread-asks in (n.0, n.1, rw (h.wrote, length-put w (place b x) (body z)) n.2, n.3)

-- As it stands, or simplified.
pub tidy-apart : (op : ℕ) (t : Trie) → op ≡ 3 → tidy (joined op) t ≡ t
tidy-apart op t e = rw e

module _ {w : List ℕ} {b i e o g fuel : ℕ} (op : ℕ) (t : Trie) (s : Extents w b i e 0 0 o g fuel t none) (f : op ≡ 3 → ⊥) where
  pub tidy-joined : tidy (joined op) t ≡ op_on 0 fuel t none
  tidy-joined = rw (ne_eqb op 3 f) (sym (union-none fuel t s.deep-t))

  pub tidy-none : i ≡ e → Writes w w b o 0 (tidy (joined op) t)
  unfolding simplify_t size
  tidy-none q = rw (ne_eqb op 3 f, none_is t (omega (arith, s.first.end))) (writes-few w b o 0 none refl (omega arith))

  pub tidy-asks : (i ≡ e → ⊥) → (1 ≤ i) × (i ≤ 1073741824) × (place b e ≤ length w) × (e ≤ 1073741824)
  tidy-asks n = go t s.first
    where
      go : (t : Trie) → Span w b o g i e t → (1 ≤ i) × (i ≤ 1073741824) × (place b e ≤ length w) × (e ≤ 1073741824)
      go none k = absurd (n (omega (arith, k.end, size_none)))
      go (node l r) k = let h = k.here refl in (h.one, omega (arith, h.few), omega (arith, h.has.fits, h.one, k.end, length-enc (node l r)), omega (arith, h.few, k.end))
