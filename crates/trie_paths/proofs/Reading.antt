-- A trie that is read where it stands: what a node's number and word say of it. Assumes nothing.
use mathlib.Core.Path.{◌≡◌, refl, sym, ap, ◌∙◌}
use mathlib.Core.Bool.{false, true≢false}
use mathlib.Core.List.{List, ◌++◌}
use Prim.Native.Nat.{ℕ, ◌+◌, ◌-◌, ◌/◌, ◌≤◌, ◌<◌}
use native.Mathlib.Omega.{arith}
use borrow.Author.Tests.{eq-eqb, ne_eqb}
use lib.ListN.{length}
use Rattle.nets.specs.Tries.{Trie, none, node, leaf, bare, size, levels}
use Rattle.nets.proofs.Listing.{bare-none}
use Rattle.nodes.specs.Words.{place, word_at, enc}
use Rattle.nodes.specs.Segments.{middle_of}
use Rattle.nodes.proofs.Segments.{segment-leaf, segment-place, segment-middle, segment-left, segment-right}
use Rattle.trie_paths.specs.Spans.{Spans}

-- node i is the root of the trie t, with the word x
pub record Root (w : List ℕ) (b i e x : ℕ) (t : Trie) : Type 0 where
  pub l : Trie
  pub r : Trie
  pub is : t ≡ node l r
  pub stands : Spans w b i e (node l r)
  pub word : x ≡ word_at w b i

-- and has children, the second from node m on
pub record Forked (w : List ℕ) (b i e m : ℕ) (t : Trie) : Type 0 where
  pub l : Trie
  pub r : Trie
  pub is : t ≡ node l r
  pub inner : bare l r ≡ false
  pub left : Spans w b (i + 1) m l
  pub right : Spans w b m e r

module _ {w : List ℕ} {b i e : ℕ} where
  pub spans-small : {t : Trie} → Spans w b i e t → (i ≤ e) × (e < 1073741824)
  spans-small s = omega (arith, s.is.end, s.is.used, s.is.few)

  pub spans-none : (t : Trie) → Spans w b i e t → i ≡ e → t ≡ none
  unfolding size
  spans-none none s q = refl
  spans-none (node l r) s q = absurd (omega (arith, s.is.end))

  pub spans-place : (t : Trie) → Spans w b i e t → (i ≡ e → ⊥) → (1 ≤ i) × (place b i < length w)
  unfolding size
  spans-place none s q = absurd (q (omega (arith, s.is.end)))
  spans-place (node l r) s q = (s.is.one, segment-place s.is)

  pub root : {x : ℕ} (t : Trie) → Spans w b i e t → (i ≡ e → ⊥) → x ≡ word_at w b i → Root w b i e x t
  unfolding size
  root none s q h = absurd (q (omega (arith, s.is.end)))
  root (node l r) s q h = record { l = l; r = r; is = refl; stands = s; word = h }

module _ {w : List ℕ} {b i e x : ℕ} {t : Trie} (o : Root w b i e x t) where
  pub root-leaf : x ≡ 0 → t ≡ leaf
  root-leaf z =
      let h = bare-none o.l o.r (sym (segment-leaf o.stands.is) ∙ eq-eqb (word_at w b i) 0 (sym o.word ∙ z)) in
      rw (o.is, h.0, h.1)

  pub forked : {m : ℕ} → (x ≡ 0 → ⊥) → m ≡ middle_of (x / 2) i e → Forked w b i e m t
  forked {m} nz h =
      let g = o.stands.is in
      let q : m ≡ i + 1 + size o.l = h ∙ ap (λ n. middle_of (n / 2) i e) o.word ∙ segment-middle g in
      record {
        l = o.l;
        r = o.r;
        is = o.is;
        inner = sym (segment-leaf g) ∙ ne_eqb (word_at w b i) 0 (λ z. nz (o.word ∙ z));
        left = record { u = o.stands.u; rest = enc o.r ++ o.stands.rest; is = rw q (segment-left g) };
        right = record { u = o.stands.u; rest = o.stands.rest; is = rw q (segment-right g) };
      }

forked-small : {w : List ℕ} {b i e m : ℕ} {t : Trie} → Forked w b i e m t → (i < m) × (m ≤ e) × (e < 1073741824)
forked-small k = omega (arith, spans-small k.left, spans-small k.right)

-- each child has less nodes
pub forked-falls : {w : List ℕ} {b i e m n : ℕ} {t : Trie} → Forked w b i e m t → e - i ≡ n → (m - (i + 1) < n) × (e - m < n)
forked-falls k h = omega (arith, forked-small k)

pub forked-levels : (l r : Trie) → bare l r ≡ false → 2 ≤ levels (node l r)
unfolding levels
forked-levels none none q = absurd (true≢false q)
forked-levels none (node x y) q = omega arith
forked-levels (node x y) r q = omega arith
