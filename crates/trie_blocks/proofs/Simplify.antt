-- Simplifying, step by step: what is seen of a trie, its children as the next sources, and the node over their answers. Assumes nothing.
use mathlib.Core.Path.{◌≡◌, ◌∙◌}
use mathlib.Core.Bool.{Bool, true, false, cond}
use mathlib.Core.List.{List, ◌++◌}
use Prim.Native.Nat.{ℕ, ◌+◌, ◌-◌, ◌≤◌}
use native.Mathlib.Omega.{arith}
use lib.ListN.{length}
use Rattle.nets.specs.Tries.{Trie, none, node, leaf, size, bare, levels, glue, simplify_t}
use Rattle.nodes.specs.Words.{put, place, enc}
use Rattle.nodes.specs.Segments.{Segment, view_of, Branch}
use Rattle.nodes.specs.declared.steps.View.TheVariants.{Nothing, Leaf, Inner}
use Rattle.nodes.proofs.Put.{length-put}
use Rattle.nodes.proofs.Has.{has-put}
use Rattle.nodes.proofs.Segments.{segment-fit, segment-left, segment-right}
use Rattle.nodes.proofs.Views.{view-none, view-leaf, view-inner}
use Rattle.trie_emit.specs.Answers.{answer, body, Emits, end_of, Both, Pending}
use Rattle.trie_blocks.specs.Simplify.{Source}
use Rattle.trie_emit.specs.declared.emitting.Emitted.{Emitted}
use Rattle.trie_emit.specs.declared.emitting.Emitted.TheVariants.{Empty, Full}
use Rattle.trie_emit.proofs.Answers.{end_is, emits-flat, length-body, size-glue}

pub size-simplify : (t : Trie) → size (simplify_t t) ≤ size t
unfolding size simplify_t
size-simplify none = omega arith
size-simplify (node l r) = go (bare l r) (size-simplify l) (size-simplify r)
  where
    go : (x : Bool) → size (simplify_t l) ≤ size l → size (simplify_t r) ≤ size r → size (cond x leaf (glue true (simplify_t l) (simplify_t r))) ≤ size (node l r)
    go true f g = omega arith
    go false f g = omega (arith, size-glue true (simplify_t l) (simplify_t r))

-- A node with a child, and where its second child begins.
pub record Fork (w : List ℕ) (b i e o fuel m : ℕ) (l r : Trie) : Type 0 where
  pub src : Source w b i e o fuel (node l r)
  pub inner : bare l r ≡ false
  pub middle : m ≡ i + 1 + size l

module _ (w : List ℕ) (b i o : ℕ) (t : Trie) where
  pub seen_none : Nothing ≡ view_of i t → Emits w w b o Empty (simplify_t t)
  unfolding simplify_t
  seen_none q = rw (view-none i t q) (emits-flat w b o false)

  pub seen-leaf : Leaf ≡ view_of i t → Emits w w b o Full (simplify_t t)
  unfolding simplify_t
  seen-leaf q = rw (view-leaf i t q) (emits-flat w b o true)

pub seen-inner : {w : List ℕ} {b i e o fuel : ℕ} (m : ℕ) (t : Trie) → Source w b i e o fuel t → Inner m ≡ view_of i t → (k : Branch i m t) × Fork w b i e o fuel m k.l k.r
seen-inner {i = i} m t g q = let k = view-inner i m t q in (k, record { src = rw k.is at g; inner = k.inner; middle = k.middle })

-- Its children, and the node over what they are simplified to.
module _ {w : List ℕ} {b i e o fuel m : ℕ} {l r : Trie} (d : Fork w b i e o fuel m l r) where
  pub fork-fuel : 1 ≤ fuel
  unfolding levels
  fork-fuel = omega (arith, d.src.deep)

  fork-end : e ≡ m + size r
  unfolding size
  fork-end = omega (arith, d.middle, d.src.here.end)

  over-is : simplify_t (node l r) ≡ glue true (simplify_t l) (simplify_t r)
  unfolding simplify_t
  over-is = rw d.inner

  small : o + 1 + size (simplify_t l) + size (simplify_t r) ≤ e
  small = omega (arith, size-simplify l, size-simplify r, fork-end, d.middle, d.src.behind)

  right : Segment w b m e d.src.u r d.src.rest
  right = rw d.middle (segment-right d.src.here)

  pub left-source : Source w b (i + 1) m (o + 1) (fuel - 1) l
  unfolding levels
  left-source = record {
    u = d.src.u;
    rest = enc r ++ d.src.rest;
    here = rw d.middle (segment-left d.src.here);
    one = omega arith;
    behind = omega (arith, d.src.behind);
    deep = omega (arith, d.src.deep);
  }

  module _ (x : Emitted) (k : ℕ) (said-l : x ≡ answer (o + 1) (simplify_t l)) (end : k ≡ end_of x (o + 1)) where
    second : k ≡ o + 1 + size (simplify_t l)
    second = end ∙ end_is x (simplify_t l) (o + 1) said-l

    next-source : (w₁ : List ℕ) → Segment w₁ b m e d.src.u r d.src.rest → Source w₁ b m e k (fuel - 1) r
    unfolding levels
    next-source w₁ g = record {
      u = d.src.u;
      rest = d.src.rest;
      here = g;
      one = omega (arith, second);
      behind = omega (arith, second, size-simplify l, d.middle, d.src.behind);
      deep = omega (arith, d.src.deep);
    }

    both-said : (y : Emitted) → y ≡ answer k (simplify_t r) → Both o x y (simplify_t l) (simplify_t r)
    both-said y said-r = record { first = said-l; second = rw second at said-r; small = omega (arith, small, d.src.here.few, d.src.here.used) }

  -- with what is written of the first child, which ends before the second
  module _ (w₁ : List ℕ) (x : Emitted) (k : ℕ) (hl : (t : Trie) → Source w b (i + 1) m (o + 1) (fuel - 1) t → Emits w w₁ b (o + 1) x (simplify_t t)) (end : k ≡ end_of x (o + 1)) where
    done : Emits w w₁ b (o + 1) x (simplify_t l)
    done = hl l left-source

    stays : Segment w₁ b m e d.src.u r d.src.rest
    stays = record {
      has = rw done.wrote (has-put (place b (o + 1)) (body (simplify_t l)) right.has (λ n h₁ h₂ h₃ h₄. omega (arith, length-body (simplify_t l), size-simplify l, d.middle, d.src.behind)));
      one = right.one;
      end = right.end;
      used = right.used;
      few = right.few;
      low = right.low;
    }

    pub rest-source : Source w₁ b m e k (fuel - 1) r
    rest-source = next-source x k done.answers end w₁ stays

    module _ (w₂ : List ℕ) (y : Emitted) (hr : (t : Trie) → Source w₁ b m e k (fuel - 1) t → Emits w₁ w₂ b k y (simplify_t t)) where
      rest-done : Emits w₁ w₂ b k y (simplify_t r)
      rest-done = hr r rest-source

      same : length w₂ ≡ length w
      same = rw (rest-done.wrote, done.wrote) (length-put (put w (place b (o + 1)) (body (simplify_t l))) (place b k) (body (simplify_t r)) ∙ length-put w (place b (o + 1)) (body (simplify_t l)))

      pub pending : Pending w w₂ b true o x y (simplify_t l) (simplify_t r)
      pending = record {
        both = both-said x k done.answers end y rest-done.answers;
        wrote = rw (rest-done.wrote, done.wrote, second x k done.answers end);
        one = d.src.one;
        room = λ h. (rw same (omega (arith, small, segment-fit d.src.here)), omega (arith, small, d.src.here.few, d.src.here.used));
      }

      pub simplified : (w₃ : List ℕ) (z : Emitted) → ((v : List ℕ) (t u : Trie) → Pending v w₂ b true o x y t u → Emits v w₃ b o z (glue true t u)) → Emits w w₃ b o z (simplify_t (node l r))
      simplified w₃ z f = rw over-is (f w (simplify_t l) (simplify_t r) pending)
