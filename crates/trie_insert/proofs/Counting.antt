-- The way down that counts the nodes of a trie with a path in it: what is counted of a part completes the whole. Assumes nothing.
use mathlib.Core.Path.{◌≡◌, sym}
use mathlib.Core.Bool.{Bool}
use mathlib.Core.List.{List, [], ◌∷◌}
use Prim.Native.Nat.{ℕ, ◌+◌, ◌-◌, ◌≤◌}
use native.Mathlib.Omega.{arith}
use lib.ListN.{length}
use Rattle.nets.specs.Bits.{Bits}
use Rattle.nets.specs.Networks.{bits_left}
use Rattle.nets.specs.declared.PrefixBits.{PrefixBits}
use Rattle.nets.proofs.Handing.{Hands}
use Rattle.nets.specs.Tries.{side, insert_t}
use Rattle.nodes.specs.Segments.{Views}
use Rattle.nodes.specs.declared.steps.View.TheVariants.{Nothing, Leaf, Inner}
use Rattle.nodes.proofs.Tries.{size-leaf}
use Rattle.nodes.proofs.Chains.{size-chain}
use Rattle.nodes.proofs.Segments.{none_is}
use Rattle.nodes.proofs.Views.{inward, behind, branch-size, branch-child}
use Rattle.trie_insert.specs.Insert.{Held, InsertSize}
use Rattle.trie_insert.proofs.Insertion.{empty-end, branch, inserted-size, inserted-leaf}

-- the trie from node k up to node z is the part of the one from node i up to node e into which the path p, the rest of s, goes
pub record Part (w : List ℕ) (b i e : ℕ) (s : Bits) (k z : ℕ) (p : Bits) : Type 0 where
  pub held : Held w b k z
  pub within : z - k ≤ e - i
  pub counts : (x y : ℕ) → y + (z - k) ≡ e - i + x → InsertSize w b k z p x → InsertSize w b i e s y

pub part-all : {w : List ℕ} {b i e : ℕ} (s : Bits) → Held w b i e → Part w b i e s i e s
part-all s h = record {
  held = h;
  within = omega arith;
  counts = λ x y q f. let o : y ≡ x = omega arith in rw o f;
}

counts-side : {w : List ℕ} {b i e m : ℕ} (k : Views w b i e (Inner m)) (d : Bool) (p : Bits) (x y : ℕ) → y + (side d m e - side d (i + 1) m) ≡ e - i + x
    → InsertSize w b (side d (i + 1) m) (side d m e) p x → InsertSize w b i e (d ∷ p) y
counts-side k d p x y q f t rest u g =
    let n = branch k g in
    let c = branch-child g n d in
    omega (arith, g.end, c.end, f (inward g n d) (behind g n d) u c, inserted-size g n d p, branch-size g n d)

pub part-side : {w : List ℕ} {b i e k z m : ℕ} {s p : Bits} (d : Bool) → Part w b i e s k z (d ∷ p) → Views w b k z (Inner m) → Part w b i e s (side d (k + 1) m) (side d m z) p
part-side {k = k} {z = z} {m = m} {p = p} d h v =
    let g = h.held.stands in
    let n = branch v g in
    let c = branch-child g n d in
    let o : side d m z - side d (k + 1) m ≤ z - k = omega (arith, g.end, c.end, branch-size g n d) in
    record {
      held = record { t = inward g n d; rest = behind g n d; u = h.held.u; stands = c };
      within = omega (arith, h.within);
      counts = λ x y q f. h.counts (z - k - (side d m z - side d (k + 1) m) + x) y (omega (arith, h.within)) (counts-side v d p x _ (omega arith) f);
    }

-- and of the way down to it, where q is what is handed out behind the bit d
pub part-next : {w : List ℕ} {b i e k z m : ℕ} {s : Bits} {p q : PrefixBits} (d : Bool) → Hands p d q → (p.len ≤ 128) × Part w b i e s k z (bits_left p) → Views w b k z (Inner m)
    → (q.len ≤ 128) × Part w b i e s (side d (k + 1) m) (side d m z) (bits_left q)
part-next d h l v = (omega (arith, h.len, l.0), part-side d (rw h.bits at l.1) v)

-- where the way ends
module _ {w : List ℕ} {b i e k z : ℕ} {s p : Bits} (h : Part w b i e s k z p) where
  pub sized-end : p ≡ [] → InsertSize w b i e s (e - i - (z - k) + 1)
  unfolding insert_t
  sized-end q = h.counts 1 _ (omega (arith, h.within)) (rw q λ t rest u g. sym size-leaf)

  pub sized-empty : (n : ℕ) → k ≡ z → n ≡ length p → InsertSize w b i e s (e - i + (n + 1))
  sized-empty n o l = h.counts (n + 1) _ (omega arith) λ t rest u g. rw (none_is t (omega (arith, g.end)), size-chain p, l)

  pub sized-none : (n : ℕ) → Views w b k z Nothing → n ≡ length p → InsertSize w b i e s (e - i + (n + 1))
  sized-none n q l = sized-empty n (empty-end q h.held.stands) l

  pub sized-leaf : (d : Bool) (q : Bits) → p ≡ d ∷ q → Views w b k z Leaf → InsertSize w b i e s (e - i)
  sized-leaf d q l x = h.counts (z - k) _ (omega arith) (rw l λ t rest u g. omega (arith, (inserted-leaf x u d q t rest g).end))
