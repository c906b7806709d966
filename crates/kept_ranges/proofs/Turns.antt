-- A turn at a node: the blocks of the members still to be read complete the ranges. Assumes nothing.
use mathlib.Core.List.{List, map}
use mathlib.Core.Path.{◌≡◌}
use Prim.Native.Nat.{ℕ, ◌+◌, ◌-◌, ◌≤◌, ◌<◌}
use native.Mathlib.Decide.{ℕ_discrete}
use native.Mathlib.Omega.{arith}
use Rattle.nets.specs.Networks.{width}
use Rattle.nets.specs.Tries.{Trie}
use Rattle.address_order.specs.Streams.{flat}
use Rattle.ranges.specs.Ranges.{Range, block_of}
use Rattle.trie_ranges.specs.declared.Open.{Open}
use Rattle.trie_ranges.specs.Opening.{ranges_t, Ranged}
use Rattle.trie_ranges.proofs.Standing.{Stands, stands-start, stands-end, stands-open, takes-few, stands-take}
use Rattle.kept_nodes.specs.Parse.{dist_at}
use Rattle.kept_list.specs.Listed.{KeptHolds}
use Rattle.kept_list.proofs.Scanned.{all-scanned, each-node}
use Rattle.kept_list.proofs.Turns.{rest, rest-member, rest-branch, rest_end}
use Rattle.kept_ranges.specs.Taking.{Takable, NodeTakes}

-- the blocks of the members among the nodes from i up to k
abbrev blocks : ℕ → List ℕ → ℕ → ℕ → ℕ → List Range
blocks f w b i k = map (block_of (width f)) (rest f w b i k)

pub record Ranging (f : ℕ) (w : List ℕ) (b i e : ℕ) (t : Trie) (v₀ : List ℕ) (q : Open) (v : List ℕ) (k : ℕ) : Type 0 where
  pub from : i ≤ k
  pub to : k ≤ e
  pub few : q.n + k ≤ e
  pub stands : Stands f q v₀ v (blocks f w b i k) (ranges_t f t)

module _ {f : ℕ} {w : List ℕ} {b n i e : ℕ} {t : Trie} (h : KeptHolds f w b n i e t) where
  pub ranging-start : (v : List ℕ) → Ranging f w b i e t v (record { n = 0; hi = 0; lo = 0 }) v e
  unfolding ranges_t
  ranging-start v = record {
    from = omega (arith, h.end);
    to = omega arith;
    few = omega arith;
    stands = rw (all-scanned h) (stands-start f v (map (block_of (width f)) (flat t)));
  }

  module _ {v₀ v : List ℕ} {q : Open} {k : ℕ} (g : Ranging f w b i e t v₀ q v k) where
    pub ranging-end : k ≤ i → Ranged f t v₀ v q.n
    ranging-end le =
        let o = stands-end (rw (rest_end f w b i k le) at g.stands) in
        record { count = o.0; few = omega (arith, g.few, h.end, h.stands.within, h.room.few); kept = g.stands.kept; rows = o.1 }

    module _ (lt : i < k) where
      pub turn-takable : Takable f w b n (k - 1) q
      turn-takable = record {
        node = each-node h (k - 1) (omega arith) (omega (arith, g.to));
        few = omega (arith, g.few, h.end, h.stands.within, h.room.few);
        some = stands-open g.stands;
      }

      pub turn-takes : {s : Open} {u : List ℕ} → NodeTakes f w b (k - 1) q v s u → Ranging f w b i e t v₀ s u (k - 1)
      turn-takes {s} {u} o = go (ℕ_discrete (dist_at f w b (k - 1)) 0)
        where
          go : Dec (dist_at f w b (k - 1) ≡ 0) → Ranging f w b i e t v₀ s u (k - 1)
          go (yes z) = record {
            from = omega arith;
            to = omega (arith, g.to);
            few = omega (arith, g.few, takes-few (o.member z));
            stands = stands-take (rw (rest-member f w b i k lt z) at g.stands) turn-takable.node.short (o.member z);
          }
          go (no ne) = record {
            from = omega arith;
            to = omega (arith, g.to);
            few = rw (o.branch ne).0 (omega (arith, g.few));
            stands = rw ((o.branch ne).0, (o.branch ne).1) (rw (rest-branch f w b i k lt ne) at g.stands);
          }
