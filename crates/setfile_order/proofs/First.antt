-- The head that is found: the first lane's network is the first. Assumes nothing.
use mathlib.Core.List.{List, [], ◌∷◌}
use mathlib.Core.Path.{◌≡◌, refl, ap, ◌∙◌}
use Prim.Native.Nat.{ℕ, ◌+◌, ◌≤◌}
use native.Mathlib.Numerals.{add-one}
use native.Mathlib.Omega.{arith}
use lib.ListN.{length}
use Rattle.nets.specs.Bits.{Bits}
use Rattle.nets.specs.Networks.{width, net_words, net_bits, net_from, no_net, refusal_of}
use Rattle.nets.specs.declared.Net.{Net}
use Rattle.nets.proofs.Numbers.{net_bits-net_from, refusal_of-net_from, width-le}
use Rattle.address_order.specs.Streams.{shared}
use Rattle.setfile_lanes.specs.Lanes.{lane_at, lanes_of}
use Rattle.setfile_order.specs.Flow.{head_as, Behind, Flow}
use Rattle.setfile_order.specs.declared.Head.{Head}
use Rattle.setfile_lanes.specs.declared.lanes.Lane.{Lane}
use Rattle.setfile_order.proofs.Onwards.{first_short, first-net, flow-first, flow-nothing}

-- The first lane's network, where there is one.
pub record Finds (f : ℕ) (c : List ℕ) (ms : List Bits) : Type 0 where
  pub m : Bits
  pub rest : List Bits
  pub is : ms ≡ m ∷ rest
  pub net : net_words f (lane_at c 0).hi (lane_at c 0).lo (lane_at c 0).len ≡ net_from f m
  pub short : length m ≤ width f

module _ {d : List ℕ} {f : ℕ} {c : List ℕ} {last : Net} {q : Bits} where
  pub head-none : (ms : List Bits) → Behind d f c last q ms → lanes_of c ≡ 0 → record { deep = 0; net = no_net } ≡ head_as f q ms
  unfolding head_as
  head-none [] s e = refl
  head-none (m ∷ ms) s e = absurd (omega (arith, (flow-first s.flow).0))

  pub finds : (ms : List Bits) → Behind d f c last q ms → (lanes_of c ≡ 0 → ⊥) → Finds f c ms
  finds [] s n = absurd (n (flow-nothing s.flow))
  finds (m ∷ ms) s n =
      let o = s.flow in
      let k = flow-first o in
      let u = o.lanes.runs 0 k.0 in
      record { m = m; rest = ms; is = refl; net = first-net o.entries u k.1; short = first_short o.entries u k.1 }

  module _ {ms : List Bits} (s : Behind d f c last q ms) (x : Lane) (i : x ≡ lane_at c 0) (o : Finds f c ms) where
    net-is : net_words f x.hi x.lo x.len ≡ net_from f o.m
    net-is = rw i o.net

    pub finds-small : x.len ≤ 128
    unfolding net_from
    finds-small = omega (arith, ap (λ (n : Net). n.len) net-is, o.short, width-le f)

    pub finds-shares : (last.family ≡ f) × ((refusal_of last ≡ 0) × (refusal_of (net_words f x.hi x.lo x.len) ≡ 0))
    unfolding net_from
    finds-shares = (
      ap (λ (n : Net). n.family) s.net,
      (rw s.net (refusal_of-net_from f q s.flow.entries.family s.short), rw net-is (refusal_of-net_from f o.m s.flow.entries.family o.short)),
    )

    pub finds-head : (k : ℕ) → k ≡ shared (net_bits last) (net_bits (net_words f x.hi x.lo x.len)) → record { deep = k + 1; net = net_words f x.hi x.lo x.len } ≡ head_as f q ms
    unfolding head_as
    finds-head k j =
        let z : k ≡ shared q o.m = j ∙ rw (s.net, net-is, net_bits-net_from f q s.short, net_bits-net_from f o.m o.short) in
        rw (o.is, z, net-is, add-one (shared q o.m))

-- Behind the head, which is a network.
pub behind-head : {d : List ℕ} {f : ℕ} {c c' : List ℕ} {h : Net} {q : Bits} {ms : List Bits} → Flow d f c (q ∷ ms) → h ≡ net_from f q → Flow d f c' ms → Behind d f c' h q ms
behind-head {d} {f} {c} o i s =
    let k = flow-first o in
    record { flow = s; net = i; short = first_short o.entries (o.lanes.runs 0 k.0) k.1 }

-- A step: behind the head, and the head that is found there.
pub stepped : {d : List ℕ} {f : ℕ} {c c' : List ℕ} {h : Net} {x : Head} → ((q : Bits) (ms : List Bits) → Flow d f c (q ∷ ms) → Flow d f c' ms)
    → ((d : List ℕ) (q : Bits) (ms : List Bits) → Behind d f c' h q ms → x ≡ head_as f q ms)
    → (q : Bits) (ms : List Bits) → Flow d f c (q ∷ ms) → h ≡ net_from f q → Flow d f c' ms × (x ≡ head_as f q ms)
stepped {d} moved found q ms o e = (moved q ms o, found d q ms (behind-head o e (moved q ms o)))
