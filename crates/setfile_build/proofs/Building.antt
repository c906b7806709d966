-- Building, network by network: the state of the loop, its start, a turn and its end. Assumes nothing.
use mathlib.Core.Path.{◌≡◌, sym, ap, ◌∙◌}
use mathlib.Core.List.{List, [], ◌∷◌}
use Prim.Native.Nat.{ℕ, suc, ◌+◌, ◌-◌, ◌*◌, ◌≤◌, ◌<◌}
use native.Mathlib.Omega.{arith}
use native.Mathlib.Decide.{dec_lt}
use lib.ListN.{length, get_or}
use Rattle.nets.specs.Bits.{Bits}
use Rattle.nets.specs.Tries.{Trie, size, levels}
use Rattle.nets.specs.Networks.{width, net_bits, net_from}
use Rattle.nets.specs.declared.Net.{Net}
use Rattle.nets.proofs.Numbers.{net_bits-net_from}
use Rattle.nodes.specs.Words.{put, place, enc, chain}
use Rattle.nodes.proofs.Chains.{size-chain}
use Rattle.nodes.proofs.Put.{length-put}
use Rattle.address_order.specs.Streams.{shared}
use Rattle.setfile_order.specs.Flow.{head_as, Flow}
use Rattle.setfile_order.specs.declared.Head.{Head}
use Rattle.trie_paths.proofs.Paths.{path-is}
use Rattle.setfile_build.specs.Building.{Chains, Chained, Appends, Appended, Due}
use Rattle.setfile_build.proofs.Growing.{offset, offset-chain, grow-deep, grow-size, grow-at, grow-old, grow-new, grow-put, Cut, cut-size, cut-levels, cut-first, Next, Onward, onward}

-- The networks of the trie t up to q are written from node o on over the words w₀, up to node e, and p are the nodes on the path to q; the head h and the cursors c are behind q.
pub record Going (w₀ w : List ℕ) (b o e : ℕ) (p : List ℕ) (h : Head) (x : List ℕ) (f : ℕ) (c : List ℕ) (t : Trie) : Type 0 where
  pub deep : levels t ≤ suc (width f)
  pub one : 1 ≤ o
  pub few : o + size t ≤ 1073741824
  pub room : place b o + size t ≤ length w₀
  pub wide : length p ≡ 129
  pub u : Trie
  pub q : Bits
  pub ms : List Bits
  pub cut : Cut t u q ms
  pub wrote : w ≡ put w₀ (place b o) (enc u)
  pub end : e ≡ o + size u
  pub path : (k : ℕ) → k ≤ length q → get_or p k 0 ≡ o + offset q u k
  pub flow : Flow x f c ms
  pub head : h ≡ head_as f q ms

-- The network of a head.
module _ {n : Net} (f : ℕ) (m : Bits) (e : n ≡ net_from f m) (s : length m ≤ width f) where
  net-bits : net_bits n ≡ m
  net-bits = ap net_bits e ∙ net_bits-net_from f m s

  net-len : n.len ≡ length m
  net-len = (path-is n f m e).0

  net-short : n.len ≤ width n.family
  net-short = rw (path-is n f m e).1 (omega (arith, net-len))

-- The first network.
module _ {w : List ℕ} {b o : ℕ} {h : Head} {x : List ℕ} {f : ℕ} {c : List ℕ} {t : Trie} (g : Due w b o h x f c t) where
  pub record First : Type 0 where
    pub q : Bits
    pub ms : List Bits
    pub cut : Cut t (chain q) q ms
    pub flow : Flow x f c (q ∷ ms)
    pub net : h.net ≡ net_from f q
    pub short : length q ≤ width f

  pub first : First
  unfolding head_as
  first =
      let (q, ms, k, e) = cut-first t g.some in
      record { q = q; ms = ms; cut = k; flow = rw e at g.flow; net = ap (λ (y : Head). y.net) g.head ∙ rw e; short = omega (arith, cut-levels k, g.deep) }

  first-size : suc h.net.len ≤ size t
  first-size = let k = first in omega (arith, net-len f k.q k.net k.short, size-chain k.q, cut-size k.cut)

  pub first-chains : {p : List ℕ} → length p ≡ 129 → Chains w b o h.net 0 p
  first-chains i = let k = first in record { one = g.one; few = omega (arith, g.few); from = omega arith; short = net-short f k.q k.net k.short; room = omega (arith, g.room, first-size); wide = i }

  pub first-few : o + (h.net.len + 1) ≤ 1073741824
  first-few = omega (arith, g.few, first-size)

  pub first-going : {v p z d : List ℕ} {y : Head} → length p ≡ 129 → Chained w v b o h.net 0 p z → (k : First) → Flow x f d k.ms × (y ≡ head_as f k.q k.ms)
      → Going w v b o (o + (h.net.len + 1)) z y x f d t
  first-going i a k (j, n) = record {
    deep = g.deep;
    one = g.one;
    few = g.few;
    room = g.room;
    wide = a.along.wide ∙ i;
    u = chain k.q;
    q = k.q;
    ms = k.ms;
    cut = k.cut;
    wrote = rw (net-bits f k.q k.net k.short) at a.wrote;
    end = omega (arith, net-len f k.q k.net k.short, size-chain k.q);
    path = λ r l. omega (arith, a.along.new r (omega arith) (omega (arith, net-len f k.q k.net k.short)), offset-chain k.q r l);
    flow = j;
    head = n;
  }

-- The head is of the next network m, by which the trie grows; or it is of none, and the trie is whole.
pub record Heading (t u : Trie) (q : Bits) (h : Head) (x : List ℕ) (f : ℕ) (c : List ℕ) : Type 0 where
  pub m : Bits
  pub ms : List Bits
  pub next : Next t u q m ms
  pub flow : Flow x f c (m ∷ ms)
  pub net : h.net ≡ net_from f m
  pub deep : h.deep ≡ suc (shared q m)

heading : {t u : Trie} {q : Bits} {h : Head} {x : List ℕ} {f : ℕ} {c : List ℕ} (ms : List Bits) → Onward t u q ms → Flow x f c ms → h ≡ head_as f q ms → (h.deep ≡ 0 → ⊥) → Heading t u q h x f c
unfolding head_as
heading [] k i e n = absurd (n (ap (λ (y : Head). y.deep) e))
heading (m ∷ ms) k i e n = record { m = m; ms = ms; next = k; flow = i; net = ap (λ (y : Head). y.net) e; deep = ap (λ (y : Head). y.deep) e }

whole : {t u : Trie} (q : Bits) {h : Head} (f : ℕ) (ms : List Bits) → Onward t u q ms → h ≡ head_as f q ms → h.deep ≡ 0 → u ≡ t
unfolding head_as
whole q f [] k e z = k
whole {t} {u} q {h} f (m ∷ ms) k e z = let d : h.deep ≡ suc (shared q m) = ap (λ (y : Head). y.deep) e in absurd (omega arith)

module _ {w₀ w : List ℕ} {b o e : ℕ} {p : List ℕ} {h : Head} {x : List ℕ} {f : ℕ} {c : List ℕ} {t : Trie} (g : Going w₀ w b o e p h x f c t) where
  pub going-few : e ≤ 1073741824
  going-few = omega (arith, g.end, g.few, cut-size g.cut)

  pub going_end : h.deep ≡ 0 → w ≡ put w₀ (place b o) (enc t)
  going_end z = g.wrote ∙ ap (λ u. put w₀ (place b o) (enc u)) (whole g.q f g.ms (onward g.cut) g.head z)

  pub going-long : length w ≡ length w₀
  going-long = rw g.wrote (length-put w₀ (place b o) (enc g.u))

  pub going : (h.deep ≡ 0 → ⊥) → Heading t g.u g.q h x f c
  going = heading g.ms (onward g.cut) g.flow g.head

  -- the head's depth and length, the nodes that it brings, and the node that gets a second child
  module _ (k : Heading t g.u g.q h x f c) where
    short : length k.m ≤ width f
    short = omega (arith, cut-levels k.next.cut, g.deep)

    len : h.net.len ≡ length k.m
    len = net-len f k.m k.net short

    turns : (h.deep ≤ h.net.len) × (h.deep ≤ suc (length g.q))
    turns = let d = grow-deep k.next.grows in (omega (arith, len, k.deep), omega (arith, k.deep))

    brings : e + (h.net.len + 1 - h.deep) ≡ o + size k.next.grown
    brings = let d = grow-deep k.next.grows in let s = grow-size k.next.grows in omega (arith, len, k.deep, g.end)

    at : get_or p (h.deep - 1) 0 ≡ o + offset g.q g.u (shared g.q k.m)
    at =
        let d : h.deep - 1 ≡ shared g.q k.m = omega (arith, k.deep) in
        ap (λ j. get_or p j 0) d ∙ g.path (shared g.q k.m) (omega (arith, grow-deep k.next.grows))

    pub going_step : (h.deep ≤ h.net.len + 1) × ((e + (h.net.len + 1 - h.deep) ≤ 1073741824) × (e < e + (h.net.len + 1 - h.deep)))
    going_step = let n = turns in (omega arith, (omega (arith, brings, g.few, cut-size k.next.cut), omega arith))

    pub going-appends : Appends w b e h p
    going-appends = record {
      deep = omega (arith, k.deep);
      one = omega (arith, at, g.one);
      before = omega (arith, at, g.end, grow-at k.next.grows);
      chains = record {
        one = omega (arith, g.end, g.one);
        few = going-few;
        from = turns.0;
        short = net-short f k.m k.net short;
        room = room;
        wide = g.wide;
      };
    }
      where
        room : place b e + (h.net.len - h.deep) < length w
        room =
            let n = turns.0 in
            let s : e + (h.net.len - h.deep) + 1 ≤ o + size t = omega (arith, brings, cut-size k.next.cut) in
            let i : 1 ≤ e = omega (arith, g.end, g.one) in
            omega (arith, g.room, g.one, going-long)

    pub going-again : {v z d : List ℕ} {y : Head} → Appended w v b e h p z → Flow x f d k.ms × (y ≡ head_as f k.m k.ms)
        → Going w₀ v b o (e + (h.net.len + 1 - h.deep)) z y x f d t
    going-again {v} {z} {d} {y} a (j, n) = record {
      deep = g.deep;
      one = g.one;
      few = g.few;
      room = g.room;
      wide = a.along.wide ∙ g.wide;
      u = k.next.grown;
      q = k.m;
      ms = k.ms;
      cut = k.next.cut;
      wrote = wrote;
      end = brings;
      path = λ r l. path r l (dec_lt r h.deep);
      flow = j;
      head = n;
    }
      where
        wrote : v ≡ put w₀ (place b o) (enc k.next.grown)
        wrote =
            let i = o + offset g.q g.u (shared g.q k.m) in
            rw (at, net-bits f k.m k.net short, k.deep, g.wrote) at a.wrote
            ∙ grow-put k.next.grows w₀ (place b o) (place b i) (place b e) (1 + 2 * (e - i)) (omega (arith, g.one)) (omega (arith, g.end, g.one)) (omega (arith, g.end, grow-at k.next.grows))

        path : (r : ℕ) → r ≤ length k.m → Dec (r < h.deep) → get_or z r 0 ≡ o + offset k.m k.next.grown r
        path r l (yes i) = a.along.old r i ∙ g.path r (omega (arith, turns)) ∙ ap (λ n. o + n) (sym (grow-old k.next.grows r (omega (arith, k.deep))))
        path r l (no i) = omega (arith, a.along.new r (omega arith) (omega (arith, len)), grow-new k.next.grows r (omega (arith, k.deep)) l, g.end, k.deep)
