-- The walk by the tests of the code: where it starts, and what a turn at a node shows. Assumes nothing.
use mathlib.Core.Bool.{Bool, true, false, cond, ◌&&◌}
use mathlib.Core.List.{List}
use mathlib.Core.Path.{◌≡◌, ap, sym, ◌∙◌}
use Prim.Native.Nat.{ℕ, zero, suc, ◌+◌, ◌-◌, ◌≤◌, ◌<◌}
use native.Mathlib.Omega.{arith}
use lib.Dec.{eqb, leb}
use lib.ListN.{length, get_or}
use borrow.Author.Tests.{le-leb, lt-leb, eq-eqb, ne_eqb}
use Rattle.nets.specs.Bits.{Bits, leads}
use Rattle.nets.specs.Tries.{side}
use Rattle.nets.specs.Networks.{net_bits, width}
use Rattle.nets.specs.declared.Net.{Net}
use Rattle.nets.proofs.Numbers.{length-net_bits, refusal_of-is, width-le}
use Rattle.kept_nodes.specs.Parse.{KeptRoom, len_at, dist_at, string_at}
use Rattle.kept_nodes.proofs.NodeWords.{len-at}
use Rattle.kept_reading.specs.NodeStrings.{ReadAs, Both}
use Rattle.kept_reading.proofs.Found.{read-family, read-string}
use Rattle.kept_lookup.specs.Walks.{on_way, kept_walk, kept_walk_from, counted_in, Query}
use Rattle.kept_lookup.specs.declared.Shown.{Shown}
use Rattle.kept_lookup.specs.declared.Shown.TheVariants.{Member, Nothing, Damaged}

pub query-length : {f : ℕ} {q : Net} → Query f q → length (net_bits q) ≡ q.len
query-length {f} {q} g = length-net_bits q g.is.net

pub query-short : {f : ℕ} {q : Net} → Query f q → q.len ≤ width f
query-short {f} {q} g = rw (← g.family) (refusal_of-is q g.is.net).len

pub query-few : {f : ℕ} {q : Net} → Query f q → q.len ≤ 128
query-few {f} {q} g = omega (arith, query-short g, width-le f)

-- the string of a node beside the query
pub ask-both : {f : ℕ} {w : List ℕ} {b n : ℕ} → KeptRoom f w b n → {q : Net} → Query f q → {i : ℕ} {s : Net} → ReadAs f w b i s → s.len ≤ q.len → Both s q
ask-both room {q} g h le = record { family = read-family room h ∙ sym g.family; first = read-string room h (omega (arith, query-short g)); second = g.is }

module _ (f : ℕ) (w : List ℕ) (b n : ℕ) (q : Bits) (r : ℕ) where
  pub from-none : r ≡ 0 → Nothing 0 ≡ kept_walk_from f w b n q r
  unfolding kept_walk_from
  from-none z = rw (eq-eqb r 0 z)

  pub from-over : n < r → Damaged ≡ kept_walk_from f w b n q r
  unfolding kept_walk_from
  from-over lt = rw (ne_eqb r 0 (omega arith), lt-leb r n lt)

  pub from-node : (r ≡ 0 → ⊥) → r ≤ n → kept_walk f w b n (suc (length q)) 0 r q 0 ≡ kept_walk_from f w b n q r
  unfolding kept_walk_from
  from-node nz le = rw (ne_eqb r 0 nz, le-leb r n le)

-- the loop stands at node i, and the walk from here shows what the whole walk shows
pub record Down (f : ℕ) (w : List ℕ) (b n root : ℕ) (q : Net) (i least count : ℕ) : Type 0 where
  pub one : 1 ≤ i
  pub within : i ≤ n
  pub grown : count ≤ least
  pub inside : least ≤ q.len
  pub rest : kept_walk f w b n (suc (q.len - count)) least i (net_bits q) count ≡ kept_walk_from f w b n (net_bits q) root

pub down-start : {f : ℕ} {w : List ℕ} {b n root : ℕ} {q : Net} → Query f q → (root ≡ 0 → ⊥) → root ≤ n → Down f w b n root q root 0 0
down-start {f} {w} {b} {n} {root} {q} g nz le =
    let e : q.len - 0 ≡ length (net_bits q) = omega (arith, query-length g) in
    record { one = omega arith; within = le; grown = omega arith; inside = omega arith; rest = rw e (from-node f w b n (net_bits q) root nz le) }

-- the string of node i is read, and its distance
pub record Met (f : ℕ) (w : List ℕ) (b i : ℕ) (s : Net) (d : ℕ) : Type 0 where
  pub read : ReadAs f w b i s
  pub dist : d ≡ dist_at f w b i

module _ {f : ℕ} {w : List ℕ} {b n root : ℕ} {q : Net} {i least count : ℕ} (ask : Query f q) (g : Down f w b n root q i least count) where
  abbrev Answer : Shown → Type 0
  Answer x = x ≡ kept_walk_from f w b n (net_bits q) root

  pub down-over : n < i + dist_at f w b i → Answer Damaged
  unfolding kept_walk
  down-over lt = rw (lt-leb (i + dist_at f w b i) n lt) at g.rest

  module _ {s : Net} {d : ℕ} (m : Met f w b i s d) (le : i + d ≤ n) where
    len_is : s.len ≡ len_at f w b i
    len_is = ap (λ z. z.len) m.read.is ∙ len-at f w b i

    inn : leb (i + dist_at f w b i) n ≡ true
    inn = le-leb (i + dist_at f w b i) n (omega (arith, m.dist))

    pub down-shrunk : s.len < least → Answer Damaged
    unfolding kept_walk
    down-shrunk lt = rw (inn, lt-leb least (len_at f w b i) (omega (arith, len_is))) at g.rest

    module _ (ge : least ≤ s.len) where
      abbrev onward : Shown
      onward = kept_walk f w b n (q.len - count) (len_at f w b i + 1) (i + side (get_or (net_bits q) (len_at f w b i) false) (dist_at f w b i) 1) (net_bits q) (count + 1)

      here : cond (on_way f w b i (net_bits q)) (cond (eqb (dist_at f w b i) 0) (Member (len_at f w b i) (count + 1)) (cond (eqb (len_at f w b i) (length (net_bits q)))
          (Nothing (count + 1)) onward)) (Nothing count) ≡ kept_walk_from f w b n (net_bits q) root
      unfolding kept_walk
      here = rw (inn, le-leb least (len_at f w b i) (omega (arith, len_is))) at g.rest

      pub down-long : q.len < s.len → Answer (Nothing count)
      down-long lt = rw (lt-leb (len_at f w b i) (length (net_bits q)) (omega (arith, len_is, query-length ask))) at here

      module _ (short : s.len ≤ q.len) where
        way : on_way f w b i (net_bits q) ≡ leads (net_bits s) (net_bits q)
        unfolding string_at
        way = rw (le-leb (len_at f w b i) (length (net_bits q)) (omega (arith, len_is, query-length ask)), m.read.is)

        pub down-off : leads (net_bits s) (net_bits q) ≡ false → Answer (Nothing count)
        down-off e = rw (way, e) at here

        module _ (on : leads (net_bits s) (net_bits q) ≡ true) where
          led : cond (eqb d 0) (Member s.len (count + 1)) (cond (eqb s.len (length (net_bits q))) (Nothing (count + 1)) onward) ≡ kept_walk_from f w b n
              (net_bits q) root
          led = rw (m.dist, len_is) (rw (way, on) at here)

          pub down-leaf : d ≡ 0 → Answer (Member s.len (count + 1))
          down-leaf z = rw (eq-eqb d 0 z) at led

          pub down-end : (d ≡ 0 → ⊥) → s.len ≡ q.len → Answer (Nothing (count + 1))
          down-end nz e = rw (ne_eqb d 0 nz, eq-eqb s.len (length (net_bits q)) (omega (arith, query-length ask))) at led

          pub down-on : (d ≡ 0 → ⊥) → (s.len ≡ q.len → ⊥) → (bit : Bool) (x : ℕ) → bit ≡ get_or (net_bits q) s.len false → x ≡ side bit d 1
              → Down f w b n root q (i + x) (s.len + 1) (count + 1)
          down-on nz ne bit x bt e =
              let k : q.len - count ≡ suc (q.len - (count + 1)) = omega (arith, g.grown, ne) in
              let h = rw (ne_eqb d 0 nz, ne_eqb s.len (length (net_bits q)) (λ z. ne (omega (arith, query-length ask))), k) at led in
              let t : x ≡ side (get_or (net_bits q) s.len false) d 1 = rw (← bt) e in
              record {
                one = omega (arith, g.one);
                within = near bit e;
                grown = omega (arith, g.grown);
                inside = omega (arith, ne);
                rest = rw (t, len_is, m.dist) h;
              }
            where
              near : (c : Bool) → x ≡ side c d 1 → i + x ≤ n
              near true u = omega arith
              near false u = omega arith

-- never more than the query's length plus one, on any words
counted-in : (f : ℕ) (w : List ℕ) (b n k m i : ℕ) (q : Bits) (c : ℕ) → counted_in (kept_walk f w b n k m i q c) ≤ c + k
unfolding kept_walk
counted-in f w b n zero m i q c = omega arith
counted-in f w b n (suc k) m i q c =
    go (leb (i + dist_at f w b i) n && leb m (len_at f w b i)) (on_way f w b i q) (eqb (dist_at f w b i) 0) (eqb (len_at f w b i) (length q)) (len_at f w b i)
    (kept_walk f w b n k (len_at f w b i + 1) (i + side (get_or q (len_at f w b i) false) (dist_at f w b i) 1) q (c + 1))
    (counted-in f w b n k (len_at f w b i + 1) (i + side (get_or q (len_at f w b i) false) (dist_at f w b i) 1) q (c + 1))
  where
    go : (x y z u : Bool) (d : ℕ) (s : Shown) → counted_in s ≤ c + 1 + k → counted_in (cond x (cond y (cond z (Member d (c + 1)) (cond u (Nothing (c + 1)) s))
        (Nothing c)) Damaged) ≤ c + suc k
    go false y z u d s h = omega arith
    go true false z u d s h = omega arith
    go true true true u d s h = omega arith
    go true true false true d s h = omega arith
    go true true false false d s h = omega arith

pub walk-few : (f : ℕ) (w : List ℕ) (b n : ℕ) (q : Bits) (r : ℕ) → counted_in (kept_walk_from f w b n q r) ≤ suc (length q)
unfolding kept_walk_from
walk-few f w b n q r = go (eqb r 0) (leb r n) (kept_walk f w b n (suc (length q)) 0 r q 0) (counted-in f w b n (suc (length q)) 0 r q 0)
  where
    go : (x y : Bool) (s : Shown) → counted_in s ≤ 0 + suc (length q) → counted_in (cond x (Nothing 0) (cond y s Damaged)) ≤ suc (length q)
    go true y s h = omega arith
    go false true s h = omega arith
    go false false s h = omega arith
