-- One file on its way: what its side says of the networks that it has still to give, where it has come to one of them, and where the addresses up to one have
-- been passed. Assumes nothing.
use Rattle.std.proofs.Common.{◌≡◌, ℕ, suc, ◌+◌, ◌-◌, ◌*◌, ◌%◌, ◌^◌, ◌<◌, Bool, true, false, not, ◌&&◌, eqb, ltb, leb, List, [], ◌∷◌, length, sym, refl, ap, ◌∙◌, lt_of_lt_of_le, lt_of_le_of_lt, mod-eq_of_lt, arith, pow_mono, ltb-true, eq-eqb, ne_eqb, leb-true}
use mathlib.Core.Bool.{and-true, and-false}
use lib.Pow.{shl-shr, split}
use Rattle.nets.specs.Bits.{Bits, val}
use Rattle.nets.specs.Lists.{within}
use Rattle.nets.specs.Networks.{width, value, address, net_from}
use Rattle.nets.specs.declared.Net.{Net}
use Rattle.nets.proofs.Strings.{and_left, and_right}
use Rattle.nets.proofs.Numbers.{width-le}
use Rattle.setfile_order.specs.Flow.{head_as, Flow}
use Rattle.setfile_order.specs.declared.Head.{Head}
use Rattle.setfile_sides.specs.declared.sides.Side.{Side}
use Rattle.setfile_sides.specs.declared.words.Address.{Address}
use Rattle.setfile_sides.specs.Sides.{kept, first_of, last_of, pairs, tight, begins, Stands, Along, Reaches, passed, from_behind}
use Rattle.setfile_sides.proofs.Ranges.{first-last, last-high}

-- The numbers of a network.
address-net_from : (f : ℕ) (p : Bits) → address (net_from f p) ≡ first_of (width f) p
unfolding net_from first_of
address-net_from f p = split (val p * 2 ^ (width f - length p)) 64

last-net_from : (f : ℕ) (p : Bits)
    → let n = net_from f p in kept (address n) (width n.family - n.len) + (2 ^ (width n.family - n.len) - 1) ≡ last_of (width f) p
unfolding net_from first_of last_of kept
last-net_from f p = let k = width f - length p in rw (split (val p * 2 ^ k) 64, shl-shr (val p) k)

-- Whether the head and the network before it are halves.
module _ (f : ℕ) (p : Bits) (ms : List Bits) (short : Bool) (n : Net) (h : Head) (e : n ≡ net_from f p) (g : h ≡ head_as f p ms) where
  pub short-last : h.deep ≡ 0 → short ≡ (short && not (pairs p ms))
  unfolding head_as pairs
  short-last z = go ms g
    where
      go : (ms : List Bits) → h ≡ head_as f p ms → short ≡ (short && not (pairs p ms))
      go [] x = sym (and-true short)
      go (q ∷ ms) x = absurd (omega (arith, ap (λ (y : Head). y.deep) x))

  pairs-head : (h.deep ≡ 0 → ⊥) → pairs p ms ≡ (eqb h.deep h.net.len && eqb h.net.len n.len)
  unfolding head_as pairs net_from
  pairs-head z = go ms g
    where
      go : (ms : List Bits) → h ≡ head_as f p ms → pairs p ms ≡ (eqb h.deep h.net.len && eqb h.net.len n.len)
      go [] x = absurd (z (ap (λ (y : Head). y.deep) x))
      go (q ∷ ms) x = rw (x, e)

  module _ (z : h.deep ≡ 0 → ⊥) where
    pub short-apart : (h.deep ≡ h.net.len → ⊥) → short ≡ (short && not (pairs p ms))
    short-apart k = rw (pairs-head z, ne_eqb h.deep h.net.len k) (sym (and-true short))

    pub short-uneven : (h.net.len ≡ n.len → ⊥) → short ≡ (short && not (pairs p ms))
    short-uneven k = rw (pairs-head z, ne_eqb h.net.len n.len k, and-false (eqb h.deep h.net.len)) (sym (and-true short))

    pub short-halves : h.deep ≡ h.net.len → h.net.len ≡ n.len → false ≡ (short && not (pairs p ms))
    short-halves k l = rw (pairs-head z, eq-eqb h.deep h.net.len k, eq-eqb h.net.len n.len l) (sym (and-false short))

-- The side that has come to a head.
pub arrived-stands : (f : ℕ) (q : Bits) (ms : List Bits) (h : Head) (a : Address) (short : Bool)
    → value a.hi a.lo ≡ kept (address h.net) (width h.net.family - h.net.len) + (2 ^ (width h.net.family - h.net.len) - 1)
    → h ≡ head_as f q ms → within (width f) ms ≡ true
    → Stands f (record { head = h; from = record { hi = h.net.hi; lo = h.net.lo }; last = a; short = short }) (begins (width f) ms) ms
unfolding head_as
arrived-stands f q [] h a short e g i = record { before = q; head = g; from = rw g; begun = tt; within = i }
arrived-stands f q (p ∷ ms) h a short e g i =
    let n : h.net ≡ net_from f p = ap (λ (x : Head). x.net) g in
    record {
      before = q;
      head = g;
      from = ap address n ∙ address-net_from f p;
      begun = (first-last (width f) p, e ∙ rw n (last-net_from f p));
      within = i;
    }

-- The addresses up to e passed: the network reaches further,
pub pass-stay : {d : List ℕ} {f : ℕ} {c : List ℕ} {s : Side} {t : Bool} {x : ℕ} {ms : List Bits} (e : ℕ) (b : Address) → Along d f c s t x ms
    → Reaches (width f) e ms
    → ltb e (value s.last.hi s.last.lo) ≡ true → value b.hi b.lo ≡ suc e % 2 ^ 128
    → Along d f c (record { head = s.head; from = b; last = s.last; short = s.short }) t (from_behind (width f) e ms) (passed (width f) e ms)
pass-stay {ms = []} e b a r h g = absurd r
pass-stay {f = f} {ms = p ∷ ms} e b a r h g =
    let o = a.stands in
    let k : ltb e (last_of (width f) p) ≡ true = rw o.begun.1 at h in
    let l = ltb-true e (last_of (width f) p) k in
    let w = leb-true (length p) (width f) (and_left (leb (length p) (width f)) (within (width f) ms) o.within) in
    let m : suc e < 2 ^ 128 = lt_of_lt_of_le (lt_of_le_of_lt l (last-high (width f) p w)) (pow_mono {i = width f} {j = 128} (width-le f)) in
    rw k record {
      flow = a.flow;
      stands = record { before = o.before; head = o.head; from = g ∙ mod-eq_of_lt m; begun = (l, o.begun.1); within = o.within };
      short = a.short;
    }

-- or it does not, and the file goes on to the next one.
pub pass-requires : {d : List ℕ} {f : ℕ} {c : List ℕ} {s : Side} {t : Bool} {x : ℕ} {ms : List Bits} (e : ℕ) → Along d f c s t x ms → Reaches (width f) e ms
    → (q : Bits) × (ns : List Bits) × Flow d f c (q ∷ ns) × (s.head.net ≡ net_from f q)
unfolding head_as
pass-requires {ms = []} e a r = absurd r
pass-requires {ms = p ∷ ms} e a r = (p, ms, a.flow, ap (λ (y : Head). y.net) a.stands.head)

pub pass-next : {d : List ℕ} {f : ℕ} {c c' : List ℕ} {s : Side} {t : Bool} {x : ℕ} {ms : List Bits} (e : ℕ) (h : Head) (short : Bool) (r : Side)
    → Along d f c s t x ms → Reaches (width f) e ms
    → ltb e (value s.last.hi s.last.lo) ≡ false
    → ((q : Bits) (ns : List Bits) → Flow d f c (q ∷ ns) → s.head.net ≡ net_from f q → Flow d f c' ns × (h ≡ head_as f q ns))
    → ((f : ℕ) (p : Bits) (ns : List Bits) → s.head.net ≡ net_from f p → h ≡ head_as f p ns → short ≡ (s.short && not (pairs p ns)))
    → ((f : ℕ) (q : Bits) (ns : List Bits) → h ≡ head_as f q ns → within (width f) ns ≡ true → Stands f r (begins (width f) ns) ns × (r.short ≡ short))
    → Along d f c' r t (from_behind (width f) e ms) (passed (width f) e ms)
unfolding head_as tight
pass-next {ms = []} e h short r a i k step tells arrives = absurd i
pass-next {f = f} {s = s} {t = t} {ms = p ∷ ms} e h short r a i k step tells arrives =
    let o = a.stands in
    let n = ap (λ (y : Head). y.net) o.head in
    let (flow, is) = step p ms a.flow n in
    let (stands, same) = arrives f p ms is (and_right (leb (length p) (width f)) (within (width f) ms) o.within) in
    let z : ltb e (last_of (width f) p) ≡ false = rw o.begun.1 at k in
    rw z record { flow = flow; stands = stands; short = rw (same, tells f p ms n is) (sym (assoc s.short (not (pairs p ms)) (tight ms)) ∙ a.short) }
  where
    assoc : (a b c : Bool) → (a && (b && c)) ≡ ((a && b) && c)
    assoc true b c = refl
    assoc false b c = refl
