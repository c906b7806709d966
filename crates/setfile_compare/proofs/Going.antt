-- Two files on their way side by side: how they go on, and what is due where they have come to an end or differ. Assumes nothing.
use mathlib.Core.Bool.{true, false, cond, and-true}
use mathlib.Core.List.{List, [], ◌∷◌}
use mathlib.Core.Path.{◌≡◌, refl, ap, sym, ◌∙◌}
use Prim.Native.Nat.{ℕ, suc, ◌-◌, ◌^◌, ◌≤◌, ◌<◌}
use native.Mathlib.Nat.{lt_of_le_of_lt}
use native.Mathlib.Omega.{arith}
use lib.Dec.{eqb, leb, ltb}
use lib.ListN.{length}
use borrow.Author.Tests.{ne_eqb, leb-true, ltb-true, ltb-false}
use Rattle.nets.specs.Bits.{Bits}
use Rattle.nets.specs.Lists.{within, is_list}
use Rattle.nets.specs.Networks.{width, value, net_words, no_net}
use Rattle.nets.specs.Tries.{trie_of}
use Rattle.nets.proofs.Strings.{and_left}
use Rattle.address_order.specs.Streams.{flat}
use Rattle.setfile_format.specs.Files.{read_file, file}
use Rattle.setfile_format.proofs.RoundTrip.{read_file-is}
use Rattle.setfile_order.specs.Flow.{head_as}
use Rattle.setfile_order.specs.declared.Head.{Head}
use Rattle.setfile_sides.specs.declared.sides.Side.{Side}
use Rattle.setfile_sides.specs.declared.words.Address.{Address}
use Rattle.setfile_compare.specs.declared.Holder.{Holder}
use Rattle.setfile_compare.specs.declared.Holder.TheVariants as holder
use Rattle.std.specs.Prelude.{Ok}
use Rattle.setfile_compare.specs.declared.Compared.TheVariants as compare
use Rattle.setfile_compare.specs.declared.abreast.Meet.{Meet}
use Rattle.setfile_compare.specs.declared.abreast.Meet.TheVariants as meet
use Rattle.setfile_compare.specs.Comparing.{is_shortest, compared_as, verdict}
use Rattle.setfile_sides.specs.Sides.{last_of, tight, begins, Begun, Stands, Along, Reaches, passed, from_behind}
use Rattle.setfile_compare.specs.Abreast.{Ahead, Meets}
use Rattle.setfile_sides.proofs.Ranges.{last-high, holds}
use Rattle.setfile_compare.proofs.Lefts.{From, Abreast, abreast-begin, abreast-swap, abreast-step, abreast-over, ahead-holds, ahead-below, passed_later}
use Rattle.setfile_compare.proofs.Tight.{tight-shortest}
use Rattle.setfile_sides.proofs.Opened.{spread-flat}
use Rattle.setfile_compare.proofs.Verdicts.{net-address, verdict-same, verdict-at}

-- How two sides go on.
stands-none : {f : ℕ} {s : Side} {x : ℕ} {ms : List Bits} → Stands f s x ms → s.head.deep ≡ 0 → ms ≡ []
unfolding head_as
stands-none {ms = []} o e = refl
stands-none {ms = p ∷ ms} o e = absurd (omega (arith, ap (λ (y : Head). y.deep) o.head))

stands-some : {f : ℕ} {s : Side} {x : ℕ} {ms : List Bits} → Stands f s x ms → (s.head.deep ≡ 0 → ⊥) → ms ≡ [] → ⊥
unfolding head_as
stands-some {ms = []} o n e = n (ap (λ (y : Head). y.deep) o.head)
stands-some {ms = p ∷ ms} o n e = omega (arith, ap length e)

module _ {f : ℕ} {a b : Side} {x : ℕ} {ms : List Bits} {y : ℕ} {ns : List Bits} (o : Stands f a x ms) (v : Stands f b y ns) where
  pub meets-over : a.head.deep ≡ 0 → b.head.deep ≡ 0 → (ms ≡ []) × (ns ≡ [])
  meets-over e g = (stands-none o e, stands-none v g)

  pub meets-alone : (a.head.deep ≡ 0 → ⊥) → b.head.deep ≡ 0 → (value a.from.hi a.from.lo ≡ x) × Ahead x ms y ns
  meets-alone n e = (o.from, go ms ns (stands-some o n) (stands-none v e))
    where
      go : (ms ns : List Bits) → (ms ≡ [] → ⊥) → ns ≡ [] → Ahead x ms y ns
      go [] ns i j = absurd (i refl)
      go (p ∷ ms) [] i j = tt
      go (p ∷ ms) (q ∷ ns) i j = absurd (omega (arith, ap length j))

  pub meets-sooner : (a.head.deep ≡ 0 → ⊥) → ltb (value a.from.hi a.from.lo) (value b.from.hi b.from.lo) ≡ true
      → (value a.from.hi a.from.lo ≡ x) × Ahead x ms y ns
  meets-sooner n e = (o.from, go ms ns (stands-some o n))
    where
      go : (ms ns : List Bits) → (ms ≡ [] → ⊥) → Ahead x ms y ns
      go [] ns i = absurd (i refl)
      go (p ∷ ms) [] i = tt
      go (p ∷ ms) (q ∷ ns) i = omega (arith, ltb-true (value a.from.hi a.from.lo) (value b.from.hi b.from.lo) e, o.from, v.from)

  -- e is the smaller of the two last addresses
  pub meets-alike : (e : ℕ) → (a.head.deep ≡ 0 → ⊥) → (b.head.deep ≡ 0 → ⊥)
      → ltb (value a.from.hi a.from.lo) (value b.from.hi b.from.lo) ≡ false
      → ltb (value b.from.hi b.from.lo) (value a.from.hi a.from.lo) ≡ false → e ≤ value a.last.hi a.last.lo
      → e ≤ value b.last.hi b.last.lo
      → ((n : ℕ) → n ≤ value a.last.hi a.last.lo → n ≤ value b.last.hi b.last.lo → n ≤ e)
      → (x ≡ y) × (x ≤ e) × Reaches (width f) e ms × Reaches (width f) e ns
  meets-alike e n k s t g h least = go ms ns (stands-some o n) (stands-some v k) o.begun v.begun
    where
      z : x ≡ y
      z =
          omega (
            arith,
            ltb-false (value a.from.hi a.from.lo) (value b.from.hi b.from.lo) s,
            ltb-false (value b.from.hi b.from.lo)
                (value a.from.hi a.from.lo) t,
            o.from,
            v.from,
          )

      go : (ms ns : List Bits) → (ms ≡ [] → ⊥) → (ns ≡ [] → ⊥) → Begun (width f) a x ms → Begun (width f) b y ns
          → (x ≡ y) × (x ≤ e) × Reaches (width f) e ms × Reaches (width f) e ns
      go [] ns i j p q = absurd (i refl)
      go (m ∷ ms) [] i j p q = absurd (j refl)
      go (m ∷ ms) (r ∷ ns) i j p q = (z, least x (omega (arith, p.0, p.1)) (omega (arith, q.0, q.1, z)), omega (arith, p.1), omega (arith, q.1))

-- Two files on their way: what is left of them, and that what was taken away both hold.
pub record Going (first second : List ℕ) (f : ℕ) (c d : List ℕ) (a b : Side) (l m : List Bits) : Type 0 where
  pub x : ℕ
  pub ms : List Bits
  pub y : ℕ
  pub ns : List Bits
  pub one : Along first f c a (tight (flat (trie_of l))) x ms
  pub two : Along second f d b (tight (flat (trie_of m))) y ns
  pub abreast : Abreast (width f) (flat (trie_of l)) (flat (trie_of m)) x ms y ns
  pub one_list : is_list (width f) l ≡ true
  pub two-list : is_list (width f) m ≡ true

pub going-begin : (first second : List ℕ) {f : ℕ} {c d : List ℕ} {a b : Side} {l m : List Bits} → read_file first ≡ file f l → read_file second ≡ file f m
    → Along first f c a (tight (flat (trie_of l))) (begins (width f) (flat (trie_of l))) (flat (trie_of l))
    → Along second f d b (tight (flat (trie_of m))) (begins (width f) (flat (trie_of m))) (flat (trie_of m)) → Going first second f c d a b l m
going-begin first second {f} {l = l} {m = m} i j o v =
    let g = (read_file-is first f l i).list in
    let h = (read_file-is second f m j).list in
    record {
      x = _;
      ms = _;
      y = _;
      ns = _;
      one = o;
      two = v;
      abreast = abreast-begin (width f) (flat (trie_of l)) (flat (trie_of m)) (spread-flat (width f) l g) (spread-flat (width f) m h);
      one_list = g;
      two-list = h;
    }

-- an address before the end
stands-high : {f : ℕ} {s : Side} {x : ℕ} {ms : List Bits} → Stands f s x ms → (ms ≡ [] → ⊥) → x < 2 ^ width f
stands-high {ms = []} o n = absurd (n refl)
stands-high {f = f} {ms = p ∷ ms} o n =
    lt_of_le_of_lt o.begun.0 (last-high (width f) p (leb-true (length p) (width f) (and_left (leb (length p) (width f)) (within (width f) ms) o.within)))

ahead-some : (x : ℕ) (ms : List Bits) (y : ℕ) (ns : List Bits) → Ahead x ms y ns → ms ≡ [] → ⊥
ahead-some x [] y ns h e = h
ahead-some x (p ∷ ms) y ns h e = omega (arith, ap length e)

-- how much is left of a side: less with each step
abbrev pub rest_of : ℕ → Side → ℕ
rest_of f s = cond (eqb s.head.deep 0) 0 (suc (2 ^ width f - value s.from.hi s.from.lo))

rest-none : {f : ℕ} {s : Side} {x : ℕ} {ms : List Bits} → Stands f s x ms → ms ≡ [] → rest_of f s ≡ 0
unfolding head_as
rest-none {ms = []} o e = rw (ap (λ (y : Head). y.deep) o.head)
rest-none {ms = p ∷ ms} o e = absurd (omega (arith, ap length e))

rest_some : {f : ℕ} {s : Side} {x : ℕ} {ms : List Bits} → Stands f s x ms → (ms ≡ [] → ⊥) → rest_of f s ≡ suc (2 ^ width f - x)
unfolding head_as
rest_some {ms = []} o n = absurd (n refl)
rest_some {s = s} {ms = p ∷ ms} o n = rw (ne_eqb s.head.deep 0 (λ z. omega (arith, z, ap (λ (y : Head). y.deep) o.head)), o.from)

module _ {first second : List ℕ} {f : ℕ} {c d : List ℕ} {a b : Side} {l m : List Bits} (g : Going first second f c d a b l m) where
  -- both at their end
  verdict-end : (g.ms ≡ []) × (g.ns ≡ []) → verdict f l m ≡ (cond (is_shortest m) 4 3, no_net)
  verdict-end (e, h) = verdict-same f l m g.one_list g.two-list (abreast-over g.abreast e h)

  short : (g.ms ≡ []) × (g.ns ≡ []) → b.short ≡ is_shortest m
  unfolding tight
  short (e, h) = sym (and-true b.short) ∙ (rw h at g.two.short) ∙ tight-shortest (width f) m g.two-list

  pub going-shortest : (r : Meet) → Meets (width f) r g.x g.ms g.y g.ns → r ≡ meet.Over → b.short ≡ true
      → compared_as (Ok compare.Shortest) ≡ (0, verdict f l m)
  going-shortest r o q e = let z = rw q at o in rw (verdict-end z, ← short z, e)

  pub going-longer : (r : Meet) → Meets (width f) r g.x g.ms g.y g.ns → r ≡ meet.Over → b.short ≡ false
      → compared_as (Ok compare.Longer) ≡ (0, verdict f l m)
  going-longer r o q e = let z = rw q at o in rw (verdict-end z, ← short z, e)

  -- only one of them holds the next address
  differs : (h : Holder) (n : Address) (w : ℕ) → w ≡ width f → n.lo < 2 ^ 64 → Meets (width f) (meet.Differ h n) g.x g.ms g.y g.ns
      → compared_as (Ok (compare.Differs h (net_words f n.hi n.lo w))) ≡ (0, verdict f l m)
  differs holder.First n w v k (e, o) =
      let (t, u) = ahead-holds g.abreast o in
      let h = stands-high g.one.stands (ahead-some g.x g.ms g.y g.ns o) in
      let z : value n.hi n.lo < 2 ^ width f = rw e h in
      rw (v, verdict-at f l m g.one_list g.two-list g.x h (rw (t, u)) (ahead-below g.abreast o), t, net-address f n.hi n.lo k z, e)
  differs holder.Second n w v k (e, o) =
      let s = abreast-swap g.abreast in
      let (t, u) = ahead-holds s o in
      let h = stands-high g.two.stands (ahead-some g.y g.ns g.x g.ms o) in
      let z : value n.hi n.lo < 2 ^ width f = rw e h in
      rw (v, verdict-at f l m g.one_list g.two-list g.y h (rw (t, u)) (λ i j. sym (ahead-below s o i j)), u, net-address f n.hi n.lo k z, e)

  pub going-differs : (r : Meet) (h : Holder) (n : Address) (w : ℕ) → Meets (width f) r g.x g.ms g.y g.ns → r ≡ meet.Differ h n → w ≡ width f
      → n.lo < 2 ^ 64
      → compared_as (Ok (compare.Differs h (net_words f n.hi n.lo w))) ≡ (0, verdict f l m)
  going-differs r h n w o q v k = differs h n w v k (rw q at o)

  -- both hold the addresses up to e
  pub going-alike : (r : Meet) (n : Address) → Meets (width f) r g.x g.ms g.y g.ns → r ≡ meet.Alike n
      → Meets (width f) (meet.Alike n) g.x g.ms g.y g.ns
  going-alike r n o q = rw q at o

  module _ (e : ℕ) (alike : (g.x ≡ g.y) × (g.x ≤ e) × Reaches (width f) e g.ms × Reaches (width f) e g.ns) where
    pub going-again : {c' d' : List ℕ} {a' b' : Side}
        → Along first f c' a' (tight (flat (trie_of l))) (from_behind (width f) e g.ms) (passed (width f) e g.ms)
        → Along second f d' b' (tight (flat (trie_of m))) (from_behind (width f) e g.ns) (passed (width f) e g.ns) → Going first second f c' d' a' b' l m
    going-again o v = record {
      x = _;
      ms = _;
      y = _;
      ns = _;
      one = o;
      two = v;
      abreast = abreast-step e g.abreast alike.0 alike.1 alike.2 alike.3;
      one_list = g.one_list;
      two-list = g.two-list;
    }

    pub going_less : {c' : List ℕ} {a' : Side} → Along first f c' a' (tight (flat (trie_of l))) (from_behind (width f) e g.ms) (passed (width f) e g.ms)
        → rest_of f a' < rest_of f a
    going_less {c'} {a'} o = go g.ms g.abreast.first alike.2 g.one.stands o.stands
      where
        less : (p : Bits) (ms ns : List Bits) → From (width f) g.x (p ∷ ms) → e ≤ last_of (width f) p → Stands f a g.x (p ∷ ms)
            → Stands f a' (from_behind (width f) e (p ∷ ms)) (passed (width f) e (p ∷ ms)) → passed (width f) e (p ∷ ms) ≡ ns → rest_of f a' < rest_of f a
        less p ms [] i k u v z = rw (rest-none v z, rest_some u (λ q. omega (arith, ap length q))) (omega arith)
        less p ms (q ∷ ns) i k u v z =
            let some : passed (width f) e (p ∷ ms) ≡ [] → ⊥ = λ r. omega (arith, ap length (sym z ∙ r)) in
            let later = passed_later (width f) g.x e p ms i alike.1 k q ns z in
            let high = stands-high v some in
            rw (rest_some v some, rest_some u (λ q. omega (arith, ap length q))) (omega arith)

        go : (ms : List Bits) → From (width f) g.x ms → Reaches (width f) e ms → Stands f a g.x ms
            → Stands f a' (from_behind (width f) e ms) (passed (width f) e ms) → rest_of f a' < rest_of f a
        go [] i k u v = absurd k
        go (p ∷ ms) i k u v = less p ms (passed (width f) e (p ∷ ms)) i k u v refl
