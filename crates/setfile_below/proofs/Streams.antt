-- What a stream at a path says of the networks below it: whether the next one is the path itself, and below which half it is; and the stream at the halves. Assumes nothing.
use mathlib.Core.Bool.{Bool, true, false, not, false≢true, not-not}
use mathlib.Core.List.{List, [], ◌∷◌, ◌++◌, map, append-nil}
use mathlib.Core.Path.{◌≡◌, refl, ap, sym, ◌∙◌}
use Prim.Native.Nat.{ℕ, suc, ◌+◌, ◌-◌, ◌≤◌, ◌<◌}
use native.Mathlib.Omega.{arith}
use borrow.Author.Tests.{ne_eqb, eq-eqb, lt-ltb, le-ltb, not-true}
use lib.Dec.{eqb, ltb}
use lib.ListN.{length, get_or, length-append}
use lib.Seq.{get_or-take}
use Rattle.nets.specs.Bits.{Bits, bits, leads}
use Rattle.nets.specs.Tries.{Trie, none, node, leaf, is_none, is_leaf, bare, levels, trie_of}
use Rattle.nets.specs.Networks.{width, address, net_bits, net_from}
use Rattle.nets.proofs.Strings.{leads-append}
use Rattle.nets.proofs.Listing.{leaf-is}
use Rattle.nets.proofs.Numbers.{net_bits-net_from, width-le}
use Rattle.nets.proofs.TrieOf.{levels-trie_of, is_list-within}
use Rattle.address_order.specs.Streams.{flat, shared}
use Rattle.trie_paths.specs.Spans.{snoc}
use Rattle.trie_paths.proofs.Paths.{length-snoc, path-is}
use Rattle.setfile_format.specs.Files.{read_file, file}
use Rattle.setfile_format.proofs.RoundTrip.{read_file-is}
use Rattle.setfile_order.specs.Flow.{head_as, Flow}
use Rattle.setfile_order.specs.declared.Head.{Head}
use Rattle.setfile_below.specs.declared.Below.{Below}
use Rattle.setfile_below.specs.Stream.{below, last_of, outside, Under, Comes, At}
use Rattle.setfile_below.proofs.Halves.{below_none, below-node, last_of-node, last_of_none, first_below, leads-last_of, Turned, turned, first_leaf, get_or-behind, shared-both, shared-out, leads-snoc, outside-snoc, outside-first}

-- The net of the head.
head-net : {h : Head} (f : ℕ) (q m : Bits) (l ms : List Bits) → h ≡ head_as f q (l ++ ms) → (ns : List Bits) → l ≡ m ∷ ns → h.net ≡ net_from f m
unfolding head_as
head-net {h} f q m l ms e ns i = let z : h ≡ head_as f q (m ∷ (ns ++ ms)) = rw i at e in ap (λ (x : Head). x.net) z

-- The next network is the path itself.
module _ {s : Below} {q p : Bits} {ms : List Bits} where
  pub whole-leaf : Under s q p leaf ms → s.head.net.len ≡ s.depth
  whole-leaf u =
      let n = head-net s.family q (p ++ []) (below p leaf) ms u.head [] (first_leaf p) in
      (path-is s.head.net s.family (p ++ []) n).0 ∙ rw (append-nil p) (sym u.depth)

module _ {s : Below} {q p : Bits} {l r : Trie} {ms : List Bits} (u : Under s q p (node l r) ms) (e : bare l r ≡ false) where
  abbrev way : Turned p l r
  way = turned p l r e

  abbrev next : Bits
  next = p ++ (is_none l ∷ way.k)

  next-net : s.head.net ≡ net_from s.family next
  next-net = head-net s.family q next (below p (node l r)) ms u.head way.ks way.is

  next-length : length next ≡ length p + suc (length way.k)
  next-length = length-append p (is_none l ∷ way.k)

  next-len : s.head.net.len ≡ length p + suc (length way.k)
  next-len = (path-is s.head.net s.family next next-net).0 ∙ next-length

  pub whole-inner : s.head.net.len ≡ s.depth → ⊥
  whole-inner h = omega (arith, next-len, u.depth)

  -- Which half.
  next-family : s.head.net.family ≡ s.family
  next-family = (path-is s.head.net s.family next next-net).1

  pub turn-short : s.depth < width s.head.net.family
  turn-short = rw next-family (omega (arith, u.depth, u.deep, way.short))

  pub turn-room : s.depth + 1 ≤ 128
  turn-room = omega (arith, turn-short, width-le s.head.net.family)

  next-short : length next ≤ width s.family
  next-short = omega (arith, next-length, u.deep, way.short)

  next-bits : net_bits s.head.net ≡ next
  next-bits = rw next-net (net_bits-net_from s.family next next-short)

  pub turn_is : get_or (bits (width s.head.net.family) (address s.head.net)) s.depth false ≡ is_none l
  unfolding net_bits
  turn_is =
      sym (get_or-take s.head.net.len (bits (width s.head.net.family) (address s.head.net)) s.depth false (omega (arith, next-len, u.depth)))
      ∙ ap (λ x. get_or x s.depth false) next-bits ∙ rw u.depth (get_or-behind p (is_none l) way.k)

  -- The halves.
  deep-half : (b : Bool) → (length (snoc p b) + levels l ≤ suc (width s.family)) × (length (snoc p b) + levels r ≤ suc (width s.family))
  unfolding levels
  deep-half b = let z = u.deep in (omega (arith, length-snoc p b), omega (arith, length-snoc p b))

  pub first_under : (x : Bool) → x ≡ is_none l → Under (record { family = s.family; head = s.head; depth = s.depth + 1; some = not x }) q (snoc p false) l (below (snoc p true) r ++ ms)
  first_under x h = record {
    head = u.head ∙ ap (head_as s.family q) (below-node p l r ms e);
    depth = omega (arith, u.depth, length-snoc p false);
    some = ap not h;
    deep = (deep-half false).0;
    outside = outside-first p r ms u.outside;
  }

  -- the head behind what is below the first half
  abbrev Onto : Head → Type 0
  Onto h = h ≡ head_as s.family (last_of q (below (snoc p false) l)) (below (snoc p true) r ++ ms)

  pub more-turned : is_none l ≡ true → is_none r ≡ false
  more-turned h = go l r h e
    where
      go : (l r : Trie) → is_none l ≡ true → bare l r ≡ false → is_none r ≡ false
      go none none h e = absurd (false≢true (sym e))
      go none (node a b) h e = refl
      go (node a b) r h e = absurd (false≢true h)

  passed : is_none l ≡ false → leads p (last_of q (below (snoc p false) l)) ≡ true
  passed h = leads-snoc p false (last_of q (below (snoc p false) l)) (leads-last_of q (snoc p false) l h)

  deep_of : (h : Head) (q m : Bits) (ns : List Bits) → h ≡ head_as s.family q (m ∷ ns) → h.deep ≡ suc (shared q m)
  unfolding head_as
  deep_of h q m ns i = ap (λ (x : Head). x.deep) i

  deep-end : (h : Head) (q : Bits) → h ≡ head_as s.family q [] → h.deep ≡ 0
  unfolding head_as
  deep-end h q i = ap (λ (x : Head). x.deep) i

  pub more-some : is_none l ≡ false → (h : Head) → Onto h → is_none r ≡ false → s.depth < h.deep
  more-some i h o k =
      let f = first_below (snoc p true) r k in
      let z : h ≡ head_as s.family (last_of q (below (snoc p false) l)) ((snoc p true ++ f.k) ∷ (map (λ q. snoc p true ++ q) f.ks ++ ms)) = rw f.is at o in
      let g = shared-both p (last_of q (below (snoc p false) l)) (snoc p true ++ f.k) (passed i) (leads-snoc p true (snoc p true ++ f.k) (leads-append (snoc p true) f.k)) in
      omega (arith, u.depth, deep_of h (last_of q (below (snoc p false) l)) (snoc p true ++ f.k) (map (λ q. snoc p true ++ q) f.ks ++ ms) z)

  pub more-none : is_none l ≡ false → (h : Head) → Onto h → is_none r ≡ true → h.deep ≤ s.depth
  more-none i h o k = go ms u.outside (nothing r k o)
    where
      nothing : (r : Trie) → is_none r ≡ true → h ≡ head_as s.family (last_of q (below (snoc p false) l)) (below (snoc p true) r ++ ms) → h ≡ head_as s.family (last_of q (below (snoc p false) l)) ms
      nothing none k o = rw (below_none (snoc p true)) at o
      nothing (node a b) k o = absurd (false≢true k)

      go : (ms : List Bits) → outside p ms ≡ true → h ≡ head_as s.family (last_of q (below (snoc p false) l)) ms → h.deep ≤ s.depth
      go [] g o = omega (arith, deep-end h (last_of q (below (snoc p false) l)) o)
      go (m ∷ ms) g o = omega (arith, u.depth, deep_of h (last_of q (below (snoc p false) l)) m ms o, shared-out p (last_of q (below (snoc p false) l)) m (passed i) (not-true (leads p m) g))

  pub second-under : (h : Head) (x : Bool) → is_none r ≡ not x → Onto h
      → Under (record { family = s.family; head = h; depth = s.depth + 1; some = x }) (last_of q (below (snoc p false) l)) (snoc p true) r ms
  second-under h x i o = record {
    head = o;
    depth = omega (arith, u.depth, length-snoc p true);
    some = sym (not-not x) ∙ ap not (sym i);
    deep = (deep-half true).1;
    outside = outside-snoc p true ms u.outside;
  }

pub whole_is : {s : Below} {q p : Bits} (t : Trie) {ms : List Bits} → Under s q p t ms → is_none t ≡ false → eqb s.head.net.len s.depth ≡ is_leaf t
whole_is none u h = absurd (false≢true (sym h))
whole_is {s} {q} {p} (node l r) {ms} u h = go (bare l r) refl
  where
    go : (x : Bool) → bare l r ≡ x → eqb s.head.net.len s.depth ≡ x
    go true e = eq-eqb s.head.net.len s.depth (whole-leaf {s = s} {q = q} {p = p} {ms = ms} (rw (leaf-is (node l r) e) at u))
    go false e = ne_eqb s.head.net.len s.depth (whole-inner u e)

-- Whether the second half has something, where the first has.
pub more-is : {s : Below} {q p : Bits} {l r : Trie} {ms : List Bits} (u : Under s q p (node l r) ms) (e : bare l r ≡ false) → is_none l ≡ false → (h : Head)
    → h ≡ head_as s.family (last_of q (below (snoc p false) l)) (below (snoc p true) r ++ ms) → is_none r ≡ not (ltb s.depth h.deep)
more-is {s} {r = r} u e i h o = go (is_none r) refl
  where
    go : (x : Bool) → is_none r ≡ x → x ≡ not (ltb s.depth h.deep)
    go true k = rw (le-ltb s.depth h.deep (more-none u e i h o k))
    go false k = rw (lt-ltb s.depth h.deep (more-some u e i h o k))

-- At the start of a file.
map-nothing : (l : List Bits) → map (λ q. [] ++ q) l ≡ l
map-nothing [] = refl
map-nothing (q ∷ l) = ap (λ z. q ∷ z) (map-nothing l)

below_all : (t : Trie) → below [] t ++ [] ≡ flat t
unfolding below
below_all t = append-nil (map (λ q. [] ++ q) (flat t)) ∙ map-nothing (flat t)

all-some : (f : ℕ) (t : Trie) → not (eqb (head_as f [] (flat t)).deep 0) ≡ not (is_none t)
unfolding head_as flat
all-some f none = refl
all-some f (node l r) = let k = first_below [] (node l r) refl in rw k.here (ap not (ne_eqb (suc (shared [] k.k)) 0 (λ e. omega arith)))

pub begins : (d : List ℕ) (f : ℕ) (l : List Bits) → read_file d ≡ file f l → {c : List ℕ} (h : Head) → Flow d f c (flat (trie_of l)) × (h ≡ head_as f [] (flat (trie_of l)))
    → At d c (record { family = f; head = h; depth = 0; some = not (eqb h.deep 0) }) [] [] (trie_of l) []
begins d f l e h k = record {
  under = record {
    head = rw (below_all (trie_of l)) k.1;
    depth = refl;
    some = rw k.1 (all-some f (trie_of l));
    deep = omega (arith, levels-trie_of (width f) l (is_list-within (width f) l (read_file-is d f l e).list));
    outside = refl;
  };
  flow = rw (below_all (trie_of l)) k.0;
}

-- Below a path that has something longer than itself below it: first what is below its first half, then what is below its second.
pub record Parted (d c : List ℕ) (s : Below) (q p : Bits) (t : Trie) (ms : List Bits) : Type 0 where
  pub l : Trie
  pub r : Trie
  pub is : t ≡ node l r
  pub inner : bare l r ≡ false
  pub at : At d c s q p (node l r) ms

module _ {d c : List ℕ} {s : Below} {q p : Bits} {t : Trie} {ms : List Bits} (a : At d c s q p t ms) where
  pub at_some : s.some ≡ true → is_none t ≡ false
  at_some h = not-true (is_none t) (sym a.under.some ∙ h)

  pub at-nothing : s.some ≡ false → t ≡ none
  at-nothing h = go t (sym a.under.some ∙ h)
    where
      go : (t : Trie) → not (is_none t) ≡ false → t ≡ none
      go none e = refl
      go (node l r) e = absurd (false≢true (sym e))

  pub pass-nothing : s.some ≡ false → Comes d s.family c s.head (last_of q (below p t)) ms
  pass-nothing h =
      let z = at-nothing h in
      record {
        flow = rw (z, below_none p) at a.flow;
        head = rw (z, last_of_none q p) (rw (z, below_none p) at a.under.head);
      }

  -- the path itself
  pub whole-flow : is_leaf t ≡ true → is_none t ≡ false → Flow d s.family c ((p ++ []) ∷ ms) × (s.head.net ≡ net_from s.family (p ++ []))
  whole-flow e n =
      let z = leaf-is t e in
      (rw (z, first_leaf p) at a.flow, head-net s.family q (p ++ []) (below p t) ms a.under.head [] (rw z (first_leaf p)))

  pub pass-whole : is_leaf t ≡ true → is_none t ≡ false → {c' : List ℕ} {h : Head} → Flow d s.family c' ms × (h ≡ head_as s.family (p ++ []) ms)
      → Comes d s.family c' h (last_of q (below p t)) ms
  unfolding last_of
  pass-whole e n k = record { flow = k.0; head = rw (leaf-is t e, first_leaf p) k.1 }

  pub parted : s.some ≡ true → is_leaf t ≡ false → Parted d c s q p t ms
  parted h e = go t refl (at_some h) e
    where
      go : (u : Trie) → t ≡ u → is_none u ≡ false → is_leaf u ≡ false → Parted d c s q p t ms
      go none i n e = absurd (false≢true (sym n))
      go (node l r) i n e = record { l = l; r = r; is = i; inner = e; at = rw i at a }

-- the last network of the first half, and what comes behind the first half; what `first` and `second` give
abbrev pub onto : Bits → Bits → Trie → Bits
onto q p l = last_of q (below (snoc p false) l)

abbrev pub later : Bits → Trie → List Bits → List Bits
later p r ms = below (snoc p true) r ++ ms

abbrev pub Halved : Below → Below → Type 0
Halved s x = (x.family ≡ s.family) × ((q p : Bits) (l r : Trie) (ms : List Bits) → Under s q p (node l r) ms → bare l r ≡ false → Under x q (snoc p false) l (later p r ms))

abbrev pub Seconded : Below → Head → Below → Type 0
Seconded s h y = (y.family ≡ s.family) × ((q p : Bits) (l r : Trie) (ms : List Bits) → Under s q p (node l r) ms → bare l r ≡ false
    → h ≡ head_as s.family (onto q p l) (later p r ms) → Under y (onto q p l) (snoc p true) r ms)

module _ {d c : List ℕ} {s : Below} {q p : Bits} {t : Trie} {ms : List Bits} (g : Parted d c s q p t ms) where
  pub part-under : (q : Bits) × (p : Bits) × (l : Trie) × (r : Trie) × (ms : List Bits) × Under s q p (node l r) ms × (bare l r ≡ false)
  part-under = (q, p, g.l, g.r, ms, g.at.under, g.inner)

  pub at_first : (x : Below) → Halved s x → At d c x q (snoc p false) g.l (later p g.r ms)
  at_first x k = record { under = k.1 q p g.l g.r ms g.at.under g.inner; flow = rw (k.0, ← below-node p g.l g.r ms g.inner) g.at.flow }

  pub first-falls : (x : Below) → Halved s x → 129 - x.depth < 129 - s.depth
  first-falls x k = omega (arith, (at_first x k).under.depth, length-snoc p false, g.at.under.depth, turn-room g.at.under g.inner)

  -- behind what is below the first half
  module _ (f : ℕ) (same : f ≡ s.family) {c' : List ℕ} {h : Head} (k : Comes d f c' h (onto q p g.l) (later p g.r ms)) where
    pub at_second : (y : Below) → Seconded s h y → At d c' y (onto q p g.l) (snoc p true) g.r ms
    at_second y j = record { under = j.1 q p g.l g.r ms g.at.under g.inner (rw same at k.head); flow = rw (j.0, ← same) k.flow }

    pub second-falls : (y : Below) → Seconded s h y → 129 - y.depth < 129 - s.depth
    second-falls y j = omega (arith, (at_second y j).under.depth, length-snoc p true, g.at.under.depth, turn-room g.at.under g.inner)

  pub pass-both : (f : ℕ) → f ≡ s.family → {c' : List ℕ} {h : Head} → Comes d f c' h (last_of (onto q p g.l) (below (snoc p true) g.r)) ms → Comes d s.family c' h (last_of q (below p t)) ms
  pass-both f e k = rw (← e, g.is, last_of-node q p g.l g.r g.inner) k
