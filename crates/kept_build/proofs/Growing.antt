-- Writing the trie of networks from its first network up: the state of the loop, its start, a turn and its end. Assumes nothing.
use mathlib.Core.Bool.{Bool, true, false, false≢true}
use mathlib.Core.List.{List, [], ◌∷◌, ◌++◌, append-nil, append_assoc}
use mathlib.Core.Logic.{⊎_elim}
use mathlib.Core.Path.{◌≡◌, refl, sym, ap, ◌∙◌}
use Prim.Native.Nat.{ℕ, suc, ◌+◌, ◌-◌, ◌≤◌, ◌<◌}
use native.Mathlib.Omega.{arith}
use borrow.Author.Tests.{not-true}
use lib.ListN.{length, length-append}
use Rattle.nets.specs.Bits.{Bits, leads}
use Rattle.nets.specs.Tries.{Trie, none, node, leaf, is_none, bare, levels}
use Rattle.nets.specs.Networks.{is_family, width, net_from}
use Rattle.nets.proofs.Strings.{leads-append}
use Rattle.nets.proofs.Numbers.{width-le}
use Rattle.nodes.specs.Words.{put}
use Rattle.nodes.proofs.Put.{length-put, put-before-at}
use Rattle.address_order.specs.Streams.{shared}
use Rattle.trie_paths.specs.Spans.{snoc}
use Rattle.trie_paths.proofs.Paths.{length-snoc}
use Rattle.branch_points.specs.KeptTries.{kept_size}
use Rattle.branch_points.proofs.Sizes.{kept_size-leaf, kept_size-some, kept_size-none, kept_size-both}
use Rattle.kept_nodes.specs.Words.{node_words, distance, kept_enc, spot}
use Rattle.kept_nodes.proofs.Places.{spot_on, spot-next, spot-le, spot-before, length-node_words, length-kept_enc, kept_enc-leaf}
use Rattle.kept_writing.specs.Writes.{Writable, Writes}
use Rattle.setfile_order.specs.Flow.{head_as, Flow}
use Rattle.setfile_order.specs.declared.Head.{Head}
use Rattle.setfile_below.specs.Stream.{below, last_of, outside, Comes}
use Rattle.setfile_below.proofs.Halves.{first_below, first_leaf, last_of-node, leads-last_of, leads-snoc, shared-both, shared-out, outside-snoc, outside-first}
use Rattle.kept_build.specs.Building.{Begins, Before, Grows, Grown}
use Rattle.kept_build.proofs.Climbing.{Up, top, not_none, up-size, up-deep, up-long, up-outside, Lowest, lowest, Whole, Branch, climb}

-- The head behind what is below p: it leaves p. The head of the second half below s, behind its first: it leaves the last network there at s.
pub head-whole : (f : ℕ) (p q : Bits) (ms : List Bits) {h : Head} → leads p q ≡ true → outside p ms ≡ true → h ≡ head_as f q ms → h.deep ≤ length p
unfolding head_as
head-whole f p q [] l o e = rw e (omega arith)
head-whole f p q (m ∷ ms) l o e = rw e (omega (arith, shared-out p q m l (not-true (leads p m) o)))

pub record Leaves (f : ℕ) (h : Head) (s : Bits) : Type 0 where
  pub deep : h.deep ≡ suc (length s)
  pub begins : Begins f h.net s

head-branch : (f : ℕ) (s q : Bits) (r : Trie) (ns : List Bits) {h : Head} → is_family f ≡ true → length (snoc s true) + levels r ≤ suc (width f)
    → leads (snoc s false) q ≡ true → is_none r ≡ false → outside s ns ≡ true → h ≡ head_as f q (below (snoc s true) r ++ ns) → Leaves f h s
unfolding head_as
head-branch f s q r ns {h} fam deep l e o eh =
    let k = first_below (snoc s true) r e in
    let m : Bits = snoc s true ++ k.k in
    let a : h ≡ record { deep = suc (shared q m); net = net_from f m } = rw k.is at eh in
    let i : m ≡ s ++ (true ∷ k.k) = append_assoc s (true ∷ []) k.k in
    let x = shared-both s q m (leads-snoc s false q l) (rw i (leads-append s (true ∷ k.k))) in
    let y = shared-out (snoc s false) q m l (not-true (leads (snoc s false) m) (rw k.is at (outside-first s r ns o))) in
    record {
      deep = ap (λ (z : Head). z.deep) a ∙ omega (arith, length-snoc s false);
      begins = record {
        family = fam;
        behind = true ∷ k.k;
        net = ap (λ (z : Head). z.net) a ∙ ap (net_from f) i;
        short = rw (← i) (omega (arith, k.short, length-append (snoc s true) k.k));
      };
    }

-- The words of a branch point, and of what is over two tries that are written one before the other.
kept_enc-both : (f : ℕ) (s : Bits) (l r : Trie) → is_none l ≡ false → is_none r ≡ false
    → kept_enc f s (node l r) ≡ node_words f s (1 + kept_size r) ++ (kept_enc f (snoc s true) r ++ kept_enc f (snoc s false) l)
unfolding kept_enc distance kept_size
kept_enc-both f s none r a b = absurd (false≢true (sym a))
kept_enc-both f s (node x y) none a b = absurd (false≢true (sym b))
kept_enc-both f s (node x y) (node z u) a b = refl

size-both : (l r : Trie) → is_none l ≡ false → is_none r ≡ false → kept_size (node l r) ≡ 1 + kept_size l + kept_size r
size-both l r a b = kept_size-both l r (λ e. not_none l a (kept_size-none l e)) (λ e. not_none r b (kept_size-none r e))

bare-some : (l r : Trie) → is_none l ≡ false → bare l r ≡ false
bare-some l r e = rw e

none-size : (t : Trie) → is_none t ≡ true → kept_size t ≡ 0
unfolding kept_size
none-size none e = refl
none-size (node l r) e = absurd (false≢true e)

pub put_both : (f : ℕ) (w : List ℕ) (b i o : ℕ) (s : Bits) (l r : Trie) → is_none l ≡ false → is_none r ≡ false → 1 ≤ i → i + (1 + kept_size r) ≡ o
    → put (put (put w (spot f b o) (kept_enc f (snoc s false) l)) (spot f b (o - kept_size r)) (kept_enc f (snoc s true) r)) (spot f b i) (node_words f s (o - i))
    ≡ put w (spot f b i) (kept_enc f s (node l r))
put_both f w b i o s l r a c one e =
    let j : o - kept_size r ≡ i + 1 = omega arith in
    let k : o - i ≡ 1 + kept_size r = omega arith in
    let m : i + 1 + kept_size r ≡ o = omega arith in
    let x = kept_enc f (snoc s true) r in
    let y = kept_enc f (snoc s false) l in
    let n = node_words f s (1 + kept_size r) in
    let at_x : spot f b o ≡ spot f b (i + 1) + length x = rw (length-kept_enc f (snoc s true) r, spot_on f b (i + 1) (kept_size r) (omega arith), m) in
    let at_n : spot f b (i + 1) ≡ spot f b i + length n = rw (length-node_words f s (1 + kept_size r), spot-next f b i one) in
    rw (j, k, put-before-at w (spot f b (i + 1)) (spot f b o) x y at_x, put-before-at w (spot f b i) (spot f b (i + 1)) n (x ++ y) at_n)
    (ap (put w (spot f b i)) (sym (kept_enc-both f s l r a c)))

pub before-put : {f : ℕ} {w : List ℕ} {b e k : ℕ} (p : ℕ) (xs : List ℕ) (o m : ℕ) → Before f w b e k → o ≤ e → m < o → Before f (put w p xs) b o m
before-put {f} {w} {b} {e} p xs o m g le lt = record {
  family = g.family;
  low = g.low;
  few = omega (arith, g.few);
  long = omega (arith, g.long, length-put w p xs, spot-le f b o e le);
  fits = lt;
}

pub before-writable : {f : ℕ} {w : List ℕ} {b e k : ℕ} (i d : ℕ) → Before f w b e k → 1 ≤ i → i < e → d ≤ e → Writable f w b i d
before-writable {f} {w} {b} {e} i d g one lt le = record {
  one = one;
  fits = omega (arith, g.long, spot-before f b i e one lt);
  low = omega (arith, g.low);
  few = omega (arith, g.few);
  near = omega (arith, g.few);
}

-- The part u of the trie t is written before node e over the words w₀, from node o on; the head h and the cursors c are behind its networks.
pub record Going (f : ℕ) (w₀ w : List ℕ) (b e o d : ℕ) (h : Head) (x c : List ℕ) (q p : Bits) (t : Trie) (ms : List Bits) : Type 0 where
  pub depth : d ≡ length p
  pub deep : length p + levels t ≤ suc (width f)
  pub outside : outside p ms ≡ true
  pub room : Before f w₀ b e (kept_size t)
  pub s : Bits
  pub u : Trie
  pub ns : List Bits
  pub some : is_none u ≡ false
  pub up : Up p t ms s u ns
  pub start : o + kept_size u ≡ e
  pub wrote : w ≡ put w₀ (spot f b o) (kept_enc f s u)
  pub comes : Comes x f c h (last_of q (below s u)) ns

-- The first network.
module _ {f : ℕ} {w : List ℕ} {b e : ℕ} {h : Head} {d : ℕ} {x c : List ℕ} {q p : Bits} {t : Trie} {ms : List Bits} (g : Grows f w b e h d x c q p t ms) where
  low : Lowest p t ms p t ms
  low = lowest t g.runs.some top

  pub record First : Type 0 where
    pub m : Bits
    pub ns : List Bits
    pub up : Up p t ms m leaf ns
    pub flow : Flow x f c (m ∷ ns)
    pub net : h.net ≡ net_from f m
    pub short : length m ≤ width f

  pub first : First
  unfolding head_as levels
  first = record {
    m = low.at;
    ns = low.behind;
    up = low.up;
    flow = rw low.is at g.runs.comes.flow;
    net = ap (λ (z : Head). z.net) (rw low.is at g.runs.comes.head);
    short = omega (arith, up-deep low.up, g.runs.deep);
  }

  first-size : 1 ≤ kept_size t
  first-size = omega (arith, up-size low.up, kept_size-leaf)

  pub first_one : 2 ≤ e
  first_one = omega (arith, first-size, g.room.fits)

  pub first-writable : Writable f w b (e - 1) 0
  first-writable = before-writable (e - 1) 0 g.room (omega (arith, first_one)) (omega (arith, first_one)) (omega arith)

  pub first-going : {v c' : List ℕ} {y : Head} (k : First) → Writes f w v b (e - 1) h.net 0 → Flow x f c' k.ns × (y ≡ head_as f k.m k.ns)
      → Going f w v b e (e - 1) d y x c' q p t ms
  unfolding last_of
  first-going k a (j, n) = record {
    depth = g.runs.depth;
    deep = g.runs.deep;
    outside = g.runs.outside;
    room = g.room;
    s = k.m;
    u = leaf;
    ns = k.ns;
    some = refl;
    up = k.up;
    start = omega (arith, kept_size-leaf, first_one);
    wrote = a k.m k.net k.short ∙ ap (put w (spot f b (e - 1))) (sym (kept_enc-leaf f k.m));
    comes = record { flow = j; head = rw (first_leaf k.m, append-nil k.m) n };
  }

module _ {f : ℕ} {w₀ w : List ℕ} {b e o d : ℕ} {h : Head} {x c : List ℕ} {q p : Bits} {t : Trie} {ms : List Bits}
    (g : Going f w₀ w b e o d h x c q p t ms) where
  pub going-long : length w ≡ length w₀
  going-long = rw g.wrote (length-put w₀ (spot f b o) (kept_enc f g.s g.u))

  abbrev last : Bits
  last = last_of q (below g.s g.u)

  -- what the head says: nothing of t is left, or there is a branch point
  whole-deep : Whole f p t ms g.s g.u g.ns → is_none t ≡ false → h.deep ≤ length p
  whole-deep k n = head-whole f p last ms (rw (← k.same.nets) (leads-last_of q p t n)) g.outside (rw k.rest at g.comes.head)

  pub branch_leaves : (k : Branch f p t ms g.s g.u g.ns) → Leaves f h k.at
  unfolding levels
  branch_leaves k =
      let n : leads (snoc k.at false) last ≡ true = rw (← k.same.nets) (leads-last_of q (snoc k.at false) k.l k.some-l) in
      head-branch f k.at last k.r k.behind g.room.family (omega (arith, up-deep k.up, g.deep, length-snoc k.at true)) n k.some-r
      (up-outside k.up g.outside) (rw k.rest at g.comes.head)

  some-whole : is_none t ≡ false
  some-whole = go (is_none t) refl
    where
      go : (y : Bool) → is_none t ≡ y → y ≡ false
      go false i = refl
      go true i = absurd (omega (arith, up-size g.up, kept_size-some g.u (not_none g.u g.some), none-size t i))

  pub going-turn : d < h.deep → Branch f p t ms g.s g.u g.ns
  going-turn lt = ⊎_elim (λ k. absurd (omega (arith, whole-deep k some-whole, g.depth))) (λ k. k) (climb f g.some g.up)

  pub going_end : h.deep ≤ d → Grown f w₀ w b e p t o × Comes x f c h (last_of q (below p t)) ms
  going_end ge = ⊎_elim done (λ k. absurd (omega (arith, (branch_leaves k).deep, up-long k.up, g.depth))) (climb f g.some g.up)
    where
      done : Whole f p t ms g.s g.u g.ns → Grown f w₀ w b e p t o × Comes x f c h (last_of q (below p t)) ms
      done k =
          let i : o ≡ e - kept_size t = omega (arith, g.start, k.same.size) in
          let j = rw (k.rest, ← k.same.nets) at g.comes in
          (record { start = i; wrote = rw (← i, k.same.words) g.wrote }, j)

  -- a turn: the second half of the branch point is written before what is there, and then the branch point
  module _ (k : Branch f p t ms g.s g.u g.ns) where
    sizes : (o + kept_size k.l ≡ e) × (2 + kept_size k.r ≤ o)
    sizes = omega (arith, g.start, k.same.size, size-both k.l k.r k.some-l k.some-r, up-size k.up, g.room.fits)

    pub turn-grows : Grows f w b o h h.deep x c last (snoc k.at true) k.r k.behind
    unfolding levels
    turn-grows = record {
      runs = record {
        some = k.some-r;
        depth = omega (arith, (branch_leaves k).deep, length-snoc k.at true);
        deep = omega (arith, up-deep k.up, g.deep, length-snoc k.at true);
        outside = outside-snoc k.at true k.behind (up-outside k.up g.outside);
        comes = rw k.rest at g.comes;
      };
      room = rw g.wrote (before-put (spot f b o) (kept_enc f g.s g.u) o (kept_size k.r) g.room (omega (arith, sizes)) (omega (arith, sizes)));
    }

    pub turn-falls : 129 - h.deep < 129 - d
    unfolding levels
    turn-falls = omega (arith, g.depth, (branch_leaves k).deep, up-long k.up, up-deep k.up, g.deep, width-le f)

    module _ {v : List ℕ} {z : ℕ} (a : Grown f w v b o (snoc k.at true) k.r z) where
      pub turn-start : (2 ≤ z) × (z ≤ o)
      turn-start = omega (arith, a.start, sizes)

      pub turn-branch : (s : Bits) × Begins f h.net s × (h.deep ≡ suc (length s)) × (z - 1 ≤ o) × Writable f v b (z - 1) (o - (z - 1))
      turn-branch =
          let n = turn-start in
          let y = branch_leaves k in
          (k.at, y.begins, y.deep, omega arith, before-writable (z - 1) (o - (z - 1)) room (omega arith) (omega arith) (omega arith))
        where
          room : Before f v b o (kept_size k.r)
          room =
              let y = turn-grows.room in
              rw a.wrote (before-put (spot f b (o - kept_size k.r)) (kept_enc f (snoc k.at true) k.r) o (kept_size k.r) y (omega arith) y.fits)

      pub turn-again : {v' c' : List ℕ} {h' : Head} → v' ≡ put v (spot f b (z - 1)) (node_words f k.at (o - (z - 1)))
          → Comes x f c' h' (last_of last (below (snoc k.at true) k.r)) k.behind → Going f w₀ v' b e (z - 1) d h' x c' q p t ms
      turn-again {v'} i j = record {
        depth = g.depth;
        deep = g.deep;
        outside = g.outside;
        room = g.room;
        s = k.at;
        u = node k.l k.r;
        ns = k.behind;
        some = refl;
        up = k.up;
        start = omega (arith, size-both k.l k.r k.some-l k.some-r, sizes, a.start);
        wrote = wrote;
        comes = rw (last_of-node q k.at k.l k.r (bare-some k.l k.r k.some-l), k.same.nets) j;
      }
        where
          wrote : v' ≡ put w₀ (spot f b (z - 1)) (kept_enc f k.at (node k.l k.r))
          wrote = rw (a.wrote, g.wrote, ← k.same.words) at i
              ∙ put_both f w₀ b (z - 1) o k.at k.l k.r k.some-l k.some-r (omega (arith, turn-start)) (omega (arith, a.start, sizes))
