-- A branch point of which something is left: what is asked of its halves, its second and then its first, and that what is written of them makes the whole.
-- Assumes nothing.
use mathlib.Core.Bool.{Bool, true, false, cond, ◌||◌, false≢true}
use mathlib.Core.List.{List, ◌++◌}
use mathlib.Core.Path.{◌≡◌, refl, sym, ap, ◌∙◌}
use Prim.Native.Nat.{ℕ, suc, ◌+◌, ◌-◌, ◌*◌, ◌/◌, ◌≤◌, ◌<◌}
use native.Mathlib.Omega.{arith}
use borrow.Author.Tests.{eq-eqb, ne_eqb}
use lib.Dec.{leb}
use lib.ListN.{length}
use Rattle.nets.specs.Bits.{Bits}
use Rattle.nets.specs.Networks.{width, net_from}
use Rattle.nets.specs.declared.Net.{Net}
use Rattle.nets.specs.Tries.{Trie, none, node, bare, is_none}
use Rattle.nodes.specs.Words.{put, Has}
use Rattle.nodes.proofs.Put.{put-behind-at, put-swap}
use Rattle.nodes.proofs.Has.{has-put, has-front, has-back, has-at, has_same}
use Rattle.trie_paths.specs.Spans.{snoc}
use Rattle.trie_paths.proofs.Paths.{length-snoc}
use Rattle.branch_points.specs.KeptTries.{kept, kept_size}
use Rattle.kept_nodes.specs.Words.{stride, node_words, distance, own_words, kept_enc, spot}
use Rattle.kept_nodes.specs.Parse.{KeptRoom, head_at}
use Rattle.kept_nodes.proofs.Places.{spot_on, spot-next, spot-le, spot-within, room-put, length-node_words, length-own, length-kept_enc}
use Rattle.kept_nodes.proofs.NodeWords.{net-is}
use Rattle.kept_reading.specs.NodeStrings.{ReadAs}
use Rattle.kept_sieve.specs.Marks.{mark_bit, top_size, mark_enc, Sieves, Sieved, link_words, Links}
use Rattle.kept_sieve.proofs.Marked.{length-mark, among-size}
use Rattle.kept_sieve.proofs.Sieving.{Inner, place, inner-says, inner-head, head-mark}

-- What is written of two halves and the node over them makes the whole: the words N, R, L give way to A, B, C before them.
whole : (w N R L A B C : List ℕ) (i j m o k z : ℕ) → Has w i N → j ≡ i + length N → m ≡ j + length R → k ≡ o + length A → z ≡ k + length B → z ≤ m
    → put (put (put (put (put w j R) k B) o A) m L) z C ≡ put (put w i (N ++ (R ++ L))) o (A ++ (B ++ C))
whole w N R L A B C i j m o k z h ej em ek ez le =
    let y = put w j R in
    let a : put w i (N ++ (R ++ L)) ≡ put y m L = sym (put-behind-at w i j N (R ++ L) ej) ∙ rw (has_same h) (sym (put-behind-at w j m R L em)) in
    let c : put (put (put y k B) o A) m L ≡ put (put (put y m L) o A) k B =
    put-swap (put y k B) o m A L (omega arith) ∙ rw (put-swap y k m B L (omega arith)) (sym (put-swap (put y m L) o k A B (omega arith))) in
    rw (c, a) (put-behind-at (put (put y m L) o A) k z B C ez ∙ put-behind-at (put y m L) o k A (B ++ C) ek)

-- A branch point: what is left of its second half, then of its first, from node k on.
top_size-is : (x y : ℕ) (a c : Trie) → bare a c ≡ false → leb mark_bit x ≡ is_none c → leb mark_bit y ≡ is_none a → top_size x y ≡ cond (kept a c) 1 0
unfolding top_size
top_size-is x y a c h ec ea = rw (ec, ea) (go a c h)
  where
    top : Bool → Bool → ℕ
    top y z = cond (y || z) 0 1

    go : (a c : Trie) → bare a c ≡ false → top (is_none c) (is_none a) ≡ cond (kept a c) 1 0
    go none none h = absurd (false≢true (sym h))
    go none (node x y) h = refl
    go (node x y) none h = refl
    go (node x y) (node u v) h = refl

link-is : (f : ℕ) (q : Bits) (o k : ℕ) (a c : Trie) → bare a c ≡ false → k ≡ o + cond (kept a c) 1 0 + kept_size c
    → link_words f q o (o + cond (kept a c) 1 0) k ≡ own_words (kept a c) f q (distance a c)
unfolding distance
link-is f q o k none none h e = absurd (false≢true (sym h))
link-is f q o k none (node x y) h e = rw (eq-eqb (o + 0) o (omega arith))
link-is f q o k (node x y) none h e = rw (eq-eqb (o + 0) o (omega arith))
link-is f q o k (node x y) (node u v) h e = let z : k - o ≡ 1 + kept_size (node u v) = omega arith in rw (ne_eqb (o + 1) o (λ y. omega arith), z)

own-le : (a c : Trie) → cond (kept a c) 1 0 ≤ 1
own-le a c = go (kept a c)
  where
    go : (y : Bool) → cond y 1 0 ≤ 1
    go true = omega arith
    go false = omega arith

module _ {f : ℕ} {w : List ℕ} {b n i e o : ℕ} {p : Bits} {t s : Trie} (g : Sieves f w b n i e o p t s) (h : Inner f w b i p t s) (m : ℕ)
    (em : m ≡ i + head_at f w b i / 256) where
  pub middle : (m ≡ i + 1 + kept_size h.r) × (m < e) × (e ≤ suc n) × (n ≤ 4194304) × (1 ≤ i)
  middle =
      let k = inner-head g h in
      let y : head_at f w b i / 256 ≡ 1 + kept_size h.r = omega arith in
      (omega arith, omega (arith, g.end), g.last, g.room.few, (place g).0)

  abbrev own_size : ℕ
  own_size = cond (kept h.a h.c) 1 0

  has-halves : Has w (spot f b (i + 1)) (mark_enc f (snoc h.q true) h.r h.c ++ mark_enc f (snoc h.q false) h.l h.a)
  has-halves = has-at (rw (length-node_words f h.q (1 + kept_size h.r)) (spot-next f b i (place g).0))
      (has-back (node_words f h.q (1 + kept_size h.r)) _ h.has)

  spot-middle : spot f b (i + 1) + stride f * kept_size h.r ≡ spot f b m
  spot-middle = rw middle.0 (spot_on f b (i + 1) (kept_size h.r) (omega arith))

  length-second : length (mark_enc f (snoc h.q true) h.r h.c) ≡ stride f * kept_size h.r
  length-second = length-mark f (snoc h.q true) h.r h.c ∙ length-kept_enc f (snoc h.q true) h.r

  has_first : Has w (spot f b m) (mark_enc f (snoc h.q false) h.l h.a)
  has_first = has-at (rw length-second spot-middle) (has-back (mark_enc f (snoc h.q true) h.r h.c) _ has-halves)

  -- the halves as they are
  sub-second : (k : ℕ) → 1 ≤ k → k ≤ i + 1 → Sieves f w b n (i + 1) m k (snoc h.q true) h.r h.c
  sub-second k one le = record {
    room = g.room;
    has = has-front (mark_enc f (snoc h.q true) h.r h.c) _ has-halves;
    deep = omega (arith, h.deep-second, length-snoc h.q true);
    some = h.second;
    among = h.among_second;
    one = one;
    behind = le;
    end = middle.0;
    last = omega (arith, middle);
  }

  sub-first : {v : List ℕ} → KeptRoom f v b n → Has v (spot f b m) (mark_enc f (snoc h.q false) h.l h.a) → (k : ℕ) → 1 ≤ k → k ≤ m
      → Sieves f v b n m e k (snoc h.q false) h.l h.a
  sub-first room has k one le = record {
    room = room;
    has = has;
    deep = omega (arith, h.deep-first, length-snoc h.q false);
    some = h.first;
    among = h.among_first;
    one = one;
    behind = le;
    end = omega (arith, middle, g.end, h.size);
    last = g.last;
  }

  -- whether the branch point is left
  pub from_is : {x : ℕ} → x ≡ top_size (head_at f w b (i + 1)) (head_at f w b m) → o + x ≡ o + own_size
  from_is e = ap (λ y. o + y) (e ∙ top_size-is (head_at f w b (i + 1)) (head_at f w b m) h.a h.c h.apart
      (head-mark (sub-second 1 (omega arith) (omega arith)))
      (head-mark (sub-first g.room has_first 1 (omega arith) (omega (arith, middle)))))

  module _ {from : ℕ} (ef : from ≡ o + own_size) where
    pub from_le : (1 ≤ from) × (from ≤ i + 1)
    from_le = let k = own-le h.a h.c in (omega (arith, g.one), omega (arith, g.behind))

    pub go-second : Sieves f w b n (i + 1) m from (snoc h.q true) h.r h.c
    go-second = sub-second from from_le.0 from_le.1

    module _ {v : List ℕ} {k : ℕ} (d : Sieved f w v b (i + 1) from k (snoc h.q true) h.r h.c) where
      pub links : (o ≤ from) × (from ≤ k) × (k ≤ m)
      links = (omega arith, omega (arith, d.end), omega (arith, d.end, middle, from_le, among-size h.r h.c h.among_second))

      second-room : KeptRoom f v b n
      second-room = rw d.wrote (room-put (spot f b from) _ (room-put (spot f b (i + 1)) _ g.room))

      pub link-asks : Links f v b o from k
      link-asks ne = (
        omega (arith, links),
        record {
          one = g.one;
          fits = spot-within o second-room g.one (omega (arith, g.behind, place g));
          low = omega (arith, g.room.low);
          few = omega (arith, g.behind, place g, g.room.few);
          near = omega (arith, links, middle);
        },
      )

      pub string-is : (x : Net) → ReadAs f w b i x → (x ≡ net_from f h.q) × (length h.q ≤ width f)
      string-is x y = (y.is ∙ net-is (inner-says g h), (inner-says g h).short)

      module _ {u : List ℕ} (y : u ≡ put v (spot f b o) (link_words f h.q o from k)) where
        abbrev top : List ℕ
        top = own_words (kept h.a h.c) f h.q (distance h.a h.c)

        linked : u ≡ put v (spot f b o) top
        linked = let z : k ≡ o + own_size + kept_size h.c = omega (arith, d.end) in y ∙ rw (ef, link-is f h.q o k h.a h.c h.apart z)

        -- where the written words end
        spot-top : spot f b from ≡ spot f b o + length top
        spot-top = rw (ef, length-own (kept h.a h.c) f h.q (distance h.a h.c)) (sym (spot_on f b o own_size g.one))

        spot-second : spot f b k ≡ spot f b from + length (kept_enc f (snoc h.q true) h.c)
        spot-second = rw (d.end, length-kept_enc f (snoc h.q true) h.c) (sym (spot_on f b from (kept_size h.c) from_le.0))

        spot-order : spot f b k ≤ spot f b m
        spot-order = spot-le f b k m links.2

        still : Has u (spot f b m) (mark_enc f (snoc h.q false) h.l h.a)
        still = rw (linked, d.wrote) (has-put (spot f b o) top
            (has-put (spot f b from) (kept_enc f (snoc h.q true) h.c)
            (has-put (spot f b (i + 1)) (kept_enc f (snoc h.q true) h.r) has_first
            (λ j x1 x2 x3 x4. omega (arith, spot-middle, length-kept_enc f (snoc h.q true) h.r)))
            (λ j x1 x2 x3 x4. omega (arith, spot-second, spot-order)))
            (λ j x1 x2 x3 x4. omega (arith, spot-top, spot-second, spot-order)))

        pub go-first : Sieves f u b n m e k (snoc h.q false) h.l h.a
        go-first = sub-first (rw linked (room-put (spot f b o) top second-room)) still k (omega (arith, links, from_le)) links.2

        pub done-inner : {x : List ℕ} {z : ℕ} → Sieved f u x b m k z (snoc h.q false) h.l h.a → Sieved f w x b i o z p t s
        done-inner c = record {
          wrote = c.wrote ∙ rw (linked, d.wrote, h.words, h.left-words)
              (whole w (node_words f h.q (1 + kept_size h.r)) (kept_enc f (snoc h.q true) h.r) (kept_enc f (snoc h.q false) h.l) top
              (kept_enc f (snoc h.q true) h.c) (kept_enc f (snoc h.q false) h.a) (spot f b i) (spot f b (i + 1)) (spot f b m) (spot f b o)
              (spot f b from) (spot f b k)
              (inner-says g h).has (rw (length-node_words f h.q (1 + kept_size h.r)) (sym (spot-next f b i (place g).0)))
              (rw (length-kept_enc f (snoc h.q true) h.r) (sym spot-middle)) spot-top spot-second spot-order);
          end = omega (arith, c.end, d.end, h.left-size);
        }
