-- Simplifying, step by step: a single node, a part in which nothing joins, and a branch point with its halves as the next sources. Assumes nothing.
use mathlib.Core.Bool.{true, false}
use mathlib.Core.List.{List}
use mathlib.Core.Path.{◌≡◌, refl, sym, ap, ◌∙◌}
use Prim.Native.Nat.{ℕ, suc, ◌+◌, ◌-◌, ◌*◌, ◌≤◌, ◌<◌}
use native.Mathlib.Omega.{arith}
use lib.ListN.{length}
use Rattle.nets.specs.Bits.{Bits}
use Rattle.nets.specs.Networks.{width, net_from}
use Rattle.nets.specs.declared.Net.{Net}
use Rattle.nets.specs.Tries.{Trie, none, glue, simplify_t}
use Rattle.nodes.specs.Words.{put, Has}
use Rattle.nodes.proofs.Has.{has-put}
use Rattle.nodes.proofs.Put.{put-nil, length-put}
use Rattle.trie_paths.specs.Spans.{snoc}
use Rattle.branch_points.specs.KeptTries.{kept_size}
use Rattle.branch_points.proofs.Sizes.{kept_size-some, kept_size-none}
use Rattle.kept_nodes.specs.Words.{stride, kept_enc, spot}
use Rattle.kept_nodes.specs.Parse.{KeptRoom, KeptStands, dist_at}
use Rattle.kept_nodes.proofs.Places.{spot_on, spot-le, spot-end, spot-within, length-kept_enc, kept_enc-none, room-put}
use Rattle.kept_nodes.proofs.NodeWords.{dist-is, net-is}
use Rattle.kept_reading.specs.NodeStrings.{ReadAs}
use Rattle.kept_writing.specs.Writes.{Movable}
use Rattle.kept_simplify.specs.Joins.{Apart}
use Rattle.kept_simplify.specs.Shrinks.{body, rest_of, Source, Shrinks, Half, Pending}
use Rattle.kept_simplify.proofs.Tops.{simplify-some, kept_size-simplify, own_of, tops-simplify, top-says, Root, root-of}
use Rattle.kept_simplify.proofs.Plain.{apart-within, apart-put, apart-simple}
use Rattle.kept_simplify.proofs.Written.{fits_after, body-one, body_more, length-body, rest_put}

-- The string that is read of the first node.
pub top_read : {f : ℕ} {w : List ℕ} {b n i : ℕ} (p : Bits) (t : Trie) {x : Net} → 1 ≤ i → (t ≡ none → ⊥) → KeptStands f w b n p i t → ReadAs f w b i x
    → (x ≡ net_from f (own_of p t)) × (length (own_of p t) ≤ width f)
top_read p t pos ne s g = let q = (top-says pos p t ne s).1 in (g.is ∙ net-is q, q.short)

some-simplified : (t : Trie) → (t ≡ none → ⊥) → (1 ≤ kept_size (simplify_t t)) × (kept_size (simplify_t t) ≤ kept_size t)
some-simplified t ne = (kept_size-some (simplify_t t) (simplify-some t ne), kept_size-simplify t)

module _ {f : ℕ} {w : List ℕ} {b n i e o : ℕ} {p : Bits} {t : Trie} (s : Source f w b n i e o p t) where
  -- the numbers
  pub source_fits : (1 ≤ i) × (i < e) × (e ≤ suc n) × (n ≤ 4194304) × (1 ≤ o) × (o ≤ i) × (b ≤ 576)
  source_fits =
      let k = kept_size-some t s.some in
      let one = s.one in
      let far = s.behind in
      (omega arith, omega (arith, s.end), omega (arith, s.end, s.here.within), s.room.few, one, far, s.room.low)

  pub shrink-one : e - i ≡ 1 → Shrinks f w w b o 1 p (simplify_t t)
  shrink-one q =
      let k = some-simplified t s.some in
      let g : kept_size (simplify_t t) ≡ 1 = omega (arith, s.end) in
      record { size = sym g; wrote = rw (body-one f p (simplify_t t) g) (sym (put-nil w (spot f b o))) }

  module _ (many : e - i ≡ 1 → ⊥) where
    two : kept_size t ≡ 1 → ⊥
    two q = many (omega (arith, s.end))

    pub block-moves : Movable f w b i o (e - i)
    block-moves =
        let g = source_fits in
        let x = spot_on f b i (e - i) g.0 in
        let y = spot_on f b o (e - i) g.4 in
        let h = spot-end f b n (i + (e - i)) (omega arith) in
        let k = spot-end f b n (o + (e - i)) (omega arith) in
        record {
          one = g.0;
          to_one = g.4;
          fits = omega (arith, s.room.long);
          to-fits = omega (arith, s.room.long);
          low = omega arith;
          few = omega arith;
          to-few = omega arith;
          some = omega arith;
        }

    pub block-shrinks : {next : ℕ} {v : List ℕ} → Apart f w b i e next → e ≤ next
        → ((xs : List ℕ) → Has w (spot f b i) xs → length xs ≡ stride f * (e - i) → v ≡ put w (spot f b o) xs)
        → Shrinks f w v b o (e - i) p (simplify_t t)
    block-shrinks a le h =
        let q : e - i ≡ kept_size t = omega (arith, s.end) in
        let plain : Apart f w b i e e = apart-within a (omega arith) (omega arith) le in
        let g = apart-simple t p i source_fits.0 s.here (rw s.end at plain) in
        rw g (record { size = q; wrote = rw (body_more f p t two) (h (kept_enc f p t) s.here.has (length-kept_enc f p t ∙ ap (λ k. stride f * k) (sym q))) })

    pub fork-fits : i + 1 ≤ n
    fork-fits = let k = kept_size-some t s.some in omega (arith, s.end, s.here.within, many)

    pub root : Root f w b n i p t
    root = root-of source_fits.0 p t s.some two s.here

-- A branch point, as it is read: its string x, the node m where its first half begins, and the string y of the first node of its second half.
pub record Forked (f : ℕ) (w : List ℕ) (b n i e o : ℕ) (p : Bits) (t : Trie) (x : Net) (m : ℕ) (y : Net) : Type 0 where
  pub src : Source f w b n i e o p t
  pub many : e - i ≡ 1 → ⊥
  pub path : ReadAs f w b i x
  pub ahead : m ≡ i + dist_at f w b i
  pub second : ReadAs f w b (i + 1) y

pub forked : {f : ℕ} {w : List ℕ} {b n i e o : ℕ} {p : Bits} {t : Trie} {x : Net} {m : ℕ} {y : Net} → Source f w b n i e o p t → (e - i ≡ 1 → ⊥)
    → ReadAs f w b i x × ((m ≡ i + dist_at f w b i) × ReadAs f w b (i + 1) y) → Forked f w b n i e o p t x m y
forked s many h = record { src = s; many = many; path = h.0; ahead = h.1.0; second = h.1.1 }

module _ {f : ℕ} {w : List ℕ} {b n i e o : ℕ} {p : Bits} {t : Trie} {x : Net} {m : ℕ} {y : Net} (d : Forked f w b n i e o p t x m y) where
  abbrev pub k : Root f w b n i p t
  k = root d.src d.many

  abbrev pub own : Bits
  own = own_of p t

  middle : m ≡ i + 1 + kept_size k.r
  middle = d.ahead ∙ omega (arith, dist-is k.split.root)

  -- the numbers
  pub fork-numbers : (i + 1 < m) × (m < e) × (e ≤ suc n) × (n ≤ 4194304) × (1 ≤ o) × (o ≤ i) × (b ≤ 576)
  fork-numbers =
      let g = source_fits d.src in
      let a = kept_size-some k.l k.first in
      let c = kept_size-some k.r k.second in
      (omega (arith, middle), omega (arith, middle, k.size, d.src.end), g.2, g.3, g.4, g.5, g.6)

  pub second-source : Source f w b n (i + 1) m (o + 1) (snoc own true) k.r
  second-source = record {
    room = d.src.room;
    here = k.split.right;
    some = k.second;
    end = middle;
    one = omega arith;
    behind = omega (arith, d.src.behind);
  }

  pub second-apart : {next : ℕ} → Apart f w b i e next → Apart f w b (i + 1) m next
  second-apart a = let g = fork-numbers in apart-within a (omega arith) (omega arith) (omega arith)

  -- the second half is written: c nodes
  module _ (w₁ : List ℕ) (c : ℕ) (done : Shrinks f w w₁ b (o + 1) c (snoc own true) (simplify_t k.r)) where
    pub ends : o + 1 + c ≤ m
    ends = omega (arith, done.size, kept_size-simplify k.r, middle, d.src.behind)

    before : spot f b (o + 1) + length (body f (snoc own true) (simplify_t k.r)) ≤ spot f b m
    before =
        let j = kept_size (simplify_t k.r) in
        let le : o + 1 + j ≤ m = omega (arith, ends, done.size) in
        omega (arith, length-body f (snoc own true) (simplify_t k.r), spot_on f b (o + 1) j (omega arith), spot-le f b (o + 1 + j) m le)

    left : KeptStands f w b n (snoc own false) m k.l
    left = rw middle k.split.left

    stays : KeptStands f w₁ b n (snoc own false) m k.l
    stays = record {
      deep = left.deep;
      within = left.within;
      has = rw done.wrote (has-put (spot f b (o + 1)) (body f (snoc own true) (simplify_t k.r)) left.has (λ j h₁ h₂ h₃ h₄. omega (arith, before)));
    }

    pub rest-room : KeptRoom f w₁ b n
    rest-room = rw done.wrote (room-put (spot f b (o + 1)) (body f (snoc own true) (simplify_t k.r)) d.src.room)

    pub rest-source : Source f w₁ b n m e (o + 1 + c) (snoc own false) k.l
    rest-source = record {
      room = rest-room;
      here = stays;
      some = k.first;
      end = omega (arith, middle, k.size, d.src.end);
      one = omega arith;
      behind = ends;
    }

    pub rest-apart : {next : ℕ} → Apart f w b i e next → Apart f w₁ b m e next
    rest-apart {next} a =
        let g = fork-numbers in
        let here : Apart f w b m e next = apart-within a (omega arith) (omega arith) (omega arith) in
        rw done.wrote (apart-put (spot f b (o + 1)) (body f (snoc own true) (simplify_t k.r)) before here)

    -- and the first: q nodes, of which the first has the string z
    module _ (w₂ : List ℕ) (q : ℕ) (z : Net) (read : ReadAs f w₁ b m z) (done₂ : Shrinks f w₁ w₂ b (o + 1 + c) q (snoc own false) (simplify_t k.l)) where
      half : (v : List ℕ) (j : ℕ) (p : Bits) (t : Trie) {x : Net} {c : ℕ} → 1 ≤ j → (t ≡ none → ⊥) → KeptStands f v b n p j t → ReadAs f v b j x
          → c ≡ kept_size (simplify_t t) → Half f p (simplify_t t) x c
      half v j p t pos ne s g e =
          let h = top_read p t pos ne s g in
          record { s = own_of p t; top = tops-simplify f p t ne h.1; size = e; string = h.0 }

      pub pending : Pending f w w₂ b o own x y z c q (simplify_t k.l) (simplify_t k.r)
      pending =
          let g = fork-numbers in
          let top = top_read p t (source_fits d.src).0 d.src.some d.src.here d.path in
          let far = o + 1 + kept_size (simplify_t k.r) + kept_size (simplify_t k.l) in
          let last : far ≤ e =
          omega (arith, kept_size-simplify k.r, kept_size-simplify k.l, middle, k.size, d.src.end, d.src.behind) in
          let len : length w₂ ≡ length w = rw (done₂.wrote, done.wrote) (length-put _ _ _ ∙ length-put _ _ _) in
          record {
            path = top.0;
            second = half w (i + 1) (snoc own true) k.r (omega arith) k.second k.split.right d.second done.size;
            first = half w₁ m (snoc own false) k.l (omega arith) k.first stays read done₂.size;
            wrote = rw (done₂.wrote, done.wrote, done.size);
            short = top.1;
            one = d.src.one;
            room = rw len (omega (arith, spot-end f b n far (omega (arith, last, g.2)), d.src.room.long));
            few = omega (arith, last, g.2, g.3);
            low = d.src.room.low;
          }

      pub shrunk : (w₃ : List ℕ) (a : ℕ) → Shrinks f w w₃ b o a own (glue true (simplify_t k.l) (simplify_t k.r)) → Shrinks f w w₃ b o a p (simplify_t t)
      unfolding body
      shrunk w₃ a h = record { size = h.size ∙ sym k.glued; wrote = rw (k.glued, k.words) h.wrote }

-- The whole: nothing, or what was written with the node that is left.
module _ {f : ℕ} {w : List ℕ} {b n i e : ℕ} {p : Bits} {t : Trie} (room : KeptRoom f w b n) (pos : 1 ≤ i) (s : KeptStands f w b n p i t)
    (end : e ≡ i + kept_size t) where
  pub whole-none : i ≡ e → (0 ≡ kept_size (simplify_t t)) × (w ≡ put w (spot f b i) (kept_enc f p (simplify_t t)))
  unfolding simplify_t kept_size
  whole-none q = rw (kept_size-none t (omega arith)) (refl, rw (kept_enc-none f p) (sym (put-nil w (spot f b i))))

  module _ (some : i ≡ e → ⊥) where
    pub whole-some : t ≡ none → ⊥
    unfolding kept_size
    whole-some q = some (omega (arith, ap kept_size q))

    pub whole-source : Source f w b n i e i p t
    whole-source = record { room = room; here = s; some = whole-some; end = end; one = pos; behind = omega arith }

    pub whole-fits : {v : List ℕ} {k : ℕ} → Shrinks f w v b i k p (simplify_t t) → (i < 1073741824) × (b < 1073741824) × (spot f b i + stride f ≤ length v)
    whole-fits h =
        let g = source_fits whole-source in
        (omega arith, omega arith, fits_after w (spot f b i) (body f p (simplify_t t)) h.wrote (spot-within i room pos (omega arith)))

    pub whole-shrunk : {v u : List ℕ} {k : ℕ} {x : Net} → ReadAs f w b i x → Shrinks f w v b i k p (simplify_t t)
        → ((q : Bits) → x ≡ net_from f q → length q ≤ width f → u ≡ put v (spot f b i) (rest_of f q k))
        → (k ≡ kept_size (simplify_t t)) × (u ≡ put w (spot f b i) (kept_enc f p (simplify_t t)))
    whole-shrunk x h e =
        let q = top_read p t pos whole-some s x in
        let g = rest_put (tops-simplify f p t whole-some q.1) w (spot f b i) in
        (h.size, e (own_of p t) q.0 q.1 ∙ rw (h.wrote, h.size) g)
