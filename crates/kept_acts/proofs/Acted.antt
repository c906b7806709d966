-- The words that each plan leaves: what is moved, and what is written before, between and behind it. Assumes nothing.
use mathlib.Core.Bool.{Bool, true, false}
use mathlib.Core.List.{List, [], ◌++◌, append_assoc}
use mathlib.Core.Path.{◌≡◌, refl, sym, ◌∙◌}
use Prim.Native.Nat.{ℕ, suc, ◌+◌, ◌-◌, ◌*◌, ◌≤◌, ◌<◌}
use native.Mathlib.Nat.{mul-add}
use native.Mathlib.Omega.{arith}
use borrow.Author.Tests.{eq-eqb, ne_eqb}
use lib.ListN.{length, take, drop, length-append}
use Rattle.nets.specs.Bits.{Bits}
use Rattle.nets.specs.Tries.{Trie, side}
use Rattle.nodes.specs.Words.{put, Has}
use Rattle.nodes.proofs.Put.{put-before-at, put-behind-at}
use Rattle.nodes.proofs.Has.{has-front, has-back, has-at, has-seg, has-put}
use Rattle.trie_paths.specs.Spans.{snoc}
use Rattle.branch_points.specs.KeptTries.{kept_size}
use Rattle.kept_nodes.specs.Words.{stride, node_words, kept_enc, spot}
use Rattle.kept_nodes.specs.Parse.{KeptRoom}
use Rattle.kept_nodes.proofs.Places.{spot_on, spot-next, spot-le, spot-end, spot-within, length-node_words, length-kept_enc, room-put}
use Rattle.kept_writing.specs.Writes.{Writable, Movable}
use Rattle.kept_steps.specs.Segments.{KeptSegment}
use Rattle.kept_plan.proofs.Changed.{both_words}
use Rattle.kept_acts.specs.Acts.{Acts, Halves, Became, fork_words, drop_words, drop_size, flat_size, relink_end, relinked}

-- Room for nodes that are moved or written.
module _ {f : ℕ} {w : List ℕ} {b n : ℕ} (room : KeptRoom f w b n) where
  spot-fits : (i k : ℕ) → 1 ≤ i → i + k ≤ suc n → spot f b i + stride f * k ≤ length w
  spot-fits i k one le = rw (spot_on f b i k one) (omega (arith, room.long, spot-end f b n (i + k) le))

  pub movable : (i o k : ℕ) → 1 ≤ i → 1 ≤ o → i + k ≤ suc n → o + k ≤ suc n → Movable f w b i o k
  movable i o k one to le up = record {
    one = one;
    to_one = to;
    fits = spot-fits i k one le;
    to-fits = spot-fits o k to up;
    low = omega (arith, room.low);
    few = omega (arith, room.few);
    to-few = omega (arith, room.few);
    some = omega (arith, room.few);
  }

  pub writable : (i d : ℕ) → 1 ≤ i → i ≤ n → d < 16777216 → Writable f w b i d
  writable i d one le near = record { one = one; fits = spot-within i room one le; low = omega (arith, room.low); few = omega (arith, room.few); near = near }

-- What stands where.
module _ {f : ℕ} {w : List ℕ} {b n i e u : ℕ} {p : Bits} {t : Trie} {rest : List ℕ} (g : KeptSegment f w b n i e u p t rest) where
  spot_is : spot f b i + length (kept_enc f p t) ≡ spot f b e
  spot_is = rw (length-kept_enc f p t, g.end) (spot_on f b i (kept_size t) g.one)

  tail-has : Has w (spot f b e) rest
  tail-has = has-at spot_is (has-back (kept_enc f p t) rest g.has)

  pub tail-words : take (stride f * (u - e)) (drop (spot f b e) w) ≡ rest
  tail-words = rw (← g.used) (has-seg tail-has)

  own-length : length (kept_enc f p t) ≡ stride f * (e - i)
  own-length = let q : e - i ≡ kept_size t = omega (arith, g.end) in rw q (length-kept_enc f p t)

-- Alone, or nothing.
module _ {f : ℕ} {w : List ℕ} {b n i e u : ℕ} {p s : Bits} {t : Trie} {rest : List ℕ} where
  pub flat-moves : (x : Bool) → Acts f w b n i e u p s t rest (flat_size x) → Movable f w b e (i + flat_size x) (u - e)
  flat-moves x g = movable g.here.room e (i + flat_size x) (u - e) (omega (arith, g.here.one, g.here.end)) (omega (arith, g.here.one)) (omega (arith, g.here.tail, g.here.last))
      (omega (arith, g.here.tail, g.fits, g.here.end))

  pub none_moves : Acts f w b n i e u p s t rest 0 → Movable f w b e i (u - e)
  none_moves g = let z : i + 0 ≡ i = omega arith in rw z at (flat-moves false g)

  module _ {v₁ : List ℕ} where
    pub flat-writes : Acts f w b n i e u p s t rest 1 → v₁ ≡ put w (spot f b (i + 1)) (take (stride f * (u - e)) (drop (spot f b e) w)) → Writable f v₁ b i 0
    flat-writes g h = rw h (writable (room-put (spot f b (i + 1)) _ g.here.room) i 0 g.here.one (omega (arith, g.here.end, g.here.tail, g.fits)) (omega arith))

    pub flat-became : Acts f w b n i e u p s t rest 1 → v₁ ≡ put w (spot f b (i + 1)) (take (stride f * (u - e)) (drop (spot f b e) w)) → {v₂ : List ℕ} → v₂ ≡ put v₁ (spot f b i) (node_words f s 0)
        → Became f w v₂ b i (i + 1) (node_words f s 0) 1 rest
    flat-became g h k = record {
      wrote = k ∙ rw (h, tail-words g.here) (put-before-at w (spot f b i) (spot f b (i + 1)) (node_words f s 0) rest (rw (length-node_words f s 0) (sym (spot-next f b i g.here.one))));
      end = refl;
    }

    pub none-became : Acts f w b n i e u p s t rest 0 → v₁ ≡ put w (spot f b i) (take (stride f * (u - e)) (drop (spot f b e) w)) → Became f w v₁ b i i [] 0 rest
    none-became g h = record { wrote = h ∙ rw (tail-words g.here); end = omega arith }

-- Words of d nodes.
record Nodes (f : ℕ) (xs : List ℕ) (d : ℕ) : Type 0 where
  are : length xs ≡ stride f * d

one-node : (f : ℕ) (q : Bits) (d : ℕ) → Nodes f (node_words f q d) 1
one-node f q d = record { are = length-node_words f q d ∙ omega arith }

trie-nodes : (f : ℕ) (p : Bits) (t : Trie) → Nodes f (kept_enc f p t) (kept_size t)
trie-nodes f p t = record { are = length-kept_enc f p t }

more-nodes : {f : ℕ} {xs ys : List ℕ} {j k : ℕ} → Nodes f xs j → Nodes f ys k → Nodes f (xs ++ ys) (j + k)
more-nodes {f} {xs} {ys} {j} {k} x y = record { are = length-append xs ys ∙ rw (x.are, y.are) (sym (mul-add (stride f) j k)) }

-- Beside the trie.
module _ {f : ℕ} {w : List ℕ} {b n i e u : ℕ} {p s : Bits} {t : Trie} {rest : List ℕ} (g : Acts f w b n i e u p s t rest (kept_size t + 2)) where
  pub fork-fits : (i ≤ e) × (e ≤ u) × (u + 1 ≤ n) × (1 ≤ i) × (n ≤ 4194304)
  fork-fits = (omega (arith, g.here.end), g.here.tail, omega (arith, g.fits), g.here.one, g.here.room.few)

  behind : {xs : List ℕ} {d : ℕ} (k : ℕ) → Nodes f xs d → k ≡ i + d → spot f b k ≡ spot f b i + length xs
  behind {xs} {d} k x q = rw (q, x.are) (sym (spot_on f b i d g.here.one))

  fork-laid : (c : Bool) → let v = put (put w (spot f b (e + 2)) rest) (spot f b (side c (i + 1) (i + 2))) (kept_enc f p t) in
      put (put v (spot f b i) (node_words f p (side c (e - i + 1) 2))) (spot f b (side c (e + 1) (i + 1))) (node_words f s 0)
      ≡ put w (spot f b i) (fork_words c f p s t ++ rest)
  fork-laid false =
      let d : e - i + 1 ≡ kept_size t + 1 = omega (arith, g.here.end) in
      let a = node_words f p (kept_size t + 1) in
      let x = kept_enc f p t in
      let z = node_words f s 0 in
      let v = put w (spot f b (e + 2)) rest in
      let one = one-node f p (kept_size t + 1) in
      let two = more-nodes one (trie-nodes f p t) in
      rw (
        d,
        put-before-at v (spot f b i) (spot f b (i + 1)) a x (behind (i + 1) one refl),
        put-behind-at v (spot f b i) (spot f b (e + 1)) (a ++ x) z (behind (e + 1) two (omega (arith, g.here.end))),
        put-before-at w (spot f b i) (spot f b (e + 2)) ((a ++ x) ++ z) rest (behind (e + 2) (more-nodes two (one-node f s 0)) (omega (arith, g.here.end))),
        append_assoc a x z,
      ) refl
  fork-laid true =
      let a = node_words f p 2 in
      let x = kept_enc f p t in
      let z = node_words f s 0 in
      let v = put w (spot f b (e + 2)) rest in
      let two = more-nodes (one-node f p 2) (one-node f s 0) in
      rw (
        put-behind-at (put v (spot f b (i + 2)) x) (spot f b i) (spot f b (i + 1)) a z (behind (i + 1) (one-node f p 2) refl),
        put-before-at v (spot f b i) (spot f b (i + 2)) (a ++ z) x (behind (i + 2) two refl),
        put-before-at w (spot f b i) (spot f b (e + 2)) ((a ++ z) ++ x) rest (behind (e + 2) (more-nodes two (trie-nodes f p t)) (omega (arith, g.here.end))),
        append_assoc a z x,
      ) refl

  pub fork-moves : Movable f w b e (e + 2) (u - e)
  fork-moves = let k = fork-fits in movable g.here.room e (e + 2) (u - e) (omega arith) (omega arith) (omega (arith, g.here.last)) (omega arith)

  -- the trie comes to stand at node x, the member at node y, and the first half of the two at z nodes behind the branch point
  module _ (c : Bool) {x y z : ℕ} (sides : (x ≡ side c (i + 1) (i + 2)) × (y ≡ side c (e + 1) (i + 1)) × (z ≡ side c (e - i + 1) 2)) where
    sides-fit : (1 ≤ x) × (x ≤ i + 2) × (1 ≤ y) × (y ≤ n) × (z < 16777216)
    sides-fit = rw (sides.0, sides.1, sides.2) (go c)
      where
        go : (c : Bool)
            → (1 ≤ side c (i + 1) (i + 2)) × (side c (i + 1) (i + 2) ≤ i + 2) × (1 ≤ side c (e + 1) (i + 1)) × (side c (e + 1) (i + 1) ≤ n)
            × (side c (e - i + 1) 2 < 16777216)
        go false = let k = fork-fits in (omega arith, omega arith, omega arith, omega arith, omega arith)
        go true = let k = fork-fits in (omega arith, omega arith, omega arith, omega arith, omega arith)

    module _ {v₁ : List ℕ} (h : v₁ ≡ put w (spot f b (e + 2)) (take (stride f * (u - e)) (drop (spot f b e) w))) where
      room₁ : KeptRoom f v₁ b n
      room₁ = rw h (room-put (spot f b (e + 2)) _ g.here.room)

      pub fork-moves-two : Movable f v₁ b i x (e - i)
      fork-moves-two = let k = fork-fits in let z = sides-fit in movable room₁ i x (e - i) g.here.one z.0 (omega arith) (omega (arith, z.1))

      own-words : take (stride f * (e - i)) (drop (spot f b i) v₁) ≡ kept_enc f p t
      own-words =
          let k = fork-fits in
          let o : Has w (spot f b i) (kept_enc f p t) = has-front (kept_enc f p t) rest g.here.has in
          let a : Has v₁ (spot f b i) (kept_enc f p t) = rw h (has-put (spot f b (e + 2)) _ o (λ j lo hi lo₂ hi₂. omega (arith, spot_is g.here, spot-le f b e (e + 2) (omega arith)))) in
          rw (← own-length g.here) (has-seg a)

      module _ {v₂ : List ℕ} (h₂ : v₂ ≡ put v₁ (spot f b x) (take (stride f * (e - i)) (drop (spot f b i) v₁))) where
        room₂ : KeptRoom f v₂ b n
        room₂ = rw h₂ (room-put (spot f b x) _ room₁)

        pub fork-writes : Writable f v₂ b i z
        fork-writes = let k = fork-fits in writable room₂ i z g.here.one (omega arith) sides-fit.4

        module _ {v₃ : List ℕ} (h₃ : v₃ ≡ put v₂ (spot f b i) (node_words f p z)) where
          pub fork-writes-two : Writable f v₃ b y 0
          fork-writes-two = let k = sides-fit in rw h₃ (writable (room-put (spot f b i) (node_words f p z) room₂) y 0 k.2 k.3 (omega arith))

          pub fork-became : {v₄ : List ℕ} → v₄ ≡ put v₃ (spot f b y) (node_words f s 0) → Became f w v₄ b i (e + 2) (fork_words c f p s t) (kept_size t + 2) rest
          fork-became h₄ = record {
            wrote = h₄ ∙ rw (h₃, h₂, own-words, h, tail-words g.here, sides.0, sides.1, sides.2) (fork-laid c);
            end = omega (arith, g.here.end);
          }

-- Without a half.
module _ {f : ℕ} {w : List ℕ} {b n i m e u : ℕ} {p : Bits} {l r : Trie} {rest : List ℕ} (g : Halves f w b n i m e u p l r rest) where
  abbrev own : List ℕ
  own = node_words f p (1 + kept_size r)

  abbrev ahead : List ℕ
  ahead = kept_enc f (snoc p true) r

  abbrev after : List ℕ
  after = kept_enc f (snoc p false) l

  pub half-fits : (e ≡ i + 1 + kept_size l + kept_size r) × (m ≡ i + 1 + kept_size r) × (e ≤ u) × (u ≤ suc n) × (1 ≤ i) × (n ≤ 4194304)
  half-fits = let k = (both_words f p l r g.first g.second).1 in (omega (arith, g.here.end), g.middle, g.here.tail, g.here.last, g.here.one, g.here.room.few)

  has_all : Has w (spot f b i) (own ++ (ahead ++ (after ++ rest)))
  has_all = rw ((both_words f p l r g.first g.second).0, append_assoc own (ahead ++ after) rest, append_assoc ahead after rest) at g.here.has

  has-second : Has w (spot f b (i + 1)) (ahead ++ (after ++ rest))
  has-second = has-at (rw (length-node_words f p (1 + kept_size r)) (spot-next f b i g.here.one)) (has-back own (ahead ++ (after ++ rest)) has_all)

  has_first : Has w (spot f b m) (after ++ rest)
  has_first = has-at (rw (length-kept_enc f (snoc p true) r, g.middle) (spot_on f b (i + 1) (kept_size r) (omega arith))) (has-back ahead (after ++ rest) has-second)

  first-words : take (stride f * (u - m)) (drop (spot f b m) w) ≡ after ++ rest
  first-words =
      let k = half-fits in
      let q : u - m ≡ kept_size l + (u - e) = omega arith in
      let z : length (after ++ rest) ≡ stride f * (u - m) = rw (q, mul-add (stride f) (kept_size l) (u - e)) (length-append after rest ∙ rw (length-kept_enc f (snoc p false) l, g.here.used)) in
      rw (← z) (has-seg has_first)

  second-words : take (stride f * (m - (i + 1))) (drop (spot f b (i + 1)) w) ≡ ahead
  second-words =
      let q : m - (i + 1) ≡ kept_size r = omega (arith, g.middle) in
      let z : length ahead ≡ stride f * (m - (i + 1)) = rw q (length-kept_enc f (snoc p true) r) in
      rw (← z) (has-seg (has-front ahead (after ++ rest) has-second))

  -- the second half goes
  pub drop-moves : Movable f w b m i (u - m)
  drop-moves = let k = half-fits in movable g.here.room m i (u - m) (omega arith) g.here.one (omega arith) (omega arith)

  pub drop-became : {v : List ℕ} → v ≡ put w (spot f b i) (take (stride f * (u - m)) (drop (spot f b m) w)) → Became f w v b i (i + (e - m)) (drop_words true f p l r) (drop_size true l r) rest
  drop-became h = let k = half-fits in record { wrote = h ∙ rw first-words; end = omega arith }

  -- the first half goes
  pub drop-moves-first : Movable f w b (i + 1) i (m - (i + 1))
  drop-moves-first = let k = half-fits in movable g.here.room (i + 1) i (m - (i + 1)) (omega arith) g.here.one (omega arith) (omega arith)

  module _ {v₁ : List ℕ} (h : v₁ ≡ put w (spot f b i) (take (stride f * (m - (i + 1))) (drop (spot f b (i + 1)) w))) where
    pub drop-moves-tail : Movable f v₁ b e (m - 1) (u - e)
    drop-moves-tail = let k = half-fits in rw h (movable (room-put (spot f b i) _ g.here.room) e (m - 1) (u - e) (omega arith) (omega arith) (omega arith) (omega arith))

    spot-before : spot f b (m - 1) ≡ spot f b i + length ahead
    spot-before = let k = half-fits in let q : i + kept_size r ≡ m - 1 = omega arith in rw (length-kept_enc f (snoc p true) r, ← q) (sym (spot_on f b i (kept_size r) g.here.one))

    tail-still : take (stride f * (u - e)) (drop (spot f b e) v₁) ≡ rest
    tail-still =
        let k = half-fits in
        let x : Has v₁ (spot f b e) rest = rw (h, second-words) (has-put (spot f b i) ahead (tail-has g.here) (λ j lo hi lo₂ hi₂. omega (arith, spot-before, spot-le f b (m - 1) e (omega arith)))) in
        rw (← g.here.used) (has-seg x)

    pub drop-became-first : {v₂ : List ℕ} → v₂ ≡ put v₁ (spot f b (m - 1)) (take (stride f * (u - e)) (drop (spot f b e) v₁)) → Became f w v₂ b i (m - 1) (drop_words false f p l r) (drop_size false l r) rest
    drop-became-first k =
        let y = half-fits in
        record { wrote = k ∙ rw (tail-still, h, second-words) (put-behind-at w (spot f b i) (spot f b (m - 1)) ahead rest spot-before); end = omega arith }

-- A branch point that leads to its first half anew.
module _ (f : ℕ) (w : List ℕ) (b i a m e z : ℕ) (p : Bits) where
  abbrev Relinked : Bool → ℕ → List ℕ → Type 0
  Relinked c x v = (x ≡ relink_end c a i m e z) × (v ≡ relinked f w b i a z c p)

  pub relink-edge : a ≡ i → Relinked true z w
  relink-edge q = (rw (eq-eqb a i q), rw (eq-eqb a i q))

  pub relink-node : (a ≡ i → ⊥) → {v : List ℕ} → v ≡ put w (spot f b i) (node_words f p (z - i)) → Relinked true (z + (e - m)) v
  relink-node q h = (rw (ne_eqb a i q), rw (ne_eqb a i q) h)
