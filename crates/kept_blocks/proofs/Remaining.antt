-- What is left of a member without a network inside it, block by block. Assumes nothing.
use mathlib.Core.Bool.{Bool, true, false, not}
use mathlib.Core.List.{List, [], ◌∷◌, ◌++◌, append_assoc}
use mathlib.Core.Path.{◌≡◌, refl, sym, ap, ◌∙◌}
use Prim.Native.Nat.{ℕ, suc, ◌+◌, ◌-◌, ◌*◌, ◌≤◌, ◌<◌}
use native.Mathlib.Omega.{arith}
use lib.ListN.{length, get_or, length-append, take, drop}
use Rattle.nets.specs.Bits.{Bits}
use Rattle.nets.specs.Networks.{width, net_from, net_bits}
use Rattle.nets.specs.declared.Net.{Net}
use Rattle.nets.specs.Tries.{Trie, none, leaf, fork}
use Rattle.nets.specs.TrieOps.{remove_t}
use Rattle.nets.proofs.Numbers.{width-le}
use Rattle.nodes.specs.Words.{put}
use Rattle.nodes.proofs.Put.{put-behind-at, put-before-at, put-swap}
use Rattle.nodes.proofs.Tries.{some}
use Rattle.trie_remove.proofs.Remains.{remove_t-end, remove_t-leaf}
use Rattle.trie_paths.specs.Spans.{snoc}
use Rattle.trie_paths.proofs.Paths.{length-snoc, path-is}
use Rattle.branch_points.specs.KeptTries.{kept_size}
use Rattle.branch_points.proofs.Sizes.{kept_size-leaf, kept_size-some}
use Rattle.kept_nodes.specs.Words.{stride, node_words, kept_enc, spot}
use Rattle.kept_nodes.specs.Parse.{KeptRoom}
use Rattle.kept_nodes.proofs.Places.{spot_on, spot-next, length-node_words, length-kept_enc, kept_enc-leaf, room-put}
use Rattle.kept_nodes.proofs.Hung.{kept_enc-fork, kept_size-fork}
use Rattle.kept_reading.specs.NodeStrings.{IsString}
use Rattle.kept_writing.specs.Writes.{Writable, Movable}
use Rattle.kept_plan.specs.Change.{Way, Steps}
use Rattle.kept_acts.specs.Acts.{Acts, Became}
use Rattle.kept_blocks.specs.Blocks.{Beside, Blocks}
use Rattle.kept_plan.proofs.Changed.{both_words}
use Rattle.kept_plan.proofs.Plans.{way-len, way-string, way-steps}
use Rattle.kept_acts.proofs.Acted.{movable, writable, tail-words}

none-size : kept_size none ≡ 0
unfolding kept_size
none-size = refl

room_of : {f : ℕ} {w v : List ℕ} {b n : ℕ} → length v ≡ length w → KeptRoom f w b n → KeptRoom f v b n
room_of e r = record { family = r.family; low = r.low; few = r.few; long = rw e r.long }

-- A block at a time.
fork-leaf : (c : Bool) (x : Trie) → fork c x leaf ≡ none → ⊥
fork-leaf false x e = some _ _ e
fork-leaf true x e = some _ _ e

remain-some : (r : Bits) → (r ≡ [] → ⊥) → remove_t r leaf ≡ none → ⊥
remain-some [] ne e = ne refl
remain-some (c ∷ r) ne e = fork-leaf c (remove_t r leaf) (sym (remove_t-leaf c r) ∙ e)

fork-size : (c : Bool) (x : Trie) → (x ≡ none → ⊥) → kept_size (fork c x leaf) ≡ kept_size x + 2
fork-size false x ne = (both_words 0 [] x leaf ne (some none none)).1 ∙ omega (arith, kept_size-leaf)
fork-size true x ne = (both_words 0 [] leaf x (some none none) ne).1 ∙ omega (arith, kept_size-leaf)

one-fork : (c : Bool) → fork c none leaf ≡ fork (not c) leaf none
one-fork false = refl
one-fork true = refl

-- the last one
last-is : (c : Bool) → remove_t (c ∷ []) leaf ≡ fork (not c) leaf none
last-is c = remove_t-leaf c [] ∙ rw (remove_t-end leaf) (one-fork c)

pub last-words : (f : ℕ) (p : Bits) (c : Bool) → kept_enc f p (remove_t (c ∷ []) leaf) ≡ node_words f (snoc p (not c)) 0
last-words f p c = rw (last-is c) (kept_enc-fork f p (not c) leaf (some none none) ∙ kept_enc-leaf f (snoc p (not c)))

pub remain-size : (r : Bits) → (r ≡ [] → ⊥) → kept_size (remove_t r leaf) + 1 ≡ 2 * length r
remain-size [] ne = absurd (ne refl)
remain-size (c ∷ []) ne = rw (last-is c) (omega (arith, kept_size-fork (not c) leaf (some none none), kept_size-leaf))
remain-size (c ∷ d ∷ r) ne =
    let n : d ∷ r ≡ [] → ⊥ = λ e. let z : ◌≡◌ {A = ℕ} 0 1 = cc in omega arith in
    rw (remove_t-leaf c (d ∷ r)) (omega (arith, fork-size c (remove_t (d ∷ r) leaf) (remain-some (d ∷ r) n), remain-size (d ∷ r) n))

-- all addresses without one: of IPv4, of IPv6
pub remain-one : (r : Bits) → (length r ≡ 32 → kept_size (remove_t r leaf) ≡ 63) × (length r ≡ 128 → kept_size (remove_t r leaf) ≡ 255)
remain-one [] = ((λ e. absurd (omega arith)), λ e. absurd (omega arith))
remain-one (c ∷ r) =
    let n : c ∷ r ≡ [] → ⊥ = λ e. let z : ◌≡◌ {A = ℕ} 0 1 = cc in omega arith in
    ((λ e. omega (arith, remain-size (c ∷ r) n)), λ e. omega (arith, remain-size (c ∷ r) n))

-- A branch point with a member beside what is still to be written.
module _ {f : ℕ} {w : List ℕ} {b n i : ℕ} {p : Bits} {m : ℕ} (g : Beside f w b n i p m) where
  pub beside-fits : (1 ≤ i) × (i + m + 1 ≤ n) × (1 ≤ m) × (n ≤ 4194304)
  beside-fits = (g.one, g.fits, g.some, g.room.few)

  pub beside-short : (c : Bool) → length (snoc p c) ≤ width f
  beside-short c = omega (arith, g.short, length-snoc p c)

  pub beside-writes : (d : ℕ) → d ≤ m + 2 → Writable f w b i d
  beside-writes d le = let k = beside-fits in writable g.room i d g.one (omega arith) (omega arith)

  module _ (d : ℕ) {v₁ : List ℕ} (h : v₁ ≡ put w (spot f b i) (node_words f p d)) where
    pub beside-writes-two : (j : ℕ) → i ≤ j → j ≤ i + m + 1 → Writable f v₁ b j 0
    beside-writes-two j lo hi = let k = beside-fits in rw h (writable (room-put (spot f b i) (node_words f p d) g.room) j 0 (omega arith) (omega arith) (omega arith))

  module _ (x : Trie) (q : kept_size x ≡ m) where
    some-x : x ≡ none → ⊥
    some-x e = let k = beside-fits in let z : kept_size x ≡ 0 = rw e none-size in omega arith

    spot-one : (d : ℕ) → spot f b (i + 1) ≡ spot f b i + length (node_words f p d)
    spot-one d = rw (length-node_words f p d) (sym (spot-next f b i g.one))

    -- on the first side
    pub beside-second : {v₁ v₂ : List ℕ} → v₁ ≡ put w (spot f b i) (node_words f p (m + 1)) → v₂ ≡ put v₁ (spot f b (i + m + 1)) (node_words f (snoc p false) 0)
        → put v₂ (spot f b (i + 1)) (kept_enc f (snoc p true) x) ≡ put w (spot f b i) (kept_enc f p (fork true x leaf))
    beside-second {v₁} h k =
        let a = node_words f p (m + 1) in
        let c = kept_enc f (snoc p true) x in
        let l = node_words f (snoc p false) 0 in
        let e : spot f b (i + 1) + length c ≡ spot f b (i + m + 1) = rw (length-kept_enc f (snoc p true) x, q) (spot_on f b (i + 1) m (omega arith) ∙ ap (spot f b) (omega arith)) in
        let y : spot f b (i + m + 1) ≡ spot f b i + length (a ++ c) = rw (length-append a c) (omega (arith, e, spot-one (m + 1))) in
        let d : 1 + kept_size x ≡ m + 1 = omega arith in
        rw (
          k,
          ← put-swap v₁ (spot f b (i + 1)) (spot f b (i + m + 1)) c l (omega arith),
          h,
          put-behind-at w (spot f b i) (spot f b (i + 1)) a c (spot-one (m + 1)),
          put-behind-at w (spot f b i) (spot f b (i + m + 1)) (a ++ c) l y,
          (both_words f p leaf x (some none none) some-x).0,
          kept_enc-leaf f (snoc p false),
          d,
        ) (ap (put w (spot f b i)) (append_assoc a c l))

    pub beside_first : {v₁ v₂ : List ℕ} → v₁ ≡ put w (spot f b i) (node_words f p 2) → v₂ ≡ put v₁ (spot f b (i + 1)) (node_words f (snoc p true) 0)
        → put v₂ (spot f b (i + 2)) (kept_enc f (snoc p false) x) ≡ put w (spot f b i) (kept_enc f p (fork false x leaf))
    beside_first {v₁} h k =
        let a = node_words f p 2 in
        let c = kept_enc f (snoc p false) x in
        let l = node_words f (snoc p true) 0 in
        let z : i + 1 + 1 ≡ i + 2 = omega arith in
        let y : spot f b (i + 2) ≡ spot f b i + length (a ++ l) =
        rw (length-append a l, length-node_words f (snoc p true) 0, ← z) (omega (arith, spot-one 2, spot-next f b (i + 1) (omega arith))) in
        rw (
          k,
          h,
          put-behind-at w (spot f b i) (spot f b (i + 1)) a l (spot-one 2),
          put-behind-at w (spot f b i) (spot f b (i + 2)) (a ++ l) c y,
          (both_words f p x leaf some-x (some none none)).0,
          kept_size-leaf,
          kept_enc-leaf f (snoc p true),
        ) (ap (put w (spot f b i)) (append_assoc a l c))

-- The loop: what is still to be written completes it.
pub record At (f : ℕ) (w₀ w : List ℕ) (b n i k : ℕ) (p r : Bits) (q x : Net) : Type 0 where
  pub path : Bits
  pub left : Bits
  pub net : x ≡ net_from f path
  pub blocks : Blocks f w b n k path left q
  pub all : put w (spot f b k) (kept_enc f path (remove_t left leaf)) ≡ put w₀ (spot f b i) (kept_enc f p (remove_t r leaf))

pub at-start : {f : ℕ} {w : List ℕ} {b n i : ℕ} {p r : Bits} {q x : Net} → x ≡ net_from f p → Blocks f w b n i p r q → At f w w b n i i p r q x
at-start {p = p} {r = r} is g = record { path = p; left = r; net = is; blocks = g; all = refl }

module _ {f : ℕ} {w₀ w : List ℕ} {b n i k : ℕ} {p r : Bits} {q x : Net} (g : At f w₀ w b n i k p r q x) where
  pub at_len : (x.len ≡ length g.path) × (q.len ≡ x.len + length g.left) × (1 ≤ length g.left) × (q.len ≤ width f)
  at_len =
      let e = (path-is x f g.path g.net).0 in
      let o = way-len g.blocks.way in
      (e, omega arith, some_left g.left g.blocks.more, omega (arith, g.blocks.way.short, length-append g.path g.left))
    where
      some_left : (l : Bits) → (l ≡ [] → ⊥) → 1 ≤ length l
      some_left [] ne = absurd (ne refl)
      some_left (c ∷ l) ne = omega arith

  pub at-bit : IsString q × (x.len < q.len)
  at-bit = let k = at_len in (way-string g.blocks.way, omega arith)

  pub at-child : length g.path < width f
  at-child = let k = at_len in omega arith

  pub at-falls : (c : Bool) {y : Net} → y ≡ net_from f (snoc g.path c) → y.len ≡ x.len + 1
  at-falls c {y} e = let k = at_len in omega (arith, (path-is y f (snoc g.path c) e).0, length-snoc g.path c)

  pub last-short : (c : Bool) → length (snoc g.path c) ≤ width f
  last-short c = let k = at_len in omega (arith, length-snoc g.path c)

  pub last-writes : Writable f w b k 0
  last-writes = writable g.blocks.room k 0 g.blocks.one (omega (arith, g.blocks.fits, kept_size-some (remove_t g.left leaf) (remain-some g.left g.blocks.more))) (omega arith)

  module _ (c : Bool) (ec : c ≡ get_or (net_bits q) x.len false) where
    steps : Steps f g.path g.left q c
    steps = let k = at_len in way-steps g.blocks.way (λ e. omega arith) c (rw (← k.0) ec)

    -- more than one bit is left
    module _ (lt : x.len + 1 < q.len) where
      later-some : steps.later ≡ [] → ⊥
      later-some e = let k = at_len in omega (arith, ap length steps.bits, ap length e)

      later-size : kept_size (remove_t steps.later leaf) + 1 ≡ 2 * length steps.later
      later-size = remain-size steps.later later-some

      left-size : (kept_size (remove_t g.left leaf) ≡ kept_size (remove_t steps.later leaf) + 2) × (length g.left ≡ length steps.later + 1)
      left-size = (
        ap (λ l. kept_size (remove_t l leaf)) steps.bits ∙ ap kept_size (remove_t-leaf c steps.later) ∙ fork-size c (remove_t steps.later leaf) (remain-some steps.later later-some),
        omega (arith, ap length steps.bits),
      )

      at-number : (m : ℕ) → m ≡ 2 * (q.len - x.len) - 3 → m ≡ kept_size (remove_t steps.later leaf)
      at-number m e = let k = at_len in let l = left-size in let y = later-size in omega arith

      pub at-beside : (m : ℕ) → m ≡ 2 * (q.len - x.len) - 3 → Beside f w b n k g.path m
      at-beside m e =
          let o = at-number m e in
          let l = left-size in
          record { room = g.blocks.room; one = g.blocks.one; short = at-child; some = omega (arith, later-size, kept_size-some (remove_t steps.later leaf) (remain-some steps.later later-some)); fits = omega (arith, g.blocks.fits) }

      pub at_turn : (m : ℕ) → m ≡ 2 * (q.len - x.len) - 3 → {w₁ : List ℕ} {k₁ : ℕ} {y : Net} → y ≡ net_from f (snoc g.path c) → length w₁ ≡ length w → (k < k₁) × (k₁ ≤ k + 2)
          → ((t : Trie) → kept_size t ≡ m → put w₁ (spot f b k₁) (kept_enc f (snoc g.path c) t) ≡ put w (spot f b k) (kept_enc f g.path (fork c t leaf))) → At f w₀ w₁ b n i k₁ p r q y
      at_turn m e ey len lim h =
          let o = at-number m e in
          let l = left-size in
          let s = steps in
          record {
            path = snoc g.path c;
            left = s.later;
            net = ey;
            blocks = record {
              room = room_of len g.blocks.room;
              one = omega arith;
              way = record {
                family = s.way.family;
                net = s.way.net ∙ ap (net_from f) joined;
                short = rw (← joined) s.way.short;
              };
              more = later-some;
              fits = omega (arith, g.blocks.fits);
            };
            all = h (remove_t s.later leaf) (sym o) ∙ ap (λ t. put w (spot f b k) (kept_enc f g.path t)) (sym (remove_t-leaf c s.later) ∙ ap (λ l. remove_t l leaf) (sym s.bits)) ∙ g.all;
          }
        where
          joined : g.path ++ g.left ≡ snoc g.path c ++ steps.later
          joined = ap (λ l. g.path ++ l) steps.bits ∙ sym (append_assoc g.path (c ∷ []) steps.later)

    -- one bit is left
    pub at_last : q.len ≤ x.len + 1 → {v : List ℕ} → v ≡ put w (spot f b k) (node_words f (snoc g.path (not c)) 0) → v ≡ put w₀ (spot f b i) (kept_enc f p (remove_t r leaf))
    at_last nlt h =
        let o = at_len in
        let s = steps in
        let z : s.later ≡ [] = empty s.later (omega (arith, ap length s.bits)) in
        let y : kept_enc f g.path (remove_t g.left leaf) ≡ node_words f (snoc g.path (not c)) 0 = ap (λ l. kept_enc f g.path (remove_t l leaf)) (s.bits ∙ ap (λ l. c ∷ l) z) ∙ last-words f g.path c in
        h ∙ ap (put w (spot f b k)) (sym y) ∙ g.all
      where
        empty : (l : Bits) → length l ≡ 0 → l ≡ []
        empty [] e = refl
        empty (a ∷ l) e = absurd (omega arith)

-- And moved out of the way before.
module _ {f : ℕ} {w : List ℕ} {b n i e u : ℕ} {p r s : Bits} {q : Net} {t : Trie} {rest : List ℕ} (way : Way f p r q) (more : r ≡ [] → ⊥)
    (g : Acts f w b n i e u p s t rest (kept_size (remove_t r leaf))) where
  module _ (x : Net) (is : x ≡ net_from f p) where
    pub halve-len : (x.len < q.len) × (q.len ≤ 128 + x.len) × (1 ≤ length r)
    halve-len =
        let e = (path-is x f p is).0 in
        let o = way-len way in
        let l = width-le f in
        let y = length-append p r in
        let z = some_left r more in
        (omega arith, omega (arith, way.short), z)
      where
        some_left : (l : Bits) → (l ≡ [] → ⊥) → 1 ≤ length l
        some_left [] ne = absurd (ne refl)
        some_left (c ∷ l) ne = omega arith

    module _ (k : ℕ) (ek : k ≡ 2 * (q.len - x.len) - 1) where
      pub halve-number : k ≡ kept_size (remove_t r leaf)
      halve-number = let e = (path-is x f p is).0 in omega (arith, way-len way, remain-size r more)

      pub halve-fits : (i ≤ e) × (e ≤ u) × (u ≤ suc n) × (i + k + (u - e) ≤ suc n) × (1 ≤ i) × (n ≤ 4194304)
      halve-fits = let o = halve-number in (omega (arith, g.here.end), g.here.tail, g.here.last, omega (arith, g.here.end, g.here.tail, g.fits), g.here.one, g.here.room.few)

      pub halve-moves : Movable f w b e (i + k) (u - e)
      halve-moves = let o = halve-fits in movable g.here.room e (i + k) (u - e) (omega arith) (omega arith) (omega arith) (omega arith)

      module _ {v₁ : List ℕ} (h : v₁ ≡ put w (spot f b (i + k)) (take (stride f * (u - e)) (drop (spot f b e) w))) where
        pub halve-blocks : Blocks f v₁ b n i p r q
        halve-blocks =
            let o = halve-fits in
            record { room = rw h (room-put (spot f b (i + k)) _ g.here.room); one = g.here.one; way = way; more = more; fits = omega (arith, halve-number) }

        pub halve-became : {v₂ : List ℕ} → v₂ ≡ put v₁ (spot f b i) (kept_enc f p (remove_t r leaf)) → Became f w v₂ b i (i + k) (kept_enc f p (remove_t r leaf)) (kept_size (remove_t r leaf)) rest
        halve-became y = record {
          wrote = y ∙ rw (h, tail-words g.here) (put-before-at w (spot f b i) (spot f b (i + k)) (kept_enc f p (remove_t r leaf)) rest
              (rw (length-kept_enc f p (remove_t r leaf), halve-number) (sym (spot_on f b i (kept_size (remove_t r leaf)) g.here.one))));
          end = rw halve-number;
        }
