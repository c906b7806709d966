-- Moving what is left of a trie: its first node is gone, a member, or a branch point, and what each step writes makes the whole. Assumes nothing.
use mathlib.Core.Bool.{Bool, true, false, cond, ◌&&◌, false≢true, beq as same}
use mathlib.Core.List.{List, [], ◌∷◌, ◌++◌, append-nil}
use mathlib.Core.Path.{◌≡◌, refl, sym, ap, ◌∙◌}
use Prim.Native.Nat.{ℕ, suc, ◌+◌, ◌-◌, ◌*◌, ◌≤◌, ◌<◌}
use native.Mathlib.Nat.{mul-le-mul_left}
use native.Mathlib.Omega.{arith}
use borrow.Author.Tests.{le-leb, lt-leb}
use lib.Dec.{eqb, leb}
use lib.ListN.{length, take, drop}
use Rattle.nets.specs.Bits.{Bits}
use Rattle.nets.specs.Networks.{width}
use Rattle.nets.specs.Tries.{Trie, none, node, bare, is_none, levels}
use Rattle.nets.proofs.Numbers.{width-le}
use Rattle.nets.proofs.Strings.{and_left, and_right}
use Rattle.nodes.specs.Words.{put, Has}
use Rattle.nodes.proofs.Put.{put-nil, put-behind-at}
use Rattle.nodes.proofs.Has.{has-put, has-front, has-head, has-tail, has-seg, has_same}
use Rattle.nodes.proofs.Tries.{some}
use Rattle.trie_paths.specs.Spans.{snoc}
use Rattle.branch_points.specs.KeptTries.{kept, kept_size}
use Rattle.branch_points.proofs.Sizes.{kept_size-some}
use Rattle.kept_nodes.specs.Words.{stride, node_words, distance, own_words, kept_enc, spot}
use Rattle.kept_nodes.specs.Parse.{head_at}
use Rattle.kept_nodes.proofs.Places.{spot-within, length-node_words, length-kept_enc, kept_enc-none}
use Rattle.kept_nodes.proofs.NodeWords.{Says}
use Rattle.kept_nodes.proofs.Heads.{head-is}
use Rattle.kept_writing.specs.Writes.{Movable}
use Rattle.kept_sieve.specs.Marks.{mark_bit, is_among, mark_enc, Sieves, Sieved}
use Rattle.kept_sieve.proofs.Marked.{mark-gone, Rooted, rooted}

-- What is seen at the first node.
pub record Gone (f : ℕ) (w : List ℕ) (b i : ℕ) (p : Bits) (t s : Trie) : Type 0 where
  pub x : ℕ
  pub ws : List ℕ
  pub words : kept_enc f p t ≡ x ∷ ws
  pub has : Has w (spot f b i) ((x + mark_bit) ∷ ws)
  pub nothing : s ≡ none

pub record Member (f : ℕ) (w : List ℕ) (b i : ℕ) (p : Bits) (t s : Trie) : Type 0 where
  pub q : Bits
  pub says : Says f w b i q 0
  pub words : kept_enc f p t ≡ node_words f q 0
  pub left-words : kept_enc f p s ≡ node_words f q 0
  pub left-size : kept_size s ≡ 1

pub record Inner (f : ℕ) (w : List ℕ) (b i : ℕ) (p : Bits) (t s : Trie) : Type 0 where
  pub q : Bits
  pub l : Trie
  pub r : Trie
  pub a : Trie
  pub c : Trie
  pub first : l ≡ none → ⊥
  pub second : r ≡ none → ⊥
  pub apart : bare a c ≡ false
  pub among_first : is_among a l ≡ true
  pub among_second : is_among c r ≡ true
  pub deep-first : length q + 1 + levels l ≤ suc (width f)
  pub deep-second : length q + 1 + levels r ≤ suc (width f)
  pub words : kept_enc f p t ≡ node_words f q (1 + kept_size r) ++ (kept_enc f (snoc q true) r ++ kept_enc f (snoc q false) l)
  pub left-words : kept_enc f p s ≡ own_words (kept a c) f q (distance a c) ++ (kept_enc f (snoc q true) c ++ kept_enc f (snoc q false) a)
  pub has : Has w (spot f b i) (node_words f q (1 + kept_size r) ++ (mark_enc f (snoc q true) r c ++ mark_enc f (snoc q false) l a))
  pub size : kept_size t ≡ 1 + kept_size l + kept_size r
  pub left-size : kept_size s ≡ cond (kept a c) 1 0 + kept_size a + kept_size c

pub data Seen (f : ℕ) (w : List ℕ) (b i : ℕ) (p : Bits) (t s : Trie) : Type 0 where
  gone : Gone f w b i p t s → Seen f w b i p t s
  member : Member f w b i p t s → Seen f w b i p t s
  inner : Inner f w b i p t s → Seen f w b i p t s

-- words of which some are there
cons : (ws : List ℕ) → 1 ≤ length ws → (x : ℕ) × (xs : List ℕ) × (ws ≡ x ∷ xs)
cons [] h = absurd (omega arith)
cons (x ∷ xs) h = (x, xs, refl)

-- one word written over the first of those that stand there
pub put-head : {w : List ℕ} {p x : ℕ} {ws : List ℕ} (y : ℕ) → Has w p (x ∷ ws) → put w p (y ∷ ws) ≡ put w p (y ∷ [])
put-head {w} {p} {x} {ws} y h = sym (put-behind-at w p (p + 1) (y ∷ []) ws refl) ∙ has_same (has-put p (y ∷ []) (has-tail h) (λ j a b c d. omega arith))

stride-some : (f : ℕ) → 2 ≤ stride f
unfolding stride
stride-some f = go (eqb f 4)
  where
    go : (y : Bool) → 2 ≤ cond y 2 5
    go true = omega arith
    go false = omega arith

-- a trie that has nodes has words
pub words-some : (f : ℕ) (p : Bits) (t : Trie) → (t ≡ none → ⊥) → 1 ≤ length (kept_enc f p t)
words-some f p t ne = rw (length-kept_enc f p t) (omega (arith, mul-le-mul_left (stride f) (kept_size-some t ne), stride-some f))

pub kept_size-zero : kept_size none ≡ 0
unfolding kept_size
kept_size-zero = refl

module _ {f : ℕ} {w : List ℕ} {b n i e o : ℕ} {p : Bits} {t s : Trie} (g : Sieves f w b n i e o p t s) where
  seen-gone : s ≡ none → Gone f w b i p t s
  seen-gone z =
      let (x, ws, h) = cons (kept_enc f p t) (words-some f p t g.some) in
      record { x = x; ws = ws; words = h; has = rw (z, mark-gone f p t, h) at g.has; nothing = z }

  root : Rooted f p t s
  root = rooted f p t s g.some g.among

  seen-some : (l r a c : Trie) → kept l r ≡ true → is_among (node a c) (node l r) ≡ true → (q : Bits) → kept_enc f p t ≡ kept_enc f q (node l r)
      → kept_enc f p s ≡ kept_enc f q (node a c)
      → mark_enc f p t s ≡ mark_enc f q (node l r) (node a c) → kept_size t ≡ kept_size (node l r) → kept_size s ≡ kept_size (node a c)
      → length q + levels (node l r) ≤ suc (width f)
      → Seen f w b i p t s
  unfolding is_among mark_enc kept_enc kept_size levels distance
  seen-some none none none none k am q ew es em zt zs dq = member (record {
    q = q;
    says = record { short = omega arith; has = rw (append-nil (node_words f q 0)) at (rw em at g.has) };
    words = ew ∙ append-nil (node_words f q 0);
    left-words = es ∙ append-nil (node_words f q 0);
    left-size = zs;
  })
  seen-some none none none (node u v) k am q ew es em zt zs dq = absurd (false≢true am)
  seen-some none none (node u v) c k am q ew es em zt zs dq = absurd (false≢true am)
  seen-some none (node x y) a c k am q ew es em zt zs dq = absurd (false≢true k)
  seen-some (node x y) none a c k am q ew es em zt zs dq = absurd (false≢true k)
  seen-some (node x y) (node u v) a c k am q ew es em zt zs dq =
      let ab = and_left (same (bare a c) false) (is_among a (node x y) && is_among c (node u v)) am in
      let ac = and_right (same (bare a c) false) (is_among a (node x y) && is_among c (node u v)) am in
      inner (record {
        q = q;
        l = node x y;
        r = node u v;
        a = a;
        c = c;
        first = some x y;
        second = some u v;
        apart = unsame (bare a c) ab;
        among_first = and_left (is_among a (node x y)) (is_among c (node u v)) ac;
        among_second = and_right (is_among a (node x y)) (is_among c (node u v)) ac;
        deep-first = omega arith;
        deep-second = omega arith;
        words = ew;
        left-words = es;
        has = rw em at g.has;
        size = zt;
        left-size = zs;
      })
    where
      unsame : (y : Bool) → same y false ≡ true → y ≡ false
      unsame true h = absurd (false≢true h)
      unsame false h = refl

  pub seen : Seen f w b i p t s
  seen = go s refl
    where
      go : (s' : Trie) → s ≡ s' → Seen f w b i p t s
      go none z = gone (seen-gone z)
      go (node u v) z = let h = root in fork h.left refl
        where
          fork : (a : Trie) → root.left ≡ a → Seen f w b i p t s
          fork none k = absurd (omega (arith, root.left-size, kept_size-some (node u v) (some u v), ap kept_size z, ap kept_size k, kept_size-zero))
          fork (node a c) k = let h = root in seen-some h.l h.r a c h.own (rw k at h.among) h.q h.words
              (h.left-words ∙ ap (kept_enc f h.q) k)
              (h.marks ∙ ap (mark_enc f h.q (node h.l h.r)) k) h.size (h.left-size ∙ ap kept_size k) (omega (arith, h.deep, g.deep))

  -- the first node is there
  pub place : (1 ≤ i) × (i ≤ n)
  place = (omega (arith, g.one, g.behind), omega (arith, g.end, g.last, kept_size-some t g.some))

  gone-head : (h : Gone f w b i p t s) → head_at f w b i ≡ h.x + mark_bit
  gone-head h = has-head h.has

  member-head : Member f w b i p t s → head_at f w b i < 256
  member-head h = omega (arith, head-is h.says, h.says.short, width-le f)

  pub inner-says : (h : Inner f w b i p t s) → Says f w b i h.q (1 + kept_size h.r)
  inner-says h = record { short = omega (arith, h.deep-first); has = has-front (node_words f h.q (1 + kept_size h.r)) _ h.has }

  pub inner-head : (h : Inner f w b i p t s) → (head_at f w b i ≡ length h.q + 256 * (1 + kept_size h.r)) × (length h.q ≤ 128) ×
      (2 + kept_size h.r ≤ kept_size t)
  inner-head h = (head-is (inner-says h), omega (arith, (inner-says h).short, width-le f), omega (arith, h.size, kept_size-some h.l h.first))

  inner-few : (h : Inner f w b i p t s) → (256 ≤ head_at f w b i) × (head_at f w b i < mark_bit)
  inner-few h = let k = inner-head h in (omega arith, omega (arith, g.end, g.last, g.room.few))

  -- by its head
  pub step_gone : mark_bit ≤ head_at f w b i → Gone f w b i p t s
  step_gone le = go seen
    where
      go : Seen f w b i p t s → Gone f w b i p t s
      go (gone h) = h
      go (member h) = absurd (omega (arith, member-head h))
      go (inner h) = absurd (omega (arith, inner-few h))

  pub step-member : head_at f w b i < 256 → Member f w b i p t s
  step-member lt = go seen
    where
      go : Seen f w b i p t s → Member f w b i p t s
      go (gone h) = absurd (omega (arith, gone-head h))
      go (member h) = h
      go (inner h) = absurd (omega (arith, inner-few h))

  pub step-inner : 256 ≤ head_at f w b i → head_at f w b i < mark_bit → Inner f w b i p t s
  step-inner le lt = go seen
    where
      go : Seen f w b i p t s → Inner f w b i p t s
      go (gone h) = absurd (omega (arith, gone-head h))
      go (member h) = absurd (omega (arith, member-head h))
      go (inner h) = h

  pub head-mark : leb mark_bit (head_at f w b i) ≡ is_none s
  head-mark = go seen
    where
      solid : (s : Trie) → 1 ≤ kept_size s → false ≡ is_none s
      solid none h = absurd (omega (arith, kept_size-zero))
      solid (node a c) h = refl

      go : Seen f w b i p t s → leb mark_bit (head_at f w b i) ≡ is_none s
      go (gone h) = le-leb mark_bit (head_at f w b i) (omega (arith, gone-head h)) ∙ rw h.nothing
      go (member h) = lt-leb mark_bit (head_at f w b i) (omega (arith, member-head h)) ∙ solid s (omega (arith, h.left-size))
      go (inner h) = lt-leb mark_bit (head_at f w b i) (inner-few h).1 ∙ solid s (omega (arith, h.left-size, both h.a h.c h.apart))
        where
          both : (a c : Trie) → bare a c ≡ false → 1 ≤ kept_size a + kept_size c
          both none none e = absurd (false≢true (sym e))
          both none (node x y) e = omega (arith, kept_size-some (node x y) (some x y))
          both (node x y) c e = omega (arith, kept_size-some (node x y) (some x y))

  -- Nothing is left: the mark goes.
  pub done-gone : mark_bit ≤ head_at f w b i → {v : List ℕ} → v ≡ put w (spot f b i) ((head_at f w b i - mark_bit) ∷ []) → Sieved f w v b i o o p t s
  done-gone le {v} e =
      let h = step_gone le in
      let x : head_at f w b i - mark_bit ≡ h.x = omega (arith, gone-head h) in
      let u : put w (spot f b i) (h.x ∷ h.ws) ≡ put w (spot f b i) (h.x ∷ []) = put-head h.x h.has in
      let ks : kept_enc f p s ≡ [] = ap (kept_enc f p) h.nothing ∙ kept_enc-none f p in
      record {
        wrote = e ∙ rw (x, h.words, ks, u) (sym (put-nil (put w (spot f b i) (h.x ∷ [])) (spot f b o)));
        end = omega (arith, ap kept_size h.nothing, kept_size-zero);
      }

  -- A member is moved.
  module _ (lt : head_at f w b i < 256) where
    pub member-moves : Movable f w b i o 1
    member-moves =
        let k = place in
        let z : stride f * 1 ≡ stride f = omega arith in
        record {
          one = k.0;
          to_one = g.one;
          fits = rw z (spot-within i g.room k.0 k.1);
          to-fits = rw z (spot-within o g.room g.one (omega (arith, g.behind)));
          low = omega (arith, g.room.low);
          few = omega (arith, g.room.few);
          to-few = omega (arith, g.room.few, g.behind);
          some = omega arith;
        }

    pub done-member : {v : List ℕ} → v ≡ put w (spot f b o) (take (stride f * 1) (drop (spot f b i) w)) → Sieved f w v b i o (o + 1) p t s
    done-member e =
        let h = step-member lt in
        let z : stride f * 1 ≡ length (node_words f h.q 0) = rw (length-node_words f h.q 0) (omega arith) in
        record {
          wrote = e ∙ rw (z, has-seg h.says.has, h.words, h.left-words, has_same h.says.has);
          end = rw h.left-size;
        }
