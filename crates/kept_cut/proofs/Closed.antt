-- Marks over two halves: where something is left of a half they stay, and else they give way to one mark on the node over both, which is the branch point or
-- the same node. Assumes nothing.
use mathlib.Core.Bool.{Bool, true, false, not, false≢true}
use mathlib.Core.List.{List, [], ◌∷◌, ◌++◌, append-nil}
use mathlib.Core.Path.{◌≡◌, refl, sym, ap, ◌∙◌}
use Prim.Native.Nat.{ℕ, ◌+◌, ◌-◌, ◌≤◌, ◌<◌}
use native.Mathlib.Omega.{arith}
use lib.ListN.{length, get_or}
use Rattle.nets.specs.Bits.{Bits}
use Rattle.nets.specs.Tries.{Trie, none, node, bare, is_none, glue}
use Rattle.nets.proofs.Glue.{glue-inner}
use Rattle.nets.proofs.Numbers.{width-le}
use Rattle.nodes.specs.Words.{put, Has}
use Rattle.nodes.proofs.Put.{put-nil, put-before-at}
use Rattle.nodes.proofs.Has.{has-put, put_has, has-front, has-head, has_same}
use Rattle.nodes.proofs.Tries.{some}
use Rattle.trie_paths.specs.Spans.{snoc}
use Rattle.trie_paths.proofs.RowForm.{put-over}
use Rattle.branch_points.specs.KeptTries.{kept, kept_size}
use Rattle.branch_points.proofs.Sizes.{kept_size-some, kept_size-none}
use Rattle.kept_nodes.specs.Words.{distance, own_words, kept_enc, spot}
use Rattle.kept_nodes.specs.Parse.{KeptRoom, head_at}
use Rattle.kept_nodes.proofs.Places.{spot_on, room-put, length-own, length-kept_enc, kept_enc-none}
use Rattle.kept_nodes.proofs.Heads.{head_of, head-short}
use Rattle.kept_nodes.proofs.Hung.{kept_enc-fork}
use Rattle.kept_steps.specs.Segments.{KeptSegment, own_size}
use Rattle.kept_steps.proofs.Halves.{words_are, half-segment}
use Rattle.kept_steps.proofs.Views.{segment-stands}
use Rattle.kept_sieve.specs.Marks.{mark_bit, marked, mark_enc}
use Rattle.kept_sieve.proofs.Marked.{length_marked, length-mark, mark-gone}
use Rattle.kept_sieve.proofs.Sieving.{put-head, words-some, kept_size-zero}
use Rattle.kept_cut.specs.Cuts.{Closing, Left}

-- A trie that stands alone.
pub alone : {f : ℕ} {w : List ℕ} {b n i e u : ℕ} {p : Bits} {t : Trie} {rest : List ℕ} → KeptSegment f w b n i e u p t rest → KeptSegment f w b n i e e p t []
alone {f} {e = e} {p = p} {t = t} {rest = rest} g = record {
  room = g.room;
  has = rw (append-nil (kept_enc f p t)) (has-front (kept_enc f p t) rest g.has);
  deep = g.deep;
  one = g.one;
  end = g.end;
  tail = omega arith;
  used = let z : e - e ≡ 0 = omega arith in rw z (omega arith);
  last = omega (arith, g.tail, g.last);
}

-- One mark put on the first of the words that stand there.
put-mark : {w : List ℕ} {p : ℕ} (ws : List ℕ) → 1 ≤ length ws → Has w p ws → put w p ((get_or w p 0 + mark_bit) ∷ []) ≡ put w p (marked ws)
put-mark [] n h = absurd (omega arith)
put-mark (x ∷ ws) n h = rw (has-head h) (sym (put-head (x + mark_bit) h))

module _ {f : ℕ} {w : List ℕ} {b n i e : ℕ} {p : Bits} {t : Trie} (g : KeptSegment f w b n i e e p t []) where
  pub stands : Has w (spot f b i) (kept_enc f p t)
  stands = has-front (kept_enc f p t) [] g.has

  pub none-at : i ≡ e → t ≡ none
  none-at z = kept_size-none t (omega (arith, g.end))

  pub some_at : (i ≡ e → ⊥) → t ≡ none → ⊥
  some_at ne z = ne (omega (arith, g.end, ap kept_size z, kept_size-zero))

  pub mark-asks : (t ≡ none → ⊥) → KeptRoom f w b n × (1 ≤ i) × (i ≤ n) × (head_at f w b i < mark_bit)
  mark-asks ne =
      let h = head_of f w b n t p i g.one ne (segment-stands g) in
      let k = head-short f w b n t p i g.one ne (segment-stands g) in
      (g.room, g.one, omega (arith, g.end, g.last, kept_size-some t ne), omega (arith, h.near, k, width-le f, g.room.few))

  pub mark-done : (t ≡ none → ⊥) → {v : List ℕ} → v ≡ put w (spot f b i) ((head_at f w b i + mark_bit) ∷ []) → v ≡ put w (spot f b i) (mark_enc f p t none)
  mark-done ne h = h ∙ put-mark (kept_enc f p t) (words-some f p t ne) stands ∙ ap (put w (spot f b i)) (sym (mark-gone f p t))

  pub mark-none : t ≡ none → w ≡ put w (spot f b i) (mark_enc f p t none)
  mark-none z = let k : mark_enc f p t none ≡ [] = mark-gone f p t ∙ rw (z, kept_enc-none f p) in rw k (sym (put-nil w (spot f b i)))

-- What was marked and is cleared is as it was.
module _ {v : List ℕ} {p : ℕ} where
  marked-there : (ws : List ℕ) → Has v p ws → Has (put v p (marked ws)) p (marked ws)
  marked-there ws h = put_has v p (marked ws) (rw (length_marked ws) h.fits)

  marked-head : (ws : List ℕ) → 1 ≤ length ws → Has v p ws → mark_bit ≤ get_or (put v p (marked ws)) p 0
  marked-head [] n h = absurd (omega arith)
  marked-head (x ∷ ws) n h = omega (arith, has-head (marked-there (x ∷ ws) h))

  unmarked : (ws : List ℕ) → 1 ≤ length ws → Has v p ws → {u : List ℕ} → u ≡ put (put v p (marked ws)) p ((get_or (put v p (marked ws)) p 0 - mark_bit) ∷ [])
      → u ≡ v
  unmarked [] n h e = absurd (omega arith)
  unmarked (x ∷ ws) n h e =
      let k = marked-there (x ∷ ws) h in
      let z : get_or (put v p (marked (x ∷ ws))) p 0 - mark_bit ≡ x = omega (arith, has-head k) in
      e ∙ rw z (sym (put-head x k)) ∙ put-over v p (marked (x ∷ ws)) (x ∷ ws) refl ∙ has_same h

-- One child only: the mark of the child is that of the whole.
lone : (f : ℕ) (p : Bits) (v : List ℕ) (b i a m : ℕ) (l r : Trie) → bare l r ≡ false → a ≡ i + own_size l r → m ≡ a + kept_size r → a ≡ i
    → put (put v (spot f b m) (mark_enc f (snoc p false) l none)) (spot f b a) (mark_enc f (snoc p true) r none) ≡ put v (spot f b i)
    (mark_enc f p (node l r) none)
lone f p v b i a m none none h ea em z = absurd (false≢true (sym h))
lone f p v b i a m none (node x y) h ea em z =
    let k : mark_enc f p (node none (node x y)) none ≡ mark_enc f (snoc p true) (node x y) none =
    mark-gone f p (node none (node x y)) ∙ ap marked (kept_enc-fork f p true (node x y) (some x y)) ∙ sym (mark-gone f (snoc p true) (node x y)) in
    let n : mark_enc f (snoc p false) none none ≡ [] = mark-gone f (snoc p false) none ∙ ap marked (kept_enc-none f (snoc p false)) in
    rw (k, n, z, put-nil v (spot f b m))
lone f p v b i a m (node x y) none h ea em z =
    let k : mark_enc f p (node (node x y) none) none ≡ mark_enc f (snoc p false) (node x y) none =
    mark-gone f p (node (node x y) none) ∙ ap marked (kept_enc-fork f p false (node x y) (some x y)) ∙ sym (mark-gone f (snoc p false) (node x y)) in
    let n : mark_enc f (snoc p true) none none ≡ [] = mark-gone f (snoc p true) none ∙ ap marked (kept_enc-none f (snoc p true)) in
    let j : m ≡ i = omega (arith, kept_size-zero) in
    rw (k, n, j) (put-nil (put v (spot f b i) (mark_enc f (snoc p false) (node x y) none)) (spot f b a))
lone f p v b i a m (node x y) (node u c) h ea em z = absurd (omega arith)

-- both halves are there where the node over them is kept
both-there : (i a : ℕ) (l r : Trie) → bare l r ≡ false → a ≡ i + own_size l r → (a ≡ i → ⊥) → (l ≡ none → ⊥) × (r ≡ none → ⊥)
both-there i a none none e h ne = absurd (false≢true (sym e))
both-there i a none (node x y) e h ne = absurd (ne (omega arith))
both-there i a (node x y) none e h ne = absurd (ne (omega arith))
both-there i a (node x y) (node u v) e h ne = (some x y, some u v)

module _ {f : ℕ} {v w : List ℕ} {b n i e a m : ℕ} {p : Bits} {t c d : Trie} (g : Closing f v w b n i e a m p t c d) where
  abbrev l : Trie
  l = g.branch.l

  abbrev r : Trie
  r = g.branch.r

  abbrev own : List ℕ
  own = own_words (kept l r) f p (distance l r)

  abbrev first_marks : List ℕ
  first_marks = mark_enc f (snoc p false) l c

  abbrev second_marks : List ℕ
  second_marks = mark_enc f (snoc p true) r d

  pub first-there : KeptSegment f v b n m e e (snoc p false) l []
  first-there = half-segment g.here g.branch false

  pub second-there : KeptSegment f v b n a m m (snoc p true) r []
  second-there = alone (half-segment g.here g.branch true)

  own-there : Has v (spot f b i) own
  own-there = has-front own _ (rw (words_are g.here g.branch) at g.here.has)

  spot-own : spot f b a ≡ spot f b i + length own
  spot-own = ap (spot f b) g.branch.begins ∙ sym (spot_on f b i (own_size l r) g.here.one)
      ∙ ap (λ y. spot f b i + y) (sym (length-own (kept l r) f p (distance l r)))

  spot-second : (ws : List ℕ) → length ws ≡ length (kept_enc f (snoc p true) r) → spot f b m ≡ spot f b a + length ws
  spot-second ws h =
      ap (spot f b) g.branch.middle ∙ sym (spot_on f b a (kept_size r) second-there.one)
      ∙ ap (λ y. spot f b a + y) (sym (h ∙ length-kept_enc f (snoc p true) r))

  -- Something is left.
  marks-are : mark_enc f p t (node c d) ≡ own ++ (second_marks ++ first_marks)
  unfolding mark_enc
  marks-are = ap (λ y. mark_enc f p y (node c d)) g.branch.is

  pub left-some : bare c d ≡ false → Left f v w b i p t (glue false c d) true
  left-some h =
      let j : w ≡ put v (spot f b a) (second_marks ++ first_marks) =
      g.wrote ∙ put-before-at v (spot f b a) (spot f b m) second_marks first_marks (spot-second second_marks (length-mark f (snoc p true) r d)) in
      let k = has-put (spot f b a) (second_marks ++ first_marks) own-there (λ y x1 x2 x3 x4. omega (arith, spot-own)) in
      rw (glue-inner c d h) (record {
        wrote = j ∙ sym (has_same k) ∙ put-before-at v (spot f b i) (spot f b a) own (second_marks ++ first_marks) spot-own
            ∙ ap (put v (spot f b i)) (sym marks-are);
        rest = refl;
      })

module _ {f : ℕ} {v w : List ℕ} {b n i e a m : ℕ} {p : Bits} {t : Trie} (g : Closing f v w b n i e a m p t none none) where
  -- Nothing is left, and there is no node over the halves.
  pub lone-done : a ≡ i → w ≡ put v (spot f b i) (mark_enc f p t none)
  lone-done z = let k = g.branch in g.wrote ∙ rw k.is (lone f p v b i a m k.l k.r k.inner k.begins k.middle z)

  -- Nothing is left of a branch point.
  module _ (ne : a ≡ i → ⊥) where
    there : (g.branch.l ≡ none → ⊥) × (g.branch.r ≡ none → ⊥)
    there = let k = g.branch in both-there i a k.l k.r k.inner k.begins ne

    abbrev first_words : List ℕ
    first_words = kept_enc f (snoc p false) g.branch.l

    abbrev second_words : List ℕ
    second_words = kept_enc f (snoc p true) g.branch.r

    wrote-both : w ≡ put (put v (spot f b m) (marked first_words)) (spot f b a) (marked second_words)
    wrote-both = rw (← mark-gone f (snoc p false) g.branch.l, ← mark-gone f (snoc p true) g.branch.r) g.wrote

    second-stands : Has (put v (spot f b m) (marked first_words)) (spot f b a) second_words
    second-stands = has-put (spot f b m) (marked first_words) (stands (second-there g)) (λ y x1 x2 x3 x4. omega (arith, spot-second g second_words refl))

    words-second : 1 ≤ length second_words
    words-second = words-some f (snoc p true) g.branch.r there.1

    words-first : 1 ≤ length first_words
    words-first = words-some f (snoc p false) g.branch.l there.0

    pub clear_second : KeptRoom f w b n × (1 ≤ a) × (a ≤ n) × (mark_bit ≤ head_at f w b a)
    clear_second =
        let k = mark-asks (second-there g) there.1 in
        rw wrote-both (
          room-put (spot f b a) (marked second_words) (room-put (spot f b m) (marked first_words)
              g.here.room),
          k.1,
          k.2,
          marked-head second_words words-second second-stands,
        )

    module _ {w₁ : List ℕ} (h₁ : w₁ ≡ put w (spot f b a) ((head_at f w b a - mark_bit) ∷ [])) where
      cleared-second : w₁ ≡ put v (spot f b m) (marked first_words)
      cleared-second = unmarked second_words words-second second-stands (rw wrote-both at h₁)

      pub clear_first : KeptRoom f w₁ b n × (1 ≤ m) × (m ≤ n) × (mark_bit ≤ head_at f w₁ b m)
      clear_first =
          let k = mark-asks (first-there g) there.0 in
          rw cleared-second (room-put (spot f b m) (marked first_words) g.here.room, k.1, k.2, marked-head first_words words-first (stands (first-there g)))

      module _ {w₂ : List ℕ} (h₂ : w₂ ≡ put w₁ (spot f b m) ((head_at f w₁ b m - mark_bit) ∷ [])) where
        cleared-first : w₂ ≡ v
        cleared-first = unmarked first_words words-first (stands (first-there g)) (rw cleared-second at h₂)

        whole : t ≡ none → ⊥
        whole z = some g.branch.l g.branch.r (sym g.branch.is ∙ z)

        pub set-whole : KeptRoom f w₂ b n × (1 ≤ i) × (i ≤ n) × (head_at f w₂ b i < mark_bit)
        set-whole = rw cleared-first (mark-asks g.here whole)

        pub lifted : {w₃ : List ℕ} → w₃ ≡ put w₂ (spot f b i) ((head_at f w₂ b i + mark_bit) ∷ []) → w₃ ≡ put v (spot f b i) (mark_enc f p t none)
        lifted h₃ = mark-done g.here whole (rw cleared-first at h₃)

-- By what is left of each half.
bare-first : (c d : Trie) → not (is_none c) ≡ true → bare c d ≡ false
bare-first none d e = absurd (false≢true e)
bare-first (node x y) d e = refl

bare-second : (c d : Trie) → not (is_none d) ≡ true → bare c d ≡ false
bare-second none none e = absurd (false≢true e)
bare-second none (node x y) e = refl
bare-second (node x y) d e = refl

pub gone-is : (c : Trie) → not (is_none c) ≡ false → c ≡ none
gone-is none e = refl
gone-is (node x y) e = absurd (false≢true (sym e))

module _ {f : ℕ} {v w : List ℕ} {b n i e a m : ℕ} {p : Bits} {t c d : Trie} {x y : Bool} (g : Closing f v w b n i e a m p t c d) (ec : x ≡ not (is_none c))
    (ed : y ≡ not (is_none d)) where
  pub settle-first : x ≡ true → Left f v w b i p t (glue false c d) true
  settle-first h = left-some g (bare-first c d (sym ec ∙ h))

  pub settle-second : y ≡ true → Left f v w b i p t (glue false c d) true
  settle-second h = left-some g (bare-second c d (sym ed ∙ h))

  module _ (hc : x ≡ false) (hd : y ≡ false) where
    pub both-gone : Closing f v w b n i e a m p t none none
    both-gone = rw (gone-is c (sym ec ∙ hc), gone-is d (sym ed ∙ hd)) at g

    pub settle-gone : {u : List ℕ} → u ≡ put v (spot f b i) (mark_enc f p t none) → Left f v u b i p t (glue false c d) false
    settle-gone h = rw (gone-is c (sym ec ∙ hc), gone-is d (sym ed ∙ hd)) (record { wrote = h; rest = refl })
