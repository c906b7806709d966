-- Entries written behind others: none, one, and two parts that are one. What is laid level by level is the file of what lies between the edges. Assumes nothing.
use mathlib.Core.Bool.{Bool, true, false, not, cond, ◌&&◌, ◌||◌, or_assoc, beq as same}
use mathlib.Core.List.{List, [], ◌∷◌, ◌++◌, append-nil, append_assoc}
use mathlib.Core.Path.{◌≡◌, refl, ap, ap₂, sym, ◌∙◌}
use Prim.Native.Nat.{ℕ, zero, suc, ◌+◌, ◌-◌, ◌≤◌, ◌<◌}
use native.Mathlib.Nat.{mul-add}
use native.Mathlib.Numerals.{add-one}
use native.Mathlib.Omega.{arith}
use borrow.Author.Tests.{not-false}
use lib.Dec.{ltb}
use lib.ListN.{length, length-append}
use Rattle.nets.specs.Bits.{Bits, equal, val}
use Rattle.nets.specs.Tries.{Trie, bare, level, below, list_of}
use Rattle.nets.specs.Networks.{width, net_from}
use Rattle.nets.specs.declared.Net.{Net}
use Rattle.nets.proofs.Strings.{same_refl, same-is}
use Rattle.nets.proofs.Handing.{length-bits_left}
use Rattle.nodes.specs.Words.{put}
use Rattle.nodes.proofs.Put.{length-put, put-nil, put-behind-at}
use Rattle.trie_paths.specs.Spans.{snoc}
use Rattle.trie_paths.proofs.Paths.{path-is, length-snoc}
use Rattle.trie_paths.proofs.Levels.{below-list_of}
use Rattle.setfile_format.specs.Files.{file_bytes, most_entries, entry_bytes, entry_of, entries_of}
use Rattle.setfile_format.proofs.Written.{length-entries_of, file_bytes-mono, entry_at-next}
use Rattle.setfile_range.specs.Edges.{opened, aside, aside_of, asides, parted, On, Fits, Lays, Both, Edges}
use Rattle.setfile_range.specs.declared.edges.Edge.{Edge}
use Rattle.setfile_range.proofs.OfRange.{level-opened, level-start, levels-opened}

-- Nothing, one, and one part behind another.
pub lays-none : (f n : ℕ) (u : List ℕ) {l : List Bits} → l ≡ [] → Lays f l n u n u
unfolding entries_of
lays-none f n u e = rw e (record { count = omega arith; bytes = sym (put-nil u (file_bytes f n)) })

pub lays_one : (f n k : ℕ) (u : List ℕ) (p : Bits) {l : List Bits} {v : List ℕ} → l ≡ p ∷ [] → k ≡ file_bytes f n → v ≡ put u k (entry_of f p) → Lays f l n u (n + 1) v
unfolding entries_of
lays_one f n k u p e i h = rw e (record { count = refl; bytes = h ∙ rw i (ap (put u (file_bytes f n)) (sym (append-nil (entry_of f p)))) })

entries-append : (f : ℕ) (l m : List Bits) → entries_of f (l ++ m) ≡ entries_of f l ++ entries_of f m
unfolding entries_of
entries-append f [] m = refl
entries-append f (p ∷ l) m = rw (entries-append f l m) (sym (append_assoc (entry_of f p) (entries_of f l) (entries_of f m)))

file-bytes-more : (f n : ℕ) (l : List Bits) → file_bytes f (n + length l) ≡ file_bytes f n + length (entries_of f l)
unfolding file_bytes
file-bytes-more f n l = rw (length-entries_of f l) (omega (arith, mul-add (entry_bytes f) n (length l)))

pub lays_more : (f n : ℕ) (l m : List Bits) {u v y : List ℕ} {j k : ℕ} → Lays f l n u j v → Lays f m j v k y → Lays f (l ++ m) n u k y
lays_more f n l m {u} a b =
    record {
      count = b.count ∙ rw (a.count, length-append l m) (omega arith);
      bytes =
          b.bytes
          ∙ rw (a.bytes, a.count, entries-append f l m) (put-behind-at u (file_bytes f n) (file_bytes f (n + length l)) (entries_of f l) (entries_of f m) (file-bytes-more f n l));
    }

pub fits-first : (f n m : ℕ) (l k : List Bits) → Fits f (l ++ k) n m → Fits f l n m
fits-first f n m l k h =
    let e : n + length l ≤ n + length (l ++ k) = omega (arith, length-append l k) in
    record { room = omega (arith, h.room, file_bytes-mono f e); few = omega (arith, h.few) }

pub fits-second : (f n m : ℕ) (l k : List Bits) {j : ℕ} {u v : List ℕ} → length u ≡ m → Lays f l n u j v → Fits f (l ++ k) n m → Fits f k j (length v)
fits-second f n m l k {j} {u} {v} g a h =
    let e : j + length k ≡ n + length (l ++ k) = omega (arith, a.count, length-append l k) in
    let s : length v ≡ m = ap length a.bytes ∙ length-put u (file_bytes f n) (entries_of f l) ∙ g in
    record { room = rw (e, s) h.room; few = rw e h.few }

-- one entry fits, with the place that it goes to
pub one-fits : (f n m : ℕ) (p : Bits) {l : List Bits} → l ≡ p ∷ [] → Fits f l n m → (n + 1 ≤ most_entries) × (file_bytes f n + entry_bytes f ≤ m)
unfolding file_bytes
one-fits f n m p e h =
    let i : n + length (p ∷ []) ≡ n + 1 = refl in
    (omega (arith, ap length e, h.few), omega (arith, entry_at-next f n, ap (λ k. file_bytes f (n + length k)) e, h.room))

pub whole_room : {f k m : ℕ} {x y : Bool} {n : Net} → x ≡ false → y ≡ false → Fits f (cond (x || y) [] ([] ∷ [])) 0 m → k ≡ file_bytes f 0 → n ≡ net_from f [] → k + entry_bytes n.family ≤ m
whole_room {f} {m = m} {n = n} e g h i j = let z = (one-fits f 0 m [] (rw (e, g)) h).1 in omega (arith, ap entry_bytes (path-is n f [] j).1)

pub snoc-within : {f : ℕ} {x : Edge} {p : Bits} {c : Bool} {q : Bits} → On f x p (c ∷ q) → (b : Bool) → length (snoc p b) ≤ width f
snoc-within {p = p} {c = c} {q = q} o b = omega (arith, length-snoc p b, o.whole, length-append p (c ∷ q))

-- What an edge leaves aside.
pub aside-early : (t b : Bool) (p : Bits) (c : Bool) {z : Bool} → z ≡ false → aside_of z t b p c ≡ []
unfolding aside_of
aside-early t b p c e = rw e

pub aside-missing : (z b : Bool) (p : Bits) (c : Bool) {t : Bool} → t ≡ false → aside_of z t b p c ≡ []
unfolding aside_of
aside-missing true b p c e = rw e
aside-missing false b p c e = refl

pub aside-other : (z t b : Bool) (p : Bits) (c : Bool) → same c b ≡ false → aside_of z t b p c ≡ []
unfolding aside_of aside
aside-other true true b p c h = rw h
aside-other true false b p c h = refl
aside-other false t b p c h = refl

pub aside-one : (b : Bool) (p : Bits) {z t c : Bool} → z ≡ true → t ≡ true → c ≡ b → aside_of z t b p c ≡ snoc p (not b) ∷ []
unfolding aside_of aside
aside-one b p e g h = rw (e, g, h, same_refl b)

-- the same, by the tests of the code
pub aside-left : (z t b : Bool) (p : Bits) {r c : Bool} → not z ≡ false → not t ≡ false → r ≡ c → not (same r b) ≡ false → aside_of z t b p c ≡ snoc p (not b) ∷ []
aside-left z t b p h g e i = aside-one b p (not-false _ h) (not-false _ g) (sym e ∙ same-is _ _ (not-false _ i))

-- both edges: one behind the other
module _ (z l r : Bool) (p q : Bits) (c d : Bool) {f n : ℕ} where
  pub first-of : {m : ℕ} → Fits f (asides z l r p q c d) n m → Fits f (aside_of z l false p c) n m
  unfolding asides
  first-of {m} h = fits-first f n m (aside_of z l false p c) (aside_of z r true q d) h

  pub second-of : {u v : List ℕ} {j : ℕ} → Lays f (aside_of z l false p c) n u j v → Fits f (asides z l r p q c d) n (length u) → Fits f (aside_of z r true q d) j (length v)
  unfolding asides
  second-of {u = u} a h = fits-second f n (length u) (aside_of z l false p c) (aside_of z r true q d) refl a h

  pub both_of : {u v y : List ℕ} {j k : ℕ} → Lays f (aside_of z l false p c) n u j v → Lays f (aside_of z r true q d) j v k y → Lays f (asides z l r p q c d) n u k y
  unfolding asides
  both_of a b = lays_more f n (aside_of z l false p c) (aside_of z r true q d) a b

-- The edges have parted once their next bits differ.
equal-snoc : (p q : Bits) (c d : Bool) → length p ≡ length q → not (equal (snoc p c) (snoc q d)) ≡ (not (equal p q) || not (same c d))
equal-snoc [] [] true true e = refl
equal-snoc [] [] true false e = refl
equal-snoc [] [] false true e = refl
equal-snoc [] [] false false e = refl
equal-snoc [] (b ∷ q) c d e = absurd (omega arith)
equal-snoc (a ∷ p) [] c d e = absurd (omega arith)
equal-snoc (a ∷ p) (b ∷ q) c d e = go (same a b) (equal-snoc p q c d (omega arith))
  where
    go : (z : Bool) → not (equal (snoc p c) (snoc q d)) ≡ (not (equal p q) || not (same c d)) → not (z && equal (snoc p c) (snoc q d)) ≡ (not (z && equal p q) || not (same c d))
    go true h = h
    go false h = refl

pub parted-snoc : (l r : Bool) (p q : Bits) (c d : Bool) → length p ≡ length q → parted l r (snoc p c) (snoc q d) ≡ (parted l r p q || not (same c d))
parted-snoc l r p q c d e = rw (equal-snoc p q c d e) (sym (or_assoc (not (l && r)) (not (equal p q)) (not (same c d))))

-- with each bit one less is to come
pub shorter : {f : ℕ} {x y : Edge} {p q r : Bits} {c : Bool} → On f x p (c ∷ r) → On f y q r → y.ahead.len < x.ahead.len
shorter {x = x} {y = y} o k =
    omega (arith, length-bits_left x.ahead o.few, ap length o.ahead, length-bits_left y.ahead k.few, ap length k.ahead)

pub lays-length : {f n r : ℕ} {l : List Bits} {u v : List ℕ} → Lays f l n u r v → length v ≡ length u
lays-length {f} {n} {l = l} {u = u} a = ap length a.bytes ∙ length-put u (file_bytes f n) (entries_of f l)

-- What is laid after some bits: the networks of as many bits and fewer.
pub record Going (f : ℕ) (t : Trie) (P Q : Bits) (l r : Bool) (u v : List ℕ) (n : ℕ) (z : Bool) (x y : Edge) (p q a b : Bits) : Type 0 where
  pub left : On f x p a
  pub right : On f y q b
  pub left_is : p ++ a ≡ P
  pub right_is : q ++ b ≡ Q
  pub even : length p ≡ length q
  pub left_there : x.there ≡ l
  pub right_there : y.there ≡ r
  pub parted : z ≡ parted l r p q
  pub lays : Lays f (below bare (suc (length p)) t) 0 u n v

-- how many networks there are of fewer bits
below-le : (t : Trie) (n k : ℕ) → k ≤ n → length (below bare k t) ≤ length (below bare n t)
below-le t n k le = go n (n - k) (omega arith)
  where
    go : (n j : ℕ) → n ≡ k + j → length (below bare k t) ≤ length (below bare n t)
    go n zero e = let i : k ≡ n = omega arith in rw i (omega arith)
    go zero (suc j) e = absurd (omega arith)
    go (suc n) (suc j) e = omega (arith, go n j (omega arith), length-append (below bare n t) (level bare n t))

-- It starts with the network of no bits, if that is all.
pub going_start : (f : ℕ) (P Q : Bits) (x y : Edge) (u : List ℕ) {v : List ℕ} {n m : ℕ} {z : Bool} → Edges f x y P Q m → z ≡ (not x.there || not y.there)
    → Lays f (cond (x.there || y.there) [] ([] ∷ [])) 0 u n v
    → Going f (opened x.there y.there P Q) P Q x.there y.there u v n z x y [] [] P Q
going_start f P Q x y u h e a =
    record {
      left = h.left;
      right = h.right;
      left_is = refl;
      right_is = refl;
      even = refl;
      left_there = refl;
      right_there = refl;
      parted = e ∙ missing x.there y.there;
      lays = rw (level-start x.there y.there P Q) a;
    }
  where
    missing : (l r : Bool) → (not l || not r) ≡ (not (l && r) || false)
    missing true true = refl
    missing true false = refl
    missing false r = refl

module _ {f : ℕ} {P Q : Bits} {x₀ y₀ : Edge} {m : ℕ} (h : Edges f x₀ y₀ P Q m) where
  abbrev trie : Trie
  trie = opened x₀.there y₀.there P Q

  lengths : length P ≡ length Q
  lengths = h.left.whole ∙ sym h.right.whole

  all-below : below bare (suc (length P)) trie ≡ list_of trie
  all-below = below-list_of trie (suc (length P)) (levels-opened x₀.there y₀.there P Q lengths)

  -- there is room for what is still to come: a beginning of the list fits
  begins : (n k : ℕ) (l : List Bits) → k ≤ suc (length P) → n + length l ≡ length (below bare k trie) → Fits f l n m
  begins n k l le e =
      let a : length (below bare k trie) ≤ length (list_of trie) = rw (← all-below) (below-le trie (suc (length P)) k le) in
      let b : n + length l ≤ 0 + length (list_of trie) = omega arith in
      record { room = omega (arith, h.fits.room, file_bytes-mono f b); few = omega (arith, h.fits.few) }

  pub whole-fits : Fits f (cond (x₀.there || y₀.there) [] ([] ∷ [])) 0 m
  whole-fits = begins 0 1 (cond (x₀.there || y₀.there) [] ([] ∷ [])) (omega arith) (omega (arith, ap length (level-start x₀.there y₀.there P Q)))

  module _ {u v : List ℕ} {n : ℕ} {z : Bool} {x y : Edge} {p q a b : Bits} (g : Going f trie P Q x₀.there y₀.there u v n z x y p q a b) where
    -- no bit is left, and all is laid
    pub going_end : x.ahead.len ≡ 0 → Lays f (list_of trie) 0 u n v
    going_end e =
        let i : length a ≡ 0 = ap length (sym g.left.ahead) ∙ length-bits_left x.ahead g.left.few ∙ e in
        let k : length P ≡ length p = ap length (sym g.left_is) ∙ length-append p a ∙ omega arith in
        rw (ap (λ j. below bare (suc j) trie) (sym k) ∙ all-below) at g.lays

    -- both have bits to come
    module _ (e : x.ahead.len ≡ 0 → ⊥) where
      left-some : length a ≡ 0 → ⊥
      left-some i = e (sym (length-bits_left x.ahead g.left.few) ∙ ap length g.left.ahead ∙ i)

      same_left : length b ≡ length a
      same_left = omega (arith, g.left.whole, g.right.whole, length-append p a, length-append q b, g.even)

      pub going_on : (c : Bool) × (d : Bool) × (r : Bits) × (s : Bits) × Going f trie P Q x₀.there y₀.there u v n z x y p q (c ∷ r) (d ∷ s)
      going_on = go a b g left-some same_left
        where
          go : (a b : Bits) → Going f trie P Q x₀.there y₀.there u v n z x y p q a b → (length a ≡ 0 → ⊥) → length b ≡ length a
              → (c : Bool) × (d : Bool) × (r : Bits) × (s : Bits) × Going f trie P Q x₀.there y₀.there u v n z x y p q (c ∷ r) (d ∷ s)
          go [] b k i j = absurd (i refl)
          go (c ∷ r) [] k i j = absurd (omega arith)
          go (c ∷ r) (d ∷ s) k i j = (c, d, r, s, k)

  module _ {u v : List ℕ} {n : ℕ} {z : Bool} {x y : Edge} {p q : Bits} {c d : Bool} {a b : Bits} (g : Going f trie P Q x₀.there y₀.there u v n z x y p q (c ∷ a) (d ∷ b)) where
    pub going-both : Both f x y p q c d a b
    going-both = record { left = g.left; right = g.right }

    next_level : level bare (suc (length p)) trie ≡ asides z x.there y.there p q c d
    next_level =
        let i : length a ≡ length b = omega (arith, g.left.whole, g.right.whole, length-append p (c ∷ a), length-append q (d ∷ b), g.even) in
        ap₂ (λ A B. level bare (suc (length p)) (opened x₀.there y₀.there A B)) (sym g.left_is) (sym g.right_is)
        ∙ level-opened x₀.there y₀.there p q c d a b g.even i (λ l r. ap₂ (λ A B. ltb (val A) (val B)) g.left_is g.right_is ∙ h.order l r)
        ∙ sym (rw (g.parted, g.left_there, g.right_there))

    deeper : suc (suc (length p)) ≤ suc (length P)
    deeper = omega (arith, ap length g.left_is, length-append p (c ∷ a))

    pub going-fits : length u ≡ m → Fits f (asides z x.there y.there p q c d) n (length v)
    going-fits e =
        let l = below bare (suc (length p)) trie in
        let k = level bare (suc (length p)) trie in
        let i : n + length k ≡ length (l ++ k) = omega (arith, g.lays.count, length-append l k) in
        let j : length v ≡ m = ap length g.lays.bytes ∙ length-put u (file_bytes f 0) (entries_of f l) ∙ e in
        rw (j, ← next_level) (begins n (suc (suc (length p))) k deeper i)

    pub going_next : {v' : List ℕ} {n' : ℕ} {z' : Bool} {x' y' : Edge} → Lays f (asides z x.there y.there p q c d) n v n' v' → z' ≡ (z || not (same c d))
        → (x'.there ≡ x.there) × On f x' (snoc p c) a → (y'.there ≡ y.there) × On f y' (snoc q d) b
        → Going f trie P Q x₀.there y₀.there u v' n' z' x' y' (snoc p c) (snoc q d) a b
    going_next w i j k =
        record {
          left = j.1;
          right = k.1;
          left_is = append_assoc p (c ∷ []) a ∙ g.left_is;
          right_is = append_assoc q (d ∷ []) b ∙ g.right_is;
          even = omega (arith, length-snoc p c, length-snoc q d, g.even);
          left_there = j.0 ∙ g.left_there;
          right_there = k.0 ∙ g.right_there;
          parted = i ∙ rw g.parted (sym (parted-snoc x₀.there y₀.there p q c d g.even));
          lays =
              rw (length-snoc p c, add-one (length p), next_level)
              (lays_more f 0 (below bare (suc (length p)) trie) (asides z x.there y.there p q c d) g.lays w);
        }
