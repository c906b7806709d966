-- The check, turn by turn: what is read at a node, what the stack says, and what each turn makes of it. Assumes nothing.
use mathlib.Core.Path.{◌≡◌, refl, sym, ap, ◌∙◌}
use mathlib.Core.Bool.{Bool, true, false, not, cond}
use mathlib.Core.List.{List, []}
use Prim.Native.Nat.{ℕ, zero, suc, ◌+◌, ◌-◌, ◌≤◌, ◌<◌}
use native.Mathlib.Omega.{arith}
use native.Mathlib.Numerals.{sub-one}
use native.Mathlib.Decide.{ℕ_discrete}
use lib.Dec.{eqb}
use lib.ListN.{length, get_or, set, drop, length-set}
use lib.Seq.{get_or-set_same, get_or-set_other}
use borrow.Author.Tests.{eq-eqb, ne_eqb, eqb-true, eqb-false}
use Rattle.nets.specs.Bits.{Bits}
use Rattle.nets.specs.Networks.{width}
use Rattle.nets.specs.Tries.{Trie, none, node, leaf}
use Rattle.nets.proofs.Strings.{leads-length}
use Rattle.nets.proofs.Numbers.{width-le}
use Rattle.nodes.specs.Parse.{Read, bad, ok, bind}
use Rattle.nodes.proofs.Tries.{some}
use Rattle.trie_paths.specs.Spans.{snoc}
use Rattle.trie_paths.proofs.Paths.{length-snoc}
use Rattle.branch_points.specs.KeptTries.{kept_size}
use Rattle.branch_points.proofs.Sizes.{kept_size-leaf}
use Rattle.kept_nodes.specs.Parse.{KeptRoom, dist_at, string_at, is_node, lift, first, fits, kept_parse, kept_after}
use Rattle.kept_nodes.proofs.Hung.{kept_size-hung}
use Rattle.kept_nodes.proofs.NodeWords.{node-short, node-length}
use Rattle.kept_nodes.proofs.Parsed.{Fits, fits-are, own, parse-own, parse-of, stands}
use Rattle.kept_check.specs.Turns.{below, Above}

no_read : (t : Trie) → bad ≡ ok t → ⊥
no_read t e = let z : ◌≡◌ {A = ℕ} 0 1 = cc in omega arith

bind-cong : (x : Read) (k m : Trie → Read) → ((l : Trie) → k l ≡ m l) → bind x k ≡ bind x m
bind-cong bad k m f = refl
bind-cong (ok l) k m f = f l

-- the end of a node is that of its first child
after_first : (i j : ℕ) (r : Trie) (x : Read) → (r ≡ none → ⊥) → ((l : Trie) → x ≡ ok l → l ≡ none → ⊥) → j ≡ i + 1 + kept_size r
    → kept_after j x ≡ kept_after i (bind x (λ l. ok (node l r)))
unfolding kept_after kept_size
after_first i j r bad nr nl e = refl
after_first i j none (ok l) nr nl e = absurd (nr refl)
after_first i j (node z u) (ok none) nr nl e = absurd (nl none refl refl)
after_first i j (node z u) (ok (node x y)) nr nl e = omega arith

after-lift : (i : ℕ) (q : Bits) (x : Read) → ((t : Trie) → x ≡ ok t → t ≡ none → ⊥) → kept_after i (lift q x) ≡ kept_after i x
unfolding kept_after
after-lift i q bad ne = refl
after-lift i q (ok t) ne = ap (λ m. i + m) (kept_size-hung q t (ne t refl))

-- what is read with fuel enough for all strings, whatever string it is below
unfoldable pub reads : ℕ → List ℕ → ℕ → ℕ → Bits → ℕ → Read
reads f w b n p i = kept_parse f w b n (suc (width f)) p i

-- the number after all, where the part now read ends at e and the entries 1..k of the stack are the nodes whose first children are still to come
unfoldable pub unwind : ℕ → List ℕ → ℕ → ℕ → List ℕ → ℕ → ℕ → ℕ
unwind f w b n ats zero e = e
unwind f w b n ats (suc k) e =
    cond (eqb e 0) 0
    (cond (eqb (get_or ats (suc k) 0 + dist_at f w b (get_or ats (suc k) 0)) e)
    (unwind f w b n ats k (kept_after e (reads f w b n (snoc (string_at f w b (get_or ats (suc k) 0)) false) e))) 0)

module _ {f : ℕ} {w : List ℕ} {b n : ℕ} (room : KeptRoom f w b n) where
  parse-same : (j k : ℕ) (p : Bits) (i : ℕ) → suc (width f) ≤ j + length p → suc (width f) ≤ k + length p → 1 ≤ i → kept_parse f w b n j p i ≡ kept_parse f w b n k p i
  parse-same j k p i hj hk pos = go (kept_parse f w b n j p i) (kept_parse f w b n k p i) refl refl
    where
      go : (x y : Read) → kept_parse f w b n j p i ≡ x → kept_parse f w b n k p i ≡ y → x ≡ y
      go bad bad e h = refl
      go (ok t) y e h = let s = stands room j p i t pos e in sym (parse-of f w b n t k p i pos s.1 hk s.0) ∙ h
      go bad (ok t) e h = let s = stands room k p i t pos h in sym e ∙ parse-of f w b n t j p i pos s.1 hj s.0

  -- what is read is no empty trie
  solid : (p : Bits) (i : ℕ) → 1 ≤ i → (t : Trie) → reads f w b n p i ≡ ok t → t ≡ none → ⊥
  unfolding reads
  solid p i pos t e = (stands room (suc (width f)) p i t pos e).1

  -- the children of node i, and what is read there
  abbrev kids : ℕ → Trie → Read
  kids i r = bind (first (dist_at f w b i) r (reads f w b n (snoc (string_at f w b i) false) (i + 1 + kept_size r))) (λ l. ok (node l r))

  abbrev here : ℕ → Read
  here i = cond (eqb (dist_at f w b i) 0) (ok leaf) (bind (reads f w b n (snoc (string_at f w b i) true) (i + 1)) (kids i))

  own-here : (i : ℕ) → own f w b n (width f) i ≡ here i
  unfolding own reads
  own-here i =
      let s = string_at f w b i in
      let e : kept_parse f w b n (width f) (snoc s true) (i + 1) ≡ kept_parse f w b n (suc (width f)) (snoc s true) (i + 1) =
      parse-same (width f) (suc (width f)) (snoc s true) (i + 1) (omega (arith, length-snoc s true)) (omega arith) (omega arith) in
      let k : (r : Trie) → kept_parse f w b n (width f) (snoc s false) (i + 1 + kept_size r) ≡ kept_parse f w b n (suc (width f)) (snoc s false) (i + 1 + kept_size r) =
      λ r. parse-same (width f) (suc (width f)) (snoc s false) (i + 1 + kept_size r) (omega (arith, length-snoc s false)) (omega arith) (omega arith) in
      rw e (ap (λ x. cond (eqb (dist_at f w b i) 0) (ok leaf) x) (bind-cong (kept_parse f w b n (suc (width f)) (snoc s true) (i + 1)) _ (kids i) (λ r. rw (k r))))

  reads_here : (p : Bits) (i : ℕ) → fits f w b n p i ≡ true → reads f w b n p i ≡ lift (drop (length p) (string_at f w b i)) (here i)
  unfolding reads
  reads_here p i e = parse-own f w b n (width f) p i (fits-are f w b n p i e) ∙ rw (own-here i)

  reads-not : (p : Bits) (i : ℕ) → fits f w b n p i ≡ false → reads f w b n p i ≡ bad
  unfolding reads kept_parse
  reads-not p i e = rw e

  here-solid : (i : ℕ) (t : Trie) → here i ≡ ok t → t ≡ none → ⊥
  here-solid i t e z = go (eqb (dist_at f w b i) 0) (reads f w b n (snoc (string_at f w b i) true) (i + 1)) e
    where
      last : (r : Trie) (x : Read) → bind x (λ l. ok (node l r)) ≡ ok t → ⊥
      last r bad h = no_read t h
      last r (ok l) h = (let q : node l r ≡ none = cc in some l r q)

      go : (c : Bool) (x : Read) → cond c (ok leaf) (bind x (kids i)) ≡ ok t → ⊥
      go true x h = (let q : leaf ≡ none = cc in some none none q)
      go false bad h = no_read t h
      go false (ok r) h = last r (first (dist_at f w b i) r (reads f w b n (snoc (string_at f w b i) false) (i + 1 + kept_size r))) h

  after-here : (p : Bits) (i : ℕ) → fits f w b n p i ≡ true → kept_after i (reads f w b n p i) ≡ kept_after i (here i)
  after-here p i e = rw (reads_here p i e) (after-lift i (drop (length p) (string_at f w b i)) (here i) (here-solid i))

  pub leaf-end : (p : Bits) (i : ℕ) → fits f w b n p i ≡ true → dist_at f w b i ≡ 0 → i + 1 ≡ kept_after i (reads f w b n p i)
  unfolding kept_after
  leaf-end p i e z = sym (after-here p i e ∙ rw (eq-eqb (dist_at f w b i) 0 z) (ap (λ m. i + m) kept_size-leaf))

  pub lost-end : (p : Bits) (i : ℕ) → fits f w b n p i ≡ false → 0 ≡ kept_after i (reads f w b n p i)
  unfolding kept_after
  lost-end p i e = rw (reads-not p i e)

  -- The stack.
  module _ (ats : List ℕ) where
    unwind-lost : (k : ℕ) → unwind f w b n ats k 0 ≡ 0
    unfolding unwind
    unwind-lost zero = refl
    unwind-lost (suc k) = refl

    unwind-top : (k e a : ℕ) → (k ≡ 0 → ⊥) → (e ≡ 0 → ⊥) → get_or ats k 0 ≡ a → a + dist_at f w b a ≡ e
        → unwind f w b n ats k e ≡ unwind f w b n ats (k - 1) (kept_after e (reads f w b n (snoc (string_at f w b a) false) e))
    unfolding unwind
    unwind-top zero e a nz ne q at = absurd (nz refl)
    unwind-top (suc k) e a nz ne q at = rw (sub-one (suc k), q, ne_eqb e 0 ne, eq-eqb (a + dist_at f w b a) e at)

    unwind-off : (k e a : ℕ) → (k ≡ 0 → ⊥) → (e ≡ 0 → ⊥) → get_or ats k 0 ≡ a → (a + dist_at f w b a ≡ e → ⊥) → unwind f w b n ats k e ≡ 0
    unfolding unwind
    unwind-off zero e a nz ne q off = absurd (nz refl)
    unwind-off (suc k) e a nz ne q off = rw (q, ne_eqb e 0 ne, ne_eqb (a + dist_at f w b a) e off)

    unwind-below : (sp a k e : ℕ) → k < sp → unwind f w b n (set ats sp a) k e ≡ unwind f w b n ats k e
    unfolding unwind
    unwind-below sp a zero e lt = refl
    unwind-below sp a (suc k) e lt =
        rw (
          get_or-set_other ats sp (suc k) a 0 (omega arith),
          unwind-below sp a k (kept_after e (reads f w b n (snoc (string_at f w b (get_or ats (suc k) 0)) false) e))
              (omega arith),
        )

  -- a branch point goes on the stack
  module _ (ats : List ℕ) (sp i : ℕ) (up : 1 ≤ sp) (lt : sp < length ats) (nd : dist_at f w b i ≡ 0 → ⊥) where
    abbrev more : ℕ → ℕ
    more e = unwind f w b n (set ats sp i) sp e

    pushed-ok : (r : Trie) → (r ≡ none → ⊥) → Dec (dist_at f w b i ≡ 1 + kept_size r)
        → more (i + 1 + kept_size r) ≡ unwind f w b n ats (sp - 1) (kept_after i (kids i r))
    unfolding kept_after
    pushed-ok r nr (yes e) =
        let j = i + 1 + kept_size r in
        unwind-top (set ats sp i) sp j i (omega arith) (omega arith) (get_or-set_same ats sp i 0 lt) (omega arith)
        ∙ unwind-below ats sp i (sp - 1) (kept_after j (reads f w b n (snoc (string_at f w b i) false) j)) (omega arith)
        ∙ rw (eq-eqb (dist_at f w b i) (1 + kept_size r) e) (ap (unwind f w b n ats (sp - 1)) (after_first i j r (reads f w b n (snoc (string_at f w b i) false) j) nr
        (solid (snoc (string_at f w b i) false) j (omega arith)) refl))
    pushed-ok r nr (no e) =
        unwind-off (set ats sp i) sp (i + 1 + kept_size r) i (omega arith) (omega arith) (get_or-set_same ats sp i 0 lt) (λ h. e (omega arith))
        ∙ rw (ne_eqb (dist_at f w b i) (1 + kept_size r) e) (sym (unwind-lost ats (sp - 1)))

    pushed-read : (x : Read) → ((r : Trie) → x ≡ ok r → r ≡ none → ⊥) → more (kept_after (i + 1) x) ≡ unwind f w b n ats (sp - 1) (kept_after i (bind x (kids i)))
    unfolding kept_after
    pushed-read bad ne = unwind-lost (set ats sp i) sp ∙ sym (unwind-lost ats (sp - 1))
    pushed-read (ok r) ne = pushed-ok r (ne r refl) (ℕ_discrete (dist_at f w b i) (1 + kept_size r))

    pub pushed-end : (p : Bits) → fits f w b n p i ≡ true → more (kept_after (i + 1) (reads f w b n (snoc (string_at f w b i) true) (i + 1))) ≡ unwind f w b n ats
        (sp - 1) (kept_after i (reads f w b n p i))
    pushed-end p e =
        pushed-read (reads f w b n (snoc (string_at f w b i) true) (i + 1)) (solid (snoc (string_at f w b i) true) (i + 1) (omega arith))
        ∙ ap (unwind f w b n ats (sp - 1)) (sym (after-here p i e ∙ rw (ne_eqb (dist_at f w b i) 0 nd)))

-- an entry of the stack: a node, with a string as long as there are entries below it
pub record Entry (f : ℕ) (w : List ℕ) (b n j a : ℕ) : Type 0 where
  pub one : 1 ≤ a
  pub within : a ≤ n
  pub is : is_node f w b a ≡ true
  pub deep : j ≤ length (string_at f w b a) + 1

-- what holds at the head of the loop
pub record Loop (f : ℕ) (w : List ℕ) (b n root : ℕ) (ats : List ℕ) (sp i up : ℕ) (bit : Bool) : Type 0 where
  pub pos : 1 ≤ i
  pub wide : length ats ≡ 131
  pub high : 1 ≤ sp
  pub above : Above f w b n up
  pub deep : sp ≤ length (below f w b up bit) + 1
  pub each : (j : ℕ) → 1 ≤ j → j < sp → Entry f w b n j (get_or ats j 0)
  pub is : unwind f w b n ats (sp - 1) (kept_after i (reads f w b n (below f w b up bit) i)) ≡ kept_after root (reads f w b n [] root)

below-some : (f : ℕ) (w : List ℕ) (b up : ℕ) (c : Bool) → 1 ≤ up → below f w b up c ≡ snoc (string_at f w b up) c
unfolding below
below-some f w b up c le = rw (ne_eqb up 0 (omega arith))

-- node i has passed its tests
pub record Known (f : ℕ) (w : List ℕ) (b n up : ℕ) (bit : Bool) (i d : ℕ) : Type 0 where
  pub fit : fits f w b n (below f w b up bit) i ≡ true
  pub dist : d ≡ dist_at f w b i

module _ {f : ℕ} {w : List ℕ} {b n up i d : ℕ} {bit : Bool} (k : Known f w b n up bit i d) where
  pub known-fits : Fits f w b n (below f w b up bit) i
  known-fits = fits-are f w b n (below f w b up bit) i k.fit

  pub known-within : i ≤ n
  known-within = known-fits.within

  known-short : length (string_at f w b i) ≤ width f
  known-short = node-short f w b i known-fits.is

  known-deep : length (below f w b up bit) ≤ length (string_at f w b i)
  known-deep = leads-length (below f w b up bit) (string_at f w b i) known-fits.begins

module _ {f : ℕ} {w : List ℕ} {b n root : ℕ} {ats : List ℕ} {sp i up : ℕ} {bit : Bool} (room : KeptRoom f w b n) (o : Loop f w b n root ats sp i up bit) where
  pub gone : fits f w b n (below f w b up bit) i ≡ false → 0 ≡ kept_after root (reads f w b n [] root)
  gone e = sym (unwind-lost room ats (sp - 1)) ∙ ap (unwind f w b n ats (sp - 1)) (lost-end room (below f w b up bit) i e) ∙ o.is

  module _ {d : ℕ} (k : Known f w b n up bit i d) where
    pub room_for : sp < 130
    room_for = omega (arith, o.deep, known-deep k, known-short k, width-le f)

    pub ended : d ≡ 0 → sp - 1 ≡ 0 → i + 1 ≡ kept_after root (reads f w b n [] root)
    unfolding unwind
    ended z e = leaf-end room (below f w b up bit) i k.fit (sym k.dist ∙ z) ∙ (rw e at o.is)

    leaf-is : d ≡ 0 → unwind f w b n ats (sp - 1) (i + 1) ≡ kept_after root (reads f w b n [] root)
    leaf-is z = ap (unwind f w b n ats (sp - 1)) (leaf-end room (below f w b up bit) i k.fit (sym k.dist ∙ z)) ∙ o.is

    pub elsewhere : d ≡ 0 → (sp - 1 ≡ 0 → ⊥) → (get_or ats (sp - 1) 0 + dist_at f w b (get_or ats (sp - 1) 0) ≡ i + 1 → ⊥) → 0 ≡ kept_after root (reads f w b n [] root)
    elsewhere z nz off = sym (unwind-off room ats (sp - 1) (i + 1) (get_or ats (sp - 1) 0) nz (omega arith) refl off) ∙ leaf-is z

    pub popped : d ≡ 0 → (sp - 1 ≡ 0 → ⊥) → get_or ats (sp - 1) 0 + dist_at f w b (get_or ats (sp - 1) 0) ≡ i + 1
        → Loop f w b n root (set ats sp i) (sp - 1) (i + 1) (get_or ats (sp - 1) 0) false
    popped z nz at =
        let a = get_or ats (sp - 1) 0 in
        let g = o.each (sp - 1) (omega arith) (omega (arith, o.high)) in
        let q = below-some f w b a false g.one in
        record {
          pos = omega arith;
          wide = length-set ats sp i ∙ o.wide;
          high = omega arith;
          above = record { within = g.within; short = λ ne. omega (arith, node-length f w b a g.is, node-short f w b a g.is) };
          deep = rw q (omega (arith, g.deep, length-snoc (string_at f w b a) false));
          each = λ j p lt. rw (get_or-set_other ats sp j i 0 (omega arith)) (o.each j p (omega arith));
          is = rw q (unwind-below room ats sp i (sp - 1 - 1) _ (omega arith) ∙ sym (unwind-top room ats (sp - 1) (i + 1) a nz (omega arith) refl at) ∙ leaf-is z);
        }

    pub pushed : (d ≡ 0 → ⊥) → Loop f w b n root (set ats sp i) (sp + 1) (i + 1) i true
    pushed nz =
        let q = below-some f w b i true o.pos in
        let x = known-fits k in
        let lt : sp < length ats = omega (arith, o.wide, room_for) in
        let top : sp + 1 - 1 ≡ sp = omega arith in
        let new : Entry f w b n sp i = record { one = o.pos; within = x.within; is = x.is; deep = omega (arith, o.deep, known-deep k) } in
        record {
          pos = omega arith;
          wide = length-set ats sp i ∙ o.wide;
          high = omega arith;
          above = record { within = x.within; short = λ ne. omega (arith, node-length f w b i x.is, node-short f w b i x.is) };
          deep = rw q (omega (arith, o.deep, known-deep k, length-snoc (string_at f w b i) true));
          each = λ j p l. entry new lt j p l (ℕ_discrete j sp);
          is = rw (q, top) (pushed-end room ats sp i o.high lt (λ e. nz (k.dist ∙ e)) (below f w b up bit) k.fit ∙ o.is);
        }
      where
        entry : Entry f w b n sp i → sp < length ats → (j : ℕ) → 1 ≤ j → j < sp + 1 → Dec (j ≡ sp) → Entry f w b n j (get_or (set ats sp i) j 0)
        entry new lt j p l (yes e) = rw (e, get_or-set_same ats sp i 0 lt) new
        entry new lt j p l (no ne) = rw (get_or-set_other ats sp j i 0 ne) (o.each j p (omega arith))

-- The turn by the code's numbers: the stack pointer s after it, the place t of the node whose child is next, that node u, and whether its child is the next node.
pub record Turn (d : ℕ) (ats : List ℕ) (sp i s t u : ℕ) : Type 0 where
  pub step : s ≡ cond (eqb d 0) (sp - 1) (sp + 1)
  pub place : t ≡ cond (eqb d 0) s (s - 1)
  pub node : u ≡ get_or (set ats sp i) t 0

module _ {f : ℕ} {w : List ℕ} {b n root : ℕ} {ats : List ℕ} {sp i up : ℕ} {bit : Bool} (room : KeptRoom f w b n) (o : Loop f w b n root ats sp i up bit)
    {d : ℕ} (k : Known f w b n up bit i d) where
  pub stop : (s : ℕ) → s ≡ cond (eqb d 0) (sp - 1) (sp + 1) → s ≡ 0 → i + 1 ≡ kept_after root (reads f w b n [] root)
  stop s e z = go (ℕ_discrete d 0)
    where
      go : Dec (d ≡ 0) → i + 1 ≡ kept_after root (reads f w b n [] root)
      go (yes h) = ended room o k h (sym (rw (eq-eqb d 0 h) at e) ∙ z)
      go (no h) = let q = rw (ne_eqb d 0 h) at e in absurd (omega arith)

  module _ {s t u : ℕ} (g : Turn d ats sp i s t u) (nz : s ≡ 0 → ⊥) where
    leaf-turn : d ≡ 0 → (s ≡ sp - 1) × (t ≡ sp - 1) × (u ≡ get_or ats (sp - 1) 0)
    leaf-turn h =
        let p : s ≡ sp - 1 = rw (eq-eqb d 0 h) at g.step in
        let q : t ≡ s = rw (eq-eqb d 0 h) at g.place in
        let e : t ≡ sp - 1 = omega arith in
        (p, e, g.node ∙ rw e (get_or-set_other ats sp (sp - 1) i 0 (omega (arith, o.high))))

    branch-turn : (d ≡ 0 → ⊥) → (s ≡ sp + 1) × (t ≡ sp) × (u ≡ i)
    branch-turn h =
        let p : s ≡ sp + 1 = rw (ne_eqb d 0 h) at g.step in
        let q : t ≡ s - 1 = rw (ne_eqb d 0 h) at g.place in
        let e : t ≡ sp = omega arith in
        (p, e, g.node ∙ rw e (get_or-set_same ats sp i 0 (omega (arith, o.wide, room_for room o k))))

    pub turn-place : t < 131
    turn-place = go (ℕ_discrete d 0)
      where
        go : Dec (d ≡ 0) → t < 131
        go (yes h) = omega (arith, leaf-turn h, room_for room o k)
        go (no h) = omega (arith, branch-turn h, room_for room o k)

    pub turn-node : (1 ≤ u) × (u ≤ n)
    turn-node = go (ℕ_discrete d 0)
      where
        go : Dec (d ≡ 0) → (1 ≤ u) × (u ≤ n)
        go (yes h) = let l = leaf-turn h in let e = o.each (sp - 1) (omega arith) (omega (arith, o.high)) in rw l.2 (e.one, e.within)
        go (no h) = let l = branch-turn h in (omega (arith, o.pos), omega (arith, known-within k))

    pub off : cond (eqb d 0) (eqb (u + dist_at f w b u) (i + 1)) true ≡ false → 0 ≡ kept_after root (reads f w b n [] root)
    off e = go (ℕ_discrete d 0)
      where
        go : Dec (d ≡ 0) → 0 ≡ kept_after root (reads f w b n [] root)
        go (yes h) =
            let l = leaf-turn h in
            let q = rw (eq-eqb d 0 h, l.2) at e in
            elsewhere room o k h (λ z. nz (omega arith)) (eqb-false _ (i + 1) q)
        go (no h) = let z : ◌≡◌ {A = ℕ} 0 1 = cc (rw (ne_eqb d 0 h) at e) in absurd (omega arith)

    pub on : cond (eqb d 0) (eqb (u + dist_at f w b u) (i + 1)) true ≡ true → Loop f w b n root (set ats sp i) s (i + 1) u (not (eqb d 0))
    on e = go (ℕ_discrete d 0)
      where
        go : Dec (d ≡ 0) → Loop f w b n root (set ats sp i) s (i + 1) u (not (eqb d 0))
        go (yes h) =
            let l = leaf-turn h in
            let q = rw (eq-eqb d 0 h, l.2) at e in
            rw (eq-eqb d 0 h, l.0, l.2) (popped room o k h (λ z. nz (omega arith)) (eqb-true _ (i + 1) q))
        go (no h) = let l = branch-turn h in rw (ne_eqb d 0 h, l.0, l.2) (pushed room o k h)

-- the start
pub begin : {f : ℕ} {w : List ℕ} {b n root : ℕ} (ats : List ℕ) → length ats ≡ 131 → 1 ≤ root → Loop f w b n root ats 1 root 0 false
unfolding unwind below
begin ats e pos = record {
  pos = pos;
  wide = e;
  high = omega arith;
  above = record { within = omega arith; short = λ ne. absurd (ne refl) };
  deep = omega arith;
  each = λ j p lt. absurd (omega arith);
  is = refl;
}
