-- A turn of the check, by the flags of the code, and what its stack says: the entries below the stack pointer count, whatever stands at and above it. Assumes nothing.
use mathlib.Core.Path.{◌≡◌, refl, sym, ap, ◌∙◌}
use mathlib.Core.List.{List}
use Prim.Native.Nat.{ℕ, zero, suc, ◌+◌, ◌-◌, ◌*◌, ◌/◌, ◌%◌, ◌≤◌, ◌<◌}
use native.Mathlib.Omega.{arith}
use native.Mathlib.Numerals.{sub-one}
use native.Mathlib.Decide.{ℕ_discrete}
use lib.Dec.{eqb, ltb}
use lib.ListN.{length, get_or, set, length-set}
use Rattle.std.specs.Int.{from_bool}
use lib.Seq.{get_or-set_same, get_or-set_other}
use borrow.Author.Tests.{le-leb, lt-leb, le-ltb, eq-eqb, ne_eqb, ltb-true, ltb-false}
use Rattle.nets.specs.Tries.{Trie, none, node, size}
use mathlib.Core.Bool.{Bool, true, false, cond}
use Rattle.nodes.specs.Words.{word_at}
use Rattle.nodes.specs.Parse.{Read, bad, ok, bind, first, second, parse, after}

module _ (w : List ℕ) (b n : ℕ) where
  past : (f i : ℕ) → n < i → parse w b n f i ≡ bad
  unfolding parse
  past zero i lt = refl
  past (suc f) i lt = rw (lt-leb i n lt)

  pub end-dry : (f i : ℕ) → f ≡ 0 → 0 ≡ after i (parse w b n f i)
  unfolding parse after
  end-dry f i z = rw z

  pub end-past : (f i : ℕ) → n < i → 0 ≡ after i (parse w b n f i)
  unfolding after
  end-past f i lt = rw (past f i lt)

-- the end of a node is that of its last child
after-second : (i j : ℕ) (l : Trie) (q : Read) → j ≡ i + 1 + size l → after j q ≡ after i (bind q (λ r. ok (node l r)))
unfolding after size
after-second i j l bad e = refl
after-second i j l (ok r) e = omega arith

-- node i is within n, there is fuel, and x is its word
pub record Known (w : List ℕ) (b n f i x : ℕ) : Type 0 where
  pub fuel : f ≡ 0 → ⊥
  pub within : i ≤ n
  pub here : x ≡ word_at w b i

pub known : {w : List ℕ} {b n fuel d i x : ℕ} → d < fuel → i ≤ n → x ≡ word_at w b i → Known w b n (fuel - d) i x
known lt le e = record { fuel = λ z. omega arith; within = le; here = e }

-- the number after all, where the part now read ends at e and the entries 1..k of the stack are the second children still to come: each starts where what is before it ends
unfoldable pub unwind : List ℕ → ℕ → ℕ → ℕ → List ℕ → ℕ → ℕ → ℕ
unwind w b n fuel st zero e = e
unwind w b n fuel st (suc k) e =
    cond (eqb e 0) 0
    (cond (eqb (get_or st (suc k) 0 / 256) (2 * e)) (unwind w b n fuel st k (after e (parse w b n (fuel - get_or st (suc k) 0 % 256) e))) 0)

module _ (w : List ℕ) (b n fuel : ℕ) (st : List ℕ) where
  unwind-lost : (k : ℕ) → unwind w b n fuel st k 0 ≡ 0
  unfolding unwind
  unwind-lost zero = refl
  unwind-lost (suc k) = refl

  -- the top comes next, or is elsewhere
  unwind-top : (k e : ℕ) → (k ≡ 0 → ⊥) → (e ≡ 0 → ⊥) → get_or st k 0 / 256 ≡ 2 * e
      → unwind w b n fuel st k e ≡ unwind w b n fuel st (k - 1) (after e (parse w b n (fuel - get_or st k 0 % 256) e))
  unfolding unwind
  unwind-top zero e nz ne at = absurd (nz refl)
  unwind-top (suc k) e nz ne at = rw (sub-one (suc k), ne_eqb e 0 ne, eq-eqb (get_or st (suc k) 0 / 256) (2 * e) at)

  unwind-off : (k e : ℕ) → (k ≡ 0 → ⊥) → (e ≡ 0 → ⊥) → (get_or st k 0 / 256 ≡ 2 * e → ⊥) → unwind w b n fuel st k e ≡ 0
  unfolding unwind
  unwind-off zero e nz ne off = absurd (nz refl)
  unwind-off (suc k) e nz ne off = rw (ne_eqb e 0 ne, ne_eqb (get_or st (suc k) 0 / 256) (2 * e) off)

-- a turn's store is at the stack pointer, which a push makes the top
module _ (st : List ℕ) (sp v : ℕ) where
  stack-below : (j : ℕ) → j < sp → get_or (set st sp v) j 0 ≡ get_or st j 0
  stack-below j lt = get_or-set_other st sp j v 0 (omega arith)

  unwind-below : (w : List ℕ) (b n fuel k e : ℕ) → k < sp → unwind w b n fuel (set st sp v) k e ≡ unwind w b n fuel st k e
  unfolding unwind
  unwind-below w b n fuel zero e lt = refl
  unwind-below w b n fuel (suc k) e lt = rw (stack-below (suc k) lt, unwind-below w b n fuel k (after e (parse w b n (fuel - get_or st (suc k) 0 % 256) e)) (omega arith))

module _ {w : List ℕ} {b n f i x : ℕ} (k : Known w b n f i x) where
  -- the node's second child, once the first is read
  abbrev rest : Trie → Read
  rest l = bind (second x l (parse w b n (f - 1) (i + 1 + size l))) (λ r. ok (node l r))

  opened : parse w b n f i ≡ bind (first x (parse w b n (f - 1) (i + 1))) rest
  unfolding parse
  opened = go f k.fuel ∙ rw k.here
    where
      go : (g : ℕ) → (g ≡ 0 → ⊥) → parse w b n g i ≡ bind (first (word_at w b i) (parse w b n (g - 1) (i + 1))) (λ l. bind (second (word_at w b i) l (parse w b n (g - 1) (i + 1 + size l))) (λ r. ok (node l r)))
      go zero nz = absurd (nz refl)
      go (suc g) nz = rw (le-leb i n k.within, sub-one (suc g))

  -- a leaf ends at the next number
  leaf-end : x ≡ 0 → i + 1 ≡ after i (parse w b n f i)
  unfolding after size
  leaf-end z = rw (opened, eq-eqb (x % 2) 0 (omega arith), eq-eqb (x / 2) 0 (omega arith)) (omega arith)

  -- one child: the end of the node is that of the child, which is next
  one-read : (q : Read) → x / 2 ≡ 0 → after (i + 1) q ≡ after i (bind q rest)
  unfolding after size
  one-read bad e = refl
  one-read (ok l) e = rw (eq-eqb (x / 2) 0 e) (omega arith)

  one_end : x ≡ 1 → after (i + 1) (parse w b n (f - 1) (i + 1)) ≡ after i (parse w b n f i)
  one_end e = rw (opened, ne_eqb (x % 2) 0 (omega arith)) (one-read (parse w b n (f - 1) (i + 1)) (omega arith))

  two-end : x ≡ 2 → after (i + 1) (parse w b n (f - 1) (i + 1)) ≡ after i (parse w b n f i)
  unfolding size
  two-end e =
      let q : i + 1 + 0 ≡ i + 1 = omega arith in
      rw (opened, eq-eqb (x % 2) 0 (omega arith), ne_eqb (x / 2) 0 (omega arith), eq-eqb (x / 2) (1 + 0) (omega arith), q) (after-second i (i + 1) none _ (omega arith))

  single-end : (x ≡ 0 → ⊥) → x ≤ 2 → after (i + 1) (parse w b n (f - 1) (i + 1)) ≡ after i (parse w b n f i)
  single-end nz le = go (ℕ_discrete x 1)
    where
      go : Dec (x ≡ 1) → after (i + 1) (parse w b n (f - 1) (i + 1)) ≡ after i (parse w b n f i)
      go (yes e) = one_end e
      go (no e) = two-end (omega arith)

  -- a second child alone that is not next
  even-end : 2 < x → x % 2 ≡ 0 → 0 ≡ after i (parse w b n f i)
  unfolding after size
  even-end lt e = rw (opened, eq-eqb (x % 2) 0 e, ne_eqb (x / 2) 0 (omega arith), ne_eqb (x / 2) (1 + 0) (omega arith))

  -- two children: the second goes on the stack, as v
  module _ (st : List ℕ) (fuel sp v : ℕ) (pos : 1 ≤ sp) (lt : 2 < x) (la : sp < length st) (where-v : v / 256 ≡ 2 * i + x - 1) (fuel-v : fuel - v % 256 ≡ f - 1) where
    abbrev more : ℕ → ℕ
    more e = unwind w b n fuel (set st sp v) sp e

    stored : get_or (set st sp v) sp 0 ≡ v
    stored = get_or-set_same st sp v 0 la

    pushed-off : (e : ℕ) → (e ≡ 0 → ⊥) → (2 * i + x - 1 ≡ 2 * e → ⊥) → more e ≡ 0
    pushed-off e ne off = unwind-off w b n fuel (set st sp v) sp e (omega arith) ne (λ h. off (sym where-v ∙ ap (λ (y : ℕ). y / 256) (sym stored) ∙ h))

    pushed-lost : (l : Trie) → (x / 2 ≡ 1 + size l → ⊥) → unwind w b n fuel st (sp - 1) (after i (rest l)) ≡ 0
    unfolding after
    pushed-lost l e = rw (ne_eqb (x / 2) 0 (omega arith), ne_eqb (x / 2) (1 + size l) e) (unwind-lost w b n fuel st (sp - 1))

    pushed-ok : (l : Trie) → (x % 2 ≡ 0 → ⊥) → Dec (x / 2 ≡ 1 + size l) → more (i + 1 + size l) ≡ unwind w b n fuel st (sp - 1) (after i (rest l))
    pushed-ok l odd (yes e) =
        unwind-top w b n fuel (set st sp v) sp (i + 1 + size l) (omega arith) (omega arith) (ap (λ (y : ℕ). y / 256) stored ∙ omega (arith, where-v))
        ∙ rw (
          stored,
          fuel-v,
          unwind-below st sp v w b n fuel (sp - 1) (after (i + 1 + size l) (parse w b n (f - 1) (i + 1 + size l))) (omega arith),
          ne_eqb (x / 2) 0 (omega arith),
          eq-eqb (x / 2) (1 + size l) e,
          after-second i (i + 1 + size l) l (parse w b n (f - 1) (i + 1 + size l)) refl,
        )
    pushed-ok l odd (no e) = pushed-off (i + 1 + size l) (omega arith) (λ h. e (omega (arith, odd))) ∙ sym (pushed-lost l e)

    pushed-read : (q : Read) → (x % 2 ≡ 0 → ⊥) → more (after (i + 1) q) ≡ unwind w b n fuel st (sp - 1) (after i (bind q rest))
    unfolding after
    pushed-read bad odd = unwind-lost w b n fuel (set st sp v) sp ∙ sym (unwind-lost w b n fuel st (sp - 1))
    pushed-read (ok l) odd = pushed-ok l odd (ℕ_discrete (x / 2) (1 + size l))

    -- an even word's entry is never next
    pushed-even : (q : Read) → x % 2 ≡ 0 → more (after (i + 1) q) ≡ 0
    unfolding after
    pushed-even bad even = unwind-lost w b n fuel (set st sp v) sp
    pushed-even (ok l) even = pushed-off (i + 1 + size l) (omega arith) (λ h. omega arith)

    pushed-end : more (after (i + 1) (parse w b n (f - 1) (i + 1))) ≡ unwind w b n fuel st (sp - 1) (after i (parse w b n f i))
    pushed-end = go (ℕ_discrete (x % 2) 0)
      where
        go : Dec (x % 2 ≡ 0) → more (after (i + 1) (parse w b n (f - 1) (i + 1))) ≡ unwind w b n fuel st (sp - 1) (after i (parse w b n f i))
        go (yes e) = pushed-even (parse w b n (f - 1) (i + 1)) e ∙ sym (unwind-lost w b n fuel st (sp - 1)) ∙ ap (unwind w b n fuel st (sp - 1)) (even-end lt e)
        go (no odd) = rw (opened, ne_eqb (x % 2) 0 odd) (pushed-read (parse w b n (f - 1) (i + 1)) odd)

-- what holds at the head of the loop: at is 512 times the number of the next node, plus its depth
pub record Loop (w : List ℕ) (b n fuel root : ℕ) (st : List ℕ) (sp i at : ℕ) : Type 0 where
  pub pos : 1 ≤ i
  pub here : at / 256 ≡ 2 * i
  pub deep : length st ≡ 131
  pub up : 1 ≤ sp
  pub room : sp ≤ at % 256 + 1
  pub each : (j : ℕ) → 1 ≤ j → j < sp → j ≤ get_or st j 0 % 256
  pub is : unwind w b n fuel st (sp - 1) (after i (parse w b n (fuel - at % 256) i)) ≡ after root (parse w b n fuel root)

pub loop-start : {w : List ℕ} {b n fuel root : ℕ} {st : List ℕ} → 1 ≤ root → length st ≡ 131 → Loop w b n fuel root st 1 root (512 * root)
unfolding unwind
loop-start {fuel = fuel} {root = root} pos deep =
    let d : fuel - 512 * root % 256 ≡ fuel = omega arith in
    record { pos = pos; here = omega arith; deep = deep; up = omega arith; room = omega arith; each = λ j p l. absurd (omega arith); is = rw d }

module _ {w : List ℕ} {b n fuel root : ℕ} {st : List ℕ} {sp i at : ℕ} (o : Loop w b n fuel root st sp i at) where
  pub gone : 0 ≡ after i (parse w b n (fuel - at % 256) i) → 0 ≡ after root (parse w b n fuel root)
  gone q = sym (unwind-lost w b n fuel st (sp - 1)) ∙ ap (unwind w b n fuel st (sp - 1)) q ∙ o.is

  -- a turn's store leaves the entries
  kept : (v : ℕ) → Loop w b n fuel root (set st sp v) sp i at
  kept v = record {
    pos = o.pos;
    here = o.here;
    deep = length-set st sp v ∙ o.deep;
    up = o.up;
    room = o.room;
    each = λ j pos lt. rw (stack-below st sp v j lt) (o.each j pos lt);
    is = unwind-below st sp v w b n fuel (sp - 1) (after i (parse w b n (fuel - at % 256) i)) (omega (arith, o.up)) ∙ o.is;
  }

  ended : sp - 1 ≡ 0 → i + 1 ≡ after i (parse w b n (fuel - at % 256) i) → i + 1 ≡ after root (parse w b n fuel root)
  unfolding unwind
  ended z q = q ∙ (rw z at o.is)

  elsewhere : (sp - 1 ≡ 0 → ⊥) → i + 1 ≡ after i (parse w b n (fuel - at % 256) i) → (get_or st (sp - 1) 0 / 256 ≡ 2 * (i + 1) → ⊥) → 0 ≡ after root (parse w b n fuel root)
  elsewhere nz q off = sym (unwind-off w b n fuel st (sp - 1) (i + 1) nz (omega arith) off) ∙ ap (unwind w b n fuel st (sp - 1)) q ∙ o.is

  popped : (sp - 1 ≡ 0 → ⊥) → i + 1 ≡ after i (parse w b n (fuel - at % 256) i) → get_or st (sp - 1) 0 / 256 ≡ 2 * (i + 1)
      → Loop w b n fuel root st (sp - 1) (i + 1) (get_or st (sp - 1) 0)
  popped nz q next = record {
    pos = omega arith;
    here = next;
    deep = o.deep;
    up = omega arith;
    room = omega (arith, o.each (sp - 1) (omega arith) (omega arith));
    each = λ j pos lt. o.each j pos (omega arith);
    is = sym (unwind-top w b n fuel st (sp - 1) (i + 1) nz (omega arith) next) ∙ ap (unwind w b n fuel st (sp - 1)) q ∙ o.is;
  }

  -- one level down
  module _ (small : fuel ≤ 129) (shallow : at % 256 < fuel) where
    down-depth : (at + 513) % 256 ≡ at % 256 + 1
    down-depth = omega arith

    down-fuel : fuel - (at + 513) % 256 ≡ fuel - at % 256 - 1
    down-fuel = omega arith

    down-here : (at + 513) / 256 ≡ 2 * (i + 1)
    down-here = omega (arith, o.here)

    single : after (i + 1) (parse w b n (fuel - at % 256 - 1) (i + 1)) ≡ after i (parse w b n (fuel - at % 256) i) → Loop w b n fuel root st sp (i + 1) (at + 513)
    single q = record {
      pos = omega arith;
      here = down-here;
      deep = o.deep;
      up = o.up;
      room = omega (arith, down-depth, o.room);
      each = o.each;
      is = rw down-fuel (ap (unwind w b n fuel st (sp - 1)) q ∙ o.is);
    }

    module _ {x : ℕ} (k : Known w b n (fuel - at % 256) i x) where
      abbrev entry : ℕ
      entry = at + 256 * x - 255

      entry_place : entry / 256 ≡ 2 * i + x - 1
      entry_place = omega (arith, o.here, o.pos)

      entry-depth : entry % 256 ≡ at % 256 + 1
      entry-depth = omega (arith, o.here, o.pos)

      inside : sp < length st
      inside = omega (arith, o.room, o.deep)

      each_pushed : (j : ℕ) → 1 ≤ j → j < sp + 1 → j ≤ get_or (set st sp entry) j 0 % 256
      each_pushed j pos lt = go (ℕ_discrete j sp)
        where
          go : Dec (j ≡ sp) → j ≤ get_or (set st sp entry) j 0 % 256
          go (yes e) = rw (e, get_or-set_same st sp entry 0 inside) (omega (arith, entry-depth, o.room))
          go (no ne) = rw (stack-below st sp entry j (omega arith)) (o.each j pos (omega arith))

      pushed : 2 < x → Loop w b n fuel root (set st sp entry) (sp + 1) (i + 1) (at + 513)
      pushed lt =
          let top : sp + 1 - 1 ≡ sp = omega arith in
          record {
            pos = omega arith;
            here = down-here;
            deep = length-set st sp entry ∙ o.deep;
            up = omega arith;
            room = omega (arith, down-depth, o.room);
            each = each_pushed;
            is = rw (top, down-fuel) (pushed-end k st fuel sp entry o.up lt inside entry_place (omega (arith, entry-depth)) ∙ o.is);
          }

flag-le : (t : Bool) {r : ℕ} → r ≡ from_bool t → r ≤ 1
flag-le true e = omega arith
flag-le false e = omega arith

-- the flags of the word x: it is a leaf's, it is of two children (or of no node)
pub record Flags (x leaf two : ℕ) : Type 0 where
  pub none : leaf ≡ from_bool (eqb x 0)
  pub both : two ≡ from_bool (ltb 2 x)

pub flags-small : {x leaf two : ℕ} → Flags x leaf two → (leaf ≤ 1) × (two ≤ 1)
flags-small {x} g = (flag-le (eqb x 0) g.none, flag-le (ltb 2 x) g.both)

-- the word of a leaf, of one child, of two
data Kind (x leaf two : ℕ) : Type 0 where
  of_none : x ≡ 0 → leaf ≡ 1 → two ≡ 0 → Kind x leaf two
  of_one : (x ≡ 0 → ⊥) → x ≤ 2 → leaf ≡ 0 → two ≡ 0 → Kind x leaf two
  of_two : 2 < x → leaf ≡ 0 → two ≡ 1 → Kind x leaf two

kind : {x leaf two : ℕ} → Flags x leaf two → Kind x leaf two
kind {x} {leaf} {two} g = go (ℕ_discrete x 0)
  where
    more : (x ≡ 0 → ⊥) → leaf ≡ 0 → (t : Bool) → ltb 2 x ≡ t → two ≡ from_bool t → Kind x leaf two
    more nz z true q e = of_two (ltb-true 2 x q) z e
    more nz z false q e = of_one nz (ltb-false 2 x q) z e

    go : Dec (x ≡ 0) → Kind x leaf two
    go (yes e) = of_none e (rw (eq-eqb x 0 e) at g.none) (rw (le-ltb 2 x (omega arith)) at g.both)
    go (no ne) = more ne (rw (ne_eqb x 0 ne) at g.none) (ltb 2 x) refl g.both

-- the end of a turn, whose store is made
module _ {w : List ℕ} {b n fuel root : ℕ} {st : List ℕ} {sp i at x leaf two : ℕ} (o : Loop w b n fuel root st sp i at) (k : Known w b n (fuel - at % 256) i x) (g : Flags x leaf two) where
  pub done : sp + two - leaf ≡ 0 → i + 1 ≡ after root (parse w b n fuel root)
  done z = go (kind g)
    where
      go : Kind x leaf two → i + 1 ≡ after root (parse w b n fuel root)
      go (of_none e l t) = ended o (omega arith) (leaf-end k e)
      go (of_one nz le l t) = absurd (omega (arith, o.up))
      go (of_two lt l t) = absurd (omega arith)

  -- the next node is the top of the stack behind a leaf, and else the first child
  module _ {next : ℕ} (small : fuel ≤ 129) (shallow : at % 256 < fuel) (nz : sp + two - leaf ≡ 0 → ⊥) (by : next ≡ cond (eqb x 0) (get_or st (sp - 1) 0) (at + 513)) where
    next-top : x ≡ 0 → next ≡ get_or st (sp - 1) 0
    next-top e = rw (eq-eqb x 0 e) at by

    top-some : x ≡ 0 → sp - 1 ≡ 0 → ⊥
    top-some e z = go (kind g)
      where
        go : Kind x leaf two → ⊥
        go (of_none h l t) = nz (omega arith)
        go (of_one ne le l t) = ne e
        go (of_two lt l t) = omega arith

    next_down : (x ≡ 0 → ⊥) → next ≡ at + 513
    next_down ne = rw (ne_eqb x 0 ne) at by

    pub refused : (next / 256 ≡ (at + 513) / 256 → ⊥) → 0 ≡ after root (parse w b n fuel root)
    refused wrong = go (ℕ_discrete x 0)
      where
        go : Dec (x ≡ 0) → 0 ≡ after root (parse w b n fuel root)
        go (yes e) =
            elsewhere o (top-some e) (leaf-end k e) (λ h. wrong (ap (λ (y : ℕ). y / 256) (next-top e) ∙ h ∙ sym (down-here o small shallow)))
        go (no ne) = absurd (wrong (ap (λ (y : ℕ). y / 256) (next_down ne)))

    pub onward : next / 256 ≡ (at + 513) / 256 → Loop w b n fuel root (set st sp (at + 256 * x - 255)) (sp + two - leaf) (i + 1) next
    onward fine = go (kind g)
      where
        go : Kind x leaf two → Loop w b n fuel root (set st sp (at + 256 * x - 255)) (sp + two - leaf) (i + 1) next
        go (of_none e l t) =
            let top : sp + two - leaf ≡ sp - 1 = omega arith in
            let s = kept o (at + 256 * x - 255) in
            let same = stack-below st sp (at + 256 * x - 255) (sp - 1) (omega (arith, o.up)) in
            rw (top, next-top e, ← same) (popped s (top-some e) (leaf-end k e) (ap (λ (y : ℕ). y / 256) (same ∙ sym (next-top e)) ∙ fine ∙ down-here o small shallow))
        go (of_one ne le l t) =
            let top : sp + two - leaf ≡ sp = omega arith in
            rw (top, next_down ne) (single (kept o (at + 256 * x - 255)) small shallow (single-end k ne le))
        go (of_two lt l t) =
            let top : sp + two - leaf ≡ sp + 1 = omega arith in
            rw (top, next_down (λ z. omega arith)) (pushed o small shallow k lt)
