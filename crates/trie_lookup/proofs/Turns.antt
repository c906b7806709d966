-- The walk by the tests of the code: where it starts, and what a turn at a node shows. Assumes nothing.
use mathlib.Core.Bool.{Bool, true, false, cond, and-false}
use mathlib.Core.List.{List, [], ◌∷◌}
use mathlib.Core.Path.{◌≡◌, refl, ap, sym, ◌∙◌}
use Prim.Native.Nat.{ℕ, ◌+◌, ◌-◌, ◌/◌, ◌%◌, ◌≤◌, ◌<◌}
use native.Mathlib.Decide.{ℕ_discrete}
use native.Mathlib.Omega.{arith}
use lib.Dec.{eqb, leb}
use lib.ListN.{get_or}
use borrow.Author.Tests.{le-leb, lt-leb, eq-eqb, ne_eqb}
use Rattle.nets.specs.Bits.{Bits}
use Rattle.nets.specs.Tries.{side}
use Rattle.nets.specs.Networks.{bits_left, next_as, next_of, handed}
use Rattle.nets.specs.declared.PrefixBits.{PrefixBits}
use Rattle.nets.specs.declared.Refusal.TheVariants.{Damaged}
use Rattle.nets.proofs.Handing.{len-next}
use Rattle.nets.proofs.Numbers.{bits_left-next}
use Rattle.nodes.specs.Words.{word_at}
use Rattle.nodes.specs.Parse.{Room}
use Rattle.trie_lookup.specs.Walks.{child_at, are_nodes, toward, shows, walk, walk_from}
use Rattle.trie_lookup.specs.declared.Shown.{Shown}
use Rattle.trie_lookup.specs.declared.Shown.TheVariants.{Member, Nothing, Refused}
use Rattle.std.specs.Prelude.{Some, None}

-- The start.
module _ (w : List ℕ) (b n : ℕ) (q : Bits) (r : ℕ) where
  pub walk_from-none : r ≡ 0 → Nothing 0 ≡ walk_from w b n q r
  unfolding walk_from
  walk_from-none z = rw (eq-eqb r 0 z)

  pub walk_from-over : n < r → Refused Damaged ≡ walk_from w b n q r
  unfolding walk_from
  walk_from-over lt = rw (ne_eqb r 0 (omega arith), lt-leb r n lt)

  pub walk_from-node : (d : ℕ) → d ≡ 0 → (r ≡ 0 → ⊥) → r ≤ n → walk w b n d r q ≡ walk_from w b n q r
  unfolding walk_from
  walk_from-node d e nz le = rw (e, ne_eqb r 0 nz, le-leb r n le)

-- The numbers of the children are in the pool exactly where the code's tests say so.
child_at-in : (n i x : ℕ) → i + x ≤ n → leb (child_at i x) n ≡ true
child_at-in n i x le = go (ℕ_discrete x 0)
  where
    go : Dec (x ≡ 0) → leb (child_at i x) n ≡ true
    go (yes e) = rw (eq-eqb x 0 e) (le-leb 0 n (omega arith))
    go (no e) = rw (ne_eqb x 0 e) (le-leb (i + x) n le)

child_at-out : (n i x : ℕ) → i ≤ n → n < i + x → leb (child_at i x) n ≡ false
child_at-out n i x le lt = rw (ne_eqb x 0 (omega arith)) (lt-leb (i + x) n lt)

pub are_nodes-in : (n i x : ℕ) → i + x % 2 ≤ n → i + x / 2 ≤ n → are_nodes n i x ≡ true
are_nodes-in n i x p q = rw (child_at-in n i (x % 2) p) (child_at-in n i (x / 2) q)

-- What a node shows, by its word.
abbrev pub onward : List ℕ → ℕ → ℕ → ℕ → ℕ → Bits → Shown
onward w b n d i [] = Nothing (d + 1)
onward w b n d i (c ∷ q) = cond (eqb (toward c (word_at w b i)) 0) (Nothing (d + 1)) (walk w b n (d + 1) (i + toward c (word_at w b i)) q)

pub walk-shows : (w : List ℕ) (b n d i : ℕ) (q : Bits) → walk w b n d i q ≡ shows n d i (word_at w b i) (onward w b n d i q)
unfolding walk
walk-shows w b n d i [] = refl
walk-shows w b n d i (c ∷ q) = refl

-- the walk stands at node i, d bits down, and from here shows s
pub record Down (w : List ℕ) (b n : ℕ) (s : Shown) (i d : ℕ) (left : PrefixBits) : Type 0 where
  pub one : 1 ≤ i
  pub within : i ≤ n
  pub few : left.len + d ≤ 128
  pub rest : walk w b n d i (bits_left left) ≡ s

module _ {w : List ℕ} {b n : ℕ} {s : Shown} {i d : ℕ} {left : PrefixBits} (g : Down w b n s i d left) {x : ℕ} (is : x ≡ word_at w b i) where
  here : shows n d i x (onward w b n d i (bits_left left)) ≡ s
  here = rw is (sym (walk-shows w b n d i (bits_left left)) ∙ g.rest)

  pub down-leaf : x ≡ 0 → Member d (d + 1) ≡ s
  down-leaf z = rw (eq-eqb x 0 z) at here

  pub down-first : (x ≡ 0 → ⊥) → n < i + x % 2 → Refused Damaged ≡ s
  down-first nz lt = rw (ne_eqb x 0 nz, child_at-out n i (x % 2) g.within lt) at here

  pub down-second : (x ≡ 0 → ⊥) → n < i + x / 2 → Refused Damaged ≡ s
  down-second nz lt = rw (ne_eqb x 0 nz, child_at-out n i (x / 2) g.within lt, and-false) at here

-- the node is no leaf, and its children's numbers are 0 or nodes'; and the next bit leads c nodes on
pub record Inner (w : List ℕ) (b n : ℕ) (s : Shown) (i d : ℕ) (left : PrefixBits) (x : ℕ) : Type 0 where
  pub down : Down w b n s i d left
  pub is : x ≡ word_at w b i
  pub no-leaf : x ≡ 0 → ⊥
  pub first : i + x % 2 ≤ n
  pub second : i + x / 2 ≤ n

pub record Turned (w : List ℕ) (b n : ℕ) (s : Shown) (i d : ℕ) (left : PrefixBits) (x c : ℕ) (bit : Bool) (later : PrefixBits) : Type 0 where
  pub inner : Inner w b n s i d left x
  pub next : next_of left ≡ next_as (Some (bit, later))
  pub by : c ≡ toward bit x

module _ {w : List ℕ} {b n : ℕ} {s : Shown} {i d : ℕ} {left : PrefixBits} {x : ℕ} (g : Inner w b n s i d left x) where
  on : onward w b n d i (bits_left left) ≡ s
  on = rw (ne_eqb x 0 g.no-leaf, are_nodes-in n i x g.first g.second) at (here g.down g.is)

  handed-next : bits_left left ≡ handed (next_of left)
  handed-next = bits_left-next left (omega (arith, g.down.few))

  pub inner-end : next_of left ≡ next_as None → Nothing (d + 1) ≡ s
  inner-end e =
      let h : bits_left left ≡ [] = handed-next ∙ ap handed e in
      rw h at on

module _ {w : List ℕ} {b n : ℕ} {s : Shown} {i d : ℕ} {left : PrefixBits} {x c : ℕ} {bit : Bool} {later : PrefixBits} (g : Turned w b n s i d left x c bit later) where
  by_bit : cond (eqb c 0) (Nothing (d + 1)) (walk w b n (d + 1) (i + c) (bits_left later)) ≡ s
  by_bit =
      let h : bits_left left ≡ bit ∷ bits_left later = handed-next g.inner ∙ ap handed g.next in
      rw (g.by, g.inner.is) (rw h at (on g.inner))

  pub turned_none : c ≡ 0 → Nothing (d + 1) ≡ s
  turned_none z = rw (eq-eqb c 0 z) at by_bit

  pub turned-less : left.len ≡ later.len + 1
  turned-less = len-next left later bit g.next

  pub turned-within : i + c ≤ n
  turned-within = go bit g.by
    where
      go : (t : Bool) → c ≡ toward t x → i + c ≤ n
      go true f = omega (arith, g.inner.second)
      go false f = omega (arith, g.inner.first)

  pub turned_on : (c ≡ 0 → ⊥) → Down w b n s (i + c) (d + 1) later
  turned_on nc = record {
    one = omega (arith, g.inner.down.one);
    within = turned-within;
    few = omega (arith, g.inner.down.few, turned-less);
    rest = rw (ne_eqb c 0 nc) at by_bit;
  }

-- The walk by places: it stands at place p, and of all bits those in left are still to come.
pub record Placed (w : List ℕ) (b n : ℕ) (s : Shown) (all p : ℕ) (left : PrefixBits) : Type 0 where
  pub low : b ≤ p
  pub behind : left.len ≤ all
  pub down : Down w b n s (p + 1 - b) (all - left.len) left

pub placed-asks : {w : List ℕ} {b n : ℕ} {s : Shown} {all p : ℕ} {left : PrefixBits} → Room w b n → Placed w b n s all p left → Room w b n × (b ≤ p) × (p < b + n) × (left.len + (all - left.len) ≤ 128)
placed-asks room g = (room, g.low, omega (arith, g.low, g.down.within), g.down.few)

-- at the place stands x, its second child's place is before the last node's, and a bit is next
pub record Seen (w : List ℕ) (b n : ℕ) (s : Shown) (all p : ℕ) (left : PrefixBits) (x : ℕ) (bit : Bool) (later : PrefixBits) : Type 0 where
  pub placed : Placed w b n s all p left
  pub is : x ≡ get_or w p 0
  pub before : p + x / 2 < b + (n - 1)
  pub next : next_of left ≡ next_as (Some (bit, later))

-- the root's place
pub placed-start : {w : List ℕ} {b n root len : ℕ} {bits : PrefixBits} → 1 ≤ root → root ≤ n → bits.len ≤ len → len ≤ 128
    → Placed w b n (walk w b n (len - bits.len) root (bits_left bits)) len (b + (root - 1)) bits
placed-start {w} {b} {n} {root} {len} {bits} one le in_len few =
    let i : b + (root - 1) + 1 - b ≡ root = omega arith in
    record { low = omega arith; behind = in_len; down = rw i (record { one = one; within = le; few = omega arith; rest = refl }) }

placed-word : {w : List ℕ} {b n : ℕ} {s : Shown} {all p : ℕ} {left : PrefixBits} → Placed w b n s all p left → get_or w p 0 ≡ word_at w b (p + 1 - b)
placed-word {w} {b} {p = p} g = ap (λ k. get_or w k 0) (let e : p ≡ b + (p + 1 - b - 1) = omega (arith, g.low) in e)

module _ {w : List ℕ} {b n : ℕ} {s : Shown} {all p : ℕ} {left : PrefixBits} {x : ℕ} {bit : Bool} {later : PrefixBits} (g : Seen w b n s all p left x bit later) where
  pub seen-less : later.len < left.len
  seen-less = omega (arith, len-next left later bit g.next)

  pub seen-leaf : x ≡ 0 → Member (all - left.len) (all - left.len + 1) ≡ s
  seen-leaf z = down-leaf g.placed.down (g.is ∙ placed-word g.placed) z

  module _ (nz : x ≡ 0 → ⊥) where
    seen_turned : Turned w b n s (p + 1 - b) (all - left.len) left x (toward bit x) bit later
    seen_turned = record {
      inner = record {
        down = g.placed.down;
        is = g.is ∙ placed-word g.placed;
        no-leaf = nz;
        first = omega (arith, g.before, g.placed.low);
        second = omega (arith, g.before, g.placed.low);
      };
      next = g.next;
      by = refl;
    }

    seen_none : toward bit x ≡ 0 → Nothing (all - left.len + 1) ≡ s
    seen_none z = turned_none seen_turned z

    seen-on : (r : ℕ) → r ≡ p + toward bit x → (toward bit x ≡ 0 → ⊥) → Placed w b n s all r later
    seen-on r e nc =
        let l = turned-less seen_turned in
        let i : p + 1 - b + toward bit x ≡ r + 1 - b = omega (arith, g.placed.low) in
        let d : all - left.len + 1 ≡ all - later.len = omega (arith, g.placed.behind) in
        record { low = omega (arith, g.placed.low); behind = omega (arith, g.placed.behind); down = rw (i, d) at (turned_on seen_turned nc) }

  -- one child, on the side of the bit or on the other
  pub seen-lone : (x ≡ 0 → ⊥) → x < 3 → (x ≡ side bit 1 2 → ⊥) → Nothing (all - left.len + 1) ≡ s
  seen-lone nz lt ne = seen_none nz (go bit ne)
    where
      go : (t : Bool) → (x ≡ side t 1 2 → ⊥) → toward t x ≡ 0
      go true f = omega arith
      go false f = omega arith

  pub seen-chain : (x ≡ 0 → ⊥) → x ≡ side bit 1 2 → Placed w b n s all (p + 1) later
  seen-chain nz e =
      let c : toward bit x ≡ 1 = go bit e in
      seen-on nz (p + 1) (omega arith) (λ z. omega arith)
    where
      go : (t : Bool) → x ≡ side t 1 2 → toward t x ≡ 1
      go true f = omega arith
      go false f = omega arith

  -- two children
  pub seen-fork : {r : ℕ} → 3 ≤ x → (x % 2 ≡ 0 → ⊥) → r ≡ side bit (p + 1) (p + x / 2) → Placed w b n s all r later
  seen-fork {r} le odd e =
      let c = go bit e in
      seen-on (λ z. omega arith) r c.0 c.1
    where
      go : (t : Bool) → r ≡ side t (p + 1) (p + x / 2) → (r ≡ p + toward t x) × (toward t x ≡ 0 → ⊥)
      go true f = (f, λ z. omega arith)
      go false f = (omega arith, odd)
