-- A walk that goes on shows what it showed: it may stay, go on twice, and take one step down. Assumes nothing.
use mathlib.Core.Bool.{Bool, true, false}
use mathlib.Core.List.{List, ◌∷◌, ◌++◌}
use mathlib.Core.Path.{◌≡◌, refl, ap, sym, ◌∙◌}
use Prim.Native.Nat.{ℕ, zero, suc, ◌+◌, ◌-◌, ◌/◌, ◌%◌, ◌≤◌, ◌<◌}
use native.Mathlib.Omega.{arith}
use lib.Dec.{eqb-suc-zero}
use lib.ListN.{get_or}
use borrow.Author.Tests.{eq-eqb, ne_eqb}
use Rattle.nets.specs.Bits.{Bits}
use Rattle.nets.specs.Networks.{bits_left, bits_words, next_as, next_of}
use Rattle.nets.specs.declared.PrefixBits.{PrefixBits}
use Rattle.nets.proofs.Handing.{len-next, bits-next}
use Rattle.nodes.specs.Words.{word_at}
use Rattle.nodes.specs.Parse.{Room}
use Rattle.trie_lookup.specs.Walks.{toward, walk}
use Rattle.trie_lookup.specs.declared.Shown.TheVariants.{Member, Nothing}
use Rattle.trie_lookup.proofs.Turns.{are_nodes-in, walk-shows}
use Rattle.trie_lanes.specs.Lanes.{comes, On, Goes}
use Rattle.trie_lanes.specs.declared.Lane.{Lane}
use Rattle.std.specs.Prelude.{Some}

module _ (w : List ℕ) (b n : ℕ) where
  pub goes-stay : (l : Lane) → On b n l → Goes w b n l l
  goes-stay l o = record {
    on = o;
    less = omega arith;
    shows = λ d z. ap (λ t. walk w b n t (l.p + 1 - b) (comes l ++ z)) (let e : d ≡ d + (l.left - l.left) = omega arith in e);
  }

  pub goes_twice : (l m r : Lane) → Goes w b n l m → Goes w b n m r → Goes w b n l r
  goes_twice l m r g h = record {
    on = h.on;
    less = omega (arith, g.less, h.less);
    shows = λ d z. g.shows d z ∙ h.shows (d + (l.left - m.left)) z
        ∙ ap (λ t. walk w b n t (r.p + 1 - b) (comes r ++ z))
        (let f : d + (l.left - m.left) + (m.left - r.left) ≡ d + (l.left - r.left) = omega (arith, g.less, h.less) in f);
  }

-- A leaf is a member.
pub walk-leaf : (w : List ℕ) (b n d i : ℕ) (q : Bits) → word_at w b i ≡ 0 → walk w b n d i q ≡ Member d (d + 1)
walk-leaf w b n d i q z = walk-shows w b n d i q ∙ rw (eq-eqb (word_at w b i) 0 z)

-- A node that is no leaf and whose children's numbers are nodes': the next bit leads c nodes on, or to nothing.
module _ (w : List ℕ) (b n d i : ℕ) (t : Bool) (q : Bits) (x c : ℕ) (is : x ≡ word_at w b i) (nz : x ≡ 0 → ⊥) (f : i + x % 2 ≤ n) (s : i + x / 2 ≤ n) (by : c ≡ toward t x) where
  walk_step : (c ≡ 0 → ⊥) → walk w b n d i (t ∷ q) ≡ walk w b n (d + 1) (i + c) q
  walk_step nc = walk-shows w b n d i (t ∷ q) ∙ rw (← is, ne_eqb x 0 nz, are_nodes-in n i x f s, ← by, ne_eqb c 0 nc)

  pub walk_none : c ≡ 0 → walk w b n d i (t ∷ q) ≡ Nothing (d + 1)
  walk_none z = walk-shows w b n d i (t ∷ q) ∙ rw (← is, ne_eqb x 0 nz, are_nodes-in n i x f s, ← by, eq-eqb c 0 z)

-- The bits of one word: behind the next one are those of the word moved to the left.
low-next : (x k : ℕ) → (next_of (bits_words x 0 k)).1.1.1.lo ≡ 0
unfolding next_of
low-next x zero = refl
low-next x (suc k) = rw (eqb-suc-zero k) (omega arith)

pub comes-next : (l : Lane) (bit : Bool) (later : PrefixBits) → l.left ≤ 64 → next_of (bits_words l.word 0 l.left) ≡ next_as (Some (bit, later))
    → comes l ≡ bit ∷ bits_left (bits_words later.hi 0 later.len)
unfolding comes
comes-next l bit later h e =
    let z : later.lo ≡ 0 = sym (ap (λ a. a.1.1.1.lo) e) ∙ low-next l.word l.left in
    bits-next (bits_words l.word 0 l.left) later bit (omega arith) e ∙ ap (λ k. bit ∷ bits_left (bits_words later.hi k later.len)) z

-- One step: at the place stands x, its second child's place is before the last node's, a bit is next, and there is a child on its side.
pub record Steps (w : List ℕ) (b n : ℕ) (l : Lane) (x c : ℕ) (bit : Bool) (later : PrefixBits) : Type 0 where
  pub on : On b n l
  pub is : x ≡ get_or w l.p 0
  pub before : l.p + x / 2 < b + (n - 1)
  pub next : next_of (bits_words l.word 0 l.left) ≡ next_as (Some (bit, later))
  pub by : c ≡ toward bit x
  pub some : c ≡ 0 → ⊥

-- the word of the node at a place
pub placed-word : (w : List ℕ) {b n : ℕ} {l : Lane} {x : ℕ} → On b n l → x ≡ get_or w l.p 0 → x ≡ word_at w b (l.p + 1 - b)
placed-word w {b} {l = l} o is = is ∙ ap (λ k. get_or w k 0) (let e : l.p ≡ b + (l.p + 1 - b - 1) = omega (arith, o.low) in e)

module _ {w : List ℕ} {b n : ℕ} {l : Lane} {x c : ℕ} {bit : Bool} {later : PrefixBits} (g : Steps w b n l x c bit later) where
  no-leaf : x ≡ 0 → ⊥
  no-leaf z = g.some (g.by ∙ go bit)
    where
      go : (t : Bool) → toward t x ≡ 0
      go true = omega arith
      go false = omega arith

  within : l.p + c < b + n
  within = go bit g.by
    where
      go : (t : Bool) → c ≡ toward t x → l.p + c < b + n
      go true f = omega (arith, g.before)
      go false f = omega (arith, g.before)

  pub goes_step : Goes w b n l (record { p = l.p + c; word = later.hi; left = later.len })
  unfolding comes
  goes_step =
      let k = len-next (bits_words l.word 0 l.left) later bit g.next in
      record {
        on = record { low = omega (arith, g.on.low); within = within; few = omega (arith, g.on.few) };
        less = omega arith;
        shows = λ d z.
            let i : l.p + 1 - b + c ≡ l.p + c + 1 - b = omega (arith, g.on.low) in
            let e : d + 1 ≡ d + (l.left - later.len) = omega arith in
            ap (λ q. walk w b n d (l.p + 1 - b) (q ++ z)) (comes-next l bit later g.on.few g.next)
            ∙ (rw (i, e) at (walk_step w b n d (l.p + 1 - b) bit (bits_left (bits_words later.hi 0 later.len) ++ z) x c (placed-word w g.on g.is) no-leaf
            (omega (arith, g.before, g.on.low)) (omega (arith, g.before, g.on.low)) g.by g.some));
      }

  -- and its number is small
  pub step-place : Room w b n → l.p + c < 67108864
  step-place r = omega (arith, r.low, r.few, within)
