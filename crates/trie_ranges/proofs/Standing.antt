-- Ranges that are opened and closed one after the other, with their rows: what is still to come completes them, and what is written are those so far
-- (`Stands`). The next range goes on from the open one, or opens anew (`stands-take`). Assumes nothing.
use mathlib.Core.Bool.{Bool, true, false, not, cond, false≢true}
use mathlib.Core.List.{List, [], ◌∷◌, ◌++◌, append_assoc}
use mathlib.Core.Logic.{◌⊎◌, inl, inr}
use mathlib.Core.Path.{◌≡◌, refl, ap, sym, ◌∙◌}
use Prim.Native.Nat.{ℕ, suc, ◌+◌, ◌-◌, ◌*◌, ◌%◌, ◌^◌, ◌≤◌, ◌<◌}
use native.Mathlib.Nat.{mod-eq_of_lt, mod_self}
use native.Mathlib.Numerals.{add-one}
use native.Mathlib.Decide.{dec_lt}
use native.Mathlib.Omega.{arith}
use lib.Dec.{eqb}
use lib.ListN.{length, length-append}
use borrow.Author.Tests.{eqb-true, eq-eqb, ne_eqb}
use Rattle.nets.specs.Bits.{Bits}
use Rattle.nets.specs.Networks.{width}
use Rattle.nets.proofs.Strings.{and_right}
use Rattle.ranges.specs.Ranges.{Range, range, block_of, join, joined}
use Rattle.ranges.specs.Addresses.{after_of, range_row, range_rows}
use Rattle.ranges.proofs.Joined.{join-touching, join_apart}
use Rattle.ranges.proofs.OfLists.{block-proper, block-high}
use Rattle.nodes.specs.Words.{put}
use Rattle.nodes.proofs.Put.{put-nil, put-behind-at}
use Rattle.trie_paths.proofs.RowForm.{put-over}
use Rattle.trie_ranges.specs.declared.Open.{Open}
use Rattle.trie_ranges.specs.Opening.{next_of, goes_on, address_row, Takes}

-- The ranges so far: none is open, or one behind those that are closed; and all, once those still to come are taken.
pub data Opened : Type 0 where
  nothing : Opened
  open' : List Range → Range → Opened

abbrev pub so_far : Opened → List Range
so_far nothing = []
so_far (open' F r) = F ++ (r ∷ [])

abbrev pub completed : Opened → List Range → List Range
completed nothing rs = joined rs
completed (open' F r) rs = F ++ join r (joined rs)

-- what the state q says of them
abbrev pub Says : ℕ → Open → Opened → Type 0
Says f q nothing = (q.n ≡ 0) × (next_of q ≡ 0)
Says f q (open' F r) = (q.n ≡ suc (length F)) × (next_of q ≡ after_of f r.last) × (r.last < 2 ^ width f)

-- The address behind a range goes on exactly where no address lies between; behind the last one it is zero, and nothing goes on.
wraps : (l m : ℕ) → l < m → ((l + 1 < m) × ((l + 1) % m ≡ l + 1)) ⊎ ((l + 1) % m ≡ 0)
wraps l m h = go (dec_lt (l + 1) m)
  where
    go : Dec (l + 1 < m) → ((l + 1 < m) × ((l + 1) % m ≡ l + 1)) ⊎ ((l + 1) % m ≡ 0)
    go (yes k) = inl (k, mod-eq_of_lt k)
    go (no k) = let e : l + 1 ≡ m = omega arith in inr (rw e (mod_self m))

module _ (f : ℕ) (q : Open) (l a : ℕ) (next : next_of q ≡ after_of f l) (h : l < 2 ^ width f) where
  goes-touching : goes_on q a ≡ true → suc l ≡ a
  unfolding goes_on after_of
  goes-touching e = go (wraps l (2 ^ width f) h)
    where
      same : next_of q ≡ a
      same = eqb-true (next_of q) a (and_right (not (eqb (next_of q) 0)) (eqb (next_of q) a) e)

      go : ((l + 1 < 2 ^ width f) × ((l + 1) % 2 ^ width f ≡ l + 1)) ⊎ ((l + 1) % 2 ^ width f ≡ 0) → suc l ≡ a
      go (inl k) = omega (arith, same, next, k.1)
      go (inr k) = absurd (false≢true (rw (eq-eqb (next_of q) 0 (next ∙ k)) at e))

  goes-apart : a < 2 ^ width f → goes_on q a ≡ false → suc l ≡ a → ⊥
  unfolding goes_on after_of
  goes-apart g e s = go (wraps l (2 ^ width f) h)
    where
      go : ((l + 1 < 2 ^ width f) × ((l + 1) % 2 ^ width f ≡ l + 1)) ⊎ ((l + 1) % 2 ^ width f ≡ 0) → ⊥
      go (inl k) =
          let n : next_of q ≡ a = omega (arith, next, k.1) in
          let z : next_of q ≡ 0 → ⊥ = λ c. omega arith in
          false≢true (sym e ∙ rw (ne_eqb (next_of q) 0 z, eq-eqb (next_of q) a n))
      go (inr k) = let b : l + 1 < 2 ^ width f = omega arith in omega (arith, k, mod-eq_of_lt b)

goes_none : (q : Open) (a : ℕ) → next_of q ≡ 0 → goes_on q a ≡ false
unfolding goes_on
goes_none q a e = rw (eq-eqb (next_of q) 0 e)

-- Rows: the last address of the last range is written anew, or one more range behind the others.
pub length-range_rows : (rs : List Range) → length (range_rows rs) ≡ 4 * length rs
unfolding range_rows
length-range_rows [] = refl
length-range_rows (r ∷ rs) = omega (arith, length-range_rows rs)

range_rows-append : (rs ms : List Range) → range_rows (rs ++ ms) ≡ range_rows rs ++ range_rows ms
unfolding range_rows
range_rows-append [] ms = refl
range_rows-append (r ∷ rs) ms = rw (range_rows-append rs ms)

put_next : (v : List ℕ) (F : List Range) (s : Range) → put (put v 0 (range_rows F)) (4 * length F) (range_row s) ≡ put v 0 (range_rows (F ++ (s ∷ [])))
unfolding range_rows
put_next v F s = put-behind-at v 0 (4 * length F) (range_rows F) (range_row s) (omega (arith, length-range_rows F)) ∙ rw (range_rows-append F (s ∷ []))

put_last : (v : List ℕ) (F : List Range) (r : Range) (l k : ℕ) → k ≡ 4 * suc (length F) - 2
    → put (put v 0 (range_rows (F ++ (r ∷ [])))) k (address_row l) ≡ put v 0 (range_rows (F ++ (range r.first l ∷ [])))
unfolding range_rows
put_last v F r l k e =
    let A = range_rows F ++ address_row r.first in
    let n : k ≡ 0 + length A = omega (arith, length-append (range_rows F) (address_row r.first), length-range_rows F) in
    let s : (m : ℕ) → range_rows (F ++ (range r.first m ∷ [])) ≡ A ++ address_row m =
    λ m. range_rows-append F (range r.first m ∷ []) ∙ sym (append_assoc (range_rows F) (address_row r.first) (address_row m)) in
    rw (s r.last, s l, ← put-behind-at v 0 k A (address_row r.last) n, ← put-behind-at v 0 k A (address_row l) n)
    (put-over (put v 0 A) k (address_row r.last) (address_row l) refl)

-- There are at least as many as so far.
length-snoc : (F : List Range) (r : Range) → length (F ++ (r ∷ [])) ≡ suc (length F)
length-snoc F r = length-append F (r ∷ []) ∙ add-one (length F)

join-some : (r : Range) (rs : List Range) → 1 ≤ length (join r rs)
join-some r [] = omega arith
join-some r (s ∷ rs) = go (eqb (suc r.last) s.first)
  where
    go : (x : Bool) → 1 ≤ length (cond x (range r.first s.last ∷ rs) (r ∷ s ∷ rs))
    go true = omega arith
    go false = omega arith

so-far-few : (F : List Range) (r : Range) (rs : List Range) → suc (length F) ≤ length (completed (open' F r) rs)
so-far-few F r rs = rw (length-append F (join r (joined rs))) (omega (arith, join-some r (joined rs)))

-- Where the ranges stand: those of all, of which rs are still to come, with the state q and the rows v, which were v₀.
pub record Stands (f : ℕ) (q : Open) (v₀ v : List ℕ) (rs all : List Range) : Type 0 where
  pub opened : Opened
  pub says : Says f q opened
  pub is : completed opened rs ≡ all
  pub kept : length v ≡ length v₀
  pub rows : 4 * length all ≤ length v₀ → v ≡ put v₀ 0 (range_rows (so_far opened))

pub stands-start : (f : ℕ) (v : List ℕ) (rs : List Range) → Stands f (record { n = 0; hi = 0; lo = 0 }) v v rs (joined rs)
unfolding range_rows
stands-start f v rs = record { opened = nothing; says = (refl, refl); is = refl; kept = refl; rows = λ _. sym (put-nil v 0) }

-- at the end there is nothing more to come
pub stands-end : {f : ℕ} {q : Open} {v₀ v : List ℕ} {all : List Range} → Stands f q v₀ v [] all
    → (q.n ≡ length all) × (4 * length all ≤ length v₀ → v ≡ put v₀ 0 (range_rows all))
unfolding joined
stands-end {f} {q} {v₀} {v} {all} o = go o.opened o.says o.is o.rows
  where
    go : (d : Opened) → Says f q d → completed d [] ≡ all → (4 * length all ≤ length v₀ → v ≡ put v₀ 0 (range_rows (so_far d)))
        → (q.n ≡ length all) × (4 * length all ≤ length v₀ → v ≡ put v₀ 0 (range_rows all))
    go nothing h a g = (h.0 ∙ ap length a, λ j. g j ∙ ap (λ z. put v₀ 0 (range_rows z)) a)
    go (open' F r) h a g = (h.0 ∙ sym (length-snoc F r) ∙ ap length a, λ j. g j ∙ ap (λ z. put v₀ 0 (range_rows z)) a)

-- one is open where an address goes on from it
pub stands-open : {f : ℕ} {q : Open} {v₀ v : List ℕ} {rs all : List Range} → Stands f q v₀ v rs all → (a : ℕ) → goes_on q a ≡ true → 1 ≤ q.n
stands-open {f} {q} o a g = go o.opened o.says
  where
    go : (d : Opened) → Says f q d → 1 ≤ q.n
    go nothing h = absurd (false≢true (sym (goes_none q a h.1) ∙ g))
    go (open' F r) h = omega (arith, h.0)

-- The next one is taken.
pub takes-few : {f : ℕ} {p : Bits} {q s : Open} {v u : List ℕ} → Takes f p q v s u → s.n ≤ q.n + 1
takes-few {f} {p} {q} {s} g = go (goes_on q (block_of (width f) p).first) refl
  where
    go : (y : Bool) → goes_on q (block_of (width f) p).first ≡ y → s.n ≤ q.n + 1
    go true e = omega (arith, (g.joins e).0)
    go false e = omega (arith, (g.opens e).0)

module _ (f : ℕ) (p : Bits) (q s : Open) (v₀ v u : List ℕ) (rs all : List Range) (within : length p ≤ width f) (g : Takes f p q v s u)
    (kept : length v ≡ length v₀) where
  abbrev block : Range
  block = block_of (width f) p

  behind : (next_of s ≡ after_of f block.last) × (block.last < 2 ^ width f)
  behind = (g.next, block-high (width f) p within)

  kept_on : length u ≡ length v₀
  kept_on = g.kept ∙ kept

  -- as the first of all
  took-first : q.n ≡ 0 → next_of q ≡ 0 → joined (block ∷ rs) ≡ all → (4 * length all ≤ length v₀ → v ≡ v₀) → Stands f s v₀ u rs all
  unfolding joined range_rows
  took-first n z a h =
      let o = g.opens (goes_none q block.first z) in
      let few : 1 ≤ length all = omega (arith, ap length a, join-some block (joined rs)) in
      record {
        opened = open' [] block;
        says = (o.0 ∙ omega arith, behind.0, behind.1);
        is = a;
        kept = kept_on;
        rows = λ j. o.1 (omega arith) ∙ rw (n, h j);
      }

  module _ (F : List Range) (r : Range) (n : q.n ≡ suc (length F)) (next : next_of q ≡ after_of f r.last) (low : r.last < 2 ^ width f)
      (a : completed (open' F r) (block ∷ rs) ≡ all) (h : 4 * length all ≤ length v₀ → v ≡ put v₀ 0 (range_rows (F ++ (r ∷ [])))) where
    took-on : goes_on q block.first ≡ true → Stands f s v₀ u rs all
    unfolding joined
    took-on e =
        let o = g.joins e in
        let touch = goes-touching f q r.last block.first next low e in
        let is : completed (open' F (range r.first block.last)) rs ≡ all =
        ap (λ z. F ++ z) (sym (join-touching r.first r.last block (joined rs) touch)) ∙ a in
        let few : suc (length F) ≤ length all = rw is at (so-far-few F (range r.first block.last) rs) in
        record {
          opened = open' F (range r.first block.last);
          says = (o.0 ∙ n, behind.0, behind.1);
          is = is;
          kept = kept_on;
          rows = λ j. o.1 (omega arith) ∙ rw (h j) (put_last v₀ F r block.last (4 * q.n - 2) (ap (λ m. 4 * m - 2) n));
        }

    took-anew : goes_on q block.first ≡ false → Stands f s v₀ u rs all
    unfolding joined
    took-anew e =
        let o = g.opens e in
        let apart = goes-apart f q r.last block.first next low (omega (arith, block-proper (width f) p, behind.1)) e in
        let is : completed (open' (F ++ (r ∷ [])) block) rs ≡ all =
        append_assoc F (r ∷ []) (join block (joined rs)) ∙ ap (λ z. F ++ z) (sym (join_apart r.first r.last block (joined rs) apart)) ∙ a in
        let few : suc (length (F ++ (r ∷ []))) ≤ length all = rw is at (so-far-few (F ++ (r ∷ [])) block rs) in
        let m : length (F ++ (r ∷ [])) ≡ q.n = length-snoc F r ∙ sym n in
        record {
          opened = open' (F ++ (r ∷ [])) block;
          says = (o.0 ∙ add-one q.n ∙ ap suc (sym m), behind.0, behind.1);
          is = is;
          kept = kept_on;
          rows = λ j. o.1 (omega arith) ∙ rw (h j, ← m) (put_next v₀ (F ++ (r ∷ [])) block);
        }

pub stands-take : {f : ℕ} {p : Bits} {q s : Open} {v₀ v u : List ℕ} {rs all : List Range} → Stands f q v₀ v (block_of (width f) p ∷ rs) all
    → length p ≤ width f → Takes f p q v s u → Stands f s v₀ u rs all
unfolding range_rows
stands-take {f} {p} {q} {s} {v₀} {v} {u} {rs} {all} o w g = go o.opened o.says o.is o.rows
  where
    go : (d : Opened) → Says f q d → completed d (block_of (width f) p ∷ rs) ≡ all → (4 * length all ≤ length v₀ → v ≡ put v₀ 0 (range_rows (so_far d)))
        → Stands f s v₀ u rs all
    go nothing h a r = took-first f p q s v₀ v u rs all w g o.kept h.0 h.1 a (λ j. r j ∙ put-nil v₀ 0)
    go (open' F r) h a x = test (goes_on q (block_of (width f) p).first) refl
      where
        test : (y : Bool) → goes_on q (block_of (width f) p).first ≡ y → Stands f s v₀ u rs all
        test true e = took-on f p q s v₀ v u rs all w g o.kept F r h.0 h.1 h.2 a x e
        test false e = took-anew f p q s v₀ v u rs all w g o.kept F r h.0 h.1 h.2 a x e
