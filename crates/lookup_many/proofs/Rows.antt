-- Rows of numbers that are filled one by one or in blocks; and a length that no network has, cut to a byte. Assumes nothing.
use mathlib.Core.Bool.{Bool, true, false, cond}
use mathlib.Core.List.{List, [], ◌∷◌, ◌++◌}
use mathlib.Core.Path.{◌≡◌, refl, ap, sym, ◌∙◌}
use Prim.Native.Nat.{ℕ, zero, suc, ◌+◌, ◌-◌, ◌*◌, ◌≤◌, ◌<◌}
use native.Mathlib.Nat.{add-zero, zero-add}
use native.Mathlib.Omega.{arith}
use lib.Dec.{eqb, ltb}
use lib.ListN.{length, get_or, set, length-set}
use borrow.Author.Tests.{ltb-false, ne_eqb}
use Rattle.nets.specs.Networks.{refusal_of, with_len, has_bit_past}
use Rattle.nets.specs.Refusals.{number}
use Rattle.nets.specs.declared.Net.{Net}
use Rattle.nets.proofs.Numbers.{refusal_of-is, width-le}
use Rattle.nodes.specs.Words.{put}
use Rattle.nodes.proofs.Put.{put-nil, length-put, set-put, put-behind-at}
use Rattle.nets.specs.declared.Refusal.{Refusal}
use Rattle.nets.specs.declared.Refusal.TheVariants.{WrongFamily, BadNetwork}
use Rattle.lookup.specs.Rules.{query, unheld, is_member}
use Rattle.trie_lookup.specs.declared.Shown.{Shown}
use Rattle.trie_lookup.specs.declared.Shown.TheVariants.{Member, Nothing, Refused}
use Rattle.lookup_many.specs.Rules.{query_at, bit, in_one, asked, asked_of}
use Rattle.trie_index.specs.Index.{fill}
use Rattle.trie_index.proofs.Fill.{length-fill, fill-append, set_rest}
use Rattle.lookup_many.specs.Lanes.{clip, clipped}

-- Rows.
module _ (g : ℕ → ℕ) where
  -- numbers written behind those that stand there
  pub put_fill : (v : List ℕ) (i m k j : ℕ) → j ≡ i + m → put (put v i (fill g i m)) j (fill g j k) ≡ put v i (fill g i (m + k))
  put_fill v i m k j e =
      rw e (put-behind-at v i (i + m) (fill g i m) (fill g (i + m) k) (ap (λ t. i + t) (sym (length-fill g m i))) ∙ ap (put v i) (fill-append g m i k))

-- A row that is filled from a number on: what is left to write completes it.
pub record Filling (g : ℕ → ℕ) (m from : ℕ) (v u : List ℕ) (i : ℕ) : Type 0 where
  pub behind : from ≤ i
  pub le : i ≤ m
  pub room : m ≤ length u
  pub same : length u ≡ length v
  pub rest : put u i (fill g i (m - i)) ≡ put v from (fill g from (m - from))

module _ (g : ℕ → ℕ) (m from : ℕ) (v : List ℕ) where
  pub filling-start : from ≤ m → m ≤ length v → Filling g m from v v from
  filling-start le h = record { behind = omega arith; le = le; room = h; same = refl; rest = refl }

  pub filling-next : (u : List ℕ) (i x : ℕ) → Filling g m from v u i → i < m → x ≡ g i → Filling g m from v (set u i x) (i + 1)
  filling-next u i x h lt e = record {
    behind = omega (arith, h.behind);
    le = omega arith;
    room = rw (length-set u i x) h.room;
    same = length-set u i x ∙ h.same;
    rest = (rw (zero-add i, zero-add (i + 1)) at (set_rest g u 0 i m x lt e)) ∙ h.rest;
  }

  pub filling-end : (u : List ℕ) (i : ℕ) → Filling g m from v u i → m ≤ i → u ≡ put v from (fill g from (m - from))
  unfolding fill
  filling-end u i h le =
      let z : m - i ≡ 0 = omega arith in
      sym (put-nil u i) ∙ (rw z at h.rest)

-- A row that is filled up to a number.
pub record FilledTo (g : ℕ → ℕ) (m : ℕ) (v u : List ℕ) (i : ℕ) : Type 0 where
  pub le : i ≤ m
  pub same : length u ≡ length v
  pub is : u ≡ put v 0 (fill g 0 i)

module _ (g : ℕ → ℕ) (v : List ℕ) where
  pub fill_none : (i : ℕ) → v ≡ put v i (fill g i 0)
  unfolding fill
  fill_none i = sym (put-nil v i)

  pub whole_row : (m d : ℕ) (u t : List ℕ) → d ≤ m → u ≡ put v 0 (fill g 0 d) → t ≡ put u d (fill g d (m - d)) → t ≡ put v 0 (fill g 0 m)
  whole_row m d u t le e f =
      let k : d + (m - d) ≡ m = omega arith in
      f ∙ ap (λ y. put y d (fill g d (m - d))) e ∙ put_fill g v 0 d (m - d) d (sym (zero-add d)) ∙ ap (λ y. put v 0 (fill g 0 y)) k

  module _ (m : ℕ) where
    pub filled-start : FilledTo g m v v 0
    filled-start = record { le = omega arith; same = refl; is = fill_none 0 }

    pub filled_next : (u t : List ℕ) (i k : ℕ) → FilledTo g m v u i → i + k ≤ m → t ≡ put u i (fill g i k) → FilledTo g m v t (i + k)
    filled_next u t i k h le e =
        let f : t ≡ put v 0 (fill g 0 (i + k)) = e ∙ ap (λ y. put y i (fill g i k)) h.is ∙ put_fill g v 0 i k i (sym (zero-add i)) in
        record { le = le; same = ap length f ∙ length-put v 0 (fill g 0 (i + k)); is = f }

-- One number, and numbers written behind each other.
module _ (g : ℕ → ℕ) (v : List ℕ) (i : ℕ) where
  pub fill_one : (x : ℕ) → x ≡ g i → set v i x ≡ put v i (fill g i 1)
  unfolding fill
  fill_one x e = rw e (set-put v i (g i))

  pub fill-two : (m k : ℕ) (u t : List ℕ) → u ≡ put v i (fill g i m) → t ≡ put u (i + m) (fill g (i + m) k) → t ≡ put v i (fill g i (m + k))
  fill-two m k u t e f = f ∙ ap (λ y. put y (i + m) (fill g (i + m) k)) e ∙ put_fill g v i m k (i + m) refl

-- What is shown, in one number.
module _ (n : Net) where
  pub one-member : (d k x : ℕ) → x ≡ 562949953421312 * bit (has_bit_past n) → (s : Shown) → s ≡ Member d k → k + 281474976710656 + x ≡ in_one (is_member n s)
  unfolding in_one
  one-member d k x e s h = rw (h, e) (omega arith)

  pub one-nothing : (k x : ℕ) → x ≡ 562949953421312 * bit (has_bit_past n) → (s : Shown) → s ≡ Nothing k → k + x ≡ in_one (is_member n s)
  unfolding in_one
  one-nothing k x e s h = rw (h, e) (omega arith)

  pub one-refused : (r : Refusal) (x : ℕ) → x ≡ number r → (s : Shown) → s ≡ Refused r → 4294967296 * x ≡ in_one (is_member n s)
  unfolding in_one
  one-refused r x e s h = rw (h, e) (omega arith)

-- A length that no network has.
long-bad : (q : Net) → 255 ≤ q.len → refusal_of q ≡ 0 → ⊥
long-bad q le e = omega (arith, (refusal_of-is q e).len, width-le q.family)

asked-long : (w : List ℕ) (r : ℕ) (q : Net) → 255 ≤ q.len → asked w r q ≡ in_one (cond (eqb q.family (get_or w 1 0)) (7, unheld) (6, unheld))
unfolding asked query
asked-long w r q le = rw (ne_eqb (refusal_of q) 0 (long-bad q le)) (go (eqb q.family (get_or w 1 0)))
  where
    go : (t : Bool) → in_one (is_member q (cond t (Refused BadNetwork) (Refused WrongFamily))) ≡ in_one (cond t (7, unheld) (6, unheld))
    go true = refl
    go false = refl

pub clipped-asked : (w : List ℕ) (r : ℕ) (q : Net) → asked w r (clipped q) ≡ asked w r q
clipped-asked w r q = go (ltb q.len 255) refl
  where
    go : (t : Bool) → ltb q.len 255 ≡ t → asked w r (with_len q (cond t q.len 255)) ≡ asked w r q
    go true e = refl
    go false e = asked-long w r (with_len q 255) (omega arith) ∙ sym (asked-long w r q (ltb-false q.len 255 e))

-- the answer to query i, by the query with its length as a byte
pub asked-one : (w : List ℕ) (r f : ℕ) (qs : List ℕ) (i x : ℕ) → x ≡ asked w r (clipped (query_at f qs i)) → x ≡ asked_of w r f qs i
unfolding asked_of
asked-one w r f qs i x e = e ∙ clipped-asked w r (query_at f qs i)

pub asked-shown : (w : List ℕ) (k f : ℕ) (qs : List ℕ) (i : ℕ) (q : Net) (s : Shown) (x : ℕ) → q ≡ clipped (query_at f qs i) → s ≡ query w k q → x ≡ in_one (is_member q s) → x ≡ asked_of w k f qs i
unfolding asked
asked-shown w k f qs i q s x e h d = asked-one w k f qs i x (d ∙ rw (h, e))
