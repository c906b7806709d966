-- The answer to a query whose walk has gone on. Assumes nothing.
use mathlib.Core.Bool.{Bool, true, false, cond}
use mathlib.Core.List.{List, ◌++◌, append-nil}
use mathlib.Core.Path.{◌≡◌, refl, ap, ap₂, sym, subst, ◌∙◌}
use Prim.Native.Nat.{ℕ, zero, suc, ◌+◌, ◌-◌, ◌*◌, ◌/◌, ◌%◌, ◌^◌, ◌≤◌, ◌<◌}
use native.Mathlib.Decide.{ℕ_discrete}
use native.Mathlib.Nat.{zero-add, suc-add, mod-lt}
use native.Mathlib.Omega.{arith}
use lib.Dec.{eqb, ltb}
use lib.ListN.{length, get_or, set, take, drop, length-set}
use lib.Pow.{pow_pos, high, low}
use lib.Seq.{take-take, take-add, get_or-set_same, get_or-set_other}
use borrow.Author.Tests.{ltb-true, ltb-false}
use Rattle.nets.specs.Bits.{bits}
use Rattle.nets.specs.Networks.{width, value, address, refusal_of, bits_left, bits_words, start_of, no_bits, prefix_as, next_as, next_of}
use Rattle.nets.specs.Refusals.{answered}
use Rattle.nets.specs.declared.Net.{Net}
use Rattle.nets.specs.declared.PrefixBits.{PrefixBits}
use Rattle.nets.specs.declared.Refusal.{Refusal}
use Rattle.nets.specs.declared.Refusal.TheVariants.{BadNetwork}
use Rattle.nets.proofs.Handing.{bits-end, length-bits_left}
use Rattle.nets.proofs.Numbers.{length-bits, val-bits, bits-val, take-bits}
use Rattle.nodes.specs.Words.{put}
use Rattle.nodes.specs.Parse.{Room}
use Rattle.nodes.proofs.Put.{length-put}
use Rattle.pool_state.specs.Decode.{base, is_header}
use Rattle.pool_state.specs.Rules.{tag_in}
use Rattle.pool_state.proofs.Header.{is_header-header, header-room}
use Rattle.trie_lookup.specs.Walks.{toward, walk, walk_from}
use Rattle.trie_lookup.specs.declared.Shown.{Shown}
use Rattle.trie_lookup.specs.declared.Shown.TheVariants.{Member, Nothing, Refused}
use Rattle.trie_lookup.proofs.Turns.{walk_from-node}
use Rattle.lookup.specs.Rules.{query, is_member}
use Rattle.lookup.proofs.Asked.{prefix-bits, prefix-few, query-refused, query-path}
use Rattle.lookup.proofs.Beginnings.{path-plain}
use Rattle.lookup_many.specs.Rules.{query_at, in_one, asked}
use Rattle.trie_lanes.specs.Lanes.{comes, On, Goes, lane_at, keep_at, Wide, AllOn, AllGo, Live}
use Rattle.lookup_many.specs.Lanes.{clipped, first_of, second, lane_by, lane_of, Started, Came, root_in, place_in, Seat, Ending, Fits}
use Rattle.trie_lanes.specs.declared.Lane.{Lane}
use Rattle.trie_lanes.proofs.Going.{walk-leaf, walk_none, comes-next, placed-word}
use Rattle.trie_lanes.proofs.LaneRows.{wide-keep, keep_same, keep-other}
use Rattle.std.specs.Prelude.{Result, Ok, Err, Some, None}

pub seated : {w : List ℕ} {b n k f : ℕ} → is_header w ≡ true → k < get_or w 2 0 → get_or w 5 0 ≡ 0 → tag_in w k ≡ 0 → b ≡ base (get_or w 2 0) → n ≡ get_or w 3 0 → (root_in w k ≡ 0 → ⊥) → root_in w k ≤ n → f ≡ get_or w 1 0 → Seat w b n k f
seated h lt z t b n nz le f = record { header = h; known = lt; form = z; plain = t; from = b; nodes = n; one = omega arith; within = le; family = f }

pub seat-room : {w : List ℕ} {b n k f : ℕ} → Seat w b n k f → Room w b n
seat-room {w} s = rw (s.from, s.nodes) (header-room (is_header-header w s.header))

-- The bits of a query are those of its first word and then those of its second.
drop_bits : (j k a : ℕ) → drop j (bits (j + k) a) ≡ bits k a
unfolding bits
drop_bits zero k a = ap (λ t. bits t a) (zero-add k)
drop_bits (suc j) k a = rw (suc-add j k) (drop_bits j k a)

bits-low : (hi lo : ℕ) → lo < 2 ^ 64 → bits 64 (value hi lo) ≡ bits 64 lo
bits-low hi lo h = sym (bits-val 64 (bits 64 (value hi lo)) (length-bits 64 (value hi lo))) ∙ ap (bits 64) (val-bits 64 (value hi lo) ∙ low hi 64 h)

take-first : (k hi lo : ℕ) → lo < 2 ^ 64 → k ≤ 64 → take k (bits 128 (value hi lo)) ≡ take k (bits 64 hi)
take-first k hi lo h le = sym (take-take k 64 (bits 128 (value hi lo)) le) ∙ ap (take k) (take-bits 64 64 (value hi lo) ∙ ap (bits 64) (high hi 64 h))

two-words : (p : ℕ) (s : PrefixBits) → s.len ≤ 128 → s.lo < 2 ^ 64 → comes (lane_by p s) ++ bits_left (second s) ≡ bits_left s
unfolding comes bits_left
two-words p s few h = go (ltb s.len 64) refl
  where
    z : 0 < 2 ^ 64
    z = omega arith

    go : (t : Bool) → ltb s.len 64 ≡ t
        → take (cond t s.len 64) (bits 128 (value s.hi 0)) ++ take (s.len - cond t s.len 64) (bits 128 (value s.lo 0)) ≡ take s.len (bits 128 (value s.hi s.lo))
    go true e =
        let o : s.len - s.len ≡ 0 = omega arith in
        let l : s.len ≤ 64 = omega (arith, ltb-true s.len 64 e) in
        ap (λ t. take s.len (bits 128 (value s.hi 0)) ++ take t (bits 128 (value s.lo 0))) o ∙ append-nil (take s.len (bits 128 (value s.hi 0)))
        ∙ take-first s.len s.hi 0 z l ∙ sym (take-first s.len s.hi s.lo h l)
    go false e =
        let l : 64 ≤ s.len = ltb-false s.len 64 e in
        let r : s.len - 64 ≤ 64 = omega arith in
        let a : 64 + (s.len - 64) ≡ s.len = omega arith in
        let v = bits 128 (value s.hi s.lo) in
        let t : take s.len v ≡ take 64 v ++ take (s.len - 64) (drop 64 v) = sym (ap (λ k. take k v) a) ∙ take-add 64 (s.len - 64) v in
        let u = take-first 64 s.hi 0 z (omega arith) ∙ sym (take-first 64 s.hi s.lo h (omega arith)) in
        let d = ap (take (s.len - 64)) (drop_bits 64 64 (value s.hi s.lo) ∙ bits-low s.hi s.lo h) in
        ap₂ ◌++◌ u (take-first (s.len - 64) s.lo 0 z r ∙ sym d) ∙ sym t

-- the beginning of a walk, by the bits that prefix_bits hands out, or by their refusal
module _ (p : ℕ) (q : Net) (x : Result PrefixBits Refusal) (e : prefix_as x ≡ answered (refusal_of q) no_bits (start_of q)) where
  lane_of-bits : lane_by p (prefix_as x).1 ≡ lane_of p q
  unfolding lane_of
  lane_of-bits = ap (λ t. lane_by p t.1) e

  pub lane_of-some : {bits : PrefixBits} → x ≡ Ok bits → lane_by p bits ≡ lane_of p q
  lane_of-some h = ap (λ t. lane_by p (prefix_as t).1) (sym h) ∙ lane_of-bits

  pub lane_of-none : {y : Refusal} → x ≡ Err y → lane_by p no_bits ≡ lane_of p q
  lane_of-none h = ap (λ t. lane_by p (prefix_as t).1) (sym h) ∙ lane_of-bits

start-low : (q : Net) → (start_of q).lo < 2 ^ 64
unfolding start_of
start-low q = mod-lt (address q * 2 ^ (128 - width q.family)) (pow_pos 64)

module _ (q : Net) {w : List ℕ} {b n k : ℕ} {l : Lane} (s : Seat w b n k q.family) (g : Goes w b n (lane_of (place_in w b k) q) l)
    {x : (Result PrefixBits Refusal)} (e : prefix_as x ≡ answered (refusal_of q) no_bits (start_of q)) where
  module _ {bits : PrefixBits} (h : x ≡ Ok bits) where
    from_start : Goes w b n (lane_by (place_in w b k) bits) l
    from_start = rw (← lane_of-some (place_in w b k) q x e h) at g

    from-root : (t : Shown) → t ≡ walk_from w b n (bits_left bits) (root_in w k) → t ≡ query w k q
    from-root t r = query-path w k q s.family x e bits t h s.form ((rw (s.from, s.nodes) at r) ∙ path-plain w k (bits_left bits) s.plain)

    pub ending : Ending w b n k q bits l
    ending =
        let i : place_in w b k + 1 - b ≡ root_in w k = omega (arith, s.one) in
        let z : 0 + (first_of bits.len - l.left) ≡ first_of bits.len - l.left = omega arith in
        let o : bits.lo < 2 ^ 64 = rw (prefix-bits x q bits e h).1 (start-low q) in
        let f = rw (i, z, two-words (place_in w b k) bits (prefix-few x q bits e h) o) at (from_start.shows 0 (bits_left (second bits))) in
        record {
          on = g.on;
          few = prefix-few x q bits e h;
          less = from_start.less;
          shows = from-root _ (sym f ∙ walk_from-node w b n (bits_left bits) (root_in w k) 0 refl (λ z. omega (arith, s.one)) s.within);
        }

  pub end_refused : (y : Refusal) → x ≡ Err y → in_one (is_member q (Refused BadNetwork)) ≡ asked w k q
  unfolding asked
  end_refused y h = ap (λ t. in_one (is_member q t)) (query-refused w k q s.family x e y h)

pub end-shown : (w : List ℕ) (k : ℕ) (q : Net) (t : Shown) (r : ℕ) → r ≡ in_one (is_member q t) → t ≡ query w k q → r ≡ asked w k q
unfolding asked
end-shown w k q t r e h = e ∙ ap (λ y. in_one (is_member q y)) h

-- What is shown at the end of a walk, by the tests.
module _ {w : List ℕ} {b n k : ℕ} {q : Net} {s : PrefixBits} {l : Lane} (g : Ending w b n k q s l) where
  abbrev depth : ℕ
  depth = first_of s.len - l.left

  pub shown-leaf : get_or w l.p 0 ≡ 0 → Member depth (depth + 1) ≡ query w k q
  shown-leaf z = sym (walk-leaf w b n depth (l.p + 1 - b) (comes l ++ bits_left (second s)) (sym (placed-word w g.on (sym z)))) ∙ g.shows

  -- the first word has come to its end
  pub shown-second : (t : Shown) → next_of (bits_words l.word 0 l.left) ≡ next_as None
      → t ≡ walk w b n (s.len - (s.len - first_of s.len)) (l.p + 1 - b) (bits_left (second s)) → t ≡ query w k q
  unfolding comes
  shown-second t e d =
      let h = bits-end (bits_words l.word 0 l.left) (omega (arith, g.on.few)) e in
      let z = length-bits_left (bits_words l.word 0 l.left) (omega (arith, g.on.few)) in
      let o : l.left ≡ 0 = sym z ∙ ap length h in
      let m : s.len - (s.len - first_of s.len) ≡ depth = go (ltb s.len 64) refl o in
      d ∙ ap (λ y. walk w b n y (l.p + 1 - b) (bits_left (second s))) m ∙ sym (ap (λ y. walk w b n depth (l.p + 1 - b) (y ++ bits_left (second s))) h) ∙ g.shows
    where
      go : (t : Bool) → ltb s.len 64 ≡ t → l.left ≡ 0 → s.len - (s.len - cond t s.len 64) ≡ cond t s.len 64 - l.left
      go true e o = omega arith
      go false e o = omega (arith, ltb-false s.len 64 e)

  -- there is no child on the side of the bit
  pub shown-none : (bit : Bool) (later : PrefixBits) (c : ℕ) → next_of (bits_words l.word 0 l.left) ≡ next_as (Some (bit, later)) → (get_or w l.p 0 ≡ 0 → ⊥)
      → l.p + get_or w l.p 0 / 2 < b + (n - 1) → c ≡ toward bit (get_or w l.p 0) → c ≡ 0 → Nothing (depth + 1) ≡ query w k q
  shown-none bit later c e nz lt by z =
      let o = g.on in
      sym (walk_none w b n depth (l.p + 1 - b) bit (bits_left (bits_words later.hi 0 later.len) ++ bits_left (second s)) (get_or w l.p 0) c (placed-word w o refl) nz
      (omega (arith, o.low)) (omega (arith, o.low)) by z)
      ∙ sym (ap (λ y. walk w b n depth (l.p + 1 - b) (y ++ bits_left (second s))) (comes-next l bit later o.few e)) ∙ g.shows

  pub ending-first : first_of s.len ≤ s.len
  ending-first = go (ltb s.len 64) refl
    where
      go : (t : Bool) → ltb s.len 64 ≡ t → cond t s.len 64 ≤ s.len
      go true e = omega arith
      go false e = ltb-false s.len 64 e

pub first_of-few : (k : ℕ) → first_of k ≤ 64
first_of-few k = go (ltb k 64) refl
  where
    go : (t : Bool) → ltb k 64 ≡ t → cond t k 64 ≤ 64
    go true e = omega (arith, ltb-true k 64 e)
    go false e = omega arith

-- a query of the row has the family that is asked for; and its walk begins as the query's
pub seat-query : {w : List ℕ} {b n k f : ℕ} (qs : List ℕ) (i : ℕ) (q : Net) → q ≡ clipped (query_at f qs i) → Seat w b n k f → Seat w b n k q.family
seat-query qs i q e s = rw e s

-- the rows, as they are written
pub fits-front : {qs v : List ℕ} {i m l : ℕ} → Fits qs i m v → l ≤ m → Fits qs i l v
fits-front h le = record { queries = omega (arith, h.queries); answers = h.answers }

pub fits-part : {qs v : List ℕ} {i m : ℕ} (k l : ℕ) → Fits qs i m v → k + l ≤ m → Fits qs (i + k) l v
fits-part k l h le = record { queries = omega (arith, h.queries); answers = h.answers }

pub fits-put : {qs v u : List ℕ} {i m : ℕ} (j : ℕ) (xs : List ℕ) → Fits qs i m v → u ≡ put v j xs → Fits qs i m u
fits-put {v = v} j xs h e = record { queries = h.queries; answers = rw (ap length e ∙ length-put v j xs) h.answers }

pub first-few : (k r : ℕ) → r ≡ first_of k → r ≤ 64
first-few k r e = rw e (first_of-few k)

-- they begin at a node, and each goes its way
module _ {w : List ℕ} {b n k f : ℕ} (s : Seat w b n k f) where
  lane-on : (q : Net) → On b n (lane_of (place_in w b k) q)
  unfolding lane_of
  lane-on q = record { low = omega arith; within = omega (arith, s.one, s.within); few = first_of-few (answered (refusal_of q) no_bits (start_of q)).1.len }

  pub started-on : (qs : List ℕ) (i e : ℕ) (xs : List ℕ) → e ≤ 32 → Started (place_in w b k) f qs i e xs → AllOn b n e xs
  started-on qs i e xs le h = record { wide = h.wide; few = le; each = λ a lt. rw (h.each a lt) (lane-on (clipped (query_at f qs (i + a)))) }

  pub came : (qs : List ℕ) (i e : ℕ) (xs ys : List ℕ) → e ≤ 32 → Started (place_in w b k) f qs i e xs → AllGo w b n e xs ys → Came w b n (place_in w b k) f qs i e ys
  came qs i e xs ys le h g = record { wide = g.wide; few = le; each = λ a lt. rw (h.each a lt) at (g.each a lt) }

-- One walk more at its beginning.
pub started_none : {p f : ℕ} {qs xs : List ℕ} {i : ℕ} → Wide xs → Started p f qs i 0 xs
started_none h = record { wide = h; each = λ a lt. absurd (omega arith) }

pub started-next : {p f : ℕ} {qs xs ys : List ℕ} {i a : ℕ} (l : Lane) → Started p f qs i a xs → a < 32 → l ≡ lane_of p (clipped (query_at f qs (i + a))) → ys ≡ keep_at xs a l
    → Started p f qs i (a + 1) ys
started-next {p} {f} {qs} {xs} {ys} {i} {a} l h lt e k = record { wide = subst Wide (sym k) (wide-keep xs a l h.wide); each = λ j le. go j le (ℕ_discrete j a) }
  where
    go : (j : ℕ) → j < a + 1 → Dec (j ≡ a) → lane_at ys j ≡ lane_of p (clipped (query_at f qs (i + j)))
    go j le (yes o) = ap (lane_at ys) o ∙ ap (λ t. lane_at t a) k ∙ keep_same xs a l h.wide lt ∙ e ∙ ap (λ t. lane_of p (clipped (query_at f qs (i + t)))) (sym o)
    go j le (no o) = ap (λ t. lane_at t j) k ∙ keep-other xs a l j o ∙ h.each j (omega arith)

pub live-next : (a : ℕ) (ys : List ℕ) → Live a a ys → a < 32 → Live (a + 1) (a + 1) (set ys a a)
live-next a ys h lt = record { wide = length-set ys a a ∙ h.wide; few = omega arith; each = λ j le. go j le (ℕ_discrete j a) }
  where
    go : (j : ℕ) → j < a + 1 → Dec (j ≡ a) → get_or (set ys a a) j 0 < a + 1
    go j le (yes o) = rw (o, get_or-set_same ys a a 0 (omega (arith, h.wide))) (omega arith)
    go j le (no o) = rw (get_or-set_other ys a j a 0 o) (omega (arith, h.each j (omega arith)))
