-- A member that a path shows is at most as long as the query: the query cut to its length is a network, and never more nodes are read than the query has bits, plus one. Assumes nothing.
use mathlib.Core.Bool.{Bool, true, false, cond, ◌&&◌, ◌||◌}
use mathlib.Core.List.{List}
use mathlib.Core.Path.{◌≡◌, refl, ◌∙◌}
use Prim.Native.Nat.{ℕ, zero, suc, ◌+◌, ◌≤◌}
use native.Mathlib.Omega.{arith}
use lib.Dec.{eqb, leb, ltb}
use lib.ListN.{length, get_or, take, drop, length-drop}
use borrow.Author.Tests.{eqb-true, leb-true, ltb-false}
use Rattle.nets.specs.Bits.{Bits, val, leads}
use Rattle.nets.specs.Tries.{side}
use Rattle.nets.specs.Networks.{net_bits, refusal_of, with_len, with_len_no}
use Rattle.nets.specs.declared.Net.{Net}
use Rattle.nets.specs.declared.Refusal.TheVariants.{Damaged, NoSet, WrongFamily, BadNetwork}
use Rattle.nets.proofs.Strings.{cond_both}
use Rattle.nets.proofs.Numbers.{refusal_of-is, is-refusal_of, length-net_bits}
use Rattle.nets.proofs.Answers.{with_len_no-net}
use Rattle.kept_nodes.specs.Parse.{len_at, dist_at, string_at}
use Rattle.kept_lookup.specs.Walks.{kept_walk, kept_walk_from}
use Rattle.kept_lookup.specs.declared.Shown as kept-shown
use Rattle.kept_lookup.specs.declared.Shown.TheVariants as kept
use Rattle.pool_state.specs.Kept.{Form, first, second}
use Rattle.pool_state.specs.Decode.{record_at, base, form_in, is_header}
use Rattle.pool_state.specs.Rules.{tag_in}
use Rattle.pool_state.specs.Steps.{index_in}
use Rattle.trie_lookup.specs.Walks.{walk_from, stands_on}
use Rattle.lookup.specs.Rules.{on_root, shown_of, path_of, query, lookup, member_of, supernet_rule}
use Rattle.trie_lookup.specs.declared.Shown.{Shown}
use Rattle.trie_lookup.specs.declared.Shown.TheVariants.{Member, Nothing, Refused}
use Rattle.trie_lookup.proofs.Within.{AtMost, walk_from-within, stands_on-within}

first-within : (w : List ℕ) (m k : ℕ) (q : Bits) → length q ≤ m → AtMost m (path_of first w k q)
unfolding path_of
first-within w m k q le = go (eqb (tag_in w k) 0) (ltb (length q) 8) refl
  where
    b : ℕ
    b = base (get_or w 2 0)

    n : ℕ
    n = get_or w 3 0

    r : ℕ
    r = get_or w (record_at k) 0

    x : ℕ
    x = get_or w (index_in w k + val (take 8 q)) 0

    go : (a c : Bool) → ltb (length q) 8 ≡ c → AtMost m (cond (a || c) (walk_from w b n q r) (cond (leb (tag_in w k) (get_or w 4 0)) (stands_on w b n r x (drop 8 q)) (Refused Damaged)))
    go true c e = walk_from-within w b n m q r le
    go false true e = walk_from-within w b n m q r le
    go false false e =
        cond_both (AtMost m) (leb (tag_in w k) (get_or w 4 0)) (stands_on w b n r x (drop 8 q)) (Refused Damaged)
        (stands_on-within w b n m r x (drop 8 q) (omega (arith, ltb-false (length q) 8 e, length-drop 8 q))) tt

-- in the second form each node read is longer than the one before
module _ (f : ℕ) (w : List ℕ) (b n m : ℕ) (q : Bits) (fit : length q ≤ m) where
  kept-within : (k least i c : ℕ) → c ≤ least → c ≤ length q + 1 → AtMost m (shown_of (kept_walk f w b n k least i q c))
  unfolding kept_walk
  kept-within zero least i c le few = tt
  kept-within (suc k) least i c le few =
      let len = len_at f w b i in
      let to = i + side (get_or q len false) (dist_at f w b i) 1 in
      go len (kept_walk f w b n k (len + 1) to q (c + 1)) (leb (i + dist_at f w b i) n) (leb least len) (leb len (length q)) (leads (string_at f w b i) q) (eqb (dist_at f w b i) 0)
      (eqb len (length q)) (leb-true least len) (leb-true len (length q)) (kept-within k (len + 1) to (c + 1))
    where
      go : (len : ℕ) (s : kept-shown.Shown) (x y z u v e : Bool) → (y ≡ true → least ≤ len) → (z ≡ true → len ≤ length q) → (c + 1 ≤ len + 1 → c + 1 ≤ length q + 1 → AtMost m (shown_of s))
          → AtMost m (shown_of (cond (x && y) (cond (z && u) (cond v (kept.Member len (c + 1)) (cond e (kept.Nothing (c + 1)) s)) (kept.Nothing c)) kept.Damaged))
      go len s false y z u v e g h next = tt
      go len s true false z u v e g h next = tt
      go len s true true false u v e g h next = omega arith
      go len s true true true false v e g h next = omega arith
      go len s true true true true true e g h next = (omega (arith, h refl), omega (arith, g refl, h refl))
      go len s true true true true false true g h next = omega (arith, g refl, h refl)
      go len s true true true true false false g h next = next (omega (arith, g refl)) (omega (arith, g refl, h refl))

  kept_from-within : (r : ℕ) → AtMost m (shown_of (kept_walk_from f w b n q r))
  unfolding kept_walk_from
  kept_from-within r = go (eqb r 0) (leb r n)
    where
      go : (x y : Bool) → AtMost m (shown_of (cond x (kept.Nothing 0) (cond y (kept_walk f w b n (suc (length q)) 0 r q 0) kept.Damaged)))
      go true y = omega arith
      go false true = kept-within (suc (length q)) 0 r 0 (omega arith) (omega arith)
      go false false = tt

path-within : (F : Form) (w : List ℕ) (m k : ℕ) (q : Bits) → length q ≤ m → AtMost m (path_of F w k q)
unfolding path_of
path-within first w m k q le = first-within w m k q le
path-within second w m k q le = kept_from-within (get_or w 1 0) w (base (get_or w 2 0)) (get_or w 3 0) m q le (get_or w (record_at k) 0)

-- what is shown keeps this, and the query n, cut to the length of the member that is shown, is a network
abbrev pub Cut : Net → Shown → Type 0
Cut n (Member d s) = (with_len_no n d ≡ 0) × (s ≤ n.len + 1)
Cut n (Nothing s) = s ≤ n.len + 1
Cut n (Refused r) = Unit

module _ (n : Net) where
  cut : refusal_of n ≡ 0 → (s : Shown) → AtMost n.len s → Cut n s
  cut e (Member d s) h =
      let k = refusal_of-is n e in
      (with_len_no-net n d e ∙ is-refusal_of (with_len n d) (record { family = k.family; len = omega (arith, k.len, h.0); address = k.address }), h.1)
  cut e (Nothing s) h = h
  cut e (Refused r) h = tt

  query-cut : (w : List ℕ) (k : ℕ) → Cut n (query w k n)
  unfolding query
  query-cut w k = cond_both (Cut n) (eqb n.family (get_or w 1 0)) (cond (eqb (refusal_of n) 0) s (Refused BadNetwork)) (Refused WrongFamily) (go (eqb (refusal_of n) 0) refl) tt
    where
      s : Shown
      s = path_of (form_in w) w k (net_bits n)

      go : (t : Bool) → eqb (refusal_of n) 0 ≡ t → Cut n (cond t s (Refused BadNetwork))
      go true e =
          let h = eqb-true (refusal_of n) 0 e in
          cut h s (path-within (form_in w) w n.len k (net_bits n) (omega (arith, length-net_bits n h)))
      go false e = tt

  pub lookup-cut : (w : List ℕ) (k : ℕ) → Cut n (lookup w k n)
  unfolding lookup on_root
  lookup-cut w k =
      let s = query w k n in
      cond_both (Cut n) (is_header w) (cond (ltb k (get_or w 2 0)) s (Refused NoSet)) (Refused Damaged)
      (cond_both (Cut n) (ltb k (get_or w 2 0)) s (Refused NoSet) (query-cut w k) tt)
      tt

  -- so on any words
  pub steps-le : (w : List ℕ) (k : ℕ) → (supernet_rule w k n).1.1.1.0 ≤ n.len + 1
  unfolding supernet_rule
  steps-le w k = go (lookup w k n) (lookup-cut w k)
    where
      go : (s : Shown) → Cut n s → (member_of n s).1.1.1.0 ≤ n.len + 1
      go (Member d s) h = h.1
      go (Nothing s) h = h
      go (Refused r) h = omega arith
