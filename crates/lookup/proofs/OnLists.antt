-- On sound words each lookup is the list's: the number by the state alone, and the member, the truth, the steps or the emptiness by the set's list; the report is that of the query. Assumes nothing.
use mathlib.Core.Bool.{Bool, true, false, not, cond, ◌||◌, false≢true}
use mathlib.Core.List.{List, [], ◌∷◌}
use mathlib.Core.Path.{◌≡◌, refl, ap, sym, ◌∙◌}
use Prim.Native.Nat.{ℕ, suc, ◌+◌, ◌≤◌, ◌<◌}
use native.Mathlib.Nat.{zero-add, add-zero}
use native.Mathlib.Omega.{arith}
use lib.Dec.{eqb, leb, ltb}
use lib.ListN.{length, get_or, take, drop, take-append-drop}
use lib.Seq.{take-take, length-take-le}
use borrow.Author.Tests.{eqb-false, ltb-true, ltb-false, leb-false, le-leb, lt-leb, eqb-true, ne_eqb}
use Rattle.nets.specs.Bits.{Bits, digit, val, leads, bits}
use Rattle.nets.specs.Tries.{none, list_of, trie_of}
use Rattle.nets.specs.TrieOps.{search_t, steps_t}
use Rattle.nets.specs.Lists.{Found, found, missing, is_found, supernet_l, contains_l, steps_l}
use Rattle.nets.specs.Refusals.{number, answered}
use Rattle.nets.specs.Networks.{width, address, net_bits, net_from, refusal_of, with_len, cleared, has_bit_past}
use Rattle.nets.specs.declared.Net.{Net}
use Rattle.nets.specs.declared.Refusal.{Refusal}
use Rattle.nets.specs.declared.Refusal.TheVariants.{Damaged, NoSet, WrongFamily, BadNetwork}
use Rattle.nets.proofs.Strings.{leads-head, leads-tail, leads-length}
use Rattle.nets.proofs.Numbers.{length-net_bits, bits-val}
use Rattle.nets.proofs.Order.{val-high}
use Rattle.nets.proofs.TrieOf.{list_of-trie_of}
use Rattle.nets.proofs.Lookups.{supernet_l-found, search_t-list_of}
use Rattle.nets.proofs.Steps.{steps_t-list_of}
use Rattle.pool_state.specs.States.{State, indexed_of}
use Rattle.pool_state.specs.Kept.{Form, first, second, held_l, index_l}
use Rattle.pool_state.specs.Decode.{record_at, base, tag_of, indexes_at, root_at, decode, sound}
use Rattle.pool_state.specs.Rules.{first_node, tag_in}
use Rattle.pool_state.specs.Steps.{index_in}
use Rattle.pool_state.specs.Changes.{set_at, list_at, net_rules}
use Rattle.pool_state.proofs.Claims.{is_list-list_at, is_state-sets}
use Rattle.pool_state.proofs.Kept.{held_l-none}
use Rattle.pool_state.proofs.Holds.{root_at-some, first_node-is}
use Rattle.pool_state.proofs.Indexed.{indexes-tag, indexes-at, indexed-before}
use Rattle.pool_state.proofs.Whole.{HeaderOf, decode-whole}
use Rattle.pool_state.proofs.Decoded.{decode-header, decode-state, decode-root, decode-list}
use Rattle.pool_state.proofs.OnTries.{decode-at}
use Rattle.pool_state.proofs.OnKept.{decode-kept}
use Rattle.branch_points.specs.BranchPoints.{kept_steps_l}
use Rattle.branch_points.proofs.Steps.{kept_steps_l-le}
use Rattle.trie_lookup.specs.Walks.{walk_from, stands_on}
use Rattle.lookup.specs.Rules.{unsought, unheld, on_root, path_of, query, lookup, member_of, is_member, supernet_rule, contains_rule, empty_at, empty_rule, set_no, lookup_no, steps_of, found_as}
use Rattle.trie_lookup.specs.declared.Shown.{Shown}
use Rattle.trie_lookup.specs.declared.Shown.TheVariants.{Refused}
use Rattle.nodes.specs.Words.{Has}
use Rattle.nodes.proofs.Has.{has-at}
use Rattle.trie_index.specs.Index.{standing, index_t}
use Rattle.trie_index.proofs.Fill.{length-fill, get_or-fill}
use Rattle.trie_lookup.proofs.Searched.{shown, At, standing-search}
use Rattle.lookup.proofs.Firsts.{walk_from-search}
use Rattle.lookup.proofs.Seconds.{kept-search}

-- The member that is found is the query, cut to the member's length.
take-leads : (p q : Bits) → leads p q ≡ true → take (length p) q ≡ p
take-leads [] q e = refl
take-leads (b ∷ p) [] e = absurd (false≢true e)
take-leads (b ∷ p) (c ∷ q) e = rw (leads-head b c p q e, take-leads p q (leads-tail b c p q e))

cleared-cut : (n : Net) (p : Bits) → refusal_of n ≡ 0 → leads p (net_bits n) ≡ true → cleared (with_len n (length p)) ≡ net_from n.family p
unfolding cleared net_bits
cleared-cut n p e h =
    let B = bits (width n.family) (address n) in
    let le : length p ≤ n.len = omega (arith, leads-length p (net_bits n) h, length-net_bits n e) in
    ap (net_from n.family) (sym (take-take (length p) n.len B le) ∙ take-leads p (net_bits n) h)

trie-nil : trie_of [] ≡ none
unfolding trie_of
trie-nil = refl

-- The second form never counts more nodes than the first.
pub steps_of-le : (F : Form) (l : List Bits) (q : Bits) → steps_of F l q ≤ steps_l l q
unfolding steps_of
steps_of-le first l q = omega arith
steps_of-le second l q = kept_steps_l-le l q

module _ (w : List ℕ) (S : State) (e : decode w ≡ sound S) (k : ℕ) where
  head : HeaderOf w S
  head = decode-header w S e

  on_root-sound : {A : Type 0} (refuse : Refusal → A) (f : ℕ → A) → on_root w k refuse f ≡ cond (leb (length S.sets) k) (refuse NoSet) (f (get_or w (record_at k) 0))
  unfolding on_root
  on_root-sound refuse f = rw (head.known, head.sets) (go (ltb k (length S.sets)) refl)
    where
      go : (b : Bool) → ltb k (length S.sets) ≡ b → cond b (f (get_or w (record_at k) 0)) (refuse NoSet) ≡ cond (leb (length S.sets) k) (refuse NoSet) (f (get_or w (record_at k) 0))
      go true h = rw (lt-leb (length S.sets) k (ltb-true k (length S.sets) h))
      go false h = rw (le-leb (length S.sets) k (ltb-false k (length S.sets) h))

  list-of : list_of (trie_of (list_at S k)) ≡ list_at S k
  list-of = list_of-trie_of (width S.family) (list_at S k) (is_list-list_at S k (decode-state w S e))

  module _ (lt : k < length S.sets) where
    one : 1 ≤ first_node k 1 S.sets
    one = omega (arith, first_node-is S.form S.family k 1 S.sets (is_state-sets S (decode-state w S e)) lt)

    -- the root's number is 0 or a node's, and 0 exactly where the list is empty
    root-sound : (get_or w (record_at k) 0 ≤ get_or w 3 0) × (eqb (get_or w (record_at k) 0) 0 ≡ eqb (length (list_at S k)) 0)
    root-sound = rw (head.nodes, decode-root w S e k lt) (go (list_at S k) (decode-list w S e k lt).within)
      where
        i : ℕ
        i = first_node k 1 S.sets

        go : (l : List Bits) → i + held_l S.form l ≤ suc S.nodes → (root_at i l ≤ S.nodes) × (eqb (root_at i l) 0 ≡ eqb (length l) 0)
        go [] h = (omega arith, refl)
        go (p ∷ l) h =
            let some : held_l S.form (p ∷ l) ≡ 0 → ⊥ = λ z. let x = held_l-none S.form (p ∷ l) z in let y : ◌≡◌ {A = ℕ} 0 1 = cc in omega arith in
            (omega (arith, some), ne_eqb i 0 (omega (arith, one)) ∙ sym (ne_eqb (suc (length l)) 0 (omega arith)))

    path-second : S.form ≡ second → (q : Bits) → path_of second w k q ≡ shown 0 (supernet_l (list_at S k) q) (kept_steps_l (list_at S k) q)
    unfolding path_of
    path-second form q =
        rw (head.family, head.sets, head.nodes, decode-root w S e k lt)
        (kept-search one (list_at S k) q (is_list-list_at S k (decode-state w S e)) (decode-kept w S e form k lt))

    root-at : S.form ≡ first → (trie_of (list_at S k) ≡ none → ⊥) → At w (base (get_or w 2 0)) (get_or w 3 0) (get_or w (record_at k) 0 + 0) (trie_of (list_at S k))
    root-at form ne =
        let s = decode-at w S e form k lt in
        let z : list_at S k ≡ [] → ⊥ = λ q. ne (ap trie_of q ∙ trie-nil) in
        rw (add-zero (get_or w (record_at k) 0), head.sets, head.nodes, decode-root w S e k lt, root_at-some (first_node k 1 S.sets) (list_at S k) z)
        (record { one = one; within = s.within; has = s.has })

    walk-sound : S.form ≡ first → (q : Bits) → walk_from w (base (get_or w 2 0)) (get_or w 3 0) q (get_or w (record_at k) 0) ≡ shown 0 (supernet_l (list_at S k) q) (steps_l (list_at S k) q)
    walk-sound form q =
        let t = trie_of (list_at S k) in
        rw (head.sets, head.nodes, decode-root w S e k lt)
        (walk_from-search one (list_at S k) q (decode-at w S e form k lt)
        ∙ rw (← search_t-list_of q t, ← steps_t-list_of q t) (ap (λ l. shown 0 (supernet_l l q) (steps_l l q)) list-of))

    -- an indexed set: its tag, and the word of its index for the first eight bits of a query
    its-tag : tag_in w k ≡ tag_of (set_at S k).indexed (indexed_of (take k S.sets))
    its-tag = rw (zero-add k, zero-add (indexed_of (take k S.sets))) at (indexes-tag w (indexes_at S) k 0 0 S.sets lt (decode-whole w S e).indexes)

    module _ (some : tag_in w k ≡ 0 → ⊥) where
      indexed : ((set_at S k).indexed ≡ true) × (tag_in w k ≡ suc (indexed_of (take k S.sets)))
      indexed = go (set_at S k).indexed its-tag
        where
          go : (c : Bool) → tag_in w k ≡ tag_of c (indexed_of (take k S.sets)) → (c ≡ true) × (tag_in w k ≡ suc (indexed_of (take k S.sets)))
          go true q = (refl, q)
          go false q = absurd (some q)

      tag-few : tag_in w k ≤ get_or w 4 0
      tag-few = omega (arith, indexed.1, indexed-before k S.sets lt, ap digit indexed.0, head.indexed)

      index-has : Has w (index_in w k) (index_l (list_at S k))
      index-has =
          let h = indexes-at w (indexes_at S) k 0 0 S.sets lt (decode-whole w S e).indexes in
          let g = ap (λ c. cond c (index_l (list_at S k)) []) indexed.0 in
          has-at (omega (arith, indexed.1, head.sets, head.nodes)) (rw g at h)

      word-is : (q : Bits) → 8 ≤ length q → get_or w (index_in w k + val (take 8 q)) 0 ≡ standing (take 8 q) 0 0 (trie_of (list_at S k))
      unfolding index_l index_t
      word-is q le =
          let n : length (take 8 q) ≡ 8 = length-take-le 8 q le in
          let f : ℕ → ℕ = λ v. standing (bits 8 v) 0 0 (trie_of (list_at S k)) in
          let lo : val (take 8 q) < 256 = rw n at (val-high (take 8 q)) in
          index-has.at (val (take 8 q)) (rw (length-fill f 256 0) lo) ∙ get_or-fill f 256 0 (val (take 8 q)) lo
          ∙ ap (λ v. standing (bits 8 v) 0 0 (trie_of (list_at S k))) (zero-add (val (take 8 q)))
          ∙ ap (λ p. standing p 0 0 (trie_of (list_at S k))) (bits-val 8 (take 8 q) n)

      index-sound : S.form ≡ first → (q : Bits) → 8 ≤ length q → stands_on w (base (get_or w 2 0)) (get_or w 3 0) (get_or w (record_at k) 0) (get_or w (index_in w k + val (take 8 q)) 0) (drop 8 q)
          ≡ shown 0 (supernet_l (list_at S k) q) (steps_l (list_at S k) q)
      index-sound form q le =
          let t = trie_of (list_at S k) in
          let n : length (take 8 q) ≡ 8 = length-take-le 8 q le in
          rw (word-is q le)
          (standing-search w (base (get_or w 2 0)) (get_or w 3 0) (get_or w (record_at k) 0) (take 8 q) (drop 8 q) 0 0 t (omega (arith, n)) (root-at form)
          ∙ ap (λ p. shown 0 (search_t p t) (steps_t p t)) (take-append-drop 8 q)
          ∙ rw (← search_t-list_of q t, ← steps_t-list_of q t) (ap (λ l. shown 0 (supernet_l l q) (steps_l l q)) list-of))

    path-first : S.form ≡ first → (q : Bits) → path_of first w k q ≡ shown 0 (supernet_l (list_at S k) q) (steps_l (list_at S k) q)
    unfolding path_of
    path-first form q = go (eqb (tag_in w k) 0) (ltb (length q) 8) refl refl
      where
        go : (a c : Bool) → eqb (tag_in w k) 0 ≡ a → ltb (length q) 8 ≡ c
            → cond (a || c) (walk_from w (base (get_or w 2 0)) (get_or w 3 0) q (get_or w (record_at k) 0))
            (cond (leb (tag_in w k) (get_or w 4 0))
            (stands_on w (base (get_or w 2 0)) (get_or w 3 0) (get_or w (record_at k) 0) (get_or w (index_in w k + val (take 8 q)) 0) (drop 8 q))
            (Refused Damaged))
            ≡ shown 0 (supernet_l (list_at S k) q) (steps_l (list_at S k) q)
        go true c f g = walk-sound form q
        go false true f g = walk-sound form q
        go false false f g =
            let some : tag_in w k ≡ 0 → ⊥ = eqb-false (tag_in w k) 0 f in
            rw (le-leb (tag_in w k) (get_or w 4 0) (tag-few some)) (index-sound some form q (ltb-false (length q) 8 g))

    path-sound : (q : Bits) → path_of S.form w k q ≡ shown 0 (supernet_l (list_at S k) q) (steps_of S.form (list_at S k) q)
    unfolding steps_of
    path-sound q = go S.form refl
      where
        go : (F : Form) → S.form ≡ F → path_of F w k q ≡ shown 0 (supernet_l (list_at S k) q) (steps_of F (list_at S k) q)
        go first form = path-first form q
        go second form = path-second form q

  -- What the path of a query shows, and the whole lookup: by whether the set is unknown, whether the family is the pool's, and whether the query is a network.
  abbrev steps : Net → ℕ
  steps n = steps_of S.form (list_at S k) (net_bits n)

  abbrev path : Net → Shown
  path n = shown 0 (supernet_l (list_at S k) (net_bits n)) (steps n)

  abbrev whole : Net → Bool → Bool → Bool → Shown
  whole n a b c = cond a (Refused NoSet) (cond b (cond c (path n) (Refused BadNetwork)) (Refused WrongFamily))

  lookup-sound : (n : Net) → lookup w k n ≡ whole n (leb (length S.sets) k) (eqb n.family S.family) (eqb (refusal_of n) 0)
  unfolding lookup query
  lookup-sound n = on_root-sound Refused (λ r. query w k n) ∙ go (leb (length S.sets) k) refl
    where
      go : (a : Bool) → leb (length S.sets) k ≡ a → cond a (Refused NoSet) (query w k n) ≡ whole n a (eqb n.family S.family) (eqb (refusal_of n) 0)
      go true h = refl
      go false h = rw (head.family, head.form, path-sound (leb-false (length S.sets) k h) (net_bits n))

  -- an answer by what is shown is an answer by the table
  module _ {A : Type 0} (n : Net) (z v : A) (F : Shown → ℕ × A) (no_value : (r : Refusal) → F (Refused r) ≡ (number r, z)) (value : n.family ≡ S.family → refusal_of n ≡ 0 → F (path n) ≡ (0, v)) where
    by-table : F (lookup w k n) ≡ answered (lookup_no S k n) z v
    unfolding net_rules
    by-table =
        rw (lookup-sound n)
        (go (leb (length S.sets) k) (eqb n.family S.family) (eqb (refusal_of n) 0) (eqb-true n.family S.family) (eqb-true (refusal_of n) 0))
      where
        go : (a b c : Bool) → (b ≡ true → n.family ≡ S.family) → (c ≡ true → refusal_of n ≡ 0) → F (whole n a b c) ≡ answered (cond a 3 (cond (not b) 6 (cond (not c) 7 0))) z v
        go true b c h g = no_value NoSet
        go false false c h g = no_value WrongFamily
        go false true false h g = no_value BadNetwork
        go false true true h g = value (h refl) (g refl)

  pub supernet_rule-sound : (n : Net) → supernet_rule w k n
      ≡ answered (lookup_no S k n) unsought (found_as S.family (supernet_l (list_at S k) (net_bits n)) (steps_of S.form (list_at S k) (net_bits n)) (has_bit_past n))
  unfolding supernet_rule
  supernet_rule-sound n =
      by-table n unsought (found_as S.family (supernet_l (list_at S k) (net_bits n)) (steps_of S.form (list_at S k) (net_bits n)) (has_bit_past n)) (member_of n) (λ r. refl)
      (λ f r. go f r (supernet_l (list_at S k) (net_bits n)) refl)
    where
      go : n.family ≡ S.family → refusal_of n ≡ 0 → (x : Found) → supernet_l (list_at S k) (net_bits n) ≡ x → member_of n (shown 0 x (steps n)) ≡ (0, found_as S.family x (steps n) (has_bit_past n))
      go f r missing h = rw (zero-add (steps n))
      go f r (found p) h =
          rw (zero-add (length p), zero-add (steps n), cleared-cut n p r (supernet_l-found (list_at S k) (net_bits n) p h).1, f)

  pub contains_rule-sound : (n : Net) → contains_rule w k n
      ≡ answered (lookup_no S k n) unheld (contains_l (list_at S k) (net_bits n), (steps_of S.form (list_at S k) (net_bits n), has_bit_past n))
  unfolding contains_rule contains_l
  contains_rule-sound n =
      by-table n unheld (contains_l (list_at S k) (net_bits n), (steps_of S.form (list_at S k) (net_bits n), has_bit_past n)) (is_member n) (λ r. refl) (λ f r. go (supernet_l (list_at S k) (net_bits n)) refl)
    where
      go : (x : Found) → supernet_l (list_at S k) (net_bits n) ≡ x → is_member n (shown 0 x (steps n)) ≡ (0, (is_found x, (steps n, has_bit_past n)))
      go missing h = rw (zero-add (steps n))
      go (found p) h = rw (zero-add (steps n))

  pub empty_rule-sound : empty_rule w k ≡ answered (set_no S k) false (eqb (length (list_at S k)) 0)
  unfolding empty_rule
  empty_rule-sound = on_root-sound (λ r. (number r, false)) (empty_at (get_or w 3 0)) ∙ go (leb (length S.sets) k) refl
    where
      go : (a : Bool) → leb (length S.sets) k ≡ a → cond a (3, false) (empty_at (get_or w 3 0) (get_or w (record_at k) 0)) ≡ answered (cond a 3 0) false (eqb (length (list_at S k)) 0)
      go true h = refl
      go false h = let r = root-sound (leb-false (length S.sets) k h) in rw (le-leb (get_or w (record_at k) 0) (get_or w 3 0) r.0, r.1)
