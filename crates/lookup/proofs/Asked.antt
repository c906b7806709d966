-- The rules by the tests of the calls: the header, the set, the network. Assumes nothing.
use mathlib.Core.Bool.{Bool, true, false, cond}
use mathlib.Core.List.{List}
use mathlib.Core.Path.{◌≡◌, refl, ap, sym, ◌∙◌, subst}
use Prim.Native.Nat.{ℕ, ◌≤◌, ◌<◌}
use native.Mathlib.Omega.{arith}
use lib.Dec.{eqb, ltb}
use lib.ListN.{get_or}
use borrow.Author.Tests.{lt-ltb, le-ltb, ltb-true, le-leb, lt-leb, eq-eqb, ne_eqb}
use Rattle.nets.specs.Refusals.{number, answered}
use Rattle.nets.specs.Networks.{width, net_bits, refusal_of, no_net, taken_as, bits_left, start_of, no_bits, prefix_as}
use Rattle.nets.specs.declared.Net.{Net}
use Rattle.nets.specs.declared.PrefixBits.{PrefixBits}
use Rattle.nets.specs.declared.Refusal.{Refusal}
use Rattle.nets.specs.declared.Refusal.TheVariants.{Damaged, NoSet, WrongFamily, BadNetwork}
use Rattle.nets.proofs.Strings.{cond_both}
use Rattle.nets.proofs.Answers.{number-some}
use Rattle.nets.proofs.Numbers.{bits_left-start, refusal_of-is}
use Rattle.pool_state.specs.Kept.{Form, first, second, form_of}
use Rattle.pool_state.specs.Decode.{record_at, form_in, is_header}
use Rattle.pool_state.proofs.Kept.{form-some}
use Rattle.lookup.specs.Rules.{on_root, path_of, query, lookup, member_of, is_member, supernet_rule, contains_rule, empty_at, empty_rule}
use Rattle.trie_lookup.specs.declared.Shown.{Shown}
use Rattle.trie_lookup.specs.declared.Shown.TheVariants.{Refused}
use Rattle.lookup.proofs.Cuts.{Cut, lookup-cut}
use Rattle.std.specs.Prelude.{Result, Ok, Err}

-- The header and the set.
module _ {A : Type 0} (w : List ℕ) (k : ℕ) (refuse : Refusal → A) (f : ℕ → A) where
  pub on_root-damaged : is_header w ≡ false → refuse Damaged ≡ on_root w k refuse f
  unfolding on_root
  on_root-damaged e = rw e

  pub on_root-none : is_header w ≡ true → get_or w 2 0 ≤ k → refuse NoSet ≡ on_root w k refuse f
  unfolding on_root
  on_root-none e le = rw (e, le-ltb k (get_or w 2 0) le)

  pub on_root-at : is_header w ≡ true → k < get_or w 2 0 → f (get_or w (record_at k) 0) ≡ on_root w k refuse f
  unfolding on_root
  on_root-at e lt = rw (e, lt-ltb k (get_or w 2 0) lt)

-- what follows from an answer of `root`
abbrev pub by : {A : Type 0} → (Refusal → A) → (ℕ → A) → Result ℕ Refusal → A
by refuse f (Ok r) = f r
by refuse f (Err r) = refuse r

module _ (w : List ℕ) (k : ℕ) (a : Result ℕ Refusal) (e : a ≡ on_root w k Err Ok) where
  pub on_root-by : {A : Type 0} (refuse : Refusal → A) (f : ℕ → A) → by refuse f a ≡ on_root w k refuse f
  unfolding on_root
  on_root-by refuse f = ap (by refuse f) e ∙ go (is_header w) (ltb k (get_or w 2 0))
    where
      r : ℕ
      r = get_or w (record_at k) 0

      go : (h s : Bool) → by refuse f (cond h (cond s (Ok r) (Err NoSet)) (Err Damaged)) ≡ cond h (cond s (f r) (refuse NoSet)) (refuse Damaged)
      go true true = refl
      go true false = refl
      go false s = refl

  pub lookup-refused : (n : Net) (x : Refusal) → a ≡ Err x → Refused x ≡ lookup w k n
  unfolding lookup
  lookup-refused n x h = rw h at (on_root-by Refused (λ r. query w k n))

  pub empty-refused : (x : Refusal) → a ≡ Err x → (number x, false) ≡ empty_rule w k
  unfolding empty_rule
  empty-refused x h = rw h at (on_root-by (λ y. (number y, false)) (empty_at (get_or w 3 0)))

  module _ (r : ℕ) (h : a ≡ Ok r) where
    pub root-header : is_header w ≡ true
    unfolding on_root
    root-header = go (is_header w) refl (sym e ∙ h)
      where
        go : (t : Bool) → is_header w ≡ t → cond t (cond (ltb k (get_or w 2 0)) (Ok (get_or w (record_at k) 0)) (Err NoSet)) (Err Damaged) ≡ Ok r → is_header w ≡ true
        go true q d = q
        go false q d = let z : ◌≡◌ {A = ℕ} 0 1 = cc in absurd (omega arith)

    pub lookup-root : (n : Net) → query w k n ≡ lookup w k n
    unfolding lookup
    lookup-root n = rw h at (on_root-by Refused (λ r. query w k n))

    pub root-known : k < get_or w 2 0
    unfolding on_root
    root-known = go (ltb k (get_or w 2 0)) refl (rw root-header at (sym e ∙ h))
      where
        go : (t : Bool) → ltb k (get_or w 2 0) ≡ t → cond t (Ok (get_or w (record_at k) 0)) (Err NoSet) ≡ Ok r → k < get_or w 2 0
        go true q d = ltb-true k (get_or w 2 0) q
        go false q d = let z : ◌≡◌ {A = ℕ} 0 1 = cc in absurd (omega arith)

    empty-root : empty_at (get_or w 3 0) r ≡ empty_rule w k
    unfolding empty_rule
    empty-root = rw h at (on_root-by (λ y. (number y, false)) (empty_at (get_or w 3 0)))

    pub empty-over : get_or w 3 0 < r → (2, false) ≡ empty_rule w k
    empty-over lt = rw (lt-leb r (get_or w 3 0) lt) at empty-root

    pub empty-told : r ≤ get_or w 3 0 → (0, eqb r 0) ≡ empty_rule w k
    empty-told le = rw (le-leb r (get_or w 3 0) le) at empty-root

-- The network.
pub prefix-bits : (p : Result PrefixBits Refusal) (n : Net) (s : PrefixBits) → prefix_as p ≡ answered (refusal_of n) no_bits (start_of n) → p ≡ Ok s → (refusal_of n ≡ 0) × (s ≡ start_of n)
prefix-bits p n s e h =
    let g = sym (ap prefix_as h) ∙ e in
    let k : refusal_of n ≡ 0 = sym (ap (λ x. x.0) g) in
    (k, rw k at (ap (λ x. x.1) g))

pub prefix-few : (p : Result PrefixBits Refusal) (n : Net) (s : PrefixBits) → prefix_as p ≡ answered (refusal_of n) no_bits (start_of n) → p ≡ Ok s → s.len ≤ 128
unfolding start_of width
prefix-few p n s e h =
    let g = prefix-bits p n s e h in
    let le : width n.family ≤ 128 = cond_both (λ m. m ≤ 128) (eqb n.family 4) 32 128 (omega arith) (omega arith) in
    rw g.1 (omega (arith, (refusal_of-is n g.0).len))

prefix-refused : (p : Result PrefixBits Refusal) (n : Net) (r : Refusal) → prefix_as p ≡ answered (refusal_of n) no_bits (start_of n) → p ≡ Err r → refusal_of n ≡ 0 → ⊥
prefix-refused p n r e h z = number-some r (ap (λ x. x.0) (sym (ap prefix_as h) ∙ e) ∙ z)

pub query-family : (w : List ℕ) (k : ℕ) (n : Net) → (n.family ≡ get_or w 1 0 → ⊥) → Refused WrongFamily ≡ query w k n
unfolding query
query-family w k n ne = rw (ne_eqb n.family (get_or w 1 0) ne)

module _ (w : List ℕ) (k : ℕ) (n : Net) (same : n.family ≡ get_or w 1 0) (p : Result PrefixBits Refusal) (e : prefix_as p ≡ answered (refusal_of n) no_bits (start_of n)) where
  pub query-refused : (x : Refusal) → p ≡ Err x → Refused BadNetwork ≡ query w k n
  unfolding query
  query-refused x h = rw (eq-eqb n.family (get_or w 1 0) same, ne_eqb (refusal_of n) 0 (prefix-refused p n x e h))

  module _ (s : PrefixBits) (x : Shown) (h : p ≡ Ok s) where
    asked : refusal_of n ≡ 0
    asked = (prefix-bits p n s e h).0

    query-shown : {F : Form} → form_in w ≡ F → x ≡ path_of F w k (net_bits n) → x ≡ query w k n
    unfolding query
    query-shown f d = rw (d, eq-eqb n.family (get_or w 1 0) same, eq-eqb (refusal_of n) 0 asked, f)

    -- by the form
    pub query-path : get_or w 5 0 ≡ 0 → x ≡ path_of first w k (bits_left s) → x ≡ query w k n
    query-path z d = query-shown (ap form_of z) (d ∙ ap (path_of first w k) (ap bits_left (prefix-bits p n s e h).1 ∙ bits_left-start n asked))

    pub query-kept : (get_or w 5 0 ≡ 0 → ⊥) → x ≡ path_of second w k (net_bits n) → x ≡ query w k n
    query-kept nz d = query-shown (form-some (get_or w 5 0) nz) d

-- The answers, by what is shown.
module _ (w : List ℕ) (k : ℕ) (n : Net) (s t : Shown) (e : s ≡ lookup w k n) (h : s ≡ t) where
  pub supernet-by : member_of n t ≡ supernet_rule w k n
  unfolding supernet_rule
  supernet-by = ap (member_of n) (sym h ∙ e)

  pub contains_by : is_member n t ≡ contains_rule w k n
  unfolding contains_rule
  contains_by = ap (is_member n) (sym h ∙ e)

  pub shown-cut : Cut n t
  shown-cut = subst (Cut n) (sym e ∙ h) (lookup-cut n w k)

pub taken-granted : (t : Result Net Refusal) (k : ℕ) (v : Net) → taken_as t ≡ answered k no_net v → k ≡ 0 → (x : Refusal) → t ≡ Err x → ⊥
taken-granted t k v e z x h = number-some x (ap (λ p. p.0) (sym (ap taken_as h) ∙ e) ∙ z)
