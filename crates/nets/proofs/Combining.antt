-- A set operation on two tries is, at each address, the operation on what the two cover: a flat verdict on them holds at every address, and else their halves decide.
-- So the union and the common part list what merging and intersecting the lists leave: both are simplified, with the same addresses. Assumes nothing.
use mathlib.Core.Bool.{Bool, true, false, cond, ◌&&◌, ◌||◌, and_comm, or-true}
use mathlib.Core.List.{List, [], ◌∷◌, ◌++◌}
use mathlib.Core.Logic.{inl, inr}
use mathlib.Core.Path.{◌≡◌, refl, sym, ◌∙◌}
use Prim.Native.Nat.{ℕ, zero, suc, ◌≤◌}
use native.Mathlib.Decide.{dec_lt}
use native.Mathlib.Omega.{arith}
use lib.Dec.{leb}
use lib.ListN.{length}
use Rattle.nets.specs.Bits.{Bits, leads}
use Rattle.nets.specs.Tries.{Trie, none, leaf, covers_t, levels, list_of}
use Rattle.nets.specs.TrieOps.{half, flat, kind_of, op_t, union_t, common_t}
use Rattle.nets.specs.Lists.{member, covers, keep, within, is_list, merge_l, intersect_l, Simplified}
use Rattle.nets.proofs.Strings.{cond_both, and_left, and_right, and_both, or_cases, bool_iff, leads-trans, leads-shorter}
use Rattle.nets.proofs.Members.{any_of-append, any_of-keep, any_of-in, any_of-out}
use Rattle.nets.proofs.Levels.{side-each}
use Rattle.nets.proofs.Listing.{covers_t-none, covers_t-leaf, covers-list_of}
use Rattle.nets.proofs.Glue.{covers_t-half, covers_t-glue, levels-half}
use Rattle.nets.proofs.TrieOf.{is_list-list_of, is_list-within}
use Rattle.nets.proofs.Operate.{covers_t-fits, verdict-flat, op_half, op_t-flat, op_t-step, levels-op}
use Rattle.nets.proofs.Simplifying.{levels-one, Simple, simple-glue, simple-simplified, covers-simplify, simplified-simplify, is_list-simplify, simplified_one}

covers_t-flat : (v : Bool) (a : Bits) → covers_t (cond v leaf none) a ≡ v
covers_t-flat true a = covers_t-leaf a
covers_t-flat false a = covers_t-none a

kind_of-one : (t : Trie) → levels t ≤ 1 → kind_of t ≡ flat (covers_t t [])
kind_of-one t h = levels-one (λ x. kind_of x ≡ flat (covers_t x [])) t h refl refl

-- The operation at each address.
module _ (j : Bool) (f : Bool → Bool → Bool) where
  pub covers_t-op : (k : ℕ) (t u : Trie) (a : Bits) → levels t ≤ suc (length a) → levels u ≤ suc (length a) → suc (length a) ≤ k → covers_t (op_t j f k t u) a ≡ f (covers_t t a) (covers_t u a)
  covers_t-op zero t u a h g n = absurd (omega arith)
  covers_t-op (suc k) t u [] h g n =
      let v = f (covers_t t []) (covers_t u []) in
      rw (op_t-flat j f k t u v (rw (kind_of-one t h, kind_of-one u g))) (covers_t-flat v [])
  covers_t-op (suc k) t u (b ∷ a) h g n =
      op_t-step j f (λ x. covers_t x (b ∷ a) ≡ f (covers_t t (b ∷ a)) (covers_t u (b ∷ a))) k t u (λ v e. covers_t-flat v (b ∷ a) ∙ sym (verdict-flat f (kind_of t) (kind_of u) _ _ v (covers_t-fits t (b ∷ a)) (covers_t-fits u (b ∷ a)) e))
      (λ e. covers_t-glue j b (op_half j f k t u false) (op_half j f k t u true) a ∙ rw (side-each (op_half j f k t u) b, covers_t-half t b a, covers_t-half u b a)
      (covers_t-op k (half b t) (half b u) a (levels-half b t (suc (length a)) h (omega arith)) (levels-half b u (suc (length a)) g (omega arith)) (omega arith)))

pub simple-op : (f : Bool → Bool → Bool) (k : ℕ) (t u : Trie) → Simple (op_t true f k t u)
unfolding op_t
simple-op f zero t u = tt
simple-op f (suc k) t u =
    op_t-step true f Simple k t u (λ v e. cond_both Simple v leaf none (refl, tt, tt) tt)
    (λ e. simple-glue (op_half true f k t u false) (op_half true f k t u true) (simple-op f k (half false t) (half false u)) (simple-op f k (half true t) (half true u)))

-- Lists within the width.
within-append : (w : ℕ) (l m : List Bits) → within w l ≡ true → within w m ≡ true → within w (l ++ m) ≡ true
within-append w [] m h k = k
within-append w (p ∷ l) m h k = rw (and_left (leb (length p) w) (within w l) h) (within-append w l m (and_right (leb (length p) w) (within w l) h) k)

within-keep : (w : ℕ) (f : Bits → Bool) (l : List Bits) → within w l ≡ true → within w (keep f l) ≡ true
within-keep w f [] h = h
within-keep w f (p ∷ l) h =
    let i = within-keep w f l (and_right (leb (length p) w) (within w l) h) in
    cond_both (λ z. within w z ≡ true) (f p) (p ∷ keep f l) (keep f l) (rw (and_left (leb (length p) w) (within w l) h) i) i

within-list_of : (w : ℕ) (t : Trie) → levels t ≤ suc w → within w (list_of t) ≡ true
within-list_of w t h = is_list-within w (list_of t) (is_list-list_of w t h)

-- Merging.
pub covers-merge : (w : ℕ) (l m : List Bits) (a : Bits) → within w l ≡ true → within w m ≡ true → length a ≡ w → covers (merge_l l m) a ≡ (covers l a || covers m a)
unfolding merge_l
covers-merge w l m a h k e = covers-simplify w (l ++ m) a (within-append w l m h k) e ∙ any_of-append (λ p. leads p a) l m

pub simplified-merge : (l m : List Bits) → Simplified (merge_l l m)
unfolding merge_l
simplified-merge l m = simplified-simplify (l ++ m)

pub is_list-merge : (w : ℕ) (l m : List Bits) → within w l ≡ true → within w m ≡ true → is_list w (merge_l l m) ≡ true
unfolding merge_l
is_list-merge w l m h k = is_list-simplify w (l ++ m) (within-append w l m h k)

-- Intersecting: of two members that lead an address the longer lies inside the other, and is kept.
abbrev inner : List Bits → List Bits → List Bits
inner l m = keep (covers m) l

within-inner : (w : ℕ) (l m : List Bits) → within w l ≡ true → within w m ≡ true → within w (inner l m ++ inner m l) ≡ true
within-inner w l m h k = within-append w (inner l m) (inner m l) (within-keep w (covers m) l h) (within-keep w (covers l) m k)

inner_out : (l m : List Bits) (a : Bits) → covers (inner l m) a ≡ true → (covers l a && covers m a) ≡ true
inner_out l m a e =
    let (p, i, c) = any_of-out (λ p. covers m p && leads p a) l (sym (any_of-keep (covers m) (λ p. leads p a) l) ∙ e) in
    let (q, j, d) = any_of-out (λ q. leads q p) m (and_left (covers m p) (leads p a) c) in
    let k = and_right (covers m p) (leads p a) c in
    and_both (covers l a) (covers m a) (any_of-in (λ p. leads p a) p l i k) (any_of-in (λ q. leads q a) q m j (leads-trans q p a d k))

inner-in : (l m : List Bits) (a p q : Bits) → member p l ≡ true → leads p a ≡ true → member q m ≡ true → leads q a ≡ true → length q ≤ length p → covers (inner l m) a ≡ true
inner-in l m a p q i c j d n =
    any_of-keep (covers m) (λ p. leads p a) l ∙ any_of-in (λ p. covers m p && leads p a) p l i
    (and_both (covers m p) (leads p a) (any_of-in (λ q. leads q p) q m j (leads-shorter q p a d c n)) c)

covers-inner : (l m : List Bits) (a : Bits) → covers (inner l m ++ inner m l) a ≡ (covers l a && covers m a)
covers-inner l m a =
    any_of-append (λ p. leads p a) (inner l m) (inner m l) ∙ bool_iff (covers (inner l m) a || covers (inner m l) a) (covers l a && covers m a)
    (λ e. elim (or_cases (covers (inner l m) a) (covers (inner m l) a) e) [
      | inl x ↦ inner_out l m a x
      | inr x ↦ and_comm (covers l a) (covers m a) ∙ inner_out m l a x
    ])
    (λ e.
    let (p, i, c) = any_of-out (λ p. leads p a) l (and_left (covers l a) (covers m a) e) in
    let (q, j, d) = any_of-out (λ q. leads q a) m (and_right (covers l a) (covers m a) e) in
    elim (dec_lt (length p) (length q)) [
      | yes n ↦ rw (inner-in m l a q p j d i c (omega arith)) (or-true (covers (inner l m) a))
      | no n ↦ rw (inner-in l m a p q i c j d (omega arith))
    ])

pub covers-intersect : (w : ℕ) (l m : List Bits) (a : Bits) → within w l ≡ true → within w m ≡ true → length a ≡ w → covers (intersect_l l m) a ≡ (covers l a && covers m a)
unfolding intersect_l
covers-intersect w l m a h k e = covers-simplify w (inner l m ++ inner m l) a (within-inner w l m h k) e ∙ covers-inner l m a

pub simplified-intersect : (l m : List Bits) → Simplified (intersect_l l m)
unfolding intersect_l
simplified-intersect l m = simplified-simplify (inner l m ++ inner m l)

pub is_list-intersect : (w : ℕ) (l m : List Bits) → within w l ≡ true → within w m ≡ true → is_list w (intersect_l l m) ≡ true
unfolding intersect_l
is_list-intersect w l m h k = is_list-simplify w (inner l m ++ inner m l) (within-inner w l m h k)

-- The tries list what the lists are: both are simplified, with the same addresses.
module _ (w : ℕ) (t u : Trie) (h : levels t ≤ suc w) (k : levels u ≤ suc w) where
  pub list_of-op : (f : Bool → Bool → Bool) (l : List Bits) → is_list w l ≡ true → Simplified l → ((a : Bits) → length a ≡ w → covers l a ≡ f (covers (list_of t) a) (covers (list_of u) a)) → list_of (op_t true f (suc w) t u) ≡ l
  list_of-op f l i s e =
      let o = op_t true f (suc w) t u in
      simplified_one w (list_of o) l (is_list-list_of w o (levels-op true f (suc w) t u)) i (simple-simplified o (simple-op f (suc w) t u)) s
      (λ a n. covers-list_of o a ∙ covers_t-op true f (suc w) t u a (omega arith) (omega arith) (omega arith) ∙ rw (← covers-list_of t a, ← covers-list_of u a) (sym (e a n)))

  pub list_of-union : list_of (union_t (suc w) t u) ≡ merge_l (list_of t) (list_of u)
  unfolding union_t
  list_of-union =
      let x = within-list_of w t h in
      let y = within-list_of w u k in
      list_of-op ◌||◌ (merge_l (list_of t) (list_of u)) (is_list-merge w (list_of t) (list_of u) x y) (simplified-merge (list_of t) (list_of u)) (λ a n. covers-merge w (list_of t) (list_of u) a x y n)

  pub list_of-common : list_of (common_t (suc w) t u) ≡ intersect_l (list_of t) (list_of u)
  unfolding common_t
  list_of-common =
      let x = within-list_of w t h in
      let y = within-list_of w u k in
      list_of-op ◌&&◌ (intersect_l (list_of t) (list_of u)) (is_list-intersect w (list_of t) (list_of u) x y) (simplified-intersect (list_of t) (list_of u)) (λ a n. covers-intersect w (list_of t) (list_of u) a x y n)
