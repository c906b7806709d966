-- What is left of a list: a whole has just the members that lie inside no other, so there is one only (`whole-one`), and in the order of a list it is `outermost` (`whole-outermost`). Every
-- list has one: its members in address order, thinned. So what is left covers the same addresses, is a list, is that of a list which is one, and depends on the members alone.
-- Assumes nothing.
use mathlib.Core.Bool.{Bool, true, false, not, cond, ◌&&◌, ◌||◌, false≢true, and-false, and-true}
use mathlib.Core.List.{List, [], ◌∷◌, ◌++◌, append-nil}
use mathlib.Core.Logic.{◌⊎◌, inl, inr}
use mathlib.Core.Path.{◌≡◌, refl, ap, sym, ◌∙◌}
use Prim.Native.Nat.{ℕ, ◌+◌, ◌≤◌}
use native.Mathlib.Omega.{arith}
use borrow.Author.Tests.{le-leb, leb-true, not-true}
use lib.Dec.{leb}
use lib.ListN.{length, length-append}
use Rattle.nets.specs.Bits.{Bits, leads, equal}
use Rattle.nets.specs.Lists.{any_of, member, covers, ascending, apart, within, is_list, keep, in_order, Place}
use Rattle.nets.proofs.Strings.{and_left, and_right, and_both, bool_iff, equal-refl, equal_is, leads-refl, leads-trans, leads-length, leads-all}
use Rattle.nets.proofs.Order.{From, unique, ascending-from, from-ascending, from-in_order, member-in_order}
use Rattle.nets.proofs.Members.{any_of-in, any_of-out, any_of-same, member-keep}
use Rattle.nets.proofs.TrieOf.{is_list-ascending, is_list-apart, is_list-within}
use Rattle.address_order.specs.Streams.{earlier, rising, loose, in_address_order}
use Rattle.address_order.proofs.Rising.{rise_one, member-cons, member-first, member-later}
use Rattle.address_order.proofs.Sorted.{any_of-order, member-order, rise-order, rising-order, loose-order, length-order}
use Rattle.salvage_lists.specs.Salvaging.{strictly, is_inside, outermost}
use Rattle.salvage_lists.specs.Ahead.{ahead, Leads, Chain, is_past, Part, Whole, Squeezed, thinned}
use Rattle.salvage_lists.proofs.Ahead.{ahead-trans, ahead-leads, ahead-led, ahead-is}
use Rattle.salvage_lists.proofs.Chains.{no, any_of-left, any_of-right, member-append, chain-rise, chain-append, chain-keep, chain-apart, rise-fewer}
use Rattle.salvage_lists.proofs.Thinning.{thin-squeezed, sorted-order}

-- Two that lead each other are one.
leads-both : (p q : Bits) → leads p q ≡ true → leads q p ≡ true → p ≡ q
leads-both p q e f = leads-all p q e (leads-length q p f)

strictly-not : (m p : Bits) → strictly m p ≡ true → (m ≡ p) → ⊥
strictly-not m p e h = false≢true (sym (ap not (ap (λ z. equal m z) (sym h) ∙ equal-refl m)) ∙ and_right (leads m p) (not (equal m p)) e)

not-strictly : (m p : Bits) → leads m p ≡ true → strictly m p ≡ false → m ≡ p
not-strictly m p e n = go (equal m p) refl
  where
    go : (x : Bool) → equal m p ≡ x → m ≡ p
    go true f = equal_is m p f
    go false f = no (and_both (leads m p) (not (equal m p)) e (ap not f)) n

none : (l : List Bits) (f : Bits → Bool) → ((q : Bits) → member q l ≡ true → f q ≡ true → ⊥) → any_of f l ≡ false
none l f h = go (any_of f l) refl
  where
    go : (x : Bool) → any_of f l ≡ x → any_of f l ≡ false
    go true e = let r = any_of-out f l e in absurd (h r.0 r.1 r.2)
    go false e = e

-- A member that leads what lies in no other is that one.
outer-is : (S : List Bits) (c q : Bits) → is_inside S q ≡ false → member c S ≡ true → leads c q ≡ true → c ≡ q
outer-is S c q n k e = go (strictly c q) refl
  where
    go : (x : Bool) → strictly c q ≡ x → c ≡ q
    go true f = no (any_of-in (λ m. strictly m q) c S k f) n
    go false f = not-strictly c q e f

-- What a chain covers lies around none of its members.
covered-not : (d : List Bits) → Chain d → (q m : Bits) → member q d ≡ true → covers d m ≡ true → strictly m q ≡ true → ⊥
covered-not d c q m k h s =
    let r = any_of-out (λ c. leads c m) d h in
    let l = and_left (leads m q) (not (equal m q)) s in
    let e = chain-apart d c r.0 q r.1 k (leads-trans r.0 m q r.2 l) in
    strictly-not m q s (sym (leads-both q m (rw e at r.2) l))

-- The members of a part and of a whole lie inside no other.
module _ {S : List Bits} {a : Place} {d : List Bits} (p : Part S a d) where
  pub part-outer : (q : Bits) → member q d ≡ true → is_inside S q ≡ false
  part-outer q k = none S (λ m. strictly m q) (λ m i s. go m s (p.reach m i))
    where
      go : (m : Bits) → strictly m q ≡ true → (covers d m ≡ true) ⊎ (is_past a m ≡ true) → ⊥
      go m s (inl c) = covered-not d p.chain q m k c s
      go m s (inr c) = false≢true (sym (ahead-led q m (p.ends q m k c)) ∙ and_left (leads m q) (not (equal m q)) s)

module _ {S T : List Bits} (w : Whole S T) where
  pub whole-outer : (q : Bits) → member q T ≡ true → is_inside S q ≡ false
  whole-outer q k = none S (λ m. strictly m q) (λ m i s. covered-not T w.chain q m k (w.reach m i) s)

  -- what a list of members covers and lies inside none is a member of it
  pub outer-member : (d : List Bits) → ((c : Bits) → member c d ≡ true → member c S ≡ true) → (q : Bits) → is_inside S q ≡ false → covers d q ≡ true → member q d ≡ true
  outer-member d i q n c = let r = any_of-out (λ c. leads c q) d c in rw (outer-is S r.0 q n (i r.0 r.1) r.2) at r.1

  pub whole-member : (q : Bits) → member q T ≡ (member q S && not (is_inside S q))
  whole-member q = bool_iff (member q T) (member q S && not (is_inside S q)) (λ k. and_both (member q S) (not (is_inside S q)) (w.inside q k) (ap not (whole-outer q k))) back
    where
      back : (member q S && not (is_inside S q)) ≡ true → member q T ≡ true
      back e = outer-member T w.inside q (not-true (is_inside S q) (and_right (member q S) (not (is_inside S q)) e)) (w.reach q (and_left (member q S) (not (is_inside S q)) e))

  -- in the order of a list
  pub whole-outermost : in_order T ≡ outermost S
  unfolding outermost
  whole-outermost =
      unique 0 0 (in_order T) (in_order (keep (λ p. not (is_inside S p)) S)) (from-in_order T) (from-in_order (keep (λ p. not (is_inside S p)) S))
      (λ q. member-in_order q T ∙ whole-member q ∙ sym (member-keep (λ p. not (is_inside S p)) q S) ∙ sym (member-in_order q (keep (λ p. not (is_inside S p)) S)))

  pub whole-members : (q : Bits) → member q (outermost S) ≡ member q T
  whole-members q = ap (member q) (sym whole-outermost) ∙ member-in_order q T

  pub whole_covers : (q : Bits) → covers T q ≡ covers S q
  whole_covers q =
      bool_iff (covers T q) (covers S q) (λ e. let r = any_of-out (λ m. leads m q) T e in any_of-in (λ m. leads m q) r.0 S (w.inside r.0 r.1) r.2)
      (λ e.
      let r = any_of-out (λ m. leads m q) S e in
      let s = any_of-out (λ m. leads m r.0) T (w.reach r.0 r.1) in
      any_of-in (λ m. leads m q) s.0 T s.1 (leads-trans s.0 r.0 q s.2 r.2))

  pub whole-few : length T ≤ length S
  whole-few = rise-fewer T S (chain-rise T w.chain) w.inside

  -- a part is the beginning of the whole
  module _ {a : Place} {d : List Bits} (p : Part S a d) where
    abbrev others : List Bits
    others = keep (is_past a) T

    pub part-first : T ≡ d ++ keep (is_past a) T
    part-first =
        rise_one T (d ++ others) (chain-rise T w.chain)
        (chain-rise (d ++ others) (chain-append d others p.chain (chain-keep (is_past a) T w.chain) (λ q k r j. p.ends q r k (and_right (member r T) (is_past a r) (sym (member-keep (is_past a) r T) ∙ j)))))
        (λ q. bool_iff (member q T) (member q (d ++ others)) (λ k. there q k (p.reach q (w.inside q k))) (λ k. back q (member-append q d others k)))
      where
        there : (q : Bits) → member q T ≡ true → (covers d q ≡ true) ⊎ (is_past a q ≡ true) → member q (d ++ others) ≡ true
        there q k (inl c) = any_of-left (equal q) d others (outer-member d p.inside q (whole-outer q k) c)
        there q k (inr c) = any_of-right (equal q) d others (member-keep (is_past a) q T ∙ and_both (member q T) (is_past a q) k c)

        back : (q : Bits) → (member q d ≡ true) ⊎ (member q others ≡ true) → member q T ≡ true
        back q (inl k) = whole-member q ∙ and_both (member q S) (not (is_inside S q)) (p.inside q k) (ap not (part-outer p q k))
        back q (inr k) = and_left (member q T) (is_past a q) (sym (member-keep (is_past a) q T) ∙ k)

    pub part_length : length d + length (keep (is_past a) T) ≡ length T
    part_length = sym (ap length part-first ∙ length-append d others)

    -- a part as long as the whole is the whole
    pub part-whole : length T ≤ length d → d ≡ T
    part-whole h = go others part-first (omega (arith, part_length))
      where
        go : (m : List Bits) → T ≡ d ++ m → length m ≡ 0 → d ≡ T
        go [] e z = sym (e ∙ append-nil d)
        go (x ∷ m) e z = absurd (omega arith)

pub whole-one : {S T U : List Bits} → Whole S T → Whole S U → T ≡ U
whole-one {S} {T} {U} w v = rise_one T U (chain-rise T w.chain) (chain-rise U v.chain) (λ q. whole-member w q ∙ sym (whole-member v q))

-- Every list has a whole.
pub whole_of : (S : List Bits) → Whole S (thinned (in_address_order S))
whole_of S =
    let s = thin-squeezed (in_address_order S) (sorted-order S) in
    record { chain = s.chain; inside = λ q k. sym (member-order q S) ∙ s.inside q k; reach = λ q k. s.reach q (member-order q S ∙ k) }

-- What is left covers the same addresses.
pub covers-outermost : (S : List Bits) (q : Bits) → covers (outermost S) q ≡ covers S q
covers-outermost S q =
    let T = thinned (in_address_order S) in
    any_of-same (λ m. leads m q) (outermost S) T (whole-members (whole_of S)) ∙ whole_covers (whole_of S) q

-- It is a list: ascending, no member inside another, and no length above the width.
pub within-members : (w : ℕ) (l : List Bits) → ((q : Bits) → member q l ≡ true → length q ≤ w) → within w l ≡ true
within-members w [] h = refl
within-members w (p ∷ l) h = rw (le-leb (length p) w (h p (member-first p l))) (within-members w l (λ q k. h q (member-later q p l k)))

pub members-within : (w : ℕ) (l : List Bits) → within w l ≡ true → (q : Bits) → member q l ≡ true → length q ≤ w
members-within w [] e q k = absurd (false≢true k)
members-within w (p ∷ l) e q k =
    go (members-within w l (and_right (leb (length p) w) (within w l) e) q) (member-cons q p l k)
  where
    go : (member q l ≡ true → length q ≤ w) → (q ≡ p) ⊎ (member q l ≡ true) → length q ≤ w
    go ih (inl h) = rw h (leb-true (length p) w (and_left (leb (length p) w) (within w l) e))
    go ih (inr h) = ih h

chain-loose : (l : List Bits) → Chain l → loose l ≡ true
unfolding loose
chain-loose [] c = refl
chain-loose (p ∷ []) c = refl
chain-loose (p ∷ q ∷ l) c = rw (ahead-leads p q (c.0 q (member-first q l))) (chain-loose (q ∷ l) c.1)

loose-chain : (l : List Bits) → rising l ≡ true → loose l ≡ true → Chain l
unfolding loose rising
loose-chain [] r e = tt
loose-chain (p ∷ []) r e = ((λ q k. absurd (false≢true k)), tt)
loose-chain (p ∷ q ∷ l) r e =
    let c = loose-chain (q ∷ l) (and_right (earlier p q) (rising (q ∷ l)) r) (and_right (not (leads p q)) (loose (q ∷ l)) e) in
    let a = ahead-is p q ∙ and_both (earlier p q) (not (leads p q)) (and_left (earlier p q) (rising (q ∷ l)) r) (and_left (not (leads p q)) (loose (q ∷ l)) e) in
    ((λ x k. go a c x (member-cons x q l k)), c)
  where
    go : ahead p q ≡ true → Chain (q ∷ l) → (x : Bits) → (x ≡ q) ⊎ (member x l ≡ true) → ahead p x ≡ true
    go a c x (inl h) = rw h a
    go a c x (inr h) = ahead-trans p q x a (c.0 x h)

pub ascending-outermost : (S : List Bits) → ascending (outermost S) ≡ true
unfolding outermost
ascending-outermost S = from-ascending 0 (outermost S) (from-in_order (keep (λ p. not (is_inside S p)) S))

pub is_list-outermost : (w : ℕ) (S : List Bits) → within w S ≡ true → is_list w (outermost S) ≡ true
unfolding is_list
is_list-outermost w S e =
    let T = thinned (in_address_order S) in
    let v = whole_of S in
    let up = ascending-outermost S in
    let same : in_address_order (outermost S) ≡ T = rise_one (in_address_order (outermost S)) T (rise-order (outermost S) up) (chain-rise T v.chain) (λ q. member-order q (outermost S) ∙ whole-members v q) in
    let a : apart (outermost S) ≡ true = sym (loose-order (outermost S) up) ∙ ap loose same ∙ chain-loose T v.chain in
    rw (up, a) (within-members w (outermost S) (λ q k. members-within w S e q (v.inside q (sym (whole-members v q) ∙ k))))

-- Of a list all is left.
pub outermost-list : (w : ℕ) (l : List Bits) → is_list w l ≡ true → outermost l ≡ l
outermost-list w l e =
    let up = is_list-ascending w l e in
    let T = in_address_order l in
    let c : Chain T = loose-chain T (rising-order l up) (loose-order l up ∙ is_list-apart w l e) in
    let v : Whole l T = record { chain = c; inside = λ q k. sym (member-order q l) ∙ k; reach = λ q k. any_of-in (λ m. leads m q) q T (member-order q l ∙ k) (leads-refl q) } in
    sym (whole-outermost v) ∙ unique 0 0 (in_order T) l (from-in_order T) (ascending-from l up) (λ q. member-in_order q T ∙ member-order q l)

-- What is left depends on the members alone.
pub outermost-same : (l m : List Bits) → ((q : Bits) → member q l ≡ member q m) → outermost l ≡ outermost m
unfolding outermost
outermost-same l m h =
    unique 0 0 (outermost l) (outermost m) (from-in_order (keep (λ p. not (is_inside l p)) l)) (from-in_order (keep (λ p. not (is_inside m p)) m))
    (λ q.
    let f : Bits → Bool = λ p. not (is_inside l p) in
    let g : Bits → Bool = λ p. not (is_inside m p) in
    member-in_order q (keep f l) ∙ member-keep f q l ∙ rw (h q, any_of-same (λ x. strictly x q) l m h) (sym (member-keep g q m) ∙ sym (member-in_order q (keep g m))))
