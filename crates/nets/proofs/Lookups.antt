-- What a lookup finds: `supernet` the one member that leads the query, `next` the first member past a place, so that going on from the start visits the list.
-- Each is the head of the members kept by its test. Assumes nothing.
use mathlib.Core.Bool.{Bool, true, false, cond, ◌||◌, false≢true, true≢false}
use mathlib.Core.List.{List, [], ◌∷◌}
use mathlib.Core.Logic.{◌⊎◌, inl, inr}
use mathlib.Core.Path.{◌≡◌, refl, ap, sym, ◌∙◌}
use Prim.Native.Nat.{ℕ, zero, suc, ◌≤◌, ◌<◌}
use native.Mathlib.Omega.{arith}
use lib.ListN.{length}
use Rattle.nets.specs.Bits.{Bits, leads, equal, before}
use Rattle.nets.specs.Tries.{Trie, none, node, bare, side, member_t, covers_t, list_of}
use Rattle.nets.specs.Lists.{member, covers, keep, Found, found, missing, is_found, supernet_l, contains_l, Place, start, past, is_past, next_l}
use Rattle.nets.specs.TrieOps.{search_t, under}
use Rattle.nets.proofs.Strings.{and_left, and_right, and_both, or_cases, equal-refl, equal_is, leads-head, leads-tail}
use Rattle.nets.proofs.Order.{key, From, from-weaken, from-not, before-lt, lt-before}
use Rattle.nets.proofs.Members.{member-keep}
use Rattle.nets.proofs.Levels.{node_at-none}
use Rattle.nets.proofs.Listing.{member-list_of, covers-list_of, side-bare}

-- The first of a list.
abbrev head_of : List Bits → Found
head_of [] = missing
head_of (m ∷ l) = found m

head-cond : (b : Bool) (m : Bits) (l : List Bits) → head_of (cond b (m ∷ l) l) ≡ cond b (found m) (head_of l)
head-cond true m l = refl
head-cond false m l = refl

head-member : (l : List Bits) (p : Bits) → head_of l ≡ found p → member p l ≡ true
head-member [] p e = absurd (false≢true (ap is_found e))
head-member (m ∷ l) p e = let h : m ≡ p = cc in rw (h, equal-refl p)

head-missing : (l : List Bits) → head_of l ≡ missing → l ≡ []
head-missing [] e = refl
head-missing (m ∷ l) e = absurd (true≢false (ap is_found e))

head-kept : (f : Bits → Bool) (l : List Bits) (p : Bits) → head_of (keep f l) ≡ found p → (member p l ≡ true) × (f p ≡ true)
head-kept f l p e = let h = sym (member-keep f p l) ∙ head-member (keep f l) p e in (and_left (member p l) (f p) h, and_right (member p l) (f p) h)

-- Supernet and contains.
supernet_l-keep : (l : List Bits) (q : Bits) → supernet_l l q ≡ head_of (keep (λ m. leads m q) l)
unfolding supernet_l
supernet_l-keep [] q = refl
supernet_l-keep (m ∷ l) q = rw (supernet_l-keep l q) (sym (head-cond (leads m q) m (keep (λ m. leads m q) l)))

pub supernet_l-found : (l : List Bits) (q p : Bits) → supernet_l l q ≡ found p → (member p l ≡ true) × (leads p q ≡ true)
supernet_l-found l q p e = head-kept (λ m. leads m q) l p (sym (supernet_l-keep l q) ∙ e)

pub contains_l-covers : (l : List Bits) (q : Bits) → contains_l l q ≡ covers l q
unfolding contains_l supernet_l
contains_l-covers [] q = refl
contains_l-covers (m ∷ l) q = go (leads m q) (contains_l-covers l q)
  where
    go : (b : Bool) → contains_l l q ≡ covers l q → is_found (cond b (found m) (supernet_l l q)) ≡ (b || covers l q)
    go true ih = refl
    go false ih = ih

pub supernet_l-missing : (l : List Bits) (q : Bits) → supernet_l l q ≡ missing → covers l q ≡ false
unfolding contains_l
supernet_l-missing l q e = sym (contains_l-covers l q) ∙ ap is_found e

-- The search in a trie: the leaf on the way down.
search_t-found : (q : Bits) (t : Trie) (p : Bits) → member_t p t ≡ true → leads p q ≡ true → search_t q t ≡ found p
unfolding search_t
search_t-found [] none p h e = absurd (false≢true (sym (node_at-none bare p) ∙ h))
search_t-found [] (node l r) [] h e = rw h
search_t-found [] (node l r) (b ∷ p) h e = absurd (false≢true e)
search_t-found (c ∷ q) none p h e = absurd (false≢true (sym (node_at-none bare p) ∙ h))
search_t-found (c ∷ q) (node l r) [] h e = rw h
search_t-found (c ∷ q) (node l r) (b ∷ p) h e = go (bare l r) refl (search_t-found q (side b l r) p h (leads-tail b c p q e))
  where
    go : (x : Bool) → bare l r ≡ x → search_t q (side b l r) ≡ found p → cond x (found []) (under c (search_t q (side c l r))) ≡ found (b ∷ p)
    go true k ih = absurd (false≢true (sym (node_at-none bare p) ∙ ap (member_t p) (sym (side-bare b l r k)) ∙ h))
    go false k ih = rw (← leads-head b c p q e, ih)

search_t-missing : (q : Bits) (t : Trie) → covers_t t q ≡ false → search_t q t ≡ missing
unfolding search_t
search_t-missing [] none e = refl
search_t-missing [] (node l r) e = rw e
search_t-missing (b ∷ q) none e = refl
search_t-missing (b ∷ q) (node l r) e = go (bare l r) e (search_t-missing q (side b l r))
  where
    go : (x : Bool) → (x || covers_t (side b l r) q) ≡ false → (covers_t (side b l r) q ≡ false → search_t q (side b l r) ≡ missing) → cond x (found []) (under b (search_t q (side b l r))) ≡ missing
    go true k ih = absurd (true≢false k)
    go false k ih = rw (ih k)

pub search_t-list_of : (q : Bits) (t : Trie) → supernet_l (list_of t) q ≡ search_t q t
search_t-list_of q t = go (supernet_l (list_of t) q) refl
  where
    go : (x : Found) → supernet_l (list_of t) q ≡ x → x ≡ search_t q t
    go (found p) e = let r = supernet_l-found (list_of t) q p e in sym (search_t-found q t p (sym (member-list_of t p) ∙ r.0) r.1)
    go missing e = sym (search_t-missing q t (sym (covers-list_of t q) ∙ supernet_l-missing (list_of t) q e))

-- at most one member leads q
pub supernet_l-one : (t : Trie) (q p : Bits) → member p (list_of t) ≡ true → leads p q ≡ true → supernet_l (list_of t) q ≡ found p
supernet_l-one t q p h e = search_t-list_of q t ∙ search_t-found q t p (sym (member-list_of t p) ∙ h) e

-- The first member past a place.
next_l-keep : (l : List Bits) (p : Place) → next_l l p ≡ head_of (keep (is_past p) l)
unfolding next_l
next_l-keep [] p = refl
next_l-keep (m ∷ l) p = rw (next_l-keep l p) (sym (head-cond (is_past p m) m (keep (is_past p) l)))

is_past-on : (p : Place) (m q : Bits) → is_past p m ≡ true → key m < key q → is_past p q ≡ true
is_past-on start m q e h = refl
is_past-on (past p) m q e h = lt-before p q (omega (arith, before-lt p m e))

not-before : (p q : Bits) → (key p < key q → ⊥) → before p q ≡ false
not-before p q h = go (before p q) refl
  where
    go : (b : Bool) → before p q ≡ b → before p q ≡ false
    go true e = absurd (h (before-lt p q e))
    go false e = e

keep-from : (f : Bits → Bool) (m : Bits) (l : List Bits) → From (suc (key m)) l → ((q : Bits) → key m < key q → f q ≡ true) → keep f l ≡ l
keep-from f m [] i h = refl
keep-from f m (p ∷ l) i h = rw (h p i.0, keep-from f p l i.1 (λ q k. h q (omega (arith, i.0))))

-- Going on: all members are past the start, a step takes the first of those past its place, and the end leaves none.
pub keep-start : (l : List Bits) → keep (is_past start) l ≡ l
keep-start [] = refl
keep-start (m ∷ l) = rw (keep-start l)

pub next_l-step : (l : List Bits) (p : Place) (q : Bits) → From 0 l → next_l l p ≡ found q → keep (is_past p) l ≡ q ∷ keep (is_past (past q)) l
unfolding next_l
next_l-step [] p q i e = absurd (false≢true (ap is_found e))
next_l-step (m ∷ l) p q i e = go (is_past p m) refl (next_l-step l p q (from-weaken 0 (suc (key m)) l (omega arith) i.1))
  where
    go : (b : Bool) → is_past p m ≡ b → (next_l l p ≡ found q → keep (is_past p) l ≡ q ∷ keep (before q) l) → keep (is_past p) (m ∷ l) ≡ q ∷ keep (before q) (m ∷ l)
    go true k ih =
        let x = rw k at e in
        let s : m ≡ q = cc in
        let none : before q m ≡ false = rw (← s) (not-before m m (λ z. omega arith)) in
        let all : keep (before q) l ≡ l = rw (← s) (keep-from (before m) m l i.1 (lt-before m)) in
        rw (k, none, keep-from (is_past p) m l i.1 (λ z. is_past-on p m z k), all, s)
    go false k ih =
        let x = rw k at e in
        let h = head-kept (is_past p) l q (sym (next_l-keep l p) ∙ x) in
        rw (k, not-before q m (λ z. true≢false (sym h.0 ∙ from-not (suc (key m)) q l i.1 (omega arith)))) (ih x)

pub next_l-end : (l : List Bits) (p : Place) → next_l l p ≡ missing → keep (is_past p) l ≡ []
next_l-end l p e = head-missing (keep (is_past p) l) (sym (next_l-keep l p) ∙ e)

-- What is found is the first member past the place; where nothing is, no member is past it.
pub next_l-found : (l : List Bits) (p : Place) (q : Bits) → From 0 l → next_l l p ≡ found q → (member q l ≡ true) × (is_past p q ≡ true)
    × ((m : Bits) → member m l ≡ true → is_past p m ≡ true → key q ≤ key m)
next_l-found l p q i e =
    let h = head-kept (is_past p) l q (sym (next_l-keep l p) ∙ e) in
    (h.0, h.1, λ m x y. go m (or_cases (equal m q) (member m (keep (before q) l)) (rw (next_l-step l p q i e) at (member-keep (is_past p) m l ∙ and_both (member m l) (is_past p m) x y))))
  where
    go : (m : Bits) → (equal m q ≡ true) ⊎ (member m (keep (before q) l) ≡ true) → key q ≤ key m
    go m (inl x) = omega (arith, ap key (equal_is m q x))
    go m (inr x) = omega (arith, before-lt q m (and_right (member m l) (before q m) (sym (member-keep (before q) m l) ∙ x)))

pub next_l-missing : (l : List Bits) (p : Place) → next_l l p ≡ missing → (m : Bits) → member m l ≡ true → is_past p m ≡ false
next_l-missing l p e m h = rw h at (sym (member-keep (is_past p) m l) ∙ ap (member m) (next_l-end l p e))

-- What is found by going on from p, k times or until nothing is: from the start, the list.
abbrev pub visits : ℕ → List Bits → Place → List Bits
visits zero l p = []
visits (suc k) l p = elim (next_l l p) [ found q ↦ q ∷ visits k l (past q) | missing ↦ [] ]

visits-keep : (k : ℕ) (l : List Bits) (p : Place) → From 0 l → length (keep (is_past p) l) < k → visits k l p ≡ keep (is_past p) l
visits-keep zero l p i h = absurd (omega arith)
visits-keep (suc k) l p i h = go (next_l l p) refl (λ q. visits-keep k l (past q) i)
  where
    go : (x : Found) → next_l l p ≡ x → ((q : Bits) → length (keep (before q) l) < k → visits k l (past q) ≡ keep (before q) l) → visits (suc k) l p ≡ keep (is_past p) l
    go (found q) e ih = let s = next_l-step l p q i e in rw (e, visits, s, ih q (omega (arith, ap length s)))
    go missing e ih = rw (e, visits, next_l-end l p e)

pub visits-start : (k : ℕ) (l : List Bits) → From 0 l → length l < k → visits k l start ≡ l
visits-start k l i h = visits-keep k l start i (rw (keep-start l) h) ∙ keep-start l
