-- The difference that does not join halves. What it covers, block by block, is what the first trie covers and what holds no address of the second; a trie's members are
-- the largest blocks that it covers. So it is what is left when each member of the second is removed, and its members are those of the scope document's sentence.
-- Assumes nothing.
use mathlib.Core.Bool.{Bool, true, false, not, cond, ◌&&◌, ◌||◌, or-true, and-true, and-false}
use mathlib.Core.List.{List, [], ◌∷◌}
use mathlib.Core.Path.{◌≡◌, refl, ap, sym, ◌∙◌}
use Prim.Native.Nat.{ℕ, zero, suc, ◌≤◌}
use native.Mathlib.Omega.{arith}
use lib.ListN.{length}
use Rattle.nets.specs.Bits.{Bits, leads}
use Rattle.nets.specs.Tries.{Trie, none, node, leaf, bare, side, node_at, any, member_t, covers_t, levels, list_of}
use Rattle.nets.specs.TrieOps.{half, Kind, flat, mixed, kind_of, verdict, remove_t, op_t, except_t}
use Rattle.nets.specs.Lists.{member, covers, leads_any, sibling, exclude_l}
use Rattle.nets.proofs.Strings.{and_left, leads-refl, leads-length, leads-all, leads-trans}
use Rattle.nets.proofs.Members.{any_of-in, any_of-out}
use Rattle.nets.proofs.Levels.{node_at-none}
use Rattle.nets.proofs.Listing.{member-list_of, covers-list_of, leads_any-list_of, side-bare, covers_t-none, covers_t-leaf, member_t-apart, member_t-length, member_t-one}
use Rattle.nets.proofs.Glue.{covers_t-half, covers_t-glue, covers_t-glue-end, levels-half}
use Rattle.nets.proofs.Operate.{flat≢mixed, Fits, covers_t-fits, verdict-flat, verdict-levels, op_t-flat, op_t-mixed, levels-op}
use Rattle.nets.proofs.Removing.{covers_t-remove, list_of-remove}

-- The block q holds an address of the list, of the trie: it lies inside a member, or a member lies inside it.
abbrev pub touches : List Bits → Bits → Bool
touches l q = covers l q || leads_any q l

abbrev pub touches_t : Trie → Bits → Bool
touches_t t q = covers_t t q || node_at any q t

touches-list_of : (t : Trie) (q : Bits) → touches (list_of t) q ≡ touches_t t q
touches-list_of t q = rw (covers-list_of t q, leads_any-list_of t q)

touches_t-half : (t : Trie) (b : Bool) (q : Bits) → touches_t t (b ∷ q) ≡ touches_t (half b t) q
touches_t-half none b q = simp (covers_t-none, node_at-none)
touches_t-half (node l r) b q = go (bare l r)
  where
    go : (x : Bool) → ((x || covers_t (side b l r) q) || node_at any q (side b l r)) ≡ touches_t (cond x leaf (side b l r)) q
    go true = rw (covers_t-leaf q)
    go false = refl

touches_t-fits : (t : Trie) (q : Bits) → Fits (kind_of t) (touches_t t q)
touches_t-fits none q = simp (covers_t-none, node_at-none)
touches_t-fits (node none none) q = rw (covers_t-leaf q)
touches_t-fits (node none (node c d)) q = tt
touches_t-fits (node (node c d) r) q = tt

-- What the difference covers.
abbrev but : Bool → Bool → Bool
but x y = x && not y

covers_t-flat : (v : Bool) (a : Bits) → covers_t (cond v leaf none) a ≡ v
covers_t-flat true a = covers_t-leaf a
covers_t-flat false a = covers_t-none a

but-mixed : (t u : Trie) → verdict but (kind_of t) (kind_of u) ≡ mixed → but (covers_t t []) (touches_t u []) ≡ false
but-mixed none u e = refl
but-mixed (node none none) none e = absurd (flat≢mixed true e)
but-mixed (node none (node c d)) none e = refl
but-mixed (node (node c d) r) none e = refl
but-mixed (node l r) (node m s) e = simp (or-true, and-false)

side-each : {A : Type 0} (g : Bool → A) (b : Bool) → side b (g false) (g true) ≡ g b
side-each g false = refl
side-each g true = refl

pub covers_t-except : (k : ℕ) (t u : Trie) (a : Bits) → levels t ≤ k → levels u ≤ k → covers_t (except_t k t u) a ≡ (covers_t t a && not (touches_t u a))
unfolding except_t op_t levels
covers_t-except zero none u a h g = rw (covers_t-none a)
covers_t-except zero (node l r) u a h g = absurd (omega arith)
covers_t-except (suc k) t u a h g =
    go (verdict but (kind_of t) (kind_of u)) refl a (λ b a n. covers_t-except k (half b t) (half b u) a (levels-half b t k h n) (levels-half b u k g n))
  where
    halves : Bool → Trie
    halves b = op_t false but k (half b t) (half b u)

    go : (v : Kind) → verdict but (kind_of t) (kind_of u) ≡ v → (a : Bits)
        → ((b : Bool) (a : Bits) → 1 ≤ k → covers_t (halves b) a ≡ but (covers_t (half b t) a) (touches_t (half b u) a))
        → covers_t (op_t false but (suc k) t u) a ≡ but (covers_t t a) (touches_t u a)
    go (flat v) e a ih =
        rw (op_t-flat false but k t u v e)
        (covers_t-flat v a ∙ sym (verdict-flat but (kind_of t) (kind_of u) (covers_t t a) (touches_t u a) v (covers_t-fits t a) (touches_t-fits u a) e))
    go mixed e [] ih = rw (op_t-mixed false but k t u e) (covers_t-glue-end false (halves false) (halves true) ∙ sym (but-mixed t u e))
    go mixed e (b ∷ a) ih =
        rw (op_t-mixed false but k t u e, covers_t-half t b a, touches_t-half u b a)
        (covers_t-glue false b (halves false) (halves true) a ∙ ap (λ z. covers_t z a) (side-each halves b) ∙ ih b a (verdict-levels but k t u e h g))

pub levels-except : (k : ℕ) (t u : Trie) → levels (except_t k t u) ≤ k
unfolding except_t
levels-except k t u = levels-op false but k t u

-- The block that q halves: a member is covered where that block is not, and that block holds an address where one of its halves does.
abbrev parent : Bits → Bits
parent [] = []
parent (b ∷ []) = []
parent (b ∷ c ∷ q) = b ∷ parent (c ∷ q)

covers_t-end : (t : Trie) → covers_t t [] ≡ member_t [] t
covers_t-end none = refl
covers_t-end (node l r) = refl

member_t-parent : (b : Bool) (q : Bits) (t : Trie) → member_t (b ∷ q) t ≡ but (covers_t t (b ∷ q)) (covers_t t (parent (b ∷ q)))
member_t-parent b [] none = refl
member_t-parent b [] (node l r) = go (bare l r) refl
  where
    go : (x : Bool) → bare l r ≡ x → member_t [] (side b l r) ≡ but (x || covers_t (side b l r) []) x
    go true e = rw (side-bare b l r e)
    go false e = rw (covers_t-end (side b l r)) (sym (and-true (member_t [] (side b l r))))
member_t-parent b (c ∷ q) none = refl
member_t-parent b (c ∷ q) (node l r) = go (bare l r) refl (member_t-parent c q (side b l r))
  where
    go : (x : Bool) → bare l r ≡ x → member_t (c ∷ q) (side b l r) ≡ but (covers_t (side b l r) (c ∷ q)) (covers_t (side b l r) (parent (c ∷ q)))
        → member_t (c ∷ q) (side b l r) ≡ but (x || covers_t (side b l r) (c ∷ q)) (x || covers_t (side b l r) (parent (c ∷ q)))
    go true e ih = rw (side-bare b l r e)
    go false e ih = ih

touches_t-end : (b : Bool) (t : Trie) → touches_t t [] ≡ (touches_t t (b ∷ []) || touches_t t (not b ∷ []))
touches_t-end b none = refl
touches_t-end b (node none none) = refl
touches_t-end false (node none (node c d)) = simp or-true
touches_t-end true (node none (node c d)) = simp or-true
touches_t-end false (node (node c d) r) = simp or-true
touches_t-end true (node (node c d) r) = simp or-true

touches_t-parent : (b : Bool) (q : Bits) (t : Trie) → touches_t t (parent (b ∷ q)) ≡ (touches_t t (b ∷ q) || touches_t t (sibling (b ∷ q)))
touches_t-parent b [] t = touches_t-end b t
touches_t-parent b (c ∷ q) t =
    rw (touches_t-half t b (parent (c ∷ q)), touches_t-half t b (c ∷ q), touches_t-half t b (sibling (c ∷ q))) (touches_t-parent c q (half b t))

-- The members of any trie x that covers so: q holds no address of u, and is a member of t, or lies inside one and its other half holds an address of u.
member_t-but : (x t u : Trie) → ((a : Bits) → covers_t x a ≡ but (covers_t t a) (touches_t u a))
    → (q : Bits) → member_t q x ≡ (not (touches_t u q) && cond (touches_t u (sibling q)) (covers_t t q) (member_t q t))
member_t-but x t u h [] = rw (← covers_t-end x, ← covers_t-end t, h []) (go (covers_t t []) (touches_t u []))
  where
    go : (c a : Bool) → but c a ≡ (not a && cond a c c)
    go c true = and-false c
    go c false = and-true c
member_t-but x t u h (b ∷ q) =
    rw (member_t-parent b q x, member_t-parent b q t, h (b ∷ q), h (parent (b ∷ q)), touches_t-parent b q u)
    (go (covers_t t (b ∷ q)) (covers_t t (parent (b ∷ q))) (touches_t u (b ∷ q)) (touches_t u (sibling (b ∷ q))))
  where
    go : (c p a s : Bool) → but (but c a) (but p (a || s)) ≡ (not a && cond s c (but c p))
    go c p true s = simp and-false
    go c p false true = simp (and-true, and-false)
    go c p false false = simp and-true

pub member_t-except : (k : ℕ) (t u : Trie) (q : Bits) → levels t ≤ k → levels u ≤ k
    → member_t q (except_t k t u) ≡ (not (touches_t u q) && cond (touches_t u (sibling q)) (covers_t t q) (member_t q t))
member_t-except k t u q h g = member_t-but (except_t k t u) t u (λ a. covers_t-except k t u a h g) q

-- The members of a list removed one after the other.
abbrev without : Trie → List Bits → Trie
without t [] = t
without t (n ∷ m) = without (remove_t n t) m

covers_t-without : (m : List Bits) (t : Trie) (a : Bits) → covers_t (without t m) a ≡ but (covers_t t a) (touches m a)
covers_t-without [] t a = sym (and-true (covers_t t a))
covers_t-without (n ∷ m) t a = covers_t-without m (remove_t n t) a ∙ rw (covers_t-remove n t a) (go (covers_t t a) (leads n a) (leads a n) (covers m a) (leads_any a m))
  where
    go : (c x y z w : Bool) → but (but c (x || y)) (z || w) ≡ but c ((x || z) || (y || w))
    go false x y z w = refl
    go true true y z w = refl
    go true false true z w = simp or-true
    go true false false z w = refl

list_of-without : (m : List Bits) (t : Trie) → list_of (without t m) ≡ exclude_l (list_of t) m
unfolding exclude_l
list_of-without [] t = refl
list_of-without (n ∷ m) t = list_of-without m (remove_t n t) ∙ ap (λ l. exclude_l l m) (list_of-remove n t)

member_t-without : (t u : Trie) (q : Bits) → member_t q (without t (list_of u)) ≡ (not (touches_t u q) && cond (touches_t u (sibling q)) (covers_t t q) (member_t q t))
member_t-without t u q = member_t-but (without t (list_of u)) t u (λ a. rw (← touches-list_of u a) (covers_t-without (list_of u) t a)) q

pub list_of-except : (k : ℕ) (t u : Trie) → levels t ≤ k → levels u ≤ k → list_of (except_t k t u) ≡ exclude_l (list_of t) (list_of u)
list_of-except k t u h g =
    ap list_of (member_t-one (except_t k t u) (without t (list_of u)) (λ q. member_t-except k t u q h g ∙ sym (member_t-without t u q)))
    ∙ list_of-without (list_of u) t

-- The scope document's sentence, over lists.
pub member-exclude : (t u : Trie) (q : Bits)
    → member q (exclude_l (list_of t) (list_of u)) ≡ (not (touches (list_of u) q) && cond (touches (list_of u) (sibling q)) (covers (list_of t) q) (member q (list_of t)))
member-exclude t u q =
    rw (← list_of-without (list_of u) t, member-list_of (without t (list_of u)) q, touches-list_of u q, touches-list_of u (sibling q), covers-list_of t q, member-list_of t q)
    (member_t-without t u q)

pub covers-exclude-block : (t : Trie) (m : List Bits) (q : Bits) → covers (exclude_l (list_of t) m) q ≡ (covers (list_of t) q && not (touches m q))
covers-exclude-block t m q = rw (← list_of-without m t, covers-list_of (without t m) q, covers-list_of t q) (covers_t-without m t q)

member-covers : (q : Bits) (l : List Bits) → member q l ≡ true → covers l q ≡ true
member-covers q l e = any_of-in (λ m. leads m q) q l e (leads-refl q)

-- a string as long as an address touches what covers it
touches-covers : (u : Trie) (a : Bits) → levels u ≤ suc (length a) → touches (list_of u) a ≡ covers (list_of u) a
touches-covers u a h = go (covers (list_of u) a) (leads_any a (list_of u)) met
  where
    met : leads_any a (list_of u) ≡ true → covers (list_of u) a ≡ true
    met e =
        let r = any_of-out (leads a) (list_of u) e in
        let n = member_t-length r.0 u (sym (member-list_of u r.0) ∙ r.1) in
        rw (leads-all a r.0 r.2 (omega arith)) (member-covers r.0 (list_of u) r.1)

    go : (x y : Bool) → (y ≡ true → x ≡ true) → (x || y) ≡ x
    go true y k = refl
    go false true k = sym (k refl)
    go false false k = refl

pub covers-exclude : (t u : Trie) (a : Bits) → levels u ≤ suc (length a) → covers (exclude_l (list_of t) (list_of u)) a ≡ (covers (list_of t) a && not (covers (list_of u) a))
covers-exclude t u a h = rw (← touches-covers u a h) (covers-exclude-block t (list_of u) a)

-- blocks of two different members are not joined: each lies inside one
pub exclude-inside : (t : Trie) (m : List Bits) (q : Bits) → member q (exclude_l (list_of t) m) ≡ true → covers (list_of t) q ≡ true
exclude-inside t m q e =
    and_left (covers (list_of t) q) (not (touches m q)) (sym (covers-exclude-block t m q) ∙ member-covers q (exclude_l (list_of t) m) e)

-- each is the largest: no other block around it lies inside a member and holds no address of the second
pub exclude-largest : (t : Trie) (m : List Bits) (q p : Bits)
    → member q (exclude_l (list_of t) m) ≡ true → leads p q ≡ true → covers (list_of t) p ≡ true → touches m p ≡ false → p ≡ q
exclude-largest t m q p e h g f =
    let r = any_of-out (λ n. leads n p) (exclude_l (list_of t) m) (covers-exclude-block t m p ∙ rw (g, f)) in
    let x = member_t-apart r.0 (without t m) q (found r.0 r.1) (found q e) (leads-trans r.0 p q r.2 h) in
    leads-all p q h (omega (arith, leads-length r.0 p r.2, ap length x))
  where
    found : (n : Bits) → member n (exclude_l (list_of t) m) ≡ true → member_t n (without t m) ≡ true
    found n k = sym (member-list_of (without t m) n) ∙ ap (member n) (list_of-without m t) ∙ k
