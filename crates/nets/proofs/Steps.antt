-- The steps of a lookup: as many as the query has leading bit strings that lead some member too. They are the nodes on the way down the list's trie. Assumes nothing.
use mathlib.Core.Bool.{Bool, true, false, cond}
use mathlib.Core.List.{List, [], ◌∷◌, map}
use mathlib.Core.Path.{◌≡◌, refl, ap, sym, ◌∙◌}
use Prim.Native.Nat.{ℕ, suc, ◌+◌, ◌≤◌}
use native.Mathlib.Omega.{arith}
use lib.ListN.{length, length-map}
use Rattle.nets.specs.Bits.{Bits, leads}
use Rattle.nets.specs.Tries.{Trie, none, node, any, bare, is_none, side, node_at, list_of}
use Rattle.nets.specs.TrieOps.{search_t, under, steps_t}
use Rattle.nets.specs.Lists.{Found, found, missing, leads_any, leadings, keep, supernet_l, steps_l}
use Rattle.nets.proofs.Levels.{node_at-none}
use Rattle.nets.proofs.Listing.{leads_any-list_of, side-bare}
use Rattle.nets.proofs.Lookups.{search_t-list_of}
use Rattle.nets.proofs.Members.{length-keep}

-- What is kept of a list depends on the test alone.
keep_same : (f g : Bits → Bool) (l : List Bits) → ((p : Bits) → f p ≡ g p) → keep f l ≡ keep g l
keep_same f g [] h = refl
keep_same f g (p ∷ l) h = rw (h p, keep_same f g l h)

keep-none : (f : Bits → Bool) (l : List Bits) → ((p : Bits) → f p ≡ false) → keep f l ≡ []
keep-none f [] h = refl
keep-none f (p ∷ l) h = rw (h p, keep-none f l h)

length-keep-map : (f : Bits → Bool) (b : Bool) (l : List Bits) → length (keep f (map (λ q. b ∷ q) l)) ≡ length (keep (λ q. f (b ∷ q)) l)
length-keep-map f b [] = refl
length-keep-map f b (p ∷ l) = go (f (b ∷ p)) (length-keep-map f b l)
  where
    go : (x : Bool) → length (keep f (map (λ q. b ∷ q) l)) ≡ length (keep (λ q. f (b ∷ q)) l)
        → length (cond x ((b ∷ p) ∷ keep f (map (λ q. b ∷ q) l)) (keep f (map (λ q. b ∷ q) l))) ≡ length (cond x (p ∷ keep (λ q. f (b ∷ q)) l) (keep (λ q. f (b ∷ q)) l))
    go true e = ap suc e
    go false e = e

-- The nodes on the way down.
steps-nodes : (q : Bits) (t : Trie) → length (keep (λ p. node_at any p t) (leadings q)) ≡ steps_t q t
unfolding steps_t
steps-nodes [] none = refl
steps-nodes [] (node l r) = refl
steps-nodes (b ∷ q) none = ap length (keep-none (λ p. node_at any p none) (leadings (b ∷ q)) (node_at-none any))
steps-nodes (b ∷ q) (node l r) = ap suc (length-keep-map (λ p. node_at any p (node l r)) b (leadings q) ∙ steps-nodes q (side b l r))

pub steps_t-list_of : (q : Bits) (t : Trie) → steps_l (list_of t) q ≡ steps_t q t
unfolding steps_l
steps_t-list_of q t = ap length (keep_same (λ p. leads_any p (list_of t)) (λ p. node_at any p t) (leadings q) (leads_any-list_of t)) ∙ steps-nodes q t

-- Never above the query's length plus one.
length-leadings : (q : Bits) → length (leadings q) ≡ suc (length q)
length-leadings [] = refl
length-leadings (b ∷ q) = ap suc (simp length-map (length-leadings q))

pub steps_l-le : (l : List Bits) (q : Bits) → steps_l l q ≤ suc (length q)
unfolding steps_l
steps_l-le l q = omega (arith, length-keep (λ p. leads_any p l) (leadings q), length-leadings q)

-- 0 for an empty list, and for no other: the empty string leads every member.
pub steps_l-empty : (q : Bits) → steps_l [] q ≡ 0
unfolding steps_l
steps_l-empty q = ap length (keep-none (λ p. false) (leadings q) (λ p. refl))

pub steps_l-some : (m : Bits) (l : List Bits) (q : Bits) → 1 ≤ steps_l (m ∷ l) q
unfolding steps_l
steps_l-some m l [] = omega arith
steps_l-some m l (b ∷ q) = omega arith

never : {A : Type 0} → ◌≡◌ {A = ℕ} 0 1 → A
never e = absurd (omega arith)

-- Where a member of length d is found, d + 1: it and all that lead it.
steps_t-found : (q : Bits) (t : Trie) (p : Bits) → search_t q t ≡ found p → steps_t q t ≡ suc (length p)
unfolding search_t steps_t
steps_t-found [] none p e = never cc
steps_t-found [] (node l r) p e = go (bare l r) e
  where
    go : (x : Bool) → cond x (found []) missing ≡ found p → 1 ≡ suc (length p)
    go true h = let z : [] ≡ p = cc in ap (λ s. suc (length s)) z
    go false h = never cc
steps_t-found (b ∷ q) none p e = never cc
steps_t-found (b ∷ q) (node l r) p e = go (bare l r) refl (search_t q (side b l r)) refl (steps_t-found q (side b l r)) e
  where
    none-steps : (s : Bits) → steps_t s none ≡ 0
    none-steps [] = refl
    none-steps (c ∷ s) = refl

    go : (x : Bool) → bare l r ≡ x → (f : Found) → search_t q (side b l r) ≡ f → ((s : Bits) → search_t q (side b l r) ≡ found s → steps_t q (side b l r) ≡ suc (length s))
        → cond x (found []) (under b f) ≡ found p → suc (steps_t q (side b l r)) ≡ suc (length p)
    go true k f h ih i = let z : [] ≡ p = cc in rw (side-bare b l r k, none-steps q) (ap (λ s. suc (length s)) z)
    go false k (found s) h ih i = let z : b ∷ s ≡ p = cc in rw (ih s h) (ap (λ s. suc (length s)) z)
    go false k missing h ih i = never cc

pub steps_l-found : (t : Trie) (q p : Bits) → supernet_l (list_of t) q ≡ found p → steps_l (list_of t) q ≡ suc (length p)
steps_l-found t q p e = steps_t-list_of q t ∙ steps_t-found q t p (sym (search_t-list_of q t) ∙ e)
