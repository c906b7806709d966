-- The nodes that a lookup counts in the second form: the kept nodes on the way down, never more than all nodes there. Assumes nothing.
use mathlib.Core.Bool.{Bool, true, false, cond}
use mathlib.Core.List.{List, [], ◌∷◌, map}
use mathlib.Core.Path.{◌≡◌, refl, ap, sym, ◌∙◌}
use Prim.Native.Nat.{ℕ, suc, ◌+◌, ◌≤◌}
use native.Mathlib.Omega.{arith}
use lib.ListN.{length}
use Rattle.nets.specs.Bits.{Bits}
use Rattle.nets.specs.Tries.{Trie, none, node, side, node_at, list_of}
use Rattle.nets.specs.Lists.{keep, leadings, leads_any, steps_l}
use Rattle.nets.proofs.Levels.{node_at-none}
use Rattle.branch_points.specs.BranchPoints.{is_kept, kept_steps_l}
use Rattle.branch_points.specs.KeptTries.{kept, kept_steps_t}
use Rattle.branch_points.proofs.Members.{kept-leads, is_kept-list_of}

keep_same : (f g : Bits → Bool) (l : List Bits) → ((p : Bits) → f p ≡ g p) → keep f l ≡ keep g l
keep_same f g [] h = refl
keep_same f g (m ∷ l) h = rw (h m, keep_same f g l h)

keep-none : (f : Bits → Bool) (l : List Bits) → ((p : Bits) → f p ≡ false) → keep f l ≡ []
keep-none f [] h = refl
keep-none f (m ∷ l) h = rw (h m, keep-none f l h)

length-first : (x : Bool) (p : Bits) (l : List Bits) → length (cond x (p ∷ l) l) ≡ cond x 1 0 + length l
length-first true p l = omega arith
length-first false p l = omega arith

length-keep-map : (f : Bits → Bool) (b : Bool) (l : List Bits) → length (keep f (map (λ p. b ∷ p) l)) ≡ length (keep (λ p. f (b ∷ p)) l)
length-keep-map f b [] = refl
length-keep-map f b (m ∷ l) =
    length-first (f (b ∷ m)) (b ∷ m) (keep f (map (λ p. b ∷ p) l)) ∙ rw (length-keep-map f b l) (sym (length-first (f (b ∷ m)) m (keep (λ p. f (b ∷ p)) l)))

steps-nodes : (q : Bits) (t : Trie) → length (keep (λ p. node_at kept p t) (leadings q)) ≡ kept_steps_t q t
unfolding kept_steps_t
steps-nodes [] none = refl
steps-nodes [] (node l r) = length-first (kept l r) [] [] ∙ omega arith
steps-nodes (b ∷ q) none = ap length (keep-none (λ p. node_at kept p none) (leadings (b ∷ q)) (node_at-none kept))
steps-nodes (b ∷ q) (node l r) =
    length-first (kept l r) [] (keep (λ p. node_at kept p (node l r)) (map (λ p. b ∷ p) (leadings q)))
    ∙ ap (λ n. cond (kept l r) 1 0 + n) (length-keep-map (λ p. node_at kept p (node l r)) b (leadings q) ∙ steps-nodes q (side b l r))

pub kept_steps_t-list_of : (q : Bits) (t : Trie) → kept_steps_l (list_of t) q ≡ kept_steps_t q t
unfolding kept_steps_l
kept_steps_t-list_of q t = ap length (keep_same (is_kept (list_of t)) (λ p. node_at kept p t) (leadings q) (is_kept-list_of t)) ∙ steps-nodes q t

pub kept_steps_l-empty : (q : Bits) → kept_steps_l [] q ≡ 0
unfolding kept_steps_l
kept_steps_l-empty q = ap length (keep-none (is_kept []) (leadings q) (λ p. refl))

-- never more than the steps of the first form
keep-fewer : (f g : Bits → Bool) (l : List Bits) → ((p : Bits) → f p ≡ true → g p ≡ true) → length (keep f l) ≤ length (keep g l)
keep-fewer f g [] h = omega arith
keep-fewer f g (m ∷ l) h = go (f m) refl (g m) refl (keep-fewer f g l h)
  where
    go : (x : Bool) → f m ≡ x → (y : Bool) → g m ≡ y → length (keep f l) ≤ length (keep g l)
        → length (cond x (m ∷ keep f l) (keep f l)) ≤ length (cond y (m ∷ keep g l) (keep g l))
    go true a true b k = omega arith
    go true a false b k = let z : ◌≡◌ {A = ℕ} 0 1 = cc (h m a) in absurd (omega arith)
    go false a true b k = omega arith
    go false a false b k = k

pub kept_steps_l-le : (l : List Bits) (q : Bits) → kept_steps_l l q ≤ steps_l l q
unfolding kept_steps_l steps_l
kept_steps_l-le l q = keep-fewer (is_kept l) (λ p. leads_any p l) (leadings q) (kept-leads l)
