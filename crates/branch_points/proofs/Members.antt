-- Which strings are kept: of a list, and of its trie. Assumes nothing.
use mathlib.Core.Bool.{Bool, true, false, not, ◌&&◌, ◌||◌}
use mathlib.Core.List.{List, [], ◌∷◌, ◌++◌}
use mathlib.Core.Logic.{⊎_elim}
use mathlib.Core.Path.{◌≡◌, refl, sym, ◌∙◌}
use Prim.Native.Nat.{ℕ}
use native.Mathlib.Omega.{arith}
use Rattle.nets.specs.Bits.{Bits, leads, equal}
use Rattle.nets.specs.Tries.{Trie, none, node, side, any, node_at, member_t, list_of}
use Rattle.nets.specs.Lists.{any_of, member, leads_any, in_order, all_leadings}
use Rattle.nets.proofs.Strings.{and_left, or_cases, equal_is, leads-refl}
use Rattle.nets.proofs.Order.{From}
use Rattle.nets.proofs.Members.{member-keep, any_of-in, any_of-out}
use Rattle.nets.proofs.Adding.{from-keep}
use Rattle.nets.proofs.Nodes.{nodes_l-is}
use Rattle.nets.proofs.Listing.{member-list_of, leads_any-list_of}
use Rattle.trie_paths.specs.Spans.{snoc}
use Rattle.branch_points.specs.BranchPoints.{is_branch, is_kept, kept_l}
use Rattle.branch_points.specs.KeptTries.{kept}

-- a string leads what one bit more leads
pub leads-snoc : (p : Bits) (b : Bool) (s : Bits) → leads (snoc p b) s ≡ true → leads p s ≡ true
leads-snoc [] b s e = refl
leads-snoc (c ∷ p) b [] e = e
leads-snoc (false ∷ p) b (false ∷ s) e = leads-snoc p b s e
leads-snoc (false ∷ p) b (true ∷ s) e = e
leads-snoc (true ∷ p) b (false ∷ s) e = e
leads-snoc (true ∷ p) b (true ∷ s) e = leads-snoc p b s e

-- what is kept leads a member
pub kept-leads : (l : List Bits) (p : Bits) → is_kept l p ≡ true → leads_any p l ≡ true
kept-leads l p e = ⊎_elim (λ h. any_of-in (leads p) p l h (leads-refl p)) branch (or_cases (member p l) (is_branch l p) e)
  where
    branch : is_branch l p ≡ true → leads_any p l ≡ true
    branch h =
        let m = any_of-out (leads (snoc p false)) l (and_left (leads_any (snoc p false) l) _ h) in
        any_of-in (leads p) m.0 l m.1 (leads-snoc p false m.0 m.2)

-- the kept strings are in order, so each is there once, and they are just the members and branch points
pub kept_l-from : (l : List Bits) → From 0 (kept_l l)
unfolding kept_l
kept_l-from l = from-keep 0 (is_kept l) (in_order (all_leadings l)) (nodes_l-is l).1

pub member-kept_l : (l : List Bits) (p : Bits) → member p (kept_l l) ≡ is_kept l p
unfolding kept_l
member-kept_l l p = member-keep (is_kept l) p (in_order (all_leadings l)) ∙ rw ((nodes_l-is l).2 p) (go (leads_any p l) refl (is_kept l p) refl)
  where
    go : (x : Bool) → leads_any p l ≡ x → (y : Bool) → is_kept l p ≡ y → (x && y) ≡ y
    go true h y k = refl
    go false h false k = refl
    go false h true k = let z : ◌≡◌ {A = ℕ} 0 1 = cc (kept-leads l p k) in absurd (omega arith)

-- the same on the trie: two children or none
pub node_at-kept : (p : Bits) (t : Trie) → node_at kept p t ≡ (member_t p t || (node_at any (snoc p false) t && node_at any (snoc p true) t))
node_at-kept [] none = refl
node_at-kept [] (node none none) = refl
node_at-kept [] (node none (node x y)) = refl
node_at-kept [] (node (node x y) none) = refl
node_at-kept [] (node (node x y) (node z u)) = refl
node_at-kept (b ∷ p) none = refl
node_at-kept (b ∷ p) (node l r) = node_at-kept p (side b l r)

pub is_kept-list_of : (t : Trie) (p : Bits) → is_kept (list_of t) p ≡ node_at kept p t
is_kept-list_of t p = rw (member-list_of t p, leads_any-list_of t (snoc p false), leads_any-list_of t (snoc p true)) (sym (node_at-kept p t))
