-- Strings that begin with others, and tries below a string: nothing of them is kept but what hangs there. Assumes nothing.
use mathlib.Core.Path.{◌≡◌, refl, ap, ◌∙◌}
use mathlib.Core.Bool.{Bool, true, false, beq as same}
use mathlib.Core.List.{[], ◌∷◌, ◌++◌, append_assoc, append-nil}
use Prim.Native.Nat.{ℕ, suc, ◌+◌}
use native.Mathlib.Omega.{arith}
use lib.ListN.{length, drop}
use Rattle.nets.specs.Bits.{Bits, leads}
use Rattle.nets.specs.Tries.{Trie, none, node, fork, levels}
use Rattle.nets.proofs.Strings.{same-is, and_left, and_right}
use Rattle.nodes.proofs.Tries.{some}
use Rattle.trie_paths.specs.Spans.{snoc}
use Rattle.branch_points.specs.KeptTries.{kept_size}
use Rattle.kept_nodes.specs.Words.{kept_enc}
use Rattle.kept_nodes.specs.Parse.{hung}

-- what is behind p in a string that begins with it
pub leads-drop : (p s : Bits) → leads p s ≡ true → p ++ drop (length p) s ≡ s
leads-drop [] s e = refl
leads-drop (b ∷ p) [] e = let z : ◌≡◌ {A = ℕ} 0 1 = cc in absurd (omega arith)
leads-drop (b ∷ p) (c ∷ s) e = rw (same-is b c (and_left (same b c) (leads p s) e)) (ap (λ l. c ∷ l) (leads-drop p s (and_right (same b c) (leads p s) e)))

pub drop-snoc : (p : Bits) (c : Bool) (s : Bits) → leads (snoc p c) s ≡ true → drop (length p) s ≡ c ∷ drop (length (snoc p c)) s
drop-snoc [] c [] e = let z : ◌≡◌ {A = ℕ} 0 1 = cc in absurd (omega arith)
drop-snoc [] c (b ∷ s) e = rw (same-is c b (and_left (same c b) (leads [] s) e))
drop-snoc (b ∷ p) c [] e = let z : ◌≡◌ {A = ℕ} 0 1 = cc in absurd (omega arith)
drop-snoc (b ∷ p) c (d ∷ s) e = drop-snoc p c s (and_right (same b d) (leads (snoc p c) s) e)

pub drop_all : (p : Bits) → drop (length p) p ≡ []
drop_all [] = refl
drop_all (b ∷ p) = drop_all p

-- one child only
pub kept_size-fork : (c : Bool) (t : Trie) → (t ≡ none → ⊥) → kept_size (fork c t none) ≡ kept_size t
unfolding kept_size
kept_size-fork c none ne = absurd (ne refl)
kept_size-fork false (node l r) ne = omega arith
kept_size-fork true (node l r) ne = omega arith

pub levels-fork : (c : Bool) (t : Trie) → levels (fork c t none) ≡ suc (levels t)
unfolding levels
levels-fork false t = omega arith
levels-fork true t = omega arith

pub kept_enc-fork : (f : ℕ) (p : Bits) (c : Bool) (t : Trie) → (t ≡ none → ⊥) → kept_enc f p (fork c t none) ≡ kept_enc f (snoc p c) t
unfolding kept_enc
kept_enc-fork f p c none ne = absurd (ne refl)
kept_enc-fork f p false (node l r) ne = refl
kept_enc-fork f p true (node l r) ne = append-nil _

-- and many
pub hung-some : (q : Bits) (t : Trie) → (t ≡ none → ⊥) → hung q t ≡ none → ⊥
hung-some [] t ne e = ne e
hung-some (false ∷ q) t ne e = some (hung q t) none e
hung-some (true ∷ q) t ne e = some none (hung q t) e

pub kept_size-hung : (q : Bits) (t : Trie) → (t ≡ none → ⊥) → kept_size (hung q t) ≡ kept_size t
kept_size-hung [] t ne = refl
kept_size-hung (c ∷ q) t ne = kept_size-fork c (hung q t) (hung-some q t ne) ∙ kept_size-hung q t ne

pub levels-hung : (q : Bits) (t : Trie) → levels (hung q t) ≡ length q + levels t
levels-hung [] t = omega arith
levels-hung (c ∷ q) t = levels-fork c (hung q t) ∙ omega (arith, levels-hung q t)

pub kept_enc-hung : (f : ℕ) (p q : Bits) (t : Trie) → (t ≡ none → ⊥) → kept_enc f p (hung q t) ≡ kept_enc f (p ++ q) t
kept_enc-hung f p [] t ne = rw (append-nil p)
kept_enc-hung f p (c ∷ q) t ne = kept_enc-fork f p c (hung q t) (hung-some q t ne) ∙ kept_enc-hung f (snoc p c) q t ne ∙ rw (append_assoc p (c ∷ []) q)
