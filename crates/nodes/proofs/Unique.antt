-- At most one trie stands at a node, and no encoding is the start of another. Assumes nothing.
use mathlib.Core.Path.{◌≡◌, sym, ap, ◌∙◌}
use mathlib.Core.List.{List, ◌++◌}
use Prim.Native.Nat.{ℕ, ◌+◌, ◌≤◌}
use native.Mathlib.Nat.{zero-add}
use native.Mathlib.Omega.{arith}
use lib.ListN.{drop, length-append, get_or-append}
use lib.Seq.{drop_at}
use Rattle.nets.specs.Tries.{Trie, none, size, levels}
use Rattle.nodes.specs.Words.{enc}
use Rattle.nodes.specs.Parse.{Stands}
use Rattle.nodes.proofs.Tries.{length-enc}
use Rattle.nodes.proofs.Parsed.{parse-of}

deeper : {w : List ℕ} {b n f i : ℕ} {t : Trie} (g : ℕ) → f ≤ g → Stands w b n f i t → Stands w b n g i t
deeper g le s = record { deep = omega (arith, s.deep); within = s.within; has = s.has }

pub unique : {w : List ℕ} {b n f g i : ℕ} {t u : Trie} → 1 ≤ i → (t ≡ none → ⊥) → (u ≡ none → ⊥) → Stands w b n f i t → Stands w b n g i u → t ≡ u
unique {w} {b} {n} {f} {g} {i} {t} {u} pos nt nu s r =
    let p = parse-of w b n (f + g) t i pos nt (deeper (f + g) (omega arith) s) in
    let q = parse-of w b n (f + g) u i pos nu (deeper (f + g) (omega arith) r) in
    cc

-- a list that starts with the encoding of t has it at node 1
start_of : (t : Trie) (x : List ℕ) (n : ℕ) → size t ≤ n → Stands (enc t ++ x) 0 n (levels t) 1 t
start_of t x n le = record {
  deep = omega arith;
  within = omega arith;
  has = record { fits = omega (arith, length-append (enc t) x); at = λ k l. rw (zero-add k) (get_or-append (enc t) x 0 k l) };
}

pub prefix-free : (t u : Trie) (x y : List ℕ) → (t ≡ none → ⊥) → (u ≡ none → ⊥) → enc t ++ x ≡ enc u ++ y → (t ≡ u) × (x ≡ y)
prefix-free t u x y nt nu e =
    let n = size t + size u in
    let same : t ≡ u = unique (omega arith) nt nu (start_of t x n (omega arith)) (rw (← e) at (start_of u y n (omega arith))) in
    (same, sym (drop_at (enc t) x (size t) (length-enc t)) ∙ ap (drop (size t)) e ∙ rw same (drop_at (enc u) y (size u) (length-enc u)))
