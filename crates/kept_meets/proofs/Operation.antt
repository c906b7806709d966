-- A set operation on the parts of its two sources inside a network, in the second form: what its sources are, and what one step of it says. Assumes nothing.
use mathlib.Core.Bool.{Bool, true, false, not}
use mathlib.Core.List.{List, []}
use mathlib.Core.Path.{◌≡◌, refl, ap, ◌∙◌}
use Prim.Native.Nat.{ℕ, ◌+◌, ◌-◌, ◌<◌}
use native.Mathlib.Omega.{arith}
use lib.ListN.{length}
use Rattle.nets.specs.Bits.{Bits}
use Rattle.nets.specs.Tries.{Trie, none, node, is_none}
use Rattle.nets.specs.TrieOps.{kind_of, verdict}
use Rattle.trie_emit.specs.Combine.{op_of, op_on, rank}
use Rattle.inner_nets.specs.Parts.{down}
use Rattle.trie_meets.proofs.Operation.{levels-down}
use Rattle.trie_paths.specs.Spans.{snoc}
use Rattle.trie_paths.proofs.Paths.{length-snoc}
use Rattle.kept_sources.specs.Sources.{KeptMeans}
use Rattle.kept_emit.specs.Answers.{answer}
use Rattle.kept_emit.specs.Combine.{Inputs}
use Rattle.trie_emit.specs.declared.emitting.Emitted.TheVariants.{Empty, Full}
use Rattle.kept_emit.proofs.Steps.{op-none, op-full}

-- What an answer says of a trie.
answer-empty : (t : Trie) → Empty ≡ answer t → is_none t ≡ true
unfolding answer
answer-empty none e = refl
answer-empty (node none none) e = let z : ◌≡◌ {A = ℕ} 0 1 = cc in absurd (omega arith)
answer-empty (node none (node c d)) e = let z : ◌≡◌ {A = ℕ} 0 1 = cc in absurd (omega arith)
answer-empty (node (node c d) r) e = let z : ◌≡◌ {A = ℕ} 0 1 = cc in absurd (omega arith)

answer-full : (t : Trie) → Full ≡ answer t → is_none t ≡ false
unfolding answer
answer-full none e = let z : ◌≡◌ {A = ℕ} 0 1 = cc in absurd (omega arith)
answer-full (node l r) e = refl

-- Where the kinds of the sources settle it.
module _ {f : ℕ} {w : List ℕ} {b n a c : ℕ} {p : Bits} {fuel : ℕ} {t u : Trie} (s : Inputs f w b n a c 0 0 p fuel t u) (op v : ℕ)
    (told : v ≡ rank (verdict (op_of op) (kind_of t) (kind_of u))) where
  pub leaves_none : v ≡ 0 → false ≡ not (is_none (op_on op fuel t u))
  leaves_none e = rw (answer-empty (op_on op fuel t u) (op-none s op v told e).answers)

  pub leaves-full : v ≡ 2 → true ≡ not (is_none (op_on op fuel t u))
  leaves-full e = rw (answer-full (op_on op fuel t u) (op-full s op v told e).answers)

pub deeper : {d : ℕ} (p : Bits) (x : Bool) → length p ≡ d → length (snoc p x) ≡ d + 1
deeper p x q = length-snoc p x ∙ ap (λ (k : ℕ). k + 1) q

-- The parts of the sources inside the network q.
pub down-inputs : {f : ℕ} {w : List ℕ} {b n a c fuel : ℕ} {t u : Trie} → Inputs f w b n a c 0 0 [] fuel t u → (q : Bits) (k : ℕ) → k ≡ length q → k < fuel
    → (x y : ℕ)
    → KeptMeans f w b n 0 0 q x (down q t) → KeptMeans f w b n 0 0 q y (down q u) → Inputs f w b n x y 0 0 q (fuel - k) (down q t) (down q u)
down-inputs {fuel = fuel} {t = t} {u = u} s q k en h x y m g = record {
  hold = s.hold;
  first = m;
  second = g;
  deep-t = rw en (levels-down q t fuel (omega arith) s.deep-t);
  deep-u = rw en (levels-down q u fuel (omega arith) s.deep-u);
  turn = omega arith;
  short = omega (arith, s.short);
}
