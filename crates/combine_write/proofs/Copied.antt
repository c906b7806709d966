-- A copy: excluding nothing leaves a trie as it is. It stands where its number says, and its words are those from there on. Assumes nothing.
use mathlib.Core.Bool.{true}
use mathlib.Core.List.{List}
use mathlib.Core.Path.{◌≡◌, refl, sym, ap, ◌∙◌}
use Prim.Native.Nat.{ℕ, ◌+◌, ◌≤◌, ◌<◌}
use native.Mathlib.Omega.{arith}
use lib.Dec.{eqb, ltb}
use lib.ListN.{length, take, drop}
use borrow.Author.Tests.{eqb-true}
use Rattle.nets.specs.Lists.{exclude_l}
use Rattle.nets.specs.Tries.{Trie, none, node, size, levels, list_of, trie_of}
use Rattle.nets.specs.TrieOps.{except_t}
use Rattle.nets.proofs.Excluding.{list_of-except}
use Rattle.nets.proofs.Strings.{cond_both, and_left, and_right}
use Rattle.nets.proofs.TrieOf.{trie_of-list_of}
use Rattle.nodes.specs.Words.{put, place, enc}
use Rattle.nodes.proofs.Has.{has-seg}
use Rattle.nodes.proofs.Tries.{length-enc}
use Rattle.trie_emit.specs.Combine.{op_on, Means, nothing, everything, standing}
use Rattle.trie_emit.proofs.Combine.{op_on-except}
use Rattle.pool_state.specs.Steps.{behind_at, spot_by}
use Rattle.pool_state.specs.declared.Survey.{Survey}
use Rattle.combine_write.specs.Steps.{is_copy, Reads, ResultFits, with_result}
use Rattle.combine_sources.specs.Steps.{moved_to}
use Rattle.combine_sources.specs.declared.Sources.{Sources}
use Rattle.combine_write.proofs.Gaps.{opened-length, means-moved}

except-none : (k : ℕ) (t : Trie) → levels t ≤ k → except_t k t none ≡ t
unfolding exclude_l list_of levels
except-none k t h = sym (trie_of-list_of (except_t k t none)) ∙ ap trie_of (list_of-except k t none h (omega arith)) ∙ trie_of-list_of t

moved_to-le : (o n i : ℕ) → moved_to o n i ≤ i + n
moved_to-le o n i = cond_both (λ x. x ≤ i + n) (ltb i o) i (i + n) (omega arith) (omega arith)

-- What a number means.
module _ {w : List ℕ} {b o g : ℕ} where
  means-none : (i : ℕ) (t : Trie) → Means w b o g i t → i ≡ 0 → t ≡ none
  means-none i t nothing e = refl
  means-none i t everything e = absurd (omega arith)
  means-none i t (standing h) e = absurd (omega (arith, h.one))

  means-words : (i : ℕ) (t : Trie) → Means w b o g i t → i < 4294967295 → b ≤ length w → (place b i + size t ≤ length w) × (take (size t) (drop (place b i) w) ≡ enc t)
  unfolding size enc
  means-words i t nothing lt le = (omega arith, refl)
  means-words i t everything lt le = absurd (omega arith)
  means-words i t (standing {l = l} {r = r} h) lt le =
      let n = length-enc (node l r) in
      (omega (arith, h.has.fits), rw (← n) (has-seg h.has))

-- the operation leaves its first source as it is
module _ {w : List ℕ} {s : Sources} {v : Survey} {t u : Trie} (h : Reads w s v t u) where
  pub copied : (op : ℕ) → is_copy op s ≡ true → op_on op s.levels t u ≡ t
  copied op c =
      let e = eqb-true op 3 (and_left (eqb op 3) (eqb s.second 0) c) in
      let z = means-none s.second u h.inputs.second (eqb-true s.second 0 (and_right (eqb op 3) (eqb s.second 0) c)) in
      rw (e, z) (op_on-except s.levels t none ∙ except-none s.levels t h.inputs.deep-t)

-- The words, once the gap is opened.
module _ {w : List ℕ} {op : ℕ} {s : Sources} {v : Survey} {n : ℕ} {t u : Trie} (h : ResultFits w op s v n t u) {z : List ℕ} (e : z ≡ put w (spot_by 1 s.base (v.at + n)) (behind_at 1 w s.base v))
    (c : is_copy op s ≡ true) {i : ℕ} (q : i ≡ moved_to v.at n s.first) where
  there : Means z s.base v.at (v.at + n) i t
  there = rw q (means-moved h e s.first t h.reads.inputs.first h.reads.whole-t)

  same_size : size t ≡ n
  same_size = ap size (sym (copied h.reads op c)) ∙ h.size

  words : (place s.base i + size t ≤ length z) × (take (size t) (drop (place s.base i) z) ≡ enc t)
  words = means-words i t there (omega (arith, q, moved_to-le v.at n s.first)) (rw (opened-length h e) (omega arith))

  pub copy-asks : (i ≡ 0 → n ≡ 0) × ((1 ≤ v.at) × ((place s.base i + n ≤ length z) × (place s.base v.at + n ≤ length z)))
  unfolding size
  copy-asks = (λ o. sym same_size ∙ ap size (means-none i t there o), (h.gap.first, (omega (arith, same_size, words.0), rw (opened-length h e) (omega arith))))

  pub copy-wrote : {r : List ℕ} → r ≡ put z (place s.base v.at) (take n (drop (place s.base i) z)) → r ≡ with_result w op s v n t u
  copy-wrote d =
      let y : take n (drop (place s.base i) z) ≡ enc t = rw same_size at words.1 in
      d ∙ rw (y, copied h.reads op c, e)
