-- At most one trie stands at a node below a string, and no encoding is the start of another. Assumes nothing.
use mathlib.Core.Path.{◌≡◌, refl, sym, ap, ◌∙◌}
use mathlib.Core.List.{List, [], ◌++◌}
use Prim.Native.Nat.{ℕ, suc, ◌+◌, ◌*◌, ◌≤◌}
use native.Mathlib.Nat.{zero-add}
use native.Mathlib.Omega.{arith}
use lib.ListN.{length, drop, length-append, get_or-append}
use lib.Seq.{drop_at}
use Rattle.nets.specs.Bits.{Bits}
use Rattle.nets.specs.Tries.{Trie, none, levels}
use Rattle.nets.specs.Networks.{width}
use Rattle.nodes.specs.Parse.{Read, bad, ok}
use Rattle.nodes.proofs.Has.{has-at}
use Rattle.branch_points.specs.KeptTries.{kept_size}
use Rattle.kept_nodes.specs.Words.{stride, kept_enc}
use Rattle.kept_nodes.specs.Parse.{KeptRoom, kept_parse, kept_after, KeptStands}
use Rattle.kept_nodes.proofs.Places.{spot-first, length-kept_enc}
use Rattle.kept_nodes.proofs.Parsed.{parse-of, stands}

pub unique : {f : ℕ} {w : List ℕ} {b n : ℕ} {p : Bits} {i : ℕ} {t u : Trie} → 1 ≤ i → (t ≡ none → ⊥) → (u ≡ none → ⊥) → KeptStands f w b n p i t
    → KeptStands f w b n p i u → t ≡ u
unique {f} {w} {b} {n} {p} {i} {t} {u} pos nt nu s r =
    let x = parse-of f w b n t (suc (width f)) p i pos nt (omega arith) s in
    let y = parse-of f w b n u (suc (width f)) p i pos nu (omega arith) r in
    cc

start_of : (f n : ℕ) (p : Bits) (t : Trie) (x : List ℕ) → length p + levels t ≤ suc (width f) → kept_size t ≤ n → KeptStands f (kept_enc f p t ++ x) 0 n p 1 t
start_of f n p t x d le = record {
  deep = d;
  within = omega arith;
  has = has-at (sym (spot-first f 0)) (record {
    fits = omega (arith, length-append (kept_enc f p t) x);
    at = λ k l. rw (zero-add k) (get_or-append
        (kept_enc f p t) x 0 k l);
  });
}

pub prefix-free : (f : ℕ) (p : Bits) (t u : Trie) (x y : List ℕ) → length p + levels t ≤ suc (width f) → length p + levels u ≤ suc (width f) → (t ≡ none → ⊥)
    → (u ≡ none → ⊥)
    → kept_enc f p t ++ x ≡ kept_enc f p u ++ y → (t ≡ u) × (x ≡ y)
prefix-free f p t u x y dt du nt nu e =
    let n = kept_size t + kept_size u in
    let same : t ≡ u = unique (omega arith) nt nu (start_of f n p t x dt (omega arith)) (rw (← e) at (start_of f n p u y du (omega arith))) in (
      same,
      sym (drop_at (kept_enc f p t) x (stride f * kept_size t) (length-kept_enc f p t)) ∙ ap (drop (stride f * kept_size t)) e
          ∙ rw same (drop_at (kept_enc f p u) y (stride f * kept_size u) (length-kept_enc f p u)),
    )

-- the check's answer r as a fact of the words alone: no 0 says which trie stands there, and 0 that none does
got : (i r : ℕ) (x : Read) → r ≡ kept_after i x → (r ≡ 0 → ⊥) → (t : Trie) × (x ≡ ok t) × (r ≡ i + kept_size t)
unfolding kept_after
got i r bad h ne = absurd (ne h)
got i r (ok t) h ne = (t, refl, h)

module _ (f : ℕ) (w : List ℕ) (b n i : ℕ) (pos : 1 ≤ i) where
  pub answer-some : KeptRoom f w b n → (r : ℕ) → r ≡ kept_after i (kept_parse f w b n (suc (width f)) [] i) → (r ≡ 0 → ⊥)
      → (t : Trie) × KeptStands f w b n [] i t × (r ≡ i + kept_size t)
  answer-some room r e ne =
      let g = got i r (kept_parse f w b n (suc (width f)) [] i) e ne in
      (g.0, (stands room (suc (width f)) [] i g.0 pos g.1).0, g.2)

  pub answer-none : (t : Trie) → 0 ≡ kept_after i (kept_parse f w b n (suc (width f)) [] i) → (t ≡ none → ⊥) → KeptStands f w b n [] i t → ⊥
  unfolding kept_after
  answer-none t e ne s =
      let h : 0 ≡ i + kept_size t = rw (parse-of f w b n t (suc (width f)) [] i pos ne (omega arith) s) at e in
      omega arith
