-- What each plan makes of the trie: its words and how many nodes it has, and the whole with one half changed. Assumes nothing.
use mathlib.Core.Bool.{Bool, true, false, not}
use mathlib.Core.List.{List, [], ◌∷◌, ◌++◌, append_assoc}
use mathlib.Core.Path.{◌≡◌, refl, sym, ap, ◌∙◌}
use Prim.Native.Nat.{ℕ, ◌+◌, ◌-◌, ◌*◌, ◌≤◌}
use native.Mathlib.Omega.{arith}
use borrow.Author.Tests.{eq-eqb, ne_eqb}
use lib.Dec.{eqb}
use lib.ListN.{length, length-append}
use Rattle.nets.specs.Bits.{Bits}
use Rattle.nets.specs.Tries.{Trie, none, node, bare, side, insert_t}
use Rattle.nets.specs.TrieOps.{rejoin, remove_t}
use Rattle.nodes.specs.Words.{put, Has}
use Rattle.nodes.proofs.Put.{put-before-at, put-behind-at}
use Rattle.nodes.proofs.Has.{has-front, has_same}
use Rattle.nodes.proofs.Tries.{some}
use Rattle.trie_paths.specs.Spans.{snoc}
use Rattle.branch_points.specs.KeptTries.{kept, kept_size}
use Rattle.kept_nodes.specs.Words.{stride, node_words, kept_enc, spot}
use Rattle.kept_nodes.proofs.Places.{spot_on, spot-next, length-node_words, length-kept_enc, kept_enc-none}
use Rattle.kept_nodes.proofs.Hung.{kept_enc-fork, kept_size-fork}
use Rattle.kept_steps.specs.Segments.{KeptSegment, KeptSpliced, own_size}
use Rattle.kept_steps.proofs.Halves.{behind, half-segment}
use Rattle.kept_plan.specs.Change.{change_t, Inside, Forks, Drops, Downs, half_in}
use Rattle.kept_acts.specs.Acts.{fork_words, drop_words, drop_size, linkable, relink_end, relinked}
use Rattle.kept_plan.proofs.Changed.{insert-some, chain-words, chain-size, change-inner, one-words, one_size, other-words, other-size, both_words, rejoin-words}

-- The halves of a trie that is no leaf: one of them, or both.
data Kinds (l r : Trie) : Type 0 where
  single : (c : Bool) → (side c r l ≡ none) → (side c l r ≡ none → ⊥) → kept l r ≡ false → Kinds l r
  double : (l ≡ none → ⊥) → (r ≡ none → ⊥) → kept l r ≡ true → Kinds l r

kinds : (l r : Trie) → bare l r ≡ false → Kinds l r
kinds none none e = let z : ◌≡◌ {A = ℕ} 0 1 = cc in absurd (omega arith)
kinds none (node x y) e = single true refl (some x y) refl
kinds (node x y) none e = single false refl (some x y) refl
kinds (node x y) (node z u) e = double (some x y) (some z u) refl

changed-is : {i a m : ℕ} {c : Bool} {r : Bits} {t : Trie} (x : Bool) (k : Inside i a m c r t)
    → change_t x r t ≡ rejoin c (change_t x k.later (side c k.branch.l k.branch.r)) (side c k.branch.r k.branch.l)
changed-is {c = c} x k = rw (k.bits, k.branch.is) (change-inner x c k.later k.branch.l k.branch.r k.branch.inner)

-- A network beside the trie, which has the other half only.
other-some : (c : Bool) (l r : Trie) → bare l r ≡ false → side c l r ≡ none → side c r l ≡ none → ⊥
other-some false none none e z y = let q : ◌≡◌ {A = ℕ} 0 1 = cc in absurd (omega arith)
other-some false none (node x y') e z y = some x y' y
other-some false (node x y') r e z y = some x y' z
other-some true none none e z y = let q : ◌≡◌ {A = ℕ} 0 1 = cc in absurd (omega arith)
other-some true (node x y') none e z y = some x y' y
other-some true l (node x y') e z y = some x y' z

whole_words : (f : ℕ) (p : Bits) (c : Bool) (l r : Trie) → side c l r ≡ none → (side c r l ≡ none → ⊥)
    → (kept_enc f p (node l r) ≡ kept_enc f (snoc p (not c)) (side c r l)) × (kept_size (node l r) ≡ kept_size (side c r l))
whole_words f p false l r z ne = rw z (kept_enc-fork f p true r ne, kept_size-fork true r ne)
whole_words f p true l r z ne = rw z (kept_enc-fork f p false l ne, kept_size-fork false l ne)

module _ (f : ℕ) (p : Bits) {i : ℕ} {c : Bool} {r : Bits} {t : Trie} (k : Forks i c r t) where
  abbrev beyond : Trie
  beyond = side c k.inside.branch.r k.inside.branch.l

  beyond-some : beyond ≡ none → ⊥
  beyond-some = other-some c k.inside.branch.l k.inside.branch.r k.inside.branch.inner k.empty

  trie-is : (kept_enc f p t ≡ kept_enc f (snoc p (not c)) beyond) × (kept_size t ≡ kept_size beyond)
  trie-is = rw k.inside.branch.is (whole_words f p c k.inside.branch.l k.inside.branch.r k.empty beyond-some)

  abbrev alone : Trie
  alone = insert_t k.inside.later none

  fork-is : insert_t r t ≡ rejoin c alone beyond
  fork-is = changed-is true k.inside ∙ rw k.empty

  pub fork-size : kept_size (insert_t r t) ≡ kept_size t + 2
  fork-size = rw fork-is (omega (arith, (rejoin-words f p c alone beyond (insert-some k.inside.later none) beyond-some).1, chain-size k.inside.later, trie-is.1))

  pub fork-words : kept_enc f p (insert_t r t) ≡ fork_words c f p (p ++ r) t
  fork-words = rw fork-is ((rejoin-words f p c alone beyond (insert-some k.inside.later none) beyond-some).0
      ∙ go c beyond trie-is.0 trie-is.1 (sym (ap (λ l. p ++ l) k.inside.bits) ∙ refl))
    where
      go : (c : Bool) (y : Trie) → kept_enc f p t ≡ kept_enc f (snoc p (not c)) y → kept_size t ≡ kept_size y → p ++ (c ∷ k.inside.later) ≡ p ++ r
          → node_words f p (1 + kept_size (side c y alone)) ++ (kept_enc f (snoc p true) (side c y alone) ++ kept_enc f (snoc p false) (side c alone y)) ≡ fork_words c f p (p ++ r) t
      go false y e q z =
          let o : kept_size t + 1 ≡ 1 + kept_size y = omega arith in
          rw (e, o, chain-words f (snoc p false) k.inside.later, ← z, append_assoc p (false ∷ []) k.inside.later)
      go true y e q z = rw (e, chain-size k.inside.later, chain-words f (snoc p true) k.inside.later, ← z, append_assoc p (true ∷ []) k.inside.later)

-- Without a half.
module _ (f : ℕ) (p : Bits) {i m : ℕ} {c : Bool} {r : Bits} {t : Trie} (k : Drops i c m r t) where
  abbrev l₀ : Trie
  l₀ = k.inside.branch.l

  abbrev r₀ : Trie
  r₀ = k.inside.branch.r

  pub drop-both : (l₀ ≡ none → ⊥) × (r₀ ≡ none → ⊥)
  drop-both = go (kinds l₀ r₀ k.inside.branch.inner)
    where
      go : Kinds l₀ r₀ → (l₀ ≡ none → ⊥) × (r₀ ≡ none → ⊥)
      go (single c z n e) = let q : i + 1 ≡ i + 0 = k.inside.branch.begins ∙ rw e in absurd (omega arith)
      go (double nl nr e) = (nl, nr)

  drop-is : remove_t r t ≡ rejoin c none (side c r₀ l₀)
  drop-is = changed-is false k.inside ∙ rw k.gone

  pub drop-size : kept_size (remove_t r t) ≡ drop_size c l₀ r₀
  drop-size = rw drop-is (other-size c (side c r₀ l₀))

  pub drop-words : kept_enc f p (remove_t r t) ≡ drop_words c f p l₀ r₀
  drop-words = rw drop-is (other-words f p c (side c r₀ l₀) ∙ go c)
    where
      go : (c : Bool) → kept_enc f (snoc p (not c)) (side c r₀ l₀) ≡ drop_words c f p l₀ r₀
      go true = refl
      go false = refl

-- One half is changed: y takes its place.
module _ (y : Trie) where
  half-size : (c : Bool) (l r : Trie) → bare l r ≡ false → (side c l r ≡ none → ⊥) → (kept l r ≡ true → y ≡ none → ⊥)
      → kept_size (rejoin c y (side c r l)) + kept_size (side c l r) ≡ kept_size (node l r) + kept_size y
  half-size c none none e ne st = let z : ◌≡◌ {A = ℕ} 0 1 = cc in absurd (omega arith)
  half-size false none (node a d) e ne st = absurd (ne refl)
  half-size true none (node a d) e ne st = omega (arith, one_size true y, kept_size-fork true (node a d) (some a d))
  half-size false (node a d) none e ne st = omega (arith, one_size false y, kept_size-fork false (node a d) (some a d))
  half-size true (node a d) none e ne st = absurd (ne refl)
  half-size false (node a d) (node g h) e ne st =
      omega (arith, (rejoin-words 0 [] false y (node g h) (st refl) (some g h)).1, (both_words 0 [] (node a d) (node g h) (some a d) (some g h)).1)
  half-size true (node a d) (node g h) e ne st =
      omega (arith, (rejoin-words 0 [] true y (node a d) (st refl) (some a d)).1, (both_words 0 [] (node a d) (node g h) (some a d) (some g h)).1)

  module _ (f : ℕ) (w v₁ v₂ : List ℕ) (b i a m e z : ℕ) (p : Bits) (rest : List ℕ) where
    -- the only half, which begins at node i
    only-splice : (c : Bool) → linkable c a i ≡ false → v₁ ≡ put w (spot f b i) (kept_enc f (snoc p c) y ++ rest) → z ≡ i + kept_size y → v₂ ≡ relinked f v₁ b i a z c p
        → KeptSpliced f w v₂ b i (relink_end c a i m e z) p (rejoin c y none) rest
    only-splice c lk h ez k = record {
      wrote = (rw lk at k) ∙ h ∙ rw (one-words f p c y);
      end = rw (lk, one_size c y) ez;
    }

    -- the second half of two
    second-splice : (l : Trie) → (l ≡ none → ⊥) → (y ≡ none → ⊥) → 1 ≤ i → a ≡ i + 1 → e ≡ m + kept_size l → v₁ ≡ put w (spot f b a) (kept_enc f (snoc p true) y ++ (kept_enc f (snoc p false) l ++ rest))
        → z ≡ a + kept_size y → v₂ ≡ relinked f v₁ b i a z true p → KeptSpliced f w v₂ b i (relink_end true a i m e z) p (rejoin true y l) rest
    second-splice l nl ny one ea em h ez k =
        let q = rejoin-words f p true y l ny nl in
        let lk : eqb a i ≡ false = ne_eqb a i (λ o. omega arith) in
        let d : z - i ≡ 1 + kept_size y = omega arith in
        let ws = node_words f p (1 + kept_size y) in
        let x : spot f b a ≡ spot f b i + length ws = rw (length-node_words f p (1 + kept_size y), ea) (sym (spot-next f b i one)) in
        record {
          wrote = (rw (lk, d) at k) ∙ rw (h, q.0) (put-before-at w (spot f b i) (spot f b a) ws (kept_enc f (snoc p true) y ++ (kept_enc f (snoc p false) l ++ rest)) x
              ∙ ap (put w (spot f b i)) (regroup ws (kept_enc f (snoc p true) y) (kept_enc f (snoc p false) l) rest));
          end = rw (lk, q.1) (omega arith);
        }
      where
        regroup : (a c d z : List ℕ) → a ++ (c ++ (d ++ z)) ≡ (a ++ (c ++ d)) ++ z
        regroup a c d z = simp append_assoc

    -- the first half of two
    first-splice : (l r : Trie) → (l ≡ none → ⊥) → (r ≡ none → ⊥) → (y ≡ none → ⊥) → 1 ≤ i → m ≡ i + 1 + kept_size r → Has w (spot f b i) (kept_enc f p (node l r) ++ rest)
        → v₁ ≡ put w (spot f b m) (kept_enc f (snoc p false) y ++ rest) → z ≡ m + kept_size y → v₂ ≡ relinked f v₁ b i a z false p
        → KeptSpliced f w v₂ b i (relink_end false a i m e z) p (rejoin false y r) rest
    first-splice l r nl nr ny one em has h ez k =
        let q = rejoin-words f p false y r ny nr in
        let ws = node_words f p (1 + kept_size r) in
        let s = kept_enc f (snoc p true) r in
        let o = (both_words f p l r nl nr).0 in
        let g : Has w (spot f b i) (ws ++ s) = has-front (ws ++ s) (kept_enc f (snoc p false) l ++ rest) (rw (o, regroup ws s (kept_enc f (snoc p false) l) rest) at has) in
        let x : spot f b m ≡ spot f b i + length (ws ++ s) = rw (length-append ws s, length-node_words f p (1 + kept_size r), length-kept_enc f (snoc p true) r) (places r em one) in
        let t = kept_enc f (snoc p false) y in
        record {
          wrote = k ∙ h ∙ sym (rw (q.0, regroup ws s t rest) (sym (put-behind-at w (spot f b i) (spot f b m) (ws ++ s) (t ++ rest) x) ∙ rw (has_same g)));
          end = rw q.1 (omega arith);
        }
      where
        regroup : (a c d z : List ℕ) → (a ++ (c ++ d)) ++ z ≡ (a ++ c) ++ (d ++ z)
        regroup a c d z = simp append_assoc

        places : (r : Trie) → m ≡ i + 1 + kept_size r → 1 ≤ i → spot f b m ≡ spot f b i + (stride f + stride f * kept_size r)
        places r em one = rw (em, ← spot_on f b (i + 1) (kept_size r) (omega arith), ← spot-next f b i one) (omega arith)

  half-splice : {f : ℕ} {w v₁ v₂ : List ℕ} {b i a m e z : ℕ} {p : Bits} {rest : List ℕ} (c : Bool) (l r : Trie) → 1 ≤ i → bare l r ≡ false → (side c l r ≡ none → ⊥)
      → (kept l r ≡ true → y ≡ none → ⊥) → a ≡ i + own_size l r → m ≡ a + kept_size r → e ≡ i + kept_size (node l r) → Has w (spot f b i) (kept_enc f p (node l r) ++ rest)
      → v₁ ≡ put w (spot f b (side c m a)) (kept_enc f (snoc p c) y ++ side c rest (kept_enc f (snoc p false) l ++ rest)) → z ≡ side c m a + kept_size y → v₂ ≡ relinked f v₁ b i a z c p
      → KeptSpliced f w v₂ b i (relink_end c a i m e z) p (rejoin c y (side c r l)) rest
  unfolding kept_size
  half-splice c none none one bl ne st ea em ee has h ez k = let z : ◌≡◌ {A = ℕ} 0 1 = cc in absurd (omega arith)
  half-splice false none (node x d) one bl ne st ea em ee has h ez k = absurd (ne refl)
  half-splice {f} {w} {v₁} {v₂} {b} {i} {a} {m} {e} {z} {p} {rest} true none (node x d) one bl ne st ea em ee has h ez k =
      let q : a ≡ i = omega arith in
      only-splice f w v₁ v₂ b i a m e z p rest true (rw (eq-eqb a i q)) (rw (q, kept_enc-none f (snoc p false)) at h) (rw q at ez) k
  half-splice {f} {w} {v₁} {v₂} {b} {i} {a} {m} {e} {z} {p} {rest} false (node x d) none one bl ne st ea em ee has h ez k =
      let q : m ≡ i = omega arith in
      only-splice f w v₁ v₂ b i a m e z p rest false refl (rw q at h) (rw q at ez) k
  half-splice true (node x d) none one bl ne st ea em ee has h ez k = absurd (ne refl)
  half-splice {f} {w} {v₁} {v₂} {b} {i} {a} {m} {e} {z} {p} {rest} false (node x d) (node s t) one bl ne st ea em ee has h ez k =
      first-splice f w v₁ v₂ b i a m e z p rest (node x d) (node s t) (some x d) (some s t) (st refl) one (omega arith) has h ez k
  half-splice {f} {w} {v₁} {v₂} {b} {i} {a} {m} {e} {z} {p} {rest} true (node x d) (node s t) one bl ne st ea em ee has h ez k =
      second-splice f w v₁ v₂ b i a m e z p rest (node x d) (some x d) (st refl) one ea (omega arith) h ez k

-- The same of the plan.
module _ {f : ℕ} {w : List ℕ} {b n i e u a m : ℕ} {p : Bits} {t : Trie} {rest : List ℕ} (g : KeptSegment f w b n i e u p t rest) {c : Bool} {r : Bits} {x : Bool}
    (k : Downs i a m c r x t) where
  abbrev pub half : Trie
  half = half_in c k.inside.branch

  abbrev pub made : Trie
  made = change_t x k.inside.later half

  pub half-here : KeptSegment f w b n (side c m a) (side c e m) u (snoc p c) half (behind g k.inside.branch c)
  half-here = half-segment g k.inside.branch c

  stays_two : kept k.inside.branch.l k.inside.branch.r ≡ true → made ≡ none → ⊥
  stays_two h = k.stays (λ q. let z = rw h at k.inside.branch.begins in omega arith)

  pub down-size : kept_size (change_t x r t) + kept_size half ≡ kept_size t + kept_size made
  down-size =
      let o = k.inside.branch in
      rw (changed-is x k.inside, ap kept_size o.is) (half-size made c o.l o.r o.inner k.some stays_two)

  pub down-spliced : {v₁ v₂ : List ℕ} {z : ℕ} → KeptSpliced f w v₁ b (side c m a) z (snoc p c) made (behind g k.inside.branch c) → v₂ ≡ relinked f v₁ b i a z c p
      → KeptSpliced f w v₂ b i (relink_end c a i m e z) p (change_t x r t) rest
  down-spliced d h =
      let o = k.inside.branch in
      let q : e ≡ i + kept_size (node o.l o.r) = g.end ∙ ap (λ y. i + kept_size y) o.is in
      let y : Has w (spot f b i) (kept_enc f p (node o.l o.r) ++ rest) = rw o.is at g.has in
      rw (changed-is x k.inside) (half-splice made c o.l o.r g.one o.inner k.some stays_two o.begins o.middle q y d.wrote d.end h)
