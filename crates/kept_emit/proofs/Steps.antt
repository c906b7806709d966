-- One step of a set operation in the second form: how large a result is, what its sources mean after a write, and the halves put together. Assumes nothing.
use mathlib.Core.Path.{◌≡◌, refl, sym, ◌∙◌}
use mathlib.Core.Bool.{Bool, true, false, cond}
use mathlib.Core.List.{List}
use mathlib.Core.Logic.{inl, inr, ⊎_elim}
use Prim.Native.Nat.{ℕ, ◌+◌, ◌-◌, ◌*◌, ◌≤◌, ◌<◌, ◌^◌}
use native.Mathlib.Omega.{arith}
use lib.ListN.{length}
use Rattle.nets.specs.Bits.{Bits}
use Rattle.nets.specs.Tries.{Trie, none, node, leaf, size, glue}
use Rattle.nets.specs.TrieOps.{flat, mixed, kind_of, verdict, half}
use Rattle.nets.specs.Networks.{width, net_from}
use Rattle.nets.proofs.Glue.{levels-half}
use Rattle.nets.proofs.Numbers.{width-le}
use Rattle.nets.proofs.Operate.{flat≢mixed, verdict-levels}
use Rattle.nodes.specs.Words.{put, Apart}
use Rattle.nodes.proofs.Put.{length-put, put-nil}
use Rattle.nodes.proofs.Has.{has-put}
use Rattle.trie_emit.specs.Combine.{op_of, joined, op_on, rank}
use Rattle.trie_emit.proofs.Answers.{by_kind, by-glue, length-body}
use Rattle.trie_emit.proofs.Combine.{size-op, rank-flat, rank-mixed, step-flat, step-mixed}
use Rattle.trie_paths.specs.Spans.{snoc}
use Rattle.trie_paths.proofs.Paths.{length-snoc}
use Rattle.branch_points.specs.KeptTries.{kept_size}
use Rattle.branch_points.proofs.Sizes.{kept_size-halves, size-deep}
use Rattle.branch_points.proofs.Counts.{kept_size-le}
use Rattle.kept_nodes.specs.Words.{stride, kept_enc, spot}
use Rattle.kept_nodes.specs.Parse.{KeptRoom}
use Rattle.kept_nodes.proofs.Places.{spot_on, spot-le, spot-end, length-kept_enc, room-put}
use Rattle.kept_sources.specs.Sources.{KeptHere, KeptMeans, nothing, everything, standing}
use Rattle.kept_emit.specs.Answers.{said, answer, body, Emits, size_of, Both, Pending}
use Rattle.kept_emit.specs.Combine.{Inputs, KeptGap}
use Rattle.trie_emit.specs.declared.emitting.Emitted.{Emitted}
use Rattle.trie_emit.specs.declared.emitting.Emitted.TheVariants.{Empty, Full}
use Rattle.kept_emit.proofs.Answered.{size_is}

module _ {f : ℕ} {w : List ℕ} {b n o e : ℕ} {p : Bits} where
  means-size : n ≤ 4194304 → (i : ℕ) (t : Trie) → KeptMeans f w b n o e p i t → size t ≤ 541065216
  unfolding size
  means-size few i t nothing = omega arith
  means-size few i t everything = omega arith
  means-size few i t (standing {l = l} {r = r} h) = omega (arith, h.stands.within, h.one, size-deep (node l r) 129 (omega (arith, h.stands.deep, width-le f)))

  means-narrow : (e' : ℕ) → e' ≤ e → (i : ℕ) (t : Trie) → KeptMeans f w b n o e p i t → KeptMeans f w b n o e' p i t
  means-narrow e' le i t nothing = nothing
  means-narrow e' le i t everything = everything
  means-narrow e' le i t (standing h) = standing (record { stands = h.stands; one = h.one; clear = ⊎_elim (λ q. inl q) (λ q. inr (omega arith)) h.clear })

  -- m nodes written from node q on, within the gap, leave what is apart from it
  apart_words : (q m i : ℕ) (ys : List ℕ) (t : Trie) → 1 ≤ q → o ≤ q → q + m ≤ e → length ys ≤ stride f * m → KeptHere f w b n o e p i t
      → Apart (spot f b i) (length (kept_enc f p t)) (spot f b q) (length ys)
  apart_words q m i ys t one le fit small h k a c d x = ⊎_elim
      (λ z. omega (arith, length-kept_enc f p t, spot_on f b i (kept_size t) h.one, spot-le f b (i + kept_size t) q (omega arith)))
      (λ z. omega (arith, spot_on f b q m one, spot-le f b (q + m) i (omega arith)))
      h.clear

  means-put : (q m : ℕ) (ys : List ℕ) → 1 ≤ q → o ≤ q → q + m ≤ e → length ys ≤ stride f * m → (i : ℕ) (t : Trie) → KeptMeans f w b n o e p i t
      → KeptMeans f (put w (spot f b q) ys) b n o e p i t
  means-put q m ys one le fit small i t nothing = nothing
  means-put q m ys one le fit small i t everything = everything
  means-put q m ys one le fit small i t (standing {i = j} {l = l} {r = r} h) = standing (record {
    stands = record {
      deep = h.stands.deep;
      within = h.stands.within;
      has = has-put (spot f b q) ys h.stands.has (apart_words q m j ys
          (node l r) one le fit small h);
    };
    one = h.one;
    clear = h.clear;
  })

-- what a result leaves of a source that is apart from it
module _ {f : ℕ} {w : List ℕ} {b n o e : ℕ} {p : Bits} where
  means-stay : (p' : Bits) (x : Trie) → 1 ≤ o → (kind_of x ≡ mixed → o + kept_size x ≤ e) → (i : ℕ) (t : Trie) → KeptMeans f w b n o e p i t
      → KeptMeans f (put w (spot f b (e - kept_size x)) (body f p' x)) b n o (e - kept_size x) p i t
  unfolding body
  means-stay p' x one fit i t m = means-narrow (e - kept_size x) (omega arith) i t
      (by_kind (λ x. (kind_of x ≡ mixed → o + kept_size x ≤ e) → KeptMeans f (put w (spot f b (e - kept_size x)) (body f p' x)) b n o e p i t)
      (λ h. rw (put-nil w (spot f b (e - kept_size none))) m) (λ h. rw (put-nil w (spot f b (e - kept_size leaf))) m)
      (λ l r h g. rw h
      (means-put (e - kept_size (node l r)) (kept_size (node l r)) (kept_enc f p' (node l r)) (omega (arith, g (rw h))) (omega (arith, g (rw h))) (omega (
        arith,
        g
            (rw h),
      )) (omega (arith, length-kept_enc f p' (node l r))) i t m)) x fit)

-- where there is room for a trie there is for its halves
fits-glue : (j : Bool) (o e : ℕ) → 1 ≤ o → (l r : Trie) → (kind_of (glue j l r) ≡ mixed → o + kept_size (glue j l r) ≤ e)
    → (kind_of l ≡ mixed → o + kept_size l ≤ e) × (kind_of r ≡ mixed → o + kept_size r ≤ e - kept_size l) × (kind_of (glue j l r) ≡ mixed → kept_size (glue j l r) < e)
fits-glue j o e one = by-glue (λ l r t. (kind_of t ≡ mixed → o + kept_size t ≤ e) → (kind_of l ≡ mixed → o + kept_size l ≤ e) × (kind_of r ≡ mixed
    → o + kept_size r ≤ e - kept_size l) × (kind_of t ≡ mixed → kept_size t < e)) j
    (λ f. (λ h. absurd (flat≢mixed false h), λ h. absurd (flat≢mixed false h), λ h. absurd (flat≢mixed false h)))
    (λ q f. (λ h. absurd (flat≢mixed true h), λ h. absurd (flat≢mixed true h), λ h. absurd (flat≢mixed true h)))
    (λ l r h f. let n = f (rw h) in (λ q. omega (arith, kept_size-halves l r), λ q. omega (arith, kept_size-halves l r), λ q. omega arith))

-- One step.
emits-flat : (f : ℕ) (w : List ℕ) (b : ℕ) (p : Bits) (e : ℕ) (x : Bool) → Emits f w w b p e (said (flat x) 0) (cond x leaf none)
unfolding answer body
emits-flat f w b p e true = record { answers = refl; wrote = sym (put-nil w (spot f b (e - kept_size leaf))) }
emits-flat f w b p e false = record { answers = refl; wrote = sym (put-nil w (spot f b (e - kept_size none))) }

module _ {f : ℕ} {w : List ℕ} {b n a c o e : ℕ} {p : Bits} {fuel : ℕ} {t u : Trie} (s : Inputs f w b n a c o e p fuel t u) (op v : ℕ) (told : v ≡ rank (verdict
    (op_of op) (kind_of t) (kind_of u))) where
  op-flat : (x : Bool) → v ≡ rank (flat x) → Emits f w w b p e (said (flat x) 0) (op_on op fuel t u)
  op-flat x q = rw (step-flat (joined op) (op_of op) t u fuel s.turn x (rank-flat _ x (sym told ∙ q))) (emits-flat f w b p e x)

  pub op-none : v ≡ 0 → Emits f w w b p e Empty (op_on op fuel t u)
  op-none = op-flat false

  pub op-full : v ≡ 2 → Emits f w w b p e Full (op_on op fuel t u)
  op-full = op-flat true

  pub op-mixed : (v ≡ 0 → ⊥) → (v ≡ 2 → ⊥) → verdict (op_of op) (kind_of t) (kind_of u) ≡ mixed
  op-mixed nz nf = rank-mixed _ (λ q. nz (told ∙ q)) (λ q. nf (told ∙ q))

pub record Halving (f : ℕ) (w : List ℕ) (b n op a c o e : ℕ) (p : Bits) (fuel : ℕ) (t u : Trie) (al cl ar cr : ℕ) : Type 0 where
  pub src : Inputs f w b n a c o e p fuel t u
  pub mixes : verdict (op_of op) (kind_of t) (kind_of u) ≡ mixed
  pub left : KeptMeans f w b n o e (snoc p false) al (half false t) × KeptMeans f w b n o e (snoc p false) cl (half false u)
  pub right : KeptMeans f w b n o e (snoc p true) ar (half true t) × KeptMeans f w b n o e (snoc p true) cr (half true u)

pub halving : {f : ℕ} {w : List ℕ} {b n a c o e : ℕ} {p : Bits} {fuel : ℕ} {t u : Trie} {al cl ar cr : ℕ} → Inputs f w b n a c o e p fuel t u → (op v : ℕ)
    → v ≡ rank (verdict (op_of op) (kind_of t) (kind_of u)) → (v ≡ 0 → ⊥) → (v ≡ 2 → ⊥)
    → KeptMeans f w b n o e (snoc p false) al (half false t) × KeptMeans f w b n o e (snoc p false) cl (half false u)
    → KeptMeans f w b n o e (snoc p true) ar (half true t) × KeptMeans f w b n o e (snoc p true) cr (half true u) → Halving f w b n op a c o e p fuel t u al cl ar cr
halving s op v told nz nf l r = record { src = s; mixes = op-mixed s op v told nz nf; left = l; right = r }

module _ {f : ℕ} {w : List ℕ} {b n op a c o e : ℕ} {p : Bits} {fuel : ℕ} {t u : Trie} {al cl ar cr : ℕ} (d : Halving f w b n op a c o e p fuel t u al cl ar cr) where
  deeper : 1 ≤ fuel - 1
  deeper = let turn = d.src.turn in verdict-levels (op_of op) (fuel - 1) t u d.mixes (omega (arith, d.src.deep-t)) (omega (arith, d.src.deep-u))

  pub inside : length p < width f
  inside = omega (arith, deeper, d.src.short)

  abbrev part : Bool → Trie
  part s = op_on op (fuel - 1) (half s t) (half s u)

  step : op_on op fuel t u ≡ glue (joined op) (part false) (part true)
  step = step-mixed (joined op) (op_of op) t u fuel d.src.turn d.mixes

  part-size : (s : Bool) (i k : ℕ) → KeptMeans f w b n o e (snoc p s) i (half s t) × KeptMeans f w b n o e (snoc p s) k (half s u) → kept_size (part s) < 2 ^ 60
  part-size s i k m =
      omega (
        arith,
        kept_size-le (part s),
        size-op (joined op) (op_of op) (fuel - 1) (half s t) (half s u),
        length-body (half s t),
        length-body (half s u),
        means-size
            d.src.hold.few i (half s t) m.0,
        means-size d.src.hold.few k (half s u) m.1,
      )

  half-inputs : (w₁ : List ℕ) → KeptRoom f w₁ b n → (e₁ : ℕ) (s : Bool) (i k : ℕ)
      → KeptMeans f w₁ b n o e₁ (snoc p s) i (half s t) × KeptMeans f w₁ b n o e₁ (snoc p s) k (half s u)
      → Inputs f w₁ b n i k o e₁ (snoc p s) (fuel - 1) (half s t) (half s u)
  half-inputs w₁ hold e₁ s i k m =
      let turn = d.src.turn in
      record {
        hold = hold;
        first = m.0;
        second = m.1;
        deep-t = levels-half s t (fuel - 1) (omega (arith, d.src.deep-t)) deeper;
        deep-u = levels-half s u (fuel - 1) (omega (arith, d.src.deep-u)) deeper;
        turn = deeper;
        short = omega (arith, d.src.short, length-snoc p s);
      }

  pub left-inputs : Inputs f w b n al cl o e (snoc p false) (fuel - 1) (half false t) (half false u)
  left-inputs = half-inputs w d.src.hold e false al cl d.left

  pub right-inputs : Inputs f w b n ar cr o e (snoc p true) (fuel - 1) (half true t) (half true u)
  right-inputs = half-inputs w d.src.hold e true ar cr d.right

  both : (x y : Emitted) → x ≡ answer (part false) → y ≡ answer (part true) → Both x y (part false) (part true)
  both x y ex ey = record { first = ex; second = ey; small = omega (arith, part-size false al cl d.left, part-size true ar cr d.right) }

  -- with nothing written
  module _ (x y : Emitted)
      (hl : (o₁ e₁ : ℕ) (q : Bits) (v z : Trie) → length q ≡ length p + 1 → Inputs f w b n al cl o₁ e₁ q (fuel - 1) v z → x ≡ answer (op_on op (fuel - 1) v z))
      (hr : (o₁ e₁ : ℕ) (q : Bits) (v z : Trie) → length q ≡ length p + 1 → Inputs f w b n ar cr o₁ e₁ q (fuel - 1) v z → y ≡ answer (op_on op (fuel - 1) v z)) where
    pub foreseen-both : Both x y (part false) (part true)
    foreseen-both = both x y (hl o e (snoc p false) (half false t) (half false u) (length-snoc p false) left-inputs) (hr o e (snoc p true) (half true t)
        (half true u) (length-snoc p true) right-inputs)

    pub foreseen : (z : Emitted) → ((v n : Trie) → Both x y v n → z ≡ answer (glue (joined op) v n)) → z ≡ answer (op_on op fuel t u)
    foreseen z k = rw step (k (part false) (part true) foreseen-both)

  -- written: the first half, then the second
  module _ (g : KeptGap n o e (op_on op fuel t u)) where
    fits : (kind_of (part false) ≡ mixed → o + kept_size (part false) ≤ e) × (kind_of (part true) ≡ mixed
        → o + kept_size (part true) ≤ e - kept_size (part false)) × (kind_of (glue (joined op) (part false) (part true)) ≡ mixed
        → kept_size (glue (joined op) (part false) (part true)) < e)
    fits = fits-glue (joined op) o e g.one (part false) (part true) (rw (← step) g.fits)

    ended : kind_of (glue (joined op) (part false) (part true)) ≡ mixed → spot f b e ≤ length w
    ended h = omega (arith, d.src.hold.long, spot-end f b n e g.room)

    pub left-gap : KeptGap n o e (part false)
    left-gap = record { one = g.one; fits = fits.0; room = g.room }

    module _ (w₁ : List ℕ) (x : Emitted) (m : ℕ) (done : Emits f w w₁ b (snoc p false) e x (part false)) (start : m ≡ e - size_of x) where
      middle : m ≡ e - kept_size (part false)
      middle = start ∙ rw (size_is x (part false) done.answers)

      stays : (i : ℕ) (v : Trie) → KeptMeans f w b n o e (snoc p true) i v → KeptMeans f w₁ b n o m (snoc p true) i v
      stays i v n = rw (done.wrote, middle) (means-stay (snoc p false) (part false) g.one fits.0 i v n)

      pub rest-inputs : Inputs f w₁ b n ar cr o m (snoc p true) (fuel - 1) (half true t) (half true u)
      rest-inputs = half-inputs w₁ (rw done.wrote (room-put (spot f b (e - kept_size (part false))) (body f (snoc p false) (part false))
          d.src.hold)) m true ar cr (stays ar (half true t) d.right.0, stays cr (half true u) d.right.1)

      same : length w₁ ≡ length w
      same = rw done.wrote (length-put w (spot f b (e - kept_size (part false))) (body f (snoc p false) (part false)))

      pub rest-gap : KeptGap n o m (part true)
      rest-gap = record { one = g.one; fits = rw middle fits.1; room = omega (arith, g.room, middle) }

      module _ (w₂ : List ℕ) (y : Emitted) (done₂ : Emits f w₁ w₂ b (snoc p true) m y (part true)) where
        pub pending : Pending f w w₂ b (joined op) p e x y (part false) (part true)
        pending =
            let len : length w₂ ≡ length w = rw done₂.wrote (length-put w₁ (spot f b (m - kept_size (part true))) (body f (snoc p true) (part true)) ∙ same) in
            record {
              both = both x y done.answers done₂.answers;
              wrote = rw (done₂.wrote, done.wrote, middle);
              short = inside;
              room = λ h. (rw len (ended h), fits.2 h, omega (arith, g.room, d.src.hold.few), omega (arith, d.src.hold.low));
            }

        pub emitted : (w₃ : List ℕ) (z : Emitted) → ((v : List ℕ) (q : Bits) (h k : Trie) → net_from f p ≡ net_from f q → Pending f v w₂ b (joined op) q e x y h k
            → Emits f v w₃ b q e z (glue (joined op) h k)) → Emits f w w₃ b p e z (op_on op fuel t u)
        emitted w₃ z k = rw step (k w p (part false) (part true) refl pending)
