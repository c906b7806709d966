-- Writing the rest of a network's path. The loop's invariant: what is still to be written completes it. Assumes nothing.
use mathlib.Core.Path.{◌≡◌, refl, sym, ap, ◌∙◌}
use mathlib.Core.Bool.{Bool, false}
use mathlib.Core.List.{List, [], ◌∷◌}
use mir.Val.{bool_byte}
use Prim.Native.Nat.{ℕ, ◌+◌, ◌-◌, ◌*◌, ◌≤◌, ◌<◌}
use native.Mathlib.Numerals.{add-one}
use native.Mathlib.Omega.{arith}
use native.Mathlib.Decide.{dec_lt}
use lib.ListN.{length, get_or, drop, set, length-take, length-set}
use lib.Seq.{drop-cons, drop-length, get_or-take, get_or-set_same, get_or-set_other}
use Rattle.nets.specs.Bits.{bits}
use Rattle.nets.specs.Networks.{width, address, net_bits}
use Rattle.nets.specs.declared.Net.{Net}
use Rattle.nets.proofs.Numbers.{length-bits, width-le}
use Rattle.nodes.specs.Words.{put, place, enc, chain}
use Rattle.nodes.proofs.Put.{length-put}
use Rattle.nodes.proofs.Chains.{chain-step, chain-end}
use Rattle.setfile_order.specs.declared.Head.{Head}
use Rattle.setfile_build.specs.Building.{Chains, Chained, Appends, Appended}

-- The nodes from depth d up to depth k are written and noted, and those from node i on complete the path.
pub record Chaining (w₀ w : List ℕ) (b e : ℕ) (n : Net) (d : ℕ) (p₀ p : List ℕ) (k i : ℕ) : Type 0 where
  pub low : d ≤ k
  pub high : k ≤ n.len
  pub at : i ≡ e + (k - d)
  pub long : length w ≡ length w₀
  pub wide : length p ≡ length p₀
  pub rest : put w (place b i) (enc (chain (drop k (net_bits n)))) ≡ put w₀ (place b e) (enc (chain (drop d (net_bits n))))
  pub old : (j : ℕ) → j < d → get_or p j 0 ≡ get_or p₀ j 0
  pub new : (j : ℕ) → d ≤ j → j < k → get_or p j 0 ≡ e + (j - d)

-- a number noted at depth k
noted-old : (p₀ p : List ℕ) (d k i j : ℕ) → d ≤ k → get_or p j 0 ≡ get_or p₀ j 0 → j < d → get_or (set p k i) j 0 ≡ get_or p₀ j 0
noted-old p₀ p d k i j h e l = get_or-set_other p k j i 0 (λ z. omega arith) ∙ e

noted-new : (p : List ℕ) (d k e i : ℕ) → i ≡ e + (k - d) → k < length p → ((j : ℕ) → d ≤ j → j < k → get_or p j 0 ≡ e + (j - d))
    → (j : ℕ) → d ≤ j → j ≤ k → get_or (set p k i) j 0 ≡ e + (j - d)
noted-new p d k e i h l f j a b = go (dec_lt j k)
  where
    go : Dec (j < k) → get_or (set p k i) j 0 ≡ e + (j - d)
    go (yes c) = get_or-set_other p k j i 0 (λ z. omega arith) ∙ f j a c
    go (no c) =
        let z : j ≡ k = omega arith in
        rw z (get_or-set_same p k i 0 l ∙ h)

module _ {w₀ : List ℕ} {b e : ℕ} {n : Net} {d : ℕ} {p₀ : List ℕ} (r : Chains w₀ b e n d p₀) where
  length-net : length (net_bits n) ≡ n.len
  unfolding net_bits
  length-net = simp (length-take, length-bits) (omega (arith, r.short))

  pub chaining-len : n.len < 129
  chaining-len = omega (arith, r.short, width-le n.family)

  pub chaining-start : Chaining w₀ w₀ b e n d p₀ p₀ d e
  chaining-start = record {
    low = omega arith;
    high = r.from;
    at = omega arith;
    long = refl;
    wide = refl;
    rest = refl;
    old = λ j h. refl;
    new = λ j h k. absurd (omega arith);
  }

  module _ {w p : List ℕ} {k i : ℕ} (c : Chaining w₀ w b e n d p₀ p k i) where
    pub chaining-room : (1 ≤ i) × ((place b i < length w) × ((k < 129) × (i < 1073742000)))
    chaining-room =
        let l = chaining-len in
        let z : k - d ≤ n.len - d = omega (arith, c.low, c.high) in
        (omega (arith, r.one, c.at), (omega (arith, r.one, r.room, c.long, c.at), (omega (arith, c.high), omega (arith, r.few, c.at))))

    pub chaining-bit : k < n.len → k < width n.family
    chaining-bit h = omega (arith, r.short)

    pub chaining-turn : k < n.len → (z : Bool) → z ≡ get_or (bits (width n.family) (address n)) k false → {v : List ℕ} → v ≡ put w (place b i) ((1 + bool_byte z) ∷ [])
        → Chaining w₀ v b e n d p₀ (set p k i) (k + 1) (i + 1)
    unfolding net_bits
    chaining-turn h z s {v} q =
        let y : get_or (net_bits n) k false ≡ z = get_or-take n.len (bits (width n.family) (address n)) k false h ∙ sym s in
        let x : drop k (net_bits n) ≡ z ∷ drop (k + 1) (net_bits n) = drop-cons (net_bits n) k false (omega (arith, length-net)) ∙ rw (y, add-one k) in
        record {
          low = omega (arith, c.low);
          high = omega arith;
          at = omega (arith, c.at, c.low);
          long = rw q (length-put w (place b i) ((1 + bool_byte z) ∷ [])) ∙ c.long;
          wide = length-set p k i ∙ c.wide;
          rest = chain-step w v b i z (drop (k + 1) (net_bits n)) chaining-room.0 q ∙ (rw x at c.rest);
          old = λ j a. noted-old p₀ p d k i j c.low (c.old j a) a;
          new = λ j a f. noted-new p d k e i c.at (omega (arith, c.wide, r.wide, chaining-room)) c.new j a (omega arith);
        }

    pub chaining-end : n.len ≤ k → {v : List ℕ} → v ≡ put w (place b i) (0 ∷ []) → Chained w₀ v b e n d p₀ (set p n.len i)
    chaining-end h {v} q =
        let y : k ≡ n.len = omega (arith, c.high) in
        let x : drop k (net_bits n) ≡ [] = ap (λ j. drop j (net_bits n)) (y ∙ sym length-net) ∙ drop-length (net_bits n) in
        record {
          wrote = chain-end w v (place b i) x q ∙ c.rest;
          along = record {
            wide = length-set p n.len i ∙ c.wide;
            old = λ j a. noted-old p₀ p d n.len i j r.from (c.old j a) a;
            new = λ j a f. noted-new p d n.len e i (rw y at c.at) (omega (arith, c.wide, r.wide, chaining-len)) (λ g x z. c.new g x (omega arith)) j a f;
          };
        }

-- A network behind those that are written.
module _ {w : List ℕ} {b e : ℕ} {h : Head} {p : List ℕ} (a : Appends w b e h p) where
  pub appends-node : (h.deep < 129) × ((1 ≤ get_or p (h.deep - 1) 0) × ((place b (get_or p (h.deep - 1) 0) < length w) × (1 + 2 * (e - get_or p (h.deep - 1) 0) < 4294967296)))
  appends-node =
      let f = a.chains in
      let z : place b e < length w = omega (arith, f.room) in
      (omega (arith, f.from, chaining-len f), (a.one, (omega (arith, a.before), omega (arith, f.few))))

  pub appends-chains : {v : List ℕ} (x : ℕ) → v ≡ put w (place b (get_or p (h.deep - 1) 0)) (x ∷ []) → Chains v b e h.net h.deep p
  appends-chains {v} x q =
      let f = a.chains in
      let z : length v ≡ length w = rw q (length-put w (place b (get_or p (h.deep - 1) 0)) (x ∷ [])) in
      record { one = f.one; few = f.few; from = f.from; short = f.short; room = rw z f.room; wide = f.wide }

pub appended : {w v u : List ℕ} {b e : ℕ} {h : Head} {p z : List ℕ} → v ≡ put w (place b (get_or p (h.deep - 1) 0)) ((1 + 2 * (e - get_or p (h.deep - 1) 0)) ∷ [])
    → Chained v u b e h.net h.deep p z → Appended w u b e h p z
appended q c = record { wrote = rw q at c.wrote; along = c.along }
