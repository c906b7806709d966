-- The words of a node as stores, by the family. Assumes nothing.
use mathlib.Core.Path.{◌≡◌, refl, ap, ◌∙◌}
use mathlib.Core.List.{List, [], ◌∷◌}
use Prim.Native.Nat.{ℕ, ◌+◌, ◌-◌, ◌*◌, ◌%◌, ◌^◌, ◌≤◌, ◌<◌}
use native.Mathlib.Nat.{mod-eq_of_lt}
use native.Mathlib.Omega.{arith}
use lib.ListN.{length, set, take, drop}
use lib.Pow.{shl_lt}
use borrow.Author.Tests.{eq-eqb, ne_eqb}
use Rattle.nets.specs.Bits.{Bits, val}
use Rattle.nets.specs.Networks.{width, net_from}
use Rattle.nets.specs.declared.Net.{Net}
use Rattle.nets.proofs.Order.{val-high}
use Rattle.nets.proofs.Numbers.{width-4}
use Rattle.nodes.specs.Words.{put}
use Rattle.nodes.proofs.Put.{set-put, put-behind-at}
use Rattle.kept_nodes.specs.Words.{stride, four_words, address_words, node_words, spot}
use Rattle.kept_nodes.proofs.Places.{stride-4, stride-6, spot-4, spot-6}
use Rattle.kept_nodes.proofs.NodeWords.{net_from-words}
use Rattle.kept_writing.specs.Writes.{Writable, Writes, Movable}

pub put_two : (w : List ℕ) (p x y : ℕ) → set (set w p x) (p + 1) y ≡ put w p (x ∷ y ∷ [])
put_two w p x y = rw (set-put w p x, set-put _ (p + 1) y) (put-behind-at w p (p + 1) (x ∷ []) (y ∷ []) refl)

pub put_five : (w : List ℕ) (p a b c d e : ℕ) → set (set (set (set (set w p a) (p + 1) b) (p + 2) c) (p + 3) d) (p + 4) e ≡ put w p (a ∷ b ∷ c ∷ d ∷ e ∷ [])
put_five w p a b c d e =
    rw (
      set-put w p a,
      set-put _ (p + 1) b,
      put-behind-at w p (p + 1) (a ∷ []) (b ∷ []) refl,
      set-put _ (p + 2) c,
      put-behind-at w p (p + 2) (a ∷ b ∷ []) (c ∷ []) refl,
      set-put _ (p + 3) d,
      put-behind-at w p (p + 3) (a ∷ b ∷ c ∷ []) (d ∷ []) refl,
      set-put _ (p + 4) e,
    ) (put-behind-at w p (p + 4) (a ∷ b ∷ c ∷ d ∷ []) (e ∷ []) refl)

module _ {f : ℕ} {w : List ℕ} {b i d : ℕ} (g : Writable f w b i d) where
  pub fits-short : f ≡ 4 → b + 2 * (i - 1) + 2 ≤ length w
  fits-short e = rw (spot-4 f b i e, ← stride-4 f e) g.fits

  pub fits-long : (f ≡ 4 → ⊥) → b + 5 * (i - 1) + 5 ≤ length w
  fits-long e = rw (spot-6 f b i e, ← stride-6 f e) g.fits

-- the low word of an address of 32 bits
low-short : (f : ℕ) (p : Bits) → f ≡ 4 → length p ≤ width f → (net_from f p).lo < 2 ^ 32
unfolding net_from
low-short f p e le =
    let x = width-4 f e in
    let k = width f - length p in
    let g : length p + k ≡ 32 = omega arith in
    let h : val p * 2 ^ k < 2 ^ 32 = rw g at (shl_lt (length p) k (val-high p)) in
    omega arith

module _ (f : ℕ) (w v : List ℕ) (b i d : ℕ) (s : Net) where
  pub writes_short : f ≡ 4 → v ≡ put w (b + 2 * (i - 1)) ((s.len + 256 * d) ∷ (s.lo % 2 ^ 32) ∷ []) → Writes f w v b i s d
  unfolding node_words address_words
  writes_short e h p is le =
      let n = is ∙ net_from-words f p in
      let l : s.lo ≡ (net_from f p).lo = ap (λ z. z.lo) n in
      let k : s.len ≡ length p = ap (λ z. z.len) n in
      let m : s.lo % 2 ^ 32 ≡ (net_from f p).lo = rw l (mod-eq_of_lt (low-short f p e le)) in
      let t : (net_from f p).family ≡ f = ap (λ z. z.family) (net_from-words f p) in
      h ∙ rw (spot-4 f b i e, m, k, t, eq-eqb f 4 e)

  pub writes-long : (f ≡ 4 → ⊥) → v ≡ put w (b + 5 * (i - 1)) ((s.len + 256 * d) ∷ four_words s.hi s.lo) → Writes f w v b i s d
  unfolding node_words address_words
  writes-long e h p is le =
      let n = is ∙ net_from-words f p in
      let l : s.lo ≡ (net_from f p).lo = ap (λ z. z.lo) n in
      let a : s.hi ≡ (net_from f p).hi = ap (λ z. z.hi) n in
      let k : s.len ≡ length p = ap (λ z. z.len) n in
      let t : (net_from f p).family ≡ f = ap (λ z. z.family) (net_from-words f p) in
      h ∙ rw (spot-6 f b i e, l, a, k, t, ne_eqb f 4 e)

-- A move, by the family.
module _ {f : ℕ} {w : List ℕ} {b i o k : ℕ} (g : Movable f w b i o k) where
  pub moves-short : f ≡ 4 → (b + 2 * (i - 1) + 2 * k ≤ length w) × (b + 2 * (o - 1) + 2 * k ≤ length w)
  moves-short e = (rw (spot-4 f b i e, ← stride-4 f e) g.fits, rw (spot-4 f b o e, ← stride-4 f e) g.to-fits)

  pub moves_long : (f ≡ 4 → ⊥) → (b + 5 * (i - 1) + 5 * k ≤ length w) × (b + 5 * (o - 1) + 5 * k ≤ length w)
  moves_long e = (rw (spot-6 f b i e, ← stride-6 f e) g.fits, rw (spot-6 f b o e, ← stride-6 f e) g.to-fits)

module _ (f : ℕ) (w v : List ℕ) (b i o k : ℕ) where
  pub moved-short : f ≡ 4 → v ≡ put w (b + 2 * (o - 1)) (take (2 * k) (drop (b + 2 * (i - 1)) w)) → v ≡ put w (spot f b o) (take (stride f * k) (drop (spot f b i) w))
  moved-short e h = h ∙ rw (spot-4 f b o e, spot-4 f b i e, stride-4 f e)

  pub moved-long : (f ≡ 4 → ⊥) → v ≡ put w (b + 5 * (o - 1)) (take (5 * k) (drop (b + 5 * (i - 1)) w)) → v ≡ put w (spot f b o) (take (stride f * k) (drop (spot f b i) w))
  moved-long e h = h ∙ rw (spot-6 f b o e, spot-6 f b i e, stride-6 f e)
