-- That a list stands in another at a position: its parts, and what writes leave of it. Assumes nothing.
use mathlib.Core.Path.{◌≡◌, sym, ◌∙◌}
use mathlib.Core.List.{List, ◌∷◌, ◌++◌}
use Prim.Native.Nat.{ℕ, zero, suc, ◌+◌, ◌-◌, ◌≤◌, ◌<◌}
use native.Mathlib.Nat.{add_assoc}
use native.Mathlib.Omega.{arith}
use native.Mathlib.Decide.{dec_lt, dec_le}
use lib.ListN.{length, get_or, take, drop, length-append, length-drop, get_or-append}
use lib.Seq.{ext_get_or, get_or-take, get_or-drop, get_or-append-add, length-take-le}
use Rattle.nodes.specs.Words.{put, Has, Apart}
use Rattle.nodes.proofs.Put.{length-put, get_or-put-in, get_or-put-out}

pub has-put : {w : List ℕ} {p : ℕ} {xs : List ℕ} (q : ℕ) (ys : List ℕ) → Has w p xs → Apart p (length xs) q (length ys) → Has (put w q ys) p xs
has-put {w} {p} {xs} q ys h f = record {
  fits = rw (length-put w q ys) h.fits;
  at = λ k l. get_or-put-out w q ys (p + k) (f (p + k) (omega arith) (omega arith)) ∙ h.at k l;
}

pub put_has : (w : List ℕ) (p : ℕ) (xs : List ℕ) → p + length xs ≤ length w → Has (put w p xs) p xs
put_has w p xs h = record {
  fits = rw (length-put w p xs) h;
  at = λ k l. get_or-put-in w p xs k l (omega arith);
}

-- the parts of what stands there
module _ {w : List ℕ} {p : ℕ} (xs ys : List ℕ) (h : Has w p (xs ++ ys)) where
  pub has-front : Has w p xs
  has-front = record {
    fits = omega (arith, h.fits, length-append xs ys);
    at = λ k l. h.at k (omega (arith, length-append xs ys)) ∙ get_or-append xs ys 0 k l;
  }

  pub has-back : Has w (p + length xs) ys
  has-back = record {
    fits = omega (arith, h.fits, length-append xs ys);
    at = λ k l. rw add_assoc (h.at (length xs + k) (omega (arith, length-append xs ys)) ∙ get_or-append-add xs ys k 0);
  }

module _ {w : List ℕ} {p x : ℕ} {xs : List ℕ} (h : Has w p (x ∷ xs)) where
  pub has-head : get_or w p 0 ≡ x
  has-head = let e : p + 0 ≡ p = omega arith in rw e at (h.at 0 (omega arith))

  pub has-tail : Has w (p + 1) xs
  has-tail = record {
    fits = omega (arith, h.fits);
    at = λ k l. let e : p + 1 + k ≡ p + suc k = omega arith in rw e (h.at (suc k) (omega arith));
  }

-- put together
pub has-cons : {w : List ℕ} {p x : ℕ} {xs : List ℕ} → get_or w p 0 ≡ x → Has w (p + 1) xs → Has w p (x ∷ xs)
has-cons {w} {p} {x} {xs} e h = record { fits = omega (arith, h.fits); at = go }
  where
    go : (k : ℕ) → k < suc (length xs) → get_or w (p + k) 0 ≡ get_or (x ∷ xs) k 0
    go zero l = let q : p + 0 ≡ p = omega arith in rw q e
    go (suc k) l = let q : p + suc k ≡ p + 1 + k = omega arith in rw q (h.at k (omega arith))

pub has_join : {w : List ℕ} {p : ℕ} (xs ys : List ℕ) → Has w p xs → Has w (p + length xs) ys → Has w p (xs ++ ys)
has_join {w} {p} xs ys h g = record { fits = omega (arith, g.fits, length-append xs ys); at = λ k l. go k (omega (arith, length-append xs ys)) (dec_lt k (length xs)) }
  where
    go : (k : ℕ) → k < length xs + length ys → Dec (k < length xs) → get_or w (p + k) 0 ≡ get_or (xs ++ ys) k 0
    go k l (yes a) = h.at k a ∙ sym (get_or-append xs ys 0 k a)
    go k l (no a) =
        let q : p + k ≡ p + length xs + (k - length xs) = omega arith in
        let c : length xs + (k - length xs) ≡ k = omega arith in
        let e : get_or w (p + length xs + (k - length xs)) 0 ≡ get_or (xs ++ ys) (length xs + (k - length xs)) 0 =
        g.at (k - length xs) (omega arith) ∙ sym (get_or-append-add xs ys (k - length xs) 0) in
        rw q (rw c at e)

-- at a position that is equal
pub has-at : {w : List ℕ} {p q : ℕ} {xs : List ℕ} → p ≡ q → Has w p xs → Has w q xs
has-at e h = rw e at h

-- the same as a segment
pub has-seg : {w : List ℕ} {p : ℕ} {xs : List ℕ} → Has w p xs → take (length xs) (drop p w) ≡ xs
has-seg {w} {p} {xs} h =
    let d : length xs ≤ length (drop p w) = rw (length-drop p w) (omega (arith, h.fits)) in
    let e : length (take (length xs) (drop p w)) ≡ length xs = length-take-le (length xs) (drop p w) d in
    ext_get_or 0 _ _ e λ k l.
    let g : k < length xs = omega arith in
    get_or-take (length xs) (drop p w) k 0 g ∙ get_or-drop p w k 0 ∙ h.at k g

-- to write what stands there changes nothing
pub has_same : {w : List ℕ} {p : ℕ} {xs : List ℕ} → Has w p xs → put w p xs ≡ w
has_same {w} {p} {xs} h = ext_get_or 0 _ _ (length-put w p xs) λ k l. go k l (dec_le p k)
  where
    far : (k : ℕ) → k < length (put w p xs) → p ≤ k → Dec (k < p + length xs) → get_or (put w p xs) k 0 ≡ get_or w k 0
    far k l g (no f) = get_or-put-out w p xs k λ a b. f b
    far k l g (yes f) =
        let e : p + (k - p) ≡ k = omega arith in
        let n : k - p < length xs = omega arith in
        let a : get_or (put w p xs) (p + (k - p)) 0 ≡ get_or w (p + (k - p)) 0 =
        get_or-put-in w p xs (k - p) n (omega (arith, h.fits)) ∙ sym (h.at (k - p) n) in
        rw e at a

    go : (k : ℕ) → k < length (put w p xs) → Dec (p ≤ k) → get_or (put w p xs) k 0 ≡ get_or w k 0
    go k l (no f) = get_or-put-out w p xs k λ a b. f a
    go k l (yes g) = far k l g (dec_lt k (p + length xs))
