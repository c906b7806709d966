-- Words that move as a block. Assumes nothing.
use mathlib.Core.List.{List}
use mathlib.Core.Path.{◌≡◌, ◌∙◌}
use Prim.Native.Nat.{ℕ, ◌+◌, ◌≤◌}
use native.Mathlib.Omega.{arith}
use lib.ListN.{length, take, drop, length-drop}
use lib.Seq.{get_or-take, get_or-drop, length-take-le}
use Rattle.nodes.specs.Words.{put, Has}
use Rattle.nodes.proofs.Put.{length-put, get_or-put-in}

-- a part of m words that move from p to q
pub has-moved : {w ys : List ℕ} (p q m d : ℕ) → p + m ≤ length w → q + m ≤ length w → d + length ys ≤ m → Has w (p + d) ys → Has (put w q (take m (drop p w))) (q + d) ys
has-moved {w} {ys} p q m d lp lq le h =
    let xs = take m (drop p w) in
    let n : length xs ≡ m = length-take-le m (drop p w) (omega (arith, length-drop p w)) in
    record {
      fits = rw (length-put w q xs) (omega arith);
      at = λ k l.
          let a : q + d + k ≡ q + (d + k) = omega arith in
          let b : p + (d + k) ≡ p + d + k = omega arith in
          rw a (get_or-put-in w q xs (d + k) (omega arith) (omega arith) ∙ get_or-take m (drop p w) (d + k) 0 (omega arith) ∙ get_or-drop p w (d + k) 0 ∙ rw b (h.at k l));
    }
