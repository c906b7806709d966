-- `laying::index_empty` meets its contract, by whether the set is marked. Assumes nothing.
use mathlib.Core.List.{List, [], ◌∷◌}
use mathlib.Core.Path.{◌≡◌, ap, sym, ◌∙◌}
use Prim.Native.Nat.{ℕ, suc, ◌+◌, ◌*◌}
use native.Mathlib.Nat.{add-zero}
use native.Mathlib.Numerals.{add-one}
use native.Mathlib.Omega.{arith}
use lib.ListN.{length-set}
use Rattle.nets.specs.Bits.{digit}
use Rattle.nodes.specs.Words.{put}
use Rattle.pool_state.specs.Decode.{record_at}
use Rattle.pool_state.proofs.Setups.{blank-rooted, blank-indexed, blank-length, blank-plain}
use Rattle.pool.proofs.laying.index_empty.Goals as goal

tagged : (w : List ℕ) (p q j : ℕ) (xs : List ℕ) {v : List ℕ} → v ≡ put (put w p ((j + 1) ∷ [])) q xs → v ≡ put (put w p (suc j ∷ [])) q xs
tagged w p q j xs e = e ∙ ap (λ x. put (put w p (x ∷ [])) q xs) (add-one j)

pub bounds-pool-s : goal.bounds-pool-s
bounds-pool-s c = omega (arith, c.requires)

pub overflow_mul-j : goal.overflow_mul-j
overflow_mul-j c = omega (arith, c.requires)

pub overflow_add-at : goal.overflow_add-at
overflow_add-at c = omega (arith, c.requires)

pub write_index-requires : goal.write_index-requires
write_index-requires c = let p = c.requires in
    let b = blank-rooted _ (simp length-set (omega (arith, p))) in
    record { room = (b.0, simp length-set (omega (arith, p, ap digit c.if-marked.true)), omega (arith, p)); rooted = b.1 }

pub overflow_add-result : goal.overflow_add-result
overflow_add-result c = omega (arith, c.requires)

pub shape_of-pool-then-marked : goal.shape_of-pool-then-marked
shape_of-pool-then-marked c = let a = c.args in
    blank-length a.pool.now (record_at a.s + 4) (a.at + 256 * a.j) (a.j + 1) c.write_index.ensures

pub returns-then-marked : goal.returns-then-marked
returns-then-marked c = let a = c.args in
    (rw c.if-marked.true, rw c.if-marked.true (tagged a.pool.now (record_at a.s + 4) (a.at + 256 * a.j) a.j _ (blank-indexed a.pool.now (record_at a.s + 4) (a.at + 256 * a.j) (a.j + 1) c.write_index.ensures)))

pub overflow_mul-pool-2 : goal.overflow_mul-pool-2
overflow_mul-pool-2 c = omega (arith, c.requires)

pub overflow_add-pool-2 : goal.overflow_add-pool-2
overflow_add-pool-2 c = omega (arith, c.requires)

pub overflow_add-pool-3 : goal.overflow_add-pool-3
overflow_add-pool-3 c = omega (arith, c.requires)

pub offset_bounds-pool-s-2 : goal.offset_bounds-pool-s-2
offset_bounds-pool-s-2 c = omega (arith, c.requires)

pub bounds-pool-s-2 : goal.bounds-pool-s-2
bounds-pool-s-2 c = omega (arith, c.requires)

pub returns : goal.returns
returns c = (rw c.if-marked.false (sym (add-zero _)), rw c.if-marked.false (blank-plain _ _ _))
