-- Another share and limit for a set fit exactly where the request says so: the new share is at most the new limit, the nodes are, and the claims of all sets with the new
-- share are at most the pool's nodes. Assumes nothing.
use mathlib.Core.Path.{◌≡◌, ap}
use mathlib.Core.Bool.{true, ◌&&◌}
use Prim.Native.Nat.{ℕ, ◌<◌}
use native.Mathlib.Omega.{arith}
use lib.Dec.{leb}
use lib.ListN.{length}
use borrow.Author.Tests.{leb-true, le-leb}
use Rattle.nets.proofs.Strings.{bool_iff}
use Rattle.pool_state.specs.States.{SetState, State, held, claim, claimed, room_of, admits, is_state}
use Rattle.pool_state.specs.Changes.{sets_with, with_set, fits}
use Rattle.pool_state.proofs.Claims.{is_state-claimed, claimed_but-is}
use Rattle.pool_state.proofs.WithSet.{claimed-sets_with}

-- "the sum over all sets of the larger of share and held nodes, with the new share, is at most the pool's nodes"
pub fits_sum : (S : State) (k : ℕ) (x : SetState) → is_state S ≡ true → k < length S.sets → admits S.family x x.list ≡ true
    → fits S k x ≡ (leb x.share x.limit && (leb (held x) x.limit && leb (claimed (with_set S k x).sets) S.nodes))
unfolding fits with_set
fits_sum S k x e lt m =
    let c = claimed-sets_with k x S.sets lt in
    let b = claimed_but-is k S.sets lt in
    let n = is_state-claimed S e in
    let z : leb (claim x) (room_of S k) ≡ leb (claimed (sets_with k x S.sets)) S.nodes =
    bool_iff (leb (claim x) (room_of S k)) (leb (claimed (sets_with k x S.sets)) S.nodes)
    (λ q. le-leb (claimed (sets_with k x S.sets)) S.nodes (omega (arith, c, b, n, leb-true (claim x) (room_of S k) q)))
    (λ q. le-leb (claim x) (room_of S k) (omega (arith, c, b, n, leb-true (claimed (sets_with k x S.sets)) S.nodes q))) in
    rw m (ap (λ t. leb x.share x.limit && (leb (held x) x.limit && t)) z)
