-- The proof of the cycle of calls {remove_size}. The measure is how many bits are left. Assumes nothing.
use mathlib.Core.Path.{◌∙◌}
use native.Mathlib.Omega.{arith}
use Rattle.trie_remove.proofs.Descent.{size-nothing, size-full}
use Rattle.trie_remove.proofs.Inward.{child-here, size-here, count_small}
use Rattle.trie_remove.proofs.+remove_size.Goals as goal

pub remove_size-k-requires : goal.remove_size-k-requires
remove_size-k-requires τ c = let n = rw c.in-Inner.is at (c.step_down-n.ensures _ _ _ c.requires.1.3) in
    (omega (arith, c.decreases, n.fewer), (omega (arith, c.requires.0, n.fewer), (_, _, _, child-here c.requires.1.3 n)))

pub overflow_add-k : goal.overflow_add-k
overflow_add-k τ c = let p = c.requires in
    let g = p.1.3 in
    let n = rw c.in-Inner.is at (c.step_down-n.ensures _ _ _ g) in
    omega (arith, count_small g n (omega (arith, p.0, n.fewer)) _ (c.remove_size-k.ensures _ _ _ (child-here g n)))

pub rooted-requires : goal.rooted-requires
rooted-requires τ c = let p = c.requires in
    let g = p.1.3 in
    let n = rw c.in-Inner.is at (c.step_down-n.ensures _ _ _ g) in
    count_small g n (omega (arith, p.0, n.fewer)) _ (c.remove_size-k.ensures _ _ _ (child-here g n))

pub returns-in-Nothing : goal.returns-in-Nothing
returns-in-Nothing τ c t rest u g = size-nothing _ t (rw c.in-Nothing.is at (c.step_down-n.ensures t rest u g))

pub returns-in-Full : goal.returns-in-Full
returns-in-Full τ c t rest u g = let e = rw c.in-Full.is at (c.step_down-n.ensures t rest u g) in
    size-full _ t e.0 c.requires.0

pub returns-in-Inner : goal.returns-in-Inner
returns-in-Inner τ c t' rest u g = let n = rw c.in-Inner.is at (c.step_down-n.ensures t' rest u g) in
    c.rooted.ensures ∙ size-here g n _ (c.remove_size-k.ensures _ _ _ (child-here g n))
