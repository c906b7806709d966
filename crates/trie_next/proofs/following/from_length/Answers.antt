-- `following::from_length` meets its contract: the lengths passed have no members. Assumes nothing.
use mathlib.Core.List.{[]}
use mathlib.Core.Path.{refl}
use native.Mathlib.Omega.{arith}
use Rattle.trie_paths.proofs.Paths.{located-root}
use Rattle.trie_paths.proofs.Placing.{counts-are}
use Rattle.trie_next.proofs.Resuming.{skips-none, skips-some}
use Rattle.trie_next.proofs.following.from_length.Goals as goal

pub tally-counts-requires : goal.tally-counts-requires
tally-counts-requires c = let p = c.requires.holds in (_, p.0, p.1)

pub returns-in_err-n : goal.returns-in_err-n
returns-in_err-n c t o = rw c.from_residual.ensures (skips-none (c.next_length.ensures.none_left c.in_err-n.was) (counts-are o (c.tally-counts.ensures _ t o)) _ refl)

pub first_at-requires : goal.first_at-requires
first_at-requires c = let p = c.requires.holds in (_, [], p.0, located-root p.1 c.whole.ensures)

pub returns : goal.returns
returns c t o = let s = c.next_length.ensures.next _ c.in_ok-n.was in
    skips-some s.1 (counts-are o (c.tally-counts.ensures _ t o)) _ (λ e. omega (arith, s.0)) (c.first_at.ensures _ _ t (located-root o c.whole.ensures))
