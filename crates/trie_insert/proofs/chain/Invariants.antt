-- `chain` meets its contract. The loop's invariant: what is still to be written completes the chain. Assumes nothing.
use mathlib.Core.Path.{◌≡◌}
use Prim.Native.Nat.{◌+◌, ◌≤◌}
use lib.ListN.{length}
use Rattle.nets.specs.Networks.{bits_left}
use Rattle.nodes.specs.Words.{put, place, enc, chain}
use Rattle.trie_insert.proofs.chain.Given as goal

abbrev pub invariant-loop-bit : goal.invariant-loop-bit
invariant-loop-bit l = (1 ≤ l.k) × ((l.p.len ≤ 128) × ((length l.w ≡ length l.initial.w) × ((l.k + l.p.len ≡ l.i + l.initial.p.len) × (put l.w (place l.b l.k) (enc (chain (bits_left l.p))) ≡ put l.initial.w (place l.b l.i) (enc (chain (bits_left l.initial.p)))))))

abbrev pub decreases-loop-bit : goal.decreases-loop-bit
decreases-loop-bit l = l.p.len
