-- `halves::second` meets its contract: the bit falls into the low word or into the high one. Assumes nothing.
use mathlib.Core.Path.{◌≡◌}
use Prim.Native.Nat.{ℕ, suc, ◌+◌, ◌-◌}
use native.Mathlib.Omega.{arith}
use Rattle.nets.specs.Networks.{width}
use Rattle.nets.proofs.Numbers.{width-le}
use Rattle.nets.proofs.TwoWords.{shl_one}
use Rattle.trie_paths.proofs.Paths.{low_fits, second-low, high_fits, second-high}
use Rattle.trie_paths.proofs.halves.second.Goals as goal

abbrev behind : goal.After-struct_known-then-k-lt64-1 → ℕ
behind c = c.width.result - 1 - c.args.n.len

left : (c : goal.After-struct_known-then-k-lt64-1) → suc (c.args.n.len + behind c) ≡ width c.args.n.family
left c = omega arith

abbrev behind-struct_known-then-k-lt64-2-1 : goal.After-struct_known-then-k-lt64-2-1 → ℕ
behind-struct_known-then-k-lt64-2-1 c = c.width.result - 1 - c.args.n.len

left-struct_known-then-k-lt64-2-1 : (c : goal.After-struct_known-then-k-lt64-2-1) → suc (c.args.n.len + behind-struct_known-then-k-lt64-2-1 c) ≡ width c.args.n.family
left-struct_known-then-k-lt64-2-1 c = omega arith

abbrev behind-struct_known-2-1 : goal.After-struct_known-2-1 → ℕ
behind-struct_known-2-1 c = c.width.result - 1 - c.args.n.len

left-struct_known-2-1 : (c : goal.After-struct_known-2-1) → suc (c.args.n.len + behind-struct_known-2-1 c) ≡ width c.args.n.family
left-struct_known-2-1 c = omega arith

abbrev behind-struct_known-3-1 : goal.After-struct_known-3-1 → ℕ
behind-struct_known-3-1 c = c.width.result - 1 - c.args.n.len

left-struct_known-3-1 : (c : goal.After-struct_known-3-1) → suc (c.args.n.len + behind-struct_known-3-1 c) ≡ width c.args.n.family
left-struct_known-3-1 c = omega arith

pub overflow_add-result : goal.overflow_add-result
overflow_add-result c = record { fits = rw (shl_one (behind c) c.if-k-lt64.true) (low_fits c.args.n c.requires.by_index.0 c.requires.by_index.1 (behind c) c.requires.by_index.2 (left c) c.if-k-lt64.true) }

pub overflow_add-result-then-k-lt64 : goal.overflow_add-result-then-k-lt64
overflow_add-result-then-k-lt64 c = omega (arith, width-le c.args.n.family)

pub returns-then-k-lt64 : goal.returns-then-k-lt64
returns-then-k-lt64 c f p q = rw (shl_one (behind-struct_known-then-k-lt64-2-1 c) c.if-k-lt64.true) (second-low c.args.n f p (behind-struct_known-then-k-lt64-2-1 c) q (left-struct_known-then-k-lt64-2-1 c) c.if-k-lt64.true)

pub overflow_shl-result-2 : goal.overflow_shl-result-2
overflow_shl-result-2 c = omega (arith, width-le c.args.n.family)

pub overflow_add-result-2 : goal.overflow_add-result-2
overflow_add-result-2 c = record { fits = rw (shl_one (behind-struct_known-2-1 c - 64) (omega (arith, width-le c.args.n.family))) (high_fits c.args.n c.requires.by_index.0 c.requires.by_index.1 (behind-struct_known-2-1 c) c.requires.by_index.2 (left-struct_known-2-1 c) (behind-struct_known-2-1 c - 64) (omega arith)) }

pub overflow_add-result-3 : goal.overflow_add-result-3
overflow_add-result-3 c = omega (arith, width-le c.args.n.family)

pub returns : goal.returns
returns c f p q = rw (shl_one (behind-struct_known-3-1 c - 64) (omega (arith, width-le c.args.n.family))) (second-high c.args.n f p (behind-struct_known-3-1 c) q (left-struct_known-3-1 c) (behind-struct_known-3-1 c - 64) (omega arith))
