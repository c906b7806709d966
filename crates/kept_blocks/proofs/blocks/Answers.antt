-- `blocks` meets its contract. The loop's invariant: what is still to be written completes it. Assumes nothing.
use native.Mathlib.Omega.{arith}
use mathlib.Core.Path.{◌≡◌, refl, ap, ◌∙◌}
use Prim.Native.Nat.{ℕ, ◌≤◌, ◌<◌}
use lib.ListN.{length}
use Rattle.nodes.specs.Words.{put}
use Rattle.nodes.proofs.Put.{length-put}
use Rattle.nets.proofs.Numbers.{width-le}
use Rattle.nets.specs.Tries.{leaf}
use Rattle.nets.specs.TrieOps.{remove_t}
use Rattle.kept_nodes.specs.Words.{kept_enc, spot}
use Rattle.nets.specs.Bits.{Bits}
use Rattle.nets.specs.Networks.{net_from}
use Rattle.kept_blocks.specs.Blocks.{Blocks}
use Rattle.kept_blocks.proofs.Remaining.{at-start, at_len, at-bit, at-child, at-beside, at_turn, at-falls, at_last, last-short, last-writes}
use Rattle.kept_blocks.proofs.blocks.Goals as goal

few : (c : goal.After-struct_known-in-loop-x-3-1) → let a = c.args in let o = c.loop-x in (o.x.len < a.q.len) × (a.q.len ≤ 128)
few c = let (n, p, r, is, g) = c.requires in let h = c.loop-x.invariant n p r is g in let k = at_len h in (omega (arith, k), omega (arith, k, width-le c.args.family))

few-child-x : (c : goal.After-child-x) → let a = c.args in let o = c.loop-x in (o.x.len < a.q.len) × (a.q.len ≤ 128)
few-child-x c = let (n, p, r, is, g) = c.requires in let h = c.loop-x.invariant n p r is g in let k = at_len h in (omega (arith, k), omega (arith, k, width-le c.args.family))

ended : (c : goal.After-slice_known-2-1) → let a = c.args in (n : ℕ) (p r : Bits) → a.path ≡ net_from a.family p
    → Blocks a.family a.w.now a.b n a.i p r a.q → c.write_node.new.w ≡ put a.w.now (spot a.family a.b a.i) (kept_enc a.family p (remove_t r leaf))
ended c n p r is g = let h = c.loop-x.invariant n p r is g in
    at_last h _ c.bit_at.ensures c.loop-x-test.false (c.write_node.ensures _ (c.child-last.ensures _ h.path h.net) (last-short h _))

pub loop-x-init : goal.loop-x-init
loop-x-init c n p r is g = at-start is g

pub overflow_add-x : goal.overflow_add-x
overflow_add-x c = let (n, p, r, is, g) = c.requires in
    omega (arith, at_len (c.loop-x.invariant n p r is g), width-le c.args.family)

pub bit_at-bit-requires : goal.bit_at-bit-requires
bit_at-bit-requires c = let (n, p, r, is, g) = c.requires in at-bit (c.loop-x.invariant n p r is g)

pub overflow_sub-m : goal.overflow_sub-m
overflow_sub-m c = omega (arith, few c, c.loop-x-test.true)

pub overflow_cast-m : goal.overflow_cast-m
overflow_cast-m c = omega (arith, few c, c.loop-x-test.true)

pub overflow_mul-m : goal.overflow_mul-m
overflow_mul-m c = omega (arith, few c, c.loop-x-test.true)

pub overflow_sub-m-in-loop-x : goal.overflow_sub-m-in-loop-x
overflow_sub-m-in-loop-x c = omega (arith, few c, c.loop-x-test.true)

pub beside-k-requires : goal.beside-k-requires
beside-k-requires c = let (n, p, r, is, g) = c.requires in
    let h = c.loop-x.invariant n p r is g in
    (n, h.path, h.net, at-beside h _ c.bit_at-bit.ensures c.loop-x-test.true _ refl)

pub child-x-requires : goal.child-x-requires
child-x-requires c = let (n, p, r, is, g) = c.requires in
    let h = c.loop-x.invariant n p r is g in
    (_, h.path, h.net, at-child h)

pub loop-x-smaller : goal.loop-x-smaller
loop-x-smaller c = let (n, p, r, is, g) = c.requires in
    let h = c.loop-x.invariant n p r is g in
    omega (arith, few-child-x c, at-falls h _ (c.child-x.ensures _ h.path h.net))

pub loop-x-preserved : goal.loop-x-preserved
loop-x-preserved c n p r is g = let h = c.loop-x.invariant n p r is g in
    let lt = c.loop-x-test.true in
    at_turn h _ c.bit_at-bit.ensures lt _ refl (c.child-x.ensures _ h.path h.net) c.beside-k.auto.w c.beside-k.ensures.0
    (λ y q. c.beside-k.ensures.1 n h.path y h.net (at-beside h _ c.bit_at-bit.ensures lt _ refl) q)

pub bit_at-requires : goal.bit_at-requires
bit_at-requires c = let (n, p, r, is, g) = c.requires in at-bit (c.loop-x.invariant n p r is g)

pub child-last-requires : goal.child-last-requires
child-last-requires c = let (n, p, r, is, g) = c.requires in
    let h = c.loop-x.invariant n p r is g in
    (_, h.path, h.net, at-child h)

pub write_node-requires : goal.write_node-requires
write_node-requires c = let (n, p, r, is, g) = c.requires in last-writes (c.loop-x.invariant n p r is g)

pub shape_of-w : goal.shape_of-w
shape_of-w c = let (n, p, r, is, g) = c.requires in ap length (ended c n p r is g) ∙ length-put _ _ _

pub returns : goal.returns
returns c n p r is g = ended c n p r is g
