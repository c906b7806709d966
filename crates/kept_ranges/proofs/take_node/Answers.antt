-- `take_node` meets its contract. Assumes nothing.
use mathlib.Core.Path.{◌≡◌, refl, sym, ◌∙◌}
use Prim.Native.Nat.{◌≤◌}
use lib.ListN.{length}
use Rattle.nets.specs.Networks.{width, net_from}
use Rattle.kept_nodes.specs.Parse.{dist_at, string_at}
use Rattle.kept_ranges.proofs.take_node.Goals as goal

-- what is read is the string of the node, a member's
member : (c : goal.After-take-arg-1) → let a = c.args in let s = string_at a.family a.w.now a.b a.k in
    (dist_at a.family a.w.now a.b a.k ≡ 0) × (c.net_at-x.result ≡ net_from a.family s) × (length s ≤ width a.family)
member c = let h = c.requires.node in
    (sym c.distance.ensures.0 ∙ c.if-distance-ne0.false, c.net_at-x.ensures.is ∙ h.net, h.short)

-- what is read is the string of the node, a member's
member-slice_known-2-1 : (c : goal.After-slice_known-2-1) → let a = c.args in let s = string_at a.family a.w.now a.b a.k in
    (dist_at a.family a.w.now a.b a.k ≡ 0) × (c.net_at-x.result ≡ net_from a.family s) × (length s ≤ width a.family)
member-slice_known-2-1 c = let h = c.requires.node in
    (sym c.distance.ensures.0 ∙ c.if-distance-ne0.false, c.net_at-x.ensures.is ∙ h.net, h.short)

pub returns-then-distance-ne0 : goal.returns-then-distance-ne0
returns-then-distance-ne0 c = record { member = λ z. absurd (c.if-distance-ne0.true (c.distance.ensures.0 ∙ z)); branch = λ _. (refl, refl) }

pub take-requires : goal.take-requires
take-requires c = let m = member c in
    let h = c.requires in
    record { n_bound = (h.few, h.some _); by_index = (_, _, m.1, m.2) }

pub returns : goal.returns
returns c = let m = member-slice_known-2-1 c in
    record { member = λ _. c.take.ensures _ _ m.1 m.2; branch = λ ne. absurd (ne m.0) }
