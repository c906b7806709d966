-- Once all entries of a file are lined up and the lanes are sorted, they have its networks in address order. Assumes nothing.
use mathlib.Core.List.{List, []}
use mathlib.Core.Path.{◌≡◌, ap, sym, ◌∙◌}
use Prim.Native.Nat.{ℕ, ◌-◌, ◌*◌, ◌^◌, ◌<◌}
use native.Mathlib.Nat.{zero-mul}
use native.Mathlib.Omega.{arith}
use Rattle.nets.specs.Networks.{width, net_from, net_words}
use Rattle.setfile_format.specs.Files.{networks_in}
use Rattle.address_order.specs.Streams.{in_address_order}
use Rattle.address_order.proofs.Streams.{of_length-order, member-order, rising-order}
use Rattle.setfile_lanes.specs.Lanes.{lane_at, lanes_of, Full, Ranked, Runs, Lined, Ordered}
use Rattle.setfile_lanes.specs.declared.lanes.Lane.{Lane}
use Rattle.setfile_order.specs.Flow.{Behind, Flow}

pub lined-full : {d : List ℕ} {f n : ℕ} {c : List ℕ} → Lined d f n c n → Full c
lined-full s = record { wide = s.lanes.wide; few = s.lanes.few; live = s.full; apart = s.lanes.apart }

ranked-flow : {d : List ℕ} {f n : ℕ} {c c' : List ℕ} → Ordered d f n → Lined d f n c n → Ranked c c' 0 → Flow d f c' (in_address_order (networks_in f d 0 n))
ranked-flow {d} {f} {n} {c} {c'} o s k =
    let l = networks_in f d 0 n in
    let r = s.lanes in
    let m = k.count in
    let run : (j : ℕ) → j < lanes_of c → Runs d f n (in_address_order l) (lane_at c j)
    = λ j h. let u = r.runs j h in record { from = u.from; to = u.to; rest = u.rest ∙ sym (of_length-order (lane_at c j).len l o.ascends); head = u.head } in
    record {
      n = n;
      entries = o.entries;
      lanes = record {
        wide = k.full.wide;
        few = k.full.few;
        runs = λ j h. let i = k.old j (rw m at h) in rw i.2 (run i.0 i.1);
        apart = k.full.apart;
        known = λ q t. let z = r.known q (sym (member-order q l) ∙ t) in let i = k.kept z.0 z.1 in (i.0, rw m i.1, ap (λ (x : Lane). x.len) i.2 ∙ z.2);
      };
      live = k.full.live;
      sorted = k.sorted;
      rises = rising-order l o.ascends;
    }

whole-net : (f : ℕ) → net_words f 0 0 0 ≡ net_from f []
unfolding net_from
whole-net f = rw (zero-mul (2 ^ (width f - 0)))

pub behind-all : {d : List ℕ} {f n : ℕ} {c c' : List ℕ} → Ordered d f n → Lined d f n c n → Ranked c c' 0 → Behind d f c' (net_words f 0 0 0) [] (in_address_order (networks_in f d 0 n))
behind-all {d} {f} o s k = record { flow = ranked-flow o s k; net = whole-net f; short = omega arith }
