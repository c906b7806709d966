-- The lanes in address order: the first of the networks is the next of the first lane, and behind it that lane has the others, and goes to its place. Assumes nothing.
use mathlib.Core.Bool.{true, false≢true, ◌&&◌}
use mathlib.Core.List.{List, [], ◌∷◌}
use mathlib.Core.Path.{◌≡◌, ap, sym, ◌∙◌}
use Prim.Native.Nat.{ℕ, suc, ◌+◌, ◌-◌, ◌*◌, ◌≤◌, ◌<◌}
use native.Mathlib.Decide.{ℕ_discrete, dec_lt}
use native.Mathlib.Numerals.{add-one}
use native.Mathlib.Omega.{arith}
use lib.Dec.{eqb}
use lib.ListN.{length, set, length-set}
use borrow.Author.Tests.{eq-eqb}
use Rattle.nets.specs.Bits.{Bits}
use Rattle.nets.specs.Lists.{member}
use Rattle.nets.specs.Networks.{width, address, net_words, net_from}
use Rattle.setfile_format.specs.Files.{file_bytes, entry_net, networks_in}
use Rattle.address_order.specs.Streams.{of_length}
use Rattle.setfile_format.proofs.FileOrder.{network_at, network_at-within, networks_in-first, networks_in-cons}
use Rattle.address_order.proofs.Rising.{member-first, member-later}
use Rattle.address_order.proofs.Streams.{number, rising-tail, of_length-head, of_length-other, of_length-first, member-of_length, rising-least}
use Rattle.setfile_lanes.specs.Lanes.{lane_at, put_lane, lanes_of, Live, place_of, Sinks, Sunk, Onward, Entries, Runs, Lanes}
use Rattle.setfile_order.specs.Flow.{Flow}
use Rattle.setfile_lanes.specs.declared.lanes.Lane.{Lane}
use Rattle.setfile_lanes.proofs.Cursors.{length-put_lane, lane_at-put, lane_at-put_lane, lanes_of-put_lane, lane_at-set, lanes_of-set}
use Rattle.setfile_lanes.proofs.Sorting.{sunk-old, sunk-kept, sunk-apart, sunk-sorted}
use Rattle.setfile_format.proofs.Written.{file_bytes-mono}
use Rattle.setfile_lanes.proofs.Read.{read_length, read_number, read-net}

-- A lane that has entries left: its next one, and where it stands.
module _ {d : List ℕ} {f n : ℕ} {ms : List Bits} {x : Lane} (e : Entries d f n) (r : Runs d f n ms x) (h : Live x) where
  run-live : of_length x.len ms ≡ network_at f d x.next ∷ networks_in f d (suc x.next) (x.end - suc x.next)
  run-live = sym r.rest ∙ networks_in-first f d x.next x.end h

  run-listed : (member (network_at f d x.next) ms ≡ true) × (length (network_at f d x.next) ≡ x.len)
  run-listed = of_length-first x.len (network_at f d x.next) (networks_in f d (suc x.next) (x.end - suc x.next)) ms run-live

  run-place : number (width f) (network_at f d x.next) ≡ place_of x
  run-place = read_number e x.next (omega (arith, r.to)) ∙ ap address (r.head h)

-- The lane of the first network.
module _ {d : List ℕ} {f n : ℕ} {q : Bits} {ms : List Bits} {x : Lane} (e : Entries d f n) (r : Runs d f n (q ∷ ms) x) (i : x.len ≡ length q) where
  first : (x.next < x.end) × (network_at f d x.next ≡ q) × (networks_in f d (suc x.next) (x.end - suc x.next) ≡ of_length x.len ms)
  first = networks_in-cons f d x.next x.end q (of_length x.len ms) (r.rest ∙ ap (λ k. of_length k (q ∷ ms)) i ∙ of_length-head q ms ∙ ap (λ k. q ∷ of_length k ms) (sym i))

  pub first_short : length q ≤ width f
  first_short = rw first.1 at (network_at-within f d x.next)

  pub first-net : net_words f x.hi x.lo x.len ≡ net_from f q
  first-net = sym (r.head first.0) ∙ sym (read-net e x.next (omega (arith, r.to, first.0))) ∙ ap (net_from f) first.1

-- The first lane has the first network: any other has only later ones, and of two at one place the shorter stands first.
module _ {d : List ℕ} {f : ℕ} {c : List ℕ} {q : Bits} {ms : List Bits} (o : Flow d f c (q ∷ ms)) where
  no-later : (j : ℕ) → j < lanes_of c → (place_of (lane_at c 0) ≤ place_of (lane_at c j)) × (place_of (lane_at c 0) ≡ place_of (lane_at c j) → (lane_at c 0).len ≤ (lane_at c j).len)
  no-later j i = go (ℕ_discrete j 0)
    where
      go : Dec (j ≡ 0) → (place_of (lane_at c 0) ≤ place_of (lane_at c j)) × (place_of (lane_at c 0) ≡ place_of (lane_at c j) → (lane_at c 0).len ≤ (lane_at c j).len)
      go (yes y) = rw y (omega arith, λ z. omega arith)
      go (no y) = let h = o.sorted 0 j (omega arith) (omega arith) i in (h.place, λ z. omega (arith, h.tie z))

  pub flow-first : (0 < lanes_of c) × ((lane_at c 0).len ≡ length q)
  flow-first =
      let e = o.entries in
      let k = o.lanes.known q (member-first q ms) in
      let j = k.0 in
      let u = o.lanes.runs j k.1 in
      let h = first e u k.2 in
      let b : 0 < lanes_of c = omega (arith, k.1) in
      let v = o.lanes.runs 0 b in
      let g = o.live 0 b in
      let p = network_at f d (lane_at c 0).next in
      let s = run-listed e v g in
      let here : number (width f) q ≡ place_of (lane_at c j) = rw h.1 at (run-place e u h.0) in
      let there : number (width f) p ≡ place_of (lane_at c 0) = run-place e v g in
      let same : p ≡ q = rising-least (width f) q ms p o.rises s.0 (first_short e u k.2) (network_at-within f d (lane_at c 0).next) (omega (arith, (no-later j k.1).0))
      (λ z. omega (arith, s.1, k.2, (no-later j k.1).1 (omega arith))) in
      (b, sym s.1 ∙ ap length same)

pub flow-nothing : {d : List ℕ} {f : ℕ} {c : List ℕ} → Flow d f c [] → lanes_of c ≡ 0
flow-nothing {d} {f} {c} o = go (dec_lt 0 (lanes_of c))
  where
    go : Dec (0 < lanes_of c) → lanes_of c ≡ 0
    go (yes b) = let t : [] ≡ _ = run-live o.entries (o.lanes.runs 0 b) (o.live 0 b) in let z : ◌≡◌ {A = ℕ} 0 1 = cc in absurd (omega arith)
    go (no b) = omega arith

-- What moving the head's lane on asks of it.
pub here-asks : {d : List ℕ} {f : ℕ} {c : List ℕ} {q : Bits} {ms : List Bits} (o : Flow d f c (q ∷ ms)) (x : Lane) → x ≡ lane_at c (0)
    → (x.next < x.end) × ((x.end ≤ 4194304) × (file_bytes f x.end ≤ length d))
here-asks {d} {f} {c} {q} {ms} o x i =
    let e = o.entries in
    let r = rw (← i) at (o.lanes.runs (0) (flow-first o).0) in
    ((first e r (ap (λ (y : Lane). y.len) i ∙ (flow-first o).1)).0, (omega (arith, r.to, e.few), omega (arith, e.fits, file_bytes-mono f r.to)))

-- Behind the first network its lane has the others of its length.
module _ {d : List ℕ} {f : ℕ} {c : List ℕ} {q : Bits} {ms : List Bits} (o : Flow d f c (q ∷ ms)) {y : Lane} (u : Onward d f (lane_at c (0)) y) where
  run : Runs d f o.n (q ∷ ms) (lane_at c (0))
  run = o.lanes.runs (0) (flow-first o).0

  others : ((lane_at c (0)).next < (lane_at c (0)).end) × (network_at f d (lane_at c (0)).next ≡ q)
      × (networks_in f d (suc (lane_at c (0)).next) ((lane_at c (0)).end - suc (lane_at c (0)).next) ≡ of_length (lane_at c (0)).len ms)
  others = first o.entries run (flow-first o).1

  same_length : Live y → (entry_net f d (suc (lane_at c (0)).next)).len ≡ (lane_at c (0)).len
  same_length h =
      let x = lane_at c (0) in
      let i = suc x.next in
      let g : i < x.end = omega (arith, u.next, u.end) in
      let t = of_length-first x.len (network_at f d i) (networks_in f d (suc i) (x.end - suc i)) ms (sym others.2 ∙ networks_in-first f d i x.end g) in
      sym (read_length o.entries i (omega (arith, run.to))) ∙ t.1

  run-onward : Runs d f o.n ms y
  unfolding entry_net
  run-onward =
      let z = u.next ∙ add-one (lane_at c (0)).next in
      record {
        from = omega (arith, u.next, u.end, others.0);
        to = omega (arith, u.end, run.to);
        rest = rw (z, u.end, u.len) others.2;
        head = λ h. rw (z, u.hi h, u.lo h, u.len, ← same_length h, add-one (lane_at c (0)).next);
      }

  place : 5 * 0 + 5 ≤ length c
  place = omega (arith, o.lanes.wide)

  lanes-same : lanes_of (put_lane c 0 y) ≡ lanes_of c
  lanes-same = lanes_of-put_lane c 0 y (omega arith)

  len-same : (i : ℕ) → (lane_at (put_lane c 0 y) i).len ≡ (lane_at c i).len
  len-same i = go (ℕ_discrete i 0)
    where
      go : Dec (i ≡ 0) → (lane_at (put_lane c 0 y) i).len ≡ (lane_at c i).len
      go (yes e) = rw (e, lane_at-put c 0 y place) u.len
      go (no ne) = rw (lane_at-put_lane c i 0 y ne)

  run-same : (i : ℕ) → i < lanes_of c → Runs d f o.n ms (lane_at (put_lane c 0 y) i)
  run-same i h = go (ℕ_discrete i 0)
    where
      go : Dec (i ≡ 0) → Runs d f o.n ms (lane_at (put_lane c 0 y) i)
      go (yes e) = rw (e, lane_at-put c 0 y place) run-onward
      go (no ne) =
          let r = o.lanes.runs i h in
          rw (lane_at-put_lane c i 0 y ne)
          (record {
            from = r.from;
            to = r.to;
            rest = r.rest ∙ of_length-other (lane_at c i).len q ms (λ t. o.lanes.apart i 0 ne h (flow-first o).0 (sym t ∙ sym (flow-first o).1));
            head = r.head;
          })

  pub onward-sinks : Sinks c 0 y
  onward-sinks =
      let s = o.lanes in
      let b = (flow-first o).0 in
      record { wide = s.wide; few = s.few; here = b; other = λ i h g t. s.apart i 0 (omega arith) g b (t ∙ u.len) }

  -- the lane in its old place
  lanes-onward : Lanes d f o.n (put_lane c 0 y) ms
  lanes-onward =
      let s = o.lanes in
      let m = lanes-same in
      record {
        wide = length-put_lane c 0 y ∙ s.wide;
        few = rw m s.few;
        runs = λ j h. run-same j (rw m at h);
        apart = λ i j n h g e. s.apart i j n (rw m at h) (rw m at g) (sym (len-same i) ∙ e ∙ len-same j);
        known = λ p k. let z = s.known p (member-later p q ms k) in (z.0, rw m z.1, len-same z.0 ∙ z.2);
      }

  module _ {c' : List ℕ} {p : ℕ} (s : Sunk c 0 y c' p) where
    other : (i : ℕ) → (i ≡ 0 → ⊥) → lane_at c i ≡ lane_at (put_lane c 0 y) i
    other i n = sym (lane_at-put_lane c i 0 y n)

    -- so it went from there
    sunk : Sunk (put_lane c 0 y) 0 y c' p
    sunk =
        let r = s.raised in
        record {
          raised = record {
            from = r.from;
            to = rw lanes-same r.to;
            wide = r.wide ∙ sym (length-put_lane c 0 y);
            count = r.count ∙ sym lanes-same;
            below = λ i h. absurd (omega arith);
            up = λ i h g. r.up i h g ∙ other (i + 1) (omega arith);
            behind = λ i h. r.behind i h ∙ other i (omega arith);
            passed = λ i h g v. rw (other (i + 1) (omega arith)) at (r.passed i h g v);
          };
          own = s.own;
          stops = λ h. rw (other (p + 1) (omega arith)) at (s.stops (rw lanes-same at h));
        }

    own : y ≡ lane_at (put_lane c 0 y) 0
    own = sym (lane_at-put c 0 y place)

    lanes-sunk : Lanes d f o.n c' ms
    lanes-sunk =
        let l = lanes-onward in
        let m = sunk.raised.count in
        record {
          wide = sunk.raised.wide ∙ l.wide;
          few = rw m l.few;
          runs = λ j h. let k = sunk-old sunk own j (rw m at h) in rw k.2 (l.runs k.0 k.1);
          apart = sunk-apart sunk own l.apart;
          known = λ r t. let z = l.known r t in let k = sunk-kept sunk own z.0 z.1 in (k.0, rw m k.1, ap (λ (x : Lane). x.len) k.2 ∙ z.2);
        }

    -- with entries left it stands where it belongs
    module _ (v : Live y) where
      live-onward : (j : ℕ) → j < lanes_of (put_lane c 0 y) → Live (lane_at (put_lane c 0 y) j)
      live-onward j h = go (ℕ_discrete j 0)
        where
          go : Dec (j ≡ 0) → Live (lane_at (put_lane c 0 y) j)
          go (yes e) = rw (e, lane_at-put c 0 y place) v
          go (no ne) = rw (lane_at-put_lane c j 0 y ne) (o.live j (rw lanes-same at h))

      pub flow-onward : Flow d f c' ms
      flow-onward =
          record {
            n = o.n;
            entries = o.entries;
            lanes = lanes-sunk;
            live = λ j h. let k = sunk-old sunk own j (rw sunk.raised.count at h) in rw k.2 (live-onward k.0 k.1);
            sorted = sunk-sorted sunk own v
                (λ i j h g l. rw (← other i (omega arith), ← other j (omega arith)) (o.sorted i j (omega arith) g (rw lanes-same at l)));
            rises = rising-tail q ms o.rises;
          }

    -- without entries it is the last, and no network has its length
    module _ (v : y.end ≤ y.next) where
      last : lanes_of c' ≡ p + 1
      last = go (dec_lt (p + 1) (lanes_of c))
        where
          go : Dec (p + 1 < lanes_of c) → lanes_of c' ≡ p + 1
          go (yes h) = absurd (omega (arith, (s.stops h).0))
          go (no h) = omega (arith, s.raised.count, s.raised.to)

      pub dropped-asks : 1 ≤ lanes_of c'
      dropped-asks = omega (arith, last)

      none_left : (r : Bits) → member r ms ≡ true → y.len ≡ length r → ⊥
      unfolding networks_in
      none_left r m e =
          let z : y.end - y.next ≡ 0 = omega arith in
          let w : [] ≡ of_length y.len ms = rw z at run-onward.rest in
          let t : (member r ms && eqb (length r) y.len) ≡ true = rw (m, eq-eqb (length r) y.len (sym e)) in
          false≢true (ap (member r) w ∙ member-of_length y.len r ms ∙ t)

      module _ (k : ℕ) (e : k ≡ lanes_of c' - 1) where
        fewer : lanes_of (set c' 645 k) ≡ p
        fewer = lanes_of-set c' k lanes-sunk.wide ∙ omega (arith, last)

        same : (i : ℕ) → i < p → lane_at (set c' 645 k) i ≡ lane_at c' i
        same i h = lane_at-set c' i 645 k (omega (arith, last, lanes-sunk.few))

        raised : (i : ℕ) → i < p → lane_at (set c' 645 k) i ≡ lane_at c (i + 1)
        raised i h = same i h ∙ s.raised.up i (omega arith) h

        lanes-dropped : Lanes d f o.n (set c' 645 k) ms
        lanes-dropped =
            let l = lanes-sunk in
            record {
              wide = length-set c' 645 k ∙ l.wide;
              few = omega (arith, fewer, last, l.few);
              runs = λ j h. let g = rw fewer at h in rw (same j g) (l.runs j (omega (arith, last)));
              apart = λ i j n h g t.
                  let a = rw fewer at h in
                  let b = rw fewer at g in
                  l.apart i j n (omega (arith, last)) (omega (arith, last)) (rw (same i a, same j b) at t);
              known = λ r m. let z = l.known r m in known r m z.0 z.1 z.2 (ℕ_discrete z.0 p);
            }
          where
            known : (r : Bits) → member r ms ≡ true → (j : ℕ) → j < lanes_of c' → (lane_at c' j).len ≡ length r → Dec (j ≡ p)
                → (i : ℕ) × (i < lanes_of (set c' 645 k)) × ((lane_at (set c' 645 k) i).len ≡ length r)
            known r m j h t (yes x) = absurd (none_left r m (sym (ap (λ (w : Lane). w.len) s.own) ∙ (rw x at t)))
            known r m j h t (no x) = let g : j < p = omega (arith, last) in (j, rw fewer g, rw (same j g) t)

        pub flow-dropped : Flow d f (set c' 645 k) ms
        flow-dropped =
            record {
              n = o.n;
              entries = o.entries;
              lanes = lanes-dropped;
              live = λ j h. let g = rw fewer at h in rw (raised j g) (o.live (j + 1) (omega (arith, s.raised.to)));
              sorted = λ i j h g l.
                  let m = rw fewer at l in
                  rw (raised i (omega arith), raised j m) (o.sorted (i + 1) (j + 1) (omega arith) (omega arith) (omega (arith, s.raised.to)));
              rises = rising-tail q ms o.rises;
            }
