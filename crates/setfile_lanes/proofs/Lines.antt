-- Lining up: the entries of the next length, in a lane of their own. The entries come in the order of a list, so no other lane has that length. Assumes nothing.
use mathlib.Core.Bool.{true, false≢true}
use mathlib.Core.List.{List, [], ◌++◌, append-nil}
use mathlib.Core.Logic.{◌⊎◌, inl, inr, ⊎_elim}
use mathlib.Core.Path.{◌≡◌, refl, ap, sym, ◌∙◌}
use Prim.Native.Nat.{ℕ, zero, suc, ◌+◌, ◌-◌, ◌≤◌, ◌<◌}
use native.Mathlib.Decide.{ℕ_discrete, dec_lt}
use native.Mathlib.Numerals.{add-one}
use native.Mathlib.Omega.{arith}
use lib.ListN.{length, set, replicate, length-set}
use borrow.Author.Tests.{eq-eqb}
use Rattle.nets.specs.Bits.{Bits}
use Rattle.nets.specs.Lists.{member}
use Rattle.nets.specs.declared.Net.{Net}
use Rattle.nets.proofs.Strings.{or_cases}
use Rattle.nets.proofs.Members.{any_of-append}
use Rattle.nets.proofs.Numbers.{width-le}
use Rattle.setfile_format.specs.Files.{entry_net, networks_in}
use Rattle.address_order.specs.Streams.{of_length}
use Rattle.setfile_format.proofs.FileOrder.{network_at, networks_in-append}
use Rattle.address_order.proofs.Rising.{member-cons}
use Rattle.address_order.proofs.Streams.{of_length-append, of_length-none}
use Rattle.setfile_lanes.specs.Lanes.{lane_at, put_lane, lanes_of, Live, Runs, Lined, Adds}
use Rattle.setfile_lanes.specs.declared.lanes.Lane.{Lane}
use Rattle.setfile_lanes.proofs.Cursors.{length-put_lane, lane_at-put, lane_at-put_lane, lane_at-set, lanes_of-set}
use Rattle.setfile_lanes.proofs.Read.{read-within, read_length}
use Rattle.setfile_lanes.proofs.Halving.{lens-up}

-- entries of the length k
module _ (d : List ℕ) (f k : ℕ) where
  run-own : (i m : ℕ) → ((t : ℕ) → i ≤ t → t < i + m → length (network_at f d t) ≡ k) → of_length k (networks_in f d i m) ≡ networks_in f d i m
  unfolding networks_in
  run-own i zero h = refl
  run-own i (suc m) h = rw (eq-eqb (length (network_at f d i)) k (h i (omega arith) (omega arith)), run-own (suc i) m (λ t a b. h t (omega arith) (omega arith)))

  run-member : (i m : ℕ) → ((t : ℕ) → i ≤ t → t < i + m → length (network_at f d t) ≡ k) → (q : Bits) → member q (networks_in f d i m) ≡ true → length q ≡ k
  unfolding networks_in
  run-member i zero h q e = absurd (false≢true e)
  run-member i (suc m) h q e =
      ⊎_elim (λ z. ap length z ∙ h i (omega arith) (omega arith)) (λ z. run-member (suc i) m (λ t a b. h t (omega arith) (omega arith)) q z)
      (member-cons q (network_at f d i) (networks_in f d (suc i) m) e)

-- one of two numbers is the smaller
sides : (a b : ℕ) → (a ≡ b → ⊥) → (a < b) ⊎ (b < a)
sides a b n = go (dec_lt a b)
  where
    go : Dec (a < b) → (a < b) ⊎ (b < a)
    go (yes l) = inl l
    go (no l) = inr (omega arith)

-- no lane yet
pub lined-none : {d : List ℕ} {f n : ℕ} → Lined d f n (replicate 646 0) 0
unfolding networks_in lanes_of
lined-none {d} {f} {n} =
    record {
      lanes = record {
        wide = refl;
        few = omega arith;
        runs = λ j h. absurd (omega arith);
        apart = λ i j n h. absurd (omega arith);
        known = λ q m. absurd (false≢true m);
      };
      order = λ i j h g. absurd (omega arith);
      full = λ j h. absurd (omega arith);
      high = λ j h. absurd (omega arith);
      below = λ j h. absurd (omega arith);
    }

-- The entries from i up to e more: lane j, the last, is y and has them; the lanes before it have shorter lengths and are as they were.
module _ {d : List ℕ} {f n : ℕ} {c : List ℕ} {i e : ℕ} {x : Net} (s : Adds d f n c i e x) where
  more : i < n
  more = omega (arith, s.run.from, s.run.to)

  new-length : (t : ℕ) → i ≤ t → t < i + (e - i) → length (network_at f d t) ≡ (entry_net f d i).len
  new-length t a b = read_length s.file.entries t (omega (arith, s.run.to)) ∙ s.run.same t a (omega (arith, s.run.from))

  all-last : networks_in f d 0 e ≡ networks_in f d 0 i ++ networks_in f d i (e - i)
  all-last = let g : i + (e - i) ≡ e = omega (arith, s.run.from) in let z : 0 + i ≡ i = omega arith in rw (g, z) at (networks_in-append f d 0 i (e - i))

  -- another length has no more, and this length has these more
  rest-other : (k : ℕ) → (k ≡ (entry_net f d i).len → ⊥) → of_length k (networks_in f d 0 e) ≡ of_length k (networks_in f d 0 i)
  rest-other k ne =
      let z : of_length k (networks_in f d i (e - i)) ≡ [] = of_length-none k (networks_in f d i (e - i)) (λ q m u. ne (sym u ∙ run-member d f (entry_net f d i).len i (e - i) new-length q m)) in
      rw all-last (of_length-append k (networks_in f d 0 i) (networks_in f d i (e - i)) ∙ rw z (append-nil (of_length k (networks_in f d 0 i))))

  rest-this : (k : ℕ) → k ≡ (entry_net f d i).len → of_length k (networks_in f d 0 e) ≡ of_length k (networks_in f d 0 i) ++ networks_in f d i (e - i)
  rest-this k u = rw all-last (of_length-append k (networks_in f d 0 i) (networks_in f d i (e - i)) ∙ ap (λ l. of_length k (networks_in f d 0 i) ++ l) (rw u (run-own d f (entry_net f d i).len i (e - i) new-length)))

  record Next (j : ℕ) (y : Lane) (c' : List ℕ) : Type 0 where
    wide : length c' ≡ 646
    count : lanes_of c' ≡ suc j
    own : lane_at c' j ≡ y
    other : (k : ℕ) → k < j → lane_at c' k ≡ lane_at c k
    first : lanes_of c ≡ j
    run : Runs d f e (networks_in f d 0 e) y
    long : y.len ≡ (entry_net f d i).len
    live : Live y
    high : j ≤ y.len

  module _ {j : ℕ} {y : Lane} {c' : List ℕ} (o : Next j y c') where
    shorter : (k : ℕ) → k < j → (lane_at c k).len < (entry_net f d i).len
    shorter k h = s.lined.below k (omega (arith, o.first)) more

    old-run : (k : ℕ) → k < j → Runs d f e (networks_in f d 0 e) (lane_at c k)
    old-run k h =
        let r = s.lined.lanes.runs k (omega (arith, o.first)) in
        record { from = r.from; to = omega (arith, r.to, s.run.from); rest = r.rest ∙ sym (rest-other (lane_at c k).len (λ u. omega (arith, shorter k h))); head = r.head }

    -- a fact of lane j, and of those before it
    each : (P : ℕ → Lane → Type 0) → P j y → ((k : ℕ) → k < j → P k (lane_at c k)) → (k : ℕ) → k < lanes_of c' → P k (lane_at c' k)
    each P a b k h = go (ℕ_discrete k j)
      where
        go : Dec (k ≡ j) → P k (lane_at c' k)
        go (yes u) = rw (u, o.own) a
        go (no ne) = let g : k < j = omega (arith, o.count) in rw (o.other k g) (b k g)

    next_known : (q : Bits) → member q (networks_in f d 0 e) ≡ true → (k : ℕ) × (k < lanes_of c') × ((lane_at c' k).len ≡ length q)
    next_known q m =
        ⊎_elim there (λ z. at_last (sym (run-member d f (entry_net f d i).len i (e - i) new-length q z)))
        (or_cases (member q (networks_in f d 0 i)) (member q (networks_in f d i (e - i))) (sym (any_of-append _ (networks_in f d 0 i) (networks_in f d i (e - i))) ∙ (rw all-last at m)))
      where
        at_last : (entry_net f d i).len ≡ length q → (k : ℕ) × (k < lanes_of c') × ((lane_at c' k).len ≡ length q)
        at_last u = (j, omega (arith, o.count), rw o.own (o.long ∙ u))

        there : member q (networks_in f d 0 i) ≡ true → (k : ℕ) × (k < lanes_of c') × ((lane_at c' k).len ≡ length q)
        there z =
            let k = s.lined.lanes.known q z in
            (k.0, omega (arith, o.count, o.first, k.1), rw (o.other k.0 (omega (arith, o.first, k.1))) k.2)

    next-order : (a b : ℕ) → a < b → b < lanes_of c' → (lane_at c' a).len < (lane_at c' b).len
    next-order a b h g = rw (o.other a (omega (arith, o.count))) (go (ℕ_discrete b j))
      where
        go : Dec (b ≡ j) → (lane_at c a).len < (lane_at c' b).len
        go (yes u) = rw (u, o.own) (omega (arith, o.long, shorter a (omega arith)))
        go (no ne) = let l : b < j = omega (arith, o.count) in rw (o.other b l) (s.lined.order a b h (omega (arith, o.first)))

    lined-next : Lined d f n c' e
    lined-next =
        record {
          lanes = record {
            wide = o.wide;
            few = omega (arith, o.count, o.high, o.long, read-within s.file.entries i more, width-le f);
            runs = each (λ _ z. Runs d f e (networks_in f d 0 e) z) o.run old-run;
            apart = λ a b n h g z. ⊎_elim (λ l. omega (arith, next-order a b l g)) (λ l. omega (arith, next-order b a l h)) (sides a b n);
            known = next_known;
          };
          order = next-order;
          full = each (λ _ z. Live z) o.live (λ k h. s.lined.full k (omega (arith, o.first)));
          high = each (λ k z. k ≤ z.len) o.high (λ k h. s.lined.high k (omega (arith, o.first)));
          below = λ k h g.
              let u = lens-up s.file i e (omega (arith, s.run.from)) g in
              let v : (entry_net f d i).len < (entry_net f d e).len = omega (arith, u, s.run.ends g) in
              each (λ _ z. z.len < (entry_net f d e).len) (omega (arith, o.long, v)) (λ k h. omega (arith, shorter k h, v)) k h;
        }

  none_yet : of_length (entry_net f d i).len (networks_in f d 0 i) ≡ []
  none_yet =
      of_length-none (entry_net f d i).len (networks_in f d 0 i)
      (λ q m u. let k = s.lined.lanes.known q m in omega (arith, s.lined.below k.0 k.1 more, k.2))

  begun-run : Runs d f e (networks_in f d 0 e) (record { next = i; end = e; hi = x.hi; lo = x.lo; len = x.len })
  unfolding entry_net
  begun-run =
      let z : x.len ≡ (entry_net f d i).len = ap (λ (z : Net). z.len) s.net in
      record {
        from = omega (arith, s.run.from);
        to = omega arith;
        rest = sym (rest-this x.len z ∙ rw (z, none_yet));
        head = λ h. rw s.net;
      }

  -- a lane is shorter than the next, so lane j has at least j bits
  begun-high : lanes_of c ≤ (entry_net f d i).len
  begun-high = go (lanes_of c) refl
    where
      go : (k : ℕ) → lanes_of c ≡ k → k ≤ (entry_net f d i).len
      go zero z = omega arith
      go (suc k) z = omega (arith, s.lined.below k (omega arith) more, s.lined.high k (omega arith))

  pub begun-few : lanes_of c < 129
  begun-few = omega (arith, begun-high, read-within s.file.entries i more, width-le f)

  pub lined-begun : Lined d f n (set (put_lane c (lanes_of c) (record { next = i; end = e; hi = x.hi; lo = x.lo; len = x.len })) 645 (lanes_of c + 1)) e
  lined-begun =
      let m = lanes_of c in
      let y : Lane = record { next = i; end = e; hi = x.hi; lo = x.lo; len = x.len } in
      let o = s.lined.lanes in
      let z : x.len ≡ (entry_net f d i).len = ap (λ (z : Net). z.len) s.net in
      let few = begun-few in
      let w : length (put_lane c m y) ≡ 646 = length-put_lane c m y ∙ o.wide in
      lined-next
      (record {
        wide = length-set (put_lane c m y) 645 (m + 1) ∙ w;
        count = lanes_of-set (put_lane c m y) (m + 1) w ∙ add-one m;
        own = lane_at-set (put_lane c m y) m 645 (m + 1) (omega arith) ∙ lane_at-put c m y (omega (arith, o.wide));
        other = λ k h. lane_at-set (put_lane c m y) k 645 (m + 1) (omega arith) ∙ lane_at-put_lane c k m y (omega arith);
        first = refl;
        run = begun-run;
        long = z;
        live = s.run.from;
        high = omega (arith, begun-high);
      })
