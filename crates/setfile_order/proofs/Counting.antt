-- Counting the nodes on the way through the networks, one head after the other: what was counted and what the others will add are the nodes of all, and as long as no network lies
-- inside the one before it, whether any does is up to the others. So `check` answers what the file reads as. Assumes nothing.
use mathlib.Core.Bool.{Bool, true, false, not, cond, ◌&&◌}
use mathlib.Core.List.{List, [], ◌∷◌}
use mathlib.Core.Path.{◌≡◌, refl, ap, sym, ◌∙◌}
use Prim.Native.Nat.{ℕ, suc, ◌+◌, ◌-◌, ◌≤◌, ◌<◌}
use native.Mathlib.Omega.{arith}
use lib.Dec.{eqb}
use lib.ListN.{length}
use borrow.Author.Tests.{eq-eqb, ne_eqb}
use Rattle.nets.specs.Bits.{Bits}
use Rattle.nets.specs.Lists.{ascending}
use Rattle.nets.specs.Networks.{net_from}
use Rattle.nets.specs.declared.Net.{Net}
use Rattle.setfile_format.specs.Files.{most_entries, head_number, are_clean, networks_in, is_file_header, read_file}
use Rattle.address_order.specs.Streams.{in_address_order, shared, loose, more_nodes, path_nodes}
use Rattle.setfile_format.proofs.RoundTrip.{length-networks_in}
use Rattle.setfile_format.proofs.Reading.{read_file-headless, read_file-unordered, read_file-inside, read_file-list, read_file-nodes, nodes-few}
use Rattle.address_order.proofs.Streams.{shared-leads, shared-le-right, length-order}
use Rattle.setfile_order.specs.Flow.{checked_as, check_rule, surveyed, head_as, Flow}
use Rattle.setfile_order.specs.declared.Head.{Head}
use Rattle.std.specs.Prelude.{Some, None}

-- the networks of the first n entries in address order
abbrev pub all_of : List ℕ → ℕ → ℕ → List Bits
all_of d f n = in_address_order (networks_in f d 0 n)

length-all : (d : List ℕ) (f n : ℕ) → length (all_of d f n) ≡ n
length-all d f n = length-order (networks_in f d 0 n) ∙ length-networks_in f d 0 n

-- h is head number k, and v nodes are counted.
pub record Survey (d : List ℕ) (f n : ℕ) (c : List ℕ) (h : Head) (k v : ℕ) : Type 0 where
  pub q : Bits
  pub ms : List Bits
  pub flow : Flow d f c (q ∷ ms)
  pub net : h.net ≡ net_from f q
  pub left : k + length ms ≡ n
  pub nodes : v + more_nodes q ms ≡ path_nodes (all_of d f n)
  pub apart : loose (q ∷ ms) ≡ loose (all_of d f n)

net-len : (n : Net) (f : ℕ) (q : Bits) → n ≡ net_from f q → n.len ≡ length q
unfolding net_from
net-len n f q e = ap (λ (x : Net). x.len) e

pub survey-none : (d : List ℕ) (f n : ℕ) → n ≡ 0 → checked_as (Some (f, 0)) ≡ surveyed f (all_of d f n)
unfolding surveyed networks_in in_address_order loose path_nodes
survey-none d f n e = rw e

pub survey-first : {d : List ℕ} {f n : ℕ} {c : List ℕ} {h : Head} → 0 < n → Flow d f c (all_of d f n) × (h ≡ head_as f [] (all_of d f n)) → Survey d f n c h 1 (h.net.len + 1)
unfolding head_as path_nodes
survey-first {d} {f} {n} {c} {h} s (i, e) = go (all_of d f n) refl
  where
    go : (ms : List Bits) → all_of d f n ≡ ms → Survey d f n c h 1 (h.net.len + 1)
    go [] x = absurd (omega (arith, length-all d f n, ap length x))
    go (q ∷ ms) x =
        let y : h.net ≡ net_from f q = ap (λ (z : Head). z.net) (rw x at e) in
        record {
          q = q;
          ms = ms;
          flow = rw x at i;
          net = y;
          left = omega (arith, length-all d f n, ap length x);
          nodes = rw x (omega (arith, net-len h.net f q y));
          apart = rw x;
        }

module _ {d : List ℕ} {f n : ℕ} {c : List ℕ} {h : Head} {k v : ℕ} (s : Survey d f n c h k v) where
  -- the last head: all is counted
  pub survey-end : n ≤ k → checked_as (Some (f, v)) ≡ surveyed f (all_of d f n)
  unfolding surveyed loose more_nodes
  survey-end l = go s.ms refl
    where
      go : (ms : List Bits) → s.ms ≡ ms → checked_as (Some (f, v)) ≡ cond (loose (all_of d f n)) (checked_as (Some (f, (path_nodes (all_of d f n))))) (checked_as None)
      go [] x =
          let a : loose (all_of d f n) ≡ true = sym (rw x at s.apart) in
          let b : path_nodes (all_of d f n) ≡ v = omega (arith, rw x at s.nodes) in
          rw (a, b)
      go (m ∷ ms) x = absurd (omega (arith, s.left, ap length x))

  module _ (l : k < n) {c' : List ℕ} {x : Head} (step : (q : Bits) (ms : List Bits) → Flow d f c (q ∷ ms) → h.net ≡ net_from f q → Flow d f c' ms × (x ≡ head_as f q ms)) where
    -- the next head
    record Next : Type 0 where
      m : Bits
      ms : List Bits
      is : s.ms ≡ m ∷ ms
      flow : Flow d f c' (m ∷ ms)
      deep : x.deep ≡ suc (shared s.q m)
      net : x.net ≡ net_from f m

    next : Next
    unfolding head_as
    next = go s.ms refl (step s.q s.ms s.flow s.net)
      where
        go : (ms : List Bits) → s.ms ≡ ms → Flow d f c' s.ms × (x ≡ head_as f s.q s.ms) → Next
        go [] e i = absurd (omega (arith, s.left, ap length e))
        go (m ∷ ms) e (i, j) =
            let y = rw e at j in
            record { m = m; ms = ms; is = e; flow = rw e at i; deep = ap (λ (z : Head). z.deep) y; net = ap (λ (z : Head). z.net) y }

    -- it lies inside the one before it exactly if it shares all its bits
    inside : (b : Bool) → eqb (shared s.q next.m) (length s.q) ≡ b → loose (all_of d f n) ≡ (not b && loose (next.m ∷ next.ms))
    unfolding loose
    inside b e = sym (rw next.is at s.apart) ∙ ap (λ z. not z && loose (next.m ∷ next.ms)) (shared-leads s.q next.m ∙ e)

    pub survey-inside : x.deep ≡ h.net.len + 1 → checked_as None ≡ surveyed f (all_of d f n)
    unfolding surveyed
    survey-inside e = rw (inside true (eq-eqb (shared s.q next.m) (length s.q) (omega (arith, next.deep, net-len h.net f s.q s.net))))

    pub survey-deep : x.deep ≤ x.net.len + 1
    survey-deep = omega (arith, next.deep, net-len x.net f next.m next.net, shared-le-right s.q next.m)

    total : v + (x.net.len + 1 - x.deep) + more_nodes next.m next.ms ≡ path_nodes (all_of d f n)
    unfolding more_nodes
    total = omega (arith, rw next.is at s.nodes, next.deep, net-len x.net f next.m next.net)

    pub survey-few : n ≤ most_entries → v + (x.net.len + 1 - x.deep) ≤ 536870913
    survey-few g = omega (arith, total, nodes-few f d n g)

    pub survey-next : (x.deep ≡ h.net.len + 1 → ⊥) → Survey d f n c' x (k + 1) (v + (x.net.len + 1 - x.deep))
    survey-next e = record {
      q = next.m;
      ms = next.ms;
      flow = next.flow;
      net = next.net;
      left = omega (arith, s.left, ap length next.is);
      nodes = total;
      apart = sym (inside false (ne_eqb (shared s.q next.m) (length s.q) (λ z. e (omega (arith, next.deep, net-len h.net f s.q s.net)))));
    }

-- What `check` answers, test by test.
module _ (d : List ℕ) where
  pub check-headless : is_file_header d ≡ false → checked_as None ≡ check_rule (read_file d)
  unfolding check_rule
  check-headless e = rw (read_file-headless d e)

  pub check-unordered : (are_clean (head_number d 0) d 0 (head_number d 1) && ascending (networks_in (head_number d 0) d 0 (head_number d 1))) ≡ false → checked_as None ≡ check_rule (read_file d)
  unfolding check_rule
  check-unordered e = rw (read_file-unordered d e)

  pub check-survey : is_file_header d ≡ true → (are_clean (head_number d 0) d 0 (head_number d 1) && ascending (networks_in (head_number d 0) d 0 (head_number d 1))) ≡ true
      → surveyed (head_number d 0) (all_of d (head_number d 0) (head_number d 1)) ≡ check_rule (read_file d)
  unfolding surveyed check_rule
  check-survey h o = go (loose (all_of d (head_number d 0) (head_number d 1))) refl
    where
      go : (b : Bool) → loose (all_of d (head_number d 0) (head_number d 1)) ≡ b
          → cond b (checked_as (Some ((head_number d 0), (path_nodes (all_of d (head_number d 0) (head_number d 1)))))) (checked_as None) ≡ check_rule (read_file d)
      go true e = rw (read_file-list d h o e, read_file-nodes d h o e)
      go false e = rw (read_file-inside d e)
