-- What is left, written batch by batch: a batch stands behind the entries that are there, in a part of the bytes. Assumes nothing.
use mathlib.Core.Bool.{Bool, true, false}
use mathlib.Core.List.{List, [], ◌∷◌, ◌++◌, append-nil}
use mathlib.Core.Path.{◌≡◌, refl, ap, sym, ◌∙◌}
use Prim.Native.Nat.{ℕ, suc, ◌+◌, ◌-◌, ◌*◌, ◌^◌, ◌≤◌, ◌<◌}
use native.Mathlib.Nat.{zero-add, mul-add}
use native.Mathlib.Numerals.{add-one}
use native.Mathlib.Decide.{dec_lt}
use native.Mathlib.Omega.{arith}
use lib.ListN.{length, get_or, take, drop, length-append, length-drop, drop_of_length-le, get_or-append}
use lib.Pow.{split}
use lib.Seq.{get_or-drop, get_or-take, get_or-append-add, length-take-le, take_all}
use Rattle.nets.specs.Bits.{Bits}
use Rattle.nets.specs.Lists.{Place}
use Rattle.nets.specs.Networks.{is_family, width, address, net_bits, net_from, big_endian}
use Rattle.nets.specs.declared.Net.{Net}
use Rattle.nets.proofs.Numbers.{net_bits-net_from}
use Rattle.nodes.specs.Words.{put}
use Rattle.nodes.proofs.Put.{length-put}
use Rattle.setfile_format.specs.Files.{header_bytes, address_bytes, entry_bytes, file_bytes, most_entries, entry_at, entry_of, entry_net, is_clean, are_clean, networks_in}
use Rattle.setfile_format.proofs.Written.{file_bytes-mono, file_bytes-few}
use Rattle.setfile_format.proofs.RoundTrip.{length-networks_in, clean-number, clean-length}
use Rattle.setfile_format.proofs.FileOrder.{network_at, network_at-within, are_clean-at, networks_in-append}
use Rattle.salvage_lists.specs.Ahead.{Part, Whole}
use Rattle.salvage_lists.proofs.Chains.{part-start, part_none}
use Rattle.salvage_lists.proofs.Left.{part_length, part-whole, whole-one}
use Rattle.salvage_batch.specs.Buffers.{Clean, Stands, Kept, Room, Gathers}
use Rattle.salvage_batch.specs.declared.Batch.{Batch}
use Rattle.salvage_batch.proofs.Places.{entry_net-cong, networks_in-cong, are_clean-cong, are_clean-append, entry-ends, networks_in-put, are_clean-put, put-here}
use Rattle.salvage_batch.proofs.Orders.{clean-net_from}
use Rattle.salvage_batch.proofs.Thinnings.{kept_trans, kept-written}
use Rattle.salvage_passes.specs.Parts.{place_at, Filling}
use Rattle.salvage_passes.proofs.Batches.{place_at-some, part-batch}

-- a clean entry whose address is in range is a clean network
entry-is : (f : ℕ) (d : List ℕ) (i : ℕ) → is_clean (entry_net f d i) ≡ true → address (entry_net f d i) < 2 ^ width f → net_from f (network_at f d i) ≡ entry_net f d i
unfolding entry_net net_from
entry-is f d i c low =
    rw (clean-number (entry_net f d i) c low, clean-length (entry_net f d i) c low, split (big_endian 256 (drop (entry_at f i) d) (address_bytes f)) 64)

entry-clean : (f : ℕ) (d : List ℕ) (i : ℕ) → is_family f ≡ true → is_clean (entry_net f d i) ≡ true → address (entry_net f d i) < 2 ^ width f → Clean f (entry_net f d i)
entry-clean f d i e c low = rw (← entry-is f d i c low) (clean-net_from f (network_at f d i) e (network_at-within f d i))

-- where the room behind the entries that are done begins
pub at-place : (f done : ℕ) {s : ℕ} → s ≡ entry_bytes f → s * done ≡ entry_bytes f * done
at-place f done e = ap (λ k. k * done) e

module _ {f : ℕ} {S T : List Bits} {m : ℕ} {v u : List ℕ} {done : ℕ} (o : Filling f S T m v u done) where
  pub filling-stands : Stands f u done
  filling-stands =
      record {
        family = o.family;
        few = omega (arith, o.few, o.most);
        fits = omega (arith, o.fits, file_bytes-mono f {i = done} {n = m} o.most);
        clean = o.clean;
      }

  -- a batch is not empty as long as some are left
  pub batch-some : {n : ℕ} {b : Batch} {l w : List ℕ} → Gathers f S (place_at f u done) n l b w → done < m → 1 ≤ b.count
  unfolding networks_in
  batch-some {b = b} g h = go b.more refl (dec_lt 0 b.count)
    where
      none : b.more ≡ false → b.count ≡ 0 → 1 ≤ b.count
      none x z =
          let w₀ : Whole S (networks_in f u 0 done) = part_none o.part (rw z at g.batch) x in
          absurd (omega (arith, ap length (whole-one w₀ o.whole), length-networks_in f u 0 done, o.long))

      go : (x : Bool) → b.more ≡ x → Dec (0 < b.count) → 1 ≤ b.count
      go x y (yes k) = k
      go true y (no k) = g.some y
      go false y (no k) = none y (omega arith)

  -- the part from byte `at` on, with an entry of the file at byte 16 of it
  module _ {at : ℕ} (q : at ≡ entry_bytes f * done) where
    pub at-fits : at ≤ length u
    unfolding file_bytes
    at-fits = omega (arith, filling-stands.fits)

    pub at-few : at ≤ 71303184
    unfolding file_bytes
    at-few = omega (arith, file_bytes-few f done filling-stands.few)

    rest : at + file_bytes f (m - done) ≡ file_bytes f m
    unfolding file_bytes
    rest = let p : done + (m - done) ≡ m = omega (arith, o.most) in omega (arith, rw p at (mul-add (entry_bytes f) done (m - done)))

    pub filling-room : done + 1 < m → Room f (drop at u) (m - done)
    filling-room h =
        record {
          family = o.family;
          two = omega arith;
          few = omega (arith, o.few);
          fits = rw (length-drop at u) (omega (arith, o.fits, rest));
        }

    -- a batch has been written there
    module _ {b : Batch} {w u' : List ℕ} (g : Gathers f S (place_at f u done) (m - done) (drop at u) b w) (e : u' ≡ take at u ++ w) where
      front : length (take at u) ≡ at
      front = length-take-le at u at-fits

      byte-before : (j : ℕ) → j < at → get_or u' j 0 ≡ get_or u j 0
      byte-before j h = ap (λ x. get_or x j 0) e ∙ get_or-append (take at u) w 0 j (rw front h) ∙ get_or-take at u j 0 h

      byte-behind : (k : ℕ) → get_or u' (at + k) 0 ≡ get_or w k 0
      byte-behind k = ap (λ x. get_or x (at + k) 0) e ∙ ap (λ n. get_or (take at u ++ w) (n + k) 0) (sym front) ∙ get_or-append-add (take at u) w k 0

      byte-kept : (j : ℕ) → (header_bytes + at ≤ j → j < file_bytes f m → ⊥) → get_or u' j 0 ≡ get_or u j 0
      byte-kept j h = go (dec_lt j at)
        where
          go : Dec (j < at) → get_or u' j 0 ≡ get_or u j 0
          go (yes l) = byte-before j l
          go (no l) =
              let p : at + (j - at) ≡ j = omega arith in
              rw p at (byte-behind (j - at) ∙ g.kept.outside (j - at) (λ x y. h (omega arith) (omega (arith, rest))) ∙ get_or-drop at u (j - at) 0)

      long : length u' ≡ length u
      long = ap length e ∙ length-append (take at u) w ∙ omega (arith, front, g.kept.long, length-drop at u, at-fits)

      entry-before : (i : ℕ) → i < done → entry_net f u' i ≡ entry_net f u i
      entry-before i h = entry_net-cong f u' u i i (λ r l. byte-kept (entry_at f i + r) (λ x y. omega (arith, entry-ends f i done h)))

      entry-behind : (i : ℕ) → entry_net f u' (done + i) ≡ entry_net f w i
      entry-behind i =
          entry_net-cong f u' w (done + i) i
          (λ r l. let p : entry_at f (done + i) + r ≡ at + (entry_at f i + r) = omega (arith, mul-add (entry_bytes f) done i) in ap (λ n. get_or u' n 0) p ∙ byte-behind (entry_at f i + r))

      networks : networks_in f u' 0 (done + b.count) ≡ networks_in f u 0 done ++ networks_in f w 0 b.count
      networks =
          networks_in-append f u' 0 done b.count
          ∙ rw (
            networks_in-cong f u' u 0 0 done (λ r l. rw (zero-add r) (entry-before r l)),
            networks_in-cong f u' w (0 + done) 0 b.count (λ r l. rw (zero-add done, zero-add r) (entry-behind r)),
          )

      cleans : are_clean f u' 0 (done + b.count) ≡ true
      cleans =
          are_clean-append f u' 0 done b.count
          ∙ rw (
            are_clean-cong f u' u 0 0 done (λ r l. rw (zero-add r) (entry-before r l)),
            are_clean-cong f u' w (0 + done) 0 b.count (λ r l. rw (zero-add done, zero-add r) (entry-behind r)),
            o.clean,
            g.clean,
          )

      place-behind : 1 ≤ b.count → place_at f u' (done + b.count) ≡ place_at f w b.count
      place-behind h =
          let p : done + b.count - 1 ≡ done + (b.count - 1) = omega arith in
          place_at-some f u' (done + b.count) (omega arith) ∙ rw (p, entry-behind (b.count - 1)) (sym (place_at-some f w b.count h))

      pub filling-batch : done < m → Filling f S T m v u' (done + b.count)
      filling-batch h =
          let k = batch-some g h in
          record {
            family = o.family;
            few = o.few;
            fits = rw long o.fits;
            kept = kept_trans o.kept (record { long = long; outside = λ j x. byte-kept j (λ y z. x (omega arith) z) });
            most = omega (arith, g.most, o.most);
            clean = cleans;
            whole = o.whole;
            long = o.long;
            part = rw (networks, place-behind k) (part-batch f w b.count o.part g.batch k);
          }

  -- the last one
  module _ (h : done + 1 ≡ m) {n : ℕ} {b : Batch} {l₀ w : List ℕ} (g : Gathers f S (place_at f u done) n l₀ b w) where
    some : 1 ≤ b.count
    some = batch-some g (omega arith)

    grown : Part S (place_at f w b.count) (networks_in f u 0 done ++ networks_in f w 0 b.count)
    grown = part-batch f w b.count o.part g.batch some

    one : b.count ≡ 1
    one =
        let x = part_length o.whole grown in
        let y = length-append (networks_in f u 0 done) (networks_in f w 0 b.count) in
        omega (arith, x, y, length-networks_in f u 0 done, length-networks_in f w 0 b.count, o.long, some)

    pub last-clean : address (entry_net f w 0) < 2 ^ width f → Clean f (entry_net f w 0)
    last-clean low = entry-clean f w 0 o.family (are_clean-at f w 0 b.count 0 g.clean (omega arith) (omega (arith, some))) low

    pub last-room : (done < 4194304) × (file_bytes f (done + 1) ≤ length u)
    last-room = (omega (arith, o.few), rw h o.fits)

    module _ (x : Net) (e : x ≡ entry_net f w 0) (low : address x < 2 ^ width f) {u' : List ℕ} (q : u' ≡ put u (entry_at f done) (entry_of f (net_bits x))) where
      clean : Clean f x
      clean = rw e (last-clean (rw e at low))

      end : entry_at f (suc done) ≤ length u
      unfolding file_bytes
      end = rw (add-one done) at last-room.1

      first : networks_in f w 0 b.count ≡ net_bits x ∷ []
      unfolding networks_in
      first = rw (one, e)

      place : place_at f u' (done + 1) ≡ place_at f w b.count
      place =
          let p : done + 1 - 1 ≡ done = omega arith in
          place_at-some f u' (done + 1) (omega arith)
          ∙ rw (p, q, put-here f done u (net_bits x) clean.short end, net_bits-net_from f (net_bits x) clean.short, one, e) (sym (place_at-some f w 1 (omega arith)))

      pub filling-last : Filling f S T m v u' m
      filling-last =
          rw (← h)
          (record {
            family = o.family;
            few = rw h o.few;
            fits = rw (h, q, length-put u (entry_at f done) (entry_of f (net_bits x))) o.fits;
            kept = rw h (kept_trans o.kept (kept-written f done m (net_bits x) q (omega arith)));
            most = omega arith;
            clean = rw q (are_clean-put f done u (net_bits x) clean.short end o.clean);
            whole = o.whole;
            long = rw h o.long;
            part = rw (place, q, networks_in-put f done u (net_bits x) clean.short end, ← first) grown;
          })

pub filling-start : {f : ℕ} {S T : List Bits} {m : ℕ} {v u : List ℕ} → is_family f ≡ true → m ≤ most_entries → file_bytes f m ≤ length u → Kept f m v u → Whole S T → length T ≡ m → Filling f S T m v u 0
unfolding networks_in are_clean place_at
filling-start e few fits k w l = record { family = e; few = few; fits = fits; kept = k; most = omega arith; clean = refl; whole = w; long = l; part = part-start }

-- all is written
pub filling-all : {f : ℕ} {S T : List Bits} {m : ℕ} {v u : List ℕ} → Filling f S T m v u m → networks_in f u 0 m ≡ T
filling-all {f} {m = m} {u = u} o = part-whole o.whole o.part (omega (arith, length-networks_in f u 0 m, o.long))

-- A part of the bytes, as it is lent and as it comes back.
part-lent : (at : ℕ) (u : List ℕ) → take (length u - at) (drop at u) ≡ drop at u
part-lent at u = take_all (length u - at) (drop at u) (omega (arith, length-drop at u))

part-back : (at : ℕ) (u w : List ℕ) → take at u ++ (w ++ drop (length u - at) (drop at u)) ≡ take at u ++ w
part-back at u w = let e : drop (length u - at) (drop at u) ≡ [] = drop_of_length-le (drop at u) {i = length u - at} (omega (arith, length-drop at u)) in rw (e, append-nil w)

module _ {f : ℕ} {S T : List Bits} {m : ℕ} {v u : List ℕ} {done : ℕ} (o : Filling f S T m v u done) {at : ℕ} (q : at ≡ entry_bytes f * done) where
  pub part_room : done + 1 < m → Room f (take (length u - at) (drop at u)) (m - done)
  part_room h = rw (part-lent at u) (filling-room o q h)

  pub part_filled : {a : Place} {b : Batch} {w : List ℕ} → Gathers f S a (m - done) (take (length u - at) (drop at u)) b w → a ≡ place_at f u done → done < m
      → Filling f S T m v (take at u ++ (w ++ drop (length u - at) (drop at u))) (done + b.count)
  part_filled {w = w} g e h =
      let k = rw (part-lent at u, e) at g in
      rw (part-back at u w) (filling-batch o q k refl h)

  pub part-some : {a : Place} {b : Batch} {n : ℕ} {l w : List ℕ} → Gathers f S a n l b w → a ≡ place_at f u done → done < m → done < done + b.count
  part-some g e h = omega (arith, batch-some o (rw e at g) h)

-- a buffer with room has its first entry
pub local-first : {f n : ℕ} {S : List Bits} {a : Place} {b : Batch} {l w : List ℕ} → Room f l n → Gathers f S a n l b w → (0 ≤ 4194304) × (file_bytes f (0 + 1) ≤ length w)
local-first {f} {n} r g = (omega arith, rw g.kept.long (omega (arith, r.fits, r.two, file_bytes-mono f {i = 0 + 1} {n = n} (omega (arith, r.two)))))
