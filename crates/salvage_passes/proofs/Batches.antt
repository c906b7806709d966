-- Batches put one behind the other: counted, and written. Assumes nothing.
use mathlib.Core.Bool.{Bool, true, false, cond, true≢false}
use mathlib.Core.List.{List, [], ◌++◌}
use mathlib.Core.Path.{◌≡◌, refl, ap, sym, ◌∙◌}
use Prim.Native.Nat.{ℕ, zero, suc, ◌+◌, ◌-◌, ◌*◌, ◌≤◌, ◌<◌}
use native.Mathlib.Omega.{arith}
use lib.Dec.{eqb}
use borrow.Author.Tests.{eqb-true, eqb-false}
use lib.ListN.{length, length-append}
use Rattle.std.specs.Prelude.{Some, None}
use Rattle.nets.specs.Bits.{Bits}
use Rattle.nets.specs.Lists.{Place, start, past}
use Rattle.nets.specs.Networks.{is_family, net_bits}
use Rattle.nets.specs.declared.Net.{Net}
use Rattle.setfile_format.specs.Files.{header_bytes, entry_bytes, file_bytes, most_entries, entry_net, is_clean, networks_in}
use Rattle.setfile_format.proofs.Bytes.{Bytes}
use Rattle.setfile_format.proofs.Written.{entry_bytes-4, entry_bytes-6, file_bytes-mono}
use Rattle.setfile_format.proofs.RoundTrip.{length-networks_in}
use Rattle.setfile_format.proofs.FileOrder.{network_at, are_clean-at}
use Rattle.salvage_lists.specs.Ahead.{Part, Batch as IsBatch}
use Rattle.salvage_lists.proofs.Chains.{chain-rise, rise-fewer, part-start, part_end, part_step}
use Rattle.salvage_lists.proofs.Left.{whole-few}
use Rattle.salvage_batch.specs.Buffers.{Ended, place_of, Stands, Room, Gathers}
use Rattle.salvage_batch.specs.declared.Batch.{Batch}
use Rattle.salvage_batch.proofs.Thinnings.{clean-entry}
use Rattle.salvage_batch.proofs.Holdings.{networks_in-split}
use Rattle.salvage_passes.specs.Parts.{place_at, Sofar, Onward}
use Rattle.salvage_passes.specs.declared.counting.Tail.{Tail}

-- The place behind the last of n entries.
pub place_at-some : (f : ℕ) (v : List ℕ) (n : ℕ) → 1 ≤ n → place_at f v n ≡ past (network_at f v (n - 1))
unfolding place_at
place_at-some f v zero h = absurd (omega arith)
place_at-some f v (suc k) h = let p : suc k - 1 ≡ k = omega arith in rw p

place_at-none : (f : ℕ) (v : List ℕ) (n : ℕ) → n ≡ 0 → place_at f v n ≡ start
unfolding place_at
place_at-none f v n e = rw e

stands_at : {f n : ℕ} {v : List ℕ} → Stands f v n → (i : ℕ) → i < n → is_clean (entry_net f v i) ≡ true
stands_at {f} {n} {v} s i h = are_clean-at f v 0 n i s.clean (omega arith) (omega arith)

module _ {f n : ℕ} {v : List ℕ} (s : Stands f v n) where
  pub last_none : n ≡ 0 → Ended f None × (place_of None ≡ place_at f v n)
  last_none e = (tt, sym (place_at-none f v n e))

  pub last_fits : (n ≡ 0 → ⊥) → (n - 1 ≤ 4194304) × (file_bytes f (n - 1 + 1) ≤ length v)
  last_fits h = (omega (arith, s.few), omega (arith, s.fits, file_bytes-mono f {i = n - 1 + 1} {n = n} (omega arith)))

  pub last_some : Bytes v → (n ≡ 0 → ⊥) → (x : Net) → x ≡ entry_net f v (n - 1) → Ended f (Some x) × (place_of (Some x) ≡ place_at f v n)
  last_some bytes h x e = (
    rw e (clean-entry f v bytes (n - 1) s.family (stands_at s (n - 1) (omega arith))),
    ap (λ z. past (net_bits z)) e ∙ sym (place_at-some f v n (omega arith)),
  )

-- A batch behind a part.
pub part-batch : {S : List Bits} {a : Place} {d : List Bits} (f : ℕ) (v : List ℕ) (k : ℕ) {more : Bool} → Part S a d → IsBatch S a (networks_in f v 0 k) more → 1 ≤ k
    → Part S (place_at f v k) (d ++ networks_in f v 0 k)
part-batch f v k p b h =
    let e = networks_in-split f v k h in
    rw (place_at-some f v k h, e) (part_step p (networks_in f v 0 (k - 1)) (network_at f v (k - 1)) (rw e at b))

part-few : {S : List Bits} {a : Place} {d : List Bits} → Part S a d → length d ≤ length S
part-few {S} {a} {d} p = rise-fewer d S (chain-rise d p.chain) p.inside

pub sofar-few : {f : ℕ} {S : List Bits} {t : Tail} → Sofar f S t → t.count ≤ length S
sofar-few {S = S} {t = t} o = go t.more refl
  where
    go : (b : Bool) → t.more ≡ b → t.count ≤ length S
    go true e = omega (arith, o.long, part-few (o.part e))
    go false e = omega (arith, o.long, whole-few (o.whole e))

pub sofar-start : (f : ℕ) (S : List Bits) (t : Tail) → is_family f ≡ true → t.count ≡ 0 → t.after ≡ None → t.more ≡ true → Sofar f S t
sofar-start f S t e c a m =
    record {
      family = e;
      ended = rw a tt;
      list = [];
      long = sym c;
      part = λ _. rw a part-start;
      whole = λ h. absurd (true≢false (sym m ∙ h));
    }

-- One batch more is counted.
module _ {f n : ℕ} {S : List Bits} {t : Tail} {v u : List ℕ} {b : Batch} (o : Sofar f S t) (m : t.more ≡ true) (g : Gathers f S (place_of t.after) n v b u) where
  pub gathers-stands : Room f v n → Stands f u b.count
  gathers-stands r =
      record {
        family = r.family;
        few = omega (arith, r.few, g.most);
        fits = rw g.kept.long (omega (arith, r.fits, file_bytes-mono f {i = b.count} {n = n} g.most));
        clean = g.clean;
      }

  counts : length (o.list ++ networks_in f u 0 b.count) ≡ t.count + b.count
  counts = length-append o.list (networks_in f u 0 b.count) ∙ rw (o.long, length-networks_in f u 0 b.count)

  pub onward : (r : Tail) → r.count ≡ t.count + b.count → r.more ≡ b.more → Ended f r.after × (place_of r.after ≡ place_at f u b.count) → Onward f S t r
  onward r c e a =
      record {
        next =
            record {
              family = o.family;
              ended = a.0;
              list = o.list ++ networks_in f u 0 b.count;
              long = counts ∙ sym c;
              part = λ h. rw a.1 (part-batch f u b.count (o.part m) g.batch (g.some (sym e ∙ h)));
              whole = λ h. part_end (o.part m) g.batch (sym e ∙ h);
            };
        least = omega arith;
        grows = λ h. omega (arith, c, g.some (sym e ∙ h));
      }

-- The local buffer has room.
pub room-local : (f : ℕ) (v : List ℕ) → is_family f ≡ true → length v ≡ 69648 → Room f v 4096
unfolding file_bytes
room-local f v e h = record { family = e; two = omega arith; few = omega arith; fits = rw h (go (eqb f 4) refl) }
  where
    go : (b : Bool) → eqb f 4 ≡ b → header_bytes + entry_bytes f * 4096 ≤ 69648
    go true q = rw (entry_bytes-4 f (eqb-true f 4 q)) (omega arith)
    go false q = rw (entry_bytes-6 f (eqb-false f 4 q)) (omega arith)

-- One batch more in the output: there is room for those counted.
pub room_out : {f c room : ℕ} {S : List Bits} {t : Tail} {v : List ℕ} → Sofar f S t → c ≡ t.count → length S ≤ most_entries → 4096 < c → c ≤ room → (1 ≤ room → file_bytes f room ≤ length v) → Room f v c
room_out {f} {c} {room} o e s l k h =
    record { family = o.family; two = omega arith; few = omega (arith, e, s, sofar-few o); fits = omega (arith, h (omega arith), file_bytes-mono f {i = c} {n = room} k) }

-- Fewer are left to be counted.
pub fewer : (n : ℕ) {f : ℕ} {S : List Bits} {t r : Tail} → t.more ≡ true → Sofar f S t → Onward f S t r → length S ≤ n → cond r.more (suc n - r.count) 0 < cond t.more (suc n - t.count) 0
fewer n {t = t} {r = r} m o w l = rw m (go r.more refl)
  where
    go : (b : Bool) → r.more ≡ b → cond b (suc n - r.count) 0 < suc n - t.count
    go true e = omega (arith, w.grows e, sofar-few w.next, l)
    go false e = omega (arith, sofar-few o, l)
