-- The entries held for a batch: squeezed, cut at a bound, and one more. Assumes nothing.
use mathlib.Core.Bool.{true, false, false≢true}
use mathlib.Core.List.{List, [], ◌∷◌, ◌++◌}
use mathlib.Core.Logic.{inl, inr}
use mathlib.Core.Path.{◌≡◌, ap, sym, ◌∙◌}
use Prim.Native.Nat.{ℕ, suc, ◌+◌, ◌-◌, ◌≤◌, ◌<◌}
use native.Mathlib.Nat.{zero-add}
use native.Mathlib.Numerals.{add-one}
use native.Mathlib.Omega.{arith}
use lib.ListN.{length}
use Rattle.std.specs.Prelude.{Option, Some, None}
use Rattle.std.specs.Option.{is_some}
use Rattle.nets.specs.Bits.{Bits}
use Rattle.nets.specs.Lists.{Place, past}
use Rattle.nets.specs.Networks.{net_bits}
use Rattle.nets.specs.declared.Net.{Net}
use Rattle.nodes.specs.Words.{put}
use Rattle.setfile_format.specs.Files.{file_bytes, entry_at, entry_of, entry_net, is_clean, are_clean, networks_in}
use Rattle.setfile_format.proofs.Bytes.{Bytes}
use Rattle.setfile_format.proofs.Written.{file_bytes-mono}
use Rattle.setfile_format.proofs.FileOrder.{network_at, are_clean-at, networks_in-append}
use Rattle.salvage_lists.specs.Ahead.{is_past, is_beyond, is_bound, Held, Batch as IsBatch}
use Rattle.salvage_lists.proofs.Chains.{held_none, held-skip, held-put, held-squeezed, held-batch, held_cut}
use Rattle.salvage_batch.specs.Buffers.{Clean, place_of, Stands, Kept, Squeezes, Room, Holds, Gathers}
use Rattle.salvage_batch.specs.declared.Hold.{Hold}
use Rattle.salvage_batch.specs.declared.Batch.{Batch}
use Rattle.salvage_batch.proofs.Places.{are_clean-fewer, networks_in-put, are_clean-put}
use Rattle.salvage_batch.proofs.Thinnings.{clean-entry, kept_trans, kept_more, kept_put}

-- The networks up to a member, that member, and those behind it.
pub networks_in-split : (f : ℕ) (d : List ℕ) (k : ℕ) → 1 ≤ k → networks_in f d 0 k ≡ networks_in f d 0 (k - 1) ++ (network_at f d (k - 1) ∷ [])
unfolding networks_in
networks_in-split f d k h =
    let p : (k - 1) + 1 ≡ k = omega arith in
    rw (p, zero-add (k - 1)) at (networks_in-append f d 0 (k - 1) 1)

pub networks_in-parts : (f : ℕ) (d : List ℕ) (j k : ℕ) → j ≤ k → networks_in f d 0 k ≡ networks_in f d 0 j ++ networks_in f d j (k - j)
networks_in-parts f d j k h = let p : j + (k - j) ≡ k = omega arith in rw (p, zero-add j) at (networks_in-append f d 0 j (k - j))

room-kept : {f n : ℕ} {v u : List ℕ} → Kept f n v u → Room f v n → Room f u n
room-kept k r = record { family = r.family; two = r.two; few = r.few; fits = rw k.long r.fits }

pub room-none : {f n : ℕ} {v : List ℕ} (a : Place) (h : Hold) → Room f v n → h.count ≡ 0 → h.edge ≡ None → Holds f v n [] a h
unfolding are_clean networks_in
room-none {f} {n} {v} a h r c e =
    record {
      room = r;
      most = omega (arith, c);
      clean = rw c;
      edge = rw e tt;
      some = λ s. absurd (false≢true (rw e at s));
      held = rw (c, e) held_none;
    }

module _ {f n : ℕ} {v : List ℕ} {S : List Bits} {a : Place} {h : Hold} (o : Holds f v n S a h) where
  pub holds-stands : Stands f v h.count
  holds-stands =
      record {
        family = o.room.family;
        few = omega (arith, o.most, o.room.few);
        fits = omega (arith, o.room.fits, file_bytes-mono f {i = h.count} {n = n} o.most);
        clean = o.clean;
      }

  -- squeezed
  module _ {m : ℕ} {u : List ℕ} (s : Squeezes f h.count v m u) where
    pub squeezed-kept : Kept f n v u
    squeezed-kept = kept_more o.most s.kept

    squeezed-held : Held S a (networks_in f u 0 m) (place_of h.edge)
    squeezed-held = held-squeezed o.held s.networks

    pub holds-squeezed : (g : Hold) → g.count ≡ m → g.edge ≡ h.edge → Holds f u n S a g
    holds-squeezed g c e =
        record {
          room = room-kept squeezed-kept o.room;
          most = omega (arith, c, s.fewer, o.most);
          clean = rw c s.clean;
          edge = rw e o.edge;
          some = λ b. rw c (s.some (o.some (rw e at b)));
          held = rw (c, e) squeezed-held;
        }

    pub squeezed-batch : (r : Batch) → r.count ≡ m → r.more ≡ is_some h.edge → Gathers f S a n v r u
    squeezed-batch r c e =
        record {
          kept = squeezed-kept;
          most = omega (arith, c, s.fewer, o.most);
          some = λ b. rw c (s.some (o.some (sym e ∙ b)));
          clean = rw c s.clean;
          batch = rw (c, e) (bound h.edge (held-batch squeezed-held s.networks.chain));
        }
      where
        bound : (e : Option Net) → IsBatch S a (networks_in f u 0 m) (is_bound (place_of e)) → IsBatch S a (networks_in f u 0 m) (is_some e)
        bound (Some x) b = b
        bound None b = b

    -- cut behind k of them
    module _ (bytes : Bytes u) {k : ℕ} (some : 1 ≤ k) (less : k ≤ m) where
      pub cut_fits : (k - 1 ≤ 4194304) × (file_bytes f (k - 1 + 1) ≤ length u)
      cut_fits = (
        omega (arith, less, s.fewer, o.most, o.room.few),
        omega (arith, less, s.fewer, o.most, (room-kept squeezed-kept o.room).fits, file_bytes-mono f {i = k - 1 + 1} {n = n} (omega (arith, less, s.fewer, o.most))),
      )

      cut-clean : is_clean (entry_net f u (k - 1)) ≡ true
      cut-clean = are_clean-at f u 0 m (k - 1) s.clean (omega arith) (omega arith)

      pub holds-cut : (g : Hold) (x : Net) → g.count ≡ k → g.edge ≡ Some x → x ≡ entry_net f u (k - 1) → Holds f u n S a g
      holds-cut g z c e b =
          let l = networks_in f u 0 (k - 1) in
          let p = network_at f u (k - 1) in
          let rest = networks_in f u k (m - k) in
          let x : networks_in f u 0 k ≡ l ++ (p ∷ []) = networks_in-split f u k some in
          let y : networks_in f u 0 m ≡ (l ++ (p ∷ [])) ++ rest = networks_in-parts f u k m less ∙ ap (λ z. z ++ rest) x in
          let q : place_of g.edge ≡ past p = ap place_of e ∙ ap (λ z. past (net_bits z)) b in
          record {
            room = room-kept squeezed-kept o.room;
            most = omega (arith, c, less, s.fewer, o.most);
            clean = rw c (are_clean-fewer f u k m less s.clean);
            edge = rw (e, b) (clean-entry f u bytes (k - 1) o.room.family cut-clean);
            some = λ _. omega arith;
            held = rw (c, x, q) (held_cut l p rest (rw y at squeezed-held) (rw y at s.networks.chain));
          }

  pub put-fits : h.count < n → (h.count < 4194304) × (file_bytes f (h.count + 1) ≤ length v)
  put-fits l = (omega (arith, o.room.few), omega (arith, o.room.fits, file_bytes-mono f {i = h.count + 1} {n = n} (omega arith)))

  -- one more, that is not wanted or is
  pub holds-skip : (x : Bits) → is_past a x ≡ false → Holds f v n (S ++ (x ∷ [])) a h
  holds-skip x b = record { room = o.room; most = o.most; clean = o.clean; edge = o.edge; some = o.some; held = held-skip x o.held (inl b) }

  module _ {x : Net} (clean : Clean f x) (wanted : is_past a (net_bits x) ≡ true) where
    pub holds-beyond : is_beyond (place_of h.edge) (net_bits x) ≡ true → Holds f v n (S ++ (net_bits x ∷ [])) a h
    holds-beyond b = record { room = o.room; most = o.most; clean = o.clean; edge = o.edge; some = o.some; held = held-skip (net_bits x) o.held (inr b) }

    pub holds-put : h.count < n → is_beyond (place_of h.edge) (net_bits x) ≡ false → {u : List ℕ} → u ≡ put v (entry_at f h.count) (entry_of f (net_bits x))
        → (g : Hold) → g.count ≡ h.count + 1 → g.edge ≡ h.edge → Holds f u n (S ++ (net_bits x ∷ [])) a g
    unfolding file_bytes
    holds-put l b {u} q g c e =
        let k = h.count in
        let end : entry_at f (suc k) ≤ length v = rw (add-one k) at (put-fits l).1 in
        record {
          room = room-kept (rw q (kept_put f k n v (net_bits x) l)) o.room;
          most = omega arith;
          clean = rw (c, q) (are_clean-put f k v (net_bits x) clean.short end o.clean);
          edge = rw e o.edge;
          some = λ _. omega arith;
          held = rw (c, e, q, networks_in-put f k v (net_bits x) clean.short end) (held-put (net_bits x) o.held wanted b);
        }

pub gathers-kept : {f : ℕ} {S : List Bits} {a : Place} {n : ℕ} {v w u : List ℕ} {r : Batch} → Kept f n v w → Gathers f S a n w r u → Gathers f S a n v r u
gathers-kept k g = record { kept = kept_trans k g.kept; most = g.most; some = g.some; clean = g.clean; batch = g.batch }
