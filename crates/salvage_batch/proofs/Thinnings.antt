-- Thinning in place, entry by entry: what is kept so far and what thinning will keep of the rest are what it keeps of all. Assumes nothing.
use mathlib.Core.Bool.{Bool, true, false, cond, ◌&&◌}
use mathlib.Core.List.{List, [], ◌∷◌, ◌++◌, append_assoc, append-nil}
use mathlib.Core.Path.{◌≡◌, refl, ap, sym, ◌∙◌}
use Prim.Native.Nat.{ℕ, zero, suc, ◌+◌, ◌-◌, ◌*◌, ◌≤◌, ◌<◌}
use native.Mathlib.Nat.{zero-add, mul-suc}
use native.Mathlib.Numerals.{add-one}
use native.Mathlib.Omega.{arith}
use lib.ListN.{length, get_or}
use Rattle.nets.specs.Bits.{Bits, leads}
use Rattle.nets.specs.Networks.{is_family, width, net_bits, net_from}
use Rattle.nets.specs.declared.Net.{Net}
use Rattle.nets.proofs.Strings.{and_left, and_right}
use Rattle.nets.proofs.Numbers.{net_bits-net_from}
use Rattle.nodes.specs.Words.{put}
use Rattle.nodes.proofs.Put.{length-put, get_or-put-out}
use Rattle.setfile_format.specs.Files.{header_bytes, entry_bytes, file_bytes, most_entries, entry_at, entry_of, entry_net, is_clean, are_clean, networks_in}
use Rattle.setfile_format.proofs.Bytes.{Bytes}
use Rattle.setfile_format.proofs.Written.{length-entry_of, entry_at-next, file_bytes-mono}
use Rattle.setfile_format.proofs.RoundTrip.{length-networks_in}
use Rattle.setfile_format.proofs.FileOrder.{network_at, network_at-within, are_clean-at, entry-net_from, networks_in-first}
use Rattle.setfile_sort.specs.Sorting.{Sorts}
use Rattle.salvage_lists.specs.Ahead.{thin_behind, thinned, Squeezed}
use Rattle.salvage_lists.proofs.Thinning.{thin-squeezed}
use Rattle.salvage_batch.specs.Buffers.{Clean, Stands, Kept, Thins, Thinning, Squeezes}
use Rattle.salvage_batch.specs.declared.squeezing.Survivors.{Survivors}
use Rattle.salvage_batch.proofs.Places.{networks_in-cong, are_clean-cong, are_clean-append, entry-ends, put-there, networks_in-put, are_clean-put}
use Rattle.salvage_batch.proofs.Orders.{clean-family, clean-net_from}
use Rattle.salvage_batch.proofs.Sorts.{sorts-member, sorts-clean, sorts-sorted}

-- a clean entry is a clean network
pub clean-entry : (f : ℕ) (d : List ℕ) → Bytes d → (i : ℕ) → is_family f ≡ true → is_clean (entry_net f d i) ≡ true → Clean f (entry_net f d i)
clean-entry f d bytes i e c = rw (← entry-net_from d bytes f i c) (clean-net_from f (network_at f d i) e (network_at-within f d i))

pub kept_same : (f n : ℕ) (v : List ℕ) → Kept f n v v
kept_same f n v = record { long = refl; outside = λ m h. refl }

pub kept_trans : {f n : ℕ} {v u w : List ℕ} → Kept f n v u → Kept f n u w → Kept f n v w
kept_trans a b = record { long = b.long ∙ a.long; outside = λ m h. b.outside m h ∙ a.outside m h }

pub kept_more : {f k n : ℕ} {v u : List ℕ} → k ≤ n → Kept f k v u → Kept f n v u
kept_more {f} {k} {n} l a = record { long = a.long; outside = λ m h. a.outside m (λ p q. h p (omega (arith, q, file_bytes-mono f {i = k} {n = n} l))) }

-- entry k written, of at most n
pub kept_put : (f k n : ℕ) (v : List ℕ) (p : Bits) → k < n → Kept f n v (put v (entry_at f k) (entry_of f p))
unfolding file_bytes
kept_put f k n v p l =
    record {
      long = length-put v (entry_at f k) (entry_of f p);
      outside = λ m h. get_or-put-out v (entry_at f k) (entry_of f p) m (λ a b. h (omega arith) (omega (arith, entry-ends f k n l, rw (length-entry_of f p) at b)));
    }

networks_in-one : (f : ℕ) (d : List ℕ) → networks_in f d 0 1 ≡ network_at f d 0 ∷ []
unfolding networks_in
networks_in-one f d = refl

thin_behind-in : (p q : Bits) (l : List Bits) → leads p q ≡ true → thin_behind p (q ∷ l) ≡ thin_behind p l
unfolding thin_behind
thin_behind-in p q l e = rw e

thin_behind-out : (p q : Bits) (l : List Bits) → leads p q ≡ false → thin_behind p (q ∷ l) ≡ q ∷ thin_behind q l
unfolding thin_behind
thin_behind-out p q l e = rw e

thinned-cons : (p : Bits) (l : List Bits) → thinned (p ∷ l) ≡ p ∷ thin_behind p l
unfolding thinned
thinned-cons p l = refl

rest-first : (f : ℕ) (d : List ℕ) (i n : ℕ) → i < n → are_clean f d i (n - i) ≡ true → (is_clean (entry_net f d i) ≡ true) × (are_clean f d (i + 1) (n - (i + 1)) ≡ true)
unfolding are_clean
rest-first f d i n h e =
    let p : n - i ≡ suc (n - suc i) = omega arith in
    let g : (is_clean (entry_net f d i) && are_clean f d (suc i) (n - suc i)) ≡ true = rw p at e in
    (and_left (is_clean (entry_net f d i)) (are_clean f d (suc i) (n - suc i)) g, rw (add-one i) (and_right (is_clean (entry_net f d i)) (are_clean f d (suc i) (n - suc i)) g))

module _ {f n : ℕ} {v : List ℕ} (s : Stands f v n) (bytes : Bytes v) (h : 0 < n) where
  first-clean : (is_clean (entry_net f v 0) ≡ true) × (are_clean f v (0 + 1) (n - (0 + 1)) ≡ true)
  first-clean = rest-first f v 0 n h (let z : n - 0 ≡ n = omega arith in rw z s.clean)

  pub thinning-start : {t : Survivors} → t.count ≡ 1 → t.last ≡ entry_net f v 0 → Thinning f n v 1 v t
  unfolding are_clean
  thinning-start {t} c l =
      let k = first-clean in
      record {
        family = s.family;
        few = s.few;
        fits = s.fits;
        kept = kept_same f n v;
        some = omega arith;
        behind = omega arith;
        most = omega arith;
        last = rw l (clean-entry f v bytes 0 s.family k.0);
        clean = rw (c, k.0);
        rest = k.1;
        goes =
            let z : n - 0 ≡ n = omega arith in
            let e : networks_in f v 0 n ≡ network_at f v 0 ∷ networks_in f v 1 (n - 1) = rw z at (networks_in-first f v 0 n h) in
            rw (c, l, networks_in-one f v, e, thinned-cons (network_at f v 0) (networks_in f v 1 (n - 1)));
      }

pub thins-none : {f n : ℕ} {v : List ℕ} → n ≡ 0 → Thins f n v 0 v
unfolding are_clean networks_in thinned
thins-none {f} {n} {v} e = record { kept = kept_same f n v; fewer = omega arith; clean = refl; networks = rw e }

module _ {f n : ℕ} {v u : List ℕ} {i : ℕ} {t : Survivors} (o : Thinning f n v i u t) where
  pub thinning-fits : i < n → (i ≤ 4194304) × (file_bytes f (i + 1) ≤ length u)
  thinning-fits h = (omega (arith, o.few), omega (arith, o.fits, file_bytes-mono f {i = i + 1} {n = n} (omega arith)))

  module _ (bytes : Bytes u) (h : i < n) (x : Net) (e : x ≡ entry_net f u i) where
    pub thinning-clean : Clean f x
    thinning-clean = rw e (clean-entry f u bytes i o.family (rest-first f u i n h o.rest).0)

    onward : networks_in f u 0 t.count ++ thin_behind (net_bits t.last) (net_bits x ∷ networks_in f u (i + 1) (n - (i + 1))) ≡ thinned (networks_in f v 0 n)
    onward = let g : networks_in f u i (n - i) ≡ net_bits x ∷ networks_in f u (i + 1) (n - (i + 1)) = networks_in-first f u i n h ∙ rw (e, add-one i) in rw g at o.goes

    pub thinning-drop : leads (net_bits t.last) (net_bits x) ≡ true → Thinning f n v (i + 1) u t
    thinning-drop l =
        record {
          family = o.family;
          few = o.few;
          fits = o.fits;
          kept = o.kept;
          some = o.some;
          behind = omega (arith, o.behind);
          most = omega arith;
          last = o.last;
          clean = o.clean;
          rest = (rest-first f u i n h o.rest).1;
          goes = rw (thin_behind-in (net_bits t.last) (net_bits x) (networks_in f u (i + 1) (n - (i + 1))) l) at onward;
        }

    pub thinning-room : (t.count < 4194304) × (file_bytes f (t.count + 1) ≤ length u)
    thinning-room = (omega (arith, o.few, o.behind), omega (arith, o.fits, o.behind, file_bytes-mono f {i = t.count + 1} {n = n} (omega (arith, o.behind))))

    module _ (w : List ℕ) (q : w ≡ put u (entry_at f t.count) (entry_of f (net_bits x))) (l : leads (net_bits t.last) (net_bits x) ≡ false) where
      end : entry_at f (suc t.count) ≤ length u
      unfolding file_bytes
      end = rw (add-one t.count) at thinning-room.1

      later : (r : ℕ) → entry_net f w (i + 1 + r) ≡ entry_net f u (i + 1 + r)
      later r = rw q (put-there f t.count u (net_bits x) thinning-clean.short end (i + 1 + r) (omega (arith, o.behind)))

      pub thinning-keep : {g : Survivors} → g.count ≡ t.count + 1 → g.last ≡ x → Thinning f n v (i + 1) w g
      thinning-keep {g} c y =
          let k = t.count in
          let m = n - (i + 1) in
          record {
            family = o.family;
            few = o.few;
            fits = rw (q, length-put u (entry_at f k) (entry_of f (net_bits x))) o.fits;
            kept = kept_trans o.kept (rw q (kept_put f k n u (net_bits x) (omega (arith, o.behind))));
            some = omega arith;
            behind = omega (arith, o.behind);
            most = omega arith;
            last = rw y thinning-clean;
            clean = rw (c, q) (are_clean-put f k u (net_bits x) thinning-clean.short end o.clean);
            rest = are_clean-cong f w u (i + 1) (i + 1) m (λ r a. later r) ∙ (rest-first f u i n h o.rest).1;
            goes =
                let a : networks_in f w 0 (k + 1) ≡ networks_in f u 0 k ++ (net_bits x ∷ []) = rw q (networks_in-put f k u (net_bits x) thinning-clean.short end) in
                let b : networks_in f w (i + 1) m ≡ networks_in f u (i + 1) m = networks_in-cong f w u (i + 1) (i + 1) m (λ r a. later r) in
                rw (c, y, a, b, append_assoc (networks_in f u 0 k) (net_bits x ∷ []) (thin_behind (net_bits x) (networks_in f u (i + 1) m)))
                (rw (thin_behind-out (net_bits t.last) (net_bits x) (networks_in f u (i + 1) m) l) at onward);
          }

  pub thinning-end : n ≤ i → Thins f n v t.count u
  unfolding networks_in thin_behind
  thinning-end h =
      let z : n - i ≡ 0 = omega (arith, o.most) in
      record {
        kept = o.kept;
        fewer = omega (arith, o.behind, o.most);
        clean = o.clean;
        networks = sym (append-nil (networks_in f u 0 t.count)) ∙ (rw z at o.goes);
      }

-- Sorted, then thinned.
thinned-some : (l : List Bits) → 1 ≤ length l → 1 ≤ length (thinned l)
unfolding thinned
thinned-some [] h = h
thinned-some (p ∷ l) h = omega arith

module _ {f n : ℕ} {v u : List ℕ} (s : Stands f v n) (a : Bytes v) (b : Bytes u) (o : Sorts false f n v u) where
  pub sorted-stands : Stands f u n
  sorted-stands = record { family = s.family; few = s.few; fits = rw o.long s.fits; clean = sorts-clean a b o s.clean }

  pub squeezes : {r : ℕ} {w : List ℕ} → Thins f n u r w → Squeezes f n v r w
  squeezes {r} {w} t =
      let q = thin-squeezed (networks_in f u 0 n) (sorts-sorted a b o s.clean) in
      let p : Squeezed (networks_in f u 0 n) (networks_in f w 0 r) = rw t.networks q in
      record {
        kept = kept_trans (record { long = o.long; outside = o.outside }) t.kept;
        fewer = t.fewer;
        some = λ h. omega (arith, ap length t.networks, length-networks_in f w 0 r, thinned-some (networks_in f u 0 n) (rw (length-networks_in f u 0 n) h));
        clean = t.clean;
        networks = record {
          chain = p.chain;
          inside = λ x k. sym (sorts-member a b o x) ∙ p.inside x k;
          reach = λ x k. p.reach x (sorts-member a b o x ∙ k);
        };
      }

-- where an entry is written
pub entry-room : (k : ℕ) {f at m : ℕ} {x : Net} → Clean f x → at ≡ file_bytes f k → file_bytes f (k + 1) ≤ m → at + entry_bytes x.family ≤ m
unfolding file_bytes
entry-room k {f} {x = x} c e h = rw (clean-family c) (omega (arith, e, entry_at-next f k))

pub entry-placed : (f k : ℕ) {at : ℕ} (v : List ℕ) {u : List ℕ} (p : Bits) → at ≡ file_bytes f k → u ≡ put v at (entry_of f p) → u ≡ put v (entry_at f k) (entry_of f p)
unfolding file_bytes
entry-placed f k v p e h = rw e at h

pub stands-first : {f n : ℕ} {v : List ℕ} → Stands f v n → (n ≡ 0 → ⊥) → (0 ≤ 4194304) × (file_bytes f (0 + 1) ≤ length v)
stands-first {f} {n} s h = (omega arith, omega (arith, s.fits, file_bytes-mono f {i = 0 + 1} {n = n} (omega arith)))

pub kept-written : (f k n : ℕ) (p : Bits) {v u : List ℕ} → u ≡ put v (entry_at f k) (entry_of f p) → k < n → Kept f n v u
kept-written f k n p {v} e l = rw e (kept_put f k n v p l)
