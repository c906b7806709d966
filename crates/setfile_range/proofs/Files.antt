-- The file of a range: what lies between its edges is its networks, they are few enough, and header and entries are their file. Assumes nothing.
use mathlib.Core.Bool.{not}
use mathlib.Core.List.{List, []}
use mathlib.Core.Path.{◌≡◌, ap, sym, ◌∙◌}
use Prim.Native.Nat.{ℕ, ◌+◌, ◌-◌, ◌≤◌}
use native.Mathlib.Decide.{ℕ_discrete}
use native.Mathlib.Omega.{arith}
use lib.Dec.{eqb}
use lib.ListN.{length}
use Rattle.nets.specs.Bits.{Bits, bits}
use Rattle.nets.specs.Tries.{list_of}
use Rattle.nets.specs.Networks.{width}
use Rattle.nets.proofs.Numbers.{width-4, width-6}
use Rattle.nodes.specs.Words.{put}
use Rattle.nodes.proofs.Put.{put-before-at}
use Rattle.ranges.specs.Ranges.{Range, range}
use Rattle.ranges.specs.Blocks.{nets_of}
use Rattle.ranges.specs.Addresses.{address_of, after_of}
use Rattle.ranges.specs.declared.addresses.Address.{Address}
use Rattle.ranges.proofs.OfRanges.{is_list-nets, nets-few}
use Rattle.setfile_format.specs.Files.{file_bytes, entries_of, header_of, file_of, file, read_file}
use Rattle.setfile_format.proofs.Written.{length-header_of, length-file_of, entry_bytes-4, entry_bytes-6, file_bytes-mono, read_file-file_of}
use Rattle.setfile_range.specs.Edges.{opened, On, Fits, Lays, Edges, Rangeable, span_of, range_file}
use Rattle.setfile_range.specs.declared.edges.Edge.{Edge}
use Rattle.setfile_range.proofs.OfRange.{range-opened, edges-apart}

-- The largest files: 62 networks of IPv4, 254 of IPv6.
pub few-nets : (f : ℕ) (r : Range) → (length (nets_of (width f) r) ≤ 254) × (file_bytes f (length (nets_of (width f) r)) ≤ 4334)
unfolding file_bytes
few-nets f r = go (ℕ_discrete f 4)
  where
    go : Dec (f ≡ 4) → (length (nets_of (width f) r) ≤ 254) × (file_bytes f (length (nets_of (width f) r)) ≤ 4334)
    go (yes e) =
        let w = width-4 f e in
        let n : length (nets_of (width f) r) ≤ 62 = omega (arith, nets-few (width f) r (omega arith)) in
        (omega arith, omega (arith, file_bytes-mono f n, entry_bytes-4 f e))
    go (no e) =
        let w = width-6 f e in
        let n : length (nets_of (width f) r) ≤ 254 = omega (arith, nets-few (width f) r (omega arith)) in
        (n, omega (arith, file_bytes-mono f n, entry_bytes-6 f e))

module _ {f : ℕ} {a b : Address} {m : ℕ} (h : Rangeable f a b m) {x y : Edge}
    (l : (x.there ≡ not (eqb (address_of a) 0)) × On f x [] (bits (width f) (address_of a - 1)))
    (r : (y.there ≡ not (eqb (after_of f (address_of b)) 0)) × On f y [] (bits (width f) (after_of f (address_of b)))) where
  abbrev left : Bits
  left = bits (width f) (address_of a - 1)

  abbrev right : Bits
  right = bits (width f) (after_of f (address_of b))

  between-nets : list_of (opened x.there y.there left right) ≡ span_of f a b
  unfolding nets_of after_of
  between-nets = ap list_of (rw (l.0, r.0) (sym (range-opened (width f) (address_of a) (address_of b) h.order h.high)))

  pub range-edges : Edges f x y left right m
  unfolding after_of
  range-edges =
      record {
        left = l.1;
        right = r.1;
        order = λ p q. edges-apart (width f) (address_of a) (address_of b) h.order h.high (sym l.0 ∙ p) (sym r.0 ∙ q);
        fits = rw between-nets (fits-few (few-nets f (range (address_of a) (address_of b))));
      }
    where
      fits-few : (length (span_of f a b) ≤ 254) × (file_bytes f (length (span_of f a b)) ≤ 4334) → Fits f (span_of f a b) 0 m
      fits-few n = let z : 0 + length (span_of f a b) ≡ length (span_of f a b) = omega arith in record { room = rw z (omega (arith, n.1, h.room)); few = omega (arith, n.0) }

  module _ {u v : List ℕ} {n : ℕ} (g : Lays f (list_of (opened x.there y.there left right)) 0 u n v) where
    count : n ≡ length (span_of f a b)
    count = g.count ∙ omega (arith, ap length between-nets)

    pub range-few : n ≤ 254
    range-few = omega (arith, count, (few-nets f (range (address_of a) (address_of b))).0)

    pub range_size : file_bytes f n ≡ length (range_file f a b)
    unfolding range_file
    range_size = rw count (sym (length-file_of f (span_of f a b)))

    pub range-written : {z : List ℕ} → z ≡ put v 0 (header_of f n) → z ≡ put u 0 (range_file f a b)
    unfolding range_file file_of file_bytes
    range-written e =
        let k = span_of f a b in
        e ∙ rw (g.bytes, between-nets, count) (put-before-at u 0 (file_bytes f 0) (header_of f (length k)) (entries_of f k) (rw (length-header_of f (length k)) (omega arith)))

-- It reads back as the networks of the range.
pub range-reads : {f : ℕ} {a b : Address} {m : ℕ} → Rangeable f a b m → read_file (range_file f a b) ≡ file f (span_of f a b)
unfolding range_file
range-reads {f} {a} {b} h =
    let r = range (address_of a) (address_of b) in
    read_file-file_of f (span_of f a b) h.family (is_list-nets (width f) r) (omega (arith, (few-nets f r).0))
