-- A law for each return of a salvage, by the tests on the way to it. Assumes nothing.
use mathlib.Core.Bool.{true, false}
use mathlib.Core.List.{List}
use mathlib.Core.Path.{◌≡◌, ap, sym, ◌∙◌}
use Prim.Native.Nat.{ℕ, ◌+◌, ◌-◌, ◌/◌, ◌≤◌, ◌<◌}
use native.Mathlib.Nat.{mul_comm, div-mul-le_self}
use native.Mathlib.Decide.{dec_le}
use native.Mathlib.Omega.{arith}
use lib.ListN.{length}
use borrow.Author.Tests.{lt-ltb, le-ltb, ne_eqb}
use Rattle.nets.specs.Bits.{Bits}
use Rattle.nets.specs.Networks.{is_family}
use Rattle.nets.specs.Refusals.{number, first_no}
use Rattle.nets.specs.declared.Refusal.{Refusal}
use Rattle.nets.specs.declared.Refusal.TheVariants.{BadFile, ShortBuffer}
use Rattle.nets.specs.Lists.{ascending, in_order}
use Rattle.nets.proofs.Answers.{number-some}
use Rattle.nets.proofs.Order.{from-in_order, from-ascending, member-in_order}
use Rattle.address_order.specs.Streams.{in_address_order}
use Rattle.address_order.proofs.Rising.{rise_one}
use Rattle.address_order.proofs.Sorted.{rise-order, member-order, length-order}
use Rattle.salvage_lists.proofs.Chains.{chain-rise}
use Rattle.nodes.specs.Words.{put}
use Rattle.setfile_format.specs.Files.{header_bytes, entry_bytes, file_bytes, most_entries, file_of}
use Rattle.setfile_format.proofs.Written.{length-file_of, file_bytes-mono, file_bytes-few}
use Rattle.salvage_lists.specs.Salvaging.{whole_entries, in_range_in, long_in, trimmed_in, covered_in, outermost}
use Rattle.salvage_lists.specs.Ahead.{Whole}
use Rattle.salvage_lists.proofs.Left.{whole-few, whole-outermost}
use Rattle.salvage_lists.proofs.Counts.{length-in_range_in, covered-outermost}
use Rattle.salvage.specs.Calls.{family_of, read_of, entries_of, left_of, saved_of, salvage_rules, counts_as, counts_of, salvage_rule, salvage_left, Salvages}
use Rattle.salvage_passes.specs.Parts.{Counted, Filling}
use Rattle.salvage.specs.Parts.{Readable}
use Rattle.salvage.specs.declared.Counts.{Counts}
use Rattle.salvage_passes.proofs.Fillings.{filling-start}
use Rattle.std.specs.Prelude.{Ok, Err}

-- The number of a call, by its rules.
module _ (d : List ℕ) (n : ℕ) where
  no_header : length d < header_bytes → first_no (salvage_rules d n) ≡ 5
  unfolding salvage_rules
  no_header h = rw (lt-ltb (length d) header_bytes h)

  no-family : header_bytes ≤ length d → is_family (family_of d) ≡ false → first_no (salvage_rules d n) ≡ 5
  unfolding salvage_rules
  no-family h e = rw (le-ltb (length d) header_bytes h, e)

  module _ (h : header_bytes ≤ length d) (e : is_family (family_of d) ≡ true) where
    no-many : most_entries < read_of d → first_no (salvage_rules d n) ≡ 5
    unfolding salvage_rules
    no-many m = rw (le-ltb (length d) header_bytes h, e, lt-ltb most_entries (read_of d) m)

    no_room : read_of d ≤ most_entries → n < length (saved_of d) → first_no (salvage_rules d n) ≡ 11
    unfolding salvage_rules
    no_room m l = rw (le-ltb (length d) header_bytes h, e, le-ltb most_entries (read_of d) m, lt-ltb n (length (saved_of d)) l)

    pub no_none : read_of d ≤ most_entries → length (saved_of d) ≤ n → first_no (salvage_rules d n) ≡ 0
    unfolding salvage_rules
    no_none m l = rw (le-ltb (length d) header_bytes h, e, le-ltb most_entries (read_of d) m, le-ltb n (length (saved_of d)) l)

-- In the order of a list there are as many as in a chain.
whole_length : {S T : List Bits} → Whole S T → length (outermost S) ≡ length T
whole_length {S} {T} w =
    let up : ascending (in_order T) ≡ true = from-ascending 0 (in_order T) (from-in_order T) in
    let e : in_address_order (in_order T) ≡ T = rise_one (in_address_order (in_order T)) T (rise-order (in_order T) up) (chain-rise T w.chain) (λ q. member-order q (in_order T) ∙ member-in_order q T) in
    ap length (sym (whole-outermost w)) ∙ sym (length-order (in_order T)) ∙ ap length e

refused : {d v : List ℕ} (x : Refusal) → first_no (salvage_rules d (length v)) ≡ number x → Salvages d v (Err x) v
unfolding salvage_rule salvage_left
refused x e = let z = ne_eqb (number x) 0 (number-some x) in record { answer = rw (e, z); bytes = rw (e, z) }

pub refused-header : {d v : List ℕ} → length d < header_bytes → Salvages d v (Err BadFile) v
refused-header {d} {v} h = refused BadFile (no_header d (length v) h)

pub refused-family : {d v : List ℕ} → header_bytes ≤ length d → is_family (family_of d) ≡ false → Salvages d v (Err BadFile) v
refused-family {d} {v} h e = refused BadFile (no-family d (length v) h e)

pub refused-many : {d v : List ℕ} → header_bytes ≤ length d → is_family (family_of d) ≡ true → most_entries < read_of d → Salvages d v (Err BadFile) v
refused-many {d} {v} h e m = refused BadFile (no-many d (length v) h e m)

module _ {d : List ℕ} {f n : ℕ} (r : Readable d f n) where
  known : is_family (family_of d) ≡ true
  known = rw (← r.family) r.known

  read : read_of d ≡ n
  read = rw (← r.family) (sym r.whole)

  entries : entries_of d ≡ in_range_in f d 0 n
  entries = rw (← r.family, ← r.whole)

  few : read_of d ≤ most_entries
  few = rw read r.few

  pub entries-few : length (in_range_in f d 0 n) ≤ n
  entries-few = omega (arith, length-in_range_in f d 0 n)

  pub saved : saved_of d ≡ file_of f (outermost (in_range_in f d 0 n))
  unfolding saved_of left_of
  saved = rw (← r.family, ← r.whole)

  -- counted, in an output of which room says for how many it is sure to be long enough
  module _ {v u : List ℕ} {room m : ℕ} (c : Counted f (in_range_in f d 0 n) v room m u) where
    left : length (outermost (in_range_in f d 0 n)) ≡ m
    left = whole_length c.whole ∙ c.long

    pub counted-few : m ≤ most_entries
    counted-few = omega (arith, c.long, whole-few c.whole, entries-few, r.few)

    module _ {size : ℕ} (q : size ≡ file_bytes f m) where
      sized : size ≡ length (saved_of d)
      sized = q ∙ sym (ap length saved ∙ length-file_of f (outermost (in_range_in f d 0 n)) ∙ ap (file_bytes f) left)

      pub size_few : size ≤ 71303184
      size_few = rw q (file_bytes-few f m counted-few)

      pub returns-filling : size ≤ length u → Filling f (in_range_in f d 0 n) c.list m v u 0
      returns-filling l = filling-start r.known counted-few (rw (← q) l) c.kept c.whole c.long

      module _ (k : ℕ) (e : k + long_in f d 0 n ≡ n) where
        pub counted-least : m ≤ k
        counted-least = omega (arith, c.long, whole-few c.whole, length-in_range_in f d 0 n)

        pub returns-short : (file_bytes f k ≤ length v → room ≡ k) × (length v < file_bytes f k → room ≡ 0) → length u < size → Salvages d v (Err ShortBuffer) u
        returns-short s l = go (dec_le (file_bytes f k) (length v))
          where
            go : Dec (file_bytes f k ≤ length v) → Salvages d v (Err ShortBuffer) u
            go (yes h) = absurd (omega (arith, h, c.kept.long, q, file_bytes-mono f {i = m} {n = k} counted-least))
            go (no h) = rw (c.same (s.1 (omega arith))) (refused ShortBuffer (no_room d (length v) r.long known few (omega (arith, sized, c.kept.long))))

        pub returns-file : size ≤ length u → {w : List ℕ} → w ≡ put v 0 (file_of f (outermost (in_range_in f d 0 n))) → {a b : ℕ} → a ≡ trimmed_in f d 0 n → b ≡ long_in f d 0 n
            → Salvages d v (Ok (counts_as n a b (k - m) size)) w
        unfolding salvage_rule salvage_left counts_of
        returns-file l {w} p {a} {b} x y =
            let z = no_none d (length v) r.long known few (omega (arith, sized, c.kept.long)) in
            let t : k - m ≡ covered_in (entries_of d) = rw entries (omega (arith, covered-outermost (in_range_in f d 0 n), left, length-in_range_in f d 0 n)) in
            let i : counts_as n a b (k - m) size ≡ counts_of d = rw (x, y, t, sized, read, ← r.family) in
            record { answer = rw z (ap (λ (i : Counts). (0, i)) i); bytes = rw z (p ∙ ap (put v 0) (sym saved)) }

-- room for so many, or for none
pub sure-fits : (f k : ℕ) {r n : ℕ} → (file_bytes f k ≤ n → r ≡ k) × (n < file_bytes f k → r ≡ 0) → 1 ≤ r → file_bytes f r ≤ n
sure-fits f k {r} {n} s h = go (dec_le (file_bytes f k) n)
  where
    go : Dec (file_bytes f k ≤ n) → file_bytes f r ≤ n
    go (yes x) = rw (s.0 x) x
    go (no x) = absurd (omega (arith, s.1 (omega arith)))

pub header-least : (f m : ℕ) {a b : ℕ} → file_bytes f m ≤ a → b ≡ a → header_bytes ≤ b
unfolding file_bytes
header-least f m h e = omega arith

-- The entries of a file by its length.
module _ (d : List ℕ) (f : ℕ) {s : ℕ} (e : s ≡ entry_bytes f) where
  pub entry-some : 0 < s
  unfolding entry_bytes
  entry-some = omega arith

  pub whole_is : (length d - header_bytes) / s ≡ whole_entries f d
  unfolding whole_entries
  whole_is = rw e

  pub whole-fits : header_bytes ≤ length d → file_bytes f ((length d - header_bytes) / s) ≤ length d
  unfolding file_bytes
  whole-fits h = rw (← e, mul_comm s ((length d - header_bytes) / s)) (omega (arith, div-mul-le_self (length d - header_bytes) s))
