-- Reading a file in address order: whether its entries are a list shows by neighbours, in file order and then in address order; and the nodes are few enough for a number of
-- 32 bits. Assumes nothing.
use mathlib.Core.Bool.{Bool, true, false, ◌&&◌, and-true, and-false}
use mathlib.Core.List.{List}
use mathlib.Core.Path.{◌≡◌, refl, sym, ◌∙◌}
use Prim.Native.Nat.{ℕ, ◌*◌, ◌≤◌}
use native.Mathlib.Nat.{mul-le-mul}
use native.Mathlib.Omega.{arith}
use lib.Dec.{eqb, leb}
use lib.ListN.{length}
use borrow.Author.Tests.{eqb-true, leb-true}
use Rattle.nets.specs.Bits.{Bits}
use Rattle.nets.specs.Lists.{ascending, apart, is_list, nodes_l}
use Rattle.nets.specs.Networks.{is_family, width}
use Rattle.nets.proofs.Strings.{and_left, and_right, and_both}
use Rattle.nets.proofs.Numbers.{width-le}
use Rattle.setfile_format.specs.Files.{header_bytes, file_bytes, most_entries, head_number, are_clean, networks_in, is_file_header, are_entries, file, broken, read_file}
use Rattle.address_order.specs.Streams.{in_address_order, loose, path_nodes}
use Rattle.setfile_format.proofs.RoundTrip.{length-networks_in}
use Rattle.address_order.proofs.PathNodes.{path_nodes-few}
use Rattle.address_order.proofs.Sorted.{length-order, within-order, loose-order, nodes-order}
use Rattle.setfile_format.proofs.FileOrder.{within-networks_in}

-- Clean, ascending, and none inside the one before it.
module _ (f : ℕ) (d : List ℕ) (n : ℕ) where
  pub are_entries-neighbours : are_entries f d n ≡ ((are_clean f d 0 n && ascending (networks_in f d 0 n)) && loose (in_address_order (networks_in f d 0 n)))
  unfolding are_entries is_list
  are_entries-neighbours = rw (within-networks_in f d 0 n) (go (ascending (networks_in f d 0 n)) refl (are_clean f d 0 n))
    where
      go : (x : Bool) → ascending (networks_in f d 0 n) ≡ x → (c : Bool) → (c && (x && (apart (networks_in f d 0 n) && true))) ≡ ((c && x) && loose (in_address_order (networks_in f d 0 n)))
      go true e true = and-true (apart (networks_in f d 0 n)) ∙ sym (loose-order (networks_in f d 0 n) e)
      go true e false = refl
      go false e c = rw (and-false c)

  pub are_entries-list : are_entries f d n ≡ true → is_list (width f) (networks_in f d 0 n) ≡ true
  unfolding are_entries
  are_entries-list e = and_right (are_clean f d 0 n) (is_list (width f) (networks_in f d 0 n)) e

-- What a file is read as, test by test.
module _ (d : List ℕ) where
  -- the header's family and number of entries, and the networks of these
  abbrev pub family_in : ℕ
  family_in = head_number d 0

  abbrev pub count_in : ℕ
  count_in = head_number d 1

  abbrev pub list_in : List Bits
  list_in = networks_in family_in d 0 count_in

  pub read_file-headless : is_file_header d ≡ false → read_file d ≡ broken
  unfolding read_file
  read_file-headless e = rw e

  not-entries : are_entries family_in d count_in ≡ false → read_file d ≡ broken
  unfolding read_file
  not-entries e = rw (e, and-false (is_file_header d))

  pub read_file-unordered : (are_clean family_in d 0 count_in && ascending list_in) ≡ false → read_file d ≡ broken
  read_file-unordered e = not-entries (are_entries-neighbours family_in d count_in ∙ rw e)

  pub read_file-inside : loose (in_address_order list_in) ≡ false → read_file d ≡ broken
  read_file-inside e = not-entries (are_entries-neighbours family_in d count_in ∙ rw (e, and-false (are_clean family_in d 0 count_in && ascending list_in)))

  module _ (header : is_file_header d ≡ true) where
    pub header-family : is_family family_in ≡ true
    unfolding is_file_header
    header-family = and_left (is_family family_in) (leb count_in most_entries) (and_left (is_family family_in && leb count_in most_entries) _ header)

    pub header-few : count_in ≤ most_entries
    unfolding is_file_header
    header-few = leb-true count_in most_entries (and_right (is_family family_in) (leb count_in most_entries) (and_left (is_family family_in && leb count_in most_entries) _ header))

    pub header-length : length d ≡ file_bytes family_in count_in
    unfolding is_file_header
    header-length =
        let a = is_family family_in && leb count_in most_entries in
        let c = eqb (length d) (file_bytes family_in count_in) in
        let b = eqb (head_number d 3) (length d) && c in
        eqb-true (length d) (file_bytes family_in count_in) (and_right (eqb (head_number d 3) (length d)) c (and_right (eqb (head_number d 2) header_bytes) b (and_right a (eqb (head_number d 2) header_bytes && b) header)))

    module _ (order : (are_clean family_in d 0 count_in && ascending list_in) ≡ true) (apart : loose (in_address_order list_in) ≡ true) where
      entries : are_entries family_in d count_in ≡ true
      entries = are_entries-neighbours family_in d count_in ∙ and_both (are_clean family_in d 0 count_in && ascending list_in) (loose (in_address_order list_in)) order apart

      pub read_file-list : read_file d ≡ file family_in list_in
      unfolding read_file
      read_file-list = rw (header, entries)

      pub read_file-nodes : nodes_l list_in ≡ path_nodes (in_address_order list_in)
      read_file-nodes = sym (nodes-order (width family_in) list_in (are_entries-list family_in d count_in entries))

-- The nodes are few.
pub nodes-few : (f : ℕ) (d : List ℕ) (n : ℕ) → n ≤ most_entries → path_nodes (in_address_order (networks_in f d 0 n)) ≤ 536870913
nodes-few f d n h =
    let l = networks_in f d 0 n in
    let e : length (in_address_order l) ≡ n = length-order l ∙ length-networks_in f d 0 n in
    let m : width f * n ≤ 128 * most_entries = mul-le-mul (width-le f) h in
    omega (arith, rw e at (path_nodes-few (width f) (in_address_order l) (within-order (width f) l ∙ within-networks_in f d 0 n)))
