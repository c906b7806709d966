-- A list's file reads back to it: header, entries, networks. One proof over the width. Assumes nothing.
use mathlib.Core.Path.{◌≡◌, refl, ap, ◌∙◌}
use mathlib.Core.Bool.{Bool, true, false, cond}
use mathlib.Core.List.{List, [], ◌∷◌, ◌++◌, append_assoc}
use Prim.Native.Nat.{ℕ, zero, suc, ◌+◌, ◌-◌, ◌*◌, ◌/◌, ◌%◌, ◌^◌, ◌≤◌, ◌<◌}
use native.Mathlib.Nat.{mul-le-mul, mul-le-mul_left, mul-add, mul-one, mul-suc, mod-eq_of_lt, mul-mod_left, pow-suc}
use native.Mathlib.Omega.{arith}
use borrow.Author.Tests.{eq-eqb, le-leb, leb-true}
use lib.Dec.{eqb, leb}
use lib.ListN.{length, get_or, length-append}
use lib.Pow.{pow-add, shl_lt, split}
use lib.Seq.{drop_at, get_or_at}
use Rattle.nets.specs.Bits.{Bits, val}
use Rattle.nets.specs.Lists.{within, is_list}
use Rattle.nets.specs.Networks.{is_family, width, net_from, has_bit_past}
use Rattle.nets.proofs.Strings.{and_left, and_right}
use Rattle.nets.proofs.Order.{val-high}
use Rattle.nets.proofs.Numbers.{family-few, width-4, width-6, width-le, net_bits-net_from}
use Rattle.nets.proofs.TrieOf.{is_list-within}
use Rattle.setfile_format.specs.Files.{bytes_of, address_bytes, entry_bytes, header_bytes, file_bytes, most_entries, entry_of, entries_of, header_of, file_of, head_number, entry_at, entry_net, is_clean, are_clean, networks_in, is_file_header, are_entries, file, read_file}
use Rattle.setfile_format.proofs.Bytes.{length-bytes_of, big_endian-bytes_of}

-- The bytes of an address have as many bits as the family is wide.
pow-bytes : (k : ℕ) → 256 ^ k ≡ 2 ^ (8 * k)
pow-bytes zero = refl
pow-bytes (suc k) = rw (pow-suc 256 k, pow-bytes k, mul-suc 8 k, pow-add 2 (8 * k) 8)

width-bytes : (f : ℕ) → 8 * address_bytes f ≡ width f
unfolding width
width-bytes f = go (eqb f 4)
  where
    go : (b : Bool) → 8 * (cond b 32 128 / 8) ≡ cond b 32 128
    go true = refl
    go false = refl

pub address-bytes : (f : ℕ) → 256 ^ address_bytes f ≡ 2 ^ width f
address-bytes f = pow-bytes (address_bytes f) ∙ ap (λ n. 2 ^ n) (width-bytes f)

pub length-entry_of : (f : ℕ) (p : Bits) → length (entry_of f p) ≡ entry_bytes f
unfolding entry_of entry_bytes
length-entry_of f p = rw (length-append (bytes_of (address_bytes f) (val p * 2 ^ (width f - length p))) (length p ∷ []), length-bytes_of (address_bytes f) (val p * 2 ^ (width f - length p)))

pub length-entries_of : (f : ℕ) (l : List Bits) → length (entries_of f l) ≡ entry_bytes f * length l
unfolding entries_of
length-entries_of f [] = omega arith
length-entries_of f (p ∷ l) =
    rw (length-append (entry_of f p) (entries_of f l), length-entry_of f p, length-entries_of f l, mul-suc (entry_bytes f) (length l)) (omega arith)

pub length-header_of : (f n : ℕ) → length (header_of f n) ≡ header_bytes
unfolding header_of bytes_of
length-header_of f n = refl

pub length-file_of : (f : ℕ) (l : List Bits) → length (file_of f l) ≡ file_bytes f (length l)
unfolding file_of file_bytes
length-file_of f l = rw (length-append (header_of f (length l)) (entries_of f l), length-header_of f (length l), length-entries_of f l)

-- An entry is read as its network.
module _ (f : ℕ) (p : Bits) (h : length p ≤ width f) where
  pub number_lt : val p * 2 ^ (width f - length p) < 2 ^ width f
  number_lt = let e : length p + (width f - length p) ≡ width f = omega arith in rw e at (shl_lt (length p) (width f - length p) (val-high p))

  pub is_clean-net_from : is_clean (net_from f p) ≡ true
  unfolding is_clean has_bit_past net_from
  is_clean-net_from =
      let k = width f - length p in
      rw (le-leb (length p) (width f) h, split (val p * 2 ^ k) 64, mul-mod_left (val p) (2 ^ k))

  pub entry_net-entry_of : (i : ℕ) (xs ys : List ℕ) → length xs ≡ entry_at f i → entry_net f (xs ++ (entry_of f p ++ ys)) i ≡ net_from f p
  unfolding entry_net entry_of net_from
  entry_net-entry_of i xs ys e =
      let a = val p * 2 ^ (width f - length p) in
      let k = address_bytes f in
      let b = bytes_of k a in
      let c : (b ++ (length p ∷ [])) ++ ys ≡ b ++ (length p ∷ ys) = append_assoc b (length p ∷ []) ys in
      let d : length (xs ++ b) ≡ entry_at f i + k = rw (length-append xs b, length-bytes_of k a, e) in
      let m : a % 256 ^ k ≡ a = mod-eq_of_lt (rw (address-bytes f) number_lt) in
      let g : get_or (xs ++ (b ++ (length p ∷ ys))) (entry_at f i + k) 0 ≡ length p = rw (append_assoc xs b (length p ∷ ys)) at (get_or_at (xs ++ b) (length p) ys 0 (entry_at f i + k) d) in
      rw (c, g, drop_at xs (b ++ (length p ∷ ys)) (entry_at f i) e, big_endian-bytes_of k a (length p ∷ ys), m)

pub entries-read : (f : ℕ) (l : List Bits) (i : ℕ) (xs : List ℕ) → length xs ≡ entry_at f i → within (width f) l ≡ true
    → (are_clean f (xs ++ entries_of f l) i (length l) ≡ true) × (networks_in f (xs ++ entries_of f l) i (length l) ≡ l)
unfolding are_clean networks_in entries_of
entries-read f [] i xs e w = (refl, refl)
entries-read f (p ∷ l) i xs e w =
    let h : length p ≤ width f = leb-true (length p) (width f) (and_left (leb (length p) (width f)) (within (width f) l) w) in
    let ys = xs ++ entry_of f p in
    let d : length ys ≡ entry_at f (suc i) = rw (length-append xs (entry_of f p), length-entry_of f p, e, mul-suc (entry_bytes f) i) (omega arith) in
    let r = rw (append_assoc xs (entry_of f p) (entries_of f l)) at (entries-read f l (suc i) ys d (and_right (leb (length p) (width f)) (within (width f) l) w)) in
    let n = entry_net-entry_of f p h i xs (entries_of f l) e in
    (rw (n, is_clean-net_from f p h) r.0, rw (n, net_bits-net_from f p h, r.1))

-- A number of the header is read as it is.
head_read : (k m : ℕ) (xs ys : List ℕ) → length xs ≡ 4 * k → m < 4294967296 → head_number (xs ++ (bytes_of 4 m ++ ys)) k ≡ m
unfolding head_number
head_read k m xs ys e h = rw (drop_at xs (bytes_of 4 m ++ ys) (4 * k) e, big_endian-bytes_of 4 m ys) (mod-eq_of_lt h)

-- The bytes of an entry and of a file.
pub entry_bytes-4 : (f : ℕ) → f ≡ 4 → entry_bytes f ≡ 5
unfolding entry_bytes
entry_bytes-4 f e = rw (width-4 f e)

pub entry_bytes-6 : (f : ℕ) → (f ≡ 4 → ⊥) → entry_bytes f ≡ 17
unfolding entry_bytes
entry_bytes-6 f e = rw (width-6 f e)

pub entry_at-next : (f i : ℕ) → entry_at f (i + 1) ≡ entry_at f i + entry_bytes f
entry_at-next f i = omega (arith, mul-add (entry_bytes f) i 1, mul-one (entry_bytes f))

entry_bytes-le : (f : ℕ) → entry_bytes f ≤ 17
unfolding entry_bytes
entry_bytes-le f = omega (arith, width-le f)

pub file_bytes-mono : (f : ℕ) {i n : ℕ} → i ≤ n → file_bytes f i ≤ file_bytes f n
unfolding file_bytes
file_bytes-mono f {i} {n} h = let q : entry_bytes f * i ≤ entry_bytes f * n = mul-le-mul_left (entry_bytes f) h in omega (arith, q)

pub file_bytes-few : (f n : ℕ) → n ≤ most_entries → file_bytes f n ≤ 71303184
unfolding file_bytes
file_bytes-few f n h = let m : entry_bytes f * n ≤ 17 * most_entries = mul-le-mul (entry_bytes-le f) h in omega arith

module _ (f n : ℕ) (xs : List ℕ) (family : is_family f ≡ true) (few : n ≤ most_entries) where
  abbrev d : List ℕ
  d = header_of f n ++ xs

  header-0 : head_number d 0 ≡ f
  unfolding header_of
  header-0 = simp append_assoc (head_read 0 f [] (bytes_of 4 n ++ (bytes_of 4 header_bytes ++ (bytes_of 4 (file_bytes f n) ++ xs))) refl (omega (arith, family-few f family)))

  header-1 : head_number d 1 ≡ n
  unfolding header_of
  header-1 = simp append_assoc (head_read 1 n (bytes_of 4 f) (bytes_of 4 header_bytes ++ (bytes_of 4 (file_bytes f n) ++ xs)) (length-bytes_of 4 f) (omega arith))

  header-2 : head_number d 2 ≡ header_bytes
  unfolding header_of
  header-2 =
      simp append_assoc
      (simp append_assoc at (head_read 2 header_bytes (bytes_of 4 f ++ bytes_of 4 n) (bytes_of 4 (file_bytes f n) ++ xs) (simp (length-append, length-bytes_of)) (omega arith)))

  header-3 : head_number d 3 ≡ file_bytes f n
  unfolding header_of
  header-3 =
      simp append_assoc
      (simp append_assoc at (head_read 3 (file_bytes f n) (bytes_of 4 f ++ (bytes_of 4 n ++ bytes_of 4 header_bytes)) xs (simp (length-append, length-bytes_of)) (omega (arith, file_bytes-few f n few))))

  header_read : length d ≡ file_bytes f n → is_file_header d ≡ true
  unfolding is_file_header
  header_read e = rw (header-0, header-1, header-2, header-3, e, family, le-leb n most_entries few, eq-eqb (file_bytes f n) (file_bytes f n) refl)

-- A list's file reads back to it.
pub read_file-file_of : (f : ℕ) (l : List Bits) → is_family f ≡ true → is_list (width f) l ≡ true → length l ≤ most_entries → read_file (file_of f l) ≡ file f l
unfolding read_file file_of are_entries
read_file-file_of f l family list few =
    let n = length l in
    let xs = entries_of f l in
    let r = entries-read f l 0 (header_of f n) (length-header_of f n ∙ zero-entry f) (is_list-within (width f) l list) in
    rw (header_read f n xs family few (length-file_of f l), header-0 f n xs family few, header-1 f n xs family few, r.0, r.1, list)
  where
    zero-entry : (f : ℕ) → header_bytes ≡ entry_at f 0
    zero-entry f = omega arith
