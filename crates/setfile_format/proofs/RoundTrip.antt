-- Files and lists: a list's file reads back to it (Written), and whatever reads as a list is that list's file. So each list has one file in its family, and all other bytes are
-- broken. One proof over the width. Assumes nothing.
use mathlib.Core.Path.{◌≡◌, refl, sym, ap, ◌∙◌}
use mathlib.Core.Bool.{Bool, true, false, not, cond, ◌&&◌, not-not}
use mathlib.Core.List.{List, [], ◌∷◌, ◌++◌}
use Prim.Native.Nat.{ℕ, zero, suc, ◌+◌, ◌-◌, ◌*◌, ◌/◌, ◌%◌, ◌^◌, ◌≤◌, ◌<◌}
use native.Mathlib.Nat.{zero-add, mul-add, mul-suc, add-zero}
use native.Mathlib.Numerals.{add-one}
use native.Mathlib.Omega.{arith}
use borrow.Author.Tests.{eqb-true, leb-true}
use lib.Dec.{eqb, leb}
use lib.ListN.{length, get_or, take, drop, length-drop, take-append-drop, drop_of_length-le}
use lib.Pow.{shr_mod, split}
use lib.Seq.{take-suc, take-add, drop-drop, get_or-drop}
use Rattle.nets.specs.Bits.{Bits, val, bits}
use Rattle.nets.specs.Lists.{is_list}
use Rattle.nets.specs.Networks.{is_family, width, address, net_bits, has_bit_past, big_endian}
use Rattle.nets.specs.declared.Net.{Net}
use Rattle.nets.proofs.Strings.{and_left, and_right}
use Rattle.nets.proofs.Numbers.{length-bits, val-bits, take-bits}
use Rattle.setfile_format.specs.Files.{bytes_of, address_bytes, entry_bytes, header_bytes, file_bytes, most_entries, entry_of, entries_of, header_of, file_of, head_number, entry_at, entry_net, is_clean, are_clean, networks_in, is_file_header, are_entries, File, broken, file, read_file}
use Rattle.setfile_format.proofs.Bytes.{Bytes, big_endian-lt, bytes_of-big_endian}
use Rattle.setfile_format.proofs.Written.{address-bytes, read_file-file_of}

-- What reads as a list is that list's file.
pub record IsFile (d : List ℕ) (f : ℕ) (l : List Bits) : Type 0 where
  pub family : is_family f ≡ true
  pub few : length l ≤ most_entries
  pub list : is_list (width f) l ≡ true
  pub long : length d ≡ file_bytes f (length l)
  pub numbers : (head_number d 0 ≡ f) × (head_number d 1 ≡ length l) × (head_number d 2 ≡ header_bytes) × (head_number d 3 ≡ file_bytes f (length l))
  pub clean : are_clean f d 0 (length l) ≡ true
  pub networks : networks_in f d 0 (length l) ≡ l

pub length-networks_in : (f : ℕ) (d : List ℕ) (i k : ℕ) → length (networks_in f d i k) ≡ k
unfolding networks_in
length-networks_in f d i zero = refl
length-networks_in f d i (suc k) = ap suc (length-networks_in f d (suc i) k)

reads_as : (b : Bool) (g : ℕ) (m : List Bits) (f : ℕ) (l : List Bits) → cond b (file g m) broken ≡ file f l → (b ≡ true) × (g ≡ f) × (m ≡ l)
reads_as true g m f l e = (refl, cc, cc)
reads_as false g m f l e = let z : ◌≡◌ {A = ℕ} 0 1 = cc in absurd (omega arith)

pub read_file-is : (d : List ℕ) (f : ℕ) (l : List Bits) → read_file d ≡ file f l → IsFile d f l
unfolding read_file is_file_header are_entries
read_file-is d f l e =
    let g = head_number d 0 in
    let n = head_number d 1 in
    let m = networks_in g d 0 n in
    let r = reads_as (is_file_header d && are_entries g d n) g m f l e in
    let h = and_left (is_file_header d) (are_entries g d n) r.0 in
    let a = and_right (is_file_header d) (are_entries g d n) r.0 in
    let hx = is_family g && leb n most_entries in
    let hz = eqb (head_number d 3) (length d) && eqb (length d) (file_bytes g n) in
    let hy = eqb (head_number d 2) header_bytes && hz in
    let x = and_left hx hy h in
    let y = and_right hx hy h in
    let z = and_right (eqb (head_number d 2) header_bytes) hz y in
    let len : n ≡ length l = sym (length-networks_in g d 0 n) ∙ ap length r.2 in
    let long : length d ≡ file_bytes f (length l) = eqb-true (length d) (file_bytes g n) (and_right (eqb (head_number d 3) (length d)) (eqb (length d) (file_bytes g n)) z) ∙ rw (r.1, len) in
    record {
      family = rw r.1 at (and_left (is_family g) (leb n most_entries) x);
      few = rw len at (leb-true n most_entries (and_right (is_family g) (leb n most_entries) x));
      list = rw (r.2, r.1) at (and_right (are_clean g d 0 n) (is_list (width g) m) a);
      long = long;
      numbers = (
        r.1,
        len,
        eqb-true (head_number d 2) header_bytes (and_left (eqb (head_number d 2) header_bytes) hz y),
        eqb-true (head_number d 3) (length d) (and_left (eqb (head_number d 3) (length d)) (eqb (length d) (file_bytes g n)) z) ∙ long,
      );
      clean = rw (r.1, len) at (and_left (are_clean g d 0 n) (is_list (width g) m) a);
      networks = rw (r.1, len) at r.2;
    }

-- A clean entry is that of its network.
module _ (n : Net) (clean : is_clean n ≡ true) (low : address n < 2 ^ width n.family) where
  pub clean-len : n.len ≤ width n.family
  unfolding is_clean
  clean-len = leb-true n.len (width n.family) (and_left (leb n.len (width n.family)) (not (has_bit_past n)) clean)

  -- k bits stand past the length
  module _ (k : ℕ) (p : n.len + k ≡ width n.family) where
    clean-zero : address n % 2 ^ k ≡ 0
    unfolding is_clean has_bit_past
    clean-zero =
        let q : width n.family - n.len ≡ k = omega arith in
        let z = eqb (address n % 2 ^ (width n.family - n.len)) 0 in
        rw (← q) (eqb-true (address n % 2 ^ (width n.family - n.len)) 0 (sym (not-not z) ∙ and_right (leb n.len (width n.family)) (not (not z)) clean))

    clean-bits : net_bits n ≡ bits n.len (address n / 2 ^ k)
    unfolding net_bits
    clean-bits = rw (← p) (take-bits n.len k (address n))

    pub clean-high : val (net_bits n) * 2 ^ k ≡ address n
    clean-high =
        let b : address n < 2 ^ (n.len + k) = rw p low in
        let e = split (address n) k in
        rw (clean-bits, val-bits n.len (address n / 2 ^ k), shr_mod n.len k b) (sym (add-zero (address n / 2 ^ k * 2 ^ k)) ∙ (rw clean-zero at e))

  past : n.len + (width n.family - n.len) ≡ width n.family
  past = omega (arith, clean-len)

  pub clean-length : length (net_bits n) ≡ n.len
  clean-length = ap length (clean-bits (width n.family - n.len) past) ∙ length-bits n.len (address n / 2 ^ (width n.family - n.len))

  pub clean-number : val (net_bits n) * 2 ^ (width n.family - length (net_bits n)) ≡ address n
  clean-number = rw clean-length (clean-high (width n.family - n.len) past)

pub Bytes-drop : (n : ℕ) (d : List ℕ) → Bytes d → Bytes (drop n d)
Bytes-drop n d h i = rw (get_or-drop n d i 0) (h (n + i))

take_more : (k : ℕ) (xs : List ℕ) → k < length xs → take (k + 1) xs ≡ take k xs ++ (get_or xs k 0 ∷ [])
take_more k xs h = rw (add-one k) (take-suc xs k 0 h)

take-fours : (d : List ℕ) → take 16 d ≡ take 4 d ++ (take 4 (drop 4 d) ++ (take 4 (drop 8 d) ++ take 4 (drop 12 d)))
take-fours d = rw (take-add 4 12 d, take-add 4 8 (drop 4 d), drop-drop 4 4 d, take-add 4 4 (drop 8 d), drop-drop 4 8 d)

module _ (d : List ℕ) (bytes : Bytes d) where
  head-written : (k : ℕ) → 4 * k + 4 ≤ length d → bytes_of 4 (head_number d k) ≡ take 4 (drop (4 * k) d)
  unfolding head_number
  head-written k h = bytes_of-big_endian (drop (4 * k) d) (Bytes-drop (4 * k) d bytes) 4 (omega (arith, length-drop (4 * k) d))

  module _ (f : ℕ) where
    pub entry-low : (i : ℕ) → address (entry_net f d i) < 2 ^ width f
    unfolding entry_net
    entry-low i =
        rw (split (big_endian 256 (drop (entry_at f i) d) (address_bytes f)) 64, ← address-bytes f)
        (big_endian-lt (drop (entry_at f i) d) (Bytes-drop (entry_at f i) d bytes) (address_bytes f))

    pub entry-written : (i : ℕ) → entry_at f (suc i) ≤ length d → is_clean (entry_net f d i) ≡ true → entry_of f (net_bits (entry_net f d i)) ≡ take (entry_bytes f) (drop (entry_at f i) d)
    unfolding entry_of entry_net entry_bytes
    entry-written i h c =
        let xs = drop (entry_at f i) d in
        let k = address_bytes f in
        let a = big_endian 256 xs k in
        let n = entry_net f d i in
        let long : suc k ≤ length xs = omega (arith, length-drop (entry_at f i) d, mul-suc (k + 1) i) in
        let b : bytes_of k a ≡ take k xs = bytes_of-big_endian xs (Bytes-drop (entry_at f i) d bytes) k (omega arith) in
        let last : get_or d (entry_at f i + k) 0 ≡ get_or xs k 0 = sym (get_or-drop (entry_at f i) d k 0) in
        rw (clean-number n c (entry-low i), split a 64, clean-length n c (entry-low i), b, last) (sym (take_more k xs long))

    pub entries-written : (i k : ℕ) → entry_at f (i + k) ≡ length d → are_clean f d i k ≡ true → entries_of f (networks_in f d i k) ≡ drop (entry_at f i) d
    unfolding entries_of networks_in are_clean
    entries-written i zero h c = let g : length d ≤ entry_at f i = omega (arith, rw (add-zero i) at h) in sym (drop_of_length-le d g)
    entries-written i (suc k) h c =
        let e : i + suc k ≡ suc i + k = omega arith in
        let g : entry_at f (suc i + k) ≡ length d = rw e at h in
        let m : entry_at f (suc i) ≡ entry_at f i + entry_bytes f = rw (mul-suc (entry_bytes f) i) (omega arith) in
        let long : entry_at f (suc i) ≤ length d = omega (arith, mul-add (entry_bytes f) (suc i) k) in
        let x = entry-written i long (and_left (is_clean (entry_net f d i)) (are_clean f d (suc i) k) c) in
        let y = entries-written (suc i) k g (and_right (is_clean (entry_net f d i)) (are_clean f d (suc i) k) c) in
        rw (x, y, m, ← drop-drop (entry_bytes f) (entry_at f i) d) (take-append-drop (entry_bytes f) (drop (entry_at f i) d))

  pub read_file-only : (f : ℕ) (l : List Bits) → read_file d ≡ file f l → d ≡ file_of f l
  unfolding file_of header_of file_bytes
  read_file-only f l e =
      let o = read_file-is d f l e in
      let n = o.numbers in
      let long : header_bytes ≤ length d = omega (arith, o.long) in
      let h : (k m : ℕ) → k < 4 → head_number d k ≡ m → take 4 (drop (4 * k) d) ≡ bytes_of 4 m = λ k m g q. sym (head-written k (omega arith)) ∙ ap (bytes_of 4) q in
      let b : drop header_bytes d ≡ entries_of f l = ap (λ n. drop n d) first ∙ sym (entries-written f 0 (length l) (rw (zero-add (length l)) (sym o.long)) o.clean) ∙ ap (entries_of f) o.networks in
      let a : take header_bytes d ≡ header_of f (length l) =
      take-fours d ∙ rw (h 0 f (omega arith) n.0, h 1 (length l) (omega arith) n.1, h 2 header_bytes (omega arith) n.2, h 3 (file_bytes f (length l)) (omega arith) n.3) in
      sym (take-append-drop header_bytes d) ∙ rw (a, b)
    where
      first : header_bytes ≡ entry_at f 0
      first = omega arith

-- Bytes are broken exactly if they are no list's file.
pub read_file-broken : (d : List ℕ) → read_file d ≡ broken → (f : ℕ) (l : List Bits) → is_family f ≡ true → is_list (width f) l ≡ true → length l ≤ most_entries → d ≡ file_of f l → ⊥
read_file-broken d e f l family list few q =
    let h : broken ≡ file f l = sym e ∙ ap read_file q ∙ read_file-file_of f l family list few in
    let z : ◌≡◌ {A = ℕ} 0 1 = cc in
    omega arith

pub broken-read_file : (d : List ℕ) → Bytes d → ((f : ℕ) (l : List Bits) → is_family f ≡ true → is_list (width f) l ≡ true → length l ≤ most_entries → d ≡ file_of f l → ⊥) → read_file d ≡ broken
broken-read_file d bytes h = go (read_file d) refl
  where
    go : (x : File) → read_file d ≡ x → x ≡ broken
    go broken e = refl
    go (file f l) e = let o = read_file-is d f l e in absurd (h f l o.family o.list o.few (read_file-only d bytes f l e))

-- Each list has one file in its family, and a file one family and one list.
pub file_of-one : (f g : ℕ) (l m : List Bits) → is_family f ≡ true → is_list (width f) l ≡ true → length l ≤ most_entries → is_family g ≡ true → is_list (width g) m ≡ true → length m ≤ most_entries
    → file_of f l ≡ file_of g m → (f ≡ g) × (l ≡ m)
file_of-one f g l m a b c a' b' c' e =
    let h : file f l ≡ file g m = sym (read_file-file_of f l a b c) ∙ ap read_file e ∙ read_file-file_of g m a' b' c' in
    (cc, cc)
