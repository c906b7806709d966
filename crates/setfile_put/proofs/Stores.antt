-- Numbers and entries as bytes: the stores of each are one write of its bytes. Assumes nothing.
use mathlib.Core.Path.{◌≡◌, refl, sym, ap, ◌∙◌}
use mathlib.Core.List.{List, [], ◌∷◌, ◌++◌}
use Prim.Native.Nat.{ℕ, zero, suc, ◌+◌, ◌-◌, ◌*◌, ◌/◌, ◌%◌, ◌^◌, ◌≤◌, ◌<◌}
use native.Mathlib.Nat.{add-mul, one-mul, div-one, mod-eq_of_lt}
use Rattle.std.specs.Int.{w32, w64, to_be_bytes}
use native.Mathlib.Omega.{arith}
use lib.ListN.{length, set, take, drop, length-append, length-set}
use Rattle.nets.specs.Bits.{Bits, val}
use Rattle.nets.specs.Networks.{width, net_from}
use Rattle.nets.specs.declared.Net.{Net}
use Rattle.nets.proofs.Numbers.{width-4, width-6}
use Rattle.nodes.specs.Words.{put}
use Rattle.nodes.proofs.Put.{length-put, set-put, put-behind-at}
use Rattle.trie_paths.proofs.Paths.{path-is}
use Rattle.setfile_format.specs.Files.{bytes_of, address_bytes, entry_bytes, entry_at, entry_of, header_bytes, file_bytes, header_of}
use Rattle.setfile_format.proofs.Bytes.{length-bytes_of, bytes_of-parts, bytes_of_mod}
use Rattle.setfile_format.proofs.Written.{number_lt}

-- one more store behind what is written
store : (v : List ℕ) (k j y : ℕ) (xs : List ℕ) → j ≡ k + length xs → set (put v k xs) j y ≡ put v k (xs ++ (y ∷ []))
store v k j y xs e = set-put (put v k xs) j y ∙ put-behind-at v k j xs (y ∷ []) e

-- bytes in the place of as many are one write of them
pub put-spliced : (w : List ℕ) (p : ℕ) (xs : List ℕ) → p + length xs ≤ length w → take p w ++ (xs ++ drop (length xs) (drop p w)) ≡ put w p xs
unfolding put
put-spliced [] zero [] h = refl
put-spliced [] zero (x ∷ xs) h = absurd (omega arith)
put-spliced [] (suc p) xs h = absurd (omega arith)
put-spliced (y ∷ w) (suc p) xs h = ap (λ l. y ∷ l) (put-spliced w p xs (omega arith))
put-spliced (y ∷ w) zero [] h = refl
put-spliced (y ∷ w) zero (x ∷ xs) h = ap (λ l. x ∷ l) (put-spliced w zero xs (omega arith))

pub bytes-number : (x : ℕ) → to_be_bytes w32 x ≡ bytes_of 4 x
unfolding bytes_of
bytes-number x = rw (div-one x)

pub bytes-word : (x : ℕ) → to_be_bytes w64 x ≡ bytes_of 8 x
unfolding bytes_of
bytes-word x = rw (div-one x)

-- at most as many entries as bytes
pub entry-count : (f k : ℕ) → k ≤ entry_at f k
unfolding entry_bytes
entry-count f k = omega (arith, add-mul (address_bytes f) 1 k, one-mul k)

-- The network x is p in the family f.
module _ (x : Net) (f : ℕ) (p : Bits) (e : x ≡ net_from f p) (h : length p ≤ width f) where
  abbrev number : ℕ
  number = val p * 2 ^ (width f - length p)

  is : (x.len ≡ length p) × (x.family ≡ f)
  is = path-is x f p e

  words_are : (x.hi ≡ number / 2 ^ 64) × (x.lo ≡ number % 2 ^ 64)
  unfolding net_from
  words_are = (ap (λ (y : Net). y.hi) e, ap (λ (y : Net). y.lo) e)

  -- the length behind the bytes of the address
  len-store : (v : List ℕ) (k j : ℕ) (xs : List ℕ) → xs ≡ bytes_of (address_bytes f) number → j ≡ k + length xs → set (put v k xs) j x.len ≡ put v k (entry_of f p)
  unfolding entry_of
  len-store v k j xs q h = store v k j x.len xs h ∙ rw (q, is.0)

  low-is : x.family ≡ 4 → (width f ≡ 32) × (x.lo ≡ number) × (number < 4294967296)
  low-is q =
      let w = width-4 f (sym is.1 ∙ q) in
      let n : number < 4294967296 = omega (arith, number_lt f p h, ap (λ n. 2 ^ n) w) in
      (w, words_are.1 ∙ mod-eq_of_lt (omega arith), n)

  pub low_fits : x.family ≡ 4 → x.lo < 4294967296
  low_fits q = let l = low-is q in omega (arith, l.1, l.2)

  pub stores-4 : (v : List ℕ) (k : ℕ) {a : List ℕ} → x.family ≡ 4 → a ≡ put v k (bytes_of 4 x.lo) → set a (k + 4) x.len ≡ put v k (entry_of f p)
  stores-4 v k q g =
      let l = low-is q in
      let a : 4 ≡ address_bytes f = sym (ap (λ n. n / 8) l.0) in
      rw g (len-store v k (k + 4) (bytes_of 4 x.lo) (ap (bytes_of 4) l.1 ∙ ap (λ n. bytes_of n number) a) (rw (length-bytes_of 4 x.lo)))

  pub stores-6 : (v : List ℕ) (k : ℕ) {a b : List ℕ} → (x.family ≡ 4 → ⊥) → a ≡ put v k (bytes_of 8 x.hi) → b ≡ put a (k + 8) (bytes_of 8 x.lo) → set b (k + 16) x.len ≡ put v k (entry_of f p)
  stores-6 v k q g j =
      let w = width-6 f (λ z. q (is.1 ∙ z)) in
      let a : 16 ≡ address_bytes f = sym (ap (λ n. n / 8) w) in
      let xs = bytes_of 8 x.hi in
      let ys = bytes_of 8 x.lo in
      let b : ys ≡ bytes_of 8 number = ap (bytes_of 8) words_are.1 ∙ bytes_of_mod 8 number in
      let c : xs ++ ys ≡ bytes_of (address_bytes f) number = rw (b, words_are.0) (sym (bytes_of-parts 8 8 number) ∙ ap (λ n. bytes_of n number) a) in
      let d : length (xs ++ ys) ≡ 16 = rw (length-append xs ys, length-bytes_of 8 x.hi, length-bytes_of 8 x.lo) in
      rw (j, g, put-behind-at v k (k + 8) xs ys (rw (length-bytes_of 8 x.hi))) (len-store v k (k + 16) (xs ++ ys) c (rw d))

pub length-6 : (v : List ℕ) (k l j y : ℕ) (xs ys : List ℕ) {a b : List ℕ} → a ≡ put v k xs → b ≡ put a l ys → length (set b j y) ≡ length v
length-6 v k l j y xs ys {a} {b} h g = length-set b j y ∙ ap length g ∙ length-put a l ys ∙ ap length h ∙ length-put v k xs

-- The header.
pub header-stores : (v : List ℕ) (f n : ℕ) {a b c d : List ℕ} (m : ℕ) → a ≡ put v 0 (bytes_of 4 f) → b ≡ put a 4 (bytes_of 4 n) → c ≡ put b 8 (bytes_of 4 header_bytes)
    → m ≡ file_bytes f n → d ≡ put c 12 (bytes_of 4 m) → d ≡ put v 0 (header_of f n)
unfolding header_of bytes_of
header-stores v f n m ha hb hc e hd =
    let x = bytes_of 4 f in
    let y = bytes_of 4 n in
    let z = bytes_of 4 header_bytes in
    hd ∙ rw (hc, hb, ha, e, put-behind-at v 0 4 x y refl, put-behind-at v 0 8 (x ++ y) z refl, put-behind-at v 0 12 ((x ++ y) ++ z) (bytes_of 4 (file_bytes f n)) refl)
