-- The bytes of a number: `bytes_of` writes them and `big_endian` reads them, each undoes the other; and a long number is written in parts. Assumes nothing.
use mathlib.Core.Path.{◌≡◌, refl, sym, ap, ◌∙◌}
use mathlib.Core.List.{List, [], ◌∷◌, ◌++◌, append-nil, append_assoc}
use Prim.Native.Nat.{ℕ, zero, suc, ◌+◌, ◌*◌, ◌/◌, ◌%◌, ◌^◌, ◌≤◌, ◌<◌}
use native.Mathlib.Nat.{suc-add, zero-add, add_comm, pow-suc, pow-succ', one-le-pow, div-one, mod-one, mod-lt, div-div-eq-div-mul}
use native.Mathlib.Omega.{arith}
use lib.Arith.{digits_lt, digits_div, digits_mod, mod-mul}
use lib.ListN.{length, get_or, take}
use lib.Pow.{pow-add}
use lib.Seq.{take-suc, take-length, get_or_at}
use Rattle.nets.specs.Networks.{big_endian}
use Rattle.setfile_format.specs.Files.{bytes_of}

-- every element is a byte
abbrev pub Bytes : List ℕ → Type 0
Bytes xs = (i : ℕ) → get_or xs i 0 < 256

pub length-bytes_of : (k n : ℕ) → length (bytes_of k n) ≡ k
unfolding bytes_of
length-bytes_of zero n = refl
length-bytes_of (suc k) n = ap suc (length-bytes_of k n)

pub bytes_of-bytes : (k n : ℕ) → Bytes (bytes_of k n)
unfolding bytes_of
bytes_of-bytes zero n i = omega arith
bytes_of-bytes (suc k) n zero = mod-lt (n / 256 ^ k) (omega arith)
bytes_of-bytes (suc k) n (suc i) = bytes_of-bytes k n i

-- all but the last, and the last
bytes_of-last : (k n : ℕ) → bytes_of (suc k) n ≡ bytes_of k (n / 256) ++ (n % 256 ∷ [])
unfolding bytes_of
bytes_of-last zero n = rw (div-one n)
bytes_of-last (suc k) n =
    let h : n / 256 ^ suc k ≡ n / 256 / 256 ^ k = ap (λ m. n / m) (pow-succ' 256 k) ∙ sym (div-div-eq-div-mul n 256 (256 ^ k)) in
    rw h (ap (λ xs. n / 256 / 256 ^ k % 256 ∷ xs) (bytes_of-last k n))

pub big_endian-bytes_of : (k n : ℕ) (ys : List ℕ) → big_endian 256 (bytes_of k n ++ ys) k ≡ n % 256 ^ k
unfolding big_endian
big_endian-bytes_of zero n ys = sym (mod-one n)
big_endian-bytes_of (suc k) n ys =
    let m = n / 256 in
    let e : bytes_of (suc k) n ++ ys ≡ bytes_of k m ++ (n % 256 ∷ ys) = ap (λ xs. xs ++ ys) (bytes_of-last k n) ∙ append_assoc (bytes_of k m) (n % 256 ∷ []) ys in
    ap (λ zs. big_endian 256 zs (suc k)) e ∙ rw (big_endian-bytes_of k m (n % 256 ∷ ys), get_or_at (bytes_of k m) (n % 256) ys 0 k (length-bytes_of k m), pow-suc 256 k) (sym (mod-mul n (one-le-pow k 256 (omega arith)) (omega arith)))

module _ (xs : List ℕ) (bytes : Bytes xs) where
  pub big_endian-lt : (k : ℕ) → big_endian 256 xs k < 256 ^ k
  unfolding big_endian
  big_endian-lt zero = omega arith
  big_endian-lt (suc k) = rw (pow-suc 256 k) (digits_lt (big_endian-lt k) (bytes k))

  pub bytes_of-big_endian : (k : ℕ) → k ≤ length xs → bytes_of k (big_endian 256 xs k) ≡ take k xs
  unfolding big_endian bytes_of
  bytes_of-big_endian zero h = refl
  bytes_of-big_endian (suc k) h =
      let n = big_endian 256 xs k in
      rw (bytes_of-last k (n * 256 + get_or xs k 0), digits_div n (bytes k), digits_mod n (bytes k), bytes_of-big_endian k (omega arith)) (sym (take-suc xs k 0 h))

-- In parts: the first j bytes are those of the quotient, and the last k only ask for the remainder.
pub bytes_of-parts : (j k n : ℕ) → bytes_of (j + k) n ≡ bytes_of j (n / 256 ^ k) ++ bytes_of k n
unfolding bytes_of
bytes_of-parts zero k n = rw (zero-add k)
bytes_of-parts (suc j) k n =
    let h : n / 256 ^ (j + k) ≡ n / 256 ^ k / 256 ^ j = ap (λ m. n / 256 ^ m) (add_comm j k) ∙ ap (λ m. n / m) (pow-add 256 k j) ∙ sym (div-div-eq-div-mul n (256 ^ k) (256 ^ j)) in
    rw (suc-add j k, h, bytes_of-parts j k n)

pub bytes_of_mod : (k n : ℕ) → bytes_of k (n % 256 ^ k) ≡ bytes_of k n
bytes_of_mod k n =
    let xs = bytes_of k n in
    let e : length xs ≡ k = length-bytes_of k n in
    rw (append-nil xs) at (ap (bytes_of k) (sym (big_endian-bytes_of k n []))) ∙ bytes_of-big_endian xs (bytes_of-bytes k n) k (omega arith) ∙ ap (λ m. take m xs) (sym e) ∙ take-length xs
