-- What is read is a network of IPv6, and can be taken in; a line has at most 49 bytes; each call has one answer. Assumes nothing.
use mathlib.Core.Bool.{Bool, true, false, cond}
use mathlib.Core.List.{List, [], ◌∷◌, ◌++◌}
use mathlib.Core.Path.{◌≡◌, refl, ap, sym, ◌∙◌}
use Prim.Native.Nat.{ℕ, zero, suc, ◌+◌, ◌-◌, ◌*◌, ◌^◌, ◌≤◌, ◌<◌}
use native.Mathlib.Omega.{arith}
use lib.ListN.{length, get_or, replicate, length-append}
use borrow.Author.Tests.{le-leb}
use Rattle.nets.proofs.Answers.{entered_as-one}
use Rattle.nets.proofs.TwoWords.{net_of-value, in_range-6}
use Rattle.nets.specs.Networks.{net_words, net_of, refusal_of, taken_as, no_entry, entered_as, entered}
use Rattle.nets.specs.Refusals.{number}
use Rattle.nets.specs.declared.Net.{Net}
use Rattle.nets.specs.declared.Refusal.{Refusal}
use Rattle.addresses.proofs.Words.{big_endian-groups}
use Rattle.text_decimal.specs.Decimal.{decimal}
use Rattle.text.specs.DecOctet.{is_dec_octet}
use Rattle.text.specs.Ipv4.{slash, bad_text}
use Rattle.text_decimal.proofs.Numbers.{is_number-is}
use Rattle.text.proofs.Digits.{length-number}
use Rattle.text.proofs.DecOctet.{octet-number}
use Rattle.text.proofs.Answers.{taken_in-network, taken_in-refused}
use Rattle.text_hex.specs.Hex.{hex_number, colon}
use Rattle.text_hex.proofs.Digits.{hex_number-most}
use Rattle.text_ipv6_runs.specs.Runs.{is_group}
use Rattle.text_ipv6_read.specs.Ipv6.{dotted, Pieces, group, quad, more, Side, empty, pieces, IsAddress, full, shortened, ipv6, IsLine6}
use Rattle.text_ipv6_read.specs.Reader.{read_line6, entered_line6}
use Rattle.text_ipv6_runs.proofs.Groups.{is_group-is}
use Rattle.text_ipv6_read.proofs.Dotted.{octet-most}
use Rattle.text_ipv6_read.proofs.Grammar.{read_line6-accepts, read_line6-refuses}
use Rattle.std.specs.Prelude.{Result, Ok, Err}

-- Every group has 16 bits.
pub Small : List ℕ → Type 0
Small xs = (i : ℕ) → get_or xs i 0 < 65536

small-cons : (x : ℕ) (xs : List ℕ) → x < 65536 → Small xs → Small (x ∷ xs)
unfolding Small
small-cons x xs h g zero = h
small-cons x xs h g (suc i) = g i

small-none : Small []
unfolding Small
small-none i = omega arith

small-append : (xs ys : List ℕ) → Small xs → Small ys → Small (xs ++ ys)
unfolding Small
small-append [] ys h g = g
small-append (x ∷ xs) ys h g = small-cons x (xs ++ ys) (h zero) (small-append xs ys (λ i. h (suc i)) g)

small-zeros : (n : ℕ) → Small (replicate n 0)
small-zeros zero = small-none
small-zeros (suc n) = small-cons 0 (replicate n 0) (omega arith) (small-zeros n)

small-group : (g : List ℕ) → is_group g ≡ true → hex_number g < 65536
small-group g h = hex_number-most g (is_group-is g h).most

small-pieces : {q : Bool} {s xs : List ℕ} → Pieces q s xs → Small xs
small-pieces (group g h) = small-cons (hex_number g) [] (small-group g h) small-none
small-pieces (quad a b c d h i j k) =
    small-cons (decimal a * 256 + decimal b) ((decimal c * 256 + decimal d) ∷ []) (omega (arith, octet-most a h, octet-most b i))
    (small-cons (decimal c * 256 + decimal d) [] (omega (arith, octet-most c j, octet-most d k)) small-none)
small-pieces (more {xs = xs} g h p) = small-cons (hex_number g) xs (small-group g h) (small-pieces p)

small-side : {q : Bool} {s xs : List ℕ} → Side q s xs → Small xs
small-side empty = small-none
small-side (pieces p) = small-pieces p

pub small-address : {s xs : List ℕ} → IsAddress s xs → Small xs
small-address (full p h) = small-pieces p
small-address (shortened {xs = xs} {ys = ys} f b h) =
    let zs : List ℕ = replicate (8 - (length xs + length ys)) 0 in
    small-append xs (zs ++ ys) (small-side f) (small-append zs ys (small-zeros (8 - (length xs + length ys))) (small-side b))

-- So the network of eight groups is one.
abbrev word : ℕ → ℕ → ℕ → ℕ → ℕ
word a b c d = a * 2 ^ 48 + b * 2 ^ 32 + c * 2 ^ 16 + d

pub word_at : List ℕ → ℕ → ℕ
word_at xs i = word (get_or xs i 0) (get_or xs (i + 1) 0) (get_or xs (i + 2) 0) (get_or xs (i + 3) 0)

word_at-small : (xs : List ℕ) (i : ℕ) → Small xs → word_at xs i < 2 ^ 64
unfolding Small word_at
word_at-small xs i h = omega (arith, h i, h (i + 1), h (i + 2), h (i + 3))

pub ipv6-words : (xs : List ℕ) (k : ℕ) → Small xs → ipv6 xs k ≡ net_words 6 (word_at xs 0) (word_at xs 4) k
unfolding word_at
ipv6-words xs k h = ap (λ v. net_of 6 v k) (big_endian-groups xs) ∙ net_of-value 6 (word_at xs 0) (word_at xs 4) k (word_at-small xs 4 h)

pub refusal_of-ipv6 : (xs : List ℕ) (k : ℕ) → Small xs → k ≤ 128 → refusal_of (ipv6 xs k) ≡ 0
unfolding refusal_of
refusal_of-ipv6 xs k h l =
    let n = net_words 6 (word_at xs 0) (word_at xs 4) k in
    rw (ipv6-words xs k h, in_range-6 n (λ e. omega arith) (word_at-small xs 0 h) (word_at-small xs 4 h), le-leb k 128 l)

pub is_line6-granted : (s : List ℕ) (n : Net) → IsLine6 s n → (n.family ≡ 6) × (refusal_of n ≡ 0) × (n.lo < 2 ^ 64)
is_line6-granted s n l =
    let h = small-address l.address in
    let k = (is_number-is 128 l.len l.len-rule).most in (
      ap (λ m. m.family) l.network,
      rw l.network (refusal_of-ipv6 l.groups (decimal l.len) h k),
      rw (ap (λ m. m.lo) (l.network ∙ ipv6-words l.groups (decimal l.len) h)) (word_at-small l.groups 4 h),
    )

pub read_line6-granted : (s : List ℕ) (n : Net) → read_line6 s ≡ (0, n) → (n.family ≡ 6) × (refusal_of n ≡ 0) × (n.lo < 2 ^ 64)
read_line6-granted s n e = is_line6-granted s n ((read_line6-accepts s n).0 e)

-- It is taken in, and what is refused is refused.
pub entered_line6-network : {t : (Result Net Refusal)} {n : Net} (s : List ℕ) (r : Result (Net × Bool) Refusal) → t ≡ Ok n → taken_as t ≡ read_line6 s → entered_as r ≡ entered n
    → entered_as r ≡ entered_line6 s
unfolding entered_line6
entered_line6-network {t} {n} s r e h k = taken_in-network (read_line6 s) r e h (read_line6-granted s n (sym h ∙ ap taken_as e)).1 k

pub entered_line6-refused : {t : (Result Net Refusal)} {x : Refusal} (s : List ℕ) → t ≡ Err x → taken_as t ≡ read_line6 s → (number x, no_entry) ≡ entered_line6 s
unfolding entered_line6
entered_line6-refused s e h = taken_in-refused (read_line6 s) e h

pub read-determined : (s : List ℕ) (r t : Result (Net × Bool) Refusal) → entered_as r ≡ entered_line6 s → entered_as t ≡ entered_line6 s → r ≡ t
read-determined s r t e f = entered_as-one r t (e ∙ sym f)

-- No line has more than 49 bytes: six groups of four digits with their colons, a quad of four numbers of three digits, a slash and three digits more.
length-dotted : (a b c d : List ℕ) → length (dotted a b c d) ≡ length a + length b + length c + length d + 3
unfolding dotted
length-dotted a b c d = simp length-append (omega arith)

octet-short : (a : List ℕ) → is_dec_octet a ≡ true → length a ≤ 3
octet-short a h = length-number 255 a (omega arith) (octet-number a h)

pieces-short : {q : Bool} {s xs : List ℕ} → Pieces q s xs → length s + 1 ≤ 5 * length xs + cond q 6 0
pieces-short (group g h) = omega (arith, (is_group-is g h).most)
pieces-short (quad a b c d h i j k) = omega (arith, length-dotted a b c d, octet-short a h, octet-short b i, octet-short c j, octet-short d k)
pieces-short (more {s = s} g h p) = omega (arith, (is_group-is g h).most, length-append g (colon ∷ s), pieces-short p)

quad-more : (q : Bool) → cond q 6 0 ≤ 6
quad-more true = omega arith
quad-more false = omega arith

front-short : {s xs : List ℕ} → Side false s xs → length s ≤ 5 * length xs
front-short s = go s refl
  where
    go : {q : Bool} {s xs : List ℕ} → Side q s xs → q ≡ false → length s ≤ 5 * length xs
    go empty e = omega arith
    go (pieces p) e = let h = rw e at (pieces-short p) in omega arith

back-short : {q : Bool} {s xs : List ℕ} → Side q s xs → length s ≤ 5 * length xs + 5
back-short empty = omega arith
back-short (pieces {q = q} p) = omega (arith, pieces-short p, quad-more q)

address-short : {s xs : List ℕ} → IsAddress s xs → length s ≤ 45
address-short (full {q = q} p h) = omega (arith, pieces-short p, quad-more q)
address-short (shortened {s = s} {t = t} f b h) = omega (arith, length-append s (colon ∷ colon ∷ t), front-short f, back-short b)

pub is_line6-short : (s : List ℕ) (n : Net) → IsLine6 s n → length s ≤ 49
is_line6-short s n l =
    rw l.bytes (omega (arith, length-append l.text (slash ∷ l.len), address-short l.address, length-number 128 l.len (omega arith) l.len-rule))

pub read_line6-long : (s : List ℕ) → 49 < length s → read_line6 s ≡ bad_text
read_line6-long s h = read_line6-refuses s (λ n l. omega (arith, is_line6-short s n l))
