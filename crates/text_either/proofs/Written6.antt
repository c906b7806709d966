-- What is written for an IPv6 network is a line of its grammar, and reads back as the network. Assumes nothing.
use mathlib.Core.Bool.{true, false}
use mathlib.Core.List.{List, [], ◌∷◌, ◌++◌}
use mathlib.Core.Path.{◌≡◌, refl, ap, sym, ◌∙◌}
use Prim.Native.Nat.{ℕ, ◌+◌, ◌-◌, ◌^◌, ◌≤◌, ◌<◌}
use native.Mathlib.Omega.{arith}
use lib.ListN.{length, replicate, length-append, length-replicate}
use borrow.Author.Tests.{ltb-true}
use Rattle.nets.proofs.Numbers.{refusal_of-is}
use Rattle.nets.proofs.Strings.{and_left, and_right}
use Rattle.nets.proofs.TwoWords.{net_of-value}
use Rattle.nets.specs.Networks.{width, net_of, address, big_endian, refusal_of}
use Rattle.nets.specs.declared.Net.{Net}
use Rattle.text_decimal.specs.Spans.{all_of}
use Rattle.text_decimal.specs.Decimal.{digits_of}
use Rattle.text_decimal.proofs.Spans.{all_append}
use Rattle.text_decimal.proofs.Writing.{is_number-digits_of, decimal-digits_of}
use Rattle.text_hex.specs.Hex.{hex_digits_of}
use Rattle.text_hex.proofs.Written.{length-hex_digits_of, all_hex_digits-hex_digits_of, hex_number-hex_digits_of}
use Rattle.text_ipv6_runs.specs.Runs.{is_group}
use Rattle.text_ipv6_read.specs.Ipv6.{Pieces, group, more, Side, empty, pieces, around, IsAddress, full, shortened, IsLine6}
use Rattle.text_ipv6_runs.proofs.Groups.{is-is_group}
use Rattle.text_ipv6_write.specs.Ipv6.{groups_of, joined, digits, text_of, line_as6}
use Rattle.text_ipv6_write.proofs.Plain.{is16}
use Rattle.text_ipv6_write.proofs.Lines.{length-groups_of, all-groups_of, address-back, Outline, all, apart, joined-one, joined-more, outline}

-- The digits of a group are a group, and read back.
is_group-digits : (x : ℕ) → x < 65536 → is_group (hex_digits_of x) ≡ true
is_group-digits x h =
    let l = length-hex_digits_of x in
    is-is_group (hex_digits_of x) (record { digits = all_hex_digits-hex_digits_of x h; some = l.0; most = l.1 })

small-first : (x : ℕ) (gs : List ℕ) → all_of is16 (x ∷ gs) ≡ true → (x < 65536) × (all_of is16 gs ≡ true)
unfolding all_of
small-first x gs h = (ltb-true x 65536 (and_left (is16 x) (all_of is16 gs) h), and_right (is16 x) (all_of is16 gs) h)

pieces-digits : (gs : List ℕ) → all_of is16 gs ≡ true → 1 ≤ length gs → Pieces false (joined (digits gs)) gs
pieces-digits [] h l = absurd (omega arith)
pieces-digits (x ∷ []) h l =
    let s = (small-first x [] h).0 in
    let p : Pieces false (hex_digits_of x) (x ∷ []) = rw (hex_number-hex_digits_of x s) at (group (hex_digits_of x) (is_group-digits x s)) in
    rw (joined-one (hex_digits_of x)) p
pieces-digits (x ∷ y ∷ gs) h l =
    let s = small-first x (y ∷ gs) h in
    let p = more (hex_digits_of x) (is_group-digits x s.0) (pieces-digits (y ∷ gs) s.1 (omega arith)) in
    rw (joined-more (hex_digits_of x) (hex_digits_of y) (digits gs)) (rw (hex_number-hex_digits_of x s.0) at p)

side-digits : (gs : List ℕ) → all_of is16 gs ≡ true → Side false (joined (digits gs)) gs
unfolding joined
side-digits [] h = empty
side-digits (x ∷ gs) h = pieces (pieces-digits (x ∷ gs) h (omega arith))

-- The text of eight groups is an address of them.
address-text : (gs : List ℕ) → all_of is16 gs ≡ true → length gs ≡ 8 → IsAddress (text_of gs) gs
address-text gs h l = go (text_of gs) (outline gs)
  where
    go : (s : List ℕ) → Outline gs s → IsAddress s gs
    go s (all e) = rw e (full (pieces-digits gs h (omega arith)) l)
    go s (apart left right n m e f) =
        let zs : List ℕ = replicate n 0 in
        let a = all_append is16 left (zs ++ right) (rw e at h) in
        let b = all_append is16 zs right a.1 in
        let z : length zs ≡ n = length-replicate n 0 in
        let k : length left + (n + length right) ≡ 8 = omega (arith, ap length e, length-append left (zs ++ right), length-append zs right) in
        let j : 8 - (length left + length right) ≡ n = omega arith in
        let g : gs ≡ around left right = e ∙ rw j in
        rw (f, g) (shortened (side-digits left a.0) (side-digits right b.1) (omega arith))

-- The line of the numbers of a network is one of that network.
net-known : (n : Net) → n.family ≡ 6 → n.lo < 2 ^ 64 → n ≡ net_of 6 (address n) n.len
net-known n f h = (λ j. record { family = f j; hi = n.hi; lo = n.lo; len = n.len }) ∙ sym (net_of-value 6 n.hi n.lo n.len h)

pub line_as6-is : (n : Net) → n.family ≡ 6 → refusal_of n ≡ 0 → n.lo < 2 ^ 64 → IsLine6 (line_as6 n) n
unfolding line_as6 width
line_as6-is n f e h =
    let i = refusal_of-is n e in
    let l : n.len ≤ 128 = rw f at i.len in
    let a : address n < 2 ^ 128 = rw f at i.address in
    let gs = groups_of (address n) in
    record {
      text = text_of gs;
      groups = gs;
      len = digits_of n.len;
      address = address-text gs (all-groups_of (address n)) (length-groups_of (address n));
      len-rule = is_number-digits_of 128 n.len (omega arith) l;
      bytes = refl;
      network = net-known n f h ∙ ap (λ v. net_of 6 v n.len) (sym (address-back (address n) a)) ∙ ap (net_of 6 (big_endian 65536 gs 8)) (sym (decimal-digits_of n.len));
    }
