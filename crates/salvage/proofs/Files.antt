-- The file at the end: entries sorted in the order of a list, behind a header. Assumes nothing.
use mathlib.Core.Bool.{Bool, true, false}
use mathlib.Core.List.{List, [], ◌∷◌, ◌++◌}
use mathlib.Core.Path.{◌≡◌, refl, ap, sym, ◌∙◌}
use Prim.Native.Nat.{ℕ, zero, suc, ◌+◌, ◌-◌, ◌*◌, ◌^◌, ◌≤◌, ◌<◌}
use native.Mathlib.Nat.{suc-mul, mul-le-mul_right, zero-add, mul-lt-mul_of_pos_right}
use native.Mathlib.Decide.{dec_lt}
use native.Mathlib.Omega.{arith}
use lib.ListN.{length, get_or, take, drop, length-append, get_or-append}
use lib.Pow.{pow_pos}
use lib.Seq.{ext_get_or, get_or-take, get_or-drop, get_or-append-add, length-take-le}
use borrow.Author.Tests.{lt-ltb}
use Rattle.nets.specs.Bits.{Bits, equal, digit, val}
use Rattle.nets.specs.Lists.{member, in_order}
use Rattle.nets.specs.Networks.{width}
use Rattle.nets.proofs.Strings.{equal-refl, equal_is}
use Rattle.nets.proofs.Order.{key, From, key_one, key-shorter, unique, from-in_order, member-in_order}
use Rattle.address_order.proofs.AddressOrder.{number, earlier-self}
use Rattle.address_order.proofs.Rising.{Rise, member-first}
use Rattle.nodes.specs.Words.{put}
use Rattle.nodes.proofs.Put.{length-put, get_or-put-in, get_or-put-behind}
use Rattle.setfile_format.specs.Files.{header_bytes, file_bytes, entry_at, entry_net, entries_of, header_of, file_of, are_clean, networks_in}
use Rattle.setfile_format.proofs.Bytes.{Bytes}
use Rattle.setfile_format.proofs.Written.{length-header_of, length-entries_of}
use Rattle.setfile_format.proofs.RoundTrip.{length-networks_in, entries-written}
use Rattle.setfile_format.proofs.FileOrder.{network_at, network_at-within}
use Rattle.setfile_sort.specs.Sorting.{entry_number, key_of, Sorts}
use Rattle.salvage_lists.specs.Salvaging.{outermost}
use Rattle.salvage_lists.proofs.Chains.{no as clash, chain-rise}
use Rattle.salvage_lists.proofs.Left.{whole-outermost}
use Rattle.salvage_batch.specs.Buffers.{Kept}
use Rattle.salvage_batch.proofs.Places.{entry_net-cong, networks_in-cong, are_clean-cong, entry-ends}
use Rattle.setfile_sort.proofs.KeyBits.{entry_number-low}
use Rattle.salvage_batch.proofs.Sorts.{times, member-times, member-at, address-at, sorts-times, sorts-member, sorts-clean}
use Rattle.salvage_passes.specs.Parts.{Filling}
use Rattle.salvage_passes.proofs.Fillings.{filling-all}

-- In a list that rises each member comes once.
rise-times : (q : Bits) (l : List Bits) → Rise l → times q l ≤ 1
unfolding times
rise-times q [] r = omega arith
rise-times q (p ∷ l) r = go (equal q p) refl (rise-times q l r.1)
  where
    once : equal q p ≡ true → (b : Bool) → member p l ≡ b → times q l ≡ 0
    once e true k = clash (r.0 p k) (earlier-self p)
    once e false k = go (dec_lt 0 (times q l))
      where
        go : Dec (0 < times q l) → times q l ≡ 0
        go (yes h) = clash (member-times q l ∙ lt-ltb 0 (times q l) h) (rw (equal_is q p e) k)
        go (no h) = omega arith

    go : (b : Bool) → equal q p ≡ b → times q l ≤ 1 → digit b + times q l ≤ 1
    go true e ih = omega (arith, once e (member p l) refl)
    go false e ih = omega arith

-- Keys that do not fall, of members that come once, rise.
abbrev Weak : List Bits → Type 0
Weak [] = Unit {0}
Weak (p ∷ l) = ((q : Bits) → member q l ≡ true → key p ≤ key q) × Weak l

weak-from : (lo : ℕ) (l : List Bits) → Weak l → ((q : Bits) → times q l ≤ 1) → ((q : Bits) → member q l ≡ true → lo ≤ key q) → From lo l
unfolding times
weak-from lo [] w t h = tt
weak-from lo (p ∷ l) w t h = (h p (member-first p l), weak-from (suc (key p)) l w.1 (λ q. omega (arith, t q)) above)
  where
    twice : member p l ≡ true → ⊥
    twice k = go (times p l) refl
      where
        go : (n : ℕ) → times p l ≡ n → ⊥
        go zero e = clash k (member-times p l ∙ rw e)
        go (suc n) e = omega (arith, rw (equal-refl p) at (t p))

    above : (q : Bits) → member q l ≡ true → suc (key p) ≤ key q
    above q k = go (dec_lt (key p) (key q))
      where
        go : Dec (key p < key q) → suc (key p) ≤ key q
        go (yes x) = x
        go (no x) = absurd (twice (rw (key_one q p (omega (arith, w.0 q k))) at k))

-- Two numbers put together: the first decides, then the second.
pair-first : (W l a m b : ℕ) → b < W → l * W + a ≤ m * W + b → l ≤ m
pair-first W l a m b h g = go (dec_lt m l)
  where
    go : Dec (m < l) → l ≤ m
    go (yes x) = let y : suc m * W ≤ l * W = mul-le-mul_right W x in absurd (omega (arith, y, suc-mul m W))
    go (no x) = omega arith

key-le : (w : ℕ) (p q : Bits) → length p ≤ w → length q ≤ w → number w q < 2 ^ w → length p * 2 ^ w + number w p ≤ length q * 2 ^ w + number w q → key p ≤ key q
key-le w p q h k l g = go (dec_lt (length p) (length q))
  where
    shorter : length p ≤ length q
    shorter = pair-first (2 ^ w) (length p) (number w p) (length q) (number w q) l g

    go : Dec (length p < length q) → key p ≤ key q
    go (yes x) = omega (arith, key-shorter p q x)
    go (no x) =
        let e : length p ≡ length q = omega (arith, shorter) in
        same e (omega (arith, ap (λ n. n * 2 ^ w) e, g))
      where
        same : length p ≡ length q → number w p ≤ number w q → key p ≤ key q
        same e n = below (dec_lt (val q) (val p))
          where
            below : Dec (val q < val p) → key p ≤ key q
            below (yes y) =
                let z : val q * 2 ^ (w - length p) < val p * 2 ^ (w - length p) = mul-lt-mul_of_pos_right y (pow_pos (w - length p)) in
                absurd (omega (arith, z, n, ap (λ m. val q * 2 ^ (w - m)) e))
            below (no y) = omega (arith, ap (λ m. 2 ^ m) e)

-- Sorted by length, clean entries are in the order of a list.
module _ (f : ℕ) (d : List ℕ) (bytes : Bytes d) (n : ℕ) (clean : are_clean f d 0 n ≡ true) (up : (i j : ℕ) → i < j → j < n → key_of true f (entry_number f d i) ≤ key_of true f (entry_number f d j)) where
  keys-up : (i j : ℕ) → i < j → j < n → key (network_at f d i) ≤ key (network_at f d j)
  unfolding key_of
  keys-up i j h l =
      let x = address-at f d bytes n clean i (omega arith) in
      let y = address-at f d bytes n clean j l in
      key-le (width f) (network_at f d i) (network_at f d j) (network_at-within f d i) (network_at-within f d j) (rw y.0 (entry_number-low f d bytes j)) (rw (x.0, x.1, y.0, y.1) (up i j h l))

  entries-weak : (i k : ℕ) → i + k ≤ n → Weak (networks_in f d i k)
  unfolding networks_in
  entries-weak i zero h = tt
  entries-weak i (suc k) h = (
    λ q m. let r = member-at f d bytes q (suc i) k m in rw (← r.3) (keys-up i r.0 (omega (arith, r.1)) (omega (arith, r.2))),
    entries-weak (suc i) k (omega arith),
  )

-- What is written, sorted: the list of what is left.
module _ {f : ℕ} {S T : List Bits} {m : ℕ} {v u w : List ℕ} (o : Filling f S T m v u m) (a : Bytes u) (b : Bytes w) (s : Sorts true f m u w) where
  pub sorted-clean : are_clean f w 0 m ≡ true
  sorted-clean = sorts-clean a b s o.clean

  pub sorted-left : networks_in f w 0 m ≡ outermost S
  sorted-left =
      let e = filling-all o in
      let t : (q : Bits) → times q (networks_in f w 0 m) ≤ 1 = λ q. rw (sorts-times a b s q, e) (rise-times q T (chain-rise T o.whole.chain)) in
      unique 0 0 (networks_in f w 0 m) (in_order T)
      (weak-from 0 (networks_in f w 0 m) (entries-weak f w b m sorted-clean s.ascends 0 m (omega arith)) t (λ q k. omega arith))
      (from-in_order T) (λ q. sorts-member a b s q ∙ ap (member q) e ∙ sym (member-in_order q T))
      ∙ whole-outermost o.whole

get_d_beyond : (l : List ℕ) (i : ℕ) → length l ≤ i → get_or l i 0 ≡ 0
get_d_beyond [] i h = refl
get_d_beyond (x ∷ l) zero h = absurd (omega arith)
get_d_beyond (x ∷ l) (suc i) h = get_d_beyond l i (omega arith)

-- Entries that stand in bytes are their bytes.
module _ (f : ℕ) (w : List ℕ) (bytes : Bytes w) (m : ℕ) (fits : file_bytes f m ≤ length w) (clean : are_clean f w 0 m ≡ true) where
  abbrev cut : List ℕ
  cut = take (file_bytes f m) w

  same-entry : (i : ℕ) → i < m → entry_net f cut i ≡ entry_net f w i
  unfolding file_bytes
  same-entry i h = entry_net-cong f cut w i i (λ r l. get_or-take (file_bytes f m) w (entry_at f i + r) 0 (omega (arith, entry-ends f i m h)))

  cut-bytes : Bytes cut
  cut-bytes i = go (dec_lt i (file_bytes f m))
    where
      go : Dec (i < file_bytes f m) → get_or cut i 0 < 256
      go (yes h) = rw (get_or-take (file_bytes f m) w i 0 h) (bytes i)
      go (no h) = rw (get_d_beyond cut i (omega (arith, length-take-le (file_bytes f m) w fits))) (omega arith)

  pub entries-stand : entries_of f (networks_in f w 0 m) ≡ drop header_bytes cut
  unfolding file_bytes
  entries-stand =
      let z : entry_at f 0 ≡ header_bytes = omega arith in
      let c : are_clean f cut 0 m ≡ true = are_clean-cong f cut w 0 0 m (λ r l. rw (zero-add r) (same-entry r l)) ∙ clean in
      ap (entries_of f) (sym (networks_in-cong f cut w 0 0 m (λ r l. rw (zero-add r) (same-entry r l))))
      ∙ entries-written cut cut-bytes f 0 m (rw (zero-add m) (sym (length-take-le (file_bytes f m) w fits))) c
      ∙ ap (λ n. drop n cut) z

  -- with the header before them: the file, over what stood there
  module _ {v : List ℕ} (k : Kept f m v w) where
    abbrev hs : List ℕ
    hs = header_of f m

    abbrev es : List ℕ
    es = entries_of f (networks_in f w 0 m)

    long : length (hs ++ es) ≡ file_bytes f m
    unfolding file_bytes
    long = length-append hs es ∙ rw (length-header_of f m, length-entries_of f (networks_in f w 0 m), length-networks_in f w 0 m)

    in-header : (i : ℕ) → i < header_bytes → i < length w → get_or (put w 0 hs) i 0 ≡ get_or (put v 0 (hs ++ es)) i 0
    unfolding file_bytes
    in-header i h g =
        let x : i < length hs = rw (length-header_of f m) h in
        let y : i < length (hs ++ es) = omega (arith, long) in
        (rw (zero-add i) at (get_or-put-in w 0 hs i x (omega arith))) ∙ sym (get_or-append hs es 0 i x) ∙ sym (rw (zero-add i) at (get_or-put-in v 0 (hs ++ es) i y (omega (arith, k.long))))

    in-entries : (i : ℕ) → header_bytes ≤ i → i < file_bytes f m → get_or (put w 0 hs) i 0 ≡ get_or (put v 0 (hs ++ es)) i 0
    in-entries i h g =
        let n : length hs ≡ header_bytes = length-header_of f m in
        let j = i - header_bytes in
        let x : length hs + j ≡ i = omega (arith, n) in
        let y : header_bytes + j ≡ i = omega arith in
        let a : get_or (put w 0 hs) i 0 ≡ get_or w i 0 = get_or-put-behind w 0 hs i (omega (arith, n)) in
        let b : get_or (hs ++ es) i 0 ≡ get_or es j 0 = ap (λ p. get_or (hs ++ es) p 0) (sym x) ∙ get_or-append-add hs es j 0 in
        let c : get_or es j 0 ≡ get_or w i 0 = ap (λ l. get_or l j 0) entries-stand ∙ get_or-drop header_bytes cut j 0 ∙ ap (λ p. get_or cut p 0) y ∙ get_or-take (file_bytes f m) w i 0 g in
        let d : get_or (put v 0 (hs ++ es)) i 0 ≡ get_or (hs ++ es) i 0 = rw (zero-add i) at (get_or-put-in v 0 (hs ++ es) i (omega (arith, long)) (omega (arith, fits, k.long))) in
        a ∙ sym c ∙ sym b ∙ sym d

    behind : (i : ℕ) → file_bytes f m ≤ i → get_or (put w 0 hs) i 0 ≡ get_or (put v 0 (hs ++ es)) i 0
    unfolding file_bytes
    behind i h =
        get_or-put-behind w 0 hs i (omega (arith, length-header_of f m)) ∙ k.outside i (λ a b. omega arith) ∙ sym (get_or-put-behind v 0 (hs ++ es) i (omega (arith, long)))

    byte : (i : ℕ) → i < length w → get_or (put w 0 hs) i 0 ≡ get_or (put v 0 (hs ++ es)) i 0
    byte i h = go (dec_lt i header_bytes) (dec_lt i (file_bytes f m))
      where
        go : Dec (i < header_bytes) → Dec (i < file_bytes f m) → get_or (put w 0 hs) i 0 ≡ get_or (put v 0 (hs ++ es)) i 0
        go (yes x) y = in-header i x h
        go (no x) (yes y) = in-entries i (omega arith) y
        go (no x) (no y) = behind i (omega arith)

    pub file-stands : {u : List ℕ} → u ≡ put w 0 (header_of f m) → u ≡ put v 0 (file_of f (networks_in f w 0 m))
    unfolding file_of
    file-stands e =
        let n : length (networks_in f w 0 m) ≡ m = length-networks_in f w 0 m in
        e ∙ ext_get_or 0 (put w 0 hs) (put v 0 (hs ++ es)) (length-put w 0 hs ∙ k.long ∙ sym (length-put v 0 (hs ++ es))) (λ i h. byte i (rw (length-put w 0 hs) at h)) ∙ rw n

-- All together: written, sorted, headed.
pub written-file : {f : ℕ} {S T : List Bits} {m : ℕ} {v u w x : List ℕ} → Filling f S T m v u m → Bytes u → Bytes w → Sorts true f m u w → x ≡ put w 0 (header_of f m) → x ≡ put v 0 (file_of f (outermost S))
written-file {f} {S} {T} {m} {v} {u} {w} o a b s e =
    let k : Kept f m v w = record { long = s.long ∙ o.kept.long; outside = λ i h. s.outside i h ∙ o.kept.outside i h } in
    let fits : file_bytes f m ≤ length w = rw s.long o.fits in
    rw (sorted-left o a b s) at (file-stands f w b m fits (sorted-clean o a b s) k e)
