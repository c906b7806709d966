-- Entries of bytes that agree: the networks of a run are those of its bytes, so what is written elsewhere changes none, and an entry that is written is read back. Assumes nothing.
use mathlib.Core.Bool.{Bool, true, false, ◌&&◌, and_assoc}
use mathlib.Core.List.{List, [], ◌∷◌, ◌++◌, append-nil}
use mathlib.Core.Path.{◌≡◌, refl, ap, sym, ◌∙◌}
use Prim.Native.Nat.{ℕ, zero, suc, ◌+◌, ◌-◌, ◌*◌, ◌≤◌, ◌<◌}
use native.Mathlib.Nat.{add-zero, zero-add, suc-add, mul-suc, mul-add}
use native.Mathlib.Numerals.{add-one}
use native.Mathlib.Decide.{dec_lt}
use native.Mathlib.Omega.{arith}
use lib.ListN.{length, get_or, take, drop, length-append, length-take}
use lib.Seq.{get_or-drop, get_or-append-add, length-take-le}
use Rattle.nets.specs.Bits.{Bits}
use Rattle.nets.specs.Networks.{is_family, width, net_bits, net_from, big_endian}
use Rattle.nets.specs.declared.Net.{Net}
use Rattle.nets.proofs.Numbers.{net_bits-net_from}
use Rattle.nets.proofs.Strings.{and_left}
use Rattle.nodes.specs.Words.{put}
use Rattle.nodes.proofs.Put.{length-put, get_or-put-in, get_or-put-out}
use Rattle.setfile_format.specs.Files.{header_bytes, address_bytes, entry_bytes, file_bytes, entry_at, entry_of, entry_net, is_clean, are_clean, networks_in}
use Rattle.setfile_format.proofs.Written.{length-entry_of, is_clean-net_from, entry_net-entry_of, file_bytes-mono}
use Rattle.setfile_format.proofs.FileOrder.{networks_in-append}

big_endian-cong : (b : ℕ) (xs ys : List ℕ) (k : ℕ) → ((j : ℕ) → j < k → get_or xs j 0 ≡ get_or ys j 0) → big_endian b xs k ≡ big_endian b ys k
unfolding big_endian
big_endian-cong b xs ys zero h = refl
big_endian-cong b xs ys (suc k) h = rw (big_endian-cong b xs ys k (λ j l. h j (omega arith)), h k (omega arith))

-- Two entries with the same bytes are the same numbers.
module _ (f : ℕ) (d e : List ℕ) where
  pub entry_net-cong : (i j : ℕ) → ((r : ℕ) → r < entry_bytes f → get_or d (entry_at f i + r) 0 ≡ get_or e (entry_at f j + r) 0) → entry_net f d i ≡ entry_net f e j
  unfolding entry_net entry_bytes
  entry_net-cong i j h =
      rw (
        big_endian-cong 256 (drop (header_bytes + (address_bytes f + 1) * i) d) (drop (header_bytes + (address_bytes f + 1) * j) e) (address_bytes f)
            (λ r l. get_or-drop (header_bytes + (address_bytes f + 1) * i) d r 0 ∙ h r (omega arith) ∙ sym (get_or-drop (header_bytes + (address_bytes f + 1) * j) e r 0)),
        h (address_bytes f) (omega arith),
      )

  pub networks_in-cong : (i j k : ℕ) → ((r : ℕ) → r < k → entry_net f d (i + r) ≡ entry_net f e (j + r)) → networks_in f d i k ≡ networks_in f e j k
  unfolding networks_in
  networks_in-cong i j zero h = refl
  networks_in-cong i j (suc k) h =
      let z : entry_net f d i ≡ entry_net f e j = rw (add-zero i, add-zero j) at (h 0 (omega arith)) in
      rw (z, networks_in-cong (suc i) (suc j) k (λ r l. let p : suc i + r ≡ i + suc r = omega arith in let q : suc j + r ≡ j + suc r = omega arith in rw (p, q) (h (suc r) (omega arith))))

  pub are_clean-cong : (i j k : ℕ) → ((r : ℕ) → r < k → entry_net f d (i + r) ≡ entry_net f e (j + r)) → are_clean f d i k ≡ are_clean f e j k
  unfolding are_clean
  are_clean-cong i j zero h = refl
  are_clean-cong i j (suc k) h =
      let z : entry_net f d i ≡ entry_net f e j = rw (add-zero i, add-zero j) at (h 0 (omega arith)) in
      rw (z, are_clean-cong (suc i) (suc j) k (λ r l. let p : suc i + r ≡ i + suc r = omega arith in let q : suc j + r ≡ j + suc r = omega arith in rw (p, q) (h (suc r) (omega arith))))

pub are_clean-append : (f : ℕ) (d : List ℕ) (i j k : ℕ) → are_clean f d i (j + k) ≡ (are_clean f d i j && are_clean f d (i + j) k)
unfolding are_clean
are_clean-append f d i zero k = rw (zero-add k, add-zero i)
are_clean-append f d i (suc j) k =
    let e : i + suc j ≡ suc i + j = omega arith in
    rw (suc-add j k, e, are_clean-append f d (suc i) j k) (sym (and_assoc (is_clean (entry_net f d i)) (are_clean f d (suc i) j) (are_clean f d (suc i + j) k)))

pub are_clean-fewer : (f : ℕ) (d : List ℕ) (j k : ℕ) → j ≤ k → are_clean f d 0 k ≡ true → are_clean f d 0 j ≡ true
are_clean-fewer f d j k h e =
    let p : j + (k - j) ≡ k = omega arith in
    and_left (are_clean f d 0 j) (are_clean f d (0 + j) (k - j)) (sym (are_clean-append f d 0 j (k - j)) ∙ rw p e)

-- Where entries stand.
pub entry-ends : (f i k : ℕ) → i < k → entry_at f i + entry_bytes f ≤ entry_at f k
unfolding file_bytes
entry-ends f i k h = omega (arith, file_bytes-mono f {i = suc i} {n = k} h, mul-suc (entry_bytes f) i)

-- Entry k written.
module _ (f k : ℕ) (v : List ℕ) (p : Bits) (short : length p ≤ width f) (fits : entry_at f (suc k) ≤ length v) where
  abbrev with_entry : List ℕ
  with_entry = put v (entry_at f k) (entry_of f p)

  room : entry_at f k + entry_bytes f ≤ length v
  room = omega (arith, fits, mul-suc (entry_bytes f) k)

  pub put-here : entry_net f (put v (entry_at f k) (entry_of f p)) k ≡ net_from f p
  put-here =
      let xs = take (entry_at f k) v in
      let n : length xs ≡ entry_at f k = length-take-le (entry_at f k) v (omega (arith, room)) in
      entry_net-cong f with_entry (xs ++ (entry_of f p ++ [])) k k
      (λ r l. get_or-put-in v (entry_at f k) (entry_of f p) r (rw (length-entry_of f p) l) (omega (arith, room))
      ∙ sym (ap (λ m. get_or (xs ++ (entry_of f p ++ [])) (m + r) 0) (sym n) ∙ get_or-append-add xs (entry_of f p ++ []) r 0 ∙ ap (λ ys. get_or ys r 0) (append-nil (entry_of f p))))
      ∙ entry_net-entry_of f p short k xs [] n

  pub put-there : (i : ℕ) → (i ≡ k → ⊥) → entry_net f (put v (entry_at f k) (entry_of f p)) i ≡ entry_net f v i
  put-there i h = entry_net-cong f with_entry v i i (λ r l. get_or-put-out v (entry_at f k) (entry_of f p) (entry_at f i + r) (λ a b. go (dec_lt i k) r l a (rw (length-entry_of f p) at b)))
    where
      go : Dec (i < k) → (r : ℕ) → r < entry_bytes f → entry_at f k ≤ entry_at f i + r → entry_at f i + r < entry_at f k + entry_bytes f → ⊥
      go (yes x) r l a b = omega (arith, entry-ends f i k x)
      go (no x) r l a b = omega (arith, entry-ends f k i (omega arith))

  -- behind the entries before it
  pub networks_in-put : networks_in f (put v (entry_at f k) (entry_of f p)) 0 (k + 1) ≡ networks_in f v 0 k ++ (p ∷ [])
  unfolding networks_in
  networks_in-put =
      networks_in-append f with_entry 0 k 1
      ∙ rw (zero-add k, put-here, net_bits-net_from f p short, networks_in-cong f with_entry v 0 0 k (λ r l. put-there (0 + r) (omega arith)))

  pub are_clean-put : are_clean f v 0 k ≡ true → are_clean f (put v (entry_at f k) (entry_of f p)) 0 (k + 1) ≡ true
  unfolding are_clean
  are_clean-put c =
      are_clean-append f with_entry 0 k 1
      ∙ rw (zero-add k, are_clean-cong f with_entry v 0 0 k (λ r l. put-there (0 + r) (omega arith)), c, put-here, is_clean-net_from f p short)
