-- The numbers of bytes: big-endian numbers put together, and the entries of each family by words. Assumes nothing.
use mathlib.Core.Path.{◌≡◌, ap, sym, ◌∙◌}
use mathlib.Core.List.{List}
use Prim.Native.Nat.{ℕ, zero, suc, ◌+◌, ◌*◌, ◌/◌, ◌%◌, ◌^◌, ◌<◌}
use native.Mathlib.Nat.{add-mul, mul_assoc, add_assoc, pow-suc, pow-zero, add-zero, add-suc, mul-one}
use native.Mathlib.Omega.{arith}
use lib.ListN.{get_or, drop}
use lib.Seq.{get_or-drop, drop-drop}
use Rattle.nets.specs.Networks.{width, value, net_of, address, net_words, big_endian}
use Rattle.nets.specs.declared.Net.{Net}
use Rattle.nets.proofs.Numbers.{width-4, width-6}
use Rattle.nets.proofs.TwoWords.{net_of-value}
use Rattle.setfile_format.specs.Files.{entry_at, entry_net}
use Rattle.setfile_format.proofs.Bytes.{Bytes}
use Rattle.setfile_format.proofs.RoundTrip.{entry-low}

-- Four bytes as they stand.
pub big_endian-four : (at : ℕ) (d : List ℕ)
    → ((get_or d at 0 * 256 + get_or d (at + 1) 0) * 256 + get_or d (at + 2) 0) * 256 + get_or d (at + 3) 0 ≡ big_endian 256 (drop at d) 4
unfolding big_endian
big_endian-four at d = rw (get_or-drop at d 0 0, get_or-drop at d 1 0, get_or-drop at d 2 0, get_or-drop at d 3 0, add-zero at) (omega arith)

-- The number of j + k digits.
pub big_endian-add : (b : ℕ) (xs : List ℕ) (j k : ℕ) → big_endian b xs (j + k) ≡ big_endian b xs j * b ^ k + big_endian b (drop j xs) k
unfolding big_endian
big_endian-add b xs j zero = ap (big_endian b xs) (add-zero j) ∙ sym (add-zero (big_endian b xs j * b ^ 0) ∙ ap (λ n. big_endian b xs j * n) (pow-zero b) ∙ mul-one (big_endian b xs j))
big_endian-add b xs j (suc k) =
    rw (add-suc j k, big_endian-add b xs j k, get_or-drop j xs k 0, pow-suc b k, add-mul (big_endian b xs j * b ^ k) (big_endian b (drop j xs) k) b, mul_assoc (big_endian b xs j) (b ^ k) b)
    (add_assoc (big_endian b xs j * (b ^ k * b)) (big_endian b (drop j xs) k * b) (get_or xs (j + k) 0))

pub big_endian-eight : (at : ℕ) (d : List ℕ) → big_endian 256 (drop at d) 4 * 2 ^ 32 + big_endian 256 (drop (at + 4) d) 4 ≡ big_endian 256 (drop at d) 8
big_endian-eight at d = rw (← drop-drop 4 at d) (sym (big_endian-add 256 (drop at d) 4 4))

pub big_endian-sixteen : (at : ℕ) (d : List ℕ) → value (big_endian 256 (drop at d) 8) (big_endian 256 (drop (at + 8) d) 8) ≡ big_endian 256 (drop at d) 16
big_endian-sixteen at d = rw (← drop-drop 8 at d) (sym (big_endian-add 256 (drop at d) 8 8))

-- The entries of each family, by words; entry i begins at a place.
module _ (f : ℕ) (d : List ℕ) (i at : ℕ) (p : at ≡ entry_at f i) where
  pub entry_net-4 : f ≡ 4 → big_endian 256 (drop at d) 4 < 2 ^ 32 → net_words f 0 (big_endian 256 (drop at d) 4) (get_or d (at + 4) 0) ≡ entry_net f d i
  unfolding entry_net
  entry_net-4 e h = rw (← p, width-4 f e) (go (big_endian 256 (drop at d) 4) h)
    where
      go : (a : ℕ) → a < 2 ^ 32 → net_words f 0 a (get_or d (at + 4) 0) ≡ net_of f a (get_or d (at + 4) 0)
      go a l = let x : a / 2 ^ 64 ≡ 0 = omega arith in let y : a % 2 ^ 64 ≡ a = omega arith in rw (x, y)

  pub entry_net-6 : (f ≡ 4 → ⊥) → big_endian 256 (drop (at + 8) d) 8 < 2 ^ 64
      → net_words f (big_endian 256 (drop at d) 8) (big_endian 256 (drop (at + 8) d) 8) (get_or d (at + 16) 0) ≡ entry_net f d i
  unfolding entry_net
  entry_net-6 e h = rw (← p, width-6 f e, ← big_endian-sixteen at d) (sym (net_of-value f _ _ _ h))

-- Their addresses are in range.
pub entry_known : (f : ℕ) (d : List ℕ) (i : ℕ) {x : Net} → Bytes d → x ≡ entry_net f d i → (x ≡ entry_net f d i) × (address x < 2 ^ width f)
entry_known f d i b e = (e, rw e (entry-low d b f i))
