-- `reading::entry` meets its contract, in each family. Assumes nothing.
-- where the entry begins, and that it ends within the bytes
use mathlib.Core.Path.{◌≡◌}
use mathlib.Core.List.{List}
use Prim.Native.Nat.{ℕ, ◌+◌, ◌^◌, ◌≤◌, ◌<◌}
use native.Mathlib.Omega.{arith}
use lib.ListN.{length, get_or, drop}
use Rattle.nets.specs.Networks.{net_words, big_endian}
use Rattle.setfile_format.specs.Files.{entry_bytes, file_bytes, entry_at, entry_net}
use Rattle.setfile_format.proofs.Bytes.{Bytes}
use Rattle.setfile_format.proofs.Written.{entry_bytes-4, entry_bytes-6, entry_at-next, file_bytes-few}
use Rattle.setfile_entries.proofs.Numbers.{entry_net-4, entry_net-6, entry_known}
use Rattle.setfile_entries.proofs.reading.entry.Goals as goal

place : (f i : ℕ) {at : ℕ} → at ≡ file_bytes f i → at ≡ entry_at f i
unfolding file_bytes
place f i e = e

ends : (f i : ℕ) {at n : ℕ} → at ≡ file_bytes f i → i ≤ 4194304 → file_bytes f (i + 1) ≤ n → (at ≤ 71303184) × (at + entry_bytes f ≤ n)
unfolding file_bytes
ends f i e few fits = (omega (arith, e, file_bytes-few f i few), omega (arith, e, entry_at-next f i, fits))

words-4 : (f : ℕ) (d : List ℕ) (i : ℕ) {at n : ℕ} → at ≡ entry_at f i → f ≡ 4 → n ≡ big_endian 256 (drop at d) 4 → n < 2 ^ 32 → net_words f 0 n (get_or d (at + 4) 0) ≡ entry_net f d i
words-4 f d i {at = at} p e q h = rw q (entry_net-4 f d i at p e (rw q at h))

words-6 : (f : ℕ) (d : List ℕ) (i : ℕ) {at m n : ℕ} → at ≡ entry_at f i → (f ≡ 4 → ⊥) → m ≡ big_endian 256 (drop at d) 8 → n ≡ big_endian 256 (drop (at + 8) d) 8 → n < 2 ^ 64
    → net_words f m n (get_or d (at + 16) 0) ≡ entry_net f d i
words-6 f d i {at = at} p e q r h = rw (q, r) (entry_net-6 f d i at p e (rw r at h))

ends-4 : (c : goal.After-file_bytes-at) → let a = c.args in (c.file_bytes-at.result ≤ 71303184) × (c.file_bytes-at.result + 5 ≤ length a.bytes.now)
ends-4 c = let x = ends c.args.family c.args.i c.file_bytes-at.ensures c.requires.0 c.requires.1 in
    (x.0, omega (arith, x.1, entry_bytes-4 _ c.if-family-eq-IPV4.true))

ends-4-four : (c : goal.After-four) → let a = c.args in (c.file_bytes-at.result ≤ 71303184) × (c.file_bytes-at.result + 5 ≤ length a.bytes.now)
ends-4-four c = let x = ends c.args.family c.args.i c.file_bytes-at.ensures c.requires.0 c.requires.1 in
    (x.0, omega (arith, x.1, entry_bytes-4 _ c.if-family-eq-IPV4.true))

ends-4-shared_slice_known-then-family-eq-ipv4-1 : (c : goal.After-shared_slice_known-then-family-eq-IPV4-1) → let a = c.args in (c.file_bytes-at.result ≤ 71303184) × (c.file_bytes-at.result + 5 ≤ length a.bytes.now)
ends-4-shared_slice_known-then-family-eq-ipv4-1 c = let x = ends c.args.family c.args.i c.file_bytes-at.ensures c.requires.0 c.requires.1 in
    (x.0, omega (arith, x.1, entry_bytes-4 _ c.if-family-eq-IPV4.true))

ends-6 : (c : goal.After-file_bytes-at-2) → let a = c.args in (c.file_bytes-at-2.result ≤ 71303184) × (c.file_bytes-at-2.result + 17 ≤ length a.bytes.now)
ends-6 c = let x = ends c.args.family c.args.i c.file_bytes-at-2.ensures c.requires.0 c.requires.1 in
    (x.0, omega (arith, x.1, entry_bytes-6 _ c.if-family-eq-IPV4.false))

ends-6-eight : (c : goal.After-eight) → let a = c.args in (c.file_bytes-at-2.result ≤ 71303184) × (c.file_bytes-at-2.result + 17 ≤ length a.bytes.now)
ends-6-eight c = let x = ends c.args.family c.args.i c.file_bytes-at-2.ensures c.requires.0 c.requires.1 in
    (x.0, omega (arith, x.1, entry_bytes-6 _ c.if-family-eq-IPV4.false))

ends-6-eight-2 : (c : goal.After-eight-2) → let a = c.args in (c.file_bytes-at-2.result ≤ 71303184) × (c.file_bytes-at-2.result + 17 ≤ length a.bytes.now)
ends-6-eight-2 c = let x = ends c.args.family c.args.i c.file_bytes-at-2.ensures c.requires.0 c.requires.1 in
    (x.0, omega (arith, x.1, entry_bytes-6 _ c.if-family-eq-IPV4.false))

ends-6-shared_slice_known-2-1 : (c : goal.After-shared_slice_known-2-1) → let a = c.args in (c.file_bytes-at-2.result ≤ 71303184) × (c.file_bytes-at-2.result + 17 ≤ length a.bytes.now)
ends-6-shared_slice_known-2-1 c = let x = ends c.args.family c.args.i c.file_bytes-at-2.ensures c.requires.0 c.requires.1 in
    (x.0, omega (arith, x.1, entry_bytes-6 _ c.if-family-eq-IPV4.false))

pub four-requires : goal.four-requires
four-requires c = let x = ends-4 c in (omega (arith, x), omega (arith, x))

pub overflow_add-result : goal.overflow_add-result
overflow_add-result c = omega (arith, ends-4-four c)

pub bounds-bytes-at : goal.bounds-bytes-at
bounds-bytes-at c = omega (arith, ends-4-shared_slice_known-then-family-eq-ipv4-1 c)

pub returns-then-family-eq-IPV4 : goal.returns-then-family-eq-IPV4
returns-then-family-eq-IPV4 c = let a = c.args in
    let r = c.four.ensures in
    let e = words-4 a.family a.bytes.now a.i (place _ _ c.file_bytes-at.ensures) c.if-family-eq-IPV4.true r.value r.upper_bound in
    let known : Bytes a.bytes.now = λ i. omega (arith, c.shared_slice_known-1.given i) in
    record { value = e; result_bound = (entry_known a.family a.bytes.now a.i known e).1 }

pub eight-requires : goal.eight-requires
eight-requires c = let x = ends-6 c in (omega (arith, x), omega (arith, x))

pub overflow_add-at : goal.overflow_add-at
overflow_add-at c = omega (arith, ends-6-eight c)

pub eight-requires-2 : goal.eight-requires-2
eight-requires-2 c = let x = ends-6-eight c in (omega (arith, x), omega (arith, x))

pub overflow_add-result-2 : goal.overflow_add-result-2
overflow_add-result-2 c = omega (arith, ends-6-eight-2 c)

pub bounds-bytes-at-2 : goal.bounds-bytes-at-2
bounds-bytes-at-2 c = omega (arith, ends-6-shared_slice_known-2-1 c)

pub returns : goal.returns
returns c = let a = c.args in
    let l = c.eight-2.ensures in
    let e = words-6 a.family a.bytes.now a.i (place _ _ c.file_bytes-at-2.ensures) c.if-family-eq-IPV4.false c.eight.ensures l (omega arith) in
    let known : Bytes a.bytes.now = λ i. omega (arith, c.shared_slice_known-1.given i) in
    record { value = e; result_bound = (entry_known a.family a.bytes.now a.i known e).1 }
