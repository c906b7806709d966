-- The loop that pushes the bytes of a slice: those that are left complete what is pushed. The count stands beside the reader until the loop is left. Assumes nothing.
use mathlib.Core.List.{List, [], ◌∷◌}
use mathlib.Core.Path.{◌≡◌, refl, ap, ◌∙◌}
use Prim.Native.Nat.{ℕ, suc, ◌+◌, ◌≤◌, ◌<◌}
use native.Mathlib.Numerals.{add-one}
use lib.ListN.{length, set, drop, get_or}
use lib.Seq.{drop-cons, drop-length}
use borrow.Author.Tests.{lt-ltb, le-ltb}
use Rattle.lines_reader.specs.Kept.{places, pushed, pushed_all}
use Rattle.lines_reader.specs.declared.Reader.{Reader}

-- the reader with n bytes of its line
abbrev pub counted : Reader → ℕ → Reader
counted r n = record { line = r.line; len = n; number = r.number; trimmed = r.trimmed; no = r.no }

-- with the byte b at place n
abbrev stored : Reader → ℕ → ℕ → Reader
stored r n b = record { line = set r.line n b; len = r.len; number = r.number; trimmed = r.trimmed; no = r.no }

module _ (r : Reader) (n : ℕ) where
  pushed-stored : (b : ℕ) → n < places → counted (stored r n b) (n + 1) ≡ pushed (counted r n) b
  unfolding pushed
  pushed-stored b h = rw (lt-ltb n places h)

  pub pushed-one : (s : List ℕ) {i : ℕ} → i < length s → n < places → pushed_all (counted (stored r n (get_or s i 0)) (n + 1)) (drop (i + 1) s) ≡ pushed_all (counted r n) (drop i s)
  unfolding pushed_all
  pushed-one s {i} lt h = rw (add-one i, drop-cons s i 0 lt) (ap (λ q. pushed_all q (drop (suc i) s)) (pushed-stored (get_or s i 0) h))

  pub pushed_none : (s : List ℕ) (i : ℕ) → i ≡ length s → counted r n ≡ pushed_all (counted r n) (drop i s)
  unfolding pushed_all
  pushed_none s i e = rw (e, drop-length s)

  pushed-past : (b : ℕ) → places ≤ n → counted r n ≡ pushed (counted r n) b
  unfolding pushed
  pushed-past b h = rw (le-ltb n places h)

  pub pushed-full : (s : List ℕ) → places ≤ n → counted r n ≡ pushed_all (counted r n) s
  unfolding pushed_all
  pushed-full [] h = refl
  pushed-full (b ∷ s) h = pushed-full s h ∙ ap (λ q. pushed_all q s) (pushed-past b h)
