-- The outcomes of list into a row of networks: there is one, and on a sound pool the row begins with the set's list, each network with its family, words and length. Then those of page_of, which are list's on a
-- page of zeros. Assumes nothing.
use mathlib.Core.Path.{◌≡◌, refl, ap, ◌∙◌}
use mathlib.Core.List.{List, [], ◌∷◌}
use Prim.Native.Nat.{ℕ, zero, suc, ◌≤◌, ◌<◌}
use native.Mathlib.Omega.{arith}
use lib.ListN.{length, replicate, get_or}
use Rattle.nets.specs.Bits.{Bits}
use Rattle.nets.specs.Networks.{net_from, no_net}
use Rattle.nets.specs.declared.Net.{Net}
use Rattle.nets.specs.declared.Refusal.TheVariants.{Damaged, NoSet, ShortBuffer}
use Rattle.pool_state.specs.States.{State}
use Rattle.pool_state.specs.Decode.{damaged, sound, decode}
use Rattle.pool_state.specs.Changes.{list_at}
use Rattle.pool_state.proofs.Filled.{filled-one, filled-damaged, filled-noset, filled-short, filled-whole}
use Rattle.netrows.specs.Rows.{filled, blank, Listed}
use Rattle.netrows.specs.declared.Page.{Page}
use Rattle.netrows.proofs.Begun.{list-fills}
use Rattle.std.specs.Prelude.{Result, Ok, Err}
use Rattle.nets.specs.declared.Refusal.{Refusal}

pub list-determined : {w : List ℕ} {v u x : List Net} {k : ℕ} {r s : (Result ℕ Refusal)} → Listed w k v r u → Listed w k v s x → (r ≡ s) × (u ≡ x)
list-determined g h = filled-one (list-fills g) (list-fills h)

-- The row with a list in its first entries, entry by entry.
filled-length : (f : ℕ) (l : List Bits) (v : List Net) → length l ≤ length v → length (filled f l v) ≡ length v
filled-length f [] v h = refl
filled-length f (p ∷ l) [] h = absurd (omega arith)
filled-length f (p ∷ l) (x ∷ v) h = ap suc (filled-length f l v (omega arith))

filled-entry : (f : ℕ) (l : List Bits) (v : List Net) (i : ℕ) → length l ≤ length v → i < length l → get_or (filled f l v) i no_net ≡ net_from f (get_or l i [])
filled-entry f [] v i h g = absurd (omega arith)
filled-entry f (p ∷ l) [] i h g = absurd (omega arith)
filled-entry f (p ∷ l) (x ∷ v) zero h g = refl
filled-entry f (p ∷ l) (x ∷ v) (suc i) h g = filled-entry f l v i (omega arith) (omega arith)

filled-past : (f : ℕ) (l : List Bits) (v : List Net) (i : ℕ) → length l ≤ length v → length l ≤ i → get_or (filled f l v) i no_net ≡ get_or v i no_net
filled-past f [] v i h g = refl
filled-past f (p ∷ l) [] i h g = absurd (omega arith)
filled-past f (p ∷ l) (x ∷ v) zero h g = absurd (omega arith)
filled-past f (p ∷ l) (x ∷ v) (suc i) h g = filled-past f l v i (omega arith) (omega arith)

module _ {w : List ℕ} {v u : List Net} {k : ℕ} {r : (Result ℕ Refusal)} (h : Listed w k v r u) where
  pub list-damaged : decode w ≡ damaged → (r ≡ Err Damaged) × (u ≡ v)
  list-damaged = filled-damaged (list-fills h)

  module _ (S : State) (d : decode w ≡ sound S) where
    pub list-noset : length S.sets ≤ k → (r ≡ Err NoSet) × (u ≡ v)
    list-noset = filled-noset (list-fills h) S d

    module _ (lt : k < length S.sets) where
      pub list-short : length v < length (list_at S k) → (r ≡ Err ShortBuffer) × (u ≡ v)
      list-short = filled-short (list-fills h) S d lt

      module _ (le : length (list_at S k) ≤ length v) where
        pub list-row : (r ≡ Ok (length (list_at S k))) × (u ≡ filled S.family (list_at S k) v)
        list-row = filled-whole (list-fills h) S d lt le

        pub list_length : length u ≡ length v
        list_length = ap length list-row.1 ∙ filled-length S.family (list_at S k) v le

        pub list-entry : (i : ℕ) → i < length (list_at S k) → get_or u i no_net ≡ net_from S.family (get_or (list_at S k) i [])
        list-entry i less = rw list-row.1 (filled-entry S.family (list_at S k) v i le less)

        pub list-past : (i : ℕ) → length (list_at S k) ≤ i → get_or u i no_net ≡ get_or v i no_net
        list-past i more = rw list-row.1 (filled-past S.family (list_at S k) v i le more)

-- A page has 16 entries, and those past the list hold zeros.
abbrev Paged : List ℕ → ℕ → Page → Type 0
Paged w k r = Listed w k blank r.answer r.nets

pub page-determined : {w : List ℕ} {k : ℕ} (r s : Page) → Paged w k r → Paged w k s → r ≡ s
page-determined r s g h = let e = list-determined g h in λ i. record { answer = e.0 i; nets = e.1 i }

zeros-at : (n i : ℕ) → get_or (replicate n no_net) i no_net ≡ no_net
zeros-at zero i = refl
zeros-at (suc n) zero = refl
zeros-at (suc n) (suc i) = zeros-at n i

module _ {w : List ℕ} {k : ℕ} {r : Page} (h : Paged w k r) (S : State) (d : decode w ≡ sound S) (lt : k < length S.sets) where
  pub page-short : 16 < length (list_at S k) → (r.answer ≡ Err ShortBuffer) × (r.nets ≡ blank)
  unfolding blank
  page-short more = list-short h S d lt more

  module _ (le : length (list_at S k) ≤ 16) where
    pub page-row : (r.answer ≡ Ok (length (list_at S k))) × (r.nets ≡ filled S.family (list_at S k) blank)
    unfolding blank
    page-row = list-row h S d lt le

    pub page-past : (i : ℕ) → length (list_at S k) ≤ i → get_or r.nets i no_net ≡ no_net
    unfolding blank
    page-past i more = list-past h S d lt le i more ∙ zeros-at 16 i
