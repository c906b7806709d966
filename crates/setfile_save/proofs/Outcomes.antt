-- The outcomes of save: each call has one. On a sound pool the bytes begin with the set's file, byte by byte, those past it stay, and the file reads back as the set's list.
-- Assumes nothing.
use mathlib.Core.Path.{◌≡◌, refl, ap, ◌∙◌}
use mathlib.Core.List.{List, [], ◌∷◌}
use Prim.Native.Nat.{ℕ, ◌≤◌, ◌<◌}
use native.Mathlib.Omega.{arith}
use lib.ListN.{length, get_or, take}
use Rattle.nets.specs.declared.Refusal.TheVariants.{Damaged, NoSet, ShortBuffer}
use Rattle.nodes.specs.Words.{put}
use Rattle.nodes.proofs.Put.{length-put, get_or-put-behind}
use Rattle.pool_state.specs.States.{State}
use Rattle.pool_state.specs.Decode.{damaged, sound, decode}
use Rattle.pool_state.specs.Changes.{set_at, list_at}
use Rattle.pool_state.proofs.Claims.{is_state-family, is_set-list}
use Rattle.pool_state.proofs.Filled.{filled-one, filled-damaged, filled-noset, filled-short, filled-whole}
use Rattle.pool_state.proofs.Decoded.{decode-state, decode-set}
use Rattle.setfile_format.specs.Files.{file, read_file}
use Rattle.setfile_format.proofs.Written.{read_file-file_of}
use Rattle.setfile_save.specs.Calls.{file_at, Saved}
use Rattle.setfile_save.proofs.Returns.{save-fills, decode-few}
use Rattle.std.specs.Prelude.{Result, Ok, Err}
use Rattle.nets.specs.declared.Refusal.{Refusal}

pub save-determined : {w v u x : List ℕ} {k : ℕ} {r s : (Result ℕ Refusal)} → Saved w k v r u → Saved w k v s x → (r ≡ s) × (u ≡ x)
save-determined g h = filled-one (save-fills g) (save-fills h)

-- the file of a set of a sound pool reads as its family and its list
pub read_file-file_at : (w : List ℕ) (S : State) → decode w ≡ sound S → (k : ℕ) → k < length S.sets → read_file (file_at S k) ≡ file S.family (list_at S k)
read_file-file_at w S d k lt =
    let e = (decode-set w S d k lt).rules in
    let v = S.family in
    read_file-file_of S.family (list_at S k) (is_state-family S (decode-state w S d)) (is_set-list v (set_at S k) e) (decode-few w S d k lt)

pub take_put : (v xs : List ℕ) → length xs ≤ length v → take (length xs) (put v 0 xs) ≡ xs
unfolding put
take_put [] [] h = refl
take_put [] (x ∷ xs) h = absurd (omega arith)
take_put (y ∷ v) [] h = refl
take_put (y ∷ v) (x ∷ xs) h = ap (λ l. x ∷ l) (take_put v xs (omega arith))

module _ {w v u : List ℕ} {k : ℕ} {r : (Result ℕ Refusal)} (h : Saved w k v r u) where
  pub save-damaged : decode w ≡ damaged → (r ≡ Err Damaged) × (u ≡ v)
  save-damaged = filled-damaged (save-fills h)

  module _ (S : State) (d : decode w ≡ sound S) where
    pub save-noset : length S.sets ≤ k → (r ≡ Err NoSet) × (u ≡ v)
    save-noset = filled-noset (save-fills h) S d

    module _ (lt : k < length S.sets) where
      pub save-small : length v < length (file_at S k) → (r ≡ Err ShortBuffer) × (u ≡ v)
      save-small = filled-short (save-fills h) S d lt

      module _ (le : length (file_at S k) ≤ length v) where
        pub save-file : (r ≡ Ok (length (file_at S k))) × (u ≡ put v 0 (file_at S k))
        save-file = filled-whole (save-fills h) S d lt le

        pub save-reads : read_file (take (length (file_at S k)) u) ≡ file S.family (list_at S k)
        save-reads = rw (save-file.1, take_put v (file_at S k) le) (read_file-file_at w S d k lt)

        pub save-length : length u ≡ length v
        save-length = ap length save-file.1 ∙ length-put v 0 (file_at S k)

        pub save-past : (i : ℕ) → length (file_at S k) ≤ i → get_or u i 0 ≡ get_or v i 0
        save-past i more = rw save-file.1 (get_or-put-behind v 0 (file_at S k) i (omega arith))
