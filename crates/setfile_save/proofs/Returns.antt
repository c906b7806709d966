-- A law for each return of save, by the tests on the way to it. Assumes nothing.
use mathlib.Core.Path.{◌≡◌, sym, ap, ◌∙◌}
use mathlib.Core.Bool.{Bool, true, false}
use mathlib.Core.List.{List}
use Prim.Native.Nat.{ℕ, ◌-◌, ◌≤◌, ◌<◌}
use native.Mathlib.Omega.{arith}
use lib.ListN.{length}
use Rattle.nets.specs.Bits.{Bits}
use Rattle.nets.specs.Lists.{is_list}
use Rattle.nets.specs.Networks.{width}
use Rattle.nets.specs.Tries.{Trie, list_of, trie_of}
use Rattle.nets.specs.Refusals.{number}
use Rattle.nets.proofs.TrieOf.{list_of-trie_of}
use Rattle.branch_points.proofs.Counts.{kept_nodes_l-twice}
use Rattle.nets.specs.declared.Refusal.{Refusal}
use Rattle.nets.specs.declared.Refusal.TheVariants.{ShortBuffer}
use Rattle.nodes.specs.Words.{put}
use Rattle.pool_state.specs.Kept.{Form, first, second, same_form, held_l}
use Rattle.pool_state.specs.States.{State}
use Rattle.pool_state.specs.Decode.{sound, decode, form_in}
use Rattle.pool_state.specs.Changes.{set_at, list_at}
use Rattle.pool_state.specs.Steps.{Refuses}
use Rattle.pool_state.proofs.Filled.{Filled, fill-refused, fill-short, fill-granted}
use Rattle.pool_state.proofs.Claims.{is_state-claimed, claimed_but-is, is_list-list_at}
use Rattle.pool_state.proofs.Header.{is_header-header}
use Rattle.pool_state.proofs.Kept.{size-trie_of}
use Rattle.pool_state.proofs.Decoded.{decode-header, decode-state}
use Rattle.trie_paths.specs.Laying.{tallied, clear, Starts}
use Rattle.listing.proofs.Seats.{Sits}
use Rattle.listing.proofs.ByForm.{held_first, held-second}
use Rattle.nodes.specs.declared.seats.Seat.{Seat}
use Rattle.trie_paths.proofs.Counting.{list_of-size}
use Rattle.setfile_format.specs.Files.{file_bytes, most_entries, file_of}
use Rattle.setfile_format.proofs.Written.{length-file_of, file_bytes-few}
use Rattle.setfile_write.specs.Saving.{Savable}
use Rattle.kept_save.specs.Saved.{KeptWritable}
use Rattle.setfile_save.specs.Calls.{file_at, save_rules, save_rule, bytes_after, Saved}
use Rattle.setfile_save.specs.SaveSteps.{SavableIn}
use Rattle.std.specs.Prelude.{Result, Ok, Err}

abbrev Fills : List ℕ → ℕ → List ℕ → Result ℕ Refusal → List ℕ → Type 0
Fills w k v r u = Filled (decode w) k (length v) (λ S. length (file_at S k)) (λ S. length (file_at S k)) v (λ S. put v 0 (file_at S k)) r u

module _ {w v u : List ℕ} {k : ℕ} {r : (Result ℕ Refusal)} where
  pub save-fills : Saved w k v r u → Fills w k v r u
  unfolding save_rule bytes_after save_rules
  save-fills h = record { answer = h.answer; left = h.bytes }

  saved : Fills w k v r u → Saved w k v r u
  unfolding save_rule bytes_after save_rules
  saved h = record { answer = h.answer; bytes = h.left }

pub save-refused : {w v : List ℕ} {k : ℕ} (x : Refusal) → Refuses (decode w) k (number x) → Saved w k v (Err x) v
save-refused {w} {v} {k} x e = saved (fill-refused (decode w) k (length v) _ _ v _ x e)

-- a list has no more networks than nodes, in either form
length-held : (F : Form) (d : ℕ) (l : List Bits) → is_list d l ≡ true → length l ≤ held_l F l
unfolding held_l
length-held first d l e = omega (arith, ap length (list_of-trie_of d l e), list_of-size (trie_of l), size-trie_of d l e)
length-held second d l e = omega (arith, kept_nodes_l-twice d l e)

-- so a set of a sound pool has no more than a file may have
pub decode-few : (w : List ℕ) (S : State) → decode w ≡ sound S → (k : ℕ) → k < length S.sets → length (list_at S k) ≤ most_entries
decode-few w S e k lt =
    let h = is_header-header w (decode-header w S e).known in
    let o = decode-state w S e in
    omega (
      arith,
      length-held (set_at S k).form (width S.family) (list_at S k) (is_list-list_at S k o),
      claimed_but-is k S.sets lt,
      is_state-claimed S o,
      (decode-header w S e).nodes,
    )

module _ {w : List ℕ} {k : ℕ} {S : State} {s : Seat} (h : Sits w k S s) {n : ℕ} (c : n ≡ length (list_of (trie_of (list_at S k)))) where
  counted : n ≡ length (list_at S k)
  counted = c ∙ ap length h.list

  pub save-few : n ≤ most_entries
  save-few = rw counted (decode-few w S h.decoded k h.known)

  module _ {m : ℕ} (q : m ≡ file_bytes s.family n) where
    sized : m ≡ length (file_at S k)
    sized = q ∙ rw (counted, h.family) (sym (length-file_of S.family (list_at S k)))

    pub save-fits : m ≤ 71303184
    save-fits = rw q (file_bytes-few s.family n save-few)

    pub save-short : {v : List ℕ} → length v < m → Saved w k v (Err ShortBuffer) v
    save-short {v} lt = saved (fill-short (decode w) k (length v) _ _ v _ S h.decoded h.known (rw sized at lt))

    pub save-savable : {r : ℕ} {c₀ c₁ : List ℕ} → c₀ ≡ tallied 0 (trie_of (list_at S k)) clear → Starts c₀ c₁ → m ≤ r → SavableIn w s n c₁ r (trie_of (list_at S k))
    save-savable e o le = record { holds = h.holds; count = c; few = save-few; starts = rw e at o; fits = rw q at le }

    pub save-granted : {v u : List ℕ} → m ≤ length v → u ≡ put v 0 (file_of s.family (list_of (trie_of (list_at S k)))) → Saved w k v (Ok m) u
    save-granted {v} {u} le f =
        let r : u ≡ put v 0 (file_at S k) = rw (h.list, h.family) at f in
        rw (sized, r) (saved (fill-granted (decode w) k (length v) _ _ v _ S h.decoded h.known (rw sized at le)))

-- What writing the file asks in each form.
module _ {w : List ℕ} {s : Seat} {n : ℕ} {c : List ℕ} {m : ℕ} {t : Trie} (h : SavableIn w s n c m t) {r : Bool} (e : r ≡ same_form (form_in w) first) where
  pub savable-first : r ≡ true → Savable w s.base s.first s.end s.family n c m t
  savable-first q = record { holds = held_first h.holds e q; count = h.count; few = h.few; starts = h.starts; fits = h.fits }

  pub savable-second : r ≡ false → KeptWritable s.family w s.base (s.end - 1) s.first s.end n c m t
  savable-second q = record { holds = held-second h.holds e q; count = h.count; few = h.few; starts = h.starts; fits = h.fits }
