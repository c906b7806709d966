-- A list of the family's networks in a set of a pool, whichever form keeps it: its words by the pool, how many they are, and the trie of them where the set is
-- indexed. Assumes nothing.
use mathlib.Core.Path.{◌≡◌, sym, ap, ◌∙◌}
use mathlib.Core.Bool.{true}
use mathlib.Core.List.{List}
use Prim.Native.Nat.{ℕ, ◌*◌}
use lib.ListN.{length}
use Rattle.nets.specs.Bits.{Bits}
use Rattle.nets.specs.Lists.{is_list}
use Rattle.nets.specs.Networks.{width}
use Rattle.nets.specs.Tries.{Trie, size, trie_of}
use Rattle.nodes.specs.Words.{enc}
use Rattle.pool_state.specs.Kept.{held_l, enc_l}
use Rattle.pool_state.specs.States.{State}
use Rattle.pool_state.specs.Changes.{set_at}
use Rattle.pool_state.specs.Steps.{enc_in}
use Rattle.pool_state.specs.declared.Survey.{Survey}
use Rattle.pool_state.proofs.Kept.{length-enc_l, enc_l-trie, size-trie_of}
use Rattle.pool_state.proofs.Claims.{indexable-at, indexable-first}
use Rattle.pool_state.proofs.Seen.{Seen, seen-state, seen-header, seen-form, own-form, words_l, stride_s}

module _ {w : List ℕ} {S : State} {k : ℕ} {v : Survey} (h : Seen w S k v) (l : List Bits) where
  pub enc_in-is : enc_in w l ≡ words_l S l
  enc_in-is = rw (seen-form h, (seen-header h).family)

  module _ (i : is_list (width S.family) l ≡ true) {m : ℕ} (e : held_l (set_at S k).form l ≡ m) where
    pub list-long : length (words_l S l) ≡ stride_s S * m
    list-long = length-enc_l (width S.family) l i S.form S.family ∙ ap (λ n. stride_s S * n) (ap (λ F. held_l F l) (sym (own-form h)) ∙ e)

    pub list-trie : (set_at S k).indexed ≡ true → (t : Trie) × (words_l S l ≡ enc t) × (size t ≡ m)
    list-trie q =
        let F = indexable-first (set_at S k) q (indexable-at S k (seen-state h)) in (
          trie_of l,
          ap (λ G. enc_l G S.family l) (sym (own-form h) ∙ F) ∙ enc_l-trie S.family l,
          size-trie_of (width S.family) l i ∙ ap (λ G. held_l G l) (sym F) ∙ e,
        )
