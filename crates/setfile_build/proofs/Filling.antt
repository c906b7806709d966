-- The trie of a file's list, written where there is room for it: the networks that a file gives from its start are those of that trie. Assumes nothing.
use mathlib.Core.Bool.{false}
use mathlib.Core.List.{List, []}
use mathlib.Core.Path.{◌≡◌, refl, sym, ap, ◌∙◌}
use Prim.Native.Nat.{ℕ}
use native.Mathlib.Omega.{arith}
use Rattle.nets.specs.Bits.{Bits}
use Rattle.nets.specs.Lists.{nodes_l}
use Rattle.nets.specs.Tries.{Trie, none, node, is_none, size, list_of, trie_of}
use Rattle.nets.specs.Networks.{width}
use Rattle.nets.proofs.Nodes.{nodes_l-list_of}
use Rattle.nets.proofs.TrieOf.{list_of-trie_of, levels-trie_of, is_list-within}
use Rattle.nodes.specs.Words.{put, place, enc}
use Rattle.nodes.proofs.Put.{put-nil}
use Rattle.address_order.specs.Streams.{flat}
use Rattle.setfile_format.specs.Files.{file, read_file}
use Rattle.setfile_format.proofs.RoundTrip.{read_file-is}
use Rattle.setfile_order.specs.Flow.{head_as, Flow}
use Rattle.setfile_order.specs.declared.Head.{Head}
use Rattle.setfile_build.specs.Building.{Due, Fillable}
use Rattle.setfile_build.proofs.Growing.{cut-first}

-- The list of a file is its trie's.
module _ (d : List ℕ) {f : ℕ} {l : List Bits} (e : read_file d ≡ file f l) where
  pub file-list_of : list_of (trie_of l) ≡ l
  file-list_of = list_of-trie_of (width f) l (read_file-is d f l e).list

  pub file-size : size (trie_of l) ≡ nodes_l l
  file-size = sym (nodes_l-list_of (trie_of l)) ∙ ap nodes_l file-list_of

-- The head is of no network where the trie is empty, and only there.
head-none : (f : ℕ) (t : Trie) → (head_as f [] (flat t)).deep ≡ 0 → t ≡ none
unfolding head_as
head-none f none e = refl
head-none f (node l r) e = let (m, ms, i, q) = cut-first (node l r) refl in absurd (omega (arith, rw q at e))

head-some : (f : ℕ) (t : Trie) → ((head_as f [] (flat t)).deep ≡ 0 → ⊥) → is_none t ≡ false
unfolding head_as flat
head-some f none n = absurd (n refl)
head-some f (node l r) n = refl

module _ {w : List ℕ} {b o : ℕ} {d : List ℕ} {f : ℕ} {l : List Bits} (g : Fillable w b o d f l) {c : List ℕ} {h : Head} (k : Flow d f c (flat (trie_of l)) × (h ≡ head_as f [] (flat (trie_of l)))) where
  head-deep : h.deep ≡ (head_as f [] (flat (trie_of l))).deep
  head-deep = ap (λ (x : Head). x.deep) k.1

  pub fill_none : h.deep ≡ 0 → w ≡ put w (place b o) (enc (trie_of l))
  unfolding enc
  fill_none e = rw (head-none f (trie_of l) (sym head-deep ∙ e)) (sym (put-nil w (place b o)))

  pub fill-due : (h.deep ≡ 0 → ⊥) → Due w b o h d f c (trie_of l)
  fill-due ne = record {
    some = head-some f (trie_of l) (λ e. ne (head-deep ∙ e));
    deep = omega (arith, levels-trie_of (width f) l (is_list-within (width f) l (read_file-is d f l g.reads).list));
    flow = k.0;
    head = k.1;
    one = g.one;
    few = omega (arith, g.few, file-size d g.reads);
    room = omega (arith, g.room, file-size d g.reads);
  }
