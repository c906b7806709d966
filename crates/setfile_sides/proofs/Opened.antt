-- A file opened: the networks that it has to give are its list in address order, ranges one behind the other. Assumes nothing.
use Rattle.std.proofs.Common.{◌≡◌, ℕ, true, List, [], length, sym, ◌∙◌}
use Rattle.nets.specs.Bits.{Bits, leads, val}
use Rattle.nets.specs.Lists.{covers, within, is_list}
use Rattle.nets.specs.Networks.{width}
use Rattle.nets.specs.Tries.{trie_of}
use Rattle.nets.proofs.TrieOf.{is_list-ascending, is_list-apart, is_list-within}
use Rattle.address_order.specs.Streams.{flat, loose}
use Rattle.address_order.proofs.Sorted.{any_of-order, within-order, loose-order, flat-order}
use Rattle.address_order.proofs.Flat.{rising-flat}
use Rattle.setfile_format.specs.Files.{read_file, file}
use Rattle.setfile_format.proofs.RoundTrip.{read_file-is}
use Rattle.setfile_order.specs.Flow.{head_as, Flow}
use Rattle.setfile_order.specs.declared.Head.{Head}
use Rattle.setfile_sides.specs.declared.sides.Side.{Side}
use Rattle.setfile_sides.specs.Sides.{tight, begins, Stands, Along}
use Rattle.setfile_sides.proofs.Ranges.{Spread, spread-all, holds, covers-holds}

-- A list in address order.
module _ (w : ℕ) (l : List Bits) (i : is_list w l ≡ true) where
  pub within-flat : within w (flat (trie_of l)) ≡ true
  within-flat = rw (← flat-order w l i) (within-order w l ∙ is_list-within w l i)

  loose-flat : loose (flat (trie_of l)) ≡ true
  loose-flat = rw (← flat-order w l i) (loose-order l (is_list-ascending w l i) ∙ is_list-apart w l i)

  pub spread-flat : Spread w 0 (flat (trie_of l))
  spread-flat = spread-all w (flat (trie_of l)) (rising-flat (trie_of l)) loose-flat within-flat

  pub covers-flat : (a : Bits) → length a ≡ w → covers l a ≡ holds w (flat (trie_of l)) (val a)
  covers-flat a e = sym (any_of-order (λ m. leads m a) l) ∙ rw (flat-order w l i) (covers-holds w (flat (trie_of l)) a within-flat e)

pub begun-along : {d : List ℕ} {f : ℕ} {c : List ℕ} {l : List Bits} {h : Head} {r : Side} → read_file d ≡ file f l
    → Flow d f c (flat (trie_of l)) × (h ≡ head_as f [] (flat (trie_of l)))
    → ((f : ℕ) (q : Bits) (ms : List Bits) → h ≡ head_as f q ms → within (width f) ms ≡ true → Stands f r (begins (width f) ms) ms × (r.short ≡ true))
    → Along d f c r (tight (flat (trie_of l))) (begins (width f) (flat (trie_of l))) (flat (trie_of l))
begun-along {d} {f} {c} {l} e (flow, is) arrives =
    let (stands, short) = arrives f [] (flat (trie_of l)) is (within-flat (width f) l (read_file-is d f l e).list) in
    record { flow = flow; stands = stands; short = rw short }
