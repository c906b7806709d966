-- On words that hold a trie the walk finds what the trie's search finds, and counts its kept nodes on the way. Assumes nothing.
use mathlib.Core.Bool.{Bool, true, false, not, cond, ◌&&◌}
use mathlib.Core.List.{List, [], ◌∷◌, ◌++◌, append_assoc, append-nil}
use mathlib.Core.Path.{◌≡◌, refl, ap, sym, ◌∙◌}
use Prim.Native.Nat.{ℕ, zero, suc, ◌+◌, ◌-◌, ◌≤◌, ◌<◌}
use native.Mathlib.Nat.{add-zero, zero-add}
use native.Mathlib.Numerals.{sub-one}
use native.Mathlib.Omega.{arith}
use lib.Dec.{eqb, leb}
use lib.ListN.{length, get_or, length-append}
use lib.Seq.{get_or-append_seam}
use borrow.Author.Tests.{le-leb, eq-eqb, ne_eqb}
use Rattle.nets.specs.Bits.{Bits, leads}
use Rattle.nets.specs.Networks.{width}
use Rattle.nets.specs.Tries.{Trie, none, node, leaf, fork, side, list_of, trie_of}
use Rattle.nets.specs.Lists.{Found, found, missing, supernet_l, is_list}
use Rattle.nets.specs.TrieOps.{search_t, under}
use Rattle.nets.proofs.Strings.{leads-trans, leads-length, leads-append}
use Rattle.nets.proofs.Levels.{side_same}
use Rattle.nets.proofs.TrieOf.{list_of-trie_of}
use Rattle.nets.proofs.Lookups.{search_t-list_of}
use Rattle.nodes.proofs.Tries.{some}
use Rattle.trie_paths.specs.Spans.{snoc}
use Rattle.trie_paths.proofs.Paths.{length-snoc}
use Rattle.branch_points.specs.BranchPoints.{kept_steps_l}
use Rattle.branch_points.specs.KeptTries.{kept_size, kept_steps_t}
use Rattle.branch_points.proofs.Sizes.{kept_size-some}
use Rattle.branch_points.proofs.Steps.{kept_steps_t-list_of, kept_steps_l-empty}
use Rattle.kept_nodes.specs.Parse.{len_at, dist_at, string_at, KeptStands}
use Rattle.kept_nodes.proofs.NodeWords.{Says, len_is, dist-is, string-is}
use Rattle.kept_nodes.proofs.Parsed.{leaf-says, branch-split, fork-stands}
use Rattle.kept_nodes.proofs.Heads.{Head, head_of}
use Rattle.kept_lookup.specs.Walks.{on_way, kept_walk, kept_walk_from, shown_as}
use Rattle.kept_lookup.specs.declared.Shown.{Shown}
use Rattle.kept_lookup.specs.declared.Shown.TheVariants.{Member, Nothing}
use Rattle.kept_lookup.proofs.Turning.{from-none, from-node}

-- what a search that begins d bits down shows, c nodes counted before it and k on its way
abbrev shown_below : ℕ → ℕ → Found → ℕ → Shown
shown_below d c (found p) k = Member (d + length p) (c + k)
shown_below d c missing k = Nothing (c + k)

shown-under : (b : Bool) (d c : ℕ) (f : Found) (k : ℕ) → shown_below (d + 1) c f k ≡ shown_below d c (under b f) k
shown-under b d c (found p) k = let e : d + 1 + length p ≡ d + suc (length p) = omega arith in ap (λ n. Member n (c + k)) e
shown-under b d c missing k = refl

shown-later : (d c : ℕ) (f : Found) (k : ℕ) → shown_below d (c + 1) f k ≡ shown_below d c f (1 + k)
shown-later d c (found p) k = let e : c + 1 + k ≡ c + (1 + k) = omega arith in ap (λ n. Member (d + length p) n) e
shown-later d c missing k = let e : c + 1 + k ≡ c + (1 + k) = omega arith in ap Nothing e

shown-start : (x : Found) (k : ℕ) → shown_below 0 0 x k ≡ shown_as x k
shown-start (found p) k = rw (zero-add (length p), zero-add k)
shown-start missing k = rw (zero-add k)

search-none : (q : Bits) → search_t q none ≡ missing
unfolding search_t
search-none [] = refl
search-none (b ∷ q) = refl

count_none : (q : Bits) → kept_steps_t q none ≡ 0
unfolding kept_steps_t
count_none [] = refl
count_none (b ∷ q) = refl

-- A turn, where the node's numbers are nodes' and its string is long enough.
module _ (f : ℕ) (w : List ℕ) (b n m i : ℕ) (q : Bits) (c : ℕ) (near : i + dist_at f w b i ≤ n) (grown : m ≤ len_at f w b i) where
  abbrev turned : ℕ → Shown
  turned g =
      cond (on_way f w b i q) (cond (eqb (dist_at f w b i) 0) (Member (len_at f w b i) (c + 1))
      (cond (eqb (len_at f w b i) (length q)) (Nothing (c + 1)) (kept_walk f w b n g (len_at f w b i + 1) (i + side (get_or q (len_at f w b i) false) (dist_at f w b i) 1) q
      (c + 1)))) (Nothing c)

  walk_turn : (j : ℕ) → (j ≡ 0 → ⊥) → kept_walk f w b n j m i q c ≡ turned (j - 1)
  unfolding kept_walk
  walk_turn zero nz = absurd (nz refl)
  walk_turn (suc g) nz = rw (sub-one (suc g), le-leb (i + dist_at f w b i) n near, le-leb m (len_at f w b i) grown)

module _ (f : ℕ) (w : List ℕ) (b n : ℕ) where
  -- a node in the middle of whose edge the query ends or turns off
  module _ (m i c : ℕ) (p : Bits) (e : Bool) (h : Head f w b n (snoc p e) i) (le : m ≤ length p) where
    len-above : length p < len_at f w b i
    len-above = omega (arith, h.len, leads-length (snoc p e) (string_at f w b i) h.begins, length-snoc p e)

    walk-off : (j : ℕ) (q : Bits) → (j ≡ 0 → ⊥) → leads (snoc p e) q ≡ false → kept_walk f w b n j m i q c ≡ Nothing c
    walk-off j q nz off = walk_turn f w b n m i q c h.near (omega (arith, len-above)) j nz
        ∙ rw (way (leb (len_at f w b i) (length q)) (leads (string_at f w b i) q) refl)
      where
        way : (x y : Bool) → leads (string_at f w b i) q ≡ y → (x && y) ≡ false
        way x true k = let z : ◌≡◌ {A = ℕ} 0 1 = cc (leads-trans (snoc p e) (string_at f w b i) q h.begins k) in absurd (omega arith)
        way true false k = refl
        way false false k = refl

  -- a node whose string is p
  module _ (m i c d : ℕ) (p q : Bits) (s : Says f w b i p d) (near : i + d ≤ n) (le : m ≤ length p) where
    way_on : on_way f w b i (p ++ q) ≡ true
    way_on = rw (len_is s, string-is s, le-leb (length p) (length (p ++ q)) (omega (arith, length-append p q))) (leads-append p q)

    here-turn : (j : ℕ) → (j ≡ 0 → ⊥) → kept_walk f w b n j m i (p ++ q) c ≡ cond (eqb d 0) (Member (length p) (c + 1)) (cond (eqb (length p) (length (p ++ q)))
        (Nothing (c + 1)) (kept_walk f w b n (j - 1) (length p + 1) (i + side (get_or (p ++ q) (length p) false) d 1) (p ++ q) (c + 1)))
    here-turn j nz = walk_turn f w b n m i (p ++ q) c (rw (dist-is s) near) (rw (len_is s) le) j nz ∙ rw (way_on, len_is s, dist-is s)

  snoc-other : (p : Bits) (e : Bool) (q : Bits) → leads (snoc p e) (p ++ (not e ∷ q)) ≡ false
  snoc-other [] false q = refl
  snoc-other [] true q = refl
  snoc-other (false ∷ p) e q = snoc-other p e q
  snoc-other (true ∷ p) e q = snoc-other p e q

  snoc-nil : (p : Bits) (e : Bool) → leads (snoc p e) (p ++ []) ≡ false
  snoc-nil [] e = refl
  snoc-nil (false ∷ p) e = snoc-nil p e
  snoc-nil (true ∷ p) e = snoc-nil p e

  -- one child only
  abbrev Finds : Trie → Bits → Bits → ℕ → ℕ → ℕ → ℕ → Type 0
  Finds t p q j m i c = kept_walk f w b n j m i (p ++ q) c ≡ shown_below (length p) c (search_t q t) (kept_steps_t q t)

  along : (e : Bool) (x y : Trie) (p q : Bits) (j m i c : ℕ) → Finds (node x y) (snoc p e) q j m i c
      → kept_walk f w b n j m i (p ++ (e ∷ q)) c ≡ shown_below (length p) c (under e (search_t q (node x y))) (0 + kept_steps_t q (node x y))
  along e x y p q j m i c h =
      let k : 0 + kept_steps_t q (node x y) ≡ kept_steps_t q (node x y) = omega arith in
      rw (k, ← shown-under e (length p) c (search_t q (node x y)) (kept_steps_t q (node x y)), ← length-snoc p e, ← append_assoc p (e ∷ []) q) h

  down : (e : Bool) (t : Trie) (p q : Bits) (j i c : ℕ) → Finds t (snoc p e) q j (length p + 1) i (c + 1)
      → kept_walk f w b n j (length p + 1) i (p ++ (e ∷ q)) (c + 1) ≡ shown_below (length p) c (under e (search_t q t)) (1 + kept_steps_t q t)
  down e t p q j i c h =
      rw (
        ← shown-under e (length p) c (search_t q t) (1 + kept_steps_t q t),
        ← shown-later (length p + 1) c (search_t q t) (kept_steps_t q t),
        ← append_assoc p
            (e ∷ []) q,
      ) (rw (length-snoc p e) at h)

  ends : (p q : Bits) (j m i c : ℕ) → 1 ≤ i → length q < j → m ≤ length p → KeptStands f w b n p i leaf → Finds leaf p q j m i c
  unfolding search_t kept_steps_t kept_size
  ends p [] j m i c pos lt le s = rw (add-zero (length p)) (here-turn m i c 0 p [] (leaf-says pos s) (omega (arith, s.within)) le j (omega arith))
  ends p (e ∷ q) j m i c pos lt le s = rw (side_same e none, count_none q, add-zero (length p)) (here-turn m i c 0 p (e ∷ q) (leaf-says pos s) (omega (
    arith,
    s.within,
  )) le j (omega arith))

  at_left : {p : Bits} (i k : ℕ) {t : Trie} → KeptStands f w b n p (i + 1 + k) t → KeptStands f w b n p (i + (1 + k)) t
  at_left i k s = let e : i + 1 + k ≡ i + (1 + k) = omega arith in rw e at s

  single : (e : Bool) (x y : Trie) (p q : Bits) (j m i c : ℕ) → 1 ≤ i → length q < j → m ≤ length p → KeptStands f w b n p i (fork e (node x y) none)
      → ((r : Bits) → length r < j → Finds (node x y) (snoc p e) r j m i c) → Finds (fork e (node x y) none) p q j m i c
  unfolding search_t kept_steps_t
  single false x y p [] j m i c pos lt le s ih = rw (add-zero c) (walk-off m i c p false (head_of f w b n (node x y) (snoc p false) i pos (some x y)
      (fork-stands pos false (node x y) (some x y) s)) le j (p ++ []) (omega arith) (snoc-nil p false))
  single true x y p [] j m i c pos lt le s ih = rw (add-zero c) (walk-off m i c p true (head_of f w b n (node x y) (snoc p true) i pos (some x y)
      (fork-stands pos true (node x y) (some x y) s)) le j (p ++ []) (omega arith) (snoc-nil p true))
  single false x y p (false ∷ q) j m i c pos lt le s ih = along false x y p q j m i c (ih q (omega arith))
  single false x y p (true ∷ q) j m i c pos lt le s ih =
      rw (search-none q, count_none q, add-zero c) (walk-off m i c p false (head_of f w b n (node x y) (snoc p false) i pos (some x y) (fork-stands pos false
      (node x y) (some x y) s)) le j (p ++ (true ∷ q)) (omega arith) (snoc-other p false q))
  single true x y p (false ∷ q) j m i c pos lt le s ih =
      rw (search-none q, count_none q, add-zero c) (walk-off m i c p true (head_of f w b n (node x y) (snoc p true) i pos (some x y) (fork-stands pos true (node x y)
      (some x y) s)) le j (p ++ (false ∷ q)) (omega arith) (snoc-other p true q))
  single true x y p (true ∷ q) j m i c pos lt le s ih = along true x y p q j m i c (ih q (omega arith))

  -- a branch point
  branch : (x y z u : Trie) (p q : Bits) (j m i c : ℕ) → 1 ≤ i → length q < j → m ≤ length p → KeptStands f w b n p i (node (node x y) (node z u))
      → ((r : Bits) → length r < j - 1 → Finds (node x y) (snoc p false) r (j - 1) (length p + 1) (i + (1 + kept_size (node z u))) (c + 1))
      → ((r : Bits) → length r < j - 1 → Finds (node z u) (snoc p true) r (j - 1) (length p + 1) (i + 1) (c + 1))
      → Finds (node (node x y) (node z u)) p q j m i c
  unfolding search_t kept_steps_t
  branch x y z u p [] j m i c pos lt le s il ir =
      let d = branch-split pos s in
      let near : i + (1 + kept_size (node z u)) ≤ n = omega (arith, d.left.within, kept_size-some (node x y) (some x y)) in
      here-turn m i c (1 + kept_size (node z u)) p [] d.root near le j (omega arith)
      ∙ rw (ne_eqb (1 + kept_size (node z u)) 0 (λ e. omega arith), eq-eqb (length p) (length (p ++ [])) (sym (ap length (append-nil p))))
  branch x y z u p (false ∷ q) j m i c pos lt le s il ir =
      let d = branch-split pos s in
      let near : i + (1 + kept_size (node z u)) ≤ n = omega (arith, d.left.within, kept_size-some (node x y) (some x y)) in
      here-turn m i c (1 + kept_size (node z u)) p (false ∷ q) d.root near le j (omega arith)
      ∙ rw (
        ne_eqb (1 + kept_size (node z u)) 0 (λ e. omega arith),
        ne_eqb (length p) (length (p ++ (false ∷ q))) (λ e. omega (arith, length-append p (false ∷ q))),
        get_or-append_seam p false q false,
      )
      (down false (node x y) p q (j - 1) (i + (1 + kept_size (node z u))) c (il q (omega arith)))
  branch x y z u p (true ∷ q) j m i c pos lt le s il ir =
      let d = branch-split pos s in
      let near : i + (1 + kept_size (node z u)) ≤ n = omega (arith, d.left.within, kept_size-some (node x y) (some x y)) in
      here-turn m i c (1 + kept_size (node z u)) p (true ∷ q) d.root near le j (omega arith)
      ∙ rw (
        ne_eqb (1 + kept_size (node z u)) 0 (λ e. omega arith),
        ne_eqb (length p) (length (p ++ (true ∷ q))) (λ e. omega (arith, length-append p (true ∷ q))),
        get_or-append_seam p true q false,
      )
      (down true (node z u) p q (j - 1) (i + 1) c (ir q (omega arith)))

  walk-search : (t : Trie) (p q : Bits) (j m i c : ℕ) → 1 ≤ i → (t ≡ none → ⊥) → length q < j → m ≤ length p → KeptStands f w b n p i t → Finds t p q j m i c
  walk-search none p q j m i c pos ne lt le s = absurd (ne refl)
  walk-search (node none none) p q j m i c pos ne lt le s = ends p q j m i c pos lt le s
  walk-search (node none (node x y)) p q j m i c pos ne lt le s =
      single true x y p q j m i c pos lt le s (λ r lr. walk-search (node x y) (snoc p true) r j m i c pos (some x y) lr (omega (arith, length-snoc p true))
      (fork-stands pos true (node x y) (some x y) s))
  walk-search (node (node x y) none) p q j m i c pos ne lt le s =
      single false x y p q j m i c pos lt le s (λ r lr. walk-search (node x y) (snoc p false) r j m i c pos (some x y) lr (omega (arith, length-snoc p false))
      (fork-stands pos false (node x y) (some x y) s))
  walk-search (node (node x y) (node z u)) p q j m i c pos ne lt le s =
      let d = branch-split pos s in
      branch x y z u p q j m i c pos lt le s
      (λ r lr. walk-search (node x y) (snoc p false) r (j - 1) (length p + 1) (i + (1 + kept_size (node z u))) (c + 1) (omega arith) (some x y) lr (omega (
        arith,
        length-snoc p false,
      )) (at_left i (kept_size (node z u)) d.left))
      (λ r lr. walk-search (node z u) (snoc p true) r (j - 1) (length p + 1) (i + 1) (c + 1) (omega arith) (some z u) lr (omega (arith, length-snoc p true))
      d.right)

  -- the root of a trie, and of a list: what its words show is its supernet, with its count
  pub walk-trie : (t : Trie) (q : Bits) (i : ℕ) → 1 ≤ i → (t ≡ none → ⊥) → KeptStands f w b n [] i t
      → kept_walk_from f w b n q i ≡ shown_as (supernet_l (list_of t) q) (kept_steps_l (list_of t) q)
  walk-trie t q i pos ne s =
      sym (from-node f w b n q i (omega arith) (omega (arith, s.within, kept_size-some t ne)))
      ∙ walk-search t [] q (suc (length q)) 0 i 0 pos ne (omega arith) (omega arith) s
      ∙ shown-start (search_t q t) (kept_steps_t q t)
      ∙ rw (search_t-list_of q t, kept_steps_t-list_of q t)

  pub walk-empty : (q : Bits) → kept_walk_from f w b n q 0 ≡ shown_as (supernet_l [] q) (kept_steps_l [] q)
  unfolding supernet_l
  walk-empty q = sym (from-none f w b n q 0 refl) ∙ ap Nothing (sym (kept_steps_l-empty q))

  pub walk-list : (l : List Bits) (q : Bits) (i : ℕ) → 1 ≤ i → is_list (width f) l ≡ true → (trie_of l ≡ none → ⊥) → KeptStands f w b n [] i (trie_of l)
      → kept_walk_from f w b n q i ≡ shown_as (supernet_l l q) (kept_steps_l l q)
  walk-list l q i pos e ne s = rw (list_of-trie_of (width f) l e) at (walk-trie (trie_of l) q i pos ne s)
