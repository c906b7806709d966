-- What the tests of a step say of the trie that stands there. Assumes nothing.
use mathlib.Core.Bool.{Bool, true, false, cond}
use mathlib.Core.List.{List}
use mathlib.Core.Path.{◌≡◌, refl, sym, ap, ◌∙◌}
use Prim.Native.Nat.{ℕ, ◌+◌, ◌/◌, ◌%◌, ◌≤◌, ◌<◌}
use native.Mathlib.Omega.{arith}
use lib.ListN.{length, get_or}
use Rattle.nets.specs.Bits.{Bits}
use Rattle.nets.specs.Networks.{width, net_bits}
use Rattle.nets.specs.declared.Net.{Net}
use Rattle.nets.specs.Tries.{Trie, none, node, leaf, fork, bare, side}
use Rattle.nets.proofs.Listing.{bare-none}
use Rattle.nodes.proofs.Has.{has-front}
use Rattle.nodes.proofs.Tries.{some}
use Rattle.trie_paths.specs.Spans.{snoc}
use Rattle.branch_points.specs.KeptTries.{kept_size}
use Rattle.branch_points.proofs.Sizes.{kept_size-none}
use Rattle.kept_nodes.specs.Words.{kept_enc}
use Rattle.kept_nodes.specs.Parse.{KeptStands, head_at, len_at, net_at, string_at}
use Rattle.kept_nodes.proofs.Hung.{kept_size-fork}
use Rattle.kept_nodes.proofs.NodeWords.{len_is, dist-is}
use Rattle.kept_nodes.proofs.Heads.{by_shape, bit-behind, head_of, edge-head, edge-len, head-short}
use Rattle.kept_reading.specs.NodeStrings.{IsString, ReadAs}
use Rattle.kept_reading.proofs.Found.{read-len, read-string}
use Rattle.kept_steps.specs.declared.View.TheVariants.{Nothing, Leaf, Inner}
use Rattle.kept_steps.specs.Segments.{KeptSegment, own_size, kept_view, KeptBranch}

-- What a view says.
module _ (i : ℕ) where
  pub view-none : (t : Trie) → Nothing ≡ kept_view i t → t ≡ none
  unfolding kept_view
  view-none none e = refl
  view-none (node l r) e = go (bare l r) e
    where
      go : (x : Bool) → Nothing ≡ cond x Leaf (Inner (i + own_size l r) (i + own_size l r + kept_size r)) → node l r ≡ none
      go true h = let z : ◌≡◌ {A = ℕ} 0 1 = cc in absurd (omega arith)
      go false h = let z : ◌≡◌ {A = ℕ} 0 1 = cc in absurd (omega arith)

  pub view-leaf : (t : Trie) → Leaf ≡ kept_view i t → t ≡ leaf
  unfolding kept_view
  view-leaf none e = let z : ◌≡◌ {A = ℕ} 0 1 = cc in absurd (omega arith)
  view-leaf (node l r) e = go (bare l r) refl e
    where
      go : (x : Bool) → bare l r ≡ x → Leaf ≡ cond x Leaf (Inner (i + own_size l r) (i + own_size l r + kept_size r)) → node l r ≡ leaf
      go true q h = let n = bare-none l r q in rw (n.0, n.1)
      go false q h = let z : ◌≡◌ {A = ℕ} 0 1 = cc in absurd (omega arith)

  pub view-inner : (a m : ℕ) (t : Trie) → Inner a m ≡ kept_view i t → KeptBranch i a m t
  unfolding kept_view
  view-inner a m none e = let z : ◌≡◌ {A = ℕ} 0 1 = cc in absurd (omega arith)
  view-inner a m (node l r) e = go (bare l r) refl e
    where
      go : (x : Bool) → bare l r ≡ x → Inner a m ≡ cond x Leaf (Inner (i + own_size l r) (i + own_size l r + kept_size r)) → KeptBranch i a m (node l r)
      go true q h = let z : ◌≡◌ {A = ℕ} 0 1 = cc in absurd (omega arith)
      go false q h = let g : a ≡ i + own_size l r = cc in record { l = l; r = r; is = refl; inner = q; begins = g; middle = rw g (cc) }

none-size : kept_size none ≡ 0
unfolding kept_size
none-size = refl

-- What is seen of a root with one half only, and of a branch point.
view-fork : (i : ℕ) (c : Bool) (x y : Trie) → kept_view i (fork c (node x y) none) ≡ Inner i (side c i (i + kept_size (node x y)))
unfolding kept_view kept_size
view-fork i false x y = let z : i + 0 ≡ i = omega arith in rw z (ap (Inner i) z)
view-fork i true x y = let z : i + 0 ≡ i = omega arith in rw z

view-both : (i : ℕ) (x y z u : Trie) → kept_view i (node (node x y) (node z u)) ≡ Inner (i + 1) (i + (1 + kept_size (node z u)))
unfolding kept_view
view-both i x y z u = let e : i + 1 + kept_size (node z u) ≡ i + (1 + kept_size (node z u)) = omega arith in ap (Inner (i + 1)) e

view-member : (i : ℕ) → kept_view i leaf ≡ Leaf
unfolding kept_view
view-member i = refl

module _ {f : ℕ} {w : List ℕ} {b n i e u : ℕ} {p : Bits} {t : Trie} {rest : List ℕ} (g : KeptSegment f w b n i e u p t rest) where
  pub segment-stands : KeptStands f w b n p i t
  segment-stands = record { deep = g.deep; within = omega (arith, g.end, g.tail, g.last); has = has-front (kept_enc f p t) rest g.has }

  pub look_none : i ≡ e → Nothing ≡ kept_view i t
  unfolding kept_view
  look_none z = rw (kept_size-none t (omega (arith, g.end)))

  -- there is a node
  module _ (ne : i ≡ e → ⊥) where
    by-node : (P : Trie → Type 0) → ((l r : Trie) → KeptStands f w b n p i (node l r) → P (node l r)) → P t
    unfolding kept_size
    by-node P k = go t g.end segment-stands
      where
        go : (t : Trie) → e ≡ i + kept_size t → KeptStands f w b n p i t → P t
        go none q s = absurd (ne (omega arith))
        go (node l r) q s = k l r s

    pub look-place : (1 ≤ i) × (i ≤ n)
    look-place = (g.one, omega (arith, g.end, g.tail, g.last, ne))

    -- its head is x, and p has d bits
    module _ (x d : ℕ) (ex : x ≡ head_at f w b i) (ed : length p ≡ d) where
      pub look-leaf : x % 256 ≡ d → x < 256 → Leaf ≡ kept_view i t
      look-leaf h lt = by-node (λ t. Leaf ≡ kept_view i t) (by_shape (λ t. Leaf ≡ kept_view i t) g.one
          (λ y. sym (view-member i))
          (λ x y z u k. absurd (omega (arith, dist-is k.root, ex)))
          (λ c x y k. absurd (omega (arith, edge-len p g.one c k, ex))))

      pub look-both : x % 256 ≡ d → 256 ≤ x → Inner (i + 1) (i + x / 256) ≡ kept_view i t
      look-both h le = by-node (λ t. Inner (i + 1) (i + x / 256) ≡ kept_view i t) (by_shape (λ t. Inner (i + 1) (i + x / 256) ≡ kept_view i t) g.one
          (λ y. absurd (omega (arith, dist-is y, ex)))
          (λ x y z u k. rw (view-both i x y z u, ← dist-is k.root, ← ex))
          (λ c x y k. absurd (omega (arith, edge-len p g.one c k, ex))))

      pub look-near : x % 256 ≡ d → i + x / 256 ≤ n
      look-near h = by-node (λ t. i + x / 256 ≤ n) (λ l r s. rw ex (head_of f w b n (node l r) p i g.one (some l r) s).near)

      -- the string ends in the middle of the edge
      module _ (off : x % 256 ≡ d → ⊥) where
        edge-room : (length p < len_at f w b i) × (len_at f w b i ≤ width f)
        edge-room = by-node (λ t. (length p < len_at f w b i) × (len_at f w b i ≤ width f)) (by_shape (λ t. (length p < len_at f w b i) × (len_at f w b i ≤ width f)) g.one
            (λ y. absurd (off (rw ex (len_is y ∙ ed))))
            (λ x y z u k. absurd (off (rw ex (len_is k.root ∙ ed))))
            (λ c x y k. (edge-len p g.one c k, head-short f w b n (node x y) (snoc p c) i g.one (some x y) k)))

        module _ (z : Net) (gz : ReadAs f w b i z) where
          pub look-string : IsString z × (d < z.len)
          look-string =
              let k = read-len g.room gz in
              (read-string g.room gz (omega (arith, edge-room)), omega (arith, edge-room))

          module _ (r : Bool) (er : r ≡ get_or (net_bits z) d false) where
            bit_is : r ≡ get_or (string_at f w b i) (length p) false
            unfolding string_at
            bit_is = er ∙ ap (λ q. get_or (net_bits q) d false) gz.is ∙ ap (λ q. get_or (net_bits (net_at f w b i)) q false) (sym ed)

            pub look-edge : Inner i (side r i e) ≡ kept_view i t
            look-edge = go t g.end segment-stands
              where
                one : (c : Bool) (x y : Trie) → e ≡ i + kept_size (fork c (node x y) none) → KeptStands f w b n (snoc p c) i (node x y) → Inner i (side r i e) ≡ kept_view i (fork c (node x y) none)
                one c x y q k =
                    let h : r ≡ c = bit_is ∙ bit-behind p c (string_at f w b i) (edge-head p g.one c k).begins in
                    let m : e ≡ i + kept_size (node x y) = omega (arith, kept_size-fork c (node x y) (some x y)) in
                    rw (view-fork i c x y, h, m)

                go : (t : Trie) → e ≡ i + kept_size t → KeptStands f w b n p i t → Inner i (side r i e) ≡ kept_view i t
                go none q k = absurd (ne (omega (arith, none-size)))
                go (node l r') q k = by_shape (λ t. e ≡ i + kept_size t → Inner i (side r i e) ≡ kept_view i t) g.one
                    (λ y q. absurd (off (rw ex (len_is y ∙ ed))))
                    (λ x y z u k q. absurd (off (rw ex (len_is k.root ∙ ed))))
                    (λ c x y k q. one c x y q k) l r' k q
