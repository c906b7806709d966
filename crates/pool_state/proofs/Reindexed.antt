-- The index of a set after a change: what its writing asks, and what it leaves, by its tag; and that putting the roots right before it leaves what it reads. Assumes nothing.
use mathlib.Core.Path.{◌≡◌, refl, sym, ap, ◌∙◌, subst}
use mathlib.Core.Bool.{cond}
use mathlib.Core.List.{List, []}
use Prim.Native.Nat.{ℕ, suc, ◌+◌, ◌-◌, ◌≤◌, ◌<◌, ◌*◌}
use native.Mathlib.Decide.{ℕ_discrete}
use native.Mathlib.Omega.{arith}
use lib.Dec.{eqb}
use lib.ListN.{length, get_or}
use borrow.Author.Tests.{eq-eqb, ne_eqb}
use Rattle.nets.specs.Bits.{Bits}
use Rattle.nets.specs.Tries.{Trie, none, size, levels, trie_of}
use Rattle.nodes.specs.Words.{put, Has, place, enc}
use Rattle.nodes.specs.Parse.{Room}
use Rattle.nodes.proofs.Segments.{none_is}
use Rattle.nodes.proofs.Tries.{length-enc}
use Rattle.trie_index.specs.Index.{index_t, Rooted}
use Rattle.pool_state.specs.Kept.{enc_l, index_l, form_of, stride_l, spot_l}
use Rattle.pool_state.specs.Decode.{record_at, base, least_words}
use Rattle.pool_state.specs.Rules.{tag_in}
use Rattle.pool_state.specs.Steps.{own_root, relinked, index_in, reindexed, Indexable, Settle, Reindexed, Settled, stride_in}
use Rattle.pool_state.proofs.Indexed.{has-keep}
use Rattle.pool_state.proofs.Kept.{enc_l-trie, spot_l-first, spot_l-from, stride_l-one}
use Rattle.pool_state.proofs.Relinked.{length-relinked, get_or-relinked}
use Rattle.nodes.proofs.Has.{has-at}

size_none : size none ≡ 0
unfolding size
size_none = refl

-- a trie of so many nodes that stands at node i, by its root
trie-rooted : {w : List ℕ} {b n i new : ℕ} (t : Trie) → 1 ≤ i → i + new ≤ suc n → size t ≡ new → Has w (place b i) (enc t) → Rooted w b n (own_root i new) t
trie-rooted {w} {b} {n} {i} {new} t one le z h = go (ℕ_discrete new 0)
  where
    go : Dec (new ≡ 0) → Rooted w b n (own_root i new) t
    go (yes e) = rw e (record { empty = λ q. none_is t (z ∙ e); some = λ ne. absurd (ne refl) })
    go (no ne) =
        rw (ne_eqb new 0 ne)
        (record {
          empty = λ q. absurd (omega arith);
          some = λ q. (levels t, record { deep = omega arith; within = omega arith; has = h }, λ o. ne (sym z ∙ ap size o ∙ size_none));
        })

module _ {w : List ℕ} {k i new : ℕ} (h : Indexable w k i new) where
  pub index-room : Room w (base (get_or w 2 0)) (get_or w 3 0)
  index-room = record { low = omega (arith, h.sets); few = h.nodes; long = omega (arith, h.long) }

  pub index-plain : tag_in w k ≡ 0 → Reindexed w k i new w
  unfolding reindexed
  index-plain e l s n = rw (eq-eqb (tag_in w k) 0 e)

  module _ (some : tag_in w k ≡ 0 → ⊥) where
    pub index-rooted : (t : Trie) × Rooted w (base (get_or w 2 0)) (get_or w 3 0) (own_root i new) t
    index-rooted = let (t, s, z) = h.stands some in (t, trie-rooted t h.one h.within z s)

    pub index-fits : index_in w k + 256 ≤ length w
    index-fits = omega (arith, h.tagged, h.long)

    pub index-written : {v : List ℕ} {r b p : ℕ} → r ≡ own_root i new → b ≡ base (get_or w 2 0) → p ≡ index_in w k → ((t : Trie) → Rooted w b (get_or w 3 0) r t → v ≡ put w p (index_t t)) → Reindexed w k i new v
    unfolding reindexed index_l stride_in
    index-written er eb ep f l s n =
        let F = h.form some in
        let v = get_or w 1 0 in
        let a : Has w (place (base (get_or w 2 0)) i) (enc (trie_of l)) =
        rw (enc_l-trie v l) at (has-at (spot_l-first v (base (get_or w 2 0)) i) (subst (λ G. Has w (spot_l G v (base (get_or w 2 0)) i) (enc_l G v l)) F s)) in
        let z : size (trie_of l) ≡ new =
        sym (length-enc (trie_of l)) ∙ ap length (sym (enc_l-trie v l)) ∙ subst (λ G. length (enc_l G v l) ≡ stride_l G v * new) F n ∙ stride_l-one v new in
        let g = trie-rooted (trie_of l) h.one h.within z a in
        rw (ne_eqb (tag_in w k) 0 some) (f (trie_of l) (rw (er, eb) g) ∙ ap (λ q. put w q (index_t (trie_of l))) ep)

-- The roots put right: no other word has changed.
module _ {w : List ℕ} {k i old new : ℕ} (h : Settle w k i old new) {y : List ℕ} (e : y ≡ relinked w k i old new) where
  beside : (p : ℕ) → ((t : ℕ) → t < get_or w 2 0 → p ≡ record_at t → ⊥) → get_or y p 0 ≡ get_or w p 0
  beside p f = rw e (get_or-relinked w k i old new h.index.known p f)

  same_length : length y ≡ length w
  same_length = rw e (length-relinked w k i old new)

  two : get_or y 2 0 ≡ get_or w 2 0
  two = beside 2 (λ t lt q. omega arith)

  one : get_or y 1 0 ≡ get_or w 1 0
  one = beside 1 (λ t lt q. omega arith)

  five : get_or y 5 0 ≡ get_or w 5 0
  five = beside 5 (λ t lt q. omega arith)

  -- what stands behind the records
  still : (p : ℕ) (xs : List ℕ) → base (get_or w 2 0) ≤ p → Has w p xs → Has y p xs
  still p xs le g = has-keep same_length (λ j lt. beside (p + j) (λ t l q. omega arith)) g

  pub relinked-index : Indexable y k i new
  relinked-index =
      let g = h.index in
      let a = beside 3 (λ t lt q. omega arith) in
      let b = beside 4 (λ t lt q. omega arith) in
      let c = beside (record_at k + 4) (λ t lt q. omega arith) in
      record {
        known = rw two g.known;
        sets = rw two g.sets;
        nodes = rw a g.nodes;
        tagged = rw (b, c) g.tagged;
        long = rw (two, a, b, same_length) g.long;
        one = g.one;
        within = rw a g.within;
        form = λ ne. ap form_of five ∙ g.form (λ q. ne (c ∙ q));
        stands = λ ne. let (t, s, z) = g.stands (λ q. ne (c ∙ q)) in (t, rw two (still _ (enc t) (omega arith) s), z);
      }

  pub relinked-settled : {v : List ℕ} → Reindexed y k i new v → Settled w k i old new v
  unfolding stride_in
  relinked-settled r = record {
    words = λ l s n. r l (rw (five, one, two) (still _ _ (spot_l-from _ (get_or w 1 0) _ i) s)) (rw (five, one) n) ∙ ap (λ u. reindexed u k l) e;
  }
