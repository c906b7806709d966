-- One step, by the words: when an address goes on from the open range, and what taking a network writes. Assumes nothing.
use mathlib.Core.Bool.{Bool, true, false, not, ◌&&◌, false≢true, true≢false}
use mathlib.Core.List.{List, [], ◌∷◌}
use mathlib.Core.Path.{◌≡◌, refl, ap, sym, ◌∙◌}
use Prim.Native.Nat.{ℕ, ◌+◌, ◌-◌, ◌*◌, ◌/◌, ◌%◌, ◌^◌, ◌≤◌, ◌<◌}
use native.Mathlib.Omega.{arith}
use lib.Dec.{eqb}
use lib.ListN.{length, set}
use lib.Pow.{split}
use borrow.Author.Tests.{eq-eqb, ne_eqb}
use Rattle.nets.specs.Bits.{Bits}
use Rattle.nets.specs.Networks.{width, value, net_from}
use Rattle.nets.specs.declared.Net.{Net}
use Rattle.ranges.specs.Ranges.{block_of}
use Rattle.ranges.specs.Addresses.{address_of, words_of, after_of, range_row}
use Rattle.ranges.specs.declared.addresses.Address.{Address}
use Rattle.nodes.specs.Words.{put}
use Rattle.nodes.proofs.Put.{set-put, put-behind-at}
use Rattle.trie_paths.proofs.Paths.{path-is}
use Rattle.trie_ranges.specs.declared.Open.{Open}
use Rattle.trie_ranges.specs.Opening.{goes_on, Takes}

-- Whether an address goes on.
module _ (q : Open) (h l : ℕ) (low : l < 2 ^ 64) (own : q.lo < 2 ^ 64) where
  goes_other : (value q.hi q.lo ≡ value h l → ⊥) → false ≡ goes_on q (value h l)
  unfolding goes_on
  goes_other n = go (not (eqb (value q.hi q.lo) 0))
    where
      go : (x : Bool) → false ≡ (x && eqb (value q.hi q.lo) (value h l))
      go true = sym (ne_eqb (value q.hi q.lo) (value h l) n)
      go false = refl

  pub goes-high : (q.hi ≡ h → ⊥) → false ≡ goes_on q (value h l)
  goes-high n = goes_other (λ e. n (omega arith))

  pub goes-low : (q.lo ≡ l → ⊥) → false ≡ goes_on q (value h l)
  goes-low n = goes_other (λ e. n (omega arith))

  module _ (e : q.hi ≡ h) (g : q.lo ≡ l) where
    goes-test : goes_on q (value h l) ≡ not (eqb (value h l) 0)
    unfolding goes_on
    goes-test = rw (e, g, eq-eqb (value h l) (value h l) refl) (go (not (eqb (value h l) 0)))
      where
        go : (x : Bool) → (x && true) ≡ x
        go true = refl
        go false = refl

    pub goes_some : (h ≡ 0 → ⊥) → true ≡ goes_on q (value h l)
    goes_some n = sym (goes-test ∙ rw (ne_eqb (value h l) 0 (λ z. n (omega arith))))

    pub goes-word : h ≡ 0 → not (eqb l 0) ≡ goes_on q (value h l)
    goes-word z = let v : value h l ≡ l = omega arith in ap (λ z. not (eqb z 0)) (sym v) ∙ sym goes-test

-- Two stores are one write.
pub set-address : (v : List ℕ) (k h l : ℕ) → set (set v k h) (k + 1) l ≡ put v k (h ∷ l ∷ [])
set-address v k h l = rw (set-put (set v k h) (k + 1) l, set-put v k h) (put-behind-at v k (k + 1) (h ∷ []) (l ∷ []) refl)

-- What taking a network leaves.
module _ (f : ℕ) (p : Bits) (q : Open) (x : Net) (last next : Address) (v : List ℕ) (is : x ≡ net_from f p) (ends : last ≡ words_of (block_of (width f) p).last)
    (goes : next ≡ words_of (after_of x.family (address_of last))) where
  abbrev end : ℕ
  end = (block_of (width f) p).last

  abbrev begin : ℕ
  begin = (block_of (width f) p).first

  words-begin : (x.hi ≡ begin / 2 ^ 64) × (x.lo ≡ begin % 2 ^ 64)
  unfolding net_from block_of
  words-begin = (ap (λ (n : Net). n.hi) is, ap (λ (n : Net). n.lo) is)

  words-end : (last.hi ≡ end / 2 ^ 64) × (last.lo ≡ end % 2 ^ 64)
  words-end = (ap (λ (a : Address). a.hi) ends, ap (λ (a : Address). a.lo) ends)

  value-begin : value x.hi x.lo ≡ begin
  value-begin = rw (words-begin.0, words-begin.1) (split begin 64)

  value-next : value next.hi next.lo ≡ after_of f end
  value-next =
      let e : next ≡ words_of (after_of f end) = goes ∙ rw ((path-is x f p is).1, ends, split end 64) in
      ap address_of e ∙ split (after_of f end) 64

  pub take-joins : (u : List ℕ) (m : ℕ) → m ≡ 2 * q.n - 1 → 1 ≤ q.n → true ≡ goes_on q (value x.hi x.lo) → length u ≡ length v
      → (2 * m + 2 ≤ length v → u ≡ put v (2 * m) (last.hi ∷ last.lo ∷ [])) → Takes f p q v (record { n = q.n; hi = next.hi; lo = next.lo }) u
  take-joins u m i some on k h =
      let e : goes_on q begin ≡ true = rw value-begin at (sym on) in
      let n : 2 * m ≡ 4 * q.n - 2 = omega arith in
      record {
        next = value-next;
        joins = λ _. (refl, λ j. rw (words-end.0, words-end.1, n) at (h (omega arith)));
        opens = λ z. absurd (true≢false (sym e ∙ z));
        kept = k;
      }

  pub take-opens : (v₁ u : List ℕ) → false ≡ goes_on q (value x.hi x.lo) → length v₁ ≡ length v → length u ≡ length v₁
      → (2 * (2 * q.n) + 2 ≤ length v → v₁ ≡ put v (2 * (2 * q.n)) (x.hi ∷ x.lo ∷ []))
      → (2 * (2 * q.n + 1) + 2 ≤ length v₁ → u ≡ put v₁ (2 * (2 * q.n + 1)) (last.hi ∷ last.lo ∷ []))
      → Takes f p q v (record { n = q.n + 1; hi = next.hi; lo = next.lo }) u
  take-opens v₁ u on k l h g =
      let e : goes_on q begin ≡ false = rw value-begin at (sym on) in
      let n : 2 * (2 * q.n) ≡ 4 * q.n = omega arith in
      let row : put v (2 * (2 * q.n)) (x.hi ∷ x.lo ∷ last.hi ∷ last.lo ∷ []) ≡ put v (4 * q.n) (range_row (block_of (width f) p)) =
      rw (words-begin.0, words-begin.1, words-end.0, words-end.1, n) in
      record {
        next = value-next;
        joins = λ z. absurd (false≢true (sym e ∙ z));
        opens = λ _. (
          refl,
          λ j.
              g (omega arith) ∙ ap (λ z. put z (2 * (2 * q.n + 1)) (last.hi ∷ last.lo ∷ [])) (h (omega arith))
              ∙ put-behind-at v (2 * (2 * q.n)) (2 * (2 * q.n + 1)) (x.hi ∷ x.lo ∷ []) (last.hi ∷ last.lo ∷ []) (omega arith) ∙ row,
        );
        kept = l ∙ k;
      }
