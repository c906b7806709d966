-- The decoder and the encodings: `kept_parse` gives a trie exactly where the words hold its encoding. Assumes nothing.
use mathlib.Core.Path.{◌≡◌, refl, sym, ap, ◌∙◌, subst}
use mathlib.Core.Bool.{Bool, true, false, cond, ◌&&◌}
use mathlib.Core.List.{List, [], ◌++◌}
use Prim.Native.Nat.{ℕ, zero, suc, ◌+◌, ◌-◌, ◌≤◌}
use native.Mathlib.Numerals.{sub-one}
use native.Mathlib.Omega.{arith}
use lib.Dec.{leb, eqb}
use lib.ListN.{length, drop, length-append}
use borrow.Author.Tests.{le-leb, eq-eqb, ne_eqb, leb-true, eqb-true}
use Rattle.nets.specs.Bits.{Bits, leads}
use Rattle.nets.specs.Tries.{Trie, none, node, leaf, fork, levels}
use Rattle.nets.specs.Networks.{width}
use Rattle.nets.proofs.Strings.{and_left, and_right, and_both, leads-refl}
use Rattle.nodes.specs.Words.{Has}
use Rattle.nodes.specs.Parse.{Read, bad, ok, bind}
use Rattle.nodes.proofs.Has.{has-front, has-back, has_join, has-at}
use Rattle.nodes.proofs.Tries.{some}
use Rattle.nodes.proofs.Parsed.{never, cond-ok, bind_ok}
use Rattle.trie_paths.specs.Spans.{snoc}
use Rattle.trie_paths.proofs.Paths.{length-snoc}
use Rattle.branch_points.specs.KeptTries.{kept_size}
use Rattle.branch_points.proofs.Members.{leads-snoc}
use Rattle.kept_nodes.specs.Words.{node_words, distance, kept_enc, spot}
use Rattle.kept_nodes.specs.Parse.{KeptRoom, dist_at, string_at, is_node, hung, lift, first, fits, kept_parse, KeptStands}
use Rattle.kept_nodes.proofs.Places.{spot_on, spot-next, spot-within, length-node_words, length-kept_enc}
use Rattle.kept_nodes.proofs.Hung.{leads-drop, drop-snoc, drop_all, hung-some, kept_size-hung, kept_size-fork, levels-hung, levels-fork, kept_enc-hung, kept_enc-fork}
use Rattle.kept_nodes.proofs.NodeWords.{Says, dist-is, string-is, is-node, node-says}

lift-ok : (q : Bits) (x : Read) (u : Trie) → lift q x ≡ ok u → (l : Trie) × (x ≡ ok l) × (hung q l ≡ u)
lift-ok q bad u e = absurd (never u e)
lift-ok q (ok l) u e = (l, refl, cc)

-- the tests at a node
pub record Fits (f : ℕ) (w : List ℕ) (b n : ℕ) (p : Bits) (i : ℕ) : Type 0 where
  pub within : i ≤ n
  pub is : is_node f w b i ≡ true
  pub begins : leads p (string_at f w b i) ≡ true

module _ (f : ℕ) (w : List ℕ) (b n : ℕ) where
  pub fits-are : (p : Bits) (i : ℕ) → fits f w b n p i ≡ true → Fits f w b n p i
  unfolding fits
  fits-are p i e =
      let g = and_right (leb i n) (is_node f w b i && leads p (string_at f w b i)) e in
      record {
        within = leb-true i n (and_left (leb i n) _ e);
        is = and_left (is_node f w b i) (leads p (string_at f w b i)) g;
        begins = and_right (is_node f w b i) (leads p (string_at f w b i)) g;
      }

  are-fits : {p : Bits} {i : ℕ} → Fits f w b n p i → fits f w b n p i ≡ true
  unfolding fits
  are-fits {p} {i} g = and_both (leb i n) _ (le-leb i n g.within) (and_both (is_node f w b i) (leads p (string_at f w b i)) g.is g.begins)

  -- what is read at node i, whatever string it is below
  unfoldable pub own : ℕ → ℕ → Read
  own k i =
      cond (eqb (dist_at f w b i) 0) (ok leaf)
      (bind (kept_parse f w b n k (snoc (string_at f w b i) true) (i + 1))
      (λ r. bind (first (dist_at f w b i) r (kept_parse f w b n k (snoc (string_at f w b i) false) (i + 1 + kept_size r))) (λ l. ok (node l r))))

  pub parse-own : (k : ℕ) (p : Bits) (i : ℕ) → Fits f w b n p i → kept_parse f w b n (suc k) p i ≡ lift (drop (length p) (string_at f w b i)) (own k i)
  unfolding kept_parse own
  parse-own k p i g = rw (are-fits g)

  -- below a shorter string
  parse-up : (k : ℕ) (p : Bits) (c : Bool) (i : ℕ) (t : Trie) → kept_parse f w b n k (snoc p c) i ≡ ok t → kept_parse f w b n k p i ≡ ok (fork c t none)
  unfolding kept_parse own
  parse-up zero p c i t e = absurd (never t e)
  parse-up (suc k) p c i t e =
      let g = cond-ok (fits f w b n (snoc p c) i) _ t e in
      let h = fits-are (snoc p c) i g.0 in
      let x = lift-ok (drop (length (snoc p c)) (string_at f w b i)) (own k i) t g.1 in
      parse-own k p i (record { within = h.within; is = h.is; begins = leads-snoc p c (string_at f w b i) h.begins })
      ∙ rw (drop-snoc p c (string_at f w b i) h.begins, x.1, x.2)

-- The words of a branch point: its own, and those of its children.
pub record Split (f : ℕ) (w : List ℕ) (b n : ℕ) (p : Bits) (i : ℕ) (l r : Trie) : Type 0 where
  pub root : Says f w b i p (1 + kept_size r)
  pub right : KeptStands f w b n (snoc p true) (i + 1) r
  pub left : KeptStands f w b n (snoc p false) (i + 1 + kept_size r) l

module _ {f : ℕ} {w : List ℕ} {b n : ℕ} {p : Bits} {i : ℕ} (pos : 1 ≤ i) where
  -- one child only: the same words, below a longer string
  pub fork-stands : (c : Bool) (t : Trie) → (t ≡ none → ⊥) → KeptStands f w b n p i (fork c t none) → KeptStands f w b n (snoc p c) i t
  fork-stands c t ne s = record {
    deep = omega (arith, s.deep, levels-fork c t, length-snoc p c);
    within = omega (arith, s.within, kept_size-fork c t ne);
    has = rw (kept_enc-fork f p c t ne) at s.has;
  }

  pub leaf-says : KeptStands f w b n p i leaf → Says f w b i p 0
  unfolding kept_enc distance levels
  leaf-says s = record { short = omega (arith, s.deep); has = has-front (node_words f p 0) [] s.has }

  pub branch-split : {x y z u : Trie} → KeptStands f w b n p i (node (node x y) (node z u)) → Split f w b n p i (node x y) (node z u)
  unfolding kept_enc distance kept_size levels
  branch-split {x} {y} {z} {u} s =
      let l = node x y in
      let r = node z u in
      let ws = node_words f p (1 + kept_size r) in
      let h : Has w (spot f b i) (ws ++ (kept_enc f (snoc p true) r ++ kept_enc f (snoc p false) l)) = s.has in
      let k : Has w (spot f b (i + 1)) (kept_enc f (snoc p true) r ++ kept_enc f (snoc p false) l) =
      has-at (rw (length-node_words f p (1 + kept_size r)) (spot-next f b i pos)) (has-back ws _ h) in
      record {
        root = record { short = omega (arith, s.deep); has = has-front ws _ h };
        right = record {
          deep = omega (arith, s.deep, length-snoc p true);
          within = omega (arith, s.within);
          has = has-front (kept_enc f (snoc p true) r) (kept_enc f (snoc p false) l) k;
        };
        left = record {
          deep = omega (arith, s.deep, length-snoc p false);
          within = omega (arith, s.within);
          has = has-at (rw (length-kept_enc f (snoc p true) r) (spot_on f b (i + 1) (kept_size r) (omega arith))) (has-back (kept_enc f (snoc p true) r) (kept_enc f
              (snoc p false) l) k);
        };
      }

module _ (f : ℕ) (w : List ℕ) (b n : ℕ) where
  -- a node whose string is p itself
  parse-root : (k : ℕ) {p : Bits} {i d : ℕ} (t : Trie) → (k ≡ 0 → ⊥) → i ≤ n → Says f w b i p d → own f w b n (k - 1) i ≡ ok t → kept_parse f w b n k p i ≡ ok t
  parse-root zero t nz le s e = absurd (nz refl)
  parse-root (suc k) {p} {i} t nz le s e =
      let g : Fits f w b n p i = record { within = le; is = is-node s; begins = rw (string-is s) (leads-refl p) } in
      parse-own f w b n k p i g ∙ rw (string-is s, drop_all p, ← sub-one (suc k), e)

  own-leaf : (k : ℕ) {p : Bits} {i : ℕ} → Says f w b i p 0 → own f w b n k i ≡ ok leaf
  unfolding own
  own-leaf k s = rw (dist-is s)

  own-branch : (k : ℕ) {p : Bits} {i : ℕ} (l r : Trie) → Says f w b i p (1 + kept_size r) → kept_parse f w b n k (snoc p true) (i + 1) ≡ ok r
      → kept_parse f w b n k (snoc p false) (i + 1 + kept_size r) ≡ ok l → own f w b n k i ≡ ok (node l r)
  unfolding own
  own-branch k l r s x y = rw (dist-is s, string-is s, ne_eqb (1 + kept_size r) 0 (λ e. omega arith), x, eq-eqb (1 + kept_size r) (1 + kept_size r) refl, y)

  -- where the words hold a trie, it is what is read
  pub parse-of : (t : Trie) (k : ℕ) (p : Bits) (i : ℕ) → 1 ≤ i → (t ≡ none → ⊥) → suc (width f) ≤ k + length p → KeptStands f w b n p i t
      → kept_parse f w b n k p i ≡ ok t
  unfolding kept_size levels
  parse-of none k p i pos ne fuel s = absurd (ne refl)
  parse-of (node none none) k p i pos ne fuel s =
      parse-root k leaf (λ z. omega (arith, s.deep)) (omega (arith, s.within)) (leaf-says pos s) (own-leaf (k - 1) (leaf-says pos s))
  parse-of (node none (node x y)) k p i pos ne fuel s =
      parse-up f w b n k p true i (node x y)
      (parse-of (node x y) k (snoc p true) i pos (some x y) (omega (arith, length-snoc p true)) (fork-stands pos true (node x y) (some x y) s))
  parse-of (node (node x y) none) k p i pos ne fuel s =
      parse-up f w b n k p false i (node x y)
      (parse-of (node x y) k (snoc p false) i pos (some x y) (omega (arith, length-snoc p false)) (fork-stands pos false (node x y) (some x y) s))
  parse-of (node (node x y) (node z u)) k p i pos ne fuel s =
      let d = branch-split pos s in
      let nz : k ≡ 0 → ⊥ = λ e. omega (arith, s.deep) in
      parse-root k (node (node x y) (node z u)) nz (omega (arith, s.within)) d.root
      (own-branch (k - 1) (node x y) (node z u) d.root
      (parse-of (node z u) (k - 1) (snoc p true) (i + 1) (omega arith) (some z u) (omega (arith, nz, length-snoc p true)) d.right)
      (parse-of (node x y) (k - 1) (snoc p false) (i + 1 + kept_size (node z u)) (omega arith) (some x y) (omega (arith, nz, length-snoc p false)) d.left))

-- And what is read stands there.
module _ {f : ℕ} {w : List ℕ} {b n : ℕ} (room : KeptRoom f w b n) where
  says_at : (i : ℕ) → 1 ≤ i → i ≤ n → is_node f w b i ≡ true → Says f w b i (string_at f w b i) (dist_at f w b i)
  says_at i pos le e = node-says f w b i e (spot-within i room pos le)

  leaf-stands : (i : ℕ) → 1 ≤ i → i ≤ n → is_node f w b i ≡ true → dist_at f w b i ≡ 0 → KeptStands f w b n (string_at f w b i) i leaf
  unfolding kept_enc distance kept_size levels
  leaf-stands i pos le e z =
      let s = says_at i pos le e in
      let h : Has w (spot f b i) (node_words f (string_at f w b i) 0) = rw z at s.has in
      let g = length-node_words f (string_at f w b i) 0 in
      record {
        deep = omega (arith, s.short);
        within = omega arith;
        has = has_join (node_words f (string_at f w b i) 0) [] h (record { fits = omega (arith, spot-within i room pos le); at = λ k l. absurd (omega arith) });
      }

  branch-stands : (i : ℕ) (l r : Trie) → 1 ≤ i → i ≤ n → is_node f w b i ≡ true → dist_at f w b i ≡ 1 + kept_size r → (l ≡ none → ⊥) → (r ≡ none → ⊥)
      → KeptStands f w b n (snoc (string_at f w b i) true) (i + 1) r → KeptStands f w b n (snoc (string_at f w b i) false) (i + 1 + kept_size r) l
      → KeptStands f w b n (string_at f w b i) i (node l r)
  unfolding kept_enc distance kept_size levels
  branch-stands i none r pos le e z nl nr p q = absurd (nl refl)
  branch-stands i (node x y) none pos le e z nl nr p q = absurd (nr refl)
  branch-stands i (node x y) (node g u) pos le e z nl nr p q =
      let l = node x y in
      let r = node g u in
      let s = string_at f w b i in
      let ws = node_words f s (1 + kept_size r) in
      let h : Has w (spot f b i) ws = rw z at (says_at i pos le e).has in
      let a : spot f b (i + 1) ≡ spot f b i + length ws = rw (length-node_words f s (1 + kept_size r)) (sym (spot-next f b i pos)) in
      let c : spot f b (i + 1 + kept_size r) ≡ spot f b i + length ws + length (kept_enc f (snoc s true) r) =
      rw (← a, length-kept_enc f (snoc s true) r) (sym (spot_on f b (i + 1) (kept_size r) (omega arith))) in
      record {
        deep = omega (arith, p.deep, q.deep, length-snoc s false, length-snoc s true);
        within = omega (arith, q.within);
        has = has_join ws _ h (has_join (kept_enc f (snoc s true) r) (kept_enc f (snoc s false) l) (has-at a p.has) (has-at c q.has));
      }

  hung-stands : (p s : Bits) (i : ℕ) (t : Trie) → leads p s ≡ true → (t ≡ none → ⊥) → KeptStands f w b n s i t → KeptStands f w b n p i (hung (drop (length p) s) t)
  hung-stands p s i t e ne g =
      let q = drop (length p) s in
      let j = leads-drop p s e in
      record {
        deep = omega (arith, g.deep, levels-hung q t, ap length j, length-append p q);
        within = omega (arith, g.within, kept_size-hung q t ne);
        has = rw (kept_enc-hung f p q t ne, j) g.has;
      }

  Good : Bits → ℕ → Trie → Type 0
  Good p i t = KeptStands f w b n p i t × (t ≡ none → ⊥)

  own-stands : (k i : ℕ) (t : Trie) → 1 ≤ i → i ≤ n → is_node f w b i ≡ true → ((p : Bits) (j : ℕ) (u : Trie) → 1 ≤ j → kept_parse f w b n k p j ≡ ok u → Good p j u)
      → own f w b n k i ≡ ok t → Good (string_at f w b i) i t
  unfolding own Good
  own-stands k i t pos le e ih h = go (eqb (dist_at f w b i) 0) refl h
    where
      rest : Trie → Read
      rest r = bind (first (dist_at f w b i) r (kept_parse f w b n k (snoc (string_at f w b i) false) (i + 1 + kept_size r))) (λ l. ok (node l r))

      go : (c : Bool) → eqb (dist_at f w b i) 0 ≡ c → cond c (ok leaf) (bind (kept_parse f w b n k (snoc (string_at f w b i) true) (i + 1)) rest) ≡ ok t
          → Good (string_at f w b i) i t
      go true z g = let q : leaf ≡ t = cc g in subst (Good (string_at f w b i) i) q (leaf-stands i pos le e (eqb-true (dist_at f w b i) 0 z), some none none)
      go false z g =
          let x = bind_ok _ rest t g in
          let r = x.0 in
          let y = bind_ok _ _ t x.2 in
          let l = y.0 in
          let m = cond-ok (eqb (dist_at f w b i) (1 + kept_size r)) _ l y.1 in
          let a = ih (snoc (string_at f w b i) true) (i + 1) r (omega arith) x.1 in
          let c = ih (snoc (string_at f w b i) false) (i + 1 + kept_size r) l (omega arith) m.1 in
          let q : node l r ≡ t = cc y.2 in
          subst (Good (string_at f w b i) i) q (
            branch-stands i l r pos le e (eqb-true (dist_at f w b i) (1 + kept_size r) m.0) c.1 a.1 a.0 c.0,
            some l r,
          )

  pub stands : (k : ℕ) (p : Bits) (i : ℕ) (t : Trie) → 1 ≤ i → kept_parse f w b n k p i ≡ ok t → KeptStands f w b n p i t × (t ≡ none → ⊥)
  unfolding kept_parse own Good
  stands zero p i t pos e = absurd (never t e)
  stands (suc k) p i t pos e =
      let g = cond-ok (fits f w b n p i) _ t e in
      let h = fits-are f w b n p i g.0 in
      let x = lift-ok (drop (length p) (string_at f w b i)) (own f w b n k i) t g.1 in
      let m = own-stands k i x.0 pos h.within h.is (stands k) x.1 in
      subst (Good p i) x.2 (hung-stands p (string_at f w b i) i x.0 h.begins m.1 m.0, hung-some (drop (length p) (string_at f w b i)) x.0 m.1)
