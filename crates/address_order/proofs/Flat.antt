-- The members of a trie in address order: they are those of its list, they rise, and those of k bits are its level k. Assumes nothing.
use mathlib.Core.Bool.{Bool, true, false, cond, or-false, false≢true, beq as same}
use mathlib.Core.List.{List, [], ◌∷◌, ◌++◌, map}
use mathlib.Core.Path.{◌≡◌, refl, ap, sym, ◌∙◌}
use Prim.Native.Nat.{ℕ, zero, suc}
use lib.Dec.{eqb, eqb-zero-suc, eqb-suc-zero, eqb-suc-suc}
use lib.ListN.{length}
use Rattle.nets.specs.Bits.{Bits, equal}
use Rattle.nets.specs.Tries.{Trie, none, node, bare, side, member_t, level}
use Rattle.nets.specs.Lists.{member, keep}
use Rattle.nets.proofs.Strings.{and_left, same-is}
use Rattle.nets.proofs.Members.{any_of-append, member-map, member-map-end}
use Rattle.nets.proofs.Levels.{node_at-none}
use Rattle.nets.proofs.Listing.{bare-none, side-bare}
use Rattle.address_order.specs.Streams.{flat, rising, of_length}
use Rattle.address_order.proofs.Rising.{Heads, Rise, rise-map, rise-append, rise-rising}

-- the members of two halves, each with its bit in front
abbrev pub halves : List Bits → List Bits → List Bits
halves l r = map (λ p. false ∷ p) l ++ map (λ p. true ∷ p) r

-- The members are those of the trie.
member-halves : (c : Bool) (q : Bits) (l r : List Bits) → member (c ∷ q) (halves l r) ≡ member q (side c l r)
member-halves false q l r = any_of-append (equal (false ∷ q)) (map (λ p. false ∷ p) l) (map (λ p. true ∷ p) r) ∙ simp (member-map, or-false)
member-halves true q l r = any_of-append (equal (true ∷ q)) (map (λ p. false ∷ p) l) (map (λ p. true ∷ p) r) ∙ simp member-map

halves-end : (l r : List Bits) → member [] (halves l r) ≡ false
halves-end l r = any_of-append (equal []) (map (λ p. false ∷ p) l) (map (λ p. true ∷ p) r) ∙ simp member-map-end

pub member-flat : (q : Bits) (t : Trie) → member q (flat t) ≡ member_t q t
unfolding flat
member-flat [] none = refl
member-flat [] (node l r) = go (bare l r)
  where
    go : (x : Bool) → member [] (cond x ([] ∷ []) (halves (flat l) (flat r))) ≡ x
    go true = refl
    go false = halves-end (flat l) (flat r)
member-flat (c ∷ q) none = refl
member-flat (c ∷ q) (node l r) = go (bare l r) refl (member-flat q l) (member-flat q r)
  where
    sides : (d : Bool) → member q (flat l) ≡ member_t q l → member q (flat r) ≡ member_t q r → member q (side d (flat l) (flat r)) ≡ member_t q (side d l r)
    sides false i j = i
    sides true i j = j

    go : (x : Bool) → bare l r ≡ x → member q (flat l) ≡ member_t q l → member q (flat r) ≡ member_t q r → member (c ∷ q) (cond x ([] ∷ []) (halves (flat l) (flat r))) ≡ member_t q (side c l r)
    go true e i j = rw (side-bare c l r e) (sym (node_at-none bare q))
    go false e i j = member-halves c q (flat l) (flat r) ∙ sides c i j

-- They rise.
heads-halves : (l r : List Bits) (p : Bits) → member p (map (λ q. false ∷ q) l) ≡ true → Heads p (map (λ q. true ∷ q) r)
heads-halves l r [] k q j = absurd (false≢true (sym (member-map-end false l) ∙ k))
heads-halves l r (b ∷ p) k [] j = absurd (false≢true (sym (member-map-end true r) ∙ j))
heads-halves l r (b ∷ p) k (c ∷ q) j =
    let x = same-is b false (and_left (same b false) (member p l) (sym (member-map false b p l) ∙ k)) in
    let y = same-is c true (and_left (same c true) (member q r) (sym (member-map true c q r) ∙ j)) in
    rw (x, y)

pub rise-flat : (t : Trie) → Rise (flat t)
unfolding flat
rise-flat none = tt
rise-flat (node l r) = go (bare l r) (rise-flat l) (rise-flat r)
  where
    go : (x : Bool) → Rise (flat l) → Rise (flat r) → Rise (cond x ([] ∷ []) (halves (flat l) (flat r)))
    go true i j = (λ q k. absurd (false≢true k), tt)
    go false i j = rise-append (map (λ p. false ∷ p) (flat l)) (map (λ p. true ∷ p) (flat r)) (rise-map false (flat l) i) (rise-map true (flat r) j) (heads-halves (flat l) (flat r))

pub rising-flat : (t : Trie) → rising (flat t) ≡ true
rising-flat t = rise-rising (flat t) (rise-flat t)

-- Those of k bits are the level k.
pub keep_append : (f : Bits → Bool) (l m : List Bits) → keep f (l ++ m) ≡ keep f l ++ keep f m
keep_append f [] m = refl
keep_append f (p ∷ l) m = go (f p) (keep_append f l m)
  where
    go : (x : Bool) → keep f (l ++ m) ≡ keep f l ++ keep f m → cond x (p ∷ keep f (l ++ m)) (keep f (l ++ m)) ≡ cond x (p ∷ keep f l) (keep f l) ++ keep f m
    go true ih = ap (λ z. p ∷ z) ih
    go false ih = ih

of_length-zero : (b : Bool) (l : List Bits) → of_length zero (map (λ p. b ∷ p) l) ≡ []
of_length-zero b [] = refl
of_length-zero b (p ∷ l) = rw (eqb-suc-zero (length p)) (of_length-zero b l)

of_length-map : (b : Bool) (k : ℕ) (l : List Bits) → of_length (suc k) (map (λ p. b ∷ p) l) ≡ map (λ p. b ∷ p) (of_length k l)
of_length-map b k [] = refl
of_length-map b k (p ∷ l) = rw (eqb-suc-suc (length p) k) (go (eqb (length p) k) (of_length-map b k l))
  where
    go : (x : Bool) → of_length (suc k) (map (λ p. b ∷ p) l) ≡ map (λ p. b ∷ p) (of_length k l) →
        cond x ((b ∷ p) ∷ of_length (suc k) (map (λ p. b ∷ p) l)) (of_length (suc k) (map (λ p. b ∷ p) l)) ≡ map (λ p. b ∷ p) (cond x (p ∷ of_length k l) (of_length k l))
    go true ih = ap (λ z. (b ∷ p) ∷ z) ih
    go false ih = ih

level-none : (k : ℕ) → level bare k none ≡ []
level-none zero = refl
level-none (suc k) = refl

pub of_length-flat : (k : ℕ) (t : Trie) → of_length k (flat t) ≡ level bare k t
unfolding flat
of_length-flat zero none = refl
of_length-flat zero (node l r) = go (bare l r)
  where
    go : (x : Bool) → of_length zero (cond x ([] ∷ []) (halves (flat l) (flat r))) ≡ cond x ([] ∷ []) []
    go true = refl
    go false = keep_append (λ p. eqb (length p) zero) (map (λ p. false ∷ p) (flat l)) (map (λ p. true ∷ p) (flat r)) ∙ rw (of_length-zero false (flat l), of_length-zero true (flat r))
of_length-flat (suc k) none = refl
of_length-flat (suc k) (node l r) = go (bare l r) refl (of_length-flat k l) (of_length-flat k r)
  where
    go : (x : Bool) → bare l r ≡ x → of_length k (flat l) ≡ level bare k l → of_length k (flat r) ≡ level bare k r →
        of_length (suc k) (cond x ([] ∷ []) (halves (flat l) (flat r))) ≡ halves (level bare k l) (level bare k r)
    go true e i j = let h = bare-none l r e in rw (eqb-zero-suc k, h.0, h.1, level-none k)
    go false e i j =
        keep_append (λ p. eqb (length p) (suc k)) (map (λ p. false ∷ p) (flat l)) (map (λ p. true ∷ p) (flat r))
        ∙ rw (of_length-map false k (flat l), of_length-map true k (flat r), i, j)
