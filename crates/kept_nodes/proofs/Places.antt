-- Where the words of a node stand, and how many words a trie has: the stride of the family is a factor of both. Assumes nothing.
use mathlib.Core.Path.{◌≡◌, refl, sym, ap, ◌∙◌}
use mathlib.Core.Bool.{Bool, true, false, cond}
use mathlib.Core.List.{List, [], ◌∷◌, ◌++◌, append-nil}
use Prim.Native.Nat.{ℕ, suc, ◌+◌, ◌-◌, ◌*◌, ◌≤◌, ◌<◌}
use native.Mathlib.Nat.{mul-add, mul-le-mul_left}
use native.Mathlib.Omega.{arith}
use lib.Dec.{eqb}
use lib.ListN.{length, length-append}
use borrow.Author.Tests.{eq-eqb, ne_eqb}
use Rattle.nets.specs.Bits.{Bits}
use Rattle.nets.specs.Tries.{Trie, none, node, leaf}
use Rattle.nets.specs.Networks.{net_from}
use Rattle.nodes.specs.Words.{put}
use Rattle.nodes.proofs.Put.{length-put}
use Rattle.trie_paths.specs.Spans.{snoc}
use Rattle.branch_points.specs.KeptTries.{kept, kept_size}
use Rattle.kept_nodes.specs.Words.{stride, four_words, address_words, node_words, distance, own_words, kept_enc, spot}
use Rattle.kept_nodes.specs.Parse.{KeptRoom}

-- two words in family 4, five in the other
pub stride-4 : (f : ℕ) → f ≡ 4 → stride f ≡ 2
unfolding stride
stride-4 f e = rw (eq-eqb f 4 e)

pub stride-6 : (f : ℕ) → (f ≡ 4 → ⊥) → stride f ≡ 5
unfolding stride
stride-6 f e = rw (ne_eqb f 4 e)

pub spot-4 : (f b i : ℕ) → f ≡ 4 → b + 2 * (i - 1) ≡ spot f b i
unfolding spot
spot-4 f b i e = rw (stride-4 f e)

pub spot-6 : (f b i : ℕ) → (f ≡ 4 → ⊥) → b + 5 * (i - 1) ≡ spot f b i
unfolding spot
spot-6 f b i e = rw (stride-6 f e)

pub spot-first : (f b : ℕ) → spot f b 1 ≡ b
unfolding spot
spot-first f b = omega arith

-- m nodes further on
pub spot_on : (f b i m : ℕ) → 1 ≤ i → spot f b i + stride f * m ≡ spot f b (i + m)
unfolding spot
spot_on f b i m pos =
    let e : i + m - 1 ≡ (i - 1) + m = omega arith in
    rw (e, mul-add (stride f) (i - 1) m) (omega arith)

pub spot-next : (f b i : ℕ) → 1 ≤ i → spot f b i + stride f ≡ spot f b (i + 1)
spot-next f b i pos = let e : stride f * 1 ≡ stride f = omega arith in rw e at (spot_on f b i 1 pos)

pub spot-within : {f : ℕ} {w : List ℕ} {b n : ℕ} (i : ℕ) → KeptRoom f w b n → 1 ≤ i → i ≤ n → spot f b i + stride f ≤ length w
unfolding spot
spot-within {f} {w} {b} {n} i room pos le =
    let e : (i - 1) + 1 ≡ i = omega arith in
    let h : stride f * (i - 1) + stride f * 1 ≡ stride f * i = sym (mul-add (stride f) (i - 1) 1) ∙ ap (λ k. stride f * k) e in
    let g : stride f * i ≤ stride f * n = mul-le-mul_left (stride f) le in
    omega (arith, room.long)

-- a node stands before all later ones
pub spot-le : (f b i j : ℕ) → i ≤ j → spot f b i ≤ spot f b j
unfolding spot
spot-le f b i j le = let h : i - 1 ≤ j - 1 = omega arith in omega (arith, mul-le-mul_left (stride f) h)

pub spot-end : (f b n e : ℕ) → e ≤ suc n → spot f b e ≤ b + stride f * n
unfolding spot
spot-end f b n e le = let q : e - 1 ≤ n = omega arith in omega (arith, mul-le-mul_left (stride f) q)

pub spot-before : (f b i e : ℕ) → 1 ≤ i → i < e → spot f b i + stride f ≤ spot f b e
spot-before f b i e pos lt = rw (spot-next f b i pos) (spot-le f b (i + 1) e (omega arith))

-- what is written leaves the room
pub room-put : {f : ℕ} {w : List ℕ} {b n : ℕ} (q : ℕ) (ys : List ℕ) → KeptRoom f w b n → KeptRoom f (put w q ys) b n
room-put {f} {w} q ys r = record { family = r.family; low = r.low; few = r.few; long = rw (length-put w q ys) r.long }

-- as many words as strides
pub length-node_words : (f : ℕ) (s : Bits) (d : ℕ) → length (node_words f s d) ≡ stride f
unfolding node_words address_words stride net_from
length-node_words f s d = go (eqb f 4)
  where
    go : (x : Bool) → suc (length (cond x ((net_from f s).lo ∷ []) (four_words (net_from f s).hi (net_from f s).lo))) ≡ cond x 2 5
    go true = refl
    go false = refl

pub length-own : (k : Bool) (f : ℕ) (s : Bits) (d : ℕ) → length (own_words k f s d) ≡ stride f * cond k 1 0
length-own true f s d = length-node_words f s d ∙ omega arith
length-own false f s d = omega arith

pub length-kept_enc : (f : ℕ) (p : Bits) (t : Trie) → length (kept_enc f p t) ≡ stride f * kept_size t
unfolding kept_enc kept_size
length-kept_enc f p none = omega arith
length-kept_enc f p (node l r) =
    let x : ℕ = cond (kept l r) 1 0 in
    let a = length-own (kept l r) f p (distance l r) in
    let e = length-append (own_words (kept l r) f p (distance l r)) (kept_enc f (snoc p true) r ++ kept_enc f (snoc p false) l) in
    let g = length-append (kept_enc f (snoc p true) r) (kept_enc f (snoc p false) l) in
    rw (mul-add (stride f) (x + kept_size l) (kept_size r), mul-add (stride f) x (kept_size l))
    (omega (arith, length-kept_enc f (snoc p false) l, length-kept_enc f (snoc p true) r))

-- a leaf, and nothing
pub kept_enc-leaf : (f : ℕ) (p : Bits) → kept_enc f p leaf ≡ node_words f p 0
unfolding kept_enc distance
kept_enc-leaf f p = append-nil (node_words f p 0)

pub kept_enc-none : (f : ℕ) (p : Bits) → kept_enc f p none ≡ []
unfolding kept_enc
kept_enc-none f p = refl
