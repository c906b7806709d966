-- Counting the networks below a path as they are passed: those of the trie come first, then those outside the path. Assumes nothing.
use mathlib.Core.Bool.{true, false}
use mathlib.Core.List.{List, [], ◌∷◌, ◌++◌, map, map-append, append-nil, append_assoc}
use mathlib.Core.Path.{◌≡◌, refl, sym, ap, ◌∙◌}
use Prim.Native.Nat.{ℕ, ◌+◌, ◌*◌, ◌≤◌, ◌<◌}
use native.Mathlib.Omega.{arith}
use lib.ListN.{length, length-append, length-map}
use Rattle.nets.specs.Bits.{Bits, leads}
use Rattle.nets.specs.Tries.{Trie, none, node, is_none, bare}
use Rattle.nets.specs.Networks.{net_from}
use Rattle.nets.proofs.Strings.{leads-append}
use Rattle.address_order.specs.Streams.{flat}
use Rattle.branch_points.specs.KeptTries.{kept_size}
use Rattle.branch_points.proofs.Sizes.{count, kept_size-leaves}
use Rattle.setfile_order.specs.Flow.{head_as, Flow}
use Rattle.setfile_order.specs.declared.Head.{Head}
use Rattle.setfile_below.specs.Stream.{below, last_of, outside, Comes}
use Rattle.setfile_below.proofs.Halves.{first_below, leads-last, shared-both}
use Rattle.kept_build.specs.Building.{Runs, few}
use Rattle.kept_build.proofs.Climbing.{not_none}
use Rattle.kept_build.proofs.Growing.{head-whole}

-- As many networks as leaves.
both-flat : (l r : Trie) → length (flat l) ≡ count bare l → length (flat r) ≡ count bare r
    → length (map (λ p. false ∷ p) (flat l) ++ map (λ p. true ∷ p) (flat r)) ≡ count bare l + count bare r
both-flat l r e i =
    length-append (map (λ p. false ∷ p) (flat l)) (map (λ p. true ∷ p) (flat r)) ∙ simp length-map (rw (e, i))

length-flat : (t : Trie) → length (flat t) ≡ count bare t
unfolding flat count
length-flat none = refl
length-flat (node none none) = refl
length-flat (node none (node x y)) = both-flat none (node x y) (length-flat none) (length-flat (node x y)) ∙ omega arith
length-flat (node (node x y) r) = both-flat (node x y) r (length-flat (node x y)) (length-flat r) ∙ omega arith

nodes-flat : (t : Trie) → is_none t ≡ false → kept_size t + 1 ≡ 2 * length (flat t)
nodes-flat t e = rw (length-flat t) (kept_size-leaves t (not_none t e))

last_of_snoc : (q : Bits) (l : List Bits) (m : Bits) → last_of q (l ++ (m ∷ [])) ≡ m
unfolding last_of
last_of_snoc q [] m = refl
last_of_snoc q (x ∷ l) m = last_of_snoc x l m

abbrev behind : Bits → List Bits → List Bits
behind p l = map (λ q. p ++ q) l

-- The networks done were passed, and those left of t are to come, then ms.
pub record Passing (f k d : ℕ) (h : Head) (x c : List ℕ) (q p : Bits) (t : Trie) (ms : List Bits) : Type 0 where
  pub depth : d ≡ length p
  pub outside : outside p ms ≡ true
  pub some : is_none t ≡ false
  pub few : few t
  pub done : List Bits
  pub left : List Bits
  pub all : flat t ≡ done ++ left
  pub nodes : k + 1 ≡ 2 * length done
  pub comes : Comes x f c h (last_of q (behind p done)) (behind p left ++ ms)

module _ {f : ℕ} {h : Head} {d : ℕ} {x c : List ℕ} {q p : Bits} {t : Trie} {ms : List Bits} (g : Runs f h d x c q p t ms) (n : few t) where
  pub record First : Type 0 where
    pub m : Bits
    pub ns : List Bits
    pub all : flat t ≡ m ∷ ns
    pub flow : Flow x f c ((p ++ m) ∷ (behind p ns ++ ms))
    pub net : h.net ≡ net_from f (p ++ m)

  pub first : First
  unfolding head_as
  first =
      let k = first_below p t g.some in
      record { m = k.k; ns = k.ks; all = k.here; flow = rw k.is at g.comes.flow; net = ap (λ (z : Head). z.net) (rw k.is at g.comes.head) }

  pub first-passing : {c' : List ℕ} {y : Head} (k : First) → Flow x f c' (behind p k.ns ++ ms) × (y ≡ head_as f (p ++ k.m) (behind p k.ns ++ ms))
      → Passing f 1 d y x c' q p t ms
  unfolding last_of
  first-passing k (j, i) = record {
    depth = g.depth;
    outside = g.outside;
    some = g.some;
    few = n;
    done = k.m ∷ [];
    left = k.ns;
    all = k.all;
    nodes = refl;
    comes = record { flow = j; head = i };
  }

leads-done : (p q : Bits) (done : List Bits) → 1 ≤ length done → leads p (last_of q (behind p done)) ≡ true
unfolding last_of
leads-done p q [] h = absurd (omega arith)
leads-done p q (m ∷ done) h = leads-last p (p ++ m) done (leads-append p m)

module _ {f k d : ℕ} {h : Head} {x c : List ℕ} {q p : Bits} {t : Trie} {ms : List Bits} (g : Passing f k d h x c q p t ms) where
  pub record Next : Type 0 where
    pub m : Bits
    pub ns : List Bits
    pub left : g.left ≡ m ∷ ns
    pub flow : Flow x f c ((p ++ m) ∷ (behind p ns ++ ms))
    pub net : h.net ≡ net_from f (p ++ m)

  led : leads p (last_of q (behind p g.done)) ≡ true
  led = leads-done p q g.done (omega (arith, g.nodes))

  pub passing-next : d < h.deep → Next
  unfolding head_as
  passing-next lt = go g.left refl
    where
      go : (l : List Bits) → g.left ≡ l → Next
      go [] e = absurd (omega (arith, g.depth, head-whole f p (last_of q (behind p g.done)) ms led g.outside (rw e at g.comes.head)))
      go (m ∷ ns) e = record { m = m; ns = ns; left = e; flow = rw e at g.comes.flow; net = ap (λ (z : Head). z.net) (rw e at g.comes.head) }

  total : kept_size t + 1 ≡ 2 * (length g.done + length g.left)
  total = nodes-flat t g.some ∙ rw (g.all, length-append g.done g.left)

  pub passing-few : Next → k + 2 ≤ 4611686018427387904
  passing-few i = omega (arith, total, g.nodes, g.few, ap length i.left)

  pub passing-again : (i : Next) {c' : List ℕ} {y : Head} → Flow x f c' (behind p i.ns ++ ms) × (y ≡ head_as f (p ++ i.m) (behind p i.ns ++ ms))
      → Passing f (k + 2) d y x c' q p t ms
  passing-again i (j, n) = record {
    depth = g.depth;
    outside = g.outside;
    some = g.some;
    few = g.few;
    done = g.done ++ (i.m ∷ []);
    left = i.ns;
    all = g.all ∙ rw i.left (sym (append_assoc g.done (i.m ∷ []) i.ns));
    nodes = omega (arith, g.nodes, length-append g.done (i.m ∷ []));
    comes = record { flow = j; head = rw (map-append (λ q. p ++ q) g.done (i.m ∷ []), last_of_snoc q (behind p g.done) (p ++ i.m)) n };
  }

  pub passing-end : h.deep ≤ d → (k ≡ kept_size t) × Comes x f c h (last_of q (below p t)) ms
  unfolding head_as below
  passing-end ge = go g.left refl
    where
      go : (l : List Bits) → g.left ≡ l → (k ≡ kept_size t) × Comes x f c h (last_of q (map (λ q. p ++ q) (flat t))) ms
      go [] e =
          let a : flat t ≡ g.done = g.all ∙ rw e (append-nil g.done) in
          (omega (arith, total, g.nodes, ap length e), rw a (rw e at g.comes))
      go (m ∷ ns) e =
          let s = shared-both p (last_of q (behind p g.done)) (p ++ m) led (leads-append p m) in
          let i = ap (λ (z : Head). z.deep) (rw e at g.comes.head) in
          absurd (omega (arith, g.depth))
