-- The groups of an address, from its runs to its network: the paths of the code. Assumes nothing.
use mathlib.Core.Bool.{Bool, true, false, cond, ◌&&◌}
use mathlib.Core.List.{List, [], ◌∷◌, ◌++◌}
use mathlib.Core.Path.{◌≡◌, refl, ap, sym, ◌∙◌}
use Prim.Native.Nat.{ℕ, zero, suc, ◌+◌, ◌-◌, ◌≤◌, ◌<◌}
use native.Mathlib.Omega.{arith}
use lib.Dec.{eqb, leb}
use lib.ListN.{length, take, drop, get_or, replicate, length-append, length-replicate, get_or-replicate, get_or-append}
use lib.Seq.{length-take-le, get_or-take, get_or-drop, get_or-append-add, drop-drop}
use Rattle.nets.specs.Networks.{net_words, net_of, big_endian}
use Rattle.nets.specs.declared.Net.{Net}
use Rattle.nets.proofs.Strings.{and_right}
use Rattle.text_decimal.specs.Places.{starts_byte}
use Rattle.text_decimal.proofs.Places.{starts-within}
use Rattle.std.specs.Prelude.{is_some, Some, None}
use Rattle.text_hex.specs.Hex.{colon}
use Rattle.text_ipv6_runs.specs.Runs.{Piece, group, quad, none, read_piece, goes_on, Ran, ran, run_on, run_from}
use Rattle.text_ipv6_read.specs.Reader.{outline, starts_double, behind_run, whole_run, read_address, is_outline, laid}
use Rattle.text_ipv6_runs.specs.Places.{is_quad, groups_of, ran_as, Fits}
use Rattle.text_ipv6_read.specs.Places.{outline_words, placed, gap_of, outline_as, Sized}
use Rattle.text_ipv6_runs.specs.declared.runs.Run.{Run}
use Rattle.text_ipv6_read.specs.declared.outlines.Outline as declared

-- A run has no fewer groups than it began with.
pub run_from-longer : (k : ℕ) (xs s : List ℕ) → length xs ≤ length (run_from k xs s).groups
unfolding run_from
run_from-longer zero xs s = omega arith
run_from-longer (suc k) xs s = go (read_piece (suc k) s) (λ x t. run_from-longer k (xs ++ (x ∷ [])) t)
  where
    go : (p : Piece) → ((x : ℕ) (t : List ℕ) → length (xs ++ (x ∷ [])) ≤ length (run_from k (xs ++ (x ∷ [])) t).groups)
        → length xs ≤ length (run_on xs s p (λ ys t. run_from k ys t)).groups
    go none h = omega arith
    go (quad v t) h = simp length-append (omega arith)
    go (group x t) h = on (goes_on t)
      where
        on : (b : Bool) → length xs ≤ length (cond b (run_from k (xs ++ (x ∷ [])) (drop 1 t)) (ran (xs ++ (x ∷ [])) false t)).groups
        on true = omega (arith, h x (drop 1 t), length-append xs (x ∷ []))
        on false = omega (arith, length-append xs (x ∷ []))

-- A double colon.
pub starts_double-other : (s : List ℕ) → starts_byte colon s ≡ false → false ≡ starts_double s
unfolding starts_double
starts_double-other s e = rw e

pub starts_double-behind : (s : List ℕ) (at : ℕ) → starts_byte colon (drop at s) ≡ true → starts_byte colon (drop (at + 1) s) ≡ starts_double (drop at s)
unfolding starts_double
starts_double-behind s at e = rw (e, drop-drop 1 at s)

pub starts_double-within : (s : List ℕ) (at : ℕ) → starts_double (drop at s) ≡ true → at + 1 < length s
unfolding starts_double starts_byte
starts_double-within s at e =
    let h = and_right (starts_byte colon (drop at s)) (starts_byte colon (drop 1 (drop at s))) e in
    starts-within (starts_byte colon) refl s (at + 1) (rw (drop-drop 1 at s) at h)

-- The address by its first run.
module _ (s : List ℕ) (f : Ran) (e : f ≡ run_from 8 [] s) where
  pub address-quad : f.quad ≡ true → whole_run f ≡ read_address s
  unfolding read_address
  address-quad h = rw (← e, h) (go (starts_double f.rest))
    where
      go : (b : Bool) → whole_run f ≡ cond (b && false) (behind_run f (run_from (8 - length f.groups) f.groups (drop 2 f.rest))) (whole_run f)
      go true = refl
      go false = refl

  pub address-other : starts_double f.rest ≡ false → whole_run f ≡ read_address s
  unfolding read_address
  address-other h = rw (← e, h)

  pub address-double : f.quad ≡ false → starts_double f.rest ≡ true
      → behind_run f (run_from (8 - length f.groups) f.groups (drop 2 f.rest)) ≡ read_address s
  unfolding read_address
  address-double h g = rw (← e, g, h)

-- The groups that stand in their places.
counted : (r : Run) → Fits r → length (groups_of r) ≡ r.count
counted r f = length-take-le r.count r.groups (omega (arith, f.places, f.within))

pub outline-whole : (s : List ℕ) (r : Run) → Fits r → (whole_run (ran_as s r) ≡ read_address s)
    → let o = outline_words r.groups r.count None r.at in Sized o × (outline_as s o ≡ read_address s)
outline-whole s r f e = (record { places = f.places; within = f.within; gap = omega arith }, rw (counted r f) at e)

pub outline-behind : (s : List ℕ) (r t : Run) → Fits r → Fits t → is_quad r.stand ≡ false → ran_as s r ≡ run_from 8 [] s → starts_double (drop r.at s) ≡ true
    → ran_as s t ≡ run_from (8 - r.count) (groups_of r) (drop (r.at + 2) s)
    → let o = outline_words t.groups t.count (Some r.count) t.at in Sized o × (outline_as s o ≡ read_address s)
outline-behind s r t f g q e d h =
    let l = run_from-longer (8 - r.count) (groups_of r) (drop (r.at + 2) s) in
    let k : r.count ≤ t.count = omega (arith, counted r f, counted t g, ap (λ x. length x.groups) h) in
    let a = address-double s (ran_as s r) e q d in
    let b : ran_as s t ≡ run_from (8 - length (groups_of r)) (groups_of r) (drop 2 (drop r.at s)) = rw (counted r f, drop-drop 2 r.at s) h in (
      record { places = g.places; within = g.within; gap = k },
      ap (λ n. outline (groups_of t) true n (drop t.at s)) (sym (counted r f)) ∙ ap (behind_run (ran_as s r)) b ∙ a,
    )

-- Whether it is whole, by the count.
pub is_outline-placed : (s : List ℕ) (o : declared.Outline) → Sized o → cond (is_some o.gap) (leb o.count 7) (eqb o.count 8) ≡ is_outline (outline_as s o)
unfolding is_outline
is_outline-placed s o z = rw (length-take-le o.count o.groups (omega (arith, z.places, z.within)))

-- Group by group: before the zeros, one of them, or behind.
get_d_past : (xs ys : List ℕ) (i : ℕ) → length xs ≤ i → get_or (xs ++ ys) i 0 ≡ get_or ys (i - length xs) 0
get_d_past xs ys i h = let e : i ≡ length xs + (i - length xs) = omega arith in ap (λ j. get_or (xs ++ ys) j 0) e ∙ get_or-append-add xs ys (i - length xs) 0

module _ (xs : List ℕ) (g i : ℕ) (h : g ≤ length xs) (l : length xs ≤ 8) where
  front : length (take g xs) ≡ g
  front = length-take-le g xs h

  laid-front : i < g → get_or (laid xs g) i 0 ≡ get_or xs i 0
  unfolding laid
  laid-front k = get_or-append (take g xs) (replicate (8 - length xs) 0 ++ drop g xs) 0 i (omega (arith, front)) ∙ get_or-take g xs i 0 k

  past : g ≤ i → get_or (laid xs g) i 0 ≡ get_or (replicate (8 - length xs) 0 ++ drop g xs) (i - g) 0
  unfolding laid
  past k = get_d_past (take g xs) (replicate (8 - length xs) 0 ++ drop g xs) i (omega (arith, front)) ∙ rw front

  laid-zero : g ≤ i → i < g + (8 - length xs) → get_or (laid xs g) i 0 ≡ 0
  laid-zero k m =
      let z = length-replicate {A = ℕ} (8 - length xs) 0 in
      past k ∙ get_or-append (replicate (8 - length xs) 0) (drop g xs) 0 (i - g) (omega arith) ∙ get_or-replicate (8 - length xs) (i - g) 0 0 (omega arith)

  laid-behind : g + (8 - length xs) ≤ i → get_or (laid xs g) i 0 ≡ get_or xs (i - (8 - length xs)) 0
  laid-behind k =
      let zs : List ℕ = replicate (8 - length xs) 0 in
      let z : length zs ≡ 8 - length xs = length-replicate (8 - length xs) 0 in
      let j : g + (i - g - length zs) ≡ i - (8 - length xs) = omega arith in
      past (omega arith) ∙ get_d_past zs (drop g xs) (i - g) (omega arith) ∙ get_or-drop g xs (i - g - length zs) 0 ∙ ap (λ n. get_or xs n 0) j

module _ (o : declared.Outline) (i : ℕ) (z : Sized o) (h : i < 8) where
  count-is : length (placed o) ≡ o.count
  count-is = length-take-le o.count o.groups (omega (arith, z.places, z.within))

  pub group-front : i < (gap_of o) → get_or o.groups i 0 ≡ get_or (laid (placed o) (gap_of o)) i 0
  group-front k =
      sym (laid-front (placed o) (gap_of o) i (omega (arith, count-is, z.gap)) (omega (arith, count-is, z.within)) k ∙ get_or-take o.count o.groups i 0 (omega (arith, z.gap)))

  pub group-zero : (gap_of o) ≤ i → i < (gap_of o) + (8 - o.count) → 0 ≡ get_or (laid (placed o) (gap_of o)) i 0
  group-zero k m =
      sym (laid-zero (placed o) (gap_of o) i (omega (arith, count-is, z.gap)) (omega (arith, count-is, z.within)) k (rw count-is m))

  pub group-behind : (gap_of o) + (8 - o.count) ≤ i → get_or o.groups (i - (8 - o.count)) 0 ≡ get_or (laid (placed o) (gap_of o)) i 0
  group-behind k =
      sym (
      laid-behind (placed o) (gap_of o) i (omega (arith, count-is, z.gap)) (omega (arith, count-is, z.within)) (rw count-is k)
      ∙ rw count-is (get_or-take o.count o.groups (i - (8 - o.count)) 0 (omega (arith, z.within)))
      )

-- The network of eight groups.
pub big_endian-same : (a b c d e f g h : ℕ) (xs : List ℕ) → a ≡ get_or xs 0 0 → b ≡ get_or xs 1 0 → c ≡ get_or xs 2 0 → d ≡ get_or xs 3 0 → e ≡ get_or xs 4 0
    → f ≡ get_or xs 5 0 → g ≡ get_or xs 6 0 → h ≡ get_or xs 7 0 → big_endian 65536 (a ∷ b ∷ c ∷ d ∷ e ∷ f ∷ g ∷ h ∷ []) 8 ≡ big_endian 65536 xs 8
unfolding big_endian
big_endian-same a b c d e f g h xs i j k l m n o p = rw (i, j, k, l, m, n, o, p)

pub network-groups : (n : Net) (v w k : ℕ) → n ≡ net_of 6 v 128 → v ≡ w → net_words n.family n.hi n.lo k ≡ net_of 6 w k
network-groups n v w k e h = ap (λ m. net_words m.family m.hi m.lo k) e ∙ ap (λ x. net_of 6 x k) h
