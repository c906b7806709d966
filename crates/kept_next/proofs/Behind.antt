-- The next member of the same length, from the node of a member on: what follows it in the list, since the members rise in address order from the last node
-- to the first. Assumes nothing.
use mathlib.Core.Bool.{Bool, true, false, not, ◌&&◌, or-true, false≢true}
use mathlib.Core.List.{List, [], ◌∷◌, ◌++◌}
use mathlib.Core.Logic.{◌⊎◌, inl, inr}
use mathlib.Core.Path.{◌≡◌, refl, sym, ap, ◌∙◌}
use Prim.Native.Nat.{ℕ, zero, suc, ◌+◌, ◌-◌, ◌≤◌, ◌<◌, ◌^◌}
use native.Mathlib.Decide.{dec_lt, ℕ_discrete}
use native.Mathlib.Omega.{arith}
use borrow.Author.Tests.{eq-eqb, ne_eqb, eqb-true, leb-true}
use lib.Dec.{eqb, leb}
use lib.ListN.{length}
use Rattle.nets.specs.Bits.{Bits, equal, before}
use Rattle.nets.specs.Lists.{member, next_l}
use Rattle.nets.specs.Networks.{is_family, width, has_bit_past, net_words, net_bits}
use Rattle.nets.specs.Tries.{Trie, list_of}
use Rattle.nets.specs.declared.Net.{Net}
use Rattle.nets.proofs.Strings.{and_left, and_right, or_cases}
use Rattle.nets.proofs.Listing.{member-list_of}
use Rattle.nets.proofs.Members.{any_of-append}
use Rattle.nets.proofs.Order.{key, key_one, key-shorter, before-lt, lt-before}
use Rattle.nets.proofs.Numbers.{net_bits-net_from, is-refusal_of}
use Rattle.setfile_format.specs.Files.{is_clean}
use Rattle.setfile_entries.specs.Entries.{Entry}
use Rattle.address_order.specs.Streams.{flat, earlier}
use Rattle.address_order.proofs.AddressOrder.{earlier-self, earlier-not}
use Rattle.address_order.proofs.Rising.{Heads, Rise, member-cons, member-first, member-later}
use Rattle.address_order.proofs.Flat.{member-flat, rise-flat}
use Rattle.address_order.proofs.Lengths.{key-earlier}
use Rattle.kept_nodes.specs.Parse.{head_at, dist_at, net_at, string_at}
use Rattle.kept_reading.specs.NodeStrings.{IsString}
use Rattle.kept_list.specs.Listed.{KeptHolds, KeptNode}
use Rattle.kept_list.proofs.Scanned.{own, scanned, scanned-split, all-scanned, each-node}
use Rattle.kept_list.proofs.Turns.{rest, rest-member, node-len}
use Rattle.trie_next.specs.Following.{next_as}
use Rattle.kept_next.specs.Nearest.{place_at}
use Rattle.kept_next.specs.Lanes.{InLane, Behind}
use Rattle.kept_next.proofs.Nearer.{follows-first}
use Rattle.std.specs.Prelude.{Option, Some}

-- Networks that the derived test takes for equal are one.
same-net : (y x : Net) → y.family ≡ x.family → y.hi ≡ x.hi → y.lo ≡ x.lo → y.len ≡ x.len → y ≡ x
same-net y x a c d e =
    ap (λ z. net_words z y.hi y.lo y.len) a ∙ ap (λ z. net_words x.family z y.lo y.len) c
    ∙ ap (λ z. net_words x.family x.hi z y.len) d ∙ ap (net_words x.family x.hi x.lo) e

pub equal-net : (y x : Net) → (eqb y.family x.family && (eqb y.hi x.hi && (eqb y.lo x.lo && eqb y.len x.len))) ≡ true → y ≡ x
equal-net y x e =
    let f = and_right (eqb y.family x.family) (eqb y.hi x.hi && (eqb y.lo x.lo && eqb y.len x.len)) e in
    let g = and_right (eqb y.hi x.hi) (eqb y.lo x.lo && eqb y.len x.len) f in
    same-net y x (eqb-true y.family x.family (and_left (eqb y.family x.family) (eqb y.hi x.hi && (eqb y.lo x.lo && eqb y.len x.len)) e))
    (eqb-true y.hi x.hi (and_left (eqb y.hi x.hi) (eqb y.lo x.lo && eqb y.len x.len) f))
    (eqb-true y.lo x.lo (and_left (eqb y.lo x.lo) (eqb y.len x.len) g)) (eqb-true y.len x.len (and_right (eqb y.lo x.lo) (eqb y.len x.len) g))

pub entry-string : {f : ℕ} {x : Net} → is_family f ≡ true → Entry f x → x.lo < 2 ^ 64 → IsString x
unfolding is_clean
entry-string {f} {x} fam h lo = record {
  net = is-refusal_of x (record {
    family = rw h.family fam;
    len = leb-true x.len (width x.family) (and_left (leb x.len (width x.family)) (not (has_bit_past x)) h.clean);
    address = rw h.family h.range;
  });
  low = lo;
}

-- The nodes from j up to k were read: none is a member with d bits.
pub record LaneRead (f : ℕ) (w : List ℕ) (b k d j : ℕ) : Type 0 where
  pub to : j ≤ k
  pub others : (m : ℕ) → j ≤ m → m < k → head_at f w b m ≡ d → ⊥

pub lane-start : (f : ℕ) (w : List ℕ) (b k d : ℕ) → LaneRead f w b k d k
lane-start f w b k d = record { to = omega arith; others = λ m lo hi e. omega arith }

module _ {f : ℕ} {w : List ℕ} {b k d j : ℕ} (g : LaneRead f w b k d j) {i : ℕ} (lt : i < j) where
  pub lane-on : (head_at f w b (j - 1) ≡ d → ⊥) → LaneRead f w b k d (j - 1)
  lane-on ne = record { to = omega (arith, g.to); others = λ m lo hi. go m hi (dec_lt m j) lo }
    where
      go : (m : ℕ) → m < k → Dec (m < j) → j - 1 ≤ m → head_at f w b m ≡ d → ⊥
      go m hi (yes l) lo e = let z : m ≡ j - 1 = omega arith in ne (ap (head_at f w b) (sym z) ∙ e)
      go m hi (no l) lo e = g.others m (omega arith) hi e

  pub lane-found : head_at f w b (j - 1) ≡ d → InLane f w b i k d (j - 1)
  lane-found e = record { from = omega arith; to = omega (arith, g.to); head = e; others = λ m lo hi. g.others m (omega arith) hi }

-- Members of two lists behind one another.
member-either : (q : Bits) (l m : List Bits) → member q (l ++ m) ≡ true → (member q l ≡ true) ⊎ (member q m ≡ true)
member-either q l m k = or_cases (member q l) (member q m) (sym (any_of-append (equal q) l m) ∙ k)

member-behind : (q : Bits) (l m : List Bits) → member q m ≡ true → member q (l ++ m) ≡ true
member-behind q l m k = any_of-append (equal q) l m ∙ rw k (or-true (member q l))

-- What stands behind others in a rising list rises, and each of them is earlier.
rise-behind : (l m : List Bits) → Rise (l ++ m) → Rise m × ((p : Bits) → member p l ≡ true → Heads p m)
rise-behind [] m r = (r, λ p k. absurd (false≢true k))
rise-behind (a ∷ l) m r = let (s, h) = rise-behind l m r.1 in (s, λ p k. go p (member-cons p a l k) h)
  where
    go : (p : Bits) → (p ≡ a) ⊎ (member p l ≡ true) → ((p : Bits) → member p l ≡ true → Heads p m) → Heads p m
    go p (inl e) h q k = rw e (r.0 q (member-behind q l m k))
    go p (inr e) h q k = h p e q k

-- Of one length, the earlier has the smaller key.
earlier-key : (p q : Bits) → length p ≡ length q → earlier p q ≡ true → key p < key q
earlier-key p q e h = go (dec_lt (key p) (key q)) (ℕ_discrete (key p) (key q))
  where
    go : Dec (key p < key q) → Dec (key p ≡ key q) → key p < key q
    go (yes k) _ = k
    go (no k) (yes i) = absurd (false≢true (sym (earlier-self p) ∙ ap (earlier p) (key_one p q i) ∙ h))
    go (no k) (no i) = absurd (false≢true (sym (earlier-not p q h) ∙ key-earlier q p (sym e) (omega arith)))

-- x, then none of its length, then y of its length: y follows x.
module _ (A B C : List Bits) (x y : Bits) (r : Rise (A ++ (x ∷ (B ++ (y ∷ C))))) (len : length y ≡ length x)
    (none : (q : Bits) → member q B ≡ true → length q ≡ length x → ⊥) where
  from-x : Rise (x ∷ (B ++ (y ∷ C))) × ((p : Bits) → member p A ≡ true → Heads p (x ∷ (B ++ (y ∷ C))))
  from-x = rise-behind A (x ∷ (B ++ (y ∷ C))) r

  from-y : Rise (y ∷ C) × ((p : Bits) → member p B ≡ true → Heads p (y ∷ C))
  from-y = rise-behind B (y ∷ C) from-x.0.1

  lane_past : before x y ≡ true
  lane_past = lt-before x y (earlier-key x y (sym len) (from-x.0.0 y (member-behind y B (y ∷ C) (member-first y C))))

  lane-among : member y (A ++ (x ∷ (B ++ (y ∷ C)))) ≡ true
  lane-among = member-behind y A (x ∷ (B ++ (y ∷ C))) (member-later y x (B ++ (y ∷ C)) (member-behind y B (y ∷ C) (member-first y C)))

  module _ (q : Bits) (on : before x q ≡ true) (off : before q y ≡ true) where
    same : length q ≡ length x
    same = go (dec_lt (length q) (length x)) (dec_lt (length x) (length q))
      where
        go : Dec (length q < length x) → Dec (length x < length q) → length q ≡ length x
        go (yes k) _ = absurd (omega (arith, key-shorter q x k, before-lt x q on))
        go (no k) (yes i) = absurd (omega (arith, key-shorter y q (omega arith), before-lt q y off))
        go (no k) (no i) = omega arith

    after-x : earlier x q ≡ true
    after-x = key-earlier x q (sym same) (before-lt x q on)

    before-y : earlier q y ≡ true
    before-y = key-earlier q y (same ∙ sym len) (before-lt q y off)

    not-y : earlier y q ≡ true → ⊥
    not-y e = false≢true (sym (earlier-not q y before-y) ∙ e)

    in_c : (q ≡ y) ⊎ (member q C ≡ true) → ⊥
    in_c (inl e) = false≢true (sym (earlier-self y) ∙ rw e at before-y)
    in_c (inr e) = not-y (from-y.0.0 q e)

    in_b : (member q B ≡ true) ⊎ (member q (y ∷ C) ≡ true) → ⊥
    in_b (inl e) = none q e same
    in_b (inr e) = in_c (member-cons q y C e)

    in-x : (q ≡ x) ⊎ (member q (B ++ (y ∷ C)) ≡ true) → ⊥
    in-x (inl e) = false≢true (sym (earlier-self x) ∙ rw e at after-x)
    in-x (inr e) = in_b (member-either q B (y ∷ C) e)

    in_all : (member q A ≡ true) ⊎ (member q (x ∷ (B ++ (y ∷ C))) ≡ true) → ⊥
    in_all (inl e) = false≢true (sym (earlier-not x q after-x) ∙ from-x.1 q e x (member-first x (B ++ (y ∷ C))))
    in_all (inr e) = in-x (member-cons q x (B ++ (y ∷ C)) e)

  lane-least : (q : Bits) → member q (A ++ (x ∷ (B ++ (y ∷ C)))) ≡ true → before x q ≡ true → before q y ≡ false
  lane-least q m on = go (before q y) refl
    where
      go : (z : Bool) → before q y ≡ z → before q y ≡ false
      go false e = e
      go true e = absurd (in_all q on e (member-either q A (x ∷ (B ++ (y ∷ C))) m))

-- A node from i up to k that is a member stands in what is read, with those behind it before it.
module _ (f : ℕ) (w : List ℕ) (b i : ℕ) where
  rest_at : (j k : ℕ) → i ≤ j → j < k → dist_at f w b j ≡ 0 → rest f w b i k ≡ scanned f w b (j + 1) (k - (j + 1)) ++ (string_at f w b j ∷ rest f w b i j)
  rest_at j k lo hi z =
      let e : k - i ≡ (j + 1 - i) + (k - (j + 1)) = omega arith in
      let g : i + (j + 1 - i) ≡ j + 1 = omega arith in
      let h : j + 1 - 1 ≡ j = omega arith in
      ap (scanned f w b i) e ∙ scanned-split f w b i (j + 1 - i) (k - (j + 1)) ∙ rw (g, rest-member f w b i (j + 1) (omega arith) (rw h z), h)

  -- what holds of the strings of members among some nodes
  scanned-each : (P : Bits → Type 0) (m : ℕ) → ((j : ℕ) → i ≤ j → j < i + m → dist_at f w b j ≡ 0 → P (string_at f w b j))
      → (q : Bits) → member q (scanned f w b i m) ≡ true → P q
  unfolding scanned own
  scanned-each P zero h q k = absurd (false≢true k)
  scanned-each P (suc m) h q k = go (ℕ_discrete (dist_at f w b (i + m)) 0) (scanned-each P m (λ j lo hi z. h j lo (omega arith) z) q)
    where
      own-some : dist_at f w b (i + m) ≡ 0 → own f w b (i + m) ≡ string_at f w b (i + m) ∷ []
      own-some z = rw (eq-eqb (dist_at f w b (i + m)) 0 z)

      own-none : (dist_at f w b (i + m) ≡ 0 → ⊥) → own f w b (i + m) ≡ []
      own-none z = rw (ne_eqb (dist_at f w b (i + m)) 0 z)

      first : dist_at f w b (i + m) ≡ 0 → (q ≡ string_at f w b (i + m)) ⊎ (member q (scanned f w b i m) ≡ true) → (member q (scanned f w b i m) ≡ true → P q)
          → P q
      first z (inl e) ih = rw e (h (i + m) (omega arith) (omega arith) z)
      first z (inr e) ih = ih e

      go : Dec (dist_at f w b (i + m) ≡ 0) → (member q (scanned f w b i m) ≡ true → P q) → P q
      go (yes z) ih = first z (member-cons q (string_at f w b (i + m)) (scanned f w b i m) (rw (own-some z) at k)) ih
      go (no z) ih = ih (rw (own-none z) at k)

-- In a trie: from the node k of a member on.
module _ {f : ℕ} {w : List ℕ} {b n i e : ℕ} {t : Trie} (h : KeptHolds f w b n i e t) {k r : ℕ} {x : Net} (lo : i ≤ k) (hi : k < e)
    (head : head_at f w b k ≡ x.len) (small : x.len < 256) (at : net_at f w b k ≡ x) (g : InLane f w b i k x.len r) where
  node-k : KeptNode f w b n k
  node-k = each-node h k lo hi

  node-r : KeptNode f w b n r
  node-r = each-node h r g.from (omega (arith, g.to))

  string-x : string_at f w b k ≡ net_bits x
  string-x = sym (net_bits-net_from f (string_at f w b k) node-k.short) ∙ ap net_bits (sym node-k.net ∙ at)

  none_between : (q : Bits) → member q (scanned f w b (r + 1) (k - (r + 1))) ≡ true → length q ≡ length (string_at f w b k) → ⊥
  none_between = scanned-each f w b (r + 1) (λ q. length q ≡ length (string_at f w b k) → ⊥) (k - (r + 1))
      (λ j a c z l. g.others j (omega arith) (omega (arith, g.to))
      (omega (arith, l, node-len (each-node h j (omega (arith, g.from)) (omega (arith, g.to))), node-len node-k, head)))

  all_split : flat t ≡ scanned f w b (k + 1) (e - (k + 1)) ++ (string_at f w b k ∷ (scanned f w b (r + 1) (k - (r + 1)) ++ (string_at f w b r ∷ rest f w b i r)))
  all_split = sym (all-scanned h) ∙ rest_at f w b i k e lo hi (omega (arith, head)) ∙ rw (rest_at f w b i r k g.from g.to (omega (arith, g.head)))

  rise : Rise (scanned f w b (k + 1) (e - (k + 1)) ++ (string_at f w b k ∷ (scanned f w b (r + 1) (k - (r + 1)) ++ (string_at f w b r ∷ rest f w b i r))))
  rise = rw all_split at (rise-flat t)

  lens : length (string_at f w b r) ≡ length (string_at f w b k)
  lens = omega (arith, node-len node-r, node-len node-k, head, g.head)

  pub lane-behind : Behind f w b i e t x r
  lane-behind =
      let A = scanned f w b (k + 1) (e - (k + 1)) in
      let B = scanned f w b (r + 1) (k - (r + 1)) in
      let p = string_at f w b k in
      let s = string_at f w b r in
      record {
        from = g.from;
        to = omega (arith, g.to);
        first = rw (all_split, ← string-x)
            (record {
              bits = s;
              net = node-r.net;
              short = node-r.short;
              among = lane-among A B (rest f w b i r) p s rise lens none_between;
              past = lane_past A B (rest f w b i r) p s rise lens none_between;
              least = lane-least A B (rest f w b i r) p s rise lens none_between;
            });
      }

-- it is what follows
pub behind-follows : {f : ℕ} {w : List ℕ} {b i e : ℕ} {t : Trie} {n : Net} {r : ℕ} → Behind f w b i e t n r → (y : Net) → y ≡ net_at f w b r
    → (last : Option Net) → last ≡ Some n → Some y ≡ next_as f (next_l (list_of t) (place_at last))
behind-follows {t = t} g y is last on = rw (is, on) (follows-first t g.first (λ q. member-flat q t ∙ sym (member-list_of t q)))
