-- One string more, and the nearest of all members: what follows in the list. Assumes nothing.
use mathlib.Core.Bool.{Bool, true, false, ◌||◌, false≢true}
use mathlib.Core.List.{List, ◌∷◌, ◌++◌}
use mathlib.Core.Path.{◌≡◌, refl, sym, ap, ◌∙◌}
use Prim.Native.Nat.{ℕ, suc, ◌+◌, ◌-◌, ◌≤◌, ◌<◌}
use native.Mathlib.Omega.{arith}
use lib.ListN.{length}
use Rattle.nets.specs.Bits.{Bits, before, equal}
use Rattle.nets.specs.Lists.{member, Place, is_past, Found, found, missing, next_l}
use Rattle.nets.specs.Networks.{is_family, width, net_from, net_bits}
use Rattle.nets.specs.declared.Net.{Net}
use Rattle.nets.specs.Tries.{Trie, list_of}
use Rattle.nets.proofs.Strings.{equal-refl, equal_is}
use Rattle.nets.proofs.Order.{key_one, before-lt, before-le}
use Rattle.nets.proofs.Listing.{from-list_of, member-list_of}
use Rattle.nets.proofs.Lookups.{next_l-found, next_l-missing}
use Rattle.nets.proofs.Numbers.{net_bits-net_from, refusal_of-net_from, refusal_of-is}
use Rattle.address_order.proofs.Flat.{member-flat}
use Rattle.setfile_format.proofs.Written.{is_clean-net_from}
use Rattle.setfile_entries.specs.Entries.{Entry}
use Rattle.trie_next.specs.Following.{next_as}
use Rattle.kept_nodes.specs.Parse.{net_at, string_at}
use Rattle.kept_list.specs.Listed.{KeptHolds}
use Rattle.kept_list.proofs.Scanned.{own, scanned, each-node, all-scanned}
use Rattle.kept_next.specs.Nearest.{comes_first, own_of, First, Nearest, Looks}
use Rattle.std.specs.Prelude.{Option, Some, None}

pub entry_of : (f : ℕ) (s : Bits) → is_family f ≡ true → length s ≤ width f → Entry f (net_from f s)
unfolding net_from
entry_of f s fam le = record { family = refl; clean = is_clean-net_from f s le; range = (refusal_of-is (net_from f s) (refusal_of-net_from f s fam le)).address }

never_both : {X : Type 0} (x : Bool) → x ≡ true → x ≡ false → X
never_both x a c = absurd (false≢true (sym c ∙ a))

-- the nearest is n
nearest-is : {f : ℕ} {p : Place} {ms : List Bits} {c : Option Net} (n : Net) → c ≡ Some n → First f p ms n → Nearest f p ms c
nearest-is {f} {p} {ms} {c} n e h = rw e (record { none = λ o. absurd (cc o); first = λ m o. same m (cc o) })
  where
    same : (m : Net) → n ≡ m → First f p ms m
    same m i = rw (← i) h

-- s comes to ms
module _ {f : ℕ} {p : Place} {ms : List Bits} {c : Option Net} (g : Nearest f p ms c) (s : Bits) where
  -- what holds of s and of each of ms holds of each of both
  each : (P : Bits → Type 0) → P s → ((q : Bits) → member q ms ≡ true → P q) → (q : Bits) → member q (s ∷ ms) ≡ true → P q
  each P a h q e = go (equal q s) refl e
    where
      go : (x : Bool) → equal q s ≡ x → (x || member q ms) ≡ true → P q
      go true k z = rw (equal_is q s k) a
      go false k z = h q z

  more : (q : Bits) → member q ms ≡ true → member q (s ∷ ms) ≡ true
  more q e = rw e (go (equal q s))
    where
      go : (x : Bool) → (x || true) ≡ true
      go true = refl
      go false = refl

  pub nearest-before : is_past p s ≡ false → Nearest f p (s ∷ ms) c
  nearest-before z = record {
    none = λ e. each (λ q. is_past p q ≡ false) z (g.none e);
    first = λ n e. let h = g.first n e in record {
      bits = h.bits;
      net = h.net;
      short = h.short;
      among = more h.bits h.among;
      past = h.past;
      least = each (λ q. is_past p q ≡ true → before q h.bits ≡ false) (λ y. never_both (is_past p s) y z) h.least;
    };
  }

  pub nearest-behind : (n : Net) (e : c ≡ Some n) → before s (g.first n e).bits ≡ false → Nearest f p (s ∷ ms) c
  nearest-behind n e z = nearest-is n e (let h = g.first n e in record {
    bits = h.bits;
    net = h.net;
    short = h.short;
    among = more h.bits h.among;
    past = h.past;
    least = each (λ q. is_past p q ≡ true → before q h.bits ≡ false) (λ y. z) h.least;
  })

  module _ (n : Net) (is : n ≡ net_from f s) (le : length s ≤ width f) (on : is_past p s ≡ true) where
    self : before s s ≡ false
    self = not-lt (before s s) refl
      where
        not-lt : (x : Bool) → before s s ≡ x → before s s ≡ false
        not-lt true e = absurd (omega (arith, before-lt s s e))
        not-lt false e = e

    new : ((q : Bits) → member q ms ≡ true → is_past p q ≡ true → before q s ≡ false) → Nearest f p (s ∷ ms) (Some n)
    new h = nearest-is n refl (record {
      bits = s;
      net = is;
      short = le;
      among = rw (equal-refl s);
      past = on;
      least = each (λ q. is_past p q ≡ true → before q s ≡ false) (λ y. self) h;
    })

    pub nearest-new : c ≡ None → Nearest f p (s ∷ ms) (Some n)
    nearest-new e = new (λ q m y. never_both (is_past p q) y (g.none e q m))

    pub nearest-nearer : (m : Net) (e : c ≡ Some m) → before s (g.first m e).bits ≡ true → Nearest f p (s ∷ ms) (Some n)
    nearest-nearer m e z = new (λ q i y. far q ((g.first m e).least q i y))
      where
        far : (q : Bits) → before q (g.first m e).bits ≡ false → before q s ≡ false
        far q h = go (before q s) refl
          where
            go : (x : Bool) → before q s ≡ x → before q s ≡ false
            go true k = absurd (omega (arith, before-lt q s k, before-lt s (g.first m e).bits z, before-le q (g.first m e).bits h))
            go false k = k

pub near-entry : {f : ℕ} {p : Place} {ms : List Bits} {c : Option Net} → Nearest f p ms c → is_family f ≡ true → (n : Net) → c ≡ Some n → Entry f n
near-entry {f} g fam n e = let h = g.first n e in rw h.net (entry_of f h.bits fam h.short)

-- By the tests of the code: x says that s comes before the nearest so far.
module _ {f : ℕ} {p : Place} {ms : List Bits} {c : Option Net} (g : Nearest f p ms c) (s : Bits) (x : Bool) (ex : x ≡ comes_first s c) where
  test-is : (n : Net) (e : c ≡ Some n) → x ≡ before s (g.first n e).bits
  test-is n e =
      let h = g.first n e in
      let b : net_bits n ≡ h.bits = ap net_bits h.net ∙ net_bits-net_from f h.bits h.short in
      ex ∙ ap (comes_first s) e ∙ ap (before s) b

  pub turn-far : x ≡ false → Nearest f p (s ∷ ms) c
  turn-far z = go c refl
    where
      go : (y : Option Net) → c ≡ y → Nearest f p (s ∷ ms) c
      go (Some n) e = nearest-behind g s n e (sym (test-is n e) ∙ z)
      go None e = never_both x (ex ∙ ap (comes_first s) e) z

  pub turn_near : x ≡ true → (n : Net) → n ≡ net_from f s → length s ≤ width f → is_past p s ≡ true → Nearest f p (s ∷ ms) (Some n)
  turn_near z n is le on = go c refl
    where
      go : (y : Option Net) → c ≡ y → Nearest f p (s ∷ ms) (Some n)
      go (Some m) e = nearest-nearer g s n is le on m e (sym (test-is m e) ∙ z)
      go None e = nearest-new g s n is le on e

-- Node k, as it is read.
module _ {f : ℕ} {w : List ℕ} {b n k : ℕ} {last : Option Net} (h : Looks f w b n k last) {y : Net} (is : y ≡ net_at f w b k) where
  pub read-net : y ≡ net_from f (string_at f w b k)
  read-net = is ∙ h.node.net

  pub read-bits : net_bits y ≡ string_at f w b k
  read-bits = rw read-net (net_bits-net_from f (string_at f w b k) h.node.short)

  pub read-entry : Entry f y
  read-entry = rw read-net (entry_of f (string_at f w b k) h.node.room.family h.node.short)

-- The first of all is what follows.
pub follows-first : {f : ℕ} {p : Place} {ms : List Bits} {n : Net} (t : Trie) → First f p ms n → ((q : Bits) → member q ms ≡ member q (list_of t))
    → Some n ≡ next_as f (next_l (list_of t) p)
follows-first {f} {p} {n = n} t h same = go (next_l (list_of t) p) refl
  where
    go : (x : Found) → next_l (list_of t) p ≡ x → Some n ≡ next_as f x
    go missing k = never_both (is_past p h.bits) h.past (next_l-missing (list_of t) p k h.bits (sym (same h.bits) ∙ h.among))
    go (found m) k =
        let o = next_l-found (list_of t) p m (from-list_of t) k in
        let a = o.2 h.bits (sym (same h.bits) ∙ h.among) h.past in
        let d = before-le m h.bits (h.least m (same m ∙ o.0) o.1) in
        rw (h.net, key_one h.bits m (omega arith))

module _ {f : ℕ} {p : Place} {ms : List Bits} {c : Option Net} (t : Trie) (g : Nearest f p ms c) (same : (q : Bits) → member q ms ≡ member q (list_of t)) where
  pub follows-none : c ≡ None → None ≡ next_as f (next_l (list_of t) p)
  follows-none e = go (next_l (list_of t) p) refl
    where
      go : (x : Found) → next_l (list_of t) p ≡ x → None ≡ next_as f x
      go missing k = refl
      go (found m) k = let h = next_l-found (list_of t) p m (from-list_of t) k in never_both (is_past p m) h.1 (g.none e m (same m ∙ h.0))

  pub follows-some : (n : Net) → c ≡ Some n → Some n ≡ next_as f (next_l (list_of t) p)
  follows-some n e = follows-first t (g.first n e) same

  pub follows : c ≡ next_as f (next_l (list_of t) p)
  follows = go c refl
    where
      go : (y : Option Net) → c ≡ y → c ≡ next_as f (next_l (list_of t) p)
      go (Some n) e = e ∙ follows-some n e
      go None e = e ∙ follows-none e

-- The loop over the nodes.
pub record Searches (f : ℕ) (w : List ℕ) (b i e : ℕ) (p : Place) (c : Option Net) (k : ℕ) : Type 0 where
  pub from : i ≤ k
  pub to : k ≤ e
  pub near : Nearest f p (scanned f w b i (k - i)) c

module _ {f : ℕ} {w : List ℕ} {b n i e : ℕ} {t : Trie} (h : KeptHolds f w b n i e t) (p : Place) where
  pub search-start : Searches f w b i e p None i
  unfolding scanned
  search-start =
      let q : i - i ≡ 0 = omega arith in
      record {
        from = omega arith;
        to = omega (arith, h.end);
        near = rw q (record { none = λ _ r m. absurd (false≢true m); first = λ n o. absurd (cc o) });
      }

  module _ {c : Option Net} {k : ℕ} (g : Searches f w b i e p c k) where
    pub search-looks : k < e → (last : Option Net) → ((y : Net) → last ≡ Some y → Entry f y) → Looks f w b n k last
    search-looks lt last en = record { node = each-node h k g.from lt; entry = en }

    pub search-turn : k < e → {d : Option Net} → Nearest f p (own_of f w b k ++ scanned f w b i (k - i)) d → Searches f w b i e p d (k + 1)
    unfolding scanned own
    search-turn lt y =
        let q : k + 1 - i ≡ suc (k - i) = omega (arith, g.from) in
        let z : i + (k - i) ≡ k = omega (arith, g.from) in
        record { from = omega (arith, g.from); to = omega arith; near = rw (q, z) y }

    pub search-all : e ≤ k → (q : Bits) → member q (scanned f w b i (k - i)) ≡ member q (list_of t)
    search-all le q =
        let o : k - i ≡ e - i = omega (arith, g.to) in
        rw (o, all-scanned h) (member-flat q t ∙ sym (member-list_of t q))
