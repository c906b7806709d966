-- The plan by the tests of the code. Assumes nothing.
use mathlib.Core.Bool.{Bool, true, false, cond}
use mathlib.Core.List.{List, [], ◌∷◌, ◌++◌, append_assoc, append-nil}
use mathlib.Core.Path.{◌≡◌, refl, sym, ap, ◌∙◌}
use Prim.Native.Nat.{ℕ, ◌+◌, ◌^◌, ◌≤◌, ◌<◌}
use native.Mathlib.Nat.{mod-lt}
use native.Mathlib.Omega.{arith}
use lib.ListN.{length, get_or, length-append}
use lib.Seq.{get_or-append_seam}
use Rattle.nets.specs.Bits.{Bits, leads}
use Rattle.nets.specs.Networks.{net_from, net_bits}
use Rattle.nets.specs.declared.Net.{Net}
use Rattle.nets.specs.Tries.{Trie, none, node, leaf, bare, side, insert_t}
use Rattle.nets.specs.TrieOps.{rejoin, remove_t}
use Rattle.nets.proofs.Strings.{same_refl}
use Rattle.nets.proofs.Numbers.{net_bits-net_from, refusal_of-net_from}
use Rattle.trie_remove.proofs.Remains.{rejoin-fork, remove_t-end, remove_t-none}
use Rattle.trie_paths.specs.Spans.{snoc}
use Rattle.trie_paths.proofs.Paths.{path-is}
use Rattle.branch_points.specs.KeptTries.{kept, kept_size}
use Rattle.branch_points.proofs.Sizes.{kept_size-leaf, kept_size-none}
use Rattle.kept_nodes.specs.Parse.{net_at, string_at}
use Rattle.kept_nodes.proofs.Places.{kept_enc-leaf, kept_enc-none}
use Rattle.kept_nodes.proofs.Heads.{head-short}
use Rattle.kept_reading.specs.NodeStrings.{IsString, Both, ReadAs}
use Rattle.kept_reading.proofs.Found.{read-family, read-len, read-string}
use Rattle.kept_steps.specs.Segments.{KeptSegment, KeptBranch}
use Rattle.kept_steps.proofs.Views.{segment-stands}
use Rattle.kept_steps.proofs.Halves.{inward, half-segment}
use Rattle.kept_plan.specs.Change.{Way, Steps, Flattened, Inside, Drops, Planned}
use Rattle.kept_plan.specs.declared.Plan.TheVariants.{Stay, Fork, Drop, Down}
use Rattle.kept_plan.proofs.Changed.{insert-some, chain-words, chain-size, change-inner, top_of, string-top, removed-gone, removed-stays}

none-size : kept_size none ≡ 0
unfolding kept_size
none-size = refl

insert-end : (t : Trie) → insert_t [] t ≡ leaf
unfolding insert_t
insert-end t = refl

insert-leaf : (c : Bool) (r : Bits) → insert_t (c ∷ r) leaf ≡ leaf
unfolding insert_t
insert-leaf c r = refl

bare-swap : (l : Trie) → bare l none ≡ false → bare none l ≡ false
bare-swap none e = e
bare-swap (node x y) e = refl

leads-behind : (a x y : Bits) → leads (a ++ x) (a ++ y) ≡ leads x y
leads-behind [] x y = refl
leads-behind (c ∷ a) x y = rw (same_refl c) (leads-behind a x y)

string-of : (f : ℕ) (w : List ℕ) (b i : ℕ) → string_at f w b i ≡ net_bits (net_at f w b i)
unfolding string_at
string-of f w b i = refl

-- a half that is gone, as the plan says it
drops : (i a m : ℕ) (c : Bool) (r : Bits) (t : Trie) (k : Inside i a m c r t) → a ≡ i + 1 → remove_t k.later (side c k.branch.l k.branch.r) ≡ none → Drops i c m r t
drops i a m c r t k e h =
    let o = k.branch in
    record {
      inside = record { later = k.later; bits = k.bits; branch = record { l = o.l; r = o.r; is = o.is; inner = o.inner; begins = sym e ∙ o.begins; middle = rw (← e) o.middle } };
      gone = h;
    }

-- The network.
low-net_from : (f : ℕ) (s : Bits) → (net_from f s).lo < 2 ^ 64
unfolding net_from
low-net_from f s = mod-lt _ (omega arith)

module _ {f : ℕ} {p r : Bits} {q : Net} (h : Way f p r q) where
  pub way-len : q.len ≡ length p + length r
  way-len = (path-is q f (p ++ r) h.net).0 ∙ length-append p r

  pub way-family : q.family ≡ f
  way-family = (path-is q f (p ++ r) h.net).1

  pub way-bits : net_bits q ≡ p ++ r
  way-bits = rw h.net (net_bits-net_from f (p ++ r) h.short)

  pub way-string : IsString q
  way-string = record { net = rw h.net (refusal_of-net_from f (p ++ r) h.family h.short); low = rw h.net (low-net_from f (p ++ r)) }

  pub way_end : length p ≡ q.len → r ≡ []
  way_end e = empty r (omega (arith, way-len))
    where
      empty : (r : Bits) → length r ≡ 0 → r ≡ []
      empty [] z = refl
      empty (c ∷ r) z = absurd (omega arith)

  -- it goes on with a bit
  module _ (ne : length p ≡ q.len → ⊥) where
    pub way-more : length p < q.len
    way-more = omega (arith, way-len, ne)

    pub way-some : r ≡ [] → ⊥
    way-some e = ne (sym (way-len ∙ rw e (omega arith)))

    pub way-steps : (c : Bool) → c ≡ get_or (net_bits q) (length p) false → Steps f p r q c
    way-steps c e = go r h (e ∙ ap (λ s. get_or s (length p) false) way-bits)
      where
        go : (r : Bits) → Way f p r q → c ≡ get_or (p ++ r) (length p) false → Steps f p r q c
        go [] g k = absurd (ne (sym ((path-is q f (p ++ []) g.net).0 ∙ rw (append-nil p))))
        go (a ∷ later) g k = record { way = g; later = later; bits = ap (λ x. x ∷ later) (sym (k ∙ get_or-append_seam p a later false)) }

-- One network only, or nothing.
module _ (f : ℕ) (p : Bits) (t : Trie) where
  pub flat-end : (x : Bool) (r : Bits) → r ≡ [] → Flattened f p r x t
  flat-end x r e = rw e (ends x)
    where
      ends : (x : Bool) → Flattened f p [] x t
      ends true = record { words = rw (insert-end t, append-nil p) (kept_enc-leaf f p); size = rw (insert-end t) kept_size-leaf }
      ends false = record { words = rw (remove_t-end t) (kept_enc-none f p); size = rw (remove_t-end t) none-size }

  pub flat-none : (x : Bool) (r : Bits) → t ≡ none → Flattened f p r x t
  flat-none true r e = rw e (record { words = chain-words f p r; size = chain-size r })
  flat-none false r e = rw e (record { words = rw (remove_t-none r) (kept_enc-none f p); size = rw (remove_t-none r) none-size })

-- A member.
pub member-stays : (t : Trie) (r : Bits) → t ≡ leaf → (r ≡ [] → ⊥) → insert_t r t ≡ t
member-stays t r e ne = rw e (go r ne)
  where
    go : (r : Bits) → (r ≡ [] → ⊥) → insert_t r leaf ≡ leaf
    go [] ne = absurd (ne refl)
    go (c ∷ r) ne = insert-leaf c r

-- Two halves.
module _ {f : ℕ} {w : List ℕ} {b n i e u a m : ℕ} {p r : Bits} {q : Net} {t : Trie} {rest : List ℕ} {c : Bool}
    (g : KeptSegment f w b n i e u p t rest) (k : KeptBranch i a m t) (s : Steps f p r q c) where
  abbrev inside : Inside i a m c r t
  inside = record { later = s.later; bits = s.bits; branch = k }

  half-size : side c e m ≡ side c m a + kept_size (inward g k c)
  half-size = (half-segment g k c).end

  is_none : side c m a ≡ side c e m → inward g k c ≡ none
  is_none z = kept_size-none (inward g k c) (omega (arith, half-size))

  not_none : (side c m a ≡ side c e m → ⊥) → inward g k c ≡ none → ⊥
  not_none ne z = ne (half-size-none ∙ sym half-size)
    where
      half-size-none : side c m a ≡ side c m a + kept_size (inward g k c)
      half-size-none = rw (z, none-size) (omega arith)

  pub plan-fork : side c m a ≡ side c e m → Planned f i p r true t (Fork c)
  plan-fork z = (refl, record { a = a; m = m; inside = inside; empty = is_none z })

  pub plan-stay : side c m a ≡ side c e m → Planned f i p r false t Stay
  plan-stay z = rw (s.bits, k.is) (change-inner false c s.later k.l k.r k.inner ∙ alone c k.l k.r k.inner (is_none z))
    where
      alone : (c : Bool) (l r : Trie) → bare l r ≡ false → side c l r ≡ none → rejoin c (remove_t s.later (side c l r)) (side c r l) ≡ node l r
      alone false l r e z = rw (z, remove_t-none s.later) (rejoin-fork false none r (rw z at e))
      alone true l r e z = rw (z, remove_t-none s.later) (rejoin-fork true none l (bare-swap l (rw z at e)))

  module _ (ne : side c m a ≡ side c e m → ⊥) where
    pub plan-into : Planned f i p r true t (Down c a m)
    plan-into = record { inside = inside; some = not_none ne; stays = λ _. insert-some s.later (inward g k c) }

    pub plan-edge : a ≡ i → Planned f i p r false t (Down c a m)
    plan-edge z = record { inside = inside; some = not_none ne; stays = λ o. absurd (o z) }

    pub half_place : (1 ≤ side c m a) × (side c m a ≤ n)
    half_place = let h = half-segment g k c in (h.one, omega (arith, h.end, h.tail, h.last, ne))

    -- the string of the half's first node
    module _ {z : Net} (gz : ReadAs f w b (side c m a) z) where
      pub half-both : Both q z
      half-both =
          let h = half-segment g k c in
          let l = head-short f w b n (inward g k c) (snoc p c) (side c m a) h.one (not_none ne) (segment-stands h) in
          record {
            family = way-family s.way ∙ sym (read-family g.room gz);
            first = way-string s.way;
            second = read-string g.room gz (omega (arith, read-len g.room gz));
          }

      leads-is : leads (net_bits q) (net_bits z) ≡ leads s.later (top_of (inward g k c))
      leads-is =
          let h = half-segment g k c in
          let y = string-top (inward g k c) (snoc p c) (side c m a) h.one (not_none ne) (segment-stands h) in
          let x : net_bits q ≡ snoc p c ++ s.later = way-bits s.way ∙ ap (λ l. p ++ l) s.bits ∙ sym (append_assoc p (c ∷ []) s.later) in
          rw (x, string-bits y) (leads-behind (snoc p c) s.later (top_of (inward g k c)))
        where
          string-bits : string_at f w b (side c m a) ≡ snoc p c ++ top_of (inward g k c) → net_bits z ≡ snoc p c ++ top_of (inward g k c)
          string-bits y = ap net_bits gz.is ∙ sym (string-of f w b (side c m a)) ∙ y

      module _ (x : Bool) (ex : x ≡ leads (net_bits q) (net_bits z)) (off : a ≡ i → ⊥) where
        own-one : a ≡ i + 1
        own-one = go (kept k.l k.r) k.begins
          where
            go : (y : Bool) → a ≡ i + cond y 1 0 → a ≡ i + 1
            go true h = h
            go false h = absurd (off (omega arith))

        pub plan-drop : x ≡ true → Planned f i p r false t (Drop c m)
        plan-drop z = (refl, drops i a m c r t inside own-one (removed-gone s.later (inward g k c) (not_none ne) (sym leads-is ∙ sym ex ∙ z)))

        pub plan-down : x ≡ false → Planned f i p r false t (Down c a m)
        plan-down z = record { inside = inside; some = not_none ne; stays = λ _. removed-stays s.later (inward g k c) (not_none ne) (sym leads-is ∙ sym ex ∙ z) }
