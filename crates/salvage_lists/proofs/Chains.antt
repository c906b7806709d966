-- Chains: each member ahead of all behind it. No member of a chain leads another, and a chain rises in address order. Then the batches of a salvage: what is held, squeezed to a chain and
-- cut at a bound, and the parts that grow by batches to the whole. Assumes nothing.
use mathlib.Core.Bool.{Bool, true, false, not, cond, ◌&&◌, ◌||◌, or-true, false≢true, true≢false}
use mathlib.Core.List.{List, [], ◌∷◌, ◌++◌, append-nil}
use mathlib.Core.Logic.{◌⊎◌, inl, inr}
use mathlib.Core.Path.{◌≡◌, refl, ap, sym, ◌∙◌}
use Prim.Native.Nat.{ℕ, suc, ◌+◌, ◌≤◌}
use native.Mathlib.Omega.{arith}
use lib.ListN.{length, length-append}
use Rattle.nets.specs.Bits.{Bits, leads, equal}
use Rattle.nets.specs.Lists.{any_of, member, covers, keep, Place, start, past}
use Rattle.nets.proofs.Strings.{and_left, and_right, and_both, or_cases, bool_iff, equal-refl, equal_is, leads-trans, leads-length, leads-all, leads-refl}
use Rattle.nets.proofs.Members.{any_of-append, any_of-in, any_of-out, member-keep, keep-fewer}
use Rattle.address_order.specs.Streams.{earlier}
use Rattle.address_order.proofs.AddressOrder.{earlier-equal}
use Rattle.address_order.proofs.Rising.{Rise, member-cons, member-first, member-later}
use Rattle.salvage_lists.specs.Ahead.{ahead, Leads, AllAhead, Chain, is_past, is_beyond, is_bound, Part, Whole, Batch, Held, Squeezed, thin_behind, thinned, Sorted}
use Rattle.salvage_lists.proofs.Ahead.{ahead-trans, ahead-self, ahead-inside, ahead-leads, ahead-led, ahead-is, Compared, first, second, outer, inner, compare}

pub no : {A : Type 0} {x : Bool} → x ≡ true → x ≡ false → A
no e f = absurd (true≢false (sym e ∙ f))

-- Members of two lists in a row.
pub member-append : (q : Bits) (l m : List Bits) → member q (l ++ m) ≡ true → (member q l ≡ true) ⊎ (member q m ≡ true)
member-append q l m k = or_cases (member q l) (member q m) (sym (any_of-append (equal q) l m) ∙ k)

pub any_of-left : (f : Bits → Bool) (l m : List Bits) → any_of f l ≡ true → any_of f (l ++ m) ≡ true
any_of-left f l m k = any_of-append f l m ∙ ap (λ z. z || any_of f m) k

pub any_of-right : (f : Bits → Bool) (l m : List Bits) → any_of f m ≡ true → any_of f (l ++ m) ≡ true
any_of-right f l m k = any_of-append f l m ∙ ap (λ z. any_of f l || z) k ∙ or-true (any_of f l)

pub member-last : (l : List Bits) (b : Bits) → member b (l ++ (b ∷ [])) ≡ true
member-last l b = any_of-right (equal b) l (b ∷ []) (member-first b [])

pub member-one : (q b : Bits) → member q (b ∷ []) ≡ true → q ≡ b
member-one q b k = go (member-cons q b [] k)
  where
    go : (q ≡ b) ⊎ (false ≡ true) → q ≡ b
    go (inl e) = e
    go (inr e) = absurd (false≢true e)

-- Chains.
pub ahead-earlier : (p q : Bits) → ahead p q ≡ true → earlier p q ≡ true
ahead-earlier p q e = and_left (earlier p q) (not (leads p q)) (sym (ahead-is p q) ∙ e)

pub chain-rise : (l : List Bits) → Chain l → Rise l
chain-rise [] c = tt
chain-rise (p ∷ l) c = (λ q k. ahead-earlier p q (c.0 q k), chain-rise l c.1)

pub chain-append : (l m : List Bits) → Chain l → Chain m → ((p : Bits) → member p l ≡ true → Leads p m) → Chain (l ++ m)
chain-append [] m c d h = d
chain-append (p ∷ l) m c d h = (λ q k. go q (member-append q l m k), chain-append l m c.1 d (λ q k. h q (member-later q p l k)))
  where
    go : (q : Bits) → (member q l ≡ true) ⊎ (member q m ≡ true) → ahead p q ≡ true
    go q (inl k) = c.0 q k
    go q (inr k) = h p (member-first p l) q k

pub chain_left : (l m : List Bits) → Chain (l ++ m) → Chain l
chain_left [] m c = tt
chain_left (p ∷ l) m c = (λ q k. c.0 q (any_of-left (equal q) l m k), chain_left l m c.1)

pub chain-across : (l m : List Bits) → Chain (l ++ m) → (p : Bits) → member p l ≡ true → Leads p m
chain-across [] m c p k q j = absurd (false≢true k)
chain-across (x ∷ l) m c p k q j = go (λ h. chain-across l m c.1 p h q j) (member-cons p x l k)
  where
    go : (member p l ≡ true → ahead p q ≡ true) → (p ≡ x) ⊎ (member p l ≡ true) → ahead p q ≡ true
    go ih (inl e) = rw e (c.0 q (any_of-right (equal q) l m j))
    go ih (inr h) = ih h

pub chain-keep : (f : Bits → Bool) (l : List Bits) → Chain l → Chain (keep f l)
chain-keep f [] c = tt
chain-keep f (p ∷ l) c = go (f p) (chain-keep f l c.1)
  where
    go : (x : Bool) → Chain (keep f l) → Chain (cond x (p ∷ keep f l) (keep f l))
    go true ih = (λ q k. c.0 q (and_left (member q l) (f q) (sym (member-keep f q l) ∙ k)), ih)
    go false ih = ih

-- a member that leads another is that one
pub chain-apart : (l : List Bits) → Chain l → (p q : Bits) → member p l ≡ true → member q l ≡ true → leads p q ≡ true → p ≡ q
chain-apart [] c p q i j e = absurd (false≢true i)
chain-apart (x ∷ l) c p q i j e = go (λ a b. chain-apart l c.1 p q a b e) (member-cons p x l i) (member-cons q x l j)
  where
    go : (member p l ≡ true → member q l ≡ true → p ≡ q) → (p ≡ x) ⊎ (member p l ≡ true) → (q ≡ x) ⊎ (member q l ≡ true) → p ≡ q
    go ih (inl a) (inl b) = a ∙ sym b
    go ih (inl a) (inr b) = no e (rw a (ahead-leads x q (c.0 q b)))
    go ih (inr a) (inl b) = no e (rw b (ahead-led x p (c.0 p a)))
    go ih (inr a) (inr b) = ih a b

-- the last member, and the others
pub chain-last : (l : List Bits) (b : Bits) → Chain (l ++ (b ∷ [])) → (q : Bits) → member q (l ++ (b ∷ [])) ≡ true → (q ≡ b) ⊎ (ahead q b ≡ true)
chain-last l b c q k = go (member-append q l (b ∷ []) k)
  where
    go : (member q l ≡ true) ⊎ (member q (b ∷ []) ≡ true) → (q ≡ b) ⊎ (ahead q b ≡ true)
    go (inl h) = inr (chain-across l (b ∷ []) c q h b (member-first b []))
    go (inr h) = inl (member-one q b h)

-- What is ahead of the last member's end is behind all members.
pub last-ahead : (l : List Bits) (b : Bits) → Chain (l ++ (b ∷ [])) → (q r : Bits) → member q (l ++ (b ∷ [])) ≡ true → ahead b r ≡ true → ahead q r ≡ true
last-ahead l b c q r k h = go (chain-last l b c q k)
  where
    go : (q ≡ b) ⊎ (ahead q b ≡ true) → ahead q r ≡ true
    go (inl e) = rw e h
    go (inr e) = ahead-trans q b r e h

-- A list of members, each once, is not longer.
pub rise-fewer : (l m : List Bits) → Rise l → ((q : Bits) → member q l ≡ true → member q m ≡ true) → length l ≤ length m
rise-fewer [] m r h = omega arith
rise-fewer (p ∷ l) m r h =
    let ih = rise-fewer l (keep (λ q. not (equal p q)) m) r.1 (λ q k. member-keep (λ q. not (equal p q)) q m ∙ and_both (member q m) (not (equal p q)) (h q (member-later q p l k)) (other q (r.0 q k))) in
    omega (arith, ih, keep-fewer (equal p) m (h p (member-first p l)))
  where
    other : (q : Bits) → earlier p q ≡ true → not (equal p q) ≡ true
    other q e = rw (earlier-equal p q e)

-- What is held for a batch.
-- what covers the held ones covers what they do
covers-trans : (m l : List Bits) → ((q : Bits) → member q m ≡ true → covers l q ≡ true) → (q : Bits) → covers m q ≡ true → covers l q ≡ true
covers-trans m l h q k =
    let r = any_of-out (λ p. leads p q) m k in
    let s = any_of-out (λ p. leads p r.0) l (h r.0 r.1) in
    any_of-in (λ p. leads p q) s.0 l s.1 (leads-trans s.0 r.0 q s.2 r.2)

-- what lies beyond the bound is behind every member, unless a member covers it
beyond-ahead : (e : Place) (p q : Bits) → is_beyond e p ≡ false → is_beyond e q ≡ true → (ahead p q ≡ true) ⊎ (leads p q ≡ true)
beyond-ahead start p q n b = absurd (false≢true b)
beyond-ahead (past c) p q n b = go (compare p q)
  where
    go : Compared p q → (ahead p q ≡ true) ⊎ (leads p q ≡ true)
    go (first h) = inl h
    go (second h) = no (ahead-trans c q p b h) n
    go (outer h) = inr h
    go (inner h) = no (ahead-inside c q p b h) n

pub held_none : {a : Place} → Held [] a [] start
held_none = record { inside = λ q k. absurd (false≢true k); reach = λ q k h. absurd (false≢true k) }

module _ {S : List Bits} {a : Place} where
  -- another entry, that is not wanted and that is
  pub held-skip : {m : List Bits} {e : Place} (x : Bits) → Held S a m e → (is_past a x ≡ false) ⊎ (is_beyond e x ≡ true) → Held (S ++ (x ∷ [])) a m e
  held-skip {m} {e} x h w = record { inside = λ q k. let i = h.inside q k in (any_of-left (equal q) S (x ∷ []) i.0, i.1, i.2); reach = λ q k i. go q i (member-append q S (x ∷ []) k) w }
    where
      go : (q : Bits) → is_past a q ≡ true → (member q S ≡ true) ⊎ (member q (x ∷ []) ≡ true) → (is_past a x ≡ false) ⊎ (is_beyond e x ≡ true) → (covers m q ≡ true) ⊎ (is_beyond e q ≡ true)
      go q i (inl k) w = h.reach q k i
      go q i (inr k) (inl n) = no i (rw (member-one q x k) n)
      go q i (inr k) (inr b) = inr (rw (member-one q x k) b)

  pub held-put : {m : List Bits} {e : Place} (x : Bits) → Held S a m e → is_past a x ≡ true → is_beyond e x ≡ false → Held (S ++ (x ∷ [])) a (m ++ (x ∷ [])) e
  held-put {m} {e} x h w b = record { inside = λ q k. in_both q (member-append q m (x ∷ []) k); reach = λ q k i. go q i (member-append q S (x ∷ []) k) }
    where
      in_both : (q : Bits) → (member q m ≡ true) ⊎ (member q (x ∷ []) ≡ true) → (member q (S ++ (x ∷ [])) ≡ true) × (is_past a q ≡ true) × (is_beyond e q ≡ false)
      in_both q (inl k) = let i = h.inside q k in (any_of-left (equal q) S (x ∷ []) i.0, i.1, i.2)
      in_both q (inr k) = let j = member-one q x k in (any_of-right (equal q) S (x ∷ []) k, rw j w, rw j b)

      left : (q : Bits) → (covers m q ≡ true) ⊎ (is_beyond e q ≡ true) → (covers (m ++ (x ∷ [])) q ≡ true) ⊎ (is_beyond e q ≡ true)
      left q (inl c) = inl (any_of-left (λ p. leads p q) m (x ∷ []) c)
      left q (inr c) = inr c

      go : (q : Bits) → is_past a q ≡ true → (member q S ≡ true) ⊎ (member q (x ∷ []) ≡ true) → (covers (m ++ (x ∷ [])) q ≡ true) ⊎ (is_beyond e q ≡ true)
      go q i (inl k) = left q (h.reach q k i)
      go q i (inr k) = inl (any_of-right (λ p. leads p q) m (x ∷ []) (rw (member-one q x k, leads-refl x)))

  pub held-squeezed : {m l : List Bits} {e : Place} → Held S a m e → Squeezed m l → Held S a l e
  held-squeezed {m} {l} {e} h s = record { inside = λ q k. h.inside q (s.inside q k); reach = λ q k i. go q (h.reach q k i) }
    where
      go : (q : Bits) → (covers m q ≡ true) ⊎ (is_beyond e q ≡ true) → (covers l q ≡ true) ⊎ (is_beyond e q ≡ true)
      go q (inl k) = inl (covers-trans m l s.reach q k)
      go q (inr k) = inr k

  pub held-batch : {l : List Bits} {e : Place} → Held S a l e → Chain l → Batch S a l (is_bound e)
  held-batch {l} {e} h c =
      record { chain = c; inside = λ q k. let i = h.inside q k in (i.0, i.1); reach = λ q k i. go q (covers l q) refl (h.reach q k i) }
    where
      bound : (e : Place) (q : Bits) → is_beyond e q ≡ true → is_bound e ≡ true
      bound start q b = b
      bound (past c) q b = refl

      not-led : (q p : Bits) → covers l q ≡ false → member p l ≡ true → leads p q ≡ true → ahead p q ≡ true
      not-led q p n k b = no (any_of-in (λ p. leads p q) p l k b) n

      of : (q p : Bits) → covers l q ≡ false → member p l ≡ true → (ahead p q ≡ true) ⊎ (leads p q ≡ true) → ahead p q ≡ true
      of q p n k (inl b) = b
      of q p n k (inr b) = not-led q p n k b

      go : (q : Bits) (x : Bool) → covers l q ≡ x → (covers l q ≡ true) ⊎ (is_beyond e q ≡ true) → (covers l q ≡ true) ⊎ ((is_bound e ≡ true) × AllAhead l q)
      go q true n w = inl n
      go q false n (inl w) = inl w
      go q false n (inr w) = inr (bound e q w, λ p k. of q p n k (beyond-ahead e p q (h.inside p k).2 w))

  -- cut behind the member b, which is the bound from then on
  module _ {e : Place} (l : List Bits) (b : Bits) (m : List Bits) (h : Held S a ((l ++ (b ∷ [])) ++ m) e) (c : Chain ((l ++ (b ∷ [])) ++ m)) where
    abbrev front : List Bits
    front = l ++ (b ∷ [])

    not_behind : (q : Bits) → (q ≡ b) ⊎ (ahead q b ≡ true) → ahead b q ≡ false
    not_behind q (inl e) = rw e (ahead-self b)
    not_behind q (inr e) = flip (ahead b q) refl
      where
        flip : (x : Bool) → ahead b q ≡ x → ahead b q ≡ false
        flip true y = no (ahead-trans q b q e y) (ahead-self q)
        flip false y = y

    led : (q r : Bits) → leads r q ≡ true → (member r front ≡ true) ⊎ (member r m ≡ true) → (covers front q ≡ true) ⊎ (ahead b q ≡ true)
    led q r e (inl k) = inl (any_of-in (λ p. leads p q) r front k e)
    led q r e (inr k) = inr (ahead-inside b r q (chain-across front m c b (member-last l b) r k) e)

    beyond : (q : Bits) → (ahead b q ≡ true) ⊎ (leads b q ≡ true) → (covers front q ≡ true) ⊎ (ahead b q ≡ true)
    beyond q (inl k) = inr k
    beyond q (inr k) = inl (any_of-in (λ p. leads p q) b front (member-last l b) k)

    reached : (q : Bits) → (covers (front ++ m) q ≡ true) ⊎ (is_beyond e q ≡ true) → (covers front q ≡ true) ⊎ (ahead b q ≡ true)
    reached q (inl k) = let r = any_of-out (λ p. leads p q) (front ++ m) k in led q r.0 r.2 (member-append r.0 front m r.1)
    reached q (inr k) = beyond q (beyond-ahead e b q (h.inside b (any_of-left (equal b) front m (member-last l b))).2 k)

    pub held_cut : Held S a (l ++ (b ∷ [])) (past b)
    held_cut =
        record {
          inside = λ q k. let i = h.inside q (any_of-left (equal q) front m k) in (i.0, i.1, not_behind q (chain-last l b (chain_left front m c) q k));
          reach = λ q k i. reached q (h.reach q k i);
        }

-- The parts of what is left, batch by batch.
module _ {S : List Bits} where
  pub part-start : Part S start []
  part-start = record { chain = tt; inside = λ q k. absurd (false≢true k); reach = λ q k. inr refl; ends = λ q r k h. absurd (false≢true k) }

  module _ {a : Place} {d : List Bits} (p : Part S a d) where
    -- a batch behind the part
    module _ {l : List Bits} {more : Bool} (b : Batch S a l more) where
      chain-both : Chain (d ++ l)
      chain-both = chain-append d l p.chain b.chain (λ q k r j. p.ends q r k (b.inside r j).1)

      inside_both : (q : Bits) → member q (d ++ l) ≡ true → member q S ≡ true
      inside_both q k = go (member-append q d l k)
        where
          go : (member q d ≡ true) ⊎ (member q l ≡ true) → member q S ≡ true
          go (inl i) = p.inside q i
          go (inr i) = (b.inside q i).0

      reach-both : (q : Bits) → member q S ≡ true → (covers (d ++ l) q ≡ true) ⊎ ((more ≡ true) × AllAhead l q)
      reach-both q k = go (p.reach q k)
        where
          on : (covers l q ≡ true) ⊎ ((more ≡ true) × AllAhead l q) → (covers (d ++ l) q ≡ true) ⊎ ((more ≡ true) × AllAhead l q)
          on (inl i) = inl (any_of-right (λ m. leads m q) d l i)
          on (inr i) = inr i

          go : (covers d q ≡ true) ⊎ (is_past a q ≡ true) → (covers (d ++ l) q ≡ true) ⊎ ((more ≡ true) × AllAhead l q)
          go (inl i) = inl (any_of-left (λ m. leads m q) d l i)
          go (inr i) = on (b.reach q k i)

      pub part_end : more ≡ false → Whole S (d ++ l)
      part_end n = record { chain = chain-both; inside = inside_both; reach = λ q k. go q (reach-both q k) }
        where
          go : (q : Bits) → (covers (d ++ l) q ≡ true) ⊎ ((more ≡ true) × AllAhead l q) → covers (d ++ l) q ≡ true
          go q (inl i) = i
          go q (inr i) = no i.0 n

    pub part_step : (l : List Bits) (c : Bits) {more : Bool} → Batch S a (l ++ (c ∷ [])) more → Part S (past c) (d ++ (l ++ (c ∷ [])))
    part_step l c {more} b = record { chain = chain-both b; inside = inside_both b; reach = λ q k. go q (reach-both b q k); ends = λ q r k h. ends q r h (member-append q d (l ++ (c ∷ [])) k) }
      where
        go : (q : Bits) → (covers (d ++ (l ++ (c ∷ []))) q ≡ true) ⊎ ((more ≡ true) × AllAhead (l ++ (c ∷ [])) q) → (covers (d ++ (l ++ (c ∷ []))) q ≡ true) ⊎ (ahead c q ≡ true)
        go q (inl i) = inl i
        go q (inr i) = inr (i.1 c (member-last l c))

        ends : (q r : Bits) → ahead c r ≡ true → (member q d ≡ true) ⊎ (member q (l ++ (c ∷ [])) ≡ true) → ahead q r ≡ true
        ends q r h (inl k) = ahead-trans q c r (p.ends q c k (b.inside c (member-last l c)).1) h
        ends q r h (inr k) = last-ahead l c b.chain q r k h

    -- where nothing is left behind it
    pub part_none : {more : Bool} → Batch S a [] more → more ≡ false → Whole S d
    part_none b n = rw (append-nil d) at (part_end b n)
