-- What the laws of a pool ask of a form: a list has as many words as its nodes times the stride, it is read exactly where its words stand (`StandsL`), and no list's words begin another's.
-- Given here for both forms, from the laws of tries in words. Assumes nothing.
use mathlib.Core.Path.{◌≡◌, refl, sym, ap, ◌∙◌, subst}
use mathlib.Core.Bool.{Bool, true, false, cond, false≢true, true≢false}
use mathlib.Core.List.{List, [], ◌∷◌, ◌++◌, map}
use Prim.Native.Nat.{ℕ, zero, suc, ◌+◌, ◌-◌, ◌*◌, ◌≤◌}
use native.Mathlib.Nat.{mul-add, one-mul, mul-le-mul_right}
use native.Mathlib.Decide.{ℕ_discrete}
use native.Mathlib.Omega.{arith}
use lib.ListN.{length}
use Rattle.nets.specs.Bits.{Bits, before, equal}
use Rattle.nets.specs.Lists.{is_list, insert_in, in_order, leadings, all_leadings, nodes_l, member}
use Rattle.nets.specs.Networks.{width}
use Rattle.nets.specs.Tries.{Trie, none, size, levels, list_of, trie_of}
use Rattle.nets.proofs.Nodes.{nodes_l-list_of, nodes_l-empty}
use Rattle.nets.proofs.TrieOf.{is_list-within, levels-trie_of, list_of-trie_of, trie_of-list_of, is_list-list_of}
use Rattle.nodes.specs.Words.{Has, place, enc}
use Rattle.nodes.specs.Parse.{Room, Read, bad, ok, parse, after, Stands}
use Rattle.nodes.proofs.Has.{has-at}
use Rattle.nodes.proofs.Tries.{length-enc}
use Rattle.nodes.proofs.Parsed.{parse-of, stands}
use Rattle.branch_points.specs.BranchPoints.{kept_nodes_l, kept_l}
use Rattle.branch_points.specs.KeptTries.{kept_size}
use Rattle.branch_points.proofs.Counts.{kept_nodes_l-list_of, kept_nodes_l-twice, kept_nodes_l-empty}
use Rattle.kept_nodes.specs.Words.{stride, spot, kept_enc}
use Rattle.kept_nodes.specs.Parse.{KeptRoom, kept_parse, kept_after, KeptStands}
use Rattle.kept_nodes.proofs.Places.{stride-4, stride-6, length-kept_enc}
use Rattle.kept_nodes.proofs.Parsed as kept
use Rattle.kept_nodes.proofs.Unique as kept-one
use Rattle.pool_state.specs.Kept.{Form, first, second, form_of, same_form, held_l, enc_l, stride_l, spot_l, RoomL, bad_list, ok_list, list_read, read_l, end_l}
use Rattle.branch_points.proofs.Members.{member-kept_l}
use Rattle.nets.proofs.Strings.{equal-refl}

pub same_form-is : (F G : Form) → same_form F G ≡ true → F ≡ G
same_form-is first first e = refl
same_form-is first second e = absurd (false≢true e)
same_form-is second first e = absurd (false≢true e)
same_form-is second second e = refl

pub same_form-refl : (F : Form) → same_form F F ≡ true
same_form-refl first = refl
same_form-refl second = refl

-- The form, by the test for the first.
not_first : (F : Form) → same_form F first ≡ false → F ≡ second
not_first first e = absurd (true≢false e)
not_first second e = refl

module _ (F : Form) {r : Bool} (e : r ≡ same_form F first) where
  pub is-first : r ≡ true → F ≡ first
  is-first q = same_form-is F first (sym e ∙ q)

  pub is-second : r ≡ false → F ≡ second
  is-second q = not_first F (sym e ∙ q)

pub form-some : (x : ℕ) → (x ≡ 0 → ⊥) → form_of x ≡ second
form-some zero ne = absurd (ne refl)
form-some (suc x) ne = refl

-- Places: so many nodes further on; the first node's; and the words for each node are enough.
module _ (F : Form) (v b : ℕ) where
  pub spot_l-on : (i m : ℕ) → 1 ≤ i → spot_l F v b i + stride_l F v * m ≡ spot_l F v b (i + m)
  unfolding spot_l
  spot_l-on i m pos =
      let e : i + m - 1 ≡ (i - 1) + m = omega arith in
      rw (e, mul-add (stride_l F v) (i - 1) m) (omega arith)

  pub spot_l-one : spot_l F v b 1 ≡ b
  unfolding spot_l
  spot_l-one = omega arith

-- in each form
pub spot_l-first : (v b i : ℕ) → spot_l first v b i ≡ place b i
unfolding spot_l stride_l
spot_l-first v b i = omega arith

pub spot_l-second : (v b i : ℕ) → spot_l second v b i ≡ spot v b i
unfolding spot_l stride_l spot
spot_l-second v b i = refl

stride_few : (v : ℕ) → stride v ≤ 8
stride_few v = go (ℕ_discrete v 4)
  where
    go : Dec (v ≡ 4) → stride v ≤ 8
    go (yes e) = omega (arith, stride-4 v e)
    go (no ne) = omega (arith, stride-6 v ne)

pub stride_l-few : (F : Form) (v : ℕ) → stride_l F v ≤ 8
unfolding stride_l
stride_l-few first v = omega arith
stride_l-few second v = stride_few v

pub spot_l-few : (F : Form) (v b i : ℕ) → spot_l F v b i ≤ b + 8 * (i - 1)
unfolding spot_l
spot_l-few F v b i = omega (arith, mul-le-mul_right (i - 1) (stride_l-few F v))

pub spot_l-from : (F : Form) (v b i : ℕ) → b ≤ spot_l F v b i
unfolding spot_l
spot_l-from F v b i = omega arith

pub stride_l-is : (v : ℕ) → stride_l first v ≡ 1
unfolding stride_l
stride_l-is v = refl

pub stride_l-one : (v n : ℕ) → stride_l first v * n ≡ n
unfolding stride_l
stride_l-one v n = omega arith

pub stride_l-words : (F : Form) (v m : ℕ) → stride_l F v * m ≤ 8 * m
stride_l-words F v m = mul-le-mul_right m (stride_l-few F v)

-- The trie of a list.
list-none : list_of none ≡ []
unfolding list_of levels
list-none = refl

list-some : (t : Trie) → (t ≡ none → ⊥) → list_of t ≡ [] → ⊥
unfolding trie_of
list-some t ne e = ne (sym (trie_of-list_of t) ∙ ap trie_of e)

-- The nodes and words of a trie's list, in the first form
module _ (t : Trie) where
  pub held_l-list_of : held_l first (list_of t) ≡ size t
  unfolding held_l
  held_l-list_of = nodes_l-list_of t

  pub enc_l-list_of : (v : ℕ) → enc_l first v (list_of t) ≡ enc t
  unfolding enc_l
  enc_l-list_of v = ap enc (trie_of-list_of t)

  -- and in the second
  pub held_l-kept_of : held_l second (list_of t) ≡ kept_size t
  unfolding held_l
  held_l-kept_of = kept_nodes_l-list_of t

  pub enc_l-kept_of : (v : ℕ) → enc_l second v (list_of t) ≡ kept_enc v [] t
  unfolding enc_l
  enc_l-kept_of v = ap (kept_enc v []) (trie_of-list_of t)

module _ (d : ℕ) (l : List Bits) (e : is_list d l ≡ true) where
  pub trie-some : (l ≡ [] → ⊥) → trie_of l ≡ none → ⊥
  trie-some ne z = ne (sym (list_of-trie_of d l e) ∙ ap list_of z ∙ list-none)

  pub size-trie_of : size (trie_of l) ≡ held_l first l
  size-trie_of = sym (held_l-list_of (trie_of l)) ∙ ap (held_l first) (list_of-trie_of d l e)

  pub kept_size-trie_of : kept_size (trie_of l) ≡ held_l second l
  kept_size-trie_of = sym (held_l-kept_of (trie_of l)) ∙ ap (held_l second) (list_of-trie_of d l e)

  pub levels-list : levels (trie_of l) ≤ suc d
  levels-list = levels-trie_of d l (is_list-within d l e)

  -- as many words as the nodes times the stride
  pub length-enc_l : (F : Form) (v : ℕ) → length (enc_l F v l) ≡ stride_l F v * held_l F l
  unfolding enc_l stride_l
  length-enc_l first v = length-enc (trie_of l) ∙ size-trie_of ∙ sym (one-mul (held_l first l))
  length-enc_l second v = length-kept_enc v [] (trie_of l) ∙ ap (λ n. stride v * n) kept_size-trie_of

-- No list but the empty one is without a node.
pub held_l-nil : (F : Form) → held_l F [] ≡ 0
unfolding held_l
held_l-nil first = nodes_l-empty
held_l-nil second = kept_nodes_l-empty

pub enc_l-nil : (F : Form) (v : ℕ) → enc_l F v [] ≡ []
unfolding enc_l trie_of enc kept_enc
enc_l-nil first v = refl
enc_l-nil second v = refl

insert_in-some : (p : Bits) (l : List Bits) → length (insert_in p l) ≡ 0 → ⊥
insert_in-some p [] e = omega arith
insert_in-some p (m ∷ l) e = go (before p m) (equal p m) e
  where
    go : (a b : Bool) → length (cond a (p ∷ m ∷ l) (cond b (m ∷ l) (m ∷ insert_in p l))) ≡ 0 → ⊥
    go true b z = omega arith
    go false true z = omega arith
    go false false z = omega arith

leadings-some : (p : Bits) (l : List Bits) → length (in_order (leadings p ++ l)) ≡ 0 → ⊥
leadings-some [] l e = insert_in-some [] (in_order l) e
leadings-some (b ∷ p) l e = insert_in-some [] (in_order (map (λ q. b ∷ q) (leadings p) ++ l)) e

nodes_l-none : (l : List Bits) → nodes_l l ≡ 0 → l ≡ []
unfolding nodes_l
nodes_l-none [] e = refl
nodes_l-none (p ∷ l) e = absurd (leadings-some p (all_leadings l) e)

length_none : (l : List Bits) → length l ≡ 0 → l ≡ []
length_none [] e = refl
length_none (p ∷ l) e = absurd (omega arith)

-- a member is kept
kept-some : (p : Bits) (l : List Bits) → kept_nodes_l (p ∷ l) ≡ 0 → ⊥
unfolding kept_nodes_l
kept-some p l e =
    let a = member-kept_l (p ∷ l) p in
    let b : member p (kept_l (p ∷ l)) ≡ true = rw (a, equal-refl p) refl in
    false≢true (ap (member p) (sym (length_none (kept_l (p ∷ l)) e)) ∙ b)

kept_nodes_l-none : (l : List Bits) → kept_nodes_l l ≡ 0 → l ≡ []
kept_nodes_l-none [] e = refl
kept_nodes_l-none (p ∷ l) e = absurd (kept-some p l e)

pub held_l-none : (F : Form) (l : List Bits) → held_l F l ≡ 0 → l ≡ []
unfolding held_l
held_l-none first l e = nodes_l-none l e
held_l-none second l e = kept_nodes_l-none l e

pub room-first : {v : ℕ} {w : List ℕ} {b n : ℕ} → RoomL v w b n → Room w b n
room-first h = record { low = h.low; few = h.few; long = omega (arith, h.long) }

pub room-second : {v : ℕ} {w : List ℕ} {b n : ℕ} → RoomL v w b n → KeptRoom v w b n
room-second {v} {w} {b} {n} h = record { family = h.family; low = h.low; few = h.few; long = omega (arith, h.long, mul-le-mul_right n (stride_few v)) }

-- the place behind the last node is there
pub spot_l-end : (F : Form) {v : ℕ} {w : List ℕ} {b n : ℕ} → RoomL v w b n → (i : ℕ) → i ≤ suc n → spot_l F v b i ≤ length w
unfolding spot_l
spot_l-end F {v} {w} {b} {n} room i le = omega (arith, room.long, stride_l-words F v (i - 1))

-- in the second form twice the members less one
pub held_l-twice : (d : ℕ) (l : List Bits) → is_list d l ≡ true → held_l second l ≡ 2 * length l - 1
unfolding held_l
held_l-twice d l e = kept_nodes_l-twice d l e

-- the words w hold the list l, of the family v, at node i and within n nodes
pub record StandsL (F : Form) (v : ℕ) (w : List ℕ) (b n i : ℕ) (l : List Bits) : Type 0 where
  pub list : is_list (width v) l ≡ true
  pub within : i + held_l F l ≤ suc n
  pub has : Has w (spot_l F v b i) (enc_l F v l)

pub nil-stands : (F : Form) (v : ℕ) (w : List ℕ) (b n i : ℕ) → i ≤ suc n → spot_l F v b i ≤ length w → StandsL F v w b n i []
unfolding is_list
nil-stands F v w b n i le fit = record {
  list = refl;
  within = omega (arith, held_l-nil F);
  has = rw (enc_l-nil F v) (record { fits = omega arith; at = λ k l. absurd (omega arith) });
}

-- A list that stands there is a trie that does.
module _ {v : ℕ} {w : List ℕ} {b n i : ℕ} {l : List Bits} where
  pub stands-trie : StandsL first v w b n i l → Stands w b n (suc (width v)) i (trie_of l)
  unfolding enc_l
  stands-trie h =
      record { deep = levels-list (width v) l h.list; within = omega (arith, size-trie_of (width v) l h.list, h.within); has = has-at (spot_l-first v b i) h.has }

  pub stands-kept : StandsL second v w b n i l → KeptStands v w b n [] i (trie_of l)
  unfolding enc_l
  stands-kept h =
      record { deep = omega (arith, levels-list (width v) l h.list); within = omega (arith, kept_size-trie_of (width v) l h.list, h.within); has = has-at (spot_l-second v b i) h.has }

-- It is read,
pub read_l-of : (F : Form) {v : ℕ} {w : List ℕ} {b n i : ℕ} {l : List Bits} → 1 ≤ i → (l ≡ [] → ⊥) → StandsL F v w b n i l → read_l F v w b n i ≡ ok_list l
unfolding read_l
read_l-of first {v} {w} {b} {n} {i} {l} pos ne h =
    rw (parse-of w b n (suc (width v)) (trie_of l) i pos (trie-some (width v) l h.list ne) (stands-trie h)) (ap ok_list (list_of-trie_of (width v) l h.list))
read_l-of second {v} {w} {b} {n} {i} {l} pos ne h =
    rw (kept.parse-of v w b n (trie_of l) (suc (width v)) [] i pos (trie-some (width v) l h.list ne) (omega arith) (stands-kept h))
    (ap ok_list (list_of-trie_of (width v) l h.list))

-- and what is read is a trie's list, which stands there.
ok_list-one : {l m : List Bits} → ok_list l ≡ ok_list m → l ≡ m
ok_list-one e = cc

pub never-read : (l : List Bits) → bad_list ≡ ok_list l → ⊥
never-read l e = let z : ◌≡◌ {A = ℕ} 0 1 = cc in omega arith

list_read-ok : (x : Read) (l : List Bits) → list_read x ≡ ok_list l → (t : Trie) × (x ≡ ok t) × (list_of t ≡ l)
list_read-ok bad l e = absurd (never-read l e)
list_read-ok (ok t) l e = (t, refl, cc)

-- the list of a trie that stands there does
module _ {v : ℕ} {w : List ℕ} {b n i : ℕ} (t : Trie) (l : List Bits) (e : list_of t ≡ l) where
  trie-stands : Stands w b n (suc (width v)) i t → (t ≡ none → ⊥) → StandsL first v w b n i l × (l ≡ [] → ⊥)
  trie-stands s ne =
      let it : StandsL first v w b n i (list_of t) =
      record { list = is_list-list_of (width v) t s.deep; within = omega (arith, held_l-list_of t, s.within); has = rw (enc_l-list_of t v) (has-at (sym (spot_l-first v b i)) s.has) } in
      subst (λ m. StandsL first v w b n i m × (m ≡ [] → ⊥)) e (it, list-some t ne)

  kept-stands : KeptStands v w b n [] i t → (t ≡ none → ⊥) → StandsL second v w b n i l × (l ≡ [] → ⊥)
  kept-stands s ne =
      let it : StandsL second v w b n i (list_of t) =
      record { list = is_list-list_of (width v) t (omega (arith, s.deep)); within = omega (arith, held_l-kept_of t, s.within); has = rw (enc_l-kept_of t v) (has-at (sym (spot_l-second v b i)) s.has) } in
      subst (λ m. StandsL second v w b n i m × (m ≡ [] → ⊥)) e (it, list-some t ne)

pub read_l-stands : (F : Form) {v : ℕ} {w : List ℕ} {b n i : ℕ} {l : List Bits} → RoomL v w b n → 1 ≤ i → read_l F v w b n i ≡ ok_list l → StandsL F v w b n i l × (l ≡ [] → ⊥)
unfolding read_l
read_l-stands first {v} {w} {b} {n} {i} {l} room pos e =
    let (t, p, q) = list_read-ok (parse w b n (suc (width v)) i) l e in
    let (s, ne) = stands w b n (room-first room) (suc (width v)) i t pos p in
    trie-stands t l q s ne
read_l-stands second {v} {w} {b} {n} {i} {l} room pos e =
    let (t, p, q) = list_read-ok (kept_parse v w b n (suc (width v)) [] i) l e in
    let (s, ne) = kept.stands (room-second room) (suc (width v)) [] i t pos p in
    kept-stands t l q s ne

-- No list's words begin another's: of two lists that stand at one place each is the other.
pub enc_l-one : (F : Form) (v : ℕ) {w : List ℕ} {p : ℕ} {l m : List Bits} → is_list (width v) l ≡ true → is_list (width v) m ≡ true → (l ≡ [] → ⊥) → (m ≡ [] → ⊥)
    → Has w p (enc_l F v l) → Has w p (enc_l F v m) → l ≡ m
enc_l-one F v {w} {p} {l} {m} e f ne nf h g =
    let n = held_l F l + held_l F m in
    let x : StandsL F v w p n 1 l = record { list = e; within = omega arith; has = has-at (sym (spot_l-one F v p)) h } in
    let y : StandsL F v w p n 1 m = record { list = f; within = omega arith; has = has-at (sym (spot_l-one F v p)) g } in
    let a = read_l-of F (omega arith) ne x in
    let b = read_l-of F (omega arith) nf y in
    ok_list-one (sym a ∙ b)

-- The first form's count and words by their names.
pub held_l-is : (l : List Bits) → held_l first l ≡ nodes_l l
unfolding held_l
held_l-is l = refl

pub enc_l-trie : (v : ℕ) (l : List Bits) → enc_l first v l ≡ enc (trie_of l)
unfolding enc_l
enc_l-trie v l = refl

pub end_l-parse : (v : ℕ) (w : List ℕ) (b n i : ℕ) → end_l first i (read_l first v w b n i) ≡ after i (parse w b n (suc (width v)) i)
unfolding read_l end_l after
end_l-parse v w b n i = go (parse w b n (suc (width v)) i)
  where
    go : (x : Read) → end_l first i (list_read x) ≡ after i x
    go bad = refl
    go (ok t) = ap (λ m. i + m) (held_l-list_of t)

pub end_l-kept : (v : ℕ) (w : List ℕ) (b n i : ℕ) → end_l second i (read_l second v w b n i) ≡ kept_after i (kept_parse v w b n (suc (width v)) [] i)
unfolding read_l end_l kept_after
end_l-kept v w b n i = go (kept_parse v w b n (suc (width v)) [] i)
  where
    go : (x : Read) → end_l second i (list_read x) ≡ kept_after i x
    go bad = refl
    go (ok t) = ap (λ m. i + m) (held_l-kept_of t)
