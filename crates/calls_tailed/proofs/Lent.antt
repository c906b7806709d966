-- What is lent to a call whose answer has a tail: rows or bytes that are all the same, which come back as the call leaves them. A part that comes back
-- is a write over its place.
use mathlib.Core.Bool.{Bool, true, false, cond}
use mathlib.Core.List.{List, [], ◌∷◌, ◌++◌}
use mathlib.Core.Path.{◌≡◌, refl, sym, ap, ◌∙◌}
use Prim.Native.Nat.{ℕ, zero, suc, ◌+◌, ◌-◌, ◌%◌, ◌≤◌}
use native.Mathlib.Numerals.{add-one}
use native.Mathlib.Omega.{arith}
use lib.Dec.{eqb}
use lib.ListN.{length, get_or, take, drop, replicate, length-replicate, length-append, length-drop}
use lib.Seq.{drop-cons, take_all}
use borrow.Author.Tests.{eqb-true, eq-eqb, ne_eqb}
use Rattle.nets.specs.Networks.{has_bit_past}
use Rattle.nets.specs.Refusals.{answered}
use Rattle.nodes.specs.Words.{put}
use Rattle.nodes.proofs.Put.{length-put}
use Rattle.pool_state.specs.Decode.{Decoded, decode}
use Rattle.pool_state.specs.Rules.{answer_as}
use Rattle.pool_state.specs.Changes.{list_at}
use Rattle.trie_paths.specs.Rows as listing
use Rattle.trie_paths.proofs.RowForm.{put-over}
use Rattle.pool_state.proofs.Answered.{left_on-either}
use Rattle.ranges.specs.Addresses.{range_rows}
use Rattle.rangelist.specs.Calls as ranges
use Rattle.listing.specs.Calls.{list_rules, rows_after, Listed}
use Rattle.setfile.specs.Calls.{file_at, save_rules, bytes_after, Saved}
use Rattle.salvage.specs.Calls.{saved_of, salvage_rules, salvaged_as, salvage_left, Salvages}
use Rattle.nets.specs.Refusals.{first_no}
use Rattle.nets.proofs.Strings.{cond_both}
use Rattle.text.specs.Answers.{none_written, written_as, over_bytes}
use Rattle.text_either.specs.Either.{line_either, either_refusal, WroteEither}
use Rattle.text_either.proofs.RoundTrip.{either_refusal-zero}
use Rattle.calls_bytes.specs.Bytes.{u64_bytes}
use Rattle.calls_bytes.specs.Tails.{words_from, row_bytes}
use Rattle.calls_bytes.specs.declared.Call.{Call}
use Rattle.calls_bytes.specs.declared.Reply.{Reply}
use Rattle.calls_bytes.proofs.Rows.{take_put}
use Rattle.calls_replies.specs.Replies.{one_reply, write_reply, salvage_reply}
use Rattle.calls_tailed.specs.Tailed.{lent_rows, asks_ranges, rows_of, list_reply, lent_bytes, line_bytes, line_reply, save_bytes, save_reply, mend_bytes, mend_reply, RowsBy, Listing, Lining, Saving, Mending}
use Rattle.std.specs.Prelude.{Result}
use Rattle.nets.specs.declared.Refusal.{Refusal}
use Rattle.salvage.specs.declared.Counts.{Counts}

pub splice : (w : List ℕ) (p k : ℕ) (ys : List ℕ) → length ys ≡ k → p + k ≤ length w → take p w ++ (ys ++ drop k (drop p w)) ≡ put w p ys
unfolding put
splice [] zero zero [] e h = refl
splice [] zero zero (y ∷ ys) e h = absurd (omega arith)
splice [] zero (suc k) ys e h = absurd (omega arith)
splice [] (suc p) k ys e h = absurd (omega arith)
splice (z ∷ w) (suc p) k ys e h = rw (splice w p k ys e (omega arith))
splice (z ∷ w) zero zero [] e h = refl
splice (z ∷ w) zero zero (y ∷ ys) e h = absurd (omega arith)
splice (z ∷ w) zero (suc k) [] e h = absurd (omega arith)
splice (z ∷ w) zero (suc k) (y ∷ ys) e h = rw (splice w zero k ys (omega arith) (omega arith))

-- what stands at a place that was written
pub part-put : (w : List ℕ) (p k : ℕ) (xs : List ℕ) → length xs ≡ k → p + k ≤ length w → take k (drop p (put w p xs)) ≡ xs
unfolding put
part-put w zero k xs e h = take_put w xs k e (omega arith)
part-put [] (suc p) k xs e h = absurd (omega arith)
part-put (z ∷ w) (suc p) k xs e h = part-put w p k xs e (omega arith)

pub words_from-take : (w : List ℕ) (p n : ℕ) → p + n ≤ length w → words_from w p n ≡ take n (drop p w)
unfolding words_from
words_from-take w p zero h = refl
words_from-take w p (suc n) h =
    rw (drop-cons w p 0 (omega arith)) (ap (λ (l : List ℕ). get_or w p 0 ∷ l) (words_from-take w (p + 1) n (omega arith) ∙ rw add-one))

length-rows_by : (v : List ℕ) (d : Decoded) (k : ℕ) (x : Bool) → length (cond x (ranges.rows_after v d k) (rows_after v d k)) ≡ length v
unfolding rows_after ranges.rows_after
length-rows_by v d k true = left_on-either (λ u. length u ≡ length v) (ranges.ranges_rules k (length v)) v _ d refl (λ S. length-put v 0 (range_rows (ranges.ranges_at S k)))
length-rows_by v d k false = left_on-either (λ u. length u ≡ length v) (list_rules k (length v)) v _ d refl (λ S. length-put v 0 (listing.rows_of S.family (list_at S k)))

-- a call by its code
module _ {w : List ℕ} {c : Call} {v u : List ℕ} {a : (Result ℕ Refusal)} where
  pub by-ranges : c.code ≡ 28 → ranges.Ranges w c.a v a u → RowsBy w c v a u
  by-ranges e h = let q = eq-eqb c.code 28 e in record { answer = rw q h.answer; rows = rw q h.rows }

  pub by-list : (c.code ≡ 28 → ⊥) → Listed w c.a v a u → RowsBy w c v a u
  by-list n h = let q = ne_eqb c.code 28 n in record { answer = rw q h.answer; rows = rw q h.rows }

-- the rows of a list, or of ranges
module _ (w v : List ℕ) (c : Call) (o : List ℕ) (at : ℕ) (fits : c.b ≤ length v) where
  pub listing-is : {v₁ u o' : List ℕ} {a : (Result ℕ Refusal)} {r : Reply} → v₁ ≡ put v 0 (lent_rows c) → RowsBy w c (take c.b v₁) a u
      → o' ≡ put o at (row_bytes u64_bytes (words_from (u ++ drop c.b v₁) 0 c.b)) → r ≡ one_reply (answer_as a) → Listing w v c o at r (u ++ drop c.b v₁) o'
  unfolding rows_of list_reply
  listing-is {v₁} {u} e l f g =
      let n : length (lent_rows c) ≡ c.b = length-replicate c.b c.c in
      let t : take c.b v₁ ≡ lent_rows c = rw e (take_put v (lent_rows c) c.b n fits) in
      let x : u ≡ rows_of w c = rw t at l.rows in
      let m : length u ≡ c.b = rw x (length-rows_by (lent_rows c) (decode w) c.a (asks_ranges c) ∙ n) in
      let k : length v₁ ≡ length v = rw e (length-put v 0 (lent_rows c)) in
      let s : u ++ drop c.b v₁ ≡ put v₁ 0 u = splice v₁ 0 c.b u m (omega arith) in
      let z : put v₁ 0 u ≡ put v 0 u = rw e (put-over v 0 (lent_rows c) u (n ∙ sym m)) in
      let y : words_from (u ++ drop c.b v₁) 0 c.b ≡ u =
      rw s (words_from-take (put v₁ 0 u) 0 c.b (rw (length-put v₁ 0 u) (omega arith)) ∙ take_put v₁ u c.b m (omega arith)) in
      record { reply = g ∙ ap one_reply (l.answer ∙ rw (t, n)); rows = s ∙ (z ∙ ap (put v 0) x); tail = f ∙ ap (λ q. put o at (row_bytes u64_bytes q)) (y ∙ x) }

-- bytes that are filled, k of them lent, and come back as new
module _ (c : Call) (o o₁ : List ℕ) (at k : ℕ) (fits : at + c.b ≤ length o) (all : k ≡ c.b) (filled : o₁ ≡ put o at (lent_bytes c)) where
  length-lent : length (lent_bytes c) ≡ c.b
  length-lent = length-replicate c.b (c.c % 256)

  lent_is : take k (drop at o₁) ≡ lent_bytes c
  lent_is = rw (filled, all) (part-put o at c.b (lent_bytes c) length-lent fits)

  back_is : (new : List ℕ) → length new ≡ length (take k (drop at o₁)) → take at o₁ ++ (new ++ drop k (drop at o₁)) ≡ put o at new
  back_is new m =
      let l : length new ≡ k = m ∙ (ap length lent_is ∙ (length-lent ∙ sym all)) in
      let j : length o₁ ≡ length o = rw filled (length-put o at (lent_bytes c)) in
      splice o₁ at k new l (omega arith) ∙ rw filled (put-over o at (lent_bytes c) new (length-lent ∙ (sym all ∙ sym l)))

  pub lining-is : {new : List ℕ} {a : (Result (ℕ × Bool) Refusal)} {r : Reply} → length new ≡ length (take k (drop at o₁)) → WroteEither c.net (take k (drop at o₁)) new a → r ≡ write_reply (written_as a)
      → Lining c o at r (take at o₁ ++ (new ++ drop k (drop at o₁)))
  unfolding line_bytes line_reply
  lining-is {new} {a} m w g =
      let e : written_as a ≡ answered (either_refusal c.net c.b) none_written (length (line_either c.net), has_bit_past c.net) = w.answer ∙ rw (lent_is, length-lent) in
      record { reply = g ∙ ap write_reply e; tail = back_is new m ∙ ap (put o at) (w.bytes ∙ rw (lent_is, length-lent)) }

  pub saving-is : {w new : List ℕ} {a : (Result ℕ Refusal)} {r : Reply} → length new ≡ length (take k (drop at o₁)) → Saved w c.a (take k (drop at o₁)) a new → r ≡ one_reply (answer_as a)
      → Saving w c o at r (take at o₁ ++ (new ++ drop k (drop at o₁)))
  unfolding save_bytes save_reply
  saving-is {new = new} m s g =
      record { reply = g ∙ ap one_reply (s.answer ∙ rw (lent_is, length-lent)); tail = back_is new m ∙ ap (put o at) (s.bytes ∙ rw lent_is) }

  pub mending-is : (s : List ℕ) {new : List ℕ} {a : (Result Counts Refusal)} {r : Reply} → length new ≡ length (take k (drop at o₁)) → Salvages (take (length s - 35) (drop 35 s)) (take k (drop at o₁)) a new → r ≡ salvage_reply (salvaged_as a)
      → Mending c s o at r (take at o₁ ++ (new ++ drop k (drop at o₁)))
  unfolding mend_bytes mend_reply
  mending-is s {new} m i g =
      let l = rw (take_all (length s - 35) (drop 35 s) (omega (arith, length-drop 35 s))) at i in
      record { reply = g ∙ ap salvage_reply (l.answer ∙ rw (lent_is, length-lent)); tail = back_is new m ∙ ap (put o at) (l.bytes ∙ rw lent_is) }

-- a tail has as many numbers or bytes as the call asks for
pub length-rows_of : (w : List ℕ) (c : Call) → length (rows_of w c) ≡ c.b
unfolding rows_of
length-rows_of w c = length-rows_by (lent_rows c) (decode w) c.a (asks_ranges c) ∙ length-replicate c.b c.c

length-line : (t : Bool) (s old : List ℕ) → (t ≡ true → length s ≤ length old) → length (cond t (over_bytes s old) old) ≡ length old
length-line false s old h = refl
length-line true s old h = let i = h refl in simp (length-append, length-drop) (omega arith)

length-bytes_after : (v : List ℕ) (d : Decoded) (k : ℕ) → length (bytes_after v d k) ≡ length v
unfolding bytes_after
length-bytes_after v d k = left_on-either (λ u. length u ≡ length v) (save_rules k (length v)) v _ d refl (λ S. length-put v 0 (file_at S k))

pub length-save_bytes : (w : List ℕ) (c : Call) → length (save_bytes w c) ≡ c.b
unfolding save_bytes
length-save_bytes w c = length-bytes_after (lent_bytes c) (decode w) c.a ∙ length-replicate c.b (c.c % 256)

pub length-line_bytes : (c : Call) → length (line_bytes c) ≡ c.b
unfolding line_bytes
length-line_bytes c =
    let n : length (replicate c.b (c.c % 256)) ≡ c.b = length-replicate c.b (c.c % 256) in
    length-line (eqb (either_refusal c.net c.b) 0) (line_either c.net) (replicate c.b (c.c % 256)) (λ e. rw n (either_refusal-zero c.net c.b (eqb-true _ _ e)).1) ∙ n

pub length-mend_bytes : (c : Call) (s : List ℕ) → length (mend_bytes c s) ≡ c.b
unfolding mend_bytes salvage_left
length-mend_bytes c s =
    let n : length (lent_bytes c) ≡ c.b = length-replicate c.b (c.c % 256) in
    cond_both (λ u. length u ≡ c.b) (eqb (first_no (salvage_rules (drop 35 s) (length (lent_bytes c)))) 0) (put (lent_bytes c) 0 (saved_of (drop 35 s))) (lent_bytes c)
    (length-put (lent_bytes c) 0 (saved_of (drop 35 s)) ∙ n) n
