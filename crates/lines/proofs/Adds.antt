-- Lines are adds one after the other. What the calls leave, also after a refused line, is what adding the networks of the taken lines leaves: from a sound pool a sound
-- one, with those networks in set 0 and every other set as it was. Assumes nothing.
use Rattle.std.proofs.Common.{◌≡◌, ℕ, zero, suc, ◌+◌, ◌-◌, ◌<◌, ◌≤◌, Bool, true, false, cond, eqb, List, [], ◌∷◌, ◌++◌, length, get_or, take, sym, refl, ap, ◌∙◌, arith, eqb-true}
use borrow.Author.Tests.{eqb-false}
use Rattle.nets.specs.Bits.{Bits}
use Rattle.nets.specs.Lists.{add_l}
use Rattle.nets.specs.Networks.{net_bits}
use Rattle.nets.specs.declared.Net.{Net}
use Rattle.text_either.specs.Either.{read_either}
use Rattle.pool_state.specs.States.{SetState, State}
use Rattle.pool_state.specs.Decode.{sound, decode}
use Rattle.pool_state.specs.Rules.{no_set}
use Rattle.pool_state.specs.Changes.{set_at, list_at, sets_with, with_set, set_with}
use Rattle.pool_state.proofs.Claims.{is_state-size, is_size-is}
use Rattle.pool_state.proofs.Decoded.{decode-state}
use Rattle.pool_state.proofs.WithSet.{with_set-length, with_set-list, with_set-other}
use Rattle.lines_take.specs.Lines.{line_feed, add_no, add_words, line_no, trimmed_in, words_with, Result, taken, with_nets, nets_of, with_lines}
use Rattle.lines_reader.specs.Kept.{kept, pushed}
use Rattle.lines.specs.Reading.{ended, stepped, passed, closed, checked, fed, finished}
use Rattle.lines_reader.specs.declared.Reader.{Reader}
use Rattle.lines_take.proofs.Taking.{words_with-refused}
use Rattle.lines.proofs.Lists.{decode-added, line-added}

-- from the words w on the networks ns are added to set 0, one after the other, each of them granted, which leaves v
abbrev pub Adds : List ℕ → List Net → List ℕ → Type 0
Adds w [] v = v ≡ w
Adds w (n ∷ ns) v = (add_no w n ≡ 0) × Adds (add_words w n) ns v

pub adds-join : (ns ms : List Net) (w u v : List ℕ) → Adds w ns u → Adds u ms v → Adds w (ns ++ ms) v
adds-join [] ms w u v h g = rw h at g
adds-join (n ∷ ns) ms w u v h g = (h.0, adds-join ns ms (add_words w n) u v h.1 g)

-- some networks
abbrev pub Some : List ℕ → List ℕ → Type 0
Some w v = (ns : List Net) × Adds w ns v

some-join : (w u v : List ℕ) → Some w u → Some u v → Some w v
some-join w u v h g = (h.0 ++ g.0, adds-join h.0 g.0 w u v h.1 g.1)

-- A line, a byte, a piece, the end of the input.
line-adds : (w l : List ℕ) → Some w (words_with w l)
line-adds w l = go (eqb (line_no w l) 0) refl
  where
    go : (b : Bool) → eqb (line_no w l) 0 ≡ b → Some w (words_with w l)
    go true q = let x = line-added w l (eqb-true (line_no w l) 0 q) in ((read_either l).1 ∷ [], (x.0, x.1))
    go false q = ([], words_with-refused w l (eqb-false (line_no w l) 0 q))

ended-adds : (w : List ℕ) (r : Reader) → Some w (ended w r).1
unfolding ended
ended-adds w r = line-adds w (kept r)

stepped-adds : (w : List ℕ) (r : Reader) (b : ℕ) → Some w (stepped w r b).1
stepped-adds w r b = go (eqb b line_feed)
  where
    go : (t : Bool) → Some w (cond t (ended w r) (pushed r b, w)).1
    go true = ended-adds w r
    go false = ([], refl)

passed-adds : (s w : List ℕ) (r : Reader) → Some w (passed w r s).1
unfolding passed
passed-adds [] w r = ([], refl)
passed-adds (b ∷ s) w r =
    let x = stepped w r b in
    go (eqb r.no 0) (passed x.1 x.0 s) (some-join w x.1 (passed x.1 x.0 s).1 (stepped-adds w r b) (passed-adds s x.1 x.0))
  where
    go : (t : Bool) (y : Reader × List ℕ) → Some w y.1 → Some w (cond t y (r, w)).1
    go true y h = h
    go false y h = ([], refl)

pub fed-adds : (w : List ℕ) (r : Reader) (s : List ℕ) → Some w (fed w r s).1
unfolding fed
fed-adds w r s = passed-adds s w (checked w r)

closed-adds : (w : List ℕ) (r : Reader) → Some w (closed w r).1
unfolding closed
closed-adds w r = go (eqb r.no 0) (eqb r.len 0)
  where
    go : (t u : Bool) → Some w (cond t (cond u (r, w) (ended w r)) (r, w)).1
    go true true = ([], refl)
    go true false = ended-adds w r
    go false u = ([], refl)

pub finished-adds : (w : List ℕ) (r : Reader) → Some w (finished w r).1
unfolding finished
finished-adds w r = closed-adds w (checked w r)

-- The lines of an input: those before the first that is refused, as many as its number says, are taken.
pub taken-from : (ls : List (List ℕ)) (k c : ℕ) (w : List ℕ) → k ≤ (taken k c w ls).number
unfolding taken
taken-from [] k c w = omega arith
taken-from (l ∷ ls) k c w = go (eqb (line_no w l) 0) (taken (k + 1) (c + trimmed_in l) (words_with w l) ls) (taken-from ls (k + 1) (c + trimmed_in l) (words_with w l))
  where
    go : (b : Bool) (x : Result) → k + 1 ≤ x.number → k ≤ (cond b x (record { number = k; trimmed = c; no = line_no w l; words = w })).number
    go true x h = omega arith
    go false x h = omega arith

pub taken-adds : (ls : List (List ℕ)) (k c : ℕ) (w : List ℕ) → Adds w (nets_of (take ((taken k c w ls).number - k) ls)) (taken k c w ls).words
unfolding taken
taken-adds [] k c w = go (k - k)
  where
    go : (m : ℕ) → Adds w (nets_of (take m [])) w
    go zero = refl
    go (suc m) = refl
taken-adds (l ∷ ls) k c w =
    let x = taken (k + 1) (c + trimmed_in l) (words_with w l) ls in
    go (eqb (line_no w l) 0) refl x (taken-from ls (k + 1) (c + trimmed_in l) (words_with w l)) (taken-adds ls (k + 1) (c + trimmed_in l) (words_with w l))
  where
    go : (b : Bool) → eqb (line_no w l) 0 ≡ b → (x : Result) → k + 1 ≤ x.number → Adds (words_with w l) (nets_of (take (x.number - (k + 1)) ls)) x.words
        → let y = cond b x (record { number = k; trimmed = c; no = line_no w l; words = w }) in Adds w (nets_of (take (y.number - k) (l ∷ ls))) y.words
    go true q x le h =
        let e = line-added w l (eqb-true (line_no w l) 0 q) in
        let m : x.number - k ≡ suc (x.number - (k + 1)) = omega arith in
        rw m (e.0, rw e.1 at h)
    go false q x le h = let m : k - k ≡ 0 = omega arith in rw m refl

-- all of them where none is refused
pub taken-all : (ls : List (List ℕ)) (k c : ℕ) (w : List ℕ) → (taken k c w ls).no ≡ 0 → (taken k c w ls).number ≡ k + length ls
unfolding taken
taken-all [] k c w e = omega arith
taken-all (l ∷ ls) k c w e = go (eqb (line_no w l) 0) refl (taken (k + 1) (c + trimmed_in l) (words_with w l) ls) (taken-all ls (k + 1) (c + trimmed_in l) (words_with w l)) e
  where
    go : (b : Bool) → eqb (line_no w l) 0 ≡ b → (x : Result) → (x.no ≡ 0 → x.number ≡ k + 1 + length ls)
        → (cond b x (record { number = k; trimmed = c; no = line_no w l; words = w })).no ≡ 0 → (cond b x (record { number = k; trimmed = c; no = line_no w l; words = w })).number ≡ k + suc (length ls)
    go true q x h z = omega (arith, h z)
    go false q x h z = absurd (eqb-false (line_no w l) 0 q z)

-- and as many of them were trimmed as report it
unfoldable pub trimmed_of : List (List ℕ) → ℕ
trimmed_of [] = 0
trimmed_of (l ∷ ls) = trimmed_in l + trimmed_of ls

pub taken-trimmed : (ls : List (List ℕ)) (k c : ℕ) (w : List ℕ) → (taken k c w ls).trimmed ≡ c + trimmed_of (take ((taken k c w ls).number - k) ls)
unfolding taken trimmed_of
taken-trimmed [] k c w = go (k - k)
  where
    go : (m : ℕ) → c ≡ c + trimmed_of (take m [])
    go zero = omega arith
    go (suc m) = omega arith
taken-trimmed (l ∷ ls) k c w =
    let x = taken (k + 1) (c + trimmed_in l) (words_with w l) ls in
    go (eqb (line_no w l) 0) x (taken-from ls (k + 1) (c + trimmed_in l) (words_with w l)) (taken-trimmed ls (k + 1) (c + trimmed_in l) (words_with w l))
  where
    go : (b : Bool) (x : Result) → k + 1 ≤ x.number → x.trimmed ≡ c + trimmed_in l + trimmed_of (take (x.number - (k + 1)) ls)
        → let y = cond b x (record { number = k; trimmed = c; no = line_no w l; words = w }) in y.trimmed ≡ c + trimmed_of (take (y.number - k) (l ∷ ls))
    go true x le h = let m : x.number - k ≡ suc (x.number - (k + 1)) = omega arith in rw m (omega (arith, h))
    go false x le h = let m : k - k ≡ 0 = omega arith in rw m (omega arith)

-- The state with the list of a set written again, and with another list over another.
abbrev relisted : State → ℕ → List Bits → State
relisted S k l = with_set S k (set_with (set_at S k) l)

sets_with-own : (k : ℕ) (ss : List SetState) → sets_with k (get_or ss k no_set) ss ≡ ss
sets_with-own k [] = refl
sets_with-own zero (s ∷ ss) = refl
sets_with-own (suc k) (s ∷ ss) = ap (λ xs. s ∷ xs) (sets_with-own k ss)

sets_with-over : (k : ℕ) (a b : List Bits) (ss : List SetState) → let ts = sets_with k (set_with (get_or ss k no_set) a) ss in
    sets_with k (set_with (get_or ts k no_set) b) ts ≡ sets_with k (set_with (get_or ss k no_set) b) ss
sets_with-over k a b [] = refl
sets_with-over zero a b (s ∷ ss) = refl
sets_with-over (suc k) a b (s ∷ ss) = ap (λ xs. s ∷ xs) (sets_with-over k a b ss)

relisted-own : (S : State) (k : ℕ) → relisted S k (list_at S k) ≡ S
unfolding with_set
relisted-own S k = rw (sets_with-own k S.sets)

relisted-over : (S : State) (k : ℕ) (a b : List Bits) → relisted (relisted S k a) k b ≡ relisted S k b
unfolding with_set
relisted-over S k a b = rw (sets_with-over k a b S.sets)

-- So sound words stay sound: the networks are added to the list of set 0, and nothing else changed.
adds-decode : (ns : List Net) (w v : List ℕ) (S : State) → 0 < length S.sets → decode w ≡ sound S → Adds w ns v → decode v ≡ sound (relisted S 0 (with_nets (list_at S 0) ns))
unfolding with_nets
adds-decode [] w v S lt d h = rw (h, relisted-own S 0) d
adds-decode (n ∷ ns) w v S lt d h =
    let l = add_l (list_at S 0) (net_bits n) in
    let g = adds-decode ns (add_words w n) v (relisted S 0 l) (omega (arith, with_set-length S 0 (set_with (set_at S 0) l))) (decode-added w S n d h.0) h.1 in
    rw (with_set-list S 0 l lt, relisted-over S 0 l (with_nets l ns)) at g

pub record Holds (S : State) (ns : List Net) (v : List ℕ) : Type 0 where
  pub decoded : decode v ≡ sound (with_set S 0 (set_with (set_at S 0) (with_nets (list_at S 0) ns)))
  pub others : (j : ℕ) → (j ≡ 0 → ⊥) → set_at (with_set S 0 (set_with (set_at S 0) (with_nets (list_at S 0) ns))) j ≡ set_at S j

module _ (w : List ℕ) (S : State) (d : decode w ≡ sound S) where
  pub adds-hold : (ns : List Net) (v : List ℕ) → Adds w ns v → Holds S ns v
  adds-hold ns v h =
      let lt : 0 < length S.sets = (is_size-is (length S.sets) S.nodes (is_state-size S (decode-state w S d))).0 in
      record { decoded = adds-decode ns w v S lt d h; others = with_set-other S 0 (set_with (set_at S 0) (with_nets (list_at S 0) ns)) }

  pub fed-holds : (r : Reader) (s : List ℕ) → (ns : List Net) × Holds S ns (fed w r s).1
  fed-holds r s = let x = fed-adds w r s in (x.0, adds-hold x.0 (fed w r s).1 x.1)

  pub finished-holds : (r : Reader) → (ns : List Net) × Holds S ns (finished w r).1
  finished-holds r = let x = finished-adds w r in (x.0, adds-hold x.0 (finished w r).1 x.1)

  pub taken-holds : (ls : List (List ℕ)) (k c : ℕ) → Holds S (nets_of (take ((taken k c w ls).number - k) ls)) (taken k c w ls).words
  taken-holds ls k c = adds-hold (nets_of (take ((taken k c w ls).number - k) ls)) (taken k c w ls).words (taken-adds ls k c w)
