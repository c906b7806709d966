-- The walk as a road through the list of its set: where it begins, that it can always go on, and that going on comes past the list. Assumes nothing.
use mathlib.Core.Path.{◌≡◌, refl, sym, ap, ◌∙◌}
use mathlib.Core.Bool.{Bool, true, false, false≢true}
use mathlib.Core.List.{List, [], ◌∷◌, map}
use Prim.Native.Nat.{ℕ, zero, suc, ◌<◌}
use native.Mathlib.Omega.{arith}
use denote.Ref.{Bor}
use lib.Dec.{leb}
use lib.ListN.{length}
use borrow.Author.Tests.{lt-leb, le-leb, leb-false}
use Rattle.nets.specs.Bits.{Bits}
use Rattle.nets.specs.Networks.{is_family, net_from}
use Rattle.nets.specs.Tries.{Trie, none, levels, list_of}
use Rattle.nets.specs.declared.Net.{Net}
use Rattle.pool_state.specs.States.{State}
use Rattle.pool_state.specs.Decode.{Decoded, damaged, sound, decode}
use Rattle.pool_state.proofs.Claims.{is_state-family}
use Rattle.pool_state.proofs.Decoded.{decode-state}
use Rattle.pool_state.proofs.OnTries.{trie_at}
use Rattle.pool_state.specs.Steps.{Refuses}
use Rattle.nodes.specs.declared.seats.Seat.{Seat}
use Rattle.listing.specs.Seated.{HeldIn, GoesIn}
use Rattle.listing.proofs.ByForm.{held-deep, held-few, held-nowhere}
use Rattle.listing.proofs.Seats.{Sits, sits-at}
use Rattle.kept_spots.proofs.Onward.{right-gone}
use Rattle.trie_spots.specs.Spots.{nowhere, before_all, gone_on}
use Rattle.trie_spots.specs.declared.spots.Spot.{Spot}
use Rattle.trie_spots.proofs.Onward.{seat-gone, Lists, lists-trie, ahead, ahead-all, gone-more, gone-last}
use Rattle.walk.specs.Walks.{walk_no, list_in, seat_in, begin_in, walk_start, walk_on, Walking, pass, through}
use Rattle.walk.specs.declared.walking.Walk.{Walk}

-- The returns of `begin`.
pub begins-refused : (d : Decoded) (k x : ℕ) → Refuses d k x → record { spot = before_all nowhere; no = x } ≡ begin_in d k
unfolding walk_no seat_in
begins-refused damaged k x e = rw e
begins-refused (sound S) k x e = rw (e.1, le-leb (length S.sets) k e.0)

pub begins-at : {w : List ℕ} {k : ℕ} {S : State} {s : Seat} → Sits w k S s → record { spot = before_all s; no = 0 } ≡ begin_in (decode w) k
unfolding walk_no seat_in
begins-at {k = k} {S = S} h = rw (h.decoded, lt-leb (length S.sets) k h.known, h.seat)

-- What stands in the seat of a set: the trie of its list.
pub record Held (w : List ℕ) (k : ℕ) : Type 0 where
  pub trie : Trie
  pub holds : HeldIn w (seat_in (decode w) k) trie
  pub list : list_of trie ≡ list_in (decode w) k
  pub family : is_family (seat_in (decode w) k).family ≡ true

pub holds : (w : List ℕ) (k : ℕ) → Held w k
unfolding list_of levels seat_in list_in
holds w k = go (decode w) refl
  where
    nothing : seat_in (decode w) k ≡ nowhere → list_in (decode w) k ≡ [] → Held w k
    nothing e f = record { trie = none; holds = rw e (held-nowhere w); list = sym f; family = rw e }

    by : (S : State) → decode w ≡ sound S → (b : Bool) → leb (length S.sets) k ≡ b → Held w k
    by S d false e =
        let h = sits-at w S k d (leb-false (length S.sets) k e) in
        record { trie = trie_at S k; holds = rw (d, e) h.holds; list = rw (d, e) h.list; family = rw (d, e) (is_state-family S (decode-state w S d)) }
    by S d true e = nothing (rw (d, e)) (rw (d, e))

    go : (x : Decoded) → decode w ≡ x → Held w k
    go damaged d = nothing (rw d) (rw d)
    go (sound S) d = by S d (leb (length S.sets) k) refl

pub lists : (w : List ℕ) (k : ℕ) → Lists (seat_in (decode w) k).family (list_in (decode w) k)
lists w k = let h = holds w k in rw h.list at (lists-trie (seat_in (decode w) k).family h.trie (held-deep h.holds) h.family)

pub list-small : (w : List ℕ) (k : ℕ) → length (list_in (decode w) k) < 1073741824
list-small w k =
    let h = holds w k in
    omega (arith, ap length h.list, held-few h.holds)

-- A walk that was made can take a step, and then another.
abbrev pub words : Walk → List ℕ
words w = w.pool.now

abbrev pub list_on : Walk → List Bits
list_on w = list_in (decode (words w)) w.set

-- what `go_on` says of the spot r that it goes on to
abbrev pub Told : Walk → Spot → Type 0
Told w r = (t : Trie) → HeldIn (words w) w.spot.seat t → r ≡ gone_on (list_of t) w.spot

module _ (w : Walk) (h : Walking w) where
  held : HeldIn (words w) w.spot.seat (holds (words w) w.set).trie
  held = rw h.seat (holds (words w) w.set).holds

  pub goes : GoesIn (words w) w.spot
  goes = record { trie = (holds (words w) w.set).trie; holds = held; family = rw h.seat (holds (words w) w.set).family; right = h.right }

  pub stepped : (r : Spot) → Told w r → r ≡ (walk_on w).spot
  stepped r f = f (holds (words w) w.set).trie held ∙ ap (λ l. gone_on l w.spot) (holds (words w) w.set).list

  on-lists : Lists w.spot.seat.family (list_on w)
  on-lists = rw h.seat (lists (words w) w.set)

pub walking-from : (p : Bor (List ℕ)) (k : ℕ) → Walking (walk_start p k)
walking-from p k = record { seat = refl; right = λ e. absurd (false≢true e) }

-- one step: at the first network of what was ahead, or with nothing ahead
pub record Past (w : Walk) : Type 0 where
  pub bits : Bits
  pub net : (walk_on w).spot.net ≡ net_from w.spot.seat.family bits
  pub taken : ahead (list_on w) w.spot ≡ bits ∷ ahead (list_on w) (walk_on w).spot

module _ (w : Walk) (h : Walking w) where
  pub on-more : (walk_on w).spot.more ≡ true → Past w
  on-more m = let a = gone-more (list_on w) w.spot (on-lists w h) (walk_on w).spot refl m in record { bits = a.bits; net = a.net; taken = a.taken }

  pub on-end : (walk_on w).spot.more ≡ false → ahead (list_on w) w.spot ≡ []
  on-end m = gone-last (list_on w) w.spot (on-lists w h) (walk_on w).spot refl m

  pub on-seat : (walk_on w).spot.seat ≡ w.spot.seat
  on-seat = seat-gone (list_on w) w.spot

  pub walking_on : Walking (walk_on w)
  walking_on = record { seat = on-seat ∙ h.seat; right = right-gone (list_on w) w.spot (on-lists w h) h.right }

-- Going on until there is no more comes past exactly the list.
through-ahead : (n : ℕ) (w : Walk) → Walking w → length (ahead (list_on w) w.spot) < n → through n w ≡ map (net_from w.spot.seat.family) (ahead (list_on w) w.spot)
unfolding through
through-ahead zero w h lt = absurd (omega arith)
through-ahead (suc n) w h lt = go (walk_on w).spot.more refl (through-ahead n (walk_on w) (walking_on w h))
  where
    f : ℕ
    f = w.spot.seat.family

    go : (b : Bool) → (walk_on w).spot.more ≡ b → (length (ahead (list_on w) (walk_on w).spot) < n → through n (walk_on w) ≡ map (net_from (walk_on w).spot.seat.family) (ahead (list_on w) (walk_on w).spot))
        → pass b (walk_on w).spot.net (through n (walk_on w)) ≡ map (net_from f) (ahead (list_on w) w.spot)
    go true e ih =
        let p = on-more w h e in
        ap (λ (l : List Net). (walk_on w).spot.net ∷ l) (ih (omega (arith, ap length p.taken)) ∙ ap (λ (s : Seat). map (net_from s.family) (ahead (list_on w) (walk_on w).spot)) (on-seat w h))
        ∙ ap (λ (x : Net). x ∷ map (net_from f) (ahead (list_on w) (walk_on w).spot)) p.net
        ∙ ap (map (net_from f)) (sym p.taken)
    go false e ih = ap (map (net_from f)) (sym (on-end w h e))

pub through-list : (p : Bor (List ℕ)) (k n : ℕ) → length (list_in (decode p.now) k) < n → through n (walk_start p k) ≡ map (net_from (seat_in (decode p.now) k).family) (list_in (decode p.now) k)
through-list p k n lt =
    let l = list_in (decode p.now) k in
    let s = seat_in (decode p.now) k in
    through-ahead n (walk_start p k) (walking-from p k) (rw (ahead-all l s) lt) ∙ ap (map (net_from s.family)) (ahead-all l s)
