-- The loop of the listing, as lists: the networks that are stored and those that are ahead make the list. Nothing here is about memory. Assumes nothing.
use mathlib.Core.Path.{◌≡◌, refl, sym, ap, ◌∙◌}
use mathlib.Core.Bool.{Bool, true, false}
use mathlib.Core.List.{List, [], ◌∷◌, ◌++◌, append_assoc, append-nil}
use Prim.Native.Nat.{ℕ, ◌+◌, ◌≤◌, ◌<◌}
use native.Mathlib.Nat.{not-suc-le-zero, le_of_suc-le-suc}
use native.Mathlib.Omega.{arith}
use lib.ListN.{length, set, length-append}
use Rattle.nets.specs.Bits.{Bits}
use Rattle.nets.specs.Tries.{list_of}
use Rattle.nets.specs.Networks.{is_family, net_from}
use Rattle.nets.specs.declared.Net.{Net}
use Rattle.nodes.specs.declared.seats.Seat.{Seat}
use Rattle.pool_state.specs.States.{State}
use Rattle.pool_state.specs.Changes.{list_at}
use Rattle.pool_state.proofs.Claims.{is_state-family}
use Rattle.pool_state.proofs.Decoded.{decode-state}
use Rattle.pool_state.proofs.OnTries.{trie_at}
use Rattle.listing.specs.Seated.{HeldIn, GoesIn}
use Rattle.listing.proofs.ByForm.{held-deep}
use Rattle.listing.proofs.Seats.{Sits}
use Rattle.kept_spots.specs.Onward.{KeptRight}
use Rattle.kept_spots.proofs.Onward.{right-before, right-gone}
use Rattle.trie_spots.specs.Spots.{before_all, gone_on}
use Rattle.trie_spots.specs.declared.spots.Spot.{Spot}
use Rattle.trie_spots.proofs.Onward.{Lists, lists-trie, seat-gone, ahead, ahead-all, Arrives, gone-more, gone-last}
use Rattle.netrows.specs.Rows.{filled}

-- one network more behind those that are stored
set-filled : (f : ℕ) (d : List Bits) (q : Bits) (v : List Net) → length d < length v → set (filled f d v) (length d) (net_from f q) ≡ filled f (d ++ (q ∷ [])) v
set-filled f d q [] h = absurd (not-suc-le-zero h)
set-filled f [] q (x ∷ v) h = refl
set-filled f (p ∷ d) q (x ∷ v) h = ap (λ (l : List Net). net_from f p ∷ l) (set-filled f d q v (le_of_suc-le-suc h))

stored : (f : ℕ) (d : List Bits) (q : Bits) (v u : List Net) (i : ℕ) (n : Net) → u ≡ filled f d v → i ≡ length d → n ≡ net_from f q → i < length v → set u i n ≡ filled f (d ++ (q ∷ [])) v
stored f d q v u i n e g h l = rw (e, g, h) (set-filled f d q v (omega arith))

-- The n networks of set k fit the row v; i of them are stored in the row u, and the next is the one behind the spot r.
pub record Storing (w : List ℕ) (k : ℕ) (v : List Net) (n i : ℕ) (r : Spot) (u : List Net) : Type 0 where
  pub state : State
  pub seat : Seat
  pub sits : Sits w k state seat
  pub count : n ≡ length (list_at state k)
  pub fits : n ≤ length v
  pub done : List Bits
  pub here : r.seat ≡ seat
  pub right : KeptRight r
  pub many : i ≡ length done
  pub split : list_at state k ≡ done ++ ahead (list_at state k) r
  pub row : u ≡ filled seat.family done v

pub starts : {w : List ℕ} {k : ℕ} {S : State} {s : Seat} {n : ℕ} (v : List Net) → Sits w k S s → n ≡ length (list_at S k) → n ≤ length v → Storing w k v n 0 (before_all s) v
starts {w} {k} {S} {s} v h m le =
    record { state = S; seat = s; sits = h; count = m; fits = le; done = []; here = refl; right = right-before s; many = refl; split = sym (ahead-all (list_at S k) s); row = refl }

module _ {w : List ℕ} {k : ℕ} {v : List Net} {n i : ℕ} {r : Spot} {u : List Net} (h : Storing w k v n i r u) where
  abbrev l : List Bits
  l = list_at h.state k

  family : is_family r.seat.family ≡ true
  family = rw (h.here, h.sits.family) (is_state-family h.state (decode-state w h.state h.sits.decoded))

  pub holds : HeldIn w r.seat (trie_at h.state k)
  holds = rw h.here h.sits.holds

  pub goes : GoesIn w r
  goes = record { trie = trie_at h.state k; holds = holds; family = family; right = h.right }

  lists : Lists r.seat.family l
  lists = rw h.sits.list at (lists-trie r.seat.family (trie_at h.state k) (held-deep holds) family)

  longer : length l ≡ i + length (ahead l r)
  longer = ap length h.split ∙ length-append h.done (ahead l r) ∙ ap (λ z. z + length (ahead l r)) (sym h.many)

  -- the turn that stores the next one
  module _ (less : i < n) (x : Spot) (f : x ≡ gone_on (list_of (trie_at h.state k)) r) where
    e : x ≡ gone_on l r
    e = f ∙ ap (λ z. gone_on z r) h.sits.list

    arrives : Arrives l r x
    arrives = go x.more refl
      where
        go : (b : Bool) → x.more ≡ b → Arrives l r x
        go true m = gone-more l r lists x e m
        go false m = absurd (omega (arith, longer, h.count, ap length (gone-last l r lists x e m)))

    pub steps : Storing w k v n (i + 1) x (set u i x.net)
    steps =
        let q = arrives.bits in
        let g : x.net ≡ net_from h.seat.family q = arrives.net ∙ ap (λ (y : Seat). net_from y.family q) h.here in
        record {
          state = h.state;
          seat = h.seat;
          sits = h.sits;
          count = h.count;
          fits = h.fits;
          done = h.done ++ (q ∷ []);
          here = ap (λ (y : Spot). y.seat) e ∙ seat-gone l r ∙ h.here;
          right = rw e (right-gone l r lists h.right);
          many = ap (λ z. z + 1) h.many ∙ sym (length-append h.done (q ∷ []));
          split = h.split ∙ ap (λ z. h.done ++ z) arrives.taken ∙ sym (append_assoc h.done (q ∷ []) (ahead l x));
          row = stored h.seat.family h.done q v u i x.net h.row h.many g (omega (arith, h.fits));
        }

  -- the row when all of them are stored
  pub ends : i ≡ n → u ≡ filled h.seat.family l v
  ends m = go (ahead l r) (omega (arith, longer, h.count)) h.split
    where
      go : (z : List Bits) → length z ≡ 0 → l ≡ h.done ++ z → u ≡ filled h.seat.family l v
      go [] a b = let c : l ≡ h.done = b ∙ append-nil h.done in rw c h.row
      go (y ∷ z) a b = absurd (omega arith)
