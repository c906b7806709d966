-- Lines into a set are calls of a history: feed and finish go on with it by the adds of their networks, each granted, also where a line is refused. So a
-- history leaves what any sequence leaves that has lines among its calls, and what holds after any history holds after such a sequence. Assumes nothing.
use mathlib.Core.List.{List, [], ◌∷◌, map}
use mathlib.Core.Path.{◌≡◌, ap}
use Prim.Native.Nat.{ℕ}
use Rattle.nets.specs.declared.Net.{Net}
use Rattle.pool_state.specs.States.{State}
use Rattle.pool_state.specs.Decode.{sound, decode}
use Rattle.pool_state.specs.Changes.{set_at, with_set, set_with}
use Rattle.change.specs.Calls.{list_with}
use Rattle.lines.specs.Reading.{fed, finished}
use Rattle.lines_reader.specs.declared.Reader.{Reader}
use Rattle.lines.proofs.Lists.{added, decode-added}
use Rattle.lines.proofs.Adds.{Adds, fed-adds, finished-adds}
use Rattle.histories.specs.Calls.{Call, add, relist}
use Rattle.histories.specs.Histories.{History, begin, step}
use Rattle.histories.specs.Sequences.{AnyCall, change, feed, finish, AnyAnswer, told, left, AnyOutcome, Sequence}
use Rattle.histories.specs.Sequences.{begin as none, step as more}
use Rattle.histories.proofs.Histories.{history-sound}

-- the calls cs, and then the networks ns added to set 0, one after the other
abbrev pub adds_on : List Net → List Call → List Call
adds_on [] cs = cs
adds_on (n ∷ ns) cs = adds_on ns (relist (add 0 n) ∷ cs)

-- a history from w on that goes on from the calls cs by such adds, and leaves v
pub record Goes (w : List ℕ) (cs : List Call) (v : List ℕ) : Type 0 where
  pub nets : List Net
  pub answers : List (ℕ × ℕ)
  pub history : History w (adds_on nets cs) answers v

adds-go : (ns : List Net) {w u v : List ℕ} {cs : List Call} {rs : List (ℕ × ℕ)} (S : State) → decode u ≡ sound S → History w cs rs u → Adds u ns v
    → (ss : List (ℕ × ℕ)) × History w (adds_on ns cs) ss v
adds-go [] {rs = rs} S d h g = (rs, rw g h)
adds-go (n ∷ ns) {u = u} S d h g =
    adds-go ns (with_set S 0 (set_with (set_at S 0) (list_with 0 n S))) (decode-added u S n d g.0) (step h (added u S n d g.0)) g.1

module _ {w u : List ℕ} {cs : List Call} {rs : List (ℕ × ℕ)} {S : State} (d : decode u ≡ sound S) (h : History w cs rs u) where
  goes : {v : List ℕ} (ns : List Net) → Adds u ns v → Goes w cs v
  goes ns g = let (ss, k) = adds-go ns S d h g in record { nets = ns; answers = ss; history = k }

  pub feed-goes-on : (r : Reader) (s : List ℕ) → Goes w cs (fed u r s).1
  feed-goes-on r s = let x = fed-adds u r s in goes x.0 x.1

  pub finish-goes-on : (r : Reader) → Goes w cs (finished u r).1
  finish-goes-on r = let x = finished-adds u r in goes x.0 x.1

-- A sequence, by its last call. And a history is a sequence without lines.
abbrev pub Reached : List ℕ → List ℕ → Type 0
Reached w v = (cs : List Call) × (rs : List (ℕ × ℕ)) × History w cs rs v

module _ {w : List ℕ} {S : State} (d : decode w ≡ sound S) where
  any-goes-on : {cs : List Call} {rs : List (ℕ × ℕ)} {u v : List ℕ} (c : AnyCall) (a : AnyAnswer) → History w cs rs u → AnyOutcome u c a v → Reached w v
  any-goes-on (change c) (told a) h o = (_, _, step {c = c} h o)
  any-goes-on (change c) (left q) h o = absurd o
  any-goes-on (feed r s) (told a) h o = absurd o
  any-goes-on (feed r s) (left q) h o = let g = feed-goes-on (history-sound d h) h r s in rw (ap (λ x. x.1) o) (_, _, g.history)
  any-goes-on (finish r) (told a) h o = absurd o
  any-goes-on (finish r) (left q) h o = let g = finish-goes-on (history-sound d h) h r in rw (ap (λ x. x.1) o) (_, _, g.history)

  pub sequence-history : {cs : List AnyCall} {rs : List AnyAnswer} {v : List ℕ} → Sequence w cs rs v → Reached w v
  sequence-history none = (_, _, begin)
  sequence-history (more {c = c} {r = r} h o) = let (cs, rs, g) = sequence-history h in any-goes-on c r g o

pub history-sequence : {w v : List ℕ} {cs : List Call} {rs : List (ℕ × ℕ)} → History w cs rs v → Sequence w (map change cs) (map told rs) v
history-sequence begin = none
history-sequence (step h o) = more (history-sequence h) o
