-- What a call asks for and does is what its kind says, and a call that is done has its answer before its tail. k is the kind that the code has found,
-- K what it is.
use mathlib.Core.List.{List}
use mathlib.Core.Path.{◌≡◌, refl, sym, ap, ◌∙◌}
use Prim.Native.Nat.{ℕ, ◌+◌}
use Rattle.nodes.specs.Words.{put}
use Rattle.nodes.proofs.Put.{put-nil, put-before-at}
use Rattle.calls_bytes.specs.Records.{reply_bytes}
use Rattle.calls_bytes.specs.declared.Call.{Call}
use Rattle.calls_bytes.specs.declared.Reply.{Reply}
use Rattle.calls_bytes.proofs.Written.{length-reply}
use Rattle.calls_kinds.specs.Kinds.{kind_of, asks_by, asks_of}
use Rattle.calls_kinds.specs.declared.Kind.{Kind}
use Rattle.calls.specs.Effects.{Effect, effect, plain, effect_by, effect_of, Answered}
use Rattle.calls.specs.Runs.{Stepped}

pub asks_of-kind : {k K : Kind} (c : Call) → k ≡ kind_of c.code → k ≡ K → asks_of c ≡ asks_by K c.b
asks_of-kind c e f = rw (← e, f)

pub effect_of-kind : {k K : Kind} (w v s : List ℕ) (c : Call) → k ≡ kind_of c.code → k ≡ K → effect_of w v s c ≡ effect_by K w v s c
unfolding effect_of
effect_of-kind w v s c e f = rw (← e, f)

-- an answer with its tail at its place
pub answered : {w v s o w' v' o' : List ℕ} {c : Call} {at : ℕ} {r : Reply} (x : Effect)
    → effect_of w v s c ≡ x → r ≡ x.reply → w' ≡ x.words → v' ≡ x.rows → o' ≡ put o at x.tail
    → Answered w v s c o at r w' v' o'
answered x q a b d e = record { reply = rw q a; words = rw q b; rows = rw q d; tail = rw q e }

-- one without a tail
pub answered-plain : {w v s w' : List ℕ} {c : Call} {r : Reply} (o : List ℕ) (at : ℕ) (x : Reply × List ℕ)
    → effect_of w v s c ≡ plain x v → (r, w') ≡ x → Answered w v s c o at r w' v o
answered-plain {v = v} o at x q e = answered (plain x v) q (ap (λ y. y.0) e) (ap (λ y. y.1) e) refl (sym (put-nil o at))

-- the same by the kind: an answer without a tail, one that leaves the words as well, and one with a tail
pub plainly : {k K : Kind} {w v s w' : List ℕ} {c : Call} {r : Reply} (o : List ℕ) (at : ℕ) (x : Reply × List ℕ)
    → k ≡ kind_of c.code → k ≡ K → effect_by K w v s c ≡ plain x v → (r, w') ≡ x → Answered w v s c o at r w' v o
plainly {w = w} {v = v} {s = s} {c = c} o at x e f q d = answered-plain o at x (effect_of-kind w v s c e f ∙ q) d

pub telling : {k K : Kind} {w v s : List ℕ} {c : Call} {r : Reply} (o : List ℕ) (at : ℕ) (y : Reply)
    → k ≡ kind_of c.code → k ≡ K → effect_by K w v s c ≡ plain (y, w) v → r ≡ y → Answered w v s c o at r w v o
telling {w = w} o at y e f q d = plainly o at (y, w) e f q (ap (λ x. (x, w)) d)

pub tailing : {k K : Kind} {w v s v' u o' t : List ℕ} {c : Call} {r y : Reply} (o : List ℕ) (at : ℕ)
    → k ≡ kind_of c.code → k ≡ K → effect_by K w v s c ≡ effect y t w v' → r ≡ y → u ≡ v' → o' ≡ put o at t
    → Answered w v s c o at r w u o'
tailing {w = w} {v = v} {s = s} {v' = v'} {t = t} {c = c} {y = y} o at e f q d g h = answered (effect y t w v') (effect_of-kind w v s c e f ∙ q) d refl g h

pub stepped-is : {w v s o w' v' o₁ o₂ : List ℕ} {c : Call} {r : Reply} (to : ℕ)
    → Answered w v s c o (to + 28) r w' v' o₁ → o₂ ≡ put o₁ to (reply_bytes r) → Stepped w v s c o to w' v' o₂
stepped-is {w} {v} {s} {o} {c = c} {r = r} to a e =
    record {
      words = a.words;
      rows = a.rows;
      out =
          e ∙ rw (a.tail, a.reply)
          (put-before-at o to (to + 28) (reply_bytes (effect_of w v s c).reply) (effect_of w v s c).tail (rw (length-reply (effect_of w v s c).reply)));
    }
