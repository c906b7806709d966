-- What `ask` finds, a law for each return. Assumes nothing.
use mathlib.Core.Path.{◌≡◌, sym, ◌∙◌}
use mathlib.Core.Bool.{true}
use mathlib.Core.List.{List}
use Prim.Native.Nat.{ℕ}
use lib.ListN.{get_or}
use Rattle.nets.specs.Bits.{Bits}
use Rattle.nets.specs.Refusals.{number, answered, first_no}
use Rattle.nets.specs.Networks.{is_family, refusal_of, start_of, no_bits, prefix_as}
use Rattle.nets.specs.declared.Net.{Net}
use Rattle.nets.specs.declared.Refusal.{Refusal}
use Rattle.nets.specs.declared.Refusal.TheVariants.{WrongFamily}
use Rattle.nets.specs.declared.PrefixBits.{PrefixBits}
use Rattle.nets.proofs.Numbers.{bits_left-start, start_of-few}
use Rattle.nets.proofs.Answers.{number-some, prefix-bits, prefix-refused}
use Rattle.pool_state.specs.States.{State}
use Rattle.pool_state.specs.Decode.{decode}
use Rattle.pool_state.specs.Changes.{net_rules}
use Rattle.pool_state.specs.Steps.{Refuses, Surveyed}
use Rattle.pool_state.specs.declared.Survey.{Survey}
use Rattle.pool_state.proofs.Claims.{is_state-family}
use Rattle.pool_state.proofs.Decoded.{decode-header, decode-state}
use Rattle.pool_state.proofs.Seen.{seen, seen-state, seen-header}
use Rattle.pool_state.proofs.Returns.{change-seat, change-args, changed, net_rules-own, net_rules-other}
use Rattle.change_ask.specs.Steps.{Asks, Ready}
use Rattle.std.specs.Prelude.{Result, Ok, Err}

pub ask-refused : {w : List ℕ} {k : ℕ} (n : Net) (x : Refusal) → Refuses (decode w) k (number x) → Asks w k n (Err x)
ask-refused {w} {k} n x h f = changed (change-seat (net_rules n) f w k h)

module _ {w : List ℕ} {k : ℕ} {v : Survey} (n : Net) (h : Surveyed w k v) where
  ask-args : (x : Refusal) → ((S : State) → is_family S.family ≡ true → get_or w 1 0 ≡ S.family → first_no (net_rules n S) ≡ number x) → Asks w k n (Err x)
  ask-args x g f =
      let (S, s) = seen h in
      changed (change-args (net_rules n) f s (g S (is_state-family S (seen-state s)) (seen-header s).family) (number-some x))

  pub ask-family : (n.family ≡ get_or w 1 0 → ⊥) → Asks w k n (Err WrongFamily)
  ask-family ne = ask-args WrongFamily (λ S f o. net_rules-other n S (λ z. ne (z ∙ sym o)))

  module _ (own : n.family ≡ get_or w 1 0) (p : Result PrefixBits Refusal) (g : prefix_as p ≡ answered (refusal_of n) no_bits (start_of n)) where
    pub ask-network : (x : Refusal) → p ≡ Err x → Asks w k n (Err x)
    ask-network x q = ask-args x (λ S f o. net_rules-own n S f (own ∙ o) ∙ prefix-refused n p x g q)

    pub ask-go : (s : PrefixBits) → p ≡ Ok s → Asks w k n (Ok (v, s))
    ask-go s q =
        let y = prefix-bits n p s g q in
        record {
          surveyed = h;
          right = λ S d. net_rules-own n S (is_state-family S (decode-state w S d)) (own ∙ (decode-header w S d).family) ∙ y.0;
          bits = rw y.1 (bits_left-start n y.0);
          few = rw y.1 (start_of-few n y.0);
        }

-- what a call has that goes on
pub asked : {w : List ℕ} {k : ℕ} {n : Net} {r : Result (Survey × PrefixBits) Refusal} {v : Survey} {s : PrefixBits} → Asks w k n r → r ≡ Ok (v, s) → Ready w k n v s
asked h e = rw e at h
