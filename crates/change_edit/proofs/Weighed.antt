-- The result of a call with a network, counted, judged and written (`Counted` of pool_state's proofs/Counted.antt says what becomes of it). Assumes nothing.
use mathlib.Core.Path.{◌≡◌, refl, ◌∙◌}
use mathlib.Core.Bool.{Bool, true, false}
use mathlib.Core.List.{List}
use Prim.Native.Nat.{ℕ, ◌≤◌}
use native.Mathlib.Omega.{arith}
use Rattle.nets.specs.Lists.{remove_l}
use Rattle.nets.specs.Refusals.{number}
use Rattle.nets.specs.Networks.{net_bits}
use Rattle.nets.specs.declared.Net.{Net}
use Rattle.nets.specs.declared.Refusal.{Refusal}
use Rattle.nets.specs.declared.PrefixBits.{PrefixBits}
use Rattle.pool_state.specs.States.{State, admits}
use Rattle.pool_state.specs.Decode.{sound, decode}
use Rattle.pool_state.specs.Changes.{set_at, list_at, net_rules, Relisted}
use Rattle.pool_state.specs.Steps.{Judges, Settle, Settled}
use Rattle.pool_state.specs.declared.Survey.{Survey}
use Rattle.pool_state.proofs.Decoded.{decode-state}
use Rattle.pool_state.proofs.Seen.{seen, seen_as, seen-header, seen-figures, words_l}
use Rattle.pool_state.proofs.Changed.{with_words}
use Rattle.pool_state.proofs.Counted.{Counted, counted-refused, counted-fits, counted-settles, counted-granted}
use Rattle.change_ask.specs.Steps.{Ready}
use Rattle.change_edit.specs.Steps.{list_by, Counts, Edits, Edited}
use Rattle.change_ask.proofs.Admitted.{admits-remove}
use Rattle.change_edit.proofs.Lists.{by-list}
use Rattle.change_ask.proofs.Listed.{list-long, list-trie}
use Rattle.change_edit.proofs.Edits.{words_are}
use Rattle.std.specs.Prelude.{Result, Ok, Err}

-- what is left when a network is removed is clear, always
pub clear-remove : (w : List ℕ) (k : ℕ) (n : Net) (S : State) → decode w ≡ sound S → admits S.family (set_at S k) (remove_l (list_at S k) (net_bits n)) ≡ true
clear-remove w k n S d = admits-remove S k (decode-state w S d) (net_bits n)

-- the list with the network in it, or out of it, has m nodes, and c says whether the set may have it as far as its mark goes
pub record Weighed (x : Bool) (w : List ℕ) (k : ℕ) (n : Net) (v : Survey) (s : PrefixBits) (c : Bool) (m : ℕ) : Type 0 where
  pub ready : Ready w k n v s
  pub clear : (S : State) → decode w ≡ sound S → admits S.family (set_at S k) (list_by x k n S) ≡ c
  pub counts : Counts w k x n m

-- the list without the network
pub weighed-remove : {w : List ℕ} {k : ℕ} {n : Net} {v : Survey} {s : PrefixBits} {m : ℕ} → Ready w k n v s → Counts w k false n m → Weighed false w k n v s true m
weighed-remove {w} {k} {n} h q = record { ready = h; clear = clear-remove w k n; counts = q }

module _ {x : Bool} {w : List ℕ} {k : ℕ} {n : Net} {v : Survey} {s : PrefixBits} {c : Bool} {m : ℕ} (h : Weighed x w k n v s c m) where
  result : (S : State) → decode w ≡ sound S → Counted w S k v (net_rules n) (list_by x k n) (words_l S (list_by x k n S)) c m
  result S d =
      let g = seen_as h.ready.surveyed S d in
      let z = h.ready.right S d in
      let i = by-list x n S k (decode-state w S d) z in
      let e = h.counts.nodes S d in
      record { seen = g; right = z; public = h.clear S d; held = e; words = refl; long = list-long g (list_by x k n S) i e; trie = list-trie g (list_by x k n S) i e }

  abbrev S : State
  S = (seen h.ready.surveyed).0

  d : decode w ≡ sound S
  d = (seen h.ready.surveyed).1.decoded

  module _ {r : (Result Unit Refusal)} (j : Judges w k c m r) where
    pub weighed-refused : (e : Refusal) → r ≡ Err e → Relisted w k (net_rules n) (list_by x k n) (number e, 0) w
    weighed-refused e z = counted-refused (result S d) j e z

    -- it is granted, and written
    module _ (z : r ≡ (Ok tt)) where
      pub weighed-few : m ≤ 4194304
      weighed-few = let g = (seen h.ready.surveyed).1 in omega (arith, counted-fits (result S d) j z, (seen-header g).nodes, (seen-figures g).nodes)

      pub weighed-edits : Edits w k x n v s
      weighed-edits = record { ready = h.ready; fits = λ S d. omega (arith, counted-fits (result S d) j z, h.counts.nodes S d) }

      module _ {u : List ℕ} (e : Edited w k x n v u) where
        weighed-words : u ≡ with_words w S k v (words_l S (list_by x k n S))
        weighed-words = e.words S d ∙ words_are h.ready x S d

        pub weighed-settles : Settle u k v.at v.held m
        weighed-settles = counted-settles (result S d) j z weighed-words

        pub weighed-granted : {y : List ℕ} → Settled u k v.at v.held m y → Relisted w k (net_rules n) (list_by x k n) (0, m) y
        weighed-granted p = counted-granted (result S d) j z weighed-words refl p
