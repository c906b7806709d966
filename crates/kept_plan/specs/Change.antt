-- One network into a trie of the second form, or out of it.
--
--   change_t x r t            the path r into the trie t (x), or out of it
--   Way f p r q              the network q has the bits p and then r
--   Planned f i p r x t k    k is what is to be done to the trie t, which stands at node i below the string p
use Rattle.std.specs.Prelude.{Bool, true, false, cond, List, [], ◌∷◌, ◌++◌, ◌≡◌, ℕ, suc, ◌+◌, ◌≤◌, length}
use Rattle.nets.specs.Bits.{Bits}
use Rattle.nets.specs.Networks.{is_family, width, net_from}
use Rattle.nets.specs.declared.Net.{Net}
use Rattle.nets.specs.Tries.{Trie, none, leaf, side, insert_t}
use Rattle.nets.specs.TrieOps.{remove_t}
use Rattle.branch_points.specs.KeptTries.{kept_size}
use Rattle.kept_nodes.specs.Words.{node_words, kept_enc}
use Rattle.kept_steps.specs.Segments.{KeptSegment, KeptBranch}
use Rattle.kept_plan.specs.declared.Plan.{Plan}
use Rattle.kept_plan.specs.declared.Plan.TheVariants.{Stay, Flat, Halve, Fork, Drop, Down}

abbrev pub change_t : Bool → Bits → Trie → Trie
change_t true r t = insert_t r t
change_t false r t = remove_t r t

pub record Way (f : ℕ) (p r : Bits) (q : Net) : Type 0 where
  pub family : is_family f ≡ true
  pub net : q ≡ net_from f (p ++ r)
  pub short : length (p ++ r) ≤ width f

-- and the next bit is c
pub record Steps (f : ℕ) (p r : Bits) (q : Net) (c : Bool) : Type 0 where
  pub way : Way f p r q
  pub later : Bits
  pub bits : r ≡ c ∷ later

-- the words of the string s alone, or none
abbrev pub flat_words : Bool → ℕ → Bits → List ℕ
flat_words x f s = cond x (node_words f s 0) []

pub record Flattened (f : ℕ) (p r : Bits) (x : Bool) (t : Trie) : Type 0 where
  pub words : kept_enc f p (change_t x r t) ≡ flat_words x f (p ++ r)
  pub size : kept_size (change_t x r t) ≡ cond x 1 0

-- the half on the side of the bit, of a trie that is no leaf
pub record Inside (i a m : ℕ) (c : Bool) (r : Bits) (t : Trie) : Type 0 where
  pub later : Bits
  pub bits : r ≡ c ∷ later
  pub branch : KeptBranch i a m t

abbrev pub half_in : {i a m : ℕ} {t : Trie} → Bool → KeptBranch i a m t → Trie
half_in c k = side c k.l k.r

pub record Forks (i : ℕ) (c : Bool) (r : Bits) (t : Trie) : Type 0 where
  pub a : ℕ
  pub m : ℕ
  pub inside : Inside i a m c r t
  pub empty : half_in c inside.branch ≡ none

pub record Drops (i : ℕ) (c : Bool) (m : ℕ) (r : Bits) (t : Trie) : Type 0 where
  pub inside : Inside i (i + 1) m c r t
  pub gone : remove_t inside.later (half_in c inside.branch) ≡ none

pub record Downs (i a m : ℕ) (c : Bool) (r : Bits) (x : Bool) (t : Trie) : Type 0 where
  pub inside : Inside i a m c r t
  pub some : half_in c inside.branch ≡ none → ⊥
  pub stays : (a ≡ i → ⊥) → change_t x inside.later (half_in c inside.branch) ≡ none → ⊥

abbrev pub Planned : ℕ → ℕ → Bits → Bits → Bool → Trie → Plan → Type 0
Planned f i p r x t Stay = change_t x r t ≡ t
Planned f i p r x t Flat = Flattened f p r x t
Planned f i p r x t Halve = (t ≡ leaf) × (x ≡ false) × (r ≡ [] → ⊥)
Planned f i p r x t (Fork c) = (x ≡ true) × Forks i c r t
Planned f i p r x t (Drop c m) = (x ≡ false) × Drops i c m r t
Planned f i p r x t (Down c a m) = Downs i a m c r x t

-- the network q goes into the trie t or out of it, and there is room for what it becomes
pub record Changes (f : ℕ) (w : List ℕ) (b n i e u : ℕ) (p r : Bits) (q : Net) (x : Bool) (t : Trie) (rest : List ℕ) : Type 0 where
  pub here : KeptSegment f w b n i e u p t rest
  pub way : Way f p r q
  pub fits : u + kept_size (change_t x r t) ≤ suc n + kept_size t
