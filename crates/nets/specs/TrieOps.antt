-- What the calls do to tries: the road on which the lists are reached. No contract needs to be believed through these; the laws tie each to its list.
--
--   remove_t, search_t      remove, supernet;  steps_t: the nodes on the way down
--   op_t j f k t u         the set operation f on two tries of at most k levels; j: two full halves are joined
--   union_t, common_t, except_t, difference_t      its uses: the last two differ in that one joins
use Rattle.std.specs.Prelude.{Bool, true, false, not, cond, ◌&&◌, ◌||◌, [], ◌∷◌, ℕ, zero, suc}
use Rattle.nets.specs.Bits.{Bits}
use Rattle.nets.specs.Tries.{Trie, none, node, leaf, bare, side, glue}
use Rattle.nets.specs.Lists.{Found, found, missing}

-- the half of a trie on the side of the bit: the halves of a leaf are leaves
abbrev pub half : Bool → Trie → Trie
half b none = none
half b (node l r) = cond (bare l r) leaf (side b l r)

-- the trie with the half x on the side of the bit and the half y on the other
abbrev pub rejoin : Bool → Trie → Trie → Trie
rejoin b x y = glue false (side b x y) (side b y x)

unfoldable pub remove_t : Bits → Trie → Trie
remove_t [] t = none
remove_t (b ∷ p) t = rejoin b (remove_t p (half b t)) (half (not b) t)

abbrev pub under : Bool → Found → Found
under b (found p) = found (b ∷ p)
under b missing = missing

unfoldable pub search_t : Bits → Trie → Found
search_t [] none = missing
search_t [] (node l r) = cond (bare l r) (found []) missing
search_t (b ∷ q) none = missing
search_t (b ∷ q) (node l r) = cond (bare l r) (found []) (under b (search_t q (side b l r)))

unfoldable pub steps_t : Bits → Trie → ℕ
steps_t [] none = 0
steps_t [] (node l r) = 1
steps_t (b ∷ q) none = 0
steps_t (b ∷ q) (node l r) = suc (steps_t q (side b l r))

-- a trie is empty, full, or neither; and what a set operation makes of two, where that settles it
pub data Kind : Type 0 where
  flat : Bool → Kind
  mixed : Kind

abbrev pub kind_of : Trie → Kind
kind_of none = flat false
kind_of (node l r) = cond (bare l r) (flat true) mixed

abbrev pub agree : Bool → Bool → Kind
agree x y = cond (x && y) (flat true) (cond (x || y) mixed (flat false))

abbrev pub verdict : (Bool → Bool → Bool) → Kind → Kind → Kind
verdict f (flat x) (flat y) = flat (f x y)
verdict f (flat x) mixed = agree (f x false) (f x true)
verdict f mixed (flat y) = agree (f false y) (f true y)
verdict f mixed mixed = mixed

unfoldable pub op_t : Bool → (Bool → Bool → Bool) → ℕ → Trie → Trie → Trie
op_t j f zero t u = none
op_t j f (suc k) t u =
    elim (verdict f (kind_of t) (kind_of u)) [
      | flat false ↦ none
      | flat true ↦ leaf
      | mixed ↦ glue j (op_t j f k (half false t) (half false u)) (op_t j f k (half true t) (half true u))
    ]

unfoldable pub union_t : ℕ → Trie → Trie → Trie
union_t k t u = op_t true ◌||◌ k t u

unfoldable pub common_t : ℕ → Trie → Trie → Trie
common_t k t u = op_t true ◌&&◌ k t u

unfoldable pub except_t : ℕ → Trie → Trie → Trie
except_t k t u = op_t false (λ x y. x && not y) k t u

unfoldable pub difference_t : ℕ → Trie → Trie → Trie
difference_t k t u = op_t true (λ x y. x && not y) k t u
