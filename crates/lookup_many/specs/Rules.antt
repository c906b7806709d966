-- The rule of contains_all, by that of contains.
--
--   query_at f qs i            query i of the row qs: three numbers for each, high word, low word and length, of the family f
--   in_one a                   an answer of contains in one number: bits 0 to 31 the nodes read, from bit 32 on the number of the refusal, bit 48 yes, bit 49 the report
--   answers_of w k f qs        the answers to the whole queries of the row, each that of contains
--   all_rules g f qs n         the rules in a pool of the family g, with n numbers for the answers: 6 another family, 11 fewer numbers than queries
--   all_no w k f qs n          the refusal: 2 and 3 as contains, then by these rules
--   ContainsAll               the answer and the rows afterwards, as the call's contract
--   asked w k n, asked_of      the answer to the query n in set k, and to query i of a row
use Rattle.std.specs.Prelude.{Bool, not, cond, List, [], ◌∷◌, ◌≡◌, ℕ, ◌+◌, ◌*◌, ◌/◌, eqb, length, get_or, Result}
use Rattle.nets.specs.Networks.{net_words}
use Rattle.nets.specs.Refusals.{number, Rule, first_no}
use Rattle.nets.specs.declared.Net.{Net}
use Rattle.nets.specs.declared.Refusal.TheVariants.{WrongFamily}
use Rattle.nodes.specs.Words.{put}
use Rattle.trie_index.specs.Index.{fill}
use Rattle.pool_state.specs.Rules.{short, answer_as}
use Rattle.lookup.specs.Rules.{on_root, query, Held, is_member, contains_rule}
use Rattle.nets.specs.declared.Refusal.{Refusal}

abbrev pub query_at : ℕ → List ℕ → ℕ → Net
query_at f qs i = net_words f (get_or qs (3 * i) 0) (get_or qs (3 * i + 1) 0) (get_or qs (3 * i + 2) 0)

abbrev pub bit : Bool → ℕ
bit b = cond b 1 0

unfoldable pub in_one : ℕ × Held → ℕ
in_one a = a.1.1.0 + 4294967296 * a.0 + 281474976710656 * bit a.1.0 + 562949953421312 * bit a.1.1.1

unfoldable pub answers_of : List ℕ → ℕ → ℕ → List ℕ → List ℕ
answers_of w k f qs = fill (λ i. in_one (contains_rule w k (query_at f qs i))) 0 (length qs / 3)

abbrev pub all_rules : ℕ → ℕ → List ℕ → ℕ → List Rule
all_rules g f qs n = (not (eqb f g), WrongFamily) ∷ short (length qs / 3) n ∷ []

unfoldable pub all_no : List ℕ → ℕ → ℕ → List ℕ → ℕ → ℕ
all_no w k f qs n = on_root w k number (λ _. first_no (all_rules (get_or w 1 0) f qs n))

unfoldable pub answers_after : List ℕ → List ℕ → ℕ → ℕ → List ℕ → List ℕ
answers_after v w k f qs = cond (eqb (all_no w k f qs (length v)) 0) (put v 0 (answers_of w k f qs)) v

-- from the words w and the answers v the call on set k with the queries qs of the family f answers r and leaves the answers u
pub record ContainsAll (w : List ℕ) (k f : ℕ) (qs v : List ℕ) (r : Result ℕ Refusal) (u : List ℕ) : Type 0 where
  pub answer : answer_as r ≡ (all_no w k f qs (length v), 0)
  pub rows : u ≡ answers_after v w k f qs

unfoldable pub asked : List ℕ → ℕ → Net → ℕ
asked w k n = in_one (is_member n (query w k n))

unfoldable pub asked_of : List ℕ → ℕ → ℕ → List ℕ → ℕ → ℕ
asked_of w k f qs i = asked w k (query_at f qs i)
