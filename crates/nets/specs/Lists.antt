-- Lists of networks, and what each call makes of them, sentence by sentence as the scope document has them.
--
--   member q l, covers l q     q is listed; some member leads q, so l holds the address q
--   is_list w l                 ascending, no member inside another, no length above the width w
--   nodes_l l                   how many different leading bit strings the members have, the empty one and themselves included
--   add_l remove_l simplify_l merge_l intersect_l     what a changing call leaves
--   exclude_l, difference_l      what is left of each member by itself, and the same simplified: exclude_apart and exclude
--   supernet_l contains_l next_l  what a lookup finds;  steps_l l q: how many nodes it reads for q
--   Simplified l               no two halves of one block are both listed
use Rattle.std.specs.Prelude.{Bool, true, false, not, cond, ◌&&◌, ◌||◌, List, [], ◌∷◌, ◌++◌, map, ◌≡◌, ℕ, zero, suc, ◌-◌, length, take, leb}
use Rattle.nets.specs.Bits.{Bits, leads, equal, before}
use Rattle.nets.specs.Tries.{list_of, trie_of, simplify_t}

-- f holds of some member
abbrev pub any_of : (Bits → Bool) → List Bits → Bool
any_of f [] = false
any_of f (m ∷ l) = f m || any_of f l

abbrev pub member : Bits → List Bits → Bool
member q l = any_of (equal q) l

abbrev pub covers : List Bits → Bits → Bool
covers l q = any_of (λ m. leads m q) l

-- n leads some member
abbrev pub leads_any : Bits → List Bits → Bool
leads_any n l = any_of (leads n) l

abbrev pub ascending : List Bits → Bool
ascending [] = true
ascending (p ∷ []) = true
ascending (p ∷ q ∷ l) = before p q && ascending (q ∷ l)

abbrev pub apart : List Bits → Bool
apart [] = true
apart (p ∷ l) = not (covers l p || leads_any p l) && apart l

abbrev pub within : ℕ → List Bits → Bool
within w [] = true
within w (p ∷ l) = leb (length p) w && within w l

unfoldable pub is_list : ℕ → List Bits → Bool
is_list w l = ascending l && (apart l && within w l)

-- n at its place, unless it is there; and a list in order, each string once
abbrev pub insert_in : Bits → List Bits → List Bits
insert_in n [] = n ∷ []
insert_in n (m ∷ l) = cond (before n m) (n ∷ m ∷ l) (cond (equal n m) (m ∷ l) (m ∷ insert_in n l))

abbrev pub in_order : List Bits → List Bits
in_order [] = []
in_order (n ∷ l) = insert_in n (in_order l)

-- the leading bit strings of a member and of all members
abbrev pub leadings : Bits → List Bits
leadings [] = [] ∷ []
leadings (b ∷ p) = [] ∷ map (λ q. b ∷ q) (leadings p)

abbrev pub all_leadings : List Bits → List Bits
all_leadings [] = []
all_leadings (m ∷ l) = leadings m ++ all_leadings l

unfoldable pub nodes_l : List Bits → ℕ
nodes_l l = length (in_order (all_leadings l))

-- the members of which f holds
abbrev pub keep : (Bits → Bool) → List Bits → List Bits
keep f [] = []
keep f (m ∷ l) = cond (f m) (m ∷ keep f l) (keep f l)

unfoldable pub add_l : List Bits → Bits → List Bits
add_l l n = cond (covers l n) l (insert_in n (keep (λ m. not (leads n m)) l))

-- the other half of the block that p halves, and those along n, of the lengths d + 1 to d + k
abbrev pub sibling : Bits → Bits
sibling [] = []
sibling (b ∷ []) = not b ∷ []
sibling (b ∷ c ∷ p) = b ∷ sibling (c ∷ p)

abbrev pub siblings : Bits → ℕ → ℕ → List Bits
siblings n d zero = []
siblings n d (suc k) = sibling (take (suc d) n) ∷ siblings n (suc d) k

-- what is left of a member, and of all, where n is removed
abbrev pub remains : Bits → Bits → List Bits
remains n m = cond (leads n m) [] (cond (leads m n) (siblings n (length m) (length n - length m)) (m ∷ []))

abbrev pub all_remains : Bits → List Bits → List Bits
all_remains n [] = []
all_remains n (m ∷ l) = remains n m ++ all_remains n l

unfoldable pub remove_l : List Bits → Bits → List Bits
remove_l l n = in_order (all_remains n l)

unfoldable pub simplify_l : List Bits → List Bits
simplify_l l = list_of (simplify_t (trie_of l))

unfoldable pub merge_l : List Bits → List Bits → List Bits
merge_l l m = simplify_l (l ++ m)

unfoldable pub intersect_l : List Bits → List Bits → List Bits
intersect_l l m = simplify_l (keep (covers m) l ++ keep (covers l) m)

unfoldable pub exclude_l : List Bits → List Bits → List Bits
exclude_l l [] = l
exclude_l l (n ∷ m) = exclude_l (remove_l l n) m

unfoldable pub difference_l : List Bits → List Bits → List Bits
difference_l l m = simplify_l (exclude_l l m)

pub data Found : Type 0 where
  found : Bits → Found
  missing : Found

unfoldable pub supernet_l : List Bits → Bits → Found
supernet_l [] q = missing
supernet_l (m ∷ l) q = cond (leads m q) (found m) (supernet_l l q)

abbrev pub is_found : Found → Bool
is_found (found p) = true
is_found missing = false

unfoldable pub contains_l : List Bits → Bits → Bool
contains_l l q = is_found (supernet_l l q)

-- the leading bit strings of the query, the empty one included, that are leading bit strings of some member too
unfoldable pub steps_l : List Bits → Bits → ℕ
steps_l l q = length (keep (λ p. leads_any p l) (leadings q))

-- a place in a list: before its first member, or behind a network that need not be a member
pub data Place : Type 0 where
  start : Place
  past : Bits → Place

abbrev pub is_past : Place → Bits → Bool
is_past start q = true
is_past (past p) q = before p q

unfoldable pub next_l : List Bits → Place → Found
next_l [] p = missing
next_l (m ∷ l) p = cond (is_past p m) (found m) (next_l l p)

abbrev pub Simplified : List Bits → Type 0
Simplified l = (p : Bits) → (member (p ++ (false ∷ [])) l && member (p ++ (true ∷ [])) l) ≡ false
