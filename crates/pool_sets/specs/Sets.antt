-- One set in a pass over a pool.
--
--   end_in w b n s i        the number after the nodes of set s, where i is the next number that is not placed, or 0 where the set is damaged
--   Placed w b n s i l     set s has the list l, which is read at node i, among the nodes 1..n from b on
--   is_unindexed w s        the pool is in the first form, or set s has no index
--   marks w s l            the word that says whether set s is public-only is one of the two, and the list l may be its list as far as that goes
use Rattle.std.specs.Prelude.{Bool, not, ◌&&◌, ◌||◌, List, ◌≡◌, ℕ, ◌+◌, ◌≤◌, ◌<◌, eqb, leb, length, get_or}
use Rattle.nets.specs.Bits.{Bits}
use Rattle.inner_nets.specs.Inner.{is_public}
use Rattle.pool_state.specs.Kept.{first, same_form, end_l, ok_list, RoomL}
use Rattle.pool_state.specs.Decode.{base, form_in, read_set}
use Rattle.pool_state.specs.Rules.{public_in, tag_in}

-- the number after the nodes of set s, where i is the next number that is not placed, or 0
unfoldable pub end_in : List ℕ → ℕ → ℕ → ℕ → ℕ → ℕ
end_in w b n s i = end_l (form_in w) i (read_set w b n (get_or w 1 0) s i)

pub record Placed (w : List ℕ) (b n s i : ℕ) (l : List Bits) : Type 0 where
  pub room : RoomL (get_or w 1 0) w b n
  pub one : 1 ≤ i
  pub known : s < 64
  pub fits : base (s + 1) ≤ length w
  pub read : read_set w b n (get_or w 1 0) s i ≡ ok_list l

unfoldable pub is_unindexed : List ℕ → ℕ → Bool
is_unindexed w s = same_form (form_in w) first || not (not (eqb (tag_in w s) 0))

unfoldable pub marks : List ℕ → ℕ → List Bits → Bool
marks w s l = leb (public_in w s) 1 && (not (eqb (public_in w s) 1) || is_public (get_or w 1 0) l)
