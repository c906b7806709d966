-- The walk of a lookup in the second form, on arbitrary words: down from a root's number by the bits of the query, one node a turn.
--
--   on_way f w b i q             the string of node i leads the query q
--   kept_walk f w b n k m i q c  what node i of n shows, where its string has to have m bits at least, and c nodes read lead q; k turns at most
--   kept_walk_from f w b n q r    what the root's number r shows: lengths grow, so that one turn more than q has bits is enough
use Rattle.std.specs.Prelude.{Bool, false, cond, ◌&&◌, List, ◌≡◌, ℕ, zero, suc, ◌+◌, eqb, leb, length, get_or}
use Rattle.nets.specs.Bits.{Bits, leads}
use Rattle.nets.specs.Tries.{side}
use Rattle.nets.specs.Lists.{Found, found, missing}
use Rattle.nets.specs.declared.Net.{Net}
use Rattle.kept_nodes.specs.Parse.{len_at, dist_at, string_at}
use Rattle.kept_reading.specs.NodeStrings.{IsString}
use Rattle.kept_lookup.specs.declared.Shown.{Shown}
use Rattle.kept_lookup.specs.declared.Shown.TheVariants.{Member, Nothing, Damaged}

abbrev pub on_way : ℕ → List ℕ → ℕ → ℕ → Bits → Bool
on_way f w b i q = leb (len_at f w b i) (length q) && leads (string_at f w b i) q

unfoldable pub kept_walk : ℕ → List ℕ → ℕ → ℕ → ℕ → ℕ → ℕ → Bits → ℕ → Shown
kept_walk f w b n zero m i q c = Damaged
kept_walk f w b n (suc k) m i q c =
    cond (leb (i + dist_at f w b i) n && leb m (len_at f w b i))
    (cond (on_way f w b i q)
    (cond (eqb (dist_at f w b i) 0) (Member (len_at f w b i) (c + 1))
    (cond (eqb (len_at f w b i) (length q)) (Nothing (c + 1))
    (kept_walk f w b n k (len_at f w b i + 1) (i + side (get_or q (len_at f w b i) false) (dist_at f w b i) 1) q (c + 1))))
    (Nothing c))
    Damaged

unfoldable pub kept_walk_from : ℕ → List ℕ → ℕ → ℕ → Bits → ℕ → Shown
kept_walk_from f w b n q r = cond (eqb r 0) (Nothing 0) (cond (leb r n) (kept_walk f w b n (suc (length q)) 0 r q 0) Damaged)

-- what a lookup that finds x and counts k nodes shows
abbrev pub shown_as : Found → ℕ → Shown
shown_as (found p) k = Member (length p) k
shown_as missing k = Nothing k

-- how many nodes were counted
abbrev pub counted_in : Shown → ℕ
counted_in (Member d k) = k
counted_in (Nothing k) = k
counted_in Damaged = 0

-- the query is a network of the family
pub record Query (f : ℕ) (q : Net) : Type 0 where
  pub family : q.family ≡ f
  pub is : IsString q
