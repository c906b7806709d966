-- Ranges in rows, and the calls of a history that gave a set its list, whatever other calls stand between.
--
--   spans_in f n u       the first n ranges of the rows u, four numbers for each, of the family f
--   granted_on x cs rs   of the calls cs, answered rs, those that relist set x and were granted. The last one stands first
use Rattle.std.specs.Prelude.{cond, ◌&&◌, List, [], ◌∷◌, ℕ, zero, suc, eqb, drop, get_or}
use Rattle.change_many.specs.Calls.{span_words}
use Rattle.change_many.specs.declared.Span.{Span}
use Rattle.histories.specs.Calls.{Relist, Call, relist, replan, make_public, writes}

unfoldable pub spans_in : ℕ → ℕ → List ℕ → List Span
spans_in f zero u = []
spans_in f (suc n) u = span_words f (get_or u 0 0) (get_or u 1 0) (get_or u 2 0) (get_or u 3 0) ∷ spans_in f n (drop 4 u)

-- the call c, answered with the number n, before the calls gs that were granted
abbrev pub granted : ℕ → Call → ℕ → List Relist → List Relist
granted x (relist c) n gs = cond (eqb (writes c) x && eqb n 0) (c ∷ gs) gs
granted x (replan k a b) n gs = gs
granted x (make_public k) n gs = gs

unfoldable pub granted_on : ℕ → List Call → List (ℕ × ℕ) → List Relist
granted_on x [] rs = []
granted_on x (c ∷ cs) [] = []
granted_on x (c ∷ cs) (r ∷ rs) = granted x c r.0 (granted_on x cs rs)
