-- Another set than the one that a pass was made for: what a pass for it would find, and its root in the words. Assumes nothing.
use mathlib.Core.List.{List}
use mathlib.Core.Path.{◌≡◌, refl}
use Prim.Native.Nat.{ℕ, ◌<◌}
use lib.ListN.{get_or}
use Rattle.pool_state.specs.States.{State}
use Rattle.pool_state.specs.Decode.{record_at, root_at, decode}
use Rattle.pool_state.specs.Rules.{survey_of}
use Rattle.pool_state.specs.Changes.{list_at}
use Rattle.pool_state.specs.declared.Survey.{Survey}
use Rattle.pool_state.proofs.Decoded.{decode-root}
use Rattle.pool_state.proofs.Seen.{Seen, survey-seen}

module _ {w : List ℕ} {S : State} {k : ℕ} {v : Survey} (h : Seen w S k v) (j : ℕ) (lt : j < get_or w 2 0) where
  abbrev pub its : Survey
  its = survey_of (decode w) j

  pub beside-seen : Seen w S j its
  beside-seen = survey-seen w j its refl S h.decoded lt

  pub beside-root : get_or w (record_at j) 0 ≡ root_at its.at (list_at S j)
  beside-root = let g = beside-seen in rw g.at (decode-root w S h.decoded j g.known)
