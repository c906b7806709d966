-- What the inner functions leave. One pass over the pool serves a call.
--
--   Leads x g v        the reading g with the words v is x, and g has the survey of v
use Rattle.std.specs.Prelude.{◌≡◌, ℕ, List}
use Rattle.pool_state.specs.Steps.{Surveyed}
use Rattle.lines_reader.specs.declared.Reader.{Reader}
use Rattle.lines_take.specs.declared.Going.{Going}

pub record Leads (x : Reader × List ℕ) (g : Going) (v : List ℕ) : Type 0 where
  pub comes : (g.reader, v) ≡ x
  pub found : Surveyed v 0 g.found
