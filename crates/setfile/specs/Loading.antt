-- The rules of load.
--
--   load_rules x k S    the rules of a file, read as x, and set k as arguments: 5 a rule of the file is broken, then 6 its family isn't the pool's, then 8 the set isn't empty
--   file_list x         the list of the file
--   Loaded w k d r v   from the words w loading the bytes d into set k answers r and leaves the words v
use Rattle.std.specs.Prelude.{true, not, List, [], ◌∷◌, ℕ, eqb}
use Rattle.nets.specs.Bits.{Bits}
use Rattle.nets.specs.Refusals.{Rule}
use Rattle.nets.specs.declared.Refusal.TheVariants.{BadFile, WrongFamily}
use Rattle.pool_state.specs.States.{State}
use Rattle.pool_state.specs.Changes.{occupied, Relisted}
use Rattle.setfile_format.specs.Files.{File, broken, file, read_file}

unfoldable pub load_rules : File → ℕ → State → List Rule
load_rules broken k S = (true, BadFile) ∷ []
load_rules (file f l) k S = (not (eqb f S.family), WrongFamily) ∷ occupied S k ∷ []

-- a broken one is refused, so its list does not matter
abbrev pub file_list : File → List Bits
file_list broken = []
file_list (file f l) = l

abbrev pub Loaded : List ℕ → ℕ → List ℕ → ℕ × ℕ → List ℕ → Type 0
Loaded w k d r v = Relisted w k (load_rules (read_file d) k) (λ S. file_list (read_file d)) r v
