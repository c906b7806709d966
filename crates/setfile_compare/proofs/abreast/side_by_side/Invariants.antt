-- `abreast::side_by_side` meets its contract. The loop's invariant: the files are on their way side by side; with each turn less is left of the first.
-- Assumes nothing.
use mathlib.Core.List.{List}
use mathlib.Core.Path.{◌≡◌}
use native.Mathlib.Omega.{arith}
use borrow.Author.Rules.{rules}
use Rattle.nets.specs.Bits.{Bits}
use Rattle.nets.specs.Networks.{width}
use Rattle.setfile_compare.specs.Abreast.{Meets}
use Rattle.setfile_compare.specs.declared.abreast.Meet.TheVariants as meet
use Rattle.setfile_format.specs.Files.{read_file, file}
use Rattle.setfile_compare.proofs.Going.{Going, rest_of, going-begin, going-shortest, going-longer, going-differs, going-alike, going-again, going_less}
use Rattle.setfile_compare.proofs.abreast.side_by_side.Given as goal

abbrev pub invariant-loop-holder : goal.invariant-loop-holder
invariant-loop-holder s = (l m : List Bits) → read_file s.first ≡ file s.family l → read_file s.second ≡ file s.family m → Going s.first s.second s.family s.c s.d s.a s.b l m

abbrev pub decreases-loop-holder : goal.decreases-loop-holder
decreases-loop-holder l = rest_of l.family l.a
