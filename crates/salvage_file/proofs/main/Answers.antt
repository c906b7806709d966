-- The bytes of the two files are too many to be counted one by one: a law gives their number.
use Rattle.tool_files.proofs.Zeros.{count_zeros}
use Rattle.salvage_file.proofs.main.Goals as goal

pub slice_bounds-run-end : goal.slice_bounds-run-end
slice_bounds-run-end c = count_zeros 2000016

pub slice_bounds-run-end-2 : goal.slice_bounds-run-end-2
slice_bounds-run-end-2 c = count_zeros 2000016
