-- The proof of the cycle of calls {group::put}: the last digit is stored behind the others. The measure is the number. Assumes nothing.
use Rattle.text_hex.proofs.group.+put.Given as goal

abbrev pub decreases-put : goal.decreases-put
decreases-put l = l.x
