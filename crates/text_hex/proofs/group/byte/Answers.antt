-- `group::byte` meets its contract, case by case. Assumes nothing.
use mathlib.Core.Path.{sym}
use Rattle.text_hex.proofs.Written.{hex_byte_of-digit, hex_byte_of-letter}
use Rattle.text_hex.proofs.group.byte.Goals as goal

pub returns-then-d-lt10 : goal.returns-then-d-lt10
returns-then-d-lt10 c = sym (hex_byte_of-digit c.args.d c.if-d-lt10.true)

pub returns : goal.returns
returns c = sym (hex_byte_of-letter c.args.d c.if-d-lt10.false)
