-- `writing::put_at` meets its contract: address and length are one write. Assumes nothing.
use native.Mathlib.Omega.{arith}
use Rattle.nodes.proofs.Put.{length-put}
use Rattle.setfile_format.proofs.Written.{entry_bytes-4, entry_bytes-6}
use Rattle.setfile_put.proofs.Stores.{low_fits, stores-4, stores-6, length-6}
use Rattle.setfile_put.proofs.writing.put_at.Goals as goal

pub overflow_cast-x : goal.overflow_cast-x
overflow_cast-x c = let p = c.requires.0 in
    record { fits = low_fits _ p.0 p.1 p.2 p.3 c.if-x-eq-IPV4.true }

pub put_number-requires : goal.put_number-requires
put_number-requires c = omega (arith, entry_bytes-4 _ c.if-x-eq-IPV4.true)

pub bounds-out-k : goal.bounds-out-k
bounds-out-k c = rw (c.put_number.ensures, length-put) (omega (arith, entry_bytes-4 _ c.if-x-eq-IPV4.true))

pub returns-then-x-eq-IPV4 : goal.returns-then-x-eq-IPV4
returns-then-x-eq-IPV4 c f p e h = stores-4 _ f p e h _ _ c.if-x-eq-IPV4.true c.put_number.ensures

pub put_word-requires : goal.put_word-requires
put_word-requires c = omega (arith, entry_bytes-6 _ c.if-x-eq-IPV4.false)

pub put_word-requires-2 : goal.put_word-requires-2
put_word-requires-2 c = rw (c.put_word.ensures, length-put) (omega (arith, entry_bytes-6 _ c.if-x-eq-IPV4.false))

pub bounds-out-k-2 : goal.bounds-out-k-2
bounds-out-k-2 c = rw (c.put_word-2.ensures, c.put_word.ensures, length-put, length-put) (omega (arith, entry_bytes-6 _ c.if-x-eq-IPV4.false))

pub shape_of-out : goal.shape_of-out
shape_of-out c = length-6 _ _ _ _ _ _ _ c.put_word.ensures c.put_word-2.ensures

pub returns : goal.returns
returns c f p e h = stores-6 _ f p e h _ _ c.if-x-eq-IPV4.false c.put_word.ensures c.put_word-2.ensures
