-- `writing::put_word` meets its contract: its bytes are one write. Assumes nothing.
use mathlib.Core.Path.{◌≡◌, ◌∙◌}
use Prim.Native.Nat.{◌+◌, ◌-◌}
use native.Mathlib.Omega.{arith}
use Rattle.setfile_format.specs.Files.{bytes_of}
use Rattle.setfile_format.proofs.Bytes.{length-bytes_of}
use Rattle.setfile_put.proofs.Stores.{put-spliced, bytes-word}
use Rattle.setfile_put.proofs.writing.put_word.Goals as goal

pub returns : goal.returns
returns c = let a = c.args in
    let n : a.at + 8 - a.at ≡ 8 = omega arith in
    let e : c.copy_from_slice.new.self ≡ bytes_of 8 a.x = c.copy_from_slice.ensures.after ∙ c.to_be_bytes.ensures ∙ bytes-word a.x in
    rw (n, e) (rw (length-bytes_of 8 a.x) at (put-spliced a.out.now a.at (bytes_of 8 a.x) (rw (length-bytes_of 8 a.x) c.requires)))
