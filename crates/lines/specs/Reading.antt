-- What the calls do: the reader and the pool's words after each byte. begun, kept, pushed and stopped are lines_reader's.
--
--   ended w r          the line has ended: its network is added and the next line begins, or the reading ends here
--   stepped w r b      a byte of the input
--   passed w r s       the bytes s, up to the first line that is refused
--   closed w r         the input has ended, and with it a line that lacks its line feed
--   checked w r        a reading that goes on is one on sound words, and ends with 2 on damaged ones
--   fed w r s, finished w r      the calls: the check, and then the bytes, or the end
--   fed_all w r ps      the pieces ps one after the other;  all_read w ps: from the first byte to the end of the input
use Rattle.std.specs.Prelude.{ℕ, ◌+◌, ◌%◌, ◌^◌, cond, List, [], ◌∷◌, ◌==◌}
use Rattle.pool_state.specs.Decode.{decode}
use Rattle.lines_take.specs.Lines.{line_feed, line_no, trimmed_in, words_with, pool_no}
use Rattle.lines_reader.specs.Kept.{begun, kept, pushed, stopped}
use Rattle.lines_reader.specs.declared.Reader.{Reader}

-- by the refusal x of the line, or 0, and t, which is 1 where it was trimmed; numbers go on from 0 behind the largest
abbrev pub ended_as : ℕ → ℕ → Reader → Reader
ended_as x t r =
    cond (x == 0) (record { line = r.line; len = 0; number = (r.number + 1) % 2 ^ 64; trimmed = (r.trimmed + t) % 2 ^ 64; no = x }) (stopped r x)

unfoldable pub ended : List ℕ → Reader → Reader × List ℕ
ended w r = (ended_as (line_no w (kept r)) (trimmed_in (kept r)) r, words_with w (kept r))

abbrev pub stepped : List ℕ → Reader → ℕ → Reader × List ℕ
stepped w r b = cond (b == line_feed) (ended w r) (pushed r b, w)

unfoldable pub passed : List ℕ → Reader → List ℕ → Reader × List ℕ
passed w r [] = (r, w)
passed w r (b ∷ s) = cond (r.no == 0) (let x = stepped w r b in passed x.1 x.0 s) (r, w)

unfoldable pub closed : List ℕ → Reader → Reader × List ℕ
closed w r = cond (r.no == 0) (cond (r.len == 0) (r, w) (ended w r)) (r, w)

unfoldable pub checked : List ℕ → Reader → Reader
checked w r = cond (r.no == 0) (stopped r (pool_no (decode w))) r

unfoldable pub fed : List ℕ → Reader → List ℕ → Reader × List ℕ
fed w r s = passed w (checked w r) s

unfoldable pub finished : List ℕ → Reader → Reader × List ℕ
finished w r = closed w (checked w r)

unfoldable pub fed_all : List ℕ → Reader → List (List ℕ) → Reader × List ℕ
fed_all w r [] = (r, w)
fed_all w r (p ∷ ps) = let x = fed w r p in fed_all x.1 x.0 ps

abbrev pub all_read : List ℕ → List (List ℕ) → Reader × List ℕ
all_read w ps = let x = fed_all w begun ps in finished x.1 x.0
