-- A reading: of the line that is being read the first 50 bytes are kept.
--
--   begun              before the first byte
--   kept r             the bytes kept of the line
--   pushed r b         one byte more of the line;  pushed_all r s: the bytes s, one after the other
--   stopped r x        the reading ends with the refusal x
use Rattle.std.specs.Prelude.{cond, List, [], ◌∷◌, ℕ, ◌+◌, ltb, take, set, replicate}
use Rattle.lines_reader.specs.declared.Reader.{Reader}

abbrev pub places : ℕ
places = 50

abbrev pub begun : Reader
begun = record { line = replicate places 0; len = 0; number = 1; trimmed = 0; no = 0 }

abbrev pub kept : Reader → List ℕ
kept r = take r.len r.line

unfoldable pub pushed : Reader → ℕ → Reader
pushed r b = cond (ltb r.len places) (record { line = set r.line r.len b; len = r.len + 1; number = r.number; trimmed = r.trimmed; no = r.no }) r

unfoldable pub pushed_all : Reader → List ℕ → Reader
pushed_all r [] = r
pushed_all r (b ∷ s) = pushed_all (pushed r b) s

abbrev pub stopped : Reader → ℕ → Reader
stopped r x = record { line = r.line; len = r.len; number = r.number; trimmed = r.trimmed; no = x }
