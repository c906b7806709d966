-- The calls that read networks from their tail: load, 20, add_range, 29, add_file, 30, remove_file, 31, and lines, 21, each with the words afterwards; and compare, 44, which has no pool.
--
--   span_by c s         the range from the address of the network to the one in front of the tail, hi and then lo
--   ranged_by w c x     the range x is added to set a
--   poured_by x w c s   the file is the tail: its networks are added to set a (x), or removed;  loaded_by: it is loaded
--   load_of w c s       one of these, by the code
--   pieces_of c s       the lines come in two pieces: the first b bytes of the tail, and the rest
--   reader_reply r      where the reading is when it has ended: the refusal, the number of the line, how many bytes of it are kept, how many lines were trimmed
--   lines_of w c s      start, feed with each piece, finish
--   compare_of c s      the tail is two files, of which the first has a bytes, or all where the tail has no more
--   Cut s b p          p cuts the tail of s where b bytes have passed
use Rattle.std.specs.Prelude.{Bool, true, false, cond, List, [], ◌∷◌, ◌≡◌, ℕ, ◌-◌, ◌%◌, ◌≤◌, eqb, length, take, drop}
use Rattle.nets.specs.Networks.{width, net_words}
use Rattle.ranges.specs.Blocks.{add_range_l}
use Rattle.pool_state.specs.Changes.{list_at}
use Rattle.setfile_format.specs.Files.{read_file}
use Rattle.setfile.specs.Loading.{load_rules, file_list}
use Rattle.setfile_compare.specs.Comparing.{compared}
use Rattle.change_many.specs.Calls.{poured_l, file_rules, span_words, range_of, span_rules}
use Rattle.change_many.specs.declared.Span.{Span}
use Rattle.lines.specs.Reading.{all_read}
use Rattle.lines_reader.specs.declared.Reader.{Reader}
use Rattle.calls_bytes.specs.Bytes.{u64_at}
use Rattle.calls_bytes.specs.declared.Call.{Call}
use Rattle.calls_bytes.specs.declared.Reply.{Reply}
use Rattle.calls_replies.specs.Replies.{reply, relisted, compared_reply}

abbrev pub tail_of : List ℕ → List ℕ
tail_of s = drop 35 s

unfoldable pub span_by : Call → List ℕ → Span
span_by c s = span_words c.net.family c.net.hi c.net.lo (u64_at s 35) (u64_at s 43)

abbrev pub ranged_by : List ℕ → Call → Span → Reply × List ℕ
ranged_by w c x = relisted w c.a (span_rules x) (λ S. add_range_l (width S.family) (list_at S c.a) (range_of x))

abbrev pub poured_by : Bool → List ℕ → Call → List ℕ → Reply × List ℕ
poured_by x w c s = let d = read_file (tail_of s) in relisted w c.a (file_rules d) (λ S. poured_l x (list_at S c.a) (file_list d))

abbrev pub loaded_by : List ℕ → Call → List ℕ → Reply × List ℕ
loaded_by w c s = let d = read_file (tail_of s) in relisted w c.a (load_rules d c.a) (λ S. file_list d)

unfoldable pub load_of : List ℕ → Call → List ℕ → Reply × List ℕ
load_of w c s =
    cond (eqb c.code 29) (ranged_by w c (span_by c s))
    (cond (eqb c.code 30) (poured_by true w c s)
    (cond (eqb c.code 31) (poured_by false w c s)
    (loaded_by w c s)))

abbrev pub pieces_of : Call → List ℕ → List (List ℕ)
pieces_of c s = take c.b (tail_of s) ∷ drop c.b (tail_of s) ∷ []

abbrev pub reader_reply : Reader → Reply
reader_reply r = reply r.no false (r.number % 4294967296) r.len (net_words 0 0 r.trimmed 0)

unfoldable pub lines_of : List ℕ → Call → List ℕ → Reply × List ℕ
lines_of w c s = let x = all_read w (pieces_of c s) in (reader_reply x.0, x.1)

unfoldable pub compare_of : Call → List ℕ → Reply
compare_of c s = compared_reply (compared (read_file (take c.a (tail_of s))) (read_file (drop c.a (tail_of s))))

pub record Cut (s : List ℕ) (b p : ℕ) : Type 0 where
  pub low : 35 ≤ p
  pub high : p ≤ length s
  pub first : take (p - 35) (drop 35 s) ≡ take b (tail_of s)
  pub rest : drop p s ≡ drop b (tail_of s)
