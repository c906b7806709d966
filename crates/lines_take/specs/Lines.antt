-- Lines of networks: each is ended by a line feed, which the last may lack, and is added to set 0 of a pool.
--
--   lines_of s          the lines of the input s
--   line_no w l         the refusal that the line l gets where the pool's words are w: 4 for no network of either family, then that of adding the network, which is 6 for
--                      one of another family than the pool's; 0 where it is added
--   words_with w l      the words afterwards
--   trimmed_in l        1 where a set bit past the length of its network is cut, else 0
--   taken k c w ls     the lines ls, the first of them number k, taken one after the other from the words w on, up to the first that is refused: its number and
--                      its refusal, and the words before it; where none is refused the number behind the last line, 0, and the words with all of them. Of
--                      the lines before number k c were trimmed, and those of ls that are taken are counted on
--   pool_no d           the refusal of every reading into a damaged pool, or 0
--   all_taken w ls      the lines ls of a whole input: none is taken where the words w are damaged
--   with_nets l ns      the list that set 0 then has, if it had l and the networks ns are added;  with_lines l ls: those of the lines ls
use Rattle.std.specs.Prelude.{cond, List, [], ◌∷◌, ℕ, ◌+◌, eqb}
use Rattle.nets.specs.Bits.{Bits}
use Rattle.nets.specs.Lists.{add_l}
use Rattle.nets.specs.Networks.{net_bits}
use Rattle.nets.specs.declared.Net.{Net}
use Rattle.text_either.specs.Either.{read_either, entered_either}
use Rattle.pool_state.specs.Decode.{Decoded, damaged, sound, decode}
use Rattle.pool_state.specs.Changes.{change_rule, words_after, relist_rules, relist_set, net_rules}
use Rattle.change_ask.specs.Calls.{list_with}

abbrev pub line_feed : ℕ
line_feed = 10

-- the byte b in front of the first line
abbrev pub in_front : ℕ → List (List ℕ) → List (List ℕ)
in_front b [] = (b ∷ []) ∷ []
in_front b (l ∷ ls) = (b ∷ l) ∷ ls

unfoldable pub lines_of : List ℕ → List (List ℕ)
lines_of [] = []
lines_of (b ∷ s) = let ls = lines_of s in cond (eqb b line_feed) ([] ∷ ls) (in_front b ls)

-- the number and the words of adding a network to set 0
abbrev pub add_no : List ℕ → Net → ℕ
add_no w n = (change_rule (decode w) 0 (relist_rules 0 (net_rules n) (list_with 0 n)) (relist_set 0 (list_with 0 n))).0

abbrev pub add_words : List ℕ → Net → List ℕ
add_words w n = words_after w (decode w) 0 (relist_rules 0 (net_rules n) (list_with 0 n)) (relist_set 0 (list_with 0 n))

unfoldable pub line_no : List ℕ → List ℕ → ℕ
line_no w l = let r = read_either l in cond (eqb r.0 0) (add_no w r.1) r.0

-- 1 where taking in the network of the line cuts a set bit past its length, else 0
unfoldable pub trimmed_in : List ℕ → ℕ
trimmed_in l = cond (entered_either l).1.1 1 0

unfoldable pub words_with : List ℕ → List ℕ → List ℕ
words_with w l = let r = read_either l in cond (eqb r.0 0) (add_words w r.1) w

pub record Result : Type 0 where
  pub number : ℕ
  pub trimmed : ℕ
  pub no : ℕ
  pub words : List ℕ

unfoldable pub taken : ℕ → ℕ → List ℕ → List (List ℕ) → Result
taken k c w [] = record { number = k; trimmed = c; no = 0; words = w }
taken k c w (l ∷ ls) =
    cond (eqb (line_no w l) 0) (taken (k + 1) (c + trimmed_in l) (words_with w l) ls) (record { number = k; trimmed = c; no = line_no w l; words = w })

abbrev pub pool_no : Decoded → ℕ
pool_no damaged = 2
pool_no (sound S) = 0

unfoldable pub all_taken : List ℕ → List (List ℕ) → Result
all_taken w ls = let x = pool_no (decode w) in cond (eqb x 0) (taken 1 0 w ls) (record { number = 1; trimmed = 0; no = x; words = w })

-- the list l with the networks ns added, one after the other;  the networks of the lines ls
unfoldable pub with_nets : List Bits → List Net → List Bits
with_nets l [] = l
with_nets l (n ∷ ns) = with_nets (add_l l (net_bits n)) ns

abbrev pub nets_of : List (List ℕ) → List Net
nets_of [] = []
nets_of (l ∷ ls) = (read_either l).1 ∷ nets_of ls

abbrev pub with_lines : List Bits → List (List ℕ) → List Bits
with_lines l ls = with_nets l (nets_of ls)
