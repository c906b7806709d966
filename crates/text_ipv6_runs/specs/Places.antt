-- What the functions say of places in bytes: the piece that stands there, the groups that were read.
--
--   piece_as s p        what the answer p found in the bytes s
--   is_open d, is_quad d   a piece may follow where the run stands so;  a quad ended it
--   groups_of r         the groups of the run r;  ran_as s r: the run in the bytes s
--   left_of s r         what becomes of the run r: it goes on, where a piece may follow
--   Fits r             its groups have eight places
--   turns_of r          how many turns may still come
--   Stepped s r t      t is r with one turn done
use Rattle.std.specs.Prelude.{Bool, true, false, cond, List, ◌≡◌, ℕ, ◌-◌, ◌≤◌, ◌<◌, length, take, drop, Option, Some, None}
use Rattle.text_ipv6_runs.specs.Runs.{Piece, group, quad, none, Ran, ran, run_from}
use Rattle.text_ipv6_runs.specs.declared.pieces.Found.{Found}
use Rattle.text_ipv6_runs.specs.declared.pieces.Found.TheVariants.{Group, Quad}
use Rattle.text_ipv6_runs.specs.declared.runs.Run.{Run}
use Rattle.text_ipv6_runs.specs.declared.runs.Stand.{Stand}
use Rattle.text_ipv6_runs.specs.declared.runs.Stand.TheVariants as stands

abbrev pub piece_as : List ℕ → Option Found → Piece
piece_as s (Some (Group x at)) = group x (drop at s)
piece_as s (Some (Quad v at)) = quad v (drop at s)
piece_as s None = none

abbrev pub is_open : Stand → Bool
is_open stands.Open = true
is_open stands.Ended = false
is_open stands.Quad = false

abbrev pub is_quad : Stand → Bool
is_quad stands.Open = false
is_quad stands.Ended = false
is_quad stands.Quad = true

abbrev pub run_words : List ℕ → ℕ → Stand → ℕ → Run
run_words xs k d at = record { groups = xs; count = k; stand = d; at = at }

abbrev pub groups_of : Run → List ℕ
groups_of r = take r.count r.groups

abbrev pub ran_as : List ℕ → Run → Ran
ran_as s r = ran (groups_of r) (is_quad r.stand) (drop r.at s)

unfoldable pub left_of : List ℕ → Run → Ran
left_of s r = cond (is_open r.stand) (run_from (8 - r.count) (groups_of r) (drop r.at s)) (ran_as s r)

pub record Fits (r : Run) : Type 0 where
  pub places : length r.groups ≡ 8
  pub within : r.count ≤ 8

unfoldable pub turns_of : Run → ℕ
turns_of r = cond (is_open r.stand) (9 - r.count) 0

pub record Stepped (s : List ℕ) (r t : Run) : Type 0 where
  pub fits : Fits t
  pub left : left_of s t ≡ left_of s r
  pub less : turns_of t < turns_of r
