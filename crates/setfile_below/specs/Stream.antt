-- The networks of a file below a path, which the stream gives one behind the other.
--
--   below p t           the networks of the trie t, as it is below the path p, in address order
--   last_of q ms         the last of the networks ms that come behind q
--   outside p ms        the first of ms is not below p
--   Under s q p t ms    s is at the networks of t below p, with ms to come behind them and q before
--   Comes d f c h q ms  the cursors c of the file d have ms still to give, and h is the head of them, behind q
--   At d c s q p t ms   both of s
use Rattle.std.specs.Prelude.{Bool, true, not, List, [], ◌∷◌, ◌++◌, map, ◌≡◌, ℕ, suc, ◌+◌, ◌≤◌, length}
use Rattle.nets.specs.Bits.{Bits, leads}
use Rattle.nets.specs.Tries.{Trie, is_none, levels}
use Rattle.nets.specs.Networks.{width}
use Rattle.address_order.specs.Streams.{flat}
use Rattle.setfile_order.specs.Flow.{head_as, Flow}
use Rattle.setfile_order.specs.declared.Head.{Head}
use Rattle.setfile_below.specs.declared.Below.{Below}

unfoldable pub below : Bits → Trie → List Bits
below p t = map (λ q. p ++ q) (flat t)

unfoldable pub last_of : Bits → List Bits → Bits
last_of q [] = q
last_of q (m ∷ ms) = last_of m ms

abbrev pub outside : Bits → List Bits → Bool
outside p [] = true
outside p (m ∷ ms) = not (leads p m)

pub record Under (s : Below) (q p : Bits) (t : Trie) (ms : List Bits) : Type 0 where
  pub head : s.head ≡ head_as s.family q (below p t ++ ms)
  pub depth : s.depth ≡ length p
  pub some : s.some ≡ not (is_none t)
  pub deep : length p + levels t ≤ suc (width s.family)
  pub outside : outside p ms ≡ true

pub record Comes (d : List ℕ) (f : ℕ) (c : List ℕ) (h : Head) (q : Bits) (ms : List Bits) : Type 0 where
  pub flow : Flow d f c ms
  pub head : h ≡ head_as f q ms

pub record At (d c : List ℕ) (s : Below) (q p : Bits) (t : Trie) (ms : List Bits) : Type 0 where
  pub under : Under s q p t ms
  pub flow : Flow d s.family c (below p t ++ ms)
