-- The trie of networks that come one by one in address order, written in the second form and backward.
--
--   Begins f n s                     n is a network of the family f, and its bits begin with s
--   Before f w b e k                 there is room for k nodes before node e
--   Runs f h d x c q p t ms          the cursors c of the file x are at the networks of the trie t below the path p of d bits, with ms to come behind
--                                    them and q before; the head h is the first of them
--   Grows f w b e h d x c q p t ms   so, and there is room for t before node e
--   Grown f w v b e p t o            v is w with t, which ends before node e and begins at node o
--   Fillable f w b e x l             what writing the trie of a file's list asks
use Rattle.std.specs.Prelude.{◌≡◌, true, false, List, ◌++◌, ℕ, suc, ◌+◌, ◌-◌, ◌≤◌, ◌<◌, length}
use Rattle.nets.specs.Bits.{Bits}
use Rattle.nets.specs.Tries.{Trie, is_none, levels}
use Rattle.nets.specs.Networks.{is_family, width, net_from}
use Rattle.nets.specs.declared.Net.{Net}
use Rattle.nodes.specs.Words.{put}
use Rattle.branch_points.specs.BranchPoints.{kept_nodes_l}
use Rattle.branch_points.specs.KeptTries.{kept_size}
use Rattle.kept_nodes.specs.Words.{kept_enc, spot}
use Rattle.setfile_format.specs.Files.{file, read_file}
use Rattle.setfile_order.specs.declared.Head.{Head}
use Rattle.setfile_below.specs.Stream.{below, outside, Comes}

pub record Begins (f : ℕ) (n : Net) (s : Bits) : Type 0 where
  pub family : is_family f ≡ true
  pub behind : Bits
  pub net : n ≡ net_from f (s ++ behind)
  pub short : length (s ++ behind) ≤ width f

pub record Before (f : ℕ) (w : List ℕ) (b e k : ℕ) : Type 0 where
  pub family : is_family f ≡ true
  pub low : b ≤ 576
  pub few : e ≤ 4194305
  pub long : spot f b e ≤ length w
  pub fits : k < e

pub record Runs (f : ℕ) (h : Head) (d : ℕ) (x c : List ℕ) (q p : Bits) (t : Trie) (ms : List Bits) : Type 0 where
  pub some : is_none t ≡ false
  pub depth : d ≡ length p
  pub deep : length p + levels t ≤ suc (width f)
  pub outside : outside p ms ≡ true
  pub comes : Comes x f c h q (below p t ++ ms)

pub record Grows (f : ℕ) (w : List ℕ) (b e : ℕ) (h : Head) (d : ℕ) (x c : List ℕ) (q p : Bits) (t : Trie) (ms : List Bits) : Type 0 where
  pub runs : Runs f h d x c q p t ms
  pub room : Before f w b e (kept_size t)

pub record Grown (f : ℕ) (w v : List ℕ) (b e : ℕ) (p : Bits) (t : Trie) (o : ℕ) : Type 0 where
  pub start : o ≡ e - kept_size t
  pub wrote : v ≡ put w (spot f b (e - kept_size t)) (kept_enc f p t)

-- the number of nodes does not wrap
abbrev pub few : Trie → Type 0
few t = kept_size t < 4611686018427387904

-- the bytes are the file of the list l, and there is room for its members and branch points before node e
pub record Fillable (f : ℕ) (w : List ℕ) (b e : ℕ) (x : List ℕ) (l : List Bits) : Type 0 where
  pub reads : read_file x ≡ file f l
  pub room : Before f w b e (kept_nodes_l l)
