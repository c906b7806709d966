-- Writing a node of the second form, and moving nodes.
use Rattle.std.specs.Prelude.{List, ◌≡◌, ℕ, ◌+◌, ◌*◌, ◌≤◌, ◌<◌, length}
use Rattle.nets.specs.Bits.{Bits}
use Rattle.nets.specs.Networks.{width, net_from}
use Rattle.nets.specs.declared.Net.{Net}
use Rattle.nodes.specs.Words.{put}
use Rattle.kept_nodes.specs.Words.{stride, node_words, spot}

-- there is room for node i, and the numbers are small
pub record Writable (f : ℕ) (w : List ℕ) (b i d : ℕ) : Type 0 where
  pub one : 1 ≤ i
  pub fits : spot f b i + stride f ≤ length w
  pub low : b < 1073741824
  pub few : i < 1073741824
  pub near : d < 16777216

-- k nodes from i on, and as many from o on, are there, and the numbers are small
pub record Movable (f : ℕ) (w : List ℕ) (b i o k : ℕ) : Type 0 where
  pub one : 1 ≤ i
  pub to_one : 1 ≤ o
  pub fits : spot f b i + stride f * k ≤ length w
  pub to-fits : spot f b o + stride f * k ≤ length w
  pub low : b < 1073741824
  pub few : i < 1073741824
  pub to-few : o < 1073741824
  pub some : k < 1073741824

-- v is w with node i, whatever string s is
abbrev pub Writes : ℕ → List ℕ → List ℕ → ℕ → ℕ → Net → ℕ → Type 0
Writes f w v b i s d = (p : Bits) → s ≡ net_from f p → length p ≤ width f → v ≡ put w (spot f b i) (node_words f p d)
