-- What writing an entry asks and leaves: no public contract speaks of it.
use Rattle.std.specs.Prelude.{◌≡◌, List, ℕ, ◌≤◌, length}
use Rattle.nets.specs.Bits.{Bits}
use Rattle.nets.specs.Networks.{width, net_from}
use Rattle.nets.specs.declared.Net.{Net}
use Rattle.nodes.specs.Words.{put}
use Rattle.setfile_format.specs.Files.{entry_of}

-- x is a network of its family
abbrev pub Entry : Net → Type 0
Entry x = (f : ℕ) × (p : Bits) × (x ≡ net_from f p) × (length p ≤ width f)

-- the entry of x is written over v from the byte k on, and leaves u
abbrev pub EntryPut : List ℕ → ℕ → Net → List ℕ → Type 0
EntryPut v k x u = (f : ℕ) (p : Bits) → x ≡ net_from f p → length p ≤ width f → u ≡ put v k (entry_of f p)
