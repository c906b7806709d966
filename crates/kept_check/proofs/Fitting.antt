-- The tests at a node by those of the code. Assumes nothing.
use mathlib.Core.Path.{◌≡◌, sym, ap, ◌∙◌}
use mathlib.Core.Bool.{Bool, true, false}
use mathlib.Core.List.{List}
use Prim.Native.Nat.{ℕ, ◌≤◌, ◌<◌}
use native.Mathlib.Omega.{arith}
use borrow.Author.Tests.{eq-eqb, ne_eqb, le-leb, lt-leb}
use Rattle.nets.specs.Bits.{leads}
use Rattle.nets.specs.Networks.{net_bits}
use Rattle.nets.specs.declared.Net.{Net}
use Rattle.trie_paths.specs.Spans.{snoc}
use Rattle.kept_nodes.specs.Parse.{KeptRoom, net_at, string_at, is_node, fits}
use Rattle.kept_nodes.proofs.NodeWords.{node-short, node-length}
use Rattle.kept_reading.specs.NodeStrings.{Both, ReadAs}
use Rattle.kept_reading.proofs.Found.{read-family, read-len, read-string}
use Rattle.kept_check.specs.Turns.{below, Above}

module _ (f : ℕ) (w : List ℕ) (b n up : ℕ) (c : Bool) (i : ℕ) where
  pub fits-past : n < i → false ≡ fits f w b n (below f w b up c) i
  unfolding fits
  fits-past lt = rw (lt-leb i n lt)

  pub fits_not : i ≤ n → is_node f w b i ≡ false → false ≡ fits f w b n (below f w b up c) i
  unfolding fits
  fits_not le e = rw (le-leb i n le, e)

  pub fits-root : i ≤ n → is_node f w b i ≡ true → up ≡ 0 → true ≡ fits f w b n (below f w b up c) i
  unfolding fits below
  fits-root le e z = rw (le-leb i n le, e, eq-eqb up 0 z)

  fits-child : i ≤ n → is_node f w b i ≡ true → (up ≡ 0 → ⊥) → leads (snoc (net_bits (net_at f w b up)) c) (net_bits (net_at f w b i)) ≡ fits f w b n (below f w b up c) i
  unfolding fits below string_at
  fits-child le e nz = rw (le-leb i n le, e, ne_eqb up 0 nz)

-- the strings of a node and of one whose child it may be, read
module _ {f : ℕ} {w : List ℕ} {b n : ℕ} (room : KeptRoom f w b n) {up i : ℕ} {p q : Net} (above : Above f w b n up) (nz : up ≡ 0 → ⊥) (node : is_node f w b i ≡ true)
    (g : ReadAs f w b up p) (h : ReadAs f w b i q) where
  pub both_read : Both p q
  both_read = record {
    family = read-family room g ∙ sym (read-family room h);
    first = read-string room g (omega (arith, above.short nz, read-len room g));
    second = read-string room h (omega (arith, node-short f w b i node, node-length f w b i node, read-len room h));
  }

  pub read-child : (c : Bool) (y : Bool) → i ≤ n → y ≡ leads (snoc (net_bits p) c) (net_bits q) → y ≡ fits f w b n (below f w b up c) i
  read-child c y le e = e ∙ ap (λ z. leads (snoc (net_bits z) c) (net_bits q)) g.is ∙ ap (λ z. leads (snoc (net_bits (net_at f w b up)) c) (net_bits z)) h.is
      ∙ fits-child f w b n up c i le node nz
