-- `blocks::end_all` meets its contract. The loop's invariant: what is written are the answers up to a. Assumes nothing.
use mathlib.Core.Path.{◌≡◌, ap, sym, ◌∙◌}
use Prim.Native.Nat.{◌+◌, ◌-◌, ◌≤◌}
use native.Mathlib.Omega.{arith}
use borrow.Author.Rules.{rules}
use lib.ListN.{length}
use Rattle.nodes.specs.Words.{put}
use Rattle.nodes.proofs.Put.{length-put}
use Rattle.trie_index.specs.Index.{fill}
use Rattle.lookup_many.specs.Rules.{asked_of}
use Rattle.lookup_many.proofs.Rows.{fill_none, fill-two}
use Rattle.lookup_many.proofs.blocks.end_all.Given as goal

abbrev pub invariant-loop-a : goal.invariant-loop-a
invariant-loop-a l = (l.a ≤ l.e) × (l.answers ≡ put l.initial.answers l.i (fill (asked_of l.w l.set l.family l.queries) l.i l.a))
