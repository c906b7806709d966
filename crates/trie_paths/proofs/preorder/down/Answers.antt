-- `preorder::down` meets its contract. Assumes nothing.
use Rattle.trie_paths.proofs.preorder.down.Goals as goal

pub returns : goal.returns
returns c f p e = let z = c.second-z.ensures f p e in
    record { wrote = rw (← z) c.put_row.ensures; half = c.half.ensures f p e z }
