-- `walking::lookup` meets its contract: what `root` refuses is refused, and else the query is asked. Assumes nothing.
use mathlib.Core.Path.{◌∙◌}
use borrow.Author.Rules.{rules}
use Rattle.lookup.proofs.Asked.{root-header, root-known, lookup-root, lookup-refused}
use Rattle.lookup.proofs.walking.lookup.Goals as goal

pub query-requires : goal.query-requires
query-requires c = let r = c.root-a.ensures in
    (root-header _ _ _ r _ c.in-Ok.is, root-known _ _ _ r _ c.in-Ok.is)

pub returns-in-Ok : goal.returns-in-Ok
returns-in-Ok c = c.query.ensures ∙ lookup-root _ _ _ c.root-a.ensures _ c.in-Ok.is _

pub returns-in-Err : goal.returns-in-Err
returns-in-Err c = lookup-refused _ _ _ c.root-a.ensures _ _ c.in-Err.is
