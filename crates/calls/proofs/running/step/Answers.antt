-- `running::step` meets its contract: the answer stands before its tail. Assumes nothing.
use Rattle.calls.proofs.Done.{stepped-is}
use borrow.Author.Rules.{rules}
use Rattle.calls.proofs.running.step.Goals as goal

pub returns : goal.returns
returns c = stepped-is c.args.to c.answer-r.ensures c.put_reply.ensures
