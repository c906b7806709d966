-- `member` meets its contract: the network of the member's length is granted. Assumes nothing.
use borrow.Author.Rules.{rules}
use Rattle.nets.proofs.Answers.{taken-network}
use Rattle.lookup.proofs.Asked.{taken-granted}
use Rattle.lookup.proofs.member.Goals as goal

pub returns : goal.returns
returns c = let h = taken-network _ _ _ _ c.with_new_prefix.ensures c.in_ok-m.was in
    rw (c.has_bit_past.ensures, h.1)

pub returns-in_err-m : goal.returns-in_err-m
returns-in_err-m c = absurd (taken-granted _ _ _ c.with_new_prefix.ensures c.requires _ c.in_err-m.was)
