-- `groups::of` meets its contract: the groups of an address are the four of each word. Assumes nothing.
use native.Mathlib.Omega.{arith}
use Rattle.text_ipv6_write.proofs.Words.{groups_of-words}
use Rattle.text_ipv6_write.proofs.groups.of.Goals as goal

pub returns : goal.returns
returns c = rw (groups_of-words c.args.net.hi c.args.net.lo (omega arith))
    (rw (
      c.group.ensures,
      c.group-2.ensures,
      c.group-3.ensures,
      c.group-4.ensures,
      c.group-5.ensures,
      c.group-6.ensures,
      c.group-7.ensures,
      c.group-8.ensures,
    ))
