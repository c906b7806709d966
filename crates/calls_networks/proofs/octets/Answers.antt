-- `networks::octets` meets its contract. Assumes nothing.
use Rattle.calls_bytes.specs.Tails.{words_from}
use Rattle.calls_networks.specs.Networks.{octets_of}
use borrow.Author.Rules.{rules}
use Rattle.calls_networks.proofs.octets.Goals as goal

pub returns : goal.returns
unfolding words_from octets_of
returns c = cc
