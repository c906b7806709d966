-- `networks::sixteen` meets its contract. Assumes nothing.
use Rattle.calls_bytes.specs.Tails.{words_from}
use Rattle.calls_networks.specs.Networks.{bytes_of}
use borrow.Author.Rules.{rules}
use Rattle.calls_networks.proofs.sixteen.Goals as goal

pub returns : goal.returns
unfolding words_from bytes_of
returns c = cc
