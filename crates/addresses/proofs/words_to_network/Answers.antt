-- `words_to_network` meets its contract: it is `Net::new` at the width of the family. Assumes nothing.
use Rattle.addresses.proofs.words_to_network.Goals as goal

pub returns : goal.returns
returns c = rw (← c.width.ensures) c.new.ensures
