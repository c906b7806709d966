-- `words::less` meets its contract: the high words decide, where they differ. Assumes nothing.
use Rattle.std.proofs.Common.{arith, ◌≡◌, ltb}
use Rattle.std.proofs.lemmas.Grind.{common_steps}
use Rattle.setfile_sides.proofs.AddressWords.{less-words}
use Rattle.setfile_sides.proofs.words.less.Goals as goal

pub returns : goal.returns
returns c = let a = c.args.a in
    let b = c.args.b in
    let low : a.hi ≡ b.hi → c.lt.result ≡ ltb a.lo b.lo = λ e. grind (arith, common_steps, e) in
    let high : (a.hi ≡ b.hi → ⊥) → c.lt.result ≡ ltb a.hi b.hi = λ n. grind (arith, common_steps, n) in
    less-words a.hi a.lo b.hi b.lo (omega arith) (omega arith) low high
