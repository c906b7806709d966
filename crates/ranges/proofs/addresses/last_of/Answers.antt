-- `addresses::last_of` meets its contract: the bits that are set all stand in the low word, or are all of it and the rest in the high one. Assumes nothing.
use Rattle.std.proofs.Common.{◌≡◌, ℕ, ◌+◌, ◌-◌, ◌^◌, ◌<◌, ◌≤◌, length, ap, ◌∙◌, arith}
use Rattle.nets.specs.Bits.{Bits}
use Rattle.nets.specs.declared.Net.{Net}
use Rattle.nets.specs.Networks.{width, net_from}
use Rattle.nets.proofs.Numbers.{width-le}
use Rattle.ranges.proofs.Words.{net-is, net-behind, last_fits, last-low, last-high-fits, last-high}
use Rattle.ranges.proofs.addresses.last_of.Goals as goal

behind : (n : Net) (w f : ℕ) (p : Bits) → w ≡ width n.family → n ≡ net_from f p → length p ≤ width f → w - n.len ≡ width f - length p
behind n w f p a e h = ap (λ k. k - n.len) a ∙ net-behind n f p e h

-- how many bits are set, below 64 and from there on
low : (n : Net) (w f o : ℕ) (p : Bits) → w ≡ width n.family → n ≡ net_from f p → length p ≤ width f → w - n.len < 64 → o ≡ 2 ^ (w - n.len) - 1
    → (width f - length p ≤ 64) × (o ≡ 2 ^ (width f - length p) - 1)
low n w f o p a e h l k = let q = behind n w f p a e h in (omega arith, k ∙ ap (λ k. 2 ^ k - 1) q)

high : (n : Net) (w f o : ℕ) (p : Bits) → w ≡ width n.family → n ≡ net_from f p → length p ≤ width f → 64 ≤ w - n.len → o ≡ 2 ^ (w - n.len - 64) - 1
    → (j : ℕ) × (width f - length p ≡ j + 64) × (o ≡ 2 ^ j - 1)
high n w f o p a e h l k = let q = behind n w f p a e h in (w - n.len - 64, omega arith, k)

pub overflow_sub-k : goal.overflow_sub-k
overflow_sub-k c = let i = net-is c.args.n c.requires.0 c.requires.1 c.requires.2 c.requires.3 in omega (arith, i.0, ap width i.1, c.requires.3, c.width.ensures)

pub overflow_add-result : goal.overflow_add-result
overflow_add-result c = let o = low c.args.n _ c.requires.0 _ c.requires.1 c.width.ensures c.requires.2 c.requires.3 c.if-k-lt64.true c.ones.ensures in
    record { fits = rw o.1 (last_fits c.args.n c.requires.0 c.requires.1 c.requires.2 c.requires.3 o.0) }

pub returns-then-k-lt64 : goal.returns-then-k-lt64
returns-then-k-lt64 c f p e h = let o = low c.args.n _ f _ p c.width.ensures e h c.if-k-lt64.true c.ones.ensures in rw o.1 (last-low c.args.n f p e h o.0)

pub ones-requires-2 : goal.ones-requires-2
ones-requires-2 c = omega (arith, width-le c.args.n.family, c.width.ensures)

pub overflow_add-result-2 : goal.overflow_add-result-2
overflow_add-result-2 c = let o = high c.args.n _ c.requires.0 _ c.requires.1 c.width.ensures c.requires.2 c.requires.3 c.if-k-lt64.false c.ones-2.ensures in
    record { fits = rw o.2 (last-high-fits c.args.n c.requires.0 c.requires.1 c.requires.2 c.requires.3 o.0 o.1) }

pub returns : goal.returns
returns c f p e h = let o = high c.args.n _ f _ p c.width.ensures e h c.if-k-lt64.false c.ones-2.ensures in rw o.2 (last-high c.args.n f p e h o.0 o.1)
