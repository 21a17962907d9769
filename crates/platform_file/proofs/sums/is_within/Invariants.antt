use Rattle.std.proofs.Common.{◌≡◌, drop, sum, nat_le}
use Rattle.platform_file.proofs.sums.is_within.Given as goal

abbrev pub invariant-loop-number : goal.invariant-loop-number
invariant-loop-number l = nat_le (sum (drop l.number-index l.numbers)) l.left ≡ nat_le (sum l.numbers) l.limit
