use Rattle.std.proofs.Common.{◌≡◌, ◌+◌, ◌*◌, ◌/◌, ◌≤◌, ◌<◌, ◌^◌, length}
use Rattle.std.specs.Fmt.{decimal}
use Rattle.base.proofs.logarithm.three_leading_of.Given as goal

-- what is left is a tenth for each digit that was taken, and but for its last two digits as many digits fewer
abbrev pub invariant-loop-digits : goal.invariant-loop-digits
invariant-loop-digits l = record {
  least : 100 ≤ l.digits;
  small : l.digits < 2 ^ 39;
  taken : l.following + length (decimal (l.digits / 100)) ≡ length (decimal l.fn.n);
  few : length (decimal l.fn.n) ≤ 10;
  nonempty : 1 ≤ length (decimal (l.digits / 100));
  left : l.digits ≡ l.fn.n * 100 / 10 ^ l.following;
}

abbrev pub decreases-loop-digits : goal.decreases-loop-digits
decreases-loop-digits l = l.digits
