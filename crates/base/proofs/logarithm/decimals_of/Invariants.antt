use Rattle.std.proofs.Common.{◌≡◌, ◌+◌, ◌≤◌, ◌<◌, ◌^◌, length, get_or}
use Rattle.std.specs.Fmt.{decimal}
use Rattle.base.proofs.logarithm.decimals_of.Given as goal

-- what is left has the same first digit, and as many digits fewer as were taken
abbrev pub invariant-loop-leading : goal.invariant-loop-leading
invariant-loop-leading l = record {
  positive : 1 ≤ l.leading;
  small : l.leading < 2 ^ 32;
  taken : l.following + length (decimal l.leading) ≡ length (decimal l.fn.n);
  few : length (decimal l.fn.n) ≤ 10;
  nonempty : 1 ≤ length (decimal l.leading);
  first : get_or (decimal l.leading) 0 0 ≡ get_or (decimal l.fn.n) 0 0;
}

abbrev pub decreases-loop-leading : goal.decreases-loop-leading
decreases-loop-leading l = l.leading
