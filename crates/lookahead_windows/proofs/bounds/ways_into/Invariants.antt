use Rattle.std.proofs.Common.{◌≡◌, vec_len}
use Rattle.lookahead_windows.specs.Walks.{AreRoundWays}
use Rattle.lookahead_windows.proofs.bounds.ways_into.Given as goal

abbrev pub invariant-loop-to : goal.invariant-loop-to
invariant-loop-to l = record {
  count : vec_len l.ways ≡ l.to;
  are : AreRoundWays l.scenario l.walks l.ways.items;
}
