use Rattle.std.proofs.Common.{◌≡◌, ℕ, List, Option}
use Rattle.trace.specs.contracts.row.RowOrd.TheImpl.{ghosts}
use Rattle.drive_world.specs.UnderWay.{IsUnderWay}
use Rattle.drive_world.specs.Ends.{HasTaken}
use Rattle.drive_world.proofs.driving.play.Given as goal

-- the drive is under way, and its first rows were handed on
abbrev pub invariant-loop-turn : goal.invariant-loop-turn
invariant-loop-turn g l = record {
  under : IsUnderWay ghosts.cmp l.setting.scenario.now l.setting.least_delay l.world (g.H.Harness.told l.harness) (g.H.Harness.gave l.harness) l.tallies;
  taken : (first : Option (List ℕ)) → HasTaken l.setting.scenario.now first (g.T.RowSink.held l.fn.place) l.fn.tallies → HasTaken l.setting.scenario.now first (g.T.RowSink.held l.place) l.tallies;
  gathered : g.T.RowSink.gathered l.place l.setting.scenario.now l.tallies;
  failed : g.T.RowSink.failed l.place ≡ g.T.RowSink.failed l.fn.place;
}
