use Rattle.std.proofs.Common.{ℕ, List}
use Rattle.trace.specs.declared.row.Row.{Row}
use Rattle.trace.specs.contracts.row.RowOrd.TheImpl.{ghosts}
use Rattle.drive_world.specs.Turns.{IsOnWay}
use Rattle.drive_world.specs.UnderWay.{IsUnderWay}
use Rattle.drive_world.proofs.early.go_on_untold.Given as goal

-- the drive is under way, as if the harness had been sent some lines
abbrev pub invariant-loop-turn : goal.invariant-loop-turn
invariant-loop-turn l = record {
  way : IsOnWay l.setting.scenario.now l.world;
  under : (told : List ℕ) (gave : List (List ℕ)) (written : List Row) → IsUnderWay ghosts.cmp l.setting.scenario.now l.setting.least_delay l.fn.world told gave written
      → (lines : List ℕ) × IsUnderWay ghosts.cmp l.setting.scenario.now l.setting.least_delay l.world lines gave written;
}
