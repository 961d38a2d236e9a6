use Rattle.std.proofs.Common.{◌≤◌, ◌*◌}
use Rattle.sweep_command.proofs.progressing.Printed.print_up_to.Given as goal

-- the lines so far have been passed, and none went back
abbrev pub invariant-loop-before : goal.invariant-loop-before
invariant-loop-before g l = record {
  reached : l.before * 2 ≤ l.self.percent;
  rises : l.fn.self.percent ≤ l.self.percent;
}
