use Rattle.std.proofs.Common.{◌≤◌, ◌∙◌, sym, arith}
use Rattle.member.proofs.Groups.{same_start}
use Rattle.member.proofs.join.end_of_run.Goals as goal

pub returns-then-group_number-clause-same : goal.returns-then-group_number-clause-same
returns-then-group_number-clause-same c = λ k low below.
    let s = c.args.scenario.now in
    let within : k ≤ c.min-last.result = omega (arith, below) in
    same_start s c.args.first k c.min-last.result low within (sym c.group_number.ensures ∙ c.if-group_number.true ∙ c.group_number-2.ensures)
