use Rattle.std.proofs.Common.{◌+◌, min, get_or, Some, ap, ◌∙◌, refl}
use Rattle.std.specs.Box.{box_value}
use Rattle.parallel_run.specs.declared.process.ProcessState.{ProcessState}
use Rattle.parallel_run.proofs.WorkerRounds.{way_there, bound_here}
use Rattle.parallel_run.proofs.process.Process.bound.Goals as goal

pub returns : goal.returns
returns g c =
    let rounds = c.args.rounds.now in
    let number = (box_value c.args.self.now.state).lines.number in
    let ends = c.round_bound.ensures ∙ ap (λ (state : ProcessState _ _ _). min (c.args.from + get_or rounds.ways.now state.lines.number 0) (rounds.end + 1)) c.deref.ensures in
    bound_here rounds c.requires.rounds (Some c.args.from) c.args.from refl number _ c.round_bound.result (way_there rounds c.requires.rounds number c.requires.own) ends
