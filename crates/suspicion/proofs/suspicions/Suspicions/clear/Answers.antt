use Rattle.std.proofs.Common.{ap, ◌∙◌}
use Rattle.std.specs.FinMap.{remove}
use Rattle.suspicion.proofs.Entries.{held_of-remove}
use Rattle.suspicion.proofs.suspicions.Suspicions.clear.Goals as goal

pub returns : goal.returns
returns c =
    held_of-remove c.self.inside.standing.entries _ _ c.remove-ended.ensures.updates.0
    ∙ ap (λ held. remove held c.args.subject) c.self.view_is
